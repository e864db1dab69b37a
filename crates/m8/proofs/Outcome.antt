-- The promise by what the code found: a refusal, which writes nothing, or the records.
use Rattle.std.specs.Prelude.{ℕ, ◌+◌, ◌*◌, ◌≤◌, ◌<◌, ◌≡◌, refl, length}
use Rattle.std.proofs.Common.{◌∙◌, arith, sym, ap, List, [], map}
use Rattle.laws.specs.Choice.{on_eq, off_eq, on_lt, off_lt}
use Rattle.laws.specs.Steps.{empty}
use Rattle.structure.specs.Walk.{structure_of}
use Rattle.structure.specs.Shape.{Fits}
use Rattle.judge.specs.Records.{joined}
use Rattle.forwarding.specs.Put.{put, put_none}
use Rattle.forwarding.specs.Noted.{Noted}
use Rattle.sorting.specs.Kept.{t_records, rule_in, returned_in}
use Rattle.sorting.specs.Sorted.{goes_on, sort_of}
use Rattle.sorting.specs.Lists.{counts_add}
use Rattle.sorting.specs.Frame.{fit, records_count}
use Rattle.sorting.proofs.Goes.{GoesOn, goes}
use Rattle.sorting.specs.declared.Sorted.{Sorted}
use Rattle.m8.specs.Filed.{record_in, records_of, not_filed, filed, filed_by, filed_of, FiledAs}
use Rattle.m8.specs.Course.{Room}
use Rattle.m8.specs.declared.Filed.{Filed}

module _ (page : ℕ) (file transfer cheque codes out : List ℕ) {s : Sorted} (e : s ≡ sort_of page file transfer cheque) where
  by_sorted : filed_by s codes out ≡ filed_of page file transfer cheque codes out
  unfolding filed_of
  by_sorted = ap (λ (s : Sorted). filed_by s codes out) e

  refuses : {r : Filed} → r ≡ filed_by s codes out → (r.number ≡ 0 → ⊥) → FiledAs page file transfer cheque codes out r out
  refuses p f = record { answer_is = p ∙ by_sorted; out_is = off_eq _ f refl }

  pub sort_refused : {r : Filed} → (s.number ≡ 0 → ⊥) → r ≡ not_filed s.number s.rec → FiledAs page file transfer cheque codes out r out
  sort_refused f p = refuses (off_eq _ f p) (λ y. f (sym (ap (λ (r : Filed). r.number) p) ∙ y))

  module _ (z : s.number ≡ 0) where
    on : (n : ℕ) × GoesOn page file transfer cheque n
    on = goes page file transfer cheque (sym (ap (λ (s : Sorted). s.number) e) ∙ z)

    is : s ≡ goes_on page file transfer cheque
    is = e ∙ on.1.answer

    returned_is : s.payments.returned ≡ length (returned_in page file transfer cheque)
    returned_is = ap (λ (s : Sorted). s.payments.returned) is

    all : s.payments.kept + s.payments.returned ≡ on.0
    all =
        omega (arith, ap (λ (s : Sorted). s.payments.kept) is, returned_is, counts_add (rule_in page file transfer cheque) (t_records file), records_count file on.0 on.1.fits)

    pub few : s.payments.kept + s.payments.returned ≤ 9999
    few = omega (arith, all, (fit file on.0 on.1.fits).most)

    pub table_refused : {r : Filed} → (length codes ≡ 96 → ⊥) → r ≡ not_filed 62 0 → FiledAs page file transfer cheque codes out r out
    table_refused f p = refuses (on_eq _ z (off_eq _ f p)) (λ y. omega (arith, y, ap (λ (r : Filed). r.number) p))

    module _ (table : length codes ≡ 96) where
      pub room_refused : {r : Filed} → length out < 124 * s.payments.returned → r ≡ not_filed 60 0 → FiledAs page file transfer cheque codes out r out
      room_refused l p =
          refuses (on_eq _ z (on_eq _ table (on_lt _ l p))) (λ y. omega (arith, y, ap (λ (r : Filed). r.number) p))

      module _ (room : 124 * s.payments.returned ≤ length out) where
        answered : filed s.payments.returned ≡ filed_of page file transfer cheque codes out
        answered = on_eq _ z (on_eq _ table (off_lt _ room refl)) ∙ by_sorted

        -- by the table as the code lends it
        module _ {table' : List ℕ} (same : table' ≡ codes) where
          pub payments_fit : (structure_of file ≡ Fits (s.payments.kept + s.payments.returned)) × Room page file transfer cheque table' out
          payments_fit =
              (on.1.fits ∙ ap Fits (sym all), record { table = ap length same ∙ table; bytes = omega (arith, room, returned_is) })

          pub records_filed : {m : ℕ} {out' : List ℕ} → Noted (records_of page file transfer cheque table') 0 out out' m
              → FiledAs page file transfer cheque codes out (filed s.payments.returned) out'
          records_filed w =
              record { answer_is = answered; out_is = w.places_are ∙ ap (λ (t : List ℕ). put 0 (records_of page file transfer cheque t) out) same }

        pub none_filed : s.payments.returned ≡ 0 → FiledAs page file transfer cheque codes out (filed s.payments.returned) out
        unfolding records_of
        none_filed none =
            let nobody : returned_in page file transfer cheque ≡ [] = empty (returned_in page file transfer cheque) (sym returned_is ∙ none) in
            record {
              answer_is = answered;
              out_is =
                  sym (put_none 0 out) ∙ ap (λ (ts : List (List ℕ)). put 0 (joined (map (record_in page file transfer cheque codes) ts)) out) (sym nobody);
            }
