-- Going over the payments of a file that fits: the records of the first of them are written.
use Rattle.std.specs.Prelude.{ℕ, ◌+◌, ◌*◌, ◌-◌, ◌≤◌, ◌<◌, ◌≡◌, cond, List, [], ◌∷◌, eqb, length, Some, None, refl}
use Rattle.std.proofs.Common.{ap, ◌∙◌, arith, length-append, sym}
use Rattle.laws.specs.Choice.{on_eq, off_eq}
use Rattle.laws.specs.Found.{nonzero, of_none, of_some, of_some_ne}
use Rattle.structure.specs.Slots.{slot_at}
use Rattle.structure.specs.Walk.{structure_of}
use Rattle.structure.specs.Shape.{Fits}
use Rattle.judge.specs.Apart.{slots_from}
use Rattle.forwarding.specs.Noted.{Noted, noted_none, noted_is, noted_length, noted_append}
use Rattle.sorting.specs.Kept.{t_records, rule_in, returned_in}
use Rattle.sorting.proofs.Sound.{first_below, first_above}
use Rattle.sorting.specs.Lists.{counts_add}
use Rattle.sorting.specs.Frame.{fit, t_found, records_are, records_count, lengths, behind, records_split, records_upto, records_more}
use Rattle.payments.specs.Rules.{key_of}
use Rattle.m8.specs.Record.{m8_of, code_of}
use Rattle.m8.specs.Filed.{record_in, records_of}
use Rattle.m8.proofs.Writing.{m8_long}
use Rattle.m8.specs.Writing.{Left}
use Rattle.m8.specs.Course.{Asked, Room, FiledSoFar, code_long, one, ones, flat, ones_append, ones_more, ones_long}

-- of a file that fits, with n T records
module _ (page : ℕ) (file transfer cheque codes : List ℕ) (n : ℕ) (e : structure_of file ≡ Fits n) where
  abbrev rule : List ℕ → ℕ
  rule t = rule_in page file transfer cheque t

  abbrev R : List ℕ → List ℕ
  R t = record_in page file transfer cheque codes t

  pub all_filed : ones rule R (t_records file) ≡ records_of page file transfer cheque codes
  unfolding records_of
  all_filed = sym (flat rule R (t_records file))

  pub record_long : length codes ≡ 96 → (t : List ℕ) → length t ≡ 768 → length (R t) ≡ 124
  record_long table t l =
      m8_long page (slot_at file 0) (code_of codes (rule t)) t (lengths file n e).q_size l
      (code_long codes (rule t) table (first_below page transfer cheque (key_of (slot_at file 1)) t))

  module _ (out : List ℕ) (room : Room page file transfer cheque codes out) where
    all_long : length (ones rule R (t_records file)) ≡ 124 * length (returned_in page file transfer cheque)
    all_long = ones_long rule R (record_long room.table) (t_records file) (lengths file n e).t_size

    few : length (returned_in page file transfer cheque) ≤ 9999
    few = omega (arith, counts_add rule (t_records file), records_count file n e, (fit file n e).most)

    module _ (k : ℕ) {at : ℕ} {out' : List ℕ} (h : FiledSoFar page file transfer cheque codes out k at out') where
      fits : k ≤ n → 0 + length (ones rule R (slots_from file 1 k)) ≤ length out
      fits l =
          let rest = slots_from file (k + 1) (n - k) in
          omega (arith, ap (λ (ts : List (List ℕ)). length (ones rule R ts)) (records_upto file n e k l), ap length (ones_append rule R (slots_from file 1 k) rest), length-append (ones rule R (slots_from file 1 k)) (ones rule R rest), all_long, room.bytes)

      pub same_room : k ≤ n → length out' ≡ length out
      same_room l = noted_length h (fits l)

      module _ (l : k < n) where
        abbrev t : List ℕ
        t = slot_at file (k + 1)

        turn_long : length (ones rule R (slots_from file 1 k)) + length (one rule R t) ≤ 124 * length (returned_in page file transfer cheque)
        turn_long =
            let us = slots_from file 1 k in
            let vs = behind file n e k in
            omega (
              arith,
              ap (λ (ts : List (List ℕ)). length (ones rule R ts)) (records_split file n e k l),
              ap length (ones_append rule R us (t ∷ vs)),
              length-append (ones rule R us) (ones rule R (t ∷ vs)),
              length-append (one rule R t) (ones rule R vs),
              all_long,
            )

        more : {xs : List ℕ} {at' : ℕ} {out'' : List ℕ} → xs ≡ one rule R t → Noted xs at out' out'' at' → FiledSoFar page file transfer cheque codes out (k + 1) at' out''
        more is w =
            noted_is (sym (ones_more rule R (slots_from file 1 k) t) ∙ ap (ones rule R) (sym (records_more file n e k)))
            (noted_append h (noted_is is w) (fits (omega arith)))

        -- a payment that breaks no rule
        pub turn_passed : None ≡ nonzero (rule t) → FiledSoFar page file transfer cheque codes out (k + 1) at out'
        turn_passed told = more (on_eq _ (of_none told) refl) (noted_none at out')

        -- and any one, by its first broken rule
        module _ (first : ℕ) (asked : first ≡ rule (slot_at file (k + 1))) where
          pub turn_asked : length t ≡ 768 → Asked first codes at out'
          turn_asked long =
              record {
                table = room.table;
                real =
                    λ f.
                    let broken : rule t ≡ 0 → ⊥ = λ z. f (asked ∙ z) in
                    let whole : length (one rule R t) ≡ 124 = ap length (sym (off_eq {z = R t} [] broken refl)) ∙ record_long room.table t long in (
                      omega (arith, asked, first_above page transfer cheque (key_of (slot_at file 1)) t broken),
                      omega (arith, asked, first_below page transfer cheque (key_of (slot_at file 1)) t),
                      (omega (arith, h.next_is, turn_long, whole, same_room (omega arith), room.bytes), omega (arith, h.next_is, turn_long, whole, few)),
                    );
              }

          pub turn_filed : {at' : ℕ} {out'' : List ℕ} → Noted (cond (eqb first 0) [] (m8_of page (slot_at file 0) (code_of codes first) t)) at out' out'' at'
              → FiledSoFar page file transfer cheque codes out (k + 1) at' out''
          turn_filed w = more (ap (λ (r : ℕ). cond (eqb r 0) [] (m8_of page (slot_at file 0) (code_of codes r) t)) asked) w

        -- and one that breaks a rule, this one first
        module _ {first : ℕ} (told : Some first ≡ nonzero (rule t)) where
          first_real : first ≡ 0 → ⊥
          first_real z = of_some_ne told (sym (of_some told) ∙ z)

          pub broken_asked : (20 ≤ first) × (first < 36) × Left 124 at out'
          broken_asked = (turn_asked first (of_some told) (t_found file n e (k + 1) (omega arith) (omega arith) refl)).real first_real

          pub broken_filed : {at' : ℕ} {out'' : List ℕ} → Noted (m8_of page (slot_at file 0) (code_of codes first) t) at out' out'' at'
              → FiledSoFar page file transfer cheque codes out (k + 1) at' out''
          broken_filed w = turn_filed first (of_some told) (noted_is (off_eq [] first_real refl) w)

      pub turns_end : k ≤ n → n ≤ k → Noted (records_of page file transfer cheque codes) 0 out out' at
      turns_end a b =
          let end : k ≡ n = omega arith in
          noted_is (ap (λ (k : ℕ). ones rule R (slots_from file 1 k)) end ∙ ap (ones rule R) (sym (records_are file n e)) ∙ all_filed) h
