-- The default way with a sound file: nothing is returned, the kept file is the file, and what sending it answers is the answer.
use Rattle.std.specs.Prelude.{ℕ, ◌≡◌, Bool, true, not, eqb, length, List, [], Err}
use Rattle.std.proofs.Math.Path.{refl, ap, ap₂}
use Rattle.std.proofs.Common.{sym, ◌∙◌, arith, eqb-true, le-ltb}
use Rattle.std.proofs.Math.Bool.{false, cond}
use Rattle.std.proofs.Math.Dec.{ltb}
use Rattle.laws.specs.Choice.{on_eq, off_eq}
use Rattle.laws.specs.Steps.{empty}
use Rattle.charset.specs.Table.{is_page}
use Rattle.judge.specs.Verdict.{verdict_of}
use Rattle.judge.specs.declared.Verdict.{Verdict}
use Rattle.judge.specs.Refusal.{number_of}
use Rattle.judge.specs.declared.Refusal.{Refusal}
use Rattle.forwarding.specs.Forwarded.{forwarded, notes_of}
use Rattle.forwarding.specs.Put.{put, put_none}
use Rattle.sorting.specs.Kept.{t_records, rule_in, returned_in, named_in, kept_file}
use Rattle.sorting.specs.Sorted.{unsorted, sort_of}
use Rattle.sorting.specs.Lists.{named_count}
use Rattle.sorting.specs.Counting.{figures_are, going_on}
use Rattle.sorting.proofs.Answers.{told_no_page, told_sound}
use Rattle.sorting.proofs.Goes.{GoesOn, goes, kept_whole_file}
use Rattle.sorting.specs.declared.Sorted.{Sorted}
use Rattle.sorting.specs.Answer.{sorted_of}
use Rattle.prepare.specs.Answer.{prepared_in}
use Rattle.prepare.specs.Prepared.{not_prepared, done, send_of, SentAs}
use Rattle.prepare.specs.Default.{or_refused, default_of, left_by, DefaultAs}
use Rattle.prepare.specs.DefaultOutcome.{default_refused}
use Rattle.prepare.specs.declared.Prepared.{Prepared}

-- all payments and euros of the verdict go on, or the refusal of the rooms
abbrev pub whole_of : Verdict → ℕ → Sorted
whole_of verdict notes = going_on (figures_are verdict.payments verdict.euros notes) verdict.payments verdict.euros

abbrev pub whole_by : Verdict → Prepared → Sorted
whole_by verdict sent = cond (eqb sent.number 0) (whole_of verdict sent.notes) (unsorted sent.number sent.rec)

-- a file that is sent has as many notes as are told
sent_notes : (page : ℕ) (file out notes : List ℕ) → (send_of page file out notes).number ≡ 0 → (send_of page file out notes).notes ≡ length (notes_of page file)
unfolding send_of
sent_notes page file out notes z = go (ltb (length out) (length file)) (ltb (length notes) (length (notes_of page file))) (length (notes_of page file)) z
  where
    go : (a b : Bool) (n : ℕ) → (cond a (not_prepared 60 0) (cond b (not_prepared 61 0) (done n))).number ≡ 0
        → (cond a (not_prepared 60 0) (cond b (not_prepared 61 0) (done n))).notes ≡ n
    go true b n z = absurd (omega arith)
    go false true n z = absurd (omega arith)
    go false false n z = refl

module _ (page : ℕ) (file transfer cheque out notes list : List ℕ) where
  abbrev K : List ℕ
  K = kept_file page file transfer cheque

  -- s is what sorting answers of a file from which nothing comes back
  module _ {s : Sorted} (e : s ≡ sort_of page file transfer cheque) (z : s.number ≡ 0) (none : s.payments.returned ≡ 0) where
    on : (n : ℕ) × GoesOn page file transfer cheque n
    on = goes page file transfer cheque (sym (ap (λ (s : Sorted). s.number) e) ∙ z)

    none_back : length (returned_in page file transfer cheque) ≡ 0
    none_back = sym (ap (λ (s : Sorted). s.payments.returned) (e ∙ on.1.answer)) ∙ none

    same : K ≡ file
    same = kept_whole_file page file transfer cheque on.0 on.1 none_back

    nobody : named_in page file transfer cheque ≡ []
    nobody = empty (named_in page file transfer cheque) (named_count (rule_in page file transfer cheque) 1 (t_records file) ∙ none_back)

    -- the list is long enough
    answered : {sent : Prepared} → sent ≡ send_of page file out notes
        → cond (eqb sent.number 0) s (unsorted sent.number sent.rec) ≡ default_of page file transfer cheque out notes list
    unfolding default_of
    answered {sent} p =
        let enough : ltb (length list) s.payments.returned ≡ false = le-ltb (length list) s.payments.returned (omega (arith, none)) in
        ap (λ (b : Bool). cond (eqb sent.number 0) (cond b (unsorted 63 0) s) (unsorted sent.number sent.rec)) (sym enough)
        ∙ ap₂ (λ (s : Sorted) (sent : Prepared). or_refused s sent list) e (p ∙ ap (λ (f : List ℕ). send_of page f out notes) (sym same))
        ∙ on_eq _ (sym (ap (λ (s : Sorted). s.number) e) ∙ z) refl

    default_whole : {r : Sorted} {sent : Prepared} {out' notes' : List ℕ} → SentAs page file out notes sent out' notes'
        → r ≡ cond (eqb sent.number 0) s (unsorted sent.number sent.rec)
        → DefaultAs page file transfer cheque out notes list r out' notes' list
    default_whole {r} {sent} {out'} {notes'} w q =
        let alike : eqb sent.number 0 ≡ eqb r.number 0 = go (eqb sent.number 0) refl ∙ ap (λ (s : Sorted). eqb s.number 0) (sym q) in
        record {
          answer_is = q ∙ answered w.answer_is;
          out_is = w.out_is ∙ ap₂ (λ (b : Bool) (f : List ℕ). cond b (put 0 (forwarded page f) out) out) alike (sym same);
          notes_are = w.notes_are ∙ ap₂ (λ (b : Bool) (f : List ℕ). cond b (put 0 (notes_of page f) notes) notes) alike (sym same);
          list_is = as_it_was (eqb r.number 0) ∙ ap (λ (l : List ℕ). left_by r l list) (sym nobody);
        }
      where
        go : (b : Bool) → eqb sent.number 0 ≡ b → b ≡ eqb (cond b s (unsorted sent.number sent.rec)).number 0
        go true p = ap (λ (n : ℕ). eqb n 0) (sym z)
        go false p = sym p

        as_it_was : (b : Bool) → list ≡ cond b (put 0 [] list) list
        as_it_was true = sym (put_none 0 list)
        as_it_was false = refl

  -- the page decides first, then soundness: there is whether the page exists, v the verdict
  module _ {there : Bool} (known : there ≡ is_page page) where
    pub default_no_page : there ≡ false → DefaultAs page file transfer cheque out notes list (unsorted 7 0) out notes list
    default_no_page t =
        default_refused page file transfer cheque out notes list (told_no_page page file transfer cheque known (ap not t) refl)
        (λ z. omega arith)

    pub default_sound : {v : Verdict} {r : Sorted} {sent : Prepared} {out' notes' : List ℕ} → there ≡ true → v ≡ verdict_of page file transfer cheque
        → v.number ≡ 0 → SentAs page file out notes sent out' notes' → r ≡ whole_by v sent
        → DefaultAs page file transfer cheque out notes list r out' notes' list
    default_sound {v} {r} {sent} t e z w q =
        default_whole (told_sound page file transfer cheque known (ap not t) e z refl refl) refl (omega arith) w
        (q ∙ go (eqb sent.number 0) refl)
      where
        go : (b : Bool) → eqb sent.number 0 ≡ b
            → cond b (whole_of v sent.notes) (unsorted sent.number sent.rec) ≡ cond b (whole_of v (length (notes_of page file))) (unsorted sent.number sent.rec)
        go true p =
            let n = ap (λ (s : Prepared). s.number) w.answer_is in
            ap (whole_of v) (ap (λ (s : Prepared). s.notes) w.answer_is ∙ sent_notes page file out notes (sym n ∙ eqb-true sent.number 0 p))
        go false p = refl

    -- or it is not sent
    pub default_not_sent : (why : Refusal) {v : Verdict} {out' notes' : List ℕ} → there ≡ true → v ≡ verdict_of page file transfer cheque
        → v.number ≡ 0 → SentAs page file out notes (prepared_in (Err why)) out' notes' → (number_of why ≡ 0 → ⊥)
        → DefaultAs page file transfer cheque out notes list (sorted_of (Err why)) out' notes' list
    default_not_sent why t e z w real = default_sound t e z w (off_eq _ real refl)
