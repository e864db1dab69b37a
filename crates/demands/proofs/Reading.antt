-- A reading answers by its cuts; with one pair of lists it answers as the judge.
use Prim.Native.Nat.{ℕ, ◌+◌, ◌≤◌, ◌<◌}
use mathlib.Core.Path.{◌≡◌, refl, sym, ap, subst, ◌∙◌}
use mathlib.Core.Bool.{Bool, true, false, cond}
use mathlib.Core.List.{List, []}
use mathlib.Core.Logic.{◌⊎◌, inl, inr}
use native.Mathlib.Omega.{arith}
use borrow.Author.Tests.{eqb-false}
use lib.Dec.{eqb, leb}
use lib.ListN.{length}
use Rattle.laws.specs.Choice.{on_eq, off_eq, on_lt}
use Rattle.charset.specs.Table.{is_page}
use Rattle.structure.specs.Walk.{structure_of}
use Rattle.structure.specs.Shape.{Shape, Fits, Refused}
use Rattle.judge.specs.Content.{rule_from, rule_end, rule_real}
use Rattle.judge.specs.Meaning.{broken}
use Rattle.judge.specs.Sums.{euro_sum, cent_sum}
use Rattle.judge.specs.Verdict.{refused, sound, unless, verdict_by, verdict_of, or_taken, judge_of}
use Rattle.judge.specs.declared.Verdict.{Verdict}
use Rattle.forwarding.specs.Forwarded.{notes_of}
use Rattle.reader.specs.declared.Answer.{Answer}
use Rattle.reader.specs.declared.Reader.{Reader}
use Rattle.reader.specs.declared.Read.{Read}
use Rattle.reader.specs.Cuts.{Cut, joined, LentWith, read_fault, read_content, read_by, read_verdict, read_judged, reading_of}
use Rattle.reader.specs.State.{answered, new_of, ended_by, found_of, read_of, fed_of, end_of}
use Rattle.reader.proofs.Reading.{fed_all_is, fed_all}
use Rattle.reader.proofs.Answers.{end_is}
use Rattle.reader.proofs.OnePair.{judged_with}
use Rattle.demands.specs.Demand1.{FileRule, ContentRule, ReadNumbers}
use Rattle.demands.specs.Reading.{Reading, AsJudged, ReadAnswers, ReadsAsJudged, CutsAlike, EndsOnce, EndIsLast, ReadPage, ReadTooLong}
use Rattle.demands.proofs.Pages.{page_is_there, one_answer, never_7}
use Rattle.demands.proofs.Demand1.{told, judged_7, on_any_page}
use Rattle.demands.proofs.Forwarding.{listed, listed_one}

pub read_answers : ReadAnswers
read_answers page cuts taken read r =
    let last : r.last ≡ fed_all (new_of page) cuts = fed_all_is r.first cuts r.last r.fed ∙ ap (λ (x : Reader). fed_all x cuts) r.new in
    ap (λ (x : Read). x.answer) r.ended ∙ ap (λ (x : Reader). (end_of x taken).answer) last ∙ end_is page cuts taken

-- the answer that one pair of lists has
abbrev judged_all : ℕ → List ℕ → List ℕ → List ℕ → List ℕ → Answer
judged_all page file transfer cheque taken =
    let v = judge_of page file transfer cheque taken in
    answered v (cond (eqb v.number 0) (length (notes_of page file)) 0)

pub read_is : (page : ℕ) (cuts : List Cut) (transfer cheque taken : List ℕ) (read : Read) → LentWith transfer cheque cuts
    → Reading page cuts taken read → read.answer ≡ judged_all page (joined cuts) transfer cheque taken
unfolding reading_of
read_is page cuts transfer cheque taken read lent r =
    read_answers page cuts taken read r
    ∙ ap (λ (v : Verdict). answered v (cond (eqb v.number 0) (length (notes_of page (joined cuts))) 0)) (judged_with page cuts transfer cheque lent taken)

as_judged : (page : ℕ) (file transfer cheque taken : List ℕ) → AsJudged page file transfer cheque taken (judged_all page file transfer cheque taken)
as_judged page file transfer cheque taken =
    record {
      judged = refl;
      counted = λ bytes notes list z.
          sym (on_eq {x = length (notes_of page file)} 0 z refl)
          ∙ ap length (listed_one page file (notes_of page file) notes (listed page file bytes) list);
      refused = λ n. sym (off_eq {y = 0} _ n refl);
    }

pub reads_as_judged : ReadsAsJudged
reads_as_judged page cuts transfer cheque taken read lent r =
    rw (read_is page cuts transfer cheque taken read lent r) (as_judged page (joined cuts) transfer cheque taken)

pub cuts_alike : CutsAlike
cuts_alike page cuts others transfer cheque taken read other same lent lent' r q =
    read_is page cuts transfer cheque taken read lent r ∙ ap (λ (file : List ℕ). judged_all page file transfer cheque taken) same
    ∙ sym (read_is page others transfer cheque taken other lent' q)

-- after an end the reader has ended, and holds its answer
ended : (r : Reader) (taken : List ℕ) → ((end_of r taken).reader.ended ≡ 0 → ⊥) × ((end_of r taken).reader.answer ≡ (end_of r taken).answer)
unfolding end_of
ended r taken = go (eqb r.ended 0) refl
  where
    go : (b : Bool) → eqb r.ended 0 ≡ b
        → ((cond b (read_of (ended_by r (found_of r taken)) (found_of r taken)) (read_of r r.answer)).reader.ended ≡ 0 → ⊥)
        × ((cond b (read_of (ended_by r (found_of r taken)) (found_of r taken)) (read_of r r.answer)).reader.answer
        ≡ (cond b (read_of (ended_by r (found_of r taken)) (found_of r taken)) (read_of r r.answer)).answer)
    go true e = ((λ z. omega (arith, z)), refl)
    go false e = (eqb-false _ _ e, refl)

-- and an ended reader answers what it holds, and stays as it is
module _ (r : Reader) (late : r.ended ≡ 0 → ⊥) where
  answers_again : (others : List ℕ) → read_of r r.answer ≡ end_of r others
  unfolding end_of
  answers_again others = off_eq _ late refl

  stays : (cut transfer cheque : List ℕ) → r ≡ fed_of r cut transfer cheque
  unfolding fed_of
  stays cut transfer cheque = off_eq _ late refl

pub ends_once : EndsOnce
ends_once r taken others read again p q =
    let e = ended r taken in
    let x = (end_of r taken).reader in
    q ∙ ap (λ (y : Read). end_of y.reader others) p ∙ sym (answers_again x e.0 others) ∙ ap (read_of x) e.1 ∙ sym p

pub end_is_last : EndIsLast
end_is_last r taken cut transfer cheque read next p q =
    q ∙ ap (λ (y : Read). fed_of y.reader cut transfer cheque) p
    ∙ sym (stays (end_of r taken).reader (ended r taken).0 cut transfer cheque) ∙ ap (λ (y : Read). y.reader) (sym p)

-- the numbers of the rules of record k
in_rules : (n k m : ℕ) → rule_from n k ≤ m → m < rule_end n k → ContentRule m
in_rules n k m = go (eqb k 0) (leb k n)
  where
    go : (a b : Bool) → cond a 10 (cond b 20 40) ≤ m → m < cond a 17 (cond b 36 43) → ContentRule m
    go true b l h = inl (l, omega (arith, h))
    go false true l h = inr (inl (l, omega (arith, h)))
    go false false l h = inr (inr (l, omega (arith, h)))

module _ (page : ℕ) (cuts : List Cut) where
  abbrev Told : Verdict → Type 0
  Told v = (v.number ≡ 0) ⊎ FileRule v.number

  read_told : Told (read_verdict page cuts)
  unfolding read_verdict read_content verdict_of
  read_told = go (structure_of (joined cuts)) refl
    where
      walked : (number rec : ℕ) → structure_of (joined cuts) ≡ Refused number rec → Told (refused number rec 0)
      walked number rec e =
          subst Told (ap (λ (s : Shape). verdict_by s page (joined cuts) [] []) e) (told page (joined cuts) [] [])

      content : (n e : ℕ) (v : Verdict) → v.number ≡ 0 → Told (unless (read_content page cuts n e) v)
      content n e v z = by (eqb (read_content page cuts n e).number 0) refl
        where
          by : (b : Bool) → eqb (read_content page cuts n e).number 0 ≡ b
              → Told (cond b v (refused (read_content page cuts n e).number (read_content page cuts n e).rec (read_content page cuts n e).at))
          by true q = inl z
          by false q =
              let f = broken (read_fault page cuts n e) (rule_from n) (rule_end n) (rule_real n) (n + 2) (eqb-false _ _ q) in
              inr (inr (in_rules n (read_content page cuts n e).rec (read_content page cuts n e).number f.rule_at_least f.rule_below))

      go : (s : Shape) → structure_of (joined cuts) ≡ s → Told (read_by s page cuts)
      go (Refused number rec) e = walked number rec e
      go (Fits n) e = content n (euro_sum (joined cuts) n) (sound n (euro_sum (joined cuts) n) (cent_sum (joined cuts) n)) refl

pub read_numbers : ReadNumbers
unfolding reading_of read_judged
read_numbers page cuts taken read r =
    rw (read_answers page cuts taken read r) (on_any_page page (read_verdict page cuts) (joined cuts) taken (read_told page cuts))

pub read_page : ReadPage
unfolding reading_of read_judged
read_page page cuts taken read r =
    let v = read_verdict page cuts in
    let x = or_taken v (joined cuts) taken in
    let e = read_answers page cuts taken read r in
    let number : Verdict → ℕ = λ w. w.number in
    let given : read.answer.verdict ≡ cond (is_page page) x (refused 7 0 0) = ap (λ (a : Answer). a.verdict) e in (
      never_7 page number x (refused 7 0 0) read.answer.verdict given (judged_7 v (joined cuts) taken (read_told page cuts)),
      λ n. e ∙ ap (λ (w : Verdict). answered w (cond (eqb w.number 0) (length (notes_of page (joined cuts))) 0)) (sym given ∙ one_answer page number x (refused 7 0 0) read.answer.verdict given n),
    )

-- the answer of a verdict, on a page that there is
abbrev answers_to : ℕ → List ℕ → List ℕ → Verdict → Answer
answers_to page file taken v =
    let w = or_taken v file taken in
    answered w (cond (eqb w.number 0) (length (notes_of page file)) 0)

pub read_too_long : ReadTooLong
unfolding reading_of read_judged read_verdict structure_of
read_too_long page cuts taken read r there long =
    let file = joined cuts in
    let v : read_verdict page cuts ≡ refused 1 0 0 = ap (λ (s : Shape). read_by s page cuts) (sym (on_lt _ long refl)) in
    read_answers page cuts taken read r
    ∙ ap (λ (b : Bool). let w = cond b (or_taken (read_verdict page cuts) file taken) (refused 7 0 0) in answered w (cond (eqb w.number 0) (length (notes_of page file)) 0)) (page_is_there page there)
    ∙ ap (answers_to page file taken) v
