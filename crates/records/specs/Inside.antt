-- Every field lies in its record: what `part` asks before it hands the bytes out.
use Rattle.std.specs.Prelude.{ℕ, ◌-◌, ◌≤◌, ◌≡◌, List, eqb, leb, T, length, drop}
use Rattle.std.proofs.Common.{ap, ◌∙◌, arith, leb→le, lit≤, length-take, length-drop}
use Rattle.records.specs.declared.Span.{Span}
use Rattle.records.specs.declared.QField.{QField}
use Rattle.records.specs.declared.QField.TheVariants.{Q3, Q4, Q5, Q6, Q7, Q8, Q9, Q10, Q11, Q12}
use Rattle.records.specs.declared.TField.{TField}
use Rattle.records.specs.declared.TField.TheVariants.{T3, T4a, T4b, T5, T6, T7a, T7b, T8, T9a, T9b, T10a, T10b, T11, T12, T13, T14a, T14b, T15, T16, T17, T18, T19, T20, T21, T22, T23, T24, T25, T26, T27}
use Rattle.records.specs.declared.ZField.{ZField}
use Rattle.records.specs.declared.ZField.TheVariants.{Z3, Z4, Z5}
use Rattle.records.specs.Places.{q_place, t_place, z_place, part, PartOf, q_text, t_text}
use Rattle.laws.specs.Choice.{either}

abbrev pub Inside : ℕ → Span → Type 0
Inside n s = (s.start ≤ s.end) × (s.end ≤ n)

-- what is computed of each field: it begins behind the head of a record, and ends in it
abbrev Lies : ℕ → Span → Type 0
Lies n s = T (leb 5 s.start) × (T (leb s.start s.end) × T (leb s.end n))

here : {n : ℕ} {s : Span} → Lies n s → Inside n s
here h = (leb→le _ _ h.1.0, leb→le _ _ h.1.1)

q_lies : (field : QField) → Lies 256 (q_place field)
q_lies Q3 = (tt, (tt, tt))
q_lies Q4 = (tt, (tt, tt))
q_lies Q5 = (tt, (tt, tt))
q_lies Q6 = (tt, (tt, tt))
q_lies Q7 = (tt, (tt, tt))
q_lies Q8 = (tt, (tt, tt))
q_lies Q9 = (tt, (tt, tt))
q_lies Q10 = (tt, (tt, tt))
q_lies Q11 = (tt, (tt, tt))
q_lies Q12 = (tt, (tt, tt))

pub q_inside : (field : QField) → Inside 256 (q_place field)
q_inside field = here (q_lies field)

pub q_behind : (field : QField) → 5 ≤ (q_place field).start
q_behind field = leb→le _ _ (q_lies field).0

t_lies : (field : TField) → Lies 768 (t_place field)
t_lies T3 = (tt, (tt, tt))
t_lies T4a = (tt, (tt, tt))
t_lies T4b = (tt, (tt, tt))
t_lies T5 = (tt, (tt, tt))
t_lies T6 = (tt, (tt, tt))
t_lies T7a = (tt, (tt, tt))
t_lies T7b = (tt, (tt, tt))
t_lies T8 = (tt, (tt, tt))
t_lies T9a = (tt, (tt, tt))
t_lies T9b = (tt, (tt, tt))
t_lies T10a = (tt, (tt, tt))
t_lies T10b = (tt, (tt, tt))
t_lies T11 = (tt, (tt, tt))
t_lies T12 = (tt, (tt, tt))
t_lies T13 = (tt, (tt, tt))
t_lies T14a = (tt, (tt, tt))
t_lies T14b = (tt, (tt, tt))
t_lies T15 = (tt, (tt, tt))
t_lies T16 = (tt, (tt, tt))
t_lies T17 = (tt, (tt, tt))
t_lies T18 = (tt, (tt, tt))
t_lies T19 = (tt, (tt, tt))
t_lies T20 = (tt, (tt, tt))
t_lies T21 = (tt, (tt, tt))
t_lies T22 = (tt, (tt, tt))
t_lies T23 = (tt, (tt, tt))
t_lies T24 = (tt, (tt, tt))
t_lies T25 = (tt, (tt, tt))
t_lies T26 = (tt, (tt, tt))
t_lies T27 = (tt, (tt, tt))

pub t_inside : (field : TField) → Inside 768 (t_place field)
t_inside field = here (t_lies field)

pub t_behind : (field : TField) → 5 ≤ (t_place field).start
t_behind field = leb→le _ _ (t_lies field).0

z_lies : (field : ZField) → Lies 256 (z_place field)
z_lies Z3 = (tt, (tt, tt))
z_lies Z4 = (tt, (tt, tt))
z_lies Z5 = (tt, (tt, tt))

pub z_inside : (field : ZField) → Inside 256 (z_place field)
z_inside field = here (z_lies field)

pub z_behind : (field : ZField) → 5 ≤ (z_place field).start
z_behind field = leb→le _ _ (z_lies field).0

-- of a place that is another's, and of the record itself
pub inside : {n m : ℕ} {s r : Span} → r ≡ s → Inside n s → m ≡ n → Inside m r
inside e h l = rw (e, l) h

-- what a function that hands out the bytes at a place promises; that they are so many follows, and is said for its callers
pub record Held (s : Span) (rec xs : List ℕ) : Type 0 where
  pub bytes : xs ≡ part s rec
  pub long : length xs ≡ s.end - s.start

pub held : {n : ℕ} {xs : List ℕ} (s : Span) (rec : List ℕ) → xs ≡ part s rec → Inside n s → length rec ≡ n → Held s rec xs
unfolding part
held s rec e h l =
    record { bytes = e; long = ap length e ∙ simp (length-take, length-drop) (omega (arith, h.0, h.1)) }

-- the same of a part at r, which is the place s
pub held_at : {n : ℕ} {from at : ℕ × ℕ} {xs : List ℕ} {r : Span} (s : Span) (rec : List ℕ) → PartOf r from rec at xs → r ≡ s → Inside n s
    → length rec ≡ n → Held s rec xs
held_at s rec p e h l = held s rec (p.holds ∙ ap (λ (r : Span). part r rec) e) h l

-- every text field lies in its record; a number that is none is nowhere
pub q_text_inside : (f : ℕ) → Inside 256 (q_text f)
q_text_inside f = either (Inside 256) (eqb f 1) _ _ (lit≤ tt, lit≤ tt) (lit≤ tt, lit≤ tt)

pub t_text_inside : (f : ℕ) → Inside 768 (t_text f)
t_text_inside f =
    let in-record = either (Inside 768) in
    in-record (eqb f 2) _ _ (lit≤ tt, lit≤ tt)
    (in-record (eqb f 3) _ _ (lit≤ tt, lit≤ tt)
    (in-record (eqb f 4) _ _ (lit≤ tt, lit≤ tt)
    (in-record (eqb f 5) _ _ (lit≤ tt, lit≤ tt)
    (in-record (eqb f 6) _ _ (lit≤ tt, lit≤ tt)
    (in-record (eqb f 7) _ _ (lit≤ tt, lit≤ tt)
    (in-record (eqb f 8) _ _ (lit≤ tt, lit≤ tt)
    (in-record (eqb f 9) _ _ (lit≤ tt, lit≤ tt) (lit≤ tt, lit≤ tt))))))))

-- a part is never longer than its place
pub part_le : (s : Span) (rec : List ℕ) → length (part s rec) ≤ s.end - s.start
unfolding part
part_le s rec = rw (length-take (s.end - s.start) (drop s.start rec)) (omega arith)
