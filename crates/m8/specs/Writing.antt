-- Writing a record: piece behind piece. And how long its fields are.
use Rattle.std.specs.Prelude.{ℕ, ◌+◌, ◌-◌, ◌≤◌, ◌≡◌, take}
use Rattle.std.proofs.Common.{sym, ◌∙◌, arith, lit≤, length-append, refl, ap, List, [], ◌∷◌, ◌++◌, map, append_assoc, length}
use Rattle.std.proofs.lemmas.List.{length-map}
use Rattle.laws.specs.Ascii.{ascii, zeros, spaces}
use Rattle.charset.specs.Table.{rep, text}
use Rattle.records.specs.Places.{◌to◌, part, line_of, q_place, t_place}
use Rattle.records.specs.Inside.{Held, held, inside, q_inside, t_inside}
use Rattle.records.specs.declared.Span.{Span}
use Rattle.records.specs.declared.QField.{QField}
use Rattle.records.specs.declared.TField.{TField}
use Rattle.records.specs.declared.QField.TheVariants.{Q6, Q7}
use Rattle.records.specs.declared.TField.TheVariants.{T14a, T14b, T15}
use Rattle.rules.specs.Q.{in_q}
use Rattle.payments.specs.Rules.{in_t}
use Rattle.forwarding.specs.Put.{put_part}
use Rattle.forwarding.specs.Noted.{Noted, noted_is, noted_length, noted_append}
use Rattle.place.specs.Placing.{back_as}
use Rattle.judge.specs.Records.{joined}
use Rattle.m8.specs.Record.{amount_of, reference_of, m8_of, together}

-- pieces that are joined
pub joined_long : (xs : List (List ℕ)) → length (joined xs) ≡ together (map length xs)
joined_long [] = refl
joined_long (x ∷ xs) = length-append x (joined xs) ∙ ap (λ (n : ℕ). length x + n) (joined_long xs)

pub joined_append : (xs ys : List (List ℕ)) → joined (xs ++ ys) ≡ joined xs ++ joined ys
joined_append [] ys = refl
joined_append (x ∷ xs) ys = ap (λ (l : List ℕ). x ++ l) (joined_append xs ys) ∙ sym (append_assoc x (joined xs) (joined ys))

-- so many bytes are left from a place on: in the output, and up to the end of the longest that there is
abbrev pub Left : ℕ → ℕ → List ℕ → Type 0
Left n at out = (at + n ≤ length out) × (at + n ≤ 1239876)

-- a stretch of the output that comes back as ys; and one into which a piece was copied
pub stretched : (w : ℕ) (ys out : List ℕ) (at : ℕ) → length ys ≡ w → Noted ys at out (back_as at (at + w) ys out) (at + w)
stretched w ys out at l = record { next_is = omega arith; places_are = put_part at (at + w) ys out (omega arith) (omega arith) }

pub appended : (piece out : List ℕ) (at : ℕ) {ys : List ℕ} → Left (length piece) at out
    → ys ≡ piece → Noted piece at out (back_as at (at + length piece) ys out) (at + length piece)
appended piece out at l e = noted_is e (stretched (length piece) _ out at (ap length e))

-- the first seven fields, which one function writes
abbrev pub heading_of : List ℕ → List ℕ
heading_of q = ascii "DM8" ++ (in_q Q6 q ++ (zeros 3 ++ (in_q Q7 q ++ (zeros 7 ++ spaces 17))))

-- behind a piece of n - m of the bytes that are left there are m, and pieces go there
module _ (n m : ℕ) {xs out out' : List ℕ} {at next : ℕ} (e : length xs + m ≡ n) (l : Left n at out) (w : Noted xs at out out' next) where
  fits : at + length xs ≤ length out
  fits = omega (arith, l.0)

  pub left_behind : Left m next out'
  left_behind = (omega (arith, w.next_is, noted_length w fits, l.0), omega (arith, w.next_is, l.1))

  pub behind : {ys out'' : List ℕ} {end : ℕ} → (Left m next out' → Noted ys next out' out'' end) → Noted (xs ++ ys) at out out'' end
  behind more = noted_append w (more left_behind) fits

module _ {at : ℕ} {out : List ℕ} where
  pub heading_written : (q : List ℕ) → Left 38 at out → {date number : List ℕ} → Held (q_place Q6) q date → Held (q_place Q7) q number
      → {a b c d e : List ℕ} {i j k l m : ℕ} → Noted (ascii "DM8") at out a i → Noted date i a b j → Noted (zeros 3) j b c k → Noted number k c d l
      → Noted (zeros 7 ++ spaces 17) l d e m → Noted (heading_of q) at out e m
  heading_written q room date number u v w x y =
      behind 38 35 refl room u
      (λ r. behind 35 29 (omega (arith, date.long, ap length date.bytes)) r (noted_is date.bytes v)
      (λ r. behind 29 26 refl r w (λ r. behind 26 24 (omega (arith, number.long, ap length number.bytes)) r (noted_is number.bytes x) (λ r. y))))

  pub amount_written : (t : List ℕ) → Left 18 at out → {euros cents : List ℕ} → Held (t_place T14a) t euros → Held (t_place T14b) t cents
      → {a b c : List ℕ} {i j k : ℕ} → Noted (zeros 2) at out a i → Noted euros i a b j → Noted (take 2 cents) j b c k → Noted (amount_of t) at out c k
  unfolding part
  amount_written t room euros cents u v w =
      behind 18 16 refl room u
      (λ r. behind 16 2 (omega (arith, euros.long, ap length euros.bytes)) r (noted_is euros.bytes v) (λ r. noted_is (ap (take 2) cents.bytes) w))

-- how long the fields are
pub q_long : (f : QField) (q : List ℕ) → length q ≡ 256 → length (in_q f q) ≡ (q_place f).end - (q_place f).start
q_long f q l = (held (q_place f) q refl (q_inside f) l).long

t_long : (f : TField) (t : List ℕ) → length t ≡ 768 → length (in_t f t) ≡ (t_place f).end - (t_place f).start
t_long f t l = (held (t_place f) t refl (t_inside f) l).long

pub heading_long : (q : List ℕ) → length q ≡ 256 → length (heading_of q) ≡ 38
heading_long q l =
    simp (length-append) (omega (arith, q_long Q6 q l, q_long Q7 q l))

pub amount_long : (t : List ℕ) → length t ≡ 768 → length (amount_of t) ≡ 18
amount_long t l =
    let two : length (part (0 to 1) (in_t T14b t)) ≡ 2 = (held {n = 3} (0 to 1) (in_t T14b t) refl (lit≤ tt, lit≤ tt) (t_long T14b t l)).long in
    simp (length-append) (omega (arith, t_long T14a t l, two))

abbrev line_in : Span
line_in = line_of (t_place T15) 1

pub line_long : (t : List ℕ) → length t ≡ 768 → length (part line_in t) ≡ 35
line_long t l = (held {n = 768} line_in t refl (lit≤ tt, lit≤ tt) l).long

pub reference_long : (page : ℕ) (t : List ℕ) → length t ≡ 768 → length (reference_of page t) ≡ 35
reference_long page t l = length-map (part line_in t) (rep page) ∙ line_long t l

-- a whole record
module _ (page : ℕ) (q reason t : List ℕ) (lq : length q ≡ 256) (lt : length t ≡ 768) (lc : length reason ≡ 6) where
  -- in the pieces of the functions
  whole : heading_of q ++ (amount_of t ++ (reason ++ (reference_of page t ++ spaces 27))) ≡ m8_of page q reason t
  unfolding m8_of
  whole =
      let rest = amount_of t ++ (reason ++ (reference_of page t ++ spaces 27)) in
      ap (λ (l : List ℕ). ascii "DM8" ++ l)
      (append_assoc (in_q Q6 q) (zeros 3 ++ (in_q Q7 q ++ (zeros 7 ++ spaces 17))) rest
      ∙ ap (λ (l : List ℕ). in_q Q6 q ++ (zeros 3 ++ l)) (append_assoc (in_q Q7 q) (zeros 7 ++ spaces 17) rest))

  -- what is left behind each piece, and the record
  module _ {at : ℕ} {out : List ℕ} (room : Left 124 at out) {a : List ℕ} {i : ℕ} (u : Noted (heading_of q) at out a i) where
    pub left_86 : Left 86 i a
    left_86 = left_behind 124 86 (omega (arith, heading_long q lq)) room u

    module _ {b : List ℕ} {j : ℕ} (v : Noted (amount_of t) i a b j) where
      pub left_68 : Left 68 j b
      left_68 = left_behind 86 68 (omega (arith, amount_long t lt)) left_86 v

      module _ {c : List ℕ} {k : ℕ} (w : Noted reason j b c k) where
        pub left_62 : Left 62 k c
        left_62 = left_behind 68 62 (omega (arith, lc)) left_68 w

        module _ {ys : List ℕ} (x : ys ≡ reference_of page t) where
          line : Noted (reference_of page t) k c (back_as k (k + 35) ys c) (k + 35)
          line = noted_is x (stretched 35 ys c k (ap length x ∙ reference_long page t lt))

          pub left_27 : Left 27 (k + 35) (back_as k (k + 35) ys c)
          left_27 = left_behind 62 27 (omega (arith, reference_long page t lt)) left_62 line

          pub record_written : {e : List ℕ} {m : ℕ} → Noted (spaces 27) (k + 35) (back_as k (k + 35) ys c) e m → Noted (m8_of page q reason t) at out e m
          record_written y =
              noted_is whole
              (noted_append u (noted_append v (noted_append w (noted_append line y (omega (arith, left_62.0, reference_long page t lt))) (omega (arith, left_68.0, lc))) (omega (arith, left_86.0, amount_long t lt)))
              (omega (arith, room.0, heading_long q lq)))

-- the first line of T15, found, copied and replaced
module _ (t : List ℕ) (l : length t ≡ 768) {s p : Span} (at : s ≡ t_place T15) (first : p ≡ line_of s 1) where
  line_is : p ≡ line_in
  line_is = first ∙ ap (λ (s : Span). line_of s 1) at

  pub line_inside : (p.start ≤ p.end) × (p.end ≤ length t)
  line_inside = inside line_is (lit≤ tt, lit≤ tt) l

  module _ {line : List ℕ} (found : line ≡ part p t) where
    is : line ≡ part line_in t
    is = found ∙ ap (λ (p : Span). part p t) line_is

    pub line_fits : length line ≡ 35
    line_fits = ap length is ∙ line_long t l

    pub referred : (page : ℕ) {d ys : List ℕ} → d ≡ line → ys ≡ text page d → ys ≡ reference_of page t
    referred page e r = r ∙ ap (text page) (e ∙ is)
