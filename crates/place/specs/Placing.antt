-- The turns of placing: a field replaced where it stands, a record at its place.
use Rattle.std.specs.Prelude.{ℕ, ◌+◌, ◌-◌, ◌≤◌, ◌<◌, ◌≡◌, refl, true, List, [], ◌∷◌, ◌++◌, take, drop}
use Rattle.std.proofs.Math.Path.{sym, ap}
use Rattle.std.proofs.Common.{◌∙◌, append-nil, append_assoc, arith, lit≤, length-append, take_all}
use Rattle.std.proofs.Math.ListN.{length, length-drop}
use Rattle.charset.specs.Table.{rep}
use Rattle.records.specs.Places.{part, t_text}
use Rattle.records.specs.declared.Span.{Span}
use Rattle.forwarding.specs.Text.{lies, q_texts, t_texts}
use Rattle.forwarding.specs.Forwarded.{fwd, forwarded}
use Rattle.forwarding.specs.Put.{put, put_part}
use Rattle.forwarding.specs.Parts.{fwd_never}
use Rattle.forwarding.specs.Between.{between, between_long}
use Rattle.forwarding.specs.Changes.{text_notes, changes, changes_noted}
use Rattle.forwarding.specs.Fields.{field_notes, notes_more, rising}
use Rattle.forwarding.specs.Noted.{Noted, first_notes, noted_is, noted_append}
use Rattle.forwarding.specs.Numbered.{texts_below, texts_from, texts_from_more, texts_from_rest}
use Rattle.forwarding.specs.Pieces.{sent_in, sent_long, q_sent, t_sent}
use Rattle.forwarding.specs.Sent.{sent_none, sent_same, sent_then, sent_all}
use Rattle.forwarding.specs.Sized.{z_at, Sized, Begins, fits, begins_first, begins_next, begins_last}

-- xs, after its part from a up to below e was lent and came back as ys
abbrev pub back_as : ℕ → ℕ → List ℕ → List ℕ → List ℕ
back_as a e ys xs = take a xs ++ (ys ++ drop (e - a) (drop a xs))

-- a text field s of a record that stands at a, and at least fifteen bytes more behind it
module _ (s : Span) (rec : List ℕ) (h : s.start ≤ s.end) (l : s.end + 15 ≤ length rec) where
  -- the bytes from its beginning on, as they are lent
  abbrev pub from_there : List ℕ
  from_there = take (length rec - s.start) (drop s.start rec)

  pub there_long : length from_there ≡ length rec - s.start
  there_long = between_long s.start (length rec) rec (omega arith)

  module _ (a : ℕ) where
    pub its_notes : first_notes (a + s.start) (s.end - s.start) from_there ≡ field_notes (s ∷ []) a rec
    unfolding part
    its_notes =
        ap (first_notes (a + s.start) (s.end - s.start)) (take_all (length rec - s.start) (drop s.start rec) (omega (arith, length-drop s.start rec)))
        ∙ sym (append-nil (text_notes (a + s.start) (part s rec)))

    -- where nothing is noted, nothing changes
    pub not_noted : {have n : ℕ} {ps ps' : List ℕ} → Noted (field_notes (s ∷ []) a rec) have ps ps' n → n ≡ have
        → changes (between s.start s.end rec) ≡ 0
    unfolding part
    not_noted noted e =
        omega (arith, noted.next_is, ap length (append-nil (text_notes (a + s.start) (part s rec))), changes_noted (a + s.start) (between s.start s.end rec))

module _ (page : ℕ) (rec : List ℕ) where
  pub none_replaced : rec ≡ fwd (rep page) (lies []) 0 rec
  none_replaced = sym (fwd_never (rep page) 0 rec)

-- the text fields of T from number `first` up to below `end` lie in the 320 bytes from place `from` on
pub record TheseLie (from first end : ℕ) : Type 0 where
  pub low : 2 ≤ first
  pub some : first ≤ end
  pub high : end ≤ 10
  pub inside : from + 320 ≤ 768
  pub there : rising from (from + 320) (texts_from first end) ≡ true

module _ (page : ℕ) (rec : List ℕ) (first k : ℕ) {s : Span} (low : 2 ≤ k) (high : k < 10) (behind : first ≤ k) (at : s ≡ t_text k) where
  one_more : texts_from first (k + 1) ≡ texts_from first k ++ (s ∷ [])
  one_more = texts_from_more k low high first behind ∙ ap (λ (s : Span). texts_from first k ++ (s ∷ [])) (sym at)

  pub replaced_more : (ss : List Span)
      → fwd (rep page) (lies (ss ++ texts_from first k ++ (s ∷ []))) 0 rec ≡ fwd (rep page) (lies (ss ++ texts_from first (k + 1))) 0 rec
  replaced_more ss =
      let more = append_assoc ss (texts_from first k) (s ∷ []) ∙ ap (λ (ts : List Span). ss ++ ts) (sym one_more) in
      ap (λ (ts : List Span). fwd (rep page) (lies ts) 0 rec) more

  module _ (a : ℕ) where
    notes_from : field_notes (texts_from first (k + 1)) a rec ≡ field_notes (texts_from first k) a rec ++ field_notes (s ∷ []) a rec
    notes_from = ap (λ (ts : List Span). field_notes ts a rec) one_more ∙ notes_more (texts_from first k) (s ∷ []) a rec

    pub notes_all_fit : (end : ℕ) → k < end → end ≤ 10
        → length (field_notes (texts_from first k) a rec) + length (field_notes (s ∷ []) a rec) ≤ length (field_notes (texts_from first end) a rec)
    notes_all_fit end more most =
        let rest = drop (k + 1 - 2) (texts_below end) in
        let texts = texts_from_rest first (k + 1) end (omega arith) (omega arith) (omega arith) most in
        let all = ap (λ (ts : List Span). length (field_notes ts a rec)) texts ∙ ap length (notes_more (texts_from first (k + 1)) rest a rec) in
        let sum = length-append (field_notes (texts_from first (k + 1)) a rec) (field_notes rest a rec) in
        let one = length-append (field_notes (texts_from first k) a rec) (field_notes (s ∷ []) a rec) in
        omega (arith, all, sum, ap length notes_from, one)

    pub noted_from : (end : ℕ) → k < end → end ≤ 10 → {have n m : ℕ} {ps ps' ps'' : List ℕ}
        → have + length (field_notes (texts_from first end) a rec) ≤ length ps → Noted (field_notes (texts_from first k) a rec) have ps ps' n
        → Noted (field_notes (s ∷ []) a rec) n ps' ps'' m → Noted (field_notes (texts_from first (k + 1)) a rec) have ps ps'' m
    noted_from end more most room u v =
        noted_is (sym notes_from) (noted_append u v (omega (arith, notes_all_fit end more most)))

-- T8 to T10b lie so, and T12 to T24; and these are all
pub t8_on : TheseLie 53 2 5
t8_on = record { low = lit≤ tt; some = lit≤ tt; high = lit≤ tt; inside = lit≤ tt; there = refl }

pub t12_on : TheseLie 420 5 10
t12_on = record { low = lit≤ tt; some = lit≤ tt; high = lit≤ tt; inside = lit≤ tt; there = refl }

pub both_notes : (a : ℕ) (rec : List ℕ) → field_notes t_texts a rec ≡ field_notes (texts_from 2 5) a rec ++ field_notes (texts_from 5 10) a rec
both_notes a rec = notes_more (texts_from 2 5) (texts_from 5 10) a rec

-- the T records before place `at` are placed
pub record Placed (page : ℕ) (file out out' : List ℕ) (at : ℕ) : Type 0 where
  pub begins : Begins file at
  pub so_far : out' ≡ put 256 (sent_in page 256 at file) out

module _ (page : ℕ) {file out : List ℕ} (sized : Sized file) (room : length file ≤ length out) where
  pub place_first : Placed page file out out 256
  place_first = record { begins = begins_first sized; so_far = sent_none page file out room 256 }

  module _ {out' : List ℕ} {at : ℕ} (placed : Placed page file out out' at) where
    pub place_same : length out' ≡ length out
    place_same =
        let b = placed.begins in
        sent_same page file out room 256 at b.low (omega (arith, b.high)) placed.so_far

    pub place_next : (ys : List ℕ) → at < z_at file → ys ≡ fwd (rep page) (lies t_texts) 0 (between at (at + 768) file)
        → Placed page file out (back_as at (at + 768) ys out') (at + 768)
    place_next ys more e =
        let b = placed.begins in
        let l = fits sized b more in
        let here : ys ≡ sent_in page at (at + 768) file = e ∙ sym (t_sent page file at b.turn l) in
        let long : length ys ≡ at + 768 - at = ap length here ∙ sent_long page file at (at + 768) l in
        record {
          begins = begins_next sized b more;
          so_far =
              sent_then page file out room 256 at b.low (omega arith) (at + 768) (omega arith) placed.so_far
              (put_part at (at + 768) ys out' (omega arith) long ∙ ap (λ (xs : List ℕ). put at xs out') here);
        }

    pub place_last : z_at file ≤ at → out' ≡ put 256 (sent_in page 256 (z_at file) file) out
    place_last done =
        let z : at ≡ z_at file = omega (arith, begins_last sized placed.begins done) in
        placed.so_far ∙ ap (λ (e : ℕ). put 256 (sent_in page 256 e file) out) z

-- the bytes of xs where the file has Z
abbrev pub z_part : List ℕ → List ℕ → List ℕ
z_part file xs = between (z_at file) (length file) xs

-- Q is placed
module _ (page : ℕ) (file out : List ℕ) (sized : Sized file) (room : length file ≤ length out) where
  module _ {out₁ : List ℕ} (ys : List ℕ) (e : ys ≡ fwd (rep page) (lies q_texts) 0 (between 0 256 file))
      (e₁ : out₁ ≡ back_as 0 256 ys out) where
    here_q : ys ≡ sent_in page 0 256 file
    here_q = e ∙ sym (q_sent page file (omega (arith, sized.long)))

    after_q : out₁ ≡ put 0 (sent_in page 0 256 file) out
    after_q =
        e₁ ∙ put_part 0 256 ys out (omega arith) (ap length here_q ∙ sent_long page file 0 256 (omega (arith, sized.long)))
        ∙ ap (λ (xs : List ℕ). put 0 xs out) here_q

    pub q_same : length out₁ ≡ length out
    q_same = sent_same page file out room 0 256 (omega arith) (omega (arith, sized.long)) after_q

    -- then the T records, and then Z, copied as it is
    module _ {out₂ : List ℕ} (e₂ : out₂ ≡ put 256 (sent_in page 256 (z_at file) file) out₁) where
      pub after_t : out₂ ≡ put 0 (sent_in page 0 (z_at file) file) out
      after_t = sent_then page file out room 0 256 (omega arith) (omega (arith, sized.long)) (z_at file) (omega (arith, sized.long)) after_q e₂

      pub same_t : length out₂ ≡ length out
      same_t = sent_same page file out room 0 (z_at file) (omega arith) (omega arith) after_t

      pub place_z : (d : List ℕ) → d ≡ z_part file file → back_as (z_at file) (length file) d out₂ ≡ put 0 (forwarded page file) out
      place_z d e =
          let all : d ≡ drop (z_at file) file =
          e
          ∙ take_all (length file - z_at file) (drop (z_at file) file) (omega (arith, length-drop (z_at file) file)) in
          sent_all page file out room (z_at file) (omega (arith, sized.long)) after_t
          (put_part (z_at file) (length file) d out₂ (omega arith) (ap length all ∙ length-drop (z_at file) file)
          ∙ ap (λ (xs : List ℕ). put (z_at file) xs out₂) all)
