-- What prepare leaves: each text character replaced, and the notes of what changed. There is one such file, and one such list.
use Prim.Native.Nat.{ℕ, ◌+◌, ◌*◌, ◌<◌}
use mathlib.Core.Path.{◌≡◌, refl, sym, ap, subst, ◌∙◌}
use mathlib.Core.Bool.{Bool, true, false, not, cond}
use mathlib.Core.List.{List}
use native.Mathlib.Nat.{zero-add}
use native.Mathlib.Omega.{arith}
use borrow.Author.Tests.{eqb-false, ne_eqb, not-true}
use lib.Dec.{eqb}
use lib.ListN.{length, get_or, drop, length-append}
use lib.Seq.{drop_at, ext_get_or}
use Rattle.laws.specs.Choice.{on_eq, both}
use Rattle.charset.specs.Table.{rep}
use Rattle.forwarding.specs.Text.{text_at}
use Rattle.forwarding.specs.Forwarded.{differs, forwarded, notes_of}
use Rattle.forwarding.specs.Put.{put}
use Rattle.forwarding.specs.RoundTrip.{Bytes, forwarded_length}
use Rattle.restore.specs.Origin.{success, prepared_origin}
use Rattle.demands.specs.Forwarding.{Replaced, Changed, Listed, ForwardedIsOne, NotesAreOne, Forwards}
use Rattle.demands.proofs.Alone.{same_rising}
use Rattle.demands.proofs.Notes.{fwd_at, only_changed, every_changed, rising}
use Rattle.demands.proofs.Demand2.{judged}

module _ (page : ℕ) (file : List ℕ) where
  differs_to : (i : ℕ) → i < length file → differs (rep page) (text_at (length file)) i (get_or file i 0) ≡ true → Changed page file i
  differs_to i h e =
      let w = both (text_at (length file) i) (not (eqb (rep page (get_or file i 0)) (get_or file i 0))) e in
      record { below = h; in_text = w.0; other = eqb-false _ _ (not-true _ w.1) }

  to_differs : (i : ℕ) → Changed page file i → differs (rep page) (text_at (length file)) i (get_or file i 0) ≡ true
  to_differs i c = rw (c.in_text, ne_eqb _ _ c.other)

  sent_at : (i : ℕ) → i < length file
      → get_or (forwarded page file) i 0 ≡ cond (text_at (length file) i) (rep page (get_or file i 0)) (get_or file i 0)
  unfolding forwarded
  sent_at i h =
      fwd_at (rep page) (text_at (length file)) 0 file i h
      ∙ ap (λ (j : ℕ). cond (text_at (length file) j) (rep page (get_or file i 0)) (get_or file i 0)) (zero-add i)

  by_kind : (i : ℕ) {t : Bool} → i < length file → text_at (length file) i ≡ t
      → get_or (forwarded page file) i 0 ≡ cond t (rep page (get_or file i 0)) (get_or file i 0)
  by_kind i h e = sent_at i h ∙ ap (λ (t : Bool). cond t (rep page (get_or file i 0)) (get_or file i 0)) e

  pub replaced : Replaced page file (forwarded page file)
  replaced = record { long = forwarded_length page file; in_text = λ i h e. by_kind i h e; elsewhere = λ i h e. by_kind i h e }

  -- and no other list is so
  pub replaced_one : (a b : List ℕ) → Replaced page file a → Replaced page file b → a ≡ b
  replaced_one a b p q = ext_get_or 0 a b (p.long ∙ sym q.long) (λ i h. at i (omega (arith, p.long)))
    where
      at : (i : ℕ) → i < length file → get_or a i 0 ≡ get_or b i 0
      at i h = go (text_at (length file) i) refl
        where
          go : (t : Bool) → text_at (length file) i ≡ t → get_or a i 0 ≡ get_or b i 0
          go true e = p.in_text i h e ∙ sym (q.in_text i h e)
          go false e = p.elsewhere i h e ∙ sym (q.elsewhere i h e)

  every : (i : ℕ) → Changed page file i → (k : ℕ) × (k < length (notes_of page file)) × (get_or (notes_of page file) k 0 ≡ i * 256 + get_or file i 0)
  unfolding notes_of
  every i c =
      let changed = ap (λ (j : ℕ). differs (rep page) (text_at (length file)) j (get_or file i 0)) (zero-add i) ∙ to_differs i c in
      let w = every_changed (rep page) (text_at (length file)) 0 file i c.below changed in
      (w.0, w.1, w.2 ∙ ap (λ (j : ℕ). j * 256 + get_or file i 0) (zero-add i))

  only : (k : ℕ) → k < length (notes_of page file) → (i : ℕ) × Changed page file i × (get_or (notes_of page file) k 0 ≡ i * 256 + get_or file i 0)
  unfolding notes_of
  only k h =
      let n = only_changed (rep page) (text_at (length file)) 0 file k h in
      let changed = ap (λ (j : ℕ). differs (rep page) (text_at (length file)) j (get_or file n.at 0)) (sym (zero-add n.at)) ∙ n.changed in
      (n.at, differs_to n.at n.below changed, n.note ∙ ap (λ (j : ℕ). j * 256 + get_or file n.at 0) (zero-add n.at))

  pub listed : Bytes file → Listed page file (notes_of page file)
  unfolding notes_of
  listed bytes = record { every = every; only = only; rising = rising (rep page) (text_at (length file)) 0 file bytes }

  -- each note of one list is in the other, and both rise
  pub listed_one : (a b : List ℕ) → Listed page file a → Listed page file b → a ≡ b
  listed_one a b p q =
      same_rising a b (λ j k l h. omega (arith, p.rising j k l h)) (λ j k l h. omega (arith, q.rising j k l h)) (among a b p q) (among b a q p)
    where
      among : (a b : List ℕ) → Listed page file a → Listed page file b → (k : ℕ) → k < length a
          → (j : ℕ) × (j < length b) × (get_or b j 0 ≡ get_or a k 0)
      among a b p q k h =
          let o = p.only k h in
          let w = q.every o.0 o.1 in
          (w.0, w.1, w.2 ∙ sym o.2)

pub forwarded_is_one : ForwardedIsOne
forwarded_is_one page file = record { some = (forwarded page file, replaced page file); coincide = replaced_one page file }

pub notes_are_one : NotesAreOne
notes_are_one page file bytes = record { some = (notes_of page file, listed page file bytes); coincide = listed_one page file }

-- behind what was put in front, all is as it was
pub behind : (xs ys : List ℕ) (n : ℕ) → length xs ≡ n → drop n (put 0 xs ys) ≡ drop n ys
behind xs ys n e =
    let z : 0 + length xs ≡ n = omega (arith, e) in
    drop_at xs (drop (0 + length xs) ys) n e ∙ ap (λ (m : ℕ). drop m ys) z

pub forwards : Forwards
forwards page file transfer cheque out notes out' notes' answer bytes promise z =
    let o = prepared_origin page transfer cheque file out notes out' notes' answer promise z bytes in
    let count : length (notes_of page file) ≡ answer.notes = sym (success page transfer cheque file out notes out' notes' answer promise z).2 in
    record {
      sound = (judged page transfer cheque file).sound.0 o.sound;
      output = subst (Replaced page file) o.forwards (replaced page file);
      output_rest =
          ap (drop (length file)) (promise.out_is ∙ sym (on_eq _ z refl)) ∙ behind (forwarded page file) out (length file) (forwarded_length page file);
      counted =
          omega
          (arith, count, ap length (promise.notes_are ∙ sym (on_eq _ z refl)), length-append (notes_of page file) (drop (0 + length (notes_of page file)) notes));
      noted = subst (Listed page file) o.notes_are (listed page file bytes);
      notes_rest =
          ap (drop answer.notes) (promise.notes_are ∙ sym (on_eq _ z refl)) ∙ behind (notes_of page file) notes answer.notes count;
    }
