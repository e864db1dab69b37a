-- Forwarded bytes and notes, place by place: what stands at each place, and what the notes are.
use Prim.Native.Nat.{ℕ, zero, suc, ◌+◌, ◌*◌, ◌/◌, ◌<◌}
use mathlib.Core.Path.{◌≡◌, refl, sym, ap, ◌∙◌}
use mathlib.Core.Bool.{Bool, true, false, cond, false≢true}
use mathlib.Core.List.{List, [], ◌∷◌}
use native.Mathlib.Nat.{add-zero}
use native.Mathlib.Omega.{arith}
use lib.ListN.{length, get_or}
use Rattle.forwarding.specs.Forwarded.{fwd, differs, notes}
use Rattle.forwarding.specs.RoundTrip.{Bytes}

module _ (r : ℕ → ℕ) (is_text : ℕ → Bool) where
  pub fwd_at : (i : ℕ) (f : List ℕ) (k : ℕ) → k < length f
      → get_or (fwd r is_text i f) k 0 ≡ cond (is_text (i + k)) (r (get_or f k 0)) (get_or f k 0)
  fwd_at i [] k h = absurd (omega (arith, h))
  fwd_at i (b ∷ f) zero h = ap (λ (j : ℕ). cond (is_text j) (r b) b) (sym (add-zero i))
  fwd_at i (b ∷ f) (suc k) h =
      let e : suc i + k ≡ i + suc k = omega arith in
      fwd_at (suc i) f k (omega (arith, h)) ∙ ap (λ (j : ℕ). cond (is_text j) (r (get_or f k 0)) (get_or f k 0)) e

  -- v is the note of a changed byte of f, of which the first stands at place i
  pub record NoteOf (i : ℕ) (f : List ℕ) (v : ℕ) : Type 0 where
    pub at : ℕ
    pub below : at < length f
    pub note : v ≡ (i + at) * 256 + get_or f at 0
    pub changed : differs r is_text (i + at) (get_or f at 0) ≡ true

  module _ (i b : ℕ) (f : List ℕ) where
    first : differs r is_text i b ≡ true → NoteOf i (b ∷ f) (i * 256 + b)
    first e =
        record {
          at = 0;
          below = omega arith;
          note = ap (λ (j : ℕ). j * 256 + b) (sym (add-zero i));
          changed = ap (λ (j : ℕ). differs r is_text j b) (add-zero i) ∙ e;
        }

    later : (v : ℕ) → NoteOf (suc i) f v → NoteOf i (b ∷ f) v
    later v n =
        let e : suc i + n.at ≡ i + suc n.at = omega arith in
        record {
          at = suc n.at;
          below = omega (arith, n.below);
          note = n.note ∙ ap (λ (j : ℕ). j * 256 + get_or f n.at 0) e;
          changed = ap (λ (j : ℕ). differs r is_text j (get_or f n.at 0)) (sym e) ∙ n.changed;
        }

  pub only_changed : (i : ℕ) (f : List ℕ) (k : ℕ) → k < length (notes r is_text i f) → NoteOf i f (get_or (notes r is_text i f) k 0)
  only_changed i [] k h = absurd (omega (arith, h))
  only_changed i (b ∷ f) k h = go (differs r is_text i b) refl k h (only_changed (suc i) f)
    where
      go : (d : Bool) → differs r is_text i b ≡ d → (k : ℕ) → k < length (cond d ((i * 256 + b) ∷ notes r is_text (suc i) f) (notes r is_text (suc i) f))
          → ((k : ℕ) → k < length (notes r is_text (suc i) f) → NoteOf (suc i) f (get_or (notes r is_text (suc i) f) k 0))
          → NoteOf i (b ∷ f) (get_or (cond d ((i * 256 + b) ∷ notes r is_text (suc i) f) (notes r is_text (suc i) f)) k 0)
      go true e zero h more = first i b f e
      go true e (suc k) h more = later i b f _ (more k (omega (arith, h)))
      go false e k h more = later i b f _ (more k h)

  pub every_changed : (i : ℕ) (f : List ℕ) (j : ℕ) → j < length f → differs r is_text (i + j) (get_or f j 0) ≡ true
      → (k : ℕ) × (k < length (notes r is_text i f)) × (get_or (notes r is_text i f) k 0 ≡ (i + j) * 256 + get_or f j 0)
  every_changed i [] j h e = absurd (omega (arith, h))
  every_changed i (b ∷ f) zero h e = go (differs r is_text i b) refl
    where
      go : (d : Bool) → differs r is_text i b ≡ d
          → (k : ℕ) × (k < length (cond d ((i * 256 + b) ∷ notes r is_text (suc i) f) (notes r is_text (suc i) f)))
          × (get_or (cond d ((i * 256 + b) ∷ notes r is_text (suc i) f) (notes r is_text (suc i) f)) k 0 ≡ (i + 0) * 256 + b)
      go true q = (0, omega arith, ap (λ (j : ℕ). j * 256 + b) (sym (add-zero i)))
      go false q = absurd (false≢true (sym q ∙ ap (λ (j : ℕ). differs r is_text j b) (sym (add-zero i)) ∙ e))
  every_changed i (b ∷ f) (suc j) h e =
      let q : suc i + j ≡ i + suc j = omega arith in
      go (differs r is_text i b) q
      (every_changed (suc i) f j (omega (arith, h)) (ap (λ (n : ℕ). differs r is_text n (get_or f j 0)) q ∙ e))
    where
      go : (d : Bool) → suc i + j ≡ i + suc j
          → ((k : ℕ) × (k < length (notes r is_text (suc i) f)) × (get_or (notes r is_text (suc i) f) k 0 ≡ (suc i + j) * 256 + get_or f j 0))
          → (k : ℕ) × (k < length (cond d ((i * 256 + b) ∷ notes r is_text (suc i) f) (notes r is_text (suc i) f)))
          × (get_or (cond d ((i * 256 + b) ∷ notes r is_text (suc i) f) (notes r is_text (suc i) f)) k 0 ≡ (i + suc j) * 256 + get_or f j 0)
      go true q w = (suc w.0, omega (arith, w.1), w.2 ∙ ap (λ (n : ℕ). n * 256 + get_or f j 0) q)
      go false q w = (w.0, w.1, w.2 ∙ ap (λ (n : ℕ). n * 256 + get_or f j 0) q)

  pub rising : (i : ℕ) (f : List ℕ) → Bytes f → (j k : ℕ) → j < k → k < length (notes r is_text i f)
      → get_or (notes r is_text i f) j 0 / 256 < get_or (notes r is_text i f) k 0 / 256
  rising i [] w j k l h = absurd (omega (arith, h))
  rising i (b ∷ f) w j k l h = go (differs r is_text i b) j k l h (only_changed (suc i) f) (rising (suc i) f (λ n. w (suc n)))
    where
      go : (d : Bool) (j k : ℕ) → j < k → k < length (cond d ((i * 256 + b) ∷ notes r is_text (suc i) f) (notes r is_text (suc i) f))
          → ((k : ℕ) → k < length (notes r is_text (suc i) f) → NoteOf (suc i) f (get_or (notes r is_text (suc i) f) k 0))
          → ((j k : ℕ) → j < k → k < length (notes r is_text (suc i) f) → get_or (notes r is_text (suc i) f) j 0 / 256 < get_or (notes r is_text (suc i) f) k 0 / 256)
          → get_or (cond d ((i * 256 + b) ∷ notes r is_text (suc i) f) (notes r is_text (suc i) f)) j 0 / 256
          < get_or (cond d ((i * 256 + b) ∷ notes r is_text (suc i) f) (notes r is_text (suc i) f)) k 0 / 256
      go true zero (suc k) l h n more =
          let v = get_or (notes r is_text (suc i) f) k 0 in
          let o = n k (omega (arith, h)) in
          omega (arith, o.note, w 0)
      go true (suc j) (suc k) l h n more = more j k (omega (arith, l)) (omega (arith, h))
      go true zero zero l h n more = absurd (omega (arith, l))
      go true (suc j) zero l h n more = absurd (omega (arith, l))
      go false j k l h n more = more j k l h
