-- Noting the first n characters sixteen a turn, of which the last turn may look beyond these.
use Rattle.std.specs.Prelude.{ℕ, ◌+◌, ◌*◌, ◌-◌, ◌/◌, ◌≤◌, ◌<◌, ◌≡◌, cond, List, [], ◌++◌, ltb, length, take, drop}
use Rattle.std.specs.Simd.{first_chunks}
use Rattle.std.proofs.Common.{sym, ap, ◌∙◌, arith, get_or, min, take-add, take-take, length-take-le, ltb-true, ltb-false}
use Rattle.laws.specs.Choice.{either_known}
use Rattle.forwarding.specs.Turns.{chunks_long, chunk_in}
use Rattle.forwarding.specs.Noted.{Noted, first_notes, more_fit, more_noted}

-- the characters of a turn, which is lent sixteen
abbrev pub turn : ℕ → ℕ → List ℕ → List ℕ
turn i next s = take (next - i) (take (i + 16 - i) (drop i s))

-- from character i to the next turn's first, or to the field's end
module _ (i n : ℕ) (more : i < n) {next : ℕ} (e : next ≡ cond (ltb (i + 16) n) (i + 16) n) where
  abbrev Next : ℕ → Type 0
  Next k = (i < k) × (k ≤ n) × (k ≤ i + 16)

  pub next_turn : (i < next) × (next ≤ n) × (next ≤ i + 16)
  next_turn =
      rw e
      (either_known Next (ltb (i + 16) n)
      (λ t. let l : i + 16 < n = ltb-true (i + 16) n t in (omega arith, omega arith, omega arith))
      (λ f. (more, omega arith, ltb-false (i + 16) n f)))

-- the characters of each turn
abbrev pub sixteens : ℕ → List ℕ → List (List ℕ)
sixteens n s = first_chunks 16 (length (take (n + 15) s) / 16) (take (n + 15) s)

-- the notes of the turns before turn k
abbrev pub notes_before : ℕ → ℕ → ℕ → List ℕ → List ℕ
notes_before place k n s = first_notes place (min (16 * k) n) s

module _ (place n k : ℕ) (s : List ℕ) (fits : n + 15 ≤ length s) {ts : List (List ℕ)} (are : ts ≡ sixteens n s) where
  many : length ts ≡ (n + 15) / 16
  many =
      omega (arith, ap length are, chunks_long 16 (length (take (n + 15) s) / 16) (take (n + 15) s), length-take-le (n + 15) s fits)

  pub turns_done : length ts ≤ k → notes_before place k n s ≡ first_notes place n s
  turns_done h =
      let z : min (16 * k) n ≡ n = omega (arith, many) in
      ap (λ (m : ℕ). first_notes place m s) z

  module _ (more : k < length ts) {some : ℕ} (e : some ≡ min (n - 16 * k) 16) where
    so_far : min (16 * k) n ≡ 16 * k
    so_far = omega (arith, many)

    next : min (16 * (k + 1)) n ≡ 16 * k + some
    next = omega (arith, many)

    sixteen : get_or ts k [] ≡ take 16 (drop (16 * k) s)
    sixteen =
        ap (λ (rs : List (List ℕ)). get_or rs k []) are
        ∙ chunk_in 16 (length (take (n + 15) s) / 16) k (n + 15) s (omega (arith, many, length-take-le (n + 15) s fits)) (omega (arith, many))

    these : take some (get_or ts k []) ≡ take some (drop (16 * k) s)
    these = ap (take some) sixteen ∙ take-take some 16 (drop (16 * k) s) (omega arith)

    through : take (16 * k + some) s ≡ take (16 * k) s ++ take some (get_or ts k [])
    through = take-add (16 * k) some s ∙ ap (λ (l : List ℕ). take (16 * k) s ++ l) (sym these)

    pub turn_low : 16 * k + some ≤ n
    turn_low = omega (arith, many)

    pub turn_fits : length (notes_before place k n s) + length (first_notes (place + 16 * k) some (get_or ts k [])) ≤ length (first_notes place n s)
    turn_fits = rw so_far (more_fit place (16 * k) (16 * k + some) s (take some (get_or ts k [])) (omega (arith, many)) through n turn_low)

    pub turn_noted : {have : ℕ} {ps ps' ps'' : List ℕ} {m j : ℕ} → have + length (first_notes place n s) ≤ length ps
        → Noted (notes_before place k n s) have ps ps' m → Noted (first_notes (place + 16 * k) some (get_or ts k [])) m ps' ps'' j
        → Noted (notes_before place (k + 1) n s) have ps ps'' j
    turn_noted room u v =
        rw next
        (more_noted place (16 * k) (16 * k + some) s (take some (get_or ts k [])) (omega (arith, many)) through n turn_low room (rw so_far at u) v)
