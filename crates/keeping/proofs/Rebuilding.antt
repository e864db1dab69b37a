-- Takes of what a book holds, in its order, are accepted and forget nothing: they leave that book.
use Prim.Native.Nat.{ℕ, ◌≤◌, ◌<◌}
use mathlib.Core.Path.{◌≡◌, refl, sym, ap, ap₂, subst, ◌∙◌}
use mathlib.Core.Bool.{Bool, true, false, cond}
use mathlib.Core.List.{List, [], ◌∷◌, ◌++◌, append-nil}
use native.Mathlib.Omega.{arith}
use lib.ListN.{length, replicate, length-append}
use lib.Seq.{append_snoc}
use Rattle.laws.specs.Choice.{off, on_eq, off_eq, off_lt}
use Rattle.laws.specs.Steps.{fold}
use Rattle.book.specs.declared.Entry.{Entry}
use Rattle.book.specs.declared.Book.{Book}
use Rattle.book.specs.Model.{Model, model, empty, is_forgotten, held_on, holds, is_too_large, answer_of, after}
use Rattle.book.specs.Kept.{held_in, book_of}
use Rattle.book.specs.Laws.{held_append, held_few, held_is}
use Rattle.keeping.specs.Keeping.{answers_by, TakesRebuild}
use Rattle.keeping.proofs.Forgetting.{held_later, held_turned, holds_not}
use Rattle.keeping.proofs.Keeping.{accepted, either_way, all_takes}

-- a take that is accepted, and by which nothing is forgotten
pub record Joins (m : Model) (e : Entry) : Type 0 where
  pub small : is_too_large e ≡ false
  pub in_time : m.day ≤ e.day
  pub free : holds e.number m.held ≡ false
  pub room : length m.held < 200
  pub stay : held_on e.day m.held ≡ m.held

abbrev pub with : Model → Entry → Model
with m e = model e.day (m.held ++ (e ∷ []))

-- such takes one after the other
abbrev pub Runs : Model → List Entry → Type 0
Runs m [] = Unit {0}
Runs m (e ∷ es) = Joins m e × Runs (with m e) es

-- the book's day after them
abbrev last_day : ℕ → List Entry → ℕ
last_day day [] = day
last_day day (e ∷ es) = last_day e.day es

module _ (m : Model) (e : Entry) (j : Joins m e) where
  is_zero : answer_of m e ≡ 0
  unfolding answer_of
  is_zero =
      let room : length (held_on e.day m.held) ≡ 200 → ⊥ = λ full. omega (arith, j.room, full, ap length j.stay) in
      sym (off _ j.small (off_lt _ j.in_time (off _ (ap (holds e.number) j.stay ∙ j.free) (off_eq _ room refl))))

  is_with : after m e ≡ with m e
  unfolding after
  is_with = sym (on_eq _ is_zero refl) ∙ ap (λ (hs : List Entry). model e.day (hs ++ (e ∷ []))) j.stay

runs_answer : (m : Model) (es : List Entry) → Runs m es
    → (answers_by after m es ≡ replicate (length es) 0) × (fold after m es ≡ model (last_day m.day es) (m.held ++ es))
runs_answer m [] r = (refl, λ i. model m.day (sym (append-nil m.held) i))
runs_answer m (e ∷ es) r =
    let then = runs_answer (with m e) es r.1 in
    let on = is_with m e r.0 in (
      ap₂ (λ (n : ℕ) (ns : List ℕ). n ∷ ns) (is_zero m e r.0) (ap (λ (x : Model). answers_by after x es) on ∙ then.0),
      ap (λ (x : Model). fold after x es) on ∙ then.1 ∙ ap (model (last_day e.day es)) (append_snoc m.held e es),
    )

pub runs_few : (m : Model) (es : List Entry) → Runs m es → length m.held ≤ 200 → length (m.held ++ es) ≤ 200
runs_few m [] r h = omega (arith, h, ap length (append-nil m.held))
runs_few m (e ∷ es) r h =
    let more = runs_few (with m e) es r.1 (omega (arith, r.0.room, length-append m.held (e ∷ []))) in
    omega (arith, more, ap length (append_snoc m.held e es))

-- one more at the end
runs_more : (m : Model) (es : List Entry) (e : Entry) → Runs m es → Joins (model (last_day m.day es) (m.held ++ es)) e → Runs m (es ++ (e ∷ []))
runs_more m [] e r j = (subst (λ (hs : List Entry). Joins (model m.day hs) e) (append-nil m.held) j, tt)
runs_more m (x ∷ es) e r j =
    (r.0, runs_more (with m x) es e r.1 (subst (λ (hs : List Entry). Joins (model (last_day x.day es) hs) e) (sym (append_snoc m.held x es)) j))

last_more : (day : ℕ) (es : List Entry) (e : Entry) → last_day day (es ++ (e ∷ [])) ≡ e.day
last_more day [] e = refl
last_more day (x ∷ es) e = last_more x.day es e

-- without what is forgotten on a day they are accepted too
module _ (day : ℕ) where
  forgets : (hs : List Entry) (e : Entry) (b : Bool) → is_forgotten day e ≡ b → held_on day (hs ++ (e ∷ [])) ≡ held_on day hs ++ cond b [] (e ∷ [])
  forgets hs e b h = held_append day hs (e ∷ []) ∙ ap (λ (x : Bool). held_on day hs ++ cond x [] (e ∷ [])) h

  runs_held : (hs es : List Entry) (k low : ℕ) → low ≤ k → Runs (model k hs) es → Runs (model low (held_on day hs)) (held_on day es)
  runs_held hs [] k low l r = tt
  runs_held hs (e ∷ es) k low l r = go (is_forgotten day e) refl (runs_held (hs ++ (e ∷ [])) es e.day) r.0.in_time
    where
      go : (b : Bool) → is_forgotten day e ≡ b
          → ((low' : ℕ) → low' ≤ e.day → Runs (model e.day (hs ++ (e ∷ []))) es → Runs (model low' (held_on day (hs ++ (e ∷ [])))) (held_on day es))
          → k ≤ e.day → Runs (model low (held_on day hs)) (cond b (held_on day es) (e ∷ held_on day es))
      go true h then late =
          subst (λ (xs : List Entry). Runs (model low xs) (held_on day es)) (forgets hs e true h ∙ append-nil (held_on day hs)) (then low (omega (arith, l, late)) r.1)
      go false h then late = (
        record {
          small = r.0.small;
          in_time = omega (arith, l, late);
          free = holds_not e.number day hs r.0.free;
          room = omega (arith, held_few day hs, r.0.room);
          stay = held_turned e.day day hs ∙ ap (held_on day) r.0.stay;
        },
        subst (λ (xs : List Entry). Runs (model e.day xs) (held_on day es)) (forgets hs e false h) (then e.day (omega arith) r.1),
      )

  last_held : (hs es : List Entry) (k low : ℕ) → low ≤ k → Runs (model k hs) es → last_day low (held_on day es) ≤ last_day k es
  last_held hs [] k low l r = l
  last_held hs (e ∷ es) k low l r = go (is_forgotten day e) (last_held (hs ++ (e ∷ [])) es e.day) r.0.in_time
    where
      go : (b : Bool) → ((low' : ℕ) → low' ≤ e.day → Runs (model e.day (hs ++ (e ∷ []))) es → last_day low' (held_on day es) ≤ last_day e.day es) → k ≤ e.day
          → last_day low (cond b (held_on day es) (e ∷ held_on day es)) ≤ last_day e.day es
      go true then late = then low (omega (arith, l, late)) r.1
      go false then late = then e.day (omega arith) r.1

-- what takes from a new book leave
pub record Reached (m : Model) : Type 0 where
  pub runs : Runs empty m.held
  pub last : last_day 0 m.held ≡ m.day

module _ (m : Model) (e : Entry) (r : Reached m) where
  abbrev kept : List Entry
  kept = held_on e.day m.held

  joins : answer_of m e ≡ 0 → Joins (model (last_day 0 kept) kept) e
  joins z =
      let a = accepted m e z in
      record {
        small = a.small;
        in_time = omega (arith, a.in_time, r.last, last_held e.day [] m.held 0 0 (omega arith) r.runs);
        free = a.free;
        room = omega (arith, a.room, held_few e.day m.held, runs_few empty m.held r.runs (omega arith));
        stay = held_later e.day e.day (omega arith) m.held;
      }

  reaches : Reached (after m e)
  reaches =
      either_way m e Reached r (λ zero.
      record {
        runs = runs_more empty kept e (runs_held e.day [] m.held 0 0 (omega arith) r.runs) (joins zero);
        last = last_more 0 kept e;
      })

reached_all : (m : Model) (es : List Entry) → Reached m → Reached (fold after m es)
reached_all m [] r = r
reached_all m (e ∷ es) r = reached_all (after m e) es (reaches m e r)

pub reached : (es : List Entry) → Reached (fold after empty es)
reached es = reached_all empty es record { runs = tt; last = refl }

pub takes_rebuild : TakesRebuild
takes_rebuild es answers last t others again u =
    let m = fold after empty es in
    let r = reached es in
    let is = (all_takes es answers last t).1 in
    let held : held_in last ≡ m.held = ap held_in is ∙ held_is m in
    let many : last.held ≡ length m.held = ap (λ (b : Book). b.held) is in
    let rebuilt = all_takes (held_in last) others again u in
    let ran = runs_answer empty m.held r.runs in (
      rebuilt.0 ∙ ap (answers_by after empty) held ∙ ran.0 ∙ ap (λ (n : ℕ). replicate n 0) (sym many),
      rebuilt.1 ∙ ap (λ (xs : List Entry). book_of (fold after empty xs)) held ∙ ap book_of (ran.1 ∙ ap (λ (day : ℕ). model day m.held) r.last) ∙ sym is,
    )
