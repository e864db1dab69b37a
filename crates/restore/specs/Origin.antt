-- Demand 3, what a pair of a forwarded file and notes comes from. "Two different sound files never share forwarded file and
-- notes. Restore accepts a pair exactly when some sound file yields it, and gives back that very file. The forwarded file is
-- sound and yields itself, with no notes." The theorems: `one_sound_file`; `yielded_origin` and `origin_yielded`;
-- `gives_back`; `yields_itself`.
use Rattle.std.specs.Prelude.{ℕ, ◌+◌, ◌≤◌, ◌≡◌, Bool, true, false, cond, eqb, ltb, length, take, drop, List, []}
use Rattle.std.proofs.Math.Path.{refl, sym, ap, ap₂}
use Rattle.std.proofs.Common.{subst, ◌∙◌, arith, take_at, eq-eqb, eqb-true}
use Rattle.std.proofs.Math.Bool.{◌&&◌}
use Rattle.std.proofs.lemmas.Bool.{eqb-false}
use Rattle.laws.specs.Choice.{on, on_eq, off_eq, off_lt, both}
use Rattle.charset.specs.Table.{is_page}
use Rattle.judge.specs.Verdict.{verdict_of}
use Rattle.judge.specs.declared.Verdict.{Verdict}
use Rattle.forwarding.specs.Forwarded.{forwarded, notes_of}
use Rattle.forwarding.specs.Merge.{original_of, is_pair}
use Rattle.forwarding.specs.Put.{put}
use Rattle.forwarding.specs.RoundTrip.{Bytes, forwarded_length, forwarded_forwarded, forwarded_notes, forwarded_bytes, original_back, pair_yielded, pair_yields, original_bytes}
use Rattle.prepare.specs.Prepared.{not_prepared, done, send_of, prepare_of, PreparedAs}
use Rattle.prepare.specs.declared.Prepared.{Prepared}
use Rattle.alike.specs.Files.{judged_alike}
use Rattle.restore.specs.Yields.{SoundOrigin}
use Rattle.restore.specs.Restored.{answer, is_yielded, restore_of, RestoredAs}
use Rattle.restore.specs.declared.Restored.{Restored}

module _ (page : ℕ) (transfer cheque : List ℕ) where
  -- a file and its forwarded file are sound together
  sound_alike : (file : List ℕ) → (verdict_of page (forwarded page file) transfer cheque).number ≡ (verdict_of page file transfer cheque).number
  sound_alike file = ap (λ (v : Verdict). v.number) (judged_alike page file transfer cheque)

  module _ (file sent notes : List ℕ) (o : SoundOrigin page transfer cheque file sent notes) where
    pub very_file : original_of sent notes ≡ file
    very_file = ap₂ original_of (sym o.forwards) (sym o.notes_are) ∙ original_back page file o.bytes

    sent_sound : (verdict_of page sent transfer cheque).number ≡ 0
    sent_sound = ap (λ (s : List ℕ). (verdict_of page s transfer cheque).number) (sym o.forwards) ∙ sound_alike file ∙ o.sound

    sent_pair : is_pair page sent notes ≡ true
    sent_pair = ap₂ (is_pair page) (sym o.forwards) (sym o.notes_are) ∙ pair_yielded page file o.bytes

    pub origin_yielded : is_yielded page sent notes transfer cheque ≡ true
    unfolding is_yielded
    origin_yielded = ap₂ ◌&&◌ (eq-eqb _ _ sent_sound) sent_pair

  pub one_sound_file : (f f' sent notes : List ℕ) → SoundOrigin page transfer cheque f sent notes → SoundOrigin page transfer cheque f' sent notes → f ≡ f'
  one_sound_file f f' sent notes o o' = sym (very_file f sent notes o) ∙ very_file f' sent notes o'

  pub yielded_origin : (sent notes : List ℕ) → Bytes sent → is_yielded page sent notes transfer cheque ≡ true
      → SoundOrigin page transfer cheque (original_of sent notes) sent notes
  unfolding is_yielded
  yielded_origin sent notes h e =
      let w = both (eqb (verdict_of page sent transfer cheque).number 0) (is_pair page sent notes) e in
      let y = pair_yields page sent notes w.1 in
      record {
        bytes = original_bytes sent notes h;
        sound =
            sym (sound_alike (original_of sent notes)) ∙ ap (λ (s : List ℕ). (verdict_of page s transfer cheque).number) y.0
            ∙ eqb-true (verdict_of page sent transfer cheque).number 0 w.0;
        forwards = y.0;
        notes_are = y.1;
      }

  -- "The forwarded file is sound and yields itself, with no notes."
  pub yields_itself : (file sent notes : List ℕ) → SoundOrigin page transfer cheque file sent notes → SoundOrigin page transfer cheque sent sent []
  yields_itself file sent notes o =
      record {
        bytes = subst Bytes o.forwards (forwarded_bytes page file o.bytes);
        sound = sent_sound file sent notes o;
        forwards = ap (forwarded page) (sym o.forwards) ∙ forwarded_forwarded page file ∙ o.forwards;
        notes_are = ap (notes_of page) (sym o.forwards) ∙ forwarded_notes page file;
      }

  -- what the promise of restore says of a pair
  module _ (sent notes out out' : List ℕ) (given : Restored) (promise : RestoredAs page sent notes transfer cheque out given out') where
    -- a sound file that yields the pair comes back
    pub gives_back : is_page page ≡ true → (file : List ℕ) → SoundOrigin page transfer cheque file sent notes → length sent ≤ length out
        → (given ≡ answer 0) × (out' ≡ put 0 file out)
    unfolding restore_of
    gives_back there file o room =
        let zero : given ≡ answer 0 = promise.answer_is ∙ sym (on _ there (off_lt _ room (on _ (origin_yielded file sent notes o) refl))) in (
          zero,
          promise.out_is
              ∙ sym (on_eq _ (ap (λ (r : Restored). r.number) zero) refl)
              ∙ ap (λ (s : List ℕ). put 0 s out) (very_file file sent notes o),
        )

    -- a refused call changes no byte
    pub refused_keeps : (given.number ≡ 0 → ⊥) → out' ≡ out
    refused_keeps z = promise.out_is ∙ sym (off_eq _ z refl)

  -- what prepare left comes from the file that it prepared
  module _ (file out notes out' notes' : List ℕ) (given : Prepared) (promise : PreparedAs page file transfer cheque out notes given out' notes')
      (z : given.number ≡ 0) where
    -- the page exists, the file is sound, and the answer tells how many notes there are
    abbrev Success : Type 0
    Success = (is_page page ≡ true) × ((verdict_of page file transfer cheque).number ≡ 0) × (given.notes ≡ length (notes_of page file))

    pub success : Success
    unfolding prepare_of send_of
    success = go (is_page page) (eqb (verdict_of page file transfer cheque).number 0) (ltb (length out) (length file)) (ltb (length notes) (length (notes_of page file))) refl refl promise.answer_is
      where
        number_is : {r : Prepared} → given ≡ r → r.number ≡ 0
        number_is e = sym (ap (λ (r : Prepared). r.number) e) ∙ z

        go : (there sound short few : Bool) → is_page page ≡ there → eqb (verdict_of page file transfer cheque).number 0 ≡ sound
            → given ≡ cond there (cond sound (cond short (not_prepared 60 0) (cond few (not_prepared 61 0) (done (length (notes_of page file))))) (not_prepared (verdict_of page file transfer cheque).number (verdict_of page file transfer cheque).rec)) (not_prepared 7 0)
            → Success
        go true true false false t p e = (t, eqb-true _ _ p, ap (λ (r : Prepared). r.notes) e)
        go true true false true t p e = absurd (omega (arith, number_is e))
        go true true true few t p e = absurd (omega (arith, number_is e))
        go true false short few t p e = absurd (eqb-false _ _ p (number_is e))
        go false sound short few t p e = absurd (omega (arith, number_is e))

    pub prepared_origin : Bytes file → SoundOrigin page transfer cheque file (take (length file) out') (take given.notes notes')
    prepared_origin h =
        record {
          bytes = h;
          sound = success.1;
          forwards =
              sym (ap (take (length file)) (promise.out_is ∙ sym (on_eq _ z refl))
              ∙ take_at (forwarded page file) (drop (0 + length (forwarded page file)) out) (length file) (forwarded_length page file));
          notes_are =
              sym (ap (take given.notes) (promise.notes_are ∙ sym (on_eq _ z refl))
              ∙ take_at (notes_of page file) (drop (0 + length (notes_of page file)) notes) given.notes (sym success.2));
        }

  -- and restores to it
  pub comes_back : (file out notes out' notes' room room' : List ℕ) (prepared : Prepared) (restored : Restored) → Bytes file → prepared.number ≡ 0
      → PreparedAs page file transfer cheque out notes prepared out' notes'
      → RestoredAs page (take (length file) out') (take prepared.notes notes') transfer cheque room restored room'
      → length file ≤ length room → (restored ≡ answer 0) × (room' ≡ put 0 file room)
  comes_back file out notes out' notes' room room' prepared restored h z p q l =
      let o = prepared_origin file out notes out' notes' prepared p z h in
      let there = (success file out notes out' notes' prepared p z).0 in
      gives_back (take (length file) out') (take prepared.notes notes') room room' restored q there file o
      (rw (sym (ap length o.forwards) ∙ forwarded_length page file) l)
