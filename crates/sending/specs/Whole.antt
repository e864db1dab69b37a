-- Sending a file: Q, the T records, and Z with fresh figures. What is then in the output is the forwarded kept file.
use Rattle.std.specs.Prelude.{ℕ, ◌+◌, ◌-◌, ◌≤◌, ◌≡◌, List, ◌++◌, length, drop}
use Rattle.std.proofs.Common.{sym, ap, ap₂, subst, ◌∙◌, append_assoc, arith, length-append, length-drop, take_at, drop_at}
use Rattle.laws.specs.Sums.{sum_of}
use Rattle.charset.specs.Table.{rep}
use Rattle.structure.specs.Slots.{slot_at}
use Rattle.structure.specs.Walk.{structure_of}
use Rattle.structure.specs.Shape.{Fits}
use Rattle.forwarding.specs.Text.{q_texts, lies}
use Rattle.forwarding.specs.Forwarded.{fwd, forwarded, notes_of}
use Rattle.forwarding.specs.Put.{put, put_part}
use Rattle.forwarding.specs.Between.{between}
use Rattle.forwarding.specs.Changes.{notes_page}
use Rattle.forwarding.specs.Fields.{field_notes}
use Rattle.forwarding.specs.Sent.{sent_all}
use Rattle.forwarding.specs.Sized.{z_at, Sized}
use Rattle.forwarding.specs.Noted.{Noted}
use Rattle.judge.specs.Sums.{euros}
use Rattle.judge.specs.Records.{joined, file_of, Lengths}
use Rattle.place.specs.Placing.{back_as, q_same, after_t, same_t}
use Rattle.note.specs.Noting.{q_room, t_room, note_all}
use Rattle.sorting.specs.Kept.{fresh_z, kept_in, named_in, kept_file}
use Rattle.sorting.specs.Frame.{z_is, z_of, kept_lengths, kept_sized}
use Rattle.sending.specs.Sending.{RoomsIn, Sent}
use Rattle.sending.specs.declared.Next.{Next}

-- what sending asks: the figures of a file that fits, and room for all
pub record CanSend (page : ℕ) (file : List ℕ) (n : ℕ) (transfer cheque : List ℕ) (kept sum : ℕ) (out notes list : List ℕ) : Type 0 where
  pub fits : structure_of file ≡ Fits n
  pub kept_is : kept ≡ length (kept_in page file transfer cheque)
  pub sum_is : sum ≡ sum_of euros (kept_in page file transfer cheque)
  pub bytes : length (kept_file page file transfer cheque) ≤ length out
  pub places : length (notes_of page (kept_file page file transfer cheque)) ≤ length notes
  pub names : length (named_in page file transfer cheque) ≤ length list

-- and what it leaves
pub record FileSent (page : ℕ) (file transfer cheque out notes list out' notes' list' : List ℕ) : Type 0 where
  pub output : out' ≡ put 0 (forwarded page (kept_file page file transfer cheque)) out
  pub noted : notes' ≡ put 0 (notes_of page (kept_file page file transfer cheque)) notes
  pub listed : list' ≡ put 0 (named_in page file transfer cheque) list

-- the records of a file, at both ends
module _ (q : List ℕ) (ks : List (List ℕ)) (z : List ℕ) (sized : Lengths q ks z) where
  front_is : between 0 256 (file_of q ks z) ≡ q
  front_is = take_at q (joined ks ++ z) 256 sized.q_size

  back_is : drop (z_at (file_of q ks z)) (file_of q ks z) ≡ z
  back_is =
      let parts : file_of q ks z ≡ (q ++ joined ks) ++ z = sym (append_assoc q (joined ks) z) in
      let long : length (q ++ joined ks) ≡ z_at (file_of q ks z) = omega (arith, ap length parts, length-append (q ++ joined ks) z, sized.z_size) in
      ap (drop (z_at (file_of q ks z))) parts ∙ drop_at (q ++ joined ks) z (z_at (file_of q ks z)) long

module _ (page : ℕ) (file : List ℕ) (n : ℕ) (transfer cheque : List ℕ) {kept sum : ℕ} {out notes list : List ℕ}
    (can : CanSend page file n transfer cheque kept sum out notes list) where
  abbrev whole : List ℕ
  whole = kept_file page file transfer cheque

  sized : Sized whole
  sized = kept_sized file n can.fits page transfer cheque

  q_is : between 0 256 whole ≡ slot_at file 0
  unfolding kept_file
  q_is = front_is (slot_at file 0) (kept_in page file transfer cheque) (z_of file n can.fits page transfer cheque) (kept_lengths file n can.fits page transfer cheque)

  z_back : drop (z_at whole) whole ≡ z_of file n can.fits page transfer cheque
  unfolding kept_file
  z_back = back_is (slot_at file 0) (kept_in page file transfer cheque) (z_of file n can.fits page transfer cheque) (kept_lengths file n can.fits page transfer cheque)

  room_0 : length (notes_of 0 whole) ≤ length notes
  room_0 = omega (arith, can.places, ap length (notes_page 0 page whole))

  -- Q
  pub q_out : 256 ≤ length out
  q_out = omega (arith, can.bytes, sized.long)

  pub q_places : {q : List ℕ} → q ≡ slot_at file 0 → length (field_notes q_texts 0 q) ≤ length notes
  q_places e = subst (λ (s : List ℕ). length (field_notes q_texts 0 s) ≤ length notes) (q_is ∙ sym e) (q_room whole notes sized room_0)

  module _ {q ys out₁ notes₁ : List ℕ} {have : ℕ} (e : q ≡ slot_at file 0) (placed : ys ≡ fwd (rep page) (lies q_texts) 0 q)
      (e₁ : out₁ ≡ back_as 0 256 ys out) (noted : Noted (field_notes q_texts 0 q) 0 notes notes₁ have) where
    placed_q : ys ≡ fwd (rep page) (lies q_texts) 0 (between 0 256 whole)
    placed_q = placed ∙ ap (fwd (rep page) (lies q_texts) 0) (e ∙ sym q_is)

    noted_q : Noted (field_notes q_texts 0 (between 0 256 whole)) 0 notes notes₁ have
    noted_q = subst (λ (s : List ℕ). Noted (field_notes q_texts 0 s) 0 notes notes₁ have) (e ∙ sym q_is) noted

    pub rooms_behind : RoomsIn page file transfer cheque have out₁ notes₁ list
    rooms_behind =
        record {
          bytes = omega (arith, can.bytes, q_same page whole out sized can.bytes ys placed_q e₁);
          places = t_room whole notes sized room_0 noted_q;
          names = can.names;
        }

    -- then the T records
    module _ {next : Next} {out₂ notes₂ list₂ : List ℕ} (sent : Sent page file transfer cheque have out₁ notes₁ list next out₂ notes₂ list₂) where
      pub z_room : next.at + 256 ≤ length out₂
      z_room =
          omega (arith, sent.at_is, can.bytes, sized.long, same_t page whole out sized can.bytes ys placed_q e₁ sent.placed)

      pub z_low : next.at + 256 ≤ 7679744
      z_low = omega (arith, sent.at_is, sized.long, sized.most)

      -- and then Z
      pub all_sent : {z fz : List ℕ} → z ≡ slot_at file (n + 1) → fz ≡ fresh_z z kept sum
          → FileSent page file transfer cheque out notes list (back_as next.at (next.at + 256) fz out₂) notes₂ list₂
      all_sent {z} {fz} s f =
          let fresh : fz ≡ drop (z_at whole) whole =
          f ∙ (λ i. fresh_z (s i) (can.kept_is i) (can.sum_is i))
          ∙ ap (λ (t : List ℕ). fresh_z t (length (kept_in page file transfer cheque)) (sum_of euros (kept_in page file transfer cheque))) (sym (z_is file n can.fits))
          ∙ sym z_back in
          let wide : length fz ≡ next.at + 256 - next.at = ap length fresh ∙ omega (arith, length-drop (z_at whole) whole, sized.long) in
          record {
            output =
                sent_all page whole out can.bytes (z_at whole) (omega (arith, sized.long))
                (after_t page whole out sized can.bytes ys placed_q e₁ sent.placed)
                (put_part next.at (next.at + 256) fz out₂ (omega arith) wide
                ∙ ap₂ (λ (a : ℕ) (xs : List ℕ). put a xs out₂) sent.at_is fresh);
            noted = (note_all whole notes sized room_0 noted_q sent.noted page).places_are;
            listed = sent.listed.places_are;
          }
