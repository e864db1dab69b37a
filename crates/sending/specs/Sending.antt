-- Sending a file's kept payments: record by record, and then Q before them and Z behind.
use Rattle.std.specs.Prelude.{ℕ, ◌+◌, ◌-◌, ◌≤◌, ◌<◌, ◌≡◌, List, [], ◌∷◌, ◌++◌, length, Option}
use Rattle.std.proofs.Common.{sym, ap, subst, ◌∙◌, arith, length-append}
use Rattle.laws.specs.Found.{nonzero, or_zero, or_zero_nonzero}
use Rattle.payments.specs.Rules.{key_of}
use Rattle.structure.specs.Slots.{slot_at}
use Rattle.structure.specs.Walk.{structure_of}
use Rattle.structure.specs.Shape.{Fits}
use Rattle.forwarding.specs.Put.{put}
use Rattle.forwarding.specs.Pieces.{sent_in, noted_in}
use Rattle.forwarding.specs.Sized.{z_at, begins_last}
use Rattle.forwarding.specs.Noted.{Noted, noted_is, noted_length}
use Rattle.judge.specs.Records.{file_of, Lengths}
use Rattle.judge.specs.Apart.{slots_from, slots_count}
use Rattle.place.specs.Placing.{place_same, place_last}
use Rattle.note.specs.Noting.{note_same, note_last}
use Rattle.sorting.specs.Kept.{kept, named, t_records, rule_in, kept_in, named_in, kept_file}
use Rattle.sorting.specs.Lists.{named_append}
use Rattle.sorting.proofs.Sound.{first_below}
use Rattle.sorting.specs.Course.{place_of, z_at_place}
use Rattle.sorting.specs.Frame.{fit, records_are, behind, records_upto, records_split, records_more, z_of, kept_lengths, kept_few, kept_sized}
use Rattle.sending.specs.Turns.{next_are, Paid, RoomFor}
use Rattle.sending.specs.Course.{SentTo, Rooms, sent_first, sent_room, sent_one}
use Rattle.sending.specs.declared.Next.{Next}

-- where Z stands in the kept file
z_is : (file : List ℕ) (n : ℕ) (e : structure_of file ≡ Fits n) (page : ℕ) (transfer cheque : List ℕ)
    → z_at (kept_file page file transfer cheque) ≡ place_of (length (kept_in page file transfer cheque))
unfolding kept_file
z_is file n e page transfer cheque =
    z_at_place (slot_at file 0) (kept_in page file transfer cheque) (z_of file n e page transfer cheque) (kept_lengths file n e page transfer cheque) (kept_few file n e page transfer cheque)

abbrev pub SentIn : ℕ → List ℕ → List ℕ → List ℕ → ℕ → List ℕ → List ℕ → List ℕ → ℕ → Next → List ℕ → List ℕ → List ℕ → Type 0
SentIn page file transfer cheque have out notes list k next out' notes' list' =
    SentTo page (rule_in page file transfer cheque) (slots_from file 1 k) (kept_file page file transfer cheque) have out notes list next out' notes' list'

abbrev pub RoomsIn : ℕ → List ℕ → List ℕ → List ℕ → ℕ → List ℕ → List ℕ → List ℕ → Type 0
RoomsIn page file transfer cheque have out notes list =
    Rooms (rule_in page file transfer cheque) (t_records file) (kept_file page file transfer cheque) have out notes list

-- all T records are sent: the kept ones up to Z, and the others named
pub record Sent (page : ℕ) (file transfer cheque : List ℕ) (have : ℕ) (out notes list : List ℕ) (next : Next) (out' notes' list' : List ℕ) : Type 0 where
  pub at_is : next.at ≡ z_at (kept_file page file transfer cheque)
  pub placed : out' ≡ put 256 (sent_in page 256 (z_at (kept_file page file transfer cheque)) (kept_file page file transfer cheque)) out
  pub noted : Noted (noted_in 0 256 (z_at (kept_file page file transfer cheque)) (kept_file page file transfer cheque)) have notes notes' next.notes
  pub listed : Noted (named_in page file transfer cheque) 0 list list' next.names

module _ (page : ℕ) (file transfer cheque : List ℕ) (n : ℕ) (e : structure_of file ≡ Fits n) (have : ℕ) (out notes list : List ℕ)
    (rooms : RoomsIn page file transfer cheque have out notes list) where
  abbrev rule : List ℕ → ℕ
  rule t = rule_in page file transfer cheque t

  abbrev q : List ℕ
  q = slot_at file 0

  pub send_first : SentIn page file transfer cheque have out notes list 0 (next_are 256 have 0) out notes list
  send_first =
      sent_first page rule (t_records file) (kept_file page file transfer cheque) have out notes list (kept_sized file n e page transfer cheque) rooms

  -- record k + 1 behind the first k: the records ts of the file, of which the kept stand before z
  module _ (ts : List (List ℕ)) (z : List ℕ) (k : ℕ) (l : k < n) (split : ts ≡ slots_from file 1 k ++ (slot_at file (k + 1) ∷ behind file n e k))
      (sized : Lengths q (kept rule ts) z) (few : length (kept rule ts) ≤ 9999) (room : Rooms rule ts (file_of q (kept rule ts) z) have out notes list)
      {next : Next} {out' notes' list' : List ℕ} (h : SentTo page rule (slots_from file 1 k) (file_of q (kept rule ts) z) have out notes list next out' notes' list')
      (first : ℕ) (asked : first ≡ rule (slot_at file (k + 1))) where
    abbrev us : List (List ℕ)
    us = slots_from file 1 k

    abbrev t : List ℕ
    t = slot_at file (k + 1)

    abbrev parted : List (List ℕ)
    parted = us ++ (t ∷ behind file n e k)

    sized' : Lengths q (kept rule parted) z
    sized' = subst (λ (l : List (List ℕ)). Lengths q (kept rule l) z) split sized

    few' : length (kept rule parted) ≤ 9999
    few' = subst (λ (l : List (List ℕ)). length (kept rule l) ≤ 9999) split few

    room' : Rooms rule parted (file_of q (kept rule parted) z) have out notes list
    room' = subst (λ (l : List (List ℕ)). Rooms rule l (file_of q (kept rule l) z) have out notes list) split room

    h' : SentTo page rule us (file_of q (kept rule parted) z) have out notes list next out' notes' list'
    h' = subst (λ (l : List (List ℕ)). SentTo page rule us (file_of q (kept rule l) z) have out notes list next out' notes' list') split h

    room_behind : first < 100 → RoomFor t (k + 1) first next out' notes' list'
    room_behind low =
        sent_room page rule q us (behind file n e k) t z sized' few' have out notes list room' h' (k + 1) first asked (omega (arith, (fit file n e).most)) low

    sent_behind : {next'' : Next} {out'' notes'' list'' : List ℕ} → Paid page t (k + 1) first next out' notes' list' next'' out'' notes'' list''
        → SentTo page rule (slots_from file 1 (k + 1)) (file_of q (kept rule ts) z) have out notes list next'' out'' notes'' list''
    sent_behind {next''} {out''} {notes''} {list''} p =
        let number : k + 1 ≡ 1 + length us = omega (arith, slots_count file 1 k) in
        subst (λ (l : List (List ℕ)). SentTo page rule l (file_of q (kept rule ts) z) have out notes list next'' out'' notes'' list'') (sym (records_more file n e k))
        (subst (λ (l : List (List ℕ)). SentTo page rule (us ++ (t ∷ [])) (file_of q (kept rule l) z) have out notes list next'' out'' notes'' list'') (sym split)
        (sent_one page rule q us (behind file n e k) t z sized' few' have out notes list room' h' (k + 1) first asked number p))

  module _ (k : ℕ) (l : k < n) {next : Next} {out' notes' list' : List ℕ} (h : SentIn page file transfer cheque have out notes list k next out' notes' list')
      (first : ℕ) (asked : first ≡ rule (slot_at file (k + 1))) where
    pub send_room : first < 100 → RoomFor (slot_at file (k + 1)) (k + 1) first next out' notes' list'
    unfolding kept_file
    send_room low =
        room_behind (t_records file) (z_of file n e page transfer cheque) k l (records_split file n e k l) (kept_lengths file n e page transfer cheque)
        (kept_few file n e page transfer cheque) rooms h first asked low

    pub send_next : {next'' : Next} {out'' notes'' list'' : List ℕ} → Paid page (slot_at file (k + 1)) (k + 1) first next out' notes' list' next'' out'' notes'' list''
        → SentIn page file transfer cheque have out notes list (k + 1) next'' out'' notes'' list''
    unfolding kept_file
    send_next p =
        sent_behind (t_records file) (z_of file n e page transfer cheque) k l (records_split file n e k l) (kept_lengths file n e page transfer cheque)
        (kept_few file n e page transfer cheque) rooms h first asked p

  -- the same by what is found
  module _ (k : ℕ) (l : k < n) {next : Next} {out' notes' list' : List ℕ} (h : SentIn page file transfer cheque have out notes list k next out' notes' list')
      (o : Option ℕ) (told : o ≡ nonzero (rule (slot_at file (k + 1)))) where
    asked : or_zero o ≡ rule (slot_at file (k + 1))
    asked = ap or_zero told ∙ or_zero_nonzero (rule (slot_at file (k + 1)))

    pub one_room : (o ≡ nonzero (or_zero o)) × RoomFor (slot_at file (k + 1)) (k + 1) (or_zero o) next out' notes' list'
    one_room =
        let low : or_zero o < 100 = omega (arith, asked, first_below page transfer cheque (key_of (slot_at file 1)) (slot_at file (k + 1))) in
        (told ∙ ap nonzero (sym asked), send_room k l h (or_zero o) asked low)

    pub one_sent : {next'' : Next} {out'' notes'' list'' : List ℕ} → Paid page (slot_at file (k + 1)) (k + 1) (or_zero o) next out' notes' list' next'' out'' notes'' list''
        → SentIn page file transfer cheque have out notes list (k + 1) next'' out'' notes'' list''
    one_sent p = send_next k l h (or_zero o) asked p

  module _ (k : ℕ) (l : k ≤ n) {next : Next} {out' notes' list' : List ℕ} (h : SentIn page file transfer cheque have out notes list k next out' notes' list') where
    pub out_same : length out' ≡ length out
    out_same = place_same page (kept_sized file n e page transfer cheque) rooms.bytes h.placed

    pub notes_same : length notes' ≡ length notes
    notes_same = note_same (kept_sized file n e page transfer cheque) rooms.places h.noted

    pub list_same : length list' ≡ length list
    list_same =
        let us = slots_from file 1 k in
        let rest = slots_from file (k + 1) (n - k) in
        noted_length h.listed
        (omega (arith, rooms.names, ap (λ (ts : List (List ℕ)). length (named rule 1 ts)) (records_upto file n e k l), ap length (named_append rule 1 us rest), length-append (named rule 1 us) (named rule (1 + length us) rest)))

    pub send_last : n ≤ k → Sent page file transfer cheque have out notes list next out' notes' list'
    send_last all =
        let end : k ≡ n = omega arith in
        let records : slots_from file 1 k ≡ t_records file = ap (slots_from file 1) end ∙ sym (records_are file n e) in
        let z : z_at (kept_file page file transfer cheque) ≤ next.at = last records in
        record {
          at_is = omega (arith, z, begins_last (kept_sized file n e page transfer cheque) h.placed.begins z);
          placed = place_last page (kept_sized file n e page transfer cheque) rooms.bytes h.placed z;
          noted = note_last (kept_sized file n e page transfer cheque) rooms.places h.noted z;
          listed = noted_is (ap (named rule 1) records) h.listed;
        }
      where
        last : slots_from file 1 k ≡ t_records file → z_at (kept_file page file transfer cheque) ≤ next.at
        last r = omega (arith, h.at_is, ap (λ (ts : List (List ℕ)). length (kept rule ts)) r, z_is file n e page transfer cheque)
