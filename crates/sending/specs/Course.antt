-- Going over a file's T records: after the first of them, us, the kept ones of us stand in the output as in the kept file,
-- their notes in the note places, and the others are named.
use Rattle.std.specs.Prelude.{ℕ, suc, ◌+◌, ◌*◌, ◌≤◌, ◌<◌, ◌≡◌, refl, Bool, true, false, cond, List, [], ◌∷◌, ◌++◌, eqb, length}
use Rattle.std.proofs.Common.{sym, ap, ap₂, subst, ◌∙◌, arith, eqb-true, eq-eqb, ne_eqb, length-append}
use Rattle.std.proofs.lemmas.Bool.{eqb-false}
use Rattle.charset.specs.Table.{rep}
use Rattle.forwarding.specs.Text.{lies, t_texts}
use Rattle.forwarding.specs.Forwarded.{fwd}
use Rattle.forwarding.specs.Between.{between}
use Rattle.forwarding.specs.Fields.{field_notes}
use Rattle.forwarding.specs.Pieces.{noted_in}
use Rattle.forwarding.specs.Put.{put_none}
use Rattle.forwarding.specs.Sized.{z_at, Sized, fits}
use Rattle.forwarding.specs.Noted.{Noted, noted_none, noted_is, noted_length, noted_append}
use Rattle.judge.specs.Records.{file_of, Lengths}
use Rattle.place.specs.Placing.{back_as, Placed, place_first, place_next, place_same}
use Rattle.note.specs.Noting.{NotedTo, note_first, note_room, note_next}
use Rattle.sorting.specs.Kept.{kept, named}
use Rattle.sorting.specs.Lists.{named_append}
use Rattle.sorting.specs.Course.{place_of, kept_more, kept_no_more, records_sized, z_at_place, kept_below, kept_here}
use Rattle.sending.specs.Turns.{next_are, Paid, RoomFor}
use Rattle.sending.specs.declared.Next.{Next}

pub record SentTo (page : ℕ) (rule : List ℕ → ℕ) (us : List (List ℕ)) (file : List ℕ) (have : ℕ) (out notes list : List ℕ)
    (next : Next) (out' notes' list' : List ℕ) : Type 0 where
  pub at_is : next.at ≡ place_of (length (kept rule us))
  pub placed : Placed page file out out' next.at
  pub noted : NotedTo file have notes notes' next.notes next.at
  pub listed : Noted (named rule 1 us) 0 list list' next.names

-- room for the whole kept file, for its notes behind those of Q, and for the names of the T records ts
pub record Rooms (rule : List ℕ → ℕ) (ts : List (List ℕ)) (file : List ℕ) (have : ℕ) (out notes list : List ℕ) : Type 0 where
  pub bytes : length file ≤ length out
  pub places : have + length (noted_in 0 256 (z_at file) file) ≤ length notes
  pub names : length (named rule 1 ts) ≤ length list

pub sent_first : (page : ℕ) (rule : List ℕ → ℕ) (ts : List (List ℕ)) (file : List ℕ) (have : ℕ) (out notes list : List ℕ) → Sized file
    → Rooms rule ts file have out notes list → SentTo page rule [] file have out notes list (next_are 256 have 0) out notes list
sent_first page rule ts file have out notes list s r =
    record {
      at_is = refl;
      placed = place_first page s r.bytes;
      noted = note_first s r.places;
      listed = noted_none 0 list;
    }

-- record t behind us, and before vs
module _ (page : ℕ) (rule : List ℕ → ℕ) (q : List ℕ) (us vs : List (List ℕ)) (t z : List ℕ) (sized : Lengths q (kept rule (us ++ (t ∷ vs))) z)
    (few : length (kept rule (us ++ (t ∷ vs))) ≤ 9999) (have : ℕ) (out notes list : List ℕ)
    (rooms : Rooms rule (us ++ (t ∷ vs)) (file_of q (kept rule (us ++ (t ∷ vs))) z) have out notes list)
    {next : Next} {out' notes' list' : List ℕ}
    (h : SentTo page rule us (file_of q (kept rule (us ++ (t ∷ vs))) z) have out notes list next out' notes' list') where
  abbrev whole : List ℕ
  whole = file_of q (kept rule (us ++ (t ∷ vs))) z

  whole_sized : Sized whole
  whole_sized = records_sized q (kept rule (us ++ (t ∷ vs))) z sized few

  -- where it is kept
  module _ (e : rule t ≡ 0) where
    more : next.at < z_at whole
    more = omega (arith, h.at_is, kept_below rule q us vs t z e sized, z_at_place q (kept rule (us ++ (t ∷ vs))) z sized few)

    here : between next.at (next.at + 768) whole ≡ t
    here = ap (λ (a : ℕ). between a (a + 768) whole) h.at_is ∙ kept_here rule q us vs t z e sized

    inside : next.at + 768 ≤ length whole
    inside = fits whole_sized h.placed.begins more

    room_kept : (next.at + 768 ≤ length out') × (next.at + 768 ≤ 7679744)
    room_kept = (
      omega (arith, inside, place_same page whole_sized rooms.bytes h.placed, rooms.bytes),
      omega (arith, inside, whole_sized.long, whole_sized.most),
    )

    notes_kept : next.notes + length (field_notes t_texts next.at t) ≤ length notes'
    notes_kept =
        subst (λ (s : List ℕ). next.notes + length (field_notes t_texts next.at s) ≤ length notes') here
        (note_room whole_sized rooms.places h.noted more)

  -- the names so far, and this one
  named_here : named rule 1 (us ++ (t ∷ [])) ≡ named rule 1 us ++ named rule (1 + length us) (t ∷ [])
  named_here = named_append rule 1 us (t ∷ [])

  names_fit : 0 + length (named rule 1 us) ≤ length list
  names_fit = omega (arith, rooms.names, ap length (named_append rule 1 us (t ∷ vs)), length-append (named rule 1 us) (named rule (1 + length us) (t ∷ vs)))

  name_room : (rule t ≡ 0 → ⊥) → next.names < length list'
  name_room f =
      let one : named rule (1 + length us) (t ∷ vs) ≡ ((1 + length us) * 100 + rule t) ∷ named rule (suc (1 + length us)) vs =
      ap (λ (b : Bool). cond b (named rule (suc (1 + length us)) vs) (((1 + length us) * 100 + rule t) ∷ named rule (suc (1 + length us)) vs)) (ne_eqb (rule t) 0 f) in
      omega (arith, h.listed.next_is, noted_length h.listed names_fit, rooms.names, ap length (named_append rule 1 us (t ∷ vs)), length-append (named rule 1 us) (named rule (1 + length us) (t ∷ vs)), ap length one)

  pub sent_room : (k first : ℕ) → first ≡ rule t → k ≤ 9999 → first < 100 → RoomFor t k first next out' notes' list'
  sent_room k first e small low =
      record {
        small = (small, low);
        bytes = λ p. room_kept (sym e ∙ p);
        places = λ p. notes_kept (sym e ∙ p);
        names = λ f. name_room (λ p. f (e ∙ p));
      }

  -- and what it leaves
  module _ (k first : ℕ) (e : first ≡ rule t) (number : k ≡ 1 + length us) {next'' : Next} {out'' notes'' list'' : List ℕ}
      (p : Paid page t k first next out' notes' list' next'' out'' notes'' list'') where
    list_now : Noted (named rule 1 (us ++ (t ∷ []))) 0 list list'' next''.names
    list_now =
        let same : cond (eqb first 0) [] ((k * 100 + first) ∷ []) ≡ named rule (1 + length us) (t ∷ []) =
        ap₂ (λ (r j : ℕ). cond (eqb r 0) [] ((j * 100 + r) ∷ [])) e number in
        noted_is (sym named_here) (noted_append h.listed (noted_is same p.listed) names_fit)

    now_kept : first ≡ 0 → SentTo page rule (us ++ (t ∷ [])) whole have out notes list next'' out'' notes'' list''
    now_kept z =
        let r : rule t ≡ 0 = sym e ∙ z in
        let place : next''.at ≡ next.at + 768 = p.at_is ∙ ap (λ (b : Bool). cond b (next.at + 768) next.at) (eq-eqb first 0 z) in
        let output : out'' ≡ back_as next.at (next.at + 768) (fwd (rep page) (lies t_texts) 0 t) out' =
        p.placed ∙ ap (λ (b : Bool). cond b (back_as next.at (next.at + 768) (fwd (rep page) (lies t_texts) 0 t) out') out') (eq-eqb first 0 z) in
        let notes_now : Noted (field_notes t_texts next.at (between next.at (next.at + 768) whole)) next.notes notes' notes'' next''.notes =
        noted_is (ap (λ (b : Bool). cond b (field_notes t_texts next.at t) []) (eq-eqb first 0 z) ∙ ap (field_notes t_texts next.at) (sym (here r))) p.noted in
        let placed-now = place_next page whole_sized rooms.bytes h.placed (fwd (rep page) (lies t_texts) 0 t) (more r) (ap (fwd (rep page) (lies t_texts) 0) (sym (here r))) in
        record {
          at_is = omega (arith, place, h.at_is, ap length (kept_more rule us t r), length-append (kept rule us) (t ∷ []));
          placed = subst (λ (a : ℕ). Placed page whole out out'' a) (sym place) (subst (λ (o : List ℕ). Placed page whole out o (next.at + 768)) (sym output) placed-now);
          noted = subst (λ (a : ℕ). NotedTo whole have notes notes'' next''.notes a) (sym place) (note_next whole_sized rooms.places h.noted (more r) notes_now);
          listed = list_now;
        }

    now_returned : (first ≡ 0 → ⊥) → SentTo page rule (us ++ (t ∷ [])) whole have out notes list next'' out'' notes'' list''
    now_returned f =
        let place : next''.at ≡ next.at = p.at_is ∙ ap (λ (b : Bool). cond b (next.at + 768) next.at) (ne_eqb first 0 f) in
        let output : out'' ≡ out' =
        p.placed ∙ ap (λ (b : Bool). cond b (back_as next.at (next.at + 768) (fwd (rep page) (lies t_texts) 0 t) out') out') (ne_eqb first 0 f) in
        let nothing : Noted [] next.notes notes' notes'' next''.notes = noted_is (ap (λ (b : Bool). cond b (field_notes t_texts next.at t) []) (ne_eqb first 0 f)) p.noted in
        let same : next''.notes ≡ next.notes = omega (arith, nothing.next_is) in
        let places : notes'' ≡ notes' = nothing.places_are ∙ put_none next.notes notes' in
        record {
          at_is = place ∙ h.at_is ∙ ap (λ (l : List (List ℕ)). place_of (length l)) (sym (kept_no_more rule us t (λ r. f (e ∙ r))));
          placed = subst (λ (a : ℕ). Placed page whole out out'' a) (sym place) (subst (λ (o : List ℕ). Placed page whole out o next.at) (sym output) h.placed);
          noted = subst (λ (a : ℕ). NotedTo whole have notes notes'' next''.notes a) (sym place)
              (subst (λ (m : ℕ). NotedTo whole have notes notes'' m next.at) (sym same) (subst (λ (ps : List ℕ). NotedTo whole have notes ps next.notes next.at) (sym places) h.noted));
          listed = list_now;
        }

    pub sent_one : SentTo page rule (us ++ (t ∷ [])) whole have out notes list next'' out'' notes'' list''
    sent_one = go (eqb first 0) refl
      where
        go : (b : Bool) → eqb first 0 ≡ b → SentTo page rule (us ++ (t ∷ [])) whole have out notes list next'' out'' notes'' list''
        go true b = now_kept (eqb-true first 0 b)
        go false b = now_returned (eqb-false first 0 b)
