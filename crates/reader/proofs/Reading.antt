-- A reading: from a new reader, cut by cut. After each cut the reader's state is that of the bytes so far.
use Rattle.std.proofs.Common.{ℕ, ◌+◌, ◌≤◌, min, List, [], ◌∷◌, ◌++◌, ◌≡◌, refl, true, ltb, take, sym, ap, ap₂, subst, ◌∙◌, arith, lt-ltb, length-drop, length}
use Rattle.laws.specs.Choice.{on, on_eq}
use Rattle.structure.specs.Slots.{width_at}
use Rattle.forwarding.specs.Put.{put, put_length, take_put}
use Rattle.tally.specs.declared.Tally.{Tally}
use Rattle.tally.specs.Settle.{fresh, is_steady, steady_is}
use Rattle.reader.specs.declared.Reader.{Reader}
use Rattle.reader.specs.Cuts.{Cut, joined, LentWith}
use Rattle.reader.specs.State.{Mid, mid, eat, pending, view, packed, with_bytes, counted_of, in_order, new_of, fed_of, FedAs, FedTo}
use Rattle.reader.specs.Eats.{width_le}
use Rattle.reader.proofs.Course.{Course, course_start, course_short, From, from_start, from_next, whole_cut}

-- cut by cut
abbrev pub fed_all : Reader → List Cut → Reader
fed_all r [] = r
fed_all r (cut ∷ cuts) = fed_all (fed_of r cut.bytes cut.transfer cut.cheque) cuts

-- the reader r has read that many bytes, and m is what it holds of them
pub record ReadTo (page place : ℕ) (m : Mid) (r : Reader) : Type 0 where
  pub page_is : r.page ≡ page
  pub open_still : r.ended ≡ 0
  pub counted : r.bytes ≡ min 7679745 place
  pub long : length r.held ≡ 768
  pub tally_is : r.tally ≡ m.tally
  pub have_is : r.have ≡ length m.pending
  pub held_is : pending r ≡ m.pending

pub new_reader : (page : ℕ) → ReadTo page 0 (mid fresh []) (new_of page)
unfolding new_of
new_reader page =
    record { page_is = refl; open_still = refl; counted = refl; long = refl; tally_is = refl; have_is = refl; held_is = refl }

-- it is in order
pub in_order_is : (page : ℕ) (cuts : List Cut) (place : ℕ) (m : Mid) (r : Reader) → place ≤ length (joined cuts) → Course page cuts place m
    → ReadTo page place m r → in_order r.tally r.have ≡ true
in_order_is page cuts place m r h c s =
    let short = course_short page cuts place m h c in
    let steady : is_steady r.tally ≡ true = ap is_steady s.tally_is ∙ steady_is m.tally c.0 in
    let width = ap (λ (t : Tally). width_at t.next) s.tally_is in
    let fits : ltb r.have (width_at r.tally.next) ≡ true = lt-ltb r.have (width_at r.tally.next) (omega (arith, s.have_is, width)) in
    rw (steady, fits)

module _ (page : ℕ) (cuts : List Cut) (place : ℕ) (cut : Cut) (cs : List Cut) (from : From page cuts place (cut ∷ cs)) (m : Mid) (r : Reader)
    (course : Course page cuts place m) (s : ReadTo page place m r) where
  after : Mid
  after = eat page cut.transfer cut.cheque m cut.bytes

  fed_is : fed_of r cut.bytes cut.transfer cut.cheque
      ≡ packed (with_bytes r (counted_of r.bytes (length cut.bytes))) (eat r.page cut.transfer cut.cheque (view r) cut.bytes)
  unfolding fed_of
  fed_is = sym (on_eq r s.open_still (on r (in_order_is page cuts place m r from.within course s) refl))

  eaten_is : eat r.page cut.transfer cut.cheque (view r) cut.bytes ≡ after
  unfolding after
  eaten_is =
      ap₂ (λ (p : ℕ) (n : Mid). eat p cut.transfer cut.cheque n cut.bytes) s.page_is (ap₂ mid s.tally_is s.held_is)

  few : length after.pending ≤ 768
  unfolding after
  few =
      let all = whole_cut page cuts place cut cs from m course in
      let short = course_short page cuts (place + length cut.bytes) after (from_next page cuts place cut cs from).within all in
      omega (arith, short, width_le after.tally.next)

  packs : ReadTo page (place + length cut.bytes) after (packed (with_bytes r (counted_of r.bytes (length cut.bytes))) after)
  packs =
      let z : 0 + length after.pending ≡ length after.pending = omega arith in
      record {
        page_is = s.page_is;
        open_still = s.open_still;
        counted = omega (arith, s.counted);
        long = put_length 0 after.pending r.held (omega (arith, few, s.long)) ∙ s.long;
        tally_is = refl;
        have_is = refl;
        held_is = ap (λ (n : ℕ). take n (put 0 after.pending r.held)) (sym z)
            ∙ take_put 0 after.pending r.held (omega (arith, few, s.long));
      }

  pub one_cut : ReadTo page (place + length cut.bytes) (eat page cut.transfer cut.cheque m cut.bytes) (fed_of r cut.bytes cut.transfer cut.cheque)
  unfolding after
  one_cut =
      subst (ReadTo page (place + length cut.bytes) after)
      (sym (fed_is ∙ ap (packed (with_bytes r (counted_of r.bytes (length cut.bytes)))) eaten_is)) packs

-- a reader that has read all of the cuts
pub record ReadAll (page : ℕ) (cuts : List Cut) (r : Reader) : Type 0 where
  pub m : Mid
  pub course : Course page cuts (length (joined cuts)) m
  pub state : ReadTo page (length (joined cuts)) m r

all_from : (page : ℕ) (cuts : List Cut) (place : ℕ) (cs : List Cut) → From page cuts place cs → (m : Mid) (r : Reader) → Course page cuts place m
    → ReadTo page place m r → ReadAll page cuts (fed_all r cs)
all_from page cuts place [] from m r c s =
    let done : place ≡ length (joined cuts) = omega (arith, from.within, length-drop place (joined cuts), ap length from.bytes) in
    record {
      m = m;
      course = subst (λ (n : ℕ). Course page cuts n m) done c;
      state = subst (λ (n : ℕ). ReadTo page n m r) done s;
    }
all_from page cuts place (cut ∷ cs) from m r c s =
    all_from page cuts (place + length cut.bytes) cs (from_next page cuts place cut cs from) _ _ (whole_cut page cuts place cut cs from m c)
    (one_cut page cuts place cut cs from m r c s)

pub all_read : (page : ℕ) (cuts : List Cut) → ReadAll page cuts (fed_all (new_of page) cuts)
all_read page cuts =
    all_from page cuts 0 cuts (from_start page cuts) (mid fresh []) (new_of page) (course_start page cuts) (new_reader page)

-- what is promised cut after cut is one state
pub fed_all_is : (r : Reader) (cuts : List Cut) (last : Reader) → FedTo r cuts last → last ≡ fed_all r cuts
fed_all_is r [] last fed = fed
fed_all_is r (cut ∷ cuts) last fed = fed_all_is fed.0 cuts last fed.2 ∙ ap (λ (x : Reader). fed_all x cuts) fed.1

-- one cut more at the end
pub fed_more : (r : Reader) (cuts : List Cut) (last : Reader) (cut : Cut) (next : Reader) → FedTo r cuts last
    → FedAs last cut.bytes cut.transfer cut.cheque next → FedTo r (cuts ++ (cut ∷ [])) next
fed_more r [] last cut next fed more = (next, subst (λ (x : Reader). FedAs x cut.bytes cut.transfer cut.cheque next) fed more, refl)
fed_more r (c ∷ cuts) last cut next fed more = (fed.0, fed.1, fed_more fed.0 cuts last cut next fed.2 more)

pub lent_more : (t ch : List ℕ) (cuts : List Cut) (cut : Cut) → LentWith t ch cuts → (cut.transfer ≡ t) × (cut.cheque ≡ ch)
    → LentWith t ch (cuts ++ (cut ∷ []))
lent_more t ch [] cut w p = (p.0, p.1, tt)
lent_more t ch (c ∷ cuts) cut w p = (w.0, w.1, lent_more t ch cuts cut w.2 p)
