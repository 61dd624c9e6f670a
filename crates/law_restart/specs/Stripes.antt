-- When no stripe number of a segment is outside its group or twice in a zone (01, Refusals, 9). Assumes nothing.
use Rattle.std.specs.Prelude.{ℕ, suc, ◌<◌, leb, ltb, length, get_or, Bool, true, false, ◌&&◌, ◌||◌, List, [], ◌∷◌, ◌≡◌, refl}
use Rattle.spec.specs.Counts.{padding_address}
use Rattle.spec.specs.Drives.{Zone, View, zone_at, sealed_in, data_stored, record_in, zone_on}
use Rattle.spec.specs.Faults.{outside, twice, stripe_fault, bad_rec, stored_bad, decoded_bad, address_fault}
use Rattle.spec.specs.Layout.{is_data, group, in_group_of, Rec, mk_rec}
use Rattle.spec.specs.Lists.{any, is_in}
use Rattle.spec.specs.Params.{present, absent}
use Rattle.spec.specs.Segments.{Segment, records_in, segment_of, recs_on, counted}
use Rattle.spec.specs.declared.Params.{Params}
use Rattle.law_basic.specs.Ranges.{and_both}
use Rattle.law_drives.specs.Members.{none_in, in_none, in_get_d, get_d_in}
use Rattle.law_drives.specs.Segs.{length_records, record_at_lem, data_low, recs_here}
use Rattle.law_drives.specs.Tests.{and_false_left, and_false_right, or_first, or_neither, eqb_self}
use Rattle.std.proofs.Common.{lt-ltb, ne_eqb, sym, ap, ap₂, ◌∙◌, subst, zero-add, arith}
use Rattle.std.proofs.Math.Dec.{eqb}
use Rattle.std.proofs.Math.Bool.{not}
use Rattle.law_drives.specs.Accept.{outside_none}
use Rattle.spec.specs.declared.Seg.{Seg}
use Rattle.law_drives.specs.Gather.{in_present, present_in}

-- 01, Refusals, 9: no number twice
pub twice_none : (rs : List Rec) → ((i j : ℕ) → i < j → j < length rs → (get_or rs j (mk_rec 0 0 0)).stripe ≡ (get_or rs i (mk_rec 0 0 0)).stripe → ⊥) → twice rs ≡ false
unfolding twice
twice_none [] f = refl
twice_none (r ∷ rs) f =
    or_neither (any (λ (q : Rec). eqb q.stripe r.stripe) rs) (twice rs)
    (in_none (λ (q : Rec). eqb q.stripe r.stripe) rs (λ q m.
    let (k, h, e) = get_d_in rs (mk_rec 0 0 0) q m in
    ne_eqb q.stripe r.stripe (λ x. f 0 (suc k) (omega arith) (omega arith) (ap (λ (y : Rec). y.stripe) (sym e) ∙ x))))
    (twice_none rs (λ i j h l e. f (suc i) (suc j) (omega arith) (omega arith) e))

-- what it takes, zone by zone
pub fault_none : (p : Params) (v : View) (gone : ℕ) (g : Seg)
    → ((d : ℕ) → d < p.N → is_in gone d ≡ false → (outside p 0 (records_in p (sealed_in p v gone g) (zone_at v d (zone_on g d))) ≡ false)
    × (twice (records_in p (sealed_in p v gone g) (zone_at v d (zone_on g d))) ≡ false))
    → stripe_fault p gone (segment_of p v gone g) ≡ false
unfolding stripe_fault
fault_none p v gone g f =
    let x = segment_of p v gone g in
    in_none (λ d. outside p 0 (recs_on x d) || twice (recs_on x d)) (present p gone) (λ d m.
    let (hd, q) = present_in p gone d m in
    let e = recs_here p v gone g d hd q in
    let (a, b) = f d hd q in
    or_neither (outside p 0 (recs_on x d)) (twice (recs_on x d)) (ap (outside p 0) e ∙ a) (ap twice e ∙ b))

-- a zone that holds stripe o at offset o
module _ (p : Params) (w : Bool) (q : Zone) (is : (o : ℕ) → o < data_stored p q → (record_in p w q o).stripe ≡ o) where
  record_own_stripe : (o : ℕ) → o < length (records_in p w q) → (get_or (records_in p w q) o (mk_rec 0 0 0)).stripe ≡ o
  record_own_stripe o h =
      let l : o < data_stored p q = subst (λ (n : ℕ). o < n) (length_records p w q) h in
      ap (λ (r : Rec). r.stripe) (record_at_lem p w q o (mk_rec 0 0 0) l) ∙ is o l

  -- so none is outside its group, and none twice
  pub in_order : (outside p 0 (records_in p w q) ≡ false) × (twice (records_in p w q) ≡ false)
  in_order = (
    outside_none p 0 (records_in p w q) (λ i h.
        let l : i < data_stored p q = subst (λ (n : ℕ). i < n) (length_records p w q) h in
        ap₂ (in_group_of p) (zero-add i) (record_own_stripe i h) ∙ own i (data_low p q i l).0),
    twice_none (records_in p w q) (λ i j h l e.
        let x = record_own_stripe j l in
        let y = record_own_stripe i (omega arith) in
        let bad : ⊥ = omega arith in bad),
  )
    where
      own : (i : ℕ) → i < p.S → in_group_of p i i ≡ true
      own i h = unfold in_group_of in and_both (ltb i p.S) (eqb (group p i) (group p i)) (lt-ltb i p.S h) (eqb_self (group p i))

-- ---- data addresses

-- 01, Refusals, 9: a bad data address, stored on a present drive
unfoldable pub bad_data : Params → ℕ → Segment → Bool
bad_data p gone g = any (λ d. any (stored_bad p d) (recs_on g d)) (present p gone)

-- no fault of the addresses, so none of the stored ones
pub data_none : (p : Params) (gone : ℕ) (g : Segment) → address_fault p gone g ≡ false → bad_data p gone g ≡ false
unfolding address_fault bad_data
data_none p gone g q = or_first (any (λ d. any (stored_bad p d) (recs_on g d)) (present p gone)) (any (λ d. any (decoded_bad p gone g d) (counted p gone g)) (absent p gone)) q

-- what it takes, zone by zone
pub bad-none :
    (p : Params) (v : View) (gone : ℕ) (g : Seg)
    → ((d : ℕ) → d < p.N → is_in gone d ≡ false → any (stored_bad p d) (records_in p (sealed_in p v gone g) (zone_at v d (zone_on g d))) ≡ false)
    → bad_data p gone (segment_of p v gone g) ≡ false
unfolding bad_data
bad-none p v gone g f = in_none (λ d. any (stored_bad p d) (recs_on (segment_of p v gone g) d)) (present p gone) (λ d m.
    let (hd, q) = present_in p gone d m in
    ap (any (stored_bad p d)) (recs_here p v gone g d hd q) ∙ f d hd q)

-- and of a zone
pub none-bad :
    (p : Params) (v : View) (gone : ℕ) (g : Seg) (d : ℕ)
    → d < p.N
    → is_in gone d ≡ false
    → bad_data p gone (segment_of p v gone g) ≡ false
    → any (stored_bad p d) (records_in p (sealed_in p v gone g) (zone_at v d (zone_on g d))) ≡ false
unfolding bad_data
none-bad p v gone g d hd q e =
    ap (any (stored_bad p d)) (sym (recs_here p v gone g d hd q)) ∙ none_in (λ d. any (stored_bad p d) (recs_on (segment_of p v gone g) d)) (present p gone) e d (in_present p gone d hd q)

-- record by record
pub zone_none_bad : (p : Params) (w : Bool) (q : Zone) (d : ℕ)
    → ((o : ℕ) → o < data_stored p q → stored_bad p d (record_in p w q o) ≡ false) → any (stored_bad p d) (records_in p w q) ≡ false
zone_none_bad p w q d f = in_none (stored_bad p d) (records_in p w q) (λ y m.
    let (k, h, e) = get_d_in (records_in p w q) (mk_rec 0 0 0) y m in
    let l : k < data_stored p q = subst (λ (n : ℕ). k < n) (length_records p w q) h in
    ap (stored_bad p d) (e ∙ record_at_lem p w q k (mk_rec 0 0 0) l) ∙ f k l)

-- and of a record
pub good_at : (p : Params) (w : Bool) (q : Zone) (d o : ℕ) → o < data_stored p q → any (stored_bad p d) (records_in p w q) ≡ false → stored_bad p d (record_in p w q o) ≡ false
good_at p w q d o h e =
    ap (stored_bad p d) (sym (record_at_lem p w q o (mk_rec 0 0 0) h))
    ∙ none_in (stored_bad p d) (records_in p w q) e (get_or (records_in p w q) o (mk_rec 0 0 0))
    (in_get_d (records_in p w q) o (mk_rec 0 0 0) (subst (λ (n : ℕ). o < n) (sym (length_records p w q)) h))

-- a data chunk that is not bad, under another stripe number
pub moved_good : (p : Params) (d e : ℕ) (y z : Rec) → is_data p y.stripe d ≡ true → stored_bad p d y ≡ false → z.address ≡ y.address → z.stamp ≡ y.stamp
    → stored_bad p e z ≡ false
unfolding stored_bad
moved_good p d e y z i q a t =
    and_false_right (is_data p z.stripe e) (bad_rec p z) (same ∙ sym (ap (λ (b : Bool). b && bad_rec p y) i) ∙ q)
  where
    same : bad_rec p z ≡ bad_rec p y
    same = unfold bad_rec in λ j. (leb p.L (a j) && not (eqb (a j) padding_address)) || (ltb (a j) p.L && eqb (t j) 0)

-- a chunk that is no data is not bad
pub parity_good : (p : Params) (d : ℕ) (y : Rec) → is_data p y.stripe d ≡ false → stored_bad p d y ≡ false
unfolding stored_bad
parity_good p d y i = and_false_left (is_data p y.stripe d) (bad_rec p y) i
