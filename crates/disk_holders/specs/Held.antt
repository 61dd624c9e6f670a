-- The one remaining segment with a zone of a drive, and with a place there (02, item 4). Assumes nothing.
use Rattle.std.specs.Prelude.{◌≡◌, not, ◌&&◌, ℕ, suc, ◌+◌, ◌-◌, ◌≤◌, ◌<◌, length, Option, is_some, IfSome}
use Rattle.std.proofs.Math.Path.{refl, sym, ap, ap₂}
use Rattle.std.proofs.Common.{◌∙◌, subst, inl, arith}
use mathlib.Core.List.{List, [], ◌∷◌, map}
use Rattle.std.proofs.Math.Bool.{Bool, true, false}
use borrow.Author.Tests.{eq-eqb, ne_eqb, lt-ltb, le-ltb}
use Rattle.std.proofs.Math.Dec.{eqb}
use Rattle.spec.specs.declared.Params.{Params}
use Rattle.spec.specs.declared.Seg.{Seg}
use Rattle.spec.specs.declared.Serial.{Serial}
use Rattle.spec.specs.Drives.{View, chunk_at, pointer_at, is_good, zone_on, no_seg}
use Rattle.spec.specs.Layout.{header_serial, header_zone}
use Rattle.spec.specs.Lists.{up_from, below, keep, first_or, is_in}
use Rattle.spec.specs.Params.{place_zone, place_drive}
use Rattle.spec.specs.Segments.{low_drive, is_used, serial_in, lowest_bearing, seg_for, leads, remaining, holders, is_place, place_segment, header_at, serial_at}
use Rattle.law_basic.specs.Geometry.{Ranged}
use Rattle.law_basic.specs.Mask.{is_in_empty}
use Rattle.law_basic.specs.Ranges.{Test, test, and_left, and_right, and_both, keep-map, keep-below_same, below-start}
use Rattle.law_basic.specs.Ranges.Test.{yes!, no! }
use Rattle.law_drives.specs.Holders.{place_first, place_drive_low, place_remains, place_zone_on}
use Rattle.law_drives.specs.Gather.{borne, for_here, for_gone, left_serial}
use Rattle.law_drives.specs.Members.{In, keep_in, keep_nothing, keep-keep}
use Rattle.law_drives.specs.Segs.{Here, remaining_left, remaining_once}
use Rattle.law_drives.specs.Settled.{zero_here}
use Rattle.law_drives.specs.Tables.{seg_at, remains_at, remaining_is, one_holder}
use Rattle.law_drives.specs.Tests.{clash, and_false_left, and_false_right}
use Rattle.disk_gather.specs.Found.{lead_lowest}
use Rattle.disk_holders.specs.Borne.{serial_remains, all_borne_on, remains_borne, remains_in, in_remains, remains_by_zone}
use Rattle.disk_holders.specs.Next.{next_one, next_none, next_split}

-- 02, item 4: on a present drive: the zone leads there, and the segment of its serial remains
unfoldable pub held_here_of : Params → View → ℕ → ℕ → ℕ → Bool
held_here_of p v gone d z = leads p v d z && serial_remains p v gone (serial_in p v d z)

-- 02, item 4: on a missing drive: the segment at zone y of the lowest present drive remains, and its header there names the zone
unfoldable pub names_zone : Params → View → ℕ → ℕ → ℕ → ℕ → Bool
names_zone p v gone d z y =
    let low = low_drive p gone in
    leads p v low y && (serial_remains p v gone (serial_in p v low y) && eqb (header_zone p (chunk_at v low y 0).block d) z)

-- ---- what an answer says

-- the segment of serial r remains, and it alone has the zone
pub record HeldOne (p : Params) (v : View) (gone d z r : ℕ) : Type 0 where
  pub alone : holders p v gone d z ≡ seg_for p v gone r ∷ []
  pub it_remains : serial_remains p v gone r ≡ true

-- by its serial, if there is one
abbrev pub HeldAs : Params → View → ℕ → ℕ → ℕ → Option Serial → Type 0
HeldAs p v gone d z h = IfSome h (λ s. HeldOne p v gone d z s.0)

-- ---- a zone of a present drive

lead_used : (p : Params) (v : View) (d z : ℕ) → leads p v d z ≡ true → is_used p v d z ≡ true
unfolding leads
lead_used p v d z t = and_left (is_used p v d z) (eqb (lowest_bearing p v d (serial_in p v d z)) z) t

lead_good : (p : Params) (v : View) (d z : ℕ) → leads p v d z ≡ true → is_good p v.offline d z ≡ true
lead_good p v d z t = go (lead_used p v d z t)
  where
    go : is_used p v d z ≡ true → is_good p v.offline d z ≡ true
    go u = unfold is_used in and_left (is_good p v.offline d z) (not (eqb (pointer_at v d z) 0)) u

-- the tests of `names`, one by one
module _ (p : Params) (v : View) (gone low d z y : ℕ) (el : low ≡ low_drive p gone) where
  abbrev named : ℕ → ℕ
  named l = header_zone p (chunk_at v l y 0).block d

  names_as : names_zone p v gone d z y ≡ (leads p v low y && (serial_remains p v gone (serial_in p v low y) && eqb (named low) z))
  unfolding names_zone
  names_as = ap (λ (l : ℕ). leads p v l y && (serial_remains p v gone (serial_in p v l y) && eqb (named l) z)) (sym el)

  pub names_unused : is_used p v low y ≡ false → names_zone p v gone d z y ≡ false
  names_unused q = names_as ∙ and_false_left (leads p v low y) (serial_remains p v gone (serial_in p v low y) && eqb (named low) z) (not_lead q)
    where
      not_lead : is_used p v low y ≡ false → leads p v low y ≡ false
      not_lead q = unfold leads in and_false_left (is_used p v low y) (eqb (lowest_bearing p v low (serial_in p v low y)) y) q

  pub names_other : (n : ℕ) → n ≡ header_zone p (chunk_at v low y 0).block d → (n ≡ z → ⊥) → names_zone p v gone d z y ≡ false
  names_other n e x = names_as
      ∙ and_false_right (leads p v low y) (serial_remains p v gone (serial_in p v low y) && eqb (named low) z)
      (and_false_right (serial_remains p v gone (serial_in p v low y)) (eqb (named low) z) (ne_eqb (named low) z (λ q. x (e ∙ q))))

  pub names_held : (n : ℕ) → n ≡ header_zone p (chunk_at v low y 0).block d → n ≡ z → names_zone p v gone d z y ≡ held_here_of p v gone low y
  unfolding held_here_of
  names_held n e q = names_as
      ∙ ap (λ (b : Bool). leads p v low y && (serial_remains p v gone (serial_in p v low y) && b)) (eq-eqb (named low) z (sym e ∙ q))
      ∙ ap (λ (b : Bool). leads p v low y && b) (and-true (serial_remains p v gone (serial_in p v low y)))
    where
      and-true : (b : Bool) → (b && true) ≡ b
      and-true true = refl
      and-true false = refl

-- the tests of `held_here`
module _ (p : Params) (v : View) (gone d z : ℕ) where
  pub held_not : leads p v d z ≡ false → held_here_of p v gone d z ≡ false
  unfolding held_here_of
  held_not q = and_false_left (leads p v d z) (serial_remains p v gone (serial_in p v d z)) q

  pub held_by : (r : ℕ) → r ≡ serial_in p v d z → leads p v d z ≡ true → serial_remains p v gone r ≡ held_here_of p v gone d z
  unfolding held_here_of
  held_by r e q = ap (serial_remains p v gone) e ∙ sym (ap (λ (b : Bool). b && serial_remains p v gone (serial_in p v d z)) q)

module _ (p : Params) (v : View) (gone : ℕ) (here : Here p gone) (d z : ℕ) (hd : d < p.N) where
  abbrev low : ℕ
  low = low_drive p gone

  module _ (pr : is_in gone d ≡ false) where
    pub held_one : held_here_of p v gone d z ≡ true → HeldOne p v gone d z (serial_in p v d z)
    unfolding held_here_of
    held_one q =
        let r = serial_in p v d z in
        let t : leads p v d z ≡ true = and_left (leads p v d z) (serial_remains p v gone r) q in
        let s : serial_remains p v gone r ≡ true = and_right (leads p v d z) (serial_remains p v gone r) q in
        let m = remains_in p v gone here r s in
        let e : zone_on (seg_for p v gone r) d ≡ z = for_here p v gone r d hd pr ∙ lead_lowest p v d z t in
        record {
          alone = ap (holders p v gone d) (sym e) ∙ one_holder p v gone here d (seg_for p v gone r) m (λ h n x. remaining_once p v gone here h (seg_for p v gone r) d n m hd pr x);
          it_remains = s;
        }

    pub nothing_holds : held_here_of p v gone d z ≡ false → holders p v gone d z ≡ []
    unfolding holders
    nothing_holds q = keep_nothing (λ g. eqb (zone_on g d) z) (remaining p v gone) (λ g m. ne_eqb (zone_on g d) z (λ e. clash (held g m e) q))
      where
        held : (g : Seg) → In g (remaining p v gone) → zone_on g d ≡ z → held_here_of p v gone d z ≡ true
        held g m e =
            let (r, i, s) = in_remains p v gone here g m in
            let x : lowest_bearing p v d r ≡ z = sym (for_here p v gone r d hd pr) ∙ ap (λ (h : Seg). zone_on h d) (sym i) ∙ e in
            let b = borne p v d r (all_borne_on p v gone r (remains_borne p v gone r s) d hd pr) in
            let k : serial_in p v d z ≡ r = ap (serial_in p v d) (sym x) ∙ b.serial in
            let u : is_used p v d z ≡ true = ap (is_used p v d) (sym x) ∙ b.used in
            join u (ap (lowest_bearing p v d) k ∙ x) (ap (serial_remains p v gone) k ∙ s)
          where
            join : is_used p v d z ≡ true → lowest_bearing p v d (serial_in p v d z) ≡ z → serial_remains p v gone (serial_in p v d z) ≡ true → held_here_of p v gone d z ≡ true
            join u x s = unfold held_here_of leads in and_both (is_used p v d z && eqb (lowest_bearing p v d (serial_in p v d z)) z) (serial_remains p v gone (serial_in p v d z))
                (and_both (is_used p v d z) (eqb (lowest_bearing p v d (serial_in p v d z)) z) u (eq-eqb (lowest_bearing p v d (serial_in p v d z)) z x)) s

    -- a zone that is held is good
    pub held_good : (is_good p v.offline d z && eqb (length (holders p v gone d z)) 1) ≡ held_here_of p v gone d z
    held_good = go (test (held_here_of p v gone d z))
      where
        good : held_here_of p v gone d z ≡ true → is_good p v.offline d z ≡ true
        good q = unfold held_here_of in lead_good p v d z (and_left (leads p v d z) (serial_remains p v gone (serial_in p v d z)) q)

        go : Test (held_here_of p v gone d z) → (is_good p v.offline d z && eqb (length (holders p v gone d z)) 1) ≡ held_here_of p v gone d z
        go (yes! q) = and_both (is_good p v.offline d z) (eqb (length (holders p v gone d z)) 1) (good q) (eq-eqb (length (holders p v gone d z)) 1 (ap length (held_one q).alone)) ∙ sym q
        go (no! q) = and_false_right (is_good p v.offline d z) (eqb (length (holders p v gone d z)) 1) (ap (λ (l : List Seg). eqb (length l) 1) (nothing_holds q)) ∙ sym q

  -- ---- a zone of a missing drive

  module _ (ab : is_in gone d ≡ true) where
    named-list : holders p v gone d z ≡ map (seg_at p v gone) (keep (names_zone p v gone d z) (below p.Z))
    unfolding holders
    named-list =
        let f : Seg → Bool = λ g. eqb (zone_on g d) z in
        ap (keep f) (remaining_is p v gone)
        ∙ keep-map f (seg_at p v gone) (keep (remains_at p v gone) (below p.Z))
        ∙ ap (map (seg_at p v gone)) (keep-keep (λ y. f (seg_at p v gone y)) (remains_at p v gone) (below p.Z)
        ∙ keep-below_same (λ y. remains_at p v gone y && f (seg_at p v gone y)) (names_zone p v gone d z) p.Z (λ y h. one y (test (leads p v low y))))
      where
        zone_is : (y : ℕ) → leads p v low y ≡ true → zone_on (seg_at p v gone y) d ≡ header_zone p (chunk_at v low y 0).block d
        zone_is y t = unfold seg_at in for_gone p v gone (serial_in p v low y) d hd ab ∙ ap (λ (x : ℕ). header_zone p (chunk_at v low x 0).block d) (lead_lowest p v low y t)

        one : (y : ℕ) → Test (leads p v low y) → (remains_at p v gone y && eqb (zone_on (seg_at p v gone y) d) z) ≡ names_zone p v gone d z y
        one y (yes! t) = unfold names_zone in
            ap₂ (λ (a : Bool) (x : ℕ). a && eqb x z) (remains_by_zone p v gone here y) (zone_is y t)
            ∙ ap (λ (a : Bool). (a && serial_remains p v gone (serial_in p v low y)) && eqb (header_zone p (chunk_at v low y 0).block d) z) t
            ∙ sym (ap (λ (a : Bool). a && (serial_remains p v gone (serial_in p v low y) && eqb (header_zone p (chunk_at v low y 0).block d) z)) t)
        one y (no! t) = unfold names_zone in
            ap (λ (a : Bool). a && eqb (zone_on (seg_at p v gone y) d) z)
            (remains_by_zone p v gone here y ∙ ap (λ (a : Bool). a && serial_remains p v gone (serial_in p v low y)) t)
            ∙ sym (ap (λ (a : Bool). a && (serial_remains p v gone (serial_in p v low y) && eqb (header_zone p (chunk_at v low y 0).block d) z)) t)

    list_is : (l : List ℕ) → keep (names_zone p v gone d z) (below p.Z) ≡ l → holders p v gone d z ≡ map (seg_at p v gone) l
    list_is l e = named-list ∙ ap (map (seg_at p v gone)) e

    abbrev names : ℕ → Bool
    names = names_zone p v gone d z

    all_zones : keep names (below p.Z) ≡ keep names (up_from 0 (p.Z - 0))
    all_zones = ap (keep names) (below-start p.Z)

    -- none names it
    pub nothing_names : p.Z ≤ next_one (names_zone p v gone d z) p.Z 0 → eqb (length (holders p v gone d z)) 1 ≡ false
    nothing_names h = ap (λ (l : List Seg). eqb (length l) 1) (list_is [] (all_zones ∙ next_none names p.Z 0 (omega arith) h))

    -- one does, at y; and then no other, or another
    module _ (y : ℕ) (hy : y < p.Z) (ey : y ≡ next_one (names_zone p v gone d z) p.Z 0) where
      from_y : keep names (below p.Z) ≡ y ∷ keep names (up_from (y + 1) (p.Z - (y + 1)))
      from_y = all_zones ∙ next_split names p.Z 0 (omega arith) y hy ey

      y_names : names y ≡ true
      y_names = (keep_in names (below p.Z) y (subst (λ (l : List ℕ). In y l) (sym from_y) (inl refl))).1

      y_remains : names y ≡ true → serial_remains p v gone (serial_in p v low y) ≡ true
      unfolding names_zone
      y_remains q =
          let a = leads p v low y in
          let b = serial_remains p v gone (serial_in p v low y) in
          let c = eqb (header_zone p (chunk_at v low y 0).block d) z in
          and_left b c (and_right a (b && c) q)

      pub one_names : p.Z ≤ next_one (names_zone p v gone d z) p.Z (y + 1) → HeldOne p v gone d z (serial_in p v low y)
      unfolding seg_at
      one_names h = record {
        alone = list_is (y ∷ []) (from_y ∙ ap (λ (l : List ℕ). y ∷ l) (next_none names p.Z (y + 1) (omega arith) h));
        it_remains = y_remains y_names;
      }

      pub two_name : (x : ℕ) → x < p.Z → x ≡ next_one (names_zone p v gone d z) p.Z (y + 1) → eqb (length (holders p v gone d z)) 1 ≡ false
      two_name x hx ex =
          let l = keep names (up_from (x + 1) (p.Z - (x + 1))) in
          let e = list_is (y ∷ x ∷ l) (from_y ∙ ap (λ (l : List ℕ). y ∷ l) (next_split names p.Z (y + 1) (omega arith) x hx ex)) in
          ne_eqb (length (holders p v gone d z)) 1 (λ q. let w : suc (suc (length (map (seg_at p v gone) l))) ≡ 1 = sym (ap length e) ∙ q in let k : ⊥ = omega arith in k)

-- ---- the answer

pub held_answer : (p : Params) (v : View) (gone d z r : ℕ) → is_good p v.offline d z ≡ true → HeldOne p v gone d z r
    → (is_good p v.offline d z && eqb (length (holders p v gone d z)) 1) ≡ true
held_answer p v gone d z r g h =
    and_both (is_good p v.offline d z) (eqb (length (holders p v gone d z)) 1) g (eq-eqb (length (holders p v gone d z)) 1 (ap length h.alone))

-- ---- a place

-- by its drive and zone
pub place_by : (p : Params) (v : View) (gone q : ℕ) → place_drive p q < p.N
    → is_place p v gone q ≡ (is_good p v.offline (place_drive p q) (place_zone p q) && eqb (length (holders p v gone (place_drive p q) (place_zone p q))) 1)
unfolding is_place
place_by p v gone q h =
    ap (λ (b : Bool). (b && is_good p v.offline (place_drive p q) (place_zone p q)) && eqb (length (holders p v gone (place_drive p q) (place_zone p q))) 1) (lt-ltb (place_drive p q) p.N h)

pub place_outside : (p : Params) (v : View) (gone q : ℕ) → p.N ≤ place_drive p q → is_place p v gone q ≡ false
unfolding is_place
place_outside p v gone q h =
    ap (λ (b : Bool). (b && is_good p v.offline (place_drive p q) (place_zone p q)) && eqb (length (holders p v gone (place_drive p q) (place_zone p q))) 1) (le-ltb (place_drive p q) p.N h)

pub answer_at : (p : Params) (v : View) (gone q d z : ℕ) (h : Option Serial) → d ≡ place_drive p q → z ≡ place_zone p q → d < p.N
    → (is_good p v.offline d z && eqb (length (holders p v gone d z)) 1) ≡ is_some h → HeldAs p v gone d z h
    → (is_place p v gone q ≡ is_some h) × HeldAs p v gone (place_drive p q) (place_zone p q) h
answer_at p v gone q d z h ed ez l e a = (
  place_by p v gone q (subst (λ (n : ℕ). n < p.N) ed l) ∙ sym (λ j. is_good p v.offline (ed j) (ez j) && eqb (length (holders p v gone (ed j) (ez j))) 1) ∙ e,
  subst (λ (n : ℕ). HeldAs p v gone n (place_zone p q) h) ed (subst (λ (n : ℕ). HeldAs p v gone d n h) ez a),
)

-- a place: its drive and zone, and its segment, which alone has it
module _ (p : Params) (v : View) (gone q : ℕ) (e : is_place p v gone q ≡ true) where
  abbrev at_drive : ℕ
  at_drive = place_drive p q

  abbrev at_zone : ℕ
  at_zone = place_zone p q

  abbrev its : Seg
  its = place_segment p v gone q

  -- on a present drive it is the segment of the serial in the zone's header
  pub place_held-one : Here p gone → is_in gone (place_drive p q) ≡ false → HeldOne p v gone (place_drive p q) (place_zone p q) (serial_in p v (place_drive p q) (place_zone p q))
  place_held-one here pr = held_one p v gone here at_drive at_zone (place_drive_low p v gone q e) pr
      (sym (held_good p v gone here at_drive at_zone (place_drive_low p v gone q e) pr) ∙ sym (place_by p v gone q (place_drive_low p v gone q e)) ∙ e)

-- the segment of a place, by a serial
pub held_segment : (p : Params) (v : View) (gone q r : ℕ) → HeldOne p v gone (place_drive p q) (place_zone p q) r → place_segment p v gone q ≡ seg_for p v gone r
unfolding first_or
held_segment p v gone q r h = place_first p v gone q ∙ ap (first_or no_seg) h.alone

-- with none missing, the serial of a place's segment stands in the header of its zone
pub place_serial_at : (p : Params) → Ranged p → (v : View) (q : ℕ) → is_place p v 0 q ≡ true → serial_at p v (place_segment p v 0 q) ≡ serial_in p v (place_drive p q) (place_zone p q)
place_serial_at p r v q e =
    let here = zero_here p r in
    let g = place_segment p v 0 q in
    let m = remaining_left p v 0 g (place_remains p v 0 q e) in
    by_drive_0 g
    ∙ left_serial p v 0 here g m 0 (omega (arith, r.drives_low)) (is_in_empty 0)
    ∙ sym (left_serial p v 0 here g m (place_drive p q) (place_drive_low p v 0 q e) (is_in_empty (place_drive p q)))
    ∙ in_header g (place_zone_on p v 0 q e)
  where
    by_drive_0 : (g : Seg) → serial_at p v g ≡ header_serial p (header_at v 0 g)
    by_drive_0 g = unfold serial_at in refl

    in_header : (g : Seg) → zone_on g (place_drive p q) ≡ place_zone p q → header_serial p (header_at v (place_drive p q) g) ≡ serial_in p v (place_drive p q) (place_zone p q)
    in_header g z = unfold header_at serial_in in ap (λ (n : ℕ). header_serial p (chunk_at v (place_drive p q) n 0).block) z
