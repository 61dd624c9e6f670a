-- Rebuild: the machine's plan, and its columns are what the zones get. Assumes nothing.
use Rattle.std.specs.Prelude.{◌≡◌, Bool, ◌&&◌, ◌⊎◌, get_or}
use Rattle.std.proofs.Math.Path.{refl, sym, ap}
use Rattle.std.proofs.Common.{ap₂, ◌∙◌, subst}
use mathlib.Core.List.{List, [], ◌∷◌, ◌++◌, map, append-nil, append_assoc}
use Rattle.std.proofs.Math.Bool.{true, false, cond}
use Rattle.std.proofs.Math.Logic.{inl, inr}
use Prim.Native.Nat.{ℕ, zero, suc, ◌+◌, ◌≤◌, ◌<◌}
use native.Mathlib.Omega.{arith}
use Rattle.std.proofs.Math.ListN.{length}
use Rattle.spec.specs.declared.Params.{Params}
use Rattle.spec.specs.Drives.{View, same_seg}
use Rattle.spec.specs.Layout.{group}
use Rattle.spec.specs.Lists.{up_from, below, any, is_in}
use Rattle.spec.specs.Params.{footers, capacity}
use Rattle.spec.specs.Segments.{remaining, Segment, segment_of, counts, counted}
use Rattle.law_basic.specs.Geometry.{Ranged}
use Rattle.law_basic.specs.Ranges.{up_from_snoc, length-below, map-append, length-keep}
use Rattle.law_basic.specs.Segs.{seg_true, seg_self}
use Rattle.law_drives.specs.Tests.{cond_true, cond_false}
use Rattle.proof_crash_machine.specs.Facts.{Ghost, Choice, Stripe, Ragged, self, R}
use Rattle.proof_crash_machine.specs.Rebuild2.{RPlan, chunks, column}
use Rattle.proof_crash_machine.specs.Val.{Val}
use Rattle.proof_crash_machine.specs.View.{Item, ItemView}
use Rattle.proof_crash_machine.specs.View.Item.{hdr, chunk, foot}
use Rattle.proof_crash_machine.specs.Mask.{count}
use Rattle.proof_crash_machine.specs.Rebuild.{with_un}
use Rattle.proof_crash_items.specs.Member.{Has, below_has, has_below, any_has, has_any, get_d_has, has_get_d}
use Rattle.proof_crash_items.specs.Ranges.{capacity_few, par_of, parities}
use Rattle.proof_crash_items.specs.Refuse.{rising-below}
use Rattle.proof_crash_items.specs.SegFacts.{segment-fields, ragged_of}
use Rattle.proof_crash_items.specs.Segs.{segs_name_is, OnDrives, SegAt, has_remaining, name_of, named_seg, remains_at_holds}
use Rattle.proof_crash_items.specs.Stripes.{counted_has, piece_at, counted_stripe, stripe_counted}
use Rattle.proof_crash_restarts.specs.Order.{rising_same}
use Rattle.proof_crash_rebuilds.specs.Groups.{counted-rising, counted-group, sealed-counts}
use Rattle.proof_crash_rebuilds.specs.Sorted.{rising-one}
use Rattle.proof_crash_rebuilds.specs.Zones.{zone_items}
use Rattle.spec.specs.declared.Seg.{Seg}

map_tail : {B : Type 0} (f : ℕ → B) (a : ℕ) (l : List ℕ) (i n : ℕ) → map (λ j. f (get_or (a ∷ l) j 0)) (up_from (suc i) n) ≡ map (λ j. f (get_or l j 0)) (up_from i n)
unfolding up_from
map_tail f a l i zero = refl
map_tail {B} f a l i (suc n) = ap (λ (x : List B). f (get_or l i 0) ∷ x) (map_tail f a l (suc i) n)

pub map_index : {B : Type 0} (f : ℕ → B) (l : List ℕ) → map (λ j. f (get_or l j 0)) (below (length l)) ≡ map f l
unfolding below up_from
map_index f [] = refl
map_index {B} f (a ∷ l) = ap (λ (x : List B). f a ∷ x) (map_tail f a l 0 (length l) ∙ map_index f l)

module _ (p : Params) (r : Ranged p) (off : List ℕ) (g₀ : Ghost) (m : ℕ) (few-lost : count p.N (is_in m) ≤ parities p) (v : View) (u : ItemView)
    (k : OnDrives p r off (with_un g₀ (is_in m)) v u) where
  abbrev g : Ghost
  g = with_un g₀ (is_in m)

  abbrev c : Choice (par_of p r off) (is_in m) (is_in m)
  c = self (par_of p r off) (is_in m) few-lost

  abbrev G : Seg → Segment
  G z = segment_of p v m z

  abbrev rem : List Seg
  rem = remaining p v m

  unfoldable pub plan_count : Seg → ℕ
  plan_count z = cond (any (same_seg z) (remaining p v m)) (length (counted p m (segment_of p v m z))) 0

  unfoldable pub plan_feet : Seg → ℕ
  plan_feet z = cond (any (same_seg z) (remaining p v m) && (segment_of p v m z).full) (footers p) 0

  member : (z : Seg) → Has z (remaining p v m) → any (same_seg z) (remaining p v m) ≡ true
  member z i = has_any (same_seg z) rem z i (seg_self z)

  of_member : (z : Seg) → any (same_seg z) (remaining p v m) ≡ true → Has z (remaining p v m)
  of_member z e = let q : (y : Seg) × Has y rem × (same_seg z y ≡ true) = any_has (same_seg z) rem e in subst (λ (x : Seg). Has x rem) (sym (seg_true z q.0 q.2)) q.1

  pub count_here : (z : Seg) → Has z (remaining p v m) → plan_count z ≡ length (counted p m (G z))
  count_here z i = unfold plan_count in cond_true (any (same_seg z) rem) (length (counted p m (G z))) 0 (member z i)

  pub feet_here : (z : Seg) → Has z (remaining p v m) → plan_feet z ≡ cond (G z).full (footers p) 0
  feet_here z i = unfold plan_feet in ap (λ (b : Bool). cond (b && (G z).full) (footers p) 0) (member z i)

  counted_within : (z : Seg) → length (counted p m (G z)) ≤ p.S
  counted_within z = unfold counted in omega (arith, length-keep (counts p m (G z)) (below p.S), length-below p.S)

  column_there : (z : Seg) → Has z (remaining p v m) → SegAt p v u m z (name_of p v m z)
  column_there z i = remains_at_holds p r off g v u k m c z i

  name : (n : ℕ) → R (par_of p r off) g.hd u (is_in m) n → name_of p v m (named_seg p g n) ≡ n
  name n rr = segs_name_is p r off g v u k m c n rr.left

  full_counts : (z : Seg) → Has z (remaining p v m) → (G z).full ≡ true → length (counted p m (G z)) ≡ p.S
  full_counts z i e =
      ap length (rising_same (counted p m (G z)) (below p.S) (counted-rising p r off g v u k m c z) (rising-below p.S)
      (λ s h. has_below s p.S (counted_has p r off g v u k m c z s h).0)
      (λ s h. sealed-counts p r off g v u k m c z s (column_there z i) (sym (segment-fields p r off g v u k m c z).3 ∙ e) (below_has s p.S h))) ∙ length-below p.S

  -- count and footers by cases: not remaining, remaining and unsealed, remaining and sealed
  cases :
      (z : Seg)
      → ((plan_count z ≡ 0) × (plan_feet z ≡ 0)) ⊎ (Has z (remaining p v m)
      × (plan_count z ≡ length (counted p m (G z)))
      × ((((G z).full ≡ false) × (plan_feet z ≡ 0)) ⊎ (((G z).full ≡ true) × (plan_feet z ≡ footers p))))
  cases z = go (any (same_seg z) rem) refl
    where
      go :
          (b : Bool)
          → any (same_seg z) rem ≡ b
          → ((plan_count z ≡ 0) × (plan_feet z ≡ 0)) ⊎ (Has z (remaining p v m)
          × (plan_count z ≡ length (counted p m (G z)))
          × ((((G z).full ≡ false) × (plan_feet z ≡ 0)) ⊎ (((G z).full ≡ true) × (plan_feet z ≡ footers p))))
      go false e = inl ((unfold plan_count in cond_false (any (same_seg z) rem) (length (counted p m (G z))) 0 e), (unfold plan_feet in ap (λ (b : Bool). cond (b && (G z).full) (footers p) 0) e))
      go true e = inr (of_member z e, count_here z (of_member z e), two (G z).full refl)
        where
          two : (b : Bool) → (G z).full ≡ b → (((G z).full ≡ false) × (plan_feet z ≡ 0)) ⊎ (((G z).full ≡ true) × (plan_feet z ≡ footers p))
          two true f = inr (f, feet_here z (of_member z e) ∙ ap (λ (b : Bool). cond b (footers p) 0) f)
          two false f = inl (f, feet_here z (of_member z e) ∙ ap (λ (b : Bool). cond b (footers p) 0) f)

  abbrev Cases : Seg → Type 0
  Cases z =
      ((plan_count z ≡ 0) × (plan_feet z ≡ 0))
      ⊎ (Has z (remaining p v m)
      × (plan_count z ≡ length (counted p m (G z)))
      × ((((G z).full ≡ false) × (plan_feet z ≡ 0)) ⊎ (((G z).full ≡ true) × (plan_feet z ≡ footers p))))

  abbrev src : Seg → ℕ → ℕ
  src z j = get_or (counted p m (G z)) j 0

  pub plan : RPlan (par_of p r off) g u
  plan = record {
    c = λ n. plan_count (named_seg p g n);
    src = λ n j. get_or (counted p m (segment_of p v m (named_seg p g n))) j 0;
    E = λ n j e. piece_at p r off g v u k m c (named_seg p g n) (get_or (counted p m (segment_of p v m (named_seg p g n))) j 0) e;
    foots = λ n. plan_feet (named_seg p g n);
    st = λ n rr j l. subst (λ (y : ℕ). Stripe (par_of p r off) u (is_in m) y (src (named_seg p g n) j)
        (λ e. piece_at p r off g v u k m c (named_seg p g n) (src (named_seg p g n) j) e)) (name n rr)
        (st? (named_seg p g n) (has_remaining p r off g v u k m c n rr) j l);
    every = λ n s f rr q. every? (named_seg p g n) s f (has_remaining p r off g v u k m c n rr)
        (subst (λ (y : ℕ). Stripe (par_of p r off) u (is_in m) y s f) (sym (name n rr)) q);
    inj = λ n i j a b e. inj? (named_seg p g n) i j a b e (cases (named_seg p g n));
    grp = λ n j l. grp? (named_seg p g n) j l (cases (named_seg p g n));
    sealed = λ n b s l. sealed? (named_seg p g n) b s l (cases (named_seg p g n));
    room = λ n. room? (named_seg p g n) (cases (named_seg p g n));
    ragged = λ n rr b. subst (Ragged (par_of p r off) (is_in m) u) (name n rr)
        (ragged? (named_seg p g n) (has_remaining p r off g v u k m c n rr) b (cases (named_seg p g n)));
  }
    where
      st? : (z : Seg) → Has z rem → (j : ℕ) → j < plan_count z → Stripe (par_of p r off) u (is_in m) (name_of p v m z) (src z j) (λ e. piece_at p r off g v u k m c z (src z j) e)
      st? z i j l = counted_stripe p r off g v u k m c z (src z j) (column_there z i) (get_d_has (counted p m (G z)) j 0 (omega (arith, l, count_here z i)))

      every? : (z : Seg) (s : ℕ) (f : ℕ → Val) → Has z rem → Stripe (par_of p r off) u (is_in m) (name_of p v m z) s f → (j : ℕ) × (j < plan_count z) × (src z j ≡ s)
      every? z s f i q =
          let a : (j : ℕ) × (j < length (counted p m (G z))) × (src z j ≡ s) = has_get_d (counted p m (G z)) s 0 (stripe_counted p r off g v u k m c z s f (column_there z i) q).0 in
          (a.0, omega (arith, a.1, count_here z i), a.2)

      inj? : (z : Seg) (i j : ℕ) → i < plan_count z → j < plan_count z → src z i ≡ src z j → Cases z → i ≡ j
      inj? z i j a b e (inl (q, w)) = absurd (let x : ⊥ = omega (arith, a, q) in x)
      inj? z i j a b e (inr (h, q, w)) = rising-one (counted p m (G z)) (counted-rising p r off g v u k m c z) i j (omega (arith, a, q)) (omega (arith, b, q)) e

      grp? : (z : Seg) (j : ℕ) → j < plan_count z → Cases z → (src z j < p.S) × (j < p.S) × (group p (src z j) ≡ group p j)
      grp? z j l (inl (q, w)) = absurd (let x : ⊥ = omega (arith, l, q) in x)
      grp? z j l (inr (h, q, w)) = counted-group p r off g v u k m c z j (column_there z h) (omega (arith, l, q))

      sealed? : (z : Seg) → suc p.S < suc (plan_count z + plan_feet z) → (s : ℕ) → s < p.S → Cases z → (j : ℕ) × (j < plan_count z) × (src z j ≡ s)
      sealed? z b s l (inl (q, w)) = absurd (let x : ⊥ = omega (arith, b, q, w) in x)
      sealed? z b s l (inr (h, q, inl (f, w))) = absurd (let x : ⊥ = omega (arith, b, q, w, counted_within z) in x)
      sealed? z b s l (inr (h, q, inr (f, w))) =
          let a : (j : ℕ) × (j < length (counted p m (G z))) × (src z j ≡ s) =
          has_get_d (counted p m (G z)) s 0
          (sealed-counts p r off g v u k m c z s (column_there z h) (sym (segment-fields p r off g v u k m c z).3 ∙ f) l) in
          (a.0, omega (arith, a.1, q), a.2)

      room? : (z : Seg) → Cases z → suc (plan_count z + plan_feet z) ≤ capacity p
      room? z (inl (q, w)) = omega (arith, q, w, capacity_few p r)
      room? z (inr (h, q, inl (f, w))) = omega (arith, q, w, counted_within z, capacity_few p r)
      room? z (inr (h, q, inr (f, w))) = unfold capacity in omega (arith, q, w, counted_within z)

      ragged? : (z : Seg) → Has z rem → suc (plan_count z + plan_feet z) < capacity p → Cases z → Ragged (par_of p r off) (is_in m) u (name_of p v m z)
      ragged? z i b (inl (q, w)) = go (G z).full refl
        where
          go : (t : Bool) → (G z).full ≡ t → Ragged (par_of p r off) (is_in m) u (name_of p v m z)
          go false f = ragged_of p r off g v u k m c z i f
          go true f = absurd (let x : length (counted p m (G z)) ≡ p.S = full_counts z i f in let y : ⊥ = omega (arith, x, q, count_here z i, r.stripes_low) in y)
      ragged? z i b (inr (h, q, inl (f, w))) = ragged_of p r off g v u k m c z i f
      ragged? z i b (inr (h, q, inr (f, w))) =
          absurd (unfold capacity in (let x : length (counted p m (G z)) ≡ p.S = full_counts z i f in let y : ⊥ = omega (arith, x, q, w, b) in y))

  plan_foots : (n : ℕ) → plan.foots n ≡ plan_feet (named_seg p g n)
  unfolding plan
  plan_foots n = refl

  -- ---- the machine's columns, by number
  module _ (d n : ℕ) (i : Has (named_seg p g n) (remaining p v m)) (own : name_of p v m (named_seg p g n) ≡ n) where
    abbrev z : Seg
    z = named_seg p g n

    abbrev cs : List ℕ
    cs = counted p m (G (named_seg p g n))

    abbrev it : ℕ → Item
    it j = chunk (src (named_seg p g n) j) (piece_at p r off g v u k m c (named_seg p g n) (src (named_seg p g n) j) d)

    chunks_are : (j : ℕ) → chunks (par_of p r off) g u plan d n j ≡ hdr (g.hd.ser n) (g.hd.cop n) (g.hd.zn n) ∷ map it (below j)
    unfolding chunks plan below up_from
    chunks_are zero = refl
    chunks_are (suc j) = ap (λ (x : List Item). x ++ (it j ∷ [])) (chunks_are j) ∙ ap (λ (x : List Item). hdr (g.hd.ser n) (g.hd.cop n) (g.hd.zn n) ∷ x) (snoc j)
      where
        snoc : (n : ℕ) → map it (up_from 0 n) ++ (it n ∷ []) ≡ map it (up_from 0 (suc n))
        snoc n =
            sym (ap (map it) (up_from_snoc 0 n) ∙ map-append it (up_from 0 n) ((0 + n) ∷ []) ∙ ap (λ (x : ℕ). map it (up_from 0 n) ++ (it x ∷ [])) (let e : 0 + n ≡ n = omega arith in e))

    column_feet : (j : ℕ) → column (par_of p r off) g u plan d n j ≡ chunks (par_of p r off) g u plan d n (plan_count (named_seg p g n)) ++ map foot (below j)
    unfolding column plan below up_from
    column_feet zero = sym (append-nil (chunks (par_of p r off) g u plan d n (plan_count z)))
    column_feet (suc j) =
        ap (λ (x : List Item). x ++ (foot j ∷ [])) (column_feet j) ∙ append_assoc (chunks (par_of p r off) g u plan d n (plan_count z)) (map foot (up_from 0 j)) (foot j ∷ [])
        ∙ ap (λ (x : List Item). chunks (par_of p r off) g u plan d n (plan_count z) ++ x) (snoc j)
      where
        snoc : (n : ℕ) → map foot (up_from 0 n) ++ (foot n ∷ []) ≡ map foot (up_from 0 (suc n))
        snoc n =
            sym (ap (map foot) (up_from_snoc 0 n) ∙ map-append foot (up_from 0 n) ((0 + n) ∷ [])
            ∙ ap (λ (x : ℕ). map foot (up_from 0 n) ++ (foot x ∷ [])) (let e : 0 + n ≡ n = omega arith in e))

    pub column_is : column (par_of p r off) g u plan d n (plan_feet (named_seg p g n)) ≡ zone_items p r off g v u k m c d (named_seg p g n)
    column_is =
        column_feet (plan_feet z)
        ∙ ap₂ (λ (x y : List Item). x ++ y) (ap (chunks (par_of p r off) g u plan d n) (count_here z i)
        ∙ chunks_are (length cs)
        ∙ ap₂ (λ (t : ℕ) (x : List Item). hdr (g.hd.ser t) (g.hd.cop t) (g.hd.zn t) ∷ x) (sym own)
        (map_index (λ s. chunk s (piece_at p r off g v u k m c z s d)) cs))
        (ap (λ (n : ℕ). map foot (below n)) (feet_here z i) ∙ feet_cond (G z).full)
        ∙ (unfold zone_items in refl)
      where
        feet_cond : (b : Bool) → map foot (below (cond b (footers p) 0)) ≡ cond b (map foot (below (footers p))) []
        feet_cond true = refl
        feet_cond false = unfold below up_from in refl

    pub column_foots : column (par_of p r off) g u plan d n (plan.foots n) ≡ zone_items p r off g v u k m c d (named_seg p g n)
    column_foots = ap (column (par_of p r off) g u plan d n) (plan_foots n) ∙ column_is
