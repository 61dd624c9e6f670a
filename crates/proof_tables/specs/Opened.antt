-- The open segment while stripes begin and fill: no store is made. Assumes nothing.
use Rattle.std.specs.Prelude.{◌≡◌, List, [], ◌∷◌, Bool, true, false, not, ◌&&◌, ◌||◌, ◌⊎◌, ℕ, suc, ◌+◌, ◌*◌, ◌/◌, ◌%◌, ◌^◌, ◌≤◌, ◌<◌}
use Rattle.std.proofs.Math.Path.{refl}
use Rattle.std.proofs.Common.{sym, ap, ap₂, ◌∙◌, subst, inl, inr, div-add-mod', mod-lt, suc-mul, eq-eqb, ne_eqb, eqb-true, arith}
use Rattle.std.proofs.Math.Decide.{dec_lt, ℕ_discrete}
use Rattle.std.proofs.Math.Dec.{eqb}
use Rattle.spec.specs.declared.Params.{Params}
use Rattle.spec.specs.declared.State.{State}
use Rattle.spec.specs.Drives.{View, pointer_at, zone_on, no_seg}
use Rattle.spec.specs.Layout.{data_position, is_data, group, Rec, header_serial}
use Rattle.spec.specs.Lists.{keep, any, tally, is_in, first_or, is_nil}
use Rattle.spec.specs.Memory.{slots, cell, stripe_in, filled_in_of, landed_in, entry_in_of, begin_stripe, add_entry}
use Rattle.spec.specs.Params.{data_count}
use Rattle.law_basic.specs.Geometry.{Ranged, data_count_high}
use Rattle.law_basic.specs.Mask.{is_in_empty}
use Rattle.law_basic.specs.Ranges.{Test, test, and_both}
use Rattle.law_basic.specs.Ranges.Test.{yes!, no! }
use Rattle.law_drives.specs.Members.{none_in, any_in, In, in_keep, keep_in}
use Rattle.law_drives.specs.States.{in_slots, slots_in}
use Rattle.law_drives.specs.Tests.{clash, and_false_left, or_true_right, eqb_self}
use Rattle.law_drives.specs.Tidy.{spare_at, There, Tidy}
use Rattle.proof_tables.specs.Run.{awaits, LandedAt, SlotFlies, OpenZone, Lists, HealthyState, flies}
use Rattle.proof_tables.specs.Slots.{cell_same, number_begun, begin_number_other, filled_begun, begin_filled-other, landed_begun, begin_landed-other}
use Rattle.proof_tables.specs.Slots.{begin_entry_other, begin_offset, filled-added, add-filled-other, number_added, landed-added, offset_added, entry_added}
use Rattle.proof_tables.specs.Slots.{add_entry_other}
use Rattle.proof_tables.specs.Tallies.{tally_cong, tally_none, tally_some, tally-more}
use Rattle.spec.specs.declared.Seg.{Seg}
use Rattle.law_drives.specs.Segs.{remaining_left}
use Rattle.law_drives.specs.Settled.{there_remains, there_serial}
use Rattle.spec.specs.Segments.{header_at, open_segment, open_segments, serial_at, remaining}

-- the first of a list in which but one passes
first_only : (f : Seg → Bool) (l : List Seg) (z d : Seg) → In z l → f z ≡ true → ((g : Seg) → In g l → f g ≡ true → g ≡ z)
    → (first_or d (keep f l) ≡ z) × (is_nil (keep f l) ≡ false)
first_only f l z d m q one = go (keep f l) (in_keep f l z m q) (λ g n. let (i, w) = keep_in f l g n in one g i w)
  where
    go : (k : List Seg) → In z k → ((g : Seg) → In g k → g ≡ z) → (first_or d k ≡ z) × (is_nil k ≡ false)
    go [] n o = absurd n
    go (x ∷ k) n o = unfold first_or is_nil in (o x (inl refl), refl)

-- no serial of a segment that there is is 0
pub serial_some : (p : Params) (v : View) (s : ℕ) (z : Seg) → Tidy p v s → There p v z → header_serial p (header_at v 0 z) ≡ 0 → ⊥
serial_some p v s z t m e = let l = t.copied_less z m in let bad : ⊥ = omega arith in bad

-- the open segment, by its serial
module _ (p : Params) (r : Ranged p) (v : View) (st : State) (h : HealthyState p v st) (z : Seg) (m : There p v z) (e : st.opened ≡ header_serial p (header_at v 0 z)) where
  pub opened_some : st.opened ≡ 0 → ⊥
  opened_some q = serial_some p v st.serial.0 z h.tidy m (sym e ∙ q)

  opened_found : (first_or no_seg (open_segments p v st) ≡ z) × (is_nil (open_segments p v st) ≡ false)
  unfolding open_segments serial_at
  opened_found = first_only (λ g. eqb (header_serial p (header_at v 0 g)) st.opened) (remaining p v 0) z no_seg (there_remains p r v st.serial.0 h.tidy z m)
      (eq-eqb (header_serial p (header_at v 0 z)) st.opened (sym e))
      (λ g n q. there_serial p r v g z (remaining_left p v 0 g n) m (eqb-true (header_serial p (header_at v 0 g)) st.opened q ∙ e))

  pub open_segment_is : open_segment p v st ≡ z
  unfolding open_segment
  open_segment_is = opened_found.0

  pub open_segment_some : is_nil (open_segments p v st) ≡ false
  open_segment_some = opened_found.1

  pub open_at : OpenZone p v st (flies st) z
  open_at = let (y, q, o) = h.opens_at opened_some in subst (λ (x : Seg). OpenZone p v st (flies st) x) (there_serial p r v y z o.opened_zone m (sym q ∙ e)) o

-- the eighths in use, told otherwise
pub busy_same : (p : Params) (v : View) (st : State) (busy busy' : ℕ → Bool) (z : Seg) → ((i : ℕ) → i < 8 → busy i ≡ busy' i) → OpenZone p v st busy z → OpenZone p v st busy' z
busy_same p v st busy busy' z e o = record {
  opened_zone = o.opened_zone;
  has_header = o.has_header;
  count =
      λ d h. ap (λ (x : ℕ). pointer_at v d (zone_on z d) + x) (sym
      (tally_cong (awaits st busy d) (awaits st busy' d) slots
      (λ i m. ap (λ (b : Bool). b && not (is_in (landed_in st i) d)) (e i (slots_in i m)))))
      ∙ o.count d h;
  below_next = o.below_next;
  flight = λ i h q. o.flight i h (e i h ∙ q);
  once = λ i j hi hj a b s. o.once i j hi hj (e i hi ∙ a) (e j hj ∙ b) s;
  goes_on = λ q. subst (λ (x : ℕ). 0 < x) (tally_cong busy busy' slots (λ i m. e i (slots_in i m))) (o.goes_on q);
}

-- ---- an entry more

module _ (p : Params) (r : Ranged p) (v : View) (st : State) (ls : Lists st) (busy : ℕ → Bool) (z : Seg) (i a t w : ℕ) (hi : i < 8) (bi : busy i ≡ true)
    (room : filled_in_of st i < data_count p) (ha : a < 256 ^ 8) (ht : t < 256 ^ 8) (o : OpenZone p v st busy z) where
  abbrev st' : State
  st' = add_entry st i a t w

  eight : data_count p ≤ 7
  eight = data_count_high p r

  -- entries that were there stay
  kept_entry : (j e : ℕ) → e < 8 → ((j ≡ i → ⊥) ⊎ (e < filled_in_of st i)) → entry_in_of st' j e ≡ entry_in_of st j e
  kept_entry j e he c = add_entry_other st ls i hi a t w j e (λ q. go q c)
    where
      go : cell j e ≡ cell i (filled_in_of st i) → (j ≡ i → ⊥) ⊎ (e < filled_in_of st i) → ⊥
      go q (inl n) = n (cell_same j i e (filled_in_of st i) he (omega (arith, eight)) q).0
      go q (inr l) = let x = (cell_same j i e (filled_in_of st i) he (omega (arith, eight)) q).1 in let y : ⊥ = omega arith in y

  filled-least : (j : ℕ) → filled_in_of st j ≤ filled_in_of st' j
  filled-least j = go (ℕ_discrete j i)
    where
      go : Dec (j ≡ i) → filled_in_of st j ≤ filled_in_of st' j
      go (yes e) = subst (λ (x : ℕ). filled_in_of st x ≤ filled_in_of st' x) (sym e) (omega (arith, filled-added st ls i hi a t w))
      go (no n) = omega (arith, add-filled-other st ls i hi a t w j n)

  is_kept : (j e : ℕ) → e < filled_in_of st j → filled_in_of st j ≤ data_count p → entry_in_of st' j e ≡ entry_in_of st j e
  is_kept j e h l = kept_entry j e (omega (arith, eight)) (go (ℕ_discrete j i))
    where
      go : Dec (j ≡ i) → (j ≡ i → ⊥) ⊎ (e < filled_in_of st i)
      go (yes q) = inr (subst (λ (x : ℕ). e < filled_in_of st x) q h)
      go (no n) = inl n

  add_flight : (j : ℕ) → j < 8 → busy j ≡ true → filled_in_of st j ≤ data_count p → SlotFlies p v st z j → SlotFlies p v st' z j
  add_flight j hj b l f = record {
    begun = begun_is;
    group-low = subst (λ (x : ℕ). (d : ℕ) → d < p.N → group p x * p.G < pointer_at v d (zone_on z d)) (sym en) f.group-low;
    group_high = high_is;
    not_there = λ d o hd q x y. f.not_there d o hd (ap (λ (m : ℕ). is_in m d) (sym (landed-added st ls i hi a t w j)) ∙ q) x (y ∙ en);
    lands = λ d hd q. landed_as d (f.lands d hd (ap (λ (m : ℕ). is_in m d) (sym (landed-added st ls i hi a t w j)) ∙ q));
    entries_low = entries;
  }
    where
      en : stripe_in st' j ≡ stripe_in st j
      en = number_added st ls i hi a t w j

      next_is : st'.next ≡ st.next
      next_is = unfold add_entry in refl

      begun_is : stripe_in st' j < st'.next
      begun_is = subst (λ (x : ℕ). x < st'.next) (sym en) (subst (λ (x : ℕ). stripe_in st j < x) (sym next_is) f.begun)

      high_is : st'.next ≤ suc (group p (stripe_in st' j)) * p.G
      high_is = subst (λ (x : ℕ). st'.next ≤ suc (group p x) * p.G) (sym en) (subst (λ (x : ℕ). x ≤ suc (group p (stripe_in st j)) * p.G) (sym next_is) f.group_high)

      landed_as : (d : ℕ) → LandedAt p v st z j d → LandedAt p v st' z j d
      landed_as d n = record {
        lies = subst (λ (x : ℕ). 1 + x < pointer_at v d (zone_on z d)) (sym (offset_added st ls i hi a t w j d)) n.lies;
        of_stripe = ap (λ (x : ℕ). (spare_at p v d (zone_on z d) x).stripe) (offset_added st ls i hi a t w j d) ∙ n.of_stripe ∙ sym en;
        not_before = λ o h q. n.not_before o (subst (λ (x : ℕ). o < x) (offset_added st ls i hi a t w j d) h) (q ∙ en);
        is_entry = λ q.
            let (x, y) = n.is_entry (ap (λ (s : ℕ). is_data p s d) (sym en) ∙ q) in
            let ep : data_position p (stripe_in st' j) d ≡ data_position p (stripe_in st j) d = ap (λ (s : ℕ). data_position p s d) en in (
              subst (λ (k : ℕ). k < filled_in_of st' j) (sym ep) (let q = filled-least j in omega arith),
              ap (spare_at p v d (zone_on z d)) (offset_added st ls i hi a t w j d) ∙ y ∙ sym (ap (entry_in_of st' j) ep ∙ is_kept j (data_position p (stripe_in st j) d) x l),
            );
      }

      entries : (e : ℕ) → e < filled_in_of st' j → ((entry_in_of st' j e).address < 256 ^ 8) × ((entry_in_of st' j e).stamp < 256 ^ 8)
      entries e h = go (ℕ_discrete j i)
        where
          old : (e : ℕ) → e < filled_in_of st j → ((entry_in_of st' j e).address < 256 ^ 8) × ((entry_in_of st' j e).stamp < 256 ^ 8)
          old e h = subst (λ (x : Rec). (x.address < 256 ^ 8) × (x.stamp < 256 ^ 8)) (sym (is_kept j e h l)) (f.entries_low e h)

          go : Dec (j ≡ i) → ((entry_in_of st' j e).address < 256 ^ 8) × ((entry_in_of st' j e).stamp < 256 ^ 8)
          go (no n) = old e (subst (λ (x : ℕ). e < x) (add-filled-other st ls i hi a t w j n) h)
          go (yes q) = two (dec_lt e (filled_in_of st j))
            where
              two : Dec (e < filled_in_of st j) → ((entry_in_of st' j e).address < 256 ^ 8) × ((entry_in_of st' j e).stamp < 256 ^ 8)
              two (yes l) = old e l
              two (no l) =
                  let fj : filled_in_of st' j ≡ suc (filled_in_of st j) = subst (λ (x : ℕ). filled_in_of st' x ≡ suc (filled_in_of st x)) (sym q) (filled-added st ls i hi a t w) in
                  let ee : e ≡ filled_in_of st i = (let x : e ≡ filled_in_of st j = omega arith in x) ∙ ap (filled_in_of st) q in
                  subst (λ (x : Rec). (x.address < 256 ^ 8) × (x.stamp < 256 ^ 8)) (sym (ap₂ (entry_in_of st') q ee ∙ entry_added st ls i hi a t w (omega (arith, eight)))) (ha, ht)

  -- the open segment stays as it is
  pub add_open : ((j : ℕ) → j < 8 → filled_in_of st j ≤ data_count p) → OpenZone p v st' busy z
  add_open l = record {
    opened_zone = o.opened_zone;
    has_header = o.has_header;
    count =
        λ d h. ap (λ (x : ℕ). pointer_at v d (zone_on z d) + x) (tally_cong (awaits st' busy d) (awaits st busy d) slots
        (λ j m. ap (λ (x : ℕ). busy j && not (is_in x d)) (landed-added st ls i hi a t w j)))
        ∙ o.count d h
        ∙ ap suc (sym next_is);
    below_next = λ d e h q. subst (λ (x : ℕ). (spare_at p v d (zone_on z d) e).stripe < x) (sym next_is) (o.below_next d e h q);
    flight = λ j h q. add_flight j h q (l j h) (o.flight j h q);
    once = λ j k hj hk x y e. o.once j k hj hk x y (sym (number_added st ls i hi a t w j) ∙ e ∙ number_added st ls i hi a t w k);
    goes_on = λ q. o.goes_on (sym next_is ∙ q);
  }
    where
      next_is : st'.next ≡ st.next
      next_is = unfold add_entry in refl

-- ---- a stripe more

group_quotient : (p : Params) (s : ℕ) → group p s ≡ s / p.G
group_quotient p s = unfold group in refl

group_under : (p : Params) → Ranged p → (s : ℕ) → group p s * p.G ≤ s
group_under p r s = let e = div-add-mod' s p.G in subst (λ (x : ℕ). x * p.G ≤ s) (sym (group_quotient p s)) (omega arith)

group_over : (p : Params) → Ranged p → (s : ℕ) → suc s ≤ suc (group p s) * p.G
group_over p r s =
    let e = div-add-mod' s p.G in
    let m : s % p.G < p.G = mod-lt s r.group-low in
    let q : suc (s / p.G) * p.G ≡ s / p.G * p.G + p.G = suc-mul (s / p.G) p.G in
    subst (λ (x : ℕ). suc s ≤ suc x * p.G) (sym (group_quotient p s)) (omega arith)

module _ (p : Params) (r : Ranged p) (v : View) (st : State) (ls : Lists st) (busy : ℕ → Bool) (z : Seg) (i : ℕ) (hi : i < 8) (bi : busy i ≡ false)
    (nx : st.next < p.S) (gr : (j : ℕ) → j < 8 → busy j ≡ true → group p (stripe_in st j) ≡ group p st.next) (o : OpenZone p v st busy z) where
  abbrev su : State
  su = begin_stripe st i

  abbrev more : ℕ → Bool
  more j = busy j || eqb j i

  more_here : more i ≡ true
  more_here = or_true_right (busy i) (eqb i i) (eqb_self i)

  more-other : (j : ℕ) → (j ≡ i → ⊥) → more j ≡ busy j
  more-other j n = ap (λ (b : Bool). busy j || b) (ne_eqb j i n) ∙ or_false! (busy j)
    where
      or_false! : (b : Bool) → b || false ≡ b
      or_false! true = refl
      or_false! false = refl

  next_su : su.next ≡ suc st.next
  next_su = unfold begin_stripe in refl

  tally_su : (d : ℕ) → tally (awaits su more d) slots ≡ suc (tally (awaits st busy d) slots)
  tally_su d = tally-more (awaits su more d) (awaits st busy d) i hi
      (λ j n. ap₂ (λ (b : Bool) (x : ℕ). b && not (is_in x d)) (more-other j n) (begin_landed-other st ls i hi j n))
      (and_both (more i) (not (is_in (landed_in su i) d)) more_here (ap (λ (x : ℕ). not (is_in x d)) (landed_begun st ls i hi) ∙ ap not (is_in_empty d)))
      (and_false_left (busy i) (not (is_in (landed_in st i) d)) bi)

  -- with nothing in flight the pointers are behind the stripes begun
  opened_low_here : (d : ℕ) → d < p.N → group p st.next * p.G < pointer_at v d (zone_on z d)
  opened_low_here d hd = go (test (any busy slots))
    where
      go : Test (any busy slots) → group p st.next * p.G < pointer_at v d (zone_on z d)
      go (yes! q) =
          let (j, m, b) = any_in busy slots q in
          let hj = slots_in j m in
          subst (λ (x : ℕ). x * p.G < pointer_at v d (zone_on z d)) (gr j hj b) ((o.flight j hj b).group-low d hd)
      go (no! q) =
          let e : tally (awaits st busy d) slots ≡ 0 = tally_none (awaits st busy d) slots (λ j m. and_false_left (busy j) (not (is_in (landed_in st j) d)) (none_in busy slots q j m)) in
          let c = o.count d hd in
          let u = group_under p r st.next in
          omega arith

  new_flight : SlotFlies p v su z i
  new_flight =
      let en = number_begun st ls i hi in
      record {
        begun = subst (λ (x : ℕ). x < su.next) (sym en) (subst (λ (x : ℕ). st.next < x) (sym next_su) (omega arith));
        group-low = subst (λ (x : ℕ). (d : ℕ) → d < p.N → group p x * p.G < pointer_at v d (zone_on z d)) (sym en) opened_low_here;
        group_high = subst (λ (x : ℕ). su.next ≤ suc (group p x) * p.G) (sym en) (subst (λ (x : ℕ). x ≤ suc (group p st.next) * p.G) (sym next_su) (group_over p r st.next));
        not_there = λ d e hd q x y. let l = o.below_next d e hd x in let s = y ∙ en in let bad : ⊥ = omega arith in bad;
        lands = λ d hd q. clash q (ap (λ (x : ℕ). is_in x d) (landed_begun st ls i hi) ∙ is_in_empty d);
        entries_low = λ e h. absurd (let f = filled_begun st ls i hi in let bad : ⊥ = omega arith in bad);
      }

  old_flight : (j : ℕ) → (j ≡ i → ⊥) → group p (stripe_in st j) ≡ group p st.next → SlotFlies p v st z j → SlotFlies p v su z j
  old_flight j n g f =
      let en = begin_number_other st ls i hi j n in
      let el = begin_landed-other st ls i hi j n in
      let ef = begin_filled-other st ls i hi j n in
      record {
        begun = subst (λ (x : ℕ). x < su.next) (sym en) (subst (λ (x : ℕ). stripe_in st j < x) (sym next_su) (let l = f.begun in omega arith));
        group-low = subst (λ (x : ℕ). (d : ℕ) → d < p.N → group p x * p.G < pointer_at v d (zone_on z d)) (sym en) f.group-low;
        group_high = subst (λ (x : ℕ). su.next ≤ suc (group p x) * p.G) (sym en)
            (subst (λ (x : ℕ). x ≤ suc (group p (stripe_in st j)) * p.G) (sym next_su) (subst (λ (x : ℕ). suc st.next ≤ suc x * p.G) (sym g) (group_over p r st.next)));
        not_there = λ d e hd q x y. f.not_there d e hd (ap (λ (m : ℕ). is_in m d) (sym el) ∙ q) x (y ∙ en);
        lands = λ d hd q.
            let l = f.lands d hd (ap (λ (m : ℕ). is_in m d) (sym el) ∙ q) in
            record {
              lies = subst (λ (x : ℕ). 1 + x < pointer_at v d (zone_on z d)) (sym (begin_offset st ls i hi j d)) l.lies;
              of_stripe = ap (λ (x : ℕ). (spare_at p v d (zone_on z d) x).stripe) (begin_offset st ls i hi j d) ∙ l.of_stripe ∙ sym en;
              not_before = λ e h q. l.not_before e (subst (λ (x : ℕ). e < x) (begin_offset st ls i hi j d) h) (q ∙ en);
              is_entry = λ q.
                  let (x, y) = l.is_entry (ap (λ (s : ℕ). is_data p s d) (sym en) ∙ q) in
                  let ep : data_position p (stripe_in su j) d ≡ data_position p (stripe_in st j) d = ap (λ (s : ℕ). data_position p s d) en in (
                    subst (λ (k : ℕ). k < filled_in_of su j) (sym ep) (subst (λ (k : ℕ). data_position p (stripe_in st j) d < k) (sym ef) x),
                    ap (spare_at p v d (zone_on z d)) (begin_offset st ls i hi j d) ∙ y ∙ sym (ap (entry_in_of su j) ep ∙ begin_entry_other st ls i hi j (data_position p (stripe_in st j) d) n),
                  );
            };
        entries_low = λ e h. subst (λ (x : Rec). (x.address < 256 ^ 8) × (x.stamp < 256 ^ 8)) (sym (begin_entry_other st ls i hi j e n)) (f.entries_low e (subst (λ (x : ℕ). e < x) ef h));
      }

  pub begin_open : OpenZone p v su more z
  begin_open = record {
    opened_zone = o.opened_zone;
    has_header = o.has_header;
    count =
        λ d h. ap (λ (x : ℕ). pointer_at v d (zone_on z d) + x) (tally_su d)
        ∙ (let c = o.count d h in let e : pointer_at v d (zone_on z d) + suc (tally (awaits st busy d) slots) ≡ suc (suc st.next) = omega arith in e)
        ∙ ap suc (sym next_su);
    below_next = λ d e h q. subst (λ (x : ℕ). (spare_at p v d (zone_on z d) e).stripe < x) (sym next_su) (let l = o.below_next d e h q in omega arith);
    flight = λ j h q. go j h q (ℕ_discrete j i);
    once = λ j k hj hk x y e. two j k hj hk x y e (ℕ_discrete j i) (ℕ_discrete k i);
    goes_on = λ q. tally_some more slots i (in_slots i hi) more_here;
  }
    where
      go : (j : ℕ) → j < 8 → more j ≡ true → Dec (j ≡ i) → SlotFlies p v su z j
      go j h q (yes e) = subst (λ (x : ℕ). SlotFlies p v su z x) (sym e) new_flight
      go j h q (no n) = let b : busy j ≡ true = sym (more-other j n) ∙ q in old_flight j n (gr j h b) (o.flight j h b)

      two : (j k : ℕ) → j < 8 → k < 8 → more j ≡ true → more k ≡ true → stripe_in su j ≡ stripe_in su k → Dec (j ≡ i) → Dec (k ≡ i) → j ≡ k
      two j k hj hk x y e (yes a) (yes b) = a ∙ sym b
      two j k hj hk x y e (yes a) (no b) =
          let bk : busy k ≡ true = sym (more-other k b) ∙ y in
          let l = (o.flight k hk bk).begun in
          let s : st.next ≡ stripe_in st k = sym (number_begun st ls i hi) ∙ ap (stripe_in su) (sym a) ∙ e ∙ begin_number_other st ls i hi k b in
          absurd (let z : ⊥ = omega arith in z)
      two j k hj hk x y e (no a) (yes b) =
          let bj : busy j ≡ true = sym (more-other j a) ∙ x in
          let l = (o.flight j hj bj).begun in
          let s : stripe_in st j ≡ st.next = sym (begin_number_other st ls i hi j a) ∙ e ∙ ap (stripe_in su) b ∙ number_begun st ls i hi in
          absurd (let z : ⊥ = omega arith in z)
      two j k hj hk x y e (no a) (no b) =
          o.once j k hj hk (sym (more-other j a) ∙ x) (sym (more-other k b) ∙ y) (sym (begin_number_other st ls i hi j a) ∙ e ∙ begin_number_other st ls i hi k b)
