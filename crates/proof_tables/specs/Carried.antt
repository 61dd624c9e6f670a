-- States with the same stripes in flight; another stamp; a stripe begun with its first entry. Assumes nothing.
use Rattle.std.specs.Prelude.{◌≡◌, Bool, true, false, not, ◌&&◌, ◌||◌, ◌⊎◌, ℕ, suc, ◌+◌, ◌*◌, ◌^◌, ◌≤◌, ◌<◌, eqb}
use Rattle.std.proofs.Math.Path.{refl}
use Rattle.std.proofs.Common.{sym, ap, ◌∙◌, subst, eq-eqb, ne_eqb, arith}
use Rattle.std.proofs.Math.Decide.{ℕ_discrete}
use Rattle.spec.specs.declared.Params.{Params}
use Rattle.spec.specs.declared.State.{State}
use Rattle.spec.specs.Drives.{View, pointer_at, zone_on}
use Rattle.spec.specs.Layout.{data_position, is_data, group, Rec, header_serial}
use Rattle.spec.specs.Lists.{is_in}
use Rattle.spec.specs.Memory.{slots, stripe_in, filled_in_of, landed_in, entry_in_of, offset_in, set_stamp, begin_stripe, add_entry}
use Rattle.spec.specs.Params.{capacity}
use Rattle.law_basic.specs.Geometry.{Ranged, data_count-low}
use Rattle.law_drives.specs.States.{StateOk}
use Rattle.law_drives.specs.Tests.{or_true_right, eqb_self}
use Rattle.law_drives.specs.Tidy.{spare_at, Tidy}
use Rattle.proof_tables.specs.Filling.{begin_ok}
use Rattle.proof_tables.specs.Opened.{busy_same, add_open, begin_open}
use Rattle.proof_tables.specs.Run.{flies, awaits, LandedAt, SlotFlies, OpenZone, Lists, HealthyState}
use Rattle.proof_tables.specs.Slots.{filled_begun, begin_filled-other, begin_lists, filled-added, add-filled-other, add_lists, free_is, some_flies}
use Rattle.proof_tables.specs.Tallies.{tally_cong}
use Rattle.spec.specs.declared.Seg.{Seg}
use Rattle.law_calls.specs.Refusals.{next_low, opened_low}
use Rattle.spec.specs.Segments.{header_at}

-- an eighth that is the same in both
pub record CarriedSlot (st su : State) (i : ℕ) : Type 0 where
  pub same_stripe : stripe_in st i ≡ stripe_in su i
  pub same_filled : filled_in_of st i ≡ filled_in_of su i
  pub same_landed : landed_in st i ≡ landed_in su i
  pub same_offsets : (d : ℕ) → offset_in st i d ≡ offset_in su i d
  pub same_entry : (e : ℕ) → entry_in_of st i e ≡ entry_in_of su i e
  pub same_next : st.next ≡ su.next

abbrev pub SameSlots : State → State → Type 0
SameSlots st su = (i : ℕ) → CarriedSlot st su i

module _ (p : Params) (v : View) (st su : State) (z : Seg) where
  landed_same : (i d : ℕ) → CarriedSlot st su i → LandedAt p v st z i d → LandedAt p v su z i d
  landed_same i d s l = record {
    lies = subst (λ (x : ℕ). 1 + x < pointer_at v d (zone_on z d)) (s.same_offsets d) l.lies;
    of_stripe = ap (λ (x : ℕ). (spare_at p v d (zone_on z d) x).stripe) (sym (s.same_offsets d)) ∙ l.of_stripe ∙ s.same_stripe;
    not_before = λ o h q. l.not_before o (subst (λ (x : ℕ). o < x) (sym (s.same_offsets d)) h) (q ∙ sym s.same_stripe);
    is_entry = λ q.
        let (x, y) = l.is_entry (ap (λ (n : ℕ). is_data p n d) s.same_stripe ∙ q) in
        let e : data_position p (stripe_in st i) d ≡ data_position p (stripe_in su i) d = ap (λ (n : ℕ). data_position p n d) s.same_stripe in (
          subst (λ (n : ℕ). n < filled_in_of su i) e (subst (λ (n : ℕ). data_position p (stripe_in st i) d < n) s.same_filled x),
          ap (spare_at p v d (zone_on z d)) (sym (s.same_offsets d)) ∙ y ∙ ap (entry_in_of st i) e ∙ s.same_entry (data_position p (stripe_in su i) d),
        );
  }

  pub flight_same : (i : ℕ) → CarriedSlot st su i → SlotFlies p v st z i → SlotFlies p v su z i
  flight_same i s f = record {
    begun = subst (λ (x : ℕ). x < su.next) s.same_stripe (subst (λ (x : ℕ). stripe_in st i < x) s.same_next f.begun);
    group-low = subst (λ (x : ℕ). (d : ℕ) → d < p.N → group p x * p.G < pointer_at v d (zone_on z d)) s.same_stripe f.group-low;
    group_high = subst (λ (x : ℕ). su.next ≤ suc (group p x) * p.G) s.same_stripe (subst (λ (x : ℕ). x ≤ suc (group p (stripe_in st i)) * p.G) s.same_next f.group_high);
    not_there = λ d o hd q x y. f.not_there d o hd (ap (λ (n : ℕ). is_in n d) s.same_landed ∙ q) x (y ∙ sym s.same_stripe);
    lands = λ d hd q. landed_same i d s (f.lands d hd (ap (λ (n : ℕ). is_in n d) s.same_landed ∙ q));
    entries_low = λ e h. subst (λ (x : Rec). (x.address < 256 ^ 8) × (x.stamp < 256 ^ 8)) (s.same_entry e) (f.entries_low e (subst (λ (x : ℕ). e < x) (sym s.same_filled) h));
  }

  open_zone_carried : SameSlots st su → (busy : ℕ → Bool) → OpenZone p v st busy z → OpenZone p v su busy z
  open_zone_carried s busy o = record {
    opened_zone = o.opened_zone;
    has_header = o.has_header;
    count =
        λ d h. ap (λ (x : ℕ). pointer_at v d (zone_on z d) + x)
        (sym (tally_cong (awaits st busy d) (awaits su busy d) slots (λ i m. ap (λ (n : ℕ). busy i && not (is_in n d)) (s i).same_landed)))
        ∙ o.count d h
        ∙ ap suc (s 0).same_next;
    below_next = λ d e h q. subst (λ (x : ℕ). (spare_at p v d (zone_on z d) e).stripe < x) (s 0).same_next (o.below_next d e h q);
    flight = λ i h q. flight_same i (s i) (o.flight i h q);
    once = λ i j hi hj a b e. o.once i j hi hj a b ((s i).same_stripe ∙ e ∙ sym (s j).same_stripe);
    goes_on = λ q. o.goes_on ((s 0).same_next ∙ q);
  }

pub same_flies : (st su : State) → SameSlots st su → (i : ℕ) → flies st i ≡ flies su i
same_flies st su s i = ap not (free_is st i ∙ ap (λ (x : ℕ). eqb x 0) (s i).same_filled ∙ sym (free_is su i))

pub open_carried : (p : Params) (v : View) (st su : State) (z : Seg) → SameSlots st su → OpenZone p v st (flies st) z → OpenZone p v su (flies su) z
open_carried p v st su z s o = busy_same p v su (flies st) (flies su) z (λ i h. same_flies st su s i) (open_zone_carried p v st su z s (flies st) o)

-- ---- another stamp

stamp_slots : (st : State) (t : ℕ) → SameSlots st (set_stamp st t)
unfolding set_stamp stripe_in filled_in_of landed_in offset_in entry_in_of
stamp_slots st t i = record { same_stripe = refl; same_filled = refl; same_landed = refl; same_offsets = λ d. refl; same_entry = λ e. refl; same_next = refl }

pub stamp_healthy : (p : Params) (v : View) (st : State) (t : ℕ) → t < 256 ^ 8 → HealthyState p v st → HealthyState p v (set_stamp st t)
stamp_healthy p v st t ht h = record {
  tidy = subst (λ (x : ℕ). Tidy p v x) (sym serial_same) h.tidy;
  sealed_but = λ z m. subst (λ (x : ℕ). (x ≡ header_serial p (header_at v 0 z)) ⊎ ((d : ℕ) → d < p.N → pointer_at v d (zone_on z d) ≡ capacity p)) (sym opened_same) (h.sealed_but z m);
  opens_at = λ n. let (z, e, o) = h.opens_at (λ q. n (opened_same ∙ q)) in (z, opened_same ∙ e, open_carried p v st (set_stamp st t) z (stamp_slots st t) o);
  shut = λ q i hi. sym (same_flies st (set_stamp st t) (stamp_slots st t) i) ∙ h.shut (sym opened_same ∙ q) i hi;
  serial_fits = subst (λ (x : ℕ). x < 256 ^ 8) (sym serial_same) h.serial_fits;
  stamp_fits = subst (λ (x : ℕ). x < 256 ^ 8) (sym stamp_is) ht;
  lists = lists_same h.lists;
}
  where
    serial_same : (set_stamp st t).serial.0 ≡ st.serial.0
    serial_same = unfold set_stamp in refl

    stamp_is : (set_stamp st t).stamp.0 ≡ t
    stamp_is = unfold set_stamp in refl

    opened_same : (set_stamp st t).opened ≡ st.opened
    opened_same = unfold set_stamp in refl

    lists_same : Lists st → Lists (set_stamp st t)
    lists_same l = unfold set_stamp in record {
      numbers_long = l.numbers_long;
      filled_long = l.filled_long;
      writes_long = l.writes_long;
      landed_long = l.landed_long;
      addresses_long = l.addresses_long;
      stamps_long = l.stamps_long;
      offsets_long = l.offsets_long;
    }

pub stamp_ok : (p : Params) (st : State) (t : ℕ) → StateOk p st → StateOk p (set_stamp st t)
unfolding set_stamp stripe_in filled_in_of landed_in
stamp_ok p st t s = record {
  live_is = s.live_is;
  missing_low = s.missing_low;
  missing_few = s.missing_few;
  opened_low = s.opened_low;
  next_low = s.next_low;
  slots_ok = λ i h. record { stripe_ok = (s.slots_ok i h).stripe_ok; filled_ok = (s.slots_ok i h).filled_ok; writes_ok = (s.slots_ok i h).writes_ok; landed_ok = (s.slots_ok i h).landed_ok };
  offsets_low = s.offsets_low;
}

-- ---- a stripe begins, with its first entry

pub begin_healthy : (p : Params) (r : Ranged p) (v : View) (st : State) (i a t w : ℕ) → HealthyState p v st → StateOk p st → (st.opened ≡ 0 → ⊥) → i < 8
    → flies st i ≡ false
    → st.next < p.S
    → ((j : ℕ) → j < 8 → flies st j ≡ true → group p (stripe_in st j) ≡ group p st.next) → a < 256 ^ 8 → t < 256 ^ 8
    → HealthyState p v (add_entry (begin_stripe st i) i a t w)
begin_healthy p r v st i a t w h so op hi fi nx gr ha ht = record {
  tidy = subst (λ (x : ℕ). Tidy p v x) (sym serial_same) h.tidy;
  sealed_but = λ y m. subst (λ (x : ℕ). (x ≡ header_serial p (header_at v 0 y)) ⊎ ((d : ℕ) → d < p.N → pointer_at v d (zone_on y d) ≡ capacity p)) (sym opened_same) (h.sealed_but y m);
  opens_at = λ n. let (y, e, o) = h.opens_at op in (y, opened_same ∙ e, opened_at y o);
  shut = λ q. absurd (op (sym opened_same ∙ q));
  serial_fits = subst (λ (x : ℕ). x < 256 ^ 8) (sym serial_same) h.serial_fits;
  stamp_fits = subst (λ (x : ℕ). x < 256 ^ 8) (sym stamp_same) h.stamp_fits;
  lists = add_lists (begin_stripe st i) (begin_lists st h.lists i hi) i hi a t w;
}
  where
    su : State
    su = begin_stripe st i

    sw : State
    sw = add_entry su i a t w

    serial_same : sw.serial.0 ≡ st.serial.0
    serial_same = unfold add_entry begin_stripe in refl

    stamp_same : sw.stamp.0 ≡ st.stamp.0
    stamp_same = unfold add_entry begin_stripe in refl

    opened_same : sw.opened ≡ st.opened
    opened_same = unfold add_entry begin_stripe in refl

    more! : ℕ → Bool
    more! j = flies st j || eqb j i

    same! : (j : ℕ) → j < 8 → more! j ≡ flies sw j
    same! j hj = go (ℕ_discrete j i)
      where
        orf : (b : Bool) → b || false ≡ b
        orf true = refl
        orf false = refl

        go : Dec (j ≡ i) → flies st j || eqb j i ≡ flies sw j
        go (yes e) = or_true_right (flies st j) (eqb j i) (eq-eqb j i e)
            ∙ sym (some_flies sw j (λ q. let x : filled_in_of sw j ≡ suc (filled_in_of su i) = ap (filled_in_of sw) e ∙ filled-added su (begin_lists st h.lists i hi) i hi a t w in
            let y : ⊥ = omega arith in y))
        go (no n) = ap (λ (b : Bool). flies st j || b) (ne_eqb j i n) ∙ orf (flies st j)
            ∙ ap not (free_is st j
            ∙ ap (λ (x : ℕ). eqb x 0)
            (sym (add-filled-other su (begin_lists st h.lists i hi) i hi a t w j n ∙ begin_filled-other st h.lists i hi j n))
            ∙ sym (free_is sw j))

    opened_at : (y : Seg) → OpenZone p v st (flies st) y → OpenZone p v sw (flies sw) y
    opened_at y o =
        let b : OpenZone p v su more! y = begin_open p r v st h.lists (flies st) y i hi fi nx gr o in
        let k = begin_ok p r st h.lists so i hi nx in
        busy_same p v sw more! (flies sw) y same!
        (add_open p r v su (begin_lists st h.lists i hi) more! y i a t w hi (or_true_right (flies st i) (eqb i i) (eqb_self i))
        (let e = filled_begun st h.lists i hi in let c = data_count-low p r in omega arith) ha ht b (λ j hj. (k.slots_ok j hj).filled_ok))
