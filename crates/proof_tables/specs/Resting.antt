-- A view that a restart leaves: all segments sealed but at most one, whose stripes are 0 to c - 1. Assumes nothing.
use Rattle.std.specs.Prelude.{◌≡◌, List, [], ◌∷◌, map, true, false, cond, not, ◌⊎◌, ℕ, suc, ◌+◌, ◌^◌, ◌≤◌, ◌<◌, eqb, length, get_or}
use Rattle.std.proofs.Math.Path.{refl}
use Rattle.std.proofs.Common.{sym, ap, ap₂, ◌∙◌, subst, inl, inr, eq-eqb, ne_eqb, arith, lit<, pow_pos}
use Rattle.std.specs.Int.Count.{ones, ones-ones}
use Rattle.spec.specs.declared.Params.{Params}
use Rattle.spec.specs.declared.State.{State}
use Rattle.spec.specs.Drives.{no_chunk, View, zone_at, pointer_at, chunk_at, zone_on, sealed_in}
use Rattle.spec.specs.Layout.{header_serial}
use Rattle.spec.specs.Lists.{all, keep, tally, greatest, is_in}
use Rattle.spec.specs.Memory.{slots, idle_state, filled_in_of, landed_in, state_ok}
use Rattle.spec.specs.Params.{capacity, present}
use Rattle.spec.specs.Rank.{Cand}
use Rattle.spec.specs.Restart.{open_of_of, next_of, restart_memory}
use Rattle.spec.specs.Segments.{header_at, remaining, Segment, segment_of, segments, counted, candidates, greatest_stamp, greatest_serial, unsealed, holders}
use Rattle.law_basic.specs.Geometry.{Ranged}
use Rattle.law_basic.specs.Ranges.{keep-map}
use Rattle.law_basic.specs.Segs.{segs_differ}
use Rattle.law_drives.specs.Counting.{in_greatest, greatest-low}
use Rattle.law_drives.specs.Laid.{serial_low}
use Rattle.law_drives.specs.Members.{In, in_map, map_in, in_all, keep_cong, keep_nothing}
use Rattle.law_drives.specs.Range.{capacity_over}
use Rattle.law_drives.specs.Records.{record_low}
use Rattle.law_drives.specs.Segs.{full_is, cand_at, remaining_left}
use Rattle.law_drives.specs.Settled.{serial_of, its_drive_low, sealed_full, its_zone, there_once, there_remains, zero_here}
use Rattle.law_drives.specs.States.{idle_ok}
use Rattle.law_drives.specs.Steady.{Steady, SealedAll, Rest}
use Rattle.law_drives.specs.Steady.Rest.{rest_sealed, rest_open}
use Rattle.law_drives.specs.Tables.{zero-at, one_holder}
use Rattle.law_drives.specs.Tests.{clash, and_false_left, not_so, cond_true}
use Rattle.law_drives.specs.Tidy.{spare_at, Tidy, There}
use Rattle.law_drives.specs.Zones.{Bytes, Shaped}
use Rattle.proof_tables.specs.Reclaiming.{cand_record}
use Rattle.proof_tables.specs.Run.{flies, awaits, OpenZone, Lists, HealthyState}
use Rattle.proof_tables.specs.Slots.{none_flies}
use Rattle.proof_tables.specs.Tallies.{tally_none}
use Rattle.spec.specs.declared.Seg.{Seg}
use Rattle.law_drives.specs.Gather.{present_in}
use Rattle.proof_tables.specs.Opened.{serial_some}

module _ (p : Params) (r : Ranged p) (v : View) (sh : Shaped p v) (b : ℕ) (t : Tidy p v b) where
  abbrev gs : List Segment
  gs = segments p v 0

  abbrev serial : ℕ
  serial = greatest_serial gs

  h0 : 0 < p.N
  h0 = omega (arith, r.drives_low)

  -- the greatest serial is one of those that are used
  serial_in_holds : (z : Seg) → There p v z → header_serial p (header_at v 0 z) ≤ serial
  serial_in_holds z hz = as! (in_greatest (header_serial p (header_at v 0 z)) (map (λ (g : Segment). g.serial) gs)
      (subst (λ (n : ℕ). In n (map (λ (g : Segment). g.serial) gs)) (serial_of p r v b t z) (in_map (λ (g : Segment). g.serial) gs (segment_of p v 0 z) seg_in)))
    where
      seg_in : In (segment_of p v 0 z) gs
      seg_in = cs! (in_map (segment_of p v 0) (remaining p v 0) z (there_remains p r v b t z hz))
        where
          cs! : In (segment_of p v 0 z) (map (segment_of p v 0) (remaining p v 0)) → In (segment_of p v 0 z) gs
          cs! m = unfold segments in m

      as! : header_serial p (header_at v 0 z) ≤ greatest (map (λ (g : Segment). g.serial) gs) → header_serial p (header_at v 0 z) ≤ serial
      as! x = unfold greatest_serial in x

  seg_is_used : (x : Segment) → In x gs → (z : Seg) × There p v z × (x ≡ segment_of p v 0 z)
  seg_is_used x m =
      let (z, i, e) = map_in (segment_of p v 0) (remaining p v 0) x (cs! m) in
      (z, remaining_left p v 0 z i, e)
    where
      cs! : In x gs → In x (map (segment_of p v 0) (remaining p v 0))
      cs! m = unfold segments in m

  header_in_bytes : (z : Seg) → There p v z → Bytes (header_at v 0 z)
  header_in_bytes z hz = as! (((sh.zone_ok 0 (zone_on z 0) h0 (its_zone p r v z hz 0 h0).zone_low).sound 0 (let c = capacity_over p r in omega arith)).block_bytes (inl refl))
    where
      as! : Bytes (get_or (zone_at v 0 (zone_on z 0)).blocks 0 no_chunk).block → Bytes (header_at v 0 z)
      as! x = unfold header_at chunk_at in x

  pub serial_bound : serial < 256 ^ 8
  serial_bound = as! (greatest-low (256 ^ 8) (map (λ (g : Segment). g.serial) gs) (lit< tt)
      (λ n m.
      let (x, i, e) = map_in (λ (g : Segment). g.serial) gs n m in
      let (z, hz, f) = seg_is_used x i in
      subst (λ (k : ℕ). k < 256 ^ 8) (sym (e ∙ ap (λ (y : Segment). y.serial) f ∙ serial_of p r v b t z)) (serial_low p (header_at v 0 z) (header_in_bytes z hz))))
    where
      as! : greatest (map (λ (g : Segment). g.serial) gs) < 256 ^ 8 → serial < 256 ^ 8
      as! x = unfold greatest_serial in x

  stamp_bound : greatest_stamp (candidates p 0 gs) < 256 ^ 8
  stamp_bound = as! (greatest-low (256 ^ 8) (map (λ (c : Cand). c.stamp) (candidates p 0 gs)) (lit< tt)
      (λ n m.
      let (c, i, e) = map_in (λ (c : Cand). c.stamp) (candidates p 0 gs) n m in
      let k = cand_at p v 0 c i in
      let hd = its_drive_low p r v b t c k in
      let hk = remaining_left p v 0 k.of k.remains in
      subst (λ (x : ℕ). x < 256 ^ 8) (sym (e ∙ (cand_record p r v b t c k).1))
      (record_low p (zone_at v c.drive (zone_on k.of c.drive)) (sh.zone_ok c.drive (zone_on k.of c.drive) hd (its_zone p r v k.of hk c.drive hd).zone_low)
      (sealed_in p v 0 k.of)
      c.offset).1))
    where
      as! : greatest (map (λ (c : Cand). c.stamp) (candidates p 0 gs)) < 256 ^ 8 → greatest_stamp (candidates p 0 gs) < 256 ^ 8
      as! x = unfold greatest_stamp in x

  tidy_now : Tidy p v serial
  tidy_now = record {
    pointer_low = t.pointer_low;
    together = t.together;
    copied_less = t.copied_less;
    serial_known = serial_in_holds;
    no_copy = t.no_copy;
  }

  -- ---- the unsealed segment

  sealed_is : (z : Seg) → SealedAll p v z → sealed_in p v 0 z ≡ true
  sealed_is z f = as! (in_all (λ d. eqb (pointer_at v d (zone_on z d)) (capacity p)) (present p 0) (λ d m. eq-eqb (pointer_at v d (zone_on z d)) (capacity p) (f d (present_in p 0 d m).0)))
    where
      as! : all (λ d. eqb (pointer_at v d (zone_on z d)) (capacity p)) (present p 0) ≡ true → sealed_in p v 0 z ≡ true
      as! q = unfold sealed_in in q

  unsealed_are : unsealed gs ≡ map (segment_of p v 0) (keep (λ g. not (sealed_in p v 0 g)) (remaining p v 0))
  unsealed_are = as! (keep-map (λ (g : Segment). not g.full) (segment_of p v 0) (remaining p v 0)
      ∙ ap (map (segment_of p v 0)) (keep_cong (λ g. not (segment_of p v 0 g).full) (λ g. not (sealed_in p v 0 g)) (remaining p v 0) (λ g m. ap not (full_is p v 0 g))))
    where
      as! : keep (λ (g : Segment). not g.full) (map (segment_of p v 0) (remaining p v 0)) ≡ map (segment_of p v 0) (keep (λ g. not (sealed_in p v 0 g)) (remaining p v 0))
          → unsealed gs ≡ map (segment_of p v 0) (keep (λ g. not (sealed_in p v 0 g)) (remaining p v 0))
      as! e = unfold unsealed segments in e

  no_unsealed : ((z : Seg) → There p v z → SealedAll p v z) → unsealed gs ≡ []
  no_unsealed f = unsealed_are ∙ ap (map (segment_of p v 0))
      (keep_nothing (λ g. not (sealed_in p v 0 g)) (remaining p v 0) (λ g m. ap not (sealed_is g (f g (remaining_left p v 0 g m)))))

  steady_unsealed : (g : Seg) (c : ℕ) → Steady p v g c → sealed_in p v 0 g ≡ false
  steady_unsealed g c s =
      not_so (sealed_in p v 0 g) (λ q. let x = sealed_full p v g q 0 h0 in let y = s.steady_pointer 0 h0 in let w = s.steady_few in let l = capacity_over p r in let bad : ⊥ = omega arith in bad)

  unsealed_steady : (g : Seg) (c : ℕ) → Steady p v g c → ((z : Seg) → There p v z → (z ≡ g → ⊥) → SealedAll p v z) → unsealed gs ≡ segment_of p v 0 g ∷ []
  unsealed_steady g c s f = unsealed_are ∙ ap (map (segment_of p v 0))
      (keep_cong (λ y. not (sealed_in p v 0 y)) (λ y. eqb (zone_on y 0) (zone_on g 0)) (remaining p v 0) (λ y m. go y (remaining_left p v 0 y m) (segs_differ y g)) ∙ one!)
    where
      one! : keep (λ y. eqb (zone_on y 0) (zone_on g 0)) (remaining p v 0) ≡ g ∷ []
      one! = as! (one_holder p v 0 (zero_here p r) 0 g (there_remains p r v b t g s.steady_low)
          (λ y m e. there_once p r v y g 0 (remaining_left p v 0 y m) s.steady_low h0 e))
        where
          as! : holders p v 0 0 (zone_on g 0) ≡ g ∷ [] → keep (λ y. eqb (zone_on y 0) (zone_on g 0)) (remaining p v 0) ≡ g ∷ []
          as! e = unfold holders in e

      go : (y : Seg) → There p v y → Dec (y ≡ g) → not (sealed_in p v 0 y) ≡ eqb (zone_on y 0) (zone_on g 0)
      go y m (yes e) = ap (λ (x : Seg). not (sealed_in p v 0 x)) e ∙ ap not (steady_unsealed g c s) ∙ sym (eq-eqb (zone_on y 0) (zone_on g 0) (ap (λ (x : Seg). zone_on x 0) e))
      go y m (no n) = ap not (sealed_is y (f y m n)) ∙ sym (ne_eqb (zone_on y 0) (zone_on g 0) (λ e. n (there_once p r v y g 0 m s.steady_low h0 e)))

  -- ---- a state with nothing in flight

  module _ (opened next : ℕ) where
    abbrev su : State
    su = idle_state 1 0 (greatest_stamp (candidates p 0 gs)) serial opened next

    idle-flies : (i : ℕ) → flies su i ≡ false
    idle-flies i = none_flies su i as!
      where
        as! : filled_in_of su i ≡ 0
        as! = unfold filled_in_of idle_state in zero-at 8 i

    idle_lists : Lists su
    idle_lists = unfold idle_state in record { numbers_long = refl; filled_long = refl; writes_long = refl; landed_long = refl; addresses_long = refl; stamps_long = refl; offsets_long = refl }

    idle_serial : su.serial.0 ≡ serial
    idle_serial = unfold idle_state in refl

    idle_stamp : su.stamp.0 ≡ greatest_stamp (candidates p 0 gs)
    idle_stamp = unfold idle_state in refl

    idle_opened : su.opened ≡ opened
    idle_opened = unfold idle_state in refl

    idle_next : su.next ≡ next
    idle_next = unfold idle_state in refl

    idle-awaits : (d : ℕ) → tally (awaits su (flies su) d) slots ≡ 0
    idle-awaits d = tally_none (awaits su (flies su) d) slots (λ i m. and_false_left (flies su i) (not (is_in (landed_in su i) d)) (idle-flies i))

  -- nothing is open
  sealed_healthy : ((z : Seg) → There p v z → SealedAll p v z) → HealthyState p v (su 0 0)
  sealed_healthy f = record {
    tidy = subst (λ (x : ℕ). Tidy p v x) (sym (idle_serial 0 0)) tidy_now;
    sealed_but = λ z m. inr (f z m);
    opens_at = λ n. absurd (n (idle_opened 0 0));
    shut = λ q i hi. idle-flies 0 0 i;
    serial_fits = subst (λ (x : ℕ). x < 256 ^ 8) (sym (idle_serial 0 0)) serial_bound;
    stamp_fits = subst (λ (x : ℕ). x < 256 ^ 8) (sym (idle_stamp 0 0)) stamp_bound;
    lists = idle_lists 0 0;
  }

  abbrev serial_of_holds : Seg → ℕ
  serial_of_holds g = header_serial p (header_at v 0 g)

  -- the one that is steady is open
  steady_open : (g : Seg) (c : ℕ) → Steady p v g c → OpenZone p v (su (serial_of_holds g) c) (flies (su (serial_of_holds g) c)) g
  steady_open g c s = record {
    opened_zone = s.steady_low;
    has_header = λ d hd. let e = s.steady_pointer d hd in omega arith;
    count =
        λ d hd. ap₂ (λ (x y : ℕ). x + y) (s.steady_pointer d hd) (idle-awaits (serial_of_holds g) c d)
        ∙ (let e = idle_next (serial_of_holds g) c in let x : 1 + c + 0 ≡ suc (su (serial_of_holds g) c).next = omega arith in x);
    below_next =
        λ d o hd q. subst (λ (x : ℕ). (spare_at p v d (zone_on g d) o).stripe < x) (sym (idle_next (serial_of_holds g) c)) (s.steady_stripes d o hd (let e = s.steady_pointer d hd in omega arith));
    flight = λ i hi q. clash q (idle-flies (serial_of_holds g) c i);
    once = λ i j hi hj x y e. clash x (idle-flies (serial_of_holds g) c i);
    goes_on = λ q. absurd (let e = sym (idle_next (serial_of_holds g) c) ∙ q in let l = s.steady_few in let bad : ⊥ = omega arith in bad);
  }

  open_healthy : (g : Seg) (c : ℕ) → Steady p v g c → ((z : Seg) → There p v z → (z ≡ g → ⊥) → SealedAll p v z) → HealthyState p v (su (serial_of_holds g) c)
  open_healthy g c s f = record {
    tidy = subst (λ (x : ℕ). Tidy p v x) (sym (idle_serial (serial_of_holds g) c)) tidy_now;
    sealed_but = λ z m. go z m (segs_differ z g);
    opens_at = λ n. (g, idle_opened (serial_of_holds g) c, steady_open g c s);
    shut = λ q. absurd (serial_some p v b g t s.steady_low (sym (idle_opened (serial_of_holds g) c) ∙ q));
    serial_fits = subst (λ (x : ℕ). x < 256 ^ 8) (sym (idle_serial (serial_of_holds g) c)) serial_bound;
    stamp_fits = subst (λ (x : ℕ). x < 256 ^ 8) (sym (idle_stamp (serial_of_holds g) c)) stamp_bound;
    lists = idle_lists (serial_of_holds g) c;
  }
    where
      go : (z : Seg) → There p v z → Dec (z ≡ g) → ((su (serial_of_holds g) c).opened ≡ serial_of_holds z) ⊎ SealedAll p v z
      go z m (yes e) = inl (idle_opened (serial_of_holds g) c ∙ ap serial_of_holds (sym e))
      go z m (no n) = inr (f z m n)

  -- ---- the memory that a restart makes of such a view

  memory_state : (us : List Segment) → unsealed gs ≡ us → (fl : List ℕ) → (restart_memory p v 0 fl).state ≡ su (open_of_of us) (next_of p us)
  memory_state us e fl = as! ∙ ap (λ (x : List Segment). su (open_of_of x) (next_of p x)) (cond_true (eqb 0 0) (unsealed gs) [] refl ∙ e)
    where
      as! : (restart_memory p v 0 fl).state ≡ su (open_of_of (cond (eqb 0 0) (unsealed gs) [])) (next_of p (cond (eqb 0 0) (unsealed gs) []))
      as! = unfold restart_memory in refl

  pub rest_healthy : Rest p v → (fl : List ℕ) → HealthyState p v (restart_memory p v 0 fl).state × (state_ok p (restart_memory p v 0 fl).state ≡ true)
  rest_healthy (rest_sealed f) fl =
      let e : (restart_memory p v 0 fl).state ≡ su 0 0 = memory_state [] (no_unsealed f) fl ∙ none! in (
        subst (λ (x : State). HealthyState p v x) (sym e) (sealed_healthy f),
        ap (state_ok p) e ∙ idle_ok p r 0 (greatest_stamp (candidates p 0 gs)) serial 0 0 (pow_pos p.N) (le_of_eq_ones) (omega arith) (omega arith),
      )
    where
      none! : su (open_of_of []) (next_of p []) ≡ su 0 0
      none! = unfold open_of_of next_of in refl

      le_of_eq_ones : ones 0 ≤ 1
      le_of_eq_ones = let e = ones-ones 0 in omega arith
  rest_healthy (rest_open g c s f) fl =
      let e : (restart_memory p v 0 fl).state ≡ su (serial_of_holds g) c = memory_state (segment_of p v 0 g ∷ []) (unsealed_steady g c s f) fl ∙ one!
      ∙ ap₂ su (serial_of p r v b t g) s.steady_count in (
        subst (λ (x : State). HealthyState p v x) (sym e) (open_healthy g c s f),
        ap (state_ok p) e
            ∙ idle_ok p r 0 (greatest_stamp (candidates p 0 gs)) serial (serial_of_holds g) c (pow_pos p.N) (let e = ones-ones 0 in omega arith) (serial_in_holds g s.steady_low)
            (let l = s.steady_few in omega arith),
      )
    where
      one! : su (open_of_of (segment_of p v 0 g ∷ [])) (next_of p (segment_of p v 0 g ∷ [])) ≡ su (segment_of p v 0 g).serial (length (counted p 0 (segment_of p v 0 g)))
      one! = unfold open_of_of next_of in refl
