-- A stripe completes: the table's entries afterwards. Assumes nothing.
use Rattle.std.specs.Prelude.{◌≡◌, List, [], true, ◌⊎◌, ◌≢◌, ℕ, suc, ◌+◌, ◌^◌, ◌≤◌, ◌<◌, length}
use Rattle.std.proofs.Math.Path.{refl, sym, ap}
use Rattle.std.proofs.Common.{◌∙◌, subst, inl, inr, ⊎_elim, arith}
use borrow.Author.Tests.{eq-eqb, eqb-true, eqb-false}
use Rattle.std.proofs.Math.Dec.{eqb}
use Rattle.spec.specs.declared.Params.{Params}
use Rattle.spec.specs.declared.State.{State}
use Rattle.spec.specs.Counts.{never_place}
use Rattle.spec.specs.Drives.{View, zone_on}
use Rattle.spec.specs.Landing.{held_cand, held, landed_cand, landed_cands, pointed}
use Rattle.spec.specs.Layout.{parity_drive, data_drive}
use Rattle.spec.specs.Lists.{Opt, below, any}
use Rattle.spec.specs.Lists.Opt.{none, some}
use Rattle.spec.specs.Memory.{stripe_in, filled_in_of, entry_in_of, offset_in, place_at_of}
use Rattle.spec.specs.Params.{data_count, capacity, addresses_len, place_of, place_block, place_zone, place_drive}
use Rattle.spec.specs.Rank.{Cand, best, place_or, cands_of}
use Rattle.law_basic.specs.Geometry.{Ranged, place_block_lem, place_zone_lem, place_drive_lem, data_drive_lt, data_not_parity}
use Rattle.law_basic.specs.Ranges.{Test, test}
use Rattle.law_basic.specs.Ranges.Test.{yes!, no! }
use Rattle.law_views.specs.Looked.{held_none, held_some}
use Rattle.proof_crash_machine.specs.Facts.{Ghost, Counted, Off, None}
use Rattle.proof_crash_machine.specs.Ghosts.{with_base}
use Rattle.proof_crash_machine.specs.Val.{Val}
use Rattle.proof_crash_machine.specs.View.Item.{chunk}
use Rattle.proof_crash_machine.specs.View.{ItemView}
use Rattle.proof_crash_items.specs.Cands.{best_none}
use Rattle.proof_crash_items.specs.Member.{Has, keep_has, has_keep, below_has, has_below, any_has, any_false_in, map_has, has_map}
use Rattle.proof_crash_items.specs.Ranges.{par_of}
use Rattle.proof_crash_items.specs.Segs.{OnDrives, On, is_on, zone_bytes, zone_len_holds}
use Rattle.proof_crash_items.specs.Stripes.{pointer_is}
use Rattle.proof_crash_calls.proofs.Ack.{raise_to, raise_low, raise_is}
use Rattle.proof_crash_calls.proofs.Entries.{entry_low, entry_stamp}
use Rattle.proof_crash_calls.specs.Held.{Grown, Entry, TableOk}
use Rattle.proof_crash_calls.proofs.Held.{entry_to, table_grown}
use Rattle.proof_crash_calls.proofs.Placed.{drive_cases}
use Rattle.proof_crash_calls.specs.Pointed.{point_to, pointed_none, pointed_some, best_some}
use Rattle.spec.specs.declared.Seg.{Seg}
use Rattle.spec.specs.Segments.{place_record}

module _ (p : Params) (h : Ranged p) (off : List ℕ) (g : Ghost) (u : View) (items : ItemView) (k : OnDrives p h off g u items) (none? : None (par_of p h off) g.un) (v : ItemView)
    (gr : Grown (par_of p h off) v items) (tb : List ℕ) (long : length tb ≡ addresses_len p)
    (T : TableOk p h off g v tb) (st : State) (i : ℕ) (z : Seg) (n : ℕ) (s : ℕ) (F : ℕ → Val)
    (zl : (d : ℕ) → d < p.N → zone_on z d < p.Z) (lies : (d : ℕ) → d < p.N → zone_on z d ≡ g.hd.zn n d) (full : filled_in_of st i ≡ data_count p) (number : stripe_in st i ≡ s)
    (ent : (j : ℕ) → j < data_count p → ((F (data_drive p s j)).addr ≡ (entry_in_of st i j).address) × ((F (data_drive p s j)).stamp ≡ (entry_in_of st i j).stamp))
    (on : (d : ℕ) → d < p.N → Off (items d n) (suc (offset_in st i d)) (chunk s (F d)))
    (cnt : (d : ℕ) → d < p.N → d ≢ parity_drive p s → (c : Counted (par_of p h off) g.hd items g.un (F d)) × (c.z ≡ n)) where
  abbrev cs : List Cand
  cs = landed_cands p u z st i

  abbrev base' : ℕ → ℕ
  base' x = raise_to (parity_drive p s) F g.base x p.N

  abbrev g' : Ghost
  g' = with_base g (λ x. raise_to (parity_drive p s) F g.base x p.N)

  abbrev tb' : List ℕ
  tb' = pointed p u tb (landed_cands p u z st i) (landed_cands p u z st i) tb

  -- ---- the stripe's records

  -- the record of position j
  of_position : (j : ℕ) → j < data_count p → Has (landed_cand p u z st i j) cs
  unfolding landed_cands
  of_position j l = has_map (landed_cand p u z st i) (below (filled_in_of st i)) j (has_below j (filled_in_of st i) (omega (arith, full)))

  position_of : (c : Cand) → Has c cs → (j : ℕ) × (j < data_count p) × (c ≡ landed_cand p u z st i j)
  unfolding landed_cands
  position_of c m =
      let a : (j : ℕ) × Has j (below (filled_in_of st i)) × (c ≡ landed_cand p u z st i j) = map_has (landed_cand p u z st i) c (below (filled_in_of st i)) m in
      (a.0, omega (arith, below_has a.0 (filled_in_of st i) a.1, full), a.2)

  cand_address : (j : ℕ) → j < data_count p → (landed_cand p u z st i j).address ≡ (F (data_drive p s j)).addr
  cand_address j l = (let e : (landed_cand p u z st i j).address ≡ (entry_in_of st i j).address = unfold landed_cand in refl in e) ∙ sym (ent j l).0

  cand_stamp : (j : ℕ) → j < data_count p → (landed_cand p u z st i j).stamp ≡ (F (data_drive p s j)).stamp
  cand_stamp j l = (let e : (landed_cand p u z st i j).stamp ≡ (entry_in_of st i j).stamp = unfold landed_cand in refl in e) ∙ sym (ent j l).1

  landed_place : (j : ℕ) → (landed_cand p u z st i j).place ≡ place_of p (data_drive p s j) (zone_on z (data_drive p s j)) (1 + offset_in st i (data_drive p s j))
  unfolding landed_cand
  landed_place j = ap (λ (x : ℕ). place_of p (data_drive p x j) (zone_on z (data_drive p x j)) (1 + offset_in st i (data_drive p x j))) number

  -- ---- the floor

  -- the new floor is the old one, or the stamp of a position
  floor_is : (a : ℕ) → (base' a ≡ g.base a) ⊎ ((j : ℕ) × (j < data_count p) × ((F (data_drive p s j)).addr ≡ a) × (base' a ≡ (F (data_drive p s j)).stamp))
  floor_is a = ⊎_elim (λ e. inl e)
      (λ (w : (d : ℕ) × (d < p.N) × (d ≢ parity_drive p s) × ((F d).addr ≡ a) × (base' a ≡ (F d).stamp)).
      ⊎_elim (λ (c : (j : ℕ) × (j < data_count p) × (w.0 ≡ data_drive p s j)). inr
      (c.0, c.1, ap (λ (x : ℕ). (F x).addr) (sym c.2) ∙ w.3, w.4 ∙ ap (λ (x : ℕ). (F x).stamp) c.2))
      (λ (c : w.0 ≡ parity_drive p s). absurd (w.2 c)) (drive_cases p s w.0 w.1)) (raise_is (parity_drive p s) F g.base a p.N)

  -- below a stamp that the old floor and all positions of the address are below
  floor_low : (a t : ℕ) → g.base a ≤ t → ((c : Cand) → Has c (cands_of a cs) → c.stamp ≤ t) → base' a ≤ t
  floor_low a t b m = ⊎_elim (λ (e : base' a ≡ g.base a). omega arith)
      (λ (w : (j : ℕ) × (j < data_count p) × ((F (data_drive p s j)).addr ≡ a) × (base' a ≡ (F (data_drive p s j)).stamp)).
      let c : (landed_cand p u z st i w.0).stamp ≤ t = m (landed_cand p u z st i w.0) (at w.0 w.1 w.2) in omega (arith, c, w.3, cand_stamp w.0 w.1)) (floor_is a)
    where
      at : (j : ℕ) → j < data_count p → (F (data_drive p s j)).addr ≡ a → Has (landed_cand p u z st i j) (cands_of a cs)
      at j l e = unfold cands_of in has_keep (λ (c : Cand). eqb c.address a) (landed_cand p u z st i j) cs (of_position j l) (eq-eqb (landed_cand p u z st i j).address a (cand_address j l ∙ e))

  landed_of_address : (c : Cand) (a : ℕ) → Has c (cands_of a cs) → Has c cs × (c.address ≡ a)
  unfolding cands_of
  landed_of_address c a m = let q : Has c cs × (eqb c.address a ≡ true) = keep_has (λ (c : Cand). eqb c.address a) c cs m in (q.0, eqb-true c.address a q.1)

  -- ---- the entries

  -- the place of a position
  new_entry : (j : ℕ) → j < data_count p → (a : ℕ) → (F (data_drive p s j)).addr ≡ a → base' a ≤ (F (data_drive p s j)).stamp
      → Entry p h off g' items (landed_cand p u z st i j).place a
  new_entry j l a e b = subst (λ (q : ℕ). Entry p h off g' items q a) (sym (landed_place j)) (record {
    s = s;
    x = F d;
    drive = subst (λ (y : ℕ). y < p.N) (sym place_d) dl;
    zone = subst (λ (y : ℕ). y < p.Z) (sym place_z) zone_low;
    n = n;
    lies = ap (g.hd.zn n) place_d ∙ sym (lies d dl) ∙ sym place_z;
    at = subst (λ (y : ℕ). Off (items (place_drive p (place_of p d (zone_on z d) (1 + o))) n) y (chunk s (F d))) (sym place_b)
        (subst (λ (y : ℕ). Off (items y n) (suc o) (chunk s (F d))) (sym place_d) (on d dl));
    counts = (cnt d dl (λ q. data_not_parity p s j q)).0;
    same = (cnt d dl (λ q. data_not_parity p s j q)).1;
    addr = e;
    floor = b;
  })
    where
      d : ℕ
      d = data_drive p s j

      dl : d < p.N
      dl = data_drive_lt p s j l

      o : ℕ
      o = offset_in st i d

      zone_low : zone_on z d < p.Z
      zone_low = zl d dl

      there : On p h off g u items k d n
      there = is_on p h off g u items k d n dl (none? d dl) (omega (arith, (on d dl).0))

      within : 1 + o < capacity p
      within = omega (
        arith,
        (on d dl).0,
        ap length there.items,
        zone_len_holds p h off g u items k d (g.hd.zn n d) dl (none? d dl) there.low there.good,
        (zone_bytes p h off g u items k d (g.hd.zn n d) dl (none? d dl) there.low there.good).low,
        pointer_is u d (g.hd.zn n d),
      )

      place_d : place_drive p (place_of p d (zone_on z d) (1 + o)) ≡ d
      place_d = place_drive_lem p d (zone_on z d) (1 + o) zone_low within

      place_z : place_zone p (place_of p d (zone_on z d) (1 + o)) ≡ zone_on z d
      place_z = place_zone_lem p d (zone_on z d) (1 + o) zone_low within

      place_b : place_block p (place_of p d (zone_on z d) (1 + o)) ≡ suc o
      place_b = place_block_lem p d (zone_on z d) (1 + o) within ∙ (let w : 1 + o ≡ suc o = omega arith in w)

  -- an old one, where the new floor is no higher
  old_entry : (q a : ℕ) (e : Entry p h off g items q a) → base' a ≤ e.x.stamp → Entry p h off g' items q a
  old_entry q a e b = entry_to p h off g g' items items q a e refl e.at e.counts e.same b

  -- what the table held, on the drives as they are
  entry_before : (a : ℕ) → a < p.L → ((place_at_of tb a ≡ never_place) × (g.base a ≡ 0)) ⊎ Entry p h off g items (place_at_of tb a) a
  entry_before a al = table_grown p h off g v items tb gr T a al

  -- no position has the address
  untouched : (a : ℕ) → a < p.L → ((c : Cand) → Has c cs → c.address ≢ a) → ((place_at_of tb' a ≡ never_place) × (base' a ≡ 0)) ⊎ Entry p h off g' items (place_at_of tb' a) a
  untouched a al n = ⊎_elim (λ (w : (place_at_of tb a ≡ never_place) × (g.base a ≡ 0)). inl (same ∙ w.0, base_same ∙ w.1))
      (λ (w : Entry p h off g items (place_at_of tb a) a). inr
      (subst (λ (q : ℕ). Entry p h off g' items q a) (sym same)
      (old_entry (place_at_of tb a) a w (subst (λ (y : ℕ). y ≤ w.x.stamp) (sym base_same) w.floor)))) (entry_before a al)
    where
      same : place_at_of tb' a ≡ place_at_of tb a
      same = pointed_none p u tb cs cs tb long a al n

      base_same : base' a ≡ g.base a
      base_same = ⊎_elim (λ e. e) (λ (w : (j : ℕ) × (j < data_count p) × ((F (data_drive p s j)).addr ≡ a) × (base' a ≡ (F (data_drive p s j)).stamp)).
          absurd (n (landed_cand p u z st i w.0) (of_position w.0 w.1) (cand_address w.0 w.1 ∙ w.2))) (floor_is a)

  -- some position has it: the best of all holds
  module _ (a : ℕ) (al : a < p.L) (some? : (c : Cand) × Has c cs × (c.address ≡ a)) where
    nonempty : Has some?.0 (cands_of a cs)
    nonempty = unfold cands_of in has_keep (λ (c : Cand). eqb c.address a) some?.0 cs some?.1 (eq-eqb some?.0.address a some?.2)

    -- the entry of the one that holds
    won :
        (w : Cand)
        → best (held p u tb a) (cands_of a cs) ≡ some w
        → Entry p h off g' items w.place a
        → ((place_at_of tb' a ≡ never_place) × (base' a ≡ 0)) ⊎ Entry p h off g' items (place_at_of tb' a) a
    won w e x = inr (subst (λ (q : ℕ). Entry p h off g' items q a) (sym (pointed_some p u tb cs cs tb long a al small (inr some?) ∙ is)) x)
      where
        is : point_to p u tb cs a ≡ w.place
        is = ap place_or e ∙ (unfold place_or in refl)

        low : w.place < never_place
        low =
            entry_low p h off g u items k none? w.place a (record {
              s = x.s;
              x = x.x;
              drive = x.drive;
              zone = x.zone;
              n = x.n;
              lies = x.lies;
              at = x.at;
              counts = x.counts;
              same = x.same;
              addr = x.addr;
              floor = omega
                  (arith, x.floor, raise_low (parity_drive p s) F g.base a p.N);
            })

        small : point_to p u tb cs a < 256 ^ 4
        small = omega (arith, is, low)

    -- a position holds
    by-position :
        (w : Cand)
        → best (held p u tb a) (cands_of a cs) ≡ some w
        → Has w (cands_of a cs)
        → base' a ≤ w.stamp
        → ((place_at_of tb' a ≡ never_place) × (base' a ≡ 0)) ⊎ Entry p h off g' items (place_at_of tb' a) a
    by-position w e m b =
        let o : Has w cs × (w.address ≡ a) = landed_of_address w a m in
        let j : (j : ℕ) × (j < data_count p) × (w ≡ landed_cand p u z st i j) = position_of w o.0 in
        won w e (subst (λ (y : Cand). Entry p h off g' items y.place a) (sym j.2) (new_entry j.0 j.1 a
        (sym (cand_address j.0 j.1) ∙ ap (λ (y : Cand). y.address) (sym j.2) ∙ o.1)
        (omega (arith, b, ap (λ (y : Cand). y.stamp) j.2, cand_stamp j.0 j.1))))

    touched : ((place_at_of tb' a ≡ never_place) × (base' a ≡ 0)) ⊎ Entry p h off g' items (place_at_of tb' a) a
    touched = ⊎_elim (λ w. fresh w) (λ w. over w) (entry_before a al)
      where
        -- never written before
        fresh : (place_at_of tb a ≡ never_place) × (g.base a ≡ 0) → ((place_at_of tb' a ≡ never_place) × (base' a ≡ 0)) ⊎ Entry p h off g' items (place_at_of tb' a) a
        fresh (n, b) = ⊎_elim (λ (e : cands_of a cs ≡ []). absurd (subst (λ (l : List Cand). Has some?.0 l) e nonempty))
            (λ (r : (w : Cand) × (best none (cands_of a cs) ≡ some w) × Has w (cands_of a cs) × ((c : Cand) → Has c (cands_of a cs) → c.stamp ≤ w.stamp)).
            by-position r.0 (ap (λ (x : Opt Cand). best x (cands_of a cs)) empty ∙ r.1) r.2 (floor_low a r.0.stamp (omega (arith, b)) r.3)) (best_none (cands_of a cs))
          where
            empty : held p u tb a ≡ none
            empty = held_none p tb a (place_at_of tb a) refl u n

        -- written before: the older record, or a position
        over : Entry p h off g items (place_at_of tb a) a → ((place_at_of tb' a ≡ never_place) × (base' a ≡ 0)) ⊎ Entry p h off g' items (place_at_of tb' a) a
        over x = go (best_some old (cands_of a cs))
          where
            low : place_at_of tb a < never_place
            low = entry_low p h off g u items k none? (place_at_of tb a) a x

            old : Cand
            old = held_cand p u a (place_record p u 0 (place_at_of tb a)).stamp (place_at_of tb a)

            there : held p u tb a ≡ some old
            there = held_some p tb a (place_at_of tb a) refl u (omega (arith, low))

            its_stamp : old.stamp ≡ x.x.stamp
            its_stamp = unfold held_cand in entry_stamp p h off g u items k none? (place_at_of tb a) a x

            its_place : old.place ≡ place_at_of tb a
            its_place = unfold held_cand in refl

            go :
                (w : Cand)
                × (best (some old) (cands_of a cs) ≡ some w)
                × ((w ≡ old) ⊎ Has w (cands_of a cs))
                × (old.stamp ≤ w.stamp)
                × ((c : Cand) → Has c (cands_of a cs) → c.stamp ≤ w.stamp) → ((place_at_of tb' a ≡ never_place) × (base' a ≡ 0)) ⊎ Entry p h off g' items (place_at_of tb' a) a
            go (w, e, r, b, m) = ⊎_elim
                (λ (q : w ≡ old). won w (ap (λ (y : Opt Cand). best y (cands_of a cs)) there ∙ e)
                (subst (λ (y : ℕ). Entry p h off g' items y a) (sym (ap (λ (y : Cand). y.place) q ∙ its_place))
                (old_entry (place_at_of tb a) a x (subst (λ (y : ℕ). base' a ≤ y) (ap (λ (y : Cand). y.stamp) q ∙ its_stamp) floor))))
                (λ (q : Has w (cands_of a cs)). by-position w (ap (λ (y : Opt Cand). best y (cands_of a cs)) there ∙ e) q floor) r
              where
                floor : base' a ≤ w.stamp
                floor = floor_low a w.stamp (omega (arith, x.floor, its_stamp, b)) m

  pub table_done : TableOk p h off (with_base g (λ x. raise_to (parity_drive p s) F g.base x p.N)) items (pointed p u tb (landed_cands p u z st i) (landed_cands p u z st i) tb)
  table_done a al = go (test (any (λ (c : Cand). eqb c.address a) cs))
    where
      go : Test (any (λ (c : Cand). eqb c.address a) cs) → ((place_at_of tb' a ≡ never_place) × (base' a ≡ 0)) ⊎ Entry p h off g' items (place_at_of tb' a) a
      go (yes! e) = let w : (c : Cand) × Has c cs × (eqb c.address a ≡ true) = any_has (λ (c : Cand). eqb c.address a) cs e in touched a al (w.0, w.1, eqb-true w.0.address a w.2)
      go (no! e) = untouched a al (λ c m. eqb-false c.address a (any_false_in (λ (c : Cand). eqb c.address a) cs e c m))
