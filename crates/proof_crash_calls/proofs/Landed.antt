-- A landing: its checks, and its chunk as the machine's step. Assumes nothing.
use Rattle.std.specs.Prelude.{◌≡◌, Bool, true, ◌&&◌, leb, ltb, eqb, length}
use Rattle.std.proofs.Math.Path.{refl, ap}
use Rattle.std.proofs.Common.{sym, ◌∙◌, subst, ⊎_elim, arith}
use mathlib.Core.List.{List, [], ◌∷◌, ◌++◌, map}
use Rattle.std.proofs.Math.Bool.{false, cond, not}
use Prim.Native.Nat.{ℕ, suc, ◌+◌, ◌-◌, ◌^◌, ◌≤◌, ◌<◌}
use borrow.Author.Tests.{leb-true, ltb-true, ltb-false, eqb-true, not-true, not-false}
use Rattle.spec.specs.declared.Params.{Params}
use Rattle.spec.specs.declared.State.{State}
use Rattle.spec.specs.Calls.{first_refusal}
use Rattle.spec.specs.Drives.{View, zone_at, pointer_at, Store, store_view_of, zone_on, store_all}
use Rattle.spec.specs.Drives.Store.{put}
use Rattle.spec.specs.History.{Send}
use Rattle.spec.specs.Landing.{slot_of, ready, waiting, completes, seals, flight_rec, misplaced, overfull, entry_faults, land_faults, land_checks, land_store}
use Rattle.spec.specs.Layout.{parity_position, parity_drive, data_drive, data_position, is_data, group, Rec, record_bytes}
use Rattle.spec.specs.Lists.Opt.{none}
use Rattle.spec.specs.Lists.{below, cons_if, index_of, flat, is_in, is_nil, keep}
use Rattle.spec.specs.Memory.{Memory, slot_count, slots, stripe_in, filled_in_of, landed_in, entry_in_of, entries_in, offset_in, is_free, is_full, state_ok, slot_block}
use Rattle.spec.specs.Params.{between, data_count, footers, capacity, inflight_len, drives_of}
use Rattle.spec.specs.Parity.{parity_rec}
use Rattle.law_basic.specs.Geometry.{between-low, between_high, Ranged, position_drive, drive_is_data, data_drive_lt}
use Rattle.law_basic.specs.Ranges.{and_left, and_right}
use Rattle.law_drives.specs.Members.{if_none, map_none}
use Rattle.law_code.specs.Chunks.{flight_data, flight_parity}
use Rattle.law_code.specs.Single.{encode_rec_xor}
use Rattle.law_drives.specs.Slots.{slot_found}
use Rattle.law_checks.specs.Passed.{land_passed}
use Rattle.proof_crash_machine.specs.Facts.{Datum, Used}
use Rattle.proof_crash_machine.specs.History.{Inv}
use Rattle.proof_crash_machine.specs.History.Mode.{run}
use Rattle.proof_crash_machine.specs.History.Step.{land as m-land}
use Rattle.proof_crash_machine.specs.Memory.{Mem, Flight}
use Rattle.proof_crash_machine.specs.Order.{Track}
use Rattle.proof_crash_machine.specs.Val.{Val}
use Rattle.proof_crash_machine.specs.View.Item.{chunk}
use Rattle.proof_crash_machine.specs.View.ItemStore.{put as m-put}
use Rattle.proof_crash_machine.specs.View.{ItemView, ItemStore, with_item, apply, apply_all, InI}
use Rattle.proof_crash_items.specs.Carry.{Tie}
use Rattle.proof_crash_items.specs.Items.{value_of, store_item}
use Rattle.proof_crash_items.specs.Member.{Has, has_keep, has_below}
use Rattle.proof_crash_items.specs.Places.{place_store, store_seg}
use Rattle.proof_crash_items.specs.Segs.{named_seg, named_zone}
use Rattle.proof_crash_items.specs.Sound.{Sound, store_put, sound_put, follows_nil, follows-cons}
use Rattle.law_drives.specs.Tests.{not_so, cond_true}
use Rattle.proof_crash_items.specs.Codec.{Wide}
use Rattle.proof_crash_items.specs.Ranges.{par_of, data_code, code_word}
use Rattle.proof_crash_items.specs.ZoneBytes.{Kind, kind_item}
use Rattle.proof_crash_items.specs.ZoneBytes.Kind.{datum}
use Rattle.proof_crash_calls.specs.Live.{Live}
use Rattle.proof_crash_calls.proofs.Live.{live_inv, live_opened, live_seg-low, live_seg_len, live_tie}
use Rattle.proof_crash_calls.proofs.Sending.{slots_ok}
use Rattle.proof_crash_calls.specs.Base.{eqb_self, slot_any}
use Rattle.proof_crash_calls.specs.Go.{mst, Go, go_step}
use Rattle.proof_crash_calls.proofs.Placed.{ready_data, ready-parity, drive_cases}
use Rattle.proof_crash_calls.specs.Rel.{ready_at, SlotOf, in_use_of}
use Rattle.proof_crash_calls.proofs.Sends.{value_addr, value_stamp}
use Rattle.proof_crash_calls.specs.Slots.{inflight_block_long}
use Rattle.proof_crash_calls.specs.Xored.{parity_is, Fits8, good_fits, parity-wide}
use Rattle.spec.specs.declared.Seg.{Seg}
use Rattle.spec.specs.Segments.{open_segment, open_segments}

-- what a landing's checks say
pub record LandAsked (p : Params) (v : View) (st : State) (d s : ℕ) : Type 0 where
  pub drive : d < p.N
  pub low : slot_of st s < 8
  pub used? : in_use_of st (slot_of st s) ≡ true
  pub number : stripe_in st (slot_of st s) ≡ s
  pub fresh : is_in (landed_in st (slot_of st s)) d ≡ false
  pub may : ready_at p s (filled_in_of st (slot_of st s)) d ≡ true
  pub ok : state_ok p st ≡ true
  pub from : 1 ≤ pointer_at v d (zone_on (open_segment p v st) d)
  pub to : pointer_at v d (zone_on (open_segment p v st) d) ≤ p.S
  pub group? : group p (pointer_at v d (zone_on (open_segment p v st) d) - 1) ≡ group p s
  pub room : seals p st (slot_of st s) d ≡ true → (e : ℕ) → e < p.N → pointer_at v e (zone_on (open_segment p v st) e) + cond (eqb e d) 1 0 + footers p ≤ capacity p

slot_of_lem : (st : State) (s : ℕ) → slot_of st s < 8 → (in_use_of st (slot_of st s) ≡ true) × (stripe_in st (slot_of st s) ≡ s)
unfolding slot_of in_use_of
slot_of_lem st s l =
    let f : ℕ → Bool = λ i. not (is_free st i) && eqb (stripe_in st i) s in
    let e : f (index_of f slots) ≡ true = (slot_found f (slot_any f l)).1 in (
      and_left (not (is_free st (index_of f slots))) (eqb (stripe_in st (index_of f slots)) s) e,
      eqb-true (stripe_in st (index_of f slots)) s (and_right (not (is_free st (index_of f slots))) (eqb (stripe_in st (index_of f slots)) s) e),
    )

ready_parts : (p : Params) (st : State) (i d : ℕ) → ready p st i d ≡ true → (is_in (landed_in st i) d ≡ false) × (ready_at p (stripe_in st i) (filled_in_of st i) d ≡ true)
unfolding ready ready_at is_full
ready_parts p st i d e =
    let x : Bool = cond (is_data p (stripe_in st i) d) (ltb (data_position p (stripe_in st i) d) (filled_in_of st i)) (leb (data_count p) (filled_in_of st i)) in
    (not-true (is_in (landed_in st i) d) (and_left (not (is_in (landed_in st i) d)) x e), and_right (not (is_in (landed_in st i) d)) x e)

placed_well : (p : Params) (v : View) (d z s : ℕ) → misplaced p v d z s ≡ false → (1 ≤ pointer_at v d z) × (pointer_at v d z ≤ p.S) × (group p (pointer_at v d z - 1) ≡ group p s)
unfolding misplaced
placed_well p v d z s e =
    let q : (between 1 p.S (pointer_at v d z) && eqb (group p (pointer_at v d z - 1)) (group p s)) ≡ true =
    not-false (between 1 p.S (pointer_at v d z) && eqb (group p (pointer_at v d z - 1)) (group p s)) e in
    let b : between 1 p.S (pointer_at v d z) ≡ true = and_left (between 1 p.S (pointer_at v d z)) (eqb (group p (pointer_at v d z - 1)) (group p s)) q in (
      between-low 1 p.S (pointer_at v d z) b,
      between_high 1 p.S (pointer_at v d z) b,
      eqb-true (group p (pointer_at v d z - 1)) (group p s) (and_right (between 1 p.S (pointer_at v d z)) (eqb (group p (pointer_at v d z - 1)) (group p s)) q),
    )

left_none : (a b : List ℕ) → a ++ b ≡ [] → a ≡ []
left_none [] b e = refl
left_none (x ∷ a) b e = absurd (let q : ⊥ = omega (arith, ap length e) in q)

room_of : (p : Params) (v : View) (d : ℕ) (z : Seg) → overfull p v d z ≡ [] → (e : ℕ) → e < p.N → pointer_at v e (zone_on z e) + cond (eqb e d) 1 0 + footers p ≤ capacity p
unfolding overfull drives_of
room_of p v d z q e l = ltb-false (capacity p) (pointer_at v e (zone_on z e) + cond (eqb e d) 1 0 + footers p)
    (not_so (over e) (λ w. absurd (subst (Has e) (map_none (zone_on z) (keep over (below p.N)) q) (has_keep over e (below p.N) (has_below e p.N l) w))))
  where
    over : ℕ → Bool
    over e = ltb (capacity p) (pointer_at v e (zone_on z e) + cond (eqb e d) 1 0 + footers p)

pub land_asked : (p : Params) (long : Bool) (v : View) (m : Memory) (d s : ℕ) → first_refusal (land_checks p long v m d s) ≡ none → LandAsked p v m.state d s
land_asked p long v m d s e =
    let st : State = m.state in
    let c = land_passed p long v m d s e in
    let w : ((ltb d p.N && ltb (slot_of st s) 8) && ready p st (slot_of st s) d) ≡ true = waits c.waits in
    let x : (ltb d p.N && ltb (slot_of st s) 8) ≡ true = and_left (ltb d p.N && ltb (slot_of st s) 8) (ready p st (slot_of st s) d) w in
    let i : slot_of st s < 8 = ltb-true (slot_of st s) 8 (and_right (ltb d p.N) (ltb (slot_of st s) 8) x) in
    let r : (is_in (landed_in st (slot_of st s)) d ≡ false) × (ready_at p (stripe_in st (slot_of st s)) (filled_in_of st (slot_of st s)) d ≡ true) =
    ready_parts p st (slot_of st s) d (and_right (ltb d p.N && ltb (slot_of st s) 8) (ready p st (slot_of st s) d) w) in
    let g : (misplaced p v d (zone_on (open_segment p v st) d) s ≡ false) × (cond (seals p st (slot_of st s) d) (overfull p v d (open_segment p v st)) [] ≡ []) = faults c.chunk_fine in
    let z : (1 ≤ pointer_at v d (zone_on (open_segment p v st) d)) × (pointer_at v d (zone_on (open_segment p v st) d) ≤ p.S)
    × (group p (pointer_at v d (zone_on (open_segment p v st) d) - 1) ≡ group p s) =
    placed_well p v d (zone_on (open_segment p v st) d) s g.0 in
    let o : (in_use_of st (slot_of st s) ≡ true) × (stripe_in st (slot_of st s) ≡ s) = slot_of_lem st s i in
    record {
      drive = ltb-true d p.N (and_left (ltb d p.N) (ltb (slot_of st s) 8) x);
      low = i;
      used? = o.0;
      number = o.1;
      fresh = r.0;
      may = subst (λ (k : ℕ). ready_at p k (filled_in_of st (slot_of st s)) d ≡ true) o.1 r.1;
      ok = c.state_fine;
      from = z.0;
      to = z.1;
      group? = z.2;
      room = λ t. room_of p v d (open_segment p v st) (sym (cond_true (seals p st (slot_of st s) d) (overfull p v d (open_segment p v st)) [] t) ∙ g.1);
    }
  where
    waits : waiting p m.state d s ≡ true → ((ltb d p.N && ltb (slot_of m.state s) 8) && ready p m.state (slot_of m.state s) d) ≡ true
    waits x = unfold waiting slot_count in x

    faults : land_faults p v m d s ≡ []
        → (misplaced p v d (zone_on (open_segment p v m.state) d) s ≡ false)
        × (cond (seals p m.state (slot_of m.state s) d) (overfull p v d (open_segment p v m.state)) [] ≡ [])
    faults x = unfold land_faults in
        let zs : List ℕ = cond (completes p m.state (slot_of m.state s) d) (flat (entry_faults p v m.addresses) (entries_in m.state (slot_of m.state s))) [] in
        let os : List ℕ = cond (seals p m.state (slot_of m.state s) d) (overfull p v d (open_segment p v m.state)) [] in
        let ms : List ℕ = cons_if (misplaced p v d (zone_on (open_segment p v m.state) d) s) (zone_on (open_segment p v m.state) d) (os ++ zs) in
        let a = if_none (is_nil (open_segments p v m.state)) 0 ms x in
        let b = if_none (misplaced p v d (zone_on (open_segment p v m.state) d) s) (zone_on (open_segment p v m.state) d) (os ++ zs) a.1 in
        (b.0, left_none os zs b.1)

-- ---- the chunk

module _ (p : Params) (h : Ranged p) (off : List ℕ) (v : View) (m : Memory) (ss : List Send) (n : ℕ) (l : Live p h off v m.state m.inflight m.addresses ss n)
    (fits : length m.inflight ≡ inflight_len p)
    (d s : ℕ) (A : LandAsked p v m.state d s) where
  abbrev st : State
  st = m.state

  abbrev fl : List ℕ
  fl = m.inflight

  abbrev i : ℕ
  i = slot_of m.state s

  abbrev M : Mem
  M = l.M

  abbrev z : Seg
  z = named_seg p l.g l.M.zone

  inv_landed : Inv (par_of p h off) (mst l.g l.u l.a l.c (run l.M))
  inv_landed = live_inv p h off v m.state m.inflight m.addresses ss n l

  -- the stripe of the eighth is s
  pub land_slot : SlotOf p l.u m.state m.inflight l.M.zone (slot_of m.state s) (l.M.F s) (l.M.ready s)
  land_slot = subst (λ (x : ℕ). SlotOf p l.u st fl l.M.zone i (M.F x) (M.ready x)) A.number (l.rel.slot i A.low A.used?)

  pub land_flies : l.M.fly s ≡ true
  land_flies = subst (λ (x : ℕ). M.fly x ≡ true) A.number (l.rel.flying i A.low A.used?)

  pub land_flight : (l.M.is_open ≡ true) × (s < l.M.next) × Flight (par_of p h off) l.g l.u l.M.zone s (l.M.F s) (l.M.ready s)
  land_flight = inv_landed.mode.flies s land_flies

  pub land_open : l.M.is_open ≡ true
  land_open = land_flight.0

  -- the open segment is in use
  pub zone_used : Used (par_of p h off) l.g.un l.u l.M.zone
  zone_used =
      let b : 0 < p.N = omega (arith, h.drives_low) in
      let t : l.g.un 0 ≡ false = inv_landed.mode.none 0 b in
      (0, (b, t), inv_landed.mode.begun land_open 0 b t)

  pub land_name : m.state.opened ≡ l.M.zone
  land_name = l.rel.zone land_open

  pub land_zone : open_segment p v m.state ≡ named_seg p l.g l.M.zone
  land_zone = live_opened p h off v m.state m.inflight m.addresses ss n l (subst (Used (par_of p h off) l.g.un l.u) (sym land_name) zone_used)
      ∙ ap (named_seg p l.g) land_name

  pub landed_zone_low : (e : ℕ) → e < p.N → zone_on (named_seg p l.g l.M.zone) e < p.Z
  landed_zone_low = live_seg-low p h off v m.state m.inflight m.addresses ss n l l.M.zone zone_used

  from : 1 ≤ pointer_at v d (zone_on z d)
  from = subst (λ (x : Seg). 1 ≤ pointer_at v d (zone_on x d)) land_zone A.from

  to : pointer_at v d (zone_on z d) ≤ p.S
  to = subst (λ (x : Seg). pointer_at v d (zone_on x d) ≤ p.S) land_zone A.to

  may : M.ready s d ≡ true
  may = subst (λ (x : ℕ). M.ready s d ≡ ready_at p x (filled_in_of st i) d) A.number (land_slot.may d A.drive) ∙ A.may

  number_low : s < p.S
  number_low = subst (λ (x : ℕ). x < p.S) A.number (slots_ok p st A.ok i A.low).0

  -- ---- its record

  good : (x : Val) → Datum (par_of p h off) s (M.F s) x → Fits8 x
  good x t =
      good_fits p h off (mst l.g l.u l.a l.c (run l.M)) M inv_landed inv_landed.mode (subst (λ (k : ℕ). k < 256 ^ 8) (sym l.rel.stamp) l.rel.stamp_fits) x
      (land_flight.2.good x t)

  -- a filled position
  pub land_held : (k : ℕ) → k < filled_in_of m.state (slot_of m.state s)
      → (l.M.F s (data_drive p s k)
      ≡ value_of (slot_block p m.inflight (slot_of m.state s) (data_drive p s k)) (entry_in_of m.state (slot_of m.state s) k))
      × (((entry_in_of m.state (slot_of m.state s) k).address < 256 ^ 8) × ((entry_in_of m.state (slot_of m.state s) k).stamp < 256 ^ 8))
  land_held k b = (e, fit)
    where
      b' : k < data_count p
      b' = omega (arith, b, land_slot.most)

      e : M.F s (data_drive p s k) ≡ value_of (slot_block p fl i (data_drive p s k)) (entry_in_of st i k)
      e = subst (λ (x : ℕ). M.F s (data_drive p x k) ≡ value_of (slot_block p fl i (data_drive p x k)) (entry_in_of st i k)) A.number (land_slot.held k b)

      f : Fits8 (value_of (slot_block p fl i (data_drive p s k)) (entry_in_of st i k))
      f = good (value_of (slot_block p fl i (data_drive p s k)) (entry_in_of st i k))
          (record { d = data_drive p s k; lt = data_drive_lt p s k b'; data? = data_code p h s (data_drive p s k) (drive_is_data p s k); val = e })

      fit : ((entry_in_of st i k).address < 256 ^ 8) × ((entry_in_of st i k).stamp < 256 ^ 8)
      fit = (
        subst (λ (x : ℕ). x < 256 ^ 8) (value_addr (slot_block p fl i (data_drive p s k)) (entry_in_of st i k)) f.addr,
        subst (λ (x : ℕ). x < 256 ^ 8) (value_stamp (slot_block p fl i (data_drive p s k)) (entry_in_of st i k)) f.stamp,
      )

  -- the chunk's value, its number, and that it fits
  pub record ChunkIs (r : Rec) : Type 0 where
    pub val : value_of (slot_block p m.inflight (slot_of m.state s) d) r ≡ l.M.F s d
    pub stripe : r.stripe ≡ s
    pub wide : Wide r

  chunk_data : (k : ℕ) → k < data_count p → d ≡ data_drive p s k → ChunkIs (flight_rec p st i d)
  chunk_data k b e = subst ChunkIs (sym is) (record {
    val = ap (λ (x : ℕ). value_of (slot_block p fl i x) (entry_in_of st i k)) e ∙ sym (land_held k f).0 ∙ ap (M.F s) (sym e);
    stripe = number;
    wide = record { address = (land_held k f).1.0; stamp = (land_held k f).1.1; stripe = subst (λ (x : ℕ). x < 256 ^ 4) (sym number) (omega (arith, number_low, h.stripes_high)) };
  })
    where
      f : k < filled_in_of st i
      f = ltb-true k (filled_in_of st i) (sym (ready_data p s (filled_in_of st i) k) ∙ ap (ready_at p s (filled_in_of st i)) (sym e) ∙ A.may)

      number : (entry_in_of st i k).stripe ≡ s
      number = let x : (entry_in_of st i k).stripe ≡ stripe_in st i = unfold entry_in_of in refl in x ∙ A.number

      is : flight_rec p st i d ≡ entry_in_of st i k
      is =
          flight_data p st i d (ap (λ (x : ℕ). is_data p x d) A.number ∙ ap (is_data p s) e ∙ drive_is_data p s k)
          ∙ ap (entry_in_of st i) (ap (λ (x : ℕ). data_position p x d) A.number ∙ ap (data_position p s) e ∙ position_drive p s k)

  chunk_parity : d ≡ parity_drive p s → ChunkIs (flight_rec p st i d)
  chunk_parity e = subst ChunkIs (sym is) (record {
    val = ap (λ (x : ℕ). value_of (slot_block p fl i x) (parity_rec s (map (entry_in_of st i) (below (filled_in_of st i))))) e
        ∙ subst (λ (x : ℕ). value_of (slot_block p fl i (parity_drive p x)) (parity_rec x (map (entry_in_of st i) (below (filled_in_of st i)))) ≡ M.F s (parity_drive p x)) A.number
        (parity_is p h (λ e. l.u e l.M.zone) (slot_block p fl i) (entry_in_of st i) (offset_in st i) (stripe_in st i) (filled_in_of st i) (landed_in st i) (M.F s) (M.ready s) land_slot
        (λ x b. inflight_block_long p fl fits i x A.low b) full (code_word p h s (M.F s) land_flight.2.word))
        ∙ ap (M.F s) (sym e);
    stripe = unfold parity_rec in refl;
    wide = parity-wide s (filled_in_of st i) (entry_in_of st i) (omega (arith, number_low, h.stripes_high)) (λ j b. (land_held j b).1);
  })
    where
      full : filled_in_of st i ≡ data_count p
      full =
          let b : data_count p ≤ filled_in_of st i = leb-true (data_count p) (filled_in_of st i)
          (sym (ready-parity p s (filled_in_of st i)) ∙ ap (ready_at p s (filled_in_of st i)) (sym e) ∙ A.may) in
          omega (arith, b, land_slot.most)

      is : flight_rec p st i d ≡ parity_rec s (map (entry_in_of st i) (below (filled_in_of st i)))
      is =
          flight_parity p st i d (ap (λ (x : ℕ). is_data p x d) A.number ∙ ap (is_data p s) e ∙ none)
          ∙ encode_rec_xor (parity_position p (stripe_in st i) d) (stripe_in st i) (entries_in st i)
          ∙ ap (λ (x : ℕ). parity_rec x (entries_in st i)) A.number
          ∙ (unfold entries_in in refl)
        where
          none : is_data p s (parity_drive p s) ≡ false
          none = unfold is_data in ap not (eqb_self (parity_drive p s))

  pub chunk_is : ChunkIs (flight_rec p m.state (slot_of m.state s) d)
  chunk_is = ⊎_elim (λ (w : (j : ℕ) × (j < data_count p) × (d ≡ data_drive p s j)). chunk_data w.0 w.1 w.2) (λ w. chunk_parity w) (drive_cases p s d A.drive)

  -- ---- its store

  -- what is put, and where
  abbrev pub land_put : Store
  land_put = put d (zone_on (named_seg p l.g l.M.zone) d) (slot_block p m.inflight (slot_of m.state s) d) (record_bytes (flight_rec p m.state (slot_of m.state s) d))

  pub land_store_is : land_store p v m d s ≡ land_put
  unfolding land_store
  land_store_is = ap (λ (x : Seg). put d (zone_on x d) (slot_block p fl i d) (record_bytes (flight_rec p st i d))) land_zone

  abbrev at_o : ℕ
  at_o = pointer_at v d (zone_on (named_seg p l.g l.M.zone) d) - 1

  landed-kind : Kind p d (zone_at v d (zone_on z d)) (slot_block p fl i d) (record_bytes (flight_rec p st i d))
  landed-kind = datum at_o (slot_block p fl i d) (flight_rec p st i d) at (let b : at_o < p.S = omega (arith, from, to) in b) (inflight_block_long p fl fits i d A.low A.drive) chunk_is.wide
    where
      at : (zone_at v d (zone_on z d)).pointer ≡ suc at_o
      at = unfold pointer_at in (let e : pointer_at v d (zone_on z d) ≡ suc (pointer_at v d (zone_on z d) - 1) = omega (arith, from) in e)

  pub land_sound : Sound p v land_put
  land_sound = sound_put p v d z (slot_block p fl i d) (record_bytes (flight_rec p st i d)) A.drive (landed_zone_low d A.drive) landed-kind

  -- by segment
  abbrev pub land_item : ItemStore
  land_item = m-put d l.M.zone (chunk s (l.M.F s d))

  pub landed_item : store_item p v land_put ≡ place_store l.g.hd land_item
  unfolding landed-kind
  landed_item = store_put p l.g.hd v d l.M.zone z (slot_block p fl i d) (record_bytes (flight_rec p st i d)) (named_zone p l.g l.M.zone d A.drive) landed-kind ∙ same
    where
      same : place_store l.g.hd (m-put d l.M.zone (kind_item p d (zone_at v d (zone_on z d)) (slot_block p fl i d) (record_bytes (flight_rec p st i d)) landed-kind))
          ≡ place_store l.g.hd (m-put d l.M.zone (chunk s (M.F s d)))
      same = unfold kind_item in λ j. place_store l.g.hd (m-put d l.M.zone (chunk (chunk_is.stripe j) (chunk_is.val j)))

  -- the drives afterwards, and as the machine sees them
  abbrev pub land_view : View
  land_view = store_view_of land_put v

  abbrev pub land_items : ItemView
  land_items = with_item l.u d l.M.zone (chunk s (l.M.F s d))

  pub land_tie : Tie p h off l.g.un l.g.hd land_view land_items
  unfolding store_all apply_all apply store_seg
  land_tie = live_tie p h off v m.state m.inflight m.addresses ss n l (land_put ∷ []) (land_item ∷ [])
      (follows-cons p l.g.hd v land_put [] land_item [] land_sound landed_item (follows_nil p l.g.hd land_view)) (zone_used, tt)

  landed-length : length (l.u d l.M.zone) ≡ pointer_at v d (zone_on z d)
  landed-length = live_seg_len p h off v m.state m.inflight m.addresses ss n l l.M.zone zone_used d A.drive

  pub land_step : (T : Track) → Go (par_of p h off) (mst l.g l.u l.a l.c (run l.M)) (mst l.g land_items l.a l.c (run l.M)) T T
  land_step T =
      go_step (par_of p h off) (mst l.g l.u l.a l.c (run l.M)) (mst l.g land_items l.a l.c (run l.M)) T
      (m-land (mst l.g l.u l.a l.c (run l.M)) M d s refl A.drive land_flies
      (λ x k. land_slot.out d A.drive A.fresh x (subst (λ (y : ℕ). InI (chunk y x) (l.u d l.M.zone)) (sym A.number) k)) may
      (λ k e. let f : pointer_at v d (zone_on z d) ≡ suc k = sym landed-length ∙ e in
      let o : pointer_at v d (zone_on z d) - 1 ≡ k = omega (arith, f) in
      (omega (arith, f, to), sym (ap (λ (x : Seg). group p (pointer_at v d (zone_on x d) - 1)) (sym land_zone) ∙ A.group?) ∙ ap (group p) o)))
