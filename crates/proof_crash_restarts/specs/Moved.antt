-- Restart, 4: the stores of a rewrite are the machine's: headers, stripes, then the resets of the old zones. Assumes nothing.
use Rattle.std.specs.Prelude.{◌≡◌, refl, ◌⊎◌, ◌≢◌, false}
use Rattle.std.proofs.Math.Path.{sym, ap, ap₂, subst}
use Rattle.std.proofs.Common.{◌∙◌, inl, inr}
use mathlib.Core.List.{List, [], ◌∷◌, ◌++◌, map}
use Prim.Native.Nat.{ℕ, zero, suc, ◌+◌, ◌^◌, ◌≤◌, ◌<◌}
use Rattle.std.proofs.Math.Decide.{ℕ_discrete}
use native.Mathlib.Omega.{arith}
use Rattle.std.proofs.Math.ListN.{length, get_or}
use Rattle.spec.specs.declared.Params.{Params}
use Rattle.spec.specs.Drives.{Zone, View, zone_at, pointer_at, chunk_at, put_zone, store_view_of, store_all, zone_on, zero_spare, header_stores, reset_stores, zones_in}
use Rattle.spec.specs.Drives.Store.{put}
use Rattle.spec.specs.Layout.{header_block, header_serial, record_bytes}
use Rattle.spec.specs.Lists.{up_from, below, is_in}
use Rattle.spec.specs.Params.{drives_of}
use Rattle.spec.specs.Parity.{Piece}
use Rattle.spec.specs.Restart.{moved_pieces, moved_on, moved_stripe, moved_stripes, rewrite_stores}
use Rattle.spec.specs.Segments.{header_at, remaining, Segment, segment_of, counted, put_piece}
use Rattle.law_basic.specs.Geometry.{Ranged}
use Rattle.law_basic.specs.Stores.{store_all-append}
use Rattle.law_drives.specs.Segs.{seg_is}
use Rattle.proof_crash_machine.specs.Facts.Pair.{pair}
use Rattle.proof_crash_machine.specs.Facts.{Ghost, Heads, Used}
use Rattle.proof_crash_machine.specs.Name.{set_n_same, naming, set_n-other}
use Rattle.proof_crash_machine.specs.Rewrite.{MovePlan, item as m-item, copies, drops, st}
use Rattle.proof_crash_machine.specs.Steps.{list, rows}
use Rattle.proof_crash_machine.specs.View.{Item, ItemStore, ItemView}
use Rattle.proof_crash_machine.specs.View.Item.{hdr, chunk}
use Rattle.proof_crash_machine.specs.View.ItemStore.{put as m-put, reset as m-reset}
use Rattle.proof_crash_items.specs.Items.{value_of, store_item}
use Rattle.proof_crash_items.specs.Member.{Has, get_d_has}
use Rattle.proof_crash_items.specs.Ranges.{par_of}
use Rattle.proof_crash_items.specs.SegFacts.{begun_on, serial_ghost, heads_alike}
use Rattle.proof_crash_items.specs.Shape.{Shape, zone_set_at, zone_set_else, shape_store}
use Rattle.proof_crash_items.specs.Sound.{Sound, sound_fits, Follows, follows_nil, follows_append, store_put, follows_list, follows_end, sound_put}
use Rattle.proof_crash_items.specs.Stripes.{pointer_is}
use Rattle.proof_crash_items.specs.Values.{piece_value, value_same}
use Rattle.proof_crash_items.specs.ZoneBytes.{block_in_of, Kind, kind_item}
use Rattle.proof_crash_items.specs.ZoneBytes.Kind.{header, datum}
use Rattle.proof_crash_restarts.specs.Drops.{reset_follows}
use Rattle.proof_crash_restarts.specs.Ends.{none_choice}
use Rattle.proof_crash_restarts.specs.MovedPlan.{moved-wide, moved_value_long, moved_rec_stripe, plan_few, plan_F, plan_F_is, plan_of}
use Rattle.proof_crash_restarts.specs.Order.{pointer_zone}
use Rattle.proof_crash_restarts.specs.Rest.{SettledOn, far_off, settled_used}
use Rattle.spec.specs.declared.Seg.{Seg}
use Rattle.law_basic.specs.Segs.{zones_in_lem, zones_in_long}
use Rattle.law_drives.specs.Headers.{Vacant}
use Rattle.proof_crash_items.specs.Carry.{names_of}
use Rattle.proof_crash_items.specs.Places.{place_store}
use Rattle.proof_crash_items.specs.Segs.{SegAt, its_zones, name_of, remains_at_holds, seg_bytes}

pub list-map : (f : ℕ → ItemStore) (j n : ℕ) → list f j n ≡ map f (up_from j n)
unfolding list up_from
list-map f j zero = refl
list-map f j (suc n) = ap (λ (l : List ItemStore). f j ∷ l) (list-map f (suc j) n)

module _ (p : Params) (r : Ranged p) (h : Heads) (v : View) (w : Seg) (n : ℕ) (wl : (d : ℕ) → d < p.N → zone_on w d < p.Z) (lies : (d : ℕ) → d < p.N → zone_on w d ≡ h.zn n d) where
  -- drives below d have block t of segment w, the others have just the blocks before it; other zones are as they were
  pub record MovedAt (t d : ℕ) (u : View) : Type 0 where
    pub shape : Shape p u
    pub done : (e : ℕ) → e < p.N → e < d → pointer_at u e (zone_on w e) ≡ suc t
    pub left : (e : ℕ) → e < p.N → d ≤ e → pointer_at u e (zone_on w e) ≡ t
    pub other : (e y : ℕ) → y ≢ zone_on w e → zone_at u e y ≡ zone_at v e y

  pub at_next : (t d : ℕ) (u : View) (b sp : List ℕ) → d < p.N → MovedAt t d u → Kind p d (zone_at u d (zone_on w d)) b sp → MovedAt t (suc d) (store_view_of (put d (zone_on w d) b sp) u)
  at_next t d u b sp l a k = record {
    shape = shape_store p u (put d (zone_on w d) b sp) a.shape (sound_fits p r u (put d (zone_on w d) b sp) a.shape (sound_put p u d w b sp l (wl d l) k));
    done = λ e el eb. go e el eb (ℕ_discrete e d);
    left = λ e el eb. pointer_zone (store_view_of (put d (zone_on w d) b sp) u) u e (zone_on w e) (other e (zone_on w e) (inl (omega arith))) ∙ a.left e el (omega arith);
    other = λ e y q. other e y (other_of e y q) ∙ a.other e y q;
  }
    where
      other_of : (e y : ℕ) → y ≢ zone_on w e → (e ≢ d) ⊎ (y ≢ zone_on w d)
      other_of e y q = two (ℕ_discrete e d)
        where
          two : Dec (e ≡ d) → (e ≢ d) ⊎ (y ≢ zone_on w d)
          two (yes i) = inr (λ j. q (j ∙ ap (zone_on w) (sym i)))
          two (no i) = inl i

      other : (e y : ℕ) → (e ≢ d) ⊎ (y ≢ zone_on w d) → zone_at (store_view_of (put d (zone_on w d) b sp) u) e y ≡ zone_at u e y
      other e y q = unfold store_view_of in zone_set_else p u a.shape d (zone_on w d) (put_zone b sp (zone_at u d (zone_on w d))) l e y q

      here : pointer_at (store_view_of (put d (zone_on w d) b sp) u) d (zone_on w d) ≡ suc (pointer_at u d (zone_on w d))
      here =
          unfold store_view_of pointer_at in (ap (λ (q : Zone). q.pointer) (zone_set_at p u a.shape d (zone_on w d) (put_zone b sp (zone_at u d (zone_on w d))) l (wl d l))
          ∙ (unfold put_zone in refl))

      go : (e : ℕ) → e < p.N → e < suc d → Dec (e ≡ d) → pointer_at (store_view_of (put d (zone_on w d) b sp) u) e (zone_on w e) ≡ suc t
      go e el eb (yes q) = ap (λ (x : ℕ). pointer_at (store_view_of (put d (zone_on w d) b sp) u) x (zone_on w x)) q ∙ here ∙ ap suc (a.left d l (omega arith))
      go e el eb (no q) = pointer_zone (store_view_of (put d (zone_on w d) b sp) u) u e (zone_on w e) (other e (zone_on w e) (inl q)) ∙ a.done e el (omega arith)

  pub moved_turn : (t : ℕ) (u : View) → MovedAt t p.N u → MovedAt (suc t) 0 u
  moved_turn t u a = record { shape = a.shape; done = λ e l b. absurd (let q : ⊥ = omega arith in q); left = λ e l b. a.done e l l; other = a.other }

  -- a row: one store on each drive
  module _ (t : ℕ) (b sp : ℕ → List ℕ) (it : ℕ → Item)
      (kind : (d : ℕ) (u : View) → d < p.N → MovedAt t d u → (k : Kind p d (zone_at u d (zone_on w d)) (b d) (sp d))
      × (kind_item p d (zone_at u d (zone_on w d)) (b d) (sp d) k ≡ it d)) where
    moved-row-step :
        (d : ℕ) (u : View)
        → d < p.N
        → MovedAt t d u
        → Sound p u (put d (zone_on w d) (b d) (sp d)) × (store_item p u (put d (zone_on w d) (b d) (sp d)) ≡ place_store h (m-put d n (it d))) × MovedAt t (suc d)
        (store_view_of (put d (zone_on w d) (b d) (sp d)) u)
    moved-row-step d u l a =
        let k : (k : Kind p d (zone_at u d (zone_on w d)) (b d) (sp d)) × (kind_item p d (zone_at u d (zone_on w d)) (b d) (sp d) k ≡ it d) = kind d u l a in (
          sound_put p u d w (b d) (sp d) l (wl d l) k.0,
          store_put p h u d n w (b d) (sp d) (lies d l) k.0 ∙ ap (λ (x : Item). place_store h (m-put d n x)) k.1,
          at_next t d u (b d) (sp d) l a k.0,
        )

    pub row_follows : (u : View) → MovedAt t 0 u
        → Follows p h u (map (λ d. put d (zone_on w d) (b d) (sp d)) (up_from 0 p.N)) (list (λ d. m-put d n (it d)) 0 p.N)
        × MovedAt (suc t) 0 (store_all store_view_of (map (λ d. put d (zone_on w d) (b d) (sp d)) (up_from 0 p.N)) u)
    row_follows u a = (
      follows_list p h (MovedAt t) (λ d. put d (zone_on w d) (b d) (sp d)) (λ d. m-put d n (it d)) p.N moved-row-step 0 p.N (omega arith) u a,
      moved_turn t (store_all store_view_of (map (λ d. put d (zone_on w d) (b d) (sp d)) (up_from 0 p.N)) u)
          (follows_end p h (MovedAt t) (λ d. put d (zone_on w d) (b d) (sp d)) (λ d. m-put d n (it d)) p.N moved-row-step 0 p.N p.N (omega arith) (omega arith) u a),
    )

module _ (p : Params) (r : Ranged p) (off : List ℕ) (g : Ghost) (v : View) (mu : ItemView) (k : SettledOn p r off g v mu) (o : Seg) (i : Has o (remaining p v 0)) (w : Seg)
    (va : Vacant p v w) (n : ℕ) (nl : n < 256 ^ 8) (new : Used (par_of p r off) g.un mu n → ⊥) where
  abbrev G : Segment
  G = segment_of p v 0 o

  abbrev g_m : Ghost
  g_m = naming g n n (g.hd.ser (name_of p v 0 o)) (names_of p w) (pair n (name_of p v 0 o))

  abbrev π : MovePlan (par_of p r off)
  π = plan_of p r off g v mu k o i

  nm : ℕ
  nm = name_of p v 0 o

  moved_ob : SegAt p v mu 0 o (name_of p v 0 o)
  moved_ob = remains_at_holds p r off g v mu k.on 0 (none_choice p r off g v mu k) o i

  -- where the two lie
  wl : (d : ℕ) → d < p.N → zone_on w d < p.Z
  wl d l = va.vacant_low d l

  w_lies : (d : ℕ) → d < p.N → zone_on w d ≡ g_m.hd.zn n d
  w_lies d l = sym (ap (λ (f : ℕ → ℕ). f d) (set_n_same g.hd.zn n (names_of p w)) ∙ zones_in_lem p w d l)

  o_lies : (d : ℕ) → d < p.N → zone_on o d ≡ g_m.hd.zn (name_of p v 0 o) d
  o_lies d l = its_zones p r off g v mu k.on 0 (none_choice p r off g v mu k) o i d l
      ∙ sym (ap (λ (f : ℕ → ℕ). f d) (set_n-other g.hd.zn n (names_of p w) (name_of p v 0 o) (λ e. new (subst (Used (par_of p r off) g.un mu) e (settled_used p r off g v mu k o i).0))))

  moved_old_serial : G.serial ≡ g.hd.ser (name_of p v 0 o)
  moved_old_serial = serial_ghost p r off g v mu k.on 0 (none_choice p r off g v mu k) o i

  -- it is a serial that the header's bytes hold
  old_wide : G.serial < 256 ^ 8
  old_wide =
      let d0 : 0 < p.N = omega (arith, r.drives_low) in
      let n0 : is_in 0 0 ≡ false = far_off p r off g v mu k 0 d0 in
      let b : 0 < pointer_at v 0 (zone_on o 0) = begun_on p r off g v mu k.on 0 (none_choice p r off g v mu k) o i 0 d0 n0 in
      let h : header_serial p (header_at v 0 o) ≡ G.serial = (heads_alike p r off g v mu k.on 0 (none_choice p r off g v mu k) o i 0 d0 n0).1 in
      let q : header_serial p (header_at v 0 o) < 256 ^ 8 = wide ((seg_bytes p r off g v mu k.on 0 (none_choice p r off g v mu k) o moved_ob 0 d0 n0).serials
      (subst (λ (x : ℕ). 0 < x) (sym (pointer_is v 0 (zone_on o 0))) b)).0 in
      subst (λ (x : ℕ). x < 256 ^ 8) h q
    where
      wide : header_serial p (block_in_of (zone_at v 0 (zone_on o 0)) 0).block < 256 ^ 8 → header_serial p (header_at v 0 o) < 256 ^ 8
      wide l = unfold header_at chunk_at in l

  first : MovedAt p r g_m.hd v w n wl w_lies 0 0 v
  first = record { shape = k.on.shape; done = λ e l b. absurd (let q : ⊥ = omega arith in q); left = λ e l b. va.vacant_empty e l; other = λ e y q. refl }

  -- ---- headers
  header_is : (d : ℕ) → hdr n G.serial (names_of p w) ≡ m-item (par_of p r off) g_m n (name_of p v 0 o) π 0 d
  header_is d =
      unfold m-item in λ j. hdr (sym (set_n_same g.hd.ser n n) j) (sym (set_n_same g.hd.cop n (g.hd.ser (name_of p v 0 o)) ∙ sym moved_old_serial) j)
      (sym (set_n_same g.hd.zn n (names_of p w)) j)

  abbrev row : ℕ → ℕ → ItemStore
  row j d = st (par_of p r off) g_m n (name_of p v 0 o) π j d

  moved-headers_follow : Follows p g_m.hd v (header_stores p w n G.serial) (list (row 0) 0 p.N) × MovedAt p r g_m.hd v w n wl w_lies 1 0
      (store_all store_view_of (header_stores p w n G.serial) v)
  unfolding header_stores drives_of below st
  moved-headers_follow = row_follows p r g_m.hd v w n wl w_lies 0 (λ d. header_block p d (zones_in p w) n G.serial) (λ d. zero_spare) (λ d. m-item (par_of p r off) g_m n (name_of p v 0 o) π 0 d)
      (λ d u l a. (
        header (zones_in p w) n G.serial (pointer_is u d (zone_on w d) ∙ a.left d l (omega arith)) (zones_in_long p w)
            (λ e b. subst (λ (x : ℕ). x < 256 ^ 4) (sym (zones_in_lem p w e b)) (omega (arith, wl e b, r.zones_high))) nl old_wide,
        (unfold kind_item in header_is d),
      )) v first

  -- ---- a stripe
  abbrev cs : List ℕ
  cs = counted p 0 G

  moved_item_is : (j d : ℕ) (q : Piece) → q.rec.stripe ≡ j → piece_value q ≡ plan_F p r off g v mu k o i j d
      → chunk q.rec.stripe (value_of q.block q.rec) ≡ m-item (par_of p r off) g_m n (name_of p v 0 o) π (suc j) d
  moved_item_is j d q e f = unfold m-item in ap₂ chunk e (sym (value_same q.block q.rec) ∙ f)

  stripe_follow : (s j : ℕ) → Has s (counted p 0 G) → j < p.S → s ≡ get_or (counted p 0 G) j 0 → (u : View) → MovedAt p r g_m.hd v w n wl w_lies (suc j) 0 u
      → Follows p g_m.hd u (moved_stripe p G w s j) (list (row (suc j)) 0 p.N) × MovedAt p r g_m.hd v w n wl w_lies (suc (suc j)) 0 (store_all store_view_of (moved_stripe p G w s j) u)
  unfolding moved_stripe put_piece drives_of below st
  stripe_follow s j h jl e u a = row_follows p r g_m.hd v w n wl w_lies (suc j) (λ d. (moved_on p (moved_pieces p G s j) j d).block) (λ d. record_bytes (moved_on p (moved_pieces p G s j) j d).rec)
      (λ d. m-item (par_of p r off) g_m n (name_of p v 0 o) π (suc j) d)
      (λ d x l b. (
        datum j (moved_on p (moved_pieces p G s j) j d).block (moved_on p (moved_pieces p G s j) j d).rec (pointer_is x d (zone_on w d) ∙ b.left d l (omega arith)) jl
            (moved_value_long p r off g v mu k o i s j h jl d l) (moved-wide p r off g v mu k o i s j h jl d l),
        (unfold kind_item in moved_item_is j d (moved_on p (moved_pieces p G s j) j d) (moved_rec_stripe p r off g v mu k o i s j h jl d l) (plan_is d)),
      )) u a
    where
      plan_is : (d : ℕ) → piece_value (moved_on p (moved_pieces p G s j) j d) ≡ plan_F p r off g v mu k o i j d
      plan_is d = ap (λ (x : ℕ). piece_value (moved_on p (moved_pieces p G x j) j d)) e ∙ sym (plan_F_is p r off g v mu k o i j d)

  -- ---- all stripes
  moved_follow : (ss : List ℕ) (j : ℕ) → ((t : ℕ) → t < length ss → get_or ss t 0 ≡ get_or (counted p 0 G) (j + t) 0) → j + length ss ≡ length (counted p 0 G)
      → (u : View) → MovedAt p r g_m.hd v w n wl w_lies (suc j) 0 u
      → Follows p g_m.hd u (moved_stripes p G w ss j) (rows row p.N (suc j) (length ss)) × MovedAt p r g_m.hd v w n wl w_lies (suc (length (counted p 0 G))) 0
      (store_all store_view_of (moved_stripes p G w ss j) u)
  unfolding moved_stripes rows store_all
  moved_follow [] j h e u a = (follows_nil p g_m.hd u, subst (λ (x : ℕ). MovedAt p r g_m.hd v w n wl w_lies (suc x) 0 u) (let q : j ≡ length cs = omega (arith, e) in q) a)
  moved_follow (s ∷ ss) j h e u a =
      let q : s ≡ get_or cs j 0 = h 0 (omega arith) ∙ ap (λ (x : ℕ). get_or cs x 0) (let q : j + 0 ≡ j = omega arith in q) in
      let jl : j < length cs = omega (arith, e) in
      let hs : Has s cs = subst (λ (x : ℕ). Has x cs) (sym q) (get_d_has cs j 0 jl) in
      let one : Follows p g_m.hd u (moved_stripe p G w s j) (list (row (suc j)) 0 p.N) × MovedAt p r g_m.hd v w n wl w_lies (suc (suc j)) 0 (store_all store_view_of (moved_stripe p G w s j) u) =
      stripe_follow s j hs (omega (arith, jl, plan_few p r off g v mu k o i)) q u a in
      let more : Follows p g_m.hd (store_all store_view_of (moved_stripe p G w s j) u) (moved_stripes p G w ss (suc j)) (rows row p.N (suc (suc j)) (length ss))
      × MovedAt p r g_m.hd v w n wl w_lies (suc (length cs)) 0 (store_all store_view_of (moved_stripes p G w ss (suc j)) (store_all store_view_of (moved_stripe p G w s j) u)) =
      moved_follow ss (suc j) (λ t l. h (suc t) (omega arith) ∙ ap (λ (x : ℕ). get_or cs x 0) (let q : j + suc t ≡ suc j + t = omega arith in q))
      (omega (arith, e)) (store_all store_view_of (moved_stripe p G w s j) u) one.1 in (
        follows_append p g_m.hd u (moved_stripe p G w s j) (moved_stripes p G w ss (suc j)) (list (row (suc j)) 0 p.N) (rows row p.N (suc (suc j)) (length ss)) one.0 more.0,
        subst (MovedAt p r g_m.hd v w n wl w_lies (suc (length cs)) 0) (sym (store_all-append store_view_of (moved_stripe p G w s j) (moved_stripes p G w ss (suc j)) u)) more.1,
      )

  -- ---- the rewrite
  resets_follow' : (u : View) → Follows p g_m.hd u (reset_stores p G.seg) (drops (par_of p r off) g_m n (name_of p v 0 o) π)
  unfolding drops drives_of below
  resets_follow' u = subst (λ (x : Seg). Follows p g_m.hd u (reset_stores p x) (list (λ d. m-reset d (name_of p v 0 o)) 0 p.N)) (sym (seg_is p v 0 o))
      (subst (Follows p g_m.hd u (reset_stores p o)) (sym (list-map (λ d. m-reset d (name_of p v 0 o)) 0 p.N))
      (reset_follows p g_m.hd o (name_of p v 0 o) (λ d l. (moved_ob.low d l (far_off p r off g v mu k d l), o_lies d l)) u))

  pub rewrite_follows : Follows p g_m.hd v (rewrite_stores p G w n) (copies (par_of p r off) g_m n (name_of p v 0 o) π ++ drops (par_of p r off) g_m n (name_of p v 0 o) π)
  unfolding rewrite_stores copies rows
  rewrite_follows =
      let a : Follows p g_m.hd v (header_stores p w n G.serial) (list (row 0) 0 p.N) × MovedAt p r g_m.hd v w n wl w_lies 1 0 (store_all store_view_of (header_stores p w n G.serial) v) =
      moved-headers_follow in
      let v₁ : View = store_all store_view_of (header_stores p w n G.serial) v in
      let b : Follows p g_m.hd v₁ (moved_stripes p G w (counted p 0 G) 0) (rows row p.N 1 (length cs)) = moved? v₁ a.1 in
      follows_append p g_m.hd v (header_stores p w n G.serial ++ moved_stripes p G w (counted p 0 G) 0) (reset_stores p G.seg)
      (list (row 0) 0 p.N ++ rows row p.N 1 (length cs)) (drops (par_of p r off) g_m n (name_of p v 0 o) π)
      (follows_append p g_m.hd v (header_stores p w n G.serial) (moved_stripes p G w (counted p 0 G) 0) (list (row 0) 0 p.N) (rows row p.N 1 (length cs)) a.0 b)
      (resets_follow' (store_all store_view_of (header_stores p w n G.serial ++ moved_stripes p G w (counted p 0 G) 0) v))
    where
      moved? : (u : View) → MovedAt p r g_m.hd v w n wl w_lies 1 0 u → Follows p g_m.hd u (moved_stripes p G w (counted p 0 G) 0) (rows row p.N 1 (length cs))
      moved? u a = (moved_follow cs 0 (λ t l. ap (λ (x : ℕ). get_or cs x 0) (let q : t ≡ 0 + t = omega arith in q)) (omega arith) u a).0
