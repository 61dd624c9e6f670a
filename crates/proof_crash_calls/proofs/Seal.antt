-- Footers on every drive of a segment whose stripes are all complete, and the sealing. Assumes nothing.
use Rattle.std.specs.Prelude.{◌≡◌, Bool, ◌≢◌, get_or, take, drop, set}
use Rattle.std.proofs.Math.Path.{refl, ap, ap₂, subst}
use Rattle.std.proofs.Common.{sym, ◌∙◌, inl}
use mathlib.Core.List.{List, [], ◌∷◌, ◌++◌, map}
use Prim.Native.Nat.{ℕ, zero, suc, ◌+◌, ◌-◌, ◌<◌}
use Rattle.std.proofs.Math.Decide.{dec_lt, ℕ_discrete}
use native.Mathlib.Omega.{arith}
use Rattle.std.proofs.Math.ListN.{length}
use Rattle.std.proofs.lemmas.List.{take-set-le, drop-set-add}
use Rattle.spec.specs.declared.Params.{Params}
use Rattle.spec.specs.Drives.{mk_chunk, Zone, View, zone_at, pointer_at, Store, put_zone, store_view_of, store_all, zone_on, spares_of, footers_of, zero_spare, footer_stores}
use Rattle.spec.specs.Drives.Store.{put}
use Rattle.spec.specs.Landing.{seal_stores}
use Rattle.spec.specs.Layout.{footer_block}
use Rattle.spec.specs.Lists.{up_from, below, flat}
use Rattle.spec.specs.Params.{footers, capacity, drives_of}
use Rattle.law_basic.specs.Geometry.{Ranged}
use Rattle.law_basic.specs.Stores.{store_all-append}
use Rattle.law_views.specs.Views.{Fits}
use Rattle.law_drives.specs.Counting.{pigeon}
use Rattle.proof_crash_machine.specs.Facts.{Par, Ghost, Off, ZoneItems}
use Rattle.proof_crash_machine.specs.History.{State as m-State}
use Rattle.proof_crash_machine.specs.History.Mode.{run}
use Rattle.proof_crash_machine.specs.History.Step.{footer as m-footer}
use Rattle.proof_crash_machine.specs.Memory.{Mem}
use Rattle.proof_crash_machine.specs.Order.{Track}
use Rattle.proof_crash_machine.specs.Put.{in_fwd, length-snoc, drive_other}
use Rattle.proof_crash_machine.specs.Rebuild.{in_off}
use Rattle.proof_crash_machine.specs.Val.{Val}
use Rattle.proof_crash_machine.specs.View.{Item, ItemView, ItemStore, AllS, with_item, upd_same, apply, apply_all, InI, chunk_num, chunk_hdr}
use Rattle.proof_crash_items.specs.Places.{place_store, store_seg}
use Rattle.proof_crash_machine.specs.Steps.{apply_all-append}
use Rattle.proof_crash_machine.specs.View.Item.{chunk, foot}
use Rattle.proof_crash_machine.specs.View.ItemStore.{put as m-put}
use Rattle.proof_crash_items.specs.Items.{item_at, item_foot, store_item}
use Rattle.proof_crash_items.specs.Ranges.{par_of}
use Rattle.proof_crash_items.specs.Shape.{Shape, zone_set_at, zone_set_else, shape_store}
use Rattle.proof_crash_items.specs.Sound.{Sound, sound_fits, sound_put}
use Rattle.proof_crash_items.specs.ZoneBytes.{spares_in, Kind}
use Rattle.proof_crash_items.specs.ZoneBytes.Kind.{footer}
use Rattle.proof_crash_calls.specs.Go.{mst, Go, go_step, Chain, chain_append}
use Rattle.proof_crash_calls.specs.Held.{Grown}
use Rattle.proof_crash_calls.proofs.Held.{grown_same, grown_then, grown_put}
use Rattle.spec.specs.declared.Seg.{Seg}

-- a footer changes no spare
pub spares_kept : (p : Params) (q : Zone) (b t : List ℕ) (j : ℕ) → q.pointer ≡ suc (p.S + j) → spares_in p (put_zone b t q) ≡ spares_in p q
unfolding put_zone
spares_kept p q b t j e = ap spares_of (
    ap (take p.S) (ap (λ (n : ℕ). drop 1 (set q.blocks n (mk_chunk b t))) (e ∙ (let i : suc (p.S + j) ≡ 1 + (p.S + j) = omega arith in i))
    ∙ drop-set-add 1 q.blocks (p.S + j) (mk_chunk b t))
    ∙ take-set-le p.S (drop 1 q.blocks) (p.S + j) (mk_chunk b t) (omega arith))

-- a zone with every stripe has S data blocks
abbrev pub chosen : (n : ℕ) → ((s : ℕ) → s < n → ℕ) → (s : ℕ) → Dec (s < n) → ℕ
chosen n f s (yes b) = f s b
chosen n f s (no b) = 0

module _ (P : Par) (g : Ghost) (d z : ℕ) (l : List Item) (f : ZoneItems P g d z l) (begun : 0 < length l) (on : (s : ℕ) → s < P.S → (x : Val) × InI (chunk s x) l) where
  past_header : (s : ℕ) (x : Val) (k : ℕ) → Off l k (chunk s x) → (k : ℕ) × Off l (suc k) (chunk s x)
  past_header s x zero o = absurd (chunk_hdr (sym o.1 ∙ f.head begun))
  past_header s x (suc k) o = (k, o)

  find_chunk : (s : ℕ) (b : s < P.S) → (k : ℕ) × Off l (suc k) (chunk s (on s b).0)
  find_chunk s b = let o : (k : ℕ) × Off l k (chunk s (on s b).0) = in_off (chunk s (on s b).0) l (on s b).1 in past_header s (on s b).0 o.0 o.1

  abbrev at : ℕ → ℕ
  at s = chosen P.S (λ s b. (find_chunk s b).0) s (dec_lt s P.S)

  stripe_offset : (s : ℕ) → s < P.S → (x : Val) × Off l (suc (at s)) (chunk s x)
  stripe_offset s b = go (dec_lt s P.S)
    where
      go : (q : Dec (s < P.S)) → (x : Val) × Off l (suc (chosen P.S (λ s b. (find_chunk s b).0) s q)) (chunk s x)
      go (yes k) = ((on s k).0, (find_chunk s k).1)
      go (no k) = absurd (k b)

  pub all_stripes : P.S < length l
  all_stripes = omega (
    arith,
    begun,
    pigeon P.S (length l - 1) at (λ s b. omega (arith, (stripe_offset s b).1.0))
        (λ s t a b e. chunk_num (sym (stripe_offset s a).1.1 ∙ ap (λ (k : ℕ). get_or l (suc k) (foot 0)) e ∙ (stripe_offset t b).1.1)),
  )

-- ---- by segment: the footers of segment n

unfoldable pub seal_items : Params → ℕ → List ItemStore
seal_items p n = flat (λ x. map (λ (i : ℕ). m-put x n (foot i)) (up_from 0 (footers p))) (up_from 0 p.N)

pub seal_segs : (p : Params) (n : ℕ) (A : ℕ → Type 0) → A n → AllS (λ (x : ItemStore). A (store_seg x)) (seal_items p n)
unfolding seal_items store_seg up_from flat
seal_segs p n A k = rows p.N 0
  where
    both : (xs ys : List ItemStore) → AllS (λ (x : ItemStore). A (store_seg x)) xs → AllS (λ (x : ItemStore). A (store_seg x)) ys → AllS (λ (x : ItemStore). A (store_seg x)) (xs ++ ys)
    both [] ys a b = b
    both (x ∷ xs) ys a b = (a.0, both xs ys a.1 b)

    row : (e m j : ℕ) → AllS (λ (x : ItemStore). A (store_seg x)) (map (λ (i : ℕ). m-put e n (foot i)) (up_from j m))
    row e zero j = tt
    row e (suc m) j = (k, row e m (suc j))

    rows : (m e : ℕ) → AllS (λ (x : ItemStore). A (store_seg x)) (flat (λ x. map (λ (i : ℕ). m-put x n (foot i)) (up_from 0 (footers p))) (up_from e m))
    rows zero e = tt
    rows (suc m) e = both (map (λ (i : ℕ). m-put e n (foot i)) (up_from 0 (footers p)))
        (flat (λ x. map (λ (i : ℕ). m-put x n (foot i)) (up_from 0 (footers p))) (up_from (suc e) m)) (row e (footers p) 0) (rows m (suc e))

-- ---- the footers

-- n: the segment's name; w₀, u₀: the drives before, and as the machine sees them
module _ (p : Params) (h : Ranged p) (off : List ℕ) (n : ℕ) (z : Seg) (low : (x : ℕ) → x < p.N → zone_on z x < p.Z) (w₀ : View) (u₀ : ItemView)
    (at₀ : (x : ℕ) → x < p.N → pointer_at w₀ x (zone_on z x) ≡ suc p.S) (len₀ : (x : ℕ) → x < p.N → length (u₀ x n) ≡ suc p.S)
    (on₀ : (x : ℕ) → x < p.N → (s : ℕ) → s < p.S → (y : Val) × InI (chunk s y) (u₀ x n)) where
  -- drives below e have their footers, e has j of them, the others are as before
  pub record Footed (e j : ℕ) (v : View) (u : ItemView) : Type 0 where
    pub shape : Shape p v
    pub full : (x : ℕ) → x < e → length (u x n) ≡ capacity p
    pub to : e < p.N → pointer_at v e (zone_on z e) ≡ suc (p.S + j)
    pub len : e < p.N → length (u e n) ≡ suc (p.S + j)
    pub spares : e < p.N → spares_in p (zone_at v e (zone_on z e)) ≡ spares_in p (zone_at w₀ e (zone_on z e))
    pub has : e < p.N → (s : ℕ) → s < p.S → (y : Val) × InI (chunk s y) (u e n)
    pub later : (x : ℕ) → e < x → x < p.N → zone_at v x (zone_on z x) ≡ zone_at w₀ x (zone_on z x)
    pub rest : (x : ℕ) → e < x → x < p.N → u x n ≡ u₀ x n
    pub grew : Grown (par_of p h off) u₀ u

  abbrev foot_put : ℕ → ℕ → Store
  foot_put e j = put e (zone_on z e) (footer_block p (spares_in p (zone_at w₀ e (zone_on z e))) j) zero_spare

  abbrev foot_item_holds : ℕ → ℕ → ItemStore
  foot_item_holds e j = m-put e n (foot j)

  pub footed_start : Shape p w₀ → Footed 0 0 w₀ u₀
  footed_start sh = record {
    shape = sh;
    full = λ x l. absurd (let k : ⊥ = omega arith in k);
    to = λ l. at₀ 0 l ∙ (let k : suc p.S ≡ suc (p.S + 0) = omega arith in k);
    len = λ l. len₀ 0 l ∙ (let k : suc p.S ≡ suc (p.S + 0) = omega arith in k);
    spares = λ l. refl;
    has = λ l. on₀ 0 l;
    later = λ x a l. refl;
    rest = λ x a l. refl;
    grew = grown_same (par_of p h off) u₀;
  }

  -- the next drive
  pub footed_next : (e : ℕ) (v : View) (u : ItemView) → e < p.N → Footed e (footers p) v u → Footed (suc e) 0 v u
  footed_next e v u el f = record {
    shape = f.shape;
    full = λ x l. full x (ℕ_discrete x e) l;
    to = λ l. next_ptr l ∙ (let k : suc p.S ≡ suc (p.S + 0) = omega arith in k);
    len = λ l. ap length (f.rest (suc e) (omega arith) l) ∙ len₀ (suc e) l ∙ (let k : suc p.S ≡ suc (p.S + 0) = omega arith in k);
    spares = λ l. ap (spares_in p) (f.later (suc e) (omega arith) l);
    has = λ l s b. subst (λ (x : List Item). (y : Val) × InI (chunk s y) x) (sym (f.rest (suc e) (omega arith) l)) (on₀ (suc e) l s b);
    later = λ x a l. f.later x (omega arith) l;
    rest = λ x a l. f.rest x (omega arith) l;
    grew = f.grew;
  }
    where
      next_ptr : suc e < p.N → pointer_at v (suc e) (zone_on z (suc e)) ≡ suc p.S
      next_ptr l =
          let k : pointer_at v (suc e) (zone_on z (suc e)) ≡ pointer_at w₀ (suc e) (zone_on z (suc e)) = unfold pointer_at in ap (λ (q : Zone). q.pointer) (f.later (suc e) (omega arith) l) in
          k ∙ at₀ (suc e) l

      full : (x : ℕ) → Dec (x ≡ e) → x < suc e → length (u x n) ≡ capacity p
      full x (yes q) l = ap (λ (y : ℕ). length (u y n)) q ∙ f.len el ∙ (let k : suc (p.S + footers p) ≡ capacity p = unfold capacity in omega arith in k)
      full x (no q) l = f.full x (omega arith)

  module _ (g : Ghost) (lies : (x : ℕ) → x < p.N → zone_on z x ≡ g.hd.zn n x) (a : List Val) (c : Bool) (M : Mem) where
    abbrev σ : ItemView → m-State
    σ u = mst g u a c (run M)

    module _ (e j : ℕ) (v : View) (u : ItemView) (el : e < p.N) (jl : j < footers p) (f : Footed e j v u) where
      abbrev b : List ℕ
      b = footer_block p (spares_in p (zone_at w₀ e (zone_on z e))) j

      abbrev q : Zone
      q = zone_at v e (zone_on z e)

      abbrev u' : ItemView
      u' = with_item u e n (foot j)

      ptr : q.pointer ≡ suc (p.S + j)
      ptr = unfold pointer_at in f.to el

      seal_foot_kind : Kind p e (zone_at v e (zone_on z e)) (footer_block p (spares_in p (zone_at w₀ e (zone_on z e))) j) zero_spare
      seal_foot_kind = subst (λ (ss : List (List ℕ)). Kind p e (zone_at v e (zone_on z e)) (footer_block p ss j) zero_spare) (f.spares el) (footer j ptr jl)

      pub foot_sound : Sound p v (foot_put e j)
      foot_sound = sound_put p v e z b zero_spare el (low e el) seal_foot_kind

      fits : Fits p v (foot_put e j)
      fits = sound_fits p h v (foot_put e j) f.shape foot_sound

      pub foot_item : store_item p v (foot_put e j) ≡ place_store g.hd (foot_item_holds e j)
      foot_item = (unfold store_item pointer_at place_store in ap₂ (λ (x : ℕ) (t : Item). m-put e x t) (lies e el) at)
        where
          at : item_at p (zone_at v e (zone_on z e)).pointer (mk_chunk (footer_block p (spares_in p (zone_at w₀ e (zone_on z e))) j) zero_spare) ≡ foot j
          at = ap (λ (n : ℕ). item_at p n (mk_chunk (footer_block p (spares_in p (zone_at w₀ e (zone_on z e))) j) zero_spare)) ptr
              ∙ item_foot p (p.S + j) (mk_chunk (footer_block p (spares_in p (zone_at w₀ e (zone_on z e))) j) zero_spare) (omega arith) ∙ ap foot (let k : p.S + j - p.S ≡ j = omega arith in k)

      pub foot_go : (T : Track) → Go (par_of p h off) (mst g u a c (run M)) (mst g (apply u (foot_item_holds e j)) a c (run M)) T T
      unfolding apply
      foot_go T = go_step (par_of p h off) (σ u) (mst g (with_item u e n (foot j)) a c (run M)) T
          (m-footer (σ u) M e n j refl el (omega (arith, f.len el)) (unfold capacity in omega (arith, f.len el, jl)) (f.has el))

      now : zone_at (store_view_of (foot_put e j) v) e (zone_on z e) ≡ put_zone b zero_spare q
      now = unfold store_view_of in zone_set_at p v f.shape e (zone_on z e) (put_zone b zero_spare (zone_at v e (zone_on z e))) el (low e el)

      foot_zone_other : (x : ℕ) → x ≢ e → zone_at (store_view_of (foot_put e j) v) x (zone_on z x) ≡ zone_at v x (zone_on z x)
      foot_zone_other x d = unfold store_view_of in zone_set_else p v f.shape e (zone_on z e) (put_zone b zero_spare (zone_at v e (zone_on z e))) el x (zone_on z x) (inl d)

      longer : length (u' e n) ≡ suc (p.S + suc j)
      longer = unfold with_item in (ap length (upd_same u e n (u e n ++ (foot j ∷ []))) ∙ length-snoc (u e n) (foot j) ∙ ap suc (f.len el)
          ∙ (let k : suc (suc (p.S + j)) ≡ suc (p.S + suc j) = omega arith in k))

      pub foot_next : Footed e (suc j) (store_view_of (foot_put e j) v) (apply u (foot_item_holds e j))
      unfolding apply
      foot_next = record {
        shape = shape_store p v (foot_put e j) f.shape fits;
        full = λ x l. ap length (drive_other u e n (foot j) x n (let d : x ≢ e = omega arith in d)) ∙ f.full x l;
        to = λ l. unfold pointer_at in (ap (λ (y : Zone). y.pointer) now ∙ (unfold put_zone in (ap suc ptr ∙ (let k : suc (suc (p.S + j)) ≡ suc (p.S + suc j) = omega arith in k))));
        len = λ l. longer;
        spares = λ l. ap (spares_in p) now ∙ spares_kept p q b zero_spare j ptr ∙ f.spares l;
        has = λ l s k. let w : (y : Val) × InI (chunk s y) (u e n) = f.has l s k in (w.0, in_fwd u e n (foot j) (chunk s w.0) e n w.1);
        later = λ x l k. foot_zone_other x (let d : x ≢ e = omega arith in d) ∙ f.later x l k;
        rest = λ x l k. drive_other u e n (foot j) x n (let d : x ≢ e = omega arith in d) ∙ f.rest x l k;
        grew = grown_then (par_of p h off) u₀ u u' f.grew (grown_put (par_of p h off) u e n (foot j) (omega (arith, f.len el)));
      }

    -- the footers of one drive
    abbrev foot_row : ℕ → ℕ → ℕ → List Store
    foot_row e j k = map (λ (b : List ℕ). put e (zone_on z e) b zero_spare) (map (footer_block p (spares_in p (zone_at w₀ e (zone_on z e)))) (up_from j k))

    abbrev item_row : ℕ → ℕ → ℕ → List ItemStore
    item_row e j k = map (λ (i : ℕ). m-put e n (foot i)) (up_from j k)

    row_chain : (k e j : ℕ) (v : View) (u : ItemView) → e < p.N → j + k ≡ footers p → Footed e j v u → Chain p h off g a c (run M) v u (foot_row e j k) (item_row e j k)
        × Footed e (footers p) (store_all store_view_of (foot_row e j k) v) (apply_all u (item_row e j k))
    unfolding up_from store_all apply_all
    row_chain zero e j v u el q f = (tt, subst (λ (k : ℕ). Footed e k v u) (let k : j ≡ footers p = omega arith in k) f)
    row_chain (suc k) e j v u el q f =
        let jl : j < footers p = omega arith in
        let r : Chain p h off g a c (run M) (store_view_of (foot_put e j) v) (apply u (foot_item_holds e j)) (foot_row e (suc j) k) (item_row e (suc j) k)
        × Footed e (footers p) (store_all store_view_of (foot_row e (suc j) k) (store_view_of (foot_put e j) v)) (apply_all (apply u (foot_item_holds e j)) (item_row e (suc j) k)) =
        row_chain k e (suc j) (store_view_of (foot_put e j) v) (apply u (foot_item_holds e j)) el (omega arith) (foot_next e j v u el jl f) in
        ((foot_sound e j v u el jl f, foot_item e j v u el jl f, foot_go e j v u el jl f, r.0), r.1)

    drives_chain : (k e : ℕ) (v : View) (u : ItemView) → e + k ≡ p.N → Footed e 0 v u
        → Chain p h off g a c (run M) v u (flat (λ x. foot_row x 0 (footers p)) (up_from e k)) (flat (λ x. item_row x 0 (footers p)) (up_from e k))
        × Footed p.N 0 (store_all store_view_of (flat (λ x. foot_row x 0 (footers p)) (up_from e k)) v) (apply_all u (flat (λ x. item_row x 0 (footers p)) (up_from e k)))
    unfolding up_from flat
    drives_chain zero e v u q f = unfold store_all apply_all in (tt, subst (λ (k : ℕ). Footed k 0 v u) (let k : e ≡ p.N = omega arith in k) f)
    drives_chain (suc k) e v u q f =
        let el : e < p.N = omega arith in
        let fs : List Store = foot_row e 0 (footers p) in
        let ms : List ItemStore = item_row e 0 (footers p) in
        let r : Chain p h off g a c (run M) v u fs ms × Footed e (footers p) (store_all store_view_of fs v) (apply_all u ms) = row_chain (footers p) e 0 v u el (omega arith) f in
        let w : Chain p h off g a c (run M) (store_all store_view_of fs v) (apply_all u ms) (flat (λ x. foot_row x 0 (footers p)) (up_from (suc e) k))
        (flat (λ x. item_row x 0 (footers p)) (up_from (suc e) k))
        × Footed p.N 0 (store_all store_view_of (flat (λ x. foot_row x 0 (footers p)) (up_from (suc e) k)) (store_all store_view_of fs v))
        (apply_all (apply_all u ms) (flat (λ x. item_row x 0 (footers p)) (up_from (suc e) k))) =
        drives_chain k (suc e) (store_all store_view_of fs v) (apply_all u ms) (omega arith) (footed_next e (store_all store_view_of fs v) (apply_all u ms) el r.1) in (
          chain_append p h off g a c (run M) v u fs (flat (λ x. foot_row x 0 (footers p)) (up_from (suc e) k)) ms (flat (λ x. item_row x 0 (footers p)) (up_from (suc e) k)) r.0 w.0,
          subst (Footed p.N 0 (store_all store_view_of (fs ++ flat (λ x. foot_row x 0 (footers p)) (up_from (suc e) k)) v))
              (sym (apply_all-append u ms (flat (λ x. item_row x 0 (footers p)) (up_from (suc e) k))))
              (subst (λ (x : View). Footed p.N 0 x (apply_all (apply_all u ms) (flat (λ x. item_row x 0 (footers p)) (up_from (suc e) k))))
              (sym (store_all-append store_view_of fs (flat (λ x. foot_row x 0 (footers p)) (up_from (suc e) k)) v)) w.1),
        )

    -- the stores of a sealing
    pub seal_chain : Shape p w₀ → Chain p h off g a c (run M) w₀ u₀ (seal_stores p w₀ z) (seal_items p n)
        × Footed p.N 0 (store_all store_view_of (seal_stores p w₀ z) w₀) (apply_all u₀ (seal_items p n))
    unfolding seal_stores footer_stores footers_of drives_of below seal_items
    seal_chain sh = drives_chain p.N 0 w₀ u₀ (omega arith) (footed_start sh)
