-- The drives as lists of stored items, by drive and zone. A store on the view is the store on the items, for every prefix. Assumes nothing.
use Rattle.std.specs.Prelude.{◌≡◌, List, [], ◌∷◌, ◌++◌, cond, ltb, length, take}
use Rattle.std.proofs.Math.Path.{refl, sym, ap₂}
use Rattle.std.proofs.Common.{ap, ◌∙◌, lt-ltb, le-ltb, get_or-take, take-suc-set}
use Prim.Native.Nat.{ℕ, zero, suc, ◌+◌, ◌-◌, ◌≤◌, ◌<◌}
use Rattle.std.proofs.Math.Decide.{dec_lt}
use native.Mathlib.Omega.{arith}
use Rattle.std.proofs.Math.ListN.{get_or}
use Rattle.std.proofs.Math.Seq.{length-take-le}
use Rattle.spec.specs.declared.Params.{Params}
use Rattle.spec.specs.Drives.{Chunk, mk_chunk, no_chunk, Zone, stored, View, zone_at, pointer_at, Store, put_zone, reset_zone, set_zone, store_view_of, store_all}
use Rattle.spec.specs.Drives.Store.{put, reset}
use Rattle.spec.specs.Layout.{header_zones, header_serial, header_copied, Rec, record_of_of}
use Rattle.spec.specs.Params.{capacity}
use Rattle.law_views.specs.Views.{Fits, AllFit}
use Rattle.law_drives.specs.Tests.{cond_true, cond_false}
use Rattle.proof_crash_machine.specs.Facts.{Off}
use Rattle.proof_crash_machine.specs.Val.{Val}
use Rattle.proof_crash_machine.specs.View.{Item, ItemView, ItemStore, upd, upd_elim, with_item, emptied_at, apply, apply_all, chunk_val, chunk_num, chunk_hdr, chunk_foot}
use Rattle.proof_crash_items.specs.Shape.{Shape, zone_set_at, zone_set_else, shape_store}
use Rattle.proof_crash_machine.specs.View.Item.{hdr, chunk, foot}
use Rattle.proof_crash_machine.specs.View.ItemStore.{put as m-put, reset as m-reset}

-- ---- what a block is, by its offset

unfoldable pub value_of : List ℕ → Rec → Val
value_of b r = record { addr = r.address; stamp = r.stamp; blk = λ i. get_or b i 0 }

unfoldable pub chunk_item : Chunk → Item
chunk_item c = chunk (record_of_of c.spare).stripe (value_of c.block (record_of_of c.spare))

-- the zones that a header names, by drive; 0 beyond the drives
unfoldable pub named_zones : Params → List ℕ → ℕ → ℕ
named_zones p b d = get_or (header_zones p b) d 0

-- block 0 is the header, 1 to S are data, then footers
unfoldable pub item_at : Params → ℕ → Chunk → Item
item_at p zero c = hdr (header_serial p c.block) (header_copied p c.block) (named_zones p c.block)
item_at p (suc k) c = cond (ltb k p.S) (chunk_item c) (foot (k - p.S))

-- blocks k, k + 1, ..
unfoldable pub items_from : Params → ℕ → List Chunk → List Item
items_from p k [] = []
items_from p k (c ∷ cs) = item_at p k c ∷ items_from p (suc k) cs

unfoldable pub items_of : Params → Zone → List Item
items_of p q = items_from p 0 (stored q)

-- the drives, by drive and zone
unfoldable pub items_in : Params → View → ItemView
items_in p v d z = items_of p (zone_at v d z)

-- ---- lists of items

pub item_data : (p : Params) (k : ℕ) (c : Chunk) → k < p.S → item_at p (suc k) c ≡ chunk_item c
unfolding item_at
item_data p k c l = cond_true (ltb k p.S) (chunk_item c) (foot (k - p.S)) (lt-ltb k p.S l)

pub item_foot : (p : Params) (k : ℕ) (c : Chunk) → p.S ≤ k → item_at p (suc k) c ≡ foot (k - p.S)
unfolding item_at
item_foot p k c l = cond_false (ltb k p.S) (chunk_item c) (foot (k - p.S)) (le-ltb k p.S l)

pub length_items : (p : Params) (k : ℕ) (cs : List Chunk) → length (items_from p k cs) ≡ length cs
unfolding items_from
length_items p k [] = refl
length_items p k (c ∷ cs) = ap suc (length_items p (suc k) cs)

pub get_d_items : (p : Params) (i : ℕ) (cs : List Chunk) (k : ℕ) → k < length cs → get_or (items_from p i cs) k (foot 0) ≡ item_at p (i + k) (get_or cs k no_chunk)
unfolding items_from
get_d_items p i [] k l = absurd (let q : ⊥ = omega arith in q)
get_d_items p i (c ∷ cs) zero l = ap (λ (n : ℕ). item_at p n c) (let e : i ≡ i + 0 = omega arith in e)
get_d_items p i (c ∷ cs) (suc k) l =
    get_d_items p (suc i) cs k (omega arith) ∙ ap (λ (n : ℕ). item_at p n (get_or cs k no_chunk)) (let e : suc i + k ≡ i + suc k = omega arith in e)

pub items_snoc : (p : Params) (i : ℕ) (cs : List Chunk) (c : Chunk) → items_from p i (cs ++ (c ∷ [])) ≡ items_from p i cs ++ (item_at p (i + length cs) c ∷ [])
unfolding items_from
items_snoc p i [] c = ap (λ (n : ℕ). item_at p n c ∷ []) (let e : i ≡ i + 0 = omega arith in e)
items_snoc p i (d ∷ cs) c =
    ap (λ (l : List Item). item_at p i d ∷ l) (items_snoc p (suc i) cs c
    ∙ ap (λ (n : ℕ). items_from p (suc i) cs ++ (item_at p n c ∷ [])) (let e : suc i + length cs ≡ i + suc (length cs) = omega arith in e))

-- ---- a zone whose pointer is at most its number of blocks

module _ (p : Params) (q : Zone) (low : q.pointer ≤ length q.blocks) where
  pub length-stored : length (stored q) ≡ q.pointer
  unfolding stored
  length-stored = length-take-le q.pointer q.blocks low

  pub length_of : length (items_of p q) ≡ q.pointer
  unfolding items_of
  length_of = length_items p 0 (stored q) ∙ length-stored

  pub get_d_of : (k : ℕ) → k < q.pointer → get_or (items_of p q) k (foot 0) ≡ item_at p k (get_or q.blocks k no_chunk)
  unfolding items_of stored
  get_d_of k l =
      get_d_items p 0 (take q.pointer q.blocks) k (omega (arith, length-take-le q.pointer q.blocks low))
      ∙ ap₂ (item_at p) (let e : 0 + k ≡ k = omega arith in e) (get_or-take q.pointer q.blocks k no_chunk l)

  pub off_of : (k : ℕ) (i : Item) → k < q.pointer → item_at p k (get_or q.blocks k no_chunk) ≡ i → Off (items_of p q) k i
  off_of k i l e = (omega (arith, l, length_of), get_d_of k l ∙ e)

  pub of_off : (k : ℕ) (i : Item) → Off (items_of p q) k i → (k < q.pointer) × (item_at p k (get_or q.blocks k no_chunk) ≡ i)
  of_off k i o = let l : k < q.pointer = omega (arith, o.0, length_of) in (l, sym (get_d_of k l) ∙ o.1)

  -- a chunk is at a data offset
  pub of_chunk : (k s : ℕ) (x : Val) → Off (items_of p q) k (chunk s x) → (o : ℕ) × (k ≡ suc o) × (o < p.S) × (suc o < q.pointer)
      × ((record_of_of (get_or q.blocks (suc o) no_chunk).spare).stripe ≡ s)
      × (value_of (get_or q.blocks (suc o) no_chunk).block (record_of_of (get_or q.blocks (suc o) no_chunk).spare) ≡ x)
  unfolding item_at
  of_chunk zero s x o = absurd (chunk_hdr (sym (of_off zero (chunk s x) o).1))
  of_chunk (suc k) s x o = go (dec_lt k p.S) (of_off (suc k) (chunk s x) o)
    where
      c : Chunk
      c = get_or q.blocks (suc k) no_chunk

      go : Dec (k < p.S) → (suc k < q.pointer) × (item_at p (suc k) (get_or q.blocks (suc k) no_chunk) ≡ chunk s x)
          → (o : ℕ) × (suc k ≡ suc o) × (o < p.S) × (suc o < q.pointer)
          × ((record_of_of (get_or q.blocks (suc o) no_chunk).spare).stripe ≡ s)
          × (value_of (get_or q.blocks (suc o) no_chunk).block (record_of_of (get_or q.blocks (suc o) no_chunk).spare) ≡ x)
      go (yes l) (b, e) = unfold chunk_item in
          let e' : chunk (record_of_of (get_or q.blocks (suc k) no_chunk).spare).stripe
          (value_of (get_or q.blocks (suc k) no_chunk).block (record_of_of (get_or q.blocks (suc k) no_chunk).spare))
          ≡ chunk s x =
          sym (item_data p k (get_or q.blocks (suc k) no_chunk) l) ∙ e in
          (k, refl, l, b, chunk_num e', chunk_val e')
      go (no l) (b, e) = absurd (chunk_foot (sym e ∙ item_foot p k (get_or q.blocks (suc k) no_chunk) (omega arith)))

  pub chunk_of_lem : (o : ℕ) → o < p.S → suc o < q.pointer → Off (items_of p q) (suc o) (chunk_item (get_or q.blocks (suc o) no_chunk))
  chunk_of_lem o l b = off_of (suc o) (chunk_item (get_or q.blocks (suc o) no_chunk)) b (item_data p o (get_or q.blocks (suc o) no_chunk) l)

-- ---- a store on the zone

pub items_put_zone : (p : Params) (q : Zone) (b s : List ℕ) → q.pointer < length q.blocks
    → items_of p (put_zone b s q) ≡ items_of p q ++ (item_at p q.pointer (mk_chunk b s) ∷ [])
unfolding items_of stored put_zone
items_put_zone p q b s l =
    ap (items_from p 0) (take-suc-set q.blocks q.pointer (mk_chunk b s) l)
    ∙ items_snoc p 0 (take q.pointer q.blocks) (mk_chunk b s)
    ∙ ap (λ (n : ℕ). items_from p 0 (take q.pointer q.blocks) ++ (item_at p n (mk_chunk b s) ∷ []))
    (let e : 0 + length (take q.pointer q.blocks) ≡ q.pointer = omega (arith, length-take-le q.pointer q.blocks (let w : q.pointer ≤ length q.blocks = omega arith in w)) in e)

pub items_reset_zone : (p : Params) (q : Zone) → items_of p (reset_zone q) ≡ []
unfolding items_of stored reset_zone items_from
items_reset_zone p q = refl

-- ---- a store on the view: it changes its zone, and no other

pub items_put : (p : Params) (v : View) → Shape p v → (d z : ℕ) (b s : List ℕ) → d < p.N → z < p.Z → pointer_at v d z < capacity p
    → items_in p (store_view_of (put d z b s) v) ≡ with_item (items_in p v) d z (item_at p (pointer_at v d z) (mk_chunk b s))
unfolding store_view_of with_item items_in pointer_at
items_put p v h d z b s l k r = λ j e n. go e n j
  where
    new : List Item
    new = items_of p (zone_at v d z) ++ (item_at p (zone_at v d z).pointer (mk_chunk b s) ∷ [])

    go : (e n : ℕ) → items_of p (zone_at (set_zone v d z (put_zone b s (zone_at v d z))) e n) ≡ upd (items_in p v) d z new e n
    go e n = upd_elim (λ (i : List Item). items_of p (zone_at (set_zone v d z (put_zone b s (zone_at v d z))) e n) ≡ i) (items_in p v) d z new e n
        (λ a c. ap (items_of p) (ap₂ (zone_at (set_zone v d z (put_zone b s (zone_at v d z)))) a c ∙ zone_set_at p v h d z (put_zone b s (zone_at v d z)) l k)
        ∙ items_put_zone p (zone_at v d z) b s (omega (arith, r, h.blocks d z l k)))
        (λ w. ap (items_of p) (zone_set_else p v h d z (put_zone b s (zone_at v d z)) l e n w))

pub items_reset : (p : Params) (v : View) → Shape p v → (d z : ℕ) → d < p.N → z < p.Z → items_in p (store_view_of (reset d z) v) ≡ emptied_at (items_in p v) d z
unfolding store_view_of emptied_at items_in
items_reset p v h d z l k = λ j e n. go e n j
  where
    go : (e n : ℕ) → items_of p (zone_at (set_zone v d z (reset_zone (zone_at v d z))) e n) ≡ upd (items_in p v) d z [] e n
    go e n = upd_elim (λ (i : List Item). items_of p (zone_at (set_zone v d z (reset_zone (zone_at v d z))) e n) ≡ i) (items_in p v) d z [] e n
        (λ a c. ap (items_of p) (ap₂ (zone_at (set_zone v d z (reset_zone (zone_at v d z)))) a c ∙ zone_set_at p v h d z (reset_zone (zone_at v d z)) l k)
        ∙ items_reset_zone p (zone_at v d z))
        (λ w. ap (items_of p) (zone_set_else p v h d z (reset_zone (zone_at v d z)) l e n w))

-- ---- the stores as stores of items, by drive and zone

unfoldable pub store_item : Params → View → Store → ItemStore
store_item p v (put d z b s) = m-put d z (item_at p (pointer_at v d z) (mk_chunk b s))
store_item p v (reset d z) = m-reset d z

unfoldable pub store_items : Params → View → List Store → List ItemStore
store_items p v [] = []
store_items p v (s ∷ ss) = store_item p v s ∷ store_items p (store_view_of s v) ss

pub items_store : (p : Params) (v : View) (s : Store) → Shape p v → Fits p v s → items_in p (store_view_of s v) ≡ apply (items_in p v) (store_item p v s)
unfolding store_item apply
items_store p v (put d z b s) h f = items_put p v h d z b s f.0 f.1 f.2
items_store p v (reset d z) h f = items_reset p v h d z f.0 f.1

-- every list of stores that fit
pub items_stores : (p : Params) (v : View) (ss : List Store) → Shape p v → AllFit p v ss → items_in p (store_all store_view_of ss v) ≡ apply_all (items_in p v) (store_items p v ss)
unfolding store_all store_items apply_all
items_stores p v [] h f = refl
items_stores p v (s ∷ ss) h f =
    items_stores p (store_view_of s v) ss (shape_store p v s h f.0) f.1 ∙ ap (λ (u : ItemView). apply_all u (store_items p (store_view_of s v) ss)) (items_store p v s h f.0)

pub take_stores : (p : Params) (v : View) (ss : List Store) (n : ℕ) → store_items p v (take n ss) ≡ take n (store_items p v ss)
unfolding store_items
take_stores p v [] zero = refl
take_stores p v [] (suc n) = refl
take_stores p v (s ∷ ss) zero = refl
take_stores p v (s ∷ ss) (suc n) = ap (λ (l : List ItemStore). store_item p v s ∷ l) (take_stores p (store_view_of s v) ss n)

pub append_stores : (p : Params) (v : View) (ss ts : List Store) → store_items p v (ss ++ ts) ≡ store_items p v ss ++ store_items p (store_all store_view_of ss v) ts
unfolding store_items store_all
append_stores p v [] ts = refl
append_stores p v (s ∷ ss) ts = ap (λ (l : List ItemStore). store_item p v s ∷ l) (append_stores p (store_view_of s v) ss ts)
