-- What items forget, zone by zone: headers and footers in full, records that their bytes hold; kept by each kind of store. Assumes nothing.
use Rattle.std.specs.Prelude.{◌≡◌, true, false, length, take, set}
use Rattle.std.proofs.Math.Path.{refl, ap, ap₂}
use Rattle.std.proofs.Common.{sym, ◌∙◌, subst, length-drop, get_or-take, get_or-drop, length-take-le}
use mathlib.Core.List.{List, [], ◌∷◌}
use Prim.Native.Nat.{ℕ, suc, ◌+◌, ◌-◌, ◌*◌, ◌/◌, ◌%◌, ◌^◌, ◌≤◌, ◌<◌}
use Rattle.std.proofs.Math.Decide.{ℕ_discrete}
use native.Mathlib.Omega.{arith}
use Rattle.std.proofs.Math.ListN.{get_or, drop}
use Rattle.std.proofs.lemmas.List.{length-map}
use Rattle.std.proofs.Math.Seq.{take-set-le, get_or-set_same, get_or-set_other, drop-set-add}
use Rattle.spec.specs.declared.Params.{Params}
use Rattle.spec.specs.Bytes.{part}
use Rattle.spec.specs.Drives.{Chunk, mk_chunk, no_chunk, Zone, put_zone, reset_zone, blocks_of, spares_of, record_in, zero_spare}
use Rattle.spec.specs.Layout.{header_block, header_serial, header_copied, Rec, record_bytes, record_of_of, footer_block, footer_record, header_zones}
use Rattle.spec.specs.Params.{spare_len, per_footer, footers, capacity}
use Rattle.law_basic.specs.Fields.{length_record, length-zero_spare, header_block_long, header_copied_holds, header_serial_holds, header_zones_named}
use Rattle.law_basic.specs.Geometry.{Ranged, footer_of}
use Rattle.law_basic.specs.Xor.{AllLong}
use Rattle.law_drives.specs.Records.{spares_at, blocks_at}
use Rattle.proof_crash_machine.specs.View.{Item}
use Rattle.proof_crash_machine.specs.View.Item.{hdr, chunk, foot}
use Rattle.proof_crash_items.specs.Codec.{Wide, record_bytes_lem, footer_length, footer_spare, names_zones}
use Rattle.proof_crash_items.specs.Items.{value_of, chunk_item, item_at, item_data, item_foot}
use Rattle.proof_crash_items.specs.Ranges.{capacity_few}
use Rattle.proof_crash_items.specs.Shape.{ZoneShape}

-- the spares of a zone's data blocks
abbrev pub spares_in : Params → Zone → List (List ℕ)
spares_in p q = spares_of (take p.S (drop 1 q.blocks))

abbrev pub block_in_of : Zone → ℕ → Chunk
block_in_of q k = get_or q.blocks k no_chunk

-- the header with what block b names
abbrev pub head_of : Params → ℕ → List ℕ → Chunk
head_of p d b = mk_chunk (header_block p d (header_zones p b) (header_serial p b) (header_copied p b)) zero_spare

-- D1, D2 and D6 in full, of one good zone of a trusted drive d
pub record ZoneBytes (p : Params) (d : ℕ) (q : Zone) : Type 0 where
  pub low : q.pointer ≤ capacity p
  pub head : 0 < q.pointer → block_in_of q 0 ≡ head_of p d (block_in_of q 0).block
  pub serials : 0 < q.pointer → (header_serial p (block_in_of q 0).block < 256 ^ 8) × (header_copied p (block_in_of q 0).block < 256 ^ 8)
  pub wide : (o : ℕ) → o < p.S → suc o < q.pointer → Wide (record_of_of (block_in_of q (suc o)).spare)
  pub feet : (j : ℕ) → suc (p.S + j) < q.pointer → block_in_of q (suc (p.S + j)) ≡ mk_chunk (footer_block p (spares_in p q) j) zero_spare

-- the kinds of put, by the pointer
pub data Kind (p : Params) (d : ℕ) (q : Zone) : List ℕ → List ℕ → Type 0 where
  header : (zs : List ℕ) (ser cop : ℕ) → q.pointer ≡ 0 → length zs ≡ p.N → ((e : ℕ) → e < p.N → get_or zs e 0 < 256 ^ 4) → ser < 256 ^ 8 → cop < 256 ^ 8
      → Kind p d q (header_block p d zs ser cop) zero_spare
  datum : (o : ℕ) (b : List ℕ) (r : Rec) → q.pointer ≡ suc o → o < p.S → length b ≡ p.B → Wide r → Kind p d q b (record_bytes r)
  footer : (j : ℕ) → q.pointer ≡ suc (p.S + j) → j < footers p → Kind p d q (footer_block p (spares_in p q) j) zero_spare

-- ---- spares

pub long_spares : (cs : List Chunk) → ((k : ℕ) → k < length cs → length (get_or cs k no_chunk).spare ≡ spare_len) → AllLong spare_len (spares_of cs)
unfolding spares_of
long_spares [] h = tt
long_spares (c ∷ cs) h = (h 0 (omega arith), long_spares cs (λ k l. h (suc k) (omega arith)))

pub length-spares_of : (cs : List Chunk) → length (spares_of cs) ≡ length cs
unfolding spares_of
length-spares_of cs = length-map cs (λ (c : Chunk). c.spare)

module _ (p : Params) (h : Ranged p) (q : Zone) (s : ZoneShape p q) where
  length_data : length (take p.S (drop 1 q.blocks)) ≡ p.S
  length_data = length-take-le p.S (drop 1 q.blocks) (omega (arith, length-drop 1 q.blocks, s.count, capacity_few p h))

  pub length-spares_in : length (spares_in p q) ≡ p.S
  length-spares_in = length-spares_of (take p.S (drop 1 q.blocks)) ∙ length_data

  pub spare_in : (o : ℕ) → o < p.S → get_or (spares_in p q) o [] ≡ (block_in_of q (suc o)).spare
  spare_in o l =
      spares_at (take p.S (drop 1 q.blocks)) o
      ∙ ap (λ (c : Chunk). c.spare) (get_or-take p.S (drop 1 q.blocks) o no_chunk l
      ∙ get_or-drop 1 q.blocks o no_chunk
      ∙ ap (λ (k : ℕ). get_or q.blocks k no_chunk) (let e : 1 + o ≡ suc o = omega arith in e))

  pub all_spares_long : AllLong spare_len (spares_in p q)
  all_spares_long = long_spares (take p.S (drop 1 q.blocks)) (λ k l.
      let b : k < p.S = omega (arith, l, length_data) in
      ap length (sym (spares_at (take p.S (drop 1 q.blocks)) k) ∙ spare_in k b) ∙ (s.long (suc k) (omega (arith, b, capacity_few p h))).1)

  -- ---- the lengths of what is put, and the room for it
  pub kind_fits : (d : ℕ) (b t : List ℕ) → Kind p d q b t → (q.pointer < capacity p) × (length b ≡ p.B) × (length t ≡ spare_len)
  kind_fits d _ _ (header zs ser cop e x y a c) = (omega (arith, e, capacity_few p h), header_block_long p h d zs ser cop x, length-zero_spare)
  kind_fits d _ _ (datum o b r e l lb w) = (omega (arith, e, l, capacity_few p h), lb, length_record r)
  kind_fits d _ _ (footer j e l) = unfold capacity in (omega (arith, e, l), footer_length p h (spares_in p q) all_spares_long j, length-zero_spare)

-- ---- what is put, as an item

unfoldable pub kind_item : (p : Params) (d : ℕ) (q : Zone) (b t : List ℕ) → Kind p d q b t → Item
kind_item p d q _ _ (header zs ser cop e x y a c) = hdr ser cop (λ e. get_or zs e 0)
kind_item p d q _ _ (datum o b r e l lb w) = chunk r.stripe (value_of b r)
kind_item p d q _ _ (footer j e l) = foot j

pub kind_item_lem : (p : Params) (d : ℕ) (q : Zone) (b t : List ℕ) → (k : Kind p d q b t)
    → item_at p q.pointer (mk_chunk b t) ≡ kind_item p d q b t k
unfolding kind_item
kind_item_lem p d q _ _ (header zs ser cop e x y a c) =
    ap (λ (n : ℕ). item_at p n (mk_chunk (header_block p d zs ser cop) zero_spare)) e
    ∙ (unfold item_at in λ j. hdr (header_serial_holds p d zs ser cop x a j) (header_copied_holds p d zs ser cop x c j) (names_zones p d zs ser cop x y j))
kind_item_lem p d q _ _ (datum o b r e l lb w) =
    ap (λ (n : ℕ). item_at p n (mk_chunk b (record_bytes r))) e ∙ item_data p o (mk_chunk b (record_bytes r)) l
    ∙ (unfold chunk_item in ap (λ (x : Rec). chunk x.stripe (value_of b x)) (record_bytes_lem r w))
kind_item_lem p d q _ _ (footer j e l) =
    ap (λ (n : ℕ). item_at p n (mk_chunk (footer_block p (spares_in p q) j) zero_spare)) e
    ∙ item_foot p (p.S + j) (mk_chunk (footer_block p (spares_in p q) j) zero_spare) (omega arith) ∙ ap foot (let e : p.S + j - p.S ≡ j = omega arith in e)

-- ---- the facts are kept

pub bytes_reset : (p : Params) (d : ℕ) (q : Zone) → ZoneBytes p d (reset_zone q)
unfolding reset_zone
bytes_reset p d q = record {
  low = omega arith;
  head = λ l. absurd (let j : ⊥ = omega arith in j);
  serials = λ l. absurd (let j : ⊥ = omega arith in j);
  wide = λ o l b. absurd (let j : ⊥ = omega arith in j);
  feet = λ j b. absurd (let i : ⊥ = omega arith in i);
}

pub bytes_empty : (p : Params) (d : ℕ) (q : Zone) → q.pointer ≡ 0 → ZoneBytes p d q
bytes_empty p d q e = record {
  low = omega arith;
  head = λ l. absurd (let j : ⊥ = omega arith in j);
  serials = λ l. absurd (let j : ⊥ = omega arith in j);
  wide = λ o l b. absurd (let j : ⊥ = omega arith in j);
  feet = λ j b. absurd (let i : ⊥ = omega arith in i);
}

module _ (p : Params) (h : Ranged p) (d : ℕ) (q : Zone) (s : ZoneShape p q) where
  -- below the pointer nothing changes
  pub old_block : (b t : List ℕ) (k : ℕ) → k < q.pointer → block_in_of (put_zone b t q) k ≡ block_in_of q k
  unfolding put_zone
  old_block b t k l = get_or-set_other q.blocks q.pointer k (mk_chunk b t) no_chunk (omega arith)

  pub put_new_block : (b t : List ℕ) → q.pointer < capacity p → block_in_of (put_zone b t q) q.pointer ≡ mk_chunk b t
  unfolding put_zone
  put_new_block b t l = get_or-set_same q.blocks q.pointer (mk_chunk b t) no_chunk (omega (arith, s.count))

  pub old_spares : (b t : List ℕ) (j : ℕ) → q.pointer ≡ suc (p.S + j) → spares_in p (put_zone b t q) ≡ spares_in p q
  unfolding put_zone
  old_spares b t j e = ap spares_of (
      ap (take p.S) (ap (λ (n : ℕ). drop 1 (set q.blocks n (mk_chunk b t))) (e ∙ (let i : suc (p.S + j) ≡ 1 + (p.S + j) = omega arith in i))
      ∙ drop-set-add 1 q.blocks (p.S + j) (mk_chunk b t))
      ∙ take-set-le p.S (drop 1 q.blocks) (p.S + j) (mk_chunk b t) (omega arith))

  pub pointer_put : (b t : List ℕ) → (put_zone b t q).pointer ≡ suc q.pointer
  unfolding put_zone
  pointer_put b t = refl

  -- the head is as it was, in a zone that isn't empty
  head_kept : (b t : List ℕ) → 0 < q.pointer → ZoneBytes p d q
      → (block_in_of (put_zone b t q) 0 ≡ head_of p d (block_in_of (put_zone b t q) 0).block)
      × ((header_serial p (block_in_of (put_zone b t q) 0).block < 256 ^ 8) × (header_copied p (block_in_of (put_zone b t q) 0).block < 256 ^ 8))
  head_kept b t l f = rw (old_block b t 0 l) (f.head l, f.serials l)

  pub bytes_put : (b t : List ℕ) → Kind p d q b t → ZoneBytes p d q → ZoneBytes p d (put_zone b t q)
  bytes_put _ _ (header zs ser cop e x y a c) f = record {
    low = omega (arith, e, pointer_put (header_block p d zs ser cop) zero_spare, capacity_few p h);
    head =
        λ l. rw new (sym (λ i. mk_chunk (header_block p d (header_zones_named p d zs ser cop x y i) (header_serial_holds p d zs ser cop x a i)
        (header_copied_holds p d zs ser cop x c i)) zero_spare));
    serials = λ l. rw new (
      subst (λ (n : ℕ). n < 256 ^ 8) (sym (header_serial_holds p d zs ser cop x a)) a,
      subst (λ (n : ℕ). n < 256 ^ 8) (sym (header_copied_holds p d zs ser cop x c)) c,
    );
    wide = λ o l k. absurd (let j : ⊥ = omega (arith, k, pointer_put (header_block p d zs ser cop) zero_spare, e) in j);
    feet = λ j k. absurd (let i : ⊥ = omega (arith, k, pointer_put (header_block p d zs ser cop) zero_spare, e) in i);
  }
    where
      new : block_in_of (put_zone (header_block p d zs ser cop) zero_spare q) 0 ≡ mk_chunk (header_block p d zs ser cop) zero_spare
      new = subst (λ (n : ℕ). block_in_of (put_zone (header_block p d zs ser cop) zero_spare q) n ≡ mk_chunk (header_block p d zs ser cop) zero_spare) e
          (put_new_block (header_block p d zs ser cop) zero_spare (omega (arith, e, capacity_few p h)))
  bytes_put _ _ (datum o b r e l lb w) f = record {
    low = omega (arith, e, l, pointer_put b (record_bytes r), capacity_few p h);
    head = λ k. (head_kept b (record_bytes r) (omega arith) f).0;
    serials = λ k. (head_kept b (record_bytes r) (omega arith) f).1;
    wide = λ i k m. go i k m (ℕ_discrete (suc i) q.pointer);
    feet = λ j k. absurd (let i : ⊥ = omega (arith, k, pointer_put b (record_bytes r), e, l) in i);
  }
    where
      go : (i : ℕ) → i < p.S → suc i < (put_zone b (record_bytes r) q).pointer → Dec (suc i ≡ q.pointer) → Wide (record_of_of (block_in_of (put_zone b (record_bytes r) q) (suc i)).spare)
      go i k m (yes n) = rw (n, put_new_block b (record_bytes r) (omega (arith, e, l, capacity_few p h)), record_bytes_lem r w) w
      go i k m (no n) = let a : suc i < q.pointer = omega (arith, m, n, pointer_put b (record_bytes r)) in rw (old_block b (record_bytes r) (suc i) a) (f.wide i k a)
  bytes_put _ _ (footer j e l) f = record {
    low = unfold capacity in omega (arith, e, l, pointer_put b zero_spare);
    head = λ k. (head_kept b zero_spare (omega arith) f).0;
    serials = λ k. (head_kept b zero_spare (omega arith) f).1;
    wide = λ i k m. let a : suc i < q.pointer = omega (arith, k, e) in rw (old_block b zero_spare (suc i) a) (f.wide i k a);
    feet = λ i k. go i k (ℕ_discrete i j);
  }
    where
      b : List ℕ
      b = footer_block p (spares_in p q) j

      same : spares_in p (put_zone b zero_spare q) ≡ spares_in p q
      same = old_spares b zero_spare j e

      go :
          (i : ℕ)
          → suc (p.S + i) < (put_zone b zero_spare q).pointer
          → Dec (i ≡ j)
          → block_in_of (put_zone b zero_spare q) (suc (p.S + i)) ≡ mk_chunk (footer_block p (spares_in p (put_zone b zero_spare q)) i) zero_spare
      go i k (yes n) =
          ap (block_in_of (put_zone b zero_spare q)) (let m : suc (p.S + i) ≡ q.pointer = omega (arith, n, e) in m)
          ∙ put_new_block b zero_spare (unfold capacity in omega (arith, e, l))
          ∙ ap₂ (λ (ss : List (List ℕ)) (x : ℕ). mk_chunk (footer_block p ss x) zero_spare) (sym same) (sym n)
      go i k (no n) =
          let a : suc (p.S + i) < q.pointer = omega (arith, k, n, e, pointer_put b zero_spare) in
          old_block b zero_spare (suc (p.S + i)) a ∙ f.feet i a ∙ ap (λ (ss : List (List ℕ)). mk_chunk (footer_block p ss i) zero_spare) (sym same)

  -- ---- in a full zone what the footer says is what the spares say
  pub by_footer : ZoneBytes p d q → q.pointer ≡ capacity p → (o : ℕ) → o < p.S → record_in p true q o ≡ record_in p false q o
  unfolding record_in footer_record capacity
  by_footer f e o l =
      let k : o / per_footer p < footers p = footer_of p h o l in
      let a : suc (p.S + o / per_footer p) < q.pointer = omega (arith, e, k) in
      let i : (1 + p.S) + o / per_footer p ≡ suc (p.S + o / per_footer p) = omega arith in
      let r : get_or (blocks_of (drop (1 + p.S) q.blocks)) (o / per_footer p) [] ≡ footer_block p (spares_in p q) (o / per_footer p) =
      blocks_at (drop (1 + p.S) q.blocks) (o / per_footer p) ∙ ap (λ (c : Chunk). c.block) (get_or-drop (1 + p.S) q.blocks (o / per_footer p) no_chunk
      ∙ ap (λ (n : ℕ). get_or q.blocks n no_chunk) i ∙ f.feet (o / per_footer p) a) in
      ap record_of_of (ap (part (spare_len * (o % per_footer p)) spare_len) r
      ∙ footer_spare p h (spares_in p q) (all_spares_long p h q s) o (omega (arith, l, length-spares_in p h q s))
      ∙ spare_in p h q s o l ∙ ap (λ (n : ℕ). (get_or q.blocks n no_chunk).spare) (let m : suc o ≡ 1 + o = omega arith in m))
