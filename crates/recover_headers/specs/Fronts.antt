-- Write pointers, headers, serials and footers as the bytes say them (01, Refusals, 9). Assumes nothing.
use Rattle.std.specs.Prelude.{◌≡◌, refl, List, [], ◌∷◌, map, Bool, true, false, ◌&&◌, ◌||◌, ℕ, zero, suc, ◌+◌, ◌≤◌, ◌<◌, length, take, drop}
use Rattle.std.proofs.Common.{sym, ◌∙◌, add-zero, add-suc, arith, drop-cons}
use Rattle.std.proofs.Math.Path.{ap}
use Rattle.std.proofs.Math.Bool.{not}
use Rattle.std.proofs.Math.Dec.{ltb}
use Rattle.std.proofs.lemmas.Bool.{not-true}
use Rattle.std.proofs.Math.ListN.{get_or}
use Rattle.spec.specs.declared.Params.{Params}
use Rattle.spec.specs.Bytes.{part}
use Rattle.spec.specs.Drives.{Chunk, no_chunk, Zone, no_zone, View, zone_at, pointer_at, chunk_at, chunk_of, view_of, mk_disk, pointer_of, is_good, zone_on, blocks_of, spares_of, footers_of}
use Rattle.spec.specs.Drives.{zero_spare, zones_in}
use Rattle.spec.specs.Faults.{pointer_faults, same_chunk, header_fault, own_fault, bad_name, name_clash, serial_twice, serial_fault, footers_stored, same_blocks_of, footer_fault_in}
use Rattle.spec.specs.Layout.{header_block, footer_block}
use Rattle.spec.specs.Lists.{up_from, below, all, any, keep, same_list, is_in}
use Rattle.spec.specs.Params.{in_range, footers, capacity, unit_len, image_len, pointers_len, place_of, place_byte, drives_of, present}
use Rattle.spec.specs.Segments.{Segment, segment_of}
use Rattle.law_basic.specs.Geometry.{ranged, capacity-low}
use Rattle.law_basic.specs.Ranges.{keep-below_same}
use Rattle.law_basic.specs.Segs.{ZonesLow, low_zone}
use Rattle.law_scans.specs.Scans.{any-keep}
use Rattle.law_drives.specs.Members.{any_cong, keep_in, below_in}
use Rattle.law_views.specs.Views.{Whole, pointer_view, chunk_view}
use Rattle.law_drives.specs.Segs.{zone_by}
use Rattle.spec.specs.declared.Seg.{Seg}

-- 01, Refusals, 9; 02, item 4: a present drive's write pointer of zone z, a good one, is above capacity, by the pointers' bytes
unfoldable pub above_by : Params → List ℕ → List ℕ → ℕ → ℕ → Bool
above_by p ptrs off gone z = any (λ d. not (is_in gone d) && (is_good p off d z && ltb (capacity p) (pointer_of p ptrs d z))) (drives_of p)

-- 01, Refusals, 9: segment g's header on drive d is not as these names and serials give it, by the image's bytes
unfoldable pub header_off : Params → List ℕ → Seg → Seg → ℕ → ℕ → ℕ → Bool
header_off p im g names serial copied d =
    not (same_chunk (chunk_of p (part (place_byte p (place_of p d (zone_on g d) 0)) (unit_len p) im)) (header_block p d (zones_in p names) serial copied) zero_spare)

-- 01, Refusals, 9: footer block i of a zone is not made from its spares
unfoldable pub footer_off : Params → Zone → ℕ → Bool
footer_off p q i = not (same_list (get_or q.blocks (1 + p.S + i) no_chunk).block (footer_block p (spares_of (take p.S (drop 1 q.blocks))) i))

-- ---- tests over the present drives

pub any-present : (p : Params) (gone : ℕ) (f g : ℕ → Bool) → ((d : ℕ) → d < p.N → is_in gone d ≡ false → f d ≡ g d)
    → any f (present p gone) ≡ any (λ d. not (is_in gone d) && g d) (below p.N)
unfolding present drives_of
any-present p gone f g same =
    let here : ℕ → Bool = λ d. not (is_in gone d) in
    any_cong f g (keep here (below p.N))
    (λ d m. let (i, q) = keep_in here (below p.N) d m in same d (below_in p.N d i) (not-true (is_in gone d) q))
    ∙ any-keep here g (below p.N)

-- ---- the lists of the definitions, by the bytes

module _ (p : Params) (off im ptrs : List ℕ) (h : length im ≡ image_len p) (k : length ptrs ≡ pointers_len p) where
  whole : Whole p (mk_disk im ptrs)
  whole = record { image_long = h; pointers_long = k }

  pub pointer_list : (gone : ℕ) → pointer_faults p (view_of p off im ptrs) gone ≡ keep (above_by p ptrs off gone) (below p.Z)
  unfolding pointer_faults above_by drives_of view_of
  pointer_list gone =
      keep-below_same (λ z. any (λ d. is_good p off d z && ltb (capacity p) (pointer_at (view_of p off im ptrs) d z)) (present p gone)) (above_by p ptrs off gone) p.Z
      (λ z hz. any-present p gone (λ d. is_good p off d z && ltb (capacity p) (pointer_at (view_of p off im ptrs) d z)) (λ d. is_good p off d z && ltb (capacity p) (pointer_of p ptrs d z))
      (λ d hd _. ap (λ (n : ℕ). is_good p off d z && ltb (capacity p) n) (pointer_view p off (mk_disk im ptrs) d z hd hz whole)))

  pub header_list : (gone : ℕ) (g names : Seg) (serial copied : ℕ) → in_range p ≡ true → ZonesLow p gone g → zones_in p names ≡ (segment_of p (view_of p off im ptrs) gone g).names
      → serial ≡ (segment_of p (view_of p off im ptrs) gone g).serial → copied ≡ (segment_of p (view_of p off im ptrs) gone g).copied
      → header_fault p gone (segment_of p (view_of p off im ptrs) gone g) ≡ any (λ d. not (is_in gone d) && header_off p im g names serial copied d) (below p.N)
  unfolding header_fault header_off chunk_at
  header_list gone g names serial copied r hg en es ec =
      let v = view_of p off im ptrs in
      let x = segment_of p v gone g in
      any-present p gone
      (λ d. not (same_chunk (get_or (get_or x.zones_by_holds d no_zone).blocks 0 no_chunk) (header_block p d x.names x.serial x.copied) zero_spare))
      (header_off p im g names serial copied)
      (λ d hd on. λ j. not (same_chunk ((ap (λ (q : Zone). get_or q.blocks 0 no_chunk) (zone_by p v gone g d hd)
      ∙ chunk_view p off (mk_disk im ptrs) d (zone_on g d) hd (low_zone p gone g d hg hd on) whole 0 (omega (arith, capacity-low p (ranged p r)))) j)
      (header_block p d (sym en j) (sym es j) (sym ec j)) zero_spare))

  pub footer_list : (gone : ℕ) (g : Seg) → any (λ d. footer_fault_in p (get_or (segment_of p (view_of p off im ptrs) gone g).zones_by_holds d no_zone)) (present p gone)
      ≡ any (λ d. not (is_in gone d) && footer_fault_in p (zone_at (view_of p off im ptrs) d (zone_on g d))) (below p.N)
  footer_list gone g =
      any-present p gone (λ d. footer_fault_in p (get_or (segment_of p (view_of p off im ptrs) gone g).zones_by_holds d no_zone))
      (λ d. footer_fault_in p (zone_at (view_of p off im ptrs) d (zone_on g d)))
      (λ d hd _. ap (footer_fault_in p) (zone_by p (view_of p off im ptrs) gone g d hd))

-- ---- footer blocks

not_all : {A : Type 0} (f : A → Bool) (l : List A) → not (all f l) ≡ any (λ (a : A). not (f a)) l
unfolding all any
not_all f [] = refl
not_all {A} f (a ∷ l) = go (f a) (not_all f l)
  where
    go : (b : Bool) → not (all f l) ≡ any (λ (x : A). not (f x)) l → not (b && all f l) ≡ (not b || any (λ (x : A). not (f x)) l)
    go true e = e
    go false e = refl

-- equal blocks, one by one
same_blocks_all : (cs : List Chunk) (f : ℕ → List ℕ) (a i n : ℕ) → a + i + n ≤ length cs
    → same_blocks_of (blocks_of (take n (drop (a + i) cs))) (map f (up_from i n)) ≡ all (λ k. same_list (get_or cs (a + k) no_chunk).block (f k)) (up_from i n)
unfolding same_blocks_of blocks_of up_from all
same_blocks_all cs f a i zero h = refl
same_blocks_all cs f a i (suc n) h =
    ap (λ (x : List Chunk). same_blocks_of (blocks_of (take (suc n) x)) (f i ∷ map f (up_from (suc i) n))) (drop-cons cs (a + i) no_chunk (omega arith))
    ∙ ap (λ (b : Bool). same_list (get_or cs (a + i) no_chunk).block (f i) && b)
    (ap (λ (x : ℕ). same_blocks_of (blocks_of (take n (drop x cs))) (map f (up_from (suc i) n))) (sym (add-suc a i)) ∙ same_blocks_all cs f a (suc i) n (omega arith))

stored-le : (p : Params) (q : Zone) → footers_stored p q ≤ footers p
unfolding footers_stored
stored-le p q = omega arith

-- 01, Refusals, 9: a zone's stored footer blocks, one by one
pub footer_any : (p : Params) (q : Zone) → length q.blocks ≡ capacity p → footer_fault_in p q ≡ any (footer_off p q) (below (footers_stored p q))
unfolding footer_fault_in footers_of footer_off below capacity
footer_any p q long =
    let n = footers_stored p q in
    let f = footer_block p (spares_of (take p.S (drop 1 q.blocks))) in
    ap not (ap (λ (x : ℕ). same_blocks_of (blocks_of (take n (drop x q.blocks))) (map f (up_from 0 n))) (sym (add-zero (1 + p.S)))
    ∙ same_blocks_all q.blocks f (1 + p.S) 0 n (omega (arith, long, stored-le p q)))
    ∙ not_all (λ i. same_list (get_or q.blocks (1 + p.S + i) no_chunk).block (f i)) (up_from 0 n)

-- ---- for the loops

pub above_any : (p : Params) (ptrs off : List ℕ) (gone z : ℕ)
    → above_by p ptrs off gone z ≡ any (λ d. not (is_in gone d) && (is_good p off d z && ltb (capacity p) (pointer_of p ptrs d z))) (below p.N)
unfolding above_by drives_of
above_any p ptrs off gone z = refl

-- ---- headers, names and serials together

-- 01, Refusals, 9; 02, item 4: what the headers of a remaining segment show of it
unfoldable pub heads_fault : Params → View → ℕ → List Segment → Segment → Bool
heads_fault p v gone gs g = header_fault p gone g || own_fault p gone g || bad_name p v g || name_clash p gs g || serial_twice p v gone g || serial_fault g

pub front_is : (p : Params) (v : View) (gone : ℕ) (gs : List Segment) (g : Segment)
    → heads_fault p v gone gs g ≡ (header_fault p gone g || own_fault p gone g || (bad_name p v g || name_clash p gs g) || serial_twice p v gone g || serial_fault g)
unfolding heads_fault
front_is p v gone gs g = ap (λ (b : Bool). b || serial_twice p v gone g || serial_fault g) (go (header_fault p gone g || own_fault p gone g) (bad_name p v g) (name_clash p gs g))
  where
    go : (a b c : Bool) → ((a || b) || c) ≡ (a || (b || c))
    go true b c = refl
    go false b c = refl
