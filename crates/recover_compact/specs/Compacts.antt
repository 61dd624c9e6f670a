-- The rows of a segment in the compact table (01, What a zone holds). Assumes nothing.
use Rattle.std.specs.Prelude.{◌≡◌, refl, List, ◌++◌, map, Bool, true, false, cond, ◌⊎◌, ℕ, ◌+◌, ◌-◌, ◌*◌, ◌/◌, ◌%◌, ◌≤◌}
use Rattle.std.specs.Prelude.{◌<◌, length, get_or, set, replicate}
use Rattle.std.proofs.Common.{sym, ap, ap₂, ◌∙◌, div-add-mod', mod-eq_of_lt}
use Rattle.std.proofs.Math.Logic.{inl, inr}
use Rattle.std.proofs.Math.Nat.{add-zero, zero-mod, mul-add-mod_self_right}
use Rattle.std.proofs.Math.Decide.{dec_lt, ℕ_discrete}
use native.Mathlib.Omega.{arith}
use Rattle.std.proofs.Math.Arith.{lt_of_le-ne}
use Rattle.std.proofs.lemmas.List.{length-replicate, length-map}
use Rattle.spec.specs.declared.Params.{Params}
use Rattle.spec.specs.Bytes.{splice}
use Rattle.spec.specs.Drives.{Zone, View, zone_at, sealed_in, data_stored, record_in, zone_on}
use Rattle.spec.specs.Layout.{compact_entry, Rec}
use Rattle.spec.specs.Lists.{below, pad_to, is_in}
use Rattle.spec.specs.Memory.{compact_at}
use Rattle.spec.specs.Params.{compact_len}
use Rattle.spec.specs.Segments.{records_in, segment_of, recs_on, compact_row}
use Rattle.law_basic.specs.Geometry.{item_fits, row_fits}
use Rattle.law_basic.specs.Ranges.{Test, test, below_none, length-below, map-below-snoc, map-map}
use Rattle.law_basic.specs.Splice.{splice-nil, wrote_one, splice_next, get_d_splice-below, get_d_splice_in, get_d_splice-past}
use Rattle.law_basic.specs.Ranges.Test.{yes!, no! }
use Rattle.law_basic.specs.Segs.{ZonesLow, low_zone}
use Rattle.law_views.specs.Pointers.{index_drive, index_zone}
use Rattle.law_drives.specs.Segs.{recs_here}
use Rattle.law_drives.specs.Tables.{row_long, length_recs}
use Rattle.law_drives.specs.Tests.{clash, cond_true, cond_false}
use Rattle.spec.specs.declared.Seg.{Seg}

-- 01, What a zone holds: the entry of a data offset
unfoldable pub entry_said : Params → Bool → Zone → ℕ → ℕ
entry_said p w q o = compact_entry p (record_in p w q o).stripe

-- ---- a row

-- the entries of the stored chunks, then zeros
pub row_stored : (p : Params) (w : Bool) (q : Zone) → compact_row p (records_in p w q) ≡ map (entry_said p w q) (below (data_stored p q)) ++ replicate (p.S - data_stored p q) 0
unfolding compact_row pad_to entry_said records_in
row_stored p w q =
    let f : Rec → ℕ = λ (r : Rec). compact_entry p r.stripe in
    let l : length (map f (map (record_in p w q) (below (data_stored p q)))) ≡ data_stored p q =
    length-map (map (record_in p w q) (below (data_stored p q))) f ∙ length-map (below (data_stored p q)) (record_in p w q) ∙ length-below (data_stored p q) in
    ap₂ (λ (x : List ℕ) (n : ℕ). x ++ replicate (p.S - n) 0) (map-map f (record_in p w q) (below (data_stored p q))) l

-- ---- the rows of a segment

-- on the present drives they are as its records say
abbrev pub SegmentShown : Params → View → ℕ → Seg → List ℕ → Type 0
SegmentShown p v gone g l = (d o : ℕ) → d < p.N → is_in gone d ≡ false → o < p.S
    → get_or l (compact_at p d (zone_on g d) o) 0 ≡ get_or (compact_row p (recs_on (segment_of p v gone g) d)) o 0

-- nothing else changes
abbrev pub Else : Params → ℕ → Seg → List ℕ → List ℕ → Type 0
Else p gone g l l' = (d z o : ℕ) → d < p.N → z < p.Z → o < p.S → (is_in gone d ≡ false → z ≡ zone_on g d → ⊥)
    → get_or l' (compact_at p d z o) 0 ≡ get_or l (compact_at p d z o) 0

-- those of the drives below n are said, and nothing else changes
pub record RowsSaid (p : Params) (v : View) (gone : ℕ) (g : Seg) (n : ℕ) (l l' : List ℕ) : Type 0 where
  pub said : (d o : ℕ) → d < n → d < p.N → is_in gone d ≡ false → o < p.S
      → get_or l' (compact_at p d (zone_on g d) o) 0 ≡ get_or (compact_row p (recs_on (segment_of p v gone g) d)) o 0
  pub others : Else p gone g l l'

pub rows_start : (p : Params) (v : View) (gone : ℕ) (g : Seg) (l : List ℕ) → RowsSaid p v gone g 0 l l
rows_start p v gone g l = record {
  said = λ d o h. absurd (let bad : ⊥ = omega arith in bad);
  others = λ d z o hd hz ho n. refl;
}

-- a place in another row lies below or behind a row
row_apart : (s x y o : ℕ) → o < s → (x ≡ y → ⊥) → (x * s + o < y * s) ⊎ (y * s + s ≤ x * s + o)
row_apart s x y o h n = go (dec_lt x y)
  where
    go : Dec (x < y) → (x * s + o < y * s) ⊎ (y * s + s ≤ x * s + o)
    go (yes l) = inl (let a = item_fits x y s l in omega arith)
    go (no l) = inr (let a = item_fits y x s (omega arith) in omega arith)

module _ (p : Params) (l l' : List ℕ) (d z : ℕ) (t : List ℕ) (hd : d < p.N) (hz : z < p.Z) (long : length l ≡ compact_len p) (lt : length t ≡ p.S)
    (e : l' ≡ splice l (compact_at p d z 0) t) where
  fits : compact_at p d z 0 + length t ≤ length l
  fits = omega (arith, row_fits p d z hd hz)

  compact_row_start : (x y o : ℕ) → compact_at p x y o ≡ compact_at p x y 0 + o
  unfolding compact_at
  compact_row_start x y o = let a = add-zero ((x * p.Z + y) * p.S) in omega arith

  row_here : (o : ℕ) → o < p.S → get_or l' (compact_at p d z o) 0 ≡ get_or t o 0
  row_here o ho =
      ap₂ (λ (x : List ℕ) (i : ℕ). get_or x i 0) e (compact_row_start d z o) ∙ get_d_splice_in l (compact_at p d z 0) t fits o (omega arith)

  row_else : (x y o : ℕ) → o < p.S → (x * p.Z + y ≡ d * p.Z + z → ⊥) → get_or l' (compact_at p x y o) 0 ≡ get_or l (compact_at p x y o) 0
  row_else x y o ho n = ap (λ (q : List ℕ). get_or q (compact_at p x y o) 0) e ∙ go (as! (row_apart p.S (x * p.Z + y) (d * p.Z + z) o ho n))
    where
      as! :
          ((x * p.Z + y) * p.S + o < (d * p.Z + z) * p.S) ⊎ ((d * p.Z + z) * p.S + p.S ≤ (x * p.Z + y) * p.S + o)
          → (compact_at p x y o < compact_at p d z 0) ⊎ (compact_at p d z 0 + length t ≤ compact_at p x y o)
      as! (inl a) = unfold compact_at in inl (let b = add-zero ((d * p.Z + z) * p.S) in omega arith)
      as! (inr a) = unfold compact_at in inr (let b = add-zero ((d * p.Z + z) * p.S) in omega arith)

      go : (compact_at p x y o < compact_at p d z 0) ⊎ (compact_at p d z 0 + length t ≤ compact_at p x y o)
          → get_or (splice l (compact_at p d z 0) t) (compact_at p x y o) 0 ≡ get_or l (compact_at p x y o) 0
      go (inl a) = get_d_splice-below l (compact_at p d z 0) t fits (compact_at p x y o) a
      go (inr a) = get_d_splice-past l (compact_at p d z 0) t fits (compact_at p x y o) a

-- one drive more
module _ (p : Params) (v : View) (gone : ℕ) (g : Seg) (d : ℕ) (l l' l'' : List ℕ) (hd : d < p.N) (low : ZonesLow p gone g) (long : length l' ≡ compact_len p)
    (r : RowsSaid p v gone g d l l')
    (e : l'' ≡ cond (is_in gone d) l' (splice l' (compact_at p d (zone_on g d) 0) (compact_row p (records_in p (sealed_in p v gone g) (zone_at v d (zone_on g d)))))) where
  -- of a missing drive
  row_lost : is_in gone d ≡ true → RowsSaid p v gone g (d + 1) l l''
  row_lost q =
      let same : l'' ≡ l' = e ∙ cond_true (is_in gone d) l' (splice l' (compact_at p d (zone_on g d) 0) (compact_row p (records_in p (sealed_in p v gone g) (zone_at v d (zone_on g d))))) q in
      record {
        said = λ x o h hx hp ho. ap (λ (y : List ℕ). get_or y (compact_at p x (zone_on g x) o) 0) same
            ∙ r.said x o (lt_of_le-ne (omega arith) (λ i. clash q (ap (is_in gone) (sym i) ∙ hp))) hx hp ho;
        others = λ x z o hx hz ho n. ap (λ (y : List ℕ). get_or y (compact_at p x z o) 0) same ∙ r.others x z o hx hz ho n;
      }

  -- of a present one
  module _ (q : is_in gone d ≡ false) where
    abbrev t : List ℕ
    t = compact_row p (recs_on (segment_of p v gone g) d)

    here : zone_on g d < p.Z
    here = low_zone p gone g d low hd q

    lt : length t ≡ p.S
    lt = row_long p (recs_on (segment_of p v gone g) d) (length_recs p v gone g d hd)

    put : l'' ≡ splice l' (compact_at p d (zone_on g d) 0) t
    put = e ∙ cond_false (is_in gone d) l' (splice l' (compact_at p d (zone_on g d) 0) (compact_row p (records_in p (sealed_in p v gone g) (zone_at v d (zone_on g d))))) q
        ∙ ap (λ (x : List Rec). splice l' (compact_at p d (zone_on g d) 0) (compact_row p x)) (sym (recs_here p v gone g d hd q))

    apart : (x z o : ℕ) → z < p.Z → o < p.S → (x ≡ d → z ≡ zone_on g d → ⊥) → get_or l'' (compact_at p x z o) 0 ≡ get_or l' (compact_at p x z o) 0
    apart x z o hz ho n = row_else p l' l'' d (zone_on g d) t hd here long lt put x z o ho
        (λ w. n (index_drive p.Z x z d (zone_on g d) hz here w) (index_zone p.Z x z d (zone_on g d) hz here w))

    row_said : RowsSaid p v gone g (d + 1) l l''
    row_said = record {
      said = λ x o h hx hp ho. at x o h hx hp ho (ℕ_discrete x d);
      others = λ x z o hx hz ho n. apart x z o hz ho (λ a b. n (ap (is_in gone) a ∙ q) (b ∙ ap (zone_on g) (sym a))) ∙ r.others x z o hx hz ho n;
    }
      where
        at : (x o : ℕ) → x < d + 1 → x < p.N → is_in gone x ≡ false → o < p.S → Dec (x ≡ d)
            → get_or l'' (compact_at p x (zone_on g x) o) 0 ≡ get_or (compact_row p (recs_on (segment_of p v gone g) x)) o 0
        at x o h hx hp ho (yes i) =
            ap (λ (y : ℕ). get_or l'' (compact_at p y (zone_on g y) o) 0) i ∙ row_here p l' l'' d (zone_on g d) t hd here long lt put o ho
            ∙ ap (λ (y : ℕ). get_or (compact_row p (recs_on (segment_of p v gone g) y)) o 0) (sym i)
        at x o h hx hp ho (no i) = apart x (zone_on g x) o (low_zone p gone g x low hx hp) ho (λ a b. i a) ∙ r.said x o (lt_of_le-ne (omega arith) i) hx hp ho

  pub rows_turn : RowsSaid p v gone g (d + 1) l l''
  rows_turn = go (test (is_in gone d))
    where
      go : Test (is_in gone d) → RowsSaid p v gone g (d + 1) l l''
      go (yes! q) = row_lost q
      go (no! q) = row_said q

-- ---- the entries of a row

pub entry_of_lem : (p : Params) (w : Bool) (q : Zone) (o s : ℕ) → s ≡ (record_in p w q o).stripe → compact_entry p s ≡ entry_said p w q o
unfolding entry_said
entry_of_lem p w q o s e = ap (compact_entry p) e

pub entries_turn : (p : Params) (w : Bool) (q : Zone) (l l' : List ℕ) (row o : ℕ) → row + o < length l
    → l' ≡ splice l row (map (entry_said p w q) (below o)) → set l' (row + o) (entry_said p w q o) ≡ splice l row (map (entry_said p w q) (below (o + 1)))
entries_turn p w q l l' row o h e =
    wrote_one l l' row o (map (entry_said p w q) (below o)) (entry_said p w q o) e (length-map (below o) (entry_said p w q) ∙ length-below o) h
    ∙ ap (splice l row) (sym (map-below-snoc (entry_said p w q) o))

pub entries_none : (p : Params) (w : Bool) (q : Zone) (l : List ℕ) (row : ℕ) → l ≡ splice l row (map (entry_said p w q) (below 0))
entries_none p w q l row = sym (ap (λ (x : List ℕ). splice l row (map (entry_said p w q) x)) below_none ∙ splice-nil l row)

-- entries, then zeros
pub row_both : (l l' l'' : List ℕ) (at n m : ℕ) (s : List ℕ) → at + n + m ≤ length l → length s ≡ n → l' ≡ splice l at s → l'' ≡ splice l' (at + n) (replicate m 0)
    → l'' ≡ splice l at (s ++ replicate m 0)
row_both l l' l'' at n m s h k e f =
    let z : List ℕ = replicate m 0 in
    let b : length z ≡ m = length-replicate m 0 in
    f ∙ ap₂ (λ (x : List ℕ) (a : ℕ). splice x (at + a) z) e (sym k) ∙ splice_next l at s z (omega arith)

-- ---- the entry of a stripe near the first stripe of a group

pub zero_base : (g : ℕ) → 0 % g ≡ 0
zero_base g = zero-mod g

pub near : (p : Params) (b k s : ℕ) → 0 < p.G → b % p.G ≡ 0 → k < p.G → b + k ≡ s → k ≡ compact_entry p s
unfolding compact_entry
near p b k s h e l q =
    let d : b / p.G * p.G ≡ b = sym (add-zero (b / p.G * p.G)) ∙ ap (λ (x : ℕ). b / p.G * p.G + x) (sym e) ∙ div-add-mod' b p.G in
    sym (ap (λ (x : ℕ). x % p.G) (sym q ∙ ap (λ (x : ℕ). x + k) (sym d)) ∙ mul-add-mod_self_right (b / p.G) p.G k ∙ mod-eq_of_lt l)
