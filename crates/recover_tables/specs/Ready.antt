-- What the walk rests on at a group and at a stripe, and the candidate that it builds (01, Restart, 3). Assumes nothing.
use Rattle.std.specs.Prelude.{◌≡◌, List, [], ◌∷◌, ◌++◌, Bool, true, cond, ◌&&◌, ℕ, ◌+◌, max, ◌≤◌, ◌<◌, eqb, length, set, replicate}
use Rattle.std.proofs.Common.{sym, ap, ◌∙◌, subst, zero-add, eq-eqb, ne_eqb, arith}
use Rattle.std.proofs.Math.Decide.{ℕ_discrete}
use Rattle.std.proofs.lemmas.List.{length-replicate, replicate-append-replicate}
use Rattle.spec.specs.declared.Params.{Params}
use Rattle.spec.specs.Bytes.{splice}
use Rattle.spec.specs.Drives.{View, view_of, zone_on}
use Rattle.spec.specs.Layout.{data_drive, Rec}
use Rattle.spec.specs.Lists.{is_in}
use Rattle.spec.specs.Params.{data_count, place_of}
use Rattle.spec.specs.Rank.{Cand}
use Rattle.spec.specs.Segments.{remaining, Segment, segment_of, offset_on, counts, rec_of, offset_of, cand_of, greatest_stamp}
use Rattle.law_basic.specs.Geometry.{Ranged}
use Rattle.law_basic.specs.Ranges.{Test, test, and_both}
use Rattle.law_basic.specs.Ranges.Test.{yes!, no! }
use Rattle.law_basic.specs.Splice.{splice-nil, splice_all, wrote_one}
use Rattle.recover_groups.specs.declared.Group.{Group}
use Rattle.recover_groups.specs.Bases.{group_len_le, group_len_fits}
use Rattle.recover_groups.specs.Chunks.{counts-entered}
use Rattle.recover_groups.specs.Groups.{group_len, AllEntered, segment_in, GroupReads}
use Rattle.recover_addresses.specs.Lies.{StripeCounts}
use Rattle.recover_addresses.specs.Told.{Near, Tells}
use Rattle.recover_compact.specs.Compacts.{SegmentShown}
use Rattle.law_drives.specs.Members.{In}
use Rattle.law_drives.specs.Segs.{Here, remaining-low}
use Rattle.law_drives.specs.Spots.{counts_in}
use Rattle.law_drives.specs.Tests.{and_false_right, cond_true, cond_false}
use Rattle.recover_tables.specs.Walk.{first_cands, most_append, most_one, tells_join, first_more}
use Rattle.spec.specs.declared.Seg.{Seg}
use Rattle.law_basic.specs.Segs.{ZonesLow}

-- no group begins behind the most stripes of a segment and the most of a group
abbrev pub last_base : ℕ
last_base = 65535 + 256

-- the index is that of the group, whose stripe k counts
abbrev pub ReadsStripe : Params → List ℕ → Group → List ℕ → ℕ → Type 0
ReadsStripe p im w at k = (off : List ℕ) × (ps : List ℕ) × GroupReads p off im ps w at × (counts p w.gone (segment_in p off im ps w) (w.base + k) ≡ true)

-- the index is that of the group, of a remaining segment, whose rows of the compact table are as the drives say
pub record Indexing (p : Params) (off im ps : List ℕ) (w : Group) (co at : List ℕ) (k : ℕ) : Type 0 where
  pub reads : GroupReads p off im ps w at
  pub long : length at ≡ 2048
  pub base_low : w.base < p.S
  pub stripe_in_holds : k < group_len p w.base
  pub remains : In w.seg (remaining p (view_of p off im ps) w.gone)
  pub shown : SegmentShown p (view_of p off im ps) w.gone w.seg co

-- and stripe k counts
pub record Standing (p : Params) (off im ps : List ℕ) (w : Group) (co at : List ℕ) (k : ℕ) : Type 0 where
  pub index : Indexing p off im ps w co at k
  pub it_counts : counts p w.gone (segment_in p off im ps w) (w.base + k) ≡ true

module _ (p : Params) (off im ps : List ℕ) (w : Group) (at : List ℕ) (k : ℕ) where
  pub group_stripe_below : w.base < p.S → k < group_len p w.base → w.base + k < p.S
  group_stripe_below h l = omega (arith, group_len_fits p w.base (omega arith))

  pub stripe_byte : Ranged p → k < group_len p w.base → k < 256
  stripe_byte r l = omega (arith, group_len_le p w.base, r.group_high)

  pub standing_counted : (co : List ℕ) → Standing p off im ps w co at k → StripeCounts p (view_of p off im ps) w.gone co w.seg (w.base + k)
  standing_counted co s = record {
    remains = s.index.remains;
    stripe_low = group_stripe_below s.index.base_low s.index.stripe_in_holds;
    it_counts = s.it_counts;
    shown = s.index.shown;
  }

  pub standing_low : Here p w.gone → (co : List ℕ) → Standing p off im ps w co at k → ZonesLow p w.gone w.seg
  standing_low here co s = remaining-low p (view_of p off im ps) w.gone here w.seg s.index.remains

  pub reading_entered : GroupReads p off im ps w at → k < group_len p w.base → counts p w.gone (segment_in p off im ps w) (w.base + k) ≡ true → AllEntered p w.gone w.base at k
  reading_entered q l c = counts-entered p w.gone (segment_in p off im ps w) w.base at k q.indexed l c

  -- 01, The array: the offset of its record on a drive
  pub offset_fits : (d : ℕ) → w.base < p.S → k < group_len p w.base → d < p.N → GroupReads p off im ps w at → counts p w.gone (segment_in p off im ps w) (w.base + k) ≡ true
      → offset_of w.gone (segment_in p off im ps w) (w.base + k) d < p.S
  unfolding offset_of
  offset_fits d h l hd q c = go (test (is_in w.gone d))
    where
      g : Segment
      g = segment_in p off im ps w

      go : Test (is_in w.gone d) → cond (is_in w.gone d) (w.base + k) (offset_on g d (w.base + k)) < p.S
      go (yes! e) = subst (λ (x : ℕ). x < p.S) (sym (cond_true (is_in w.gone d) (w.base + k) (offset_on g d (w.base + k)) e)) (group_stripe_below h l)
      go (no! e) =
          let x = q.indexed.within d k hd l (counts_in p w.gone g (w.base + k) d c hd e) in
          subst (λ (x : ℕ). x < p.S) (sym (cond_false (is_in w.gone d) (w.base + k) (offset_on g d (w.base + k)) e)) (omega (arith, x.1, group_len_fits p w.base (omega arith)))

-- the candidate of a stripe on a drive, from its record and offset
pub cand_is : (p : Params) (v : View) (gone : ℕ) (g : Seg) (s d : ℕ) (r : Rec) (n o q : ℕ) → r ≡ rec_of p gone (segment_of p v gone g) s d
    → o ≡ offset_of gone (segment_of p v gone g) s d
    → n ≡ (segment_of p v gone g).serial → q ≡ place_of p d (zone_on g d) (1 + o)
    → record { address = r.address; stamp = r.stamp; serial = n; drive = d; offset = o; place = q } ≡ cand_of p gone (segment_of p v gone g) s d
unfolding cand_of segment_of
cand_is p v gone g s d r n o q er eo en eq =
    let ep : q ≡ place_of p d (zone_on g d) (1 + offset_of gone (segment_of p v gone g) s d) = eq ∙ ap (λ (x : ℕ). place_of p d (zone_on g d) (1 + x)) eo in
    λ j. record { address = (er j).address; stamp = (er j).stamp; serial = en j; drive = d; offset = eo j; place = ep j }

-- it is one of the drives' candidates
pub cand_there : (p : Params) (v : View) (gone : ℕ) (co : List ℕ) (g : Seg) (s i : ℕ) (c : Cand) → StripeCounts p v gone co g s → i < data_count p
    → c ≡ cand_of p gone (segment_of p v gone g) s (data_drive p s i) → Near p v gone co c
cand_there p v gone co g s i c k h e = (
  record {
    of = g;
    stripe = s;
    position = i;
    remains = k.remains;
    stripe_low = k.stripe_low;
    it_counts = k.it_counts;
    position_low = h;
    it_is = e;
  },
  k.shown,
)

-- ---- answers of the code

-- the open segment's stripes, once its turn has come
pub next_turn : (a u g c n m : ℕ) (b : Bool) → m ≡ cond (b && eqb g u) c n → n ≤ a → c ≤ a → m ≤ a
next_turn a u g c n m b e hn hc = go (test (b && eqb g u))
  where
    go : Test (b && eqb g u) → m ≤ a
    go (yes! t) = subst (λ (x : ℕ). x ≤ a) (sym (e ∙ cond_true (b && eqb g u) c n t)) hc
    go (no! t) = subst (λ (x : ℕ). x ≤ a) (sym (e ∙ cond_false (b && eqb g u) c n t)) hn

pub next_now : (u g n m : ℕ) (f : ℕ → ℕ) (b : Bool) → m ≡ cond (b && eqb g u) (f g) n → (u < g → n ≡ f u) → (g ≡ u → b ≡ true) → u < g + 1 → m ≡ f u
next_now u g n m f b e h k l = go (ℕ_discrete g u)
  where
    go : Dec (g ≡ u) → m ≡ f u
    go (yes q) = e ∙ cond_true (b && eqb g u) (f g) n (and_both b (eqb g u) (k q) (eq-eqb g u q)) ∙ ap f q
    go (no q) = e ∙ cond_false (b && eqb g u) (f g) n (and_false_right b (eqb g u) (ne_eqb g u q)) ∙ h (omega arith)

-- ---- every address never written

pub fill_none : (l : List ℕ) → l ≡ splice l 0 (replicate 0 255)
fill_none l = sym (splice-nil l 0)

pub fill_turn : (l l' : List ℕ) (i : ℕ) → i < length l → l' ≡ splice l 0 (replicate i 255) → set l' i 255 ≡ splice l 0 (replicate (i + 1) 255)
fill_turn l l' i h e =
    ap (λ (x : ℕ). set l' x 255) (sym (zero-add i)) ∙ wrote_one l l' 0 i (replicate i 255) 255 e (length-replicate {A = ℕ} i 255) (omega arith)
    ∙ ap (splice l 0) (replicate-append-replicate {A = ℕ} i 1 255)

pub fill_all : (l l' : List ℕ) (i : ℕ) → i ≡ length l → l' ≡ splice l 0 (replicate i 255) → l' ≡ replicate (length l) 255
fill_all l l' i h e = e ∙ splice_all l (replicate i 255) (length-replicate {A = ℕ} i 255 ∙ h) ∙ ap (λ (n : ℕ). replicate {A = ℕ} n 255) h

-- ---- one data position more of a stripe

module _ (p : Params) (v : View) (gone : ℕ) (co : List ℕ) (g : Seg) (s i : ℕ) where
  pub stripe_turn : (tb tb' tb'' : List ℕ) (m m' m'' : ℕ) (c : Cand) → c ≡ cand_of p gone (segment_of p v gone g) s (data_drive p s i)
      → Tells p v gone co tb tb' (first_cands p gone (segment_of p v gone g) s i) → m' ≡ max m (greatest_stamp (first_cands p gone (segment_of p v gone g) s i))
      → Tells p v gone co tb' tb'' (c ∷ []) → m'' ≡ max m' c.stamp
      → Tells p v gone co tb tb'' (first_cands p gone (segment_of p v gone g) s (i + 1)) × (m'' ≡ max m (greatest_stamp (first_cands p gone (segment_of p v gone g) s (i + 1))))
  stripe_turn tb tb' tb'' m m' m'' c ec t em u en =
      let xs = first_cands p gone (segment_of p v gone g) s i in
      let e : first_cands p gone (segment_of p v gone g) s (i + 1) ≡ xs ++ (c ∷ []) = first_more p gone (segment_of p v gone g) s i ∙ ap (λ (y : Cand). xs ++ (y ∷ [])) (sym ec) in (
        subst (λ (y : List Cand). Tells p v gone co tb tb'' y) (sym e) (tells_join p v gone co tb tb' tb'' xs (c ∷ []) t u),
        en ∙ ap (λ (y : ℕ). max y c.stamp) em ∙ most_one (max m (greatest_stamp xs)) c ∙ sym (most_append m xs (c ∷ [])) ∙ ap (λ (y : List Cand). max m (greatest_stamp y)) (sym e),
      )
