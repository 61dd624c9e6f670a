-- The layout without parity, zone by zone: what one zone must hold, and how it follows from the checks of a restart or from tidy segments. Assumes nothing.
use Rattle.std.specs.Prelude.{◌≡◌, List, [], map, Bool, true, false, ◌&&◌, ℕ, ◌+◌, ◌≤◌, ◌<◌, eqb, get_or, take, drop}
use Rattle.std.proofs.Common.{sym, ap, ◌∙◌, subst, zero-add, arith, get_or-take, get_or-drop}
use borrow.Author.Tests.{not-false}
use Rattle.spec.specs.declared.Params.{Params}
use Rattle.spec.specs.Drives.{Chunk, mk_chunk, no_chunk, Zone, View, zone_at, pointer_at, chunk_at, zone_on, sealed_in, data_stored, blocks_of, spares_of, record_in, record_at, footers_of, zero_spare}
use Rattle.spec.specs.Faults.{footers_stored, same_blocks_of, footer_fault_in}
use Rattle.spec.specs.Layout.{in_group_of, header_block, header_serial, header_copied, footer_block}
use Rattle.spec.specs.Lists.{up_from, any, is_in}
use Rattle.spec.specs.Params.{capacity}
use Rattle.spec.specs.Segments.{header_at, remaining, Segment, segment_of, segments}
use Rattle.law_basic.specs.Geometry.{Ranged}
use Rattle.law_basic.specs.Mask.{is_in_empty}
use Rattle.law_basic.specs.Ranges.{Test, test, and_both, length_up_from, get_d_up_from, get_d_map}
use Rattle.law_basic.specs.Ranges.Test.{yes!, no! }
use Rattle.spec_demands.specs.Layouts.{Present, Remains, found_sealed, ParityMade, Layout}
use Rattle.law_drives.specs.Accept.{Accepted, pointer_ok, in_groups, accept_stripe_once, header_ok, open_footers, copied-low, serials_differ, same_blocks, accepted_apart}
use Rattle.law_drives.specs.Footers.{spares_in}
use Rattle.law_drives.specs.Members.{In, in_map, in_any}
use Rattle.law_drives.specs.Records.{blocks_at}
use Rattle.law_drives.specs.Segs.{copied_is, full_is, remaining_left, Here, is_seg, seg_in}
use Rattle.law_drives.specs.Spots.{SpotsApart, none_apart, seg-low, seg_good, seg-alone}
use Rattle.law_drives.specs.Settled.{low_first, there_remains, zero_here, serial_of, SameZones, zones_sealed, zones_header}
use Rattle.law_drives.specs.Tests.{clash, eqb_self}
use Rattle.law_drives.specs.Tidy.{There, Tidy}
use Rattle.spec.specs.declared.Seg.{Seg}
use Rattle.spec.specs.Drives.{is_good, zones_in}

-- 01, What a zone holds: all of the layout but the parity
pub record Laid (p : Params) (v : View) (gone : ℕ) (old : List Segment) : Type 0 where
  pub pointer_low : (d z : ℕ) → Present p gone d → z < p.Z → is_good p v.offline d z ≡ true → pointer_at v d z ≤ capacity p
  pub zone_good : (g : Seg) (d : ℕ) → Remains p v gone g → d < p.N → (zone_on g d < p.Z) × (is_good p v.offline d (zone_on g d) ≡ true)
  pub zone_once : (g h : Seg) (d : ℕ) → Remains p v gone g → Remains p v gone h → d < p.N → zone_on g d ≡ zone_on h d → g ≡ h
  pub header_stands : (g : Seg) (d : ℕ) → Remains p v gone g → Present p gone d
      → chunk_at v d (zone_on g d) 0 ≡ mk_chunk (header_block p d (zones_in p g) (segment_of p v gone g).serial (segment_of p v gone g).copied) zero_spare
  pub serial_above : (g : Seg) → Remains p v gone g → (segment_of p v gone g).copied < (segment_of p v gone g).serial
  pub serial_once : (g h : Seg) → Remains p v gone g → Remains p v gone h → (segment_of p v gone g).serial ≡ (segment_of p v gone h).serial → g ≡ h
  pub in_group : (g : Seg) (d o : ℕ) → Remains p v gone g → Present p gone d → o < data_stored p (zone_at v d (zone_on g d))
      → in_group_of p o (record_at p v gone d g o).stripe ≡ true
  pub number_once : (g : Seg) (d o i : ℕ) → Remains p v gone g → Present p gone d → o < data_stored p (zone_at v d (zone_on g d)) → i < data_stored p (zone_at v d (zone_on g d))
      → (record_at p v gone d g o).stripe ≡ (record_at p v gone d g i).stripe → o ≡ i
  pub footer_made : (g : Seg) (d i : ℕ) → Remains p v gone g → Present p gone d → found_sealed old (segment_of p v gone g).serial ≡ false
      → i < footers_stored p (zone_at v d (zone_on g d))
      → (chunk_at v d (zone_on g d) (1 + p.S + i)).block ≡ footer_block p (spares_of (take p.S (drop 1 (zone_at v d (zone_on g d)).blocks))) i

pub layout_of : (p : Params) (v : View) (gone : ℕ) (old : List Segment) → Laid p v gone old → ParityMade p v gone old → Layout p v gone old
layout_of p v gone old l m = record {
  pointer_low = l.pointer_low;
  zone_good = l.zone_good;
  zone_once = l.zone_once;
  header_stands = l.header_stands;
  serial_above = l.serial_above;
  serial_once = l.serial_once;
  in_group = l.in_group;
  number_once = l.number_once;
  footer_made = l.footer_made;
  parity-made = m;
}

-- ---- one zone

-- 01, What a zone holds: zone q of drive d and segment g, whose records are read by footer where w holds
pub record ZoneLaid (p : Params) (old : List Segment) (w : Bool) (serial copied d : ℕ) (g : Seg) (q : Zone) : Type 0 where
  pub header_is : get_or q.blocks 0 no_chunk ≡ mk_chunk (header_block p d (zones_in p g) serial copied) zero_spare
  pub group_is : (o : ℕ) → o < data_stored p q → in_group_of p o (record_in p w q o).stripe ≡ true
  pub once_is : (o i : ℕ) → o < data_stored p q → i < data_stored p q → (record_in p w q o).stripe ≡ (record_in p w q i).stripe → o ≡ i
  pub footer_is : found_sealed old serial ≡ false → (i : ℕ) → i < footers_stored p q → (get_or q.blocks (1 + p.S + i) no_chunk).block ≡ footer_block p (spares_in p q) i

-- every zone of what remains
abbrev pub Zoned : Params → View → ℕ → List Segment → Type 0
Zoned p v gone old = (g : Seg) (d : ℕ) → In g (remaining p v gone) → d < p.N → is_in gone d ≡ false
    → ZoneLaid p old (sealed_in p v gone g) (segment_of p v gone g).serial (segment_of p v gone g).copied d g (zone_at v d (zone_on g d))

-- a segment with none missing, by its header on drive 0
abbrev pub SegLaid : Params → View → List Segment → Seg → Type 0
SegLaid p v old z = (d : ℕ) → d < p.N → ZoneLaid p old (sealed_in p v 0 z) (header_serial p (header_at v 0 z)) (header_copied p (header_at v 0 z)) d z (zone_at v d (zone_on z d))

-- every segment that there is
abbrev pub WellLaid : Params → View → List Segment → Type 0
WellLaid p v old = (z : Seg) → There p v z → SegLaid p v old z

pub laid_zoned : (p : Params) (v : View) (gone : ℕ) (old : List Segment) → Laid p v gone old → Zoned p v gone old
laid_zoned p v gone old l g d m hd hq =
    let k = seg_in g (remaining p v gone) m in
    record {
      header_is = head! (l.header_stands g d k (hd, hq));
      group_is = λ o h. group! o (l.in_group g d o k (hd, hq)) h;
      once_is = λ o i h j. once! o i (l.number_once g d o i k (hd, hq)) h j;
      footer_is = λ n i h. foot! i (l.footer_made g d i k (hd, hq) n) h;
    }
  where
    w : Bool
    w = sealed_in p v gone g

    q : Zone
    q = zone_at v d (zone_on g d)

    head! : chunk_at v d (zone_on g d) 0 ≡ mk_chunk (header_block p d (zones_in p g) (segment_of p v gone g).serial (segment_of p v gone g).copied) zero_spare
        → get_or q.blocks 0 no_chunk ≡ mk_chunk (header_block p d (zones_in p g) (segment_of p v gone g).serial (segment_of p v gone g).copied) zero_spare
    head! e = unfold chunk_at in e

    group! : (o : ℕ) → (o < data_stored p (zone_at v d (zone_on g d)) → in_group_of p o (record_at p v gone d g o).stripe ≡ true) → o < data_stored p q
        → in_group_of p o (record_in p w q o).stripe ≡ true
    group! o f = unfold record_at in f

    once! : (o i : ℕ) → (o < data_stored p (zone_at v d (zone_on g d)) → i < data_stored p (zone_at v d (zone_on g d)) → (record_at p v gone d g o).stripe ≡ (record_at p v gone d g i).stripe
        → o ≡ i)
        → o < data_stored p q → i < data_stored p q → (record_in p w q o).stripe ≡ (record_in p w q i).stripe → o ≡ i
    once! o i f = unfold record_at in f

    foot! : (i : ℕ) → (i < footers_stored p (zone_at v d (zone_on g d))
        → (chunk_at v d (zone_on g d) (1 + p.S + i)).block ≡ footer_block p (spares_of (take p.S (drop 1 (zone_at v d (zone_on g d)).blocks))) i)
        → i < footers_stored p q → (get_or q.blocks (1 + p.S + i) no_chunk).block ≡ footer_block p (spares_in p q) i
    foot! i f = unfold chunk_at spares_in in f

-- and back, where pointers, zones and serials are in order
pub zoned_laid : (p : Params) (v : View) (gone : ℕ) (old : List Segment) → Here p gone → SpotsApart p v gone
    → ((d z : ℕ) → d < p.N → z < p.Z → is_in gone d ≡ false → is_good p v.offline d z ≡ true → pointer_at v d z ≤ capacity p)
    → ((g : Seg) → In g (remaining p v gone) → (segment_of p v gone g).copied < (segment_of p v gone g).serial)
    → Zoned p v gone old → Laid p v gone old
zoned_laid p v gone old here apart low above z = record {
  pointer_low = λ d y k hy. low d y k.0 hy k.1;
  zone_good = λ g d m hd. let i = is_seg g (remaining p v gone) m in (seg-low p v gone here apart g i d hd, seg_good p v gone here apart g i d hd);
  zone_once = λ g h d m n hd. seg-alone p v gone here apart h (is_seg h (remaining p v gone) n) d hd g (is_seg g (remaining p v gone) m);
  header_stands = λ g d m k. head! g d (at g d m k).header_is;
  serial_above = λ g m. above g (is_seg g (remaining p v gone) m);
  serial_once = λ g h m n. serials_differ p v gone here g h (is_seg g (remaining p v gone) m) (is_seg h (remaining p v gone) n);
  in_group = λ g d o m k. group! g d o ((at g d m k).group_is o);
  number_once = λ g d o i m k. once! g d o i ((at g d m k).once_is o i);
  footer_made = λ g d i m k n. foot! g d i ((at g d m k).footer_is n i);
}
  where
    w : Seg → Bool
    w g = sealed_in p v gone g

    q : Seg → ℕ → Zone
    q g d = zone_at v d (zone_on g d)

    at : (g : Seg) (d : ℕ) → Remains p v gone g → Present p gone d
        → ZoneLaid p old (sealed_in p v gone g) (segment_of p v gone g).serial (segment_of p v gone g).copied d g (zone_at v d (zone_on g d))
    at g d m k = z g d (is_seg g (remaining p v gone) m) k.0 k.1

    head! : (g : Seg) (d : ℕ) → get_or (q g d).blocks 0 no_chunk ≡ mk_chunk (header_block p d (zones_in p g) (segment_of p v gone g).serial (segment_of p v gone g).copied) zero_spare
        → chunk_at v d (zone_on g d) 0 ≡ mk_chunk (header_block p d (zones_in p g) (segment_of p v gone g).serial (segment_of p v gone g).copied) zero_spare
    head! g d e = unfold chunk_at in e

    group! : (g : Seg) (d o : ℕ) → (o < data_stored p (q g d) → in_group_of p o (record_in p (w g) (q g d) o).stripe ≡ true)
        → o < data_stored p (zone_at v d (zone_on g d)) → in_group_of p o (record_at p v gone d g o).stripe ≡ true
    group! g d o f = unfold record_at in f

    once! : (g : Seg) (d o i : ℕ) → (o < data_stored p (q g d) → i < data_stored p (q g d) → (record_in p (w g) (q g d) o).stripe ≡ (record_in p (w g) (q g d) i).stripe → o ≡ i)
        → o < data_stored p (zone_at v d (zone_on g d)) → i < data_stored p (zone_at v d (zone_on g d)) → (record_at p v gone d g o).stripe ≡ (record_at p v gone d g i).stripe → o ≡ i
    once! g d o i f = unfold record_at in f

    foot! : (g : Seg) (d i : ℕ) → (i < footers_stored p (q g d) → (get_or (q g d).blocks (1 + p.S + i) no_chunk).block ≡ footer_block p (spares_in p (q g d)) i)
        → i < footers_stored p (zone_at v d (zone_on g d))
        → (chunk_at v d (zone_on g d) (1 + p.S + i)).block ≡ footer_block p (spares_of (take p.S (drop 1 (zone_at v d (zone_on g d)).blocks))) i
    foot! g d i f = unfold chunk_at spares_in in f

-- ---- what a restart's checks give

-- an unsealed zone's footers are made from its spares
pub checked-footers : (p : Params) (q : Zone) → footer_fault_in p q ≡ false → (i : ℕ) → i < footers_stored p q
    → (get_or q.blocks (1 + p.S + i) no_chunk).block ≡ footer_block p (spares_in p q) i
checked-footers p q f i h =
    let n = footers_stored p q in
    let e : blocks_of (take n (drop (1 + p.S) q.blocks)) ≡ map (footer_block p (spares_in p q)) (up_from 0 n) =
    same! (same_blocks (blocks_of (take n (drop (1 + p.S) q.blocks))) (footers_of p q 0 n) (fault! f)) in
    ap (λ (c : Chunk). c.block) (sym (get_or-take n (drop (1 + p.S) q.blocks) i no_chunk h ∙ get_or-drop (1 + p.S) q.blocks i no_chunk))
    ∙ sym (blocks_at (take n (drop (1 + p.S) q.blocks)) i) ∙ ap (λ (l : List (List ℕ)). get_or l i []) e
    ∙ get_d_map (footer_block p (spares_in p q)) (up_from 0 n) i [] 0 (subst (λ (x : ℕ). i < x) (sym (length_up_from 0 n)) h)
    ∙ ap (footer_block p (spares_in p q)) (get_d_up_from 0 n i 0 h ∙ zero-add i)
  where
    fault! : footer_fault_in p q ≡ false → same_blocks_of (blocks_of (take (footers_stored p q) (drop (1 + p.S) q.blocks))) (footers_of p q 0 (footers_stored p q)) ≡ true
    fault! x = unfold footer_fault_in in not-false (same_blocks_of (blocks_of (take (footers_stored p q) (drop (1 + p.S) q.blocks))) (footers_of p q 0 (footers_stored p q))) x

    same! : {l : List (List ℕ)} → l ≡ footers_of p q 0 (footers_stored p q) → l ≡ map (footer_block p (spares_in p q)) (up_from 0 (footers_stored p q))
    same! x = unfold footers_of spares_in in x

module _ (p : Params) (v : View) (gone : ℕ) (acc : Accepted p v gone) where
  -- a sealed segment of an accepted image is found sealed
  pub sealed-found : (g : Seg) → In g (remaining p v gone) → sealed_in p v gone g ≡ true → found_sealed (segments p v gone) (segment_of p v gone g).serial ≡ true
  sealed-found g m q = as! (in_any found (segments p v gone) (segment_of p v gone g) (seg! (in_map (segment_of p v gone) (remaining p v gone) g m))
      (and_both (eqb (segment_of p v gone g).serial (segment_of p v gone g).serial) (segment_of p v gone g).full (eqb_self (segment_of p v gone g).serial) (full_is p v gone g ∙ q)))
    where
      found : Segment → Bool
      found x = eqb x.serial (segment_of p v gone g).serial && x.full

      as! : any found (segments p v gone) ≡ true → found_sealed (segments p v gone) (segment_of p v gone g).serial ≡ true
      as! e = unfold found_sealed in e

      seg! : In (segment_of p v gone g) (map (segment_of p v gone) (remaining p v gone)) → In (segment_of p v gone g) (segments p v gone)
      seg! i = unfold segments in i

  module _ (here : Here p gone) where
    -- every zone of an accepted image
    pub accepted_zoned : Zoned p v gone (segments p v gone)
    accepted_zoned g d m hd hq = record {
      header_is = header_ok p v gone acc here g d m hd hq;
      group_is = λ o h. in_groups p v gone acc g d o m hd hq h;
      once_is = λ o i h j e. accept_stripe_once p v gone acc g d o i m hd hq h j e;
      footer_is = λ nf i h. go nf i h (test (sealed_in p v gone g));
    }
      where
        go : found_sealed (segments p v gone) (segment_of p v gone g).serial ≡ false → (i : ℕ) → i < footers_stored p (zone_at v d (zone_on g d)) → Test (sealed_in p v gone g)
            → (get_or (zone_at v d (zone_on g d)).blocks (1 + p.S + i) no_chunk).block ≡ footer_block p (spares_in p (zone_at v d (zone_on g d))) i
        go nf i h (yes! q) = clash (sealed-found g m q) nf
        go nf i h (no! q) = checked-footers p (zone_at v d (zone_on g d)) (open_footers p v gone acc g d m hd hq q) i h

    pub laid_accepted : (old : List Segment) → Zoned p v gone old → Laid p v gone old
    laid_accepted old z =
        zoned_laid p v gone old here (accepted_apart p v gone acc here) (λ d y hd hy hq gd. pointer_ok p v gone acc d y hd hy hq gd) (copied-low p v gone acc) z

-- ---- with none missing

module _ (p : Params) (r : Ranged p) (v : View) (s : ℕ) (t : Tidy p v s) (old : List Segment) where
  copied_of : (g : Seg) → (segment_of p v 0 g).copied ≡ header_copied p (header_at v 0 g)
  copied_of g = copied_is p v 0 g ∙ ap (λ (x : ℕ). header_copied p (header_at v x g)) (low_first p r)

  pub laid_tidy : WellLaid p v old → Laid p v 0 old
  laid_tidy f = zoned_laid p v 0 old (zero_here p r) (none_apart p v) (λ d y hd hy hq gd. t.pointer_low d y hd hy gd) above
      (λ g d m hd hq.
      subst (λ (x : ℕ). ZoneLaid p old (sealed_in p v 0 g) x (segment_of p v 0 g).copied d g (zone_at v d (zone_on g d))) (sym (serial_of p r v s t g))
      (subst (λ (x : ℕ). ZoneLaid p old (sealed_in p v 0 g) (header_serial p (header_at v 0 g)) x d g (zone_at v d (zone_on g d))) (sym (copied_of g)) (f g (remaining_left p v 0 g m) d hd)))
    where
      above : (g : Seg) → In g (remaining p v 0) → (segment_of p v 0 g).copied < (segment_of p v 0 g).serial
      above g m = let a = serial_of p r v s t g in let b = copied_of g in let c = t.copied_less g (remaining_left p v 0 g m) in omega arith

  pub tidy_laid : Laid p v 0 old → WellLaid p v old
  tidy_laid l z hz d hd =
      subst (λ (x : ℕ). ZoneLaid p old (sealed_in p v 0 z) x (header_copied p (header_at v 0 z)) d z (zone_at v d (zone_on z d))) (serial_of p r v s t z)
      (subst (λ (x : ℕ). ZoneLaid p old (sealed_in p v 0 z) (segment_of p v 0 z).serial x d z (zone_at v d (zone_on z d))) (copied_of z)
      (laid_zoned p v 0 old l z d (there_remains p r v s t z hz) hd (is_in_empty d)))

-- a segment whose zones are the same
pub laid_same : (p : Params) (r : Ranged p) (v u : View) (old : List Segment) (z : Seg) → SameZones p v u z → SegLaid p v old z → SegLaid p u old z
laid_same p r v u old z sm f d hd =
    subst (λ (q : Zone). ZoneLaid p old (sealed_in p u 0 z) (header_serial p (header_at u 0 z)) (header_copied p (header_at u 0 z)) d z q) (sm d hd)
    (subst (λ (b : List ℕ). ZoneLaid p old (sealed_in p u 0 z) (header_serial p b) (header_copied p b) d z (zone_at v d (zone_on z d))) (zones_header p r v u z sm)
    (subst (λ (w : Bool). ZoneLaid p old w (header_serial p (header_at v 0 z)) (header_copied p (header_at v 0 z)) d z (zone_at v d (zone_on z d))) (zones_sealed p r v u z sm) (f d hd)))
