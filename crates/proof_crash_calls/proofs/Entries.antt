-- What lies at the place of a table's entry. Assumes nothing.
use Rattle.std.specs.Prelude.{◌≡◌, List, false, ℕ, suc, ◌-◌, ◌≤◌, ◌<◌, length, get_or}
use Rattle.std.proofs.Common.{sym, ap, ◌∙◌, subst, arith}
use Rattle.std.proofs.Math.Path.{ap₂}
use Rattle.spec.specs.declared.Params.{Params}
use Rattle.spec.specs.Counts.{never_place}
use Rattle.spec.specs.Drives.{no_chunk, Zone, View, zone_at, chunk_at, zone_on, record_at}
use Rattle.spec.specs.Layout.{record_of_of}
use Rattle.spec.specs.Params.{capacity, place_block, place_zone, place_drive, place_of}
use Rattle.law_basic.specs.Geometry.{Ranged, place_again, place_lt}
use Rattle.proof_crash_machine.specs.Facts.{Ghost, Off, None, Choice, R}
use Rattle.proof_crash_machine.specs.Val.{Val}
use Rattle.proof_crash_machine.specs.View.Item.{chunk}
use Rattle.law_basic.specs.Mask.{is_in_empty}
use Rattle.law_drives.specs.Spots.{place_holder}
use Rattle.proof_crash_machine.specs.View.{Item, ItemView}
use Rattle.proof_crash_items.specs.Items.{value_of, of_chunk}
use Rattle.proof_crash_items.specs.Named.{zero_choice, none_out}
use Rattle.proof_crash_items.specs.Member.{Has}
use Rattle.proof_crash_items.specs.Segs.{OnDrives, SegAt, named_seg, named_zone, has_remaining, seg-at, drive_here, apart_there, seg_pointer_low}
use Rattle.proof_crash_items.specs.Stripes.{seg_items}
use Rattle.proof_crash_calls.proofs.Places.{counted_none, record_of_spare}
use Rattle.spec.specs.Lists.{is_in}
use Rattle.spec.specs.Segments.{remaining, place_segment, place_record}
use Rattle.proof_crash_items.specs.Ranges.{capacity_few, par_of}
use Rattle.proof_crash_items.specs.Reading.{places_many}
use Rattle.proof_crash_calls.specs.Held.{Entry}
use Rattle.proof_crash_calls.proofs.Sends.{value_stamp}
use Rattle.spec.specs.declared.Seg.{Seg}

module _ (p : Params) (h : Ranged p) (off : List ℕ) (g : Ghost) (v : View) (u : ItemView) (k : OnDrives p h off g v u) (none? : None (par_of p h off) g.un) (q a : ℕ)
    (e : Entry p h off g u q a) where
  abbrev dd : ℕ
  dd = place_drive p q

  -- its segment, by name
  abbrev zz : Seg
  zz = named_seg p g e.n

  entries_ch : Choice (par_of p h off) g.un (is_in 0)
  entries_ch = zero_choice p h off g.un none?

  -- it remains
  pub entry_remains : R (par_of p h off) g.hd u (is_in 0) e.n
  entry_remains = subst (R (par_of p h off) g.hd u (is_in 0)) e.same (counted_none (par_of p h off) g.hd u g.un (is_in 0) none? (none_out p h off) e.x e.counts).rem

  pub entry_there : Has (named_seg p g e.n) (remaining p v 0)
  entry_there = has_remaining p h off g v u k 0 entries_ch e.n entry_remains

  pub entries_entry_at : SegAt p v u 0 (named_seg p g e.n) e.n
  entries_entry_at = seg-at p h off g v u k 0 entries_ch e.n entry_remains.left

  pub entry_zone : zone_on (named_seg p g e.n) (place_drive p q) ≡ place_zone p q
  entry_zone = named_zone p g e.n dd e.drive ∙ e.lies

  present? : is_in 0 dd ≡ false
  present? = is_in_empty dd

  abbrev zone : Zone
  zone = zone_at v (place_drive p q) (zone_on (named_seg p g e.n) (place_drive p q))

  entry_found : (o : ℕ) × (place_block p q ≡ suc o) × (o < p.S) × (suc o < zone.pointer) × ((record_of_of (get_or zone.blocks (suc o) no_chunk).spare).stripe ≡ e.s)
      × (value_of (get_or zone.blocks (suc o) no_chunk).block (record_of_of (get_or zone.blocks (suc o) no_chunk).spare) ≡ e.x)
  entry_found =
      of_chunk p zone (seg_pointer_low p h off g v u k 0 entries_ch zz entries_entry_at dd e.drive present?) (place_block p q) e.s e.x
      (subst (λ (l : List Item). Off l (place_block p q) (chunk e.s e.x)) (seg_items p v u 0 zz e.n entries_entry_at dd e.drive present?) e.at)

  pub entry_block : (1 ≤ place_block p q) × (place_block p q ≤ p.S)
  entry_block = (omega (arith, entry_found.1), omega (arith, entry_found.1, entry_found.2))

  pub entry_within : place_block p q < capacity p
  entry_within = omega (arith, entry_block.1, capacity_few p h)

  pub entry_low : q < never_place
  entry_low = omega (arith, place_again p q, place_lt p dd (place_zone p q) (place_block p q) e.drive e.zone entry_within, places_many p h)

  -- the segment of the place
  pub entry_segment : place_segment p v 0 q ≡ named_seg p g e.n
  entry_segment = ap (place_segment p v 0) (sym (place_again p q) ∙ ap (λ (y : ℕ). place_of p dd y (place_block p q)) (sym entry_zone))
      ∙ place_holder p v 0 (drive_here p h off g v u k 0 entries_ch) (apart_there p h off g v u k 0 entries_ch) zz entry_there dd e.drive h (place_block p q) entry_within

  -- the block and the record there
  pub entry_value : value_of (chunk_at v (place_drive p q) (place_zone p q) (place_block p q)).block (place_record p v 0 q) ≡ e.x
  unfolding chunk_at
  entry_value =
      ap₂ value_of (ap₂ (λ (y n : ℕ). (get_or (zone_at v dd y).blocks n no_chunk).block) (sym entry_zone) entry_found.1)
      (ap₂ (record_at p v 0 dd) entry_segment (let i : place_block p q - 1 ≡ entry_found.0 = omega (arith, entry_found.1) in i)
      ∙ record_of_spare p h off g v u k none? dd zz entry_found.0 e.drive entries_entry_at entry_found.2) ∙ entry_found.5

  pub entry_stamp : (place_record p v 0 q).stamp ≡ e.x.stamp
  entry_stamp = sym (value_stamp (chunk_at v dd (place_zone p q) (place_block p q)).block (place_record p v 0 q)) ∙ ap (λ (y : Val). y.stamp) entry_value

  pub entry_long : length (chunk_at v (place_drive p q) (place_zone p q) (place_block p q)).block ≡ p.B
  entry_long = (k.shape.long dd (place_zone p q) (place_block p q) e.drive e.zone entry_within).0
