-- `put_header_with`: the first B bytes of the unit are the header block, of that length; with a spare of zeros it is the one store. Assumes nothing.
use mathlib.Core.Path.{◌≡◌, sym, ap, ◌∙◌, subst}
use mathlib.Core.List.{List, [], ◌∷◌}
use Prim.Native.Nat.{ℕ}
use native.Mathlib.Omega.{arith}
use lib.ListN.{length, take}
use lib.Seq.{take_at}
use Rattle.spec.specs.Drives.Store.{put}
use Rattle.spec.specs.Drives.{mk_disk, zero_spare, zones_in}
use Rattle.spec.specs.Layout.{header_block}
use Rattle.spec.specs.Params.{unit_len}
use Rattle.law_basic.specs.Fields.{length-zero_spare, header_block_long}
use Rattle.law_basic.specs.Geometry.{ranged}
use Rattle.law_basic.specs.Segs.{zones_in_long}
use Rattle.disk_zones.specs.Made.{Storing}
use Rattle.recover_reset.proofs.put_header_with.Goals as goal
use Rattle.recover_reset.proofs.put_header_with.Lts
use Rattle.recover_reset.proofs.put_header_with.Reads
use Rattle.recover_reset.proofs.put_header_with.Tie

abbrev After-put_limited-arg2 : Type 0
After-put_limited-arg2 = Lts.After-put_limited-arg2 Tie.the-claims Reads.Pre Reads.Post Tie.handed_clauses

pub write_header-requires : goal.write_header-requires
write_header-requires c =
    let pre = c.requires in
    (pre.p_value, pre.drive_lt_n.3, pre.drive_lt_n.0)

-- the block and its length
block_is :
    (c : After-put_limited-arg2)
    → take c.before.before.before.before.before.before.before.before.before.before.args.p.B
    c.before.before.before.before.write_header.new.dst ≡ header_block
    c.before.before.before.before.before.before.before.before.before.before.args.p
    c.before.before.before.before.before.before.before.before.before.before.args.drive
    (zones_in c.before.before.before.before.before.before.before.before.before.before.args.p
    c.before.before.before.before.before.before.before.before.before.before.args.segment)
    c.before.before.before.before.before.before.before.before.before.before.args.serial.0
    c.before.before.before.before.before.before.before.before.before.before.args.copied.0
block_is c =
    let at_write_header = c.before.before.before.before in
    let start = at_write_header.before.before.before.before.before.before in
    let a = start.args in
    let write-header = at_write_header.write_header in
    let pre = start.requires in
    let r = ranged a.p pre.p_value in
    let h = header_block a.p a.drive (zones_in a.p a.segment) a.serial.0 a.copied.0 in
    ap (take a.p.B) write-header.ensures ∙ take_at h zero_spare a.p.B
    (header_block_long a.p r a.drive (zones_in a.p a.segment) a.serial.0 a.copied.0 (zones_in_long a.p a.segment))

block_long :
    (c : After-put_limited-arg2)
    → length (take c.before.before.before.before.before.before.before.before.before.before.args.p.B
    c.before.before.before.before.write_header.new.dst) ≡
    c.before.before.before.before.before.before.before.before.before.before.args.p.B
block_long c =
    let start = c.before.before.before.before.before.before.before.before.before.before in
    let a = start.args in
    let pre = start.requires in
    let r = ranged a.p pre.p_value in
    ap length (block_is c) ∙ header_block_long a.p r a.drive (zones_in a.p a.segment) a.serial.0 a.copied.0 (zones_in_long a.p a.segment)

pub slice_bounds-put_limited-end : goal.slice_bounds-put_limited-end
unfolding unit_len
slice_bounds-put_limited-end c =
    let write-header = c.write_header in
    let pre = c.requires in
    omega (arith, write-header.auto.dst, pre.drive_lt_n.3)

pub slice_bounds-put_limited-end-2 : goal.slice_bounds-put_limited-end-2
slice_bounds-put_limited-end-2 c = sym (block_long c.before)

pub put_limited-requires : goal.put_limited-requires
put_limited-requires c =
    let q = c.requires in record {
      p_value = q.p_value;
      whole = q.whole;
      drive_lt_n = (q.drive_lt_n.0, q.drive_lt_n.1, q.drive_lt_n.2);
      block_len =
          (block_long c.before, ap length q.drive_lt_n.4 ∙ length-zero_spare);
    }

pub returns : goal.returns
returns c =
    let at_put_limited_arg = c.before.before.before.before.before.before in
    let a = c.args in
    let put-limited = c.put_limited in
    let write-header = c.write_header in
    let pre = c.requires in
    let k = mk_disk a.image.now a.pointers.now in
    let k' = mk_disk put-limited.new.image put-limited.new.pointers in
    let m = put-limited.result in
    subst (λ (x : List ℕ). Storing a.p a.count (put a.drive a.zone x zero_spare ∷ []) k m k') (block_is at_put_limited_arg)
    (subst (λ (x : List ℕ). Storing a.p a.count (put a.drive a.zone (take a.p.B write-header.new.dst) x ∷ []) k m k') pre.drive_lt_n.4 put-limited.ensures)
