-- `write_header`: zeros, then the header's first fields, the zones of the segment and the last fields: the header block padded with zeros, and its spare all zero. Assumes nothing.
use mathlib.Core.Path.{◌≡◌, refl, sym, ap, ◌∙◌}
use mathlib.Core.List.{List}
use Prim.Native.Nat.{ℕ, ◌≤◌}
use native.Mathlib.Omega.{arith}
use lib.ListN.{length, replicate}
use Rattle.spec.specs.Bytes.{splice, bytes_of}
use Rattle.spec.specs.Drives.{zones_in}
use Rattle.spec.specs.Layout.{header_version, header_len, header_fields}
use Rattle.spec.specs.Lists.{total, zipped}
use Rattle.spec.specs.Params.{unit_len}
use Rattle.law_basic.specs.Fields.{header_fits, header_length, head_fields}
use Rattle.law_basic.specs.Geometry.{ranged}
use Rattle.law_basic.specs.Segs.{zones_in_long}
use Rattle.disk_records.specs.Header.{three_written, header_written}
use Rattle.disk_records.proofs.write_header.Goals as goal

pub overflow_mul-head : goal.overflow_mul-head
overflow_mul-head c =
    omega (arith, (ranged c.args.p c.requires.0).drives_high)

pub overflow_add-head : goal.overflow_add-head
overflow_add-head c =
    omega (arith, (ranged c.args.p c.requires.0).drives_high)

pub write_fields-requires : goal.write_fields-requires
unfolding total unit_len
write_fields-requires c =
    let p = c.args.p in
    (refl, omega (arith, c.clear.auto.dst, (ranged p c.requires.0).block_low, c.requires.1))

pub write_zones-requires : goal.write_zones-requires
unfolding unit_len
write_zones-requires c =
    let p = c.args.p in (
      c.requires.0,
      omega (
        arith,
        c.write_fields.auto.dst,
        c.clear.auto.dst,
        header_fits p (ranged p
            c.requires.0),
        c.requires.1,
      ),
    )

pub overflow_mul-p : goal.overflow_mul-p
overflow_mul-p c =
    omega (arith, (ranged c.args.p c.requires.0).drives_high)

pub overflow_add-p : goal.overflow_add-p
overflow_add-p c =
    omega (arith, (ranged c.args.p c.requires.0).drives_high)

pub write_fields-requires-2 : goal.write_fields-requires-2
unfolding total unit_len
write_fields-requires-2 c =
    let p = c.args.p in (
      refl,
      omega (
        arith,
        c.write_zones.auto.dst,
        c.write_fields.auto.dst,
        c.clear.auto.dst,
        header_length p,
        header_fits p (ranged p
            c.requires.0),
        c.requires.1,
      ),
    )

pub returns : goal.returns
unfolding header_version zipped unit_len
returns c =
    let a = c.args in
    let p = a.p in
    let clear = c.clear in
    let first = c.write_fields in
    let zones = c.write_zones in
    let last = c.write_fields-2 in
    let z : clear.new.dst ≡ replicate (unit_len p) 0 = clear.ensures ∙ ap (λ (x : ℕ). replicate x 0) c.requires.1 in
    let zs = zones_in p a.segment in
    let many : length zs ≡ p.N = zones_in_long p a.segment in
    let long : header_len p ≤ length clear.new.dst = omega (arith, clear.auto.dst, header_fits p (ranged p c.requires.0), c.requires.1) in
    header_written p (ranged p c.requires.0) a.drive zs a.serial.0 a.copied.0 last.new.dst many
    (three_written p a.drive zs a.serial.0 a.copied.0 many clear.new.dst first.new.dst zones.new.dst last.new.dst long
    (first.ensures ∙ ap (λ (n : ℕ). splice clear.new.dst 0 (bytes_of (head_fields n p a.drive))) (sym (header_length p))) zones.ensures last.ensures
    ∙ ap (λ (x : List ℕ). splice x 0 (bytes_of (header_fields p a.drive zs a.serial.0 a.copied.0))) z)
