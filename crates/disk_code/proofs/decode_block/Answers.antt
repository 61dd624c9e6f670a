-- `decode_block`: the fold leaves out the missing drives. Assumes nothing.
use native.Mathlib.Omega.{arith}
use Rattle.spec.specs.Params.{drives_of, present}
use Rattle.spec.specs.Parity.{decode_block}
use Rattle.law_basic.specs.Geometry.{ranged}
use Rattle.disk_code.proofs.decode_block.Goals as goal

pub fold_parts-requires : goal.fold_parts-requires
fold_parts-requires c =
    let pre = c.requires in
    let r = ranged c.args.p pre.p_value in record { n_in_bounds = (omega (arith, r.drives_high, pre.at_len.0), pre.at_len.1); parts_within = pre.parts_within }

pub returns : goal.returns
unfolding decode_block present drives_of
returns c = c.fold_parts.ensures
