-- `encode_block`: with nothing left out the fold is over all data positions. Assumes nothing.
use mathlib.Core.Path.{ap, ◌∙◌}
use mathlib.Core.List.{List}
use Prim.Native.Nat.{ℕ}
use native.Mathlib.Omega.{arith}
use Rattle.spec.specs.Bytes.{parity}
use Rattle.spec.specs.Parity.{encode_block}
use Rattle.disk_code.specs.Folds.{kept, parts_of, kept_none_out}
use Rattle.disk_code.proofs.encode_block.Goals as goal

pub fold_parts-requires : goal.fold_parts-requires
fold_parts-requires c =
    let pre = c.requires in
    let n = c.data_count.ensures in record { n_in_bounds = (omega (arith, n.2, pre.at_len.0), pre.at_len.1); parts_within = λ k h e. pre.parts_within k (omega (arith, h, n.0)) e }

pub returns : goal.returns
unfolding encode_block
returns c =
    let a = c.args in
    c.fold_parts.ensures
    ∙ ap (λ (l : List ℕ). parity a.p.B (parts_of a.src.now a.at.now a.p.B l)) (ap (kept 0) c.data_count.ensures.0 ∙ kept_none_out _)
