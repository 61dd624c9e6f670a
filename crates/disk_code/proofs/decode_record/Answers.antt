-- `decode_record`: both folds leave out the missing drives. Assumes nothing.
use mathlib.Core.Path.{sym, ap, ◌∙◌}
use Prim.Native.Nat.{ℕ}
use native.Mathlib.Omega.{arith}
use lib.ListN.{get_or}
use Rattle.spec.specs.Bytes.{xor_all}
use Rattle.spec.specs.Layout.{Rec, mk_rec}
use Rattle.spec.specs.Params.{drives_of, present}
use Rattle.spec.specs.Parity.{parity_rec, decode_rec}
use Rattle.law_basic.specs.Geometry.{ranged}
use Rattle.law_basic.specs.Ranges.{map-map}
use Rattle.disk_code.specs.Folds.{kept}
use Rattle.disk_code.proofs.decode_record.Goals as goal

pub fold_numbers-requires : goal.fold_numbers-requires
fold_numbers-requires c =
    let pre = c.requires in
    omega (arith, (ranged c.args.p pre.p_value).drives_high, pre.addresses_len.0)

pub fold_numbers-requires-2 : goal.fold_numbers-requires-2
fold_numbers-requires-2 c =
    let pre = c.requires in
    omega (arith, (ranged c.args.p pre.p_value).drives_high, pre.addresses_len.1)

pub returns : goal.returns
unfolding decode_rec parity_rec present drives_of
returns c =
    let a = c.args in
    let f : ℕ → Rec = λ i. mk_rec (get_or a.addresses.now i 0) (get_or a.stamps.now i 0) a.stripe in
    let l = kept a.gone a.p.N in
    let x = c.fold_numbers.ensures ∙ ap xor_all (sym (map-map (λ (r : Rec). r.address) f l)) in
    let y = c.fold_numbers-2.ensures ∙ ap xor_all (sym (map-map (λ (r : Rec). r.stamp) f l)) in
    λ j. mk_rec (x j) (y j) a.stripe
