-- `encode_record`: with nothing left out both folds are over the first n positions. Assumes nothing.
use mathlib.Core.Path.{sym, ap, ◌∙◌}
use mathlib.Core.List.{List, map}
use Prim.Native.Nat.{ℕ}
use lib.ListN.{get_or}
use Rattle.spec.specs.Bytes.{xor_all}
use Rattle.spec.specs.Layout.{Rec, mk_rec}
use Rattle.spec.specs.Lists.{below}
use Rattle.spec.specs.Parity.{parity_rec, encode_rec}
use Rattle.law_basic.specs.Ranges.{map-map}
use Rattle.disk_code.specs.Folds.{kept_none_out}
use Rattle.disk_code.proofs.encode_record.Goals as goal

pub returns : goal.returns
unfolding encode_rec parity_rec
returns c =
    let a = c.args in
    let f : ℕ → Rec = λ i. mk_rec (get_or a.addresses.now i 0) (get_or a.stamps.now i 0) a.stripe in
    let x = c.fold_numbers.ensures
    ∙ ap (λ (l : List ℕ). xor_all (map (λ i. get_or a.addresses.now i 0) l)) (kept_none_out a.n) ∙ ap xor_all (sym (map-map (λ (r : Rec). r.address) f (below a.n))) in
    let y = c.fold_numbers-2.ensures
    ∙ ap (λ (l : List ℕ). xor_all (map (λ i. get_or a.stamps.now i 0) l)) (kept_none_out a.n) ∙ ap xor_all (sym (map-map (λ (r : Rec). r.stamp) f (below a.n))) in
    λ j. mk_rec (x j) (y j) a.stripe
