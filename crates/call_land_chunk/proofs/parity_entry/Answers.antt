-- `parity_entry`: the row's addresses and stamps are those of the filled positions, which `encode_record` folds. Assumes nothing.
use mathlib.Core.Path.{◌≡◌, sym, ap, ◌∙◌}
use mathlib.Core.List.{map}
use Prim.Native.Nat.{ℕ, ◌≤◌}
use native.Mathlib.Omega.{arith}
use borrow.Author.Rules.{rules}
use lib.ListN.{length, get_or}
use Rattle.spec.specs.Layout.{Rec, mk_rec}
use Rattle.spec.specs.Lists.{below}
use Rattle.spec.specs.Memory.{stripe_in, filled_in_of, entry_in_of, entries_in}
use Rattle.spec.specs.Parity.{encode_rec}
use Rattle.law_basic.specs.Ranges.{map_same}
use Rattle.call_land_chunk.specs.Alone.{alone, alone_entry}
use Rattle.call_land_chunk.proofs.parity_entry.Goals as goal
use Rattle.call_land_chunk.proofs.parity_entry.Goals.{Start}

long_addresses : (c : Start) → length c.args.row.addresses ≡ 8
long_addresses c = search rules

long_stamps : (c : Start) → length c.args.row.stamps ≡ 8
long_stamps c = search rules

pub encode_record-requires : goal.encode_record-requires
encode_record-requires c =
    let n : c.filled_in-n.result ≤ 8 = omega (arith, c.filled_in-n.ensures, c.requires) in
    (omega (arith, n, long_addresses (goal.at.encode_record-requires c).Start), omega (arith, n, long_stamps (goal.at.encode_record-requires c).Start))

pub returns : goal.returns
unfolding entries_in stripe_in alone
returns c =
    let r = c.args.row in
    let f : ℕ → Rec = λ i. mk_rec (get_or r.addresses i 0) (get_or r.stamps i 0) r.number in
    c.encode_record.ensures
    ∙ ap (λ (n : ℕ). encode_rec 0 r.number (map f (below n))) c.filled_in-n.ensures
    ∙ ap (encode_rec 0 r.number) (map_same f (entry_in_of (alone r) 0) (below (filled_in_of (alone r) 0)) (λ i. sym (alone_entry r i)))
