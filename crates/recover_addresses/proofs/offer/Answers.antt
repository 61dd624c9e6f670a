-- `offer`: `told_high` where the address is not below L, `told_fresh` where it has no place, then `told_won` or `told_lost` by who beats whom. Assumes nothing.
use mathlib.Core.Path.{sym, ◌∙◌, subst}
use mathlib.Core.List.{List, [], ◌∷◌, ◌++◌}
use Prim.Native.Nat.{ℕ}
use Rattle.spec.specs.Drives.{View, view_of}
use Rattle.law_basic.specs.Geometry.{ranged}
use Rattle.disk_rank.specs.Ranked.{ranked}
use Rattle.recover_addresses.specs.Told.{Told, HasCand, told_fits, told_high, told_fresh, told_won, told_lost, told_placed}
use Rattle.recover_addresses.proofs.offer.Goals as goal

pub returns-then-p-address : goal.returns-then-p-address
returns-then-p-address c =
    let a = c.args in
    let q = c.requires in
    let v : View = view_of a.p a.offline.now a.image.now a.pointers.now in
    λ cs t. told_high a.p (ranged a.p q.ground.in_range_holds) v a.gone q.ground.here q.ground.apart a.compact.now a.addresses.now cs t (ranked a.c) q.near c.if-p-address.true

pub place_at-place-requires : goal.place_at-place-requires
place_at-place-requires c =
    let a = c.args in
    let q = c.requires in
    let v : View = view_of a.p a.offline.now a.image.now a.pointers.now in
    told_fits a.p v a.gone a.compact.now a.addresses.now q.known.0 q.known.1 a.c.address.0 c.if-p-address.false

pub set_place-requires : goal.set_place-requires
set_place-requires c =
    let a = c.args in
    let q = c.requires in
    let if1 = c.if-p-address in
    let v : View = view_of a.p a.offline.now a.image.now a.pointers.now in
    told_fits a.p v a.gone a.compact.now a.addresses.now q.known.0 q.known.1 a.c.address.0 if1.false

pub returns-then-place : goal.returns-then-place
returns-then-place c =
    let a = c.args in
    let q = c.requires in
    let set-place = c.set_place in
    let if2 = c.if-place in
    let place_at = c.place_at-place in
    let if1 = c.if-p-address in
    let v : View = view_of a.p a.offline.now a.image.now a.pointers.now in
    λ cs t. subst (λ (x : List ℕ). Told a.p v a.gone a.compact.now x (cs ++ (ranked a.c ∷ []))) (sym set-place.ensures)
    (told_fresh a.p (ranged a.p q.ground.in_range_holds) v a.gone q.ground.here q.ground.apart a.compact.now a.addresses.now cs t (ranked a.c) q.near if1.false
    (sym place_at.ensures ∙ if2.true))

pub cand_at-h-requires : goal.cand_at-h-requires
cand_at-h-requires c =
    let a = c.args in
    let q = c.requires in
    let place_at = c.place_at-place in
    let if1 = c.if-p-address in
    let v : View = view_of a.p a.offline.now a.image.now a.pointers.now in
    let e = place_at.ensures in record {
      ground = q.ground;
      gathered = q.gathered;
      has_cand = subst (λ (x : ℕ). HasCand a.p v a.gone a.compact.now a.c.address.0 x) (sym e)
          (told_placed a.p (ranged a.p q.ground.in_range_holds) v a.gone q.ground.here q.ground.apart a.compact.now a.addresses.now q.known.0 q.known.1 a.c.address.0
          if1.false
          (λ x. c.if-place.false (e ∙ x)));
    }

pub set_place-requires-then-beats : goal.set_place-requires-then-beats
set_place-requires-then-beats c =
    let a = c.args in
    let q = c.requires in
    let if1 = c.if-p-address in
    let v : View = view_of a.p a.offline.now a.image.now a.pointers.now in
    told_fits a.p v a.gone a.compact.now a.addresses.now q.known.0 q.known.1 a.c.address.0 if1.false

pub returns-then-beats : goal.returns-then-beats
returns-then-beats c =
    let a = c.args in
    let q = c.requires in
    let set-place2 = c.set_place-then-beats in
    let if3 = c.if-beats in
    let beats = c.beats in
    let cand_at = c.cand_at-h in
    let if2 = c.if-place in
    let place_at = c.place_at-place in
    let if1 = c.if-p-address in
    let v : View = view_of a.p a.offline.now a.image.now a.pointers.now in
    let e = place_at.ensures in
    λ cs t. subst (λ (x : List ℕ). Told a.p v a.gone a.compact.now x (cs ++ (ranked a.c ∷ []))) (sym set-place2.ensures)
    (told_won a.p (ranged a.p q.ground.in_range_holds) v a.gone q.ground.here q.ground.apart a.compact.now a.addresses.now cs t (ranked a.c) q.near if1.false
    (λ x. if2.false (e ∙ x))
    (ranked cand_at.result)
    (λ h k y z. cand_at.ensures h k (y ∙ sym e) z) (sym beats.ensures ∙ if3.true))

pub returns-else-beats : goal.returns-else-beats
returns-else-beats c =
    let a = c.args in
    let q = c.requires in
    let cand_at = c.cand_at-h in
    let if2 = c.if-place in
    let place_at = c.place_at-place in
    let if1 = c.if-p-address in
    let v : View = view_of a.p a.offline.now a.image.now a.pointers.now in
    let e = place_at.ensures in
    λ cs t. told_lost a.p (ranged a.p q.ground.in_range_holds) v a.gone q.ground.here q.ground.apart a.compact.now a.addresses.now cs t (ranked a.c) q.near if1.false
    (λ x. if2.false (e ∙ x))
    (ranked cand_at.result)
    (λ h k y z. cand_at.ensures h k (y ∙ sym e) z) (sym c.beats.ensures ∙ c.if-beats.false)
