-- `lent_ok`: a length that differs makes the definition false, six that are equal make it true. Assumes nothing.
use Rattle.spec.specs.Calls.{ruled}
use Rattle.spec.specs.Engine.{lent_ok_of}
use Rattle.spec.specs.Lists.Opt.{none, some}
use Rattle.spec.specs.declared.Answer.TheVariants.{Refused}
use Prim.Native.Nat.{ℕ}
use borrow.Author.Tests.{eq-eqb, ne_eqb}
use lib.Dec.{eqb}
use mathlib.Core.Bool.{Bool, true, false, ◌&&◌, not}
use mathlib.Core.Path.{◌≡◌, refl, sym, ap, ◌∙◌}
use Rattle.mem_calls.proofs.lent_ok.Goals as goal
use Rattle.mem_calls.proofs.lent_ok.Goals.{then-offline-offline_len-via-then-offline-offline_len}
use Rattle.mem_calls.proofs.lent_ok.Goals.{then-offline-offline_len-via-else-offline-offline_len+then-image-image_len}
use Rattle.mem_calls.proofs.lent_ok.Goals.{then-offline-offline_len-via-else-offline-offline_len+else-image-image_len+then-pointers-pointers_len}
use Rattle.mem_calls.proofs.lent_ok.Goals.{then-addresses-addresses_len-via-then-addresses-addresses_len}
use Rattle.mem_calls.proofs.lent_ok.Goals.{then-addresses-addresses_len-via-else-addresses-addresses_len+then-compact-compact_len}
use Rattle.mem_calls.proofs.lent_ok.Goals.{then-addresses-addresses_len-via-else-addresses-addresses_len+else-compact-compact_len+then-inflight-inflight_len}

-- a part of `&&` that is false
front : (x y : Bool) → x ≡ false → (x && y) ≡ false
front x y e = ap (λ (z : Bool). z && y) e

back : (x y : Bool) → y ≡ false → (x && y) ≡ false
back true y e = e
back false y e = refl

short : (x : Bool) → x ≡ false → some (Refused 2) ≡ ruled 2 (not x) none
unfolding ruled
short x e = ap (λ (z : Bool). ruled 2 (not z) none) (sym e)

-- a length and one that a call gives
differ : (n m k : ℕ) → m ≡ k → (n ≡ m → ⊥) → eqb n k ≡ false
differ n m k e f = ne_eqb n k (λ h. f (h ∙ sym e))

same : (n m k : ℕ) → m ≡ k → n ≡ m → eqb n k ≡ true
same n m k e f = eq-eqb n k (f ∙ e)

pub returns-then-offline-offline_len : goal.returns-then-offline-offline_len
unfolding lent_ok_of
returns-then-offline-offline_len c = λ st. elim c.then-offline-offline_len.branch [
  | then-offline-offline_len-via-then-offline-offline_len w ↦
      let d = differ _ _ _ c.offline_len.ensures.0 w.if-offline-offline_len.true in
      short _ (search (front, back, d) depth 9)
  | then-offline-offline_len-via-else-offline-offline_len+then-image-image_len w ↦
      let d = differ _ _ _ w.image_len.ensures.0 w.if-image-image_len.true in
      short _ (search (front, back, d) depth 9)
  | then-offline-offline_len-via-else-offline-offline_len+else-image-image_len+then-pointers-pointers_len w ↦
      let d = differ _ _ _ w.pointers_len.ensures.0 w.if-pointers-pointers_len.true in
      short _ (search (front, back, d) depth 9)
]

pub returns-then-addresses-addresses_len : goal.returns-then-addresses-addresses_len
unfolding lent_ok_of
returns-then-addresses-addresses_len c = λ st. elim c.then-addresses-addresses_len.branch [
  | then-addresses-addresses_len-via-then-addresses-addresses_len w ↦
      let d = differ _ _ _ c.addresses_len.ensures.0 w.if-addresses-addresses_len.true in
      short _ (search (front, back, d) depth 9)
  | then-addresses-addresses_len-via-else-addresses-addresses_len+then-compact-compact_len w ↦
      let d = differ _ _ _ w.compact_len.ensures.0 w.if-compact-compact_len.true in
      short _ (search (front, back, d) depth 9)
  | then-addresses-addresses_len-via-else-addresses-addresses_len+else-compact-compact_len+then-inflight-inflight_len w ↦
      let d = differ _ _ _ w.inflight_len.ensures.0 w.if-inflight-inflight_len.true in
      short _ (search (front, back, d) depth 9)
]

pub returns : goal.returns
unfolding lent_ok_of ruled
returns c = λ st. λ j. ruled 2 (not (
    sym (same _ _ _ c.offline_len.ensures.0 c.if-offline-offline_len.false) j
    && sym (same _ _ _ c.image_len.ensures.0 c.if-image-image_len.false) j
    && sym (same _ _ _ c.pointers_len.ensures.0 c.if-pointers-pointers_len.false) j
    && sym (same _ _ _ c.addresses_len.ensures.0 c.if-addresses-addresses_len.false) j
    && sym (same _ _ _ c.compact_len.ensures.0 c.if-compact-compact_len.false) j
    && sym (same _ _ _ c.inflight_len.ensures.0 c.if-inflight-inflight_len.false) j)) none
