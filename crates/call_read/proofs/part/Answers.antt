-- `part`: an answer of kind 8 names a block within the image (`part_within`); any other has length 0 (`part_none`), by its variants. Assumes nothing.
use Prim.Native.Nat.{ℕ, ◌+◌, ◌≤◌}
use Rattle.spec.specs.Answers.{kind}
use Rattle.spec.specs.Bytes.{part}
use Rattle.spec.specs.Calls.{After}
use Rattle.spec.specs.Drives.{Disk, mk_disk}
use Rattle.spec.specs.Memory.{mk_memory, state_of}
use Rattle.spec.specs.declared.Answer.{Answer}
use Rattle.spec.specs.declared.Stamp.{Stamp}
use Rattle.spec.specs.declared.Answer.TheVariants.{Refused, BadZone, Cut, Sent, Landed, Closed, Copied, Reset, Part, Never, Lost, Filled, Restarted, Rebuilt, Nothing}
use Rattle.law_basic.specs.Splice.{part-zero, part_lent}
use Rattle.call_read.specs.Ends.{part_within}
use Rattle.call_read.specs.Part.{part_here, part_none}
use Rattle.spec.specs.Host.{part_at, part_len}
use lib.Dec.{eqb}
use lib.ListN.{length}
use mathlib.Core.Bool.{false}
use mathlib.Core.Path.{◌≡◌, refl, sym, ap, ◌∙◌}
use native.Mathlib.Nat.{add-zero, add_comm}
use native.Mathlib.Omega.{arith}
use Rattle.call_read.proofs.part.Goals as goal

pub overflow_add-e : goal.overflow_add-e
overflow_add-e c =
    let a = c.args in
    let h : c.in-Part.at + a.p.B ≤ length a.image.now =
    part_within a.p a.offline.now (mk_disk a.image.now a.pointers.now)
    (mk_memory (state_of a.state.now) a.addresses.now a.compact.now a.inflight.now) a.address.0 c.in-Part.at c.in-Part.field-1
    (sym (ap (λ (x : After Disk). x.answer) c.find-answer.ensures) ∙ c.in-Part.is) in
    omega (arith, h)

pub slice_bounds-result-end : goal.slice_bounds-result-end
slice_bounds-result-end c =
    let a = c.args in
    part_within a.p a.offline.now (mk_disk a.image.now a.pointers.now)
    (mk_memory (state_of a.state.now) a.addresses.now a.compact.now a.inflight.now) a.address.0 c.in-Part.at c.in-Part.field-1
    (sym (ap (λ (x : After Disk). x.answer) c.find-answer.ensures) ∙ c.in-Part.is)

pub returns-in-Part : goal.returns-in-Part
returns-in-Part c =
    let a = c.args in
    let at = c.in-Part.at in
    let e = sym (ap (λ (x : After Disk). x.answer) c.find-answer.ensures) ∙ c.in-Part.is in
    let e₁ = ap part_at e ∙ (part_here a.p at c.in-Part.field-1).0 in
    let e₂ = ap (part_len a.p) e ∙ (part_here a.p at c.in-Part.field-1).1 in
    record {
      bytes = part_lent at a.p.B a.image.now ∙ (λ j. part (sym e₁ j) (sym e₂ j) a.image.now);
      object = refl;
      offset = add_comm at a.image.ref_ptr.1 ∙ ap (λ (x : ℕ). a.image.ref_ptr.1 + x) (sym e₁);
    }

-- an answer of another kind
no_part : (r : Answer) → ((n : ℕ) (t : Stamp) → r ≡ Part n t → ⊥) → eqb (kind r) 8 ≡ false
unfolding kind
no_part (Refused n) h = refl
no_part (BadZone z) h = refl
no_part Cut h = refl
no_part (Sent t s d) h = refl
no_part (Landed n) h = refl
no_part (Closed s) h = refl
no_part (Copied t s d) h = refl
no_part (Reset z) h = refl
no_part (Part n t) h = absurd (h n t refl)
no_part Never h = refl
no_part (Lost t) h = refl
no_part (Filled t) h = refl
no_part (Restarted n) h = refl
no_part Rebuilt h = refl
no_part Nothing h = refl

pub returns : goal.returns
returns c =
    let a = c.args in
    let find = c.find-answer in
    let e = part_none a.p find.result (no_part find.result c.in_default.not-Part) in
    let e₁ = e.0 ∙ ap part_at (ap (λ (x : After Disk). x.answer) c.find-answer.ensures) in
    let e₂ = e.1 ∙ ap (part_len a.p) (ap (λ (x : After Disk). x.answer) c.find-answer.ensures) in
    record {
      bytes = sym (part-zero 0 a.image.now) ∙ (λ j. part (e₁ j) (e₂ j) a.image.now);
      object = refl;
      offset = sym (add-zero a.image.ref_ptr.1) ∙ ap (λ (x : ℕ). a.image.ref_ptr.1 + x) e₁;
    }
