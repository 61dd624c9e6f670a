-- `segment_fault`: the chunk's zone alone where nothing is sealed, else the lowest of it and the footers' (`faults_sealed`). Assumes nothing.
use Prim.Native.Nat.{ℕ}
use Rattle.spec.specs.Drives.{View, view_of}
use Rattle.spec.specs.Landing.{overfull}
use Rattle.spec.specs.Lists.{least}
use Rattle.call_land_faults.specs.Lowest.{open_faults, faults_sealed}
use borrow.Author.Tests.{not-true, not-false}
use mathlib.Core.Bool.{Bool}
use mathlib.Core.List.{[]}
use mathlib.Core.Path.{sym, ap, ◌∙◌}
use Rattle.call_land_faults.proofs.segment_fault.Goals as goal

pub chunk_fault-z-requires : goal.chunk_fault-z-requires
chunk_fault-z-requires c =
    let q = c.requires in record { p_value = q.p_value; pointers_len = (q.pointers_len.0, q.pointers_len.1, q.pointers_len.2) }

pub returns-then-not-seals : goal.returns-then-not-seals
returns-then-not-seals c =
    let a = c.args in
    let p = a.p in record {
      by_index = λ off im h.
          let v : View = view_of p off im a.pointers.now in
          c.chunk_fault-z.ensures.by_index off im h
          ∙ ap (λ (x : Bool). least p.Z (open_faults p v [] [] a.d a.zone a.segment a.stripe x)) (sym (not-true a.seals c.if-not-seals.true-raw));
      upper_bound = c.chunk_fault-z.ensures.upper_bound;
    }

pub overfull-requires : goal.overfull-requires
overfull-requires c =
    let a = c.args in
    let q = c.requires in record { p_value = q.p_value; pointers_len = (q.pointers_len.0, q.pointers_len.3 (not-false a.seals c.if-not-seals.false-raw), c.chunk_fault-z.ensures.upper_bound) }

pub returns : goal.returns
returns c =
    let a = c.args in
    let p = a.p in record {
      by_index = λ off im h.
          let v : View = view_of p off im a.pointers.now in
          c.overfull.ensures.by_index off im h ∙ ap (λ (x : ℕ). least x (overfull p v a.d a.segment)) (c.chunk_fault-z.ensures.by_index off im h)
          ∙ faults_sealed p v [] [] a.d a.zone a.segment a.stripe
          ∙ ap (λ (x : Bool). least p.Z (open_faults p v [] [] a.d a.zone a.segment a.stripe x)) (sym (not-false a.seals c.if-not-seals.false-raw));
      upper_bound = c.overfull.ensures.upper_bound;
    }
