-- What the caller of a function holds when it returns: all that a call leaves, put together; the same as C gets it; the part of the lent image
-- that a read gives (01, The calls; Read; Which form to use where). Assumes nothing.
use Rattle.std.specs.Prelude.{ℕ, ◌+◌, eqb, get_or, cond, List, ◌≡◌}
use Rattle.spec.specs.Answers.{kind, values}
use Rattle.spec.specs.Bytes.{part}
use Rattle.spec.specs.Calls.{After, mk_after}
use Rattle.spec.specs.Drives.{Disk, mk_disk}
use Rattle.spec.specs.Engine.{Lent, Left}
use Rattle.spec.specs.Memory.{mk_memory}
use Rattle.spec.specs.declared.Answer.{Answer}
use Rattle.spec.specs.declared.Done.{Done}
use Rattle.spec.specs.declared.Params.{Params}
use Rattle.spec.specs.declared.Told.{Told}
use Rattle.std.specs.Borrow.{Bor}

-- all that a call leaves: answer and state, image and pointers, tables, in-flight buffer, lent block
abbrev pub after : Done → List ℕ → List ℕ → List ℕ → List ℕ → List ℕ → List ℕ → After Disk
after r im ps ad co fl b = mk_after r.answer (mk_disk im ps) (mk_memory r.state ad co fl) b

-- kind and values of an answer; 0 where it has none
abbrev pub told_of : Answer → Told
told_of a = record { kind = kind a; first = get_or (values a) 0 0; second = get_or (values a) 1 0; third = get_or (values a) 2 0 }

-- what a call leaves, its answer as numbers
pub record Heard : Type 0 where
  pub told : Told
  pub lent : Lent
  pub block : List ℕ

abbrev pub heard : Left → Heard
heard x = record { told = told_of x.answer; lent = x.lent; block = x.block }

-- the buffers that the host lends
abbrev pub lending : List ℕ → List ℕ → List ℕ → List ℕ → List ℕ → List ℕ → List ℕ → Lent
lending off im ps ad co fl st = record { offline = off; image = im; pointers = ps; addresses = ad; compact = co; inflight = fl; state = st }

abbrev pub hears : Told → Lent → List ℕ → Heard
hears t l b = record { told = t; lent = l; block = b }

-- r is the n bytes of the lent slice s from index at: its bytes, and where it lies in memory
pub record PartOf (s : Bor (List ℕ)) (at n : ℕ) (r : Bor (List ℕ)) : Type 0 where
  pub bytes : r.now ≡ part at n s.now
  pub object : r.ref_ptr.0 ≡ s.ref_ptr.0
  pub offset : r.ref_ptr.1 ≡ s.ref_ptr.1 + at

-- 01, Read: where the part of an answer begins; 0 where the answer is no part
unfoldable pub part_at : Answer → ℕ
part_at r = cond (eqb (kind r) 8) (get_or (values r) 0 0) 0

-- 01, Read: and its length; none where the answer is no part
unfoldable pub part_len : Params → Answer → ℕ
part_len p r = cond (eqb (kind r) 8) p.B 0
