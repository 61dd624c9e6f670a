-- A healthy run as a finished restart leaves it: nothing in flight. Assumes nothing.
use Rattle.std.specs.Prelude.{◌≡◌, refl, List, Bool, true, false, not, ◌≢◌, ℕ, ◌^◌, ◌<◌, eqb}
use Rattle.std.proofs.Common.{arith}
use Rattle.std.proofs.lemmas.List.{length-replicate}
use Rattle.spec.specs.declared.Params.{Params}
use Rattle.spec.specs.Memory.{idle_state}
use Rattle.law_drives.specs.Tests.{clash, not_so}
use Rattle.proof_crash_machine.specs.Exec.{true≢false}
use Rattle.proof_crash_machine.specs.Memory2.{rest_mem}
use Rattle.proof_crash_machine.specs.Val.{Val}
use Rattle.proof_crash_machine.specs.View.Item.{chunk}
use Rattle.proof_crash_machine.specs.View.{ItemView, InI}
use Rattle.proof_crash_items.specs.RestMem.{idle-filled}
use Rattle.proof_crash_calls.specs.Rel.{RowsLong, in_use_of, used_filled, Rel}

idle_long : (live gone t sr opened next : ℕ) → RowsLong (idle_state live gone t sr opened next)
unfolding idle_state
idle_long live gone t sr opened next = record {
  numbers = length-replicate {A = ℕ} 8 0;
  filled = length-replicate {A = ℕ} 8 0;
  writes = length-replicate {A = ℕ} 8 0;
  landed = length-replicate {A = ℕ} 8 0;
  addresses = length-replicate {A = ℕ} 64 0;
  stamps = length-replicate {A = ℕ} 64 0;
  offsets = length-replicate {A = ℕ} 64 0;
}

pub idle_unused : (live gone t sr opened next i : ℕ) → in_use_of (idle_state live gone t sr opened next) i ≡ false
idle_unused live gone t sr opened next i = not_so (in_use_of (idle_state live gone t sr opened next) i)
    (λ q. let z : ⊥ = omega (arith, used_filled (idle_state live gone t sr opened next) i q, idle-filled live gone t sr opened next i) in z)

-- the state of a healthy restart, and the machine's memory: the open segment, if there is one, has the stripes below next on all drives, and not all S
pub rest_rel : (p : Params) (v : ItemView) (fl : List ℕ) (live t sr opened next : ℕ) (b : Bool) (z k : ℕ) → t < 256 ^ 8 → sr < 256 ^ 8
    → b ≡ not (eqb opened 0) → (b ≡ true → opened ≡ z) → (b ≡ true → k ≡ next) → (b ≡ true → k ≢ p.S)
    → (b ≡ true → (s : ℕ) → s < k → (d : ℕ) → d < p.N → (x : Val) × InI (chunk s x) (v d z)) → Rel p v (idle_state live 0 t sr opened next) fl (rest_mem b z k t sr)
rest_rel p v fl live t sr opened next b z k tl sl eb ez ek few whole = record {
  long = idle_long live 0 t sr opened next;
  healthy = unfold idle_state in refl;
  is_open = unfold idle_state in eb;
  zone = unfold idle_state in ez;
  next = unfold idle_state in ek;
  stamp = unfold idle_state in refl;
  serial = unfold idle_state in refl;
  stamp_fits = unfold idle_state in tl;
  serial_fits = unfold idle_state in sl;
  flying = λ i il q. free i q;
  slot = λ i il q. free i q;
  once = λ i j il jl q w e. free i q;
  flies = λ s q. true≢false q;
  whole = λ o s l f. whole o s l;
  busy = λ o e. absurd (few o e);
}
  where
    free : {A : Type 0} (i : ℕ) → in_use_of (idle_state live 0 t sr opened next) i ≡ true → A
    free i q = clash q (idle_unused live 0 t sr opened next i)
