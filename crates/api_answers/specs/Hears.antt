-- A call of the host, from the call on the decoded state, for any call (01, The array; Store count). Assumes nothing.
use Rattle.std.specs.Prelude.{ℕ, length, Bool, true, false, cond, List, ◌≡◌, refl}
use Rattle.spec.specs.Host.{told_of, heard, lending, hears}
use Rattle.spec.specs.declared.Told.{Told}
use Rattle.spec.specs.Host.{after}
use Rattle.spec.specs.declared.Done.{Done}
use Rattle.spec.specs.Answers.{is_refused}
use Rattle.spec.specs.Calls.{mk_after}
use Rattle.spec.specs.Engine.{Call, call_on, call_disk, Lent, lent_disk, lent_memory, lent_all, call_bytes}
use Rattle.spec.specs.Memory.{state_len, state_bytes, state_of}
use Rattle.spec.specs.declared.Answer.{Answer}
use Rattle.spec.specs.declared.Params.{Params}
use Rattle.law_lent.specs.Hosts.{bytes_short, bytes_left}
use Rattle.law_lent.specs.Shorts.{short_answer, short_refused}
use Rattle.std.proofs.Common.{sym, ◌∙◌}
use Rattle.std.proofs.Math.Path.{ap}

module _ (p : Params) (l : Lent) (c : Call) (b : List ℕ) where
  -- the state's bytes have another length
  pub hears_short : (length l.state ≡ state_len → ⊥) → (good : Bool)
      → call_on p l.offline false (lent_disk l) (lent_memory l) c ≡ mk_after (short_answer good) (lent_disk l) (lent_memory l) b
      → hears (told_of (short_answer good)) l b ≡ heard (call_bytes p l c)
  hears_short h good e = ap heard (bytes_short p l c h (short_answer good) b (short_refused good) e)

  -- a call that may change what it is lent
  pub hears_call : length l.state ≡ state_len
      → (is_refused (call_disk p l.offline (lent_disk l) (lent_memory l) c).answer ≡ true
      → call_disk p l.offline (lent_disk l) (lent_memory l) c ≡ mk_after (call_disk p l.offline (lent_disk l) (lent_memory l) c).answer (lent_disk l) (lent_memory l) b)
      → (d : Done) (im ps ad co fl st b' : List ℕ) (t : Told)
      → after d im ps ad co fl b' ≡ call_disk p l.offline (lent_disk l) (lent_memory l) c → t ≡ told_of d.answer
      → st ≡ cond (is_refused d.answer) l.state (state_bytes d.state)
      → hears t (lending l.offline im ps ad co fl st) b' ≡ heard (call_bytes p l c)
  unfolding lent_all
  hears_call h keeps d im ps ad co fl st b' t e f g =
      ap (λ (x : Told). hears x (lending l.offline im ps ad co fl st) b') f
      ∙ ap heard (bytes_left p l c h b keeps (after d im ps ad co fl b') e st g)

  same_state : (t : Bool) → state_bytes (state_of l.state) ≡ l.state → l.state ≡ cond t l.state (state_bytes (state_of l.state))
  same_state true e = refl
  same_state false e = sym e

  -- a call that changes neither drives nor memory
  pub hears_read : length l.state ≡ state_len
      → (is_refused (call_disk p l.offline (lent_disk l) (lent_memory l) c).answer ≡ true
      → call_disk p l.offline (lent_disk l) (lent_memory l) c ≡ mk_after (call_disk p l.offline (lent_disk l) (lent_memory l) c).answer (lent_disk l) (lent_memory l) b)
      → state_bytes (state_of l.state) ≡ l.state
      → (a : Answer) (b' : List ℕ) (t : Told) → mk_after a (lent_disk l) (lent_memory l) b' ≡ call_disk p l.offline (lent_disk l) (lent_memory l) c → t ≡ told_of a
      → hears t l b' ≡ heard (call_bytes p l c)
  unfolding lent_all lent_disk lent_memory
  hears_read h keeps s a b' t e f =
      ap (λ (x : Told). hears x l b') f
      ∙ ap heard (bytes_left p l c h b keeps (mk_after a (lent_disk l) (lent_memory l) b') e l.state (same_state (is_refused a) s))
