-- The state's bytes after a change: refused, cut, made; and what the host hears of it (01, The array; Store count). Assumes nothing.
use Rattle.std.specs.Prelude.{ℕ, ◌≤◌, ◌<◌, length, Bool, true, false, List, ◌≡◌}
use Rattle.spec.specs.Host.{told_of, heard, lending, hears}
use Rattle.spec.specs.declared.Told.{Told}
use Rattle.mem_codec.specs.Changes.{zero_bytes}
use Rattle.spec.specs.Answers.{kind, is_refused, is_cut_of}
use Rattle.spec.specs.Calls.{mk_after}
use Rattle.spec.specs.Engine.{Call, call_disk, Lent, lent_disk, lent_memory, lent_all, call_bytes}
use Rattle.spec.specs.Memory.{state_len, state_bytes, state_of}
use Rattle.spec.specs.declared.Params.{Params}
use Rattle.law_lent.specs.Hosts.{bytes_left}
use Rattle.mem_rows.specs.Rows.{changed, state_after, after_change, after-cut, after_done}
use Rattle.mem_rows.specs.declared.Change.{Change}
use borrow.Author.Tests.{le-leb, lt-leb, eq-eqb, ne_eqb}
use Rattle.std.proofs.Math.ListN.{replicate}
use Rattle.std.proofs.Math.Bool.{cond}
use Rattle.std.proofs.Math.Path.{sym, ap}
use Rattle.std.proofs.Common.{◌∙◌}

module _ (bs : List ℕ) (c : Change) where
  -- a refusal leaves them
  pub applied_refused : kind c.answer ≤ 1 → bs ≡ cond (is_refused c.answer) bs (state_bytes (state_after (state_of bs) c))
  unfolding is_refused
  applied_refused h = ap (λ (x : Bool). cond x bs (state_bytes (state_after (state_of bs) c))) (sym (le-leb (kind c.answer) 1 h))

  module _ (h : 1 < kind c.answer) (l : List ℕ) where
    not_refused : is_refused c.answer ≡ false
    unfolding is_refused
    not_refused = lt-leb (kind c.answer) 1 h

    after-all : l ≡ state_bytes (state_after (state_of bs) c) → l ≡ cond (is_refused c.answer) bs (state_bytes (state_after (state_of bs) c))
    after-all e = e ∙ ap (λ (x : Bool). cond x bs (state_bytes (state_after (state_of bs) c))) (sym not_refused)

    -- a cut leaves zeros
    pub applied_cut : kind c.answer ≡ 2 → length bs ≡ state_len → l ≡ replicate (length bs) 0 → l ≡ cond (is_refused c.answer) bs (state_bytes (state_after (state_of bs) c))
    unfolding is_cut_of
    applied_cut k n e =
        after-all
        (e ∙ ap (λ (x : ℕ). replicate x 0) n ∙ sym zero_bytes ∙ ap state_bytes (sym (after-cut (state_of bs) c not_refused (eq-eqb (kind c.answer) 2 k))))

    -- else the change is made
    pub applied_done : (kind c.answer ≡ 2 → ⊥) → l ≡ state_bytes (changed (state_of bs) c) → l ≡ cond (is_refused c.answer) bs (state_bytes (state_after (state_of bs) c))
    unfolding is_cut_of
    applied_done k e = after-all (e ∙ ap state_bytes (sym (after_done (state_of bs) c not_refused (ne_eqb (kind c.answer) 2 k))))

-- a call of the host, from the change that the call on the decoded state makes
pub hears_change : (p : Params) (l : Lent) (c : Call) (b : List ℕ) → length l.state ≡ state_len
    → (is_refused (call_disk p l.offline (lent_disk l) (lent_memory l) c).answer ≡ true
    → call_disk p l.offline (lent_disk l) (lent_memory l) c ≡ mk_after (call_disk p l.offline (lent_disk l) (lent_memory l) c).answer (lent_disk l) (lent_memory l) b)
    → (d : Change) (im ps ad co fl st b' : List ℕ) (t : Told)
    → after_change (state_of l.state) d im ps ad co fl b' ≡ call_disk p l.offline (lent_disk l) (lent_memory l) c → t ≡ told_of d.answer
    → st ≡ cond (is_refused d.answer) l.state (state_bytes (state_after (state_of l.state) d))
    → hears t (lending l.offline im ps ad co fl st) b' ≡ heard (call_bytes p l c)
unfolding lent_all
hears_change p l c b h keeps d im ps ad co fl st b' t e f g =
    ap (λ (x : Told). hears x (lending l.offline im ps ad co fl st) b') f
    ∙ ap heard (bytes_left p l c h b keeps (after_change (state_of l.state) d im ps ad co fl b') e st g)
