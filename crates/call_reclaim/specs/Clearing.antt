-- A segment's rows of the compact table zeroed, and its zones reset (01, Reclaim; What a zone holds). Assumes nothing.
use Rattle.std.specs.Prelude.{Result, ℕ, ◌+◌, ◌-◌, ◌≤◌, ◌<◌, length, replicate, true, false, ◌≡◌}
use Rattle.spec.specs.Answers.{kind, is_refused, is_cut_of}
use Rattle.spec.specs.Bytes.{splice}
use Rattle.spec.specs.Calls.{mk_after, cut_memory, outcome}
use Rattle.spec.specs.Calls.Verdict.{due}
use Rattle.spec.specs.Drives.{Disk, store_disk, zone_on, reset_stores}
use Rattle.spec.specs.Lists.{up_from}
use Rattle.spec.specs.Memory.{Memory, mk_memory, compact_at}
use Rattle.spec.specs.Params.{addresses_len, compact_len, drives_of}
use Rattle.spec.specs.Reclaim.{cleared_row, cleared, reset_plan}
use Rattle.spec.specs.declared.Answer.TheVariants.{Cut, Reset}
use Rattle.spec.specs.declared.Params.{Params}
use Rattle.law_basic.specs.Ranges.{up_from_step, up_from_end, below-start}
use Rattle.law_basic.specs.Stores.{done_all, cut_prefix}
use Rattle.mem_rows.specs.Rows.{state_after, after_change, front_of, kept_as, after_done, changed_none}
use Rattle.mem_rows.specs.declared.Change.{Change}
use Rattle.call_write.specs.Ends.{cut_memory_lem, state_cut}
use Rattle.std.specs.Result.{is_err}
use Rattle.disk_zones.specs.Made.{Storing, storing_short, storing_enough, storing_made}
use Rattle.disk_zones.specs.declared.TooFew.{TooFew}
use mathlib.Core.List.{List, []}
use Rattle.std.proofs.Math.Path.{refl, sym, ap}
use Rattle.std.proofs.Common.{◌∙◌}
use Rattle.spec.specs.declared.Seg.{Seg}

module _ (p : Params) (g : Seg) where
  pub cleared-start : (cs : List ℕ) → cleared p g (up_from 0 (p.N - 0)) cs ≡ cleared p g (drives_of p) cs
  unfolding drives_of
  cleared-start cs = ap (λ (l : List ℕ). cleared p g l cs) (sym (below-start p.N))

  pub cleared_turn : (d : ℕ) (cs cs' : List ℕ) → d < p.N → cs' ≡ splice cs (compact_at p d (zone_on g d) 0) (replicate p.S 0)
      → cleared p g (up_from (d + 1) (p.N - (d + 1))) cs' ≡ cleared p g (up_from d (p.N - d)) cs
  unfolding cleared cleared_row
  cleared_turn d cs cs' h e = ap (cleared p g (up_from (d + 1) (p.N - (d + 1)))) e ∙ sym (ap (λ (l : List ℕ). cleared p g l cs) (up_from_step d p.N h))

  pub cleared_end : (d : ℕ) (cs : List ℕ) → p.N ≤ d → cs ≡ cleared p g (up_from d (p.N - d)) cs
  unfolding cleared
  cleared_end d cs h = sym (ap (λ (l : List ℕ). cleared p g l cs) (up_from_end d p.N h))

-- ---- the two ends of a reset

module _ (p : Params) (n : ℕ) (g : Seg) (k k' : Disk) (m : Memory) (r : Result ℕ TooFew) (h : Storing p n (reset_stores p g) k r k') where
  pub reset_cut : length m.addresses ≡ addresses_len p → length m.compact ≡ compact_len p → is_err r ≡ true → (o : Change) (ad co : List ℕ) → o.answer ≡ Cut
      → ad ≡ replicate (length m.addresses) 0 → co ≡ replicate (length m.compact) 0
      → after_change m.state o k'.image k'.pointers ad co m.inflight [] ≡ outcome p (store_disk p) n k m [] (due (reset_plan p m g))
  unfolding reset_plan
  reset_cut la lc c o ad co e f q =
      let w : mk_memory (state_after m.state o) ad co m.inflight ≡ cut_memory p m = cut_memory_lem p m (state_after m.state o) ad co la lc (state_cut m.state o e) f q in
      (λ j. mk_after (e j) (h.disk j) (w j) []) ∙ sym (cut_prefix p (store_disk p) n k m [] (reset_plan p m g) (storing_short p n (reset_stores p g) k r k' h c))

  -- the state stays
  state_kept : state_after m.state (kept_as (Reset (zone_on g 0)) (front_of m.state)) ≡ m.state
  unfolding is_refused is_cut_of kind
  state_kept = after_done m.state (kept_as (Reset (zone_on g 0)) (front_of m.state)) refl refl ∙ changed_none m.state (Reset (zone_on g 0))

  pub reset_done : is_err r ≡ false → (o : Change) → o ≡ kept_as (Reset (zone_on g 0)) (front_of m.state) → (co : List ℕ) → co ≡ cleared p g (drives_of p) m.compact
      → after_change m.state o k'.image k'.pointers m.addresses co m.inflight [] ≡ outcome p (store_disk p) n k m [] (due (reset_plan p m g))
  unfolding reset_plan
  reset_done c o q co e =
      ap (λ (x : Change). after_change m.state x k'.image k'.pointers m.addresses co m.inflight []) q
      ∙ (λ j. mk_after (Reset (zone_on g 0)) (storing_made p n (reset_stores p g) k r k' h c j) (mk_memory (state_kept j) m.addresses (e j) m.inflight) [])
      ∙ sym (done_all p (store_disk p) n k m [] (reset_plan p m g) (storing_enough p n (reset_stores p g) k r k' h c))
