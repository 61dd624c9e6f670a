-- A restart in order isn't refused, but for 6: what it comes to on bytes. Assumes nothing.
use Rattle.std.specs.Prelude.{◌≡◌, Bool, ◌&&◌, ℕ, ◌<◌, leb, length}
use Rattle.std.proofs.Math.Path.{refl, ap}
use Rattle.std.proofs.Common.{◌∙◌}
use mathlib.Core.List.{List, []}
use Rattle.std.proofs.Math.Bool.{true, false, not}
use borrow.Author.Tests.{eqb-true}
use Rattle.std.proofs.Math.Dec.{eqb}
use borrow.Author.Tests.{not-true}
use Rattle.spec.specs.declared.Params.{Params}
use Rattle.spec.specs.declared.Answer.{Answer}
use Rattle.spec.specs.declared.Answer.TheVariants.{Refused}
use Rattle.spec.specs.Answers.{kind, values, is_refused, is_refused_as}
use Rattle.spec.specs.Calls.{first_refusal, decided, After, limited, outcome}
use Rattle.spec.specs.Counts.{last_count}
use Rattle.spec.specs.Drives.{View, Disk, store_disk, above_narrow, few_good, list_ok}
use Rattle.spec.specs.Engine.Call.{restart}
use Rattle.spec.specs.Engine.{store_count, lent_block, verdict, lent_ok_of, call_on, call_disk}
use Rattle.spec.specs.History.{mk_world, in_order_of}
use Rattle.spec.specs.Lists.{Opt, is_in}
use Rattle.spec.specs.Lists.Opt.{none, some}
use Rattle.spec.specs.Memory.{Memory}
use Rattle.spec.specs.Params.{in_range, image_len, pointers_len, addresses_len, compact_len, inflight_len, named, offline_len}
use Rattle.spec.specs.Restart.{restart_stores, names_drive, rewrites, restart_checks, restart_plan, restart_verdict}
use Rattle.spec.specs.Segments.{Segment, segments, greatest_serial}
use Rattle.law_checks.specs.Passed.{restart_sixth}
use Rattle.law_basic.specs.Geometry.{Ranged}
use Rattle.law_basic.specs.Ranges.{and_left, and_right}
use Rattle.law_views.specs.Views.{seen}
use Rattle.law_drives.specs.Tests.{clash, not_so}
use Rattle.proof_crash_machine.specs.Facts.{Ghost, InV, Choice}
use Rattle.proof_crash_machine.specs.Val.{Val}
use Rattle.proof_crash_items.specs.Ranges.{par_of}
use Rattle.proof_crash_items.specs.Refuse.{pointers_fine, segments_fine, not_refused}
use Rattle.proof_crash_items.specs.Segs.{OnDrives}
use Rattle.proof_crash_calls.proofs.Refusals.{decides, refused-after}
use Rattle.proof_crash_machine.specs.View.{ItemView}

first_of : (a b c d e f : Bool) → (a && b && c && d && e && f) ≡ true → a ≡ true
first_of a b c d e f q = and_left a b (and_left (a && b) c (and_left (a && b && c) d (and_left (a && b && c && d) e (and_left (a && b && c && d && e) f q))))

-- ---- a restart is not refused

module _ (p : Params) (h : Ranged p) (off : List ℕ) (g : Ghost) (v : View) (u : ItemView) (k : OnDrives p h off g v u)
    (known : (x : Val) → InV x g.sent → (0 < x.stamp) × (x.addr < p.L)) (d : ℕ)
    (ch : Choice (par_of p h off) g.un (is_in (named d)))
    (h₁ : in_range p ≡ true) (h₂ : names_drive p d ≡ true) (fit : above_narrow p off ≡ false) where
  abbrev gs₀ : List Segment
  gs₀ = segments p v (named d)

  -- too many serials: 6
  sixth : (long : Bool) → long ≡ true → (rewrites p (named d) (segments p v (named d)) && eqb (greatest_serial (segments p v (named d))) last_count) ≡ true
      → first_refusal (restart_checks p long v d (segments p v (named d))) ≡ some (Refused 6)
  sixth long h₃ h₆ = restart_sixth p long v d gs₀ h₁ h₂ h₃
      (ap (few_good p) k.offline ∙ k.enough) (ap (above_narrow p) k.offline ∙ fit)
      (pointers_fine p h off g v u k known (named d) ch) (segments_fine p h off g v u k known (named d) ch) h₆

-- the call, on bytes
module _ (p : Params) (h : Ranged p) (off : List ℕ) (k : Disk) (m : Memory) (d n : ℕ) (g : Ghost) (u : ItemView) (on : OnDrives p h off g (seen p off k) u)
    (known : (x : Val) → InV x g.sent → (0 < x.stamp) × (x.addr < p.L)) (ch : Choice (par_of p h off) g.un (is_in (named d)))
    (ord : in_order_of p off (mk_world k m) d ≡ true) (al : is_refused_as 6 (call_disk p off k m (restart d n)).answer ≡ false) where
  abbrev v₁ : View
  v₁ = seen p off k

  abbrev gs : List Segment
  gs = segments p v₁ (named d)

  pub asked_parts : (in_range p ≡ true) × (names_drive p d ≡ true) × (lent_ok_of p off k m ≡ true) × (above_narrow p off ≡ false)
  asked_parts = unfold in_order_of in go ord
    where
      fit : list_ok p off ≡ true → above_narrow p off ≡ false
      fit q = not-true (above_narrow p off) (and_right (not (few_good p off)) (not (above_narrow p off)) (reveal q))
        where
          reveal : list_ok p off ≡ true → (not (few_good p off) && not (above_narrow p off)) ≡ true
          reveal q = unfold list_ok in q

      go : (in_range p && names_drive p d && lent_ok_of p off k m && list_ok p off) ≡ true
          → (in_range p ≡ true) × (names_drive p d ≡ true) × (lent_ok_of p off k m ≡ true) × (above_narrow p off ≡ false)
      go q =
          let b : (in_range p && names_drive p d && lent_ok_of p off k m) ≡ true = and_left (in_range p && names_drive p d && lent_ok_of p off k m) (list_ok p off) q in (
            and_left (in_range p) (names_drive p d) (and_left (in_range p && names_drive p d) (lent_ok_of p off k m) b),
            and_right (in_range p) (names_drive p d) (and_left (in_range p && names_drive p d) (lent_ok_of p off k m) b),
            and_right (in_range p && names_drive p d) (lent_ok_of p off k m) b,
            fit (and_right (in_range p && names_drive p d && lent_ok_of p off k m) (list_ok p off) q),
          )

  pub boot_six : (rewrites p (named d) (segments p (seen p off k) (named d)) && eqb (greatest_serial (segments p (seen p off k) (named d))) last_count) ≡ false
  boot_six = not_so (rewrites p (named d) gs && eqb (greatest_serial gs) last_count) (λ q. clash (was q) al)
    where
      six : is_refused_as 6 (Refused 6) ≡ true
      six = unfold is_refused_as is_refused kind values in refl

      was : (rewrites p (named d) gs && eqb (greatest_serial gs) last_count) ≡ true → is_refused_as 6 (call_disk p off k m (restart d n)).answer ≡ true
      was q =
          ap (λ (r : After Disk). is_refused_as 6 r.answer)
          (refused-after p off k m (restart d n) (Refused 6)
          (unfold decides in sixth p h off g v₁ u on known d ch asked_parts.0 asked_parts.1 asked_parts.3 (lent_ok_of p off k m) asked_parts.2 q))
          ∙ six

  pub boot-is :
      call_disk p off k m (restart d n)
      ≡ limited (leb (length (restart_stores p (seen p off k) (named d) (segments p (seen p off k) (named d)))) n) p (store_disk p) n k m []
      (restart_plan p (seen p off k) d (segments p (seen p off k) (named d)) m.inflight)
  boot-is = unfold call_disk call_on verdict restart_verdict store_count lent_block in (
      ap (λ (o : Opt Answer). outcome p (store_disk p) n k m [] (decided o (restart_plan p v₁ d gs m.inflight)))
      (not_refused p h off g v₁ u on known d ch asked_parts.0 asked_parts.1 asked_parts.3 (lent_ok_of p off k m) asked_parts.2 boot_six)
      ∙ done)
    where
      done :
          outcome p (store_disk p) n k m [] (decided none (restart_plan p v₁ d gs m.inflight))
          ≡ limited (leb (length (restart_stores p v₁ (named d) gs)) n) p (store_disk p) n k m [] (restart_plan p v₁ d gs m.inflight)
      done = unfold decided outcome restart_plan in refl

  pub boot_lent : length m.inflight ≡ inflight_len p
  boot_lent = unfold lent_ok_of in eqb-true (length m.inflight) (inflight_len p)
      (and_right (eqb (length off) (offline_len p)
      && eqb (length k.image) (image_len p)
      && eqb (length k.pointers) (pointers_len p)
      && eqb (length m.addresses) (addresses_len p)
      && eqb (length m.compact) (compact_len p)) (eqb (length m.inflight) (inflight_len p)) (reveal asked_parts.2))
    where
      reveal :
          lent_ok_of p off k m ≡ true
          → (eqb (length off) (offline_len p)
          && eqb (length k.image) (image_len p)
          && eqb (length k.pointers) (pointers_len p)
          && eqb (length m.addresses) (addresses_len p)
          && eqb (length m.compact) (compact_len p)
          && eqb (length m.inflight) (inflight_len p)) ≡ true
      reveal q = unfold lent_ok_of in q

  pub boot_listed : length off ≡ offline_len p
  boot_listed = eqb-true (length off) (offline_len p)
      (first_of (eqb (length off) (offline_len p)) (eqb (length k.image) (image_len p)) (eqb (length k.pointers) (pointers_len p)) (eqb (length m.addresses) (addresses_len p))
      (eqb (length m.compact) (compact_len p)) (eqb (length m.inflight) (inflight_len p)) (reveal asked_parts.2))
    where
      reveal :
          lent_ok_of p off k m ≡ true
          → (eqb (length off) (offline_len p)
          && eqb (length k.image) (image_len p)
          && eqb (length k.pointers) (pointers_len p)
          && eqb (length m.addresses) (addresses_len p)
          && eqb (length m.compact) (compact_len p)
          && eqb (length m.inflight) (inflight_len p)) ≡ true
      reveal q = unfold lent_ok_of in q
