-- Laws of where a history stands: what a restart may name, the mark under another ghost, and what a restart or a rebuild leaves. Assumes nothing.
use Rattle.std.specs.Prelude.{◌≡◌, refl, List, map, Bool, ◌||◌, ℕ, ◌<◌, length}
use Rattle.std.proofs.Common.{sym, ◌∙◌, append-nil, eq-eqb, eqb-true, arith}
use Rattle.std.proofs.Math.Path.{ap}
use Rattle.std.proofs.Math.Bool.{true}
use Rattle.std.proofs.Math.Dec.{eqb}
use Rattle.spec.specs.declared.Params.{Params}
use Rattle.spec.specs.declared.Report.{Report}
use Rattle.spec.specs.declared.Answer.TheVariants.{Cut, Restarted, Rebuilt}
use Rattle.spec.specs.Answers.{kind, is_refused, is_cut_of, finished}
use Rattle.spec.specs.Calls.{mk_after}
use Rattle.spec.specs.Drives.{Disk}
use Rattle.spec.specs.Engine.Call.{restart, rebuild}
use Rattle.spec.specs.History.{mk_world, Send, forget, sent_by, acked_by, ends_run, sent_after, untrusted_after, Mark, Hist, marked, seen_at, names_all}
use Rattle.spec.specs.Lists.{Opt, is_in}
use Rattle.spec.specs.Lists.Opt.{none, some}
use Rattle.spec.specs.Memory.{Memory}
use Rattle.spec.specs.Params.{named, no_drive}
use Rattle.law_basic.specs.Geometry.{Ranged}
use Rattle.law_basic.specs.Ranges.Test.{yes!, no! }
use Rattle.law_drives.specs.Tests.{clash, not_so}
use Rattle.law_basic.specs.Mask.{is_in_empty}
use Rattle.law_basic.specs.Ranges.{Test, test}
use Rattle.proof_crash_machine.specs.Facts.{Ghost, InV, Choice, None}
use Rattle.proof_crash_machine.specs.History.Mode.{run}
use Rattle.proof_crash_machine.specs.Val.{Val}
use Rattle.proof_crash_machine.specs.Mask.{Mask}
use Rattle.proof_crash_items.specs.Named.{is_in-named, named_not_zero, none_named, named_few}
use Rattle.proof_crash_items.specs.Ranges.{par_of}
use Rattle.proof_crash_calls.specs.Readings.{shows_more}
use Rattle.proof_crash.specs.Stand.{MarkOk, Trust, Stands, Holds, leaves, hist}
use Rattle.proof_crash.specs.Stand.Holds.{goes, rests}

pub none_trust : (p : Params) (h : Ranged p) (off : List ℕ) (us : ℕ) (un : Mask) → us ≡ 0 → None (par_of p h off) un → Trust p us un
none_trust p h off us un e n d l = n d l ∙ sym (ap (λ (x : ℕ). is_in x d) e ∙ is_in_empty d)

-- a restart that names what the premise asks names a choice
pub named_choice : (p : Params) (h : Ranged p) (off : List ℕ) (us d : ℕ) (un : Mask) → Trust p us un → names_all us (some d) ≡ true → Choice (par_of p h off) un (is_in (named d))
named_choice p h off us d un t e = (named_few p h d, λ i l q. go (test (eqb us 0)) (unfold names_all in e) i (sym (t i l) ∙ q))
  where
    go : Test (eqb us 0) → (eqb us 0 || eqb us (named d)) ≡ true → (i : ℕ) → is_in us i ≡ true → is_in (named d) i ≡ true
    go (yes! f) q i k = clash k (ap (λ (x : ℕ). is_in x i) (eqb-true us 0 f) ∙ is_in_empty i)
    go (no! f) q i k = ap (λ (x : ℕ). is_in x i) (sym (eqb-true us (named d) (sym (ap (λ (b : Bool). b || eqb us (named d)) f) ∙ q))) ∙ k

-- with none named, none is untrusted
pub none_choice_none : (p : Params) (h : Ranged p) (off : List ℕ) (un : Mask) → Choice (par_of p h off) un (is_in (named no_drive)) → None (par_of p h off) un
none_choice_none p h off un c d l = not_so (un d) (λ q. clash (c.1 d l q) (ap (λ (x : ℕ). is_in x d) none_named ∙ is_in_empty d))

pub stands_of : (p : Params) (h : Ranged p) (off : List ℕ) (s : Hist) → Holds p h off s → (n : ℕ) × Stands p h off s n
stands_of p h off s (goes n x k) = (
  n,
  record {
    g = x.healthy.live.g;
    u = x.healthy.live.u;
    a = x.healthy.live.a;
    c = x.healthy.live.c;
    m = run x.healthy.live.M;
    T = x.healthy.live.T;
    whole = x.healthy.whole;
    reached = x.healthy.live.reached;
    trust = none_trust p h off s.untrusted x.healthy.live.g.un x.trusted x.healthy.live.reached.inv.mode.none;
    mark = k;
  },
)
stands_of p h off s (rests n x q) = (n, x)

-- the mark under another ghost
pub mark_moves : (p : Params) (off : List ℕ) (g g' : Ghost) (n : ℕ) (o : Opt Mark) → ((x : Val) → InV x g.sent → InV x g'.sent) → g'.last ≡ g.last → MarkOk p off g n o
    → MarkOk p off g' n o
mark_moves p off g g' n none f e k = tt
mark_moves p off g g' n (some m) f e k = (
  k.0,
  λ a l.
      shows_more p g.sent g'.sent g.last g'.last a (seen_at p off m.world a) f (ap (λ (y : ℕ → ℕ). y a) (sym e)) (k.1 a l),
)

-- ---- one number for one mask

pub named_same : (d e : ℕ) → d < 8 → named d ≡ named e → d ≡ e
named_same d e l q = eqb-true d e (sym (is_in-named e d l) ∙ ap (λ (x : ℕ). is_in x d) (sym q) ∙ is_in-named d d l ∙ eq-eqb d d refl)

pub named_not : (p : Params) → Ranged p → (d : ℕ) → d < p.N → named d ≡ 0 → ⊥
named_not p h d l e = clash (eq-eqb (named d) 0 e) (named_not_zero d (omega (arith, l, h.drives_high)))

-- ---- what a call leaves of a history

pub leaves-finished : (s : Hist) (d n : ℕ) (q : Report) (k : Disk) (m : Memory) (b : List ℕ)
    → leaves s (restart d n) (mk_after (Restarted q) k m b) ≡ hist (mk_world k m) (map forget s.sends) (named d) (some (record { world = mk_world k m; sent_then = length (map forget s.sends) }))
unfolding leaves sent_after untrusted_after marked ends_run finished is_cut_of is_refused kind
leaves-finished s d n q k m b = refl

pub leaves-cut : (s : Hist) (d n : ℕ) (k : Disk) (m : Memory) (b : List ℕ) → leaves s (restart d n) (mk_after Cut k m b) ≡ hist (mk_world k m) (map forget s.sends) (named d) s.mark
unfolding leaves sent_after untrusted_after marked ends_run finished is_cut_of is_refused kind
leaves-cut s d n k m b = refl

pub rebuild_leaves-cut : (s : Hist) (d n : ℕ) (k : Disk) (m : Memory) (b : List ℕ) → leaves s (rebuild d n) (mk_after Cut k m b) ≡ hist (mk_world k m) (map forget s.sends) (named d) s.mark
unfolding leaves sent_after untrusted_after marked ends_run finished is_cut_of is_refused kind
rebuild_leaves-cut s d n k m b = refl

pub rebuild_leaves : (s : Hist) (d n : ℕ) (k : Disk) (m : Memory) (b : List ℕ) → leaves s (rebuild d n) (mk_after Rebuilt k m b) ≡ hist (mk_world k m) s.sends 0 s.mark
unfolding leaves sent_after untrusted_after marked ends_run finished is_cut_of is_refused kind acked_by sent_by
rebuild_leaves s d n k m b = ap (λ (ss : List Send). hist (mk_world k m) ss 0 s.mark) (append-nil s.sends)
