-- Every history: the invariant is kept by each step, cut or not, and each finished restart reads what it should. Assumes nothing.
use Rattle.std.specs.Prelude.{◌≡◌, refl, List, [], ◌∷◌, ◌++◌, ◌⊎◌, true, false, ℕ, suc, ◌≤◌, ◌<◌}
use Rattle.std.proofs.Common.{sym, ap, ◌∙◌, subst, inl, inr, ⊎_elim, arith}
use Rattle.proof_crash_machine.specs.Val.{Val}
use Rattle.proof_crash_machine.specs.Facts.Pair.{alone}
use Rattle.proof_crash_machine.specs.Lemma.{pair_alone}
use Rattle.proof_crash_machine.specs.View.{ItemView, ItemStore, InI, apply_all, resets}
use Rattle.proof_crash_machine.specs.View.Item.{chunk}
use Rattle.proof_crash_machine.specs.Rest.{Dropped, rest_of, clean_of}
use Rattle.proof_crash_machine.specs.Mask.{Mask, count, tf}
use Rattle.proof_crash_machine.specs.Facts.{Par, None, Beyond, self_none, none_fair, InPair, none_few, some_present, Counted_same, Heads, Ghost, InV, Choice, Datum, Counted, Used}
use Rattle.proof_crash_machine.specs.Facts.{Facts}
use Rattle.proof_crash_machine.specs.Ghosts.{with_pr, with_sent, send_facts, raised}
use Rattle.proof_crash_machine.specs.Name.{naming}
use Rattle.proof_crash_machine.specs.Drop.{dropped, dropped_end, settle_facts}
use Rattle.proof_crash_machine.specs.Rebuild.{rebuild_facts}
use Rattle.proof_crash_machine.specs.Untrusted.{untrusted}
use Rattle.proof_crash_machine.specs.Distrust.{distrust, finish_missing}
use Rattle.proof_crash_machine.specs.Reclaim.{reclaim_facts, reclaimed_end}
use Rattle.proof_crash_machine.specs.Reset.{zone_nil}
use Rattle.proof_crash_machine.specs.Finish.{Reads, up_to, in_up_to, up_to_le, finishing, Clean, finish_none}
use Rattle.proof_crash_machine.specs.Final.{Right, right, unchanged}
use Rattle.proof_crash_machine.specs.Restart.{rewrite_prefix, restart_done, restart_facts, restart_clean}
use Rattle.proof_crash_machine.specs.Footer.{footed}
use Rattle.proof_crash_machine.specs.Filling.{filled_word, unfilled}
use Rattle.proof_crash_machine.proofs.Filling.{foot_mem, seal_mem}
use Rattle.proof_crash_machine.proofs.Filling
use Rattle.proof_crash_machine.specs.OpenSeg.{Fresh, headers, opened_prefix, open_facts}
use Rattle.proof_crash_machine.specs.Memory.{Mem, MemOk, Flight, fill_mem, land_facts, land_mem, end_mem, done_counts}
use Rattle.proof_crash_machine.specs.Memory2.{resets-other, resets_empty, reset_mem, open_mem_lem, rest_mem_lem}
use Rattle.proof_crash_machine.specs.History.{Mode, State, ModeOk, Inv, g_n, tail_of, Dropping, Opens, Step, Claim, StepClaim, StepsTo, start}
use Rattle.proof_crash_machine.specs.History.Mode.{off, ro, run}
use Rattle.proof_crash_machine.specs.History.Step.{lose, begin, send, copy, close, land, ack, open_cut, open_done, footer, seal, reset_cut, reset_done, missing, restart_cut₁, restart_cut₂}
use Rattle.proof_crash_machine.specs.History.Step.{restart, restart_plain, restart_footer, rebuild, rebuild_store, rebuild_done}
use Rattle.proof_crash_machine.specs.History.StepsTo.{stop, then}

-- ---- what a finished restart that names m reads, K

-- on drives u that σ's stores led to, under a ghost with σ's history
pub claim : (p : Par) (σ : State) → Inv p σ → (g : Ghost) (u : ItemView) → Facts p g u → g.sent ≡ σ.g.sent → g.last ≡ σ.g.last → g.base ≡ σ.g.base
    → g.top ≡ σ.g.top
    → g.said ≡ σ.g.said → (m : Mask) → Choice p g.un m → (K : ℕ → ℕ) → Reads p g.hd u m K → Claim p σ m K
claim p σ i g u h es el eb et ed m c K r = record {
  acked = λ x k. omega (arith, base x.addr, (i.acks x k).1);
  floor = λ a. omega (arith, base a, i.grown a);
  sent = λ a b. let k : (x : Val) × InV x g.sent × (x.addr ≡ a) × (x.stamp ≡ K a) = q.sent a b in (k.0, subst (λ (l : List Val). InV k.0 l) es k.1, k.2, k.3);
  same = λ s nb a. unchanged p g u h m c (λ w. nb (subst (λ (f : Mask). Beyond p f m) ed w)) K r
      (λ x k. subst (λ (t : ℕ). x.stamp ≤ t) (sym et) (i.still s x (subst (λ (l : List Val). InV x l) es k)))
      (λ b. subst (λ (f : ℕ → ℕ). f b ≤ g.base b) (sym el) (subst (λ (f : ℕ → ℕ). σ.g.last b ≤ f b) (sym eb) (i.grown b))) a
      ∙ ap (λ (f : ℕ → ℕ). f a) el;
}
  where
    q : Right p g u m K
    q = right p g u h m c K r

    base : (a : ℕ) → σ.g.base a ≤ K a
    base a = let b : g.base a ≤ K a = q.kept a in let e : g.base a ≡ σ.g.base a = ap (λ (f : ℕ → ℕ). f a) eb in omega (arith, b, e)

-- ---- the parts of the invariant that a finished restart makes anew

module _ (p : Par) (σ : State) (m : Mask) (K : ℕ → ℕ) (c : Claim p σ m K) (t : ℕ) (b : (a : ℕ) → K a ≤ t) where
  acks_cut : ((x : Val) → InV x σ.acked → InV x σ.g.sent) → (x : Val) → InV x σ.acked → (InV x (up_to t σ.g.sent)) × (x.stamp ≤ K x.addr)
  acks_cut h x m = (in_up_to t σ.g.sent x (h x m) (omega (arith, c.acked x m, b x.addr)), c.acked x m)

uniq_cut : (t : ℕ) (l : List Val) → ((x y : Val) → InV x l → InV y l → x.stamp ≡ y.stamp → x ≡ y) → (x y : Val) → InV x (up_to t l) → InV y (up_to t l)
    → x.stamp ≡ y.stamp → x ≡ y
uniq_cut t l h x y m k e = h x y (up_to_le t l x m).0 (up_to_le t l y k).0 e

reads_le : (p : Par) (h : Heads) (u : ItemView) (m : Mask) (K : ℕ → ℕ) → Reads p h u m K → (t : ℕ) → ((x : Val) → Counted p h u m x → x.stamp ≤ t) → (a : ℕ) → K a ≤ t
reads_le p h u m K r t b a = ⊎_elim (λ (e : K a ≡ 0). omega arith)
    (λ (k : (x : Val) × Counted p h u m x × (x.addr ≡ a) × (x.stamp ≡ K a)). omega (arith, b k.0 k.1, k.3)) (r.some a)

uniq_more : (l : List Val) (n : ℕ) (x : Val) → ((y : Val) → InV y l → y.stamp ≤ n) → x.stamp ≡ suc n
    → ((y z : Val) → InV y l → InV z l → y.stamp ≡ z.stamp → y ≡ z) → (y z : Val) → InV y (x ∷ l) → InV z (x ∷ l) → y.stamp ≡ z.stamp → y ≡ z
uniq_more l n x b s h y z (inl i) (inl j) e = i ∙ sym j
uniq_more l n x b s h y z (inl i) (inr j) e = absurd (let q : y.stamp ≡ x.stamp = ap (λ (w : Val). w.stamp) i in let k : ⊥ = omega (arith, q, s, e, b z j) in k)
uniq_more l n x b s h y z (inr i) (inl j) e = absurd (let q : z.stamp ≡ x.stamp = ap (λ (w : Val). w.stamp) j in let k : ⊥ = omega (arith, q, s, e, b y i) in k)
uniq_more l n x b s h y z (inr i) (inr j) e = h y z i j e

pub mem_of : (p : Par) (σ : State) (M : Mem) → Inv p σ → σ.mode ≡ run M → MemOk p σ.g σ.v M
mem_of p σ M i e = subst (λ (m : Mode). ModeOk p σ.g σ.v m) e i.mode

mode_of : (p : Par) (g : Ghost) (v : ItemView) (m : Mode) → (m ≡ ro) ⊎ (m ≡ off) → ModeOk p g v m
mode_of p g v m (inl e) = subst (λ (k : Mode). ModeOk p g v k) (sym e) tt
mode_of p g v m (inr e) = subst (λ (k : Mode). ModeOk p g v k) (sym e) tt

no_since : {A : Type 0} → true ≡ false → A
no_since e = absurd (let z : ◌≡◌ {A = ℕ} 0 1 = cc in let q : ⊥ = omega arith in q)

fresh_of : (p : Par) (g : Ghost) (v : ItemView) (M : Mem) (w : ℕ) → MemOk p g v M → Opens p g v M w → Fresh p g v w (suc M.serial)
fresh_of p g v M w m a = record {
  none = m.none;
  no_pair = m.no_pair;
  empty = a.empty;
  zs = a.zs;
  fits = a.fits;
  clear = a.clear;
  first = omega arith;
  space = a.space;
  newest = λ y k. omega (arith, m.serials y k);
  sealed = λ y k. no_since (sym (m.lone y k).0 ∙ a.shut?);
}

after_drops : (p : Par) (g : Ghost) (v : ItemView) → Facts p g v → (none : None p g.un) (ss : List ItemStore) → Dropping p g v none ss → Facts p (with_pr g alone) (apply_all v ss)
after_drops p g v h none ss k = settle_facts p g none (apply_all v ss) (dropped_end p g none (Dropped p g v) v ss k.are h (λ z n. n)) (rest_of p g v h none ss k.are k.every)

-- ---- what each finished restart reads

-- the drives off m are as they were: so is what is read
pub reads_same : (p : Par) (g : Ghost) (v u : ItemView) (m : Mask) (K : ℕ → ℕ) → ((e y : ℕ) → e < p.N → m e ≡ false → v e y ≡ u e y) → Reads p g.hd u m K
    → Reads p g.hd v m K
reads_same p g v u m K e r = record {
  most = λ x c. r.most x (Counted_same p g v u m (λ z d l n. e d z l n) (λ z d l n. sym (e d z l n)) x c);
  some = λ a. ⊎_elim (λ k. inl k)
      (λ (k : (x : Val) × Counted p g.hd u m x × (x.addr ≡ a) × (x.stamp ≡ K a)). inr (
        k.0,
        Counted_same p g u v m (λ z d l n. sym (e d z l n)) (λ z d l n. e d z l n) k.0
            k.1,
        k.2,
        k.3,
      )) (r.some a);
}

claim_missing : (p : Par) (σ : State) → Inv p σ → (m : Mask) (u : ItemView) (K : ℕ → ℕ) → Choice p σ.g.un m → ((e y : ℕ) → e < p.N → m e ≡ false → σ.v e y ≡ u e y)
    → Reads p σ.g.hd u m K → Claim p σ m K
claim_missing p σ i m u K c e r = claim p σ i σ.g σ.v i.facts refl refl refl refl refl m c K (reads_same p σ.g σ.v u m K e r)

pub claims : (p : Par) (σ τ : State) → Inv p σ → (s : Step p σ τ) → StepClaim p σ τ s
claims p _ _ i (lose σ) = tt
claims p _ _ i (begin σ M e a b) = tt
claims p _ _ i (send σ M x s d r e a b w) = tt
claims p _ _ i (copy σ M x s d r e a b) = tt
claims p _ _ i (close σ M s r e a b) = tt
claims p _ _ i (land σ M d s e a b c f g) = tt
claims p _ _ i (ack σ M s f l e a b c d) = tt
claims p _ _ i (open_cut σ M w k e a) = tt
claims p _ _ i (open_done σ M w e a) = tt
claims p _ _ i (footer σ M d z j e a b c f) = tt
claims p _ _ i (seal σ M e a b) = tt
claims p _ _ i (reset_cut σ M z k e q) = tt
claims p _ _ i (reset_done σ M z e q a) = tt
claims p _ _ i (missing σ m t u K a b c d e) = claim_missing p σ i m u K b c d
claims p _ _ i (restart_cut₁ σ k none ss d) = tt
claims p _ _ i (restart_cut₂ σ k none ss d w o r π a) = tt
claims p _ _ i (restart σ none ss d w o r π a K t rd b o? z n ns rg wh bl sr up) =
    claim p σ i (with_pr (g_n σ.g w o r a.zs) alone) (apply_all σ.v (ss ++ tail_of p σ.g w o r a.zs π))
    (restart_facts p σ.g σ.v i.facts none (Dropped p σ.g σ.v) ss d.are (λ z n. n) (rest_of p σ.g σ.v i.facts none ss d.are d.every) w o r π a)
    refl refl refl refl refl σ.g.un (self_none p σ.g.un none) K rd
claims p _ _ i (restart_plain σ none ss d cl K t rd b o? z n ns rg wh bl sr up) =
    claim p σ i (with_pr σ.g alone) (apply_all σ.v ss) (after_drops p σ.g σ.v i.facts none ss d) refl refl refl refl refl σ.g.un (self_none p σ.g.un none) K rd
claims p _ _ i (restart_footer σ d z j a b c e f h) = tt
claims p _ _ i (rebuild σ d l c) = tt
claims p _ _ i (rebuild_store σ u l e m k) = tt
claims p _ _ i (rebuild_done σ u n l b a) = tt

-- ---- each step keeps the invariant

pub step_inv : (p : Par) (σ τ : State) → Inv p σ → Step p σ τ → Inv p τ
unfolding fresh_of
step_inv p _ _ i (lose σ) = record { facts = i.facts; fair = i.fair; acks = i.acks; grown = i.grown; still = i.still; uniq = i.uniq; ones = i.ones; mode = tt }
step_inv p _ _ i (begin σ M e o b) =
    let m : MemOk p σ.g σ.v M = mem_of p σ M i e in
    record {
      facts = i.facts;
      fair = i.fair;
      acks = i.acks;
      grown = i.grown;
      still = i.still;
      uniq = i.uniq;
      ones = i.ones;
      mode =
          fill_mem p σ.g σ.v M m σ.g.sent M.next (suc M.next) M.stamp (unfilled p M.next) (λ e. false) o (omega arith)
          (omega arith) (omega arith) (λ y k. k) m.stamps (omega arith)
          (Filling.begin p σ.g σ.v M.zone M.next (λ e x l k. let q : ⊥ = omega (arith, m.below o e M.next x l k) in q));
    }
step_inv p _ _ i (send σ M x s d r e t f al) =
    let m : MemOk p σ.g σ.v M = mem_of p σ M i e in
    let w : (M.is_open ≡ true) × (s < M.next) × Flight p σ.g σ.v M.zone s (M.F s) (M.ready s) = m.flies s t.fly in
    record {
      facts = send_facts p σ.g σ.v x i.facts;
      fair = i.fair;
      acks = λ y k. (inr (i.acks y k).0, (i.acks y k).1);
      grown = i.grown;
      still = λ q. no_since q;
      uniq = uniq_more σ.g.sent M.stamp x m.stamps f i.uniq;
      ones =
          λ y k. ⊎_elim (λ (q : y ≡ x). let z : y.stamp
          ≡ x.stamp = ap (λ (w : Val). w.stamp) q in let b : y.addr
          ≡ x.addr = ap (λ (w : Val). w.addr) q in (omega (arith, z, f), omega (arith, b, al)))
          (λ (q : InV y σ.g.sent). i.ones y q) k;
      mode = fill_mem p σ.g σ.v M m (x ∷ σ.g.sent) s M.next x.stamp (filled_word p s (M.F s) d x) r w.0 w.1 (omega arith) m.few (λ y k. inr k)
          (λ y k. ⊎_elim (λ (q : y ≡ x). let z : y.stamp ≡ x.stamp = ap (λ (w : Val). w.stamp) q in omega arith) (λ (q : InV y σ.g.sent). omega (arith, m.stamps y q, f)) k)
          (omega (arith, f))
          (Filling.fill p (with_sent σ.g (x ∷ σ.g.sent)) σ.v M.zone s (M.F s) (M.ready s)
          (record { mine = w.2.mine; word = w.2.word; ok = w.2.ok; good = λ y k. ⊎_elim (λ q. inl q) (λ (q : InV y σ.g.sent). inr (inr q)) (w.2.good y k) })
          d x t.drive t.data? t.free t.early (inr (inl refl)) (inr (omega (arith, m.top, f))) r t.more);
    }
step_inv p _ _ i (copy σ M x s d r e t c) =
    let m : MemOk p σ.g σ.v M = mem_of p σ M i e in
    let w : (M.is_open ≡ true) × (s < M.next) × Flight p σ.g σ.v M.zone s (M.F s) (M.ready s) = m.flies s t.fly in
    record {
      facts = i.facts;
      fair = i.fair;
      acks = i.acks;
      grown = i.grown;
      still = i.still;
      uniq = i.uniq;
      ones = i.ones;
      mode = fill_mem p σ.g σ.v M m σ.g.sent s M.next M.stamp (filled_word p s (M.F s) d x) r w.0 w.1 (omega arith) m.few (λ y k. k) m.stamps (omega arith)
          (Filling.fill p σ.g σ.v M.zone s (M.F s) (M.ready s) w.2 d x t.drive t.data? t.free t.early
          (i.facts.parity.sound σ.g.un (self_none p σ.g.un m.none) c.z c.s c.f c.st x c.dt) (i.facts.content.fresh σ.g.un (self_none p σ.g.un m.none)
          (none_fair p σ.g.said σ.g.un m.none) x c) r t.more);
    }
step_inv p _ _ i (close σ M s r e f more) =
    let m : MemOk p σ.g σ.v M = mem_of p σ M i e in
    let w : (M.is_open ≡ true) × (s < M.next) × Flight p σ.g σ.v M.zone s (M.F s) (M.ready s) = m.flies s f in
    record {
      facts = i.facts;
      fair = i.fair;
      acks = i.acks;
      grown = i.grown;
      still = i.still;
      uniq = i.uniq;
      ones = i.ones;
      mode = fill_mem p σ.g σ.v M m σ.g.sent s M.next M.stamp (M.F s) r w.0 w.1 (omega arith) m.few (λ y k. k) m.stamps (omega arith)
          (record { mine = λ y x l k. ((w.2.mine y x l k).0, more y (w.2.mine y x l k).1); word = w.2.word; good = w.2.good; ok = w.2.ok });
    }
step_inv p _ _ i (land σ M d s e l f new may ofs) =
    let m : MemOk p σ.g σ.v M = mem_of p σ M i e in
    record {
      facts = land_facts p σ.g σ.v M m d s l f new may ofs i.facts;
      fair = i.fair;
      acks = i.acks;
      grown = i.grown;
      still = i.still;
      uniq = i.uniq;
      ones = i.ones;
      mode = land_mem p σ.g σ.v M m d s l f new may ofs;
    }
step_inv p _ _ i (ack σ M s f l e fl on up al) =
    let m : MemOk p σ.g σ.v M = mem_of p σ M i e in
    let more : (a : ℕ) → σ.g.base a ≤ f a = λ a. ⊎_elim (λ (q : f a ≡ σ.g.base a). omega arith)
    (λ (q : (x : Val) × Datum p s (M.F s) x × (x.addr ≡ a) × (f a ≡ x.stamp) × (σ.g.base a ≤ f a)). q.4) (up a) in
    record {
      facts = raised p σ.g σ.v f i.facts (λ a. ⊎_elim (λ (q : f a ≡ σ.g.base a). inl q)
          (λ (q : (x : Val) × Datum p s (M.F s) x × (x.addr ≡ a) × (f a ≡ x.stamp) × (σ.g.base a ≤ f a)).
          inr (q.0, done_counts p σ.g σ.v M m i.facts s fl on q.0 q.1, q.2, omega (arith, q.3))) (up a));
      fair = i.fair;
      acks = λ x k. ⊎_elim (λ (q : InV x σ.acked). ((i.acks x q).0, omega (arith, (i.acks x q).1, more x.addr))) (λ (q : (InV x σ.g.sent) × (x.stamp ≤ f x.addr)). q) (al x k);
      grown = λ a. omega (arith, i.grown a, more a);
      still = i.still;
      uniq = i.uniq;
      ones = i.ones;
      mode = end_mem p σ.g σ.v M m s f;
    }
step_inv p _ _ i (open_cut σ M w k e a) =
    record {
      facts = opened_prefix p σ.g σ.v w (suc M.serial) (fresh_of p σ.g σ.v M w (mem_of p σ M i e) a) i.facts k;
      fair = i.fair;
      acks = i.acks;
      grown = i.grown;
      still = i.still;
      uniq = i.uniq;
      ones = i.ones;
      mode = tt;
    }
step_inv p _ _ i (open_done σ M w e a) =
    let m : MemOk p σ.g σ.v M = mem_of p σ M i e in
    let b : Fresh p σ.g σ.v w (suc M.serial) = fresh_of p σ.g σ.v M w m a in
    record {
      facts = (open_facts p σ.g σ.v w (suc M.serial) b i.facts).0;
      fair = i.fair;
      acks = i.acks;
      grown = i.grown;
      still = i.still;
      uniq = i.uniq;
      ones = i.ones;
      mode = open_mem_lem p σ.g σ.v (apply_all σ.v (headers p σ.g w (suc M.serial) a.zs)) w (suc M.serial) M m (omega arith) b.sealed
          (open_facts p σ.g σ.v w (suc M.serial) b i.facts).2
          ((naming σ.g w (suc M.serial) 0 a.zs alone).hd.ser w) ((naming σ.g w (suc M.serial) 0 a.zs alone).hd.cop w) a.zs
          ((naming σ.g w (suc M.serial) 0 a.zs alone).hd.zn w)
          (λ d l. ((open_facts p σ.g σ.v w (suc M.serial) b i.facts).1 d l).0 l);
    }
step_inv p _ _ i (footer σ M d z j e l b c f) =
    let m : MemOk p σ.g σ.v M = mem_of p σ M i e in
    record {
      facts = footed p σ.g σ.v d z j (l, m.none d l) b c (λ w o q. absurd (pair_alone (sym q ∙ m.no_pair))) f i.facts;
      fair = i.fair;
      acks = i.acks;
      grown = i.grown;
      still = i.still;
      uniq = i.uniq;
      ones = i.ones;
      mode = foot_mem p σ.g σ.v M m d z j b c;
    }
step_inv p _ _ i (seal σ M e a b) =
    record { facts = i.facts; fair = i.fair; acks = i.acks; grown = i.grown; still = i.still; uniq = i.uniq; ones = i.ones; mode = seal_mem p σ.g σ.v M (mem_of p σ M i e) a b }
step_inv p _ _ i (reset_cut σ M z k e q) =
    let m : MemOk p σ.g σ.v M = mem_of p σ M i e in
    record {
      facts = reclaim_facts p σ.g z m.none m.no_pair σ.v
          i.facts q k;
      fair = i.fair;
      acks = i.acks;
      grown = i.grown;
      still = i.still;
      uniq = i.uniq;
      ones = i.ones;
      mode = tt;
    }
step_inv p _ _ i (reset_done σ M z e q a) =
    let m : MemOk p σ.g σ.v M = mem_of p σ M i e in
    record {
      facts = reclaimed_end p σ.g z m.none m.no_pair σ.v i.facts q;
      fair = i.fair;
      acks = i.acks;
      grown = i.grown;
      still = i.still;
      uniq = i.uniq;
      ones = i.ones;
      mode = reset_mem p σ.g σ.v (apply_all σ.v (resets z 0 p.N)) z M m a (λ d y n. resets-other σ.v z 0 p.N d y n)
          (λ d l. resets_empty σ.v z 0 p.N d (λ b. absurd (let j : ⊥ = omega arith in j)) (omega arith));
    }
step_inv p _ _ i (missing σ m t u K l c e r b) =
    let k : Claim p σ m K = claim_missing p σ i m u K c e r in
    record {
      facts = untrusted p (finishing σ.g m K t σ.g.sent) σ.v u e (finish_missing p σ.g σ.v m l c i.facts K (reads_same p σ.g σ.v u m K e r) t);
      fair = λ q. tf q.2.2 q.2.3;
      acks = λ x q. ((i.acks x q).0, k.acked x q);
      grown = λ a. omega arith;
      still = λ q. b;
      uniq = i.uniq;
      ones = i.ones;
      mode = tt;
    }
step_inv p _ _ i (restart_cut₁ σ k none ss d) =
    record {
      facts = dropped p σ.g none (Dropped p σ.g σ.v) σ.v ss d.are i.facts
          (λ z n. n) k;
      fair = i.fair;
      acks = i.acks;
      grown = i.grown;
      still = i.still;
      uniq = i.uniq;
      ones = i.ones;
      mode = tt;
    }
step_inv p _ _ i (restart_cut₂ σ k none ss d w o r π a) =
    record {
      facts = rewrite_prefix p (with_pr σ.g alone) (apply_all σ.v ss) w o r π a (rest_of p σ.g σ.v i.facts none ss d.are d.every)
          (after_drops p σ.g σ.v i.facts none ss d) k;
      fair = i.fair;
      acks = i.acks;
      grown = i.grown;
      still = i.still;
      uniq = i.uniq;
      ones = i.ones;
      mode = tt;
    }
step_inv p _ _ i (restart σ none ss d w o r π a K t rd b o? z n ns rg wh bl sr up) =
    let c : Claim p σ σ.g.un K = claims p _ _ i (restart σ none ss d w o r π a K t rd b o? z n ns rg wh bl sr up) in
    record {
      facts = restart_done p σ.g σ.v i.facts none (Dropped p σ.g σ.v) ss d.are (λ z n. n) (rest_of p σ.g σ.v i.facts none ss d.are d.every) w o r π a K rd t b;
      fair = none_fair p σ.g.un σ.g.un none;
      acks = acks_cut p σ σ.g.un K c t (reads_le p (g_n σ.g w o r a.zs).hd (apply_all σ.v (ss ++ tail_of p σ.g w o r a.zs π)) σ.g.un K rd t b) (λ x q. (i.acks x q).0);
      grown = λ e. omega arith;
      still = λ q x k. (up_to_le t σ.g.sent x k).1;
      uniq = uniq_cut t σ.g.sent i.uniq;
      ones = λ x k. i.ones x (up_to_le t σ.g.sent x k).0;
      mode = rest_mem_lem p (with_pr (g_n σ.g w o r a.zs) alone) (apply_all σ.v (ss ++ tail_of p σ.g w o r a.zs π))
          (restart_clean p σ.g σ.v i.facts none (Dropped p σ.g σ.v) ss d.are (λ z n. n) (rest_of p σ.g σ.v i.facts none ss d.are d.every) w o r π a)
          o? z n ns rg wh bl K t sr up;
    }
step_inv p _ _ i (restart_plain σ none ss d cl K t rd b o? z n ns rg wh bl sr up) =
    let q : Clean p (with_pr σ.g alone) (apply_all σ.v ss) =
    clean_of p (with_pr σ.g alone) (apply_all σ.v ss) (after_drops p σ.g σ.v i.facts none ss d) none refl (rest_of p σ.g σ.v i.facts none ss d.are d.every) cl in
    let c : Claim p σ σ.g.un K = claims p _ _ i (restart_plain σ none ss d cl K t rd b o? z n ns rg wh bl sr up) in
    record {
      facts = finish_none p (with_pr σ.g alone) (apply_all σ.v ss) q (after_drops p σ.g σ.v i.facts none ss d) K rd t b;
      fair = none_fair p σ.g.un σ.g.un none;
      acks = acks_cut p σ σ.g.un K c t (reads_le p σ.g.hd (apply_all σ.v ss) σ.g.un K rd t b) (λ x q. (i.acks x q).0);
      grown = λ e. omega arith;
      still = λ q x k. (up_to_le t σ.g.sent x k).1;
      uniq = uniq_cut t σ.g.sent i.uniq;
      ones = λ x k. i.ones x (up_to_le t σ.g.sent x k).0;
      mode = rest_mem_lem p (with_pr σ.g alone) (apply_all σ.v ss) q o? z n ns rg wh bl K t sr up;
    }
step_inv p _ _ i (restart_footer σ d z j none rest l b c f) =
    record {
      facts = footed p (with_pr σ.g alone) σ.v d z j (l, none d l) b c (λ w o q. absurd (pair_alone (sym q))) f (settle_facts p σ.g none σ.v i.facts rest);
      fair = i.fair;
      acks = i.acks;
      grown = i.grown;
      still = i.still;
      uniq = i.uniq;
      ones = i.ones;
      mode = tt;
    }
step_inv p _ _ i (rebuild σ d l c) =
    record { facts = distrust p σ.g σ.v d l i.facts; fair = c; acks = i.acks; grown = i.grown; still = i.still; uniq = i.uniq; ones = i.ones; mode = tt }
step_inv p _ _ i (rebuild_store σ u l e m k) =
    record { facts = untrusted p σ.g σ.v u e i.facts; fair = i.fair; acks = i.acks; grown = i.grown; still = i.still; uniq = i.uniq; ones = i.ones; mode = mode_of p σ.g u m k }
step_inv p _ _ i (rebuild_done σ u n l b a) =
    record {
      facts = rebuild_facts p σ.g n l i.fair σ.v u a i.facts;
      fair = none_fair p
          σ.g.said n l;
      acks = i.acks;
      grown = i.grown;
      still = i.still;
      uniq = i.uniq;
      ones = i.ones;
      mode = tt;
    }

-- ---- histories

pub kept-all : (p : Par) (σ τ : State) → StepsTo p σ τ → Inv p σ → Inv p τ
kept-all p _ _ (stop σ) i = i
kept-all p _ _ (then σ τ υ s r) i = kept-all p τ υ r (step_inv p σ τ i s)

pub inv_start : (p : Par) → Inv p (start p)
unfolding start
inv_start p = record {
  facts = record {
    lost = record { few = none_few p (λ d. false) (λ d l. refl) };
    zones = λ d z t. zone_nil p (start p).g d z;
    parity = record {
      whole = λ m c z s f on. absurd (chunkless m f s z c.0 on);
      sound = λ m c z s f st x dt. absurd (chunkless m f s z c.0 st.on);
    };
    swap = record {
      serials = λ y z a b e. absurd (unused y a);
      below = λ z a. absurd (unused z a);
      one = λ w o a b e. absurd (unused w a);
      named = λ w o e. absurd (pair_alone (sym e));
      safe = λ w o e. absurd (pair_alone (sym e));
    };
    «open» = record {
      ragged = λ y z (d, t, a, b) c. absurd (unused y (d, t, a));
      place = record {
        put = λ z i. absurd (idle z i);
        apart = λ y z i j. absurd (idle y i);
        room = λ d l. let k : (y : ℕ) × (y < p.Z) × (p.fine d y ≡ true) = p.zones d l in inl (k.0, k.1, k.2, λ z i. absurd (idle z i));
      };
    };
    content = record { fresh = λ m c nb x k. absurd (chunkless m k.f k.s k.z c.0 k.st.on); floor = λ a. inl refl };
  };
  fair = none_fair p (λ d. false) (λ d. false) (λ d l. refl);
  acks = λ x m. absurd m;
  grown = λ a. omega arith;
  still = λ e x m. absurd m;
  uniq = λ x y m k e. absurd m;
  ones = λ x m. absurd m;
  mode = tt;
}
  where
    unused : (z : ℕ) → Used p (λ d. false) (λ d z. []) z → ⊥
    unused z (d, t, b) = let q : ⊥ = omega (arith, b) in q

    idle : (z : ℕ) → (Used p (λ d. false) (λ d z. []) z) ⊎ (InPair alone z) → ⊥
    idle z (inl i) = unused z i
    idle z (inr (inl (o, e))) = pair_alone (sym e)
    idle z (inr (inr (w, e))) = pair_alone (sym e)

    chunkless : (m : Mask) (f : ℕ → Val) (s z : ℕ) → count p.N m ≤ p.P → ((d : ℕ) → d < p.N → m d ≡ false → InI (chunk s (f d)) []) → ⊥
    chunkless m f s z few on = let d : (d : ℕ) × (d < p.N) × (m d ≡ false) = some_present p m few in on d.0 d.1 d.2

-- THE THEOREM: from empty drives, after every history, each finished restart reads at every address a block that was sent there, no earlier than
-- any acknowledged one, and what the finished restart before it read if none was sent between (but for those that name more than it named, and it not none)
pub demand3 : (p : Par) (σ τ : State) → StepsTo p (start p) σ → (s : Step p σ τ) → StepClaim p σ τ s
demand3 p σ τ r s = claims p σ τ (kept-all p (start p) σ r (inv_start p)) s
