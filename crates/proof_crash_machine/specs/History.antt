-- Histories: the states of the machine, its steps, the invariant, and what is claimed of each finished restart. Assumes nothing.
use Rattle.std.specs.Prelude.{◌≡◌, List, [], ◌∷◌, ◌++◌, ◌⊎◌, ◌≢◌, Bool, true, false, ℕ, suc, ◌≤◌, ◌<◌, length, take}
use Rattle.proof_crash_machine.specs.Val.{Val, pads}
use Rattle.proof_crash_machine.specs.Facts.Pair.{alone, pair}
use Rattle.proof_crash_machine.specs.View.{ItemView, ItemStore, InI, with_item, apply_all, AllS, resets}
use Rattle.proof_crash_machine.specs.View.Item.{chunk, foot}
use Rattle.proof_crash_machine.specs.View.ItemStore.{reset}
use Rattle.proof_crash_machine.specs.Rest.{InS, Dropped, Unsealed}
use Rattle.proof_crash_machine.specs.Mask.{Mask}
use Rattle.proof_crash_machine.specs.Facts.{Par, None, Beyond, Ghost, InV, Choice, R, Stripe, Datum, Counted, Used}
use Rattle.proof_crash_machine.specs.Facts.{WholeZone}
use Rattle.proof_crash_machine.specs.Facts.{Ragged, Facts}
use Rattle.proof_crash_machine.specs.Ghosts.{with_pr, with_base, with_sent}
use Rattle.proof_crash_machine.specs.Name.{naming}
use Rattle.proof_crash_machine.specs.Drop.{DropOf}
use Rattle.proof_crash_machine.specs.Rewrite.{MovePlan, copies, drops}
use Rattle.proof_crash_machine.specs.Rebuild.{with_un, Rebuilt}
use Rattle.proof_crash_machine.specs.Reclaim.{Quiet}
use Rattle.proof_crash_machine.specs.Finish.{Reads, up_to, finishing}
use Rattle.proof_crash_machine.specs.Restart.{Ready}
use Rattle.proof_crash_machine.specs.Filling.{filled_word, unfilled, shut}
use Rattle.proof_crash_machine.specs.OpenSeg.{headers}
use Rattle.proof_crash_machine.specs.Memory.{Mem, MemOk, flown, ended}
use Rattle.proof_crash_machine.specs.Memory2.{open_mem, rest_mem}

-- off: after a cut. ro: a drive was named missing. run: a healthy run
pub data Mode : Type 0 where
  off : Mode
  ro : Mode
  run : Mem → Mode

pub record State : Type 0 where
  pub g : Ghost
  pub v : ItemView
  -- the acknowledged blocks; whether any was sent since the last finished restart
  pub acked : List Val
  pub since : Bool
  pub mode : Mode

abbrev pub ModeOk : Par → Ghost → ItemView → Mode → Type 0
ModeOk p g v off = Unit {0}
ModeOk p g v ro = Unit {0}
ModeOk p g v (run M) = MemOk p g v M

pub record Inv (p : Par) (σ : State) : Type 0 where
  pub facts : Facts p σ.g σ.v
  -- the untrusted drives are not more than those that the last finished restart named, where it named any
  pub fair : Beyond p σ.g.said σ.g.un → ⊥
  pub acks : (x : Val) → InV x σ.acked → (InV x σ.g.sent) × (x.stamp ≤ σ.g.base x.addr)
  pub grown : (a : ℕ) → σ.g.last a ≤ σ.g.base a
  pub still : σ.since ≡ false → (x : Val) → InV x σ.g.sent → x.stamp ≤ σ.g.top
  -- a stamp means one block
  pub uniq : (x y : Val) → InV x σ.g.sent → InV y σ.g.sent → x.stamp ≡ y.stamp → x ≡ y
  -- stamps start at 1, and addresses are in range
  pub ones : (x : Val) → InV x σ.g.sent → (0 < x.stamp) × (x.addr < p.addrs)
  pub mode : ModeOk p σ.g σ.v σ.mode

abbrev pub at : State → Ghost → ItemView → Mode → State
at σ g v m = record { g = g; v = v; acked = σ.acked; since = σ.since; mode = m }

-- the ghost while segment o is rewritten into w
abbrev pub g_n : Ghost → ℕ → ℕ → ℕ → (ℕ → ℕ) → Ghost
g_n g w o r ζ = naming (with_pr g alone) w r (g.hd.ser o) ζ (pair w o)

abbrev pub tail_of : (p : Par) → Ghost → ℕ → ℕ → ℕ → (ℕ → ℕ) → MovePlan p → List ItemStore
tail_of p g w o r ζ π = copies p (g_n g w o r ζ) w o π ++ drops p (g_n g w o r ζ) w o π

-- the resets of what steps 1 and 2 drop
pub record Dropping (p : Par) (g : Ghost) (v : ItemView) (none : None p g.un) (ss : List ItemStore) : Type 0 where
  pub are : AllS (DropOf p g none (Dropped p g v)) ss
  pub every : (z : ℕ) → Dropped p g v z → (d : ℕ) → d < p.N → 0 < length (v d z) → InS (reset d z) ss

-- drive d of stripe s in flight is still free, and no parity has landed; r may land afterwards
pub record Into (p : Par) (M : Mem) (s d : ℕ) (r : ℕ → Bool) : Type 0 where
  pub fly : M.fly s ≡ true
  pub drive : d < p.N
  pub data? : p.code.par s d ≡ false
  pub blank : M.F s d ≡ pads
  pub free : M.ready s d ≡ false
  pub early : (e : ℕ) → p.code.par s e ≡ true → M.ready s e ≡ false
  pub more : (e : ℕ) → M.ready s e ≡ true → r e ≡ true

-- before a segment w is opened
pub record Opens (p : Par) (g : Ghost) (v : ItemView) (M : Mem) (w : ℕ) : Type 0 where
  pub shut? : M.is_open ≡ false
  -- its zones: good, and no other segment's
  pub zs : ℕ → ℕ
  pub fits : (d : ℕ) → d < p.N → (zs d < p.Z) × (p.fine d (zs d) ≡ true)
  pub clear : (y : ℕ) → Used p g.un v y → (d : ℕ) → d < p.N → g.hd.zn y d ≢ zs d
  pub empty : (e : ℕ) → e < p.N → v e w ≡ []
  pub space : (d : ℕ) → d < p.N → (y : ℕ) × (y < p.Z) × (p.fine d y ≡ true) × (zs d ≢ y) × ((z : ℕ) → Used p g.un v z → g.hd.zn z d ≢ y)

pub data Step (p : Par) : State → State → Type 0 where
  -- the power is cut between stores
  lose : (σ : State) → Step p σ (at σ σ.g σ.v off)
  -- the next stripe begins
  begin : (σ : State) (M : Mem) → σ.mode ≡ run M → M.is_open ≡ true → M.next < p.S
      → Step p σ (at σ σ.g σ.v (run (flown M M.next (unfilled p M.next) (λ e. false) (suc M.next) M.stamp)))
  -- a write: x is sent, and goes to drive d of the filling stripe
  send : (σ : State) (M : Mem) (x : Val) (s d : ℕ) (r : ℕ → Bool) → σ.mode ≡ run M → Into p M s d r → x.stamp ≡ suc M.stamp → x.addr < p.addrs
      → Step p σ (record {
        g = with_sent σ.g (x ∷ σ.g.sent);
        v = σ.v;
        acked = σ.acked;
        since = true;
        mode = run (flown M s (filled_word p s (M.F s) d x) r M.next x.stamp);
      })
  -- a copy: x is a block that counts
  copy : (σ : State) (M : Mem) (x : Val) (s d : ℕ) (r : ℕ → Bool) → σ.mode ≡ run M → Into p M s d r → Counted p σ.g.hd σ.v σ.g.un x
      → Step p σ (at σ σ.g σ.v (run (flown M s (filled_word p s (M.F s) d x) r M.next M.stamp)))
  -- a closing: all of the stripe may land
  close : (σ : State) (M : Mem) (s : ℕ) (r : ℕ → Bool) → σ.mode ≡ run M → M.fly s ≡ true → ((e : ℕ) → M.ready s e ≡ true → r e ≡ true)
      → Step p σ (at σ σ.g σ.v (run (flown M s (M.F s) r M.next M.stamp)))
  -- a chunk lands
  land : (σ : State) (M : Mem) (d s : ℕ) → σ.mode ≡ run M → d < p.N → M.fly s ≡ true → ((x : Val) → InI (chunk s x) (σ.v d M.zone) → ⊥) → M.ready s d ≡ true
      → ((k : ℕ) → length (σ.v d M.zone) ≡ suc k → (k < p.S) × (p.grp s ≡ p.grp k))
      → Step p σ (at σ σ.g (with_item σ.v d M.zone (chunk s (M.F s d))) (run M))
  -- a stripe is on all drives: its blocks are acknowledged
  ack : (σ : State) (M : Mem) (s : ℕ) (f : ℕ → ℕ) (l : List Val) → σ.mode ≡ run M → M.fly s ≡ true → ((e : ℕ) → e < p.N → (x : Val) × InI (chunk s x) (σ.v e M.zone))
      → ((a : ℕ) → (f a ≡ σ.g.base a) ⊎ ((x : Val) × Datum p s (M.F s) x × (x.addr ≡ a) × (f a ≡ x.stamp) × (σ.g.base a ≤ f a)))
      → ((x : Val) → InV x l → (InV x σ.acked) ⊎ ((InV x σ.g.sent) × (x.stamp ≤ f x.addr)))
      → Step p σ (record { g = with_base σ.g f; v = σ.v; acked = l; since = σ.since; mode = run (ended M s) })
  -- a segment is opened, or the power is cut meanwhile
  open_cut : (σ : State) (M : Mem) (w k : ℕ) → σ.mode ≡ run M → (a : Opens p σ.g σ.v M w)
      → Step p σ (at σ (naming σ.g w (suc M.serial) 0 a.zs alone) (apply_all σ.v (take k (headers p σ.g w (suc M.serial) a.zs))) off)
  open_done : (σ : State) (M : Mem) (w : ℕ) → σ.mode ≡ run M → (a : Opens p σ.g σ.v M w)
      → Step p σ (at σ (naming σ.g w (suc M.serial) 0 a.zs alone) (apply_all σ.v (headers p σ.g w (suc M.serial) a.zs)) (run (open_mem M w (suc M.serial))))
  -- all stripes are complete: a footer block; and the segment is sealed
  footer : (σ : State) (M : Mem) (d z j : ℕ) → σ.mode ≡ run M → d < p.N → 0 < length (σ.v d z) → length (σ.v d z) < p.cap
      → ((s : ℕ) → s < p.S → (x : Val) × InI (chunk s x) (σ.v d z)) → Step p σ (at σ σ.g (with_item σ.v d z (foot j)) (run M))
  seal : (σ : State) (M : Mem) → σ.mode ≡ run M → ((y : ℕ) → Ragged p σ.g.un σ.v y → ⊥) → ((s : ℕ) → M.fly s ≡ false)
      → Step p σ (at σ σ.g σ.v (run (shut M)))
  -- a segment without live blocks is reset
  reset_cut : (σ : State) (M : Mem) (z k : ℕ) → σ.mode ≡ run M → Quiet p σ.g σ.v z → Step p σ (at σ σ.g (apply_all σ.v (take k (resets z 0 p.N))) off)
  reset_done : (σ : State) (M : Mem) (z : ℕ) → σ.mode ≡ run M → Quiet p σ.g σ.v z → (M.is_open ≡ true → M.zone ≢ z)
      → Step p σ (at σ σ.g (apply_all σ.v (resets z 0 p.N)) (run M))
  -- a restart that names the drives m missing, not none, whatever they hold; it reads K
  missing : (σ : State) (m : Mask) (t : ℕ) (u : ItemView) (K : ℕ → ℕ) → (d : ℕ) × (d < p.N) × (m d ≡ true) → Choice p σ.g.un m
      → ((e y : ℕ) → e < p.N → m e ≡ false → σ.v e y ≡ u e y)
      → Reads p σ.g.hd u m K → ((x : Val) → InV x σ.g.sent → x.stamp ≤ t)
      → Step p σ (record { g = finishing σ.g m K t σ.g.sent; v = u; acked = σ.acked; since = false; mode = ro })
  -- a restart with none missing, cut while it resets, cut while it rewrites, or finished
  restart_cut₁ : (σ : State) (k : ℕ) (none : None p σ.g.un) (ss : List ItemStore) → Dropping p σ.g σ.v none ss → Step p σ (at σ σ.g (apply_all σ.v (take k ss)) off)
  restart_cut₂ : (σ : State) (k : ℕ) (none : None p σ.g.un) (ss : List ItemStore) → Dropping p σ.g σ.v none ss
      → (w o r : ℕ) (π : MovePlan p) (a : Ready p (with_pr σ.g alone) (apply_all σ.v ss) w o r π)
      → Step p σ (at σ (g_n σ.g w o r a.zs) (apply_all (apply_all σ.v ss) (take k (tail_of p σ.g w o r a.zs π))) off)
  restart : (σ : State) (none : None p σ.g.un) (ss : List ItemStore) → Dropping p σ.g σ.v none ss
      → (w o r : ℕ) (π : MovePlan p) (a : Ready p (with_pr σ.g alone) (apply_all σ.v ss) w o r π)
      → (K : ℕ → ℕ) (t : ℕ) → Reads p (g_n σ.g w o r a.zs).hd (apply_all σ.v (ss ++ tail_of p σ.g w o r a.zs π)) σ.g.un K
      → ((x : Val) → Counted p (g_n σ.g w o r a.zs).hd (apply_all σ.v (ss ++ tail_of p σ.g w o r a.zs π)) σ.g.un x → x.stamp ≤ t)
      → (b : Bool) (z n : ℕ) → n ≤ p.S → ((y : ℕ) → Ragged p σ.g.un (apply_all σ.v (ss ++ tail_of p σ.g w o r a.zs π)) y → (b ≡ true) × (y ≡ z))
      → (b ≡ true → WholeZone p σ.g.un (apply_all σ.v (ss ++ tail_of p σ.g w o r a.zs π)) z)
      → (b ≡ true → (e s : ℕ) (x : Val) → e < p.N → InI (chunk s x) (apply_all σ.v (ss ++ tail_of p σ.g w o r a.zs π) e z) → s < n)
      → (sr : ℕ) → ((y : ℕ) → Used p σ.g.un (apply_all σ.v (ss ++ tail_of p σ.g w o r a.zs π)) y → (g_n σ.g w o r a.zs).hd.ser y ≤ sr)
      → Step p σ (record {
        g = finishing (with_pr (g_n σ.g w o r a.zs) alone) σ.g.un K t (up_to t σ.g.sent);
        v = apply_all σ.v (ss ++ tail_of p σ.g w o r a.zs π);
        acked = σ.acked;
        since = false;
        mode = run (rest_mem b z n t sr);
      })
  -- nothing to rewrite
  restart_plain : (σ : State) (none : None p σ.g.un) (ss : List ItemStore) → Dropping p σ.g σ.v none ss
      → ((d z s : ℕ) (x : Val) → d < p.N → Unsealed p (apply_all σ.v ss) z → InI (chunk s x) (apply_all σ.v ss d z) → (f : ℕ → Val)
      × Stripe p (apply_all σ.v ss) σ.g.un z s f × (f d ≡ x))
      → (K : ℕ → ℕ) (t : ℕ) → Reads p σ.g.hd (apply_all σ.v ss) σ.g.un K → ((x : Val) → Counted p σ.g.hd (apply_all σ.v ss) σ.g.un x → x.stamp ≤ t)
      → (b : Bool) (z n : ℕ) → n ≤ p.S → ((y : ℕ) → Ragged p σ.g.un (apply_all σ.v ss) y → (b ≡ true) × (y ≡ z))
      → (b ≡ true → WholeZone p σ.g.un (apply_all σ.v ss) z) → (b ≡ true → (e s : ℕ) (x : Val) → e < p.N → InI (chunk s x) (apply_all σ.v ss e z) → s < n)
      → (sr : ℕ) → ((y : ℕ) → Used p σ.g.un (apply_all σ.v ss) y → σ.g.hd.ser y ≤ sr)
      → Step p σ (record { g = finishing (with_pr σ.g alone) σ.g.un K t (up_to t σ.g.sent); v = apply_all σ.v ss; acked = σ.acked; since = false; mode = run (rest_mem b z n t sr) })
  -- a missing footer block is stored by a restart, after the resets
  restart_footer : (σ : State) (d z j : ℕ) → None p σ.g.un → ((y : ℕ) → Used p σ.g.un σ.v y → R p σ.g.hd σ.v σ.g.un y)
      → d < p.N → 0 < length (σ.v d z) → length (σ.v d z) < p.cap → ((s : ℕ) → s < p.S → (x : Val) × InI (chunk s x) (σ.v d z))
      → Step p σ (at σ (with_pr σ.g alone) (with_item σ.v d z (foot j)) off)
  -- rebuild: it starts (perhaps once more) for drives that the last restart named, stores on them, and ends
  rebuild : (σ : State) (m : Mask) → Choice p σ.g.un m → (Beyond p σ.g.said m → ⊥) → Step p σ (at σ (with_un σ.g m) σ.v ro)
  rebuild_store : (σ : State) (u : ItemView) → (d : ℕ) × (d < p.N) × (σ.g.un d ≡ true) → ((e y : ℕ) → e < p.N → σ.g.un e ≡ false → σ.v e y ≡ u e y)
      → (m : Mode) → (m ≡ ro) ⊎ (m ≡ off)
      → Step p σ (at σ σ.g u m)
  rebuild_done : (σ : State) (u : ItemView) (n : Mask) → None p n → (d : ℕ) × (d < p.N) × (σ.g.un d ≡ true) → Rebuilt p σ.g σ.v u → Step p σ (at σ (with_un σ.g n) u ro)

-- ---- what a finished restart that names m reads, K

pub record Claim (p : Par) (σ : State) (m : Mask) (K : ℕ → ℕ) : Type 0 where
  -- no earlier than any acknowledged block
  pub acked : (x : Val) → InV x σ.acked → x.stamp ≤ K x.addr
  -- a block that was sent there (or never: K a is 0)
  pub sent : (a : ℕ) → 0 < K a → (x : Val) × InV x σ.g.sent × (x.addr ≡ a) × (x.stamp ≡ K a)
  -- never older than what the finished restart before it read
  pub floor : (a : ℕ) → σ.g.last a ≤ K a
  -- the same as the finished restart before, if none was sent since, unless it names all that that one named, not none, and more
  pub same : σ.since ≡ false → (Beyond p σ.g.said m → ⊥) → (a : ℕ) → K a ≡ σ.g.last a

-- ---- what each finished restart reads

abbrev pub StepClaim : (p : Par) (σ τ : State) → Step p σ τ → Type 0
StepClaim p _ _ (lose σ) = Unit {0}
StepClaim p _ _ (begin σ M e a b) = Unit {0}
StepClaim p _ _ (send σ M x s d r e a b w) = Unit {0}
StepClaim p _ _ (copy σ M x s d r e a b) = Unit {0}
StepClaim p _ _ (close σ M s r e a b) = Unit {0}
StepClaim p _ _ (land σ M d s e a b c f g) = Unit {0}
StepClaim p _ _ (ack σ M s f l e a b c d) = Unit {0}
StepClaim p _ _ (open_cut σ M w k e a) = Unit {0}
StepClaim p _ _ (open_done σ M w e a) = Unit {0}
StepClaim p _ _ (footer σ M d z j e a b c f) = Unit {0}
StepClaim p _ _ (seal σ M e a b) = Unit {0}
StepClaim p _ _ (reset_cut σ M z k e q) = Unit {0}
StepClaim p _ _ (reset_done σ M z e q a) = Unit {0}
StepClaim p _ _ (missing σ m t u K a b c d e) = Claim p σ m K
StepClaim p _ _ (restart_cut₁ σ k none ss d) = Unit {0}
StepClaim p _ _ (restart_cut₂ σ k none ss d w o r π a) = Unit {0}
StepClaim p _ _ (restart σ none ss d w o r π a K t rd b o? z n ns rg wh bl sr up) = Claim p σ σ.g.un K
StepClaim p _ _ (restart_plain σ none ss d cl K t rd b o? z n ns rg wh bl sr up) = Claim p σ σ.g.un K
StepClaim p _ _ (restart_footer σ d z j a b c e f h) = Unit {0}
StepClaim p _ _ (rebuild σ d l c) = Unit {0}
StepClaim p _ _ (rebuild_store σ u l e m k) = Unit {0}
StepClaim p _ _ (rebuild_done σ u n l b a) = Unit {0}

-- ---- histories

pub data StepsTo (p : Par) : State → State → Type 0 where
  stop : (σ : State) → StepsTo p σ σ
  then : (σ τ υ : State) → Step p σ τ → StepsTo p τ υ → StepsTo p σ υ

-- empty drives
unfoldable pub start : Par → State
start p = record {
  g = record { un = λ d. false; said = λ d. false; hd = record { ser = λ z. 0; cop = λ z. 0; zn = λ z d. 0 }; pr = alone; sent = []; last = λ a. 0; base = λ a. 0; top = 0 };
  v = λ d z. [];
  acked = [];
  since = false;
  mode = off;
}
