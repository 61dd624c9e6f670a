-- The steps can be made: a first restart, a segment opened, a stripe begun, a block sent. Assumes nothing.
use Rattle.std.proofs.Math.Path.{◌≡◌, refl}
use Rattle.std.proofs.Common.{sym, ap, ◌∙◌, subst, ⊎_elim}
use mathlib.Core.List.{List, [], ◌∷◌}
use Rattle.std.proofs.Math.Logic.{inl}
use Rattle.std.specs.Prelude.{◌≢◌, Bool, true, ℕ, suc, ◌≤◌, ◌<◌, length}
use Rattle.std.proofs.Math.Bool.{false}
use native.Mathlib.Omega.{arith}
use Rattle.proof_crash_machine.specs.Val.{Val, 𝟘, pads}
use Rattle.proof_crash_machine.specs.Facts.Pair.{alone}
use Rattle.proof_crash_machine.specs.View.{ItemView, Item, InI, apply_all, chunk_hdr}
use Rattle.proof_crash_machine.specs.View.Item.{chunk, hdr}
use Rattle.proof_crash_machine.specs.Mask.{Mask, count, tf}
use Rattle.proof_crash_machine.specs.Facts.{Par, some_present, none_few, Ghost, Stripe, Used}
use Rattle.proof_crash_machine.specs.Finish.{finishing, up_to}
use Rattle.proof_crash_machine.specs.Ghosts.{with_pr, with_sent}
use Rattle.proof_crash_machine.specs.Name.{naming}
use Rattle.proof_crash_machine.specs.OpenSeg.{headers, Fresh, open_facts}
use Rattle.proof_crash_machine.specs.Memory.{Mem, set_at_elim, flown}
use Rattle.proof_crash_machine.specs.Memory2.{rest_mem, open_mem}
use Rattle.proof_crash_machine.specs.Filling.{filled_word, unfilled}
use Rattle.proof_crash_machine.proofs.Filling.{unfilled_data}
use Rattle.proof_crash_machine.specs.History.{State, Step, Inv, at, start}
use Rattle.proof_crash_machine.proofs.History.{inv_start, kept-all}
use Rattle.proof_crash_machine.specs.History.Mode.{run}
use Rattle.proof_crash_machine.specs.History.Step.{restart_plain, open_done, begin, send, land, missing}
use Rattle.proof_crash_machine.specs.History.StepsTo.{stop, then}

abbrev bare : ItemView
bare = λ d z. []

bare_unused : (p : Par) (n : Mask) (z : ℕ) → Used p n bare z → ⊥
bare_unused p n z (d, t, b) = let q : ⊥ = omega (arith, b) in q

bare_stripe : (p : Par) (m : Mask) (f : ℕ → Val) (s z : ℕ) → count p.N m ≤ p.P → Stripe p bare m z s f → ⊥
bare_stripe p m f s z few st = let d : (d : ℕ) × (d < p.N) × (m d ≡ false) = some_present p m few in st.on d.0 d.1 d.2

module _ (p : Par) (z₁ : ℕ → ℕ) (big : (d : ℕ) → d < p.N → (p.fine d 0 ≡ true) × (0 < p.Z) × (z₁ d < p.Z) × (p.fine d (z₁ d) ≡ true) × (0 ≢ z₁ d))
    (some : 0 < p.S) (many : 7 < p.addrs) where
  abbrev g₁ : Ghost
  g₁ = finishing (with_pr (start p).g alone) (start p).g.un (λ a. 0) 0 (up_to 0 (start p).g.sent)

  abbrev σ₁ : State
  σ₁ = record { g = g₁; v = apply_all (start p).v []; acked = []; since = false; mode = run (rest_mem false 0 0 0 0) }

  first : Step p (start p) σ₁
  unfolding start apply_all up_to
  first = restart_plain (start p) (λ d l. refl) [] (record { are = tt; every = λ z k d l b. absurd (bare_unused p (λ d. false) z (d, (l, refl), b)) }) (λ d z s x l k m. absurd m)
      (λ a. 0) 0 (record { most = λ x c. absurd (bare_stripe p (λ d. false) c.f c.s c.z (none_few p (λ d. false) (λ d l. refl)) c.st); some = λ a. inl refl })
      (λ x c. absurd (bare_stripe p (λ d. false) c.f c.s c.z (none_few p (λ d. false) (λ d l. refl)) c.st)) false 0 0 (omega arith)
      (λ y (d, t, a, b). absurd (bare_unused p (λ d. false) y (d, t, a))) (λ q. absurd (let z : ◌≡◌ {A = ℕ} 0 1 = cc in let j : ⊥ = omega arith in j))
      (λ q. absurd (let z : ◌≡◌ {A = ℕ} 0 1 = cc in let j : ⊥ = omega arith in j)) 0 (λ y i. absurd (bare_unused p (λ d. false) y i))

  abbrev M₂ : Mem
  M₂ = open_mem (rest_mem false 0 0 0 0) 0 1

  abbrev σ₂ : State
  σ₂ = at σ₁ (naming g₁ 0 1 0 (λ d. 0) alone) (apply_all σ₁.v (headers p g₁ 0 1 (λ d. 0))) (run M₂)

  opens : Step p σ₁ σ₂
  unfolding start apply_all
  opens = open_done σ₁ (rest_mem false 0 0 0 0) 0 refl
      (record {
        shut? = refl;
        zs = λ d. 0;
        fits = λ d l. ((big d l).1, (big d l).0);
        clear = λ y i. absurd (bare_unused p (λ d. false) y i);
        empty = λ e l. refl;
        space = λ d l.
            (z₁ d, (big d l).2, (big d l).3, (big d l).4, λ z i. absurd (bare_unused p (λ d. false) z i));
      })

  abbrev M₃ : Mem
  M₃ = flown M₂ 0 (unfilled p 0) (λ e. false) 1 0

  abbrev σ₃ : State
  σ₃ = at σ₂ σ₂.g σ₂.v (run M₃)

  begins : Step p σ₂ σ₃
  begins = begin σ₂ M₂ refl refl some

  -- a block to address 7, on a drive that has no parity of stripe 0
  abbrev x : Val
  x = record { addr = 7; stamp = 1; blk = λ i. 255 }

  abbrev M₄ : ℕ → Mem
  M₄ d = flown M₃ 0 (filled_word p 0 (M₃.F 0) d x) (λ e. true) M₃.next x.stamp

  abbrev σ₄ : ℕ → State
  σ₄ d = record { g = with_sent σ₃.g (x ∷ σ₃.g.sent); v = σ₃.v; acked = []; since = true; mode = run (M₄ d) }

  example_sends : (d : ℕ) → d < p.N → p.code.par 0 d ≡ false → Step p σ₃ (σ₄ d)
  example_sends d l n =
      send σ₃ M₃ x 0 d (λ e. true) refl (record {
        fly = set_at_elim (λ (b : Bool). b ≡ true) (λ s. false) 0 true 0 (λ e. refl) (λ k. absurd (k refl));
        drive = l;
        data? = n;
        blank = set_at_elim (λ (f : ℕ → Val). f d ≡ pads) (λ s d. 𝟘) 0 (unfilled p 0) 0 (λ e. unfilled_data p 0 d l n) (λ k. absurd (k refl));
        free = set_at_elim (λ (f : ℕ → Bool). f d ≡ false) (λ s d. false) 0 (λ e. false) 0 (λ e. refl) (λ k. refl);
        early = λ e q. set_at_elim (λ (f : ℕ → Bool). f e ≡ false) (λ s d. false) 0 (λ e. false) 0 (λ e. refl) (λ k. refl);
        more = λ e k. refl;
      }) refl many

  -- so the invariant holds there, by the theorem
  pub reached : Inv p σ₃
  reached = kept-all p (start p) σ₃ (then (start p) σ₁ σ₃ first (then σ₁ σ₂ σ₃ opens (then σ₂ σ₃ σ₃ begins (stop σ₃)))) (inv_start p)

  -- the first restart may as well miss a drive, whatever it holds
  misses : (m : Mask) → (d : ℕ) × (d < p.N) × (m d ≡ true) → count p.N m ≤ p.P → (τ : State) × Step p (start p) τ
  unfolding start
  misses m l few = (
    _,
    missing (start p) m 0 bare (λ a. 0) l (few, λ d b q. tf q refl) (λ e y k n. refl)
        (record { most = λ x c. absurd (bare_stripe p m c.f c.s c.z few c.st); some = λ a. inl refl }) (λ x k. absurd k),
  )

  -- what the opening left: a header in each zone of segment 0
  inv₁ : Inv p σ₁
  inv₁ = kept-all p (start p) σ₁ (then (start p) σ₁ σ₁ first (stop σ₁)) (inv_start p)

  fresh : Fresh p g₁ σ₁.v 0 1
  unfolding start apply_all
  fresh = record {
    none = λ d l. refl;
    no_pair = refl;
    empty = λ e l. refl;
    newest = λ y i. absurd (bare_unused p (λ d. false) y i);
    first = omega arith;
    zs = λ d. 0;
    fits = λ d l. ((big d l).1, (big d l).0);
    clear = λ y i. absurd (bare_unused p (λ d. false) y i);
    sealed = λ y (d, t, a, b). bare_unused p (λ d. false) y (d, t, a);
    space = λ d l. (z₁ d, (big d l).2, (big d l).3, (big d l).4, λ z i. absurd (bare_unused p (λ d. false) z i));
  }

  abbrev i : Item
  i = hdr ((naming g₁ 0 1 0 (λ d. 0) alone).hd.ser 0) ((naming g₁ 0 1 0 (λ d. 0) alone).hd.cop 0) ((naming g₁ 0 1 0 (λ d. 0) alone).hd.zn 0)

  example_headed : (e : ℕ) → e < p.N → σ₃.v e 0 ≡ i ∷ []
  unfolding fresh
  example_headed e l = ((open_facts p g₁ σ₁.v 0 1 fresh inv₁.facts).1 e l).0 l

  -- the block lands
  lands : (d : ℕ) → d < p.N → (τ : State) × Step p (σ₄ d) τ
  lands d l = (
    _,
    land (σ₄ d) (M₄ d) d 0 refl l (set_at_elim (λ (b : Bool). b ≡ true) M₃.fly 0 true 0 (λ e. refl) (λ k. absurd (k refl)))
        (λ y m. ⊎_elim (λ (q : chunk 0 y ≡ i). chunk_hdr q) (λ q. q) (subst (λ (t : List Item). InI (chunk 0 y) t) (example_headed d l) m))
        (set_at_elim (λ (f : ℕ → Bool). f d ≡ true) M₃.ready 0 (λ e. true) 0 (λ e. refl) (λ k. absurd (k refl)))
        (λ k e. let n : 1 ≡ suc k = sym (ap length (example_headed d l)) ∙ e in let z : 0 ≡ k = omega (arith, n) in (omega (arith, z, some), ap p.grp z)),
  )
