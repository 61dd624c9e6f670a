-- A healthy restart, whole: resets of what is dropped, the rewrite, the new history values. Assumes nothing.
use Rattle.std.specs.Prelude.{◌≡◌, refl, List, [], ◌++◌, true, false, ◌≢◌, ℕ, zero, suc, ◌≤◌, ◌<◌, length}
use Rattle.std.proofs.Common.{sym, ap, ◌∙◌, subst, inr, ⊎_elim, arith}
use Rattle.std.proofs.Math.Decide.{ℕ_discrete, dec_lt}
use Rattle.proof_crash_machine.specs.Val.{Val, 𝟘}
use Rattle.proof_crash_machine.specs.Facts.Pair.{alone, pair}
use Rattle.proof_crash_machine.specs.Lemma.{pair_alone, pair_o, pair_w}
use Rattle.proof_crash_machine.specs.View.{Item, ItemView, ItemStore, InI, apply_all, AllS, item_some}
use Rattle.proof_crash_machine.specs.View.Item.{chunk}
use Rattle.proof_crash_machine.specs.Facts.{Par, None, Word, self_none, respell, Ghost, Tr, R, Stripe, Datum, Counted, Off, ZoneItems, Used, WholeZone, Ragged, Facts, Stripe_same}
use Rattle.proof_crash_machine.specs.Steps.{Prefix, apply_all-append}
use Rattle.proof_crash_machine.specs.Ghosts.{with_pr, unpaired}
use Rattle.proof_crash_machine.specs.Name.{set_n_same, set_n-other, naming, name_facts}
use Rattle.proof_crash_machine.specs.Drop.{DropOf, dropped_end, settle_facts}
use Rattle.proof_crash_machine.specs.Rewrite.{MovePlan, Before, copies, drops, rewritten, OldEmptied, left}
use Rattle.proof_crash_machine.specs.Rebuild.{in_off, once_in}
use Rattle.proof_crash_machine.specs.Finish.{Reads, up_to, finishing, Clean, finish_none}
use Rattle.proof_crash_machine.specs.View.{chunk_hdr}

-- ---- a segment full on all drives: each of its chunks is of a counted stripe
module _ (p : Par) (g : Ghost) (v : ItemView) (h : Facts p g v) (none : None p g.un) (z : ℕ) (full : (e : ℕ) → e < p.N → suc p.S < length (v e z)) where
  tr : (e : ℕ) → e < p.N → Tr p g.un e
  tr e l = (l, none e l)

  zone : (e : ℕ) → e < p.N → ZoneItems p g e z (v e z)
  zone e l = h.zones e z (tr e l)

  -- a chunk's number is below S
  chunk_number : (e s : ℕ) (x : Val) → e < p.N → InI (chunk s x) (v e z) → s < p.S
  chunk_number e s x l m = let r : (k : ℕ) × Off (v e z) k (chunk s x) = in_off (chunk s x) (v e z) m in go r.0 r.1
    where
      go : (k : ℕ) → Off (v e z) k (chunk s x) → s < p.S
      go zero o = absurd (chunk_hdr (sym o.1 ∙ (zone e l).head (item_some (chunk s x) (v e z) m)))
      go (suc k) o = ((zone e l).num k s x o).0

  val : (s : ℕ) → s < p.S → (e : ℕ) → Dec (e < p.N) → Val
  val s b e (yes l) = ((zone e l).sealed (full e l) s b).0
  val s b e (no l) = 𝟘

  moved-val_in : (s : ℕ) (b : s < p.S) (e : ℕ) (q : Dec (e < p.N)) → e < p.N → InI (chunk s (val s b e q)) (v e z)
  unfolding val
  moved-val_in s b e (yes l) k = ((zone e l).sealed (full e l) s b).1
  moved-val_in s b e (no l) k = absurd (l k)

  pub full_stripe : (d s : ℕ) (x : Val) → d < p.N → InI (chunk s x) (v d z) → (f : ℕ → Val) × Stripe p v g.un z s f × (f d ≡ x)
  full_stripe d s x l m =
      let b : s < p.S = chunk_number d s x l m in
      let on : (e : ℕ) → e < p.N → InI (chunk s (val s b e (dec_lt e p.N))) (v e z) = λ e k. moved-val_in s b e (dec_lt e p.N) k in (
        (λ (e : ℕ). val s b e (dec_lt e p.N)),
        record {
          on = λ e k n. on e k;
          word = let w : (j : ℕ → Val) × Word p s j × ((e : ℕ) → e < p.N → g.un e ≡ false → val s b e (dec_lt e p.N) ≡ j e) =
              h.parity.whole g.un (self_none p g.un none) z s (λ (e : ℕ). val s b e (dec_lt e p.N)) (λ e k n. on e k) in
              respell p s w.0 (λ (e : ℕ). val s b e (dec_lt e p.N)) (λ e k. sym (w.2 e k (none e k))) w.1;
        },
        once_in p g d z (v d z) (zone d l) s (val s b d (dec_lt d p.N)) x (on d l) m,
      )

-- ---- after the drops: v; g has no pair; all that is used remains
pub record Ready (p : Par) (g : Ghost) (v : ItemView) (w o r : ℕ) (π : MovePlan p) : Type 0 where
  pub none : None p g.un
  pub no_pair : g.pr ≡ alone
  -- o is the unsealed segment, w an empty one, r a new serial
  pub ragged : Ragged p g.un v o
  -- w's zones: good, and no other segment's
  pub zs : ℕ → ℕ
  pub fits : (d : ℕ) → d < p.N → (zs d < p.Z) × (p.fine d (zs d) ≡ true)
  pub clear : (y : ℕ) → Used p g.un v y → (d : ℕ) → d < p.N → g.hd.zn y d ≢ zs d
  pub empty : (e : ℕ) → e < p.N → v e w ≡ []
  pub newest : (y : ℕ) → Used p g.un v y → g.hd.ser y < r
  -- the plan copies just what counts
  pub src : (k : ℕ) → k < π.c → Stripe p v g.un o (π.src k) (π.E k)
  pub all : (s : ℕ) (f : ℕ → Val) (x : Val) → Stripe p v g.un o s f → Datum p s f x → (k : ℕ) × (k < π.c) × Datum p (π.src k) (π.E k) x

module _ (p : Par) (g : Ghost) (v : ItemView) (w o r : ℕ) (π : MovePlan p) (a : Ready p g v w o r π)
    (rem : (z : ℕ) → Used p g.un v z → R p g.hd v g.un z) (h : Facts p g v) where
  abbrev g₂ : Ghost
  g₂ = naming g w r (g.hd.ser o) a.zs (pair w o)

  idle : Used p g.un v w → ⊥
  idle (e, t, b) = let q : 0 < length {A = Item} [] = subst (λ (l : List Item). 0 < length l) (a.empty e t.0) b in let z : ⊥ = omega arith in z

  uo : Used p g.un v o
  uo = let q : Ragged p g.un v o = a.ragged in (q.0, q.1, q.2)

  ow : o ≢ w
  ow e = idle (subst (λ (k : ℕ). Used p g.un v k) e uo)

  used_not_target : (y : ℕ) → Used p g.un v y → y ≢ w
  used_not_target y i e = idle (subst (λ (k : ℕ). Used p g.un v k) e i)

  -- o alone is ragged
  lone : (y : ℕ) → Ragged p g.un v y → y ≡ o
  lone y i = ⊎_elim (λ q. q) (λ q. absurd (⊎_elim (λ (e : g.pr ≡ pair y o). pair_alone (sym e ∙ a.no_pair)) (λ (e : g.pr ≡ pair o y). pair_alone (sym e ∙ a.no_pair)) q))
      (h.«open».ragged y o i a.ragged)

  facts₂ : Facts p g₂ v
  facts₂ = name_facts p g v w r (g.hd.ser o) a.zs (pair w o) a.no_pair idle
      (λ w' o' e. (sym (pair_w e), (λ q. ow (pair_o e ∙ q)), ap g.hd.ser (pair_o e), subst (λ (k : ℕ). WholeZone p g.un v k) (pair_o e) (rem o uo).left)) a.fits a.clear h

  before : Before p g₂ w o π v
  before = record {
    none = a.none;
    pr = refl;
    apart = ow;
    whole = (rem o uo).left;
    empty = a.empty;
    newest = λ y i. rw (set_n-other g.hd.ser w r y (used_not_target y i), set_n_same g.hd.ser w r) (a.newest y i);
    below = rw (set_n_same g.hd.cop w (g.hd.ser o), set_n_same g.hd.ser w r) (a.newest o uo);
    lone = lone;
    src = a.src;
    all = a.all;
  }

  abbrev stores : List ItemStore
  stores = copies p g₂ w o π ++ drops p g₂ w o π

  abbrev u : ItemView
  u = apply_all v stores

  pub rewrite_prefix : Prefix (Facts p g₂) v stores
  rewrite_prefix = rewritten p g₂ w o π v before facts₂

  lft : OldEmptied p g₂ w o π v before u
  lft = left p g₂ w o π v before facts₂

  -- what w holds, and what is as it was
  pub rewrite_low : (d s : ℕ) (x : Val) → d < p.N → InI (chunk s x) (u d w) → s < π.c
  rewrite_low = lft.low

  pub rewrite_has : (d s : ℕ) → d < p.N → s < π.c → InI (chunk s (π.F s d)) (u d w)
  rewrite_has = lft.has

  pub rewrite_others : (d y : ℕ) → y ≢ o → y ≢ w → u d y ≡ v d y
  rewrite_others = lft.others

  pub rewrite_empty : (d : ℕ) → d < p.N → u d o ≡ []
  rewrite_empty = lft.empty

  -- no pair is left
  abbrev g₃ : Ghost
  g₃ = with_pr g₂ alone

  unused : Used p g.un u o → ⊥
  unused (e, t, b) = let q : 0 < length {A = Item} [] = subst (λ (l : List Item). 0 < length l) (lft.empty e t.0) b in let z : ⊥ = omega arith in z

  pub rewrite_end : Facts p g₃ u
  rewrite_end = unpaired p g₂ u lft.facts (λ w' o' e. inr (λ i. unused (subst (λ (k : ℕ). Used p g.un u k) (sym (pair_o e)) i)))

  -- every chunk is of a counted stripe
  used_before_restart : (z : ℕ) → z ≢ o → z ≢ w → Used p g.un u z → Used p g.un v z
  used_before_restart z n k (e, t, b) = (e, t, subst (λ (l : List Item). 0 < length l) (lft.others e z n k) b)

  full₀ : (z : ℕ) → z ≢ o → Used p g.un v z → (e : ℕ) → e < p.N → suc p.S < length (v e z)
  full₀ z n i e l = go (dec_lt (length (v e z)) p.cap)
    where
      b : 0 < length (v e z)
      b = (rem z i).left e l (a.none e l)

      go : Dec (length (v e z) < p.cap) → suc p.S < length (v e z)
      go (yes q) = absurd (n (lone z (e, (l, a.none e l), b, q)))
      go (no q) = omega (arith, q, p.fits)

  restart_whole : (z : ℕ) → Used p g.un u z → Dec (z ≡ o) → Dec (z ≡ w) → WholeZone p g.un u z
  restart_whole z i (yes e) k = absurd (unused (subst (λ (j : ℕ). Used p g.un u j) e i))
  restart_whole z i (no n) (yes e) = rw e lft.whole
  restart_whole z i (no n) (no k) = λ e l j. subst (λ (x : List Item). 0 < length x) (sym (lft.others e z n k)) ((rem z (used_before_restart z n k i)).left e l j)

  counted₁ : (d z s : ℕ) (x : Val) → d < p.N → InI (chunk s x) (u d z) → Dec (z ≡ o) → Dec (z ≡ w) → (f : ℕ → Val) × Stripe p u g.un z s f × (f d ≡ x)
  counted₁ d z s x l m (yes e) k = absurd (unused (subst (λ (j : ℕ). Used p g.un u j) e (d, (l, a.none d l), item_some (chunk s x) (u d z) m)))
  counted₁ d z s x l m (no n) (yes e) = rw e (lft.counted d s x l (subst (λ (j : ℕ). InI (chunk s x) (u d j)) e m))
  counted₁ d z s x l m (no n) (no k) =
      let m₀ : InI (chunk s x) (v d z) = subst (λ (y : List Item). InI (chunk s x) y) (lft.others d z n k) m in
      let i : Used p g.un v z = (d, (l, a.none d l), item_some (chunk s x) (v d z) m₀) in
      let t : (f : ℕ → Val) × Stripe p v g.un z s f × (f d ≡ x) = full_stripe p g v h a.none z (full₀ z n i) d s x l m₀ in
      (t.0, Stripe_same p v u g.un z s t.0 (λ e b j. sym (lft.others e z n k)) t.1, t.2)

  pub rewrite_clean : Clean p g₃ u
  rewrite_clean = record {
    none = a.none;
    no_pair = refl;
    whole = λ z i. restart_whole z i (ℕ_discrete z o) (ℕ_discrete z w);
    counted = λ d z s x l m. counted₁ d z s x l m (ℕ_discrete z o) (ℕ_discrete z w);
    once = λ d z s x y l m k. once_in p g₃ d z (u d z) (rewrite_end.zones d z (l, a.none d l)) s x y m k;
  }

-- ---- the whole restart, none missing, with a rewrite
module _ (p : Par) (g : Ghost) (v : ItemView) (h : Facts p g v) (none : None p g.un)
    (D : ℕ → Type 0) (ss : List ItemStore) (are : AllS (DropOf p g none D) ss) (gone : (z : ℕ) → D z → R p g.hd v g.un z → ⊥)
    (rest : (z : ℕ) → Used p g.un (apply_all v ss) z → R p g.hd (apply_all v ss) g.un z)
    (w o r : ℕ) (π : MovePlan p) (a : Ready p (with_pr g alone) (apply_all v ss) w o r π) where
  abbrev v₁ : ItemView
  v₁ = apply_all v ss

  abbrev g₁ : Ghost
  g₁ = with_pr g alone

  facts₁ : Facts p g₁ v₁
  facts₁ = settle_facts p g none v₁ (dropped_end p g none D v ss are h gone) rest

  abbrev g₄ : Ghost
  g₄ = with_pr (naming g₁ w r (g.hd.ser o) a.zs (pair w o)) alone

  abbrev all : List ItemStore
  all = ss ++ (copies p (naming g₁ w r (g.hd.ser o) a.zs (pair w o)) w o π ++ drops p (naming g₁ w r (g.hd.ser o) a.zs (pair w o)) w o π)

  -- where it finishes, the facts hold with the new history values
  pub restart_done : (K : ℕ → ℕ) → Reads p g₄.hd (apply_all v all) g.un K → (t : ℕ) → ((x : Val) → Counted p g₄.hd (apply_all v all) g.un x → x.stamp ≤ t)
      → Facts p (finishing g₄ g.un K t (up_to t g.sent)) (apply_all v all)
  restart_done K rd t b =
      let e : apply_all v all ≡ apply_all v₁ (copies p (naming g₁ w r (g.hd.ser o) a.zs (pair w o)) w o π ++ drops p (naming g₁ w r (g.hd.ser o) a.zs (pair w o)) w o π) =
      apply_all-append v ss (copies p (naming g₁ w r (g.hd.ser o) a.zs (pair w o)) w o π ++ drops p (naming g₁ w r (g.hd.ser o) a.zs (pair w o)) w o π) in
      rw e (finish_none p g₄ (apply_all v₁ (copies p (naming g₁ w r (g.hd.ser o) a.zs (pair w o)) w o π ++ drops p (naming g₁ w r (g.hd.ser o) a.zs (pair w o)) w o π))
      (rewrite_clean p g₁ v₁ w o r π a rest facts₁) (rewrite_end p g₁ v₁ w o r π a rest facts₁) K
      (subst (λ (z : ItemView). Reads p g₄.hd z g.un K) e rd) t
      (subst (λ (z : ItemView). (x : Val) → Counted p g₄.hd z g.un x → x.stamp ≤ t) e b))

  abbrev tail : List ItemStore
  tail = copies p (naming g₁ w r (g.hd.ser o) a.zs (pair w o)) w o π ++ drops p (naming g₁ w r (g.hd.ser o) a.zs (pair w o)) w o π

  -- with the old history values
  pub restart_facts : Facts p g₄ (apply_all v all)
  restart_facts = rw (apply_all-append v ss tail) (rewrite_end p g₁ v₁ w o r π a rest facts₁)

  pub restart_clean : Clean p g₄ (apply_all v all)
  restart_clean = rw (apply_all-append v ss tail) (rewrite_clean p g₁ v₁ w o r π a rest facts₁)
