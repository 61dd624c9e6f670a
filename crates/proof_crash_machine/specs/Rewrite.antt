-- (5) The rewrite at restart: headers and stripes of w, then the resets of o. Assumes nothing.
use Rattle.std.specs.Prelude.{◌≡◌, ◌≢◌, length}
use Rattle.std.proofs.Math.Path.{refl, sym, ap, subst}
use Rattle.std.proofs.Common.{◌∙◌, inl}
use mathlib.Core.List.{List, [], ◌∷◌, ◌++◌}
use Rattle.std.proofs.Math.Bool.{false}
use Rattle.std.proofs.Math.Logic.{inr, ⊎_elim}
use Prim.Native.Nat.{ℕ, zero, suc, ◌≤◌, ◌<◌}
use native.Mathlib.Omega.{arith}
use Rattle.std.proofs.Math.Decide.{ℕ_discrete, dec_lt}
use Rattle.proof_crash_machine.specs.Val.{Val}
use Rattle.proof_crash_machine.specs.View.{Item, ItemView, ItemStore, InI, with_item, emptied_at, apply, apply_all, in_last, item_left, in_cases, chunk_val, chunk_num, chunk_hdr}
use Rattle.proof_crash_machine.specs.View.Item.{hdr, chunk}
use Rattle.proof_crash_machine.specs.View.ItemStore.{put, reset}
use Rattle.proof_crash_machine.specs.Mask.{Mask, count}
use Rattle.proof_crash_machine.specs.Facts.{Par, None, Word, self_none, none_fair, none_few, some_present, word_unique, Ghost, L, Stripe, Datum, Counted, Used, WholeZone, Moved, Ragged, Facts}
use Rattle.proof_crash_machine.specs.Facts.{used, whole_L}
use Rattle.proof_crash_machine.specs.Facts.{Stripe_same, Stripe-more}
use Rattle.proof_crash_machine.specs.Facts.Pair.{pair}
use Rattle.proof_crash_machine.specs.Lemma.{pair_o, pair_w, old_own}
use Rattle.proof_crash_machine.specs.Put
use Rattle.proof_crash_machine.specs.Land.{Landing, landing_facts, Datum_same}
use Rattle.proof_crash_machine.specs.Header.{Opening, header_facts}
use Rattle.proof_crash_machine.specs.Reset.{Floor, May, reset_kept, moved-kept, Counted_reset, L_gone, gone, drive_kept, reset_zone_kept, L_reset}
use Rattle.proof_crash_machine.specs.Steps.{list, rows, Prefix, prefix_append, apply_all-append, list_prefix, list_end, rows_prefix, rows_end}

-- what is written: c stripes F 0 .. F (c - 1), whose data are those of the stripes src 0 .. of o, which are E 0 ..
pub record MovePlan (p : Par) : Type 0 where
  pub c : ℕ
  pub src : ℕ → ℕ
  pub F : ℕ → ℕ → Val
  pub E : ℕ → ℕ → Val
  pub few : c ≤ p.S
  pub word : (k : ℕ) → k < c → Word p k (F k)
  pub to : (k : ℕ) (x : Val) → k < c → Datum p (src k) (E k) x → Datum p k (F k) x
  pub from : (k : ℕ) (x : Val) → k < c → Datum p k (F k) x → Datum p (src k) (E k) x

module _ (p : Par) (g : Ghost) (w o : ℕ) (π : MovePlan p) where
  -- row 0 is the headers, row k + 1 stripe k
  unfoldable pub item : ℕ → ℕ → Item
  item zero e = hdr (g.hd.ser w) (g.hd.cop w) (g.hd.zn w)
  item (suc k) e = chunk k (π.F k e)

  unfoldable pub col : ℕ → ℕ → List Item
  col e zero = []
  col e (suc k) = col e k ++ (item k e ∷ [])

  -- the stores, in 01's order
  unfoldable pub st : ℕ → ℕ → ItemStore
  st k d = put d w (item k d)

  unfoldable pub copies : List ItemStore
  copies = rows st p.N 0 (suc π.c)

  unfoldable pub drops : List ItemStore
  drops = list (λ (d : ℕ). reset d o) 0 p.N

  length_col : (e k : ℕ) → length (col e k) ≡ k
  unfolding col
  length_col e zero = refl
  length_col e (suc k) = Put.length-snoc (col e k) (item k e) ∙ ap suc (length_col e k)

  in_col : (e k s : ℕ) (x : Val) → InI (chunk s x) (col e k) → (suc s < k) × (x ≡ π.F s e)
  unfolding col item
  in_col e zero s x m = absurd m
  in_col e (suc k) s x m = ⊎_elim (λ (q : InI (chunk s x) (col e k)). let r : (suc s < k) × (x ≡ π.F s e) = in_col e k s x q in (omega (arith, r.0), r.1))
      (λ (q : chunk s x ≡ item k e). here k q) (in_cases (chunk s x) (item k e) (col e k) m)
    where
      here : (k : ℕ) → chunk s x ≡ item k e → (suc s < suc k) × (x ≡ π.F s e)
      here zero q = absurd (chunk_hdr q)
      here (suc k) q = (let r : s ≡ k = chunk_num q in omega arith, chunk_val q ∙ ap (λ (n : ℕ). π.F n e) (sym (chunk_num q)))

  col_in : (e k s : ℕ) → suc s < k → InI (chunk s (π.F s e)) (col e k)
  unfolding col item
  col_in e zero s b = absurd (let q : ⊥ = omega arith in q)
  col_in e (suc k) s b = go (ℕ_discrete k (suc s)) (col_in e k s)
    where
      go : Dec (k ≡ suc s) → (suc s < k → InI (chunk s (π.F s e)) (col e k)) → InI (chunk s (π.F s e)) (col e k ++ (item k e ∷ []))
      go (yes q) ih = rw q (in_last (chunk s (π.F s e)) (col e (suc s)))
      go (no q) ih = item_left (chunk s (π.F s e)) (col e k) (item k e ∷ []) (ih (omega arith))

  -- the drives below d have row k, the others are to get it
  abbrev At : ItemView → ℕ → ℕ → Type 0
  At v k d = (e : ℕ) → e < p.N → (e < d → v e w ≡ col e (suc k)) × (d ≤ e → v e w ≡ col e k)

  -- outside w nothing changes
  abbrev Out : ItemView → ItemView → Type 0
  Out v₀ v = (e y : ℕ) → y ≢ w → v e y ≡ v₀ e y

  at-step : (v : ItemView) (k d : ℕ) → At v k d → d < p.N → At (with_item v d w (item k d)) k (suc d)
  unfolding col with_item
  at-step v k d a b e l = (low (ℕ_discrete e d), high)
    where
      low : Dec (e ≡ d) → e < suc d → with_item v d w (item k d) e w ≡ col e (suc k)
      low (yes q) h = subst (λ (x : ℕ). with_item v d w (item k d) x w ≡ col x (suc k)) (sym q) (Rattle.proof_crash_machine.specs.View.upd_same v d w (v d w ++ (item k d ∷ []))
          ∙ ap (λ (l : List Item). l ++ (item k d ∷ [])) ((a d b).1 (omega arith)))
      low (no q) h = Put.drive_other v d w (item k d) e w q ∙ (a e l).0 (omega arith)

      high : suc d ≤ e → with_item v d w (item k d) e w ≡ col e k
      high h = Put.drive_other v d w (item k d) e w (omega arith) ∙ (a e l).1 (omega arith)

  at_turn : (v : ItemView) (k : ℕ) → At v k p.N → At v (suc k) 0
  at_turn v k a e l = ((λ h. absurd (let q : ⊥ = omega arith in q)), λ h. (a e l).0 l)

  out_step : (v₀ v : ItemView) (d : ℕ) (i : Item) → Out v₀ v → Out v₀ (with_item v d w i)
  out_step v₀ v d i h e y n = Put.zone_other v d w i e y n ∙ h e y n

  at_in : (v : ItemView) (k d e s : ℕ) (x : Val) → At v k d → e < p.N → InI (chunk s x) (v e w) → (suc s < suc k) × (x ≡ π.F s e)
  at_in v k d e s x a l m = go (dec_lt e d)
    where
      go : Dec (e < d) → (suc s < suc k) × (x ≡ π.F s e)
      go (yes b) = in_col e (suc k) s x (subst (λ (l : List Item). InI (chunk s x) l) ((a e l).0 b) m)
      go (no b) = let r : (suc s < k) × (x ≡ π.F s e) = in_col e k s x (subst (λ (l : List Item). InI (chunk s x) l) ((a e l).1 (omega arith)) m) in (omega (arith, r.0), r.1)

  -- ---- what holds of the drives before the rewrite, v₀, after the naming
  pub record Before (v₀ : ItemView) : Type 0 where
    pub none : None p g.un
    pub pr : g.pr ≡ pair w o
    pub apart : o ≢ w
    pub whole : WholeZone p g.un v₀ o
    pub empty : (e : ℕ) → e < p.N → v₀ e w ≡ []
    pub newest : (y : ℕ) → Used p g.un v₀ y → g.hd.ser y < g.hd.ser w
    pub below : g.hd.cop w < g.hd.ser w
    -- o alone is ragged
    pub lone : (y : ℕ) → Ragged p g.un v₀ y → y ≡ o
    pub src : (k : ℕ) → k < π.c → Stripe p v₀ g.un o (π.src k) (π.E k)
    pub all : (s : ℕ) (f : ℕ → Val) (x : Val) → Stripe p v₀ g.un o s f → Datum p s f x → (k : ℕ) × (k < π.c) × Datum p (π.src k) (π.E k) x

  module _ (v₀ : ItemView) (b : Before v₀) where
    abbrev I : ℕ → ℕ → ItemView → Type 0
    I k d v = Facts p g v × At v k d × Out v₀ v

    -- a segment but w is used just as before
    used_before_move : (v : ItemView) → Out v₀ v → (y : ℕ) → y ≢ w → Used p g.un v y → Used p g.un v₀ y
    used_before_move v h y n (e, t, l) = (e, t, subst (λ (x : List Item). 0 < length x) (h e y n) l)

    moved_whole : (v : ItemView) → Out v₀ v → WholeZone p g.un v o
    moved_whole v h e l n = subst (λ (x : List Item). 0 < length x) (sym (h e o b.apart)) (b.whole e l n)

    old_is : (w' o' : ℕ) → g.pr ≡ pair w' o' → o ≡ o'
    old_is w' o' e = pair_o (sym b.pr ∙ e)

    stripe₁ : (v : ItemView) → Out v₀ v → (s : ℕ) (f : ℕ → Val) → Stripe p v₀ g.un o s f → Stripe p v g.un o s f
    stripe₁ v h s f st = Stripe_same p v₀ v g.un o s f (λ e l n. sym (h e o b.apart)) st

    stripe₀ : (v : ItemView) → Out v₀ v → (s : ℕ) (f : ℕ → Val) → Stripe p v g.un o s f → Stripe p v₀ g.un o s f
    stripe₀ v h s f st = Stripe_same p v v₀ g.un o s f (λ e l n. h e o b.apart) st

    moved_opening : (v : ItemView) (d : ℕ) → d < p.N → I 0 d v → Opening p g v d w
    unfolding col
    moved_opening v d l (h, a, q) = record {
      none = b.none;
      drive = l;
      empty = (a d l).1 (omega arith);
      room = omega (arith, p.fits);
      fits = λ e k. h.«open».place.put w (inr (inl (o, b.pr))) e k;
      clear = λ y k n e j r. n (h.«open».place.apart y w k (inr (inl (o, b.pr))) e j r);
      bare = λ e s x k m. let r : (suc s < 1) × (x ≡ π.F s e) = at_in v 0 d e s x a k m in let z : ⊥ = omega (arith, r.0) in z;
      newest = λ y k n. b.newest y (used_before_move v q y n k);
      below = b.below;
      link = λ o' k n e. go o' k n e;
      old = λ w' o' e. subst (λ (y : ℕ). WholeZone p g.un v y) (old_is w' o' e) (moved_whole v q);
      lone = λ y k n. b.pr ∙ ap (pair w) (sym (b.lone y (rag y n k)));
      space = λ e k. inr (w, o, b.pr);
    }
      where
        uo : Used p g.un v o
        uo = used p g v g.un o (self_none p g.un b.none) (whole_L p g v g.un o (self_none p g.un b.none) (moved_whole v q))

        go : (o' : ℕ) → Used p g.un v o' → o' ≢ w → g.hd.cop w ≡ g.hd.ser o' → g.pr ≡ pair w o'
        go o' k n e = b.pr ∙ ap (pair w) (h.swap.serials o o' uo k (sym (h.swap.named w o b.pr).1 ∙ e))

        rag : (y : ℕ) → y ≢ w → Ragged p g.un v y → Ragged p g.un v₀ y
        rag y n (e, t, l, r) = (e, t, subst (λ (x : List Item). 0 < length x) (q e y n) l, subst (λ (x : List Item). length x < p.cap) (q e y n) r)

    moved_landing : (v : ItemView) (k d : ℕ) → k < π.c → d < p.N → I (suc k) d v → Landing p g v d w k (π.F k)
    moved_landing v k d kc l (h, a, q) = record {
      none = b.none;
      old = λ w' o' e. subst (λ (y : ℕ). WholeZone p g.un v y) (old_is w' o' e) (moved_whole v q);
      drive = l;
      begun = omega (arith, n);
      room = omega (arith, n, kc, π.few, p.fits);
      number = omega (arith, kc, π.few);
      off = λ j e. let r : k ≡ j = omega (arith, n, e) in (omega (arith, kc, π.few), ap p.grp r);
      new = λ x m. let r : (suc k < suc k) × (x ≡ π.F k d) = in_col d (suc k) k x (subst (λ (y : List Item). InI (chunk k x) y) ((a d l).1 (omega arith)) m) in
          let z : ⊥ = omega (arith, r.0) in z;
      mine = λ e x j m. (at_in v (suc k) d e k x a j m).1;
      word = π.word k kc;
      good = λ x t. h.parity.sound g.un (self_none p g.un b.none) o (π.src k) (π.E k) (stripe₁ v q (π.src k) (π.E k) (b.src k kc)) x (π.from k x kc t);
      ok = λ x t. h.content.fresh g.un (self_none p g.un b.none) (none_fair p g.said g.un b.none) x (record {
        z = o;
        s = π.src k;
        f = π.E k;
        rem = old_own p g v g.un w o (self_none p g.un b.none) h.swap b.pr (whole_L p g v g.un o (self_none p g.un b.none) (moved_whole v q));
        st = stripe₁ v q (π.src k) (π.E k) (b.src k kc);
        dt = π.from k x kc t;
      });
    }
      where
        n : length (v d w) ≡ suc k
        n = ap length ((a d l).1 (omega arith)) ∙ length_col d (suc k)

    item_step : (k d : ℕ) (v : ItemView) → k < suc π.c → d < p.N → I k d v → I k (suc d) (apply v (st k d))
    unfolding st apply item
    item_step zero d v kc l i = (header_facts p g v d w (moved_opening v d l i) i.0, at-step v 0 d i.1 l, out_step v₀ v d (item 0 d) i.2)
    item_step (suc k) d v kc l i =
        (landing_facts p g v d w k (π.F k) (moved_landing v k d (omega arith) l i) i.0, at-step v (suc k) d i.1 l, out_step v₀ v d (item (suc k) d) i.2)

    rewrite_turn : (k : ℕ) (v : ItemView) → I k p.N v → I (suc k) 0 v
    rewrite_turn k v i = (i.0, at_turn v k i.1, i.2)

    start : Facts p g v₀ → I 0 0 v₀
    unfolding col
    start h = (h, (λ e l. ((λ k. absurd (let q : ⊥ = omega arith in q)), λ k. b.empty e l)), λ e y n. refl)

    -- ---- all of w stands
    pub copies_prefix : Facts p g v₀ → Prefix (Facts p g) v₀ copies
    unfolding copies
    copies_prefix h = rows_prefix (Facts p g) I st p.N (suc π.c) (λ k j v i. i.0) item_step rewrite_turn 0 (suc π.c) (omega arith) v₀ (start h)

    copies_end : Facts p g v₀ → I (suc π.c) 0 (apply_all v₀ copies)
    unfolding copies
    copies_end h = rows_end (Facts p g) I st p.N (suc π.c) (λ k j v i. i.0) item_step rewrite_turn 0 (suc π.c) (suc π.c) (omega arith) (omega arith) v₀ (start h)

    -- o's data are in w
    abbrev Handed : ItemView → Type 0
    Handed v = L p v g.un o → (s : ℕ) (f : ℕ → Val) (x : Val) → Stripe p v g.un o s f → Datum p s f x
        → (s' : ℕ) × (f' : ℕ → Val) × Stripe p v g.un w s' f' × Datum p s' f' x

    module _ (v : ItemView) (i : I (suc π.c) 0 v) where
      column_full : (e : ℕ) → e < p.N → v e w ≡ col e (suc π.c)
      column_full e l = (i.1 e l).1 (omega arith)

      moved_stripe_new : (k : ℕ) → k < π.c → Stripe p v g.un w k (π.F k)
      moved_stripe_new k kc = record {
        on = λ e l n. subst (λ (y : List Item). InI (chunk k (π.F k e)) y) (sym (column_full e l)) (col_in e (suc π.c) k (omega arith));
        word = π.word k kc;
      }

      -- a stripe of w is one of the plan's
      is_new_holds : (m : Mask) (s : ℕ) (f : ℕ → Val) → count p.N m ≤ p.P → Stripe p v m w s f → (s < π.c) × ((e : ℕ) → e < p.N → f e ≡ π.F s e)
      is_new_holds m s f few h = (sc, word_unique p s m few f (π.F s) h.word (π.word s sc) (λ e l n. (got e l n).1))
        where
          got : (e : ℕ) → e < p.N → m e ≡ false → (suc s < suc π.c) × (f e ≡ π.F s e)
          got e l n = in_col e (suc π.c) s (f e) (subst (λ (y : List Item). InI (chunk s (f e)) y) (column_full e l) (h.on e l n))

          sc : s < π.c
          sc = let d : (d : ℕ) × (d < p.N) × (m d ≡ false) = some_present p m few in omega (arith, (got d.0 d.1 d.2).0)

      moved : Moved p g.un v w o
      moved = record {
        whole = λ e l n. omega (arith, ap length (column_full e l) ∙ length_col e (suc π.c));
        clean = λ m c s f h. let r : (s < π.c) × ((e : ℕ) → e < p.N → f e ≡ π.F s e) = is_new_holds m s f c.0 h in record {
          on = λ e l n. subst (λ (y : Val). InI (chunk s y) (v e w)) (sym (r.1 e l)) ((moved_stripe_new s r.0).on e l n);
          word = h.word;
        };
        still = λ m c l s f h x t.
            let r : (s < π.c) × ((e : ℕ) → e < p.N → f e ≡ π.F s e) = is_new_holds g.un s f (none_few p g.un b.none) h in (
              π.src s,
              π.E s,
              Stripe-more p v g.un m o (π.src s) (π.E s) c (stripe₁ v i.2 (π.src s) (π.E s) (b.src s r.0)),
              π.from s x r.0 (Datum_same p s f (π.F s) x r.1 t),
            );
      }

      handed : Handed v
      handed l s f x h t =
          let r : (k : ℕ) × (k < π.c) × Datum p (π.src k) (π.E k) x = b.all s f x (stripe₀ v i.2 s f h) t in
          (r.0, π.F r.0, moved_stripe_new r.0 r.1, π.to r.0 x r.1 r.2)

    -- ---- the resets of o
    abbrev J : ℕ → ItemView → Type 0
    J d v = Facts p g v × Moved p g.un v w o × Handed v × ((e : ℕ) → e < d → v e o ≡ []) × ((e y : ℕ) → y ≢ o → v e y ≡ apply_all v₀ copies e y)

    reset_step : (d : ℕ) (v : ItemView) → d < p.N → J d v → J (suc d) (apply v (reset d o))
    unfolding apply
    reset_step d v l (h, q, k, e₀, e₁) = (reset_kept p g v d o l may h floor, moved-kept p g v d o l may w o b.apart q, vain, low, λ e y i. sym (reset_zone_kept v d o e y i) ∙ e₁ e y i)
      where
        n : g.un d ≡ false
        n = b.none d l

        may : May p g v o
        may = record {
          none = b.none;
          safe = λ w' o' e. inr (
            (λ r. b.apart (r ∙ sym (pair_w (sym b.pr ∙ e)))),
            subst (λ (y : ℕ). Moved p g.un v y o') (pair_w (sym b.pr ∙ e)) (subst (λ (y : ℕ). Moved p g.un v w y) (pair_o (sym b.pr ∙ e)) q),
          );
        }

        vain : Handed (emptied_at v d o)
        vain l' = absurd (L_gone v d o p g g.un l n l')

        low : (e : ℕ) → e < suc d → emptied_at v d o e o ≡ []
        low e b' = go (ℕ_discrete e d)
          where
            go : Dec (e ≡ d) → emptied_at v d o e o ≡ []
            go (yes r) = rw r (gone v d o)
            go (no r) = sym (drive_kept v d o e o r) ∙ e₀ e (omega arith)

        q' : Moved p g.un (emptied_at v d o) w o
        q' = moved-kept p g v d o l may w o b.apart q

        over : (x : Val) (c : Counted p g.hd v g.un x) → Dec (c.z ≡ o) → Counted p g.hd (emptied_at v d o) g.un x
        over x c (no r) = Counted_reset v d o p g g.un x c r
        over x c (yes r) =
            let t : (s' : ℕ) × (f' : ℕ → Val) × Stripe p v g.un w s' f' × Datum p s' f' x =
            k (subst (λ (y : ℕ). L p v g.un y) r c.rem.left) c.s c.f x (subst (λ (y : ℕ). Stripe p v g.un y c.s c.f) r c.st) c.dt in
            let lw : L p (emptied_at v d o) g.un w = whole_L p g (emptied_at v d o) g.un w (self_none p g.un b.none) q'.whole in
            record {
              z = w;
              s = t.0;
              f = t.1;
              rem = record {
                left = lw;
                own = λ y ly z. L_gone v d o p g g.un l n (subst (λ (a : ℕ). L p (emptied_at v d o) g.un a)
                    (sym (pair_o (sym b.pr ∙ h.swap.one w y (used p g v g.un w (self_none p g.un b.none) (L_reset v d o p g g.un w lw))
                    (used p g v g.un y (self_none p g.un b.none) (L_reset v d o p g g.un y ly)) z))) ly);
              };
              st = Stripe_same p v (emptied_at v d o) g.un w t.0 t.1
                  (Rattle.proof_crash_machine.specs.Reset.Same_reset v d o p g g.un w (inl (λ z. b.apart (sym z)))) t.2;
              dt = t.3;
            }

        floor : Floor p g (emptied_at v d o)
        floor a = ⊎_elim (λ z. inl z)
            (λ (z : (x : Val) × Counted p g.hd v g.un x × (x.addr ≡ a) × (g.base a ≤ x.stamp)).
            inr (z.0, over z.0 z.1 (ℕ_discrete z.1.z o), z.2, z.3)) (h.content.floor a)

    -- wherever the power is cut in the rewrite
    pub rewritten : Facts p g v₀ → Prefix (Facts p g) v₀ (copies ++ drops)
    unfolding drops
    rewritten h = prefix_append (Facts p g) v₀ copies drops (copies_prefix h)
        (list_prefix (Facts p g) J (λ (d : ℕ). reset d o) p.N (λ j v k. k.0) reset_step 0 p.N (omega arith) (apply_all v₀ copies)
        (let i : I (suc π.c) 0 (apply_all v₀ copies) = copies_end h in
        (i.0, moved (apply_all v₀ copies) i, handed (apply_all v₀ copies) i, (λ e l. absurd (let z : ⊥ = omega arith in z)), λ e y n. refl)))

    -- and at its end o is empty
    pub rewritten_end : Facts p g v₀ → J p.N (apply_all v₀ (copies ++ drops))
    unfolding drops
    rewritten_end h = rw apply_all-append
        (list_end (Facts p g) J (λ (d : ℕ). reset d o) p.N (λ j v k. k.0) reset_step 0 p.N p.N (omega arith) (omega arith) (apply_all v₀ copies)
        (let i : I (suc π.c) 0 (apply_all v₀ copies) = copies_end h in
        (i.0, moved (apply_all v₀ copies) i, handed (apply_all v₀ copies) i, (λ e l. absurd (let z : ⊥ = omega arith in z)), λ e y n. refl)))

    -- what the rewrite leaves: w has just the stripes, all on all drives; the rest is as it was
    pub record OldEmptied (u : ItemView) : Type 0 where
      pub facts : Facts p g u
      pub empty : (e : ℕ) → e < p.N → u e o ≡ []
      pub others : (e y : ℕ) → y ≢ o → y ≢ w → u e y ≡ v₀ e y
      pub whole : WholeZone p g.un u w
      pub counted : (d s : ℕ) (x : Val) → d < p.N → InI (chunk s x) (u d w) → (f : ℕ → Val) × Stripe p u g.un w s f × (f d ≡ x)
      pub low : (d s : ℕ) (x : Val) → d < p.N → InI (chunk s x) (u d w) → s < π.c
      pub has : (d s : ℕ) → d < p.N → s < π.c → InI (chunk s (π.F s d)) (u d w)
      pub long : (d : ℕ) → d < p.N → length (u d w) ≡ suc π.c

    pub left : Facts p g v₀ → OldEmptied (apply_all v₀ (copies ++ drops))
    left h = go (rewritten_end h) (copies_end h)
      where
        u : ItemView
        u = apply_all v₀ (copies ++ drops)

        go : J p.N u → I (suc π.c) 0 (apply_all v₀ copies) → OldEmptied u
        go j i = record {
          facts = j.0;
          empty = j.3;
          others = λ e y n k. j.4 e y n ∙ i.2 e y k;
          whole = j.1.whole;
          counted = λ d s x l m.
              let r : (suc s < suc π.c) × (x ≡ π.F s d) =
              in_col d (suc π.c) s x (subst (λ (y : List Item). InI (chunk s x) y) (j.4 d w wo ∙ column_full (apply_all v₀ copies) i d l) m) in (
                π.F s,
                Stripe_same p (apply_all v₀ copies) u g.un w s (π.F s) (λ e b n. sym (j.4 e w wo))
                    (moved_stripe_new (apply_all v₀ copies) i s (omega (arith, r.0))),
                sym r.1,
              );
          low = λ d s x l m.
              let r : (suc s < suc π.c) × (x ≡ π.F s d) =
              in_col d (suc π.c) s x (subst (λ (y : List Item). InI (chunk s x) y) (j.4 d w wo ∙ column_full (apply_all v₀ copies) i d l) m) in
              omega (arith, r.0);
          has = λ d s l b. subst (λ (y : List Item). InI (chunk s (π.F s d)) y) (sym (j.4 d w wo ∙ column_full (apply_all v₀ copies) i d l)) (col_in d (suc π.c) s (omega arith));
          long = λ d l. ap length (j.4 d w wo ∙ column_full (apply_all v₀ copies) i d l) ∙ length_col d (suc π.c);
        }
          where
            wo : w ≢ o
            wo q = b.apart (sym q)
