-- Memory facts after a reclaim that resets, after an opening, and after a restart. Assumes nothing.
use Rattle.std.specs.Prelude.{◌≡◌, refl, List, [], ◌∷◌, ◌≢◌, Bool, true, false, ℕ, zero, suc, ◌+◌, ◌≤◌, ◌<◌, length}
use Rattle.std.proofs.Common.{sym, ◌∙◌, subst, ⊎_elim, arith}
use Rattle.std.proofs.Math.Decide.{ℕ_discrete}
use Rattle.proof_crash_machine.specs.Val.{Val, 𝟘}
use Rattle.proof_crash_machine.specs.Facts.Pair.{alone}
use Rattle.proof_crash_machine.specs.View.{Item, ItemView, InI, emptied_at, apply, apply_all, resets, chunk_hdr}
use Rattle.proof_crash_machine.specs.View.Item.{hdr, chunk}
use Rattle.proof_crash_machine.specs.Facts.{Par, Ghost, Tr, Used, WholeZone, Ragged}
use Rattle.proof_crash_machine.specs.Reset.{gone, reset_zone_kept, drive_kept}
use Rattle.proof_crash_machine.specs.Name.{naming, set_n, set_n_same, set_n-other}
use Rattle.proof_crash_machine.specs.Finish.{Clean, finishing, up_to, up_to_le}
use Rattle.proof_crash_machine.specs.Memory.{Mem, MemOk, Flight}

-- ---- what the resets of a segment leave
pub resets-other : (v : ItemView) (z d n e y : ℕ) → y ≢ z → apply_all v (resets z d n) e y ≡ v e y
unfolding resets apply_all apply
resets-other v z d zero e y k = refl
resets-other v z d (suc n) e y k = resets-other (emptied_at v d z) z (suc d) n e y k ∙ sym (reset_zone_kept v d z e y k)

pub resets_empty : (v : ItemView) (z d n e : ℕ) → (e < d → v e z ≡ []) → e < d + n → apply_all v (resets z d n) e z ≡ []
unfolding resets apply_all apply
resets_empty v z d zero e h b = h (omega arith)
resets_empty v z d (suc n) e h b = resets_empty (emptied_at v d z) z (suc d) n e (λ l. go l (ℕ_discrete e d)) (omega arith)
  where
    go : e < suc d → Dec (e ≡ d) → emptied_at v d z e z ≡ []
    go l (yes q) = rw q (gone v d z)
    go l (no q) = sym (drive_kept v d z e z q) ∙ h (omega arith)

-- u is v without segment z
module _ (p : Par) (g : Ghost) (v u : ItemView) (z : ℕ) (M : Mem) (a : MemOk p g v M) (apart : M.is_open ≡ true → M.zone ≢ z)
    (other : (e y : ℕ) → y ≢ z → u e y ≡ v e y) (empty : (e : ℕ) → e < p.N → u e z ≡ []) where
  not_z : (y e : ℕ) → e < p.N → 0 < length (u e y) → y ≢ z
  not_z y e l b q =
      let k : 0 < length {A = Item} [] = subst (λ (x : List Item). 0 < length x) (empty e l) (subst (λ (j : ℕ). 0 < length (u e j)) q b) in let j : ⊥ = omega arith in j

  old_used : (y : ℕ) → y ≢ z → (e : ℕ) → 0 < length (u e y) → 0 < length (v e y)
  old_used y n e b = subst (λ (x : List Item). 0 < length x) (other e y n) b

  new : (y : ℕ) → y ≢ z → (e : ℕ) → 0 < length (v e y) → 0 < length (u e y)
  new y n e b = subst (λ (x : List Item). 0 < length x) (sym (other e y n)) b

  pub reset_mem : MemOk p g u M
  reset_mem = record {
    none = a.none;
    no_pair = a.no_pair;
    few = a.few;
    stamps = a.stamps;
    top = a.top;
    serials = λ y (e, t, b). a.serials y (e, t, old_used y (not_z y e t.0 b) e b);
    whole = λ y (e, t, b) d l n. let k : y ≢ z = not_z y e t.0 b in new y k d (a.whole y (e, t, old_used y k e b) d l n);
    lone = λ y (e, t, b, c). let k : y ≢ z = not_z y e t.0 b in a.lone y (e, t, old_used y k e b, subst (λ (x : List Item). length x < p.cap) (other e y k) c);
    begun = λ q d l n. new M.zone (apart q) d (a.begun q d l n);
    below = λ q e s x l m. a.below q e s x l (subst (λ (y : List Item). InI (chunk s x) y) (other e M.zone (apart q)) m);
    flies = λ s q. let r : (M.is_open ≡ true) × (s < M.next) × Flight p g v M.zone s (M.F s) (M.ready s) = a.flies s q in (
      r.0,
      r.1,
      record {
        mine = λ e x l m. r.2.mine e x l (subst (λ (y : List Item). InI (chunk s x) y) (other e M.zone (apart r.0)) m);
        word = r.2.word;
        good = r.2.good;
        ok = r.2.ok;
      },
    );
  }

-- ---- w has just been opened: u is v with a header on each drive of w
abbrev pub open_mem : Mem → ℕ → ℕ → Mem
open_mem M w r = record { serial = r; is_open = true; zone = w; next = 0; fly = λ s. false; ready = M.ready; F = M.F; stamp = M.stamp }

pub open_mem_lem : (p : Par) (g : Ghost) (v u : ItemView) (w r : ℕ) (M : Mem) → MemOk p g v M → M.serial ≤ r → ((y : ℕ) → Ragged p g.un v y → ⊥)
    → ((e y : ℕ) → y ≢ w → u e y ≡ v e y) → (i k : ℕ) (ζ n : ℕ → ℕ) → ((e : ℕ) → e < p.N → u e w ≡ hdr i k n ∷ [])
    → MemOk p (naming g w r 0 ζ alone) u (open_mem M w r)
open_mem_lem p g v u w r M a up full other i k ζ nn head = record {
  none = a.none;
  no_pair = refl;
  few = omega arith;
  stamps = a.stamps;
  top = a.top;
  serials = λ y (e, t, b). ser y e t b (ℕ_discrete y w);
  whole = λ y (e, t, b) d l n. whole y e t b d l n (ℕ_discrete y w);
  lone = λ y (e, t, b, c). (refl, lone y e t b c (ℕ_discrete y w));
  begun = λ q d l n. has d l;
  below = λ q e s x l m. absurd (⊎_elim (λ (j : chunk s x ≡ hdr i k nn). chunk_hdr j) (λ j. j) (subst (λ (y : List Item). InI (chunk s x) y) (head e l) m));
  flies = λ s q. absurd (let z : ◌≡◌ {A = ℕ} 0 1 = cc in let j : ⊥ = omega arith in j);
}
  where
    ser : (y e : ℕ) → Tr p g.un e → 0 < length (u e y) → Dec (y ≡ w) → set_n g.hd.ser w r y ≤ r
    ser y e t b (yes q) = rw (q, set_n_same) (omega arith)
    ser y e t b (no q) = rw (set_n-other g.hd.ser w r y q) (omega (arith, up, a.serials y (e, t, subst (λ (x : List Item). 0 < length x) (other e y q) b)))

    has : (d : ℕ) → d < p.N → 0 < length (u d w)
    has d l = rw (head d l) (omega arith)

    whole : (y e : ℕ) → Tr p g.un e → 0 < length (u e y) → (d : ℕ) → d < p.N → g.un d ≡ false → Dec (y ≡ w) → 0 < length (u d y)
    whole y e t b d l n (yes q) = rw q (has d l)
    whole y e t b d l n (no q) = subst (λ (x : List Item). 0 < length x) (sym (other d y q)) (a.whole y (e, t, subst (λ (x : List Item). 0 < length x) (other e y q) b) d l n)

    lone : (y e : ℕ) → Tr p g.un e → 0 < length (u e y) → length (u e y) < p.cap → Dec (y ≡ w) → y ≡ w
    lone y e t b c (yes q) = q
    lone y e t b c (no q) = absurd (full y (e, t, subst (λ (x : List Item). 0 < length x) (other e y q) b, subst (λ (x : List Item). length x < p.cap) (other e y q) c))

-- ---- a healthy restart has finished: nothing in flight; z is the unsealed segment, if there is one, and has stripes below n
abbrev pub rest_mem : Bool → ℕ → ℕ → ℕ → ℕ → Mem
rest_mem b z n t sr = record { serial = sr; is_open = b; zone = z; next = n; fly = λ s. false; ready = λ s d. false; F = λ s d. 𝟘; stamp = t }

pub rest_mem_lem : (p : Par) (g : Ghost) (v : ItemView) → Clean p g v → (b : Bool) (z n : ℕ) → n ≤ p.S
    → ((y : ℕ) → Ragged p g.un v y → (b ≡ true) × (y ≡ z)) → (b ≡ true → WholeZone p g.un v z)
    → (b ≡ true → (e s : ℕ) (x : Val) → e < p.N → InI (chunk s x) (v e z) → s < n)
    → (K : ℕ → ℕ) (t sr : ℕ) → ((y : ℕ) → Used p g.un v y → g.hd.ser y ≤ sr) → MemOk p (finishing g g.un K t (up_to t g.sent)) v (rest_mem b z n t sr)
rest_mem_lem p g v a b z n few lone begun below K t sr up = record {
  serials = up;
  none = a.none;
  no_pair = a.no_pair;
  whole = a.whole;
  lone = lone;
  begun = begun;
  few = few;
  below = below;
  flies = λ s q. absurd (let i : ◌≡◌ {A = ℕ} 0 1 = cc in let j : ⊥ = omega arith in j);
  stamps = λ x m. (up_to_le t g.sent x m).1;
  top = omega arith;
}
