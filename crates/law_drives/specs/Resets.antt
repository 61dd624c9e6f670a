-- The zones of a segment that is reset: it is gone, the others that there are stay, and tidy.
use Rattle.std.specs.Prelude.{◌≡◌, List, [], ◌∷◌, map, true, ◌≢◌, ℕ, ◌≤◌, ◌<◌, eqb}
use Rattle.std.proofs.Math.Path.{refl, ap, subst}
use Rattle.std.proofs.Common.{sym, ◌∙◌, ne_eqb, arith}
use Rattle.std.proofs.Math.Decide.{ℕ_discrete}
use Rattle.spec.specs.declared.Params.{Params}
use Rattle.spec.specs.declared.Seg.{Seg}
use Rattle.spec.specs.Drives.{Zone, View, zone_at, pointer_at, Store, reset_zone, store_view_of, store_all, zone_on, reset_stores, is_good}
use Rattle.spec.specs.Drives.Store.{reset}
use Rattle.spec.specs.Lists.{below}
use Rattle.spec.specs.Params.{capacity, drives_of}
use Rattle.law_drives.specs.Tests.{clash, cond_false, cond_true, eqb_self}
use Rattle.law_drives.specs.Zones.{hits, Room, Roomy, Shaped, Within, reset_pointer, zone_after, zone_store}
use Rattle.law_basic.specs.Geometry.{Ranged}
use Rattle.law_basic.specs.Segs.{ZonesLow, low_here}
use Rattle.law_drives.specs.Growing.{head_zone, used_zone}
use Rattle.law_drives.specs.Headers.{empty_unused}
use Rattle.law_drives.specs.Heads.{HeadsEmptied, emptied_keeps, emptied_was}
use Rattle.law_drives.specs.Members.{In, below_in, map_in}
use Rattle.law_drives.specs.Puts.{hits-resets}
use Rattle.law_drives.specs.Settled.{SameZones, its_zone, its_zones_low, there_once, there_serial, zones_header}
use Rattle.law_drives.specs.Tidy.{There, Tidy}
use Rattle.spec.specs.Layout.{header_copied, header_serial}
use Rattle.spec.specs.Segments.{header_at, is_used, serial_in}
use Rattle.law_views.specs.Alike.{offline_after}

-- ---- its zones behind the resets

module _ (p : Params) (r : Ranged p) (v : View) (sh : Shaped p v) (g : Seg) (hg : ZonesLow p 0 g) where
  abbrev rs : List Store
  rs = reset_stores p g

  abbrev u : View
  u = store_all store_view_of rs v

  resets_on_zone : (d : ℕ) → d < p.N → hits d (zone_on g d) rs ≡ reset d (zone_on g d) ∷ []
  resets_on_zone d hd = hits-resets p d (zone_on g d) g hd ∙ cond_true (eqb (zone_on g d) (zone_on g d)) (reset d (zone_on g d) ∷ []) [] (eqb_self (zone_on g d))

  resets_off_zone : (d z : ℕ) → d < p.N → z ≢ zone_on g d → hits d z rs ≡ []
  resets_off_zone d z hd n = hits-resets p d z g hd ∙ cond_false (eqb (zone_on g d) z) (reset d (zone_on g d) ∷ []) [] (ne_eqb (zone_on g d) z (λ e. n (sym e)))

  pub reset_zone_at : (d : ℕ) → d < p.N → zone_at u d (zone_on g d) ≡ reset_zone (zone_at v d (zone_on g d))
  reset_zone_at d hd =
      zone_after p v d (zone_on g d) rs sh.sized hd (low_here p g d hg hd) ∙ ap (λ (l : List Store). store_all zone_store l (zone_at v d (zone_on g d))) (resets_on_zone d hd) ∙ once
    where
      once : store_all zone_store (reset d (zone_on g d) ∷ []) (zone_at v d (zone_on g d)) ≡ reset_zone (zone_at v d (zone_on g d))
      once = unfold store_all zone_store in refl

  pub reset_other : (d z : ℕ) → d < p.N → z < p.Z → z ≢ zone_on g d → zone_at u d z ≡ zone_at v d z
  reset_other d z hd hz n =
      zone_after p v d z rs sh.sized hd hz ∙ ap (λ (l : List Store). store_all zone_store l (zone_at v d z)) (resets_off_zone d z hd n) ∙ nothing
    where
      nothing : store_all zone_store [] (zone_at v d z) ≡ zone_at v d z
      nothing = unfold store_all in refl

  pub reset_pointers : (d : ℕ) → d < p.N → pointer_at u d (zone_on g d) ≡ 0
  reset_pointers d hd = at (ap (λ (q : Zone). q.pointer) (reset_zone_at d hd) ∙ reset_pointer (zone_at v d (zone_on g d)))
    where
      at : (zone_at u d (zone_on g d)).pointer ≡ 0 → pointer_at u d (zone_on g d) ≡ 0
      at e = unfold pointer_at in e

  pub reset_roomy : Roomy p v rs
  reset_roomy d z hd hz = go (ℕ_discrete z (zone_on g d))
    where
      go : Dec (z ≡ zone_on g d) → Room p (pointer_at v d z) (hits d z rs)
      go (yes e) = subst (λ (n : ℕ). Room p (pointer_at v d n) (hits d n rs)) (sym e) (subst (λ (l : List Store). Room p (pointer_at v d (zone_on g d)) l) (sym (resets_on_zone d hd)) tt)
      go (no n) = subst (λ (l : List Store). Room p (pointer_at v d z) l) (sym (resets_off_zone d z hd n)) tt

  pub reset_within : (s : Store) → In s rs → Within p s
  reset_within s m = go (as! m)
    where
      as! : In s rs → In s (map (λ d. reset d (zone_on g d)) (below p.N))
      as! m = unfold reset_stores drives_of in m

      go : In s (map (λ d. reset d (zone_on g d)) (below p.N)) → Within p s
      go m =
          let (d, i, e) = map_in (λ d. reset d (zone_on g d)) (below p.N) s m in
          let hd = below_in p.N d i in
          subst (λ (x : Store). Within p x) (sym e) (hd, low_here p g d hg hd)

-- ---- the segments behind them

-- no other zone bears its serial
abbrev pub Alone : Params → View → Seg → Type 0
Alone p v g = (d z : ℕ) → d < p.N → z < p.Z → z ≢ zone_on g d → is_used p v d z ≡ true → serial_in p v d z ≡ serial_in p v d (zone_on g d) → ⊥

pub together-alone : (p : Params) (r : Ranged p) (v : View) → ((d z : ℕ) → d < p.N → z < p.Z → is_used p v d z ≡ true → (g : Seg) × There p v g × (zone_on g d ≡ z))
    → (g : Seg) → There p v g → Alone p v g
together-alone p r v f g m d z hd hz n q e =
    let (y, k, i) = f d z hd hz q in
    n (sym i ∙ ap (λ (x : Seg). zone_on x d)
    (there_serial p r v y g k m (sym (its_zone p r v y k d hd).serial ∙ ap (serial_in p v d) i ∙ e ∙ (its_zone p r v g m d hd).serial)))

pub tidy_alone : (p : Params) (r : Ranged p) (v : View) (s : ℕ) → Tidy p v s → (g : Seg) → There p v g → Alone p v g
tidy_alone p r v s t g m = together-alone p r v t.together g m

-- tidy, but that segments may be copies of g
pub record TidyBut (p : Params) (v : View) (serial : ℕ) (g : Seg) : Type 0 where
  pub but_low : (d z : ℕ) → d < p.N → z < p.Z → is_good p v.offline d z ≡ true → pointer_at v d z ≤ capacity p
  pub but_together : (d z : ℕ) → d < p.N → z < p.Z → is_used p v d z ≡ true → (g : Seg) × There p v g × (zone_on g d ≡ z)
  pub but_less : (y : Seg) → There p v y → (g ≡ y → ⊥) → header_copied p (header_at v 0 y) < header_serial p (header_at v 0 y)
  pub but_known : (y : Seg) → There p v y → (g ≡ y → ⊥) → header_serial p (header_at v 0 y) ≤ serial
  pub but_copy : (y h : Seg) → There p v y → There p v h → (g ≡ y → ⊥) → (g ≡ h → ⊥) → header_copied p (header_at v 0 y) ≡ header_serial p (header_at v 0 h) → ⊥

pub tidy_but : (p : Params) (v : View) (s : ℕ) (g : Seg) → Tidy p v s → TidyBut p v s g
tidy_but p v s g t = record {
  but_low = t.pointer_low;
  but_together = t.together;
  but_less = λ y m _. t.copied_less y m;
  but_known = λ y m _. t.serial_known y m;
  but_copy = λ y h m n _ _. t.no_copy y h m n;
}

module _ (p : Params) (r : Ranged p) (v : View) (sh : Shaped p v) (g : Seg) (hg : There p v g) where
  abbrev low! : ZonesLow p 0 g
  low! = its_zones_low p r v g hg

  abbrev w : View
  w = store_all store_view_of (reset_stores p g) v

  pub reset_same : (y : Seg) → There p v y → (g ≡ y → ⊥) → SameZones p v w y
  reset_same y m n d hd =
      sym (reset_other p r v sh g low! d (zone_on y d) hd (its_zone p r v y m d hd).zone_low (λ e. n (there_once p r v g y d hg m hd (sym e))))

  module _ (al : Alone p v g) where
    pub reset_emptied : HeadsEmptied p v w g
    reset_emptied = record {
      was_there = hg;
      gone_now = λ d hd. empty_unused p w d (zone_on g d) (reset_pointers p r v sh g low! d hd);
      kept_used = λ d z hd hz n. used_zone p v w d z (offline_after (reset_stores p g) v) (reset_other p r v sh g low! d z hd hz n);
      kept_serial = λ d z hd hz n _. serial! d z (reset_other p r v sh g low! d z hd hz n);
      alone = al;
    }
      where
        serial! : (d z : ℕ) → zone_at w d z ≡ zone_at v d z → serial_in p v d z ≡ serial_in p w d z
        serial! d z e = unfold serial_in in ap (header_serial p) (head_zone v w d z e)

    pub reset_keeps : (y : Seg) → There p v y → (g ≡ y → ⊥) → There p w y
    reset_keeps = emptied_keeps p r v w g reset_emptied

    -- what is there after it was there, and isn't the segment
    pub reset_was : (y : Seg) → There p w y → There p v y × (g ≡ y → ⊥)
    reset_was = emptied_was p r v w g reset_emptied

    pub reset_gone : There p w g → ⊥
    reset_gone m = (reset_was g m).1 refl

  pub reset_tidy_but : (s : ℕ) → TidyBut p v s g → Tidy p w s
  reset_tidy_but s t = record {
    pointer_low = λ d z hd hz q. low d z hd hz q (ℕ_discrete z (zone_on g d));
    together = λ d z hd hz q. tog d z hd hz q (ℕ_discrete z (zone_on g d));
    copied_less = λ z m. let (k, n) = reset_was al z m in subst (λ (x : List ℕ). header_copied p x < header_serial p x) (hdr z k n) (t.but_less z k n);
    serial_known = λ z m. let (k, n) = reset_was al z m in subst (λ (x : List ℕ). header_serial p x ≤ s) (hdr z k n) (t.but_known z k n);
    no_copy = λ y z my mz e.
        let (k, n) = reset_was al y my in
        let (l, i) = reset_was al z mz in
        t.but_copy y z k l n i (ap (header_copied p) (hdr y k n) ∙ e ∙ ap (header_serial p) (sym (hdr z l i)));
  }
    where
      al : Alone p v g
      al = together-alone p r v t.but_together g hg

      hdr : (y : Seg) → There p v y → (g ≡ y → ⊥) → header_at v 0 y ≡ header_at w 0 y
      hdr y m n = zones_header p r v w y (reset_same y m n)

      same! : (d z : ℕ) → zone_at w d z ≡ zone_at v d z → pointer_at v d z ≤ capacity p → pointer_at w d z ≤ capacity p
      same! d z e k = unfold pointer_at in subst (λ (q : Zone). q.pointer ≤ capacity p) (sym e) k

      low : (d z : ℕ) → d < p.N → z < p.Z → is_good p w.offline d z ≡ true → Dec (z ≡ zone_on g d) → pointer_at w d z ≤ capacity p
      low d z hd hz q (yes e) = subst (λ (n : ℕ). pointer_at w d n ≤ capacity p) (sym e) (let a = reset_pointers p r v sh g low! d hd in omega arith)
      low d z hd hz q (no n) = same! d z (reset_other p r v sh g low! d z hd hz n)
          (t.but_low d z hd hz (subst (λ (l : List ℕ). is_good p l d z ≡ true) (offline_after (reset_stores p g) v) q))

      tog : (d z : ℕ) → d < p.N → z < p.Z → is_used p w d z ≡ true → Dec (z ≡ zone_on g d) → (y : Seg) × There p w y × (zone_on y d ≡ z)
      tog d z hd hz q (yes e) = clash q (ap (is_used p w d) e ∙ empty_unused p w d (zone_on g d) (reset_pointers p r v sh g low! d hd))
      tog d z hd hz q (no n) =
          let (y, k, i) = t.but_together d z hd hz (used_zone p v w d z (offline_after (reset_stores p g) v) (reset_other p r v sh g low! d z hd hz n) ∙ q) in
          (y, reset_keeps al y k (λ e. n (sym i ∙ ap (λ (x : Seg). zone_on x d) (sym e))), i)

  pub reset_tidy : (s : ℕ) → Tidy p v s → Tidy p w s
  reset_tidy s t = reset_tidy_but s (tidy_but p v s g t)
