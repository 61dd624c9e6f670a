-- Stores that the zones have room for, by counting them zone by zone; such stores obey the zone rules on the bytes. Assumes nothing.
use Rattle.std.specs.Prelude.{◌≡◌, refl, true, ℕ, zero, suc, ◌+◌, ◌^◌, ◌≤◌, ◌<◌, eqb, length, take}
use Rattle.std.proofs.Common.{sym, ◌∙◌, inl, inr, arith}
use Rattle.std.proofs.Math.Path.{subst}
use mathlib.Core.List.{List, [], ◌∷◌}
use Rattle.spec.specs.declared.Params.{Params}
use Rattle.spec.specs.Drives.{Zone, View, zone_at, pointer_at, Store, store_view_of, Disk, store_disk, is_good}
use Rattle.spec.specs.Drives.Store.{put, reset}
use Rattle.spec.specs.Lists.{keep}
use Rattle.spec.specs.Params.{spare_len, capacity}
use Rattle.law_basic.specs.Ranges.{Test, test, and_both}
use Rattle.law_basic.specs.Ranges.Test.{yes!, no! }
use Rattle.spec_demands.specs.Rules.{Obeys, ObeyAll}
use Rattle.law_drives.specs.Members.{In}
use Rattle.law_drives.specs.Tests.{cond_true, cond_false, eqb_self}
use Rattle.law_drives.specs.Zones.{Sized, hits_at_of, zone_store, hits, sized_store, zone_stored, put_pointer, reset_pointer, hits_yes, hits_no}
use Rattle.law_views.specs.Views.{Whole, pointer_view, Fits, AllFit, seen, view_store, whole_store}
use Rattle.law_views.specs.Alike.{offline_kept}

-- ---- one zone

-- 01, The array: the stores of one zone, from pointer n on, stay below the capacity
abbrev pub Rises : Params → ℕ → List Store → Type 0
Rises p n [] = Unit {0}
Rises p n (put d z b s ∷ ss) = (n < capacity p) × Rises p (suc n) ss
Rises p n (reset d z ∷ ss) = Rises p 0 ss

-- few enough
pub rises_few : (p : Params) (n : ℕ) (ss : List Store) → n + length ss ≤ capacity p → Rises p n ss
rises_few p n [] h = tt
rises_few p n (put d z b s ∷ ss) h = (omega arith, rises_few p (suc n) ss (omega arith))
rises_few p n (reset d z ∷ ss) h = rises_few p 0 ss (omega arith)

-- after a store the rest stays below it too
rises_next : (p : Params) (s : Store) (ss : List Store) (q : Zone) → Rises p q.pointer (s ∷ ss) → Rises p (zone_store s q).pointer ss
unfolding zone_store
rises_next p (put d z b s) ss q r = subst (λ (x : ℕ). Rises p x ss) (sym (put_pointer b s q)) r.1
rises_next p (reset d z) ss q r = subst (λ (x : ℕ). Rises p x ss) (sym (reset_pointer q)) r

-- ---- all zones

-- 01, The array: a drive and a good zone of the array (02, item 4), a block and a spare of their lengths
abbrev pub Proper : Params → List ℕ → Store → Type 0
Proper p off (put d z b s) = (d < p.N) × (z < p.Z) × (is_good p off d z ≡ true) × (length b ≡ p.B) × (length s ≡ spare_len)
Proper p off (reset d z) = (d < p.N) × (z < p.Z) × (is_good p off d z ≡ true)

-- 01, The array: the stores have room where they fall, and each is proper
pub record Able (p : Params) (v : View) (ss : List Store) : Type 0 where
  pub proper : (s : Store) → In s ss → Proper p v.offline s
  pub rises : (d z : ℕ) → d < p.N → z < p.Z → Rises p (pointer_at v d z) (hits d z ss)

pub able_none : (p : Params) (v : View) → Able p v []
able_none p v = record { proper = λ s m. absurd m; rises = λ d z hd hz. unfold keep in tt }

module _ (p : Params) (v : View) (w : Sized p v) (s : Store) (ss : List Store) (a : Able p v (s ∷ ss)) where
  next_rises : (d z : ℕ) → d < p.N → z < p.Z → Rises p (pointer_at (store_view_of s v) d z) (hits d z ss)
  unfolding pointer_at
  next_rises d z hd hz = go (test (hits_at_of d z s))
    where
      go : Test (hits_at_of d z s) → Rises p (zone_at (store_view_of s v) d z).pointer (hits d z ss)
      go (yes! h) =
          subst (λ (x : Zone). Rises p x.pointer (hits d z ss))
          (sym (zone_stored p v d z s w hd hz ∙ cond_true (hits_at_of d z s) (zone_store s (zone_at v d z)) (zone_at v d z) h))
          (rises_next p s (hits d z ss) (zone_at v d z) (subst (λ (x : List Store). Rises p (zone_at v d z).pointer x) (hits_yes d z s ss h) (a.rises d z hd hz)))
      go (no! h) =
          subst (λ (x : Zone). Rises p x.pointer (hits d z ss))
          (sym (zone_stored p v d z s w hd hz ∙ cond_false (hits_at_of d z s) (zone_store s (zone_at v d z)) (zone_at v d z) h))
          (subst (λ (x : List Store). Rises p (zone_at v d z).pointer x) (hits_no d z s ss h) (a.rises d z hd hz))

  next_able : Able p (store_view_of s v) ss
  next_able = record {
    proper = λ t m. subst (λ (off : List ℕ). Proper p off t) (sym (offline_kept s v)) (a.proper t (inr m));
    rises = next_rises;
  }

first_fits : (p : Params) (v : View) (s : Store) (ss : List Store) → Able p v (s ∷ ss) → Fits p v s
first_fits p v (put d z b s) ss a =
    let (hd, hz, _, hb, hs) = a.proper (put d z b s) (inl refl) in
    let r : Rises p (pointer_at v d z) (put d z b s ∷ hits d z ss) =
    subst (λ (x : List Store). Rises p (pointer_at v d z) x) (hits_yes d z (put d z b s) ss self) (a.rises d z hd hz) in
    (hd, hz, r.0, hb, hs)
  where
    self : hits_at_of d z (put d z b s) ≡ true
    self = unfold hits_at_of in and_both (eqb d d) (eqb z z) (eqb_self d) (eqb_self z)
first_fits p v (reset d z) ss a = let (hd, hz, _) = a.proper (reset d z) (inl refl) in (hd, hz)

pub able_fits : (p : Params) (v : View) (ss : List Store) → Sized p v → Able p v ss → AllFit p v ss
able_fits p v [] w a = tt
able_fits p v (s ∷ ss) w a = (first_fits p v s ss a, able_fits p (store_view_of s v) ss (sized_store p v s w) (next_able p v w s ss a))

-- ---- the zone rules on the bytes

obeys : (p : Params) (off : List ℕ) (k : Disk) (s : Store) → Whole p k → Fits p (seen p off k) s → Proper p off s → Obeys p off k s
obeys p off k (put d z b s) w (hd, hz, hp, hb, hs) (_, _, hg, _, _) = (hd, hz, hg, hb, hs, subst (λ (x : ℕ). x < capacity p) (pointer_view p off k d z hd hz w) hp)
obeys p off k (reset d z) w f g = g

pub obey_all : (p : Params) (off : List ℕ) (k : Disk) (ss : List Store) → capacity p < 256 ^ 4 → Whole p k → AllFit p (seen p off k) ss
    → ((s : Store) → In s ss → Proper p off s) → ObeyAll p off k ss
obey_all p off k [] c w f g = tt
obey_all p off k (s ∷ ss) c w (h, f) g = (
  obeys p off k s w h (g s (inl refl)),
  obey_all p off (store_disk p s k) ss c (whole_store p off k s w h) (subst (λ (v : View). AllFit p v ss) (sym (view_store p off k s c w h)) f) (λ t m. g t (inr m)),
)

-- a cut call makes the first ones
pub obey_take : (p : Params) (off : List ℕ) (k : Disk) (n : ℕ) (ss : List Store) → ObeyAll p off k ss → ObeyAll p off k (take n ss)
obey_take p off k zero ss o = tt
obey_take p off k (suc n) [] o = tt
obey_take p off k (suc n) (s ∷ ss) o = (o.0, obey_take p off (store_disk p s k) n ss o.1)
