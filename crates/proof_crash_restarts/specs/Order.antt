-- Rising lists are known by their elements; an injective map into fewer numbers there is none. Assumes nothing.
use Rattle.std.specs.Prelude.{◌≡◌, refl, List, [], ◌∷◌, ◌++◌, ℕ, ◌<◌}
use Rattle.std.proofs.Common.{sym, ap, ap₂, ◌∙◌, inl, inr, ⊎_elim, arith}
use Rattle.spec.specs.declared.Params.{Params}
use Rattle.spec.specs.Drives.{Zone, View, zone_at, pointer_at, Store, store_view_of, store_all, zone_on}
use Rattle.spec.specs.Lists.{flat}
use Rattle.proof_crash_machine.specs.Facts.{Heads}
use Rattle.proof_crash_machine.specs.Rest.{InS}
use Rattle.proof_crash_machine.specs.View.{ItemStore, AllS}
use Rattle.proof_crash_items.specs.Member.{Has, has_map}
use Rattle.proof_crash_items.specs.Refuse.{Rising, seg_zones, rising_apart}
use Rattle.proof_crash_items.specs.Sound.{Follows, follows_nil, follows_append}
use Rattle.spec.specs.declared.Seg.{Seg}
use Rattle.proof_crash_machine.specs.Memory.{Ok}

-- equal elements, equal lists
pub rising_same : (l k : List ℕ) → Rising l → Rising k → ((a : ℕ) → Has a l → Has a k) → ((a : ℕ) → Has a k → Has a l) → l ≡ k
rising_same [] [] r q f h = refl
rising_same [] (b ∷ k) r q f h = absurd (h b (inl refl))
rising_same (a ∷ l) [] r q f h = absurd (f a (inl refl))
rising_same (a ∷ l) (b ∷ k) r q f h = ap₂ (λ (x : ℕ) (y : List ℕ). x ∷ y) first (rising_same l k r.1 q.1 fwd bwd)
  where
    first : a ≡ b
    first =
        ⊎_elim (λ e. e) (λ (i : Has a k). ⊎_elim (λ (e : b ≡ a). sym e) (λ (j : Has b l). absurd (let w : ⊥ = omega (arith, q.0 a i, r.0 b j) in w)) (h b (inl refl))) (f a (inl refl))

    fwd : (x : ℕ) → Has x l → Has x k
    fwd x i = ⊎_elim (λ (e : x ≡ b). absurd (let w : ⊥ = omega (arith, r.0 x i, e, first) in w)) (λ j. j) (f x (inr i))

    bwd : (x : ℕ) → Has x k → Has x l
    bwd x i = ⊎_elim (λ (e : x ≡ a). absurd (let w : ⊥ = omega (arith, q.0 x i, e, first) in w)) (λ j. j) (h x (inr i))

-- segments too, by their zones on a drive
pub segs_same : (d : ℕ) (l k : List Seg) → Rising (seg_zones d l) → Rising (seg_zones d k) → ((z : Seg) → Has z l → Has z k) → ((z : Seg) → Has z k → Has z l) → l ≡ k
segs_same d [] [] r q f h = refl
segs_same d [] (b ∷ k) r q f h = absurd (h b (inl refl))
segs_same d (a ∷ l) [] r q f h = absurd (f a (inl refl))
segs_same d (a ∷ l) (b ∷ k) r q f h = ap₂ (λ (x : Seg) (y : List Seg). x ∷ y) first (segs_same d l k r.1 q.1 fwd bwd)
  where
    above : (x : Seg) (y : List Seg) → Rising (seg_zones d (x ∷ y)) → (z : Seg) → Has z y → zone_on x d < zone_on z d
    above x y s z i = s.0 (zone_on z d) (has_map (λ (z : Seg). zone_on z d) y z i)

    first : a ≡ b
    first =
        ⊎_elim (λ e. e) (λ (i : Has a k). ⊎_elim (λ (e : b ≡ a). sym e) (λ (j : Has b l). absurd (let w : ⊥ = omega (arith, above b k q a i, above a l r b j) in w)) (h b (inl refl)))
        (f a (inl refl))

    fwd : (x : Seg) → Has x l → Has x k
    fwd x i = ⊎_elim (λ (e : x ≡ b). absurd (rising_apart d a l r x i (e ∙ sym first))) (λ j. j) (f x (inr i))

    bwd : (x : Seg) → Has x k → Has x l
    bwd x i = ⊎_elim (λ (e : x ≡ a). absurd (rising_apart d b k q x i (e ∙ first))) (λ j. j) (h x (inr i))

-- ---- lists of stores

pub all-S : (Ok : ItemStore → Type 0) (ss : List ItemStore) → ((s : ItemStore) → Has s ss → Ok s) → AllS Ok ss
all-S Ok [] h = tt
all-S Ok (s ∷ ss) h = (h s (inl refl), all-S Ok ss (λ t i. h t (inr i)))

pub in_S : (s : ItemStore) (ss : List ItemStore) → Has s ss → InS s ss
in_S s [] i = absurd i
in_S s (t ∷ ss) (inl e) = inl e
in_S s (t ∷ ss) (inr i) = inr (in_S s ss i)

-- runs of runs
pub follows_flat : {A : Type 0} (p : Params) (hd : Heads) (f : A → List Store) (h : A → List ItemStore) (l : List A) → ((v : View) (z : A) → Has z l → Follows p hd v (f z) (h z))
    → (v : View)
    → Follows p hd v (flat f l) (flat h l)
unfolding flat
follows_flat p hd f h [] k v = follows_nil p hd v
follows_flat p hd f h (z ∷ l) k v =
    follows_append p hd v (f z) (flat f l) (h z) (flat h l) (k v z (inl refl)) (follows_flat p hd f h l (λ u y i. k u y (inr i)) (store_all store_view_of (f z) v))

pub flat_same : {A B : Type 0} (f h : A → List B) (l : List A) → ((a : A) → Has a l → f a ≡ h a) → flat f l ≡ flat h l
unfolding flat
flat_same f h [] e = refl
flat_same f h (a ∷ l) e = ap₂ ◌++◌ (e a (inl refl)) (flat_same f h l (λ b i. e b (inr i)))

pub pointer_zone : (w v : View) (d z : ℕ) → zone_at w d z ≡ zone_at v d z → pointer_at w d z ≡ pointer_at v d z
unfolding pointer_at
pointer_zone w v d z e = ap (λ (q : Zone). q.pointer) e
