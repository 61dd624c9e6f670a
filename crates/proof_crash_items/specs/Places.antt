-- The items of the zones (drive, zone) and the machine's view (drive, segment; a segment's name is its serial): where each segment lies. Assumes nothing.
use Rattle.std.specs.Prelude.{◌≡◌, refl, List, [], ◌∷◌, ◌++◌, map, true, false, ◌⊎◌, ◌≢◌, ℕ, zero, suc, ◌<◌, length, take}
use Rattle.std.proofs.Common.{sym, ap, ◌∙◌, subst, inl, inr, ⊎_elim, arith}
use Rattle.proof_crash_machine.specs.Mask.{Mask, two}
use Rattle.proof_crash_machine.specs.View.{Item, ItemView, ItemStore, upd, upd_elim, upd_same, with_item, emptied_at, apply, apply_all, AllS}
use Rattle.proof_crash_machine.specs.View.ItemStore.{put, reset}
use Rattle.proof_crash_machine.specs.Facts.{Par, Heads, Ghost, Tr, Choice, Used, Facts, trust}
use Rattle.proof_crash_machine.specs.Name.{set_n, set_n-other}

-- W: drive, zone. v: drive, segment, a segment being its serial. Of the trusted drives' good zones, just the named zones of segments are not empty
pub record PlacesPlaced (p : Par) (n : Mask) (h : Heads) (W v : ItemView) : Type 0 where
  pub at : (d z : ℕ) → Tr p n d → 0 < length (v d z) → W d (h.zn z d) ≡ v d z
  pub from : (d y : ℕ) → Tr p n d → y < p.Z → p.fine d y ≡ true → 0 < length (W d y) → (z : ℕ) × (h.zn z d ≡ y) × (v d z ≡ W d y)
  pub is : (z : ℕ) → Used p n v z → h.ser z ≡ z

-- ---- segments A, in use or about to be, each with its zones: what a list of stores in them keeps
pub record PlacesLies (p : Par) (n : Mask) (h : Heads) (A : ℕ → Type 0) (W v : ItemView) : Type 0 where
  pub own : (z : ℕ) → A z → h.ser z ≡ z
  pub apart : (y z d : ℕ) → A y → A z → d < p.N → h.zn y d ≡ h.zn z d → y ≡ z
  pub at : (d z : ℕ) → Tr p n d → A z → W d (h.zn z d) ≡ v d z
  pub within : (d z : ℕ) → Tr p n d → 0 < length (v d z) → A z
  pub from : (d y : ℕ) → Tr p n d → y < p.Z → p.fine d y ≡ true → 0 < length (W d y) → (z : ℕ) × A z × (h.zn z d ≡ y)

pub lies_placed : (p : Par) (n : Mask) (h : Heads) (A : ℕ → Type 0) (W v : ItemView) → PlacesLies p n h A W v → PlacesPlaced p n h W v
lies_placed p n h A W v k = record {
  at = λ d z t i. k.at d z t (k.within d z t i);
  from = λ d y t l f b. let (z, a, e) = k.from d y t l f b in (z, e, sym (k.at d z t a) ∙ ap (W d) e);
  is = λ z (d, t, i). k.own z (k.within d z t i);
}

-- the segments in use
pub lies_used : (p : Par) (g : Ghost) (W v : ItemView) → Facts p g v → PlacesPlaced p g.un g.hd W v → PlacesLies p g.un g.hd (Used p g.un v) W v
lies_used p g W v f k = record {
  own = k.is;
  apart = λ y z d a b l e. f.«open».place.apart y z (inl a) (inl b) d l e;
  at = λ d z t a. at' d z t a (some? (v d z)) (some? (W d (g.hd.zn z d)));
  within = λ d z t i. (d, t, i);
  from = λ d y t l q b. let (z, e, s) = k.from d y t l q b in (z, (d, t, subst (λ (x : List Item). 0 < length x) (sym s) b), e);
}
  where
    some? : (l : List Item) → (0 < length l) ⊎ (l ≡ [])
    some? [] = inr refl
    some? (i ∷ l) = inl (omega arith)

    at' : (d z : ℕ) → Tr p g.un d → Used p g.un v z → (0 < length (v d z)) ⊎ (v d z ≡ []) → (0 < length (W d (g.hd.zn z d))) ⊎ (W d (g.hd.zn z d) ≡ [])
        → W d (g.hd.zn z d) ≡ v d z
    at' d z t a (inl i) j = k.at d z t i
    at' d z t a (inr i) (inr j) = j ∙ sym i
    at' d z t a (inr i) (inl j) =
        let q : (g.hd.zn z d < p.Z) × (p.fine d (g.hd.zn z d) ≡ true) = f.«open».place.put z (inl a) d t.0 in
        let (y, e, s) = k.from d (g.hd.zn z d) t q.0 q.1 j in
        let b : 0 < length (v d y) = subst (λ (x : List Item). 0 < length x) (sym s) j in
        let w : y ≡ z = f.«open».place.apart y z (inl (d, t, b)) (inl a) d t.0 e in
        subst (λ (x : ℕ). W d (g.hd.zn z d) ≡ v d x) w (sym s)

-- a new one, with empty zones of its own
pub lies_new : (p : Par) (n : Mask) (h : Heads) (A : ℕ → Type 0) (W v : ItemView) (w : ℕ) → PlacesLies p n h A W v → h.ser w ≡ w
    → ((y d : ℕ) → A y → d < p.N → h.zn y d ≡ h.zn w d → y ≡ w) → ((d : ℕ) → Tr p n d → W d (h.zn w d) ≡ v d w)
    → PlacesLies p n h (λ (z : ℕ). (A z) ⊎ (z ≡ w)) W v
lies_new p n h A W v w k s c e = record {
  own = own';
  apart = apart';
  at = at';
  within = λ d z t i. inl (k.within d z t i);
  from = λ d y t l f b. let (z, a, q) = k.from d y t l f b in (z, inl a, q);
}
  where
    own' : (z : ℕ) → (A z) ⊎ (z ≡ w) → h.ser z ≡ z
    own' z (inl a) = k.own z a
    own' z (inr q) = subst (λ (x : ℕ). h.ser x ≡ x) (sym q) s

    apart' : (y z d : ℕ) → (A y) ⊎ (y ≡ w) → (A z) ⊎ (z ≡ w) → d < p.N → h.zn y d ≡ h.zn z d → y ≡ z
    apart' y z d (inl a) (inl b) l q = k.apart y z d a b l q
    apart' y z d (inl a) (inr b) l q = c y d a l (q ∙ ap (λ (x : ℕ). h.zn x d) b) ∙ sym b
    apart' y z d (inr a) (inl b) l q = a ∙ sym (c z d b l (sym q ∙ ap (λ (x : ℕ). h.zn x d) a))
    apart' y z d (inr a) (inr b) l q = a ∙ sym b

    at' : (d z : ℕ) → Tr p n d → (A z) ⊎ (z ≡ w) → W d (h.zn z d) ≡ v d z
    at' d z t (inl a) = k.at d z t a
    at' d z t (inr a) = subst (λ (x : ℕ). W d (h.zn x d) ≡ v d x) (sym a) (e d t)

-- drives that hold nothing in their good zones (a rebuild has reset them) are as good as trusted: what is stored there from now on lies where it should
pub lies_more : (p : Par) (n m : Mask) (h : Heads) (A : ℕ → Type 0) (W v : ItemView) → PlacesLies p n h A W v
    → ((d : ℕ) → d < p.N → n d ≡ true → m d ≡ false → ((z : ℕ) → A z → W d (h.zn z d) ≡ []) × ((z : ℕ) → v d z ≡ [])
    × ((y : ℕ) → y < p.Z → p.fine d y ≡ true → W d y ≡ []))
    → PlacesLies p m h A W v
lies_more p n m h A W v k e = record {
  own = k.own;
  apart = k.apart;
  at = λ d z t a. ⊎_elim (λ (q : n d ≡ true). let w = e d t.0 q t.1 in w.0 z a ∙ sym (w.1 z)) (λ (q : n d ≡ false). k.at d z (t.0, q) a) (two (n d));
  within = λ d z t i. ⊎_elim (λ (q : n d ≡ true). absurd (none (v d z) ((e d t.0 q t.1).1 z) i)) (λ (q : n d ≡ false). k.within d z (t.0, q) i) (two (n d));
  from = λ d y t l f b. ⊎_elim (λ (q : n d ≡ true). absurd (none (W d y) ((e d t.0 q t.1).2 y l f) b)) (λ (q : n d ≡ false). k.from d y (t.0, q) l f b) (two (n d));
}
  where
    none : (l : List Item) → l ≡ [] → 0 < length l → ⊥
    none l q b = let c : 0 < length {A = Item} [] = subst (λ (x : List Item). 0 < length x) q b in let j : ⊥ = omega (arith, c) in j

-- what one zone of a segment gets, the segment gets
pub lies-upd : (p : Par) (n : Mask) (h : Heads) (A : ℕ → Type 0) (W v : ItemView) → PlacesLies p n h A W v → (d z : ℕ) → A z → (l m : List Item) → (Tr p n d → l ≡ m)
    → PlacesLies p n h A (upd W d (h.zn z d) l) (upd v d z m)
lies-upd p n h A W v k d z a l m q = record { own = k.own; apart = k.apart; at = at'; within = within'; from = from' }
  where
    at' : (e x : ℕ) → Tr p n e → A x → upd W d (h.zn z d) l e (h.zn x e) ≡ upd v d z m e x
    at' e x t b = upd_elim (λ (r : List Item). upd W d (h.zn z d) l e (h.zn x e) ≡ r) v d z m e x
        (λ i j. rw (i, j) (upd_same W d (h.zn z d) l ∙ q (subst (Tr p n) i t)))
        (λ w. upd_elim (λ (r : List Item). r ≡ v e x) W d (h.zn z d) l e (h.zn x e)
        (λ i j. absurd (⊎_elim (λ (u : e ≢ d). u i) (λ (u : x ≢ z). u (k.apart x z e b a t.0 (j ∙ ap (h.zn z) (sym i)))) w)) (λ u. k.at e x t b))

    within' : (e x : ℕ) → Tr p n e → 0 < length (upd v d z m e x) → A x
    within' e x t = upd_elim (λ (r : List Item). 0 < length r → A x) v d z m e x (λ i j c. subst A (sym j) a) (λ w c. k.within e x t c)

    from' : (e y : ℕ) → Tr p n e → y < p.Z → p.fine e y ≡ true → 0 < length (upd W d (h.zn z d) l e y) → (x : ℕ) × A x × (h.zn x e ≡ y)
    from' e y t b f = upd_elim (λ (r : List Item). 0 < length r → (x : ℕ) × A x × (h.zn x e ≡ y)) W d (h.zn z d) l e y
        (λ i j c. (z, a, ap (h.zn z) i ∙ sym j)) (λ w c. k.from e y t b f c)

-- ---- stores by segment, and where they lie
unfoldable pub place_store : Heads → ItemStore → ItemStore
place_store h (put d z i) = put d (h.zn z d) i
place_store h (reset d z) = reset d (h.zn z d)

-- the segment of a store
unfoldable pub store_seg : ItemStore → ℕ
store_seg (put d z i) = z
store_seg (reset d z) = z

pub lies_store : (p : Par) (n : Mask) (h : Heads) (A : ℕ → Type 0) (W v : ItemView) (s : ItemStore) → A (store_seg s) → PlacesLies p n h A W v
    → PlacesLies p n h A (apply W (place_store h s)) (apply v s)
unfolding store_seg place_store apply with_item emptied_at
lies_store p n h A W v (put d z i) a k = lies-upd p n h A W v k d z a (W d (h.zn z d) ++ (i ∷ [])) (v d z ++ (i ∷ [])) (λ t. ap (λ (l : List Item). l ++ (i ∷ [])) (k.at d z t a))
lies_store p n h A W v (reset d z) a k = lies-upd p n h A W v k d z a [] [] (λ t. refl)

pub lies_stores : (p : Par) (n : Mask) (h : Heads) (A : ℕ → Type 0) (W v : ItemView) (ss : List ItemStore) → AllS (λ (s : ItemStore). A (store_seg s)) ss → PlacesLies p n h A W v
    → PlacesLies p n h A (apply_all W (map (place_store h) ss)) (apply_all v ss)
unfolding apply_all
lies_stores p n h A W v [] a k = k
lies_stores p n h A W v (s ∷ ss) a k = lies_stores p n h A (apply W (place_store h s)) (apply v s) ss a.1 (lies_store p n h A W v s a.0 k)

pub take_places : (h : Heads) (ss : List ItemStore) (n : ℕ) → take n (map (place_store h) ss) ≡ map (place_store h) (take n ss)
take_places h [] zero = refl
take_places h [] (suc n) = refl
take_places h (s ∷ ss) zero = refl
take_places h (s ∷ ss) (suc n) = ap (λ (l : List ItemStore). place_store h s ∷ l) (take_places h ss n)

pub append_places : (h : Heads) (ss ts : List ItemStore) → map (place_store h) (ss ++ ts) ≡ map (place_store h) ss ++ map (place_store h) ts
append_places h [] ts = refl
append_places h (s ∷ ss) ts = ap (λ (l : List ItemStore). place_store h s ∷ l) (append_places h ss ts)

-- ---- a segment not in use is named: no store
pub placed-named : (p : Par) (n : Mask) (h : Heads) (W v : ItemView) (w r c : ℕ) (ζ : ℕ → ℕ) → (Used p n v w → ⊥) → PlacesPlaced p n h W v
    → PlacesPlaced p n (record { ser = set_n h.ser w r; cop = set_n h.cop w c; zn = set_n h.zn w ζ }) W v
placed-named p n h W v w r c ζ idle k = record {
  at = λ d z t b. subst (λ (f : ℕ → ℕ). W d (f d) ≡ v d z) (sym (set_n-other h.zn w ζ z (no z (d, t, b)))) (k.at d z t b);
  from = λ d y t a b i. let q : (z : ℕ) × (h.zn z d ≡ y) × (v d z ≡ W d y) = k.from d y t a b i in
      (q.0, ap (λ (f : ℕ → ℕ). f d) (set_n-other h.zn w ζ q.0 (no q.0 (d, t, subst (λ (l : List Item). 0 < length l) (sym q.2) i))) ∙ q.1, q.2);
  is = λ z i. set_n-other h.ser w r z (no z i) ∙ k.is z i;
}
  where
    no : (z : ℕ) → Used p n v z → z ≢ w
    no z i e = idle (subst (λ (t : ℕ). Used p n v t) e i)

-- ---- drives are given up: what they hold no longer counts
pub placed_less : (p : Par) (n m : Mask) (h : Heads) (W v W' v' : ItemView) → Choice p n m → ((e y : ℕ) → e < p.N → m e ≡ false → W e y ≡ W' e y)
    → ((e y : ℕ) → e < p.N → m e ≡ false → v e y ≡ v' e y)
    → PlacesPlaced p n h W v → PlacesPlaced p m h W' v'
placed_less p n m h W v W' v' c a b k = record {
  at = λ d z t i. sym (a d (h.zn z d) t.0 t.1) ∙ k.at d z (tr d t) (back d z t i) ∙ b d z t.0 t.1;
  from = λ d y t l f i. let q : (z : ℕ) × (h.zn z d ≡ y) × (v d z ≡ W d y) = k.from d y (tr d t) l f (subst (λ (x : List Item). 0 < length x) (sym (a d y t.0 t.1)) i) in
      (q.0, q.1, sym (b d q.0 t.0 t.1) ∙ q.2 ∙ a d y t.0 t.1);
  is = λ z (d, t, i). k.is z (d, tr d t, back d z t i);
}
  where
    tr : (d : ℕ) → Tr p m d → Tr p n d
    tr d t = (t.0, trust p n m c d t.0 t.1)

    back : (d z : ℕ) → Tr p m d → 0 < length (v' d z) → 0 < length (v d z)
    back d z t i = subst (λ (x : List Item). 0 < length x) (sym (b d z t.0 t.1)) i
