-- The drives as lists of stored items; one store changes one zone. Assumes nothing.
use Rattle.std.specs.Prelude.{◌≡◌, refl, List, [], ◌∷◌, ◌++◌, ◌⊎◌, ◌≢◌, ℕ, zero, suc, ◌+◌, ◌≤◌, ◌<◌, length, take}
use Rattle.std.proofs.Common.{inl, inr, ⊎_elim, arith}
use Rattle.std.proofs.Math.Decide.{ℕ_discrete}
use Rattle.proof_crash_machine.specs.Val.{Val}

pub data Item : Type 0 where
  -- serial, copied serial, the zones of the segment by drive
  hdr : ℕ → ℕ → (ℕ → ℕ) → Item
  chunk : ℕ → Val → Item
  foot : ℕ → Item

-- drive, zone, what is stored below the pointer
abbrev pub ItemView : Type 0
ItemView = ℕ → ℕ → List Item

pub data ItemStore : Type 0 where
  put : ℕ → ℕ → Item → ItemStore
  reset : ℕ → ℕ → ItemStore

abbrev pub pick : {P : Type 0} → Dec P → List Item → List Item → List Item
pick (yes q) a b = a
pick (no q) a b = b

-- v with l in zone z of drive d
unfoldable pub upd : ItemView → ℕ → ℕ → List Item → ItemView
upd v d z l e y = pick (ℕ_discrete e d) (pick (ℕ_discrete y z) l (v e y)) (v e y)

-- the ONLY law of upd that is needed: whatever holds of l, and of v where it isn't d, z
pub upd_elim : (Q : List Item → Type 0) (v : ItemView) (d z : ℕ) (l : List Item) (e y : ℕ)
    → (e ≡ d → y ≡ z → Q l) → ((e ≢ d) ⊎ (y ≢ z) → Q (v e y)) → Q (upd v d z l e y)
unfolding upd
upd_elim Q v d z l e y h k = go (ℕ_discrete e d) (ℕ_discrete y z)
  where
    go : (a : Dec (e ≡ d)) (b : Dec (y ≡ z)) → Q (pick a (pick b l (v e y)) (v e y))
    go (yes a) (yes b) = h a b
    go (yes a) (no b) = k (inr b)
    go (no a) (yes b) = k (inl a)
    go (no a) (no b) = k (inl a)

pub upd_same : (v : ItemView) (d z : ℕ) (l : List Item) → upd v d z l d z ≡ l
upd_same v d z l = upd_elim (λ (x : List Item). x ≡ l) v d z l d z (λ p q. refl) (λ w. absurd (⊎_elim (λ n. n refl) (λ n. n refl) w))

pub upd_drive : (v : ItemView) (d z : ℕ) (l : List Item) (e y : ℕ) → e ≢ d → upd v d z l e y ≡ v e y
upd_drive v d z l e y n = upd_elim (λ (x : List Item). x ≡ v e y) v d z l e y (λ p q. absurd (n p)) (λ w. refl)

pub upd_zone : (v : ItemView) (d z : ℕ) (l : List Item) (e y : ℕ) → y ≢ z → upd v d z l e y ≡ v e y
upd_zone v d z l e y n = upd_elim (λ (x : List Item). x ≡ v e y) v d z l e y (λ p q. absurd (n q)) (λ w. refl)

unfoldable pub with_item : ItemView → ℕ → ℕ → Item → ItemView
with_item v d z i = upd v d z (v d z ++ (i ∷ []))

unfoldable pub emptied_at : ItemView → ℕ → ℕ → ItemView
emptied_at v d z = upd v d z []

unfoldable pub apply : ItemView → ItemStore → ItemView
apply v (put d z i) = with_item v d z i
apply v (reset d z) = emptied_at v d z

unfoldable pub apply_all : ItemView → List ItemStore → ItemView
apply_all v [] = v
apply_all v (s ∷ ss) = apply_all (apply v s) ss

-- ---- membership
abbrev pub InI : Item → List Item → Type 0
InI i [] = ⊥
InI i (j ∷ l) = (i ≡ j) ⊎ InI i l

pub item_left : (i : Item) (l r : List Item) → InI i l → InI i (l ++ r)
item_left i [] r m = absurd m
item_left i (j ∷ l) r (inl e) = inl e
item_left i (j ∷ l) r (inr m) = inr (item_left i l r m)

pub in_last : (i : Item) (l : List Item) → InI i (l ++ (i ∷ []))
in_last i [] = inl refl
in_last i (j ∷ l) = inr (in_last i l)

pub in_cases : (i j : Item) (l : List Item) → InI i (l ++ (j ∷ [])) → InI i l ⊎ (i ≡ j)
in_cases i j [] (inl e) = inr e
in_cases i j [] (inr m) = absurd m
in_cases i j (k ∷ l) (inl e) = inl (inl e)
in_cases i j (k ∷ l) (inr m) = ⊎_elim (λ (w : InI i l). inl (inr w)) (λ (w : i ≡ j). inr w) (in_cases i j l m)

pub item_some : (i : Item) (l : List Item) → InI i l → 0 < length l
item_some i [] m = absurd m
item_some i (j ∷ l) m = omega arith

-- constructors
pub chunk_val : {s t : ℕ} {x y : Val} → chunk s x ≡ chunk t y → x ≡ y
chunk_val e = cc

pub chunk_num : {s t : ℕ} {x y : Val} → chunk s x ≡ chunk t y → s ≡ t
chunk_num e = cc

pub chunk_hdr : {s r c : ℕ} {n : ℕ → ℕ} {x : Val} → chunk s x ≡ hdr r c n → ⊥
chunk_hdr e = let z : ◌≡◌ {A = ℕ} 0 1 = cc in let q : ⊥ = omega arith in q

pub chunk_foot : {s k : ℕ} {x : Val} → chunk s x ≡ foot k → ⊥
chunk_foot e = let z : ◌≡◌ {A = ℕ} 0 1 = cc in let q : ⊥ = omega arith in q

-- ---- a power cut: some prefix of a call's stores
abbrev pub AllS : (ItemStore → Type 0) → List ItemStore → Type 0
AllS Ok [] = Unit {0}
AllS Ok (s ∷ ss) = Ok s × AllS Ok ss

pub alls_append : (Ok : ItemStore → Type 0) (ss ts : List ItemStore) → AllS Ok ss → AllS Ok ts → AllS Ok (ss ++ ts)
alls_append Ok [] ts a b = b
alls_append Ok (s ∷ ss) ts a b = (a.0, alls_append Ok ss ts a.1 b)

-- what each store keeps holds after every prefix
pub along : (I : ItemView → Type 0) (Ok : ItemStore → Type 0) → ((v : ItemView) (s : ItemStore) → Ok s → I v → I (apply v s))
    → (ss : List ItemStore) → AllS Ok ss → (v : ItemView) → I v → (k : ℕ) → I (apply_all v (take k ss))
unfolding apply_all
along I Ok step [] a v i zero = i
along I Ok step [] a v i (suc k) = i
along I Ok step (s ∷ ss) a v i zero = i
along I Ok step (s ∷ ss) a v i (suc k) = along I Ok step ss a.1 (apply v s) (step v s a.0 i) k

pub along_all : (I : ItemView → Type 0) (Ok : ItemStore → Type 0) → ((v : ItemView) (s : ItemStore) → Ok s → I v → I (apply v s))
    → (ss : List ItemStore) → AllS Ok ss → (v : ItemView) → I v → I (apply_all v ss)
unfolding apply_all
along_all I Ok step [] a v i = i
along_all I Ok step (s ∷ ss) a v i = along_all I Ok step ss a.1 (apply v s) (step v s a.0 i)

-- the resets of a segment, drives d .. d + n - 1
unfoldable pub resets : ℕ → ℕ → ℕ → List ItemStore
resets z d zero = []
resets z d (suc n) = reset d z ∷ resets z (suc d) n

abbrev pub ResetOf : ℕ → ℕ → ItemStore → Type 0
ResetOf n z s = (d : ℕ) × (d < n) × (s ≡ reset d z)

pub resets_are : (m z d n : ℕ) → d + n ≤ m → AllS (ResetOf m z) (resets z d n)
unfolding resets
resets_are m z d zero h = tt
resets_are m z d (suc n) h = ((d, omega arith, refl), resets_are m z (suc d) n (omega arith))
