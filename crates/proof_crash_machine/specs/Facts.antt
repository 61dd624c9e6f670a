-- Segments, counted stripes, and the drive facts D1 to D12. Assumes nothing.
use Rattle.std.specs.Prelude.{◌≡◌, List, [], ◌∷◌, ◌⊎◌, ◌≢◌, Bool, true, false, ℕ, zero, suc, ◌≤◌, ◌<◌, length, get_or}
use Rattle.std.proofs.Common.{sym, subst, inl, inr, ⊎_elim, arith}
use Rattle.std.proofs.Math.Decide.{ℕ_discrete, dec_lt}
use Rattle.proof_crash_machine.specs.Val.{Val, pads}
use Rattle.proof_crash_machine.specs.Mask.{Mask, count, count_none, mask_outside, two, tf}
use Rattle.proof_crash_machine.specs.Code.{Code, word_same}
use Rattle.proof_crash_machine.specs.Code
use Rattle.proof_crash_machine.specs.View.{Item, ItemView, InI}
use Rattle.proof_crash_machine.specs.View.Item.{hdr, chunk, foot}

pub record Par : Type 0 where
  pub N : ℕ
  pub Z : ℕ
  pub S : ℕ
  pub cap : ℕ
  -- the number of addresses
  pub addrs : ℕ
  -- how many drives may be missing, and how stripes are protected
  pub P : ℕ
  pub code : Code N P
  -- group of a stripe
  pub grp : ℕ → ℕ
  pub some : P < N
  -- zones that are not offline: some on each drive
  pub fine : ℕ → ℕ → Bool
  pub zones : (d : ℕ) → d < N → (y : ℕ) × (y < Z) × (fine d y ≡ true)
  -- there is a footer block
  pub fits : suc S < cap

-- the pair of D8
pub data Pair : Type 0 where
  alone : Pair
  pair : ℕ → ℕ → Pair

-- serial, copied serial and zones (by drive) of a segment in use
pub record Heads : Type 0 where
  pub ser : ℕ → ℕ
  pub cop : ℕ → ℕ
  pub zn : ℕ → ℕ → ℕ

-- history values and what is known of the headers
pub record Ghost : Type 0 where
  -- the untrusted drives, and those that the last finished restart named
  pub un : Mask
  pub said : Mask
  pub hd : Heads
  pub pr : Pair
  -- cur: the blocks sent, as far as they may still come back
  pub sent : List Val
  -- v, base, and the greatest stamp that is not fresh
  pub last : ℕ → ℕ
  pub base : ℕ → ℕ
  pub top : ℕ

abbrev pub InV : Val → List Val → Type 0
InV x [] = ⊥
InV x (y ∷ l) = (x ≡ y) ⊎ InV x l

-- padding, or a block that was sent
abbrev pub Good : Ghost → Val → Type 0
Good g x = (x ≡ pads) ⊎ InV x g.sent

abbrev pub Tr : Par → Mask → ℕ → Type 0
Tr p n d = (d < p.N) × (n d ≡ false)

-- no drive
abbrev pub None : Par → Mask → Type 0
None p n = (d : ℕ) → d < p.N → n d ≡ false

-- the sets of drives that a restart may name: at most P, with the untrusted ones among them
abbrev pub Choice : Par → Mask → Mask → Type 0
Choice p n m = (count p.N m ≤ p.P) × ((d : ℕ) → d < p.N → n d ≡ true → m d ≡ true)

-- m holds k, not empty, and more
abbrev pub Beyond : Par → Mask → Mask → Type 0
Beyond p k m = ((d : ℕ) × (d < p.N) × (k d ≡ true)) × ((d : ℕ) → d < p.N → k d ≡ true → m d ≡ true) × ((d : ℕ) × (d < p.N) × (m d ≡ true) × (k d ≡ false))

-- what is known of the untrusted drives
pub record Lost (p : Par) (n : Mask) : Type 0 where
  pub few : count p.N n ≤ p.P

-- present drives are trusted
pub trust : (p : Par) (n m : Mask) → Choice p n m → (d : ℕ) → d < p.N → m d ≡ false → n d ≡ false
trust p n m c d l e = ⊎_elim (λ (q : n d ≡ true). tf (c.1 d l q) e) (λ q. q) (two (n d))

pub none_few : (p : Par) (n : Mask) → None p n → count p.N n ≤ p.P
none_few p n h = omega (arith, count_none p.N n h)

pub self : (p : Par) (n : Mask) → count p.N n ≤ p.P → Choice p n n
self p n b = (b, λ d l e. e)

pub self_none : (p : Par) (n : Mask) → None p n → Choice p n n
self_none p n h = self p n (none_few p n h)

pub none_fair : (p : Par) (k n : Mask) → None p n → Beyond p k n → ⊥
none_fair p k n h b = tf b.2.2 (h b.2.0 b.2.1)

pub further : (p : Par) (n m k : Mask) → Choice p n m → Choice p m k → Choice p n k
further p n m k a b = (b.0, λ d l e. b.1 d l (a.1 d l e))

-- a drive that is there
pub some_present : (p : Par) (m : Mask) → count p.N m ≤ p.P → (d : ℕ) × (d < p.N) × (m d ≡ false)
some_present p m b = mask_outside p.N m (omega (arith, b, p.some))

-- f is a code word of stripe s
abbrev pub Word : Par → ℕ → (ℕ → Val) → Type 0
Word p s f = (d : ℕ) → d < p.N → f d ≡ p.code.enc s f d

pub word_unique : (p : Par) (s : ℕ) (m : Mask) → count p.N m ≤ p.P → (f h : ℕ → Val) → Word p s f → Word p s h
    → ((d : ℕ) → d < p.N → m d ≡ false → f d ≡ h d) → (d : ℕ) → d < p.N → f d ≡ h d
word_unique p s m b f h wf wh e = Code.unique p.code s m b f h wf wh e

pub respell : (p : Par) (s : ℕ) (f h : ℕ → Val) → ((d : ℕ) → d < p.N → f d ≡ h d) → Word p s f → Word p s h
respell p s f h e w = word_same p.code s f h e w

-- L(m): step 1
abbrev pub L : Par → ItemView → Mask → ℕ → Type 0
L p v m z = (d : ℕ) → d < p.N → m d ≡ false → 0 < length (v d z)

-- R(m): steps 1 and 2
pub record R (p : Par) (h : Heads) (v : ItemView) (m : Mask) (z : ℕ) : Type 0 where
  pub left : L p v m z
  pub own : (o : ℕ) → L p v m o → h.cop z ≡ h.ser o → ⊥

-- f is stripe s of segment z, as a restart that misses m sees it: a code word, on every present drive
pub record Stripe (p : Par) (v : ItemView) (m : Mask) (z s : ℕ) (f : ℕ → Val) : Type 0 where
  pub on : (d : ℕ) → d < p.N → m d ≡ false → InI (chunk s (f d)) (v d z)
  pub word : Word p s f

-- x is one of the data of stripe s, which is f
pub record Datum (p : Par) (s : ℕ) (f : ℕ → Val) (x : Val) : Type 0 where
  pub d : ℕ
  pub lt : d < p.N
  pub data? : p.code.par s d ≡ false
  pub val : f d ≡ x

-- x is counted: K_m(a) is the greatest stamp of an x at a
pub record Counted (p : Par) (h : Heads) (v : ItemView) (m : Mask) (x : Val) : Type 0 where
  pub z : ℕ
  pub s : ℕ
  pub f : ℕ → Val
  pub rem : R p h v m z
  pub st : Stripe p v m z s f
  pub dt : Datum p s f x

-- ---- facts of one trusted zone: D1, D2, D4, D5
abbrev pub Off : List Item → ℕ → Item → Type 0
Off l k i = (k < length l) × (get_or l k (foot 0) ≡ i)

pub record ZoneItems (p : Par) (g : Ghost) (d z : ℕ) (l : List Item) : Type 0 where
  pub len : length l ≤ p.cap
  pub head : 0 < length l → get_or l 0 (foot 0) ≡ hdr (g.hd.ser z) (g.hd.cop z) (g.hd.zn z)
  pub num : (k s : ℕ) (x : Val) → Off l (suc k) (chunk s x) → (s < p.S) × (k < p.S) × (p.grp s ≡ p.grp k)
  pub once : (j k s : ℕ) (x y : Val) → Off l j (chunk s x) → Off l k (chunk s y) → j ≡ k
  pub origin : (s : ℕ) (x : Val) → InI (chunk s x) l → p.code.par s d ≡ false → Good g x
  -- X2: a zone with a footer has every stripe
  pub sealed : suc p.S < length l → (s : ℕ) → s < p.S → (x : Val) × InI (chunk s x) l

-- ---- D7: what is on all present drives, for some choice, is part of a code word; its data were sent
pub record Parity (p : Par) (g : Ghost) (v : ItemView) : Type 0 where
  pub whole : (m : Mask) → Choice p g.un m → (z s : ℕ) (f : ℕ → Val) → ((d : ℕ) → d < p.N → m d ≡ false → InI (chunk s (f d)) (v d z))
      → (h : ℕ → Val) × Word p s h × ((d : ℕ) → d < p.N → m d ≡ false → f d ≡ h d)
  pub sound : (m : Mask) → Choice p g.un m → (z s : ℕ) (f : ℕ → Val) → Stripe p v m z s f → (x : Val) → Datum p s f x → Good g x

-- ---- D3, D8, D9, D10
abbrev pub Used : Par → Mask → ItemView → ℕ → Type 0
Used p n v z = (d : ℕ) × Tr p n d × (0 < length (v d z))

abbrev pub WholeZone : Par → Mask → ItemView → ℕ → Type 0
WholeZone p n v z = (d : ℕ) → d < p.N → n d ≡ false → 0 < length (v d z)

-- D8 (b)
pub record Moved (p : Par) (n : Mask) (v : ItemView) (w o : ℕ) : Type 0 where
  pub whole : WholeZone p n v w
  -- what of w counts for some choice counts for all
  pub clean : (m : Mask) → Choice p n m → (s : ℕ) (f : ℕ → Val) → Stripe p v m w s f → Stripe p v n w s f
  -- wherever o is left by step 1, it still has the data
  pub still : (m : Mask) → Choice p n m → L p v m o → (s : ℕ) (f : ℕ → Val) → Stripe p v n w s f → (x : Val) → Datum p s f x
      → (s' : ℕ) × (f' : ℕ → Val) × Stripe p v m o s' f' × Datum p s' f' x

pub record Swap (p : Par) (g : Ghost) (v : ItemView) : Type 0 where
  pub serials : (y z : ℕ) → Used p g.un v y → Used p g.un v z → g.hd.ser y ≡ g.hd.ser z → y ≡ z
  pub below : (z : ℕ) → Used p g.un v z → g.hd.cop z < g.hd.ser z
  pub one : (w o : ℕ) → Used p g.un v w → Used p g.un v o → g.hd.cop w ≡ g.hd.ser o → g.pr ≡ pair w o
  pub named : (w o : ℕ) → g.pr ≡ pair w o → (w ≢ o) × (g.hd.cop w ≡ g.hd.ser o)
  pub safe : (w o : ℕ) → g.pr ≡ pair w o → (WholeZone p g.un v o) ⊎ (Moved p g.un v w o)

-- z is of the pair
abbrev pub InPair : Pair → ℕ → Type 0
InPair b z = ((o : ℕ) × (b ≡ pair z o)) ⊎ ((w : ℕ) × (b ≡ pair w z))

-- D10, D13: the segments A, and those of the pair, have named zones: below Z, not offline, different on every drive; and there is room for one more, or a pair
pub record Placing (p : Par) (h : Heads) (b : Pair) (A : ℕ → Type 0) : Type 0 where
  pub put : (z : ℕ) → (A z) ⊎ (InPair b z) → (d : ℕ) → d < p.N → (h.zn z d < p.Z) × (p.fine d (h.zn z d) ≡ true)
  pub apart : (y z : ℕ) → (A y) ⊎ (InPair b y) → (A z) ⊎ (InPair b z) → (d : ℕ) → d < p.N → h.zn y d ≡ h.zn z d → y ≡ z
  pub room : (d : ℕ) → d < p.N
      → ((y : ℕ) × (y < p.Z) × (p.fine d y ≡ true) × ((z : ℕ) → (A z) ⊎ (InPair b z) → h.zn z d ≢ y)) ⊎ ((w : ℕ) × (o : ℕ) × (b ≡ pair w o))

-- fewer segments
pub placing_fewer : (p : Par) (h : Heads) (b : Pair) (A B : ℕ → Type 0) → ((z : ℕ) → B z → A z) → Placing p h b A → Placing p h b B
placing_fewer p h b A B f k = record {
  put = λ z i. k.put z (up z i);
  apart = λ y z i j. k.apart y z (up y i) (up z j);
  room = λ d l. ⊎_elim (λ (q : (y : ℕ) × (y < p.Z) × (p.fine d y ≡ true) × ((z : ℕ) → (A z) ⊎ (InPair b z) → h.zn z d ≢ y)). inl (q.0, q.1, q.2, λ z i. q.3 z (up z i)))
      (λ q. inr q) (k.room d l);
}
  where
    up : (z : ℕ) → (B z) ⊎ (InPair b z) → (A z) ⊎ (InPair b z)
    up z (inl i) = inl (f z i)
    up z (inr i) = inr i

-- some trusted zone is neither empty nor full
abbrev pub Ragged : Par → Mask → ItemView → ℕ → Type 0
Ragged p n v z = (d : ℕ) × Tr p n d × (0 < length (v d z)) × (length (v d z) < p.cap)

pub record Open (p : Par) (g : Ghost) (v : ItemView) : Type 0 where
  pub ragged : (y z : ℕ) → Ragged p g.un v y → Ragged p g.un v z → (y ≡ z) ⊎ (g.pr ≡ pair y z) ⊎ (g.pr ≡ pair z y)
  pub place : Placing p g.hd g.pr (Used p g.un v)

-- ---- D11, D12
pub record Content (p : Par) (g : Ghost) (v : ItemView) : Type 0 where
  -- for every choice but those that hold what the last finished restart named, and more
  pub fresh : (m : Mask) → Choice p g.un m → (Beyond p g.said m → ⊥) → (x : Val) → Counted p g.hd v m x → (x.stamp ≤ g.last x.addr) ⊎ (g.top < x.stamp)
  pub floor : (a : ℕ) → (g.base a ≡ 0) ⊎ ((x : Val) × Counted p g.hd v g.un x × (x.addr ≡ a) × (g.base a ≤ x.stamp))

pub record Facts (p : Par) (g : Ghost) (v : ItemView) : Type 0 where
  pub lost : Lost p g.un
  pub zones : (d z : ℕ) → Tr p g.un d → ZoneItems p g d z (v d z)
  pub parity : Parity p g v
  pub swap : Swap p g v
  pub «open» : Open p g v
  pub content : Content p g v

-- ---- decisions
pub dec_all : (n : ℕ) (P : ℕ → Type 0) → ((d : ℕ) → Dec (P d)) → Dec ((d : ℕ) → d < n → P d)
dec_all zero P dec = yes (λ d l. absurd (let q : ⊥ = omega arith in q))
dec_all (suc n) P dec = go (dec n) (dec_all n P dec)
  where
    go : Dec (P n) → Dec ((d : ℕ) → d < n → P d) → Dec ((d : ℕ) → d < suc n → P d)
    go (yes a) (yes b) = yes (λ d l. case d l (ℕ_discrete d n))
      where
        case : (d : ℕ) → d < suc n → Dec (d ≡ n) → P d
        case d l (yes e) = subst P (sym e) a
        case d l (no e) = b d (omega arith)
    go (yes a) (no b) = no (λ h. b (λ d l. h d (omega arith)))
    go (no a) (yes b) = no (λ h. a (h n (omega arith)))
    go (no a) (no b) = no (λ h. a (h n (omega arith)))

pub dec_l : (p : Par) (v : ItemView) (m : Mask) (z : ℕ) → Dec (L p v m z)
dec_l p v m z = dec_all p.N (λ (d : ℕ). m d ≡ false → 0 < length (v d z)) (λ d. go d (two (m d)) (dec_lt 0 (length (v d z))))
  where
    go : (d : ℕ) → (m d ≡ true) ⊎ (m d ≡ false) → Dec (0 < length (v d z)) → Dec (m d ≡ false → 0 < length (v d z))
    go d (inl e) (yes b) = yes (λ n. b)
    go d (inl e) (no b) = yes (λ n. tf e n)
    go d (inr e) (yes b) = yes (λ n. b)
    go d (inr e) (no b) = no (λ h. b (h e))

-- ---- (1) frames
-- v and u agree on segment z, but perhaps for the drives m
abbrev pub Same : Par → ItemView → ItemView → Mask → ℕ → Type 0
Same p v u m z = (d : ℕ) → d < p.N → m d ≡ false → v d z ≡ u d z

pub L_same : (p : Par) (v u : ItemView) (m : Mask) (z : ℕ) → Same p v u m z → L p v m z → L p u m z
L_same p v u m z e h d l n = subst (λ (x : List Item). 0 < length x) (e d l n) (h d l n)

pub Stripe_same : (p : Par) (v u : ItemView) (m : Mask) (z s : ℕ) (f : ℕ → Val) → Same p v u m z → Stripe p v m z s f → Stripe p u m z s f
Stripe_same p v u m z s f e h = record {
  on = λ d l n. subst (λ (x : List Item). InI (chunk s (f d)) x) (e d l n) (h.on d l n);
  word = h.word;
}

pub R_same : (p : Par) (g : Ghost) (v u : ItemView) (m : Mask) → ((z : ℕ) → Same p v u m z) → ((z : ℕ) → Same p u v m z) → (z : ℕ) → R p g.hd v m z → R p g.hd u m z
R_same p g v u m e e' z h = record { left = L_same p v u m z (e z) h.left; own = λ o l q. h.own o (L_same p u v m o (e' o) l) q }

pub Counted_same : (p : Par) (g : Ghost) (v u : ItemView) (m : Mask) → ((z : ℕ) → Same p v u m z) → ((z : ℕ) → Same p u v m z) → (x : Val) → Counted p g.hd v m x
    → Counted p g.hd u m x
Counted_same p g v u m e e' x c = record {
  z = c.z;
  s = c.s;
  f = c.f;
  rem = R_same p g v u m e e' c.z c.rem;
  st = Stripe_same p v u m c.z c.s c.f (e c.z) c.st;
  dt = c.dt;
}

-- fewer missing drives count less: what counts with n missing is left, and has its stripes, with more missing
pub L-more : (p : Par) (v : ItemView) (n m : Mask) (z : ℕ) → Choice p n m → L p v n z → L p v m z
L-more p v n m z c h d l q = h d l (trust p n m c d l q)

pub Stripe-more : (p : Par) (v : ItemView) (n m : Mask) (z s : ℕ) (f : ℕ → Val) → Choice p n m → Stripe p v n z s f → Stripe p v m z s f
Stripe-more p v n m z s f c h = record { on = λ d l q. h.on d l (trust p n m c d l q); word = h.word }

-- the same drives missing
pub R_mask : (p : Par) (h : Heads) (v : ItemView) (n m : Mask) (z : ℕ) → Choice p n m → Choice p m n → R p h v n z → R p h v m z
R_mask p h v n m z a b r = record { left = L-more p v n m z a r.left; own = λ o l q. r.own o (L-more p v m n o b l) q }

pub Counted_mask : (p : Par) (h : Heads) (v : ItemView) (n m : Mask) (x : Val) → Choice p n m → Choice p m n → Counted p h v n x → Counted p h v m x
Counted_mask p h v n m x a b c = record { z = c.z; s = c.s; f = c.f; rem = R_mask p h v n m c.z a b c.rem; st = Stripe-more p v n m c.z c.s c.f a c.st; dt = c.dt }

-- step 1 leaves only segments in use: some drive is present, and trusted
pub used : (p : Par) (g : Ghost) (v : ItemView) (m : Mask) (z : ℕ) → Choice p g.un m → L p v m z → Used p g.un v z
used p g v m z c h = let d : (d : ℕ) × (d < p.N) × (m d ≡ false) = some_present p m c.0 in (d.0, (d.1, trust p g.un m c d.0 d.1 d.2), h d.0 d.1 d.2)

pub whole_L : (p : Par) (g : Ghost) (v : ItemView) (m : Mask) (z : ℕ) → Choice p g.un m → WholeZone p g.un v z → L p v m z
whole_L p g v m z c h = L-more p v g.un m z c h
