-- Stores in parts, one after the other, under a number: what is left to do, and that it fits (01, Store count). Assumes nothing.
use Rattle.std.specs.Prelude.{ℕ, ◌+◌, ◌-◌, ◌≤◌, ◌<◌, Result, Ok, List, [], ◌++◌, ◌≡◌}
use Rattle.spec.specs.Drives.{View, zone_at, Store, store_view_of, Disk, store_disk, store_all}
use Rattle.spec.specs.Lists.{up_from, below, flat}
use Rattle.spec.specs.declared.Params.{Params}
use Rattle.law_basic.specs.Geometry.{Ranged}
use Rattle.law_basic.specs.Ranges.{up_from_step, up_from_end, below-start, flat_none, flat-cons}
use Rattle.law_restart.specs.Frames.{fits_split, seen-after, whole_after, zone_kept}
use Rattle.law_drives.specs.Zones.{hits}
use Rattle.law_views.specs.Views.{Whole, AllFit, seen}
use Rattle.disk_zones.specs.Made.{too_few, Storing, storing_all, storing_stop, storing_join, storing_none}
use Rattle.disk_zones.specs.declared.TooFew.{TooFew}
use Rattle.std.proofs.Common.{sym, ap, ◌∙◌, subst}

-- the stores ts, made from k with left to go, come to what ss come to, made from k₀ under n
abbrev pub Owes : Params → ℕ → List Store → Disk → List Store → ℕ → Disk → Type 0
Owes p n ss k₀ ts left k = (m : Result ℕ TooFew) (k' : Disk) → Storing p left ts k m k' → Storing p n ss k₀ m k'

module _ (p : Params) (n : ℕ) (ss : List Store) (k₀ : Disk) where
  -- a part is made
  pub owes_turn : (ts us : List Store) (left : ℕ) (k : Disk) (y : ℕ) (k' : Disk) → Owes p n ss k₀ (ts ++ us) left k → Storing p left ts k (Ok y) k' → Owes p n ss k₀ us y k'
  owes_turn ts us left k y k' o s m2 k2 h = o m2 k2 (storing_join p left ts k y k' s us m2 k2 h)

  -- the number is too small for it
  pub owes_cut : (ts us : List Store) (left : ℕ) (k k' : Disk) → Owes p n ss k₀ (ts ++ us) left k → Storing p left ts k too_few k' → Storing p n ss k₀ too_few k'
  owes_cut ts us left k k' o s = o too_few k' (storing_stop p left ts k k' s us)

  -- nothing is left to do
  pub owes_done : (left : ℕ) (k : Disk) → Owes p n ss k₀ [] left k → Storing p n ss k₀ (Ok left) k
  owes_done left k o = o (Ok left) k (storing_none p left k)

-- and what is left to do fits
pub record Going (p : Params) (off : List ℕ) (n : ℕ) (ss : List Store) (k₀ : Disk) (ts : List Store) (left : ℕ) (k : Disk) : Type 0 where
  pub owes : Owes p n ss k₀ ts left k
  pub fits : AllFit p (seen p off k) ts
  pub whole : Whole p k

pub going_start : (p : Params) (off : List ℕ) (n : ℕ) (ss : List Store) (k : Disk) → Whole p k → AllFit p (seen p off k) ss → Going p off n ss k ss n k
going_start p off n ss k w f = record { owes = λ m k' h. h; fits = f; whole = w }

-- the same list, written otherwise
pub going_as : (p : Params) (off : List ℕ) (n : ℕ) (ss : List Store) (k₀ : Disk) (ts us : List Store) (left : ℕ) (k : Disk) → ts ≡ us
    → Going p off n ss k₀ ts left k → Going p off n ss k₀ us left k
going_as p off n ss k₀ ts us left k e g = subst (λ (l : List Store). Going p off n ss k₀ l left k) e g

module _ (p : Params) (r : Ranged p) (off : List ℕ) (n : ℕ) (ss : List Store) (k₀ : Disk) (ts us : List Store) (left : ℕ) (k : Disk) (y : ℕ) (k' : Disk)
    (g : Going p off n ss k₀ (ts ++ us) left k) (s : Storing p left ts k (Ok y) k') where
  made_all : k' ≡ store_all (store_disk p) ts k
  made_all = storing_all p left ts k y k' s

  fit_split : AllFit p (seen p off k) ts × AllFit p (store_all store_view_of ts (seen p off k)) us
  fit_split = fits_split p (seen p off k) ts us g.fits

  pub going_turn : Going p off n ss k₀ us y k'
  going_turn = record {
    owes = owes_turn p n ss k₀ ts us left k y k' g.owes s;
    fits = subst (λ (v : View). AllFit p v us) (sym (seen-after p r off k k' ts g.whole fit_split.0 made_all)) fit_split.1;
    whole = whole_after p r off k k' ts g.whole fit_split.0 made_all;
  }

  -- a zone that the part does not hit
  pub going_kept : (d z : ℕ) → d < p.N → z < p.Z → hits d z ts ≡ [] → zone_at (seen p off k') d z ≡ zone_at (seen p off k) d z
  going_kept d z hd hz q = zone_kept p r off k k' ts g.whole fit_split.0 made_all d z hd hz q

pub going_first : (p : Params) (off : List ℕ) (n : ℕ) (ss : List Store) (k₀ : Disk) (ts us : List Store) (left : ℕ) (k : Disk) → Going p off n ss k₀ (ts ++ us) left k
    → AllFit p (seen p off k) ts
going_first p off n ss k₀ ts us left k g = (fits_split p (seen p off k) ts us g.fits).0

-- ---- lists of stores, from number i on

pub flat_step : (f : ℕ → List Store) (i n : ℕ) → i < n → flat f (up_from i (n - i)) ≡ f i ++ flat f (up_from (i + 1) (n - (i + 1)))
flat_step f i n h = ap (flat f) (up_from_step i n h) ∙ flat-cons f i (up_from (i + 1) (n - (i + 1)))

pub flat_end : (f : ℕ → List Store) (i n : ℕ) → n ≤ i → flat f (up_from i (n - i)) ≡ []
flat_end f i n h = ap (flat f) (up_from_end i n h) ∙ flat_none f

pub flat_start : (f : ℕ → List Store) (n : ℕ) → flat f (below n) ≡ flat f (up_from 0 (n - 0))
flat_start f n = ap (flat f) (below-start n)
