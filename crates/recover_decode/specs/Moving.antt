-- Stores on a missing drive, in parts: what is left to do fits, and the present drives stay as they came (01, Rebuild; Store count). Assumes nothing.
use Rattle.std.specs.Prelude.{◌≡◌, refl, List, [], ◌++◌, Ok, true, false, ◌&&◌, ℕ, ◌<◌, eqb}
use Rattle.std.proofs.Common.{sym, ◌∙◌, subst, ne_eqb}
use Rattle.spec.specs.declared.Params.{Params}
use Rattle.spec.specs.Drives.{Store, Disk}
use Rattle.spec.specs.Lists.{is_in}
use Rattle.spec.specs.Params.{named}
use Rattle.law_basic.specs.Geometry.{Ranged}
use Rattle.law_views.specs.Alike.{seen_offline}
use Rattle.law_views.specs.Views.{Whole, AllFit, seen}
use Rattle.law_drives.specs.Accept.{named_here}
use Rattle.law_drives.specs.Frame.{Agree}
use Rattle.law_drives.specs.Masks.{named_in}
use Rattle.law_drives.specs.Segs.{Here}
use Rattle.law_drives.specs.Tests.{clash, and_false_left}
use Rattle.law_drives.specs.Zones.{hits}
use Rattle.recover_drop.specs.Going.{owes_cut, owes_done, Going, going_start, going_turn, going_kept}
use Rattle.disk_zones.specs.Made.{too_few, Storing}

-- the drive is one of the missing ones, and some drive is present
pub record Lacks (p : Params) (gone d : ℕ) : Type 0 where
  pub drive_low : d < p.N
  pub lost : is_in gone d ≡ true
  pub here : Here p gone

pub lacks_named : (p : Params) → Ranged p → (d : ℕ) → d < p.N → Lacks p (named d) d
lacks_named p r d hd = record { drive_low = hd; lost = named_in p r d hd; here = named_here p r d hd }

-- the stores leave every other drive
abbrev pub OnDrive : ℕ → List Store → Type 0
OnDrive d ts = (e y : ℕ) → eqb d e ≡ false → hits e y ts ≡ []

-- ss are to be made from k₀ under n; ts of them are left, and the present drives are as in k₀
pub record Moving (p : Params) (off : List ℕ) (gone n : ℕ) (ss : List Store) (k₀ : Disk) (ts : List Store) (left : ℕ) (k : Disk) : Type 0 where
  pub going : Going p off n ss k₀ ts left k
  pub agree : Agree p gone (seen p off k₀) (seen p off k)

-- the list stays
pub moving_list : (p : Params) (off : List ℕ) (k₀ k : Disk) → (seen p off k₀).offline ≡ (seen p off k).offline
moving_list p off k₀ k = seen_offline p off k₀ ∙ sym (seen_offline p off k)

pub moving_start : (p : Params) (off : List ℕ) (gone n : ℕ) (ss : List Store) (k : Disk) → Whole p k → AllFit p (seen p off k) ss → Moving p off gone n ss k ss n k
moving_start p off gone n ss k w f = record { going = going_start p off n ss k w f; agree = λ d z hd hz q. refl }

pub moving_as : (p : Params) (off : List ℕ) (gone n : ℕ) (ss : List Store) (k₀ : Disk) (ts us : List Store) (left : ℕ) (k : Disk) → ts ≡ us → Moving p off gone n ss k₀ ts left k
    → Moving p off gone n ss k₀ us left k
moving_as p off gone n ss k₀ ts us left k e g = subst (λ (l : List Store). Moving p off gone n ss k₀ l left k) e g

module _ (p : Params) (off : List ℕ) (gone n : ℕ) (ss : List Store) (k₀ : Disk) (ts us : List Store) (left : ℕ) (k : Disk)
    (g : Moving p off gone n ss k₀ (ts ++ us) left k) where
  -- the number is too small
  pub moving_cut : (k' : Disk) → Storing p left ts k too_few k' → Storing p n ss k₀ too_few k'
  moving_cut k' s = owes_cut p n ss k₀ ts us left k k' g.going.owes s

  -- a part is made
  pub moving_turn : (l : ℕ) (k' : Disk) → Storing p left ts k (Ok l) k' → Ranged p → (d : ℕ) → is_in gone d ≡ true → OnDrive d ts → Moving p off gone n ss k₀ us l k'
  moving_turn l k' s r d lost on = record {
    going = going_turn p r off n ss k₀ ts us left k l k' g.going s;
    agree = λ e y he hy q.
        g.agree e y he hy q
        ∙ sym (going_kept p r off n ss k₀ ts us left k l k' g.going s e y he hy (on e y (ne_eqb d e (λ x. clash (subst (λ (z : ℕ). is_in gone z ≡ true) x lost) q))));
  }

-- nothing is left
pub moving_done : (p : Params) (off : List ℕ) (gone n : ℕ) (ss : List Store) (k₀ : Disk) (left : ℕ) (k : Disk) → Moving p off gone n ss k₀ [] left k
    → Storing p n ss k₀ (Ok left) k
moving_done p off gone n ss k₀ left k g = owes_done p n ss k₀ left k g.going.owes

pub drive_apart : (d e x y : ℕ) → eqb d e ≡ false → (eqb d e && eqb x y) ≡ false
drive_apart d e x y q = and_false_left (eqb d e) (eqb x y) q
