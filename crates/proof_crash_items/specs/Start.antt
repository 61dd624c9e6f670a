-- Empty drives have the facts: the hypotheses of this crate can be met. Assumes nothing.
use Rattle.std.specs.Prelude.{◌≡◌, refl, Bool, ◌&&◌, ℕ, ◌<◌, take}
use Rattle.std.proofs.Common.{sym, ◌∙◌, arith}
use Rattle.std.proofs.Math.Path.{ap}
use mathlib.Core.List.{List, []}
use Rattle.std.proofs.Math.Bool.{true, false, not}
use borrow.Author.Tests.{eqb-true, eq-eqb}
use Rattle.std.proofs.Math.Dec.{eqb}
use Rattle.std.proofs.Math.ListN.{length}
use Rattle.spec.specs.declared.Params.{Params}
use Rattle.spec.specs.Drives.{Zone, stored, zone_at, pointer_at, Disk, pointer_of, few_good, view_of, is_good, good_zones}
use Rattle.spec.specs.History.{empty_disk}
use Rattle.spec.specs.Lists.{all, below}
use Rattle.spec.specs.Params.{image_len, pointers_len, drives_of}
use Rattle.spec.specs.Segments.{is_used}
use Rattle.law_basic.specs.Geometry.{Ranged}
use Rattle.law_basic.specs.Ranges.{and_left, and_right, Test, test}
use Rattle.law_drives.specs.Members.{all_in, in_keep, in_below}
use Rattle.law_basic.specs.Ranges.Test.{yes!, no! }
use Rattle.law_views.specs.Views.{Whole, pointer_view, seen}
use Rattle.proof_crash_machine.specs.History.{start}
use Rattle.proof_crash_machine.proofs.History.{inv_start}
use Rattle.proof_crash_machine.specs.View.{Item}
use Rattle.proof_crash_items.specs.Items.{items_from, items_of, items_in}
use Rattle.proof_crash_items.specs.Ranges.{par_of, fine_is}
use Rattle.proof_crash_items.specs.Seen.{shape_seen}
use Rattle.proof_crash_items.specs.Segs.{OnDrives}
use Rattle.proof_crash_items.specs.Stripes.{pointer_is}
use Rattle.proof_crash_items.specs.ZoneBytes.{bytes_empty}

module _ (p : Params) (r : Ranged p) (off : List ℕ) (dk : Disk) (e : empty_disk p off dk ≡ true) where
  abbrev longs : Bool
  longs = eqb (length dk.image) (image_len p) && eqb (length dk.pointers) (pointers_len p)

  abbrev zeros : Bool
  zeros = all (λ d. all (λ z. eqb (pointer_of p dk.pointers d z) 0) (good_zones p off d)) (drives_of p)

  both : (longs && zeros) ≡ true
  both = unfold empty_disk in e

  pub empty_whole : Whole p dk
  empty_whole =
      let l = and_left longs zeros both in
      record {
        image_long = eqb-true (length dk.image) (image_len p) (and_left (eqb (length dk.image) (image_len p)) (eqb (length dk.pointers) (pointers_len p)) l);
        pointers_long = eqb-true (length dk.pointers) (pointers_len p) (and_right (eqb (length dk.image) (image_len p)) (eqb (length dk.pointers) (pointers_len p)) l);
      }

  -- of good zones
  pub start_pointer : (d z : ℕ) → d < p.N → z < p.Z → is_good p off d z ≡ true → pointer_at (seen p off dk) d z ≡ 0
  unfolding good_zones drives_of
  start_pointer d z l b g =
      pointer_view p off dk d z l b empty_whole
      ∙ eqb-true (pointer_of p dk.pointers d z) 0
      (all_in (λ y. eqb (pointer_of p dk.pointers d y) 0) (good_zones p off d) (all_in (λ x. all (λ y. eqb (pointer_of p dk.pointers x y) 0) (good_zones p off x)) (drives_of p)
      (and_right longs zeros both) d (in_below p.N d l)) z (in_keep (is_good p off d) (below p.Z) z (in_below p.Z z b) g))

  -- no zone takes part
  pub start_unused : (d z : ℕ) → d < p.N → z < p.Z → is_used p (seen p off dk) d z ≡ false
  unfolding is_used view_of
  start_unused d z l b = go (test (is_good p off d z))
    where
      go : Test (is_good p off d z) → is_good p off d z && not (eqb (pointer_at (seen p off dk) d z) 0) ≡ false
      go (yes! q) = ap (λ (x : Bool). is_good p off d z && not x) (eq-eqb (pointer_at (seen p off dk) d z) 0 (start_pointer d z l b q)) ∙ ap (λ (x : Bool). x && false) q
      go (no! q) = ap (λ (x : Bool). x && not (eqb (pointer_at (seen p off dk) d z) 0)) q

  empty_items : (d z : ℕ) → d < p.N → z < p.Z → is_good p off d z ≡ true → items_in p (seen p off dk) d z ≡ []
  empty_items d z l b q = unfold items_in in none_stored (zone_at (seen p off dk) d z) (pointer_is (seen p off dk) d z ∙ start_pointer d z l b q)
    where
      none_stored : (q : Zone) → q.pointer ≡ 0 → items_of p q ≡ []
      none_stored q i = unfold items_of stored in (ap (λ (n : ℕ). items_from p 0 (take n q.blocks)) i ∙ (unfold items_from in refl))

  -- the machine's start is these drives
  pub start_on : few_good p off ≡ false → OnDrives p r off (start (par_of p r off)).g (seen p off dk) (λ d z. [])
  unfolding start view_of
  start_on few = record {
    shape = shape_seen p off dk empty_whole;
    offline = unfold view_of in refl;
    enough = few;
    bytes = λ d l n z b q. bytes_empty p d (zone_at (seen p off dk) d z) (pointer_is (seen p off dk) d z ∙ start_pointer d z l b q);
    placed = record {
      at = λ d z t i. absurd (let j : ⊥ = omega (arith, i) in j);
      from = λ d y t l f b. absurd (nothing d y t.0 l (sym (fine_is p off few d y t.0) ∙ f) b);
      is = λ z (d, t, i). absurd (let j : ⊥ = omega (arith, i) in j);
    };
    facts = (inv_start (par_of p r off)).facts;
  }
    where
      nothing : (d y : ℕ) → d < p.N → y < p.Z → is_good p off d y ≡ true → 0 < length (items_in p (seen p off dk) d y) → ⊥
      nothing d y l b q n = let c : length (items_in p (seen p off dk) d y) ≡ length {A = Item} [] = ap length (empty_items d y l b q) in let j : ⊥ = omega (arith, c, n) in j
