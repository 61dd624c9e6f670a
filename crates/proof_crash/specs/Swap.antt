-- The drives that a restart which names one missing may find: the others are as they were. Assumes nothing.
use Rattle.std.specs.Prelude.{◌≡◌, Bool, true, cond, ◌&&◌, ◌≢◌, ℕ, suc, ◌+◌, ◌*◌, ◌≤◌, ◌<◌, ltb, length, set}
use Rattle.std.proofs.Math.Path.{refl, sym, ap, ap₂, subst}
use Rattle.std.proofs.Common.{◌∙◌, add-zero, mul_comm, suc-mul, mul-le-mul_right, arith}
use mathlib.Core.List.{List, []}
use Rattle.std.proofs.Math.Nat.{mul_assoc}
use borrow.Author.Tests.{ltb-true, eqb-true}
use Rattle.std.proofs.Math.Dec.{eqb}
use Rattle.std.proofs.Math.ListN.{get_or}
use Rattle.std.proofs.Math.Seq.{get_or-set_other}
use Rattle.spec.specs.declared.Params.{Params}
use Rattle.spec.specs.Bytes.{splice}
use Rattle.spec.specs.Drives.{Zone, no_zone, zone_at, drive_of, view_of, Disk, mk_disk, pointer_byte, zones_of}
use Rattle.spec.specs.Engine.{lent_ok_of}
use Rattle.spec.specs.History.{swapped}
use Rattle.spec.specs.Lists.{pieces}
use Rattle.spec.specs.Memory.{Memory}
use Rattle.spec.specs.Params.{drive_len, image_len, pointers_len, offline_len, addresses_len, compact_len, inflight_len}
use Rattle.law_basic.specs.Ranges.{Test, test, and_left, and_right}
use Rattle.law_basic.specs.Ranges.Test.{yes!, no! }
use Rattle.law_basic.specs.Splice.{length-splice}
use Rattle.law_views.specs.Views.{Whole, seen, zones_splice}
use Rattle.law_drives.specs.Tests.{cond_true, cond_false, not_so}

module _ (p : Params) (off : List ℕ) (k : Disk) (w : Whole p k) (d : ℕ) (im ps : List ℕ) where
  abbrev fits? : Bool
  fits? = ltb d p.N && eqb (length im) (drive_len p) && eqb (length ps) (4 * p.Z)

  abbrev other : Disk
  other = mk_disk (splice k.image (d * drive_len p) im) (splice k.pointers (pointer_byte p d 0) ps)

  pub swapped_none : p.N ≤ d → swapped p k d im ps ≡ k
  unfolding swapped
  swapped_none l = cond_false fits? other k (not_so fits? (λ q.
      let b : d < p.N = ltb-true d p.N (and_left (ltb d p.N) (eqb (length im) (drive_len p)) (and_left (ltb d p.N && eqb (length im) (drive_len p)) (eqb (length ps) (4 * p.Z)) q)) in
      let z : ⊥ = omega (arith, b, l) in z))

  module _ (q : fits? ≡ true) where
    dl : d < p.N
    dl = ltb-true d p.N (and_left (ltb d p.N) (eqb (length im) (drive_len p)) (and_left (ltb d p.N && eqb (length im) (drive_len p)) (eqb (length ps) (4 * p.Z)) q))

    im_long : length im ≡ drive_len p
    im_long = eqb-true (length im) (drive_len p) (and_right (ltb d p.N) (eqb (length im) (drive_len p)) (and_left (ltb d p.N && eqb (length im) (drive_len p)) (eqb (length ps) (4 * p.Z)) q))

    ps_long : length ps ≡ 4 * p.Z
    ps_long = eqb-true (length ps) (4 * p.Z) (and_right (ltb d p.N && eqb (length im) (drive_len p)) (eqb (length ps) (4 * p.Z)) q)

    long_im : length k.image ≡ p.N * drive_len p
    long_im = w.image_long ∙ (unfold image_len in refl)

    pointers_length : length k.pointers ≡ p.N * (4 * p.Z)
    pointers_length = w.pointers_long ∙ (unfold pointers_len in sym (sym (mul_assoc p.N 4 p.Z) ∙ ap (λ (x : ℕ). x * p.Z) (mul_comm p.N 4) ∙ mul_assoc 4 p.N p.Z))

    at_ps : pointer_byte p d 0 ≡ d * (4 * p.Z)
    at_ps = unfold pointer_byte in (ap (λ (x : ℕ). 4 * x) (add-zero (d * p.Z)) ∙ sym (sym (mul_assoc d 4 p.Z) ∙ ap (λ (x : ℕ). x * p.Z) (mul_comm d 4) ∙ mul_assoc 4 d p.Z))

    drive_room : (x : ℕ) → d * x + x ≤ p.N * x
    drive_room x = let e : suc d * x ≡ d * x + x = suc-mul d x in let b : suc d * x ≤ p.N * x = mul-le-mul_right x (omega (arith, dl)) in omega (arith, e, b)

    image_same : length (splice k.image (d * drive_len p) im) ≡ length k.image
    image_same = length-splice k.image (d * drive_len p) im (omega (arith, drive_room (drive_len p), im_long, long_im))

    pointers_same : length (splice k.pointers (pointer_byte p d 0) ps) ≡ length k.pointers
    pointers_same = length-splice k.pointers (pointer_byte p d 0) ps (omega (arith, drive_room (4 * p.Z), ps_long, pointers_length, at_ps))

    abbrev drive : List Zone
    drive = drive_of p (splice (get_or (pieces (drive_len p) p.N k.image) d []) 0 im) (splice (get_or (pieces (4 * p.Z) p.N k.pointers) d []) 0 ps)

    zones_are : zones_of p (splice k.image (d * drive_len p) im) (splice k.pointers (pointer_byte p d 0) ps) ≡ set (zones_of p k.image k.pointers) d drive
    zones_are = ap₂ (λ (x y : ℕ). zones_of p (splice k.image x im) (splice k.pointers y ps)) (sym (add-zero (d * drive_len p))) (at_ps ∙ sym (add-zero (d * (4 * p.Z))))
        ∙ zones_splice p k.image k.pointers d 0 0 im ps dl (omega (arith, im_long)) (omega (arith, ps_long)) (omega (arith, long_im)) (omega (arith, pointers_length))

    swap_same : (e y : ℕ) → e ≢ d → zone_at (seen p off other) e y ≡ zone_at (seen p off k) e y
    swap_same e y n = unfold zone_at view_of in ap (λ (x : List Zone). get_or x y no_zone) (ap (λ (v : List (List Zone)). get_or v e []) zones_are
        ∙ get_or-set_other (zones_of p k.image k.pointers) d e drive [] n)

  pub record Swapped (u : Disk) : Type 0 where
    pub image : length u.image ≡ length k.image
    pub pointers : length u.pointers ≡ length k.pointers
    pub others : (e y : ℕ) → e ≢ d → zone_at (seen p off u) e y ≡ zone_at (seen p off k) e y

  pub swapped_ok : Swapped (swapped p k d im ps)
  unfolding swapped
  swapped_ok = go (test fits?)
    where
      go : Test fits? → Swapped (cond fits? other k)
      go (yes! q) = subst Swapped (sym (cond_true fits? other k q)) (record { image = image_same q; pointers = pointers_same q; others = swap_same q })
      go (no! q) = subst Swapped (sym (cond_false fits? other k q)) (record { image = refl; pointers = refl; others = λ e y n. refl })

  pub swapped_whole : Whole p (swapped p k d im ps)
  swapped_whole = record { image_long = swapped_ok.image ∙ w.image_long; pointers_long = swapped_ok.pointers ∙ w.pointers_long }

  pub swapped_lent : (m : Memory) → lent_ok_of p off (swapped p k d im ps) m ≡ lent_ok_of p off k m
  unfolding lent_ok_of
  swapped_lent m =
      ap₂ (λ (x y : ℕ). eqb (length off) (offline_len p)
      && eqb x (image_len p)
      && eqb y (pointers_len p)
      && eqb (length m.addresses) (addresses_len p)
      && eqb (length m.compact) (compact_len p)
      && eqb (length m.inflight) (inflight_len p))
      swapped_ok.image swapped_ok.pointers
