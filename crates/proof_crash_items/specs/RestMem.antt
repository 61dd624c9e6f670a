-- The memory that a restart leaves: its tables, and a state with nothing in flight whose numbers are in range. Assumes nothing.
use Rattle.std.specs.Prelude.{◌≡◌, refl, Bool, cond, ◌⊎◌, ℕ, ◌^◌, ◌≤◌, ◌<◌, leb, ltb, eqb, length}
use Rattle.std.proofs.Common.{sym, ap, ◌∙◌, subst, inl, inr, ⊎_elim, eq-eqb, leb-true, ltb-true, eqb-true, pow_pos}
use Rattle.std.proofs.Math.Path.{ap₂}
use mathlib.Core.List.{List, [], ◌∷◌, map}
use Rattle.std.proofs.Math.Bool.{true, false, not, ◌&&◌}
use Rattle.std.proofs.Math.Decide.{dec_lt}
use native.Mathlib.Omega.{arith}
use Rattle.std.specs.Int.Count.{ones, ones_in}
use Rattle.std.proofs.Math.Pow.{pow-lt}
use Rattle.spec.specs.declared.Params.{Params}
use Rattle.spec.specs.Drives.{View, Disk}
use Rattle.spec.specs.Engine.{lent_ok_of}
use Rattle.spec.specs.Lists.{greatest, below, keep, powers, only, is_in}
use Rattle.spec.specs.Memory.{idle_state, filled_in_of}
use Rattle.spec.specs.Params.{image_len, pointers_len, addresses_len, compact_len, inflight_len, no_drive, named, offline_len}
use Rattle.spec.specs.Restart.{open_of_of, next_of, restart_memory, names_drive}
use Rattle.spec.specs.Segments.{Segment, segments, counts, counted, candidates, address_table, compact_table, greatest_stamp, greatest_serial, unsealed}
use Rattle.law_basic.specs.Geometry.{Ranged}
use Rattle.law_basic.specs.Mask.{only_pow}
use Rattle.law_basic.specs.Ranges.{length-below, length-keep}
use Rattle.law_views.specs.Views.{Whole}
use Rattle.law_drives.specs.States.{idle_ok}
use Rattle.law_drives.specs.Tables.{zero-at, length_addresses}
use Rattle.proof_crash_machine.specs.Exec.{or_either, all_b, all_true}
use Rattle.proof_crash_machine.specs.Facts.{Ghost, Choice}
use Rattle.proof_crash_items.specs.Member.{Has, keep_has, greatest_most, has_map}
use Rattle.proof_crash_items.specs.Named.{named_none}
use Rattle.proof_crash_items.specs.Ranges.{par_of}
use Rattle.proof_crash_items.specs.Reading.{Tabled}
use Rattle.proof_crash_items.specs.Segs.{OnDrives}
use Rattle.proof_crash_items.specs.Table.{compact_length}
use Rattle.proof_crash_machine.specs.View.{ItemView}

-- ---- an idle state

pub idle-filled : (live gone stamp serial opened next i : ℕ) → filled_in_of (idle_state live gone stamp serial opened next) i ≡ 0
unfolding filled_in_of idle_state
idle-filled live gone stamp serial opened next i = zero-at 8 i

two_pow : (k : ℕ) → 0 < 2 ^ k
two_pow k = pow_pos k

-- ---- the drive that a restart names

one_each : all_b 8 (λ (m : ℕ). leb (ones (named m)) 1) ≡ true
unfolding all_b named only powers ones ones_in
one_each = refl

ones_zero : ones 0 ≡ 0
unfolding ones ones_in
ones_zero = refl

pub names_cases : (p : Params) (m : ℕ) → names_drive p m ≡ true → (m < p.N) ⊎ (m ≡ no_drive)
unfolding names_drive
names_cases p m e = ⊎_elim (λ (q : ltb m p.N ≡ true). inl (ltb-true m p.N q)) (λ (q : eqb m no_drive ≡ true). inr (eqb-true m no_drive q)) (or_either (ltb m p.N) (eqb m no_drive) e)

pub ones_named : (m : ℕ) → ones (named m) ≤ 1
ones_named m = go (dec_lt m 8)
  where
    go : Dec (m < 8) → ones (named m) ≤ 1
    go (yes l) = leb-true (ones (named m)) 1 (all_true 8 (λ (m : ℕ). leb (ones (named m)) 1) one_each m l)
    go (no l) = let e : ones (named m) ≡ 0 = ap ones (named_none m (omega arith)) ∙ ones_zero in omega arith

named_pow : (m : ℕ) → m < 8 → named m ≡ 2 ^ m
unfolding named
named_pow m l = only_pow m l

pub named_mask_low : (p : Params) → Ranged p → (m : ℕ) → names_drive p m ≡ true → named m < 2 ^ p.N
named_mask_low p r m e = go (names_cases p m e)
  where
    go : (m < p.N) ⊎ (m ≡ no_drive) → named m < 2 ^ p.N
    go (inl l) = subst (λ (x : ℕ). x < 2 ^ p.N) (sym (named_pow m (omega (arith, l, r.drives_high)))) (pow-lt l)
    go (inr q) = subst (λ (x : ℕ). x < 2 ^ p.N) (sym (named_none m (unfold no_drive in omega (arith, q)))) (two_pow p.N)

-- ---- the memory of a restart

module _ (p : Params) (r : Ranged p) (off : List ℕ) (g : Ghost) (v : View) (u : ItemView) (k : OnDrives p r off g v u) (m : ℕ) (c : Choice (par_of p r off) g.un (is_in m))
    (mask_lt : m < 2 ^ p.N) (one_bit : ones m ≤ 1)
    (fl : List ℕ) where
  abbrev us : List Segment
  us = cond (eqb m 0) (unsealed (segments p v m)) []

  from_us : (q : Segment) → Has q us → Has q (segments p v m)
  unfolding unsealed
  from_us q i = go (eqb m 0) i
    where
      go : (b : Bool) → Has q (cond b (keep (λ (g : Segment). not g.full) (segments p v m)) []) → Has q (segments p v m)
      go true i = (keep_has (λ (g : Segment). not g.full) q (segments p v m) i).0
      go false i = absurd i

  open_low : open_of_of us ≤ greatest_serial (segments p v m)
  unfolding greatest_serial
  open_low = go us (λ q i. from_us q i)
    where
      go : (l : List Segment) → ((q : Segment) → Has q l → Has q (segments p v m)) → open_of_of l ≤ greatest (map (λ (g : Segment). g.serial) (segments p v m))
      go [] h = unfold open_of_of in omega arith
      go (q ∷ l) h = unfold open_of_of in greatest_most q.serial (map (λ (g : Segment). g.serial) (segments p v m)) (has_map (λ (g : Segment). g.serial) (segments p v m) q (h q (inl refl)))

  next_low : next_of p us ≤ p.S
  next_low = go us
    where
      go : (l : List Segment) → next_of p l ≤ p.S
      go [] = unfold next_of in omega arith
      go (q ∷ l) = unfold next_of counted in omega (arith, length-keep (counts p 0 q) (below p.S), length-below p.S)

  pub restart_tabled : Tabled p v m (restart_memory p v m fl)
  unfolding restart_memory
  restart_tabled = record {
    addresses = refl;
    compact = refl;
    missing = unfold idle_state in refl;
    ok =
        idle_ok p r m (greatest_stamp (candidates p m (segments p v m))) (greatest_serial (segments p v m)) (open_of_of us)
        (next_of p us) mask_lt one_bit open_low next_low;
  }

  pub restart_lent : (dk : Disk) → Whole p dk → length off ≡ offline_len p → length fl ≡ inflight_len p → lent_ok_of p off dk (restart_memory p v m fl) ≡ true
  unfolding lent_ok_of restart_memory
  restart_lent dk w o l =
      ap₂ ◌&&◌ (ap₂ ◌&&◌ (ap₂ ◌&&◌ (ap₂ ◌&&◌ (ap₂ ◌&&◌ (eq-eqb (length off) (offline_len p) o) (eq-eqb (length dk.image) (image_len p) w.image_long))
      (eq-eqb (length dk.pointers) (pointers_len p) w.pointers_long))
      (eq-eqb (length (address_table p (candidates p m (segments p v m)))) (addresses_len p) (length_addresses p (candidates p m (segments p v m)))))
      (eq-eqb (length (compact_table p (segments p v m))) (compact_len p) (compact_length p r off g v u k m c)))
      (eq-eqb (length fl) (inflight_len p) l)
