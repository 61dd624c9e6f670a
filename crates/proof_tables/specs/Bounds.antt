-- Numbers read from sound zones are small; the open segment in a view with the same zones. Assumes nothing.
use Rattle.std.specs.Prelude.{◌≡◌, Bool, false, ℕ, ◌+◌, ◌*◌, ◌≤◌, ◌<◌}
use Rattle.std.proofs.Common.{sym, ◌∙◌, subst, arith}
use Rattle.std.proofs.Math.Path.{ap}
use Rattle.spec.specs.declared.Params.{Params}
use Rattle.spec.specs.declared.State.{State}
use Rattle.spec.specs.Drives.{Zone, View, pointer_at, record_in, zone_on}
use Rattle.spec.specs.Layout.{group, Rec}
use Rattle.spec.specs.Lists.{tally}
use Rattle.spec.specs.Memory.{slots, stripe_in, offset_in}
use Rattle.spec.specs.Params.{capacity}
use Rattle.law_basic.specs.Geometry.{Ranged}
use Rattle.law_drives.specs.Range.{capacity_over}
use Rattle.law_drives.specs.Settled.{SameZones}
use Rattle.law_drives.specs.States.{StateOk}
use Rattle.law_drives.specs.Tidy.{spare_at, There}
use Rattle.proof_tables.specs.Run.{flies, awaits, SlotFlies, OpenZone}
use Rattle.spec.specs.declared.Seg.{Seg}

-- ---- the open segment, where its zones are the same

module _ (p : Params) (v u : View) (st : State) (z : Seg) (sm : SameZones p v u z) where
  pointer_carried : (d : ℕ) → d < p.N → pointer_at v d (zone_on z d) ≡ pointer_at u d (zone_on z d)
  unfolding pointer_at
  pointer_carried d h = ap (λ (x : Zone). x.pointer) (sm d h)

  at_spare : (d o : ℕ) → d < p.N → spare_at p v d (zone_on z d) o ≡ spare_at p u d (zone_on z d) o
  at_spare d o h = ap (λ (x : Zone). record_in p false x o) (sm d h)

  flight_view : (i : ℕ) → SlotFlies p v st z i → SlotFlies p u st z i
  flight_view i f = record {
    begun = f.begun;
    group-low = λ d h. subst (λ (x : ℕ). group p (stripe_in st i) * p.G < x) (pointer_carried d h) (f.group-low d h);
    group_high = f.group_high;
    not_there = λ d o h q x y. f.not_there d o h q (subst (λ (n : ℕ). 1 + o < n) (sym (pointer_carried d h)) x) (ap (λ (e : Rec). e.stripe) (at_spare d o h) ∙ y);
    lands = λ d h q.
        let l = f.lands d h q in
        record {
          lies = subst (λ (x : ℕ). 1 + offset_in st i d < x) (pointer_carried d h) l.lies;
          of_stripe = ap (λ (e : Rec). e.stripe) (sym (at_spare d (offset_in st i d) h)) ∙ l.of_stripe;
          not_before = λ o x y. l.not_before o x (ap (λ (e : Rec). e.stripe) (at_spare d o h) ∙ y);
          is_entry = λ y. ((l.is_entry y).0, sym (at_spare d (offset_in st i d) h) ∙ (l.is_entry y).1);
        };
    entries_low = f.entries_low;
  }

  pub open_view : (busy : ℕ → Bool) → There p u z → OpenZone p v st busy z → OpenZone p u st busy z
  open_view busy there o = record {
    opened_zone = there;
    has_header = λ d h. subst (λ (x : ℕ). 1 ≤ x) (pointer_carried d h) (o.has_header d h);
    count = λ d h. ap (λ (x : ℕ). x + tally (awaits st busy d) slots) (sym (pointer_carried d h)) ∙ o.count d h;
    below_next = λ d e h q. subst (λ (x : Rec). x.stripe < st.next) (at_spare d e h) (o.below_next d e h (subst (λ (x : ℕ). 1 + e < x) (sym (pointer_carried d h)) q));
    flight = λ i h q. flight_view i (o.flight i h q);
    once = o.once;
    goes_on = o.goes_on;
  }

-- the pointers of the open segment are at data blocks
pub open_short : (p : Params) (r : Ranged p) (v : View) (st : State) (z : Seg) → StateOk p st → OpenZone p v st (flies st) z → (d : ℕ) → d < p.N → pointer_at v d (zone_on z d) < capacity p
open_short p r v st z so o d h = let c = o.count d h in let n = so.next_low in let l = capacity_over p r in omega arith
