-- What the functions leave, put together as the definitions have it (01, Write). Assumes nothing.
use Rattle.std.specs.Prelude.{Result, Ok, Err, IfOk, ℕ, suc, ◌+◌, min, ◌≤◌, ◌<◌, leb, take, Bool, true, false, ◌≡◌, refl}
use Rattle.spec.specs.Drives.{View, view_of, Store, Disk, pointer_of, store_disk, store_all, zone_on, empty_count, new_seg, header_stores}
use Rattle.spec.specs.Counts.{a_serial}
use Rattle.spec.specs.Memory.{filled_in_of, is_free, is_full, is_filling, has_filling, set_open}
use Rattle.spec.specs.Params.{in_range, capacity, image_len, pointers_len}
use Rattle.spec.specs.Write.{must_open, opens, scarce, opened_by}
use Rattle.spec.specs.declared.Params.{Params}
use Rattle.spec.specs.declared.State.{State}
use Rattle.call_filling.specs.Entries.{PlacedRow, SentRow}
use Rattle.call_filling.specs.declared.Opened.{Opened}
use Rattle.call_filling.specs.declared.Put.{Put}
use Rattle.call_filling.specs.declared.Taken.{Taken}
use Rattle.law_basic.specs.Geometry.{ranged, capacity-low}
use Rattle.law_basic.specs.Stores.{stores_nil}
use Rattle.mem_rows.specs.Rows.{front_of, behind}
use Rattle.law_views.specs.Views.{seen}
use Rattle.disk_zones.specs.Empty.{new_free}
use Rattle.disk_zones.specs.Made.{too_few, Storing, storing_done, storing_cut}
use Rattle.disk_zones.specs.declared.TooFew.{TooFew}
use Rattle.std.specs.Result.{is_err}
use Rattle.std.proofs.lemmas.Result.{IfOk-weaker}
use borrow.Author.Tests.{lt-ltb}
use Rattle.std.proofs.Common.{le-ltb, le-leb, ap₂, ◌∙◌, arith}
use Rattle.std.proofs.lemmas.Bool.{lt-leb}
use Rattle.std.proofs.Math.Dec.{ltb}
use Rattle.std.proofs.Math.ListN.{length}
use Rattle.std.proofs.Math.Bool.{cond}
use mathlib.Core.List.{List, []}
use Rattle.std.proofs.Math.Path.{sym, ap}
use Rattle.std.proofs.Math.Decide.{dec_le}
use Rattle.spec.specs.declared.Seg.{Seg}

-- the stores of the headers, where a segment is opened
abbrev pub open_stores : Params → List ℕ → Disk → State → List Store
open_stores p off k st = cond (opens p st) (header_stores p (new_seg p (seen p off k)) (suc st.serial.0) 0) []

-- the numbers in front with the segment open
pub record OpenedAs (p : Params) (st : State) (o : Opened) : Type 0 where
  pub serial : o.serial.0 ≡ (opened_by p st).serial.0
  pub opened : o.opened ≡ (opened_by p st).opened
  pub next : o.next ≡ (opened_by p st).next

-- 01, Write; Store count: the first n of the headers' stores are made on the bytes k, which are then k'; r says whether more were due, and
-- has the numbers in front with the segment open if not
pub record OpeningStores (p : Params) (off : List ℕ) (st : State) (n : ℕ) (k : Disk) (r : Result Opened TooFew) (k' : Disk) : Type 0 where
  pub cut : is_err r ≡ ltb n (length (open_stores p off k st))
  pub disk : k' ≡ store_all (store_disk p) (take n (open_stores p off k st)) k
  pub front : IfOk r (OpenedAs p st)

-- a data position filled
abbrev pub placed_by : Put → List ℕ → PlacedRow
placed_by r fl = record { row = r.row; inflight = fl; drive = r.drive }

-- a block sent, its segment open
abbrev pub taken_by : Taken → List ℕ → SentRow
taken_by r fl = record { row = r.row; next = r.next; inflight = fl; drive = r.drive }

-- ---- the ends of an opening

-- the numbers in front
abbrev opened_as : ℕ → ℕ → ℕ → Opened
opened_as s o n = record { serial = a_serial s; opened = o; next = n }

module _ (p : Params) (off : List ℕ) (st : State) (n : ℕ) (k : Disk) where
  -- none is due
  pub opening_none : opens p st ≡ false → OpeningStores p off st n k (Ok (opened_as st.serial.0 st.opened st.next)) k
  unfolding opened_by
  opening_none e =
      let hs = header_stores p (new_seg p (seen p off k)) (suc st.serial.0) 0 in
      let q : open_stores p off k st ≡ [] = ap (λ (x : Bool). cond x hs []) e in
      let o : st ≡ cond (opens p st) (set_open st (suc st.serial.0)) st = sym (ap (λ (x : Bool). cond x (set_open st (suc st.serial.0)) st) e) in
      record {
        cut = sym (le-ltb n (length (open_stores p off k st)) (omega (arith, ap length q)));
        disk = sym (ap (λ (x : List Store). store_all (store_disk p) (take n x) k) q ∙ stores_nil (store_disk p) n k);
        front = record { serial = ap (λ (x : State). x.serial.0) o; opened = ap (λ (x : State). x.opened) o; next = ap (λ (x : State). x.next) o };
      }

  module _ (e : opens p st ≡ true) (g : Seg) (s : ℕ) (newest : g ≡ new_seg p (seen p off k)) (next : s ≡ suc st.serial.0) where
    stores_are : header_stores p g s 0 ≡ open_stores p off k st
    stores_are =
        ap₂ (λ (x : Seg) (y : ℕ). header_stores p x y 0) newest next
        ∙ ap (λ (x : Bool). cond x (header_stores p (new_seg p (seen p off k)) (suc st.serial.0) 0) []) (sym e)

    -- cut
    pub opening_cut : (k' : Disk) → Storing p n (header_stores p g s 0) k too_few k' → OpeningStores p off st n k (Err (record {})) k'
    opening_cut k' h = record {
      cut = sym (lt-ltb n (length (open_stores p off k st)) (omega (arith, storing_cut p n (header_stores p g s 0) k k' h, ap length stores_are)));
      disk = h.disk ∙ ap (λ (x : List Store). store_all (store_disk p) (take n x) k) stores_are;
      front = tt;
    }

    -- made
    pub opening_made : (l : ℕ) (k' : Disk) → Storing p n (header_stores p g s 0) k (Ok l) k' → OpeningStores p off st n k (Ok (opened_as s s 0)) k'
    unfolding opened_by set_open
    opening_made l k' h =
        let o : set_open st s ≡ opened_by p st = ap (set_open st) next ∙ ap (λ (x : Bool). cond x (set_open st (suc st.serial.0)) st) (sym e) in
        record {
          cut = sym (le-ltb n (length (open_stores p off k st)) (omega (arith, storing_done p n (header_stores p g s 0) k l k' h, ap length stores_are)));
          disk = h.disk ∙ ap (λ (x : List Store). store_all (store_disk p) (take n x) k) stores_are;
          front = record { serial = ap (λ (x : State). x.serial.0) o; opened = ap (λ (x : State). x.opened) o; next = ap (λ (x : State). x.next) o };
        }

-- an opening asked of the front is one of the state
opened_front : (p : Params) (st : State) (o : Opened) → OpenedAs p (behind (front_of st)) o → OpenedAs p st o
unfolding opened_by set_open opens must_open has_filling is_filling is_free is_full filled_in_of
opened_front p st o h = record { serial = h.serial ∙ (same (opens p st)).0; opened = h.opened ∙ (same (opens p st)).1; next = h.next ∙ (same (opens p st)).2 }
  where
    same : (b : Bool) → let x = cond b (set_open (behind (front_of st)) (suc st.serial.0)) (behind (front_of st)) in let y = cond b (set_open st (suc st.serial.0)) st in
        (x.serial.0 ≡ y.serial.0) × (x.opened ≡ y.opened) × (x.next ≡ y.next)
    same true = (refl, refl, refl)
    same false = (refl, refl, refl)

pub opening_front : (p : Params) (off : List ℕ) (st : State) (n : ℕ) (k : Disk) (r : Result Opened TooFew) (k' : Disk) → OpeningStores p off (behind (front_of st)) n k r k'
    → OpeningStores p off st n k r k'
unfolding opens must_open has_filling is_filling is_free is_full filled_in_of
opening_front p off st n k r k' h = record { cut = h.cut; disk = h.disk; front = IfOk-weaker r (OpenedAs p (behind (front_of st))) (OpenedAs p st) (opened_front p st) h.front }

-- 01, Refusals, 8: a count that stops at n + 1
pub scarce-count : (p : Params) (v : View) (n : ℕ) → leb (min (n + 1) (empty_count p v)) n ≡ scarce p v n
unfolding scarce
scarce-count p v n = go (dec_le (empty_count p v) n)
  where
    go : Dec (empty_count p v ≤ n) → leb (min (n + 1) (empty_count p v)) n ≡ leb (empty_count p v) n
    go (yes h) = le-leb (min (n + 1) (empty_count p v)) n (omega arith) ∙ sym (le-leb (empty_count p v) n h)
    go (no h) = lt-leb (min (n + 1) (empty_count p v)) n (omega arith) ∙ sym (lt-leb (empty_count p v) n (omega arith))

-- the new segment's zones have room for a header
pub new_room : (p : Params) (off im ps : List ℕ) → in_range p ≡ true → length im ≡ image_len p → length ps ≡ pointers_len p → 0 < empty_count p (view_of p off im ps)
    → (d : ℕ) → d < p.N → pointer_of p ps d (zone_on (new_seg p (view_of p off im ps)) d) < capacity p
new_room p off im ps ok hi hp h d hd = omega (arith, (new_free p off im ps hi hp h d hd).2, capacity-low p (ranged p ok))
