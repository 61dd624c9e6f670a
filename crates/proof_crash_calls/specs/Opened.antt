-- A segment is opened: headers in the lowest empty zone of each drive, under the next serial, which is its name. Assumes nothing.
use Rattle.std.specs.Prelude.{◌≡◌, refl, Bool, false, ◌⊎◌, ◌≢◌, length, take}
use Rattle.std.proofs.Math.Path.{sym, subst}
use Rattle.std.proofs.Common.{ap, ◌∙◌, ne_eqb}
use mathlib.Core.List.{List, [], ◌∷◌}
use Rattle.std.proofs.Math.Bool.{true, not}
use Rattle.std.proofs.Math.Logic.{inr}
use Prim.Native.Nat.{ℕ, suc, ◌^◌, ◌≤◌, ◌<◌}
use native.Mathlib.Omega.{arith}
use Rattle.spec.specs.declared.Params.{Params}
use Rattle.spec.specs.declared.State.{State}
use Rattle.spec.specs.Drives.{View, Store, store_view_of, store_all, header_stores, new_seg, empty_count}
use Rattle.spec.specs.Memory.{set_open}
use Rattle.law_basic.specs.Geometry.{Ranged}
use Rattle.law_drives.specs.Tests.{clash}
use Rattle.proof_crash_machine.specs.Exec.{true≢false}
use Rattle.proof_crash_machine.specs.Facts.Pair.{alone}
use Rattle.proof_crash_machine.specs.Facts.{Ghost, Used}
use Rattle.proof_crash_machine.specs.History.Mode.{off as m-off, run}
use Rattle.proof_crash_machine.specs.History.{Inv, Opens}
use Rattle.proof_crash_machine.specs.History.Step.{open_cut, open_done}
use Rattle.proof_crash_machine.specs.Memory.{Mem}
use Rattle.proof_crash_machine.specs.Memory2.{open_mem}
use Rattle.proof_crash_machine.specs.Name.{set_n_same, naming}
use Rattle.proof_crash_machine.specs.OpenSeg.{headers, Fresh, open_facts}
use Rattle.proof_crash_machine.specs.Order.{Track}
use Rattle.proof_crash_machine.specs.Steps.{list}
use Rattle.proof_crash_machine.specs.Val.{Val}
use Rattle.proof_crash_machine.specs.View.Item.{hdr}
use Rattle.proof_crash_machine.specs.View.{Item, ItemView, ItemStore, apply_all, AllS}
use Rattle.proof_crash_machine.specs.View.ItemStore.{put as m-put}
use Rattle.proof_crash_items.specs.Carry.{Tie, on_tie, tie_after, tie_cut, tie_named, lies_open, names_of, headers_follow, new_fits, new_clear, new_space, alls_list}
use Rattle.proof_crash_items.specs.Items.{items_in}
use Rattle.proof_crash_items.specs.Places.{PlacesLies, store_seg}
use Rattle.proof_crash_items.specs.Ranges.{par_of}
use Rattle.proof_crash_items.specs.Segs.{OnDrives, fine_good}
use Rattle.proof_crash_items.specs.Sound.{AllSound, Follows}
use Rattle.proof_crash_calls.specs.Cells.{same_used, open_same}
use Rattle.proof_crash_calls.specs.Go.{mst, Go, go_step}
use Rattle.proof_crash_calls.specs.Rel.{in_use_of, Rel, Waiting}
use Rattle.law_basic.specs.Segs.{zones_in_lem}
use Rattle.law_drives.specs.Headers.{Vacant, new_vacant}

-- ---- the call's part

module _ (p : Params) (h : Ranged p) (off : List ℕ) (g : Ghost) (v : View) (u : ItemView) (a : List Val) (c : Bool) (M : Mem) (on : OnDrives p h off g v u)
    (I : Inv (par_of p h off) (mst g u a c (run M))) (two : 2 ≤ empty_count p v) (shut? : M.is_open ≡ false) (fits : suc M.serial < 256 ^ 8) where
  -- its name
  abbrev w : ℕ
  w = suc M.serial

  abbrev ss : List Store
  ss = header_stores p (new_seg p v) (suc M.serial) 0

  abbrev g' : Ghost
  g' = naming g (suc M.serial) (suc M.serial) 0 (names_of p (new_seg p v)) alone

  -- the stores by segment
  abbrev ms : List ItemStore
  ms = headers (par_of p h off) g (suc M.serial) (suc M.serial) (names_of p (new_seg p v))

  -- no segment has the name yet
  pub open_idle : Used (par_of p h off) g.un u w → ⊥
  open_idle i = let q : ⊥ = omega (arith, I.mode.serials w i, on.placed.is w i) in q

  pub open_none : (e : ℕ) → e < p.N → u e w ≡ []
  open_none e l = go (u e w) refl
    where
      go : (x : List Item) → u e w ≡ x → u e w ≡ []
      go [] q = q
      go (i ∷ x) q = absurd (open_idle (e, (l, I.mode.none e l), subst (λ (y : List Item). 0 < length y) (sym q) (let z : 0 < length (i ∷ x) = omega arith in z)))

  open_fits : (d : ℕ) → d < p.N → (names_of p (new_seg p v) d < p.Z) × ((par_of p h off).fine d (names_of p (new_seg p v) d) ≡ true)
  open_fits = new_fits p h off g v u on I.mode.none I.mode.whole two

  open_clear : (y : ℕ) → Used (par_of p h off) g.un u y → (d : ℕ) → d < p.N → g.hd.zn y d ≢ names_of p (new_seg p v) d
  open_clear = new_clear p h off g v u on I.mode.none I.mode.whole two

  abbrev may_open : Opens (par_of p h off) g u M w
  may_open = record {
    shut? = shut?;
    zs = names_of p (new_seg p v);
    fits = open_fits;
    clear = open_clear;
    empty = open_none;
    space = new_space p h off g v u on I.mode.none I.mode.whole two;
  }

  vacant_now : Vacant p v (new_seg p v)
  vacant_now = new_vacant p v (omega (arith, two))

  named_tie : Tie p h off g.un g'.hd v u
  named_tie = tie_named p h off g.un g.hd v u w w 0 (names_of p (new_seg p v)) open_idle (on_tie p h off g v u on)

  open_lies : PlacesLies (par_of p h off) g.un g'.hd (λ (y : ℕ). (Used (par_of p h off) g.un u y) ⊎ (y ≡ w)) (items_in p v) u
  open_lies = lies_open p h off g v u on w 0 (names_of p (new_seg p v)) open_idle
      (λ d l. ((open_fits d l).0, fine_good p h off g v u on d (names_of p (new_seg p v) d) l (open_fits d l).1)) open_clear

  open_follows : Follows p g'.hd v ss ms
  unfolding headers
  open_follows = subst (λ (x : List ItemStore). Follows p g'.hd v ss x) same
      (headers_follow p h g'.hd (new_seg p v) w w 0 vacant_now.vacant_low
      (λ d l. sym (zones_in_lem p (new_seg p v) d l) ∙ sym (ap (λ (f : ℕ → ℕ). f d) (set_n_same g.hd.zn w (names_of p (new_seg p v))))) fits (omega arith) v on.shape
      vacant_now.vacant_empty)
    where
      same : list (λ (d : ℕ). m-put d w (hdr w 0 (names_of p (new_seg p v)))) 0 p.N
          ≡ list (λ (d : ℕ). m-put d w (hdr (g'.hd.ser w) (g'.hd.cop w) (g'.hd.zn w))) 0 p.N
      same = λ i. list (λ (d : ℕ). m-put d w
          (hdr (sym (set_n_same g.hd.ser w w) i) (sym (set_n_same g.hd.cop w 0) i) (sym (set_n_same g.hd.zn w (names_of p (new_seg p v))) i))) 0 p.N

  open_segs : AllS (λ (s : ItemStore). (Used (par_of p h off) g.un u (store_seg s)) ⊎ (store_seg s ≡ w)) ms
  unfolding headers
  open_segs = alls_list (λ (s : ItemStore). (Used (par_of p h off) g.un u (store_seg s)) ⊎ (store_seg s ≡ w))
      (λ (d : ℕ). m-put d w (hdr (g'.hd.ser w) (g'.hd.cop w) (g'.hd.zn w))) p.N 0 p.N (omega arith) (λ i l. inr (unfold store_seg in refl))

  pub open_sound : AllSound p v ss
  open_sound = open_follows.sound

  -- the machine's view afterwards, and of a cut
  abbrev pub open_view_holds : ItemView
  open_view_holds = apply_all u (headers (par_of p h off) g (suc M.serial) (suc M.serial) (names_of p (new_seg p v)))

  abbrev pub open_cut_view : ℕ → ItemView
  open_cut_view n = apply_all u (take n (headers (par_of p h off) g (suc M.serial) (suc M.serial) (names_of p (new_seg p v))))

  pub open_tie : Tie p h off g.un g'.hd (store_all store_view_of ss v) open_view_holds
  open_tie = tie_after p h off g.un g'.hd v u named_tie (λ (y : ℕ). (Used (par_of p h off) g.un u y) ⊎ (y ≡ w)) open_lies ss ms open_follows open_segs

  pub open_cut_tie : (n : ℕ) → Tie p h off g.un g'.hd (store_all store_view_of (take n ss) v) (open_cut_view n)
  open_cut_tie = tie_cut p h off g.un g'.hd v u named_tie (λ (y : ℕ). (Used (par_of p h off) g.un u y) ⊎ (y ≡ w)) open_lies ss ms open_follows open_segs

  pub open_go : (T : Track) → Go (par_of p h off) (mst g u a c (run M)) (mst g' open_view_holds a c (run (open_mem M w w))) T T
  open_go T = go_step (par_of p h off) (mst g u a c (run M)) (mst g' open_view_holds a c (run (open_mem M w w))) T (open_done (mst g u a c (run M)) M w refl may_open)

  pub open_cut_go : (n : ℕ) (T : Track) → Go (par_of p h off) (mst g u a c (run M)) (mst g' (open_cut_view n) a c m-off) T T
  open_cut_go n T = go_step (par_of p h off) (mst g u a c (run M)) (mst g' (open_cut_view n) a c m-off) T (open_cut (mst g u a c (run M)) M w n refl may_open)

  abbrev fresh : Fresh (par_of p h off) g u w w
  fresh = record {
    none = I.mode.none;
    no_pair = I.mode.no_pair;
    empty = open_none;
    zs = names_of p (new_seg p v);
    fits = open_fits;
    clear = open_clear;
    first = omega arith;
    space = new_space p h off g v u on I.mode.none I.mode.whole two;
    newest = λ y k. omega (arith, I.mode.serials y k);
    sealed = λ y k. true≢false (sym shut? ∙ (I.mode.lone y k).0);
  }

  -- no other segment changes
  pub open_other : (e y : ℕ) → y ≢ w → open_view_holds e y ≡ u e y
  open_other e y n = (open_facts (par_of p h off) g u w w fresh I.facts).2 e y n

  -- ---- memory: nothing is in flight
  module _ (st : State) (fl : List ℕ) (R : Rel p u st fl M) (idle : (i : ℕ) → i < 8 → in_use_of st i ≡ false) where
    abbrev st' : State
    st' = set_open st (suc M.serial)

    pub open_rel : Rel p open_view_holds st' fl (open_mem M w w)
    open_rel = record {
      long = unfold set_open in record {
        numbers = R.long.numbers;
        filled = R.long.filled;
        writes = R.long.writes;
        landed = R.long.landed;
        addresses = R.long.addresses;
        stamps = R.long.stamps;
        offsets = R.long.offsets;
      };
      healthy = unfold set_open in R.healthy;
      is_open = unfold set_open in sym (ap not (ne_eqb (suc M.serial) 0 (omega arith)));
      zone = λ q. unfold set_open in refl;
      next = λ q. unfold set_open in refl;
      stamp = unfold set_open in R.stamp;
      serial = unfold set_open in refl;
      stamp_fits = unfold set_open in R.stamp_fits;
      serial_fits = unfold set_open in fits;
      flying = λ i il u. busy? i il u;
      slot = λ i il u. busy? i il u;
      once = λ i j il jl u q e. busy? i il u;
      flies = λ s q. true≢false q;
      whole = λ q x l f d b. absurd (let z : ⊥ = omega arith in z);
      busy = λ q e. absurd (let z : ⊥ = omega (arith, e, h.stripes_low) in z);
    }
      where
        busy? : {A : Type 0} (i : ℕ) → i < 8 → in_use_of st' i ≡ true → A
        busy? i il u = clash u (same_used st st' i (open_same st (suc M.serial) i) ∙ idle i il)

    pub open_waits : (x : Val) (y : ℕ) → Waiting p st M x y → Waiting p st' (open_mem M w w) x y
    open_waits x y q = clash q.in_use_of? (idle q.i q.lt)
