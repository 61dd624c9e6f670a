-- The ends of a rebuild: refused, cut, done (01, Rebuild; Store count). Assumes nothing.
use Rattle.std.specs.Prelude.{Result, ◌≡◌, Bool, true, false, ℕ, ◌≤◌, ◌<◌, length, get_or, take, replicate}
use Rattle.std.proofs.Math.Path.{sym}
use Rattle.std.proofs.Common.{ap, ◌∙◌, subst}
use mathlib.Core.List.{List, []}
use Rattle.spec.specs.declared.Params.{Params}
use Rattle.spec.specs.declared.Answer.{Answer}
use Rattle.spec.specs.declared.Answer.TheVariants.{Cut, Rebuilt}
use Rattle.spec.specs.Calls.{first_refusal, Plan, mk_plan, mk_after, cut_memory}
use Rattle.spec.specs.Drives.{View, Store, Disk, store_disk, store_all}
use Rattle.spec.specs.Engine.Call.{rebuild}
use Rattle.spec.specs.Engine.{store_count, lent_block, verdict, lent_ok_of, call_on, call_disk}
use Rattle.spec.specs.Faults.{segment_faults}
use Rattle.spec.specs.Lists.Opt.{none, some}
use Rattle.spec.specs.Memory.{Memory, mk_memory, zero_state}
use Rattle.spec.specs.Params.{named}
use Rattle.spec.specs.Rebuild.{rebuild_checks, rebuild_stores, rebuild_verdict}
use Rattle.spec.specs.Segments.{Segment, segments}
use Rattle.law_basic.specs.Geometry.{ranged}
use Rattle.law_views.specs.Alike.{seen_offline}
use Rattle.law_views.specs.Views.{AllFit, seen}
use Rattle.spec.specs.declared.Done.{Done}
use Rattle.spec.specs.Host.{after}
use Rattle.law_calls.specs.Refusals.{zones_pass, none_left, call_refused, call_done, call_cut}
use Rattle.law_drives.specs.Accept.{Accepted, named_here, accepted_apart}
use Rattle.law_drives.specs.Image.{sized_of, shaped_of}
use Rattle.law_drives.specs.Lengths.{lengths_of, whole_of}
use Rattle.law_drives.specs.Masks.{named_in}
use Rattle.law_drives.specs.Rebuilding.{rebuild_roomy, rebuild_within}
use Rattle.law_drives.specs.Segs.{Here}
use Rattle.law_drives.specs.Zones.{all_fit}
use Rattle.disk_gather.specs.Flags.{Keeps, Serials, FlagsRows}
use Rattle.disk_zones.specs.declared.TooFew.{TooFew}
use Rattle.std.specs.Result.{is_err}
use Rattle.disk_zones.specs.Made.{Storing, storing_short, storing_enough}
use Rattle.call_write.specs.Ends.{cut_memory_lem}
use Rattle.call_rebuild.specs.Order.{rebuild_refusal, RebuildReady, rebuild_front, rebuild_front_passed}
use Rattle.recover_rebuild.specs.Drive.{drive_stores, drive_stores_are, RowsApart, drive_rows_apart, GoodZones, good_zones_holds, GoodRecs, good_recs}

-- arrays that say which segments remain, with their serials and zones
abbrev pub EndsGathered : Params → View → ℕ → List Bool → List ℕ → List ℕ → Type 0
EndsGathered p v gone flags ns rows = Keeps p v gone flags × Serials p v gone ns × FlagsRows p v gone rows

-- ---- what the stores ask

module _ (p : Params) (off : List ℕ) (k : Disk) (m : Memory) (d : ℕ) (rd : RebuildReady p off k m d)
    (none! : segment_faults p (seen p off k) (named d) (segments p (seen p off k) (named d)) ≡ []) (flags : List Bool) (ns rows : List ℕ)
    (ga : EndsGathered p (seen p off k) (named d) flags ns rows) where
  abbrev v! : View
  v! = seen p off k

  accepted! : Accepted p v! (named d)
  accepted! = record { pointers_ok = rd.pointers_ok; segments_ok = none! }

  here! : Here p (named d)
  here! = named_here p (ranged p rd.in_range_holds) d rd.drive_low

  pub rows-ready : RowsApart p d flags ns rows
  rows-ready = drive_rows_apart p v! d here! rd.drive_low accepted! flags ns rows ga.0 ga.1 ga.2

  pub zones_ready : GoodZones p off d flags rows
  zones_ready = subst (λ (l : List ℕ). GoodZones p l d flags rows) (seen_offline p off k)
      (good_zones_holds p v! d here! rd.drive_low accepted! flags ns rows ga.0 ga.1 ga.2)

  -- no record of a remaining segment is bad
  pub recs_ready : GoodRecs p d (seen p off k) flags rows
  recs_ready = good_recs p v! d here! rd.drive_low accepted! flags ns rows ga.0 ga.1 ga.2

  pub stores_are : drive_stores p off d (seen p off k) flags ns rows ≡ rebuild_stores p (seen p off k) d (segments p (seen p off k) (named d))
  stores_are =
      ap (λ (l : List ℕ). drive_stores p l d v! flags ns rows) (sym (seen_offline p off k))
      ∙ drive_stores_are p v! d here! rd.drive_low accepted! flags ns rows ga.0 ga.1 ga.2

  -- the stores fit
  pub stores_fit : ((i : ℕ) → get_or k.image i 0 < 256) → AllFit p (seen p off k) (drive_stores p off d (seen p off k) flags ns rows)
  stores_fit b =
      let r = ranged p rd.in_range_holds in
      let hd = rd.drive_low in
      let w = whole_of p off k m rd.lent in
      let sh = shaped_of p off k w b in
      let lost = named_in p r d hd in
      let apart = accepted_apart p v! (named d) accepted! here! in
      subst (λ (l : List Store). AllFit p v! l) (sym stores_are)
      (all_fit p v! (rebuild_stores p v! d (segments p v! (named d))) (sized_of p off k w) (rebuild_within p r v! sh d hd lost apart) (rebuild_roomy p r v! sh d hd lost apart))

-- ---- the ends

module _ (p : Params) (off : List ℕ) (k : Disk) (m : Memory) (d n : ℕ) where
  abbrev pub left! : List Segment
  left! = segments p (seen p off k) (named d)

  abbrev stores! : List Store
  stores! = rebuild_stores p (seen p off k) d left!

  abbrev due! : Plan
  due! = mk_plan stores! Rebuilt m []

  pub ends_rebuild_refused : (a : Answer) → rebuild_refusal p off k m d ≡ some a → mk_after a k m [] ≡ call_disk p off k m (rebuild d n)
  unfolding rebuild_refusal call_disk call_on store_count lent_block verdict rebuild_verdict
  ends_rebuild_refused a e = sym (call_refused p (store_disk p) n k m [] (first_refusal (rebuild_checks p (lent_ok_of p off k m) (seen p off k) m d left!)) due! a e)

  module _ (e : rebuild_refusal p off k m d ≡ none) where
    cut! : n < length stores! → mk_after Cut (store_all (store_disk p) (take n stores!) k) (cut_memory p m) [] ≡ call_disk p off k m (rebuild d n)
    unfolding rebuild_refusal call_disk call_on store_count lent_block verdict rebuild_verdict
    cut! h = sym (call_cut p (store_disk p) n k m [] (first_refusal (rebuild_checks p (lent_ok_of p off k m) (seen p off k) m d left!)) due! e h)

    done! : length stores! ≤ n → mk_after Rebuilt (store_all (store_disk p) (take n stores!) k) m [] ≡ call_disk p off k m (rebuild d n)
    unfolding rebuild_refusal call_disk call_on store_count lent_block verdict rebuild_verdict
    done! h = sym (call_done p (store_disk p) n k m [] (first_refusal (rebuild_checks p (lent_ok_of p off k m) (seen p off k) m d left!)) due! e h)

    module _ (r : Result ℕ TooFew) (k' : Disk) (ss : List Store) (q : ss ≡ rebuild_stores p (seen p off k) d (segments p (seen p off k) (named d))) (s : Storing p n ss k r k') where
      rebuild_made : Storing p n stores! k r k'
      rebuild_made = subst (λ (l : List Store). Storing p n l k r k') q s

      -- more stores are due than the number
      pub ends_rebuild_cut : is_err r ≡ true → lent_ok_of p off k m ≡ true → (o : Done) (ad co : List ℕ) → o.answer ≡ Cut → o.state ≡ zero_state
          → ad ≡ replicate (length m.addresses) 0
          → co ≡ replicate (length m.compact) 0 → after o k'.image k'.pointers ad co m.inflight [] ≡ call_disk p off k m (rebuild d n)
      ends_rebuild_cut c l o ad co ea es f g =
          let w = lengths_of p off k m l in
          let x : mk_memory o.state ad co m.inflight ≡ cut_memory p m = cut_memory_lem p m o.state ad co w.addresses_ok w.compact_ok es f g in
          (λ j. mk_after (ea j) (rebuild_made.disk j) (x j) []) ∙ cut! (storing_short p n stores! k r k' rebuild_made c)

      -- all are made: state and tables don't change
      pub ends_rebuild_done : is_err r ≡ false → mk_after Rebuilt k' m [] ≡ call_disk p off k m (rebuild d n)
      ends_rebuild_done c = (λ j. mk_after Rebuilt (rebuild_made.disk j) m []) ∙ done! (storing_enough p n stores! k r k' rebuild_made c)

-- no segment of 9 is bad: nothing refuses
pub rebuild_faultless : (p : Params) (off : List ℕ) (k : Disk) (m : Memory) (d : ℕ) → rebuild_front p off k m d ≡ none
    → segment_faults p (seen p off k) (named d) (segments p (seen p off k) (named d)) ≡ [] → rebuild_refusal p off k m d ≡ none
rebuild_faultless p off k m d e f =
    rebuild_front_passed p off k m d e ∙ zones_pass (segment_faults p (seen p off k) (named d) (segments p (seen p off k) (named d))) [] f ∙ none_left
