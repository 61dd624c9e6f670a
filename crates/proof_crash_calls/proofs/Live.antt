-- What a healthy run gives of its drives, and what a plan does in it. Assumes nothing.
use Rattle.std.specs.Prelude.{◌≡◌, List, map, Bool, false, ℕ, ◌≤◌, ◌<◌, length, take}
use Rattle.std.proofs.Common.{sym, ◌∙◌, ap, arith}
use Rattle.spec.specs.declared.Params.{Params}
use Rattle.spec.specs.declared.State.{State}
use Rattle.spec.specs.Demands.{send_at}
use Rattle.spec.specs.Drives.{View, pointer_at, Store, store_view_of, store_all, zone_on}
use Rattle.spec.specs.History.{Send, forget}
use Rattle.law_basic.specs.Geometry.{Ranged}
use Rattle.proof_crash_machine.specs.History.{State as m-State, Inv}
use Rattle.proof_crash_machine.specs.History.Mode.{off as m-off, run}
use Rattle.proof_crash_machine.specs.Memory.{Mem}
use Rattle.proof_crash_machine.specs.Order.{Track}
use Rattle.proof_crash_machine.specs.Val.{Val}
use Rattle.proof_crash_machine.specs.Mask.{Mask}
use Rattle.proof_crash_machine.specs.Facts.{Ghost, InV, None, Choice, R, Used, used}
use Rattle.proof_crash_machine.specs.Lemma.{pair_alone}
use Rattle.proof_crash_machine.specs.View.{ItemView, ItemStore, AllS, apply_all}
use Rattle.proof_crash_items.specs.Carry.{Tie, tie_on, tie_after, tie_cut}
use Rattle.proof_crash_items.specs.Found.{open_is}
use Rattle.proof_crash_items.specs.Named.{zero_choice}
use Rattle.proof_crash_items.specs.Places.{PlacesLies, lies_used, store_seg}
use Rattle.proof_crash_items.specs.Segs.{OnDrives, On, is_on, zone_len_holds, SegAt, named_seg, named_zone, seg-at}
use Rattle.spec.specs.Lists.{is_in}
use Rattle.spec.specs.Segments.{open_segment}
use Rattle.law_basic.specs.Mask.{is_in_empty}
use Rattle.proof_crash_items.specs.Ranges.{par_of}
use Rattle.proof_crash_items.specs.Sound.{Follows}
use Rattle.proof_crash_calls.proofs.Fill.{FillWithin}
use Rattle.proof_crash_calls.specs.Go.{mst, Later, later_same, Go, go_inv, go_tracked}
use Rattle.proof_crash_calls.specs.Held.{TableOk}
use Rattle.proof_crash_calls.specs.Rel.{Rel, Waiting}
use Rattle.proof_crash_calls.specs.Sends.{Logged, Waits}
use Rattle.proof_crash_calls.proofs.Sends.{length-forget, forget_logged, forget_waits}
use Rattle.proof_crash_items.specs.Items.{items_in}
use Rattle.proof_crash_calls.specs.Live.{Live, Stopped}

module _ (p : Params) (h : Ranged p) (off : List ℕ) (v : View) (st : State) (fl tb : List ℕ) (ss : List Send) (n : ℕ) (l : Live p h off v st fl tb ss n) where
  abbrev σ : m-State
  σ = mst l.g l.u l.a l.c (run l.M)

  pub live_inv : Inv (par_of p h off) (mst l.g l.u l.a l.c (run l.M))
  live_inv = l.reached.inv

  pub live_none : None (par_of p h off) l.g.un
  live_none = live_inv.mode.none

  pub live_drives : OnDrives p h off l.g v l.u
  live_drives = tie_on p h off l.g v l.u l.reached.tie live_inv.facts

  -- a drive is trusted
  pub live_trust : (d : ℕ) → d < p.N → l.g.un d ≡ false
  live_trust d b = live_none d b

  -- a segment in use, on any drive
  pub live_on : (d y : ℕ) → d < p.N → Used (par_of p h off) l.g.un l.u y → On p h off l.g v l.u live_drives d y
  live_on d y b i = is_on p h off l.g v l.u live_drives d y b (live_trust d b) (live_inv.mode.whole y i d b (live_trust d b))

  pub live_len : (d y : ℕ) → d < p.N → Used (par_of p h off) l.g.un l.u y → length (l.u d y) ≡ pointer_at v d (l.g.hd.zn y d)
  live_len d y b i =
      let o : On p h off l.g v l.u live_drives d y = live_on d y b i in
      ap length (sym o.items) ∙ zone_len_holds p h off l.g v l.u live_drives d (l.g.hd.zn y d) b (live_trust d b) o.low o.good

  -- the mask of no drive
  pub live_choice : Choice (par_of p h off) l.g.un (is_in 0)
  live_choice = zero_choice p h off l.g.un live_none

  -- a segment in use remains: there is no copy of another
  pub live_remains : (y : ℕ) → Used (par_of p h off) l.g.un l.u y → R (par_of p h off) l.g.hd l.u (is_in 0) y
  live_remains y i = record {
    left = λ d b q. live_inv.mode.whole y i d b (live_trust d b);
    own = λ o k e. pair_alone (sym (live_inv.facts.swap.one y o i (used (par_of p h off) l.g l.u (is_in 0) o live_choice k) e) ∙ live_inv.mode.no_pair);
  }

  pub live_seg : (y : ℕ) → Used (par_of p h off) l.g.un l.u y → SegAt p v l.u 0 (named_seg p l.g y) y
  live_seg y i = seg-at p h off l.g v l.u live_drives 0 live_choice y (live_remains y i).left

  pub live_seg-low : (y : ℕ) → Used (par_of p h off) l.g.un l.u y → (d : ℕ) → d < p.N → zone_on (named_seg p l.g y) d < p.Z
  live_seg-low y i d b = (live_seg y i).low d b (is_in_empty d)

  pub live_seg_len : (y : ℕ) → Used (par_of p h off) l.g.un l.u y → (d : ℕ) → d < p.N → length (l.u d y) ≡ pointer_at v d (zone_on (named_seg p l.g y) d)
  live_seg_len y i d b = live_len d y b i ∙ ap (pointer_at v d) (sym (named_zone p l.g y d b))

  -- the open segment
  pub live_opened : Used (par_of p h off) l.g.un l.u st.opened → open_segment p v st ≡ named_seg p l.g st.opened
  live_opened i = open_is p h off l.g v l.u live_drives st live_choice (live_remains st.opened i)

  -- stores in segments in use keep the tie
  pub live_lies : PlacesLies (par_of p h off) l.g.un l.g.hd (Used (par_of p h off) l.g.un l.u) (items_in p v) l.u
  live_lies = lies_used (par_of p h off) l.g (items_in p v) l.u live_inv.facts l.reached.tie.placed

  pub live_tie : (ws : List Store) (ms : List ItemStore) → Follows p l.g.hd v ws ms → AllS (λ (x : ItemStore). Used (par_of p h off) l.g.un l.u (store_seg x)) ms
      → Tie p h off l.g.un l.g.hd (store_all store_view_of ws v) (apply_all l.u ms)
  live_tie ws ms f k = tie_after p h off l.g.un l.g.hd v l.u l.reached.tie (Used (par_of p h off) l.g.un l.u) live_lies ws ms f k

  pub live_tie_cut : (ws : List Store) (ms : List ItemStore) → Follows p l.g.hd v ws ms → AllS (λ (x : ItemStore). Used (par_of p h off) l.g.un l.u (store_seg x)) ms
      → (k : ℕ) → Tie p h off l.g.un l.g.hd (store_all store_view_of (take k ws) v) (apply_all l.u (take k ms))
  live_tie_cut ws ms f a k = tie_cut p h off l.g.un l.g.hd v l.u l.reached.tie (Used (par_of p h off) l.g.un l.u) live_lies ws ms f a k

  -- the stores of a call, all of them
  pub live_after : (ws : List Store) (u' : ItemView) (g' : Ghost) → Tie p h off g'.un g'.hd (store_all store_view_of ws v) u'
      → (a' : List Val) (c' : Bool) (M' : Mem) (T' : Track) (st' : State) (fl' tb' : List ℕ) (ss' : List Send)
      → Later l.g g' → Go (par_of p h off) (mst l.g l.u l.a l.c (run l.M)) (mst g' u' a' c' (run M')) l.T T'
      → Rel p u' st' fl' M' → Logged p a' T' ss' → Waits p g' st' M' T' ss' → n ≤ length ss'
      → (length ss' ≡ n → c' ≡ false)
      → TableOk p h off g' u' tb' → (x : Live p h off (store_all store_view_of ws v) st' fl' tb' ss' n) × Later l.g x.g
  live_after ws u' g' tie a' c' M' T' st' fl' tb' ss' lt go rel logged waits marked still table = (
    record {
      g = g';
      u = u';
      a = a';
      c = c';
      M = M';
      T = T';
      reached = record {
        inv = go_inv (par_of p h off) σ (mst g' u' a' c' (run M')) l.T T' go live_inv;
        tracked = go_tracked (par_of p h off) σ (mst g' u' a' c' (run M')) l.T T' go live_inv l.reached.tracked;
        tie = tie;
        logged = logged;
        marked = marked;
        still = still;
      };
      rel = rel;
      waits = waits;
      table = table;
    },
    lt,
  )

  -- the first k of them
  pub live_cut : (ws : List Store) (k : ℕ) (u' : ItemView) (g' : Ghost) → Tie p h off g'.un g'.hd (store_all store_view_of (take k ws) v) u' → Later l.g g'
      → Go (par_of p h off) (mst l.g l.u l.a l.c (run l.M)) (mst g' u' l.a l.c m-off) l.T l.T
      → (x : Stopped p h off (store_all store_view_of (take k ws) v) (map forget ss) n) × Later l.g x.g
  live_cut ws k u' g' tie lt go = (
    record {
      g = g';
      u = u';
      a = l.a;
      c = l.c;
      T = l.T;
      reached = record {
        inv = go_inv (par_of p h off) σ (mst g' u' l.a l.c m-off) l.T l.T go live_inv;
        tracked = go_tracked (par_of p h off) σ (mst g' u' l.a l.c m-off) l.T l.T go live_inv l.reached.tracked;
        tie = tie;
        logged = forget_logged p l.a l.T ss l.reached.logged;
        marked = omega (arith, l.reached.marked, length-forget ss);
        still = λ e. l.reached.still (sym (length-forget ss) ∙ e);
      };
      healthy = λ d b. ap (λ (y : Mask). y d) lt.un ∙ live_none d b;
      idle = forget_waits ss;
    },
    lt,
  )

  -- stamps of what was sent are low
  pub live_stamps : (x : Val) → InV x l.g.sent → x.stamp ≤ l.M.stamp
  live_stamps x m = live_inv.mode.stamps x m

  pub live_acks : (x : Val) → InV x l.a → x.stamp ≤ l.M.stamp
  live_acks x m = live_stamps x (live_inv.acks x m).0

  -- a change of memory alone
  pub live_within : (st' : State) (fl' : List ℕ) → FillWithin p h off l.g l.u l.a l.c st st' fl' l.M → (x : Live p h off v st' fl' tb ss n) × Later l.g x.g
  live_within st' fl' w = (
    record {
      g = l.g;
      u = l.u;
      a = l.a;
      c = l.c;
      M = w.M';
      T = l.T;
      reached = record {
        inv = go_inv (par_of p h off) σ (mst l.g l.u l.a l.c (run w.M')) l.T l.T (w.go l.T) live_inv;
        tracked = go_tracked (par_of p h off) σ (mst l.g l.u l.a l.c (run w.M')) l.T l.T (w.go l.T) live_inv l.reached.tracked;
        tie = l.reached.tie;
        logged = l.reached.logged;
        marked = l.reached.marked;
        still = l.reached.still;
      };
      rel = w.rel;
      waits = λ j b q. let k : Waiting p st l.M (l.T.log j) (send_at ss j).stripe × InV (l.T.log j) l.g.sent × (l.T.pos (l.T.log j).stamp ≡ j) = l.waits j b q in
          (w.waits (l.T.log j) (send_at ss j).stripe k.0, k.1, k.2);
      table = l.table;
    },
    later_same l.g,
  )
