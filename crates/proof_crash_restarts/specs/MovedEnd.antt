-- Restart, 4, with a rewrite: wherever it is cut, and where it ends. Assumes nothing.
use Rattle.std.specs.Prelude.{◌≡◌, refl, List, [], ◌++◌, Bool, false, ◌&&◌, ◌⊎◌, ℕ, zero, suc, ◌^◌, ◌≤◌, ◌<◌, length, take}
use Rattle.std.proofs.Common.{sym, ap, ◌∙◌, subst, ⊎_elim, arith}
use Rattle.std.proofs.Math.Bool.{true, not}
use Rattle.std.proofs.Math.Logic.{inl, inr}
use Rattle.std.proofs.Math.Decide.{ℕ_discrete}
use Rattle.spec.specs.declared.Params.{Params}
use Rattle.spec.specs.Drives.{View, Store, store_view_of, store_all}
use Rattle.spec.specs.Lists.{below, any, is_in}
use Rattle.spec.specs.Params.{capacity, present}
use Rattle.spec.specs.Restart.{rewrite_stores, drop_stores}
use Rattle.spec.specs.Segments.{remaining, segment_of, segments, has_chunk, counts, counted, uncounted, stored_piece}
use Rattle.law_basic.specs.Geometry.{Ranged}
use Rattle.law_basic.specs.Ranges.{length-below, and-false}
use Rattle.proof_crash_machine.specs.Facts.Pair.{alone, pair}
use Rattle.proof_crash_machine.specs.Facts.{Ghost, Choice, R, Counted, Used, WholeZone, Ragged, Facts, used, None, none_fair, self_none}
use Rattle.proof_crash_machine.specs.Finish.{Reads, up_to, finishing, Clean}
use Rattle.proof_crash_machine.specs.Ghosts.{with_pr}
use Rattle.proof_crash_machine.specs.History.{Mode, Step, Claim}
use Rattle.proof_crash_machine.proofs.History.{claim}
use Rattle.proof_crash_machine.specs.History.Mode.{off as stopped, run}
use Rattle.proof_crash_machine.specs.History.Step.{restart_cut₁, restart_cut₂, restart as m-restart}
use Rattle.proof_crash_machine.specs.Lemma.{pair_alone}
use Rattle.proof_crash_machine.specs.Memory2.{rest_mem}
use Rattle.proof_crash_machine.specs.Name.{naming}
use Rattle.proof_crash_machine.specs.Restart.{Ready, rewrite_low, rewrite_has, rewrite_others, rewrite_empty, rewrite_end, rewrite_clean}
use Rattle.proof_crash_machine.specs.Rewrite.{MovePlan, copies, drops, st}
use Rattle.proof_crash_machine.specs.View.ItemStore.{reset as m-reset}
use Rattle.proof_crash_machine.specs.Steps.{list, rows, apply_all-append}
use Rattle.proof_crash_machine.specs.Val.{Val}
use Rattle.proof_crash_machine.specs.View.{Item, ItemView, ItemStore, apply_all, InI, AllS, alls_append}
use Rattle.proof_crash_machine.specs.View.Item.{chunk}
use Rattle.proof_crash_items.specs.Items.{items_in}
use Rattle.proof_crash_items.specs.Member.{Has, and_false_1, keep_has, keep-nil, below_has, has_below, any_has}
use Rattle.proof_crash_items.specs.Named.{present_has}
use Rattle.proof_crash_items.specs.Ranges.{par_of}
use Rattle.proof_crash_items.specs.Refuse.{Rising, rising-keep, rising-below}
use Rattle.proof_crash_items.specs.SegFacts.{ragged_of}
use Rattle.proof_crash_items.specs.Segs.{OnDrives, SegAt, name_of, remains_at_holds}
use Rattle.proof_crash_items.specs.Sound.{Follows}
use Rattle.proof_crash_items.specs.Stripes.{stored_in, in_has_chunk, has_counted, piece_at, counted_stripe}
use Rattle.proof_crash_items.specs.Values.{piece_value}
use Rattle.proof_crash_restarts.specs.Done.{stamp_top, serial_top, read_on, RestartDone}
use Rattle.proof_crash_restarts.specs.Drops.{drop_items, drops_follow, dropping, drops_used}
use Rattle.proof_crash_restarts.specs.Ends.{InOrder, Opened, none_choice, opened_is, ends_reads, ends_stamps, ends_serials}
use Rattle.proof_crash_restarts.specs.Link.{state_on, Linked, linked_on, linked_step, CutTo, same_history}
use Rattle.proof_crash_restarts.specs.Moved.{rewrite_follows}
use Rattle.proof_crash_restarts.specs.MovedPlan.{plan_few, plan_of, plan_ready, ready_clear, ready_good, ready-idle}
use Rattle.proof_crash_restarts.specs.Order.{rising_same}
use Rattle.proof_crash_restarts.specs.Rest.{SettledOn, far_off, after_settled, settled_used}
use Rattle.proof_crash_restarts.specs.Runs.{Always}
use Rattle.spec.specs.declared.Seg.{Seg}
use Rattle.law_drives.specs.Headers.{Vacant}
use Rattle.proof_crash_items.specs.Carry.{Tie, alls_list, lies_open, names_of, on_tie, tie_after, tie_cut, tie_named, tie_on}
use Rattle.proof_crash_items.specs.Places.{PlacesLies, lies_used, store_seg}
use Rattle.proof_crash_machine.specs.Memory.{Ok}

alls_rows : (Ok : ItemStore → Type 0) (f : ℕ → ℕ → ItemStore) (hi k n : ℕ) → ((j d : ℕ) → Ok (f j d)) → AllS Ok (rows f hi k n)
unfolding rows
alls_rows Ok f hi k zero a = tt
alls_rows Ok f hi k (suc n) a = alls_append Ok (list (f k) 0 hi) (rows f hi (suc k) n) (alls_list Ok (f k) hi 0 hi (omega arith) (λ d l. a k d)) (alls_rows Ok f hi (suc k) n a)

module _ (p : Params) (r : Ranged p) (off : List ℕ) (v₀ : View) (u₀ : ItemView) (g₀ : Ghost) (a : List Val) (s : Bool) (m : Mode) (lk : Linked p r off v₀ u₀ g₀ a s m)
    (none : None (par_of p r off) g₀.un) where
  abbrev on₀ : OnDrives p r off g₀ v₀ u₀
  on₀ = linked_on p r off v₀ u₀ g₀ a s m lk

  abbrev g : Ghost
  g = with_pr g₀ alone

  abbrev v : View
  v = store_all store_view_of (drop_stores p v₀ (segments p v₀ 0)) v₀

  abbrev ms : List ItemStore
  ms = drop_items p v₀ (segments p v₀ 0)

  abbrev u : ItemView
  u = apply_all u₀ (drop_items p v₀ (segments p v₀ 0))

  abbrev k : SettledOn p r off (with_pr g₀ alone) v u
  k = after_settled p r off g₀ v₀ u₀ (linked_on p r off v₀ u₀ g₀ a s m lk) none

  -- cut while it resets
  pub drops_cut : Always (CutTo p r off g₀ a s) v₀ (drop_stores p v₀ (segments p v₀ 0))
  drops_cut n = record {
    u = apply_all u₀ (take n ms);
    g' = g₀;
    same = same_history g₀;
    linked = linked_step p r off v₀ (store_all store_view_of (take n (drop_stores p v₀ (segments p v₀ 0))) v₀) u₀ (apply_all u₀ (take n ms)) g₀ g₀ a a s s m stopped lk
        (restart_cut₁ (state_on u₀ g₀ a s m) n none ms (dropping p r off g₀ v₀ u₀ on₀ none))
        (tie_cut p r off g₀.un g₀.hd v₀ u₀ lk.tie (Used (par_of p r off) g₀.un u₀) (lies_used (par_of p r off) g₀ (items_in p v₀) u₀ lk.inv.facts lk.tie.placed)
        (drop_stores p v₀ (segments p v₀ 0)) ms (drops_follow p r off g₀ v₀ u₀ on₀ none (segments p v₀ 0) v₀) (drops_used p r off g₀ v₀ u₀ on₀ none (segments p v₀ 0)) n);
  }

  -- segment o is rewritten as w, with serial n
  module _ (o : Seg) (i : Has o (remaining p v 0)) (un : (segment_of p v 0 o).full ≡ false) (w : Seg) (va : Vacant p v w) (n : ℕ) (nl : n < 256 ^ 8) (top : serial_top p v < n)
      (part : length (counted p 0 (segment_of p v 0 o)) < p.S) where
    abbrev nm : ℕ
    nm = name_of p v 0 o

    abbrev π : MovePlan (par_of p r off)
    π = plan_of p r off (with_pr g₀ alone) v u k o i

    abbrev g_m : Ghost
    g_m = naming (with_pr g₀ alone) n n (g₀.hd.ser (name_of p v 0 o)) (names_of p w) (pair n (name_of p v 0 o))

    abbrev ss : List Store
    ss = rewrite_stores p (segment_of p v 0 o) w n

    abbrev tail : List ItemStore
    tail = copies (par_of p r off) g_m n (name_of p v 0 o) π ++ drops (par_of p r off) g_m n (name_of p v 0 o) π

    moved_end_idle : Used (par_of p r off) g₀.un u n → ⊥
    moved_end_idle = ready-idle p r off (with_pr g₀ alone) v u k o i w un va n top

    follow : Follows p g_m.hd v ss tail
    follow = rewrite_follows p r off (with_pr g₀ alone) v u k o i w va n nl moved_end_idle

    abbrev moved_ready : Ready (par_of p r off) (with_pr g₀ alone) u n (name_of p v 0 o) n π
    moved_ready = plan_ready p r off (with_pr g₀ alone) v u k o i w un va n top refl

    -- where the segments lie, and the stores in them
    abbrev A : ℕ → Type 0
    A z = (Used (par_of p r off) g₀.un u z) ⊎ (z ≡ n)

    moved_end_lies : PlacesLies (par_of p r off) g₀.un g_m.hd A (items_in p v) u
    moved_end_lies = lies_open p r off (with_pr g₀ alone) v u k.on n (g₀.hd.ser (name_of p v 0 o)) (names_of p w) moved_end_idle (ready_good p r off (with_pr g₀ alone) v u k o i w un va n top)
        (ready_clear p r off (with_pr g₀ alone) v u k o i w un va n top)

    in_them : AllS (λ (x : ItemStore). A (store_seg x)) tail
    in_them = alls_append (λ (x : ItemStore). A (store_seg x)) (copies (par_of p r off) g_m n (name_of p v 0 o) π) (drops (par_of p r off) g_m n (name_of p v 0 o) π)
        (unfold copies in alls_rows (λ (x : ItemStore). A (store_seg x)) (st (par_of p r off) g_m n (name_of p v 0 o) π) p.N 0 (suc π.c) (λ j d. (unfold st store_seg in inr refl)))
        (unfold drops in alls_list (λ (x : ItemStore). A (store_seg x)) (λ (d : ℕ). m-reset d (name_of p v 0 o)) p.N 0 p.N (omega arith)
        (λ d l. (unfold store_seg in inl (settled_used p r off (with_pr g₀ alone) v u k o i).0)))

    tie : Tie p r off g₀.un g_m.hd v u
    tie = tie_named p r off g₀.un g₀.hd v u n n (g₀.hd.ser (name_of p v 0 o)) (names_of p w) moved_end_idle (on_tie p r off (with_pr g₀ alone) v u k.on)

    -- cut while it rewrites
    pub moved-cut : Always (CutTo p r off g₀ a s) v ss
    moved-cut j = record {
      u = apply_all u (take j tail);
      g' = g_m;
      same = record { un = refl; said = refl; sent = refl; last = refl; base = refl; top = refl };
      linked = linked_step p r off v₀ (store_all store_view_of (take j ss) v) u₀ (apply_all u (take j tail)) g₀ g_m a a s s m stopped lk
          (restart_cut₂ (state_on u₀ g₀ a s m) j none ms (dropping p r off g₀ v₀ u₀ on₀ none) n (name_of p v 0 o) n π moved_ready)
          (tie_cut p r off g₀.un g_m.hd v u tie A moved_end_lies ss tail follow in_them j);
    }

    -- ---- the end
    abbrev v_e : View
    v_e = store_all store_view_of ss v

    abbrev u_e : ItemView
    u_e = apply_all u tail

    abbrev g_e : Ghost
    g_e = with_pr g_m alone

    facts_end : Facts (par_of p r off) g_e u_e
    facts_end = rewrite_end (par_of p r off) (with_pr g₀ alone) u n (name_of p v 0 o) n π moved_ready k.rest k.on.facts

    clean_end : Clean (par_of p r off) g_e u_e
    clean_end = rewrite_clean (par_of p r off) (with_pr g₀ alone) u n (name_of p v 0 o) n π moved_ready k.rest k.on.facts

    rest_end : (z : ℕ) → Used (par_of p r off) g₀.un u_e z → R (par_of p r off) g_e.hd u_e g₀.un z
    rest_end z q = record {
      left = clean_end.whole z q;
      own = λ y l e. pair_alone (sym (facts_end.swap.one z y q (used (par_of p r off) g_e u_e g₀.un y (self_none (par_of p r off) g₀.un none) l) e));
    }

    set_end : SettledOn p r off g_e v_e u_e
    set_end = record {
      on = tie_on p r off g_e v_e u_e (tie_after p r off g₀.un g_m.hd v u tie A moved_end_lies ss tail follow in_them) facts_end;
      none = none;
      no_pair = refl;
      rest = rest_end;
    }

    abbrev c : ℕ
    c = length (counted p 0 (segment_of p v 0 o))

    low_end : (d t : ℕ) (x : Val) → d < p.N → InI (chunk t x) (u_e d n) → t < c
    low_end d t x l q = rewrite_low (par_of p r off) (with_pr g₀ alone) u n (name_of p v 0 o) n π moved_ready k.rest k.on.facts d t x l q

    has_end : (d t : ℕ) → d < p.N → t < c → (x : Val) × InI (chunk t x) (u_e d n)
    has_end d t l b = (π.F t d, rewrite_has (par_of p r off) (with_pr g₀ alone) u n (name_of p v 0 o) n π moved_ready k.rest k.on.facts d t l b)

    choice_end : Choice (par_of p r off) g_e.un (is_in 0)
    choice_end = none_choice p r off g_e v_e u_e set_end

    drives_there_end : (d : ℕ) → d < p.N → is_in 0 d ≡ false
    drives_there_end d l = far_off p r off g_e v_e u_e set_end d l

    -- the new segment, z
    module _ (z : Seg) (zb : SegAt p v_e u_e 0 z n) where
      counts_end : (t : ℕ) → t < c → Has t (counted p 0 (segment_of p v_e 0 z))
      counts_end t b = has_counted p r off g_e v_e u_e set_end.on 0 choice_end z t (omega (arith, b, plan_few p r off (with_pr g₀ alone) v u k o i))
          (λ d l q. in_has_chunk p r off g_e v_e u_e set_end.on 0 choice_end z t d (has_end d t l b).0 zb l q (has_end d t l b).1)

      counted_end : (t : ℕ) → Has t (counted p 0 (segment_of p v_e 0 z)) → t < c
      counted_end t q =
          let d0 : 0 < p.N = omega (arith, r.drives_low) in
          low_end 0 t (piece_at p r off g_e v_e u_e set_end.on 0 choice_end z t 0) d0
          ((counted_stripe p r off g_e v_e u_e set_end.on 0 choice_end z t zb q).on 0 d0 (drives_there_end 0 d0))

      counted_is : counted p 0 (segment_of p v_e 0 z) ≡ below c
      counted_is = rising_same (counted p 0 (segment_of p v_e 0 z)) (below c) rises (rising-below c)
          (λ t q. has_below t c (counted_end t q)) (λ t q. counts_end t (below_has t c q))
        where
          rises : Rising (counted p 0 (segment_of p v_e 0 z))
          rises = unfold counted in rising-keep (counts p 0 (segment_of p v_e 0 z)) (below p.S) (rising-below p.S)

      uncounted_is : uncounted p 0 (segment_of p v_e 0 z) ≡ []
      uncounted_is =
          unfold uncounted in keep-nil (λ t. any (has_chunk (segment_of p v_e 0 z) t) (present p 0)
          && not (counts p 0 (segment_of p v_e 0 z) t)) (below p.S)
          (λ t q. go t (any (has_chunk (segment_of p v_e 0 z) t) (present p 0)) refl)
        where
          passes : (t : ℕ) → t < c → counts p 0 (segment_of p v_e 0 z) t ≡ true
          passes t b = (both? (counts_end t b)).1
            where
              both? : Has t (counted p 0 (segment_of p v_e 0 z)) → Has t (below p.S) × (counts p 0 (segment_of p v_e 0 z) t ≡ true)
              both? q = unfold counted in keep_has (counts p 0 (segment_of p v_e 0 z)) t (below p.S) q

          go : (t : ℕ) (b : Bool) → any (has_chunk (segment_of p v_e 0 z) t) (present p 0) ≡ b
              → (any (has_chunk (segment_of p v_e 0 z) t) (present p 0) && not (counts p 0 (segment_of p v_e 0 z) t)) ≡ false
          go t false e = and_false_1 (any (has_chunk (segment_of p v_e 0 z) t) (present p 0)) (not (counts p 0 (segment_of p v_e 0 z) t)) e
          go t true e =
              let d : (d : ℕ) × Has d (present p 0) × (has_chunk (segment_of p v_e 0 z) t d ≡ true) =
              any_has (has_chunk (segment_of p v_e 0 z) t) (present p 0) e in
              let l : (d.0 < p.N) × (is_in 0 d.0 ≡ false) = present_has p 0 d.0 d.1 in
              let b : t < c =
              low_end d.0 t (piece_value (stored_piece (segment_of p v_e 0 z) t d.0)) l.0
              (stored_in p r off g_e v_e u_e set_end.on 0 choice_end z t d.0 zb l.0 l.1 d.2) in
              and-false (any (has_chunk (segment_of p v_e 0 z) t) (present p 0)) (not (counts p 0 (segment_of p v_e 0 z) t)) (ap not (passes t b))

    pub moved_order : InOrder p v_e
    moved_order z j e = go (ℕ_discrete (name_of p v_e 0 z) (name_of p v 0 o)) (ℕ_discrete (name_of p v_e 0 z) n)
      where
        y : ℕ
        y = name_of p v_e 0 z

        rag : Ragged (par_of p r off) (is_in 0) u_e (name_of p v_e 0 z)
        rag = ragged_of p r off g_e v_e u_e set_end.on 0 choice_end z j e

        new : name_of p v_e 0 z ≡ n → SegAt p v_e u_e 0 z n
        new q = subst (SegAt p v_e u_e 0 z) q (remains_at_holds p r off g_e v_e u_e set_end.on 0 choice_end z j)

        go : Dec (name_of p v_e 0 z ≡ name_of p v 0 o) → Dec (name_of p v_e 0 z ≡ n) → (counted p 0 (segment_of p v_e 0 z) ≡ below (length (counted p 0 (segment_of p v_e 0 z))))
            × (uncounted p 0 (segment_of p v_e 0 z) ≡ []) × (length (counted p 0 (segment_of p v_e 0 z)) < p.S)
        go (yes q) x = absurd (gone rag)
          where
            gone : Ragged (par_of p r off) (is_in 0) u_e (name_of p v_e 0 z) → ⊥
            gone (d, t, b, f) =
                let y : u_e d (name_of p v_e 0 z) ≡ [] = ap (u_e d) q ∙ rewrite_empty (par_of p r off) (with_pr g₀ alone) u n (name_of p v 0 o) n π moved_ready k.rest k.on.facts d t.0 in
                let x : 0 < length {A = Item} [] = subst (λ (l : List Item). 0 < length l) y b in let j : ⊥ = omega arith in j
        go (no q) (yes x) =
            let ci : counted p 0 (segment_of p v_e 0 z) ≡ below c = counted_is z (new x) in
            let long : length (counted p 0 (segment_of p v_e 0 z)) ≡ c = ap length ci ∙ length-below c in
            (ci ∙ ap below (sym long), uncounted_is z (new x), subst (λ (b : ℕ). b < p.S) (sym long) part)
        go (no q) (no x) = absurd (q (same rag))
          where
            one : Ragged (par_of p r off) g₀.un u (name_of p v_e 0 z) → Ragged (par_of p r off) g₀.un u (name_of p v 0 o) → name_of p v_e 0 z ≡ name_of p v 0 o
            one b f =
                ⊎_elim (λ y. y) (λ y. absurd
                (⊎_elim (λ (h : alone ≡ pair (name_of p v_e 0 z) (name_of p v 0 o)). pair_alone (sym h)) (λ (h : alone ≡ pair (name_of p v 0 o) (name_of p v_e 0 z)). pair_alone (sym h)) y))
                (k.on.facts.«open».ragged (name_of p v_e 0 z) (name_of p v 0 o) b f)

            same : Ragged (par_of p r off) (is_in 0) u_e (name_of p v_e 0 z) → name_of p v_e 0 z ≡ name_of p v 0 o
            same (d, t, b, f) =
                let y : u_e d (name_of p v_e 0 z) ≡ u d (name_of p v_e 0 z) =
                rewrite_others (par_of p r off) (with_pr g₀ alone) u n (name_of p v 0 o) n π moved_ready k.rest k.on.facts d (name_of p v_e 0 z) q x in
                one (d, (t.0, none d t.0), subst (λ (l : List Item). 0 < length l) y b, subst (λ (l : List Item). length l < capacity p) y f) moved_ready.ragged

    -- ---- the machine's step
    op : (b : Bool) × (z : ℕ) × (t : ℕ) × Opened p r off g_e v_e u_e b z t
    op = opened_is p r off g_e v_e u_e set_end moved_order

    moved_end_reads : Reads (par_of p r off) g_e.hd u_e g₀.un (read_on p r off g_e v_e u_e set_end)
    moved_end_reads = unfold read_on in ends_reads p r off g_e v_e u_e set_end

    moved_end_stamps : (x : Val) → Counted (par_of p r off) g_e.hd u_e g₀.un x → x.stamp ≤ stamp_top p v_e
    moved_end_stamps = unfold stamp_top in ends_stamps p r off g_e v_e u_e set_end

    moved_end_serials : (y : ℕ) → Used (par_of p r off) g₀.un u_e y → g_e.hd.ser y ≤ serial_top p v_e
    moved_end_serials = unfold serial_top in ends_serials p r off g_e v_e u_e set_end

    abbrev g_f : Ghost
    g_f = finishing g_e g₀.un (read_on p r off g_e v_e u_e set_end) (stamp_top p v_e) (up_to (stamp_top p v_e) g₀.sent)

    whole_items : apply_all u₀ (ms ++ tail) ≡ u_e
    whole_items = apply_all-append u₀ ms tail

    moved_end_step : Step (par_of p r off) (state_on u₀ g₀ a s m) (state_on u_e g_f a false (run (rest_mem op.0 op.1 op.2 (stamp_top p v_e) (serial_top p v_e))))
    moved_end_step = subst (λ (x : ItemView).
        Reads (par_of p r off) g_e.hd x g₀.un (read_on p r off g_e v_e u_e set_end)
        → ((y : Val) → Counted (par_of p r off) g_e.hd x g₀.un y → y.stamp ≤ stamp_top p v_e)
        → ((y : ℕ) → Ragged (par_of p r off) g₀.un x y → (op.0 ≡ true) × (y ≡ op.1))
        → (op.0 ≡ true → WholeZone (par_of p r off) g₀.un x op.1)
        → (op.0 ≡ true → (e t : ℕ) (y : Val) → e < p.N → InI (chunk t y) (x e op.1) → t < op.2)
        → ((y : ℕ) → Used (par_of p r off) g₀.un x y → g_e.hd.ser y ≤ serial_top p v_e)
        → Step (par_of p r off) (state_on u₀ g₀ a s m) (state_on x g_f a false (run (rest_mem op.0 op.1 op.2 (stamp_top p v_e) (serial_top p v_e))))) whole_items
        (λ rd up rg wh bl sr. m-restart (state_on u₀ g₀ a s m) none ms (dropping p r off g₀ v₀ u₀ on₀ none) n (name_of p v 0 o) n π moved_ready (read_on p r off g_e v_e u_e set_end)
        (stamp_top p v_e) rd up op.0 op.1 op.2 op.3.few rg wh bl (serial_top p v_e) sr)
        moved_end_reads moved_end_stamps op.3.lone op.3.whole op.3.low moved_end_serials

    cl : Claim (par_of p r off) (state_on u₀ g₀ a s m) g₀.un (read_on p r off g_e v_e u_e set_end)
    cl =
        claim (par_of p r off) (state_on u₀ g₀ a s m) lk.inv g_e u_e set_end.on.facts refl refl refl refl refl g₀.un (self_none (par_of p r off) g₀.un none)
        (read_on p r off g_e v_e u_e set_end) moved_end_reads

    pub moved_done : RestartDone p r off g₀ a s v_e
    moved_done = record {
      u = u_e;
      g' = g_e;
      same = record { un = refl; said = refl; sent = refl; last = refl; base = refl; top = refl };
      set = set_end;
      b = op.0;
      z = op.1;
      n = op.2;
      opened = op.3;
      linked = linked_step p r off v₀ v_e u₀ u_e g₀ g_f a a s false m (run (rest_mem op.0 op.1 op.2 (stamp_top p v_e) (serial_top p v_e))) lk moved_end_step
          (on_tie p r off g_e v_e u_e set_end.on);
      acked = cl.acked;
      sent = cl.sent;
      floor = cl.floor;
      still = λ q. cl.same q (none_fair (par_of p r off) g₀.said g₀.un none);
    }
