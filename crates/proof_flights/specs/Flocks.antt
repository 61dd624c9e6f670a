-- All eighths in use together, under any list of those in use: a stripe begins, a position fills, nothing is in flight. Assumes nothing.
use Rattle.std.specs.Prelude.{◌≡◌, Bool, not, ◌||◌, ◌⊎◌, ℕ, ◌+◌, ◌<◌, eqb}
use Rattle.std.proofs.Math.Path.{refl, sym, ap}
use Rattle.std.proofs.Common.{◌∙◌, subst, inl, inr, length-append}
use mathlib.Core.List.{List, [], ◌∷◌, ◌++◌, map, append-nil}
use Rattle.std.proofs.Math.Bool.{true, false}
use Rattle.std.proofs.Math.Decide.{dec_lt, ℕ_discrete}
use native.Mathlib.Omega.{arith}
use borrow.Author.Tests.{lt-leb, eq-eqb, ne_eqb, eqb-true}
use Rattle.std.proofs.Math.ListN.{length, get_or, get_or-append}
use Rattle.std.proofs.Math.Seq.{get_or-append_seam}
use Rattle.spec.specs.declared.Params.{Params}
use Rattle.spec.specs.declared.State.{State}
use Rattle.spec.specs.Drives.{View, chunk_at, zone_on}
use Rattle.spec.specs.Lists.{up_from, below, cons_if, keep, is_in}
use Rattle.spec.specs.Memory.{stripe_in, filled_in_of, landed_in, is_write, is_full, begin_stripe, add_entry}
use Rattle.spec.specs.Params.{data_count, inflight_len}
use Rattle.spec.specs.Write.{placed}
use Rattle.law_basic.specs.Geometry.{Ranged, data_count-low, data_count_high}
use Rattle.law_basic.specs.Mask.{is_in_empty}
use Rattle.law_basic.specs.Ranges.{keep_append}
use Rattle.proof_crash_calls.specs.Cells.{SameSlot, add_same, begin_same}
use Rattle.proof_crash_calls.proofs.Placed.{placed-other}
use Rattle.spec_demands.specs.Tables.{Pending, no_pending}
use Rattle.law_drives.specs.Members.{keep_nothing, get_d_in}
use Rattle.law_drives.specs.States.{StateOk}
use Rattle.law_drives.specs.Tests.{clash, or_cases, or_true_right}
use Rattle.proof_tables.specs.Run.{flies, Lists, HealthyState, OpenZone}
use Rattle.proof_tables.specs.Slots.{number_begun, filled_begun, landed_begun, begin_writes, filled-added, add-filled-other, number_added, free_is, some_flies}
use Rattle.proof_flights.specs.Eighths.{freshly, plus, waits_of, Eighth, lists_long, eighth_same, eighth_add}
use Rattle.proof_flights.specs.Flown.{pending_of, Flights}
use Rattle.spec.specs.declared.Seg.{Seg}
use Rattle.law_drives.specs.Segs.{data_low}
use Rattle.spec.specs.Layout.{header_serial}
use Rattle.spec.specs.Segments.{header_at, open_segment, open_segments}

-- the eighths in use, and that each write that waits is in one of them
pub record Flock (p : Params) (v : View) (st : State) (fl : List ℕ) (ws : List Pending) (busy : ℕ → Bool) : Type 0 where
  pub each : (j : ℕ) → j < 8 → busy j ≡ true → Eighth p v st fl ws j
  pub waiting : (n : ℕ) → n < length ws → (i : ℕ) × (i < 8) × (busy i ≡ true) × (stripe_in st i ≡ (get_or ws n no_pending).stripe)

-- with a stripe in flight a segment is open
pub open_of : (p : Params) (v : View) (st : State) → HealthyState p v st → (j : ℕ) → j < 8 → flies st j ≡ true
    → (z : Seg) × (st.opened ≡ header_serial p (header_at v 0 z)) × OpenZone p v st (flies st) z
open_of p v st h j hj fj = h.opens_at (λ e. clash fj (h.shut e j hj))

-- a copy or padding adds none that waits
pub none_more : (ws : List Pending) (x : Pending) → plus ws 0 x ≡ ws
unfolding cons_if
none_more ws x = append-nil ws

pub flock_of : (p : Params) (v : View) (st : State) (fl : List ℕ) (ws : List Pending) → HealthyState p v st → StateOk p st → Flights p v st fl ws → Flock p v st fl ws (flies st)
flock_of p v st fl ws h so f = record {
  each = λ j hj fj. record {
    few = (so.slots_ok j hj).filled_ok;
    data_low = λ d hd q x. let (z, e, q₀) = open_of p v st h j hj fj in (((q₀.flight j hj fj).lands d hd q).is_entry x).0;
    landed_here = λ d hd q. f.landed_is j d hj fj hd q;
    full_landed = λ q. f.parity_full j hj fj q;
    full_ready = λ q. f.parity-ready j hj fj q;
    waits_are = f.pending_is j hj fj;
    unmarked = λ k l x. f.writes_low j k hj fj l x;
  };
  waiting = f.pending_flies;
}

pub of_flock : (p : Params) (v : View) (st : State) (fl : List ℕ) (ws : List Pending) → Flock p v st fl ws (flies st) → Flights p v st fl ws
of_flock p v st fl ws o = record {
  landed_is = λ i d hi fi hd q. (o.each i hi fi).landed_here d hd q;
  parity_full = λ i hi fi q. (o.each i hi fi).full_landed q;
  parity-ready = λ i hi fi q. (o.each i hi fi).full_ready q;
  pending_is = λ i hi fi. (o.each i hi fi).waits_are;
  writes_low = λ i k hi fi l h. (o.each i hi fi).unmarked k l h;
  pending_flies = o.waiting;
}

pub flock_busy : (p : Params) (v : View) (st : State) (fl : List ℕ) (ws : List Pending) (busy busy' : ℕ → Bool) → ((j : ℕ) → j < 8 → busy j ≡ busy' j)
    → Flock p v st fl ws busy → Flock p v st fl ws busy'
flock_busy p v st fl ws busy busy' e o = record {
  each = λ j hj q. o.each j hj (e j hj ∙ q);
  waiting = λ n h. let (i, hi, b, s) = o.waiting n h in (i, hi, sym (e i hi) ∙ b, s);
}

-- ---- eighths that are the same in both, chunks too

pub flock_same : (p : Params) → Ranged p → (v u : View) (st su : State) (fl : List ℕ) (ws : List Pending) → ((j : ℕ) → SameSlot st su j)
    → ((j d b : ℕ) → j < 8 → flies st j ≡ true → d < p.N → chunk_at u d (zone_on (open_segment p u su) d) b ≡ chunk_at v d (zone_on (open_segment p v st) d) b)
    → Flock p v st fl ws (flies st) → Flock p u su fl ws (flies su)
flock_same p r v u st su fl ws s cs o = record {
  each = λ j hj q. eighth_same p r v u st su fl fl ws ws j (s j) (λ d hd. refl) (λ d b hd. cs j d b hj (was j ∙ q) hd) refl (o.each j hj (was j ∙ q));
  waiting = λ n h. let (i, hi, b, e) = o.waiting n h in (i, hi, sym (was i) ∙ b, (s i).number ∙ e);
}
  where
    was : (j : ℕ) → flies st j ≡ flies su j
    was j = ap not (free_is st j ∙ ap (λ (x : ℕ). eqb x 0) (sym (s j).filled) ∙ sym (free_is su j))

-- ---- nothing is in flight

pub flock_bare : (p : Params) (v : View) (st : State) (fl : List ℕ) (ws : List Pending) → ((j : ℕ) → j < 8 → flies st j ≡ false) → Flock p v st fl ws (flies st) → ws ≡ []
flock_bare p v st fl [] nf o = refl
flock_bare p v st fl (w ∷ ws) nf o = let (i, hi, b, s) = o.waiting 0 (omega arith) in clash b (nf i hi)

pub bare_flock : (p : Params) (v : View) (st : State) (fl : List ℕ) → ((j : ℕ) → j < 8 → flies st j ≡ false) → Flock p v st fl [] (flies st)
bare_flock p v st fl nf = record {
  each = λ j hj q. clash q (nf j hj);
  waiting = λ n h. absurd (let bad : ⊥ = omega arith in bad);
}

-- ---- a stripe begins

module _ (p : Params) (r : Ranged p) (v : View) (st : State) (ls : Lists st) (fl : List ℕ) (ws : List Pending) (i : ℕ) (hi : i < 8)
    (begun : (j : ℕ) → j < 8 → flies st j ≡ true → stripe_in st j < st.next) (o : Flock p v st fl ws (flies st)) where
  abbrev su : State
  su = begin_stripe st i

  -- no write of it waits
  none_waits : waits_of ws st.next ≡ []
  none_waits = keep_nothing (λ (w : Pending). eqb w.stripe st.next) ws (λ w m. not_it w (get_d_in ws no_pending w m))
    where
      not_it : (w : Pending) → (n : ℕ) × (n < length ws) × (w ≡ get_or ws n no_pending) → eqb w.stripe st.next ≡ false
      not_it w (n, h, e) =
          let (j, hj, fj, s) = o.waiting n h in
          let x = begun j hj fj in
          let y : w.stripe ≡ stripe_in st j = ap (λ (q : Pending). q.stripe) e ∙ sym s in
          ne_eqb w.stripe st.next (λ q. let bad : ⊥ = omega arith in bad)

  new_eighth : Eighth p v su fl ws i
  new_eighth = record {
    few = let e = filled_begun st ls i hi in omega arith;
    data_low = λ d hd q x. none_landed d q;
    landed_here = λ d hd q. none_landed d q;
    full_landed = λ q. none_landed _ q;
    full_ready = λ q. clash q not_full;
    waits_are = ap (waits_of ws) (number_begun st ls i hi) ∙ none_waits
        ∙ sym (ap (λ (n : ℕ). map (pending_of p su fl i) (keep (is_write su i) (below n))) (filled_begun st ls i hi) ∙ nothing);
    unmarked = λ k l h. no_write k;
  }
    where
      none_landed : {X : Type 0} (d : ℕ) → is_in (landed_in su i) d ≡ true → X
      none_landed d q = clash q (ap (λ (m : ℕ). is_in m d) (landed_begun st ls i hi) ∙ is_in_empty d)

      no_write : (k : ℕ) → is_write su i k ≡ false
      no_write k = unfold is_write in (ap (λ (m : ℕ). is_in m k) (begin_writes st ls i hi) ∙ is_in_empty k)

      not_full : is_full p su i ≡ false
      not_full = unfold is_full in lt-leb (data_count p) (filled_in_of su i) (let e = filled_begun st ls i hi in let c = data_count-low p r in omega arith)

      nothing : map (pending_of p su fl i) (keep (is_write su i) (below 0)) ≡ []
      nothing = unfold below up_from keep in refl

  old_eighth : (j : ℕ) → (j ≡ i → ⊥) → Eighth p v st fl ws j → Eighth p v su fl ws j
  old_eighth j n = eighth_same p r v v st su fl fl ws ws j (begin_same st (lists_long st ls) i hi j n) (λ d hd. refl) (λ d b hd. same_open d b) refl
    where
      same_open : (d b : ℕ) → chunk_at v d (zone_on (open_segment p v su) d) b ≡ chunk_at v d (zone_on (open_segment p v st) d) b
      same_open d b = unfold begin_stripe open_segment open_segments in refl

  pub flock_begin : flies st i ≡ false → Flock p v (begin_stripe st i) fl ws (λ j. flies st j || eqb j i)
  flock_begin nf = record {
    each = λ j hj q. go j hj (or_cases (flies st j) (eqb j i) q);
    waiting = λ n h.
        let (j, hj, fj, s) = o.waiting n h in
        (j, hj, or_yes (flies st j) (eqb j i) fj, (begin_same st (lists_long st ls) i hi j (λ e. clash fj (ap (flies st) e ∙ nf))).number ∙ s);
  }
    where
      or_yes : (a b : Bool) → a ≡ true → a || b ≡ true
      or_yes a b q = ap (λ (x : Bool). x || b) q

      go : (j : ℕ) → j < 8 → (flies st j ≡ true) ⊎ (eqb j i ≡ true) → Eighth p v su fl ws j
      go j hj (inr e) = subst (λ (x : ℕ). Eighth p v su fl ws x) (sym (eqb-true j i e)) new_eighth
      go j hj (inl f) = old_eighth j (λ e. clash f (ap (flies st) e ∙ nf)) (o.each j hj f)

-- ---- a position fills

module _ (p : Params) (r : Ranged p) (v : View) (st : State) (ls : Lists st) (fl : List ℕ) (long : length fl ≡ inflight_len p) (ws : List Pending) (busy : ℕ → Bool) (i : ℕ) (hi : i < 8)
    (bi : busy i ≡ true) (a t w : ℕ) (b : List ℕ) (bl : length b ≡ p.B) (kl : filled_in_of st i < data_count p) (hw : (w ≡ 0) ⊎ (w ≡ 1))
    (once : (j : ℕ) → j < 8 → busy j ≡ true → stripe_in st i ≡ stripe_in st j → j ≡ i) where
  abbrev new : Pending
  new = freshly p st i a t b

  abbrev ws' : List Pending
  ws' = plus ws w new

  others_wait : (s : ℕ) → (stripe_in st i ≡ s → ⊥) → waits_of ws' s ≡ waits_of ws s
  others_wait s n = keep_append (λ (x : Pending). eqb x.stripe s) ws (cons_if (eqb w 1) new []) ∙ ap (λ (l : List Pending). waits_of ws s ++ l) (go (eqb w 1)) ∙ append-nil (waits_of ws s)
    where
      go : (c : Bool) → waits_of (cons_if c new []) s ≡ []
      go true = unfold keep cons_if in rw (ne_eqb (stripe_in st i) s n)
      go false = unfold keep cons_if in refl

  -- the eighth of write n, among the writes xs
  abbrev Among : List Pending → ℕ → Type 0
  Among xs n = (j : ℕ) × (j < 8) × (busy j ≡ true) × (stripe_in (add_entry st i a t w) j ≡ (get_or xs n no_pending).stripe)

  pub flock_add : Flock p v st fl ws busy → Flock p v (add_entry st i a t w) (placed p st fl i a t w b).inflight (plus ws w (freshly p st i a t b)) busy
  flock_add o = record {
    each = λ j hj q. go j hj q (ℕ_discrete j i);
    waiting = λ n h. at n h (eqb w 1) refl;
  }
    where
      k8 : filled_in_of st i < 8
      k8 = omega (arith, data_count_high p r)

      same_open : (d b : ℕ) → chunk_at v d (zone_on (open_segment p v (add_entry st i a t w)) d) b ≡ chunk_at v d (zone_on (open_segment p v st) d) b
      same_open d b = unfold add_entry open_segment open_segments in refl

      go : (j : ℕ) → j < 8 → busy j ≡ true → Dec (j ≡ i) → Eighth p v (add_entry st i a t w) (placed p st fl i a t w b).inflight ws' j
      go j hj q (yes e) = subst (λ (x : ℕ). Eighth p v (add_entry st i a t w) (placed p st fl i a t w b).inflight ws' x) (sym e)
          (eighth_add p r v st ls fl long ws i hi a t w b bl kl hw (o.each i hi bi))
      go j hj q (no n) = eighth_same p r v v st (add_entry st i a t w) fl (placed p st fl i a t w b).inflight ws ws' j (add_same st (lists_long st ls) i hi a t w k8 j n)
          (λ d hd. placed-other p r st (lists_long st ls) fl long i hi a t w b bl kl j d hj hd (inl n)) (λ d b hd. same_open d b) (others_wait (stripe_in st j) (λ e. n (once j hj q e)))
          (o.each j hj q)

      stays : (n : ℕ) (m : List Pending) → n < length ws → Among (ws ++ m) n
      stays n m h =
          let (j, hj, bj, s) = o.waiting n h in
          (j, hj, bj, number_added st ls i hi a t w j ∙ s ∙ ap (λ (x : Pending). x.stripe) (sym (get_or-append ws m no_pending n h)))

      at : (n : ℕ) → n < length ws' → (c : Bool) → eqb w 1 ≡ c → Among ws' n
      at n h c e = subst (λ (x : Bool). Among (ws ++ cons_if x new []) n) (sym e) (two c (subst (λ (x : Bool). n < length (ws ++ cons_if x new [])) e h) (dec_lt n (length ws)))
        where
          two : (c : Bool) → n < length (ws ++ cons_if c new []) → Dec (n < length ws) → Among (ws ++ cons_if c new []) n
          two c h (yes l) = stays n (cons_if c new []) l
          two true h (no l) =
              let x : length (ws ++ (new ∷ [])) ≡ length ws + 1 = length-append ws (new ∷ []) in
              let e : n ≡ length ws = (let y : n < length (ws ++ (new ∷ [])) = (unfold cons_if in h) in omega arith) in
              (i, hi, bi, number_added st ls i hi a t w i ∙ sym (ap (λ (x : ℕ). (get_or (ws ++ cons_if true new []) x no_pending).stripe) e ∙ ap (λ (x : Pending). x.stripe) seam))
            where
              seam : get_or (ws ++ cons_if true new []) (length ws) no_pending ≡ new
              seam = unfold cons_if in get_or-append_seam ws new [] no_pending
          two false h (no l) =
              let y : n < length (ws ++ []) = (unfold cons_if in h) in
              let x : length (ws ++ []) ≡ length ws = ap length (append-nil ws) in
              absurd (let bad : ⊥ = omega arith in bad)

-- the eighths in use stay so
pub flies-add : (st : State) → Lists st → (i : ℕ) → i < 8 → (a t w : ℕ) (j : ℕ) → (flies st j || eqb j i) ≡ flies (add_entry st i a t w) j
flies-add st ls i hi a t w j = go (ℕ_discrete j i)
  where
    orf : (b : Bool) → (b || false) ≡ b
    orf true = refl
    orf false = refl

    go : Dec (j ≡ i) → (flies st j || eqb j i) ≡ flies (add_entry st i a t w) j
    go (yes e) = or_true_right (flies st j) (eqb j i) (eq-eqb j i e)
        ∙ sym (some_flies (add_entry st i a t w) j (λ q. let x = ap (filled_in_of (add_entry st i a t w)) e ∙ filled-added st ls i hi a t w in let y : ⊥ = omega arith in y))
    go (no n) = ap (λ (b : Bool). flies st j || b) (ne_eqb j i n) ∙ orf (flies st j)
        ∙ ap not (free_is st j ∙ ap (λ (x : ℕ). eqb x 0) (sym (add-filled-other st ls i hi a t w j n)) ∙ sym (free_is (add_entry st i a t w) j))

-- of an eighth that was in use too
pub flies_stay : (st : State) → Lists st → (i : ℕ) → i < 8 → flies st i ≡ true → (a t w : ℕ) (j : ℕ) → flies st j ≡ flies (add_entry st i a t w) j
flies_stay st ls i hi fi a t w j = go (ℕ_discrete j i) ∙ flies-add st ls i hi a t w j
  where
    orf : (c : Bool) → c ≡ (c || false)
    orf true = refl
    orf false = refl

    go : Dec (j ≡ i) → flies st j ≡ (flies st j || eqb j i)
    go (yes e) = ap (flies st) e ∙ fi ∙ sym (or_true_right (flies st j) (eqb j i) (eq-eqb j i e))
    go (no n) = orf (flies st j) ∙ ap (λ (c : Bool). flies st j || c) (sym (ne_eqb j i n))
