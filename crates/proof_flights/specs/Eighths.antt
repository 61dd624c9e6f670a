-- One eighth in use, whether the state says so yet or not: what holds of its chunks and writes, and that it stays while other eighths change or a position of it fills. Assumes nothing.
use Rattle.std.specs.Prelude.{◌≡◌, List, [], ◌∷◌, ◌++◌, map, Bool, true, cond, ◌||◌, ◌⊎◌, ◌≢◌, ℕ, suc, ◌+◌, ◌-◌, ◌*◌}
use Rattle.std.specs.Prelude.{◌≤◌, ◌<◌, leb, ltb, eqb, length, get_or}
use Rattle.std.proofs.Math.Path.{refl, sym, ap}
use Rattle.std.proofs.Common.{ap₂, ◌∙◌, subst, inl, inr, add-one}
use Rattle.std.proofs.Math.Bool.{false, not}
use Rattle.std.proofs.Math.Nat.{one-mul, zero-mul}
use native.Mathlib.Omega.{arith}
use borrow.Author.Tests.{lt-leb, ne_eqb, leb-true}
use Rattle.std.specs.Int.Bits.{bit_or, or_zero_r}
use Rattle.spec.specs.declared.Params.{Params}
use Rattle.spec.specs.declared.State.{State}
use Rattle.spec.specs.Bytes.{parity}
use Rattle.spec.specs.Drives.{mk_chunk, View, chunk_at, zone_on}
use Rattle.spec.specs.Landing.{flight_rec}
use Rattle.spec.specs.Layout.{parity_drive, data_drive, data_position, is_data, parity_position, data_drives, Rec, record_bytes}
use Rattle.spec.specs.Lists.{below, cons_if, keep, only, is_in}
use Rattle.spec.specs.Memory.{stripe_in, filled_in_of, landed_in, is_write, entry_in_of, entries_in, offset_in, is_full, add_entry, slot_block}
use Rattle.spec.specs.Params.{data_count, inflight_len}
use Rattle.spec.specs.Parity.{encode_block, encode_rec}
use Rattle.spec.specs.Write.{placed}
use Rattle.law_basic.specs.Geometry.{Ranged, data_count_high, parity_drive_lt, position_drive, data_drive_lt, data_not_parity}
use Rattle.law_basic.specs.Mask.{is_in_with}
use Rattle.law_basic.specs.Ranges.{Test, test, map-append, keep_append, keep-below_same, keep-below-snoc}
use Rattle.law_basic.specs.Ranges.Test.{yes!, no! }
use Rattle.proof_crash_calls.specs.Cells.{SameSlot, add_entry_holds, add_entry_old}
use Rattle.proof_crash_calls.proofs.Placed.{data_drive_once, placed_here, placed-other, placed-parity}
use Rattle.proof_crash_calls.specs.Rel.{RowsLong}
use Rattle.proof_crash_calls.specs.Slots.{data_blocks_same}
use Rattle.spec_demands.specs.Tables.{Pending}
use Rattle.law_code.specs.Chunks.{flight_data}
use Rattle.law_code.specs.Single.{encode_block_xor}
use Rattle.law_drives.specs.Members.{keep_in, map_cong, below_in}
use Rattle.law_drives.specs.Tests.{clash, cond_true, cond_false, not_so, eqb_self}
use Rattle.proof_tables.specs.Run.{Lists}
use Rattle.proof_tables.specs.Slots.{filled-added, add_writes}
use Rattle.proof_flights.specs.Flown.{pending_of}
use Rattle.spec.specs.Segments.{open_segment, open_segments}

-- a block that fills the next position of eighth i, as one that waits
abbrev pub freshly : Params → State → ℕ → ℕ → ℕ → List ℕ → Pending
freshly p st i a t b = record { stripe = stripe_in st i; drive = data_drive p (stripe_in st i) (filled_in_of st i); address = a; stamp = t; block = b }

-- those that wait, with one more where it is a write
abbrev pub plus : List Pending → ℕ → Pending → List Pending
plus ws w x = ws ++ cons_if (eqb w 1) x []

-- the writes of a stripe among those that wait
abbrev pub waits_of : List Pending → ℕ → List Pending
waits_of ws s = keep (λ (w : Pending). eqb w.stripe s) ws

pub record Eighth (p : Params) (v : View) (st : State) (fl : List ℕ) (ws : List Pending) (i : ℕ) : Type 0 where
  pub few : filled_in_of st i ≤ data_count p
  pub data_low : (d : ℕ) → d < p.N → is_in (landed_in st i) d ≡ true → is_data p (stripe_in st i) d ≡ true → data_position p (stripe_in st i) d < filled_in_of st i
  pub landed_here : (d : ℕ) → d < p.N → is_in (landed_in st i) d ≡ true
      → chunk_at v d (zone_on (open_segment p v st) d) (1 + offset_in st i d) ≡ mk_chunk (slot_block p fl i d) (record_bytes (flight_rec p st i d))
  pub full_landed : is_in (landed_in st i) (parity_drive p (stripe_in st i)) ≡ true → is_full p st i ≡ true
  pub full_ready : is_full p st i ≡ true → slot_block p fl i (parity_drive p (stripe_in st i)) ≡ encode_block p.B 0 (map (slot_block p fl i) (data_drives p (stripe_in st i)))
  pub waits_are : waits_of ws (stripe_in st i) ≡ map (pending_of p st fl i) (keep (is_write st i) (below (filled_in_of st i)))
  pub unmarked : (k : ℕ) → filled_in_of st i ≤ k → k < 8 → is_write st i k ≡ false

pub lists_long : (st : State) → Lists st → RowsLong st
lists_long st l = record {
  numbers = l.numbers_long;
  filled = l.filled_long;
  writes = l.writes_long;
  landed = l.landed_long;
  addresses = l.addresses_long;
  stamps = l.stamps_long;
  offsets = l.offsets_long;
}

-- ---- the record of a chunk in flight

flight_parts : (p : Params) (st : State) (i d : ℕ) → flight_rec p st i d
    ≡ cond (is_data p (stripe_in st i) d) (entry_in_of st i (data_position p (stripe_in st i) d))
    (encode_rec (parity_position p (stripe_in st i) d) (stripe_in st i) (map (entry_in_of st i) (below (filled_in_of st i))))
unfolding flight_rec entries_in
flight_parts p st i d = refl

position_small : (p : Params) (s d : ℕ) → data_position p s d ≤ d
unfolding data_position
position_small p s d = go (test (ltb d (parity_drive p s)))
  where
    go : Test (ltb d (parity_drive p s)) → cond (ltb d (parity_drive p s)) d (d - 1) ≤ d
    go (yes! q) = subst (λ (x : ℕ). x ≤ d) (sym (cond_true (ltb d (parity_drive p s)) d (d - 1) q)) (omega arith)
    go (no! q) = subst (λ (x : ℕ). x ≤ d) (sym (cond_false (ltb d (parity_drive p s)) d (d - 1) q)) (omega arith)

-- a parity block as the crash theory has it
encoded : (n : ℕ) (bs : List (List ℕ)) (x : List ℕ) → x ≡ parity n bs → x ≡ encode_block n 0 bs
encoded n bs x e = e ∙ sym (encode_block_xor n 0 bs)

-- ---- an eighth that stays

module _ (p : Params) (r : Ranged p) (v u : View) (st su : State) (fl fl' : List ℕ) (ws ws' : List Pending) (j : ℕ) (s : SameSlot st su j)
    (bs : (d : ℕ) → d < p.N → slot_block p fl' j d ≡ slot_block p fl j d)
    (cs : (d b : ℕ) → d < p.N → chunk_at u d (zone_on (open_segment p u su) d) b ≡ chunk_at v d (zone_on (open_segment p v st) d) b)
    (kp : waits_of ws' (stripe_in st j) ≡ waits_of ws (stripe_in st j)) where
  seven : data_count p ≤ 7
  seven = data_count_high p r

  drive_8 : (d : ℕ) → d < p.N → d < 8
  drive_8 d h = omega (arith, r.drives_high)

  rec_same : filled_in_of st j ≤ data_count p → (d : ℕ) → d < p.N → flight_rec p su j d ≡ flight_rec p st j d
  rec_same l d hd =
      let ee : map (entry_in_of su j) (below (filled_in_of su j)) ≡ map (entry_in_of st j) (below (filled_in_of st j)) =
      ap (λ (n : ℕ). map (entry_in_of su j) (below n)) s.filled
      ∙ map_cong (entry_in_of su j) (entry_in_of st j) (below (filled_in_of st j)) (λ k m. s.entry k (let x = below_in (filled_in_of st j) k m in omega (arith, seven))) in
      let e1 : entry_in_of su j (data_position p (stripe_in su j) d) ≡ entry_in_of st j (data_position p (stripe_in st j) d) =
      s.entry (data_position p (stripe_in su j) d) (let x = position_small p (stripe_in su j) d in let y = drive_8 d hd in omega arith)
      ∙ ap (λ (n : ℕ). entry_in_of st j (data_position p n d)) s.number in
      flight_parts p su j d ∙ (λ i. cond (is_data p (s.number i) d) (e1 i) (encode_rec (parity_position p (s.number i) d) (s.number i) (ee i))) ∙ sym (flight_parts p st j d)

  full_same : is_full p su j ≡ is_full p st j
  unfolding is_full
  full_same = ap (leb (data_count p)) s.filled

  sent_same : (k : ℕ) → k < data_count p → pending_of p su fl' j k ≡ pending_of p st fl j k
  unfolding pending_of
  sent_same k h =
      let e = s.entry k (omega (arith, seven)) in
      let eb : slot_block p fl' j (data_drive p (stripe_in su j) k) ≡ slot_block p fl j (data_drive p (stripe_in st j) k) =
      ap (λ (n : ℕ). slot_block p fl' j (data_drive p n k)) s.number ∙ bs (data_drive p (stripe_in st j) k) (data_drive_lt p (stripe_in st j) k h) in
      λ i. record { stripe = s.number i; drive = data_drive p (s.number i) k; address = (e i).address; stamp = (e i).stamp; block = eb i }

  pub eighth_same : Eighth p v st fl ws j → Eighth p u su fl' ws' j
  eighth_same o = record {
    few = subst (λ (n : ℕ). n ≤ data_count p) (sym s.filled) o.few;
    data_low = λ d hd q x.
        subst (λ (n : ℕ). data_position p n d < filled_in_of su j) (sym s.number) (subst (λ (n : ℕ). data_position p (stripe_in st j) d < n) (sym s.filled)
        (o.data_low d hd (landed_was d q) (ap (λ (n : ℕ). is_data p n d) (sym s.number) ∙ x)));
    landed_here = λ d hd q.
        ap (λ (n : ℕ). chunk_at u d (zone_on (open_segment p u su) d) (1 + n)) (s.offset d (drive_8 d hd)) ∙ cs d (1 + offset_in st j d) hd ∙ o.landed_here d hd (landed_was d q)
        ∙ ap₂ (λ (x : List ℕ) (y : Rec). mk_chunk x (record_bytes y)) (sym (bs d hd)) (sym (rec_same o.few d hd));
    full_landed = λ q. full_same ∙ o.full_landed (ap (λ (n : ℕ). is_in (landed_in st j) (parity_drive p n)) (sym s.number) ∙ landed_was (parity_drive p (stripe_in su j)) q);
    full_ready = λ q.
        ap (λ (n : ℕ). slot_block p fl' j (parity_drive p n)) s.number ∙ bs (parity_drive p (stripe_in st j)) (parity_drive_lt p (stripe_in st j) (omega (arith, r.drives_low)))
        ∙ o.full_ready (sym full_same ∙ q)
        ∙ ap (encode_block p.B 0) (data_blocks_same p fl fl' j (stripe_in st j) (λ k h. sym (bs (data_drive p (stripe_in st j) k) (data_drive_lt p (stripe_in st j) k h))))
        ∙ ap (λ (n : ℕ). encode_block p.B 0 (map (slot_block p fl' j) (data_drives p n))) (sym s.number);
    waits_are =
        ap (waits_of ws') s.number ∙ kp ∙ o.waits_are
        ∙ map_cong (pending_of p st fl j) (pending_of p su fl' j) (keep (is_write st j) (below (filled_in_of st j)))
        (λ k m. let x = below_in (filled_in_of st j) k (keep_in (is_write st j) (below (filled_in_of st j)) k m).0 in sym (sent_same k (omega (arith, o.few))))
        ∙ ap (map (pending_of p su fl' j)) (keep-below_same (is_write st j) (is_write su j) (filled_in_of st j) (λ k h. sym (s.write k))
        ∙ ap (λ (n : ℕ). keep (is_write su j) (below n)) (sym s.filled));
    unmarked = λ k l h. s.write k ∙ o.unmarked k (subst (λ (n : ℕ). n ≤ k) s.filled l) h;
  }
    where
      landed_was : (d : ℕ) → is_in (landed_in su j) d ≡ true → is_in (landed_in st j) d ≡ true
      landed_was d q = ap (λ (n : ℕ). is_in n d) (sym s.landed) ∙ q

-- ---- the next position of it is filled

module _ (p : Params) (r : Ranged p) (v : View) (st : State) (ls : Lists st) (fl : List ℕ) (long : length fl ≡ inflight_len p) (ws : List Pending) (i : ℕ) (il : i < 8)
    (a t w : ℕ) (b : List ℕ) (bl : length b ≡ p.B) (kl : filled_in_of st i < data_count p) (hw : (w ≡ 0) ⊎ (w ≡ 1)) (o : Eighth p v st fl ws i) where
  abbrev k : ℕ
  k = filled_in_of st i

  abbrev s : ℕ
  s = stripe_in st i

  abbrev d₀ : ℕ
  d₀ = data_drive p (stripe_in st i) (filled_in_of st i)

  abbrev st' : State
  st' = add_entry st i a t w

  abbrev now : List ℕ
  now = (placed p st fl i a t w b).inflight

  L : RowsLong st
  L = lists_long st ls

  abbrev fresh : Pending
  fresh = freshly p st i a t b

  k8 : filled_in_of st i < 8
  k8 = omega (arith, data_count_high p r)

  filled_is : filled_in_of st' i ≡ suc k
  filled_is = filled-added st ls i il a t w

  number_is : stripe_in st' i ≡ s
  unfolding add_entry stripe_in
  number_is = refl

  not_full : is_full p st i ≡ false
  unfolding is_full
  not_full = lt-leb (data_count p) (filled_in_of st i) kl

  no_parity : is_in (landed_in st i) (parity_drive p s) ≡ false
  no_parity = not_so (is_in (landed_in st i) (parity_drive p s)) (λ q. clash (o.full_landed q) not_full)

  landed_data : (d : ℕ) → is_in (landed_in st i) d ≡ true → (d ≢ parity_drive p s) × (is_data p s d ≡ true)
  landed_data d q =
      let n : d ≢ parity_drive p s = λ e. clash q (ap (is_in (landed_in st i)) e ∙ no_parity) in
      (n, is_data_holds n)
    where
      is_data_holds : d ≢ parity_drive p s → is_data p s d ≡ true
      is_data_holds n = unfold is_data in ap not (ne_eqb d (parity_drive p s) n)

  landed_old : (d : ℕ) → d < p.N → is_in (landed_in st i) d ≡ true → d ≢ d₀
  landed_old d hd q e =
      let x = o.data_low d hd q (landed_data d q).1 in
      let y : data_position p s d ≡ k = ap (data_position p s) e ∙ position_drive p s k in
      let bad : ⊥ = omega arith in bad

  -- a chunk that has landed: its block and record stay
  rec_stays : (d : ℕ) → d < p.N → is_in (landed_in st i) d ≡ true → flight_rec p st i d ≡ flight_rec p st' i d
  rec_stays d hd q =
      let da = (landed_data d q).1 in
      let x = o.data_low d hd q da in
      flight_data p st i d da ∙ sym (add_entry_old st L i il a t w k8 i (data_position p s d) (omega (arith, k8)) (inr (λ e. let bad : ⊥ = omega arith in bad)))
      ∙ ap (λ (n : ℕ). entry_in_of st' i (data_position p n d)) (sym number_is) ∙ sym (flight_data p st' i d (ap (λ (n : ℕ). is_data p n d) number_is ∙ da))

  block_stays : (d : ℕ) → d < p.N → is_in (landed_in st i) d ≡ true → slot_block p fl i d ≡ slot_block p now i d
  block_stays d hd q = sym (placed-other p r st L fl long i il a t w b bl kl i d il hd (inr (landed_old d hd q, (landed_data d q).0)))

  -- ---- the writes

  mark_none : w ≡ 0 → (e : ℕ) → is_write st' i e ≡ is_write st i e
  unfolding is_write
  mark_none q e =
      ap (λ (n : ℕ). is_in n e) (add_writes st ls i il a t w
      ∙ ap (bit_or (get_or st.writes i 0)) (ap (λ (n : ℕ). n * only (filled_in_of st i)) q ∙ zero-mul (only (filled_in_of st i))) ∙ or_zero_r (get_or st.writes i 0))

  mark_one : w ≡ 1 → (e : ℕ) → e < 8 → is_write st' i e ≡ (eqb e k || is_write st i e)
  unfolding is_write
  mark_one q e he =
      ap (λ (n : ℕ). is_in n e) (add_writes st ls i il a t w ∙ ap (bit_or (get_or st.writes i 0)) (ap (λ (n : ℕ). n * only (filled_in_of st i)) q ∙ one-mul (only (filled_in_of st i))))
      ∙ is_in_with (get_or st.writes i 0) (filled_in_of st i) e k8 he

  mark_old : (e : ℕ) → e < 8 → e ≢ k → is_write st' i e ≡ is_write st i e
  mark_old e he n = go hw
    where
      go : (w ≡ 0) ⊎ (w ≡ 1) → is_write st' i e ≡ is_write st i e
      go (inl q) = mark_none q e
      go (inr q) = mark_one q e he ∙ ap (λ (x : Bool). x || is_write st i e) (ne_eqb e k n)

  mark_new : is_write st' i k ≡ eqb w 1
  mark_new = go hw
    where
      go : (w ≡ 0) ⊎ (w ≡ 1) → is_write st' i k ≡ eqb w 1
      go (inl q) = mark_none q k ∙ o.unmarked k (omega arith) k8 ∙ ap (λ (n : ℕ). eqb n 1) (sym q)
      go (inr q) = mark_one q k k8 ∙ ap (λ (x : Bool). x || is_write st i k) (eqb_self k) ∙ ap (λ (n : ℕ). eqb n 1) (sym q)

  sent_old : (e : ℕ) → e < k → pending_of p st fl i e ≡ pending_of p st' now i e
  unfolding pending_of
  sent_old e he =
      let en = add_entry_old st L i il a t w k8 i e (omega (arith, k8)) (inr (λ q. let bad : ⊥ = omega arith in bad)) in
      let eb : slot_block p now i (data_drive p s e) ≡ slot_block p fl i (data_drive p s e) =
      placed-other p r st L fl long i il a t w b bl kl i (data_drive p s e) il (data_drive_lt p s e (omega arith))
      (inr ((λ q. let x = data_drive_once p s e k q in let bad : ⊥ = omega arith in bad), λ q. data_not_parity p s e q)) in
      let ec : slot_block p now i (data_drive p (stripe_in st' i) e) ≡ slot_block p fl i (data_drive p s e) = ap (λ (n : ℕ). slot_block p now i (data_drive p n e)) number_is ∙ eb in
      sym (λ x. record { stripe = number_is x; drive = data_drive p (number_is x) e; address = (en x).address; stamp = (en x).stamp; block = ec x })

  sent_new : pending_of p st' now i k ≡ fresh
  unfolding pending_of
  sent_new =
      let en = add_entry_holds st L i il a t w k8 in
      let eb : slot_block p now i (data_drive p (stripe_in st' i) k) ≡ b = ap (λ (n : ℕ). slot_block p now i (data_drive p n k)) number_is ∙ placed_here p r st L fl long i il a t w b bl kl in
      λ x. record { stripe = number_is x; drive = data_drive p (number_is x) k; address = (en x).address; stamp = (en x).stamp; block = eb x }

  waits_now : waits_of (plus ws w fresh) s ≡ map (pending_of p st' now i) (keep (is_write st' i) (below (suc k)))
  waits_now =
      keep_append (λ (x : Pending). eqb x.stripe s) ws (cons_if (eqb w 1) fresh [])
      ∙ ap₂ ◌++◌ (o.waits_are
      ∙ map_cong (pending_of p st fl i) (pending_of p st' now i) (keep (is_write st i) (below k)) (λ e m. sent_old e (below_in k e (keep_in (is_write st i) (below k) e m).0))
      ∙ ap (map (pending_of p st' now i)) (keep-below_same (is_write st i) (is_write st' i) k (λ e h. sym (mark_old e (omega (arith, k8)) (λ q. let bad : ⊥ = omega arith in bad))))) last
      ∙ sym (map-append (pending_of p st' now i) (keep (is_write st' i) (below k)) (cons_if (is_write st' i k) k []))
      ∙ ap (map (pending_of p st' now i)) (sym (keep-below-snoc (is_write st' i) k) ∙ ap (λ (n : ℕ). keep (is_write st' i) (below n)) (add-one k))
    where
      last : keep (λ (x : Pending). eqb x.stripe s) (cons_if (eqb w 1) fresh []) ≡ map (pending_of p st' now i) (cons_if (is_write st' i k) k [])
      last = go (eqb w 1) mark_new
        where
          go : (c : Bool) → is_write st' i k ≡ c → keep (λ (x : Pending). eqb x.stripe s) (cons_if c fresh []) ≡ map (pending_of p st' now i) (cons_if (is_write st' i k) k [])
          go true e = unfold keep cons_if in rw (e, eqb_self s) (ap (λ (x : Pending). x ∷ []) (sym sent_new))
          go false e = unfold keep cons_if in rw e

  pub eighth_add : Eighth p v (add_entry st i a t w) (placed p st fl i a t w b).inflight (plus ws w (freshly p st i a t b)) i
  eighth_add = record {
    few = subst (λ (n : ℕ). n ≤ data_count p) (sym filled_is) kl;
    data_low = λ d hd q x.
        subst (λ (n : ℕ). data_position p n d < filled_in_of st' i) (sym number_is) (subst (λ (n : ℕ). data_position p s d < n) (sym filled_is)
        (let y = o.data_low d hd (landed_was d q) (ap (λ (n : ℕ). is_data p n d) (sym number_is) ∙ x) in omega arith));
    landed_here = λ d hd q.
        chunk_stays d ∙ o.landed_here d hd (landed_was d q)
        ∙ ap₂ (λ (x : List ℕ) (y : Rec). mk_chunk x (record_bytes y)) (block_stays d hd (landed_was d q)) (rec_stays d hd (landed_was d q));
    full_landed = λ q. clash (ap (λ (n : ℕ). is_in (landed_in st i) (parity_drive p n)) (sym number_is) ∙ landed_was (parity_drive p (stripe_in st' i)) q) no_parity;
    full_ready = λ q. subst (λ (n : ℕ). slot_block p now i (parity_drive p n) ≡ encode_block p.B 0 (map (slot_block p now i) (data_drives p n))) (sym number_is)
        (encoded p.B (map (slot_block p now i) (data_drives p s)) (slot_block p now i (parity_drive p s)) (placed-parity p r st L fl long i il a t w b bl kl (full_count q)));
    waits_are =
        ap (waits_of (plus ws w fresh)) number_is ∙ waits_now ∙ ap (λ (n : ℕ). map (pending_of p st' now i) (keep (is_write st' i) (below n))) (sym filled_is);
    unmarked = λ e l h. let x = filled_is in mark_old e h (λ q. let bad : ⊥ = omega arith in bad) ∙ o.unmarked e (omega arith) h;
  }
    where
      landed_was : (d : ℕ) → is_in (landed_in st' i) d ≡ true → is_in (landed_in st i) d ≡ true
      landed_was d q = unfold add_entry landed_in in q

      chunk_stays : (d : ℕ) → chunk_at v d (zone_on (open_segment p v st') d) (1 + offset_in st' i d) ≡ chunk_at v d (zone_on (open_segment p v st) d) (1 + offset_in st i d)
      chunk_stays d = unfold add_entry open_segment open_segments offset_in in refl

      full_count : is_full p st' i ≡ true → suc k ≡ data_count p
      full_count q = let x = leb-true (data_count p) (filled_in_of st' i) (as! q) in let y = filled_is in omega arith
        where
          as! : is_full p st' i ≡ true → leb (data_count p) (filled_in_of st' i) ≡ true
          as! q = unfold is_full in q
