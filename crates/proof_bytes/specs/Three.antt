-- Demand 3 on the lent bytes, from demand 3 with the state as a value: histories on bytes, decoded, are histories on values, step by step. Assumes nothing.
use Rattle.std.specs.Prelude.{◌≡◌, List, [], ◌∷◌, Bool, ◌&&◌, ℕ, ◌*◌, ◌<◌, ltb, eqb, length, replicate}
use Rattle.std.proofs.Math.Path.{refl, ap, ap₂, subst}
use Rattle.std.proofs.Common.{sym, ◌∙◌, eq-eqb, ne_eqb}
use Rattle.std.proofs.Math.Bool.{true, false, cond, not, and-true, and-false}
use Rattle.std.proofs.Math.Decide.{ℕ_discrete}
use Rattle.std.proofs.lemmas.List.{length-replicate}
use Rattle.spec.specs.declared.Params.{Params}
use Rattle.spec.specs.declared.State.{State}
use Rattle.spec.specs.declared.Answer.{Answer}
use Rattle.spec.specs.Answers.{is_refused, is_refused_as, finished}
use Rattle.spec.specs.Bytes.{splice}
use Rattle.spec.specs.Calls.{After}
use Rattle.spec.specs.Demands.{are_bytes, ReadOk, SameAs, RestartOk, ClaimOf, Allowed, Claims}
use Rattle.spec.specs.Drives.{Disk, mk_disk, pointer_byte, list_ok}
use Rattle.spec.specs.Engine.{Call, lent_block, lent_ok_of, call_disk, Lent, Left, lent_disk, lent_memory, call_bytes}
use Rattle.spec.specs.Engine.Call.{read, fill, restart}
use Rattle.spec.specs.History.{World, mk_world, Event, call_of, restart_of, in_order_of, swapped, before, happens, only_if, orderly, restart_in, world_after, sent_after}
use Rattle.spec.specs.History.{untrusted_after, Mark, Hist, marked}
use Rattle.spec.specs.History.{step}
use Rattle.spec.specs.History.{began, names_all, allowed, seen_by, seen_at}
use Rattle.spec.specs.History.Event.{calls as calls', boots as boots'}
use Rattle.spec.specs.Lists.{Opt, cons_if}
use Rattle.spec.specs.Lists.Opt.{none, some}
use Rattle.spec.specs.Memory.{mk_memory, state_len}
use Rattle.spec.specs.Params.{in_range, drive_len, addresses_len, compact_len, inflight_len, named}
use Rattle.spec.specs.Restart.{names_drive}
use Rattle.law_basic.specs.Ranges.{and_left, and_right, and_both}
use Rattle.law_calls.specs.Refusals.{refused_unfinished}
use Rattle.proof_crash.proofs.Demand.{demand_3}
use Rattle.law_lent.specs.Shorts.{short_refused}
use Rattle.proof_crash_calls.proofs.Join.{sent-refused}
use Rattle.spec_demands.specs.Engines.{on_bytes, call_lent, reads_as}
use Rattle.spec_demands.specs.Histories.{LentEvent, lent_call, with_disk, lent_in_order, lent_before, lent_happens, lent_orderly, lent_restart, lent_after, LentMark}
use Rattle.spec_demands.specs.Histories.{LentHist, lent_marked, lent_step, lent_began}
use Rattle.spec_demands.specs.Histories.{lent_bytes, event_bytes, lent_allowed, LentAllowed, LentSame, LentClaim, LentClaims, Demand3}
use Rattle.spec_demands.specs.Histories.LentEvent.{calls, boots}
use Rattle.law_drives.specs.Image.{bytes_of_lem}
use Rattle.law_drives.specs.Laid.{bytes_nil, bytes_zeros}
use Rattle.law_drives.specs.Tests.{cond_true, cond_false}
use Rattle.law_drives.specs.Zones.{Bytes}
use Rattle.proof_bytes.specs.Sections.{StateFits, state_of_zeros}
use Rattle.proof_bytes.specs.Images.{bytes_splice}
use Rattle.proof_bytes.specs.Kept.{LentBytes, call_fits, call_bytes_holds, decoded, state_long, simulates_bytes}
use Rattle.proof_bytes.specs.Two.{world_of, short_answer_lem, list_same}

-- ---- lent bytes of their length

pub record GoodBytes (off : List ℕ) (l : Lent) : Type 0 where
  pub listed : l.offline ≡ off
  pub bytes : LentBytes l
  pub long : length l.state ≡ state_len

module _ (p : Params) (off : List ℕ) (l : Lent) (g : GoodBytes off l) (c : Call) (b : Bytes (lent_block c)) where
  lent_call_fits : StateFits (call_disk p l.offline (lent_disk l) (lent_memory l) c).memory.state
  lent_call_fits = call_fits p l c g.bytes b

  good_same : decoded (call_bytes p l c) ≡ call_disk p off (lent_disk l) (lent_memory l) c
  good_same = simulates_bytes p l c g.bytes b g.long ∙ ap (λ (o : List ℕ). call_disk p o (lent_disk l) (lent_memory l) c) g.listed

  good_on : GoodBytes off (call_bytes p l c).lent
  good_on = record { listed = list_same p l c ∙ g.listed; bytes = (call_bytes_holds p l c g.bytes b).0; long = state_long p l c g.long lent_call_fits }

seen_same : (p : Params) (off : List ℕ) (l : Lent) → GoodBytes off l → (a : ℕ) → reads_as on_bytes p l a ≡ seen_at p off (world_of l) a
unfolding reads_as call_lent seen_at
seen_same p off l g a =
    ap₂ (λ (r s : After Disk). seen_by r.answer s.answer s.block) (good_same p off l g (read a) read!) (good_same p off l g (fill a (replicate p.B 0)) fill!)
  where
    fill! : Bytes (lent_block (fill a (replicate p.B 0)))
    fill! = unfold lent_block in bytes_zeros p.B

    read! : Bytes (lent_block (read a))
    read! = unfold lent_block in bytes_nil

-- ---- events

-- a restart whose state has another length is refused and leaves all as it was: on values nothing happens
unfoldable pub events_of : List LentEvent → List Event
events_of [] = []
events_of (calls c ∷ es) = calls' c ∷ events_of es
events_of (boots d n u im ps ∷ es) = cons_if (eqb (length u.state) state_len) (boots' d n (lent_memory u) im ps) (events_of es)

-- an event on bytes, and the same on values
pub data SameEvent : LentEvent → Event → Type 0 where
  same_calls : (c : Call) → SameEvent (calls c) (calls' c)
  same_boots : (d n : ℕ) (u : Lent) (im ps : List ℕ) → length u.state ≡ state_len → SameEvent (boots d n u im ps) (boots' d n (lent_memory u) im ps)

with_disk_lem : (o : List ℕ) (u : Lent) (k : Disk) → world_of (with_disk o u k) ≡ mk_world k (lent_memory u)
unfolding with_disk lent_disk lent_memory
with_disk_lem o u k = refl

order_same : (p : Params) (off : List ℕ) (l : Lent) (d : ℕ) → l.offline ≡ off → length l.state ≡ state_len → lent_in_order p l d ≡ in_order_of p off (world_of l) d
unfolding lent_in_order in_order_of
order_same p off l d o e =
    ap (λ (b : Bool). in_range p && names_drive p d && lent_ok_of p l.offline (lent_disk l) (lent_memory l) && list_ok p l.offline && b) (eq-eqb (length l.state) state_len e)
    ∙ and-true (in_range p && names_drive p d && lent_ok_of p l.offline (lent_disk l) (lent_memory l) && list_ok p l.offline)
    ∙ ap (λ (x : List ℕ). in_range p && names_drive p d && lent_ok_of p x (lent_disk l) (lent_memory l) && list_ok p x) o

order_short : (p : Params) (l : Lent) (d : ℕ) → (length l.state ≡ state_len → ⊥) → lent_in_order p l d ≡ false
unfolding lent_in_order
order_short p l d e =
    ap (λ (b : Bool). in_range p && names_drive p d && lent_ok_of p l.offline (lent_disk l) (lent_memory l) && list_ok p l.offline && b) (ne_eqb (length l.state) state_len e)
    ∙ and-false (in_range p && names_drive p d && lent_ok_of p l.offline (lent_disk l) (lent_memory l) && list_ok p l.offline)

with_state : (o : List ℕ) (u : Lent) (k : Disk) → (with_disk o u k).state ≡ u.state
unfolding with_disk
with_state o u k = refl

with_list : (o : List ℕ) (u : Lent) (k : Disk) → (with_disk o u k).offline ≡ o
unfolding with_disk
with_list o u k = refl

module _ (p : Params) (off : List ℕ) (l : Lent) (o : l.offline ≡ off) (d n : ℕ) (u : Lent) (im ps : List ℕ) where
  abbrev k : Disk
  k = lent_disk l

  with_long : (k : Disk) → length u.state ≡ state_len → length (with_disk l.offline u k).state ≡ state_len
  with_long k e = ap length (with_state l.offline u k) ∙ e

  boot_order : length u.state ≡ state_len → lent_in_order p (with_disk l.offline u k) d ≡ in_order_of p off (mk_world k (lent_memory u)) d
  boot_order e = order_same p off (with_disk l.offline u k) d (with_list l.offline u k ∙ o) (with_long k e) ∙ ap (λ (w : World). in_order_of p off w d) (with_disk_lem l.offline u k)

  boot-before : length u.state ≡ state_len → world_of (lent_before p l (boots d n u im ps)) ≡ before p off (world_of l) (boots' d n (lent_memory u) im ps)
  unfolding lent_before before
  boot-before e = go (lent_in_order p (with_disk l.offline u k) d) ∙ ap (λ (b : Bool). cond b (mk_world (swapped p k d im ps) (lent_memory u)) (mk_world k (lent_memory u))) (boot_order e)
    where
      go : (b : Bool) → world_of (cond b (with_disk l.offline u (swapped p k d im ps)) (with_disk l.offline u k))
          ≡ cond b (mk_world (swapped p k d im ps) (lent_memory u)) (mk_world k (lent_memory u))
      go true = with_disk_lem l.offline u (swapped p k d im ps)
      go false = with_disk_lem l.offline u k

  boot-after : length u.state ≡ state_len → (r : Left) → world_of (lent_after p l (boots d n u im ps) r) ≡ world_after p off (world_of l) (boots' d n (lent_memory u) im ps) (decoded r)
  unfolding lent_after world_after
  boot-after e r = go (lent_in_order p (with_disk l.offline u k) d) ∙ ap (λ (b : Bool). cond b (world_of r.lent) (world_of l)) (boot_order e)
    where
      go : (b : Bool) → world_of (cond b r.lent l) ≡ cond b (world_of r.lent) (world_of l)
      go true = refl
      go false = refl

swapped_bytes : (p : Params) (k : Disk) (d : ℕ) (im ps : List ℕ) → Bytes k.image → Bytes im → Bytes (swapped p k d im ps).image
unfolding swapped
swapped_bytes p k d im ps h g = go (ltb d p.N && eqb (length im) (drive_len p) && eqb (length ps) (4 * p.Z))
  where
    go : (b : Bool) → Bytes (cond b (mk_disk (splice k.image (d * drive_len p) im) (splice k.pointers (pointer_byte p d 0) ps)) k).image
    go true = bytes_splice k.image (d * drive_len p) im h g
    go false = h

-- what an event brings
boot_bytes : (d n : ℕ) (u : Lent) (im ps : List ℕ) → event_bytes (boots d n u im ps) ≡ true → Bytes u.inflight × Bytes u.state × Bytes im
unfolding event_bytes lent_bytes
boot_bytes d n u im ps q =
    let a = are_bytes u.image && are_bytes u.pointers && are_bytes u.addresses && are_bytes u.compact in
    let b = are_bytes u.inflight in
    let c = are_bytes u.state in
    let e = and_left (a && b && c && are_bytes im) (are_bytes ps) q in
    let f = and_left (a && b && c) (are_bytes im) e in
    let g = and_left (a && b) c f in
    (bytes_of_lem u.inflight (and_right a b g), bytes_of_lem u.state (and_right (a && b) c f), bytes_of_lem im (and_right (a && b && c) (are_bytes im) e))

good_with : (off o : List ℕ) → o ≡ off → (u : Lent) (k : Disk) → length u.state ≡ state_len → Bytes k.image → Bytes u.inflight → Bytes u.state
    → GoodBytes off (with_disk o u k)
unfolding with_disk
good_with off o x u k e h f s = record { listed = x; bytes = record { image_bytes = h; inflight_bytes = f; state_bytes_holds = s }; long = e }

-- ---- one event

module _ (p : Params) (off : List ℕ) (l : Lent) (g : GoodBytes off l) where
  good_before : (e : LentEvent) (e' : Event) → SameEvent e e' → event_bytes e ≡ true → GoodBytes off (lent_before p l e)
  unfolding lent_before
  good_before (calls c) _ (same_calls _) q = g
  good_before (boots d n u im ps) _ (same_boots _ _ _ _ _ x) q = go (lent_in_order p (with_disk l.offline u (lent_disk l)) d) (boot_bytes d n u im ps q)
    where
      im! : Bytes (lent_disk l).image
      im! = unfold lent_disk in g.bytes.image_bytes

      go : (b : Bool) → Bytes u.inflight × Bytes u.state × Bytes im
          → GoodBytes off (cond b (with_disk l.offline u (swapped p (lent_disk l) d im ps)) (with_disk l.offline u (lent_disk l)))
      go true (f, s, i) = good_with off l.offline g.listed u (swapped p (lent_disk l) d im ps) x (swapped_bytes p (lent_disk l) d im ps im! i) f s
      go false (f, s, i) = good_with off l.offline g.listed u (lent_disk l) x im! f s

  before_same : (e : LentEvent) (e' : Event) → SameEvent e e' → world_of (lent_before p l e) ≡ before p off (world_of l) e'
  before_same (calls c) _ (same_calls _) = unfold lent_before before in refl
  before_same (boots d n u im ps) _ (same_boots _ _ _ _ _ x) = boot-before p off l g.listed d n u im ps x

  call_same : (e : LentEvent) (e' : Event) → SameEvent e e' → lent_call e ≡ call_of e'
  unfolding lent_call call_of
  call_same (calls c) _ (same_calls _) = refl
  call_same (boots d n u im ps) _ (same_boots _ _ _ _ _ x) = refl

  after_same : (e : LentEvent) (e' : Event) → SameEvent e e' → (r : Left) → world_of (lent_after p l e r) ≡ world_after p off (world_of l) e' (decoded r)
  after_same (calls c) _ (same_calls _) r = unfold lent_after world_after in refl
  after_same (boots d n u im ps) _ (same_boots _ _ _ _ _ x) r = boot-after p off l g.listed d n u im ps x r

  block_bytes : (e : LentEvent) → event_bytes e ≡ true → Bytes (lent_block (lent_call e))
  unfolding event_bytes lent_call
  block_bytes (calls c) q = bytes_of_lem (lent_block c) q
  block_bytes (boots d n u im ps) q = unfold lent_block in bytes_nil

  module _ (e : LentEvent) (e' : Event) (s : SameEvent e e') (q : event_bytes e ≡ true) where
    happens_same : decoded (lent_happens p l e) ≡ happens p off (world_of l) e'
    unfolding lent_happens happens
    happens_same = good_same p off (lent_before p l e) (good_before e e' s q) (lent_call e) (block_bytes e q)
        ∙ ap₂ (λ (w : World) (c : Call). call_disk p off w.disk w.memory c) (before_same e e' s) (call_same e e' s)

    restart_same : lent_restart p l e ≡ restart_in p off (world_of l) e'
    unfolding lent_restart restart_in
    restart_same = go (restart_of (lent_call e)) ∙ ap₂ (λ (w : World) (c : Call). orderly p off w (restart_of c)) (before_same e e' s) (call_same e e' s)
      where
        go : (o : Opt ℕ) → lent_orderly p (lent_before p l e) o ≡ orderly p off (world_of (lent_before p l e)) o
        go none = unfold lent_orderly orderly in refl
        go (some d) = unfold lent_orderly orderly in ap (λ (b : Bool). only_if b (some d)) (order_same p off (lent_before p l e) d (good_before e e' s q).listed (good_before e e' s q).long)

    good_after : GoodBytes off (lent_after p l e (lent_happens p l e))
    good_after = go e (good_on p off (lent_before p l e) (good_before e e' s q) (lent_call e) (block_bytes e q))
      where
        as! : (e : LentEvent) → GoodBytes off (call_bytes p (lent_before p l e) (lent_call e)).lent → GoodBytes off (lent_happens p l e).lent
        as! e x = unfold lent_happens in x

        either : (b : Bool) (x y : Lent) → GoodBytes off x → GoodBytes off y → GoodBytes off (cond b x y)
        either true x y h k = h
        either false x y h k = k

        go : (e : LentEvent) → GoodBytes off (call_bytes p (lent_before p l e) (lent_call e)).lent → GoodBytes off (lent_after p l e (lent_happens p l e))
        go (calls c) x = unfold lent_after in as! (calls c) x
        go (boots d n u im ps) x = unfold lent_after in
            either (lent_in_order p (with_disk l.offline u (lent_disk l)) d) (lent_happens p l (boots d n u im ps)).lent l (as! (boots d n u im ps) x) g

-- ---- histories

unfoldable pub mark_of : Opt LentMark → Opt Mark
mark_of none = none
mark_of (some k) = some (record { world = world_of k.lent; sent_then = k.sent_then })

-- a history on bytes, decoded
abbrev pub hist_of : LentHist → Hist
hist_of h = record { world = world_of h.lent; sends = h.sends; untrusted = h.untrusted; mark = mark_of h.mark }

abbrev MarkGood : List ℕ → Opt LentMark → Type 0
MarkGood off none = Unit {0}
MarkGood off (some k) = GoodBytes off k.lent

-- what a history remembers are lent bytes of their length
pub record HistGood (off : List ℕ) (h : LentHist) : Type 0 where
  pub now_good : GoodBytes off h.lent
  pub mark_good : MarkGood off h.mark

module _ (p : Params) (off : List ℕ) (h : LentHist) (g : HistGood off h) (e : LentEvent) (e' : Event) (s : SameEvent e e') (q : event_bytes e ≡ true) where
  abbrev l : Lent
  l = h.lent

  event_answer : (lent_happens p l e).answer ≡ (happens p off (world_of l) e').answer
  event_answer = ap (λ (r : After Disk). r.answer) (happens_same p off l g.now_good e e' s q)

  mark_same : (b : Bool) (x : Lent) (n : ℕ) (o : Opt LentMark) → mark_of (lent_marked b x n o) ≡ marked b (world_of x) n (mark_of o)
  unfolding mark_of lent_marked marked
  mark_same true x n o = refl
  mark_same false x n o = refl

  left : Call → World → Answer → Hist
  left c w a =
      let ss = sent_after c a h.sends in
      record { world = w; sends = ss; untrusted = untrusted_after c a h.untrusted; mark = marked (finished a) w (length ss) (mark_of h.mark) }

  step_same : hist_of (lent_step p h e) ≡ step p off (hist_of h) e'
  unfolding lent_step step left
  step_same =
      let r = lent_happens p l e in
      let x = lent_after p l e r in
      let ss = sent_after (lent_call e) r.answer h.sends in
      let us = untrusted_after (lent_call e) r.answer h.untrusted in
      ap (λ (o : Opt Mark). record { world = world_of x; sends = ss; untrusted = us; mark = o }) (mark_same (finished r.answer) x (length ss) h.mark)
      ∙ ap₂ (left (lent_call e)) (after_same p off l g.now_good e e' s r ∙ ap (world_after p off (world_of l) e') (happens_same p off l g.now_good e e' s q)) event_answer
      ∙ ap (λ (c : Call). left c (world_after p off (world_of l) e' (happens p off (world_of l) e')) (happens p off (world_of l) e').answer) (call_same p off l g.now_good e e' s)

  step_good : HistGood off (lent_step p h e)
  unfolding lent_step
  step_good = record { now_good = x; mark_good = go (finished (lent_happens p l e).answer) (length (sent_after (lent_call e) (lent_happens p l e).answer h.sends)) }
    where
      x : GoodBytes off (lent_after p l e (lent_happens p l e))
      x = good_after p off l g.now_good e e' s q

      go : (b : Bool) (n : ℕ) → MarkGood off (lent_marked b (lent_after p l e (lent_happens p l e)) n h.mark)
      go true n = unfold lent_marked in x
      go false n = unfold lent_marked in g.mark_good

  allowed_same : lent_allowed p h e ≡ true → allowed p off (hist_of h) e' ≡ true
  unfolding lent_allowed allowed
  allowed_same t =
      let a = not (is_refused_as 6 (lent_happens p l e).answer) in
      let b = names_all h.untrusted (lent_restart p l e) in
      let u = and_left (event_bytes e && a) b t in
      and_both (not (is_refused_as 6 (happens p off (world_of l) e').answer)) (names_all h.untrusted (restart_in p off (world_of l) e'))
      (ap (λ (x : Answer). not (is_refused_as 6 x)) (sym event_answer) ∙ and_right (event_bytes e) a u)
      (ap (names_all h.untrusted) (sym (restart_same p off l g.now_good e e' s q)) ∙ and_right (event_bytes e && a) b t)

  same_lift : (h' : LentHist) → HistGood off h' → SameAs p off (mark_of h.mark) (hist_of h') → LentSame p h.mark h'
  same_lift h' k = go h.mark g.mark_good
    where
      go : (o : Opt LentMark) → MarkGood off o → SameAs p off (mark_of o) (hist_of h') → LentSame p o h'
      go none m x = tt
      go (some o) m x = λ n a b. seen_same p off h'.lent k.now_good a ∙ as! x n a b ∙ sym (seen_same p off o.lent m a)
        where
          as! : SameAs p off (mark_of (some o)) (hist_of h') → length h'.sends ≡ o.sent_then → (a : ℕ) → a < p.L
              → seen_at p off (world_of h'.lent) a ≡ seen_at p off (world_of o.lent) a
          as! x = unfold mark_of in x

  claim_same : ClaimOf p off (hist_of h) e' (restart_in p off (world_of l) e') → LentClaim p h e (lent_restart p l e)
  claim_same x = go (lent_restart p l e) (subst (ClaimOf p off (hist_of h) e') (sym (restart_same p off l g.now_good e e' s q)) x)
    where
      h' : LentHist
      h' = lent_step p h e

      go : (o : Opt ℕ) → ClaimOf p off (hist_of h) e' o → LentClaim p h e o
      go none x = tt
      go (some d) x =
          let y : RestartOk p off (hist_of h) (lent_happens p l e).answer (hist_of h') =
          subst (λ (a : Answer). RestartOk p off (hist_of h) a (hist_of h')) (sym event_answer) (subst (RestartOk p off (hist_of h) (happens p off (world_of l) e').answer) (sym step_same) x) in
          record {
            not_refused = y.not_refused;
            reads = λ f a b. subst (ReadOk h'.sends a) (sym (seen_same p off h'.lent step_good.now_good a)) (y.reads f a b);
            same = λ f. same_lift h' step_good (y.same f);
          }

-- ---- a restart whose state has another length

module _ (p : Params) (h : LentHist) (d n : ℕ) (u : Lent) (im ps : List ℕ) (x : length u.state ≡ state_len → ⊥) where
  abbrev e : LentEvent
  e = boots d n u im ps

  short! : (k : Disk) → length (with_disk h.lent.offline u k).state ≡ state_len → ⊥
  short! k y = x (sym (ap length (with_state h.lent.offline u k)) ∙ y)

  swap_out_of_order : lent_in_order p (with_disk h.lent.offline u (lent_disk h.lent)) d ≡ false
  swap_out_of_order = order_short p (with_disk h.lent.offline u (lent_disk h.lent)) d (short! (lent_disk h.lent))

  before_short : lent_before p h.lent (boots d n u im ps) ≡ with_disk h.lent.offline u (lent_disk h.lent)
  unfolding lent_before
  before_short =
      cond_false (lent_in_order p (with_disk h.lent.offline u (lent_disk h.lent)) d)
      (with_disk h.lent.offline u (swapped p (lent_disk h.lent) d im ps)) (with_disk h.lent.offline u (lent_disk h.lent)) swap_out_of_order

  short_restart : lent_restart p h.lent (boots d n u im ps) ≡ none
  unfolding lent_restart lent_call restart_of
  short_restart = ap (λ (l : Lent). lent_orderly p l (some d)) before_short ∙ (unfold lent_orderly in (ap (λ (b : Bool). only_if b (some d)) swap_out_of_order ∙ (unfold only_if in refl)))

  refuses : is_refused (lent_happens p h.lent (boots d n u im ps)).answer ≡ true
  unfolding lent_happens lent_call
  refuses = ap (λ (l : Lent). is_refused (call_bytes p l (restart d n)).answer) before_short
      ∙ ap is_refused (short_answer_lem p (with_disk h.lent.offline u (lent_disk h.lent)) d n (short! (lent_disk h.lent))) ∙ short_refused (in_range p && names_drive p d)

  -- nothing changes
  short_step : lent_step p h (boots d n u im ps) ≡ h
  unfolding lent_step lent_after lent_call
  short_step = λ j. record {
    lent = lent_is j;
    sends = sends_is j;
    untrusted = untrusted_is j;
    mark = mark_is (lent_after p h.lent (boots d n u im ps) (lent_happens p h.lent (boots d n u im ps))) (length (sent_after (restart d n) a h.sends)) j;
  }
    where
      a : Answer
      a = (lent_happens p h.lent (boots d n u im ps)).answer

      lent_is : cond (lent_in_order p (with_disk h.lent.offline u (lent_disk h.lent)) d) (lent_happens p h.lent (boots d n u im ps)).lent h.lent ≡ h.lent
      lent_is = cond_false (lent_in_order p (with_disk h.lent.offline u (lent_disk h.lent)) d) (lent_happens p h.lent (boots d n u im ps)).lent h.lent swap_out_of_order

      sends_is : sent_after (restart d n) a h.sends ≡ h.sends
      sends_is = sent-refused (restart d n) a h.sends refuses

      untrusted_is : untrusted_after (restart d n) a h.untrusted ≡ h.untrusted
      untrusted_is = unfold untrusted_after in cond_true (is_refused a) h.untrusted (named d) refuses

      mark_is : (x : Lent) (n : ℕ) → lent_marked (finished a) x n h.mark ≡ h.mark
      mark_is x n = ap (λ (b : Bool). lent_marked b x n h.mark) (refused_unfinished a refuses) ∙ (unfold lent_marked in refl)

-- ---- lists of events

bytes_first : (p : Params) (h : LentHist) (e : LentEvent) → lent_allowed p h e ≡ true → event_bytes e ≡ true
unfolding lent_allowed
bytes_first p h e t =
    let a = not (is_refused_as 6 (lent_happens p h.lent e).answer) in
    and_left (event_bytes e) a (and_left (event_bytes e && a) (names_all h.untrusted (lent_restart p h.lent e)) t)

events_boot : (d n : ℕ) (u : Lent) (im ps : List ℕ) (es : List LentEvent) → length u.state ≡ state_len
    → events_of (boots d n u im ps ∷ es) ≡ boots' d n (lent_memory u) im ps ∷ events_of es
unfolding events_of cons_if
events_boot d n u im ps es x = ap (λ (b : Bool). cons_if b (boots' d n (lent_memory u) im ps) (events_of es)) (eq-eqb (length u.state) state_len x)

events_short : (d n : ℕ) (u : Lent) (im ps : List ℕ) (es : List LentEvent) → (length u.state ≡ state_len → ⊥) → events_of (boots d n u im ps ∷ es) ≡ events_of es
unfolding events_of cons_if
events_short d n u im ps es x = ap (λ (b : Bool). cons_if b (boots' d n (lent_memory u) im ps) (events_of es)) (ne_eqb (length u.state) state_len x)

events_call : (c : Call) (es : List LentEvent) → events_of (calls c ∷ es) ≡ calls' c ∷ events_of es
unfolding events_of
events_call c es = refl

-- one event, and the rest
module _ (p : Params) (off : List ℕ) (h : LentHist) (g : HistGood off h) (e : LentEvent) (e' : Event) (s : SameEvent e e') (t : lent_allowed p h e ≡ true) where
  abbrev by : event_bytes e ≡ true
  by = bytes_first p h e t

  allowed-cons : (es : List Event) → Allowed p off (hist_of (lent_step p h e)) es → Allowed p off (hist_of h) (e' ∷ es)
  allowed-cons es x = (allowed_same p off h g e e' s by t, subst (λ (y : Hist). Allowed p off y es) (step_same p off h g e e' s by) x)

  claims_cons : (ds : List LentEvent) (es : List Event) → (Claims p off (hist_of (lent_step p h e)) es → LentClaims p (lent_step p h e) ds)
      → Claims p off (hist_of h) (e' ∷ es) → LentClaims p h (e ∷ ds)
  claims_cons ds es f (x, y) = (claim_same p off h g e e' s by x, f (subst (λ (z : Hist). Claims p off z es) (sym (step_same p off h g e e' s by)) y))

  next_good : HistGood off (lent_step p h e)
  next_good = step_good p off h g e e' s by

module _ (p : Params) (off : List ℕ) where
  -- the premises carry over
  all-allowed : (es : List LentEvent) (h : LentHist) → HistGood off h → LentAllowed p h es → Allowed p off (hist_of h) (events_of es)
  all-allowed [] h g t = unfold events_of in tt
  all-allowed (calls c ∷ es) h g (t, ts) =
      let s = same_calls c in
      subst (Allowed p off (hist_of h)) (sym (events_call c es))
      (allowed-cons p off h g (calls c) (calls' c) s t (events_of es) (all-allowed es (lent_step p h (calls c)) (next_good p off h g (calls c) (calls' c) s t) ts))
  all-allowed (boots d n u im ps ∷ es) h g (t, ts) = go (ℕ_discrete (length u.state) state_len) (λ k. all-allowed es (lent_step p h (boots d n u im ps)) k ts)
    where
      e : LentEvent
      e = boots d n u im ps

      go : Dec (length u.state ≡ state_len) → (HistGood off (lent_step p h (boots d n u im ps)) → Allowed p off (hist_of (lent_step p h (boots d n u im ps))) (events_of es))
          → Allowed p off (hist_of h) (events_of (boots d n u im ps ∷ es))
      go (yes x) ih =
          let e' = boots' d n (lent_memory u) im ps in
          let s = same_boots d n u im ps x in
          subst (Allowed p off (hist_of h)) (sym (events_boot d n u im ps es x)) (allowed-cons p off h g e e' s t (events_of es) (ih (next_good p off h g e e' s t)))
      go (no x) ih =
          let f = short_step p h d n u im ps x in
          subst (Allowed p off (hist_of h)) (sym (events_short d n u im ps es x)) (subst (λ (y : LentHist). Allowed p off (hist_of y) (events_of es)) f (ih (subst (HistGood off) (sym f) g)))

  -- and the claims come back
  lent_claims : (es : List LentEvent) (h : LentHist) → HistGood off h → LentAllowed p h es → Claims p off (hist_of h) (events_of es) → LentClaims p h es
  lent_claims [] h g t c = tt
  lent_claims (calls c ∷ es) h g (t, ts) y =
      let s = same_calls c in
      claims_cons p off h g (calls c) (calls' c) s t es (events_of es) (lent_claims es (lent_step p h (calls c)) (next_good p off h g (calls c) (calls' c) s t) ts)
      (subst (Claims p off (hist_of h)) (events_call c es) y)
  lent_claims (boots d n u im ps ∷ es) h g (t, ts) y = go (ℕ_discrete (length u.state) state_len) (λ k. lent_claims es (lent_step p h (boots d n u im ps)) k ts)
    where
      e : LentEvent
      e = boots d n u im ps

      h' : LentHist
      h' = lent_step p h (boots d n u im ps)

      go : Dec (length u.state ≡ state_len) → (HistGood off h' → Claims p off (hist_of h') (events_of es) → LentClaims p h' es) → LentClaims p h (boots d n u im ps ∷ es)
      go (yes x) ih =
          let e' = boots' d n (lent_memory u) im ps in
          let s = same_boots d n u im ps x in
          claims_cons p off h g e e' s t es (events_of es) (ih (next_good p off h g e e' s t)) (subst (Claims p off (hist_of h)) (events_boot d n u im ps es x) y)
      go (no x) ih =
          let f = short_step p h d n u im ps x in
          let z = subst (Claims p off (hist_of h)) (events_short d n u im ps es x) y in (
            subst (LentClaim p h (boots d n u im ps)) (sym (short_restart p h d n u im ps x)) tt,
            ih (subst (HistGood off) (sym f) g) (subst (λ (w : LentHist). Claims p off (hist_of w) (events_of es)) (sym f) z),
          )

-- ---- from the start

began_same : (p : Params) (off : List ℕ) (k : Disk) → hist_of (lent_began p off k) ≡ began p k
unfolding lent_began began lent_disk lent_memory mark_of
began_same p off k = ap (λ (s : State). record {
  world = mk_world k (mk_memory s (replicate (addresses_len p) 0) (replicate (compact_len p) 0) (replicate (inflight_len p) 0));
  sends = [];
  untrusted = 0;
  mark = none;
}) state_of_zeros

began_good : (p : Params) (off : List ℕ) (k : Disk) → Bytes k.image → HistGood off (lent_began p off k)
unfolding lent_began
began_good p off k h = record {
  now_good = record {
    listed = refl;
    bytes = record { image_bytes = h; inflight_bytes = bytes_zeros (inflight_len p); state_bytes_holds = bytes_zeros state_len };
    long = length-replicate state_len 0;
  };
  mark_good = tt;
}

-- demand 3, of the lent bytes
pub demand_3_bytes : Demand3
demand_3_bytes p off r k em by es al =
    let g = began_good p off k (bytes_of_lem k.image by) in
    lent_claims p off es (lent_began p off k) g al
    (subst (λ (h : Hist). Claims p off h (events_of es)) (sym (began_same p off k))
    (demand_3 p off r k em (events_of es) (subst (λ (h : Hist). Allowed p off h (events_of es)) (began_same p off k) (all-allowed p off es (lent_began p off k) g al))))
