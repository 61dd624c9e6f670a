-- From the machine's claim and the log: what a finished restart reads is as demand 3 says. Assumes nothing.
use Rattle.std.specs.Prelude.{◌≡◌, List, true, false, ◌⊎◌, ℕ, suc, ◌≤◌, ◌<◌, length, get_or}
use Rattle.std.proofs.Common.{sym, ap, ap₂, ◌∙◌, subst, inl, inr, arith, ext_get_or}
use Rattle.std.proofs.Math.Decide.{dec_lt}
use Rattle.spec.specs.declared.Params.{Params}
use Rattle.spec.specs.Demands.{send_at, NoneAckedFrom, ReadOk}
use Rattle.spec.specs.History.{World, Send, Seen, seen_at}
use Rattle.spec.specs.History.Seen.{unwritten, got}
use Rattle.law_basic.specs.Geometry.{Ranged}
use Rattle.law_drives.specs.Tests.{not_so}
use Rattle.proof_crash_machine.specs.Facts.{Ghost, InV, Beyond}
use Rattle.proof_crash_machine.specs.History.{State as m-State, Inv, Claim}
use Rattle.proof_crash_machine.specs.Order.{Track, Tracked}
use Rattle.proof_crash_machine.specs.Val.{Val}
use Rattle.proof_crash_machine.specs.Mask.{Mask}
use Rattle.proof_crash_items.specs.Ranges.{par_of}
use Rattle.proof_crash_calls.specs.Sends.{Logged}

-- the block of a value sent, with stamp k at address a
pub record ShowsBlock (p : Params) (l : List Val) (k a : ℕ) (s : Seen) : Type 0 where
  pub block : List ℕ
  pub value : Val
  pub sent : InV value l
  pub addr : value.addr ≡ a
  pub stamp : value.stamp ≡ k
  pub long : length block ≡ p.B
  pub is : value.blk ≡ (λ i. get_or block i 0)
  pub shows : s ≡ got block k

-- s is what is read at a where the greatest stamp is K a: 0 means never written
abbrev pub Shows : Params → List Val → (ℕ → ℕ) → ℕ → Seen → Type 0
Shows p l K a s = ((K a ≡ 0) × (s ≡ unwritten)) ⊎ ShowsBlock p l (K a) a s

-- blocks of one length with the same bytes
same_block : (b c : List ℕ) → length b ≡ length c → ◌≡◌ {A = ℕ → ℕ} (λ i. get_or b i 0) (λ i. get_or c i 0) → b ≡ c
same_block b c e f = ext_get_or 0 b c e (λ i l. ap (λ (g : ℕ → ℕ). g i) f)

module _ (p : Params) (h : Ranged p) (off : List ℕ) (σ : m-State) (T : Track) (m : Mask) (K : ℕ → ℕ) (ss : List Send) (I : Inv (par_of p h off) σ) (tr : Tracked σ T)
    (cl : Claim (par_of p h off) σ m K)
    (L : Logged p σ.acked T ss) (a : ℕ) where
  -- an acknowledged send at a is no later than what is read
  acked-low :
      (j : ℕ)
      → j < length ss
      → (send_at ss j).address ≡ a
      → (send_at ss j).acked ≡ true
      → InV (T.log j) σ.acked × (T.pos (T.log j).stamp ≡ j) × ((T.log j).stamp ≤ K a) × (0 < (T.log j).stamp)
  acked-low j l e q =
      let k : InV (T.log j) σ.acked × (T.pos (T.log j).stamp ≡ j) = L.acks j l q in
      let f : K (T.log j).addr ≡ K a = ap K ((L.same j l).addr ∙ e) in
      (k.0, k.1, omega (arith, cl.acked (T.log j) k.0, f), (I.ones (T.log j) (I.acks (T.log j) k.0).0).0)

  -- never written: none was acknowledged
  none_acked : K a ≡ 0 → NoneAckedFrom ss a 0
  none_acked e j b l f =
      not_so (send_at ss j).acked (λ q. let k : InV (T.log j) σ.acked
      × (T.pos (T.log j).stamp ≡ j)
      × ((T.log j).stamp ≤ K a)
      × (0 < (T.log j).stamp) = acked-low j l f q in let z : ⊥ = omega (arith, e, k.2, k.3) in z)

  block_ok : (s : Seen) → (y : ShowsBlock p σ.g.sent (K a) a s) → ReadOk ss a (got y.block (K a))
  block_ok s y = (
    i,
    il,
    sym (L.same i il).addr ∙ ap (λ (w : Val). w.addr) here ∙ y.addr,
    blocks,
    sym (L.same i il).stamp ∙ ap (λ (w : Val). w.stamp) here ∙ y.stamp,
    later,
  )
    where
      at : (T.pos y.value.stamp < T.clock) × (T.log (T.pos y.value.stamp) ≡ y.value)
      at = tr.here y.value y.sent

      i : ℕ
      i = T.pos y.value.stamp

      here : T.log i ≡ y.value
      here = at.1

      il : i < length ss
      il = omega (arith, at.0, L.count)

      blocks : (send_at ss i).block ≡ y.block
      blocks = same_block (send_at ss i).block y.block ((L.same i il).long ∙ sym y.long) (sym (L.same i il).blk ∙ ap (λ (w : Val). w.blk) here ∙ y.is)

      later : NoneAckedFrom ss a (suc i)
      later j b l f = not_so (send_at ss j).acked (λ q.
          let k : InV (T.log j) σ.acked × (T.pos (T.log j).stamp ≡ j) × ((T.log j).stamp ≤ K a) × (0 < (T.log j).stamp) = acked-low j l f q in
          go (T.log j) (I.acks (T.log j) k.0).0 k.1 (omega (arith, k.2, y.stamp)) (dec_lt (T.log j).stamp y.value.stamp))
        where
          go : (x : Val) → InV x σ.g.sent → T.pos x.stamp ≡ j → x.stamp ≤ y.value.stamp → Dec (x.stamp < y.value.stamp) → ⊥
          go x m e c (yes d) = let z : ⊥ = omega (arith, tr.order x y.value m y.sent d, e, b) in z
          go x m e c (no d) =
              let n : x.stamp ≡ y.value.stamp = omega arith in
              let o : T.pos x.stamp ≡ T.pos y.value.stamp = ap T.pos n in
              let z : ⊥ = omega (arith, o, e, b) in z

  -- "a block sent there before it, no earlier than the latest-sent acknowledged one, or, only where none was acknowledged, 'never written'"
  pub read_ok : (s : Seen) → Shows p σ.g.sent K a s → ReadOk ss a s
  read_ok s (inl (e, f)) = subst (ReadOk ss a) (sym f) (none_acked e)
  read_ok s (inr y) = subst (ReadOk ss a) (sym y.shows) (block_ok s y)

-- the same stamp shows the same
pub shows_same : (p : Params) (l : List Val) → ((x y : Val) → InV x l → InV y l → x.stamp ≡ y.stamp → x ≡ y) → ((x : Val) → InV x l → 0 < x.stamp)
    → (K J : ℕ → ℕ) (a : ℕ) (s t : Seen) → K a ≡ J a → Shows p l K a s → Shows p l J a t → s ≡ t
shows_same p l one pos K J a s t e (inl (x, f)) (inl (y, g)) = f ∙ sym g
shows_same p l one pos K J a s t e (inl (x, f)) (inr y) = absurd (let z : ⊥ = omega (arith, x, e, y.stamp, pos y.value y.sent) in z)
shows_same p l one pos K J a s t e (inr x) (inl (y, g)) = absurd (let z : ⊥ = omega (arith, y, e, x.stamp, pos x.value x.sent) in z)
shows_same p l one pos K J a s t e (inr x) (inr y) =
    let v : x.value ≡ y.value = one x.value y.value x.sent y.sent (x.stamp ∙ e ∙ sym y.stamp) in
    x.shows ∙ ap₂ got (same_block x.block y.block (x.long ∙ sym y.long) (sym x.is ∙ ap (λ (w : Val). w.blk) v ∙ y.is)) e ∙ sym y.shows

-- what the last finished restart read, in terms of the ghost
abbrev pub MarkShows : Params → List ℕ → Ghost → World → Type 0
MarkShows p off g w = (a : ℕ) → a < p.L → Shows p g.sent g.last a (seen_at p off w a)

pub shows_more : (p : Params) (l l' : List Val) (K J : ℕ → ℕ) (a : ℕ) (s : Seen) → ((x : Val) → InV x l → InV x l') → K a ≡ J a → Shows p l K a s → Shows p l' J a s
shows_more p l l' K J a s f e (inl (x, y)) = inl (sym e ∙ x, y)
shows_more p l l' K J a s f e (inr y) =
    inr (record { block = y.block; value = y.value; sent = f y.value y.sent; addr = y.addr; stamp = y.stamp ∙ e; long = y.long; is = y.is; shows = y.shows ∙ ap (got y.block) e })

-- "and it reads as the finished restart before it did if no block was sent between": σ before the restart, K what it reads, w the world that the one before it left
pub same_reads : (p : Params) (h : Ranged p) (off : List ℕ) (σ : m-State) (m : Mask) (K : ℕ → ℕ) → Inv (par_of p h off) σ → Claim (par_of p h off) σ m K
    → (Beyond (par_of p h off) σ.g.said m → ⊥)
    → σ.since ≡ false
    → (w : World) → MarkShows p off σ.g w
    → (a : ℕ) → a < p.L → (s : Seen) → Shows p σ.g.sent K a s → s ≡ seen_at p off w a
same_reads p h off σ m K I c fair still w k a b s x = shows_same p σ.g.sent I.uniq (λ y m. (I.ones y m).0) K σ.g.last a s (seen_at p off w a) (c.same still fair a) x (k a b)
