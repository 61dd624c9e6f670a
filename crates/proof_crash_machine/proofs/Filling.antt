-- Stripes in flight: one begins, a block goes in (a write, a copy, padding), footers, a segment is sealed. Assumes nothing.
use Rattle.std.specs.Prelude.{◌≡◌, refl, List, ◌≢◌, Bool, true, false, ℕ, ◌<◌, length}
use Rattle.std.proofs.Common.{sym, ap, ◌∙◌, subst, inl, ⊎_elim, arith}
use Rattle.std.proofs.Math.Decide.{ℕ_discrete}
use Rattle.proof_crash_machine.specs.Val.{Val, pads, pads_stamp}
use Rattle.proof_crash_machine.specs.Code.{enc_word}
use Rattle.proof_crash_machine.specs.View.{Item, ItemView, InI, with_item, chunk_foot}
use Rattle.proof_crash_machine.specs.View.Item.{chunk, foot}
use Rattle.proof_crash_machine.specs.Mask.{two, tf}
use Rattle.proof_crash_machine.specs.Facts.{Par, Word, Ghost, Good, Datum, Ragged}
use Rattle.proof_crash_machine.specs.Memory.{Mem, MemOk, Flight, Ok, set_at, set_at_elim}
use Rattle.proof_crash_machine.specs.Put
use Rattle.proof_crash_machine.specs.Filling.{unfilled, filled_word, shut}

pub unfilled_data : (p : Par) (s e : ℕ) → e < p.N → p.code.par s e ≡ false → unfilled p s e ≡ pads
unfolding unfilled
unfilled_data p s e l n = p.code.keeps s (λ e. pads) e l n

pub unfilled_word : (p : Par) (s : ℕ) → Word p s (unfilled p s)
unfolding unfilled
unfilled_word p s = enc_word p.code s (λ e. pads)

-- an empty stripe, under a number that no drive has
pub begin : (p : Par) (g : Ghost) (v : ItemView) (z s : ℕ) → ((e : ℕ) (x : Val) → e < p.N → InI (chunk s x) (v e z) → ⊥) → Flight p g v z s (unfilled p s) (λ e. false)
begin p g v z s none = record {
  mine = λ e x l m. absurd (none e x l m);
  word = unfilled_word p s;
  good = λ x t. inl (sym t.val ∙ unfilled_data p s t.d t.lt t.data?);
  ok = λ x t. inl (let e : x.stamp ≡ 0 = pads_stamp x (sym t.val ∙ unfilled_data p s t.d t.lt t.data?) in omega arith);
}

module _ (p : Par) (g : Ghost) (v : ItemView) (z s : ℕ) (G : ℕ → Val) (r : ℕ → Bool) (f : Flight p g v z s G r)
    (d : ℕ) (x : Val) (dN : d < p.N) (dp : p.code.par s d ≡ false) (rd : r d ≡ false) (rp : (e : ℕ) → p.code.par s e ≡ true → r e ≡ false) where
  pub at_d : filled_word p s G d x d ≡ x
  unfolding filled_word
  at_d = p.code.keeps s (set_at G d x) d dN dp ∙ set_at_elim (λ (y : Val). y ≡ x) G d x d (λ e. refl) (λ k. absurd (k refl))

  pub at_else : (e : ℕ) → e < p.N → e ≢ d → p.code.par s e ≡ false → filled_word p s G d x e ≡ G e
  unfolding filled_word
  at_else e l n k = p.code.keeps s (set_at G d x) e l k ∙ set_at_elim (λ (y : Val). y ≡ G e) G d x e (λ j. absurd (n j)) (λ j. refl)

  word_filled : Word p s (filled_word p s G d x)
  unfolding filled_word
  word_filled = enc_word p.code s (set_at G d x)

  -- what has landed is data
  data_ready : (e : ℕ) → r e ≡ true → p.code.par s e ≡ false
  data_ready e a = ⊎_elim (λ (q : p.code.par s e ≡ true). tf a (rp e q)) (λ q. q) (two (p.code.par s e))

  not_ready : (e k : ℕ) → r e ≡ true → r k ≡ false → e ≢ k
  not_ready e k a b i = let c : true ≡ false = sym a ∙ ap r i ∙ b in absurd (let z : ◌≡◌ {A = ℕ} 0 1 = cc in let j : ⊥ = omega arith in j)

  -- the stripe with x in it, and at least as much that may land
  pub fill : Good g x → Ok g x → (r' : ℕ → Bool) → ((e : ℕ) → r e ≡ true → r' e ≡ true) → Flight p g v z s (filled_word p s G d x) r'
  fill gx okx r' more = record {
    mine = λ e y l m. let k : (y ≡ G e) × (r e ≡ true) = f.mine e y l m in
        (k.0 ∙ sym (at_else e l (not_ready e d k.1 rd) (data_ready e k.1)), more e k.1);
    word = word_filled;
    good = λ y t. case (Good g) y t (ℕ_discrete t.d d) gx (f.good y);
    ok = λ y t. case (Ok g) y t (ℕ_discrete t.d d) okx (f.ok y);
  }
    where
      case : (Q : Val → Type 0) (y : Val) (t : Datum p s (filled_word p s G d x) y) → Dec (t.d ≡ d) → Q x → (Datum p s G y → Q y) → Q y
      case Q y t (yes e) a b = subst Q (sym at_d ∙ ap (filled_word p s G d x) (sym e) ∙ t.val) a
      case Q y t (no e) a b = b (record { d = t.d; lt = t.lt; data? = t.data?; val = sym (at_else t.d t.lt e t.data?) ∙ t.val })

-- ---- a footer block changes nothing in memory

pub foot_mem : (p : Par) (g : Ghost) (v : ItemView) (M : Mem) → MemOk p g v M → (d z j : ℕ) → 0 < length (v d z) → length (v d z) < p.cap → MemOk p g (with_item v d z (foot j)) M
foot_mem p g v M a d z j b room = record {
  none = a.none;
  no_pair = a.no_pair;
  few = a.few;
  stamps = a.stamps;
  top = a.top;
  serials = λ y k. a.serials y (Put.Used_back v d z (foot j) b p g y k);
  whole = λ y k. Put.Whole_fwd v d z (foot j) b p g y (a.whole y (Put.Used_back v d z (foot j) b p g y k));
  lone = λ y (e, t, i, k). a.lone y (
    e,
    t,
    Put.len_back v d z (foot j) b e y i,
    Put.each_put v d z (foot j) (λ (e y : ℕ) (l : List Item). length l < p.cap → length (v e y) < p.cap) (λ q. room) e y (λ q. q) k,
  );
  begun = λ q. Put.Whole_fwd v d z (foot j) b p g M.zone (a.begun q);
  below = λ q e s x l m. a.below q e s x l (old e s x m);
  flies = λ s q. let r : (M.is_open ≡ true) × (s < M.next) × Flight p g v M.zone s (M.F s) (M.ready s) = a.flies s q in
      (r.0, r.1, record { mine = λ e x l m. r.2.mine e x l (old e s x m); word = r.2.word; good = r.2.good; ok = r.2.ok });
}
  where
    old : (e s : ℕ) (x : Val) → InI (chunk s x) (with_item v d z (foot j) e M.zone) → InI (chunk s x) (v e M.zone)
    old e s x m = ⊎_elim (λ k. k) (λ (k : (e ≡ d) × (M.zone ≡ z) × (chunk s x ≡ foot j)). absurd (chunk_foot k.2)) (Put.in_back v d z (foot j) (chunk s x) e M.zone m)

-- ---- nothing is ragged any more: no segment is open

pub seal_mem : (p : Par) (g : Ghost) (v : ItemView) (M : Mem) → MemOk p g v M → ((y : ℕ) → Ragged p g.un v y → ⊥) → ((s : ℕ) → M.fly s ≡ false) → MemOk p g v (shut M)
seal_mem p g v M a full idle = record {
  none = a.none;
  no_pair = a.no_pair;
  few = a.few;
  stamps = a.stamps;
  top = a.top;
  whole = a.whole;
  serials = a.serials;
  lone = λ y k. absurd (full y k);
  begun = λ q. no q;
  below = λ q. no q;
  flies = λ s q. no (sym (idle s) ∙ q);
}
  where
    no : {A : Type 0} → false ≡ true → A
    no e = absurd (let z : ◌≡◌ {A = ℕ} 0 1 = cc in let j : ⊥ = omega arith in j)
