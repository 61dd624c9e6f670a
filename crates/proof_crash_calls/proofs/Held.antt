-- Laws of what the address table holds: of drives that grew, and of entries elsewhere. Assumes nothing.
use Rattle.std.specs.Prelude.{◌≡◌, refl, List, ℕ, ◌≤◌, ◌<◌, length, get_or}
use Rattle.std.proofs.Common.{sym, ap, ◌∙◌, subst, inl, inr, ⊎_elim, arith}
use Rattle.spec.specs.declared.Params.{Params}
use Rattle.spec.specs.Counts.{never_place}
use Rattle.spec.specs.Memory.{place_at_of}
use Rattle.spec.specs.Params.{place_block, place_drive}
use Rattle.law_basic.specs.Geometry.{Ranged}
use Rattle.proof_crash_machine.specs.Facts.{Par, Heads, Ghost, Counted, Off, Facts, used, self}
use Rattle.proof_crash_machine.specs.Facts.Pair.{alone}
use Rattle.proof_crash_machine.specs.Ghosts.{with_sent}
use Rattle.proof_crash_machine.specs.Lemma.{pair_alone}
use Rattle.proof_crash_machine.specs.Put.{length-snoc, off_in, off_left, each_put, len_back as Put·len_back}
use Rattle.proof_crash_machine.specs.Rebuild.{in_off}
use Rattle.proof_crash_machine.specs.Val.{Val}
use Rattle.proof_crash_machine.specs.View.{Item, ItemView, with_item, InI}
use Rattle.proof_crash_machine.specs.View.Item.{chunk, foot}
use Rattle.proof_crash_machine.specs.Mask.{Mask}
use Rattle.proof_crash_items.specs.Ranges.{par_of}
use Rattle.proof_crash_calls.specs.Held.{Grown, Entry, TableOk}

-- ---- drives that grew

pub grown_same : (P : Par) (v : ItemView) → Grown P v v
grown_same P v = record { fwd = λ e y j i l o. o; back = λ e y l b. b }

pub grown_then : (P : Par) (v v' v'' : ItemView) → Grown P v v' → Grown P v' v'' → Grown P v v''
grown_then P v v' v'' a b = record { fwd = λ e y j i l o. b.fwd e y j i l (a.fwd e y j i l o); back = λ e y l k. a.back e y l (b.back e y l k) }

pub grown_put : (P : Par) (v : ItemView) (d z : ℕ) (c : Item) → 0 < length (v d z) → Grown P v (with_item v d z c)
grown_put P v d z c b = record {
  fwd =
      λ e y j t l. each_put v d z c (λ (e y : ℕ) (l : List Item). Off (v e y) j t → Off l j t)
      (λ q. (omega (arith, q.0, length-snoc (v d z) c), off_left (v d z) c j q.0 ∙ q.1)) e y (λ q. q);
  back = λ e y l. Put·len_back v d z c b e y;
}

pub grown_in : (P : Par) (v v' : ItemView) → Grown P v v' → (e y : ℕ) (i : Item) → e < P.N → InI i (v e y) → InI i (v' e y)
grown_in P v v' a e y i l m = let o : (j : ℕ) × Off (v e y) j i = in_off i (v e y) m in off_in (v' e y) o.0 i (a.fwd e y o.0 i l o.1)

pub grown_some : (P : Par) (v v' : ItemView) → Grown P v v' → (e y : ℕ) → e < P.N → 0 < length (v e y) → 0 < length (v' e y)
grown_some P v v' a e y l b = let o : Off (v' e y) 0 (get_or (v e y) 0 (foot 0)) = a.fwd e y 0 (get_or (v e y) 0 (foot 0)) l (b, refl) in omega (arith, o.0)

-- what counts still does, in its segment
abbrev pub counted_grown : (P : Par) (hd : Heads) (v v' : ItemView) → Grown P v v' → (m : Mask) (x : Val) → Counted P hd v m x → Counted P hd v' m x
counted_grown P hd v v' a m x q = record {
  z = q.z;
  s = q.s;
  f = q.f;
  rem = record { left = λ d l n. grown_some P v v' a d q.z l (q.rem.left d l n); own = λ o k e. q.rem.own o (λ d l n. a.back d o l (k d l n)) e };
  st = record { on = λ d l n. grown_in P v v' a d q.z (chunk q.s (q.f d)) l (q.st.on d l n); word = q.st.word };
  dt = q.dt;
}

-- ---- the same where there is no pair: a segment that is as it was

abbrev pub counted-kept : (P : Par) (g g' : Ghost) (v v' : ItemView) → Facts P g' v' → g'.pr ≡ alone → g'.un ≡ g.un → (x : Val) (q : Counted P g.hd v g.un x)
    → ((d : ℕ) → d < P.N → v' d q.z ≡ v d q.z) → Counted P g'.hd v' g'.un x
counted-kept P g g' v v' f no_pair un x q same = record {
  z = q.z;
  s = q.s;
  f = q.f;
  rem = record {
    left = λ d l n. subst (λ (y : List Item). 0 < length y) (sym (same d l)) (q.rem.left d l (ap (λ (y : Mask). y d) (sym un) ∙ n));
    own =
        λ o k e. pair_alone (sym (f.swap.one q.z o
        (used P g' v' g'.un q.z (self P g'.un f.lost.few)
        (λ d l n. subst (λ (y : List Item). 0 < length y) (sym (same d l)) (q.rem.left d l (ap (λ (y : Mask). y d) (sym un) ∙ n))))
        (used P g' v' g'.un o (self P g'.un f.lost.few) k) e) ∙ no_pair);
  };
  st = record { on = λ d l n. subst (λ (y : List Item). InI (chunk q.s (q.f d)) y) (sym (same d l)) (q.st.on d l (ap (λ (y : Mask). y d) (sym un) ∙ n)); word = q.st.word };
  dt = q.dt;
}

-- ---- an entry

-- elsewhere
pub entry_to : (p : Params) (h : Ranged p) (off : List ℕ) (g g' : Ghost) (v v' : ItemView) (q a : ℕ) (e : Entry p h off g v q a)
    → g'.hd.zn e.n (place_drive p q) ≡ g.hd.zn e.n (place_drive p q) → Off (v' (place_drive p q) e.n) (place_block p q) (chunk e.s e.x)
    → (c : Counted (par_of p h off) g'.hd v' g'.un e.x) → c.z ≡ e.n → g'.base a ≤ e.x.stamp → Entry p h off g' v' q a
entry_to p h off g g' v v' q a e i o c z b = record {
  s = e.s;
  x = e.x;
  drive = e.drive;
  zone = e.zone;
  n = e.n;
  lies = i ∙ e.lies;
  at = o;
  counts = c;
  same = z;
  addr = e.addr;
  floor = b;
}

-- only what was sent changes
pub entry_sent : (p : Params) (h : Ranged p) (off : List ℕ) (g : Ghost) (l : List Val) (v : ItemView) (q a : ℕ) → Entry p h off g v q a → Entry p h off (with_sent g l) v q a
entry_sent p h off g l v q a e = record {
  s = e.s;
  x = e.x;
  drive = e.drive;
  zone = e.zone;
  n = e.n;
  lies = e.lies;
  at = e.at;
  counts = e.counts;
  same = e.same;
  addr = e.addr;
  floor = e.floor;
}

pub entry_grown : (p : Params) (h : Ranged p) (off : List ℕ) (g : Ghost) (v v' : ItemView) → Grown (par_of p h off) v v' → (q a : ℕ) → Entry p h off g v q a → Entry p h off g v' q a
entry_grown p h off g v v' r q a e = entry_to p h off g g v v' q a e refl (r.fwd (place_drive p q) e.n (place_block p q) (chunk e.s e.x) e.drive e.at)
    (counted_grown (par_of p h off) g.hd v v' r g.un e.x e.counts) e.same e.floor

pub table_grown : (p : Params) (h : Ranged p) (off : List ℕ) (g : Ghost) (v v' : ItemView) (tb : List ℕ) → Grown (par_of p h off) v v' → TableOk p h off g v tb → TableOk p h off g v' tb
table_grown p h off g v v' tb r t a l = ⊎_elim (λ w. inl w) (λ (w : Entry p h off g v (place_at_of tb a) a). inr (entry_grown p h off g v v' r (place_at_of tb a) a w)) (t a l)

-- every entry moves
pub table_to :
    (p : Params) (h : Ranged p) (off : List ℕ) (g g' : Ghost) (v v' : ItemView) (tb : List ℕ)
    → g'.base ≡ g.base
    → ((q a : ℕ) → Entry p h off g v q a → Entry p h off g' v' q a)
    → TableOk p h off g v tb
    → TableOk p h off g' v' tb
table_to p h off g g' v v' tb e f t a l =
    ⊎_elim (λ (w : (place_at_of tb a ≡ never_place) × (g.base a ≡ 0)). inl (w.0, ap (λ (b : ℕ → ℕ). b a) e ∙ w.1))
    (λ (w : Entry p h off g v (place_at_of tb a) a). inr (f (place_at_of tb a) a w)) (t a l)
