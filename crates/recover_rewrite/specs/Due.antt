-- The counted stripes that are still to be moved, numbered on (01, Restart, 4). Assumes nothing.
use Rattle.std.specs.Prelude.{ℕ, suc, ◌+◌, ◌-◌, ◌*◌, ◌%◌, ◌≤◌, ◌<◌, length, Bool, true, Result, Ok, Err, IfOk, List, [], ◌∷◌, ◌++◌, ◌≡◌}
use Rattle.spec.specs.Drives.{View, Store, Disk, sealed_in}
use Rattle.spec.specs.Lists.{up_from, cons_if, keep}
use Rattle.spec.specs.Restart.{moved_stripe, moved_stripes}
use Rattle.spec.specs.Segments.{Segment, counts, counted}
use Rattle.spec.specs.declared.Params.{Params}
use Rattle.recover_groups.specs.Bases.{stripes_step}
use Rattle.recover_groups.specs.Groups.{group_len, segment_in, GroupReads}
use Rattle.recover_groups.specs.declared.Group.{Group}
use Rattle.law_basic.specs.Geometry.{Ranged}
use Rattle.law_basic.specs.Ranges.{length_up_from, below-start, keep_append, length-keep}
use Rattle.law_basic.specs.Segs.{ZonesLow}
use Rattle.recover_move.specs.Moves.{OtherZones, moved_none, moved-one, moved-append, moved_misses, Moves, moves_start, moves_as, moves_turn, moves_cut, moves_done}
use Rattle.recover_move.specs.Moves.{moves_first, moves_sealed, moves_in, moves_reads}
use Rattle.recover_rewrite.specs.declared.Moved.{Moved}
use Rattle.law_views.specs.Views.{Whole, AllFit, seen}
use Rattle.disk_zones.specs.Made.{too_few, Storing, storing_none}
use Rattle.disk_zones.specs.declared.TooFew.{TooFew}
use Rattle.std.proofs.Math.Arith.{digits_mod}
use Rattle.std.proofs.Common.{length-append, sym, ap, ap₂, ◌∙◌, subst, add-zero, zero-mul}
use Rattle.std.proofs.Math.Bool.{false}
use Rattle.std.proofs.Math.Path.{refl}
use Rattle.std.proofs.Math.Nat.{sub-zero}
use native.Mathlib.Omega.{arith}
use Rattle.spec.specs.declared.Seg.{Seg}

-- stripe s, if it counts
unfoldable pub itself : Params → Segment → ℕ → List ℕ
itself p g s = cons_if (counts p 0 g s) s []

-- 01, Restart, 3: those that count among n stripes from i on
unfoldable pub counted_from : Params → Segment → ℕ → ℕ → List ℕ
counted_from p g i n = keep (counts p 0 g) (up_from i n)

pub itself-counts : (p : Params) (g : Segment) (s : ℕ) → counts p 0 g s ≡ true → itself p g s ≡ s ∷ []
unfolding itself cons_if
itself-counts p g s e = ap (λ (b : Bool). cons_if b s []) e

pub itself_none : (p : Params) (g : Segment) (s : ℕ) → counts p 0 g s ≡ false → itself p g s ≡ []
unfolding itself cons_if
itself_none p g s e = ap (λ (b : Bool). cons_if b s []) e

pub itself_few : (p : Params) (g : Segment) (s : ℕ) → length (itself p g s) ≤ 1
unfolding itself
itself_few p g s = go (counts p 0 g s)
  where
    go : (b : Bool) → length (cons_if b s []) ≤ 1
    go true = unfold cons_if in omega arith
    go false = unfold cons_if in omega arith

pub from_few : (p : Params) (g : Segment) (i n : ℕ) → length (counted_from p g i n) ≤ n
unfolding counted_from
from_few p g i n = omega (arith, length-keep (counts p 0 g) (up_from i n), length_up_from i n)

pub from_none : (p : Params) (g : Segment) (i n : ℕ) → n ≡ 0 → counted_from p g i n ≡ []
unfolding counted_from
from_none p g i n e = ap (λ (x : ℕ). keep (counts p 0 g) (up_from i x)) e ∙ nothing
  where
    nothing : keep (counts p 0 g) (up_from i 0) ≡ []
    nothing = unfold up_from keep in refl

-- one stripe, then the others
pub from_step : (p : Params) (g : Segment) (b k n : ℕ) → k < n → counted_from p g (b + k) (n - k) ≡ itself p g (b + k) ++ counted_from p g (b + (k + 1)) (n - (k + 1))
unfolding counted_from itself
from_step p g b k n h =
    ap (λ (x : ℕ). keep (counts p 0 g) (up_from (b + k) x)) (let e : n - k ≡ suc (n - (k + 1)) = omega arith in e)
    ∙ first (counts p 0 g (b + k))
    ∙ ap (λ (x : ℕ). cons_if (counts p 0 g (b + k)) (b + k) [] ++ keep (counts p 0 g) (up_from x (n - (k + 1)))) (let e : suc (b + k) ≡ b + (k + 1) = omega arith in e)
  where
    split : (c : Bool) (l : List ℕ) → cons_if c (b + k) l ≡ cons_if c (b + k) [] ++ l
    split true l = unfold cons_if in refl
    split false l = unfold cons_if in refl

    first : (c : Bool) → keep (counts p 0 g) (up_from (b + k) (suc (n - (k + 1)))) ≡ cons_if (counts p 0 g (b + k)) (b + k) [] ++ keep (counts p 0 g) (up_from (suc (b + k)) (n - (k + 1)))
    first c = unfold up_from keep in split (counts p 0 g (b + k)) (keep (counts p 0 g) (up_from (suc (b + k)) (n - (k + 1))))

-- one group, then the others
pub from-group :
    (p : Params) (g : Segment) (base : ℕ)
    → base < p.S
    → counted_from p g base (p.S - base) ≡ counted_from p g base (group_len p base) ++ counted_from p g (base + p.G) (p.S - (base + p.G))
unfolding counted_from
from-group p g base h = ap (keep (counts p 0 g)) (stripes_step p base h) ∙ keep_append (counts p 0 g) (up_from base (group_len p base)) (up_from (base + p.G) (p.S - (base + p.G)))

pub from_all : (p : Params) (g : Segment) → counted p 0 g ≡ counted_from p g 0 (p.S - 0)
unfolding counted_from counted
from_all p g = ap (keep (counts p 0 g)) (below-start p.S)

-- ---- what a part of the moves leaves

abbrev pub count_left : Result Moved TooFew → Result ℕ TooFew
count_left (Ok m) = Ok m.left
count_left (Err e) = Err e

-- the stripes l are moved, numbered from m's next on
pub record StepMoved (p : Params) (g : Segment) (to : Seg) (l : List ℕ) (m : Moved) (k : Disk) (r : Result Moved TooFew) (k' : Disk) : Type 0 where
  pub stored : Storing p m.left (moved_stripes p g to l m.next) k (count_left r) k'
  pub number : IfOk r (λ n. n.next ≡ m.next + length l)

pub step_none : (p : Params) (g : Segment) (to : Seg) (l : List ℕ) (m : Moved) (k : Disk) → l ≡ [] → StepMoved p g to l m k (Ok m) k
step_none p g to l m k e = subst (λ (x : List ℕ). StepMoved p g to x m k (Ok m) k) (sym e) (record {
  stored = subst (λ (x : List Store). Storing p m.left x k (Ok m.left) k) (sym (moved_none p g to m.next)) (storing_none p m.left k);
  number = sym (add-zero m.next);
})

pub step-one : (p : Params) (g : Segment) (to : Seg) (s : ℕ) (l : List ℕ) (m : Moved) (k : Disk) (y : ℕ) (k' : Disk) → l ≡ s ∷ []
    → Storing p m.left (moved_stripe p g to s m.next) k (Ok y) k'
    → StepMoved p g to l m k (Ok (record { next = m.next + 1; left = y })) k'
step-one p g to s l m k y k' e st = subst (λ (x : List ℕ). StepMoved p g to x m k (Ok (record { next = m.next + 1; left = y })) k') (sym e) (record {
  stored = subst (λ (x : List Store). Storing p m.left x k (Ok y) k') (sym (moved-one p g to s m.next)) st;
  number = refl;
})

pub step_short : (p : Params) (g : Segment) (to : Seg) (s : ℕ) (l : List ℕ) (m : Moved) (k k' : Disk) → l ≡ s ∷ []
    → Storing p m.left (moved_stripe p g to s m.next) k too_few k' → StepMoved p g to l m k (Err (record {})) k'
step_short p g to s l m k k' e st = subst (λ (x : List ℕ). StepMoved p g to x m k (Err (record {})) k') (sym e) (record {
  stored = subst (λ (x : List Store). Storing p m.left x k too_few k') (sym (moved-one p g to s m.next)) st;
  number = tt;
})

-- ---- the parts one after the other: L in all, T still to be done

pub record MovedUpto (p : Params) (off : List ℕ) (g : Segment) (to sgm : Seg) (m₀ : Moved) (k₀ : Disk) (L T : List ℕ) (m : Moved) (k : Disk) : Type 0 where
  pub moves : Moves p off m₀.left (moved_stripes p g to L m₀.next) k₀ sgm (moved_stripes p g to T m.next) m.left k
  pub number : m.next + length T ≡ m₀.next + length L

module _ (p : Params) (r : Ranged p) (off : List ℕ) (g : Segment) (to sgm : Seg) (hz : ZonesLow p 0 sgm) (ne : OtherZones p to sgm) (m₀ : Moved) (k₀ : Disk) (L : List ℕ) where
  pub upto_start : Whole p k₀ → AllFit p (seen p off k₀) (moved_stripes p g to L m₀.next) → MovedUpto p off g to sgm m₀ k₀ L L m₀ k₀
  upto_start w f = record { moves = moves_start p off m₀.left (moved_stripes p g to L m₀.next) k₀ sgm w f; number = refl }

  pub upto_as : (T U : List ℕ) (m : Moved) (k : Disk) → T ≡ U → MovedUpto p off g to sgm m₀ k₀ L T m k → MovedUpto p off g to sgm m₀ k₀ L U m k
  upto_as T U m k e u = subst (λ (x : List ℕ). MovedUpto p off g to sgm m₀ k₀ L x m k) e u

  pub upto_done : (m : Moved) (k : Disk) → MovedUpto p off g to sgm m₀ k₀ L [] m k → StepMoved p g to L m₀ k₀ (Ok m) k
  upto_done m k u = record {
    stored = moves_done p off m₀.left (moved_stripes p g to L m₀.next) k₀ sgm m.left k
        (moves_as p off m₀.left (moved_stripes p g to L m₀.next) k₀ sgm (moved_stripes p g to [] m.next) [] m.left k (moved_none p g to m.next) u.moves);
    number = sym (add-zero m.next) ∙ u.number;
  }

  module _ (A B : List ℕ) (m : Moved) (k : Disk) (u : MovedUpto p off g to sgm m₀ k₀ L (A ++ B) m k) where
    abbrev ss : List Store
    ss = moved_stripes p g to L m₀.next

    stripes_parts : Moves p off m₀.left ss k₀ sgm (moved_stripes p g to A m.next ++ moved_stripes p g to B (m.next + length A)) m.left k
    stripes_parts =
        moves_as p off m₀.left ss k₀ sgm (moved_stripes p g to (A ++ B) m.next)
        (moved_stripes p g to A m.next ++ moved_stripes p g to B (m.next + length A)) m.left k (moved-append p g to A B m.next) u.moves

    pub upto_first : AllFit p (seen p off k) (moved_stripes p g to A m.next)
    upto_first = moves_first p off m₀.left ss k₀ sgm (moved_stripes p g to A m.next) (moved_stripes p g to B (m.next + length A)) m.left k stripes_parts

    pub upto_cut : (k' : Disk) → StepMoved p g to A m k (Err (record {})) k' → StepMoved p g to L m₀ k₀ (Err (record {})) k'
    upto_cut k' s = record {
      stored = moves_cut p off m₀.left ss k₀ sgm (moved_stripes p g to A m.next) (moved_stripes p g to B (m.next + length A)) m.left k k' stripes_parts s.stored;
      number = tt;
    }

    pub upto_turn : (m' : Moved) (k' : Disk) → StepMoved p g to A m k (Ok m') k' → MovedUpto p off g to sgm m₀ k₀ L B m' k'
    upto_turn m' k' s = record {
      moves = subst (λ (x : ℕ). Moves p off m₀.left ss k₀ sgm (moved_stripes p g to B x) m'.left k') (sym s.number)
          (moves_turn p r off m₀.left ss k₀ sgm hz (moved_stripes p g to A m.next) (moved_stripes p g to B (m.next + length A)) m.left k
          m'.left k' stripes_parts s.stored (λ e he. moved_misses p g to A m.next e sgm he ne));
      number = let e : m'.next ≡ m.next + length A = s.number in let f = u.number in let l = length-append A B in omega arith;
    }

-- ---- as the code goes

pub fit_one : (p : Params) (v : View) (g : Segment) (to : Seg) (s n : ℕ) → counts p 0 g s ≡ true → AllFit p v (moved_stripes p g to (itself p g s) n) → AllFit p v (moved_stripe p g to s n)
fit_one p v g to s n c f = subst (λ (l : List Store). AllFit p v l) (ap (λ (x : List ℕ). moved_stripes p g to x n) (itself-counts p g s c) ∙ moved-one p g to s n) f

pub from_start : (p : Params) (g : Segment) (b n : ℕ) → counted_from p g b n ≡ counted_from p g (b + 0) (n - 0)
from_start p g b n = ap₂ (counted_from p g) (sym (add-zero b)) (sym (sub-zero n))

-- the segment that is read stays
module _ (p : Params) (r : Ranged p) (off : List ℕ) (w : Group) (ng : w.gone ≡ 0) (to : Seg) (m₀ : Moved) (k₀ : Disk) (L T : List ℕ) (m : Moved) (k : Disk)
    (u : MovedUpto p off (segment_in p off k₀.image k₀.pointers w) to w.seg m₀ k₀ L T m k) where
  abbrev g₀ : Segment
  g₀ = segment_in p off k₀.image k₀.pointers w

  pub upto_in : segment_in p off k₀.image k₀.pointers w ≡ segment_in p off k.image k.pointers w
  upto_in = moves_in p r off m₀.left (moved_stripes p g₀ to L m₀.next) k₀ w.seg (moved_stripes p g₀ to T m.next) m.left k u.moves w ng refl

  pub upto_sealed : sealed_in p (seen p off k₀) 0 w.seg ≡ sealed_in p (seen p off k) 0 w.seg
  upto_sealed = moves_sealed p r off m₀.left (moved_stripes p g₀ to L m₀.next) k₀ w.seg (moved_stripes p g₀ to T m.next) m.left k u.moves

  pub upto_reads : (at : List ℕ) → GroupReads p off k₀.image k₀.pointers w at → GroupReads p off k.image k.pointers w at
  upto_reads at x = moves_reads p r off m₀.left (moved_stripes p g₀ to L m₀.next) k₀ w.seg (moved_stripes p g₀ to T m.next) m.left k u.moves w ng refl at x

  pub upto_step : (l : Segment → List ℕ) (m' : Result Moved TooFew) (k' : Disk) → StepMoved p (segment_in p off k.image k.pointers w) to (l (segment_in p off k.image k.pointers w)) m k m' k'
      → StepMoved p (segment_in p off k₀.image k₀.pointers w) to (l (segment_in p off k₀.image k₀.pointers w)) m k m' k'
  upto_step l m' k' s = subst (λ (g : Segment). StepMoved p g to (l g) m k m' k') (sym upto_in) s

  pub upto_fits : (l : Segment → List ℕ) (n : ℕ) → AllFit p (seen p off k)
      (moved_stripes p (segment_in p off k₀.image k₀.pointers w) to (l (segment_in p off k₀.image k₀.pointers w)) n)
      → AllFit p (seen p off k) (moved_stripes p (segment_in p off k.image k.pointers w) to (l (segment_in p off k.image k.pointers w)) n)
  upto_fits l n f = subst (λ (g : Segment). AllFit p (seen p off k) (moved_stripes p g to (l g) n)) upto_in f

-- a group of a segment with no drive missing, read by its spares
abbrev pub group_at_of : Seg → ℕ → Group
group_at_of s b = record { gone = 0; seg = s; full = false; base = b }

-- nothing is moved yet
abbrev pub unmoved : ℕ → Moved
unmoved n = record { next = 0; left = n }

pub bases_first : (p : Params) → 0 < p.G → 0 % p.G ≡ 0
bases_first p h = ap (λ (x : ℕ). x % p.G) (let z : 0 ≡ 0 * p.G + 0 = omega (arith, zero-mul p.G) in z) ∙ digits_mod 0 h
