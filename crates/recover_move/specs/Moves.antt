-- Counted stripes are moved into another segment: the stores that are left to do fit, and the segment that is read stays (01, Restart, 4). Assumes nothing.
use Rattle.std.specs.Prelude.{ℕ, suc, ◌+◌, ◌-◌, ◌≤◌, ◌<◌, eqb, length, Result, Ok, false, ◌&&◌, List, [], ◌∷◌, ◌++◌, map, ◌≡◌}
use Rattle.spec.specs.Drives.{zone_at, Store, Disk, pointer_of, zone_on, sealed_in}
use Rattle.spec.specs.Drives.Store.{put}
use Rattle.spec.specs.Layout.{Rec, record_bytes}
use Rattle.spec.specs.Lists.{up_from, below}
use Rattle.spec.specs.Params.{capacity, drives_of}
use Rattle.spec.specs.Parity.{Piece, mk_piece}
use Rattle.spec.specs.Restart.{moved_pieces, moved_on, moved_stripe, moved_stripes}
use Rattle.spec.specs.Segments.{Segment, segment_of, put_piece}
use Rattle.spec.specs.declared.Params.{Params}
use Rattle.recover_drop.specs.Going.{owes_cut, owes_done, Going, going_start, going_turn, going_kept, going_first}
use Rattle.recover_groups.specs.Groups.{group_len, Indexed, segment_in, GroupReads}
use Rattle.recover_groups.specs.declared.Group.{Group}
use Rattle.law_basic.specs.Geometry.{Ranged}
use Rattle.law_basic.specs.Ranges.{up_from_step, up_from_end, below-start, keep_miss, keep_none}
use Rattle.law_basic.specs.Segs.{ZonesLow, low_here}
use Rattle.law_drives.specs.Puts.{hits-append, hits_drives, on_drive}
use Rattle.law_drives.specs.Settled.{zones_sealed, zones_segment}
use Rattle.law_drives.specs.Tests.{and_false_right, cond_false}
use Rattle.law_drives.specs.Zones.{hits_at_of, hits}
use Rattle.law_views.specs.Views.{Whole, pointer_view, AllFit, seen}
use Rattle.disk_zones.specs.Made.{too_few, Storing}
use Rattle.disk_zones.specs.declared.TooFew.{TooFew}
use Rattle.std.proofs.Common.{ne_eqb, append-nil, append_assoc, sym, ap₂, ◌∙◌, add-zero, arith}
use Rattle.std.proofs.Math.Path.{refl, ap, subst}
use Rattle.spec.specs.declared.Seg.{Seg}

-- ---- the stores of moved stripes

-- what drive d gets of stripe s, as stripe n of segment z
unfoldable pub moved_to : Params → Segment → Seg → ℕ → ℕ → ℕ → Store
moved_to p g z s n d = put_piece d (zone_on z d) (moved_on p (moved_pieces p g s n) n d)

pub stripe_are : (p : Params) (g : Segment) (z : Seg) (s n : ℕ) → moved_stripe p g z s n ≡ map (moved_to p g z s n) (below p.N)
unfolding moved_stripe moved_to drives_of
stripe_are p g z s n = refl

pub moved_none : (p : Params) (g : Segment) (z : Seg) (n : ℕ) → moved_stripes p g z [] n ≡ []
unfolding moved_stripes
moved_none p g z n = refl

pub moved-cons : (p : Params) (g : Segment) (z : Seg) (s : ℕ) (ss : List ℕ) (n : ℕ) → moved_stripes p g z (s ∷ ss) n ≡ moved_stripe p g z s n ++ moved_stripes p g z ss (suc n)
unfolding moved_stripes
moved-cons p g z s ss n = refl

pub moved-one : (p : Params) (g : Segment) (z : Seg) (s n : ℕ) → moved_stripes p g z (s ∷ []) n ≡ moved_stripe p g z s n
moved-one p g z s n = moved-cons p g z s [] n ∙ ap (λ (l : List Store). moved_stripe p g z s n ++ l) (moved_none p g z (suc n)) ∙ append-nil (moved_stripe p g z s n)

-- stripes in two parts
pub moved-append : (p : Params) (g : Segment) (z : Seg) (a b : List ℕ) (n : ℕ) → moved_stripes p g z (a ++ b) n ≡ moved_stripes p g z a n ++ moved_stripes p g z b (n + length a)
moved-append p g z [] b n = ap (moved_stripes p g z b) (sym (add-zero n)) ∙ ap (λ (l : List Store). l ++ moved_stripes p g z b (n + 0)) (sym (moved_none p g z n))
moved-append p g z (s ∷ a) b n =
    moved-cons p g z s (a ++ b) n
    ∙ ap (λ (l : List Store). moved_stripe p g z s n ++ l)
    (moved-append p g z a b (suc n)
    ∙ ap (λ (k : ℕ). moved_stripes p g z a (suc n) ++ moved_stripes p g z b k) (let e : suc n + length a ≡ n + suc (length a) = omega arith in e))
    ∙ sym (append_assoc (moved_stripe p g z s n) (moved_stripes p g z a (suc n)) (moved_stripes p g z b (n + suc (length a))))
    ∙ ap (λ (l : List Store). l ++ moved_stripes p g z b (n + suc (length a))) (sym (moved-cons p g z s a n))

-- a segment that shares no zone with another
abbrev pub OtherZones : Params → Seg → Seg → Type 0
OtherZones p z y = (e : ℕ) → e < p.N → zone_on z e ≡ zone_on y e → ⊥

-- they go to one segment alone
stripe_misses : (p : Params) (g : Segment) (z : Seg) (s n e : ℕ) (y : Seg) → e < p.N → OtherZones p z y → hits e (zone_on y e) (moved_stripe p g z s n) ≡ []
unfolding moved_stripe
stripe_misses p g z s n e y he ne =
    hits_drives p e (zone_on y e) (zone_on z) (λ d. put_piece d (zone_on z d) (moved_on p (moved_pieces p g s n) n d)) hit he
    ∙ cond_false (eqb (zone_on z e) (zone_on y e)) (put_piece e (zone_on z e) (moved_on p (moved_pieces p g s n) n e) ∷ []) [] (ne_eqb (zone_on z e) (zone_on y e) (ne e he))
  where
    hit : (d : ℕ) → hits_at_of e (zone_on y e) (put_piece d (zone_on z d) (moved_on p (moved_pieces p g s n) n d)) ≡ (eqb d e && eqb (zone_on z d) (zone_on y e))
    hit d = unfold put_piece hits_at_of in refl

pub moved_misses : (p : Params) (g : Segment) (z : Seg) (ss : List ℕ) (n e : ℕ) (y : Seg) → e < p.N → OtherZones p z y
    → hits e (zone_on y e) (moved_stripes p g z ss n) ≡ []
moved_misses p g z [] n e y he ne = ap (hits e (zone_on y e)) (moved_none p g z n) ∙ keep_none (hits_at_of e (zone_on y e))
moved_misses p g z (s ∷ ss) n e y he ne =
    ap (hits e (zone_on y e)) (moved-cons p g z s ss n) ∙ hits-append e (zone_on y e) (moved_stripe p g z s n) (moved_stripes p g z ss (suc n))
    ∙ ap₂ ◌++◌ (stripe_misses p g z s n e y he ne) (moved_misses p g z ss (suc n) e y he ne)

pub one_misses : (p : Params) (g : Segment) (z : Seg) (s n d e : ℕ) (y : Seg) → e < p.N → OtherZones p z y
    → hits e (zone_on y e) (moved_to p g z s n d ∷ []) ≡ []
unfolding moved_to
one_misses p g z s n d e y he ne =
    keep_miss (hits_at_of e (zone_on y e)) (put_piece d (zone_on z d) (moved_on p (moved_pieces p g s n) n d)) [] miss ∙ keep_none (hits_at_of e (zone_on y e))
  where
    miss : hits_at_of e (zone_on y e) (put_piece d (zone_on z d) (moved_on p (moved_pieces p g s n) n d)) ≡ false
    miss = unfold put_piece hits_at_of in
        (on_drive (zone_on z) d e (zone_on y e) ∙ and_false_right (eqb d e) (eqb (zone_on z e) (zone_on y e)) (ne_eqb (zone_on z e) (zone_on y e) (ne e he)))

-- ---- the segment that is read stays

pub record Moves (p : Params) (off : List ℕ) (n : ℕ) (ss : List Store) (k₀ : Disk) (sgm : Seg) (ts : List Store) (left : ℕ) (k : Disk) : Type 0 where
  pub going : Going p off n ss k₀ ts left k
  pub same : (e : ℕ) → e < p.N → zone_at (seen p off k₀) e (zone_on sgm e) ≡ zone_at (seen p off k) e (zone_on sgm e)

pub moves_start : (p : Params) (off : List ℕ) (n : ℕ) (ss : List Store) (k : Disk) (sgm : Seg) → Whole p k → AllFit p (seen p off k) ss → Moves p off n ss k sgm ss n k
moves_start p off n ss k sgm w f = record { going = going_start p off n ss k w f; same = λ e h. refl }

pub moves_as : (p : Params) (off : List ℕ) (n : ℕ) (ss : List Store) (k₀ : Disk) (sgm : Seg) (ts us : List Store) (left : ℕ) (k : Disk) → ts ≡ us → Moves p off n ss k₀ sgm ts left k
    → Moves p off n ss k₀ sgm us left k
moves_as p off n ss k₀ sgm ts us left k e g = subst (λ (l : List Store). Moves p off n ss k₀ sgm l left k) e g

pub moves_turn : (p : Params) (r : Ranged p) (off : List ℕ) (n : ℕ) (ss : List Store) (k₀ : Disk) (sgm : Seg) → ZonesLow p 0 sgm → (ts us : List Store) (left : ℕ) (k : Disk) (y : ℕ)
    (k' : Disk)
    → Moves p off n ss k₀ sgm (ts ++ us) left k → Storing p left ts k (Ok y) k' → ((e : ℕ) → e < p.N → hits e (zone_on sgm e) ts ≡ [])
    → Moves p off n ss k₀ sgm us y k'
moves_turn p r off n ss k₀ sgm hz ts us left k y k' g s q = record {
  going = going_turn p r off n ss k₀ ts us left k y k' g.going s;
  same = λ e he. g.same e he ∙ sym (going_kept p r off n ss k₀ ts us left k y k' g.going s e (zone_on sgm e) he (low_here p sgm e hz he) (q e he));
}

pub moves_cut : (p : Params) (off : List ℕ) (n : ℕ) (ss : List Store) (k₀ : Disk) (sgm : Seg) (ts us : List Store) (left : ℕ) (k k' : Disk)
    → Moves p off n ss k₀ sgm (ts ++ us) left k → Storing p left ts k too_few k' → Storing p n ss k₀ too_few k'
moves_cut p off n ss k₀ sgm ts us left k k' g s = owes_cut p n ss k₀ ts us left k k' g.going.owes s

pub moves_done : (p : Params) (off : List ℕ) (n : ℕ) (ss : List Store) (k₀ : Disk) (sgm : Seg) (left : ℕ) (k : Disk) → Moves p off n ss k₀ sgm [] left k
    → Storing p n ss k₀ (Ok left) k
moves_done p off n ss k₀ sgm left k g = owes_done p n ss k₀ left k g.going.owes

pub moves_first : (p : Params) (off : List ℕ) (n : ℕ) (ss : List Store) (k₀ : Disk) (sgm : Seg) (ts us : List Store) (left : ℕ) (k : Disk) → Moves p off n ss k₀ sgm (ts ++ us) left k
    → AllFit p (seen p off k) ts
moves_first p off n ss k₀ sgm ts us left k g = going_first p off n ss k₀ ts us left k g.going

module _ (p : Params) (r : Ranged p) (off : List ℕ) (n : ℕ) (ss : List Store) (k₀ : Disk) (sgm : Seg) (ts : List Store) (left : ℕ) (k : Disk) (g : Moves p off n ss k₀ sgm ts left k) where
  pub moves_found : segment_of p (seen p off k₀) 0 sgm ≡ segment_of p (seen p off k) 0 sgm
  moves_found = zones_segment p r (seen p off k₀) (seen p off k) sgm g.same

  pub moves_sealed : sealed_in p (seen p off k₀) 0 sgm ≡ sealed_in p (seen p off k) 0 sgm
  moves_sealed = zones_sealed p r (seen p off k₀) (seen p off k) sgm g.same

  module _ (w : Group) (ng : w.gone ≡ 0) (ws : w.seg ≡ sgm) where
    pub moves_in : segment_in p off k₀.image k₀.pointers w ≡ segment_in p off k.image k.pointers w
    moves_in = (λ j. segment_of p (seen p off k₀) (ng j) (ws j)) ∙ moves_found ∙ sym (λ j. segment_of p (seen p off k) (ng j) (ws j))

    -- so the index of a group of it stays right
    pub moves_reads : (at : List ℕ) → GroupReads p off k₀.image k₀.pointers w at → GroupReads p off k.image k.pointers w at
    moves_reads at x = record {
      long = g.going.whole.pointers_long;
      full_right = x.full_right ∙ (λ j. sealed_in p (seen p off k₀) (ng j) (ws j)) ∙ moves_sealed ∙ sym (λ j. sealed_in p (seen p off k) (ng j) (ws j));
      indexed = subst (λ (y : Segment). Indexed p y w.base at) moves_in x.indexed;
    }

-- ---- a group of the segment, and a stripe of it

-- stripe i of the group: numbers in range
pub record MovesShown (p : Params) (w : Group) (at : List ℕ) (i : ℕ) : Type 0 where
  pub at_long : length at ≡ 2048
  pub seg-low : ZonesLow p 0 w.seg
  pub base_low : w.base < p.S
  pub in_group : i < group_len p w.base
  pub none_gone : w.gone ≡ 0

pub shown-low : (p : Params) (w : Group) (at : List ℕ) (i : ℕ) → MovesShown p w at i → w.base + i < p.S
unfolding group_len
shown-low p w at i h = omega (arith, h.base_low, h.in_group)

-- ---- one stripe, drive by drive

module _ (p : Params) (r : Ranged p) (off : List ℕ) (n : ℕ) (k₀ : Disk) (w : Group) (hw : ZonesLow p 0 w.seg) (ng : w.gone ≡ 0) (z : Seg) (s m : ℕ) (ne : OtherZones p z w.seg) where
  abbrev x : Segment
  x = segment_in p off k₀.image k₀.pointers w

  abbrev each : ℕ → Store
  each d = moved_to p (segment_in p off k₀.image k₀.pointers w) z s m d

  -- those from drive d on are still to be done
  abbrev pub RowMoves : ℕ → ℕ → Disk → Type 0
  RowMoves d left k =
      Moves p off n (moved_stripe p (segment_in p off k₀.image k₀.pointers w) z s m) k₀ w.seg
      (map (moved_to p (segment_in p off k₀.image k₀.pointers w) z s m) (up_from d (p.N - d))) left k

  pub row_moves_start : Whole p k₀ → AllFit p (seen p off k₀) (moved_stripe p (segment_in p off k₀.image k₀.pointers w) z s m) → RowMoves 0 n k₀
  row_moves_start wh f =
      moves_as p off n (moved_stripe p x z s m) k₀ w.seg (moved_stripe p x z s m) (map each (up_from 0 (p.N - 0))) n k₀ (stripe_are p x z s m ∙ ap (map each) (below-start p.N))
      (moves_start p off n (moved_stripe p x z s m) k₀ w.seg wh f)

  module _ (d left : ℕ) (k : Disk) (g : RowMoves d left k) where
    pub row_done : p.N ≤ d → Storing p n (moved_stripe p x z s m) k₀ (Ok left) k
    row_done h =
        moves_done p off n (moved_stripe p x z s m) k₀ w.seg left k
        (moves_as p off n (moved_stripe p x z s m) k₀ w.seg (map each (up_from d (p.N - d))) [] left k (ap (map each) (up_from_end d p.N h)) g)

    module _ (l : d < p.N) where
      abbrev rest : List Store
      rest = map each (up_from (d + 1) (p.N - (d + 1)))

      drive_piece_step : Moves p off n (moved_stripe p x z s m) k₀ w.seg ((each d ∷ []) ++ rest) left k
      drive_piece_step = moves_as p off n (moved_stripe p x z s m) k₀ w.seg (map each (up_from d (p.N - d))) ((each d ∷ []) ++ rest) left k (ap (map each) (up_from_step d p.N l)) g

      -- the zone has room
      pub row_room : pointer_of p k.pointers d (zone_on z d) < capacity p
      row_room = as! (moves_first p off n (moved_stripe p x z s m) k₀ w.seg (each d ∷ []) rest left k drive_piece_step)
        where
          as! : AllFit p (seen p off k) (each d ∷ []) → pointer_of p k.pointers d (zone_on z d) < capacity p
          as! f = unfold moved_to put_piece in subst (λ (y : ℕ). y < capacity p) (pointer_view p off k d (zone_on z d) f.0.0 f.0.1 g.going.whole) f.0.2

      -- its store, by the bytes
      abbrev due : List Store
      due = moved_to p (segment_in p off k.image k.pointers w) z s m d ∷ []

      piece_stored : (made : Result ℕ TooFew) (k' : Disk) → Storing p left due k made k' → Storing p left (each d ∷ []) k made k'
      piece_stored made k' =
          subst (λ (y : Segment). Storing p left (moved_to p y z s m d ∷ []) k made k')
          (sym (moves_in p r off n (moved_stripe p x z s m) k₀ w.seg (map each (up_from d (p.N - d))) left k g w ng refl))

      pub row_cut : (k' : Disk) → Storing p left due k too_few k' → Storing p n (moved_stripe p x z s m) k₀ too_few k'
      row_cut k' st = moves_cut p off n (moved_stripe p x z s m) k₀ w.seg (each d ∷ []) rest left k k' drive_piece_step (piece_stored too_few k' st)

      pub row_turn : (y : ℕ) (k' : Disk) → Storing p left due k (Ok y) k' → RowMoves (d + 1) y k'
      row_turn y k' st =
          moves_turn p r off n (moved_stripe p x z s m) k₀ w.seg hw (each d ∷ []) rest left k y k' drive_piece_step (piece_stored (Ok y) k' st)
          (λ e he. one_misses p x z s m d e w.seg he ne)

-- ---- one chunk

-- the put of a chunk that is worked out
pub put-moved :
    (p : Params) (n : ℕ) (g : Segment) (to : Seg) (s m d z : ℕ) (b sp : List ℕ) (q : Rec) (k : Disk) (made : Result ℕ TooFew) (k' : Disk)
    → z ≡ zone_on to d
    → mk_piece b q ≡ moved_on p (moved_pieces p g s m) m d
    → sp ≡ record_bytes q
    → Storing p n (put d z b sp ∷ []) k made k' → Storing p n (moved_to p g to s m d ∷ []) k made k'
put-moved p n g to s m d z b sp q k made k' ez e es st =
    subst (λ (l : List Store). Storing p n l k made k') (ap (λ (x : Store). x ∷ []) (ap₂ (λ (x : ℕ) (y : List ℕ). put d x b y) ez es ∙ as!)) st
  where
    as! : put d (zone_on to d) b (record_bytes q) ≡ moved_to p g to s m d
    as! = unfold moved_to put_piece in ap (λ (y : Piece). put d (zone_on to d) y.block (record_bytes y.rec)) e
