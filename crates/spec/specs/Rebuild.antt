-- Rebuild (01, Restart and rebuild). Assumes nothing.
use Rattle.std.specs.Prelude.{List, [], ◌∷◌, ◌++◌, map, Bool, cond, not, ◌&&◌, ◌||◌, ℕ, ltb, eqb}
use Rattle.spec.specs.declared.Params.{Params}
use Rattle.spec.specs.declared.State.{State}
use Rattle.spec.specs.declared.Answer.TheVariants.{Rebuilt}
use Rattle.spec.specs.Calls.{Check, first_refusal, mk_plan, Verdict, decided}
use Rattle.spec.specs.Calls.Check.{rule}
use Rattle.spec.specs.Drives.{View, Store, good_zones, zone_on, zero_spare, zones_in}
use Rattle.spec.specs.Drives.Store.{put, reset}
use Rattle.spec.specs.Faults.{image_checks}
use Rattle.spec.specs.Layout.{header_block, record_bytes, footer_block}
use Rattle.spec.specs.Lists.{below, flat}
use Rattle.spec.specs.Memory.{Memory}
use Rattle.spec.specs.Params.{in_range, footers, named}
use Rattle.spec.specs.Parity.{Piece}
use Rattle.spec.specs.Segments.{Segment, segments, counted, piece_of, put_piece}
use Rattle.spec.specs.Write.{list_rules}

-- 01, Refusals, 1: rebuild unless of the drive the last restart named missing
unfoldable pub names_missing : Params → State → ℕ → Bool
names_missing p st d = ltb d p.N && eqb st.missing (named d)

-- 01, Refusals: the checks of a rebuild
unfoldable pub rebuild_checks : Params → Bool → View → Memory → ℕ → List Segment → List Check
rebuild_checks p long v m d gs =
    rule 1 (not (in_range p) || not (names_missing p m.state d)) ∷ rule 2 (not long) ∷ list_rules p v ++ image_checks p v (named d) gs

-- 01, Rebuild: header, the chunk of each counted stripe in rising order, and the footer if the survivors' zones are full
unfoldable pub rebuilt_zone : Params → ℕ → Segment → List Store
rebuilt_zone p d g =
    let z = zone_on g.seg d in
    let qs = map (λ s. piece_of p (named d) g s d) (counted p (named d) g) in
    let fs = map (λ i. put d z (footer_block p (map (λ (q : Piece). record_bytes q.rec) qs) i) zero_spare) (below (footers p)) in
    put d z (header_block p d (zones_in p g.seg) g.serial g.copied) zero_spare ∷ map (put_piece d z) qs ++ cond g.full fs []

-- 02, item 4: a segment among others by rising serial
unfoldable pub insert_segment : Segment → List Segment → List Segment
insert_segment g [] = g ∷ []
insert_segment g (h ∷ hs) = cond (ltb h.serial g.serial) (h ∷ insert_segment g hs) (g ∷ h ∷ hs)

-- 02, item 4: where stores had the lower segment first, the lower serial is now first
unfoldable pub by_serial : List Segment → List Segment
by_serial [] = []
by_serial (g ∷ gs) = insert_segment g (by_serial gs)

-- 01, Rebuild: resets the named drive, then each remaining segment; 02, item 4: its good zones
unfoldable pub rebuild_stores : Params → View → ℕ → List Segment → List Store
rebuild_stores p v d gs = map (reset d) (good_zones p v.offline d) ++ flat (rebuilt_zone p d) (by_serial gs)

-- 01, Rebuild: state and tables don't change
unfoldable pub rebuild_verdict : Params → Bool → View → Memory → ℕ → Verdict
rebuild_verdict p long v m d =
    let gs = segments p v (named d) in
    let q = mk_plan (rebuild_stores p v d gs) Rebuilt m [] in
    decided (first_refusal (rebuild_checks p long v m d gs)) q
