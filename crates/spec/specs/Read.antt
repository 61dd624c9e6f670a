-- The two read calls (01, Read). Assumes nothing.
use Rattle.std.specs.Prelude.{List, [], ◌∷◌, ◌++◌, map, Bool, cond, not, ◌&&◌, ◌||◌, ℕ, ◌+◌, ◌-◌, leb, eqb, length, replicate}
use Rattle.spec.specs.declared.Params.{Params}
use Rattle.spec.specs.declared.Answer.{Answer}
use Rattle.spec.specs.declared.Answer.TheVariants.{Part, Never, Lost, Filled}
use Rattle.spec.specs.Calls.{Check, first_refusal, Plan, mk_plan, Verdict, decided}
use Rattle.spec.specs.Calls.Check.{rule, zones}
use Rattle.spec.specs.Counts.{never_place, a_stamp}
use Rattle.spec.specs.Drives.{View, pointer_at, chunk_at, record_at, zone_on}
use Rattle.spec.specs.Layout.{mk_rec}
use Rattle.spec.specs.Lists.{any, cons_if, is_nil, first_or, is_in}
use Rattle.spec.specs.Memory.{Memory, state_faults, place_at_of, shown_at}
use Rattle.spec.specs.Params.{between, in_range, place_block, place_zone, place_drive, place_byte, present}
use Rattle.spec.specs.Parity.{Piece, mk_piece, decode_piece}
use Rattle.spec.specs.Segments.{is_place, place_segment}
use Rattle.spec.specs.Write.{list_rules}
use Rattle.spec.specs.declared.Seg.{Seg}

-- 01, Refusals, 9: a place to be read: not a data block, or on a present drive not below its zone's pointer; outside the image names zone 0
unfoldable pub place_faults : Params → View → ℕ → ℕ → List ℕ
place_faults p v gone q =
    let d = place_drive p q in
    let z = place_zone p q in
    let b = place_block p q in
    cond (not (is_place p v gone q)) (0 ∷ [])
    (cons_if (not (between 1 p.S b) || (not (is_in gone d) && leb (pointer_at v d z) b)) z [])

-- 01, Read: where an address lies
pub data Found : Type 0 where
  nowhere : Found
  here : ℕ → Found
  away : ℕ → Found

-- 01, Read: where the table says that it lies
unfoldable pub lies : Params → ℕ → List ℕ → ℕ → Found
lies p gone tb a =
    let q = place_at_of tb a in
    let r = cond (is_in gone (place_drive p q)) (away q) (here q) in
    cond (eqb q never_place) nowhere r

-- 01, Refusals, 9: a place to be read
unfoldable pub found_faults : Params → View → ℕ → Found → List ℕ
found_faults p v gone nowhere = []
found_faults p v gone (here q) = place_faults p v gone q
found_faults p v gone (away q) = place_faults p v gone q

-- 01, What a zone holds: the offsets at which the present drives show a stripe: lowest of each, as a list of lists
unfoldable pub shown : Params → View → ℕ → List ℕ → Seg → ℕ → List (List ℕ)
shown p v gone cs g s = map (λ d. shown_at p v cs d (zone_on g d) s) (present p gone)

-- 01, Refusals, 9: a decode whose stripe the table doesn't show on all present drives
unfoldable pub decode_faults : Params → View → ℕ → List ℕ → Found → List ℕ
decode_faults p v gone cs nowhere = []
decode_faults p v gone cs (here q) = []
decode_faults p v gone cs (away q) = cons_if (any is_nil (shown p v gone cs (place_segment p v gone q) (place_block p q - 1))) (place_zone p q) []

-- 01, Read: block and record at a place of a present drive
unfoldable pub stored_at : Params → View → ℕ → ℕ → Seg → ℕ → Piece
stored_at p v gone d g o = mk_piece (chunk_at v d (zone_on g d) (1 + o)).block (record_at p v gone d g o)

-- 01, Read: block and record of drive d, decoded from the chunks that the table shows
unfoldable pub decoded_at : Params → View → ℕ → List ℕ → ℕ → Seg → ℕ → Piece
decoded_at p v gone cs d g s = decode_piece p gone s d (λ e. stored_at p v gone e g (first_or 0 (shown_at p v cs e (zone_on g e) s)))

-- 01, Read: the block, with its record, that an address reads: zeros if never written
unfoldable pub read_piece : Params → View → ℕ → List ℕ → Found → Piece
read_piece p v gone cs nowhere = mk_piece (replicate p.B 0) (mk_rec 0 0 0)
read_piece p v gone cs (here q) = stored_at p v gone (place_drive p q) (place_segment p v gone q) (place_block p q - 1)
read_piece p v gone cs (away q) = decoded_at p v gone cs (place_drive p q) (place_segment p v gone q) (place_block p q - 1)

-- 02, item 2: what the lookup of an address gives: where it lies, and the stamp of its record
pub record Lookup : Type 0 where
  pub found : Found
  pub stamp : ℕ

-- 02, item 2: the stamp by footer or spare, as in restart; on the missing drive decoded; 0 if never written
unfoldable pub lookup : Params → View → ℕ → List ℕ → List ℕ → ℕ → Lookup
lookup p v gone cs tb a =
    let f = lies p gone tb a in
    record { found = f; stamp = (read_piece p v gone cs f).rec.stamp }

-- 01, Read: the part of the image, never written, or on the missing drive; 02, item 2: with the stamp
unfoldable pub read_answer_of : Params → ℕ → Found → Answer
read_answer_of p t nowhere = Never
read_answer_of p t (here q) = Part (place_byte p q) (a_stamp t)
read_answer_of p t (away q) = Lost (a_stamp t)

-- 01, Refusals: the checks of both reads; 02, item 2: the first one's stamp needs the decode too
unfoldable pub read_checks : Params → Bool → View → Memory → ℕ → List Check
read_checks p long v m a =
    let st = m.state in
    let gone = st.missing in
    let f = lies p gone m.addresses a in
    rule 1 (not (in_range p)) ∷ rule 2 (not long) ∷ list_rules p v
    ++ (rule 4 (leb p.L a) ∷ zones (state_faults p st ++ found_faults p v gone f) ∷ zones (decode_faults p v gone m.compact f) ∷ [])

-- 01, Read: what the first call gives
unfoldable pub read_plan : Params → View → Memory → ℕ → Plan
read_plan p v m a =
    let l = lookup p v m.state.missing m.compact m.addresses a in
    mk_plan [] (read_answer_of p l.stamp l.found) m []

-- 01, Read: the first call
unfoldable pub read_verdict : Params → Bool → View → Memory → ℕ → Verdict
read_verdict p long v m a = decided (first_refusal (read_checks p long v m a)) (read_plan p v m a)

-- 01, Read: what the second call gives
unfoldable pub fill_plan : Params → View → Memory → ℕ → Plan
fill_plan p v m a =
    let gone = m.state.missing in
    let cs = m.compact in
    let l = lookup p v gone cs m.addresses a in
    mk_plan [] (Filled (a_stamp l.stamp)) m (read_piece p v gone cs l.found).block

-- 01, Read: the second call, on a lent block
unfoldable pub fill_verdict : Params → Bool → View → Memory → ℕ → List ℕ → Verdict
fill_verdict p long v m a b = decided (first_refusal (read_checks p (long && eqb (length b) p.B) v m a)) (fill_plan p v m a)
