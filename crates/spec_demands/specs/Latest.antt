-- Demand 2, "from those bytes alone, a read gives the latest-sent block among whole stripes", in plain terms: which block `said_at` gives. Assumes nothing.
use Rattle.std.specs.Prelude.{◌≡◌, true, false, ℕ, ◌<◌}
use Rattle.spec.specs.declared.Params.{Params}
use Rattle.spec.specs.Demands.{said_at}
use Rattle.spec.specs.Drives.{View}
use Rattle.spec.specs.History.{Seen}
use Rattle.spec.specs.History.Seen.{unwritten, got}
use Rattle.spec.specs.Layout.{is_data}
use Rattle.spec.specs.Lists.{Opt}
use Rattle.spec.specs.Lists.Opt.{none, some}
use Rattle.spec.specs.Params.{in_range}
use Rattle.spec.specs.Rank.{Cand, beats, best, cands_of}
use Rattle.spec.specs.Segments.{segment_of, segments, counts, piece_of, cand_of, candidates}
use Rattle.spec_demands.specs.Layouts.{Remains}
use Rattle.spec.specs.declared.Seg.{Seg}

-- 01, The calls: c is a record of address a, of a data drive of a counted stripe of a remaining segment
pub record Recorded (p : Params) (v : View) (gone a : ℕ) (c : Cand) : Type 0 where
  pub segment : Seg
  pub stripe : ℕ
  pub drive : ℕ
  pub segment_remains : Remains p v gone segment
  pub stripe_low : stripe < p.S
  pub stripe_counts : counts p gone (segment_of p v gone segment) stripe ≡ true
  pub drive_low : drive < p.N
  pub drive_data : is_data p stripe drive ≡ true
  pub it_is : c ≡ cand_of p gone (segment_of p v gone segment) stripe drive
  pub of_address : c.address ≡ a

-- demand 2: x is what address a must read, o the record that holds: there is no such record, or one that no other beats, and x is its block, stored or
-- decoded, and its stamp (02, item 2)
pub data Latest (p : Params) (v : View) (gone a : ℕ) (o : Opt Cand) (x : Seen) : Type 0 where
  never : ((c : Cand) → Recorded p v gone a c → ⊥) → o ≡ none → x ≡ unwritten → Latest p v gone a o x
  latest : (c : Cand) (k : Recorded p v gone a c) → ((e : Cand) → Recorded p v gone a e → beats e c ≡ false) → o ≡ some c
      → x ≡ got (piece_of p gone (segment_of p v gone k.segment) k.stripe k.drive).block c.stamp → Latest p v gone a o x

-- demand 2: of every view and missing drives, at every address
abbrev pub SaidIsLatest : Type 0
SaidIsLatest = (p : Params) → in_range p ≡ true → (v : View) (gone a : ℕ) → Latest p v gone a (best none (cands_of a (candidates p gone (segments p v gone)))) (said_at p v gone a)
