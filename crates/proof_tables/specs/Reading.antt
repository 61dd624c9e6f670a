-- The read calls on the lent bytes: they change nothing, are never refused 9, and give what the drives say. Assumes nothing.
use Rattle.std.specs.Prelude.{◌≡◌, Bool, false, ◌&&◌, ℕ, ◌<◌, length}
use Rattle.std.proofs.Math.Path.{refl, ap}
use Rattle.std.proofs.Common.{sym, ◌∙◌, subst}
use mathlib.Core.List.{List, []}
use Rattle.std.proofs.Math.Dec.{eqb, leb-zero}
use Rattle.spec.specs.declared.Answer.{Answer}
use Rattle.spec.specs.declared.Answer.TheVariants.{Filled}
use Rattle.spec.specs.declared.Params.{Params}
use Rattle.spec.specs.Answers.{kind, is_refused, is_refused_as}
use Rattle.spec.specs.Calls.{Check, first_refusal, Plan, mk_plan, Verdict, decided, After, mk_after, limited, outcome}
use Rattle.spec.specs.Counts.{a_stamp}
use Rattle.spec.specs.Demands.{said_block, said_at}
use Rattle.spec.specs.Drives.{View, Store, Disk, store_disk, store_all, above_narrow, few_good, view_of}
use Rattle.spec.specs.Engine.{store_count, lent_block, verdict, lent_ok_of, call_on, call_disk}
use Rattle.spec.specs.Engine.Call.{read, fill}
use Rattle.spec.specs.History.{mk_world, seen_at}
use Rattle.spec.specs.History.Seen.{got}
use Rattle.spec.specs.Lists.{Opt}
use Rattle.spec.specs.Lists.Opt.{none, some}
use Rattle.spec.specs.Memory.{Memory}
use Rattle.spec.specs.Parity.{Piece}
use Rattle.spec.specs.Rank.{Cand, best, cands_of}
use Rattle.spec.specs.Read.{Found, found_faults, decode_faults, read_piece, read_answer_of, read_verdict, fill_verdict, lies, lookup, read_checks, read_plan, fill_plan}
use Rattle.spec.specs.Read.Found.{nowhere, here, away}
use Rattle.spec.specs.Segments.{segments, candidates, compact_table, address_table}
use Rattle.law_basic.specs.Geometry.{Ranged, ranged}
use Rattle.law_basic.specs.Stores.{refused_same}
use Rattle.law_views.specs.Views.{seen}
use Rattle.law_calls.specs.Refusals.{state_fine}
use Rattle.law_checks.specs.Checks.{Decided, decide}
use Rattle.law_checks.specs.Checks.{Mild}
use Rattle.law_checks.specs.Passed.{ReadPassed, read_mild}
use Rattle.law_checks.specs.Reads.{piece_in, seen_never, seen_here, seen_away}
use Rattle.proof_tables.specs.Base.{Base, FindsAt, found_clear, decodes_clear, lies-found, read_here, read_away, said_read}
use Rattle.law_drives.specs.Laid.{address_low}
use Rattle.proof_tables.specs.Base.FindsAt.{finds_none, finds_here, finds_away}
use Rattle.law_checks.specs.Checks.Decided.{stops, goes}
use Rattle.spec.specs.Calls.Verdict.{refused, due}

-- a call that is decided: refused it leaves all; due, and with no store, it leaves the drives
pub left_idle : {D : Type 0} (p : Params) (f : Store → D → D) (n : ℕ) (d : D) (m m' : Memory) (b b' : List ℕ) (a : Answer)
    → outcome p f n d m b (due (mk_plan [] a m' b')) ≡ mk_after a d m' b'
unfolding outcome limited store_all
left_idle p f n d m m' b b' a = rw (leb-zero n)

-- demand 2: tables and reads, with the state as a value
pub record RunSays (p : Params) (off : List ℕ) (k : Disk) (m : Memory) : Type 0 where
  pub addresses_say : m.addresses ≡ address_table p (candidates p m.state.missing (segments p (seen p off k) m.state.missing))
  pub compact_says : m.compact ≡ compact_table p (segments p (seen p off k) m.state.missing)
  pub reads_say : (a : ℕ) → a < p.L → seen_at p off (mk_world k m) a ≡ said_at p (seen p off k) m.state.missing a

module _ (p : Params) (off : List ℕ) (k : Disk) (m : Memory) (b : Base p off k m) where
  abbrev v : View
  v = seen p off k

  abbrev gone : ℕ
  gone = m.state.missing

  abbrev place : ℕ → Found
  place a = lies p gone m.addresses a

  -- block and record that both reads find
  abbrev piece : ℕ → Piece
  piece a = read_piece p v gone m.compact (place a)

  abbrev winner : ℕ → Opt Cand
  winner a = best none (cands_of a (candidates p gone (segments p v gone)))

  rg : Ranged p
  rg = ranged p b.ranged

  enough : few_good p v.offline ≡ false
  unfolding view_of
  enough = b.zones_enough

  fit : above_narrow p v.offline ≡ false
  unfolding view_of
  fit = b.addresses_fit

  pub winner_found : (a : ℕ) → a < p.L → FindsAt p v gone (winner a) (place a)
  winner_found a h = subst (λ (x : List ℕ). FindsAt p v gone (winner a) (lies p gone x a)) (sym b.addresses_say) (lies-found p rg v gone b.low_here b.apart a h)

  found_ok : (a : ℕ) → a < p.L → found_faults p v gone (place a) ≡ []
  found_ok a h = found_clear p rg v gone b.low_here b.apart (winner a) (place a) (winner_found a h)

  decode_ok : (a : ℕ) → a < p.L → decode_faults p v gone m.compact (place a) ≡ []
  decode_ok a h = ap (λ (x : List ℕ). decode_faults p v gone x (place a)) b.compact_says
      ∙ decodes_clear p rg v gone b.low_here b.apart (winner a) (place a) b.decodes (winner_found a h)

  both_reads_pass : (a : ℕ) → a < p.L → ReadPassed p (lent_ok_of p off k m) v m a
  both_reads_pass a h = record {
    in_range_holds = b.ranged;
    lent = b.lent;
    zones_enough = enough;
    addresses_fit = fit;
    address_low = h;
    state_fine = b.state_ok_holds;
    place_fine = found_ok a h;
    decodes = decode_ok a h;
  }

  -- ---- what the two reads give is what the drives say

  -- only a block that is found is read
  pub reads_said : (a : ℕ) → a < p.L → seen_at p off (mk_world k m) a ≡ said_at p v gone a
  reads_said a h = go (winner_found a h)
    where
      cs : List ℕ
      cs = compact_table p (segments p v gone)

      said! : (o : Opt Cand) → winner a ≡ o → said_block p v gone o ≡ said_at p v gone a
      said! o e = unfold said_at in ap (said_block p v gone) (sym e)

      -- by the table that the drives say
      shown! : (f : Found) → got (piece_in p off k m f).block (piece_in p off k m f).rec.stamp ≡ got (read_piece p v gone cs f).block (read_piece p v gone cs f).rec.stamp
      shown! f = ap (λ (x : List ℕ). got (read_piece p v gone x f).block (read_piece p v gone x f).rec.stamp) b.compact_says

      go : FindsAt p v gone (winner a) (place a) → seen_at p off (mk_world k m) a ≡ said_at p v gone a
      go (finds_none e q) = seen_never p off k m a (both_reads_pass a h) q ∙ (unfold said_block in said! none e)
      go (finds_here c e i t x q) =
          let y = read_piece p v gone cs (here c.place) in
          seen_here p off k m a (both_reads_pass a h) c.place q ∙ shown! (here c.place)
          ∙ said_read p rg v gone b.low_here b.apart c i t y (read_here p rg v gone b.low_here b.apart c i t cs x) ∙ said! (some c) e
      go (finds_away c e i t x q) =
          let y = read_piece p v gone cs (away c.place) in
          seen_away p off k m a (both_reads_pass a h) c.place q ∙ shown! (away c.place)
          ∙ said_read p rg v gone b.low_here b.apart c i t y (read_away p rg v gone b.low_here b.apart c i t (b.decodes c.drive x) x) ∙ said! (some c) e

  pub run_says : RunSays p off k m
  run_says = record { addresses_say = b.addresses_say; compact_says = b.compact_says; reads_say = reads_said }

  -- ---- reads of any address

  answer_mild : (t : ℕ) (f : Found) → is_refused_as 9 (read_answer_of p t f) ≡ false
  unfolding read_answer_of is_refused_as is_refused kind
  answer_mild t nowhere = refl
  answer_mild t (here q) = refl
  answer_mild t (away q) = refl

  -- no check of a read gives 9
  calls_mild : (long : Bool) (a : ℕ) → Mild (read_checks p long v m a)
  calls_mild long a = read_mild p long v m a b.state_ok_holds (found_ok a) (decode_ok a)

  pub record Idle (r : After Disk) : Type 0 where
    pub mild : is_refused_as 9 r.answer ≡ false
    pub same_drives : r.drives ≡ k
    pub same_memory : r.memory ≡ m

  idle-refused : (n : ℕ) (l : List ℕ) (a : Answer) (w : Verdict) → is_refused_as 9 a ≡ false → w ≡ refused a → Idle (outcome p (store_disk p) n k m l w)
  idle-refused n l a w h e = subst (λ (x : After Disk). Idle x) (sym (ap (outcome p (store_disk p) n k m l) e ∙ refused_same p (store_disk p) n k m l a))
      (record { mild = h; same_drives = refl; same_memory = refl })

  idle_due : (n : ℕ) (l l' : List ℕ) (a : Answer) (w : Verdict) → is_refused_as 9 a ≡ false → w ≡ due (mk_plan [] a m l') → Idle (outcome p (store_disk p) n k m l w)
  idle_due n l l' a w h e = subst (λ (x : After Disk). Idle x) (sym (ap (outcome p (store_disk p) n k m l) e ∙ left_idle p (store_disk p) n k m m l l' a))
      (record { mild = h; same_drives = refl; same_memory = refl })

  idle-decided : (l l' : List ℕ) (x : Answer) (cs : List Check) (q : Plan) → Mild cs → is_refused_as 9 x ≡ false → q ≡ mk_plan [] x m l'
      → Idle (outcome p (store_disk p) 0 k m l (decided (first_refusal cs) q))
  idle-decided l l' x cs q cl h e = go (decide cs q)
    where
      go : Decided cs q (decided (first_refusal cs) q) → Idle (outcome p (store_disk p) 0 k m l (decided (first_refusal cs) q))
      go (stops y f w) = idle-refused 0 l y (decided (first_refusal cs) q) (cl y f) w
      go (goes f w) = idle_due 0 l l' x (decided (first_refusal cs) q) h (w ∙ ap due e)

  first_plan : (a : ℕ) → read_plan p v m a ≡ mk_plan [] (read_answer_of p (piece a).rec.stamp (place a)) m []
  unfolding read_plan lookup
  first_plan a = refl

  second_plan : (a : ℕ) → fill_plan p v m a ≡ mk_plan [] (Filled (a_stamp (piece a).rec.stamp)) m (piece a).block
  unfolding fill_plan lookup
  second_plan a = refl

  pub read_idle : (a : ℕ) → Idle (call_disk p off k m (read a))
  unfolding call_disk call_on verdict store_count lent_block read_verdict
  read_idle a = idle-decided [] [] (read_answer_of p (piece a).rec.stamp (place a)) (read_checks p (lent_ok_of p off k m) v m a) (read_plan p v m a) (calls_mild (lent_ok_of p off k m) a)
      (answer_mild (piece a).rec.stamp (place a)) (first_plan a)

  pub fill_idle : (a : ℕ) (l : List ℕ) → Idle (call_disk p off k m (fill a l))
  unfolding call_disk call_on verdict store_count lent_block fill_verdict
  fill_idle a l = idle-decided l (piece a).block (Filled (a_stamp (piece a).rec.stamp)) (read_checks p (lent_ok_of p off k m && eqb (length l) p.B) v m a) (fill_plan p v m a)
      (calls_mild (lent_ok_of p off k m && eqb (length l) p.B) a) (unfold is_refused_as is_refused kind in refl) (second_plan a)
