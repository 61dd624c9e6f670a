-- What is so where no check of both reads holds (01, Read; Refusals). Assumes nothing.
use Rattle.call_read.specs.Order.{read_refusal, found_at}
use Rattle.std.specs.Prelude.{◌≡◌, ℕ, ◌<◌, List, [], true, ◌&&◌, eqb, length}
use Rattle.std.proofs.Common.{eqb-true}
use Rattle.spec.specs.declared.Params.{Params}
use Rattle.spec.specs.Drives.{Disk}
use Rattle.spec.specs.Engine.{lent_ok_of}
use Rattle.spec.specs.Lists.Opt.{none}
use Rattle.spec.specs.Memory.{Memory}
use Rattle.spec.specs.Params.{in_range, addresses_len, compact_len}
use Rattle.spec.specs.Read.{found_faults}
use Rattle.law_basic.specs.Ranges.{and_left, and_right}
use Rattle.law_views.specs.Views.{Whole, seen}
use Rattle.law_checks.specs.Passed.{ReadPassed, passed_too, read_passed}
use Rattle.call_write.specs.Ready.{lent_long_lem}

pub record ReadReady (p : Params) (off : List ℕ) (k : Disk) (m : Memory) (a n : ℕ) : Type 0 where
  pub ranged : in_range p ≡ true
  pub whole : Whole p k
  pub addresses_long : length m.addresses ≡ addresses_len p
  pub compact_long : length m.compact ≡ compact_len p
  pub block_long : n ≡ p.B
  pub address_low : a < p.L
  pub faultless : found_faults p (seen p off k) m.state.missing (found_at p off k m a n) ≡ []

-- 01, Refusals: no check of a read holds, whatever block is lent
pub ready_passed : (p : Params) (off : List ℕ) (k : Disk) (m : Memory) (a n : ℕ) → read_refusal p off k m a n ≡ none → ReadPassed p (lent_ok_of p off k m) (seen p off k) m a
ready_passed p off k m a n e =
    let long = lent_ok_of p off k m && eqb n p.B in
    let c = read_passed p long (seen p off k) m a e in
    passed_too p long (lent_ok_of p off k m) (seen p off k) m a (and_left (lent_ok_of p off k m) (eqb n p.B) c.lent) c

pub read_ready : (p : Params) (off : List ℕ) (k : Disk) (m : Memory) (a n : ℕ) → read_refusal p off k m a n ≡ none → ReadReady p off k m a n
read_ready p off k m a n e =
    let c = read_passed p (lent_ok_of p off k m && eqb n p.B) (seen p off k) m a e in
    let l = lent_long_lem p off k m (and_left (lent_ok_of p off k m) (eqb n p.B) c.lent) in
    record {
      ranged = c.in_range_holds;
      whole = record { image_long = l.0; pointers_long = l.1 };
      addresses_long = l.2;
      compact_long = l.3;
      block_long = eqb-true n p.B (and_right (lent_ok_of p off k m) (eqb n p.B) c.lent);
      address_low = c.address_low;
      faultless = c.place_fine;
    }
