-- What is so where no check of a write holds (01, Write; Refusals). Assumes nothing.
use Rattle.std.specs.Prelude.{ℕ, suc, ◌≤◌, ◌<◌, eqb, length, Bool, true, false, cond, ◌&&◌, List, ◌≡◌}
use Rattle.spec.specs.Calls.{first_refusal}
use Rattle.spec.specs.Counts.{last_count, a_stamp}
use Rattle.spec.specs.Drives.{View, Disk, empty_count}
use Rattle.spec.specs.Engine.{lent_ok_of}
use Rattle.spec.specs.Lists.{Opt}
use Rattle.spec.specs.Lists.Opt.{none}
use Rattle.spec.specs.Memory.{Memory}
use Rattle.spec.specs.Params.{in_range, image_len, pointers_len, offline_len, addresses_len, compact_len, inflight_len}
use Rattle.spec.specs.Write.{opens, no_stamp, no_serial, must_wait, scarce, write_checks}
use Rattle.spec.specs.declared.Answer.{Answer}
use Rattle.spec.specs.declared.Answer.TheVariants.{Sent}
use Rattle.spec.specs.declared.Params.{Params}
use Rattle.call_filling.specs.Entries.{SentRow, sent_row}
use Rattle.call_filling.specs.declared.Aim.{Aim}
use Rattle.call_filling.specs.declared.Opened.{Opened}
use Rattle.law_calls.specs.Refusals.{next_low}
use Rattle.law_basic.specs.Ranges.{and_left, and_right, and_both, not_both}
use Rattle.law_checks.specs.Passed.{write_passed}
use Rattle.mem_rows.specs.declared.Change.{Change}
use Rattle.mem_rows.specs.declared.Front.{Front}
use Rattle.mem_rows.specs.declared.Row.{Row}
use Rattle.law_views.specs.Views.{Whole, seen}
use Rattle.std.proofs.Common.{leb-false, eqb-true, eq-eqb, arith}
use Rattle.std.proofs.lemmas.Bool.{eqb-false}

-- 01, Refusals: the first check of a write that holds, on what it is lent
abbrev pub write_refusal : Params → List ℕ → Disk → Memory → ℕ → List ℕ → Opt Answer
write_refusal p off k m a b = first_refusal (write_checks p (lent_ok_of p off k m) (seen p off k) m a b)

pub record WriteReady (p : Params) (off : List ℕ) (k : Disk) (m : Memory) (b : List ℕ) : Type 0 where
  pub ranged : in_range p ≡ true
  pub whole : Whole p k
  pub offline_long : length off ≡ offline_len p
  pub addresses_long : length m.addresses ≡ addresses_len p
  pub compact_long : length m.compact ≡ compact_len p
  pub inflight_long : length m.inflight ≡ inflight_len p
  pub block_long : length b ≡ p.B
  pub stamp_left : m.state.stamp.0 ≡ last_count → ⊥
  pub serial_left : opens p m.state ≡ true → m.state.serial.0 ≡ last_count → ⊥
  pub waits : must_wait p m.state ≡ false
  pub empties : 0 < empty_count p (seen p off k)
  pub next_high : m.state.next ≤ p.S

-- the six lengths, the list's last
pub lent_long_lem : (p : Params) (off : List ℕ) (k : Disk) (m : Memory) → lent_ok_of p off k m ≡ true
    → (length k.image ≡ image_len p) × (length k.pointers ≡ pointers_len p) × (length m.addresses ≡ addresses_len p) × (length m.compact ≡ compact_len p)
    × (length m.inflight ≡ inflight_len p) × (length off ≡ offline_len p)
unfolding lent_ok_of
lent_long_lem p off k m h =
    let o = eqb (length off) (offline_len p) in
    let a = eqb (length k.image) (image_len p) in
    let b = eqb (length k.pointers) (pointers_len p) in
    let c = eqb (length m.addresses) (addresses_len p) in
    let d = eqb (length m.compact) (compact_len p) in
    let e = eqb (length m.inflight) (inflight_len p) in
    let h₄ = and_left (o && a && b && c && d) e h in
    let h₃ = and_left (o && a && b && c) d h₄ in
    let h₂ = and_left (o && a && b) c h₃ in
    let h₁ = and_left (o && a) b h₂ in (
      eqb-true (length k.image) (image_len p) (and_right o a h₁),
      eqb-true (length k.pointers) (pointers_len p) (and_right (o && a) b h₂),
      eqb-true (length m.addresses) (addresses_len p) (and_right (o && a && b) c h₃),
      eqb-true (length m.compact) (compact_len p) (and_right (o && a && b && c) d h₄),
      eqb-true (length m.inflight) (inflight_len p) (and_right (o && a && b && c && d) e h),
      eqb-true (length off) (offline_len p) (and_left o a h₁),
    )

-- 01, Refusals, 8: not scarce
zones_enough : (p : Params) (v : View) (n : ℕ) → 0 < n → scarce p v n ≡ false → 0 < empty_count p v
unfolding scarce
zones_enough p v n g h = omega (arith, leb-false (empty_count p v) n h)

reserve_low : (b : Bool) → 0 < cond {A = ℕ} b 2 1
reserve_low true = omega arith
reserve_low false = omega arith

pub write_ready : (p : Params) (off : List ℕ) (k : Disk) (m : Memory) (a : ℕ) (b : List ℕ) → write_refusal p off k m a b ≡ none → WriteReady p off k m b
unfolding no_stamp no_serial
write_ready p off k m a b e =
    let st = m.state in
    let v = seen p off k in
    let c = write_passed p (lent_ok_of p off k m) v m a b e in
    let l = lent_long_lem p off k m c.lent in
    record {
      ranged = c.in_range_holds;
      whole = record { image_long = l.0; pointers_long = l.1 };
      offline_long = l.5;
      addresses_long = l.2;
      compact_long = l.3;
      inflight_long = l.4;
      block_long = c.block_long;
      stamp_left = eqb-false st.stamp.0 last_count c.stamp_left;
      serial_left = λ q s. not_both (opens p st && eqb st.serial.0 last_count) (and_both (opens p st) (eqb st.serial.0 last_count) q (eq-eqb st.serial.0 last_count s)) c.serial_left;
      waits = c.no_wait;
      empties = zones_enough p v (cond (opens p st) 2 1) (reserve_low (opens p st)) c.room;
      next_high = next_low p st c.state_fine;
    }

-- 01, Write: the block sent with the next stamp
abbrev pub planned_row : Params → Row → List ℕ → Front → Aim → Opened → ℕ → List ℕ → SentRow
planned_row p r fl f a o ad b = sent_row p r fl a.slot a.begins o.next ad (suc f.stamp.0) 1 b

-- and what it changes
abbrev pub planned : Front → Aim → Opened → SentRow → Change
planned f a o q = record {
  answer = Sent (a_stamp (suc f.stamp.0)) q.row.number q.drive;
  stamp = a_stamp (suc f.stamp.0);
  serial = o.serial;
  opened = o.opened;
  next = q.next;
  slot = a.slot;
  row = q.row;
}
