-- The lent buffers have their lengths: as a test and as facts.
use Rattle.std.specs.Prelude.{◌≡◌, List, true, ◌&&◌, ℕ, eqb, length}
use Rattle.std.proofs.Common.{eqb-true, eq-eqb}
use Rattle.spec.specs.declared.Params.{Params}
use Rattle.spec.specs.Drives.{Disk}
use Rattle.spec.specs.Engine.{lent_ok_of}
use Rattle.spec.specs.Memory.{Memory}
use Rattle.spec.specs.Params.{image_len, pointers_len, addresses_len, compact_len, inflight_len, offline_len}
use Rattle.law_basic.specs.Ranges.{and_left, and_right, and_both}
use Rattle.law_views.specs.Views.{Whole}

pub record Lengths (p : Params) (off : List ℕ) (k : Disk) (m : Memory) : Type 0 where
  pub offline_ok : length off ≡ offline_len p
  pub image_ok : length k.image ≡ image_len p
  pub pointers_ok : length k.pointers ≡ pointers_len p
  pub addresses_ok : length m.addresses ≡ addresses_len p
  pub compact_ok : length m.compact ≡ compact_len p
  pub inflight_ok : length m.inflight ≡ inflight_len p

pub lengths_of : (p : Params) (off : List ℕ) (k : Disk) (m : Memory) → lent_ok_of p off k m ≡ true → Lengths p off k m
unfolding lent_ok_of
lengths_of p off k m q =
    let t0 = eqb (length off) (offline_len p) in
    let t1 = eqb (length k.image) (image_len p) in
    let t2 = eqb (length k.pointers) (pointers_len p) in
    let t3 = eqb (length m.addresses) (addresses_len p) in
    let t4 = eqb (length m.compact) (compact_len p) in
    let t5 = eqb (length m.inflight) (inflight_len p) in
    let q4 = and_left (t0 && t1 && t2 && t3 && t4) t5 q in
    let q3 = and_left (t0 && t1 && t2 && t3) t4 q4 in
    let q2 = and_left (t0 && t1 && t2) t3 q3 in
    let q1 = and_left (t0 && t1) t2 q2 in
    record {
      offline_ok = eqb-true (length off) (offline_len p) (and_left t0 t1 q1);
      image_ok = eqb-true (length k.image) (image_len p) (and_right t0 t1 q1);
      pointers_ok = eqb-true (length k.pointers) (pointers_len p) (and_right (t0 && t1) t2 q2);
      addresses_ok = eqb-true (length m.addresses) (addresses_len p) (and_right (t0 && t1 && t2) t3 q3);
      compact_ok = eqb-true (length m.compact) (compact_len p) (and_right (t0 && t1 && t2 && t3) t4 q4);
      inflight_ok = eqb-true (length m.inflight) (inflight_len p) (and_right (t0 && t1 && t2 && t3 && t4) t5 q);
    }

pub whole_of : (p : Params) (off : List ℕ) (k : Disk) (m : Memory) → lent_ok_of p off k m ≡ true → Whole p k
whole_of p off k m q = record { image_long = (lengths_of p off k m q).image_ok; pointers_long = (lengths_of p off k m q).pointers_ok }

pub of_lengths : (p : Params) (off : List ℕ) (k : Disk) (m : Memory) → Lengths p off k m → lent_ok_of p off k m ≡ true
unfolding lent_ok_of
of_lengths p off k m l =
    let t0 = eqb (length off) (offline_len p) in
    let t1 = eqb (length k.image) (image_len p) in
    let t2 = eqb (length k.pointers) (pointers_len p) in
    let t3 = eqb (length m.addresses) (addresses_len p) in
    let t4 = eqb (length m.compact) (compact_len p) in
    let t5 = eqb (length m.inflight) (inflight_len p) in
    and_both (t0 && t1 && t2 && t3 && t4) t5
    (and_both (t0 && t1 && t2 && t3) t4
    (and_both (t0 && t1 && t2) t3
    (and_both (t0 && t1) t2
    (and_both t0 t1 (eq-eqb (length off) (offline_len p) l.offline_ok) (eq-eqb (length k.image) (image_len p) l.image_ok))
    (eq-eqb (length k.pointers) (pointers_len p) l.pointers_ok))
    (eq-eqb (length m.addresses) (addresses_len p) l.addresses_ok))
    (eq-eqb (length m.compact) (compact_len p) l.compact_ok))
    (eq-eqb (length m.inflight) (inflight_len p) l.inflight_ok)
