-- The small box: M7 and M8 by computation, on the definitions that a restart computes with. Assumes nothing.
use Rattle.std.specs.Prelude.{◌≡◌, refl, [], ◌∷◌, true, false, ℕ, zero, suc, ◌-◌, ◌/◌, ◌%◌, eqb}
use Rattle.std.proofs.Common.{arith}
use Rattle.proof_crash_machine.specs.Val.{Val, 𝟘, ◌⊕◌, xor_n}
use Rattle.proof_crash_machine.specs.View.{ItemView}
use Rattle.proof_crash_machine.specs.View.Item.{hdr, chunk}
use Rattle.proof_crash_machine.specs.Mask.{low, low_from}
use Rattle.proof_crash_machine.specs.Code.{xor_code, blank, xdec}
use Rattle.proof_crash_machine.specs.Facts.{Par}
use Rattle.proof_crash_machine.specs.Exec.{all_b, max_n, when, has_stripe, stripe_value, ser_of, cop_of, left_b, rem_b, count_b, value_here_holds, val_of, in_data, in_stripe, in_segment, best_stamp}

small : Par
small = record {
  N = 3;
  Z = 4;
  S = 4;
  cap = 7;
  addrs = 8;
  P = 1;
  code = xor_code 3 (λ s. 2 - s % 3) (λ s. omega arith);
  grp = λ s. s / 2;
  some = omega arith;
  fine = λ d y. true;
  zones = λ d l. (0, omega arith, refl);
  fits = omega arith;
}

-- address a, stamp t, block b
abbrev val : ℕ → ℕ → ℕ → Val
val a t b = record { addr = a; stamp = t; blk = λ i. b }

-- segment 0: stripe 0 with address 0 (stamp 1) and 5 (stamp 2) on drives 0 and 1 only; its parity (drive 2) has not landed
partly : ItemView
partly zero zero = hdr 1 0 (λ d. 0) ∷ chunk 0 (val 0 1 15) ∷ []
partly zero (suc z) = []
partly (suc zero) zero = hdr 1 0 (λ d. 0) ∷ chunk 0 (val 5 2 51) ∷ []
partly (suc zero) (suc z) = []
partly (suc (suc zero)) zero = hdr 1 0 (λ d. 0) ∷ []
partly (suc (suc zero)) (suc z) = []
partly (suc (suc (suc d))) z = []

-- M8: it doesn't count with none missing, and counts with drive 2 missing
m8_none : best_stamp small partly (λ d. false) (λ k. k) 5 ≡ 0
unfolding small partly best_stamp in_segment in_stripe in_data max_n when rem_b left_b all_b count_b has_stripe stripe_value ser_of cop_of low low_from val_of
    value_here_holds xor_code xdec blank xor_n 𝟘 ◌⊕◌
m8_none = refl

m8_missing : best_stamp small partly (λ d. eqb d 2) (λ k. k) 5 ≡ 2
unfolding small partly best_stamp in_segment in_stripe in_data max_n when rem_b left_b all_b count_b has_stripe stripe_value ser_of cop_of low low_from val_of
    value_here_holds xor_code xdec blank xor_n 𝟘 ◌⊕◌
m8_missing = refl

-- M7: address 0 in stripe 0 (stamp 1) and in stripe 1 (stamp 3), both whole, stripe 1 landed first: stamp 3 is read, whichever drive is missing
both : ItemView
both zero zero = hdr 1 0 (λ d. 0) ∷ chunk 1 (val 0 3 7) ∷ chunk 0 (val 0 1 15) ∷ []
both zero (suc z) = []
both (suc zero) zero = hdr 1 0 (λ d. 0) ∷ chunk 1 (val 1 7 7) ∷ chunk 0 (val 5 2 51) ∷ []
both (suc zero) (suc z) = []
both (suc (suc zero)) zero = hdr 1 0 (λ d. 0) ∷ chunk 1 (val 1 4 0) ∷ chunk 0 (val 5 3 60) ∷ []
both (suc (suc zero)) (suc z) = []
both (suc (suc (suc d))) z = []

m7 : (best_stamp small both (λ d. false) (λ k. k) 0 ≡ 3) × (best_stamp small both (λ d. eqb d 0) (λ k. k) 0 ≡ 3) × (best_stamp small both (λ d. eqb d 1) (λ k. k) 0 ≡ 3)
    × (best_stamp small both (λ d. eqb d 2) (λ k. k) 0 ≡ 3)
unfolding small both best_stamp in_segment in_stripe in_data max_n when rem_b left_b all_b count_b has_stripe stripe_value ser_of cop_of low low_from val_of
    value_here_holds xor_code xdec blank xor_n 𝟘 ◌⊕◌
m7 = (refl, refl, refl, refl)
