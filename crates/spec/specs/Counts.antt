-- The four counts: addresses, places, stamps and serials, with their constants (01, The array). Assumes nothing.
use Rattle.std.specs.Prelude.{ℕ}
use Rattle.spec.specs.declared.Stamp.{Stamp}
use Rattle.spec.specs.declared.Serial.{Serial}

-- 01, The array: the padding address is 2^64 - 1
abbrev pub padding_address : ℕ
padding_address = 18446744073709551615

-- 01, The array: the place of a never-written address is 2^32 - 1
abbrev pub never_place : ℕ
never_place = 4294967295

-- 01, The array: the first stamp and the first serial are 1; Refusals, 6: both end at 2^64 - 1
abbrev pub first_count : ℕ
first_count = 1

abbrev pub last_count : ℕ
last_count = 18446744073709551615

-- a stamp, a serial of this number
abbrev pub a_stamp : ℕ → Stamp
a_stamp n = record { 0 = n }

abbrev pub a_serial : ℕ → Serial
a_serial n = record { 0 = n }
