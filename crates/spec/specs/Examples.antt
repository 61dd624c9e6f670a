-- M1 to M8 as one statement of the definitions (01, The small box). Assumes nothing.
use Rattle.std.specs.Prelude.{◌≡◌, List, [], ◌∷◌, map, true, false, ℕ, replicate}
use Rattle.spec.specs.declared.Params.{Params}
use Rattle.spec.specs.declared.Answer.TheVariants.{Refused, Cut}
use Rattle.spec.specs.Answers.{stamp_told}
use Rattle.spec.specs.Drives.{View, view_of}
use Rattle.spec.specs.Drives.{seg_with}
use Rattle.spec.specs.Engine.{Call, Lent, Left, call_bytes}
use Rattle.spec.specs.Engine.Call.{write, land, read, fill, restart}
use Rattle.spec.specs.Layout.{parity_drive, group, compact_entry}
use Rattle.spec.specs.Layout.{mk_rec}
use Rattle.spec.specs.Lists.{below}
use Rattle.spec.specs.Memory.{state_len}
use Rattle.spec.specs.Params.{mk_params, in_range, per_footer, footers, offline_len}
use Rattle.spec.specs.Params.{capacity, image_len, pointers_len, addresses_len, compact_len, inflight_len}
use Rattle.spec.specs.Params.{named}
use Rattle.spec.specs.Parity.{encode_block, encode_rec}
use Rattle.spec.specs.Segments.{segment_of}
use Rattle.spec.specs.Segments.{counted}
use Rattle.spec.specs.declared.Seg.{Seg}

-- 01: the small box, and variants of it
abbrev pub small : Params
small = mk_params 3 128 4 4 2 8

-- empty drives and all else, all bytes 0
unfoldable pub empty_lent : Params → Lent
empty_lent p = record {
  offline = replicate (offline_len p) 0;
  image = replicate (image_len p) 0;
  pointers = replicate (pointers_len p) 0;
  addresses = replicate (addresses_len p) 0;
  compact = replicate (compact_len p) 0;
  inflight = replicate (inflight_len p) 0;
  state = replicate state_len 0;
}

-- calls one after the other, on the lent bytes; what the last leaves
unfoldable pub runs : Params → Left → List Call → Left
runs p r [] = r
runs p r (c ∷ cs) = runs p (call_bytes p r.lent c) cs

unfoldable pub fresh : Params → Left
fresh p = record { answer = Cut; lent = empty_lent p; block = [] }

-- what the drives hold
unfoldable pub view_after : Params → Left → View
view_after p r = view_of p r.lent.offline r.lent.image r.lent.pointers

-- a block of one byte over and over
unfoldable pub block_of : ℕ → List ℕ
block_of b = replicate 128 b

-- M7: the stamp that the first read of address a passes on
unfoldable pub stamp_at : Params → Left → ℕ → ℕ
stamp_at p r a = stamp_told (call_bytes p r.lent (read a)).answer

-- M7: the stamp that the second read passes on, and the block that it fills
unfoldable pub stamp_and_block : Params → Left → ℕ → List ℕ
stamp_and_block p r a =
    let x = call_bytes p r.lent (fill a (block_of 0)) in
    stamp_told x.answer ∷ x.block

-- M7: address 0 in stripe 0 with stamp 1 and in stripe 1 with stamp 3; stripe 1 completes first
unfoldable pub m7_first : List Call
m7_first =
    restart 255 100 ∷ write 0 (block_of 1) 100 ∷ write 1 (block_of 2) 100 ∷ write 0 (block_of 3) 100 ∷ write 2 (block_of 4) 100
    ∷ land 0 1 9 ∷ land 1 1 9 ∷ land 2 1 9 ∷ []

unfoldable pub m7_then : List Call
m7_then = land 0 0 9 ∷ land 1 0 9 ∷ land 2 0 9 ∷ []

-- M7: the stamp read where stripe 1 is complete; stamp and block once stripe 0 is too
unfoldable pub m7_reads : Left → List ℕ
m7_reads r = stamp_at small r 0 ∷ stamp_and_block small (runs small r m7_then) 0

-- M8: a chunk on drives 0 and 1 of 3
unfoldable pub m8_calls : List Call
m8_calls = restart 255 100 ∷ write 0 (block_of 1) 100 ∷ write 1 (block_of 2) 100 ∷ land 0 0 9 ∷ land 1 0 9 ∷ []

-- M8: the stripes of segment g that count with none missing, and with drive d missing
unfoldable pub counted_both : Params → Left → ℕ → Seg → List (List ℕ)
counted_both p r d g = map (λ gone. counted p gone (segment_of p (view_after p r) gone g)) (0 ∷ named d ∷ [])

pub record Examples : Type 0 where
  pub box : (footers small ≡ 1) × (capacity small ≡ 6) × (image_len small ≡ 10656)
  pub m1 : (in_range small ≡ true) × (in_range (mk_params 3 128 4 4 2 9) ≡ false)
      × ((call_bytes (mk_params 3 128 4 4 2 9) (empty_lent (mk_params 3 128 4 4 2 9)) (restart 255 100)).answer ≡ Refused 1)
  pub m2 : map (parity_drive small) (below 4) ≡ 2 ∷ 1 ∷ 0 ∷ 2 ∷ []
  pub m3 : encode_block 1 0 ((0x0f ∷ []) ∷ (0x33 ∷ []) ∷ []) ≡ 0x3c ∷ []
  pub m4 : (encode_rec 0 0 (mk_rec 0 5 0 ∷ mk_rec 0 9 0 ∷ [])).stamp ≡ 12
  pub m5 : (map (group (mk_params 3 128 4 5 2 8)) (below 5) ≡ 0 ∷ 0 ∷ 1 ∷ 1 ∷ 2 ∷ []) × (compact_entry (mk_params 3 128 4 5 2 8) 4 ≡ 0)
  pub m6 : (per_footer small ≡ 6) × (footers (mk_params 3 128 4 6 2 8) ≡ 1) × (footers (mk_params 3 128 4 7 2 8) ≡ 2)
  pub m7 : m7_reads (runs small (fresh small) m7_first) ≡ 3 ∷ 3 ∷ block_of 3
  pub m8 : counted_both small (runs small (fresh small) m8_calls) 2 (seg_with small (λ d. 0)) ≡ [] ∷ (0 ∷ []) ∷ []
