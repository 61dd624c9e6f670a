-- The code of a stripe: its parities from its data, and what is lost of it from what is there, over block, address and stamp (01, What a zone holds). Assumes nothing.
use Rattle.std.specs.Prelude.{List, map, ℕ}
use Rattle.spec.specs.declared.Params.{Params}
use Rattle.spec.specs.Bytes.{parity, xor_all}
use Rattle.spec.specs.Layout.{Rec, mk_rec}
use Rattle.spec.specs.Params.{present}

-- a chunk that is known: its block and its record
pub record Piece : Type 0 where
  pub block : List ℕ
  pub rec : Rec

abbrev pub mk_piece : List ℕ → Rec → Piece
mk_piece b r = record { block = b; rec = r }

-- ---- the exclusive or of records and of chunks

-- 01, What a zone holds: the exclusive or of addresses and stamps, with the stripe's number
unfoldable pub parity_rec : ℕ → List Rec → Rec
parity_rec s rs = mk_rec (xor_all (map (λ (r : Rec). r.address) rs)) (xor_all (map (λ (r : Rec). r.stamp) rs)) s

-- 01, What a zone holds: of blocks and records
unfoldable pub parity_piece : Params → ℕ → List Piece → Piece
parity_piece p s qs = mk_piece (parity p.B (map (λ (q : Piece). q.block) qs)) (parity_rec s (map (λ (q : Piece). q.rec) qs))

-- ---- encode: parity k of a stripe, from its data by position; today there is the first alone (02, item 5)

-- 01, What a zone holds: the parity block of blocks of n bytes
unfoldable pub encode_block : ℕ → ℕ → List (List ℕ) → List ℕ
encode_block n k bs = parity n bs

-- 01, What a zone holds: the parity's address and stamp, with the stripe's number
unfoldable pub encode_rec : ℕ → ℕ → List Rec → Rec
encode_rec k s rs = parity_rec s rs

-- 01, What a zone holds: the parity chunk
unfoldable pub encode_piece : Params → ℕ → ℕ → List Piece → Piece
encode_piece p k s qs = parity_piece p s qs

-- ---- decode: what drive d has of stripe s, from what the present drives have of it, by drive (02, item 5)

-- 01, Read: its block
unfoldable pub decode_block : Params → ℕ → ℕ → ℕ → (ℕ → List ℕ) → List ℕ
decode_block p gone s d f = parity p.B (map f (present p gone))

-- 01, Restart, 3: its record
unfoldable pub decode_rec : Params → ℕ → ℕ → ℕ → (ℕ → Rec) → Rec
decode_rec p gone s d f = parity_rec s (map f (present p gone))

-- 01, Read and Rebuild: its chunk
unfoldable pub decode_piece : Params → ℕ → ℕ → ℕ → (ℕ → Piece) → Piece
decode_piece p gone s d f = parity_piece p s (map f (present p gone))
