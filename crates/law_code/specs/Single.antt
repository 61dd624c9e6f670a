-- One parity: the code is the exclusive or, whatever the parity's position and the drive that is decoded. What cites these laws is what 02, item 5, changes. Assumes nothing.
use Rattle.std.specs.Prelude.{◌≡◌, refl, List, map, ℕ}
use Rattle.spec.specs.declared.Params.{Params}
use Rattle.spec.specs.Bytes.{parity}
use Rattle.spec.specs.Layout.{Rec}
use Rattle.spec.specs.Params.{present}
use Rattle.spec.specs.Parity.{Piece, parity_rec, parity_piece, encode_block, encode_rec, encode_piece, decode_rec, decode_piece}

-- ---- encode

pub encode_block_xor : (n k : ℕ) (bs : List (List ℕ)) → encode_block n k bs ≡ parity n bs
unfolding encode_block
encode_block_xor n k bs = refl

pub encode_rec_xor : (k s : ℕ) (rs : List Rec) → encode_rec k s rs ≡ parity_rec s rs
unfolding encode_rec
encode_rec_xor k s rs = refl

pub encode_xor : (p : Params) (k s : ℕ) (qs : List Piece) → encode_piece p k s qs ≡ parity_piece p s qs
unfolding encode_piece
encode_xor p k s qs = refl

-- ---- decode

pub decode_rec_xor : (p : Params) (gone s d : ℕ) (f : ℕ → Rec) → decode_rec p gone s d f ≡ parity_rec s (map f (present p gone))
unfolding decode_rec
decode_rec_xor p gone s d f = refl

pub decode_xor : (p : Params) (gone s d : ℕ) (f : ℕ → Piece) → decode_piece p gone s d f ≡ parity_piece p s (map f (present p gone))
unfolding decode_piece
decode_xor p gone s d f = refl
