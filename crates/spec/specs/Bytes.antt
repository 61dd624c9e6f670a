-- Bytes: big-endian and little-endian numbers over the width, parts and splices, exclusive or of blocks. Assumes nothing.
use Rattle.std.specs.Prelude.{List, [], ◌∷◌, ◌++◌, map, ℕ, zero, suc, ◌+◌, ◌*◌, ◌/◌, ◌%◌, length, get_or, take, drop, replicate}
use Rattle.std.specs.Int.Bits.{bit_xor}
use Rattle.spec.specs.Lists.{total}

-- the number that the bytes after the digits in n say
unfoldable pub be_from : ℕ → List ℕ → ℕ
be_from n [] = n
be_from n (b ∷ bs) = be_from (n * 256 + b) bs

-- the number that the bytes of bs say, the highest first
unfoldable pub be_of : List ℕ → ℕ
unfolding be_from
be_of bs = be_from 0 bs

-- the w lowest bytes of n, the highest first
unfoldable pub to_be : ℕ → ℕ → List ℕ
to_be zero n = []
to_be (suc w) n = to_be w (n / 256) ++ (n % 256 ∷ [])

-- the number that the bytes of bs say, the lowest first
unfoldable pub le_of : List ℕ → ℕ
le_of [] = 0
le_of (b ∷ bs) = le_of bs * 256 + b

-- the w lowest bytes of n, the lowest first
unfoldable pub to_le : ℕ → ℕ → List ℕ
to_le zero n = []
to_le (suc w) n = n % 256 ∷ to_le w (n / 256)

-- the n elements from index at
unfoldable pub part : ℕ → ℕ → List ℕ → List ℕ
part at n l = take n (drop at l)

-- l with s in the place of its elements from index at
unfoldable pub splice : List ℕ → ℕ → List ℕ → List ℕ
splice l at s = take at l ++ (s ++ drop (at + length s) l)

-- exclusive or, element by element, as long as the first
unfoldable pub xors : List ℕ → List ℕ → List ℕ
xors [] t = []
xors (a ∷ s) [] = a ∷ s
xors (a ∷ s) (b ∷ t) = bit_xor a b ∷ xors s t

-- the exclusive or of blocks of n bytes
unfoldable pub parity : ℕ → List (List ℕ) → List ℕ
parity n [] = replicate n 0
parity n (b ∷ bs) = xors b (parity n bs)

-- the exclusive or of numbers
unfoldable pub xor_all : List ℕ → ℕ
xor_all [] = 0
xor_all (n ∷ l) = bit_xor n (xor_all l)

-- a field of a header or a record: its width in bytes and its number
pub record Field : Type 0 where
  pub width : ℕ
  pub value : ℕ

abbrev pub field : ℕ → ℕ → Field
field w n = record { width = w; value = n }

-- the fields one after the other
unfoldable pub bytes_of : List Field → List ℕ
bytes_of [] = []
bytes_of (f ∷ fs) = to_be f.width f.value ++ bytes_of fs

-- the widths of a table of fields
unfoldable pub widths_of : List Field → List ℕ
widths_of fs = map (λ (f : Field). f.width) fs

-- where field i begins in bytes laid out by these widths
unfoldable pub field_at : List ℕ → ℕ → ℕ
field_at ws i = total (take i ws)

-- the number in field i
unfoldable pub read_field : List ℕ → ℕ → List ℕ → ℕ
read_field ws i bs = be_of (part (field_at ws i) (get_or ws i 0) bs)
