-- Laws of the code of a stripe: lengths, bytes and ranges of what it makes, its blocks and records apart, and what it looks at (01, What a zone holds). Assumes nothing.
use Rattle.std.specs.Prelude.{◌≡◌, refl, ℕ, zero, suc, ◌^◌, ◌<◌, get_or, replicate}
use Rattle.std.proofs.Math.Path.{sym, ap}
use Rattle.std.proofs.Common.{ap₂, ◌∙◌, lit<, pow_pos}
use mathlib.Core.List.{List, [], ◌∷◌, map}
use Rattle.std.proofs.Math.Bool.{false}
use Rattle.std.proofs.lemmas.Nat.{xor_lt}
use Rattle.std.proofs.Math.ListN.{length}
use Rattle.spec.specs.declared.Params.{Params}
use Rattle.spec.specs.Bytes.{xors, parity, xor_all}
use Rattle.spec.specs.Layout.{Rec, mk_rec}
use Rattle.spec.specs.Lists.{is_in}
use Rattle.spec.specs.Params.{present}
use Rattle.spec.specs.Parity.{Piece, mk_piece, parity_rec, parity_piece, encode_block, encode_rec, encode_piece, decode_block, decode_rec, decode_piece}
use Rattle.law_basic.specs.Each.{Each, each_map, each_present, map_each}
use Rattle.law_basic.specs.Ranges.{map-map}
use Rattle.law_basic.specs.Xor.{length-parity}

-- the numbers of a list are bytes
abbrev pub AreBytes : List ℕ → Type 0
AreBytes l = (i : ℕ) → get_or l i 0 < 256

-- a record's address and stamp fit their fields
abbrev pub LowRec : Rec → Type 0
LowRec r = (r.address < 256 ^ 8) × (r.stamp < 256 ^ 8)

-- ---- exclusive or

bytes_nothing : (n : ℕ) → AreBytes (replicate n 0)
bytes_nothing zero i = lit< tt
bytes_nothing (suc n) zero = lit< tt
bytes_nothing (suc n) (suc i) = bytes_nothing n i

bytes_xors : (s t : List ℕ) → AreBytes s → AreBytes t → AreBytes (xors s t)
unfolding xors
bytes_xors [] t h g i = lit< tt
bytes_xors (a ∷ s) [] h g i = h i
bytes_xors (a ∷ s) (b ∷ t) h g zero = xor_lt 8 a b (h 0) (g 0)
bytes_xors (a ∷ s) (b ∷ t) h g (suc i) = bytes_xors s t (λ j. h (suc j)) (λ j. g (suc j)) i

bytes_parity : (n : ℕ) (bs : List (List ℕ)) → Each AreBytes bs → AreBytes (parity n bs)
unfolding parity
bytes_parity n [] h = bytes_nothing n
bytes_parity n (b ∷ bs) h = bytes_xors b (parity n bs) h.0 (bytes_parity n bs h.1)

xor_low : (k : ℕ) (f : Rec → ℕ) (rs : List Rec) → Each (λ (r : Rec). f r < 2 ^ k) rs → xor_all (map f rs) < 2 ^ k
unfolding xor_all
xor_low k f [] h = pow_pos k
xor_low k f (r ∷ rs) h = xor_lt k (f r) (xor_all (map f rs)) h.0 (xor_low k f rs h.1)

addresses_low : (rs : List Rec) → Each LowRec rs → Each (λ (r : Rec). r.address < 2 ^ 64) rs
addresses_low [] h = tt
addresses_low (r ∷ rs) h = (h.0.0, addresses_low rs h.1)

code_stamps_low : (rs : List Rec) → Each LowRec rs → Each (λ (r : Rec). r.stamp < 2 ^ 64) rs
code_stamps_low [] h = tt
code_stamps_low (r ∷ rs) h = (h.0.1, code_stamps_low rs h.1)

parity-low : (s : ℕ) (rs : List Rec) → Each LowRec rs → LowRec (parity_rec s rs)
unfolding parity_rec
parity-low s rs h = (xor_low 64 (λ (r : Rec). r.address) rs (addresses_low rs h), xor_low 64 (λ (r : Rec). r.stamp) rs (code_stamps_low rs h))

parity_stripe : (s : ℕ) (rs : List Rec) → (parity_rec s rs).stripe ≡ s
unfolding parity_rec
parity_stripe s rs = refl

parity_apart : (p : Params) (s : ℕ) {A : Type 0} (f : A → Piece) (l : List A)
    → parity_piece p s (map f l) ≡ mk_piece (parity p.B (map (λ (a : A). (f a).block) l)) (parity_rec s (map (λ (a : A). (f a).rec) l))
unfolding parity_piece
parity_apart p s f l = ap₂ (λ (x : List (List ℕ)) (y : List Rec). mk_piece (parity p.B x) (parity_rec s y)) (map-map (λ (q : Piece). q.block) f l) (map-map (λ (q : Piece). q.rec) f l)

-- ---- encode: parity k of a stripe

module _ (n k : ℕ) (bs : List (List ℕ)) where
  pub encode_long : Each (λ (b : List ℕ). length b ≡ n) bs → length (encode_block n k bs) ≡ n
  unfolding encode_block
  encode_long h = length-parity n bs h

  pub encode_bytes : Each AreBytes bs → AreBytes (encode_block n k bs)
  unfolding encode_block
  encode_bytes h = bytes_parity n bs h

module _ (k s : ℕ) (rs : List Rec) where
  pub encode_low : Each LowRec rs → LowRec (encode_rec k s rs)
  unfolding encode_rec
  encode_low h = parity-low s rs h

  pub encode_stripe : (encode_rec k s rs).stripe ≡ s
  unfolding encode_rec
  encode_stripe = parity_stripe s rs

-- blocks and records apart
pub encode_apart : (p : Params) (k s : ℕ) {A : Type 0} (f : A → Piece) (l : List A)
    → encode_piece p k s (map f l) ≡ mk_piece (encode_block p.B k (map (λ (a : A). (f a).block) l)) (encode_rec k s (map (λ (a : A). (f a).rec) l))
unfolding encode_piece encode_block encode_rec
encode_apart p k s f l = parity_apart p s f l

-- ---- decode: what drive d has of stripe s, from what the present drives have

module _ (p : Params) (gone s d : ℕ) where
  module _ (f : ℕ → List ℕ) where
    pub decode_long : ((e : ℕ) → e < p.N → is_in gone e ≡ false → length (f e) ≡ p.B) → length (decode_block p gone s d f) ≡ p.B
    unfolding decode_block
    decode_long h = length-parity p.B (map f (present p gone)) (each_map (λ (b : List ℕ). length b ≡ p.B) f (present p gone) (each_present (λ e. length (f e) ≡ p.B) p gone h))

    pub decode_bytes : ((e : ℕ) → e < p.N → is_in gone e ≡ false → AreBytes (f e)) → AreBytes (decode_block p gone s d f)
    unfolding decode_block
    decode_bytes h = bytes_parity p.B (map f (present p gone)) (each_map AreBytes f (present p gone) (each_present (λ e. AreBytes (f e)) p gone h))

  module _ (f : ℕ → Rec) where
    pub decode_low : ((e : ℕ) → e < p.N → is_in gone e ≡ false → LowRec (f e)) → LowRec (decode_rec p gone s d f)
    unfolding decode_rec
    decode_low h = parity-low s (map f (present p gone)) (each_map LowRec f (present p gone) (each_present (λ e. LowRec (f e)) p gone h))

    pub decode_stripe : (decode_rec p gone s d f).stripe ≡ s
    unfolding decode_rec
    decode_stripe = parity_stripe s (map f (present p gone))

  -- blocks and records apart
  pub decode_apart : (f : ℕ → Piece) → decode_piece p gone s d f ≡ mk_piece (decode_block p gone s d (λ e. (f e).block)) (decode_rec p gone s d (λ e. (f e).rec))
  unfolding decode_piece decode_block decode_rec
  decode_apart f = parity_apart p s f (present p gone)

  -- the present drives alone are looked at
  pub decode_block_same : (f h : ℕ → List ℕ) → ((e : ℕ) → e < p.N → is_in gone e ≡ false → f e ≡ h e) → decode_block p gone s d f ≡ decode_block p gone s d h
  unfolding decode_block
  decode_block_same f h q = ap (parity p.B) (map_each f h (present p gone) (each_present (λ e. f e ≡ h e) p gone q))

  -- of their records the address and the stamp
  pub decode_rec_same : (f h : ℕ → Rec) → ((e : ℕ) → e < p.N → is_in gone e ≡ false → ((f e).address ≡ (h e).address) × ((f e).stamp ≡ (h e).stamp))
      → decode_rec p gone s d f ≡ decode_rec p gone s d h
  unfolding parity_rec decode_rec
  decode_rec_same f h q = λ i. mk_rec (each (λ (r : Rec). r.address) (λ e l n. (q e l n).0) i) (each (λ (r : Rec). r.stamp) (λ e l n. (q e l n).1) i) s
    where
      each : (g : Rec → ℕ) → ((e : ℕ) → e < p.N → is_in gone e ≡ false → g (f e) ≡ g (h e)) → xor_all (map g (map f (present p gone))) ≡ xor_all (map g (map h (present p gone)))
      each g t = ap xor_all (map-map g f (present p gone) ∙ map_each (λ e. g (f e)) (λ e. g (h e)) (present p gone) (each_present (λ e. g (f e) ≡ g (h e)) p gone t)
          ∙ sym (map-map g h (present p gone)))

  pub decode_same : (f h : ℕ → Piece) → ((e : ℕ) → e < p.N → is_in gone e ≡ false → f e ≡ h e) → decode_piece p gone s d f ≡ decode_piece p gone s d h
  unfolding decode_piece
  decode_same f h q = ap (parity_piece p s) (map_each f h (present p gone) (each_present (λ e. f e ≡ h e) p gone q))
