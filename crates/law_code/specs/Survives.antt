-- What the present drives have of an encoded stripe gives back what the missing ones had: the exclusive or of all chunks is 0, so what is lost is the exclusive or of the rest.
use Rattle.std.specs.Prelude.{◌≡◌, Bool, true, false, length, get_or}
use Rattle.std.proofs.Math.Path.{refl, sym, ap, ap₂}
use Rattle.std.proofs.Common.{◌∙◌, subst, arith, lt-ltb, le-ltb, ext_get_or}
use mathlib.Core.List.{List, [], ◌∷◌, ◌++◌, map}
use Rattle.std.proofs.Math.Bool.{not}
use Prim.Native.Nat.{ℕ, zero, suc, ◌+◌, ◌-◌, ◌≤◌, ◌<◌}
use Rattle.std.proofs.Math.Decide.{ℕ_discrete}
use Rattle.std.specs.Int.Bits.{bit_xor, xor_zero_l, xor_zero_r, xor_self}
use Rattle.std.proofs.lemmas.Nat.{xor_comm}
use Rattle.std.proofs.lemmas.List.{get_or-replicate}
use Rattle.spec.specs.declared.Params.{Params}
use Rattle.spec.specs.Bytes.{xors, parity, xor_all}
use Rattle.spec.specs.Layout.{parity_drive, data_drive, is_data, parity_position, data_drives, Rec, mk_rec}
use Rattle.spec.specs.Lists.{up_from, below, cons_if, keep, is_in}
use Rattle.spec.specs.Params.{parity_count, data_count, in_range, drives_of, present, absent}
use Rattle.spec.specs.Parity.{Piece, mk_piece, parity_rec, encode_block, encode_rec, encode_piece, decode_block, decode_rec, decode_piece}
use Rattle.law_basic.specs.Each.{Each, each_map, each_data, each_present}
use Rattle.law_basic.specs.Geometry.{Ranged, ranged, parity_drive_lt, parity_no_data}
use Rattle.law_basic.specs.Ranges.{Test, test, not_both, below_split, map-append, map-below_same, map_up_from_same, map-map}
use Rattle.law_basic.specs.Ranges.Test.{yes!, no! }
use Rattle.law_basic.specs.Xor.{xor_assoc, length-parity, xor_all-append}
use Rattle.law_code.specs.Code.{encode_apart, decode_apart, decode_same}

-- chunks by drive that are an encoded stripe: a parity drive has what the data make, and all bear the stripe's number
pub record Encoded (p : Params) (s : ℕ) (f : ℕ → Piece) : Type 0 where
  pub block_long : (d : ℕ) → d < p.N → length (f d).block ≡ p.B
  pub numbered : (d : ℕ) → d < p.N → (f d).rec.stripe ≡ s
  pub made : (d : ℕ) → d < p.N → is_data p s d ≡ false → f d ≡ encode_piece p (parity_position p s d) s (map f (data_drives p s))

-- whichever drives are missing, as many as there are parities or fewer: from what the present ones have, what each missing one had
abbrev pub Survives : Type 0
Survives = (p : Params) → in_range p ≡ true → (s gone : ℕ) → length (absent p gone) ≤ parity_count p → (f : ℕ → Piece) → Encoded p s f
    → (h : ℕ → Piece) → ((d : ℕ) → d < p.N → is_in gone d ≡ false → h d ≡ f d)
    → (d : ℕ) → d < p.N → is_in gone d ≡ true → decode_piece p gone s d h ≡ f d

-- ---- numbers

-- those that pass a test and those that do not
kept_both : (F : ℕ → ℕ) (t : ℕ → Bool) (l : List ℕ) → bit_xor (xor_all (map F (keep (λ d. not (t d)) l))) (xor_all (map F (keep t l))) ≡ xor_all (map F l)
unfolding keep cons_if xor_all
kept_both F t [] = refl
kept_both F t (a ∷ l) = go (test (t a)) (kept_both F t l)
  where
    x : ℕ
    x = xor_all (map F (keep (λ d. not (t d)) l))

    y : ℕ
    y = xor_all (map F (keep t l))

    go : Test (t a) → bit_xor x y ≡ xor_all (map F l)
        → bit_xor (xor_all (map F (cons_if (not (t a)) a (keep (λ d. not (t d)) l)))) (xor_all (map F (cons_if (t a) a (keep t l)))) ≡ bit_xor (F a) (xor_all (map F l))
    go (yes! e) ih = rw e (sym (xor_assoc x (F a) y) ∙ ap (λ (z : ℕ). bit_xor z y) (xor_comm x (F a)) ∙ xor_assoc (F a) x y ∙ ap (bit_xor (F a)) ih)
    go (no! e) ih = rw e (xor_assoc (F a) x y ∙ ap (bit_xor (F a)) ih)

-- one alone passes
kept-without : (t : ℕ → Bool) (i n d : ℕ) → i ≤ d → d < i + n → t d ≡ true → length (keep t (up_from i n)) ≤ 1 → keep t (up_from i n) ≡ d ∷ []
unfolding keep cons_if up_from
kept-without t i zero d a b e l = absurd (let q : ⊥ = omega arith in q)
kept-without t i (suc n) d a b e l = go (ℕ_discrete i d) (test (t i)) (λ a b. kept-without t (suc i) n d a b e)
  where
    rest : List ℕ
    rest = keep t (up_from (suc i) n)

    none : (m : List ℕ) → length m ≤ 0 → m ≡ []
    none [] h = refl
    none (k ∷ m) h = absurd (let q : ⊥ = omega arith in q)

    go : Dec (i ≡ d) → Test (t i) → (suc i ≤ d → d < suc i + n → length rest ≤ 1 → rest ≡ d ∷ []) → cons_if (t i) i rest ≡ d ∷ []
    go (yes q) (yes! w) ih =
        let l2 : length (cons_if (t i) i rest) ≤ 1 = l in
        let l3 : length (i ∷ rest) ≤ 1 = subst (λ (b : Bool). length (cons_if b i rest) ≤ 1) w l2 in
        ap (λ (b : Bool). cons_if b i rest) w ∙ ap₂ ◌∷◌ q (none rest (omega (arith, l3)))
    go (yes q) (no! w) ih = absurd (not_both (t i) (ap t q ∙ e) w)
    go (no q) (yes! w) ih =
        let l2 : length (cons_if (t i) i rest) ≤ 1 = l in
        let l3 : length (i ∷ rest) ≤ 1 = subst (λ (b : Bool). length (cons_if b i rest) ≤ 1) w l2 in
        let z : rest ≡ d ∷ [] = ih (omega arith) (omega arith) (omega (arith, l3)) in
        let one : length rest ≡ 1 = ap length z in
        absurd (let x : ⊥ = omega (arith, l3, one) in x)
    go (no q) (no! w) ih =
        let l2 : length (cons_if (t i) i rest) ≤ 1 = l in
        let l3 : length rest ≤ 1 = subst (λ (b : Bool). length (cons_if b i rest) ≤ 1) w l2 in
        ap (λ (b : Bool). cons_if b i rest) w ∙ ih (omega arith) (omega arith) l3

-- byte i of the exclusive or of blocks
byte_xors : (s t : List ℕ) (i : ℕ) → i < length s → i < length t → get_or (xors s t) i 0 ≡ bit_xor (get_or s i 0) (get_or t i 0)
unfolding xors
byte_xors [] t i a b = absurd (let z : ⊥ = omega arith in z)
byte_xors (x ∷ s) [] i a b = absurd (let z : ⊥ = omega arith in z)
byte_xors (x ∷ s) (y ∷ t) zero a b = refl
byte_xors (x ∷ s) (y ∷ t) (suc i) a b = byte_xors s t i (omega arith) (omega arith)

stripe_column : (n i : ℕ) (f : ℕ → List ℕ) (l : List ℕ) → Each (λ (e : ℕ). length (f e) ≡ n) l → i < n
    → get_or (parity n (map f l)) i 0 ≡ xor_all (map (λ e. get_or (f e) i 0) l)
unfolding parity xor_all
stripe_column n i f [] h k = get_or-replicate n i 0 0 k
stripe_column n i f (e ∷ l) h k =
    byte_xors (f e) (parity n (map f l)) i (omega (arith, h.0)) (omega (arith, length-parity n (map f l) (each_map (λ (b : List ℕ). length b ≡ n) f l h.1)))
    ∙ ap (bit_xor (get_or (f e) i 0)) (stripe_column n i f l h.1 k)

map-suc : (F : ℕ → ℕ) (i n : ℕ) → map (λ k. F (suc k)) (up_from i n) ≡ map F (up_from (suc i) n)
unfolding up_from
map-suc F i zero = refl
map-suc F i (suc n) = ap (λ (l : List ℕ). F (suc i) ∷ l) (map-suc F (suc i) n)

module _ (p : Params) (r : Ranged p) (s : ℕ) where
  abbrev q : ℕ
  q = parity_drive p s

  abbrev rest : ℕ
  rest = p.N - suc q

  -- the parity drive and the data drives are all drives
  all_drives : (F : ℕ → ℕ) → xor_all (map F (below p.N)) ≡ bit_xor (F q) (xor_all (map F (data_drives p s)))
  unfolding data_drives data_count parity_count
  all_drives F =
      let l : q < p.N = parity_drive_lt p s (omega (arith, r.drives_low)) in
      let n : p.N ≡ q + suc rest = omega (arith, l) in
      let m : p.N - parity_count p ≡ q + rest = omega (arith, l) in
      let low : map (λ i. F (data_drive p s i)) (below q) ≡ map F (below q) = map-below_same (λ i. F (data_drive p s i)) F q (λ i h. ap F (under i h)) in
      let high : map (λ i. F (data_drive p s i)) (up_from q rest) ≡ map F (up_from (suc q) rest) =
      map_up_from_same (λ i. F (data_drive p s i)) (λ i. F (suc i)) q rest (λ i a b. ap F (over i a)) ∙ map-suc F q rest in
      let x = xor_all (map F (below q)) in
      let y = xor_all (map F (up_from (suc q) rest)) in
      let others : xor_all (map F (map (data_drive p s) (below (p.N - parity_count p)))) ≡ bit_xor x y =
      ap xor_all (map-map F (data_drive p s) (below (p.N - parity_count p)) ∙ ap (λ (k : ℕ). map (λ i. F (data_drive p s i)) (below k)) m
      ∙ ap (map (λ i. F (data_drive p s i))) (below_split q rest) ∙ map-append (λ i. F (data_drive p s i)) (below q) (up_from q rest) ∙ ap₂ (λ (a b : List ℕ). a ++ b) low high)
      ∙ xor_all-append (map F (below q)) (map F (up_from (suc q) rest)) in
      ap (λ (k : ℕ). xor_all (map F (below k))) n ∙ ap (λ (k : List ℕ). xor_all (map F k)) (below_split q (suc rest))
      ∙ ap xor_all (map-append F (below q) (up_from q (suc rest))) ∙ xor_all-append (map F (below q)) (map F (up_from q (suc rest)))
      ∙ ap (bit_xor x) (first F) ∙ sym (xor_assoc x (F q) y) ∙ ap (λ (k : ℕ). bit_xor k y) (xor_comm x (F q)) ∙ xor_assoc (F q) x y ∙ ap (bit_xor (F q)) (sym others)
    where
      under : (i : ℕ) → i < q → data_drive p s i ≡ i
      under i h = unfold data_drive in rw (lt-ltb i q h)

      over : (i : ℕ) → q ≤ i → data_drive p s i ≡ suc i
      over i h = unfold data_drive in rw (le-ltb i q h)

      first : (F : ℕ → ℕ) → xor_all (map F (up_from q (suc rest))) ≡ bit_xor (F q) (xor_all (map F (up_from (suc q) rest)))
      first F = unfold up_from xor_all in refl

  module _ (gone : ℕ) (few : length (absent p gone) ≤ parity_count p) (d : ℕ) (hd : d < p.N) (lost : is_in gone d ≡ true) where
    number_back : (F : ℕ → ℕ) → F q ≡ xor_all (map F (data_drives p s)) → xor_all (map F (present p gone)) ≡ F d
    unfolding absent present drives_of below parity_count
    number_back F w =
        let x = xor_all (map F (keep (λ e. not (is_in gone e)) (up_from 0 p.N))) in
        let y = xor_all (map F (keep (is_in gone) (up_from 0 p.N))) in
        let z : bit_xor x y ≡ 0 = kept_both F (is_in gone) (up_from 0 p.N) ∙ all_drives F ∙ ap (λ (k : ℕ). bit_xor k (xor_all (map F (data_drives p s)))) w
        ∙ xor_self (xor_all (map F (data_drives p s))) in
        let o : y ≡ F d = ap (λ (l : List ℕ). xor_all (map F l)) (kept-without (is_in gone) 0 p.N d (omega arith) (omega (arith, hd)) lost few) ∙ single (F d) in
        sym (xor_zero_r x) ∙ ap (bit_xor x) (sym (xor_self y)) ∙ sym (xor_assoc x y y) ∙ ap (λ (k : ℕ). bit_xor k y) z ∙ xor_zero_l y ∙ o
      where
        single : (n : ℕ) → xor_all (n ∷ []) ≡ n
        single n = unfold xor_all in xor_zero_r n

    -- ---- blocks, byte by byte

    block_back : (f : ℕ → List ℕ) → ((e : ℕ) → e < p.N → length (f e) ≡ p.B) → f q ≡ parity p.B (map f (data_drives p s)) → parity p.B (map f (present p gone)) ≡ f d
    block_back f long w = ext_get_or 0 (parity p.B (map f (present p gone))) (f d) (wide ∙ sym (long d hd)) (λ i l.
        stripe_column p.B i f (present p gone) here (omega (arith, l, wide))
        ∙ number_back (λ e. get_or (f e) i 0) (ap (λ (b : List ℕ). get_or b i 0) w ∙ stripe_column p.B i f (data_drives p s) there (omega (arith, l, wide))))
      where
        here : Each (λ (e : ℕ). length (f e) ≡ p.B) (present p gone)
        here = each_present (λ e. length (f e) ≡ p.B) p gone (λ e l n. long e l)

        there : Each (λ (e : ℕ). length (f e) ≡ p.B) (data_drives p s)
        there = each_data (λ e. length (f e) ≡ p.B) p s (λ e l n. long e l)

        wide : length (parity p.B (map f (present p gone))) ≡ p.B
        wide = length-parity p.B (map f (present p gone)) (each_map (λ (b : List ℕ). length b ≡ p.B) f (present p gone) here)

    -- ---- chunks

    piece_back : (f : ℕ → Piece) → Encoded p s f → decode_piece p gone s d f ≡ f d
    unfolding encode_block encode_rec decode_block decode_rec
    piece_back f w = decode_apart p gone s d f ∙ (λ i. mk_piece (block i) (rec i))
      where
        made : f q ≡ mk_piece (parity p.B (map (λ e. (f e).block) (data_drives p s))) (parity_rec s (map (λ e. (f e).rec) (data_drives p s)))
        made = w.made q (parity_drive_lt p s (omega (arith, r.drives_low))) (parity_no_data p s) ∙ encode_apart p (parity_position p s q) s f (data_drives p s)

        block : parity p.B (map (λ e. (f e).block) (present p gone)) ≡ (f d).block
        block = block_back (λ e. (f e).block) w.block_long (ap (λ (x : Piece). x.block) made)

        field : (g : Rec → ℕ) → g (f q).rec ≡ xor_all (map g (map (λ e. (f e).rec) (data_drives p s))) → xor_all (map g (map (λ e. (f e).rec) (present p gone))) ≡ g (f d).rec
        field g h = ap xor_all (map-map g (λ e. (f e).rec) (present p gone)) ∙ number_back (λ e. g (f e).rec) (h ∙ ap xor_all (map-map g (λ e. (f e).rec) (data_drives p s)))

        address : (parity_rec s (map (λ e. (f e).rec) (data_drives p s))).address ≡ xor_all (map (λ (x : Rec). x.address) (map (λ e. (f e).rec) (data_drives p s)))
        address = unfold parity_rec in refl

        stamp : (parity_rec s (map (λ e. (f e).rec) (data_drives p s))).stamp ≡ xor_all (map (λ (x : Rec). x.stamp) (map (λ e. (f e).rec) (data_drives p s)))
        stamp = unfold parity_rec in refl

        number : s ≡ (f d).rec.stripe
        number = sym (w.numbered d hd)

        rec : parity_rec s (map (λ e. (f e).rec) (present p gone)) ≡ (f d).rec
        rec = unfold parity_rec in (λ i. mk_rec (field (λ (x : Rec). x.address) (ap (λ (x : Piece). x.rec.address) made ∙ address) i)
            (field (λ (x : Rec). x.stamp) (ap (λ (x : Piece). x.rec.stamp) made ∙ stamp) i) (number i))

pub survive : Survives
survive p ok s gone few f w h same d hd lost = decode_same p gone s d h f same ∙ piece_back p (ranged p ok) s gone few d hd lost f w
