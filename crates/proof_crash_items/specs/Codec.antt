-- Records and footers: what is read is what was written. Assumes nothing.
use Rattle.std.specs.Prelude.{◌≡◌, ℕ, zero, suc, ◌+◌, ◌-◌, ◌*◌, ◌/◌, ◌%◌, ◌^◌, min, ◌≤◌, ◌<◌, take, drop, replicate}
use Rattle.std.proofs.Common.{sym, ap₂, ◌∙◌, suc-mul, mul-suc, zero-mul, arith, length-append, length-take, length-drop, take_at}
use Rattle.std.proofs.Math.Path.{ap}
use mathlib.Core.List.{List, [], ◌∷◌, ◌++◌, append_assoc}
use Rattle.std.proofs.Math.Nat.{mod-lt, mul-le-mul_right, div-add-mod'}
use Rattle.std.proofs.Math.ListN.{length, get_or}
use Rattle.std.proofs.Math.Seq.{get_or-take, get_or-drop, drop-append-add}
use Rattle.spec.specs.declared.Params.{Params}
use Rattle.spec.specs.Bytes.{part}
use Rattle.spec.specs.Layout.{header_block, Rec, record_bytes, record_of_of, footer_block}
use Rattle.spec.specs.Lists.{flat, pad_to}
use Rattle.spec.specs.Params.{spare_len, per_footer}
use Rattle.law_basic.specs.Geometry.{Ranged, per_footer_low, per_footer_fits}
use Rattle.law_basic.specs.Ranges.{length-pad_to}
use Rattle.law_basic.specs.Xor.{AllLong}
use Rattle.law_drives.specs.Laid.{record_back}
use Rattle.proof_crash_items.specs.Items.{named_zones}
use Rattle.law_basic.specs.Fields.{header_zones_named}

-- ---- records

-- a record that its bytes hold
pub record Wide (r : Rec) : Type 0 where
  pub address : r.address < 256 ^ 8
  pub stamp : r.stamp < 256 ^ 8
  pub stripe : r.stripe < 256 ^ 4

pub record_bytes_lem : (r : Rec) → Wide r → record_of_of (record_bytes r) ≡ r
record_bytes_lem r w = record_back r w.address w.stamp w.stripe

-- ---- headers

-- the zones that a header is made with are those that it names
pub names_zones : (p : Params) (d : ℕ) (zs : List ℕ) (r c : ℕ) → length zs ≡ p.N → ((e : ℕ) → e < p.N → get_or zs e 0 < 256 ^ 4)
    → named_zones p (header_block p d zs r c) ≡ (λ e. get_or zs e 0)
unfolding named_zones
names_zones p d zs r c l w = λ i e. get_or (header_zones_named p d zs r c l w i) e 0

-- ---- footers

abbrev pub joined : List (List ℕ) → List ℕ
joined ss = flat (λ (b : List ℕ). b) ss

pub length-joined : (n : ℕ) (ss : List (List ℕ)) → AllLong n ss → length (joined ss) ≡ length ss * n
unfolding flat
length-joined n [] h = sym (zero-mul n)
length-joined n (s ∷ ss) h =
    length-append s (joined ss) ∙ ap₂ (λ (a b : ℕ). a + b) h.0 (length-joined n ss h.1) ∙ omega (arith, suc-mul (length ss) n)

pub part-joined : (n : ℕ) (ss : List (List ℕ)) (k : ℕ) (r : List ℕ) → AllLong n ss → k < length ss → part (n * k) n (joined ss ++ r) ≡ get_or ss k []
unfolding flat part
part-joined n [] k r h l = absurd (let q : ⊥ = omega arith in q)
part-joined n (s ∷ ss) zero r h l =
    let e : n * 0 ≡ 0 = omega arith in
    ap (λ (i : ℕ). take n (drop i ((s ++ joined ss) ++ r))) e ∙ ap (take n) (append_assoc s (joined ss) r) ∙ take_at s (joined ss ++ r) n h.0
part-joined n (s ∷ ss) (suc k) r h l =
    let e : n * suc k ≡ length s + n * k = omega (arith, mul-suc n k, h.0) in
    ap (λ (i : ℕ). take n (drop i ((s ++ joined ss) ++ r))) e
    ∙ ap (λ (x : List ℕ). take n (drop (length s + n * k) x)) (append_assoc s (joined ss) r)
    ∙ ap (take n) (drop-append-add s (joined ss ++ r) (n * k))
    ∙ part-joined n ss k r h.1 (omega arith)

pub long_take : (n : ℕ) (k : ℕ) (ss : List (List ℕ)) → AllLong n ss → AllLong n (take k ss)
long_take n zero ss h = tt
long_take n (suc k) [] h = tt
long_take n (suc k) (s ∷ ss) h = (h.0, long_take n k ss h.1)

pub long_drop : (n : ℕ) (k : ℕ) (ss : List (List ℕ)) → AllLong n ss → AllLong n (drop k ss)
long_drop n zero ss h = h
long_drop n (suc k) [] h = tt
long_drop n (suc k) (s ∷ ss) h = long_drop n k ss h.1

module _ (p : Params) (h : Ranged p) (ss : List (List ℕ)) (long : AllLong spare_len ss) where
  -- the records of block i
  abbrev row : ℕ → List (List ℕ)
  row i = take (per_footer p) (drop (i * per_footer p) ss)

  footer_row_long : (i : ℕ) → AllLong spare_len (row i)
  footer_row_long i = long_take spare_len (per_footer p) (drop (i * per_footer p) ss) (long_drop spare_len (i * per_footer p) ss long)

  footer_row_length : (i : ℕ) → length (row i) ≡ min (per_footer p) (length ss - i * per_footer p)
  footer_row_length i = length-take (per_footer p) (drop (i * per_footer p) ss) ∙ ap (min (per_footer p)) (length-drop (i * per_footer p) ss)

  pub footer_length : (i : ℕ) → length (footer_block p ss i) ≡ p.B
  unfolding footer_block
  footer_length i = length-pad_to p.B (joined (row i)) fits
    where
      fits : length (joined (row i)) ≤ p.B
      fits =
          let a : length (row i) ≤ per_footer p = omega (arith, footer_row_length i) in
          let b : length (row i) * spare_len ≤ per_footer p * spare_len = mul-le-mul_right spare_len a in
          omega (arith, b, per_footer_fits p h, length-joined spare_len (row i) (footer_row_long i))

  -- record o of the zone is in block o / (records a block)
  pub footer_spare : (o : ℕ) → o < length ss → part (spare_len * (o % per_footer p)) spare_len (footer_block p ss (o / per_footer p)) ≡ get_or ss o []
  unfolding footer_block pad_to
  footer_spare o l =
      let m : 0 < per_footer p = omega (arith, per_footer_low p h) in
      let e : o / per_footer p * per_footer p + o % per_footer p ≡ o = div-add-mod' o (per_footer p) in
      let r : o % per_footer p < per_footer p = mod-lt o m in
      let k : o % per_footer p < length (row (o / per_footer p)) = omega (arith, footer_row_length (o / per_footer p), e, r, l) in
      part-joined spare_len (row (o / per_footer p)) (o % per_footer p) (replicate (p.B - length (joined (row (o / per_footer p)))) 0) (footer_row_long (o / per_footer p)) k
      ∙ get_or-take (per_footer p) (drop (o / per_footer p * per_footer p) ss) (o % per_footer p) [] r
      ∙ get_or-drop (o / per_footer p * per_footer p) ss (o % per_footer p) []
      ∙ ap (λ (i : ℕ). get_or ss i []) e
