-- Division by a zone's length as a product: q / c is q * (2^47 / c + 1) / 2^47 (01, The array). With t = q / c and e = m * c - 2^47, which is
-- at most c, the product is t * 2^47 and less than 2^47 more. Assumes nothing.
use Rattle.std.specs.Prelude.{ℕ, ◌+◌, ◌-◌, ◌*◌, ◌/◌, ◌%◌, ◌≤◌, ◌<◌, ◌≡◌}
use Rattle.law_basic.specs.Geometry.{prod_le, item_fits}
use Rattle.std.proofs.Math.Arith.{digits_div}
use Rattle.std.proofs.Common.{sym, ◌∙◌, mod-lt, add-mul, mul-add, mul_assoc, mul_comm, one-mul, div-add-mod', div-lt_iff_lt-mul, arith}
use Rattle.std.proofs.Math.Path.{ap}
use Rattle.std.proofs.Math.Decide.{dec_le}

-- 2^47
abbrev pub scale : ℕ
scale = 140737488355328

-- the number to multiply by
unfoldable pub inverse : ℕ → ℕ
inverse c = scale / c + 1

module _ (q c : ℕ) (low : 3 ≤ c) (high : c ≤ 87381) (fits : q < 8192 * c) where
  abbrev t : ℕ
  t = q / c

  abbrev r : ℕ
  r = q % c

  abbrev m : ℕ
  m = scale / c + 1

  abbrev e : ℕ
  e = c - scale % c

  pos : 0 < c
  pos = omega arith

  few : t < 8192
  few = (div-lt_iff_lt-mul {k = c} {x = q} {y = 8192} pos).1 fits

  rest : scale % c < c
  rest = mod-lt scale pos

  m_times : m * c ≡ scale + e
  m_times =
      let a : scale / c * c + scale % c ≡ scale = div-add-mod' scale c in
      let b : m * c ≡ scale / c * c + c = add-mul (scale / c) 1 c ∙ ap (λ (x : ℕ). scale / c * c + x) (one-mul c) in
      omega (arith, a, b, rest)

  m_large : 715825152 < m
  m_large = go (dec_le m 715825152)
    where
      go : Dec (m ≤ 715825152) → 715825152 < m
      go (yes h) = absurd (let z : ⊥ = omega (arith, m_times, rest, prod_le m c 715825152 87381 62549517606912 h high (omega arith)) in z)
      go (no h) = omega arith

  splits : q * m ≡ t * scale + (t * e + r * m)
  splits =
      let a : t * c + r ≡ q = div-add-mod' q c in
      let b : q * m ≡ t * c * m + r * m = ap (λ (x : ℕ). x * m) (sym a) ∙ add-mul (t * c) r m in
      let d : t * c * m ≡ t * scale + t * e = mul_assoc t c m ∙ ap (λ (x : ℕ). t * x) (mul_comm c m ∙ m_times) ∙ mul-add t scale e in
      omega (arith, b, d)

  more-low : t * e + r * m < scale
  more-low =
      let a : r * m + m ≤ c * m = item_fits r c m (mod-lt q pos) in
      let b : t * e + e ≤ 8192 * e = item_fits t 8192 e few in
      omega (arith, a, b, mul_comm c m, m_times, m_large)

  pub inverse_fits : q * inverse c < 18446744073709551616
  unfolding inverse
  inverse_fits = omega (arith, splits, more-low, few)

  pub inverse_divides : q * inverse c / 140737488355328 ≡ q / c
  unfolding inverse
  inverse_divides = ap (λ (x : ℕ). x / 140737488355328) splits ∙ digits_div t more-low
