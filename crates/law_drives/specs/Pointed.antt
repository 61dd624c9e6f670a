-- The address table with places set: its length stays.
use Rattle.std.specs.Prelude.{◌≡◌, cond, ℕ, ◌+◌, ◌*◌, ◌≤◌, ◌<◌, ltb, length}
use Rattle.std.proofs.Math.Path.{refl}
use Rattle.std.proofs.Common.{◌∙◌, ap, ltb-true, arith}
use mathlib.Core.List.{List, [], ◌∷◌}
use Rattle.spec.specs.declared.Params.{Params}
use Rattle.spec.specs.Bytes.{to_be, splice}
use Rattle.spec.specs.Drives.{View}
use Rattle.spec.specs.Landing.{held, pointed}
use Rattle.spec.specs.Memory.{set_place}
use Rattle.spec.specs.Params.{addresses_len}
use Rattle.spec.specs.Rank.{Cand, best, place_or, cands_of}
use Rattle.law_basic.specs.Be.{length-to_be}
use Rattle.law_basic.specs.Ranges.{Test, test}
use Rattle.law_basic.specs.Ranges.Test.{yes!, no! }
use Rattle.law_basic.specs.Splice.{length-splice}
use Rattle.law_drives.specs.Tests.{cond_true, cond_false}

module _ (p : Params) where
  pub set_fits : (t : List ℕ) (a q : ℕ) → length t ≡ addresses_len p → a < p.L → 4 * a + length (to_be 4 q) ≤ length t
  set_fits t a q l h = let e = length-to_be 4 q in let f = len in omega arith
    where
      len : addresses_len p ≡ 4 * p.L
      len = unfold addresses_len in refl

  pub set_long : (t : List ℕ) (a q : ℕ) → length t ≡ addresses_len p → a < p.L → length (set_place t a q) ≡ addresses_len p
  set_long t a q l h = as! (length-splice t (4 * a) (to_be 4 q) (set_fits t a q l h) ∙ l)
    where
      as! : length (splice t (4 * a) (to_be 4 q)) ≡ addresses_len p → length (set_place t a q) ≡ addresses_len p
      as! e = unfold set_place in e

module _ (p : Params) (v : View) (tb : List ℕ) (cs : List Cand) where
  -- one address after the other
  abbrev pub next : Cand → List ℕ → List ℕ
  next c t = cond (ltb c.address p.L) (set_place t c.address (place_or (best (held p v tb c.address) (cands_of c.address cs)))) t

  pub next_long : (c : Cand) (t : List ℕ) → length t ≡ addresses_len p → length (next c t) ≡ addresses_len p
  next_long c t l = go (test (ltb c.address p.L))
    where
      go : Test (ltb c.address p.L) → length (next c t) ≡ addresses_len p
      go (yes! q) =
          ap length (cond_true (ltb c.address p.L)
          (set_place t c.address (place_or (best (held p v tb c.address) (cands_of c.address cs)))) t q)
          ∙ set_long p t c.address (place_or (best (held p v tb c.address) (cands_of c.address cs))) l (ltb-true c.address p.L q)
      go (no! q) = ap length (cond_false (ltb c.address p.L) (set_place t c.address (place_or (best (held p v tb c.address) (cands_of c.address cs)))) t q) ∙ l

  pub pointed_long : (ds : List Cand) (t : List ℕ) → length t ≡ addresses_len p → length (pointed p v tb cs ds t) ≡ addresses_len p
  unfolding pointed
  pointed_long [] t l = l
  pointed_long (c ∷ ds) t l = pointed_long ds (next c t) (next_long c t l)
