-- The address table when a stripe completes: the table's record and the stripe's compete. Assumes nothing.
use Rattle.std.specs.Prelude.{◌≡◌, ◌⊎◌, ℕ, ◌*◌, ◌<◌, ltb, eqb, length}
use Rattle.std.proofs.Math.Path.{refl}
use Rattle.std.proofs.Common.{sym, ap, ◌∙◌, ⊎_elim, mul_comm, ltb-true, ltb-false, eqb-true, arith}
use mathlib.Core.List.{List, [], ◌∷◌, ◌++◌}
use Rattle.std.proofs.Math.Logic.{inl, inr}
use Rattle.std.proofs.Math.Decide.{dec_lt, ℕ_discrete}
use Rattle.spec.specs.declared.Params.{Params}
use Rattle.spec.specs.Bytes.{to_be, part, splice}
use Rattle.spec.specs.Drives.{View}
use Rattle.spec.specs.Landing.{held, pointed}
use Rattle.spec.specs.Lists.{Opt, below, any, keep, flat}
use Rattle.spec.specs.Lists.Opt.{none}
use Rattle.spec.specs.Memory.{set_place}
use Rattle.spec.specs.Params.{addresses_len}
use Rattle.spec.specs.Rank.{Cand, best, place_or, cands_of}
use Rattle.spec.specs.Segments.{address_table}
use Rattle.law_basic.specs.Be.{length-to_be}
use Rattle.law_basic.specs.Ranges.{Test, test}
use Rattle.law_basic.specs.Ranges.Test.{yes!, no! }
use Rattle.law_basic.specs.Splice.{part-splice, part-splice-below, part-splice_above}
use Rattle.law_drives.specs.Best.{best-append}
use Rattle.law_drives.specs.Members.{In, none_in, any_in, keep_nothing}
use Rattle.law_drives.specs.Pointed.{set_fits, next, next_long, pointed_long}
use Rattle.law_drives.specs.Tables.{part-flat, length_addresses, addresses_ext}
use Rattle.law_drives.specs.Tests.{cond_true, cond_false}
use Rattle.proof_tables.specs.Ranks.{cands_append}

module _ (p : Params) (v : View) (tb : List ℕ) (cs : List Cand) where
  -- what an address gets
  abbrev gets : ℕ → List ℕ
  gets a = to_be 4 (place_or (best (held p v tb a) (cands_of a cs)))

  set_here : (t : List ℕ) (a q : ℕ) → length t ≡ addresses_len p → a < p.L → part (4 * a) 4 (set_place t a q) ≡ to_be 4 q
  set_here t a q l h = as! (ap (λ (n : ℕ). part (4 * a) n (splice t (4 * a) (to_be 4 q))) (sym (length-to_be 4 q)) ∙ part-splice t (4 * a) (to_be 4 q) (set_fits p t a q l h))
    where
      as! : part (4 * a) 4 (splice t (4 * a) (to_be 4 q)) ≡ to_be 4 q → part (4 * a) 4 (set_place t a q) ≡ to_be 4 q
      as! e = unfold set_place in e

  set_else : (t : List ℕ) (a b q : ℕ) → length t ≡ addresses_len p → a < p.L → b < p.L → (b ≡ a → ⊥) → part (4 * b) 4 (set_place t a q) ≡ part (4 * b) 4 t
  set_else t a b q l h k n = as! (go (dec_lt b a))
    where
      as! : part (4 * b) 4 (splice t (4 * a) (to_be 4 q)) ≡ part (4 * b) 4 t → part (4 * b) 4 (set_place t a q) ≡ part (4 * b) 4 t
      as! e = unfold set_place in e

      len : addresses_len p ≡ 4 * p.L
      len = unfold addresses_len in refl

      go : Dec (b < a) → part (4 * b) 4 (splice t (4 * a) (to_be 4 q)) ≡ part (4 * b) 4 t
      go (yes x) = part-splice-below t (4 * a) (to_be 4 q) (set_fits p t a q l h) (4 * b) 4 (omega arith)
      go (no x) = part-splice_above t (4 * a) (to_be 4 q) (set_fits p t a q l h) (4 * b) 4 (let e = length-to_be 4 q in omega arith) (let f = len in omega arith)

  -- what is right stays right
  next_right : (c : Cand) (t : List ℕ) (a : ℕ) → length t ≡ addresses_len p → a < p.L → (part (4 * a) 4 t ≡ gets a) ⊎ (c.address ≡ a)
      → part (4 * a) 4 (next p v tb cs c t) ≡ gets a
  next_right c t a l h w = go (test (ltb c.address p.L)) (ℕ_discrete a c.address)
    where
      x : ℕ
      x = place_or (best (held p v tb c.address) (cands_of c.address cs))

      go : Test (ltb c.address p.L) → Dec (a ≡ c.address) → part (4 * a) 4 (next p v tb cs c t) ≡ gets a
      go (yes! q) (yes e) =
          ap (part (4 * a) 4) (cond_true (ltb c.address p.L) (set_place t c.address x) t q)
          ∙ ap (λ (n : ℕ). part (4 * n) 4 (set_place t c.address x)) e ∙ set_here t c.address x l (ltb-true c.address p.L q) ∙ ap gets (sym e)
      go (yes! q) (no n) =
          ap (part (4 * a) 4) (cond_true (ltb c.address p.L) (set_place t c.address x) t q)
          ∙ set_else t c.address a x l (ltb-true c.address p.L q) h n ∙ ⊎_elim (λ y. y) (λ y. absurd (n (sym y))) w
      go (no! q) e =
          ap (part (4 * a) 4) (cond_false (ltb c.address p.L) (set_place t c.address x) t q)
          ∙ ⊎_elim (λ y. y) (λ y. absurd (let k = ltb-false c.address p.L q in let bad : ⊥ = omega arith in bad)) w

  pointed-right :
      (ds : List Cand) (t : List ℕ) (a : ℕ)
      → length t ≡ addresses_len p
      → a < p.L
      → (part (4 * a) 4 t ≡ gets a) ⊎ ((c : Cand) × In c ds × (c.address ≡ a))
      → part (4 * a) 4 (pointed p v tb cs ds t) ≡ gets a
  unfolding pointed
  pointed-right [] t a l h (inl e) = e
  pointed-right [] t a l h (inr (c, m, e)) = absurd m
  pointed-right (c ∷ ds) t a l h (inl e) = pointed-right ds (next p v tb cs c t) a (next_long p v tb cs c t l) h (inl (next_right c t a l h (inl e)))
  pointed-right (c ∷ ds) t a l h (inr (d, m, e)) = pointed-right ds (next p v tb cs c t) a (next_long p v tb cs c t l) h (go m)
    where
      go : (d ≡ c) ⊎ In d ds → (part (4 * a) 4 (next p v tb cs c t) ≡ gets a) ⊎ ((y : Cand) × In y ds × (y.address ≡ a))
      go (inl x) = inl (next_right c t a l h (inr (ap (λ (y : Cand). y.address) (sym x) ∙ e)))
      go (inr x) = inr (d, x, e)

  -- the whole
  pub pointed_is : (xs : List Cand) → tb ≡ address_table p xs → ((a : ℕ) → a < p.L → held p v tb a ≡ best none (cands_of a xs)) → pointed p v tb cs cs tb ≡ address_table p (xs ++ cs)
  pointed_is xs e hh =
      addresses_ext p (pointed p v tb cs cs tb) (xs ++ cs) (pointed_long p v tb cs cs tb lt)
      (λ a h. pointed-right cs tb a lt h (go a h (test (any (λ (c : Cand). eqb c.address a) cs)))
      ∙ ap (λ (o : Opt Cand). to_be 4 (place_or (best o (cands_of a cs)))) (hh a h)
      ∙ ap (λ (o : Opt Cand). to_be 4 (place_or o)) (sym (best-append none (cands_of a xs) (cands_of a cs)) ∙ ap (best none) (sym (cands_append a xs cs))))
    where
      lt : length tb ≡ addresses_len p
      lt = ap length e ∙ length_addresses p xs

      row : (a : ℕ) → a < p.L → part (4 * a) 4 tb ≡ to_be 4 (place_or (best none (cands_of a xs)))
      row a h = ap (part (4 * a) 4) e ∙ as! (ap (λ (n : ℕ). part n 4 (flat (λ a. to_be 4 (place_or (best none (cands_of a xs)))) (below p.L))) (mul_comm 4 a)
          ∙ part-flat (λ a. to_be 4 (place_or (best none (cands_of a xs)))) 4 p.L (λ i x. length-to_be 4 (place_or (best none (cands_of i xs)))) a h)
        where
          as! : part (4 * a) 4 (flat (λ a. to_be 4 (place_or (best none (cands_of a xs)))) (below p.L)) ≡ to_be 4 (place_or (best none (cands_of a xs)))
              → part (4 * a) 4 (address_table p xs) ≡ to_be 4 (place_or (best none (cands_of a xs)))
          as! q = unfold address_table in q

      go : (a : ℕ) → a < p.L → Test (any (λ (c : Cand). eqb c.address a) cs) → (part (4 * a) 4 tb ≡ gets a) ⊎ ((c : Cand) × In c cs × (c.address ≡ a))
      go a h (yes! q) = let (c, m, x) = any_in (λ (c : Cand). eqb c.address a) cs q in inr (c, m, eqb-true c.address a x)
      go a h (no! q) = inl (row a h ∙ ap (λ (o : Opt Cand). to_be 4 (place_or o)) (sym (hh a h)) ∙ ap (λ (o : Opt Cand). to_be 4 (place_or o)) (sym (none! (held p v tb a))))
        where
          nil! : cands_of a cs ≡ []
          nil! = as! (keep_nothing (λ (c : Cand). eqb c.address a) cs (λ c m. none_in (λ (c : Cand). eqb c.address a) cs q c m))
            where
              as! : keep (λ (c : Cand). eqb c.address a) cs ≡ [] → cands_of a cs ≡ []
              as! e = unfold cands_of in e

          none! : (o : Opt Cand) → best o (cands_of a cs) ≡ o
          none! o = ap (best o) nil! ∙ (unfold best in refl)
