-- The address table of a list of candidates, one candidate more (01, The calls, last paragraph). Assumes nothing.
use Rattle.std.specs.Prelude.{◌≡◌, refl, List, [], ◌∷◌, ◌++◌, true, ℕ, ◌+◌, ◌*◌, ◌≤◌, ◌<◌, eqb}
use Rattle.std.proofs.Common.{sym, ap, ◌∙◌, append-nil, mul_comm, eq-eqb, ne_eqb, arith}
use Rattle.std.proofs.Math.Decide.{dec_lt, ℕ_discrete}
use Rattle.std.proofs.Math.ListN.{length}
use Rattle.spec.specs.declared.Params.{Params}
use Rattle.spec.specs.Bytes.{to_be, part, splice}
use Rattle.spec.specs.Lists.{Opt, below, keep, flat}
use Rattle.spec.specs.Lists.Opt.{none, some}
use Rattle.spec.specs.Memory.{set_place}
use Rattle.spec.specs.Params.{addresses_len}
use Rattle.spec.specs.Rank.{Cand, better, best, place_or, cands_of}
use Rattle.spec.specs.Segments.{address_table}
use Rattle.law_basic.specs.Be.{length-to_be}
use Rattle.law_basic.specs.Ranges.{keep_append, keep_hit, keep_miss, keep_none}
use Rattle.law_basic.specs.Splice.{length-splice, part-splice, part-splice-below, part-splice_above}
use Rattle.law_drives.specs.Best.{best-append}
use Rattle.law_drives.specs.Tables.{part-flat, length_addresses, addresses_cong, addresses_ext}

-- ---- one candidate more

pub best-snoc : (a : ℕ) (cs : List Cand) (c : Cand) → c.address ≡ a → best none (cands_of a (cs ++ (c ∷ []))) ≡ better (best none (cands_of a cs)) c
unfolding cands_of best
best-snoc a cs c e =
    ap (best none) (keep_append (λ (x : Cand). eqb x.address a) cs (c ∷ []) ∙ ap (λ (l : List Cand). keep (λ (x : Cand). eqb x.address a) cs ++ l) (one (eq-eqb c.address a e)))
    ∙ best-append none (keep (λ (x : Cand). eqb x.address a) cs) (c ∷ [])
  where
    one : eqb c.address a ≡ true → keep (λ (x : Cand). eqb x.address a) (c ∷ []) ≡ c ∷ []
    one q = keep_hit (λ (x : Cand). eqb x.address a) c [] q ∙ ap (λ (l : List Cand). c ∷ l) (keep_none (λ (x : Cand). eqb x.address a))

pub best_else : (a : ℕ) (cs : List Cand) (c : Cand) → (c.address ≡ a → ⊥) → best none (cands_of a (cs ++ (c ∷ []))) ≡ best none (cands_of a cs)
unfolding cands_of
best_else a cs c n =
    ap (best none) (keep_append (λ (x : Cand). eqb x.address a) cs (c ∷ [])
    ∙ ap (λ (l : List Cand). keep (λ (x : Cand). eqb x.address a) cs ++ l)
    (keep_miss (λ (x : Cand). eqb x.address a) c [] (ne_eqb c.address a n) ∙ keep_none (λ (x : Cand). eqb x.address a))
    ∙ append-nil (keep (λ (x : Cand). eqb x.address a) cs))

-- what an address has in the table
pub table_entry : (p : Params) (cs : List Cand) (a : ℕ) → a < p.L → part (4 * a) 4 (address_table p cs) ≡ to_be 4 (place_or (best none (cands_of a cs)))
unfolding address_table
table_entry p cs a h =
    ap (λ (n : ℕ). part n 4 (flat (λ a. to_be 4 (place_or (best none (cands_of a cs)))) (below p.L))) (mul_comm 4 a)
    ∙ part-flat (λ a. to_be 4 (place_or (best none (cands_of a cs)))) 4 p.L (λ i x. length-to_be 4 (place_or (best none (cands_of i cs)))) a h

module _ (p : Params) (cs : List Cand) (c : Cand) where
  -- 01, Refusals, 9: padding and what else is not below L stands in no table
  pub offer_high : p.L ≤ c.address → address_table p cs ≡ address_table p (cs ++ (c ∷ []))
  offer_high h = addresses_cong p cs (cs ++ (c ∷ [])) (λ a k. sym (best_else a cs c (λ e. let q : ⊥ = omega arith in q)))

  -- the one held stays
  pub offer_kept : better (best none (cands_of c.address cs)) c ≡ best none (cands_of c.address cs) → address_table p cs ≡ address_table p (cs ++ (c ∷ []))
  offer_kept e = addresses_cong p cs (cs ++ (c ∷ [])) (λ a k. sym (go a (ℕ_discrete c.address a)))
    where
      go : (a : ℕ) → Dec (c.address ≡ a) → best none (cands_of a (cs ++ (c ∷ []))) ≡ best none (cands_of a cs)
      go a (yes q) =
          best-snoc a cs c q ∙ ap (λ (x : ℕ). better (best none (cands_of x cs)) c) (sym q) ∙ e ∙ ap (λ (x : ℕ). best none (cands_of x cs)) q
      go a (no n) = best_else a cs c n

  -- the new one goes in
  pub offer_set : c.address < p.L → better (best none (cands_of c.address cs)) c ≡ some c
      → set_place (address_table p cs) c.address c.place ≡ address_table p (cs ++ (c ∷ []))
  unfolding set_place place_or
  offer_set h e = addresses_ext p (splice (address_table p cs) (4 * c.address) (to_be 4 c.place)) (cs ++ (c ∷ []))
      (length-splice (address_table p cs) (4 * c.address) (to_be 4 c.place) fits ∙ length_addresses p cs) (λ a k. go a k (ℕ_discrete c.address a))
    where
      long : length (address_table p cs) ≡ 4 * p.L
      long = length_addresses p cs ∙ (unfold addresses_len in refl)

      fits : 4 * c.address + length (to_be 4 c.place) ≤ length (address_table p cs)
      fits = omega (arith, length-to_be 4 c.place, long)

      go : (a : ℕ) → a < p.L → Dec (c.address ≡ a)
          → part (4 * a) 4 (splice (address_table p cs) (4 * c.address) (to_be 4 c.place)) ≡ to_be 4 (place_or (best none (cands_of a (cs ++ (c ∷ [])))))
      go a k (yes q) =
          let t = splice (address_table p cs) (4 * c.address) (to_be 4 c.place) in
          let b : best none (cands_of a (cs ++ (c ∷ []))) ≡ some c = best-snoc a cs c q ∙ ap (λ (x : ℕ). better (best none (cands_of x cs)) c) (sym q) ∙ e in
          ap (λ (x : ℕ). part (4 * x) 4 t) (sym q) ∙ ap (λ (n : ℕ). part (4 * c.address) n t) (sym (length-to_be 4 c.place))
          ∙ part-splice (address_table p cs) (4 * c.address) (to_be 4 c.place) fits
          ∙ ap (λ (o : Opt Cand). to_be 4 (place_or o)) (sym b)
      go a k (no n) =
          other (dec_lt a c.address) ∙ table_entry p cs a k ∙ ap (λ (o : Opt Cand). to_be 4 (place_or o)) (sym (best_else a cs c n))
        where
          other : Dec (a < c.address) → part (4 * a) 4 (splice (address_table p cs) (4 * c.address) (to_be 4 c.place)) ≡ part (4 * a) 4 (address_table p cs)
          other (yes x) = part-splice-below (address_table p cs) (4 * c.address) (to_be 4 c.place) fits (4 * a) 4 (omega arith)
          other (no x) = part-splice_above (address_table p cs) (4 * c.address) (to_be 4 c.place) fits (4 * a) 4 (omega (arith, length-to_be 4 c.place)) (omega (arith, long))
