-- Which place an address gets when a stripe completes, and the table with these places put (01, The calls, last paragraph). Assumes nothing.
use Rattle.std.specs.Prelude.{◌≡◌, Bool, true, false, ltb, length, get_or, set}
use Rattle.std.proofs.Math.Path.{refl, ap}
use Rattle.std.proofs.Common.{sym, ◌∙◌, lt-ltb, le-ltb, eq-eqb, ne_eqb, ltb-true, arith, get_or-set_same, get_or-set_other}
use mathlib.Core.List.{List, [], ◌∷◌, map}
use Rattle.std.proofs.Math.Bool.{cond}
use Prim.Native.Nat.{ℕ, zero, suc, ◌+◌, ◌-◌, ◌≤◌, ◌<◌}
use Rattle.std.proofs.Math.Dec.{eqb}
use Rattle.std.proofs.Math.Arith.{lt_of_le-ne}
use Rattle.std.proofs.Math.Decide.{ℕ_discrete}
use Rattle.spec.specs.declared.Params.{Params}
use Rattle.spec.specs.declared.State.{State}
use Rattle.spec.specs.Counts.{never_place}
use Rattle.spec.specs.Drives.{View}
use Rattle.spec.specs.Landing.{held, landed_cand, landed_cands, pointed}
use Rattle.spec.specs.Lists.{Opt, up_from, below, keep}
use Rattle.spec.specs.Memory.{filled_in_of, entry_in_of, place_at_of, set_place}
use Rattle.spec.specs.Rank.{Cand, better, best, place_or, cands_of}
use Rattle.spec.specs.Segments.{is_place}
use Rattle.disk_stored.specs.Places.{DataPlace}
use Rattle.law_basic.specs.Ranges.{up_from_step, up_from_end, below-start, keep_hit, keep_miss}
use Rattle.spec.specs.declared.Seg.{Seg}

-- never written, or a place of a data block; 02, item 4: in just one remaining segment
abbrev pub Sane : Params → View → ℕ → Type 0
Sane p v q = (q ≡ never_place → ⊥) → DataPlace p q × (is_place p v 0 q ≡ true)

-- 01, Refusals, 9: the places that the table holds of the stripe's addresses can be read
abbrev pub EntriesSane : Params → View → State → ℕ → List ℕ → Type 0
EntriesSane p v st i tb = (k : ℕ) → k < filled_in_of st i → (entry_in_of st i k).address < p.L → Sane p v (place_at_of tb (entry_in_of st i k).address)

-- 01, The calls: of the table's record of an address and the records cs, the place of the one that holds
abbrev pub winner_of : Params → View → List ℕ → List Cand → ℕ → ℕ
winner_of p v tb cs a = place_or (best (held p v tb a) (cands_of a cs))

-- the places qs, by data position, put at the addresses of the positions
unfoldable pub put_winners : Params → State → ℕ → List ℕ → List ℕ → List ℕ → List ℕ
put_winners p st i qs [] t = t
put_winners p st i qs (k ∷ ks) t =
    let a = (entry_in_of st i k).address in
    put_winners p st i qs ks (cond (ltb a p.L) (set_place t a (get_or qs k 0)) t)

module _ (p : Params) (st : State) (i : ℕ) (qs : List ℕ) where
  -- a turn: the address is below L, or it isn't
  pub put_one : (k n : ℕ) (t : List ℕ) → k < n → (entry_in_of st i k).address < p.L
      → put_winners p st i qs (up_from (k + 1) (n - (k + 1))) (set_place t (entry_in_of st i k).address (get_or qs k 0)) ≡ put_winners p st i qs (up_from k (n - k)) t
  unfolding put_winners
  put_one k n t h l =
      let a = (entry_in_of st i k).address in
      ap (λ (x : Bool). put_winners p st i qs (up_from (k + 1) (n - (k + 1))) (cond x (set_place t a (get_or qs k 0)) t)) (sym (lt-ltb a p.L l))
      ∙ ap (λ (x : List ℕ). put_winners p st i qs x t) (sym (up_from_step k n h))

  pub put_none : (k n : ℕ) (t : List ℕ) → k < n → p.L ≤ (entry_in_of st i k).address
      → put_winners p st i qs (up_from (k + 1) (n - (k + 1))) t ≡ put_winners p st i qs (up_from k (n - k)) t
  unfolding put_winners
  put_none k n t h l =
      let a = (entry_in_of st i k).address in
      ap (λ (x : Bool). put_winners p st i qs (up_from (k + 1) (n - (k + 1))) (cond x (set_place t a (get_or qs k 0)) t)) (sym (le-ltb a p.L l))
      ∙ ap (λ (x : List ℕ). put_winners p st i qs x t) (sym (up_from_step k n h))

  pub put_end : (k n : ℕ) (t : List ℕ) → n ≤ k → put_winners p st i qs (up_from k (n - k)) t ≡ t
  unfolding put_winners
  put_end k n t h = ap (λ (x : List ℕ). put_winners p st i qs x t) (up_from_end k n h)

  -- 01, Landing: with the places that hold, that is the table when the stripe completes
  module _ (v : View) (tb : List ℕ) (g : Seg) where
    -- one address
    put_same : (b : Bool) (a x y : ℕ) (t : List ℕ) → (b ≡ true → x ≡ y) → cond b (set_place t a x) t ≡ cond b (set_place t a y) t
    put_same true a x y t e = ap (set_place t a) (e refl)
    put_same false a x y t e = refl

    puts_from : (cs : List Cand) (k n : ℕ) (t : List ℕ)
        → ((h : ℕ) → k ≤ h → h < k + n → (entry_in_of st i h).address < p.L → get_or qs h 0 ≡ winner_of p v tb cs (entry_in_of st i h).address)
        → put_winners p st i qs (up_from k n) t ≡ pointed p v tb cs (map (landed_cand p v g st i) (up_from k n)) t
    unfolding put_winners pointed landed_cand up_from
    puts_from cs k zero t e = refl
    puts_from cs k (suc n) t e =
        let a = (entry_in_of st i k).address in
        let w : List ℕ = cond (ltb a p.L) (set_place t a (winner_of p v tb cs a)) t in
        ap (put_winners p st i qs (up_from (suc k) n))
        (put_same (ltb a p.L) a (get_or qs k 0) (winner_of p v tb cs a) t (λ q. e k (omega arith) (omega arith) (ltb-true a p.L q)))
        ∙ puts_from cs (suc k) n w (λ h l m. e h (omega arith) (omega arith))

    pub winners_are : ((h : ℕ) → h < filled_in_of st i → (entry_in_of st i h).address < p.L → get_or qs h 0 ≡ winner_of p v tb (landed_cands p v g st i) (entry_in_of st i h).address)
        → put_winners p st i qs (below (filled_in_of st i)) tb ≡ pointed p v tb (landed_cands p v g st i) (landed_cands p v g st i) tb
    unfolding landed_cands below
    winners_are e = puts_from (landed_cands p v g st i) 0 (filled_in_of st i) tb (λ h l m. e h (omega arith))

-- ---- the records compete one after the other

module _ (a : ℕ) where
  -- a record of another address
  pub other_address : (b : Opt Cand) (c : Cand) (cs : List Cand) → (c.address ≡ a → ⊥) → best b (cands_of a cs) ≡ best b (cands_of a (c ∷ cs))
  unfolding cands_of
  other_address b c cs n = ap (best b) (sym (keep_miss (λ (x : Cand). eqb x.address a) c cs (ne_eqb c.address a n)))

  -- a record of the address
  pub best_same_address : (b b' : Opt Cand) (c : Cand) (cs : List Cand) → c.address ≡ a → b' ≡ better b c → best b' (cands_of a cs) ≡ best b (cands_of a (c ∷ cs))
  unfolding cands_of best
  best_same_address b b' c cs e f =
      ap (λ (x : Opt Cand). best x (cands_of a cs)) f
      ∙ ap (best b) (sym (keep_hit (λ (x : Cand). eqb x.address a) c cs (eq-eqb c.address a e)))

module _ (p : Params) (v : View) (g : Seg) (st : State) (i a : ℕ) where
  -- what competes from data position k on
  pub rest_first : (b : Opt Cand) (n : ℕ) → n ≡ filled_in_of st i → best b (cands_of a (map (landed_cand p v g st i) (up_from 0 (n - 0)))) ≡ best b (cands_of a (landed_cands p v g st i))
  unfolding landed_cands
  rest_first b n e =
      ap (λ (x : List ℕ). best b (cands_of a (map (landed_cand p v g st i) x))) (sym (below-start n))
      ∙ ap (λ (x : ℕ). best b (cands_of a (map (landed_cand p v g st i) (below x)))) e

  pub winner_turn : (b b' : Opt Cand) (k n : ℕ) → k < n
      → ((cs : List Cand) → best b' (cands_of a cs) ≡ best b (cands_of a (landed_cand p v g st i k ∷ cs)))
      → best b' (cands_of a (map (landed_cand p v g st i) (up_from (k + 1) (n - (k + 1))))) ≡ best b (cands_of a (map (landed_cand p v g st i) (up_from k (n - k))))
  winner_turn b b' k n h e =
      e (map (landed_cand p v g st i) (up_from (k + 1) (n - (k + 1))))
      ∙ ap (λ (x : List ℕ). best b (cands_of a (map (landed_cand p v g st i) x))) (sym (up_from_step k n h))

  pub rest_last : (b : Opt Cand) (k n : ℕ) → n ≤ k → best b (cands_of a (map (landed_cand p v g st i) (up_from k (n - k)))) ≡ b
  unfolding cands_of best keep
  rest_last b k n h = ap (λ (x : List ℕ). best b (cands_of a (map (landed_cand p v g st i) x))) (up_from_end k n h)

-- ---- the places that hold, by data position

module _ (p : Params) (st : State) (i : ℕ) (f : ℕ → ℕ) (out : List ℕ) (k : ℕ)
    (held! : (h : ℕ) → h < k → (entry_in_of st i h).address < p.L → get_or out h 0 ≡ f (entry_in_of st i h).address) where
  -- position k's is put
  pub set_winner : (q : ℕ) → k < length out → q ≡ f (entry_in_of st i k).address
      → (h : ℕ) → h < k + 1 → (entry_in_of st i h).address < p.L → get_or (set out k q) h 0 ≡ f (entry_in_of st i h).address
  set_winner q l e h m a = go (ℕ_discrete h k)
    where
      go : Dec (h ≡ k) → get_or (set out k q) h 0 ≡ f (entry_in_of st i h).address
      go (yes s) = ap (λ (x : ℕ). get_or (set out k q) x 0) s ∙ get_or-set_same out k q 0 l ∙ e ∙ ap (λ (x : ℕ). f (entry_in_of st i x).address) (sym s)
      go (no s) = get_or-set_other out k h q 0 s ∙ held! h (lt_of_le-ne (omega arith) s) a

  -- or its address is not below L
  pub keep_winner : p.L ≤ (entry_in_of st i k).address → (h : ℕ) → h < k + 1 → (entry_in_of st i h).address < p.L → get_or out h 0 ≡ f (entry_in_of st i h).address
  keep_winner l h m a = go (ℕ_discrete h k)
    where
      go : Dec (h ≡ k) → get_or out h 0 ≡ f (entry_in_of st i h).address
      go (yes s) = absurd (let e : (entry_in_of st i h).address ≡ (entry_in_of st i k).address = ap (λ (x : ℕ). (entry_in_of st i x).address) s in let q : ⊥ = omega (arith, e) in q)
      go (no s) = held! h (lt_of_le-ne (omega arith) s) a
