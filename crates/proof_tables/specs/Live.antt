-- Places that the address table holds, with no drive missing. Assumes nothing.
use Rattle.std.specs.Prelude.{◌≡◌, List, [], map, true, false, ℕ, ◌^◌, ◌<◌, eqb}
use Rattle.std.proofs.Math.Path.{refl, ap}
use Rattle.std.proofs.Common.{sym, ◌∙◌, subst, eq-eqb, ne_eqb, lit<}
use Rattle.std.proofs.Math.Bool.{not}
use Rattle.std.proofs.lemmas.Bool.{not-true}
use native.Mathlib.Omega.{arith}
use Rattle.spec.specs.declared.Params.{Params}
use Rattle.spec.specs.Counts.{never_place}
use Rattle.spec.specs.Drives.{View}
use Rattle.spec.specs.Lists.{Opt, below, any, cons_if, keep}
use Rattle.spec.specs.Lists.Opt.{none, some}
use Rattle.spec.specs.Memory.{place_at_of}
use Rattle.spec.specs.Rank.{Cand, best, place_or, cands_of}
use Rattle.spec.specs.Reclaim.{places_in, table_faults}
use Rattle.spec.specs.Segments.{segments, candidates, address_table, is_place}
use Rattle.law_basic.specs.Geometry.{Ranged}
use Rattle.law_drives.specs.Best.{best_in}
use Rattle.law_drives.specs.Members.{In, in_map, map_in, in_keep, keep_in, in_none, in_below, below_in}
use Rattle.law_drives.specs.Segs.{CandAt, cand_at}
use Rattle.law_drives.specs.Spots.{Spot, spot_of, spot_low, none_apart}
use Rattle.law_drives.specs.Tables.{place_at}
use Rattle.law_drives.specs.Tests.{clash}
use Rattle.law_drives.specs.Settled.{zero_here}

-- what the table holds of an address
pub data EntryHolds (p : Params) (v : View) (tb : List ℕ) (a : ℕ) : Type 0 where
  holds_none : best none (cands_of a (candidates p 0 (segments p v 0))) ≡ none → place_at_of tb a ≡ never_place → EntryHolds p v tb a
  holds_some : (c : Cand) → best none (cands_of a (candidates p 0 (segments p v 0))) ≡ some c → CandAt p v 0 c → Spot p v 0 c → c.address ≡ a → place_at_of tb a ≡ c.place
      → EntryHolds p v tb a

pub table-holds : (p : Params) (r : Ranged p) (v : View) (tb : List ℕ) → tb ≡ address_table p (candidates p 0 (segments p v 0)) → (a : ℕ) → a < p.L → EntryHolds p v tb a
table-holds p r v tb e a h = go (best none (cands_of a cs)) refl
  where
    cs : List Cand
    cs = candidates p 0 (segments p v 0)

    read! : place_or (best none (cands_of a cs)) < 256 ^ 4 → place_at_of tb a ≡ place_or (best none (cands_of a cs))
    read! l = ap (λ (x : List ℕ). place_at_of x a) e ∙ place_at p cs a h l

    go : (o : Opt Cand) → best none (cands_of a cs) ≡ o → EntryHolds p v tb a
    go none q =
        let x : place_or (best none (cands_of a cs)) ≡ never_place = ap place_or q ∙ nowhere! in
        holds_none q (read! (subst (λ (y : ℕ). y < 256 ^ 4) (sym x) (lit< tt)) ∙ x)
      where
        nowhere! : place_or none ≡ never_place
        nowhere! = unfold place_or in refl
    go (some c) q =
        let (m, ea) = best_in a cs c q in
        let k = cand_at p v 0 c m in
        let t = spot_of p r v 0 (zero_here p r) (none_apart p v) c k in
        let x : place_or (best none (cands_of a cs)) ≡ c.place = ap place_or q ∙ there! in
        let l = spot_low p r v 0 (zero_here p r) (none_apart p v) c t in
        holds_some c q k t ea (read! (subst (λ (y : ℕ). y < 256 ^ 4) (sym x) (let z : c.place < 256 ^ 4 = omega arith in z)) ∙ x)
      where
        there! : place_or (some c) ≡ c.place
        there! = unfold place_or in refl

-- a place of the table is that of a record that holds
pub record Pointed (p : Params) (v : View) (q : ℕ) : Type 0 where
  pub address : ℕ
  pub cand : Cand
  pub address_low : address < p.L
  pub wins : best none (cands_of address (candidates p 0 (segments p v 0))) ≡ some cand
  pub at_cand! : CandAt p v 0 cand
  pub spot : Spot p v 0 cand
  pub of_address : cand.address ≡ address
  pub place! : q ≡ cand.place

pub places_pointed : (p : Params) (r : Ranged p) (v : View) (tb : List ℕ) → tb ≡ address_table p (candidates p 0 (segments p v 0)) → (q : ℕ) → In q (places_in p tb) → Pointed p v q
places_pointed p r v tb e q m = go (as! m)
  where
    as! : In q (places_in p tb) → In q (keep (λ q. not (eqb q never_place)) (map (place_at_of tb) (below p.L)))
    as! m = unfold places_in in m

    go : In q (keep (λ q. not (eqb q never_place)) (map (place_at_of tb) (below p.L))) → Pointed p v q
    go n =
        let (i, x) = keep_in (λ q. not (eqb q never_place)) (map (place_at_of tb) (below p.L)) q n in
        let (a, j, f) = map_in (place_at_of tb) (below p.L) q i in
        two a (below_in p.L a j) f x (table-holds p r v tb e a (below_in p.L a j))
      where
        two : (a : ℕ) → a < p.L → q ≡ place_at_of tb a → not (eqb q never_place) ≡ true → EntryHolds p v tb a → Pointed p v q
        two a ha f x (holds_none b y) = clash (eq-eqb q never_place (f ∙ y)) (not-true (eqb q never_place) x)
        two a ha f x (holds_some c b k t ea y) = record { address = a; cand = c; address_low = ha; wins = b; at_cand! = k; spot = t; of_address = ea; place! = f ∙ y }

-- the place of a record that holds is in the table
pub holds_place : (p : Params) (r : Ranged p) (v : View) (tb : List ℕ) → tb ≡ address_table p (candidates p 0 (segments p v 0)) → (a : ℕ) (c : Cand) → a < p.L
    → best none (cands_of a (candidates p 0 (segments p v 0))) ≡ some c → In c.place (places_in p tb)
holds_place p r v tb e a c h q = go (table-holds p r v tb e a h)
  where
    found! : place_at_of tb a ≡ c.place → c.place < never_place → In c.place (places_in p tb)
    found! f l = unfold places_in in in_keep (λ q. not (eqb q never_place)) (map (place_at_of tb) (below p.L)) c.place
        (subst (λ (x : ℕ). In x (map (place_at_of tb) (below p.L))) f (in_map (place_at_of tb) (below p.L) a (in_below p.L a h)))
        (ap not (ne_eqb c.place never_place (λ x. let z : ⊥ = omega arith in z)))

    go : EntryHolds p v tb a → In c.place (places_in p tb)
    go (holds_none b y) = absurd (let e : some c ≡ none = sym q ∙ b in let x : ◌≡◌ {A = ℕ} 0 1 = cc in let z : ⊥ = omega arith in z)
    go (holds_some d b k t ea y) =
        let e : d ≡ c = (let x : some d ≡ some c = sym b ∙ q in cc) in
        found! (y ∙ ap (λ (x : Cand). x.place) e) (subst (λ (x : Cand). x.place < never_place) e (spot_low p r v 0 (zero_here p r) (none_apart p v) d t))

pub table_clear : (p : Params) (r : Ranged p) (v : View) (tb : List ℕ) → tb ≡ address_table p (candidates p 0 (segments p v 0)) → table_faults p v tb ≡ []
table_clear p r v tb e = clear! (in_none (λ q. not (is_place p v 0 q)) (places_in p tb)
    (λ q m. let t = places_pointed p r v tb e q m in ap not (ap (is_place p v 0) t.place! ∙ t.spot.a_place)))
  where
    clear! : any (λ q. not (is_place p v 0 q)) (places_in p tb) ≡ false → table_faults p v tb ≡ []
    clear! q = unfold table_faults cons_if in rw q
