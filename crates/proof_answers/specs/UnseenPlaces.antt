-- Two views that differ in offline zones alone: what a place holds and what a read gives are the same (02, item 4). Assumes nothing.
use Rattle.std.proofs.Math.Path.{◌≡◌, refl, sym, ap, ap₂}
use Rattle.std.proofs.Common.{◌∙◌, subst}
use mathlib.Core.List.{List, [], ◌∷◌}
use Rattle.std.specs.Prelude.{Bool, false, not, ◌&&◌, ◌||◌, leb, get_or}
use Rattle.std.proofs.Math.Bool.{true, cond}
use Prim.Native.Nat.{ℕ, ◌+◌, ◌-◌, ◌/◌, ◌<◌}
use native.Mathlib.Omega.{arith}
use Rattle.std.proofs.Math.Nat.{mod-lt}
use Rattle.std.proofs.Math.Dec.{eqb, ltb}
use Rattle.std.proofs.Math.ListN.{length}
use Rattle.spec.specs.declared.Params.{Params}
use Rattle.spec.specs.declared.Seg.{Seg}
use Rattle.spec.specs.declared.State.{State}
use Rattle.spec.specs.Counts.{never_place}
use Rattle.spec.specs.Drives.{Chunk, View, pointer_at, zone_on, no_seg}
use Rattle.spec.specs.Layout.{compact_entry, group_offsets, Rec}
use Rattle.spec.specs.Lists.{any, cons_if, is_nil, keep, first_or, is_in}
use Rattle.spec.specs.Memory.{place_at_of, shown_at, compact_at, state_ok}
use Rattle.spec.specs.Params.{between, capacity, place_block, place_zone, place_drive, present}
use Rattle.spec.specs.Parity.{Piece, mk_piece}
use Rattle.spec.specs.Read.{Found, place_faults, lies, found_faults, shown, decode_faults, stored_at, decoded_at, read_piece, Lookup, lookup}
use Rattle.spec.specs.Read.Found.{nowhere, here, away}
use Rattle.spec.specs.Segments.{remaining, holders, is_place, place_segment}
use Rattle.law_basic.specs.Geometry.{Ranged}
use Rattle.law_basic.specs.Ranges.{Test, test}
use Rattle.law_basic.specs.Ranges.Test.{yes!, no! }
use Rattle.law_code.specs.Code.{decode_same}
use Rattle.law_drives.specs.Holders.{place_first, place_drive_low, place_zone_good, place_remains}
use Rattle.law_drives.specs.Gather.{present_in}
use Rattle.law_drives.specs.Members.{In, map_cong}
use Rattle.law_drives.specs.Segs.{Here}
use Rattle.law_drives.specs.States.{state_of_lem}
use Rattle.proof_answers.specs.UnseenZones.{UnseenZonesAlike, same_good, unseen_zones_same_pointer, remains, its_pointer_same, its_chunk_same, its_record_same}
use Rattle.law_drives.specs.Masks.{few_here}

-- a state in order leaves a drive
pub state_here : (p : Params) → Ranged p → (st : State) → state_ok p st ≡ true → Here p st.missing
state_here p r st ok = let s = state_of_lem p r st ok in few_here p r st.missing s.missing_low s.missing_few

-- where the drive is present
abbrev Sane : Params → ℕ → Found → Type 0
Sane p gone nowhere = Unit {0}
Sane p gone (here q) = is_in gone (place_drive p q) ≡ false
Sane p gone (away q) = Unit {0}

lies_sane : (p : Params) (gone : ℕ) (tb : List ℕ) (a : ℕ) → Sane p gone (lies p gone tb a)
unfolding lies
lies_sane p gone tb a = go (eqb (place_at_of tb a) never_place) (test (is_in gone (place_drive p (place_at_of tb a))))
  where
    go : (b : Bool) → Test (is_in gone (place_drive p (place_at_of tb a)))
        → Sane p gone (cond b nowhere (cond (is_in gone (place_drive p (place_at_of tb a))) (away (place_at_of tb a)) (here (place_at_of tb a))))
    go true t = tt
    go false (yes! e) = rw e tt
    go false (no! e) = subst (λ (b : Bool). Sane p gone (cond b (away (place_at_of tb a)) (here (place_at_of tb a)))) (sym e) e

module _ (p : Params) (r : Ranged p) (v u : View) (al : UnseenZonesAlike p v u) (gone : ℕ) (low : Here p gone) where
  pub holders_same : (d z : ℕ) → holders p v gone d z ≡ holders p u gone d z
  unfolding holders
  holders_same d z = ap (keep (λ g. eqb (zone_on g d) z)) (remains p v u al gone low)

  pub is_place_same : (q : ℕ) → is_place p v gone q ≡ is_place p u gone q
  unfolding is_place
  is_place_same q = ap₂ (λ (a : Bool) (l : List Seg). ltb (place_drive p q) p.N && a && eqb (length l) 1)
      (same_good p v u al (place_drive p q) (place_zone p q)) (holders_same (place_drive p q) (place_zone p q))

  pub place_segment_same : (q : ℕ) → place_segment p v gone q ≡ place_segment p u gone q
  place_segment_same q = place_first p v gone q ∙ ap (first_or no_seg) (holders_same (place_drive p q) (place_zone p q)) ∙ sym (place_first p u gone q)

  pub place_zone_low : (q : ℕ) → place_zone p q < p.Z
  unfolding place_zone
  place_zone_low q = mod-lt (q / capacity p) (let z : 0 < p.Z = omega (arith, r.zones_low) in z)

  -- ---- faults of a place

  abbrev rest : ℕ → ℕ → List ℕ
  rest q n = cons_if (not (between 1 p.S (place_block p q)) || (not (is_in gone (place_drive p q)) && leb n (place_block p q))) (place_zone p q) []

  pub place_faults_same : (q : ℕ) → place_faults p v gone q ≡ place_faults p u gone q
  unfolding place_faults
  place_faults_same q = go (test (is_place p v gone q))
    where
      n : ℕ
      n = pointer_at v (place_drive p q) (place_zone p q)

      k : ℕ
      k = pointer_at u (place_drive p q) (place_zone p q)

      go : Test (is_place p v gone q) → cond (not (is_place p v gone q)) (0 ∷ []) (rest q n) ≡ cond (not (is_place p u gone q)) (0 ∷ []) (rest q k)
      go (yes! e) = ap₂ (λ (b : Bool) (x : ℕ). cond (not b) (0 ∷ []) (rest q x)) (is_place_same q)
          (unseen_zones_same_pointer p v u al (place_drive p q) (place_zone p q) (place_drive_low p v gone q e) (place_zone_low q) (place_zone_good p v gone q e))
      go (no! e) = ap (λ (b : Bool). cond (not b) (0 ∷ []) (rest q n)) e ∙ sym (ap (λ (b : Bool). cond (not b) (0 ∷ []) (rest q k)) (sym (is_place_same q) ∙ e))

  pub found_faults_same : (f : Found) → found_faults p v gone f ≡ found_faults p u gone f
  unfolding found_faults
  found_faults_same nowhere = refl
  found_faults_same (here q) = place_faults_same q
  found_faults_same (away q) = place_faults_same q

  pub no_fault_place : (q : ℕ) → place_faults p v gone q ≡ [] → is_place p v gone q ≡ true
  unfolding place_faults
  no_fault_place q e = go (test (is_place p v gone q)) e
    where
      go : Test (is_place p v gone q) → cond (not (is_place p v gone q)) (0 ∷ []) (rest q (pointer_at v (place_drive p q) (place_zone p q))) ≡ [] → is_place p v gone q ≡ true
      go (yes! t) x = t
      go (no! t) x =
          let y : ◌≡◌ {A = List ℕ} (0 ∷ []) [] = sym (ap (λ (b : Bool). cond (not b) (0 ∷ []) (rest q (pointer_at v (place_drive p q) (place_zone p q)))) t) ∙ x in
          absurd (let z : ◌≡◌ {A = ℕ} 1 0 = ap length y in let w : ⊥ = omega arith in w)

  -- ---- what is read

  pub shown-at_same : (cs : List ℕ) (g : Seg) → In g (remaining p v gone) → (s d : ℕ) → d < p.N → is_in gone d ≡ false
      → shown_at p v cs d (zone_on g d) s ≡ shown_at p u cs d (zone_on g d) s
  unfolding shown_at
  shown-at_same cs g m s d hd q =
      ap (λ (n : ℕ). keep (λ o. ltb (1 + o) n && eqb (get_or cs (compact_at p d (zone_on g d) o) 0) (compact_entry p s)) (group_offsets p s)) (its_pointer_same p v u al gone low g m d hd q)

  unseen_places_shown_same : (cs : List ℕ) (g : Seg) → In g (remaining p v gone) → (s : ℕ) → shown p v gone cs g s ≡ shown p u gone cs g s
  unfolding shown
  unseen_places_shown_same cs g m s = map_cong (λ d. shown_at p v cs d (zone_on g d) s) (λ d. shown_at p u cs d (zone_on g d) s) (present p gone)
      (λ d i. let (hd, q) = present_in p gone d i in shown-at_same cs g m s d hd q)

  pub decode_faults_same : (cs : List ℕ) (f : Found) → found_faults p v gone f ≡ [] → decode_faults p v gone cs f ≡ decode_faults p u gone cs f
  unfolding decode_faults found_faults
  decode_faults_same cs nowhere e = refl
  decode_faults_same cs (here q) e = refl
  decode_faults_same cs (away q) e =
      ap (λ (l : List (List ℕ)). cons_if (any is_nil l) (place_zone p q) [])
      (unseen_places_shown_same cs (place_segment p v gone q) (place_remains p v gone q (no_fault_place q e)) (place_block p q - 1))
      ∙ ap (λ (g : Seg). cons_if (any is_nil (shown p u gone cs g (place_block p q - 1))) (place_zone p q) []) (place_segment_same q)

  pub stored-at_same : (g : Seg) → In g (remaining p v gone) → (d o : ℕ) → d < p.N → is_in gone d ≡ false → stored_at p v gone d g o ≡ stored_at p u gone d g o
  unfolding stored_at
  stored-at_same g m d o hd q =
      ap₂ (λ (c : Chunk) (x : Rec). mk_piece c.block x) (its_chunk_same p v u al gone low g m d (1 + o) hd q) (its_record_same p v u al gone low g m d o hd q)

  decoded-at_same : (cs : List ℕ) (g : Seg) → In g (remaining p v gone) → (d s : ℕ) → decoded_at p v gone cs d g s ≡ decoded_at p u gone cs d g s
  unfolding decoded_at
  decoded-at_same cs g m d s =
      decode_same p gone s d (λ e. stored_at p v gone e g (first_or 0 (shown_at p v cs e (zone_on g e) s))) (λ e. stored_at p u gone e g (first_or 0 (shown_at p u cs e (zone_on g e) s)))
      (λ e he q. stored-at_same g m e (first_or 0 (shown_at p v cs e (zone_on g e) s)) he q ∙ ap (λ (l : List ℕ). stored_at p u gone e g (first_or 0 l)) (shown-at_same cs g m s e he q))

  piece_same : (cs : List ℕ) (f : Found) → Sane p gone f → found_faults p v gone f ≡ [] → read_piece p v gone cs f ≡ read_piece p u gone cs f
  unfolding read_piece found_faults
  piece_same cs nowhere s e = refl
  piece_same cs (here q) s e =
      let t = no_fault_place q e in
      stored-at_same (place_segment p v gone q) (place_remains p v gone q t) (place_drive p q) (place_block p q - 1) (place_drive_low p v gone q t) s
      ∙ ap (λ (g : Seg). stored_at p u gone (place_drive p q) g (place_block p q - 1)) (place_segment_same q)
  piece_same cs (away q) s e =
      decoded-at_same cs (place_segment p v gone q) (place_remains p v gone q (no_fault_place q e)) (place_drive p q) (place_block p q - 1)
      ∙ ap (λ (g : Seg). decoded_at p u gone cs (place_drive p q) g (place_block p q - 1)) (place_segment_same q)

  pub lies_piece_same : (cs tb : List ℕ) (a : ℕ) → found_faults p v gone (lies p gone tb a) ≡ [] → read_piece p v gone cs (lies p gone tb a) ≡ read_piece p u gone cs (lies p gone tb a)
  lies_piece_same cs tb a e = piece_same cs (lies p gone tb a) (lies_sane p gone tb a) e

  pub lookup_same : (cs tb : List ℕ) (a : ℕ) → found_faults p v gone (lies p gone tb a) ≡ [] → lookup p v gone cs tb a ≡ lookup p u gone cs tb a
  unfolding lookup
  lookup_same cs tb a e = ap (λ (x : Piece). let l : Lookup = record { found = lies p gone tb a; stamp = x.rec.stamp } in l) (lies_piece_same cs tb a e)
