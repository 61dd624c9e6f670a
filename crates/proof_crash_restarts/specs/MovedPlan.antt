-- Restart, 4: a counted stripe rewritten under another number: its pieces, their widths, and the machine's plan. Assumes nothing.
use Rattle.std.specs.Prelude.{◌≡◌, List, [], ◌∷◌, map, Bool, cond, ◌≢◌, ltb}
use Rattle.std.proofs.Math.Path.{refl, sym, ap, subst}
use Rattle.std.proofs.Common.{◌∙◌, inl, inr, lt-ltb, le-ltb, eq-eqb, ne_eqb, arith, pow_pos}
use Rattle.std.proofs.Math.Bool.{true, false, not}
use Prim.Native.Nat.{ℕ, suc, ◌^◌, ◌≤◌, ◌<◌}
use Rattle.std.proofs.Math.Decide.{dec_lt}
use Rattle.std.proofs.Math.ListN.{length, get_or}
use Rattle.std.proofs.lemmas.Nat.{xor_lt}
use Rattle.spec.specs.declared.Params.{Params}
use Rattle.spec.specs.Bytes.{xor_all}
use Rattle.spec.specs.Drives.{View, zone_at, data_stored, zone_on, is_good}
use Rattle.spec.specs.Layout.{parity_position, parity_drive, data_drive, data_position, is_data, data_drives, Rec, mk_rec, record_of_of}
use Rattle.spec.specs.Lists.Opt.{none}
use Rattle.spec.specs.Lists.{below, all, keep, is_in}
use Rattle.spec.specs.Params.{data_count}
use Rattle.spec.specs.Parity.{Piece, mk_piece, parity_rec, parity_piece}
use Rattle.spec.specs.Restart.{renumbered, moved_pieces, moved_on}
use Rattle.spec.specs.Segments.{remaining, Segment, segment_of, offset_on, has_chunk, counts, counted, stored_piece}
use Rattle.law_basic.specs.Geometry.{Ranged, position_drive, drive_is_data, data_drive_lt, drive_position, position_lt}
use Rattle.law_basic.specs.Ranges.{length-below, map-below_same, map-map, get_d_map-below, length-keep}
use Rattle.law_basic.specs.Xor.{length-parity}
use Rattle.law_code.specs.Chunks.{moved_is_data, moved_is_parity}
use Rattle.law_code.specs.Single.{encode_xor}
use Rattle.law_drives.specs.Tests.{cond_true, cond_false}
use Rattle.proof_crash_machine.specs.Facts.Pair.{alone}
use Rattle.proof_crash_machine.specs.Facts.{Ghost, Choice, Stripe, Datum, Used, Ragged, Word}
use Rattle.proof_crash_machine.specs.Restart.{Ready}
use Rattle.proof_crash_machine.specs.Rewrite.{MovePlan}
use Rattle.proof_crash_machine.specs.Val.{Val, 𝟘, ◌⊕◌, ⊕-self, xor_n, xor_n-put}
use Rattle.proof_crash_machine.specs.View.{ItemView, Item}
use Rattle.proof_crash_items.specs.Cands.{data_drives_lem, has_data_drive}
use Rattle.proof_crash_items.specs.Codec.{Wide}
use Rattle.proof_crash_items.specs.Items.{value_of}
use Rattle.proof_crash_items.specs.Member.{Has, keep_has, has_keep, below_has, has_below, map_has, get_d_has, has_get_d}
use Rattle.proof_crash_items.specs.Ranges.{parity_on, par_of, code_data, data_code, word_code}
use Rattle.proof_crash_items.specs.Refuse.{Rising, rising-keep, rising-below}
use Rattle.proof_crash_items.specs.SegFacts.{ragged_of}
use Rattle.proof_crash_items.specs.Stripes.{stored-below, offset_on_holds, stored_piece_holds, stored_block_long, counted_has, piece_at, piece_here, counted_stripe, stripe_counted}
use Rattle.proof_crash_items.specs.Values.{piece_value, xor_l, PiecesLong, blocks_of_long, pieces_long, parity_value, only_where, only_there, only_else, xor_below}
use Rattle.proof_crash_items.specs.ZoneBytes.{block_in_of}
use Rattle.proof_crash_restarts.specs.Done.{serial_top}
use Rattle.proof_crash_restarts.specs.Ends.{none_choice, ends_serials}
use Rattle.proof_crash_restarts.specs.Order.{rising_same}
use Rattle.proof_crash_restarts.specs.Rest.{SettledOn, far_off}
use Rattle.proof_crash_restarts.specs.Same.{Stripe_none_any}
use Rattle.spec.specs.declared.Seg.{Seg}
use Rattle.law_basic.specs.Segs.{zones_in_lem}
use Rattle.law_drives.specs.Headers.{Vacant}
use Rattle.proof_crash_items.specs.Carry.{empty_unnamed, names_of}
use Rattle.proof_crash_items.specs.Segs.{SegAt, good_fine, name_of, remains_at_holds, seg_bytes}

rising-map : (f : ℕ → ℕ) → ((i j : ℕ) → i < j → f i < f j) → (l : List ℕ) → Rising l → Rising (map f l)
rising-map f h [] r = tt
rising-map f h (a ∷ l) r =
    ((λ b i. let q : (j : ℕ) × Has j l × (b ≡ f j) = map_has f b l i in let w : f a < f q.0 = h a q.0 (r.0 q.0 q.1) in omega (arith, w, q.2)), rising-map f h l r.1)

data_rises : (p : Params) (s i j : ℕ) → i < j → data_drive p s i < data_drive p s j
unfolding data_drive
data_rises p s i j l = go (dec_lt i (parity_drive p s)) (dec_lt j (parity_drive p s))
  where
    go : Dec (i < parity_drive p s) → Dec (j < parity_drive p s) → cond (ltb i (parity_drive p s)) i (suc i) < cond (ltb j (parity_drive p s)) j (suc j)
    go (yes a) (yes b) = rw (cond_true (ltb i (parity_drive p s)) i (suc i) (lt-ltb i (parity_drive p s) a), cond_true (ltb j (parity_drive p s)) j (suc j) (lt-ltb j (parity_drive p s) b)) l
    go (yes a) (no b) =
        rw (cond_true (ltb i (parity_drive p s)) i (suc i) (lt-ltb i (parity_drive p s) a), cond_false (ltb j (parity_drive p s)) j (suc j) (le-ltb j (parity_drive p s) (omega arith))) (omega arith)
    go (no a) (yes b) = absurd (let q : ⊥ = omega arith in q)
    go (no a) (no b) =
        rw (
          cond_false (ltb i (parity_drive p s)) i (suc i) (le-ltb i (parity_drive p s) (omega arith)),
          cond_false (ltb j (parity_drive p s)) j (suc j) (le-ltb j (parity_drive p s) (omega arith)),
        ) (omega arith)

-- the data drives are the drives that aren't parity's, rising
pub keep_data : (p : Params) → Ranged p → (s : ℕ) → keep (is_data p s) (below p.N) ≡ data_drives p s
keep_data p r s = rising_same (keep (is_data p s) (below p.N)) (data_drives p s) (rising-keep (is_data p s) (below p.N) (rising-below p.N)) rises
    (λ d i. let q : Has d (below p.N) × (is_data p s d ≡ true) = keep_has (is_data p s) d (below p.N) i in has_data_drive p r s d (below_has d p.N q.0) q.1)
    (λ d i. let q : (d < p.N) × (is_data p s d ≡ true) = data_drives_lem p r s d i in has_keep (is_data p s) d (below p.N) (has_below d p.N q.0) q.1)
  where
    rises : Rising (data_drives p s)
    rises = unfold data_drives in rising-map (data_drive p s) (data_rises p s) (below (data_count p)) (rising-below (data_count p))

pub value_renumbered : (t : ℕ) (q : Piece) → piece_value (renumbered t q) ≡ piece_value q
unfolding renumbered piece_value value_of
value_renumbered t q = refl

pub xor_all-map-lt : {A : Type 0} (k : ℕ) (f : A → ℕ) (l : List A) → ((q : A) → Has q l → f q < 2 ^ k) → xor_all (map f l) < 2 ^ k
unfolding xor_all
xor_all-map-lt k f [] h = pow_pos k
xor_all-map-lt k f (q ∷ l) h = xor_lt k (f q) (xor_all (map f l)) (h q (inl refl)) (xor_all-map-lt k f l (λ x i. h x (inr i)))

-- the parity of wide records is wide
pub moved-parity-wide : (p : Params) (t : ℕ) (qs : List Piece) → t < 256 ^ 4 → ((q : Piece) → Has q qs → Wide q.rec) → Wide (parity_piece p t qs).rec
unfolding parity_piece parity_rec
moved-parity-wide p t qs l h = record {
  address =
      subst (λ (x : List ℕ). xor_all x < 2 ^ 64) (sym (map-map (λ (x : Rec). x.address) (λ (q : Piece). q.rec) qs))
      (xor_all-map-lt 64 (λ (q : Piece). q.rec.address) qs (λ q i. (h q i).address));
  stamp =
      subst (λ (x : List ℕ). xor_all x < 2 ^ 64) (sym (map-map (λ (x : Rec). x.stamp) (λ (q : Piece). q.rec) qs)) (xor_all-map-lt 64 (λ (q : Piece). q.rec.stamp) qs (λ q i. (h q i).stamp));
  stripe = l;
}

module _ (p : Params) (r : Ranged p) (off : List ℕ) (g : Ghost) (v : View) (u : ItemView) (k : SettledOn p r off g v u) (o : Seg) (i : Has o (remaining p v 0)) where
  abbrev G : Segment
  G = segment_of p v 0 o

  abbrev ch : Choice (par_of p r off) g.un (is_in 0)
  ch = none_choice p r off g v u k

  nm : ℕ
  nm = name_of p v 0 o

  moved_plan_ob : SegAt p v u 0 o (name_of p v 0 o)
  moved_plan_ob = remains_at_holds p r off g v u k.on 0 (none_choice p r off g v u k) o i

  drives_there : (d : ℕ) → d < p.N → is_in 0 d ≡ false
  drives_there d l = far_off p r off g v u k d l

  counted_on_drive : (s d : ℕ) → Has s (counted p 0 G) → d < p.N → has_chunk G s d ≡ true
  counted_on_drive s d h l = (counted_has p r off g v u k.on 0 ch o s h).1 d l (drives_there d l)

  -- a stored piece of a counted stripe
  piece_block : (s d : ℕ) → Has s (counted p 0 G) → d < p.N → length (stored_piece G s d).block ≡ p.B
  piece_block s d h l = stored_block_long p r off g v u k.on 0 ch o s d moved_plan_ob l (drives_there d l) (counted_on_drive s d h l)

  piece_wide : (s d : ℕ) → Has s (counted p 0 G) → d < p.N → Wide (stored_piece G s d).rec
  piece_wide s d h l =
      let a : (offset_on G d s < data_stored p (zone_at v d (zone_on o d))) × ((record_of_of (block_in_of (zone_at v d (zone_on o d)) (suc (offset_on G d s))).spare).stripe ≡ s) =
      offset_on_holds p r off g v u k.on 0 ch o s d moved_plan_ob l (drives_there d l) (counted_on_drive s d h l) in
      let b : (offset_on G d s < p.S) × (suc (offset_on G d s) < (zone_at v d (zone_on o d)).pointer) = stored-below p (zone_at v d (zone_on o d)) (offset_on G d s) a.0 in
      subst (λ (q : Piece). Wide q.rec) (sym (stored_piece_holds p r off g v u k.on 0 ch o s d moved_plan_ob l (drives_there d l) (counted_on_drive s d h l)))
      ((seg_bytes p r off g v u k.on 0 ch o moved_plan_ob d l (drives_there d l)).wide (offset_on G d s) b.0 b.1)

  -- ---- stripe s as stripe t
  module _ (s t : ℕ) (h : Has s (counted p 0 G)) (tl : t < p.S) where
    abbrev qs : List Piece
    qs = moved_pieces p G s t

    moved-pieces_are : moved_pieces p G s t ≡ map (λ j. renumbered t (stored_piece G s (data_drive p s j))) (below (data_count p))
    unfolding moved_pieces data_drives
    moved-pieces_are = map-map (λ d. renumbered t (stored_piece G s d)) (data_drive p s) (below (data_count p))

    moved-pieces-at : (j : ℕ) → j < data_count p → get_or (moved_pieces p G s t) j (mk_piece [] (mk_rec 0 0 0)) ≡ renumbered t (stored_piece G s (data_drive p s j))
    moved-pieces-at j b =
        ap (λ (l : List Piece). get_or l j (mk_piece [] (mk_rec 0 0 0))) moved-pieces_are
        ∙ get_d_map-below (λ j. renumbered t (stored_piece G s (data_drive p s j))) (data_count p) j (mk_piece [] (mk_rec 0 0 0)) b

    qs_long : PiecesLong p.B (moved_pieces p G s t)
    qs_long = subst (PiecesLong p.B) (sym moved-pieces_are) (pieces_long p.B (λ j. renumbered t (stored_piece G s (data_drive p s j))) (below (data_count p))
        (λ j b. same (stored_piece G s (data_drive p s j)) ∙ piece_block s (data_drive p s j) h (data_drive_lt p s j (below_has j (data_count p) b))))
      where
        same : (q : Piece) → length (renumbered t q).block ≡ length q.block
        same q = unfold renumbered in refl

    on_data : (d : ℕ) → is_data p t d ≡ true → d < p.N → moved_on p (moved_pieces p G s t) t d ≡ renumbered t (stored_piece G s (data_drive p s (data_position p t d)))
    on_data d e l = moved_is_data p (moved_pieces p G s t) t d e ∙ moved-pieces-at (data_position p t d) (position_lt p t d e l)

    on_parity : (d : ℕ) → is_data p t d ≡ false → moved_on p (moved_pieces p G s t) t d ≡ parity_piece p t (moved_pieces p G s t)
    on_parity d e = moved_is_parity p (moved_pieces p G s t) t d e ∙ encode_xor p (parity_position p t d) t (moved_pieces p G s t)

    moved-wide-at : (q : Piece) → Wide q.rec → Wide (renumbered t q).rec
    unfolding renumbered
    moved-wide-at q w = record { address = w.address; stamp = w.stamp; stripe = omega (arith, tl, r.stripes_high) }

    pub moved-wide : (d : ℕ) → d < p.N → Wide (moved_on p (moved_pieces p G s t) t d).rec
    moved-wide d l = go (is_data p t d) refl
      where
        go : (b : Bool) → is_data p t d ≡ b → Wide (moved_on p (moved_pieces p G s t) t d).rec
        go true e = subst (λ (q : Piece). Wide q.rec) (sym (on_data d e l))
            (moved-wide-at (stored_piece G s (data_drive p s (data_position p t d)))
            (piece_wide s (data_drive p s (data_position p t d)) h (data_drive_lt p s (data_position p t d) (position_lt p t d e l))))
        go false e = subst (λ (q : Piece). Wide q.rec) (sym (on_parity d e)) (moved-parity-wide p t (moved_pieces p G s t) (omega (arith, tl, r.stripes_high)) (λ q m.
            let a : (j : ℕ) × Has j (below (data_count p)) × (q ≡ renumbered t (stored_piece G s (data_drive p s j))) =
            map_has (λ j. renumbered t (stored_piece G s (data_drive p s j))) q (below (data_count p)) (subst (λ (x : List Piece). Has q x) moved-pieces_are m) in
            subst (λ (x : Piece). Wide x.rec) (sym a.2)
            (moved-wide-at (stored_piece G s (data_drive p s a.0))
            (piece_wide s (data_drive p s a.0) h (data_drive_lt p s a.0 (below_has a.0 (data_count p) a.1))))))

    pub moved_value_long : (d : ℕ) → d < p.N → length (moved_on p (moved_pieces p G s t) t d).block ≡ p.B
    moved_value_long d l = go (is_data p t d) refl
      where
        go : (b : Bool) → is_data p t d ≡ b → length (moved_on p (moved_pieces p G s t) t d).block ≡ p.B
        go true e =
            ap (λ (q : Piece). length q.block) (on_data d e l)
            ∙ same (stored_piece G s (data_drive p s (data_position p t d)))
            ∙ piece_block s (data_drive p s (data_position p t d)) h (data_drive_lt p s (data_position p t d) (position_lt p t d e l))
          where
            same : (q : Piece) → length (renumbered t q).block ≡ length q.block
            same q = unfold renumbered in refl
        go false e = ap (λ (q : Piece). length q.block) (on_parity d e) ∙ long
          where
            long : length (parity_piece p t (moved_pieces p G s t)).block ≡ p.B
            long = unfold parity_piece in length-parity p.B (map (λ (q : Piece). q.block) (moved_pieces p G s t)) (blocks_of_long p.B (moved_pieces p G s t) qs_long)

    pub moved_rec_stripe : (d : ℕ) → d < p.N → (moved_on p (moved_pieces p G s t) t d).rec.stripe ≡ t
    moved_rec_stripe d l = go (is_data p t d) refl
      where
        go : (b : Bool) → is_data p t d ≡ b → (moved_on p (moved_pieces p G s t) t d).rec.stripe ≡ t
        go true e = ap (λ (q : Piece). q.rec.stripe) (on_data d e l) ∙ is (stored_piece G s (data_drive p s (data_position p t d)))
          where
            is : (q : Piece) → (renumbered t q).rec.stripe ≡ t
            is q = unfold renumbered in refl
        go false e = ap (λ (q : Piece). q.rec.stripe) (on_parity d e) ∙ is
          where
            is : (parity_piece p t (moved_pieces p G s t)).rec.stripe ≡ t
            is = unfold parity_piece parity_rec in refl

    -- ---- values
    pub moved_data_value : (d : ℕ) → is_data p t d ≡ true → d < p.N
        → piece_value (moved_on p (moved_pieces p G s t) t d) ≡ piece_value (stored_piece G s (data_drive p s (data_position p t d)))
    moved_data_value d e l = ap piece_value (on_data d e l) ∙ value_renumbered t (stored_piece G s (data_drive p s (data_position p t d)))

    abbrev F : ℕ → Val
    F d = piece_value (moved_on p (moved_pieces p G s t) t d)

    values_same : map F (data_drives p t) ≡ map piece_value (moved_pieces p G s t)
    unfolding data_drives
    values_same =
        map-map F (data_drive p t) (below (data_count p))
        ∙ map-below_same (λ j. F (data_drive p t j)) (λ j. piece_value (renumbered t (stored_piece G s (data_drive p s j)))) (data_count p) (λ j b.
        moved_data_value (data_drive p t j) (drive_is_data p t j) (data_drive_lt p t j b)
        ∙ ap (λ (x : ℕ). piece_value (stored_piece G s (data_drive p s x))) (position_drive p t j) ∙ sym (value_renumbered t (stored_piece G s (data_drive p s j))))
        ∙ sym (map-map piece_value (λ j. renumbered t (stored_piece G s (data_drive p s j))) (below (data_count p))) ∙ ap (map piece_value) (sym moved-pieces_are)

    pub moved_xor : xor_n p.N (λ d. piece_value (moved_on p (moved_pieces p G s t) t d)) ≡ 𝟘
    moved_xor =
        let X : Val = xor_n p.N (only_where (is_data p t) F) in
        let pd : parity_drive p t < p.N = parity_on p r t in
        let np : is_data p t (parity_drive p t) ≡ false = parity_not t in
        let e : F (parity_drive p t) ≡ X =
        ap piece_value (on_parity (parity_drive p t) np)
        ∙ parity_value p t (moved_pieces p G s t) qs_long
        ∙ ap xor_l (sym values_same)
        ∙ ap (λ (l : List ℕ). xor_l (map F l)) (sym (keep_data p r t))
        ∙ xor_below (is_data p t) F p.N in
        xor_n-put p.N (parity_drive p t) F (only_where (is_data p t) F) pd (λ d l n. sym (only_there (is_data p t) F d (parity_else d n))) (only_else (is_data p t) F (parity_drive p t) np)
        ∙ ap (λ (x : Val). x ⊕ X) e ∙ ⊕-self X
      where
        parity_else : (d : ℕ) → d ≢ parity_drive p t → is_data p t d ≡ true
        parity_else d n = unfold is_data in ap not (ne_eqb d (parity_drive p t) n)

        parity_not : (t : ℕ) → is_data p t (parity_drive p t) ≡ false
        parity_not t = unfold is_data in ap not (eq-eqb (parity_drive p t) (parity_drive p t) refl)

  -- ---- the plan: the counted stripes, numbered from 0
  abbrev cs : List ℕ
  cs = counted p 0 G

  piece_is : (s d : ℕ) → d < p.N → piece_at p r off g v u k.on 0 ch o s d ≡ piece_value (stored_piece G s d)
  piece_is s d l = unfold piece_at in ap piece_value (piece_here p r off g v u k.on 0 ch o s d l (drives_there d l))

  pub plan_few : length (counted p 0 G) ≤ p.S
  plan_few = unfold counted in omega (arith, length-keep (counts p 0 G) (below p.S), length-below p.S)

  pub plan_src : (j : ℕ) → j < length (counted p 0 G) → Has (get_or (counted p 0 G) j 0) (counted p 0 G)
  plan_src j l = get_d_has (counted p 0 G) j 0 l

  pub plan_F : ℕ → ℕ → Val
  plan_F j d = piece_value (moved_on p (moved_pieces p (segment_of p v 0 o) (get_or (counted p 0 (segment_of p v 0 o)) j 0) j) j d)

  pub plan_E : ℕ → ℕ → Val
  plan_E j d = piece_at p r off g v u k.on 0 (none_choice p r off g v u k) o (get_or (counted p 0 (segment_of p v 0 o)) j 0) d

  pub plan_F_is : (j d : ℕ) → plan_F j d ≡ piece_value (moved_on p (moved_pieces p (segment_of p v 0 o) (get_or (counted p 0 (segment_of p v 0 o)) j 0) j) j d)
  unfolding plan_F
  plan_F_is j d = refl

  pub plan_word : (j : ℕ) → j < length (counted p 0 G) → Word (par_of p r off) j (plan_F j)
  unfolding plan_F
  plan_word j l = word_code p r j (plan_F j) (moved_xor (get_or cs j 0) j (plan_src j l) (omega (arith, l, plan_few)))

  pub plan_to : (j : ℕ) (x : Val) → j < length (counted p 0 G) → Datum (par_of p r off) (get_or (counted p 0 G) j 0) (plan_E j) x → Datum (par_of p r off) j (plan_F j) x
  unfolding plan_F plan_E
  plan_to j x l dt =
      let s : ℕ = get_or cs j 0 in
      let e : is_data p s dt.d ≡ true = code_data p r s dt.d dt.data? in
      let n : ℕ = data_position p s dt.d in
      let b : n < data_count p = position_lt p s dt.d e dt.lt in
      record {
        d = data_drive p j n;
        lt = data_drive_lt p j n b;
        data? = data_code p r j (data_drive p j n) (drive_is_data p j n);
        val = moved_data_value s j (plan_src j l) (omega (arith, l, plan_few)) (data_drive p j n) (drive_is_data p j n) (data_drive_lt p j n b)
            ∙ ap (λ (y : ℕ). piece_value (stored_piece G s (data_drive p s y))) (position_drive p j n) ∙ ap (λ (y : ℕ). piece_value (stored_piece G s y)) (drive_position p s dt.d e)
            ∙ sym (piece_is s dt.d dt.lt) ∙ dt.val;
      }

  pub plan_from : (j : ℕ) (x : Val) → j < length (counted p 0 G) → Datum (par_of p r off) j (plan_F j) x → Datum (par_of p r off) (get_or (counted p 0 G) j 0) (plan_E j) x
  unfolding plan_F plan_E
  plan_from j x l dt =
      let s : ℕ = get_or cs j 0 in
      let e : is_data p j dt.d ≡ true = code_data p r j dt.d dt.data? in
      let n : ℕ = data_position p j dt.d in
      let b : n < data_count p = position_lt p j dt.d e dt.lt in
      record {
        d = data_drive p s n;
        lt = data_drive_lt p s n b;
        data? = data_code p r s (data_drive p s n) (drive_is_data p s n);
        val = piece_is s (data_drive p s n) (data_drive_lt p s n b) ∙ sym (moved_data_value s j (plan_src j l) (omega (arith, l, plan_few)) dt.d e dt.lt) ∙ dt.val;
      }

  abbrev pub plan_of : MovePlan (par_of p r off)
  plan_of = record {
    c = length (counted p 0 (segment_of p v 0 o));
    src = λ j. get_or (counted p 0 (segment_of p v 0 o)) j 0;
    F = plan_F;
    E = plan_E;
    few = plan_few;
    word = plan_word;
    to = plan_to;
    from = plan_from;
  }

  -- ---- the plan copies just what counts
  pub plan_stripe : (j : ℕ) → j < length (counted p 0 G) → Stripe (par_of p r off) u g.un (name_of p v 0 o) (get_or (counted p 0 G) j 0) (plan_E j)
  unfolding plan_E
  plan_stripe j l = Stripe_none_any (par_of p r off) g.hd u (is_in 0) g.un (far_off p r off g v u k) k.none (name_of p v 0 o) (get_or cs j 0) (piece_at p r off g v u k.on 0 ch o (get_or cs j 0))
      (counted_stripe p r off g v u k.on 0 ch o (get_or cs j 0) moved_plan_ob (plan_src j l))

  pub plan_all : (s : ℕ) (f : ℕ → Val) (x : Val) → Stripe (par_of p r off) u g.un (name_of p v 0 o) s f → Datum (par_of p r off) s f x
      → (j : ℕ) × (j < length (counted p 0 G)) × Datum (par_of p r off) (get_or (counted p 0 G) j 0) (plan_E j) x
  unfolding plan_E
  plan_all s f x st dt =
      let st' : Stripe (par_of p r off) u (is_in 0) (name_of p v 0 o) s f = Stripe_none_any (par_of p r off) g.hd u g.un (is_in 0) k.none (far_off p r off g v u k) (name_of p v 0 o) s f st in
      let q : Has s (counted p 0 G) × ((d : ℕ) → d < p.N → piece_at p r off g v u k.on 0 ch o s d ≡ f d) = stripe_counted p r off g v u k.on 0 ch o s f moved_plan_ob st' in
      let j : (j : ℕ) × (j < length cs) × (get_or cs j 0 ≡ s) = has_get_d cs s 0 q.0 in (
        j.0,
        j.1,
        subst (λ (y : ℕ). Datum (par_of p r off) y (piece_at p r off g v u k.on 0 ch o y) x) (sym j.2)
            (record { d = dt.d; lt = dt.lt; data? = dt.data?; val = q.1 dt.d dt.lt ∙ dt.val }),
      )

  -- ---- the machine is ready: w is the new segment, n its serial
  module _ (w : Seg) (un : (segment_of p v 0 o).full ≡ false) (va : Vacant p v w) (n : ℕ) (top : serial_top p v < n) where
    pub ready_ragged : Ragged (par_of p r off) g.un u (name_of p v 0 o)
    ready_ragged = rag (ragged_of p r off g v u k.on 0 ch o i un)
      where
        rag : Ragged (par_of p r off) (is_in 0) u (name_of p v 0 o) → Ragged (par_of p r off) g.un u (name_of p v 0 o)
        rag (d, t, a, b) = (d, (t.0, k.none d t.0), a, b)

    pub ready_newest : (y : ℕ) → Used (par_of p r off) g.un u y → g.hd.ser y < n
    ready_newest y i = let a : g.hd.ser y ≤ serial_top p v = newest in omega (arith, a, top)
      where
        newest : g.hd.ser y ≤ serial_top p v
        newest = unfold serial_top in ends_serials p r off g v u k y i

    pub ready-idle : Used (par_of p r off) g.un u n → ⊥
    ready-idle i = let j : ⊥ = omega (arith, ready_newest n i, k.on.placed.is n i) in j

    pub ready_empty : (e : ℕ) → e < p.N → u e n ≡ []
    ready_empty e l = go (u e n) refl
      where
        go : (x : List Item) → u e n ≡ x → u e n ≡ []
        go [] q = q
        go (y ∷ x) q = absurd (ready-idle (e, (l, k.none e l), subst (λ (b : List Item). 0 < length b) (sym q) (let z : 0 < length (y ∷ x) = omega arith in z)))

    its_name : (d : ℕ) → d < p.N → names_of p w d ≡ zone_on w d
    its_name d l = zones_in_lem p w d l

    pub ready_good : (d : ℕ) → d < p.N → (names_of p w d < p.Z) × (is_good p v.offline d (names_of p w d) ≡ true)
    ready_good d l = (subst (λ (x : ℕ). x < p.Z) (sym (its_name d l)) (va.vacant_low d l), ap (is_good p v.offline d) (its_name d l) ∙ va.vacant_good d l)

    -- w's zones are no other segment's
    pub ready_clear : (y : ℕ) → Used (par_of p r off) g.un u y → (d : ℕ) → d < p.N → g.hd.zn y d ≢ names_of p w d
    ready_clear y i d l q = empty_unnamed p r off g v u k.on (λ z j. (k.rest z j).left) d (zone_on w d) l (k.none d l) (va.vacant_empty d l) y i (q ∙ its_name d l)

    abbrev pub plan_ready : g.pr ≡ alone → Ready (par_of p r off) g u n (name_of p v 0 o) n plan_of
    plan_ready alone? = record {
      none = k.none;
      no_pair = alone?;
      ragged = ready_ragged;
      zs = names_of p w;
      fits = λ d l. ((ready_good d l).0, good_fine p r off g v u k.on d (names_of p w d) l (ready_good d l).1);
      clear = ready_clear;
      empty = ready_empty;
      newest = ready_newest;
      src = plan_stripe;
      all = plan_all;
    }
