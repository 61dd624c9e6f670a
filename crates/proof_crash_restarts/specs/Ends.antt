-- Settled drives whose unsealed segment is in order: what a healthy restart ends with. Assumes nothing.
use Rattle.std.specs.Prelude.{◌≡◌, Bool, ◌&&◌, ◌⊎◌, ℕ, zero, suc, ◌≤◌, ◌<◌, get_or}
use Rattle.std.proofs.Math.Path.{refl, sym, ap}
use Rattle.std.proofs.Common.{◌∙◌, subst, inr, arith}
use mathlib.Core.List.{List, [], ◌∷◌, map}
use Rattle.std.proofs.Math.Bool.{true, false, not}
use Rattle.std.proofs.Math.Logic.{inl}
use Rattle.std.proofs.Math.Decide.{dec_lt}
use borrow.Author.Tests.{not-true}
use Rattle.std.proofs.Math.ListN.{length}
use Rattle.spec.specs.declared.Params.{Params}
use Rattle.spec.specs.Drives.{View, sealed_in}
use Rattle.spec.specs.Lists.{below, any, greatest, is_in}
use Rattle.spec.specs.Params.{capacity, present}
use Rattle.spec.specs.Restart.{open_of_of, next_of}
use Rattle.spec.specs.Segments.{remaining, Segment, segment_of, segments, has_chunk, counts, counted, uncounted, candidates, greatest_stamp, greatest_serial, unsealed}
use Rattle.law_basic.specs.Geometry.{Ranged}
use Rattle.law_basic.specs.Ranges.{and_both, length-below, length-keep}
use Rattle.law_drives.specs.Counting.{pigeon}
use Rattle.law_drives.specs.Tests.{not_so}
use Rattle.proof_crash_machine.specs.Accept.{accepted}
use Rattle.proof_crash_machine.specs.Exec.{true≢false}
use Rattle.proof_crash_machine.specs.Facts.{Ghost, Choice, Stripe, Counted, Off, Used, WholeZone, Ragged}
use Rattle.proof_crash_machine.specs.Finish.{Reads}
use Rattle.proof_crash_machine.specs.Rebuild.{in_off, once_in}
use Rattle.proof_crash_machine.specs.Rest.{Unsealed}
use Rattle.proof_crash_machine.specs.Val.{Val}
use Rattle.proof_crash_machine.specs.View.Item.{chunk}
use Rattle.proof_crash_machine.specs.View.{InI, item_some, chunk_hdr, ItemView}
use Rattle.proof_crash_items.specs.Cands.{cands_seen, greatest-counted, stamp_read_holds, reads}
use Rattle.proof_crash_items.specs.Member.{Has, keep_has, has_keep, below_has, has_below, has_any, map_has, has_map, has_get_d, greatest_most}
use Rattle.proof_crash_items.specs.Named.{has_present, zero_choice}
use Rattle.proof_crash_items.specs.Ranges.{par_of}
use Rattle.proof_crash_items.specs.SegFacts.{serial_ghost, ragged_of, serial_name}
use Rattle.proof_crash_items.specs.Segs.{remaining_has, SegAt, name_once, name_of, named_seg, remains_at_holds, seg_len}
use Rattle.proof_crash_items.specs.Stripes.{sealed-at-capacity, in_has_chunk, piece_at, counted_stripe}
use Rattle.proof_crash_restarts.specs.Rest.{SettledOn, far_off, settled_remains, settled_used, settled_name}
use Rattle.proof_crash_restarts.specs.Same.{Stripe_none_any, Counted_none_any, Reads_none_any}
use Rattle.spec.specs.declared.Seg.{Seg}

-- the unsealed segment has the stripes 0 to c - 1, not all S, and no other chunks
abbrev pub InOrder : Params → View → Type 0
InOrder p v = (z : Seg) → Has z (remaining p v 0) → (segment_of p v 0 z).full ≡ false
    → (counted p 0 (segment_of p v 0 z) ≡ below (length (counted p 0 (segment_of p v 0 z))))
    × (uncounted p 0 (segment_of p v 0 z) ≡ []) × (length (counted p 0 (segment_of p v 0 z)) < p.S)

-- the memory that a restart makes of the unsealed segments: open or not, the segment by its serial, its next stripe
pub record Opened (p : Params) (r : Ranged p) (off : List ℕ) (g : Ghost) (v : View) (u : ItemView) (b : Bool) (z n : ℕ) : Type 0 where
  pub few : n ≤ p.S
  -- it isn't whole
  pub less : b ≡ true → n < p.S
  pub lone : (y : ℕ) → Ragged (par_of p r off) g.un u y → (b ≡ true) × (y ≡ z)
  pub whole : b ≡ true → WholeZone (par_of p r off) g.un u z
  pub low : b ≡ true → (e s : ℕ) (x : Val) → e < p.N → InI (chunk s x) (u e z) → s < n
  -- it has no footer
  pub short : b ≡ true → (e : ℕ) → e < p.N → length (u e z) ≤ suc p.S
  -- stripes below n are on all drives
  pub full : b ≡ true → (s : ℕ) → s < n → (e : ℕ) → e < p.N → (x : Val) × InI (chunk s x) (u e z)
  pub is : ((b ≡ true) × (open_of_of (unsealed (segments p v 0)) ≡ z) × (next_of p (unsealed (segments p v 0)) ≡ n))
      ⊎ ((b ≡ false) × (open_of_of (unsealed (segments p v 0)) ≡ 0))

module _ (p : Params) (r : Ranged p) (off : List ℕ) (g : Ghost) (v : View) (u : ItemView) (k : SettledOn p r off g v u) where
  abbrev G : Seg → Segment
  G z = segment_of p v 0 z

  pub none_choice : Choice (par_of p r off) g.un (is_in 0)
  none_choice = zero_choice p r off g.un k.none

  none_untrusted : (d : ℕ) → d < p.N → (g.un d ≡ false) × (is_in 0 d ≡ false)
  none_untrusted d l = (k.none d l, far_off p r off g v u k d l)

  pub full_sealed : (z : Seg) → (G z).full ≡ sealed_in p v 0 z
  unfolding segment_of
  full_sealed z = refl

  -- the segment by its zones
  abbrev there : (z : Seg) → Has z (remaining p v 0) → SegAt p v u 0 z (name_of p v 0 z)
  there z i = remains_at_holds p r off g v u k.on 0 none_choice z i

  -- a full segment is full on every drive
  pub full_length : (z : Seg) (d : ℕ) → Has z (remaining p v 0) → d < p.N → (G z).full ≡ true → length (u d (name_of p v 0 z)) ≡ capacity p
  full_length z d i l e =
      seg_len p r off g v u k.on 0 none_choice z (there z i) d l (none_untrusted d l).1
      ∙ sealed-at-capacity p r off g v u k.on 0 none_choice z d (sym (full_sealed z) ∙ e) l (none_untrusted d l).1

  ragged_unsealed : (n : ℕ) → Ragged (par_of p r off) g.un u n → Has (named_seg p g n) (remaining p v 0) × ((G (named_seg p g n)).full ≡ false)
  ragged_unsealed n (d, t, a, b) =
      let y : Seg = named_seg p g n in
      let i : Has (named_seg p g n) (remaining p v 0) = settled_remains p r off g v u k n (d, t, a) in
      let l : length (u d (name_of p v 0 (named_seg p g n))) ≡ length (u d n) = ap (λ (x : ℕ). length (u d x)) (settled_name p r off g v u k n (d, t, a)) in
      (i, not_so (G (named_seg p g n)).full (λ e. let q : ⊥ = omega (arith, full_length (named_seg p g n) d i t.0 e, l, b) in q))

  pub us_has : (q : Segment) → Has q (unsealed (segments p v 0)) → (z : Seg) × Has z (remaining p v 0) × (q ≡ G z) × ((G z).full ≡ false)
  unfolding unsealed segments
  us_has q i =
      let a : Has q (map (segment_of p v 0) (remaining p v 0)) × (not q.full ≡ true) =
      keep_has (λ (g : Segment). not g.full) q (map (segment_of p v 0) (remaining p v 0)) i in
      let b : (z : Seg) × Has z (remaining p v 0) × (q ≡ G z) = map_has (segment_of p v 0) q (remaining p v 0) a.0 in
      (b.0, b.1, b.2, ap (λ (x : Segment). x.full) (sym b.2) ∙ not-true q.full a.1)

  pub has_us : (z : Seg) → Has z (remaining p v 0) → (G z).full ≡ false → Has (G z) (unsealed (segments p v 0))
  unfolding unsealed segments
  has_us z i e =
      has_keep (λ (g : Segment). not g.full) (G z) (map (segment_of p v 0) (remaining p v 0))
      (has_map (segment_of p v 0) (remaining p v 0) z i) (ap not e)

  -- two unsealed segments are one
  pub one_of : (y z : Seg) → Has y (remaining p v 0) → Has z (remaining p v 0) → (G y).full ≡ false → (G z).full ≡ false → y ≡ z
  one_of y z i j a b =
      name_once p r off g v u k.on 0 none_choice y z i j
      ((accepted (par_of p r off) g u k.on.facts (is_in 0) none_choice).one (name_of p v 0 y) (name_of p v 0 z) (remaining_has p r off g v u k.on 0 none_choice y i).0
      (remaining_has p r off g v u k.on 0 none_choice z j).0 (rag y i a) (rag z j b))
    where
      rag : (y : Seg) → Has y (remaining p v 0) → (G y).full ≡ false → Ragged (par_of p r off) (is_in 0) u (name_of p v 0 y)
      rag y i a = ragged_of p r off g v u k.on 0 none_choice y i a

  module _ (ord : InOrder p v) where
    -- each chunk of an unsealed segment is of a counted stripe
    chunk_counted : (z : Seg) (d s : ℕ) (x : Val) → Has z (remaining p v 0) → (G z).full ≡ false → d < p.N → InI (chunk s x) (u d (name_of p v 0 z)) → Has s (counted p 0 (G z))
    chunk_counted z d s x i e l m =
        let b : SegAt p v u 0 z (name_of p v 0 z) = there z i in
        go (counts p 0 (G z) s) refl (chunk_number z d s x l m) (in_has_chunk p r off g v u k.on 0 none_choice z s d x b l (none_untrusted d l).1 m)
      where
        chunk_number : (z : Seg) (d s : ℕ) (x : Val) → d < p.N → InI (chunk s x) (u d (name_of p v 0 z)) → s < p.S
        chunk_number z d s x l m = let j : (j : ℕ) × Off (u d (name_of p v 0 z)) j (chunk s x) = in_off (chunk s x) (u d (name_of p v 0 z)) m in num j.0 j.1
          where
            num : (j : ℕ) → Off (u d (name_of p v 0 z)) j (chunk s x) → s < p.S
            num zero o = absurd (chunk_hdr (sym o.1 ∙ (k.on.facts.zones d (name_of p v 0 z) (l, (none_untrusted d l).0)).head (item_some (chunk s x) (u d (name_of p v 0 z)) m)))
            num (suc j) o = ((k.on.facts.zones d (name_of p v 0 z) (l, (none_untrusted d l).0)).num j s x o).0

        go : (t : Bool) → counts p 0 (G z) s ≡ t → s < p.S → has_chunk (G z) s d ≡ true → Has s (counted p 0 (G z))
        go true q a h = unfold counted in has_keep (counts p 0 (G z)) s (below p.S) (has_below s p.S a) q
        go false q a h = absurd (subst (λ (x : List ℕ). Has s x) (ord z i e).1 listed)
          where
            listed : Has s (uncounted p 0 (G z))
            listed = unfold uncounted in has_keep (λ s. any (has_chunk (G z) s) (present p 0) && not (counts p 0 (G z) s)) s (below p.S) (has_below s p.S a)
                (and_both (any (has_chunk (G z) s) (present p 0)) (not (counts p 0 (G z) s))
                (has_any (has_chunk (G z) s) (present p 0) d (has_present p 0 d l (none_untrusted d l).1) h) (ap not q))

    tidy_seg : (d : ℕ) (z : Seg) (s : ℕ) (x : Val) → Has z (remaining p v 0) → d < p.N → Unsealed (par_of p r off) u (name_of p v 0 z) → InI (chunk s x) (u d (name_of p v 0 z))
        → (f : ℕ → Val) × Stripe (par_of p r off) u g.un (name_of p v 0 z) s f × (f d ≡ x)
    tidy_seg d z s x i l us m =
        let e : (G z).full ≡ false = not_so (G z).full (λ q. us (λ n a. omega (arith, full_length z n i a q))) in
        let h : Has s (counted p 0 (G z)) = chunk_counted z d s x i e l m in
        let st : Stripe (par_of p r off) u (is_in 0) (name_of p v 0 z) s (piece_at p r off g v u k.on 0 none_choice z s) = counted_stripe p r off g v u k.on 0 none_choice z s (there z i) h in (
          piece_at p r off g v u k.on 0 none_choice z s,
          Stripe_none_any (par_of p r off) g.hd u (is_in 0) g.un (far_off p r off g v u k) k.none (name_of p v 0 z) s (piece_at p r off g v u k.on 0 none_choice z s) st,
          once_in (par_of p r off) g d (name_of p v 0 z) (u d (name_of p v 0 z)) (k.on.facts.zones d (name_of p v 0 z) (l, (none_untrusted d l).0)) s
              (piece_at p r off g v u k.on 0 none_choice z s d) x (st.on d l (none_untrusted d l).1) m,
        )

    pub tidy : (d n s : ℕ) (x : Val) → d < p.N → Unsealed (par_of p r off) u n → InI (chunk s x) (u d n)
        → (f : ℕ → Val) × Stripe (par_of p r off) u g.un n s f × (f d ≡ x)
    tidy d n s x l us m =
        let a : Used (par_of p r off) g.un u n = (d, (l, (none_untrusted d l).0), item_some (chunk s x) (u d n) m) in
        let e : name_of p v 0 (named_seg p g n) ≡ n = settled_name p r off g v u k n a in
        subst (λ (y : ℕ). (f : ℕ → Val) × Stripe (par_of p r off) u g.un y s f × (f d ≡ x)) e
        (tidy_seg d (named_seg p g n) s x (settled_remains p r off g v u k n a) l (subst (Unsealed (par_of p r off) u) (sym e) us) (subst (λ (y : ℕ). InI (chunk s x) (u d y)) (sym e) m))

    -- ---- what is open
    pub opened_is : (b : Bool) × (z : ℕ) × (n : ℕ) × Opened p r off g v u b z n
    opened_is = go (unsealed (segments p v 0)) refl
      where
        go : (l : List Segment) → unsealed (segments p v 0) ≡ l → (b : Bool) × (z : ℕ) × (n : ℕ) × Opened p r off g v u b z n
        go [] e = (
          false,
          0,
          0,
          record {
            few = omega arith;
            less = λ q. true≢false q;
            lone = λ y q. absurd (subst (λ (x : List Segment). Has (G (named_seg p g y)) x) e (has_us (named_seg p g y) (ragged_unsealed y q).0 (ragged_unsealed y q).1));
            whole = λ q. true≢false q;
            low = λ q. true≢false q;
            full = λ q. true≢false q;
            short = λ q. true≢false q;
            is = inr (refl, (unfold open_of_of in ap open_of_of e));
          },
        )
        go (q ∷ l) e =
            let a : (z : Seg) × Has z (remaining p v 0) × (q ≡ G z) × ((G z).full ≡ false) = us_has q (subst (λ (x : List Segment). Has q x) (sym e) (inl refl)) in
            let o :
            (counted p 0 (G a.0) ≡ below (length (counted p 0 (G a.0))))
            × (uncounted p 0 (G a.0) ≡ [])
            × (length (counted p 0 (G a.0)) < p.S) =
            ord a.0 a.1 a.3 in
            let b : SegAt p v u 0 a.0 (name_of p v 0 a.0) = there a.0 a.1 in (
              true,
              name_of p v 0 a.0,
              length (counted p 0 (G a.0)),
              record {
                few = few_counted a.0;
                less = λ w. o.2;
                lone = λ y w. (
                  refl,
                  sym (settled_name p r off g v u k y (w.0, w.1, w.2))
                      ∙ ap (name_of p v 0) (one_of (named_seg p g y) a.0 (ragged_unsealed y w).0 a.1 (ragged_unsealed y w).1 a.3),
                );
                whole = λ w. (k.rest (name_of p v 0 a.0) (settled_used p r off g v u k a.0 a.1).0).left;
                low = λ w d s x l m. below_has s (length (counted p 0 (G a.0))) (subst (λ (y : List ℕ). Has s y) o.0 (chunk_counted a.0 d s x a.1 a.3 l m));
                full = λ w s l d h. let st : Stripe (par_of p r off) u (is_in 0) (name_of p v 0 a.0) s (piece_at p r off g v u k.on 0 none_choice a.0 s) =
                    counted_stripe p r off g v u k.on 0 none_choice a.0 s b (subst (λ (y : List ℕ). Has s y) (sym o.0) (has_below s (length (counted p 0 (G a.0))) l)) in
                    (piece_at p r off g v u k.on 0 none_choice a.0 s d, st.on d h (none_untrusted d h).1);
                short = λ w d l. no-footer a.0 a.1 a.3 o.2 d l (dec_lt (suc p.S) (length (u d (name_of p v 0 a.0))));
                is = inl (refl, open_at q l e a.0 a.1 a.2, next-at q l e a.0 a.2);
              },
            )
          where
            few_counted : (z : Seg) → length (counted p 0 (G z)) ≤ p.S
            few_counted z = unfold counted in omega (arith, length-keep (counts p 0 (G z)) (below p.S), length-below p.S)

            no-footer :
                (z : Seg)
                → Has z (remaining p v 0)
                → (G z).full ≡ false
                → length (counted p 0 (G z)) < p.S
                → (d : ℕ)
                → d < p.N
                → Dec (suc p.S < length (u d (name_of p v 0 z)))
                → length (u d (name_of p v 0 z)) ≤ suc p.S
            no-footer z i f c d l (no q) = omega arith
            no-footer z i f c d l (yes q) =
                let every : (s : ℕ) → s < p.S → Has s (counted p 0 (G z)) = λ s b.
                let x : (x : Val) × InI (chunk s x) (u d (name_of p v 0 z)) = (k.on.facts.zones d (name_of p v 0 z) (l, (none_untrusted d l).0)).sealed q s b in
                chunk_counted z d s x.0 i f l x.1 in
                absurd (let w : p.S ≤ length (counted p 0 (G z)) = many (counted p 0 (G z)) every in let j : ⊥ = omega arith in j)
              where
                many : (l : List ℕ) → ((s : ℕ) → s < p.S → Has s l) → p.S ≤ length l
                many l h =
                    pigeon p.S (length l) (λ s. (at s (dec_lt s p.S)).0) (λ s b. ((at s (dec_lt s p.S)).1 b).0)
                    (λ s t a b e. sym ((at s (dec_lt s p.S)).1 a).1 ∙ ap (λ (x : ℕ). get_or l x 0) e ∙ ((at t (dec_lt t p.S)).1 b).1)
                  where
                    at : (s : ℕ) → Dec (s < p.S) → (j : ℕ) × (s < p.S → (j < length l) × (get_or l j 0 ≡ s))
                    at s (yes b) = let q : (j : ℕ) × (j < length l) × (get_or l j 0 ≡ s) = has_get_d l s 0 (h s b) in (q.0, λ x. (q.1, q.2))
                    at s (no b) = (0, λ x. absurd (b x))

            open_at : (q : Segment) (l : List Segment) → unsealed (segments p v 0) ≡ q ∷ l → (z : Seg) → Has z (remaining p v 0) → q ≡ G z
                → open_of_of (unsealed (segments p v 0)) ≡ name_of p v 0 z
            open_at q l e z i w = unfold open_of_of in (ap open_of_of e ∙ ap (λ (x : Segment). x.serial) w ∙ serial_name p r off g v u k.on 0 none_choice z i)

            next-at :
                (q : Segment) (l : List Segment)
                → unsealed (segments p v 0) ≡ q ∷ l
                → (z : Seg)
                → q ≡ G z
                → next_of p (unsealed (segments p v 0)) ≡ length (counted p 0 (G z))
            next-at q l e z w = unfold next_of in (ap (next_of p) e ∙ ap (λ (x : Segment). length (counted p 0 x)) w)

  -- ---- what is read, the greatest stamp and serial
  pub ends_reads : Reads (par_of p r off) g.hd u g.un (stamp_read_holds p r off g v u k.on 0 none_choice)
  ends_reads =
      Reads_none_any (par_of p r off) g.hd u (is_in 0) g.un (far_off p r off g v u k) k.none (stamp_read_holds p r off g v u k.on 0 none_choice) (reads p r off g v u k.on 0 none_choice)

  pub ends_stamps : (x : Val) → Counted (par_of p r off) g.hd u g.un x → x.stamp ≤ greatest_stamp (candidates p 0 (segments p v 0))
  unfolding cands_seen
  ends_stamps x q = greatest-counted p r off g v u k.on 0 none_choice x (Counted_none_any (par_of p r off) g.hd u g.un (is_in 0) k.none (far_off p r off g v u k) x q)

  pub ends_serials : (y : ℕ) → Used (par_of p r off) g.un u y → g.hd.ser y ≤ greatest_serial (segments p v 0)
  unfolding greatest_serial segments
  ends_serials y us =
      let z : Seg = named_seg p g y in
      let i : Has (named_seg p g y) (remaining p v 0) = settled_remains p r off g v u k y us in
      let e : (G (named_seg p g y)).serial ≡ g.hd.ser y = serial_ghost p r off g v u k.on 0 none_choice (named_seg p g y) i ∙ ap g.hd.ser (settled_name p r off g v u k y us) in
      let b : (G (named_seg p g y)).serial ≤ greatest (map (λ (g : Segment). g.serial) (map (segment_of p v 0) (remaining p v 0))) =
      greatest_most (G (named_seg p g y)).serial (map (λ (g : Segment). g.serial) (map (segment_of p v 0) (remaining p v 0)))
      (has_map (λ (g : Segment). g.serial) (map (segment_of p v 0) (remaining p v 0)) (G (named_seg p g y))
      (has_map (segment_of p v 0) (remaining p v 0) (named_seg p g y) i)) in
      omega (arith, b, e)
