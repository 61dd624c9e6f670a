-- After a rebuild each address reads with none missing as it did with the drive missing: the candidates are alike one for one, in whatever order, and so is the one that holds. Assumes nothing.
use Rattle.std.specs.Prelude.{◌≡◌, true, false, ℕ, ◌<◌, ltb}
use Rattle.std.proofs.Math.Path.{refl, sym, ap, ap₂, subst}
use Rattle.std.proofs.Common.{◌∙◌}
use mathlib.Core.List.{List, map}
use Rattle.std.proofs.Math.Decide.{ℕ_discrete}
use Rattle.spec.specs.declared.Params.{Params}
use Rattle.spec.specs.Demands.{said_block, said_at}
use Rattle.spec.specs.Drives.{View, record_in, sealed_in, zone_at, zone_on}
use Rattle.spec.specs.History.Seen.{got}
use Rattle.spec.specs.Layout.{data_drive, data_drives, Rec, data_position}
use Rattle.spec.specs.Lists.{Opt, below, flat, is_in}
use Rattle.spec.specs.Lists.Opt.{none, some}
use Rattle.spec.specs.Params.{data_count, named}
use Rattle.spec.specs.Parity.{Piece}
use Rattle.spec.specs.Rank.{Cand, beats, best, cands_of}
use Rattle.spec.specs.Segments.{remaining, Segment, segment_of, segments, offset_on, counts, counted, piece_of, offset_of, cand_of, segment_cands, candidates}
use Rattle.law_basic.specs.Geometry.{Ranged, data_drive_lt, position_drive}
use Rattle.law_basic.specs.Mask.{is_in_empty}
use Rattle.law_drives.specs.Accept.{serials_differ}
use Rattle.law_drives.specs.Members.{In, map_in, flat_map, below_in, flat_in, in_flat, in_map}
use Rattle.law_drives.specs.Rebuilding.{counted_in}
use Rattle.law_drives.specs.Segs.{CandAt, cand_at}
use Rattle.law_drives.specs.Spots.{spot_of, none_apart}
use Rattle.law_drives.specs.Tests.{cond_true, cond_false}
use Rattle.proof_tables.specs.Base.{base_said_is, its_chunk, offset_here}
use Rattle.proof_rebuilt.specs.Alike.{Alike, AlikeOr, alike_map, alike_flat, alike_best, beats_same}
use Rattle.proof_rebuilt.specs.Numbers.{rank_order}
use Rattle.proof_rebuilt.specs.Segment.{rebuilt_serial, rebuilt-counts, same_counted, offset_other, offset_rebuilt, rebuilt_piece_same, same_rec}
use Rattle.proof_rebuilt.specs.Zone.{rebuilt_view, Loss, drive_lost_holds, other_here, zone_lost_apart, low-one}
use Rattle.spec.specs.declared.Seg.{Seg}
use Rattle.law_drives.specs.Best.{CandsApart}
use Rattle.law_drives.specs.Settled.{zero_here}
use Rattle.proof_rebuilt.specs.Accepted.{now_remains, remained}
use Rattle.proof_tables.specs.Ranks.{same_best}

-- ---- with none missing, no two candidates are tied

module _ (p : Params) (r : Ranged p) (v : View) where
  module _ (c : Cand) (k : CandAt p v 0 c) where
    said_cand_drive : c.drive ≡ data_drive p k.stripe k.position
    unfolding cand_of
    said_cand_drive = ap (λ (x : Cand). x.drive) k.it_is

    of_serial : c.serial ≡ (segment_of p v 0 k.of).serial
    unfolding cand_of
    of_serial = ap (λ (x : Cand). x.serial) k.it_is

    stripe_there : (record_in p (sealed_in p v 0 k.of) (zone_at v c.drive (zone_on k.of c.drive)) c.offset).stripe ≡ k.stripe
    stripe_there =
        let here = zero_here p r in
        let apart = none_apart p v in
        let t = spot_of p r v 0 here apart c k in
        ap (λ (x : ℕ). (record_in p (sealed_in p v 0 k.of) (zone_at v c.drive (zone_on k.of c.drive)) x).stripe) (offset_here p r v 0 here apart c k t (is_in_empty c.drive))
        ∙ (its_chunk p r v 0 here apart c k t (is_in_empty c.drive)).its_stripe

  none_tied : CandsApart (candidates p 0 (segments p v 0))
  none_tied c d m n w =
      let k = cand_at p v 0 c m in
      let j = cand_at p v 0 d n in
      let e : k.of ≡ j.of = serials_differ p v 0 (zero_here p r) k.of j.of k.remains j.remains (sym (of_serial c k) ∙ w.same_serial ∙ of_serial d j) in
      let f = w.same_drive in
      let g = w.same_offset in
      let es : k.stripe ≡ j.stripe = sym (stripe_there c k)
      ∙ (λ i. (record_in p (sealed_in p v 0 (e i)) (zone_at v (f i) (zone_on (e i) (f i))) (g i)).stripe) ∙ stripe_there d j in
      let ep : k.position ≡ j.position = sym (position_drive p k.stripe k.position)
      ∙ ap₂ (data_position p) es (sym (said_cand_drive c k) ∙ f ∙ said_cand_drive d j) ∙ position_drive p j.stripe j.position in
      k.it_is ∙ (λ i. cand_of p 0 (segment_of p v 0 (e i)) (es i) (data_drive p (es i) (ep i))) ∙ sym j.it_is

module _ (p : Params) (v : View) (d : ℕ) (lo : Loss p v d) where
  abbrev r : Ranged p
  r = lo.ranged

  abbrev gone : ℕ
  gone = named d

  abbrev u : View
  u = rebuilt_view p v d

  abbrev x : Seg → Segment
  x g = segment_of p v gone g

  abbrev y : Seg → Segment
  y g = segment_of p u 0 g

  -- a candidate before and after
  record Pair (c e : Cand) : Type 0 where
    of : Seg
    stripe : ℕ
    position : ℕ
    remains : In of (remaining p v gone)
    stripe_low : stripe < p.S
    it_counts : counts p gone (x of) stripe ≡ true
    position_low : position < data_count p
    was : c ≡ cand_of p gone (x of) stripe (data_drive p stripe position)
    is_now : e ≡ cand_of p 0 (y of) stripe (data_drive p stripe position)

  -- ---- fields

  module _ (g : Seg) (s e : ℕ) (m : In g (remaining p v gone)) (hs : s < p.S) (c : counts p gone (x g) s ≡ true) (he : e < p.N) where
    same_address : (cand_of p gone (x g) s e).address ≡ (cand_of p 0 (y g) s e).address
    unfolding cand_of
    same_address = sym (ap (λ (b : Rec). b.address) (same_rec p v d lo g m s e hs c he))

    same_stamp : (cand_of p gone (x g) s e).stamp ≡ (cand_of p 0 (y g) s e).stamp
    unfolding cand_of
    same_stamp = sym (ap (λ (b : Rec). b.stamp) (same_rec p v d lo g m s e hs c he))

    same_cand_serial : (cand_of p gone (x g) s e).serial ≡ (cand_of p 0 (y g) s e).serial
    unfolding cand_of
    same_cand_serial = sym (rebuilt_serial p v d lo g m)

  cand_of_drive : (q : ℕ) (z : Segment) (s e : ℕ) → (cand_of p q z s e).drive ≡ e
  unfolding cand_of
  cand_of_drive q z s e = refl

  cand_serial : (q : ℕ) (z : Segment) (s e : ℕ) → (cand_of p q z s e).serial ≡ z.serial
  unfolding cand_of
  cand_serial q z s e = refl

  cand_of_offset : (q : ℕ) (z : Segment) (s e : ℕ) → (cand_of p q z s e).offset ≡ offset_of q z s e
  unfolding cand_of
  cand_of_offset q z s e = refl

  -- offsets of a segment and drive keep their order
  same_order : (g : Seg) (s t e : ℕ) → In g (remaining p v gone) → s < p.S → t < p.S → counts p gone (x g) s ≡ true → counts p gone (x g) t ≡ true → e < p.N
      → ltb (offset_of gone (x g) s e) (offset_of gone (x g) t e) ≡ ltb (offset_of 0 (y g) s e) (offset_of 0 (y g) t e)
  same_order g s t e m hs ht cs ct he = go (ℕ_discrete e d)
    where
      now : (s e : ℕ) → offset_of 0 (y g) s e ≡ offset_on (y g) e s
      now s e = unfold offset_of in cond_false (is_in 0 e) s (offset_on (y g) e s) (is_in_empty e)

      away : (s : ℕ) → offset_of gone (x g) s d ≡ s
      away s = unfold offset_of in cond_true (is_in gone d) s (offset_on (x g) d s) (drive_lost_holds p v d lo)

      kept : (s : ℕ) → is_in gone e ≡ false → offset_of gone (x g) s e ≡ offset_on (x g) e s
      kept s q = unfold offset_of in cond_false (is_in gone e) s (offset_on (x g) e s) q

      here : ltb (offset_of gone (x g) s d) (offset_of gone (x g) t d) ≡ ltb (offset_of 0 (y g) s d) (offset_of 0 (y g) t d)
      here =
          ap₂ ltb (away s) (away t) ∙ rank_order (counts p gone (x g)) s t cs ct
          ∙ sym (ap₂ ltb (now s d ∙ offset_rebuilt p v d lo g m s hs cs) (now t d ∙ offset_rebuilt p v d lo g m t ht ct))

      go : Dec (e ≡ d) → ltb (offset_of gone (x g) s e) (offset_of gone (x g) t e) ≡ ltb (offset_of 0 (y g) s e) (offset_of 0 (y g) t e)
      go (yes q) = subst (λ (e : ℕ). ltb (offset_of gone (x g) s e) (offset_of gone (x g) t e) ≡ ltb (offset_of 0 (y g) s e) (offset_of 0 (y g) t e)) (sym q) here
      go (no q) =
          let pr = other_here p v d lo e he q in
          ap₂ ltb (kept s pr) (kept t pr) ∙ sym (ap₂ ltb (now s e ∙ offset_other p v d lo g m s e he pr) (now t e ∙ offset_other p v d lo g m t e he pr))

  module _ (c e : Cand) (k : Pair c e) where
    abbrev drive : ℕ
    drive = data_drive p k.stripe k.position

    drive_low : drive < p.N
    drive_low = data_drive_lt p k.stripe k.position k.position_low

    -- a field that is the same before and after
    pair_field : (f : Cand → ℕ) → f (cand_of p gone (x k.of) k.stripe drive) ≡ f (cand_of p 0 (y k.of) k.stripe drive) → f c ≡ f e
    pair_field f q = ap f k.was ∙ q ∙ sym (ap f k.is_now)

    pair_address : c.address ≡ e.address
    pair_address = pair_field (λ (b : Cand). b.address) (same_address k.of k.stripe drive k.remains k.stripe_low k.it_counts drive_low)

    pair_stamp : c.stamp ≡ e.stamp
    pair_stamp = pair_field (λ (b : Cand). b.stamp) (same_stamp k.of k.stripe drive k.remains k.stripe_low k.it_counts drive_low)

    pair_serial : c.serial ≡ e.serial
    pair_serial = pair_field (λ (b : Cand). b.serial) (same_cand_serial k.of k.stripe drive k.remains k.stripe_low k.it_counts drive_low)

    old_serial : c.serial ≡ (x k.of).serial
    old_serial = ap (λ (b : Cand). b.serial) k.was ∙ cand_serial gone (x k.of) k.stripe drive

    old_drive : c.drive ≡ drive
    old_drive = ap (λ (b : Cand). b.drive) k.was ∙ cand_of_drive gone (x k.of) k.stripe drive

    new_drive : e.drive ≡ drive
    new_drive = ap (λ (b : Cand). b.drive) k.is_now ∙ cand_of_drive 0 (y k.of) k.stripe drive

    pair_drive : c.drive ≡ e.drive
    pair_drive = old_drive ∙ sym new_drive

    old_offset : c.offset ≡ offset_of gone (x k.of) k.stripe drive
    old_offset = ap (λ (b : Cand). b.offset) k.was ∙ cand_of_offset gone (x k.of) k.stripe drive

    new_offset : e.offset ≡ offset_of 0 (y k.of) k.stripe drive
    new_offset = ap (λ (b : Cand). b.offset) k.is_now ∙ cand_of_offset 0 (y k.of) k.stripe drive

    old_at : CandAt p v gone c
    old_at = record {
      of = k.of;
      stripe = k.stripe;
      position = k.position;
      remains = k.remains;
      stripe_low = k.stripe_low;
      it_counts = k.it_counts;
      position_low = k.position_low;
      it_is = k.was;
    }

    new_at : CandAt p u 0 e
    new_at = record {
      of = k.of;
      stripe = k.stripe;
      position = k.position;
      remains = now_remains p v d lo k.of k.remains;
      stripe_low = k.stripe_low;
      it_counts = rebuilt-counts p v d lo k.of k.remains k.stripe k.stripe_low ∙ k.it_counts;
      position_low = k.position_low;
      it_is = k.is_now;
    }

    -- what is said of it
    pair_said : said_block p u 0 (some e) ≡ said_block p v gone (some c)
    unfolding old_at new_at
    pair_said =
        base_said_is p r u 0 (zero_here p r) (none_apart p u) e new_at (spot_of p r u 0 (zero_here p r) (none_apart p u) e new_at)
        ∙ ap₂ (λ (z t : ℕ). got (piece_of p 0 (y k.of) k.stripe z).block t) new_drive (sym pair_stamp)
        ∙ ap (λ (q : Piece). got q.block c.stamp) (rebuilt_piece_same p v d lo k.of k.remains k.stripe drive k.stripe_low k.it_counts drive_low)
        ∙ sym (base_said_is p r v gone (low-one p v d lo) (zone_lost_apart p v d lo) c old_at (spot_of p r v gone (low-one p v d lo) (zone_lost_apart p v d lo) c old_at)
        ∙ ap (λ (z : ℕ). got (piece_of p gone (x k.of) k.stripe z).block c.stamp) old_drive)

  -- the rule tells two pairs alike
  pair_beats : (c e b f : Cand) → Pair c e → Pair b f → beats c b ≡ beats e f
  pair_beats c e b f k l = beats_same c e b f (pair_stamp c e k) (pair_stamp b f l) (pair_serial c e k) (pair_serial b f l) (pair_drive c e k) (pair_drive b f l)
      (λ qs qd. order (segment (sym (old_serial c e k) ∙ qs ∙ old_serial b f l)) (sym (old_drive c e k) ∙ qd ∙ old_drive b f l))
    where
      segment : (x k.of).serial ≡ (x l.of).serial → l.of ≡ k.of
      segment q = sym (serials_differ p v gone (low-one p v d lo) k.of l.of k.remains l.remains q)

      order : l.of ≡ k.of → drive c e k ≡ drive b f l → ltb c.offset b.offset ≡ ltb e.offset f.offset
      order qo qd =
          ap₂ ltb (old_offset c e k) (old_offset b f l ∙ ap₂ (λ (g : Seg) (z : ℕ). offset_of gone (x g) l.stripe z) qo (sym qd))
          ∙ same_order k.of k.stripe l.stripe (drive c e k) k.remains k.stripe_low l.stripe_low k.it_counts
          (subst (λ (g : Seg). counts p gone (x g) l.stripe ≡ true) qo l.it_counts) (drive_low c e k)
          ∙ sym (ap₂ ltb (new_offset c e k) (new_offset b f l ∙ ap₂ (λ (g : Seg) (z : ℕ). offset_of 0 (y g) l.stripe z) qo (sym qd)))

  -- ---- all candidates

  pair_stripe : (g : Seg) (s : ℕ) → In g (remaining p v gone) → In s (counted p gone (x g))
      → Alike Pair (map (cand_of p gone (x g) s) (data_drives p s)) (map (cand_of p 0 (y g) s) (data_drives p s))
  unfolding data_drives
  pair_stripe g s m i =
      let (hs, c) = counted_in p gone (x g) s i in
      alike_map Pair (cand_of p gone (x g) s) (cand_of p 0 (y g) s) (map (data_drive p s) (below (data_count p)))
      (λ e j.
      let (n, k, q) = map_in (data_drive p s) (below (data_count p)) e j in
      record {
        of = g;
        stripe = s;
        position = n;
        remains = m;
        stripe_low = hs;
        it_counts = c;
        position_low = below_in (data_count p) n k;
        was = ap (cand_of p gone (x g) s) q;
        is_now = ap (cand_of p 0 (y g) s) q;
      })

  pair_segment : (g : Seg) → In g (remaining p v gone) → Alike Pair (segment_cands p gone (x g)) (segment_cands p 0 (y g))
  unfolding segment_cands
  pair_segment g m =
      subst (λ (l : List ℕ). Alike Pair (flat (λ s. map (cand_of p gone (x g) s) (data_drives p s)) (counted p gone (x g))) (flat (λ s. map (cand_of p 0 (y g) s) (data_drives p s)) l))
      (sym (same_counted p v d lo g m))
      (alike_flat Pair (λ s. map (cand_of p gone (x g) s) (data_drives p s)) (λ s. map (cand_of p 0 (y g) s) (data_drives p s)) (counted p gone (x g)) (λ s i. pair_stripe g s m i))

  -- the candidates behind the rebuild, segment for segment as before it
  abbrev turned : List Cand
  turned = flat (λ g. segment_cands p 0 (y g)) (remaining p v gone)

  pair_all : Alike Pair (candidates p gone (segments p v gone)) turned
  unfolding candidates segments
  pair_all =
      subst (λ (l : List Cand). Alike Pair l turned) (sym (flat_map (segment_cands p gone) x (remaining p v gone)))
      (alike_flat Pair (λ g. segment_cands p gone (x g)) (λ g. segment_cands p 0 (y g)) (remaining p v gone) pair_segment)

  -- they are the same, in whatever order
  from_turned : (c : Cand) → In c turned → In c (candidates p 0 (segments p u 0))
  unfolding candidates segments
  from_turned c m =
      let (g, i, k) = flat_in (λ g. segment_cands p 0 (y g)) (remaining p v gone) c m in
      in_flat (segment_cands p 0) (map y (remaining p u 0)) (y g) c (in_map y (remaining p u 0) g (now_remains p v d lo g i)) k

  to_turned : (c : Cand) → In c (candidates p 0 (segments p u 0)) → In c turned
  unfolding candidates segments
  to_turned c m =
      let (z, i, k) = flat_in (segment_cands p 0) (map y (remaining p u 0)) c m in
      let (g, j, e) = map_in y (remaining p u 0) z i in
      in_flat (λ g. segment_cands p 0 (y g)) (remaining p v gone) g c (remained p v d lo g j) (subst (λ (s : Segment). In c (segment_cands p 0 s)) e k)

  same_held : (a : ℕ) → best none (cands_of a (candidates p 0 (segments p u 0))) ≡ best none (cands_of a turned)
  same_held a = same_best a (candidates p 0 (segments p u 0)) turned (λ c e m n w. none_tied p r u c e (from_turned c m) (from_turned e n) w) (λ c _ m. to_turned c m) (λ c _ m. from_turned c m)

  -- the drives say the same
  pub rebuilt_said : (a : ℕ) → said_at p u 0 a ≡ said_at p v gone a
  unfolding said_at
  rebuilt_said a = ap (said_block p u 0) (same_held a)
      ∙ go (best none (cands_of a (candidates p gone (segments p v gone)))) (best none (cands_of a turned))
      (alike_best Pair pair_beats a pair_address (candidates p gone (segments p v gone)) turned pair_all)
    where
      go : (b f : Opt Cand) → AlikeOr Pair b f → said_block p u 0 f ≡ said_block p v gone b
      go none none q = unfold said_block in refl
      go none (some f) q = absurd q
      go (some b) none q = absurd q
      go (some b) (some f) q = pair_said b f q
