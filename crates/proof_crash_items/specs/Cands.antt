-- The records of counted stripes, and which of an address holds: what a restart reads is the machine's Reads. Assumes nothing.
use Rattle.std.specs.Prelude.{◌≡◌, Bool, true, false, ◌&&◌, ◌||◌, ◌⊎◌, ℕ, ◌≤◌, ◌<◌, ltb}
use Rattle.std.proofs.Math.Path.{refl, ap, subst}
use Rattle.std.proofs.Common.{sym, ◌∙◌, inl, inr, ⊎_elim, arith}
use mathlib.Core.List.{List, [], ◌∷◌, map}
use borrow.Author.Tests.{eq-eqb, ltb-true, ltb-false, eqb-true}
use Rattle.std.proofs.Math.Dec.{eqb}
use Rattle.spec.specs.declared.Params.{Params}
use Rattle.spec.specs.Drives.{View}
use Rattle.spec.specs.Layout.{data_drive, data_position, is_data, data_drives, Rec}
use Rattle.spec.specs.Lists.{Opt, below, flat, greatest, is_in}
use Rattle.spec.specs.Lists.Opt.{none, some}
use Rattle.spec.specs.Params.{data_count}
use Rattle.spec.specs.Rank.{Cand, beats, better, best, cands_of}
use Rattle.spec.specs.Segments.{remaining, Segment, segment_of, segments, counted, cand_of, segment_cands, candidates, greatest_stamp}
use Rattle.law_basic.specs.Geometry.{Ranged, data_drive_lt, drive_position, position_lt, drive_is_data}
use Rattle.law_drives.specs.Segs.{piece_rec}
use Rattle.law_drives.specs.Tests.{cond_true, cond_false}
use Rattle.proof_crash_machine.specs.Exec.{and_1, or_either}
use Rattle.proof_crash_machine.specs.Facts.{Ghost, Choice, Counted}
use Rattle.proof_crash_machine.specs.Finish.{Reads}
use Rattle.proof_crash_machine.specs.Val.{Val}
use Rattle.proof_crash_items.specs.Items.{value_of}
use Rattle.proof_crash_items.specs.Member.{Has, keep_has, has_keep, below_has, has_below, flat_has, has_flat, map_has, has_map, greatest_most}
use Rattle.proof_crash_items.specs.Ranges.{par_of, data_code, code_data}
use Rattle.proof_crash_items.specs.Segs.{OnDrives, remaining_has, has_remaining, name_of, named_seg, remains_at_holds}
use Rattle.proof_crash_items.specs.Stripes.{piece_at, counted_stripe, number_counted}
use Rattle.proof_crash_items.specs.Values.{piece_value}
use Rattle.spec.specs.declared.Seg.{Seg}
use Rattle.proof_crash_machine.specs.View.{ItemView}

-- ---- which record holds

unfoldable pub stamp_of : Opt Cand → ℕ
stamp_of none = 0
stamp_of (some c) = c.stamp

pub stamp_some : (c : Cand) → stamp_of (some c) ≡ c.stamp
unfolding stamp_of
stamp_some c = refl

pub stamp_none : stamp_of none ≡ 0
unfolding stamp_of
stamp_none = refl

pub beats_true : (a b : Cand) → beats a b ≡ true → b.stamp ≤ a.stamp
unfolding beats
beats_true a b e = ⊎_elim (λ (q : ltb b.stamp a.stamp ≡ true). let l : b.stamp < a.stamp = ltb-true b.stamp a.stamp q in omega arith)
    (λ (q : (eqb a.stamp b.stamp && rest) ≡ true). let i : a.stamp ≡ b.stamp = eqb-true a.stamp b.stamp (and_1 (eqb a.stamp b.stamp) rest q) in omega arith)
    (or_either (ltb b.stamp a.stamp) (eqb a.stamp b.stamp && rest) e)
  where
    rest : Bool
    rest = ltb b.serial a.serial || (eqb a.serial b.serial && (ltb a.drive b.drive || (eqb a.drive b.drive && ltb a.offset b.offset)))

pub beats_false : (a b : Cand) → beats a b ≡ false → a.stamp ≤ b.stamp
unfolding beats
beats_false a b e = ltb-false b.stamp a.stamp (go (ltb b.stamp a.stamp) (eqb a.stamp b.stamp && rest) e)
  where
    rest : Bool
    rest = ltb b.serial a.serial || (eqb a.serial b.serial && (ltb a.drive b.drive || (eqb a.drive b.drive && ltb a.offset b.offset)))

    go : (x y : Bool) → (x || y) ≡ false → x ≡ false
    go true y e = e
    go false y e = refl

pub record Winner (b : Opt Cand) (l : List Cand) (w : Cand) : Type 0 where
  pub is : best b l ≡ some w
  pub from : (b ≡ some w) ⊎ Has w l
  pub most : (c : Cand) → Has c l → c.stamp ≤ w.stamp

best-after : (b : Cand) (l : List Cand) → (w : Cand) × Winner (some b) l w × (b.stamp ≤ w.stamp)
unfolding best better
best-after b [] = (b, record { is = refl; from = inl refl; most = λ c m. absurd m }, omega arith)
best-after b (c ∷ l) = go (beats c b) refl (best-after c l) (best-after b l)
  where
    go : (t : Bool) → beats c b ≡ t → (w : Cand) × Winner (some c) l w × (c.stamp ≤ w.stamp) → (w : Cand) × Winner (some b) l w × (b.stamp ≤ w.stamp)
        → (w : Cand) × Winner (some b) (c ∷ l) w × (b.stamp ≤ w.stamp)
    go true e h h' =
        let s : b.stamp ≤ c.stamp = beats_true c b e in (
          h.0,
          record {
            is = ap (λ (x : Cand). best (some x) l) (cond_true (beats c b) c b e) ∙ h.1.is;
            from = ⊎_elim (λ (q : some c ≡ some h.0). inr (inl (let z : h.0 ≡ c = cc in z))) (λ (q : Has h.0 l). inr (inr q)) h.1.from;
            most = λ x m. ⊎_elim (λ (q : x ≡ c). let z : x.stamp ≡ c.stamp = ap (λ (y : Cand). y.stamp) q in omega (arith, z, h.2)) (λ (q : Has x l). h.1.most x q) m;
          },
          omega (arith, s, h.2),
        )
    go false e h' h =
        let s : c.stamp ≤ b.stamp = beats_false c b e in (
          h.0,
          record {
            is = ap (λ (x : Cand). best (some x) l) (cond_false (beats c b) c b e) ∙ h.1.is;
            from = ⊎_elim (λ (q : some b ≡ some h.0). inl q) (λ (q : Has h.0 l). inr (inr q)) h.1.from;
            most = λ x m. ⊎_elim (λ (q : x ≡ c). let z : x.stamp ≡ c.stamp = ap (λ (y : Cand). y.stamp) q in omega (arith, z, s, h.2)) (λ (q : Has x l). h.1.most x q) m;
          },
          h.2,
        )

-- among none: there is a record that holds, with the greatest stamp
pub best_none : (l : List Cand) → (l ≡ []) ⊎ ((w : Cand) × (best none l ≡ some w) × Has w l × ((c : Cand) → Has c l → c.stamp ≤ w.stamp))
unfolding best better
best_none [] = inl refl
best_none (b ∷ l) =
    let h : (w : Cand) × Winner (some b) l w × (b.stamp ≤ w.stamp) = best-after b l in
    inr (
      h.0,
      h.1.is,
      ⊎_elim (λ (q : some b ≡ some h.0). inl (let z : h.0 ≡ b = cc in z)) (λ (q : Has h.0 l). inr q) h.1.from,
      λ x m. ⊎_elim (λ (q : x ≡ b). let z : x.stamp ≡ b.stamp = ap (λ (y : Cand). y.stamp) q in omega (arith, z, h.2)) (λ (q : Has x l). h.1.most x q) m,
    )

-- ---- data drives

pub data_drives_lem : (p : Params) → Ranged p → (s d : ℕ) → Has d (data_drives p s) → (d < p.N) × (is_data p s d ≡ true)
unfolding data_drives
data_drives_lem p r s d i =
    let q : (j : ℕ) × Has j (below (data_count p)) × (d ≡ data_drive p s j) = map_has (data_drive p s) d (below (data_count p)) i in
    (subst (λ (x : ℕ). x < p.N) (sym q.2) (data_drive_lt p s q.0 (below_has q.0 (data_count p) q.1)), ap (is_data p s) q.2 ∙ drive_is_data p s q.0)

pub has_data_drive : (p : Params) → Ranged p → (s d : ℕ) → d < p.N → is_data p s d ≡ true → Has d (data_drives p s)
unfolding data_drives
has_data_drive p r s d l e =
    subst (λ (x : ℕ). Has x (map (data_drive p s) (below (data_count p)))) (drive_position p s d e)
    (has_map (data_drive p s) (below (data_count p)) (data_position p s d) (has_below (data_position p s d) (data_count p) (position_lt p s d e l)))

-- ---- the record of a piece

module _ (p : Params) (r : Ranged p) (off : List ℕ) (g : Ghost) (v : View) (u : ItemView) (k : OnDrives p r off g v u) (m : ℕ) (c : Choice (par_of p r off) g.un (is_in m)) where
  abbrev G : Seg → Segment
  G z = segment_of p v m z

  unfoldable pub cands_seen : List Cand
  cands_seen = candidates p m (segments p v m)

  -- where a record comes from
  pub record From (x : Cand) : Type 0 where
    pub z : Seg
    pub s : ℕ
    pub d : ℕ
    pub rem : Has z (remaining p v m)
    pub cnt : Has s (counted p m (segment_of p v m z))
    pub drv : d < p.N
    pub dat : is_data p s d ≡ true
    pub is : x ≡ cand_of p m (segment_of p v m z) s d

  pub cands_from : (x : Cand) → Has x cands_seen → From x
  unfolding cands_seen candidates segment_cands segments
  cands_from x i =
      let a : (q : Segment) × Has q (map (segment_of p v m) (remaining p v m)) × Has x (flat (λ s. map (cand_of p m q s) (data_drives p s)) (counted p m q)) =
      flat_has (segment_cands p m) x (map (segment_of p v m) (remaining p v m)) i in
      let b : (z : Seg) × Has z (remaining p v m) × (a.0 ≡ G z) = map_has (segment_of p v m) a.0 (remaining p v m) a.1 in
      let t : Has x (flat (λ s. map (cand_of p m (G b.0) s) (data_drives p s)) (counted p m (G b.0))) =
      subst (λ (q : Segment). Has x (flat (λ s. map (cand_of p m q s) (data_drives p s)) (counted p m q))) b.2 a.2 in
      let e : (s : ℕ) × Has s (counted p m (G b.0)) × Has x (map (cand_of p m (G b.0) s) (data_drives p s)) =
      flat_has (λ s. map (cand_of p m (G b.0) s) (data_drives p s)) x (counted p m (G b.0)) t in
      let f : (d : ℕ) × Has d (data_drives p e.0) × (x ≡ cand_of p m (G b.0) e.0 d) = map_has (cand_of p m (G b.0) e.0) x (data_drives p e.0) e.2 in
      record { z = b.0; s = e.0; d = f.0; rem = b.1; cnt = e.1; drv = (data_drives_lem p r e.0 f.0 f.1).0; dat = (data_drives_lem p r e.0 f.0 f.1).1; is = f.2 }

  pub has_cand : (z : Seg) (s d : ℕ) → Has z (remaining p v m) → Has s (counted p m (G z)) → d < p.N → is_data p s d ≡ true → Has (cand_of p m (G z) s d) cands_seen
  unfolding cands_seen candidates segment_cands segments
  has_cand z s d i j l n =
      has_flat (segment_cands p m) (cand_of p m (G z) s d) (map (segment_of p v m) (remaining p v m)) (G z)
      (has_map (segment_of p v m) (remaining p v m) z i)
      (has_flat (λ s. map (cand_of p m (G z) s) (data_drives p s)) (cand_of p m (G z) s d) (counted p m (G z)) s j
      (has_map (cand_of p m (G z) s) (data_drives p s) d (has_data_drive p r s d l n)))

  -- its address and stamp are those of the piece
  pub cand_value : (z : Seg) (s d : ℕ) → ((cand_of p m (G z) s d).address ≡ (piece_at p r off g v u k m c z s d).addr)
      × ((cand_of p m (G z) s d).stamp ≡ (piece_at p r off g v u k m c z s d).stamp)
  unfolding cand_of piece_at piece_value value_of
  cand_value z s d = (ap (λ (x : Rec). x.address) (sym (piece_rec p m (G z) s d)), ap (λ (x : Rec). x.stamp) (sym (piece_rec p m (G z) s d)))

  pub cand_counted : (x : Cand) (f : From x)
      → Counted (par_of p r off) g.hd u (is_in m) (piece_at p r off g v u k m c f.z f.s f.d) × ((piece_at p r off g v u k m c f.z f.s f.d).addr ≡ x.address)
      × ((piece_at p r off g v u k m c f.z f.s f.d).stamp ≡ x.stamp)
  cand_counted x f =
      let n : ℕ = name_of p v m f.z in (
        record {
          z = n;
          s = f.s;
          f = piece_at p r off g v u k m c f.z f.s;
          rem = (remaining_has p r off g v u k m c f.z f.rem).0;
          st = counted_stripe p r off g v u k m c f.z f.s (remains_at_holds p r off g v u k m c f.z f.rem) f.cnt;
          dt = record { d = f.d; lt = f.drv; data? = data_code p r f.s f.d f.dat; val = refl };
        },
        sym (ap (λ (y : Cand). y.address) f.is ∙ (cand_value f.z f.s f.d).0),
        sym (ap (λ (y : Cand). y.stamp) f.is ∙ (cand_value f.z f.s f.d).1),
      )

  pub counted_of : (x : Cand) → From x → (y : Val) × Counted (par_of p r off) g.hd u (is_in m) y × (y.addr ≡ x.address) × (y.stamp ≡ x.stamp)
  counted_of x f = (piece_at p r off g v u k m c f.z f.s f.d, (cand_counted x f).0, (cand_counted x f).1, (cand_counted x f).2)

  pub of_counted : (x : Val) → Counted (par_of p r off) g.hd u (is_in m) x → (y : Cand) × Has y cands_seen × (y.address ≡ x.addr) × (y.stamp ≡ x.stamp)
  of_counted x q =
      let e : Has q.s (counted p m (G (named_seg p g q.z))) × ((d : ℕ) → d < p.N → piece_at p r off g v u k m c (named_seg p g q.z) q.s d ≡ q.f d) =
      number_counted p r off g v u k m c q.z q.s q.f q.st in
      let w : piece_at p r off g v u k m c (named_seg p g q.z) q.s q.dt.d ≡ x = e.1 q.dt.d q.dt.lt ∙ q.dt.val in (
        cand_of p m (G (named_seg p g q.z)) q.s q.dt.d,
        has_cand (named_seg p g q.z) q.s q.dt.d (has_remaining p r off g v u k m c q.z q.rem) e.0 q.dt.lt (code_data p r q.s q.dt.d q.dt.data?),
        (cand_value (named_seg p g q.z) q.s q.dt.d).0 ∙ ap (λ (y : Val). y.addr) w,
        (cand_value (named_seg p g q.z) q.s q.dt.d).1 ∙ ap (λ (y : Val). y.stamp) w,
      )

  -- ---- the greatest stamps
  pub greatest-counted : (x : Val) → Counted (par_of p r off) g.hd u (is_in m) x → x.stamp ≤ greatest_stamp cands_seen
  unfolding greatest_stamp
  greatest-counted x q =
      let y : (y : Cand) × Has y cands_seen × (y.address ≡ x.addr) × (y.stamp ≡ x.stamp) = of_counted x q in
      let b : y.0.stamp ≤ greatest (map (λ (c : Cand). c.stamp) cands_seen) =
      greatest_most y.0.stamp (map (λ (c : Cand). c.stamp) cands_seen) (has_map (λ (c : Cand). c.stamp) cands_seen y.0 y.1) in
      omega (arith, b, y.3)

  -- the stamp that a restart's table reads
  unfoldable pub stamp_read_holds : ℕ → ℕ
  stamp_read_holds a = stamp_of (best none (cands_of a (candidates p m (segments p v m))))

  of_address : (x : Cand) (a : ℕ) → Has x (cands_of a cands_seen) → Has x cands_seen × (x.address ≡ a)
  unfolding cands_of
  of_address x a i = let q : Has x cands_seen × (eqb x.address a ≡ true) = keep_has (λ (c : Cand). eqb c.address a) x cands_seen i in (q.0, eqb-true x.address a q.1)

  at_address : (x : Cand) (a : ℕ) → Has x cands_seen → x.address ≡ a → Has x (cands_of a cands_seen)
  unfolding cands_of
  at_address x a i e = has_keep (λ (c : Cand). eqb c.address a) x cands_seen i (eq-eqb x.address a e)

  pub winner : (a : ℕ) → (best none (cands_of a cands_seen) ≡ none) ⊎ ((w : Cand) × (best none (cands_of a cands_seen) ≡ some w) × From w × (w.address ≡ a))
  winner a = ⊎_elim (λ (e : cands_of a cands_seen ≡ []). inl (ap (best none) e ∙ nothing))
      (λ (h : (w : Cand) × (best none (cands_of a cands_seen) ≡ some w) × Has w (cands_of a cands_seen) × ((c : Cand) → Has c (cands_of a cands_seen) → c.stamp ≤ w.stamp)).
      inr (h.0, h.1, cands_from h.0 (of_address h.0 a h.2).0, (of_address h.0 a h.2).1)) (best_none (cands_of a cands_seen))
    where
      nothing : best none [] ≡ none
      nothing = unfold best in refl

  pub reads : Reads (par_of p r off) g.hd u (is_in m) stamp_read_holds
  unfolding stamp_read_holds
  reads = record { most = most; some = some? }
    where
      same : candidates p m (segments p v m) ≡ cands_seen
      same = unfold cands_seen in refl

      K : ℕ → ℕ
      K a = stamp_of (best none (cands_of a cands_seen))

      is : (a : ℕ) → stamp_of (best none (cands_of a (candidates p m (segments p v m)))) ≡ K a
      is a = ap (λ (l : List Cand). stamp_of (best none (cands_of a l))) same

      most : (x : Val) → Counted (par_of p r off) g.hd u (is_in m) x → x.stamp ≤ stamp_of (best none (cands_of x.addr (candidates p m (segments p v m))))
      most x q =
          let y : (y : Cand) × Has y cands_seen × (y.address ≡ x.addr) × (y.stamp ≡ x.stamp) = of_counted x q in
          let i : Has y.0 (cands_of x.addr cands_seen) = at_address y.0 x.addr y.1 y.2 in
          rw (is x.addr) (⊎_elim (λ (e : cands_of x.addr cands_seen ≡ []). absurd (subst (λ (l : List Cand). Has y.0 l) e i))
          (λ (h : (w : Cand) × (best none (cands_of x.addr cands_seen) ≡ some w) × Has w (cands_of x.addr cands_seen)
          × ((c : Cand) → Has c (cands_of x.addr cands_seen) → c.stamp ≤ w.stamp)).
          rw (h.1, stamp_some) (omega (arith, h.3 y.0 i, y.3))) (best_none (cands_of x.addr cands_seen)))

      some? : (a : ℕ) → (stamp_of (best none (cands_of a (candidates p m (segments p v m)))) ≡ 0)
          ⊎ ((x : Val) × Counted (par_of p r off) g.hd u (is_in m) x × (x.addr ≡ a) × (x.stamp ≡ stamp_of (best none (cands_of a (candidates p m (segments p v m))))))
      some? a = rw (is a) (⊎_elim (λ (e : best none (cands_of a cands_seen) ≡ none). inl (ap stamp_of e ∙ stamp_none))
          (λ (h : (w : Cand) × (best none (cands_of a cands_seen) ≡ some w) × From w × (w.address ≡ a)).
          let y : (y : Val) × Counted (par_of p r off) g.hd u (is_in m) y × (y.addr ≡ h.0.address) × (y.stamp ≡ h.0.stamp) = counted_of h.0 h.2 in
          inr (y.0, y.1, y.2 ∙ h.3, y.3 ∙ sym (ap stamp_of h.1 ∙ stamp_some h.0))) (winner a))
