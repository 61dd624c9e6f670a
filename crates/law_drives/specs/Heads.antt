-- What becomes of the segments that there are where zones get a header or lose it (02, item 4): serial by serial.
use Rattle.std.specs.Prelude.{◌≡◌, Bool, true, false, ◌&&◌, ◌⊎◌, ◌≢◌, ℕ, ◌<◌, eqb}
use Rattle.std.proofs.Math.Path.{sym}
use Rattle.std.proofs.Common.{ap, ap₂, ◌∙◌, subst, inl, inr, arith, ne_eqb}
use Rattle.std.proofs.Math.Decide.{ℕ_discrete}
use Rattle.spec.specs.declared.Params.{Params}
use Rattle.spec.specs.declared.Seg.{Seg}
use Rattle.spec.specs.Drives.{View, seg_with, zone_on}
use Rattle.spec.specs.Lists.{below, first_or}
use Rattle.spec.specs.Segments.{is_used, serial_in, bearing, lowest_bearing, zone_for, seg_for}
use Rattle.law_basic.specs.Geometry.{Ranged}
use Rattle.law_basic.specs.Mask.{is_in_empty}
use Rattle.law_basic.specs.Ranges.{Test, test}
use Rattle.law_basic.specs.Ranges.Test.{yes!, no! }
use Rattle.law_basic.specs.Segs.{with_zone, with_same}
use Rattle.law_drives.specs.Gather.{Borne, borne_is, for_here, GatherLeft, left_in, in_left_by_1}
use Rattle.law_drives.specs.Members.{keep_cong, below_in}
use Rattle.law_drives.specs.Settled.{zero_here, there_once}
use Rattle.law_drives.specs.Tests.{clash, and_false_left, and_false_right}
use Rattle.law_drives.specs.Tidy.{There}

-- ---- a segment that there is, by its serial

module _ (p : Params) (r : Ranged p) where
  pub there_for : (v : View) (s : ℕ) → ((d : ℕ) → d < p.N → lowest_bearing p v d s < p.Z) → There p v (seg_for p v 0 s)
  there_for v s h = in_left_by_1 p v 0 (zero_here p r) s (λ d k _. h d k)

  pub there_left : (v : View) (g : Seg) → There p v g → GatherLeft p v 0 g
  there_left v g m = left_in p v 0 (zero_here p r) g m

  -- the lowest zone that bears its serial is its zone
  pub there_lowest : (v : View) (g : Seg) (m : There p v g) (d : ℕ) → d < p.N → lowest_bearing p v d (there_left v g m).serial ≡ zone_on g d
  there_lowest v g m d h = let l = there_left v g m in borne_is p v d l.serial (zone_on g d) (l.on d h (is_in_empty d))

  pub same_seg_for : (v u : View) (s : ℕ) → ((d : ℕ) → d < p.N → lowest_bearing p v d s ≡ lowest_bearing p u d s) → seg_for p v 0 s ≡ seg_for p u 0 s
  unfolding seg_for
  same_seg_for v u s h = with_same p (zone_for p v 0 s) (zone_for p u 0 s) (λ d k. at v d k ∙ h d k ∙ sym (at u d k))
    where
      at : (w : View) (d : ℕ) → d < p.N → zone_for p w 0 s d ≡ lowest_bearing p w d s
      at w d k = sym (with_zone p (zone_for p w 0 s) d k) ∙ (unfold seg_for in for_here p w 0 s d k (is_in_empty d))

  -- where a serial's lowest zones are the same, so is its segment
  pub there_goes : (v u : View) (g : Seg) (m : There p v g) → ((d : ℕ) → d < p.N
      → lowest_bearing p v d (there_left v g m).serial ≡ lowest_bearing p u d (there_left v g m).serial) → There p u g
  there_goes v u g m h =
      let l = there_left v g m in
      subst (There p u) (sym (l.is_for ∙ same_seg_for v u l.serial h))
      (there_for u l.serial (λ d k. subst (λ (n : ℕ). n < p.Z) (sym (there_lowest v g m d k) ∙ h d k) (l.on d k (is_in_empty d)).zone_low))

-- ---- the zones that bear one serial

-- on drive d, just the same zones bear serial s
abbrev pub SameBears : Params → View → View → ℕ → ℕ → Type 0
SameBears p v u d s = (z : ℕ) → z < p.Z → (is_used p v d z && eqb (serial_in p v d z) s) ≡ (is_used p u d z && eqb (serial_in p u d z) s)

pub same_bears : (p : Params) (v u : View) (d s : ℕ) → SameBears p v u d s → lowest_bearing p v d s ≡ lowest_bearing p u d s
unfolding lowest_bearing bearing
same_bears p v u d s h = ap (first_or p.Z)
    (keep_cong (λ z. is_used p v d z && eqb (serial_in p v d z) s) (λ z. is_used p u d z && eqb (serial_in p u d z) s) (below p.Z) (λ z m. h z (below_in p.Z z m)))

-- a zone that is as it was
bears_kept : (p : Params) (v u : View) (d s z : ℕ) → is_used p v d z ≡ is_used p u d z → (is_used p v d z ≡ true → serial_in p v d z ≡ serial_in p u d z)
    → (is_used p v d z && eqb (serial_in p v d z) s) ≡ (is_used p u d z && eqb (serial_in p u d z) s)
bears_kept p v u d s z a b = go (test (is_used p v d z))
  where
    go : Test (is_used p v d z) → (is_used p v d z && eqb (serial_in p v d z) s) ≡ (is_used p u d z && eqb (serial_in p u d z) s)
    go (yes! q) = ap₂ (λ (x : Bool) (n : ℕ). x && eqb n s) a (b q)
    go (no! q) = and_false_left (is_used p v d z) (eqb (serial_in p v d z) s) q ∙ sym (and_false_left (is_used p u d z) (eqb (serial_in p u d z) s) (sym a ∙ q))

-- a zone that bears another serial, or none
bears_not : (p : Params) (v : View) (d s z : ℕ) → (is_used p v d z ≡ true → serial_in p v d z ≡ s → ⊥) → (is_used p v d z && eqb (serial_in p v d z) s) ≡ false
bears_not p v d s z n = go (test (is_used p v d z))
  where
    go : Test (is_used p v d z) → (is_used p v d z && eqb (serial_in p v d z) s) ≡ false
    go (yes! q) = and_false_right (is_used p v d z) (eqb (serial_in p v d z) s) (ne_eqb (serial_in p v d z) s (n q))
    go (no! q) = and_false_left (is_used p v d z) (eqb (serial_in p v d z) s) q

-- ---- zones that get the header of a new serial

-- v becomes u: on each drive d zone f d gets a header with serial s, which no zone had
pub record Headed (p : Params) (v u : View) (s : ℕ) (f : ℕ → ℕ) : Type 0 where
  pub head_low : (d : ℕ) → d < p.N → f d < p.Z
  pub head_unused : (d : ℕ) → d < p.N → is_used p v d (f d) ≡ false
  pub head_used : (d : ℕ) → d < p.N → is_used p u d (f d) ≡ true
  pub head_serial : (d : ℕ) → d < p.N → serial_in p u d (f d) ≡ s
  pub other_used : (d z : ℕ) → d < p.N → z < p.Z → z ≢ f d → is_used p v d z ≡ is_used p u d z
  pub other_serial : (d z : ℕ) → d < p.N → z < p.Z → z ≢ f d → is_used p v d z ≡ true → serial_in p v d z ≡ serial_in p u d z
  pub serial_fresh : (d z : ℕ) → d < p.N → z < p.Z → is_used p v d z ≡ true → serial_in p v d z ≡ s → ⊥

module _ (p : Params) (r : Ranged p) (v u : View) (s : ℕ) (f : ℕ → ℕ) (h : Headed p v u s f) where
  pub headed_other : (d t : ℕ) → d < p.N → t ≢ s → lowest_bearing p v d t ≡ lowest_bearing p u d t
  headed_other d t k n = same_bears p v u d t (λ z l. go z l (ℕ_discrete z (f d)))
    where
      go : (z : ℕ) → z < p.Z → Dec (z ≡ f d) → (is_used p v d z && eqb (serial_in p v d z) t) ≡ (is_used p u d z && eqb (serial_in p u d z) t)
      go z l (no x) = bears_kept p v u d t z (h.other_used d z k l x) (h.other_serial d z k l x)
      go z l (yes e) =
          bears_not p v d t z (λ q _. clash q (ap (is_used p v d) e ∙ h.head_unused d k))
          ∙ sym (bears_not p u d t z (λ _ q. n (sym q ∙ ap (serial_in p u d) e ∙ h.head_serial d k)))

  pub headed_new : (d : ℕ) → d < p.N → lowest_bearing p u d s ≡ f d
  headed_new d k = borne_is p u d s (f d) (record {
    zone_low = h.head_low d k;
    used = h.head_used d k;
    serial = h.head_serial d k;
    first = λ z l q e. let x : z ≢ f d = (λ i. let y : ⊥ = omega arith in y) in let b = h.head_low d k in
        let a : is_used p v d z ≡ true = h.other_used d z k (omega arith) x ∙ q in
        h.serial_fresh d z k (omega arith) a (h.other_serial d z k (omega arith) x a ∙ e);
  })

  pub new_seg_for : seg_for p u 0 s ≡ seg_with p f
  new_seg_for = with_eq ∙ with_same p (λ d. lowest_bearing p u d s) f headed_new
    where
      with_eq : seg_for p u 0 s ≡ seg_with p (λ d. lowest_bearing p u d s)
      with_eq = unfold seg_for in with_same p (zone_for p u 0 s) (λ d. lowest_bearing p u d s)
          (λ d k. sym (with_zone p (zone_for p u 0 s) d k) ∙ for_here p u 0 s d k (is_in_empty d))

  -- a serial that was there is another
  heads_old_serial : (g : Seg) (m : There p v g) → (there_left p r v g m).serial ≢ s
  heads_old_serial g m e =
      let b = (there_left p r v g m).on 0 (omega (arith, r.drives_low)) (is_in_empty 0) in
      h.serial_fresh 0 (zone_on g 0) (omega (arith, r.drives_low)) b.zone_low b.used (b.serial ∙ e)

  pub headed_keeps : (g : Seg) → There p v g → There p u g
  headed_keeps g m = there_goes p r v u g m (λ d k. headed_other d (there_left p r v g m).serial k (heads_old_serial g m))

  pub headed_there : There p u (seg_with p f)
  headed_there = subst (There p u) new_seg_for (there_for p r u s (λ d k. subst (λ (n : ℕ). n < p.Z) (sym (headed_new d k)) (h.head_low d k)))

  pub headed_was : (g : Seg) → There p u g → There p v g ⊎ (g ≡ seg_with p f)
  headed_was g m = go (ℕ_discrete t s)
    where
      t : ℕ
      t = (there_left p r u g m).serial

      go : Dec (t ≡ s) → There p v g ⊎ (g ≡ seg_with p f)
      go (yes e) = inr ((there_left p r u g m).is_for ∙ ap (seg_for p u 0) e ∙ new_seg_for)
      go (no n) = inl (there_goes p r u v g m (λ d k. sym (headed_other d t k n)))

-- ---- zones of one segment that are emptied

-- v becomes u: the zones of segment g, the only ones with its serial, are empty now
pub record HeadsEmptied (p : Params) (v u : View) (g : Seg) : Type 0 where
  pub was_there : There p v g
  pub gone_now : (d : ℕ) → d < p.N → is_used p u d (zone_on g d) ≡ false
  pub kept_used : (d z : ℕ) → d < p.N → z < p.Z → z ≢ zone_on g d → is_used p v d z ≡ is_used p u d z
  pub kept_serial : (d z : ℕ) → d < p.N → z < p.Z → z ≢ zone_on g d → is_used p v d z ≡ true → serial_in p v d z ≡ serial_in p u d z
  pub alone : (d z : ℕ) → d < p.N → z < p.Z → z ≢ zone_on g d → is_used p v d z ≡ true → serial_in p v d z ≡ serial_in p v d (zone_on g d) → ⊥

module _ (p : Params) (r : Ranged p) (v u : View) (g : Seg) (h : HeadsEmptied p v u g) where
  abbrev s : ℕ
  s = (there_left p r v g h.was_there).serial

  its_serial_in : (d : ℕ) → d < p.N → serial_in p v d (zone_on g d) ≡ s
  its_serial_in d k = ((there_left p r v g h.was_there).on d k (is_in_empty d)).serial

  emptied_other : (d t : ℕ) → d < p.N → t ≢ s → lowest_bearing p v d t ≡ lowest_bearing p u d t
  emptied_other d t k n = same_bears p v u d t (λ z l. go z l (ℕ_discrete z (zone_on g d)))
    where
      go : (z : ℕ) → z < p.Z → Dec (z ≡ zone_on g d) → (is_used p v d z && eqb (serial_in p v d z) t) ≡ (is_used p u d z && eqb (serial_in p u d z) t)
      go z l (no x) = bears_kept p v u d t z (h.kept_used d z k l x) (h.kept_serial d z k l x)
      go z l (yes e) =
          bears_not p v d t z (λ _ q. n (sym q ∙ ap (serial_in p v d) e ∙ its_serial_in d k))
          ∙ sym (bears_not p u d t z (λ q _. clash q (ap (is_used p u d) e ∙ h.gone_now d k)))

  -- no zone has its serial now
  pub emptied_none : (d z : ℕ) → d < p.N → z < p.Z → is_used p u d z ≡ true → serial_in p u d z ≡ s → ⊥
  emptied_none d z k l q e = go (ℕ_discrete z (zone_on g d))
    where
      go : Dec (z ≡ zone_on g d) → ⊥
      go (yes i) = clash q (ap (is_used p u d) i ∙ h.gone_now d k)
      go (no n) = let a = h.kept_used d z k l n ∙ q in h.alone d z k l n a (h.kept_serial d z k l n a ∙ e ∙ sym (its_serial_in d k))

  pub emptied_keeps : (y : Seg) → There p v y → (g ≡ y → ⊥) → There p u y
  emptied_keeps y m n = there_goes p r v u y m (λ d k. emptied_other d (there_left p r v y m).serial k other)
    where
      other : (there_left p r v y m).serial ≢ s
      other e = n ((there_left p r v g h.was_there).is_for ∙ ap (seg_for p v 0) (sym e) ∙ sym (there_left p r v y m).is_for)

  pub emptied_was : (y : Seg) → There p u y → There p v y × (g ≡ y → ⊥)
  emptied_was y m = (
    there_goes p r u v y m (λ d k. sym (emptied_other d t k other)),
    (λ e. other (sym (serial_on u y m 0 h0) ∙ same e)),
  )
    where
      h0 : 0 < p.N
      h0 = omega (arith, r.drives_low)

      t : ℕ
      t = (there_left p r u y m).serial

      serial_on : (w : View) (y : Seg) (m : There p w y) (d : ℕ) → d < p.N → serial_in p w d (zone_on y d) ≡ (there_left p r w y m).serial
      serial_on w y m d k = ((there_left p r w y m).on d k (is_in_empty d)).serial

      other : t ≢ s
      other e = let b = (there_left p r u y m).on 0 h0 (is_in_empty 0) in emptied_none 0 (zone_on y 0) h0 b.zone_low b.used (b.serial ∙ e)

      same : g ≡ y → serial_in p u 0 (zone_on y 0) ≡ s
      same e = absurd (clash ((there_left p r u y m).on 0 h0 (is_in_empty 0)).used (ap (λ (x : Seg). is_used p u 0 (zone_on x 0)) (sym e) ∙ h.gone_now 0 h0))

-- ---- zones that no remaining segment has are emptied

-- v becomes u: just the zones of the segments gs stay as they were, all others are empty
pub record Cleared (p : Params) (v u : View) (Stays : Seg → Type 0) : Type 0 where
  pub stays_there : (g : Seg) → Stays g → There p v g
  pub stays_used : (d : ℕ) (g : Seg) → d < p.N → Stays g → is_used p u d (zone_on g d) ≡ true
  pub stays_serial : (d : ℕ) (g : Seg) → d < p.N → Stays g → serial_in p v d (zone_on g d) ≡ serial_in p u d (zone_on g d)
  pub others_gone : (d z : ℕ) → d < p.N → z < p.Z → is_used p u d z ≡ true → (g : Seg) × Stays g × (zone_on g d ≡ z)

module _ (p : Params) (r : Ranged p) (v u : View) (Stays : Seg → Type 0) (h : Cleared p v u Stays) where
  stays_borne : (g : Seg) (k : Stays g) (d : ℕ) → d < p.N → Borne p u d (there_left p r v g (h.stays_there g k)).serial (zone_on g d)
  stays_borne g k d hd =
      let b = (there_left p r v g (h.stays_there g k)).on d hd (is_in_empty d) in
      record {
        zone_low = b.zone_low;
        used = h.stays_used d g hd k;
        serial = sym (h.stays_serial d g hd k) ∙ b.serial;
        first = λ z l q e.
            let (y, ky, i) = h.others_gone d z hd (let x = b.zone_low in omega arith) q in
            let by = (there_left p r v y (h.stays_there y ky)).on d hd (is_in_empty d) in
            b.first z l (subst (λ (n : ℕ). is_used p v d n ≡ true) i by.used)
            (subst (λ (n : ℕ). serial_in p v d n ≡ serial_in p u d n) i (h.stays_serial d y hd ky) ∙ e);
      }

  pub cleared_keeps : (g : Seg) → Stays g → There p u g
  cleared_keeps g k = there_goes p r v u g (h.stays_there g k)
      (λ d hd. there_lowest p r v g (h.stays_there g k) d hd ∙ sym (borne_is p u d (there_left p r v g (h.stays_there g k)).serial (zone_on g d) (stays_borne g k d hd)))

  pub cleared_was : (g : Seg) → There p u g → Stays g
  cleared_was g m =
      let h0 : 0 < p.N = omega (arith, r.drives_low) in
      let b = (there_left p r u g m).on 0 h0 (is_in_empty 0) in
      let (y, k, i) = h.others_gone 0 (zone_on g 0) h0 b.zone_low b.used in
      subst Stays (there_once p r u y g 0 (cleared_keeps y k) m h0 i) k
