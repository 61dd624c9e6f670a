-- Decoding from the chunks that the table shows (01, Read; Refusals, 9). Assumes nothing.
use Rattle.std.specs.Prelude.{◌≡◌, List, Bool, true, false, ◌&&◌, ℕ, ◌+◌, ◌-◌, ◌≤◌, ◌<◌, length, get_or, Option, Some, None, is_none, unwrap_or, IfSome, MatchOption}
use Rattle.std.proofs.Math.Path.{sym, ap}
use Rattle.std.proofs.Common.{◌∙◌, arith}
use Rattle.std.proofs.Math.Bool.{not}
use Rattle.std.proofs.Math.Dec.{eqb}
use Rattle.spec.specs.declared.Params.{Params}
use Rattle.spec.specs.Bytes.{part}
use Rattle.spec.specs.Drives.{View, view_of, mk_disk, zone_at, chunk_at, zone_on, sealed_in, record_in, record_at}
use Rattle.spec.specs.Layout.{Rec}
use Rattle.spec.specs.Lists.{below, any, is_nil, first_or, is_in}
use Rattle.spec.specs.Memory.{shown_at}
use Rattle.spec.specs.Params.{in_range, unit_len, image_len, pointers_len, place_of, place_block, place_drive, place_byte, drives_of, present}
use Rattle.spec.specs.Parity.{Piece, decode_block, decode_piece}
use Rattle.spec.specs.Read.{shown, stored_at, decoded_at}
use Rattle.law_basic.specs.Geometry.{ranged, data_below}
use Rattle.law_basic.specs.Ranges.{any-map, any_false}
use Rattle.law_code.specs.Code.{decode_apart, decode_block_same, decode_same}
use Rattle.disk_code.specs.Folds.{PartsWithin}
use Rattle.law_views.specs.Views.{block_view}
use Rattle.law_scans.specs.Scans.{any-keep}
use Rattle.law_drives.specs.Members.{first_any, in_any, in_none, in_below, below_in}
use Rattle.spec.specs.declared.Seg.{Seg}

-- 01, Refusals, 9: a drive that is present and does not show the stripe
abbrev pub hides : Params → View → ℕ → List ℕ → Seg → ℕ → ℕ → Bool
hides p v gone cs g s d = not (is_in gone d) && is_nil (shown_at p v cs d (zone_on g d) s)

-- 01, What a zone holds: o is the data offset at which the table shows the stripe on drive d, none where it doesn't; any below S on a missing drive
pub record ShownOn (p : Params) (v : View) (gone : ℕ) (cs : List ℕ) (g : Seg) (s d : ℕ) (o : Option ℕ) : Type 0 where
  pub low : IfSome o (λ x. x < p.S)
  pub hidden : is_none o ≡ hides p v gone cs g s d
  pub first : is_in gone d ≡ false → unwrap_or o p.S ≡ first_or p.S (shown_at p v cs d (zone_on g d) s)

-- by drive
pub record ShownBy (p : Params) (v : View) (gone : ℕ) (cs : List ℕ) (g : Seg) (s : ℕ) (at : List ℕ) : Type 0 where
  pub long : length at ≡ 8
  pub shows : (d : ℕ) → d < p.N → ShownOn p v gone cs g s d (Some (get_or at d 0))

-- 01, Refusals, 9: or some present drive does not show the stripe
abbrev pub ShownAll : Params → View → ℕ → List ℕ → Seg → ℕ → Option (List ℕ) → Type 0
ShownAll p v gone cs g s o = MatchOption o (any (hides p v gone cs g s) (below p.N) ≡ true) (ShownBy p v gone cs g s)

-- the same by the offsets, S where a drive does not show it
abbrev pub any_hidden : Params → List ℕ → Bool
any_hidden p at = any (λ d. eqb (get_or at d 0) p.S) (below p.N)

-- the offsets are data offsets
pub record OffsetsLow (p : Params) (at : List ℕ) : Type 0 where
  pub long : length at ≡ 8
  pub low : (d : ℕ) → d < p.N → get_or at d 0 < p.S

module _ (p : Params) (v : View) (gone : ℕ) (cs : List ℕ) (g : Seg) (s : ℕ) where
  -- 01, Refusals, 9: some present drive does not show the stripe
  pub hidden_any : any (hides p v gone cs g s) (below p.N) ≡ any is_nil (shown p v gone cs g s)
  unfolding shown present drives_of
  hidden_any = sym (any-map is_nil (λ d. shown_at p v cs d (zone_on g d) s) (present p gone)
      ∙ any-keep (λ d. not (is_in gone d)) (λ d. is_nil (shown_at p v cs d (zone_on g d) s)) (below p.N))

  pub hidden_here : (d : ℕ) → d < p.N → ShownOn p v gone cs g s d None → any (hides p v gone cs g s) (below p.N) ≡ true
  hidden_here d l h = in_any (hides p v gone cs g s) (below p.N) d (in_below p.N d l) (sym h.hidden)

  module _ (at : List ℕ) (h : ShownBy p v gone cs g s at) where
    pub hidden_none : any (hides p v gone cs g s) (below p.N) ≡ false
    hidden_none = in_none (hides p v gone cs g s) (below p.N) (λ d m. sym (h.shows d (below_in p.N d m)).hidden)

    pub data_offsets : OffsetsLow p at
    data_offsets = record { long = h.long; low = λ d l. (h.shows d l).low }

    module _ (none! : any_hidden p at ≡ false) where
      unhidden : (d : ℕ) → d < p.N → eqb (get_or at d 0) p.S ≡ false
      unfolding below
      unhidden d l = any_false (λ d. eqb (get_or at d 0) p.S) 0 p.N d none! (omega arith) (omega arith)

    shows_it : (d : ℕ) → d < p.N → is_in gone d ≡ false → is_nil (shown_at p v cs d (zone_on g d) s) ≡ false
    shows_it d l n = sym (ap (λ (x : Bool). not x && is_nil (shown_at p v cs d (zone_on g d) s)) n) ∙ sym (h.shows d l).hidden

    -- 01, Read: the chunks at these offsets are those that the table shows
    pub decodes_from : (d : ℕ) → decoded_at p v gone cs d g s ≡ decode_piece p gone s d (λ e. stored_at p v gone e g (get_or at e 0))
    unfolding decoded_at
    decodes_from d = decode_same p gone s d _ _ (λ e l n. ap (stored_at p v gone e g)
        (sym ((h.shows e l).first n ∙ first_any p.S 0 (shown_at p v cs e (zone_on g e) s) (shows_it e l n))))

-- 01, Restart, 3: the record by footer or spare, as the segment is sealed
pub record_as_sealed : (p : Params) (v : View) (gone d : ℕ) (g : Seg) (o : ℕ) (full : Bool) → full ≡ sealed_in p v gone g → (r : Rec)
    → r ≡ record_in p full (zone_at v d (zone_on g d)) o → r ≡ record_at p v gone d g o
unfolding record_at
record_as_sealed p v gone d g o full e r q = q ∙ ap (λ (x : Bool). record_in p x (zone_at v d (zone_on g d)) o) e

-- drive d's block at data offset o of segment g begins at byte y of the image
abbrev pub BlockAt : Params → List ℕ → Seg → ℕ → ℕ → ℕ → Type 0
BlockAt p im g d o y =
    (y + p.B ≤ image_len p) × ((off ps : List ℕ) → length ps ≡ pointers_len p → (chunk_at (view_of p off im ps) d (zone_on g d) (1 + o)).block ≡ part y p.B im)

-- on every present drive
abbrev pub BlocksAt : Params → List ℕ → ℕ → Seg → List ℕ → List ℕ → Type 0
BlocksAt p im gone g at bs = (length bs ≡ 8) × ((d : ℕ) → d < p.N → is_in gone d ≡ false → BlockAt p im g d (get_or at d 0) (get_or bs d 0))

pub block_begins : (p : Params) (im : List ℕ) (g : Seg) (d o y : ℕ) → in_range p ≡ true → length im ≡ image_len p → d < p.N → zone_on g d < p.Z → o < p.S
    → (z : ℕ) → z ≡ zone_on g d → y ≡ place_byte p (place_of p d z (1 + o)) → y + unit_len p ≤ image_len p → BlockAt p im g d o y
unfolding unit_len
block_begins p im g d o y ok h hd hg ho z ez ey l = (
  omega (arith, l),
  λ off ps k. block_view p off (mk_disk im ps) d (zone_on g d) hd hg (record { image_long = h; pointers_long = k }) (1 + o) (data_below p (ranged p ok) (1 + o) (omega arith))
      ∙ sym (ap (λ (x : ℕ). part x p.B im) (ey ∙ ap (λ (x : ℕ). place_byte p (place_of p d x (1 + o))) ez)),
)

-- 01, Read: the block of the missing drive at place q, decoded from those that begin at these bytes
unfoldable pub lost_block : Params → List ℕ → ℕ → ℕ → List ℕ → List ℕ
lost_block p im gone q bs = decode_block p gone (place_block p q - 1) (place_drive p q) (λ e. part (get_or bs e 0) p.B im)

-- the bytes of the blocks to decode from lie in the image, and b is the block decoded
pub record LostAt (p : Params) (im : List ℕ) (gone q : ℕ) (b bs : List ℕ) : Type 0 where
  pub long : length bs ≡ 8
  pub within : PartsWithin gone p.N bs p.B (image_len p)
  pub decoded : b ≡ lost_block p im gone q bs

-- 01, Read: what the chunks at these offsets decode to
pub lost-at : (p : Params) (off im ps : List ℕ) (gone q : ℕ) (g : Seg) (at bs : List ℕ) → length ps ≡ pointers_len p → BlocksAt p im gone g at bs
    → LostAt p im gone q (decode_piece p gone (place_block p q - 1) (place_drive p q) (λ e. stored_at p (view_of p off im ps) gone e g (get_or at e 0))).block bs
unfolding stored_at lost_block
lost-at p off im ps gone q g at bs h k =
    let s = place_block p q - 1 in
    let d = place_drive p q in
    let v = view_of p off im ps in
    record {
      long = k.0;
      within = λ e l n. (k.1 e l n).0;
      decoded =
          ap (λ (x : Piece). x.block) (decode_apart p gone s d (λ e. stored_at p v gone e g (get_or at e 0)))
          ∙ decode_block_same p gone s d (λ e. (chunk_at v e (zone_on g e) (1 + get_or at e 0)).block) (λ e. part (get_or bs e 0) p.B im) (λ e l n. (k.1 e l n).1 off ps h);
    }
