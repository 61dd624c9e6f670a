-- What the checks of both reads leave: a refusal, or where the address lies, with the stamp (01, Read; Refusals; 02, item 2). Assumes nothing.
use Rattle.std.specs.Prelude.{◌≡◌, Bool, ℕ, ◌-◌, length, get_or, Result, Ok, Err, IsErrAnd}
use Rattle.std.proofs.Math.Path.{refl, sym, ap, ap₂, subst}
use Rattle.std.proofs.Common.{◌∙◌}
use mathlib.Core.List.{List, [], ◌∷◌}
use Rattle.std.proofs.Math.Bool.{true, false}
use Rattle.spec.specs.declared.Params.{Params}
use Rattle.spec.specs.declared.Place.{Place}
use Rattle.mem_calls.specs.Left.{checked}
use Rattle.mem_calls.specs.declared.Refusal.{Refusal}
use Rattle.mem_calls.specs.declared.Refusal.TheVariants.{BadZone}
use Rattle.spec.specs.Calls.{first_refusal}
use Rattle.spec.specs.Calls.Check.{zones}
use Rattle.spec.specs.Drives.{View, view_of, record_at}
use Rattle.spec.specs.Layout.{Rec}
use Rattle.spec.specs.Lists.{any, below, cons_if, is_nil}
use Rattle.spec.specs.Lists.Opt.{none}
use Rattle.spec.specs.Params.{pointers_len, place_block, place_zone, place_drive}
use Rattle.spec.specs.Parity.{Piece, decode_rec, decode_piece}
use Rattle.spec.specs.Read.{Found, place_faults, found_faults, shown, stored_at, decoded_at, decode_faults, read_piece}
use Rattle.spec.specs.Segments.{place_segment, place_record}
use Rattle.spec.specs.Read.Found.{nowhere, here, away}
use Rattle.disk_records.specs.Record.{rec_val}
use Rattle.disk_records.specs.declared.Record.{Record}
use Rattle.law_calls.specs.Refusals.{zone_fails, zones_pass, none_left}
use Rattle.law_code.specs.Code.{decode_apart}
use Rattle.call_read.specs.Decode.{ShownBy, hides, BlocksAt, LostAt, hidden_any, hidden_none, decodes_from, lost-at}
use Rattle.call_read.specs.declared.Sought.{Sought}
use Rattle.call_read.specs.declared.Sought.TheVariants.{Never, Here, Away}
use Rattle.spec.specs.declared.Seg.{Seg}

-- 02, item 2: unless it is refused: that the address lies at f, the stamp there, and that the block of a missing drive is decoded from those at these bytes
abbrev pub Gives : Params → List ℕ → View → ℕ → List ℕ → Found → Result Sought Refusal → List ℕ → Type 0
Gives p im v gone cs f (Err r) bs = Unit {0}
Gives p im v gone cs f (Ok Never) bs = f ≡ nowhere
Gives p im v gone cs f (Ok (Here q t)) bs = (f ≡ here q.0) × (t.0 ≡ (read_piece p v gone cs f).rec.stamp)
Gives p im v gone cs f (Ok (Away q t)) bs = (f ≡ away q.0) × (t.0 ≡ (read_piece p v gone cs f).rec.stamp) × LostAt p im gone q.0 (read_piece p v gone cs f).block bs

-- what a `?` returns gives nothing
pub gives_none : (p : Params) (im : List ℕ) (v : View) (gone : ℕ) (cs : List ℕ) (f : Found) (r : Result Sought Refusal) (bs : List ℕ) (e : Refusal)
    → IsErrAnd r (λ y. y ≡ e) → Gives p im v gone cs f r bs
gives_none p im v gone cs f (Ok s) bs e h = absurd h
gives_none p im v gone cs f (Err r) bs e h = tt

-- 01, Refusals, 9: the decode's check, the last of both reads
abbrev pub Seeks : Params → List ℕ → View → ℕ → List ℕ → Found → Result Sought Refusal → List ℕ → Type 0
Seeks p im v gone cs f r bs = (checked r ≡ first_refusal (zones (decode_faults p v gone cs f) ∷ [])) × Gives p im v gone cs f r bs

-- 01, Refusals, 9: with that of the place before it
abbrev pub SeeksAll : Params → List ℕ → View → ℕ → List ℕ → Found → Result Sought Refusal → List ℕ → Type 0
SeeksAll p im v gone cs f r bs =
    (checked r ≡ first_refusal (zones (found_faults p v gone f) ∷ zones (decode_faults p v gone cs f) ∷ [])) × Gives p im v gone cs f r bs

-- a place at fault is refused, at another the last check is left
module _ (p : Params) (im : List ℕ) (v : View) (gone : ℕ) (cs : List ℕ) (f : Found) (bs : List ℕ) where
  pub seeks_bad : (z : ℕ) → found_faults p v gone f ≡ z ∷ [] → SeeksAll p im v gone cs f (Err (BadZone z)) bs
  seeks_bad z e = (
    sym (ap (λ (x : List ℕ). first_refusal (zones x ∷ zones (decode_faults p v gone cs f) ∷ [])) e ∙ zone_fails z (zones (decode_faults p v gone cs f) ∷ [])),
    tt,
  )

  pub seeks_fine : (r : Result Sought Refusal) → found_faults p v gone f ≡ [] → Seeks p im v gone cs f r bs → SeeksAll p im v gone cs f r bs
  seeks_fine r e h = (h.0 ∙ sym (zones_pass (found_faults p v gone f) (zones (decode_faults p v gone cs f) ∷ []) e), h.1)

nothing_hidden : none ≡ first_refusal (zones [] ∷ [])
nothing_hidden = sym (zones_pass [] [] refl ∙ none_left)

module _ (p : Params) (im : List ℕ) (v : View) (gone : ℕ) (cs : List ℕ) (bs : List ℕ) where
  pub seeks_nowhere : SeeksAll p im v gone cs nowhere (Ok Never) bs
  unfolding decode_faults found_faults
  seeks_nowhere = seeks_fine p im v gone cs nowhere bs (Ok Never) refl (nothing_hidden, refl)

  -- 02, item 2: the stamp by footer or spare
  pub seeks_here : (q : Place) (r : Record) → place_faults p v gone q.0 ≡ [] → rec_val r ≡ place_record p v gone q.0 → SeeksAll p im v gone cs (here q.0) (Ok (Here q r.stamp)) bs
  unfolding decode_faults found_faults read_piece stored_at
  seeks_here q r h e = seeks_fine p im v gone cs (here q.0) bs (Ok (Here q r.stamp)) h (nothing_hidden, (refl, ap (λ (x : Rec). x.stamp) e))

-- 01, Read: a place on the missing drive, of drive d, segment g and stripe s
module _ (p : Params) (off im ps : List ℕ) (gone : ℕ) (cs : List ℕ) (q : Place) (d : ℕ) (g : Seg) (s : ℕ) (ed : d ≡ place_drive p q.0)
    (eg : place_segment p (view_of p off im ps) gone q.0 ≡ g) (es : s ≡ place_block p q.0 - 1) where
  abbrev v : View
  v = view_of p off im ps

  abbrev stripe : ℕ
  stripe = place_block p q.0 - 1

  lost_faults : (z : ℕ) → z ≡ place_zone p q.0 → (b : Bool) → any (hides p v gone cs g s) (below p.N) ≡ b → decode_faults p v gone cs (away q.0) ≡ cons_if b z []
  unfolding decode_faults
  lost_faults z ez b e =
      ap₂ (λ (x : Bool) (y : ℕ). cons_if x y [])
      (ap (λ (x : Seg). any is_nil (shown p v gone cs x stripe)) eg ∙ ap (λ (x : ℕ). any is_nil (shown p v gone cs g x)) (sym es) ∙ sym (hidden_any p v gone cs g s) ∙ e) (sym ez)

  pub seeks_hidden : (z : ℕ) → z ≡ place_zone p q.0 → any (hides p (view_of p off im ps) gone cs g s) (below p.N) ≡ true → (bs : List ℕ)
      → Seeks p im (view_of p off im ps) gone cs (away q.0) (Err (BadZone z)) bs
  unfolding cons_if
  seeks_hidden z ez e bs = (sym (ap (λ (x : List ℕ). first_refusal (zones x ∷ [])) (lost_faults z ez true e) ∙ zone_fails z []), tt)

  -- with the offsets at which the table shows it
  module _ (at : List ℕ) (h : ShownBy p (view_of p off im ps) gone cs g s at) where
    shown-at_place : ShownBy p v gone cs g stripe at
    shown-at_place = subst (λ (x : ℕ). ShownBy p v gone cs g x at) es h

    lost_record : decode_rec p gone s d (λ e. record_at p v gone e g (get_or at e 0)) ≡ (decode_piece p gone stripe (place_drive p q.0) (λ e. stored_at p v gone e g (get_or at e 0))).rec
    unfolding stored_at
    lost_record =
        (λ j. decode_rec p gone (es j) (ed j) (λ e. (stored_at p v gone e g (get_or at e 0)).rec))
        ∙ sym (ap (λ (x : Piece). x.rec) (decode_apart p gone stripe (place_drive p q.0) (λ e. stored_at p v gone e g (get_or at e 0))))

    -- 02, item 2: the stamp decoded
    pub seeks_shown : length ps ≡ pointers_len p → (bs : List ℕ) → BlocksAt p im gone g at bs → (r : Record)
        → rec_val r ≡ decode_rec p gone s d (λ e. record_at p (view_of p off im ps) gone e g (get_or at e 0))
        → Seeks p im (view_of p off im ps) gone cs (away q.0) (Ok (Away q r.stamp)) bs
    unfolding cons_if read_piece
    seeks_shown n bs k r f =
        let w = ap (λ (x : Seg). decoded_at p v gone cs (place_drive p q.0) x stripe) eg ∙ decodes_from p v gone cs g stripe at shown-at_place (place_drive p q.0) in (
          nothing_hidden ∙ sym (ap (λ (x : List ℕ). first_refusal (zones x ∷ [])) (lost_faults (place_zone p q.0) refl false (hidden_none p v gone cs g s at h))),
          (
            refl,
            ap (λ (x : Rec). x.stamp) (f ∙ lost_record ∙ sym (ap (λ (x : Piece). x.rec) w)),
            subst (λ (b : List ℕ). LostAt p im gone q.0 b bs) (sym (ap (λ (x : Piece). x.block) w)) (lost-at p off im ps gone q.0 g at bs n k),
          ),
        )
