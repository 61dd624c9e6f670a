-- Chunks read, moved and in flight: as they stand, or by the code (01, Restart, 3 and 4; Landing; Write). Assumes nothing.
use Rattle.std.specs.Prelude.{◌≡◌, List, [], true, false, ℕ, get_or}
use Rattle.std.proofs.Math.Path.{refl}
use Rattle.std.proofs.Common.{ap, ◌∙◌}
use Rattle.spec.specs.declared.Params.{Params}
use Rattle.spec.specs.declared.State.{State}
use Rattle.spec.specs.Landing.{flight_rec}
use Rattle.spec.specs.Layout.{data_position, is_data, parity_position, Rec, mk_rec}
use Rattle.spec.specs.Lists.{is_in}
use Rattle.spec.specs.Memory.{stripe_in, entry_in_of, entries_in}
use Rattle.spec.specs.Parity.{Piece, mk_piece, encode_rec, encode_piece, decode_rec, decode_piece}
use Rattle.spec.specs.Restart.{moved_on}
use Rattle.spec.specs.Segments.{Segment, stored_piece, piece_of, stored_rec, rec_of}
use Rattle.law_basic.specs.Ranges.{Test, test}
use Rattle.law_basic.specs.Ranges.Test.{yes!, no! }
use Rattle.law_code.specs.Code.{encode_stripe}

-- ---- read: stored on a present drive, decoded on a missing one

module _ (p : Params) (gone : ℕ) (g : Segment) (s d : ℕ) where
  pub chunk_stored : is_in gone d ≡ false → piece_of p gone g s d ≡ stored_piece g s d
  unfolding piece_of
  chunk_stored e = rw e

  pub chunk_decoded : is_in gone d ≡ true → piece_of p gone g s d ≡ decode_piece p gone s d (stored_piece g s)
  unfolding piece_of
  chunk_decoded e = rw e

  pub rec_here : is_in gone d ≡ false → rec_of p gone g s d ≡ stored_rec g s d
  unfolding rec_of
  rec_here e = rw e

  pub rec_lost : is_in gone d ≡ true → rec_of p gone g s d ≡ decode_rec p gone s d (stored_rec g s)
  unfolding rec_of
  rec_lost e = rw e

-- ---- moved by a restart

module _ (p : Params) (qs : List Piece) (k d : ℕ) where
  pub moved_is_data : is_data p k d ≡ true → moved_on p qs k d ≡ get_or qs (data_position p k d) (mk_piece [] (mk_rec 0 0 0))
  unfolding moved_on
  moved_is_data e = rw e

  pub moved_is_parity : is_data p k d ≡ false → moved_on p qs k d ≡ encode_piece p (parity_position p k d) k qs
  unfolding moved_on
  moved_is_parity e = rw e

-- ---- in flight

module _ (p : Params) (st : State) (i d : ℕ) where
  pub flight_data : is_data p (stripe_in st i) d ≡ true → flight_rec p st i d ≡ entry_in_of st i (data_position p (stripe_in st i) d)
  unfolding flight_rec
  flight_data e = rw e

  pub flight_parity : is_data p (stripe_in st i) d ≡ false → flight_rec p st i d ≡ encode_rec (parity_position p (stripe_in st i) d) (stripe_in st i) (entries_in st i)
  unfolding flight_rec
  flight_parity e = rw e

  pub flight_stripe : (flight_rec p st i d).stripe ≡ stripe_in st i
  flight_stripe = go (test (is_data p (stripe_in st i) d))
    where
      entry : (k : ℕ) → (entry_in_of st i k).stripe ≡ stripe_in st i
      entry k = unfold entry_in_of in refl

      go : Test (is_data p (stripe_in st i) d) → (flight_rec p st i d).stripe ≡ stripe_in st i
      go (yes! e) = ap (λ (x : Rec). x.stripe) (flight_data e) ∙ entry (data_position p (stripe_in st i) d)
      go (no! e) = ap (λ (x : Rec). x.stripe) (flight_parity e) ∙ encode_stripe (parity_position p (stripe_in st i) d) (stripe_in st i) (entries_in st i)
