-- Numbers read from sound zones are small.
use Rattle.std.specs.Prelude.{◌≡◌, Bool, ℕ, zero, suc, ◌+◌, ◌*◌, ◌/◌, ◌%◌, ◌^◌, ◌<◌, drop}
use Rattle.std.proofs.Math.Path.{refl, ap}
use Rattle.std.proofs.Common.{sym, ◌∙◌, subst, inr, arith, get_or-drop}
use mathlib.Core.List.{List, [], ◌∷◌}
use Rattle.std.proofs.Math.Bool.{true, false}
use Rattle.std.proofs.Math.Decide.{dec_lt}
use Rattle.std.proofs.Math.ListN.{get_or, get_or-eq_default}
use Rattle.spec.specs.declared.Params.{Params}
use Rattle.spec.specs.Bytes.{part}
use Rattle.spec.specs.Drives.{Chunk, no_chunk, Zone, blocks_of, spares_of, record_in}
use Rattle.spec.specs.Layout.{Rec, record_of_of, footer_record}
use Rattle.spec.specs.Params.{spare_len, per_footer, capacity}
use Rattle.law_drives.specs.Image.{bytes_part}
use Rattle.law_drives.specs.Laid.{bytes_nil, address_low, stamp_low}
use Rattle.law_drives.specs.Zones.{Bytes, ZoneOk}

pub blocks_at : (cs : List Chunk) (j : ℕ) → get_or (blocks_of cs) j [] ≡ (get_or cs j no_chunk).block
unfolding blocks_of no_chunk
blocks_at [] j = refl
blocks_at (c ∷ cs) zero = refl
blocks_at (c ∷ cs) (suc j) = blocks_at cs j

pub spares_at : (cs : List Chunk) (j : ℕ) → get_or (spares_of cs) j [] ≡ (get_or cs j no_chunk).spare
unfolding spares_of no_chunk
spares_at [] j = refl
spares_at (c ∷ cs) zero = refl
spares_at (c ∷ cs) (suc j) = spares_at cs j

module _ (p : Params) (q : Zone) (k : ZoneOk p q) where
  pub spare_bytes_at : (b : ℕ) → Bytes (get_or q.blocks b no_chunk).spare
  spare_bytes_at b = go (dec_lt b (capacity p))
    where
      nil! : Bytes no_chunk.spare
      nil! = unfold no_chunk in bytes_nil

      go : Dec (b < capacity p) → Bytes (get_or q.blocks b no_chunk).spare
      go (yes h) = (k.sound b h).spare_bytes
      go (no h) = subst (λ (c : Chunk). Bytes c.spare) (sym (get_or-eq_default q.blocks no_chunk {n = b} (let e = k.blocks_long in omega arith))) nil!

  footer_bytes_at : (b : ℕ) → p.S < b → Bytes (get_or q.blocks b no_chunk).block
  footer_bytes_at b l = go (dec_lt b (capacity p))
    where
      nil! : Bytes no_chunk.block
      nil! = unfold no_chunk in bytes_nil

      go : Dec (b < capacity p) → Bytes (get_or q.blocks b no_chunk).block
      go (yes h) = (k.sound b h).block_bytes (inr l)
      go (no h) = subst (λ (c : Chunk). Bytes c.block) (sym (get_or-eq_default q.blocks no_chunk {n = b} (let e = k.blocks_long in omega arith))) nil!

  record_from_bytes : (w : Bool) (o : ℕ) → (l : List ℕ) × Bytes l × (record_in p w q o ≡ record_of_of l)
  unfolding record_in footer_record
  record_from_bytes true o =
      let j = o / per_footer p in
      let e : get_or (blocks_of (drop (1 + p.S) q.blocks)) j [] ≡ (get_or q.blocks (1 + p.S + j) no_chunk).block =
      blocks_at (drop (1 + p.S) q.blocks) j ∙ ap (λ (c : Chunk). c.block) (get_or-drop (1 + p.S) q.blocks j no_chunk) in (
        part (spare_len * (o % per_footer p)) spare_len (get_or (blocks_of (drop (1 + p.S) q.blocks)) j []),
        bytes_part (spare_len * (o % per_footer p)) spare_len (get_or (blocks_of (drop (1 + p.S) q.blocks)) j [])
            (subst (λ (x : List ℕ). Bytes x) (sym e) (footer_bytes_at (1 + p.S + j) (omega arith))),
        refl,
      )
  record_from_bytes false o = ((get_or q.blocks (1 + o) no_chunk).spare, spare_bytes_at (1 + o), refl)

  pub record_low : (w : Bool) (o : ℕ) → ((record_in p w q o).address < 256 ^ 8) × ((record_in p w q o).stamp < 256 ^ 8)
  record_low w o =
      let (l, b, e) = record_from_bytes w o in
      (subst (λ (x : Rec). x.address < 256 ^ 8) (sym e) (address_low l b), subst (λ (x : Rec). x.stamp < 256 ^ 8) (sym e) (stamp_low l b))
