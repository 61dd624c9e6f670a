-- Missing footers: behind them the records by footer are those by spare (01, Restart, 3 and 4). Assumes nothing.
use Prim.Native.Nat.{ℕ, ◌+◌, ◌-◌, ◌*◌, ◌/◌, ◌%◌, min, ◌≤◌, ◌<◌}
use Rattle.spec.specs.Bytes.{part}
use Rattle.spec.specs.Drives.{Chunk, no_chunk, Zone, data_stored, blocks_of, record_in, footers_of}
use Rattle.spec.specs.Faults.{footers_stored, same_blocks_of, footer_fault_in}
use Rattle.spec.specs.Layout.{record_of_of, footer_block, footer_record}
use Rattle.spec.specs.Lists.{up_from, below}
use Rattle.spec.specs.Params.{spare_len, per_footer, footers}
use Rattle.spec.specs.Segments.{records_in}
use Rattle.spec.specs.declared.Params.{Params}
use Rattle.law_basic.specs.Geometry.{Ranged, per_footer_low, footers_cover}
use Rattle.law_basic.specs.Ranges.{length_up_from, get_d_up_from, get_d_map}
use Rattle.law_drives.specs.Footers.{spares_in, footer_chunks, spares_long, spares_count, spare_at_holds, footers-count, footer_chunk}
use Rattle.law_drives.specs.Laid.{get_d_footer}
use Rattle.law_drives.specs.Members.{map_cong, below_in}
use Rattle.law_drives.specs.Puts.{put_all, puts_pointer, puts_old, puts_new}
use Rattle.law_drives.specs.Range.{capacity_is}
use Rattle.law_drives.specs.Records.{blocks_at}
use Rattle.law_drives.specs.Zones.{ZoneOk}
use Rattle.std.proofs.lemmas.Bool.{not-false}
use Rattle.std.specs.Prelude.{get_or, take, drop, ◌≡◌}
use Rattle.std.proofs.Common.{get_or-take, get_or-drop, sym, ◌∙◌, subst, zero-add, div-lt_iff_lt-mul}
use Rattle.std.proofs.Math.Bool.{true, false}
use mathlib.Core.List.{List, [], map}
use Rattle.std.proofs.Math.Path.{ap}
use Rattle.std.proofs.Math.Decide.{dec_lt}
use native.Mathlib.Omega.{arith}
use Rattle.law_drives.specs.Accept.{same_blocks}

module _ (p : Params) (r : Ranged p) (q : Zone) (k : ZoneOk p q) (e : q.pointer ≡ 1 + p.S + footers_stored p q) (fine : footer_fault_in p q ≡ false) where
  abbrev have : ℕ
  have = footers_stored p q

  have_few : have ≤ footers p
  have_few = unfold footers_stored in omega arith

  -- 01, Refusals, 9: the footer blocks that are stored are made from the spares
  old_footer : (j : ℕ) → j < have → (get_or q.blocks (1 + p.S + j) no_chunk).block ≡ footer_block p (spares_in p q) j
  old_footer j h =
      sym (ap (λ (c : Chunk). c.block) (get_or-take have (drop (1 + p.S) q.blocks) j no_chunk h ∙ get_or-drop (1 + p.S) q.blocks j no_chunk))
      ∙ sym (blocks_at (take have (drop (1 + p.S) q.blocks)) j)
      ∙ ap (λ (l : List (List ℕ)). get_or l j []) made
      ∙ get_d_map (footer_block p (spares_in p q)) (up_from 0 have) j [] 0 (subst (λ (n : ℕ). j < n) (sym (length_up_from 0 have)) h)
      ∙ ap (footer_block p (spares_in p q)) (get_d_up_from 0 have j 0 h ∙ zero-add j)
    where
      made : blocks_of (take have (drop (1 + p.S) q.blocks)) ≡ map (footer_block p (spares_in p q)) (up_from 0 have)
      made = as! fine
        where
          as! : footer_fault_in p q ≡ false → blocks_of (take have (drop (1 + p.S) q.blocks)) ≡ map (footer_block p (spares_in p q)) (up_from 0 have)
          as! f =
              unfold footer_fault_in footers_of spares_in in same_blocks (blocks_of (take have (drop (1 + p.S) q.blocks))) (footers_of p q 0 have)
              (not-false (same_blocks_of (blocks_of (take have (drop (1 + p.S) q.blocks))) (footers_of p q 0 have)) f)

  module _ (d z : ℕ) where
    abbrev lack : List Chunk
    lack = footer_chunks p q have (footers p - have)

    abbrev q2 : Zone
    q2 = put_all d z lack q

    -- all footer blocks are made from the spares
    all-footers : (j : ℕ) → j < footers p → (get_or q2.blocks (1 + p.S + j) no_chunk).block ≡ footer_block p (spares_in p q) j
    all-footers j h = go (dec_lt j have)
      where
        go : Dec (j < have) → (get_or q2.blocks (1 + p.S + j) no_chunk).block ≡ footer_block p (spares_in p q) j
        go (yes l) = ap (λ (c : Chunk). c.block) (puts_old d z lack q (1 + p.S + j) (omega arith)) ∙ old_footer j l
        go (no l) =
            let c = footers-count p r q k have (footers p - have) in
            let f = have_few in
            let i : 1 + p.S + j ≡ q.pointer + (j - have) = omega arith in
            let n : j - have < footers p - have = omega arith in
            ap (λ (x : ℕ). (get_or q2.blocks x no_chunk).block) i
            ∙ ap (λ (x : Chunk). x.block) (puts_new d z lack q (j - have) (omega arith)
            (let y = capacity_is p r in let w = k.blocks_long in omega arith)
            ∙ footer_chunk p r q k have (footers p - have) (j - have) n)
            ∙ ap (footer_block p (spares_in p q)) (let w : have + (j - have) ≡ j = omega arith in w)

    -- so the records by footer are those by spare
    record_footed : (x : ℕ) → x < p.S → record_in p true q2 x ≡ record_in p false q x
    record_footed x h =
        let pf = per_footer p in
        let j = x / pf in
        let hj : j < footers p = (div-lt_iff_lt-mul (let z = per_footer_low p r in let y : 0 < pf = omega arith in y)).1 (let f = footers_cover p r in omega arith) in
        let blk : get_or (blocks_of (drop (1 + p.S) q2.blocks)) j [] ≡ footer_block p (spares_in p q) j =
        blocks_at (drop (1 + p.S) q2.blocks) j ∙ ap (λ (w : Chunk). w.block) (get_or-drop (1 + p.S) q2.blocks j no_chunk) ∙ all-footers j hj in
        as! blk (get_d_footer p r (spares_in p q) x (spares_long p r q k) (subst (λ (n : ℕ). x < n) (sym (spares_count p r q k)) h) ∙ spare_at_holds p r q k x h)
      where
        as! : get_or (blocks_of (drop (1 + p.S) q2.blocks)) (x / per_footer p) [] ≡ footer_block p (spares_in p q) (x / per_footer p)
            → part (spare_len * (x % per_footer p)) spare_len (footer_block p (spares_in p q) (x / per_footer p)) ≡ (get_or q.blocks (1 + x) no_chunk).spare
            → record_in p true q2 x ≡ record_in p false q x
        as! a b = unfold record_in footer_record in ap record_of_of (ap (part (spare_len * (x % per_footer p)) spare_len) a ∙ b)

    -- and there are as many
    pub records_footed : records_in p true q2 ≡ records_in p false q
    records_footed = unfold records_in in
        let n1 : data_stored p q2 ≡ p.S = (unfold data_stored in (let a = puts_pointer d z lack q in let z : min (q2.pointer - 1) p.S ≡ p.S = omega arith in z)) in
        let n2 : data_stored p q ≡ p.S = (unfold data_stored in (let z : min (q.pointer - 1) p.S ≡ p.S = omega arith in z)) in
        ap (λ (n : ℕ). map (record_in p true q2) (below n)) n1
        ∙ map_cong (record_in p true q2) (record_in p false q) (below p.S) (λ x m. record_footed x (below_in p.S x m))
        ∙ ap (λ (n : ℕ). map (record_in p false q) (below n)) (sym n2)
