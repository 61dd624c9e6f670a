-- `name_counts`: the names of the first z flagged zones are counted; after Z zones these are those of the remaining segments. Assumes nothing.
use mathlib.Core.Path.{◌≡◌, refl, sym, ap₂, ◌∙◌, subst}
use mathlib.Core.Bool.{Bool, cond, ◌&&◌}
use Prim.Native.Nat.{ℕ, ◌+◌, ◌*◌, min}
use native.Mathlib.Omega.{arith}
use lib.Dec.{eqb}
use lib.ListN.{length, get_or}
use Rattle.spec.specs.Drives.{view_of, chunk_at}
use Rattle.spec.specs.Layout.{header_zone}
use Rattle.recover_headers.specs.Names.{names_at, CountedBy, names_start, names_next}
use Rattle.recover_headers.proofs.name_counts.Goals as goal

pub low_drive-low-requires : goal.low_drive-low-requires
low_drive-low-requires c = c.requires.p_value

pub loop-z-init : goal.loop-z-init
loop-z-init c =
    let a = c.args in (
      omega arith,
      refl,
      λ off ps h k. subst (CountedBy a.p (view_of a.p off a.image.now ps) a.gone 0) (sym c.clear.ensures)
          (names_start a.p (view_of a.p off a.image.now ps) a.gone (length a.counts.now)),
    )

pub count_if-requires : goal.count_if-requires
count_if-requires c =
    let loop = c.loop-z in
    let clear = c.clear in
    let low_drive_holds = c.low_drive-low in
    let if1 = c.loop-z-test in record {
      p_value = c.requires.p_value;
      image_len =
          (c.requires.image_len.0, omega (arith, c.requires.image_len.2, loop.invariant.1, clear.auto.dst), low_drive_holds.ensures.1, if1.true);
    }

pub loop-z-preserved : goal.loop-z-preserved
unfolding names_at
loop-z-preserved c =
    let a = c.args in
    let p = a.p in
    let l = c.loop-z in
    let x = c.count_if in
    let i = c.low_drive-low.ensures.0 in (
      omega (arith, c.loop-z-test.true),
      x.auto.counts ∙ l.invariant.1,
      λ off ps h k. let v = view_of p off a.image.now ps in
          names_next p v a.gone l.z l.counts x.new.counts (l.invariant.2 off ps h k)
          (λ d y hd hy. x.ensures off ps h d y hd hy
          ∙ ap₂ (λ (f : Bool) (e : ℕ). cond (f && eqb (header_zone p (chunk_at v e l.z 0).block d) y) (min 2 (get_or l.counts (d * p.Z + y) 0 + 1)) (get_or l.counts (d * p.Z + y) 0))
          (k.1 l.z c.loop-z-test.true) i),
    )

pub shape_of-counts : goal.shape_of-counts
shape_of-counts c = c.loop-z.invariant.1 ∙ c.clear.auto.dst

pub returns : goal.returns
returns c =
    let a = c.args in
    let l = c.loop-z in
    let n : l.z ≡ a.p.Z = omega (arith, l.invariant.0, c.loop-z-test.false) in
    λ off ps h k. (
      omega (arith, c.requires.image_len.2, l.invariant.1, c.clear.auto.dst),
      subst (λ (x : ℕ). CountedBy a.p (view_of a.p off a.image.now ps) a.gone x l.counts) n (l.invariant.2 off ps h k),
    )
