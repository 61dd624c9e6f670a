-- `gather_in`: the arrays have room, and their buckets are empty; of the index and the serials come the rows and the flags of 1, and of these which segments remain. Assumes nothing.
use mathlib.Core.Path.{◌≡◌, sym, subst}
use Prim.Native.Nat.{ℕ}
use lib.ListN.{length}
use Rattle.spec.specs.declared.Params.{Params}
use Rattle.spec.specs.Drives.{View, view_of}
use Rattle.spec.specs.Params.{pointers_len}
use Rattle.law_drives.specs.Segs.{Here}
use Rattle.disk_gather.specs.Flags.{Serials, LeftFlags, Keeps, FlagsRows}
use Rattle.disk_gather.specs.Values.{IndexOf}
use Rattle.disk_gather.proofs.gather_in.Goals as goal

carry : (P : Params → ℕ → Type 0) (p q : Params) (g h : ℕ) → p ≡ q → g ≡ h → P p g → P q h
carry P p q g h e f x = subst (P q) f (subst (λ (r : Params). P r g) e x)

pub returns : goal.returns
returns g c =
    let a = c.args in
    let q = c.requires in
    let i = c.index_of-index.result in
    let e = c.index_of-index.ensures.same in
    let off = a.drives.now.offline.now in
    let ps = a.drives.now.pointers.now in
    let v : Params → View = λ p. view_of p off a.drives.now.image.now ps in
    let there : (P : Params → ℕ → Type 0) → P a.drives.now.p a.gone → P i.p i.gone = λ P. carry P a.drives.now.p i.p a.gone i.gone (sym e.0) (sym e.1) in
    let back : (P : Params → ℕ → Type 0) → P i.p i.gone → P a.drives.now.p a.gone = λ P. carry P i.p a.drives.now.p i.gone a.gone e.0 e.1 in
    let long = there (λ p k. length ps ≡ pointers_len p) c.args.drives.now.whole.pointers_long in
    let x = there (λ p k. IndexOf (v p) i) c.index_of-index.ensures.index in
    let s = c.read_serials.ensures off ps c.args.drives.now.whole.pointers_long in
    let t = there (λ p k. Serials p (v p) k c.read_serials.new.out) s in
    let l = c.gather_left.ensures.by_index_2 off ps long x t in record {
      serials = s;
      flags_rows = back (λ p k. FlagsRows p (v p) k c.gather_left.new.rows) (c.gather_left.ensures.by_index off ps long x t);
      left_flags = back (λ p k. LeftFlags p (v p) k c.gather_left.new.left) l;
      keeps = back (λ p k. Keeps p (v p) k c.keep_flags.new.out) (c.keep_flags.ensures off ps long (there Here q.here) x l);
    }
