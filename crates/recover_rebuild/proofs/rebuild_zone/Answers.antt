-- `rebuild_zone`: the header has the serials of the lowest present drive; cut, or the rest is made: the header changes no present drive. Assumes nothing.
-- its zone on the lowest present drive
use mathlib.Core.Path.{◌≡◌, sym, ap, ◌∙◌, subst}
use mathlib.Core.List.{List, [], ◌∷◌}
use Prim.Native.Nat.{ℕ, ◌<◌}
use Rattle.spec.specs.declared.Params.{Params}
use Rattle.spec.specs.declared.Seg.{Seg}
use Rattle.spec.specs.Drives.{Store, mk_disk, sealed_in, zone_on}
use Rattle.spec.specs.Layout.{header_serial, header_copied}
use Rattle.spec.specs.Params.{named}
use Rattle.spec.specs.Segments.{low_drive, header_at, segment_of}
use Rattle.law_basic.specs.Geometry.{Ranged, ranged}
use Rattle.law_basic.specs.Segs.{ZonesLow, low_zone}
use Rattle.law_views.specs.Views.{seen}
use Rattle.law_drives.specs.Accept.{named_here}
use Rattle.disk_zones.specs.Made.{Storing}
use Rattle.recover_reset.specs.Rebuilt.{head_store}
use Rattle.recover_rebuild.specs.Zone.{head_room, head_store_is, head_cut, head_whole, head_fits, head_good, head_sealed, head_one, rest_made}
use Rattle.std.specs.Prelude.{Ok}
use Rattle.disk_zones.specs.Made.{too_few, storing_exit}
use Rattle.recover_rebuild.proofs.rebuild_zone.Goals as goal

low_there : (p : Params) (gone d : ℕ) (g : Seg) → Ranged p → gone ≡ named d → d < p.N → ZonesLow p (named d) g → (low : ℕ) → low ≡ low_drive p gone → zone_on g low < p.Z
low_there p gone d g r e hd h low q =
    let here = named_here p r d hd in
    subst (λ (x : ℕ). zone_on g x < p.Z) (sym (q ∙ ap (low_drive p) e)) (low_zone p (named d) g (low_drive p (named d)) h here.0 here.1)

pub low_drive-low-requires : goal.low_drive-low-requires
low_drive-low-requires c = c.requires.p_value

pub serial_on-serial-requires : goal.serial_on-serial-requires
serial_on-serial-requires c =
    let pre = c.requires in
    let a = c.args in
    let low_drive_holds = c.low_drive-low in
    let h = pre.gone_value in record {
      p_value = pre.p_value;
      image_len = (
        pre.whole.image_long,
        low_drive_holds.ensures.1,
        low_there a.p a.gone a.drive a.seg (ranged a.p pre.p_value) h.0 h.1 h.2
            low_drive_holds.result low_drive_holds.ensures.0,
      );
    }

pub copied_on-copied-requires : goal.copied_on-copied-requires
copied_on-copied-requires c =
    let low_drive_holds = c.low_drive-low in
    let pre = c.requires in
    let a = c.args in
    let h = pre.gone_value in record {
      p_value = pre.p_value;
      image_len = (
        pre.whole.image_long,
        low_drive_holds.ensures.1,
        low_there a.p a.gone a.drive a.seg (ranged a.p pre.p_value) h.0 h.1 h.2
            low_drive_holds.result low_drive_holds.ensures.0,
      );
    }

pub is_sealed-full-requires : goal.is_sealed-full-requires
is_sealed-full-requires c =
    let pre = c.requires in
    let a = c.args in record { p_value = pre.p_value; pointers_len = (pre.whole.pointers_long, subst (λ (x : ℕ). ZonesLow a.p x a.seg) (sym pre.gone_value.0) pre.gone_value.2) }

pub put_header-requires : goal.put_header-requires
put_header-requires c =
    let a = c.args in
    let q = c.requires in
    let p = a.p in
    let r = ranged p q.p_value in
    let h = q.gone_value in
    let d = a.drive in
    let k₀ = mk_disk a.image.now a.pointers.now in record {
      p_value = q.p_value;
      whole = q.whole;
      drive_lt_n = (
        h.1,
        h.4,
        head_room p r [] d a.seg a.count h.1 h.2 h.4 k₀ q.whole (q.by_index_2 []) h.3,
      );
    }

pub returns-in_err-left : goal.returns-in_err-left
returns-in_err-left c =
    let a = c.args in
    let q = c.requires in
    let put_header = c.put_header in
    let Copied-on = c.copied_on-copied in
    let serial_on = c.serial_on-serial in
    let low_drive_holds = c.low_drive-low in
    let p = a.p in
    let r = ranged p q.p_value in
    let h = q.gone_value in
    let d = a.drive in
    let k₀ = mk_disk a.image.now a.pointers.now in
    let lo = low_drive_holds.ensures.0 ∙ ap (low_drive p) h.0 in
    let ea : (off : List ℕ) → serial_on.result.0 ≡ header_serial p (header_at (seen p off k₀) (low_drive p (named d)) a.seg) =
    λ off. serial_on.ensures off a.pointers.now q.whole.pointers_long ∙ ap (λ (x : ℕ). header_serial p (header_at (seen p off k₀) x a.seg)) lo in
    let eb : (off : List ℕ) → Copied-on.result.0 ≡ header_copied p (header_at (seen p off k₀) (low_drive p (named d)) a.seg) =
    λ off. Copied-on.ensures off a.pointers.now q.whole.pointers_long ∙ ap (λ (x : ℕ). header_copied p (header_at (seen p off k₀) x a.seg)) lo in
    let k = mk_disk put_header.new.image put_header.new.pointers in
    let s : (off : List ℕ) → Storing p a.count (head_store p d (segment_of p (seen p off k₀) (named d) a.seg) ∷ []) k₀ too_few k =
    λ off. subst (λ (x : Store). Storing p a.count (x ∷ []) k₀ too_few k)
    (head_store_is p r off d a.seg a.count h.1 h.2 h.4 k₀ q.whole (q.by_index_2 off) h.3 serial_on.result.0 Copied-on.result.0 (ea off) (eb off))
    c.in_err-left.ensures in
    λ off. storing_exit c.from_residual.result c.from_residual.ensures.0 (head_cut p r off d a.seg a.count h.1 h.2 h.4 k₀ q.whole (q.by_index_2 off) h.3 k (s off))

pub rebuild_data-requires : goal.rebuild_data-requires
rebuild_data-requires c =
    let a = c.args in
    let q = c.requires in
    let put_header = c.put_header in
    let is-sealed = c.is_sealed-full in
    let Copied-on = c.copied_on-copied in
    let serial_on = c.serial_on-serial in
    let low_drive_holds = c.low_drive-low in
    let p = a.p in
    let r = ranged p q.p_value in
    let h = q.gone_value in
    let d = a.drive in
    let k₀ = mk_disk a.image.now a.pointers.now in
    let lo = low_drive_holds.ensures.0 ∙ ap (low_drive p) h.0 in
    let ea : (off : List ℕ) → serial_on.result.0 ≡ header_serial p (header_at (seen p off k₀) (low_drive p (named d)) a.seg) =
    λ off. serial_on.ensures off a.pointers.now q.whole.pointers_long ∙ ap (λ (x : ℕ). header_serial p (header_at (seen p off k₀) x a.seg)) lo in
    let eb : (off : List ℕ) → Copied-on.result.0 ≡ header_copied p (header_at (seen p off k₀) (low_drive p (named d)) a.seg) =
    λ off. Copied-on.ensures off a.pointers.now q.whole.pointers_long ∙ ap (λ (x : ℕ). header_copied p (header_at (seen p off k₀) x a.seg)) lo in
    let m = c.in_ok-left.left in
    let k = mk_disk put_header.new.image put_header.new.pointers in
    let s : (off : List ℕ) → Storing p a.count (head_store p d (segment_of p (seen p off k₀) (named d) a.seg) ∷ []) k₀ (Ok m) k =
    λ off. subst (λ (x : Store). Storing p a.count (x ∷ []) k₀ (Ok m) k)
    (head_store_is p r off d a.seg a.count h.1 h.2 h.4 k₀ q.whole (q.by_index_2 off) h.3 serial_on.result.0 Copied-on.result.0 (ea off) (eb off))
    c.in_ok-left.ensures in
    let f : (off : List ℕ) → is-sealed.result ≡ sealed_in p (seen p off k₀) (named d) a.seg =
    λ off. is-sealed.ensures off a.image.now q.whole.image_long
    ∙ ap (λ (x : ℕ). sealed_in p (seen p off k₀) x a.seg) h.0 in
    record {
      p_value = q.p_value;
      whole = head_whole p r [] d a.seg a.count h.1 h.2 h.4 k₀ q.whole (q.by_index_2 []) h.3 m k (s []);
      gone_value =
          (h.0, h.1, h.2, head_one p r [] d a.seg a.count h.1 h.2 h.4 k₀ q.whole (q.by_index_2 []) h.3 m k (s []), h.4);
      by_index = λ off. head_sealed p r off d a.seg
          a.count h.1 h.2 h.4 k₀ q.whole (q.by_index_2 off) h.3 m k (s off) is-sealed.result (f off);
      by_index_2 = λ off. head_good p r off d a.seg a.count h.1 h.2 h.4
          k₀ q.whole (q.by_index_2 off) h.3 m k (s off) (q.by_index off);
      by_index_3 = λ off. head_fits p r off d a.seg a.count h.1 h.2 h.4 k₀ q.whole (q.by_index_2 off) h.3 m k (s off);
    }

pub returns : goal.returns
returns c =
    let rebuild-data = c.rebuild_data in
    let put_header = c.put_header in
    let Copied-on = c.copied_on-copied in
    let serial_on = c.serial_on-serial in
    let low_drive_holds = c.low_drive-low in
    let a = c.args in
    let q = c.requires in
    let p = a.p in
    let r = ranged p q.p_value in
    let h = q.gone_value in
    let d = a.drive in
    let k₀ = mk_disk a.image.now a.pointers.now in
    let lo = low_drive_holds.ensures.0 ∙ ap (low_drive p) h.0 in
    let ea : (off : List ℕ) → serial_on.result.0 ≡ header_serial p (header_at (seen p off k₀) (low_drive p (named d)) a.seg) =
    λ off. serial_on.ensures off a.pointers.now q.whole.pointers_long ∙ ap (λ (x : ℕ). header_serial p (header_at (seen p off k₀) x a.seg)) lo in
    let eb : (off : List ℕ) → Copied-on.result.0 ≡ header_copied p (header_at (seen p off k₀) (low_drive p (named d)) a.seg) =
    λ off. Copied-on.ensures off a.pointers.now q.whole.pointers_long ∙ ap (λ (x : ℕ). header_copied p (header_at (seen p off k₀) x a.seg)) lo in
    let m = c.in_ok-left.left in
    let k = mk_disk put_header.new.image put_header.new.pointers in
    let s : (off : List ℕ) → Storing p a.count (head_store p d (segment_of p (seen p off k₀) (named d) a.seg) ∷ []) k₀ (Ok m) k =
    λ off. subst (λ (x : Store). Storing p a.count (x ∷ []) k₀ (Ok m) k)
    (head_store_is p r off d a.seg a.count h.1 h.2 h.4 k₀ q.whole (q.by_index_2 off) h.3 serial_on.result.0 Copied-on.result.0 (ea off) (eb off))
    c.in_ok-left.ensures in
    λ off. rest_made p r off d a.seg a.count h.1 h.2 h.4 k₀ q.whole (q.by_index_2 off) h.3 m k (s off) rebuild-data.result
    (mk_disk rebuild-data.new.image rebuild-data.new.pointers) (rebuild-data.ensures off)
