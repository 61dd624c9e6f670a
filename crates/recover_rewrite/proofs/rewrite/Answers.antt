-- `rewrite`: headers, stripes, resets, each cut or made; the headers leave seg as it is, so what was asked of it still holds for the stripes. Assumes nothing.
use Rattle.spec.specs.Drives.{mk_disk}
use Rattle.law_basic.specs.Geometry.{ranged}
use Rattle.recover_rewrite.specs.Rewrite.{rewrite_heads, rewrite_whole, rewrite_sealed, rewrite_good, rewrite_fits, rewrite_moves, rewrite-resets, new_head_room}
use mathlib.Core.List.{[]}
use mathlib.Core.Path.{◌∙◌}
use Rattle.disk_zones.specs.Made.{storing_exit}
use Rattle.recover_rewrite.proofs.rewrite.Goals as goal

pub header_stores-requires : goal.header_stores-requires
header_stores-requires c =
    let args = c.args in
    let pre = c.requires in record {
      p_value = pre.p_value;
      whole = pre.whole;
      zones_low =
          (pre.zones_low.1, λ d hd. new_head_room args.p (ranged args.p pre.p_value) args.pointers.now args.to d (pre.by_index_2.1 d hd));
    }

pub returns-in_err-headed : goal.returns-in_err-headed
returns-in_err-headed c =
    let header-stores = c.header_stores in
    let args = c.args in
    let pre = c.requires in
    λ off. storing_exit c.from_residual.result c.from_residual.ensures.0
    (rewrite_heads args.p (ranged args.p pre.p_value) off args.count args.seg pre.zones_low.0 args.to pre.zones_low.2 args.serial.0
    (mk_disk args.image.now args.pointers.now) pre.whole (pre.by_index_3 off) args.copied.0 (pre.by_index_2.0 off)
    (mk_disk header-stores.new.image header-stores.new.pointers) c.in_err-headed.ensures)

pub move_stripes-requires : goal.move_stripes-requires
move_stripes-requires c =
    let header-stores = c.header_stores in
    let args = c.args in
    let pre = c.requires in record {
      p_value = pre.p_value;
      whole = rewrite_whole args.p (ranged args.p pre.p_value) [] args.count args.seg pre.zones_low.0 args.to pre.zones_low.2
          args.serial.0 (mk_disk args.image.now args.pointers.now) pre.whole (pre.by_index_3 []) args.copied.0 (pre.by_index_2.0 [])
          c.in_ok-headed.headed (mk_disk header-stores.new.image header-stores.new.pointers) c.in_ok-headed.ensures;
      zones_low = (
        pre.zones_low.0,
        pre.zones_low.1,
        pre.zones_low.2,
      );
      by_index = λ off. (
        rewrite_sealed args.p (ranged args.p pre.p_value) off args.count args.seg pre.zones_low.0 args.to pre.zones_low.2
            args.serial.0 (mk_disk args.image.now args.pointers.now) pre.whole (pre.by_index_3 off) args.copied.0
            (pre.by_index_2.0 off) c.in_ok-headed.headed (mk_disk header-stores.new.image header-stores.new.pointers)
            c.in_ok-headed.ensures (pre.by_index off).0,
        rewrite_good args.p (ranged args.p pre.p_value) off args.count args.seg pre.zones_low.0 args.to pre.zones_low.2
            args.serial.0 (mk_disk args.image.now args.pointers.now) pre.whole (pre.by_index_3 off) args.copied.0
            (pre.by_index_2.0 off) c.in_ok-headed.headed (mk_disk header-stores.new.image header-stores.new.pointers)
            c.in_ok-headed.ensures (pre.by_index off).1,
      );
      by_index_2 = λ off. rewrite_fits args.p (ranged args.p pre.p_value) off args.count args.seg pre.zones_low.0 args.to pre.zones_low.2
          args.serial.0 (mk_disk args.image.now args.pointers.now) pre.whole (pre.by_index_3 off) args.copied.0
          (pre.by_index_2.0 off) c.in_ok-headed.headed (mk_disk header-stores.new.image header-stores.new.pointers)
          c.in_ok-headed.ensures;
    }

pub returns-in_err-moved : goal.returns-in_err-moved
returns-in_err-moved c =
    let move-stripes = c.move_stripes in
    let header-stores = c.header_stores in
    let args = c.args in
    let pre = c.requires in
    λ off. storing_exit c.from_residual-in_err-moved.result c.from_residual-in_err-moved.ensures.0
    (rewrite_moves args.p (ranged args.p pre.p_value) off args.count args.seg pre.zones_low.0 args.to pre.zones_low.2 args.serial.0
    (mk_disk args.image.now args.pointers.now) pre.whole (pre.by_index_3 off) args.copied.0 (pre.by_index_2.0 off) c.in_ok-headed.headed
    (mk_disk header-stores.new.image header-stores.new.pointers) c.in_ok-headed.ensures
    (mk_disk move-stripes.new.image move-stripes.new.pointers) (c.in_err-moved.ensures off))

pub reset_stores-requires : goal.reset_stores-requires
reset_stores-requires c =
    let move-stripes = c.move_stripes in
    let header-stores = c.header_stores in
    let pre = c.requires in record {
      p_value = pre.p_value;
      pointers_len = (
        move-stripes.auto.pointers ∙ header-stores.auto.pointers ∙ pre.whole.pointers_long,
        pre.zones_low.0,
      );
    }

pub returns : goal.returns
returns c =
    let reset_stores_holds = c.reset_stores in
    let move-stripes = c.move_stripes in
    let header-stores = c.header_stores in
    let args = c.args in
    let pre = c.requires in
    λ off. rewrite-resets args.p (ranged args.p pre.p_value) off args.count args.seg pre.zones_low.0 args.to pre.zones_low.2 args.serial.0
    (mk_disk args.image.now args.pointers.now) pre.whole (pre.by_index_3 off) args.copied.0 (pre.by_index_2.0 off) c.in_ok-headed.headed
    (mk_disk header-stores.new.image header-stores.new.pointers) c.in_ok-headed.ensures c.in_ok-moved.moved
    (mk_disk move-stripes.new.image move-stripes.new.pointers) (c.in_ok-moved.ensures off) reset_stores_holds.result
    (mk_disk move-stripes.new.image reset_stores_holds.new.pointers) (reset_stores_holds.ensures move-stripes.new.image)
