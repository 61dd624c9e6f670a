-- `front_fault`: the tests in their order are what the headers show (`front_by`); each that holds ends it. Assumes nothing.
use mathlib.Core.Path.{◌≡◌, sym, ap, ◌∙◌, subst}
use mathlib.Core.Bool.{Bool, not, ◌||◌}
use Prim.Native.Nat.{ℕ, ◌<◌}
use lib.Dec.{eqb, leb}
use Rattle.spec.specs.Drives.{view_of, chunk_at, zone_on, seg_with}
use Rattle.spec.specs.Layout.{header_zone, header_copied}
use Rattle.spec.specs.Lists.{below, any}
use Rattle.spec.specs.Params.{present}
use Rattle.spec.specs.Segments.{low_drive, header_at, segment_of}
use Rattle.law_basic.specs.Segs.{low_zone}
use Rattle.law_drives.specs.Segs.{copied_is}
use Rattle.recover_headers.specs.Names.{name_bad, names_read, front_by, FrontSays}
use Rattle.recover_headers.proofs.front_fault.Goals as goal
use Rattle.recover_headers.proofs.front_fault.Goals.{After-header_fault, After-zone_on-zone}

pub zone_on-zone-requires : goal.zone_on-zone-requires
zone_on-zone-requires c = record { p_value = c.requires.p_value; drive_lt_n = c.low_drive-low.ensures.1 }

-- the zone is one
low_there : (c : After-zone_on-zone) → c.zone_on-zone.result < c.args.p.Z
low_there c =
    let a = c.args in
    let i = c.low_drive-low.ensures.0 in
    subst (λ (n : ℕ). n < a.p.Z) (sym (c.zone_on-zone.ensures ∙ ap (zone_on a.segment) i))
    (low_zone a.p a.gone a.segment (low_drive a.p a.gone) c.requires.here.1 c.requires.here.0.0 c.requires.here.0.1)

pub names_in-names-requires : goal.names_in-names-requires
names_in-names-requires c = record { p_value = c.requires.p_value; image_len = (c.requires.image_len.0, c.low_drive-low.ensures.1, low_there (goal.at.names_in-names-requires c).After-zone_on-zone) }

pub copied_in-copied-requires : goal.copied_in-copied-requires
copied_in-copied-requires c = record {
  p_value = c.requires.p_value;
  image_len =
      (c.requires.image_len.0, c.low_drive-low.ensures.1, low_there (goal.at.copied_in-copied-requires c).After-zone_on-zone);
}

pub header_fault-requires : goal.header_fault-requires
header_fault-requires c = record { p_value = c.requires.p_value; image_len = (c.requires.image_len.0, c.requires.here.1) }

-- all tests in order
front : (c : After-header_fault)
    → (let a = c.args in
    let names = c.names_in-names.result in
    FrontSays a.p a.offline.now a.image.now a.gone a.counts.now a.segment a.serial.0 a.repeated
    (c.header_fault.result || any (λ d. not (eqb (zone_on names d) (zone_on a.segment d))) (present a.p a.gone)
    || any (λ d. name_bad a.p a.offline.now a.counts.now d (zone_on names d)) (below a.p.N) || a.repeated || leb a.serial.0 c.copied_in-copied.result.0))
unfolding header_at view_of
front c =
    let low_drive_holds = c.low_drive-low in
    let zone_on_holds = c.zone_on-zone in
    let names_in = c.names_in-names in
    let copied-in = c.copied_in-copied in
    let a = c.args in
    let p = a.p in
    let off = a.offline.now in
    let g = a.segment in
    let gone = a.gone in
    let lo = low_drive_holds.ensures.0 in
    let zo = zone_on_holds.ensures ∙ ap (zone_on g) lo in
    λ ps h k m s t.
    let v = view_of p off a.image.now ps in
    let en : names_in.result ≡ seg_with p (header_zone p (chunk_at v (low_drive p gone) (zone_on g (low_drive p gone)) 0).block) =
    names_in.ensures off ps h ∙ (λ j. seg_with p (header_zone p (chunk_at v (lo j) (zo j) 0).block)) in
    let ec : copied-in.result.0 ≡ (segment_of p v gone g).copied = copied-in.ensures off ps h ∙ (λ j. header_copied p (chunk_at v (lo j) (zo j) 0).block) ∙ sym (copied_is p v gone g) in
    front_by p v gone c.requires.here.0 a.counts.now k g m names_in.result a.serial.0 copied-in.result.0 c.header_fault.result a.repeated en
    (c.header_fault.ensures off ps h (names_read p v gone g names_in.result en) s ec) s ec t

pub returns-then-header_fault : goal.returns-then-header_fault
returns-then-header_fault c =
    let a = c.args in
    let own = any (λ d. not (eqb (zone_on c.names_in-names.result d) (zone_on a.segment d))) (present a.p a.gone) in
    let bad = any (λ d. name_bad a.p a.offline.now a.counts.now d (zone_on c.names_in-names.result d)) (below a.p.N) in
    let le = leb a.serial.0 c.copied_in-copied.result.0 in
    let f = front (goal.at.returns-then-header_fault c).After-header_fault in
    λ ps h k m s t. sym (ap (λ (b : Bool). b || own || bad || a.repeated || le) c.if-header_fault.true) ∙ f ps h k m s t

pub own_fault-requires : goal.own_fault-requires
own_fault-requires c = c.requires.p_value

pub returns-then-own_fault : goal.returns-then-own_fault
returns-then-own_fault c =
    let a = c.args in
    let bad = any (λ d. name_bad a.p a.offline.now a.counts.now d (zone_on c.names_in-names.result d)) (below a.p.N) in
    let le = leb a.serial.0 c.copied_in-copied.result.0 in
    let f = front (goal.at.returns-then-own_fault c).After-header_fault in
    let i = c.if-header_fault.false in
    let o = sym c.own_fault.ensures ∙ c.if-own_fault.true in
    λ ps h k m s t. sym (λ j. i j || o j || bad || a.repeated || le) ∙ f ps h k m s t

pub name_fault-requires : goal.name_fault-requires
name_fault-requires c = record { p_value = c.requires.p_value; offline_len = (c.requires.image_len.1, c.requires.image_len.2) }

pub returns-then-name_fault : goal.returns-then-name_fault
returns-then-name_fault c =
    let a = c.args in
    let le = leb a.serial.0 c.copied_in-copied.result.0 in
    let f = front (goal.at.returns-then-name_fault c).After-header_fault in
    let i = c.if-header_fault.false in
    let o = sym c.own_fault.ensures ∙ c.if-own_fault.false in
    let b = sym c.name_fault.ensures ∙ c.if-name_fault.true in
    λ ps h k m s t. sym (λ j. i j || o j || b j || a.repeated || le) ∙ f ps h k m s t

pub returns-then-repeated : goal.returns-then-repeated
returns-then-repeated c =
    let a = c.args in
    let le = leb a.serial.0 c.copied_in-copied.result.0 in
    let f = front (goal.at.returns-then-repeated c).After-header_fault in
    let i = c.if-header_fault.false in
    let o = sym c.own_fault.ensures ∙ c.if-own_fault.false in
    let b = sym c.name_fault.ensures ∙ c.if-name_fault.false in
    let r = c.if-repeated.true in
    λ ps h k m s t. sym (λ j. i j || o j || b j || r j || le) ∙ f ps h k m s t

pub returns : goal.returns
returns c =
    let a = c.args in
    let le = leb a.serial.0 c.copied_in-copied.result.0 in
    let f = front (goal.at.returns c).After-header_fault in
    let i = c.if-header_fault.false in
    let o = sym c.own_fault.ensures ∙ c.if-own_fault.false in
    let b = sym c.name_fault.ensures ∙ c.if-name_fault.false in
    let r = c.if-repeated.false in
    λ ps h k m s t. sym (λ j. i j || o j || b j || r j || le) ∙ f ps h k m s t
