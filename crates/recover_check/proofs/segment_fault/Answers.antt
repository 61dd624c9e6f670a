-- `segment_fault`: a fault in front decides; then a sealed segment has no other, two unsealed ones are one, and else the footers decide. Assumes nothing.
use Rattle.disk_drives.specs.Viewed.{viewed}
use mathlib.Core.Path.{◌≡◌, sym, ◌∙◌}
use Rattle.spec.specs.Segments.{segment_of, segments}
use Rattle.law_drives.specs.Segs.{remaining-low, full_is}
use Rattle.recover_headers.specs.Fronts.{heads_fault}
use Rattle.recover_check.specs.Faults.{front_bad, front_full, front_many, front_footer}
use Rattle.recover_check.proofs.segment_fault.Goals as goal
use Rattle.recover_check.proofs.segment_fault.Goals.{After-front_fault}

pub front_fault-requires : goal.front_fault-requires
front_fault-requires c =
    let a = c.args in
    let v = viewed a.drives.now in
    let n = c.requires.name_counts in record {
      p_value = c.args.drives.now.sound;
      image_len = (c.args.drives.now.whole.image_long, c.args.drives.now.listed, n.0.0);
      here = (c.requires.here, remaining-low a.drives.now.p v a.gone c.requires.here a.segment n.1);
    }

-- what the headers show
front : (c : After-front_fault)
    → (let a = c.args in
    let v = viewed a.drives.now in
    c.front_fault.result ≡ heads_fault a.drives.now.p v a.gone (segments a.drives.now.p v a.gone) (segment_of a.drives.now.p v a.gone a.segment))
front c =
    let n = c.requires.name_counts in
    c.front_fault.ensures c.args.drives.now.pointers.now c.args.drives.now.whole.pointers_long n.0 n.1 n.2 n.3

pub returns-then-front_fault : goal.returns-then-front_fault
returns-then-front_fault c =
    let a = c.args in
    let v = viewed a.drives.now in
    front_bad a.drives.now.p v a.gone (segments a.drives.now.p v a.gone) (segment_of a.drives.now.p v a.gone a.segment)
    (sym (front (goal.at.returns-then-front_fault c).After-front_fault) ∙ c.if-front_fault.true)

pub returns-then-full : goal.returns-then-full
returns-then-full c =
    let a = c.args in
    let v = viewed a.drives.now in
    front_full a.drives.now.p v a.gone (segments a.drives.now.p v a.gone) (segment_of a.drives.now.p v a.gone a.segment)
    (sym (front (goal.at.returns-then-full c).After-front_fault) ∙ c.if-front_fault.false)
    (full_is a.drives.now.p v a.gone a.segment ∙ sym c.requires.full_value.0 ∙ c.if-full.true)

pub returns-then-many : goal.returns-then-many
returns-then-many c =
    let a = c.args in
    let v = viewed a.drives.now in
    front_many a.drives.now.p v a.gone (segments a.drives.now.p v a.gone) (segment_of a.drives.now.p v a.gone a.segment)
    (sym (front (goal.at.returns-then-many c).After-front_fault) ∙ c.if-front_fault.false)
    (full_is a.drives.now.p v a.gone a.segment ∙ sym c.requires.full_value.0 ∙ c.if-full.false) (sym c.requires.full_value.1 ∙ c.if-many.true)

pub footer_fault-requires : goal.footer_fault-requires
footer_fault-requires c =
    let a = c.args in
    let v = viewed a.drives.now in
    record { p_value = c.args.drives.now.sound; whole = c.args.drives.now.whole; zones_low = remaining-low a.drives.now.p v a.gone c.requires.here a.segment c.requires.name_counts.1 }

pub returns : goal.returns
returns c =
    let if1 = c.if-front_fault in
    let if2 = c.if-full in
    let a = c.args in
    let v = viewed a.drives.now in
    c.footer_fault.ensures a.drives.now.offline.now
    ∙ front_footer a.drives.now.p v a.gone (segments a.drives.now.p v a.gone) (segment_of a.drives.now.p v a.gone a.segment) (sym (front (goal.at.returns c).After-front_fault) ∙ if1.false)
    (full_is a.drives.now.p v a.gone a.segment ∙ sym c.requires.full_value.0 ∙ if2.false) (sym c.requires.full_value.1 ∙ c.if-many.false)
