-- `plan`: the next stamp is the successor; `send` with it gives row, next, drive and buffer, which are the fields of `planned`. Assumes nothing.
use Prim.Native.Nat.{ℕ, suc}
use Rattle.call_filling.specs.Entries.{sent_row}
use Rattle.spec.specs.Counts.{a_stamp}
use Rattle.spec.specs.declared.Answer.TheVariants.{Sent}
use mathlib.Core.Path.{◌≡◌, ap, ◌∙◌}
use native.Mathlib.Numerals.{add-one}
use Rattle.call_write.proofs.plan.Goals as goal

pub returns : goal.returns
returns c =
    let a = c.args in
    let s = c.send-q in
    let t = a.f.stamp.0 in
    let n = add-one t in
    let q : record { row = s.result.row; next = s.result.next; inflight = s.new.inflight; drive = s.result.drive }
    ≡ sent_row a.p a.row a.inflight.now a.a.slot a.a.begins a.o.next a.address.0 (suc t) 1 a.block.now =
    s.ensures ∙ ap (λ (x : ℕ). sent_row a.p a.row a.inflight.now a.a.slot a.a.begins a.o.next a.address.0 x 1 a.block.now) n in record {
      value = λ j. record {
        answer = Sent (a_stamp (n j)) (q j).row.number (q j).drive;
        stamp = a_stamp (n j);
        serial = a.o.serial;
        opened = a.o.opened;
        next = (q j).next;
        slot = a.a.slot;
        row = (q j).row;
      };
      inflight_after = λ j. (q j).inflight;
    }
