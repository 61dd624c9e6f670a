-- `write`: a block of length 0 is the empty one, and `end` takes it; any other has some bytes. Assumes nothing.
use Rattle.call_empty.specs.Ends.{empty_block, some_bytes}
use Rattle.spec.specs.Drives.{Disk, mk_disk}
use Rattle.spec.specs.Memory.{Memory, mk_memory}
use Rattle.call_empty.proofs.write.Goals as goal

pub returns-then-block-eq0 : goal.returns-then-block-eq0
returns-then-block-eq0 c =
    let a = c.args in
    let q = c.end in
    let k : Disk = mk_disk a.image.now a.pointers.now in
    let m : Memory = mk_memory a.state a.addresses.now a.compact.now a.inflight.now in
    empty_block a.p a.offline.now k m a.address.0 a.count a.block.now c.if-block-eq0.true
    q.result q.new.inflight
    (q.ensures a.count)

pub write-requires : goal.write-requires
write-requires c =
    (c.requires.0, c.requires.1, some_bytes c.args.block.now c.if-block-eq0.false)
