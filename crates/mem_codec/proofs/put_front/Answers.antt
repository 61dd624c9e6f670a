-- `put_front`: six fields written one behind the other from 0 are the first six sections (`state_front_written`). Assumes nothing.
use Rattle.std.proofs.Common.{ap, ◌∙◌, ◌<◌, List, ℕ, rules}
use Rattle.spec.specs.Bytes.{to_le, splice}
use Rattle.mem_codec.specs.Codec.{state_front_written}
use Rattle.mem_codec.proofs.put_front.Goals as goal

pub returns : goal.returns
returns c =
    let a = c.args in
    let live : a.live < 256 = search rules in
    let missing : a.missing < 256 = search rules in
    c.write_le32.ensures
    ∙ ap (λ (x : List ℕ). splice x 26 (to_le 4 a.next)) (c.write_le64-3.ensures
    ∙ ap (λ (x : List ℕ). splice x 18 (to_le 8 a.opened)) (c.write_le64-2.ensures
    ∙ ap (λ (x : List ℕ). splice x 10 (to_le 8 a.serial)) c.write_le64.ensures))
    ∙ state_front_written a.dst.now a.live a.missing a.stamp a.serial a.opened a.next live missing c.requires
