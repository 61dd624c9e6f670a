-- `encode`: after call k the buffer holds the first 6 + k sections of the state. Assumes nothing.
use Rattle.std.proofs.Common.{refl, ap₂, ◌∙◌, ◌≡◌, List, ℕ, map, length, rules}
use Rattle.std.proofs.lemmas.List.{map-id}
use Rattle.spec.specs.Bytes.{to_le, splice}
use Rattle.spec.specs.Lists.{flat}
use Rattle.spec.specs.Memory.{state_sections, section_len, state_numbers, section_bytes}
use Rattle.mem_codec.specs.Codec.{put_sections, state_written}
use Rattle.mem_codec.proofs.encode.Goals as goal

-- one section more
more : (w at : ℕ) (ns l l' m : List ℕ) → m ≡ splice l at (flat (to_le w) (map (λ (n : ℕ). n) ns)) → l ≡ l' → m ≡ splice l' at (flat (to_le w) ns)
more w at ns l l' m e f = e ∙ ap₂ (λ (x y : List ℕ). splice x at (flat (to_le w) y)) f (map-id ns)

pub returns : goal.returns
unfolding state_sections state_numbers section_len section_bytes put_sections
returns c =
    let s = c.args.st in
    let numbers : length s.numbers ≡ 8 = search rules in
    let filled : length s.filled ≡ 8 = search rules in
    let writes : length s.writes ≡ 8 = search rules in
    let landed : length s.landed ≡ 8 = search rules in
    let addresses : length s.addresses ≡ 64 = search rules in
    let stamps : length s.stamps ≡ 64 = search rules in
    let offsets : length s.offsets ≡ 64 = search rules in
    let e1 = more 4 30 s.numbers _ _ _ c.put_numbers.ensures c.put_front.ensures in
    let e2 = more 1 62 s.filled _ _ _ c.put_numbers-2.ensures e1 in
    let e3 = more 1 70 s.writes _ _ _ c.put_numbers-3.ensures e2 in
    let e4 = more 1 78 s.landed _ _ _ c.put_numbers-4.ensures e3 in
    let e5 = more 8 86 s.addresses _ _ _ c.put_numbers-5.ensures e4 in
    let e6 = more 8 598 s.stamps _ _ _ c.put_numbers-6.ensures e5 in
    more 4 1110 s.offsets _ _ _ c.put_numbers-7.ensures e6
    ∙ state_written c.args.dst.now s c.requires
    (refl, (refl, (refl, (refl, (refl, (refl, (numbers, (filled, (writes, (landed, (addresses, (stamps, (offsets, tt)))))))))))))
