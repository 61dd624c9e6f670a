-- A history of a box with dead zones, event by event, with what each answers and what each finished restart reads. Assumes nothing.
use Rattle.std.specs.Prelude.{List, [], ◌∷◌, ◌++◌, map, ℕ, zero, suc, ◌+◌, ◌*◌, ◌%◌, set, replicate}
use Rattle.spec.specs.Drives.{Disk, mk_disk}
use Rattle.spec.specs.Engine.Call.{write, land, close, reclaim, read, fill, restart, rebuild}
use Rattle.spec.specs.declared.Params.{Params}
use Rattle.spec.specs.Examples.{block_of}
use Rattle.spec.specs.History.{Event}
use Rattle.spec.specs.History.Event.{calls, boots}
use Rattle.spec.specs.Lists.{flat, zipped}
use Rattle.spec.specs.Memory.{Memory, mk_memory, mk_state, zero_state}
use Rattle.spec.specs.Params.{mk_params, drive_len, image_len, pointers_len, addresses_len, compact_len, inflight_len}

-- ---- the box

-- 02, item 4: the small box with five zones a drive
abbrev pub worn : Params
worn = mk_params 3 128 5 4 2 8

-- one zone of each drive is offline, another on each: four are good
unfoldable pub dead : List ℕ
dead = 1 ∷ 0 ∷ 0 ∷ 0 ∷ 0 ∷ 0 ∷ 0 ∷ 255 ∷ 0 ∷ 0 ∷ 0 ∷ 0 ∷ 0 ∷ 0 ∷ 7 ∷ []

-- ---- lines of the table

infixl 70 ◌gives◌ ◌reading◌stamped◌
-- an event, the kind and values of its answer, and, after a finished restart, what each address reads: 0 for never written; 1, the stamp and the block
pub record Line : Type 0 where
  pub event : Event
  pub answer : List ℕ
  pub reads : List (List ℕ)

-- an event and its answer
abbrev pub ◌gives◌ : Event → List ℕ → Line
e gives a = record { event = e; answer = a; reads = [] }

-- what is read, by the byte that the block has throughout, and its stamp; 0 for never written
unfoldable pub read_as : ℕ → ℕ → List ℕ
read_as zero t = 0 ∷ []
read_as (suc b) t = 1 ∷ t ∷ block_of (suc b)

-- address by address
abbrev pub ◌reading◌stamped◌ : Line → List ℕ → List ℕ → Line
l reading bs stamped ts = record { event = l.event; answer = l.answer; reads = zipped read_as bs ts }

-- ---- the numbers of the answers

-- the refusal's number
abbrev pub refused : ℕ → List ℕ
refused n = 0 ∷ n ∷ []

-- the run is over
abbrev pub cut : List ℕ
cut = 2 ∷ []

-- stamp, stripe, drive
abbrev pub sent : ℕ → ℕ → ℕ → List ℕ
sent t s d = 3 ∷ t ∷ s ∷ d ∷ []

-- how many writes are acknowledged
abbrev pub landed : ℕ → List ℕ
landed n = 4 ∷ n ∷ []

-- the stripe
abbrev pub closed : ℕ → List ℕ
closed s = 5 ∷ s ∷ []

-- a reclaim's copy: stamp, stripe, drive
abbrev pub copied : ℕ → ℕ → ℕ → List ℕ
copied t s d = 6 ∷ t ∷ s ∷ d ∷ []

-- the zone
abbrev pub was_reset : ℕ → List ℕ
was_reset z = 7 ∷ z ∷ []

-- the block's offset in the image, and its stamp
abbrev pub found : ℕ → ℕ → List ℕ
found n t = 8 ∷ n ∷ t ∷ []

-- on the missing drive: the decoded stamp
abbrev pub lost : ℕ → List ℕ
lost t = 10 ∷ t ∷ []

-- the lent block holds it: its stamp
abbrev pub filled : ℕ → List ℕ
filled t = 11 ∷ t ∷ []

-- how many stripes had some chunk and did not count
abbrev pub restarted : ℕ → List ℕ
restarted n = 12 ∷ n ∷ []

-- the drive is whole again
abbrev pub rebuilt : List ℕ
rebuilt = 13 ∷ []

-- ---- bytes that mean nothing

-- n of them, others for another x
unfoldable pub any_bytes : ℕ → ℕ → List ℕ
any_bytes zero x = []
any_bytes (suc n) x = x % 256 ∷ any_bytes n (suc ((x * 77 + 40) % 65536))

-- memory of the right lengths
unfoldable pub any_memory : ℕ → Memory
any_memory x =
    let b : List ℕ = any_bytes 8 x in
    let n : List ℕ = any_bytes 64 x in
    mk_memory (mk_state x x x x x x b b b b n n n) (any_bytes (addresses_len worn) x) (any_bytes (compact_len worn) x) (any_bytes (inflight_len worn) x)

-- a restart that names no drive: the store count, and memory
unfoldable pub boot : ℕ → ℕ → Event
boot n x = boots 255 n (any_memory x) [] []

-- a restart that names drive d missing: the drive holds other bytes and pointers
unfoldable pub boot_without : ℕ → ℕ → Event
boot_without d x = boots d 0 (any_memory x) (any_bytes (drive_len worn) (x + 100)) (any_bytes (4 * worn.Z) (x + 200))

-- empty drives: pointers 0, but of an offline zone any number; any bytes
unfoldable pub disk : Disk
disk = mk_disk (any_bytes (image_len worn) 1) (set (replicate (pointers_len worn) 0) 3 200)

-- ---- the history

-- first use; the later stripe completes first; a landing is cut before its store
unfoldable pub first_use : List Line
first_use =
    boot 100 2 gives restarted 0 reading (0 ∷ 0 ∷ 0 ∷ 0 ∷ 0 ∷ 0 ∷ 0 ∷ 0 ∷ []) stamped (0 ∷ 0 ∷ 0 ∷ 0 ∷ 0 ∷ 0 ∷ 0 ∷ 0 ∷ [])
    ∷ calls (write 0 (block_of 10) 9) gives sent 1 0 0
    ∷ calls (write 1 (block_of 11) 9) gives sent 2 0 1
    ∷ calls (write 2 (block_of 12) 9) gives sent 3 1 0
    ∷ calls (write 0 (block_of 13) 9) gives sent 4 1 2
    ∷ calls (write 3 (block_of 14) 9) gives refused 7
    ∷ calls (land 0 1 9) gives landed 0
    ∷ calls (land 1 1 9) gives landed 0
    ∷ boots 255 100 (mk_memory zero_state [] [] []) [] [] gives refused 2
    ∷ calls (land 2 1 9) gives landed 2
    ∷ calls (write 8 (block_of 14) 9) gives refused 4
    ∷ calls (land 2 0 9) gives landed 0
    ∷ calls (land 2 0 9) gives refused 5
    ∷ calls (land 0 0 0) gives cut
    ∷ []

-- stripe 0 has one chunk and stripe 1 counts: the restart moves it, is cut inside, and the next one does it
unfoldable pub moved : List Line
moved =
    boot 5 3 gives cut
    ∷ boot 100 4 gives restarted 1 reading (13 ∷ 0 ∷ 12 ∷ 0 ∷ 0 ∷ 0 ∷ 0 ∷ 0 ∷ []) stamped (4 ∷ 0 ∷ 3 ∷ 0 ∷ 0 ∷ 0 ∷ 0 ∷ 0 ∷ [])
    ∷ calls (write 1 (block_of 14) 9) gives sent 5 1 0
    ∷ calls (write 3 (block_of 15) 9) gives sent 6 1 2
    ∷ calls (land 2 1 9) gives landed 0
    ∷ calls (land 1 1 9) gives landed 0
    ∷ calls (land 0 1 9) gives landed 2
    ∷ calls (write 4 (block_of 16) 9) gives sent 7 2 1
    ∷ calls (write 5 (block_of 17) 9) gives sent 8 2 2
    ∷ calls (write 6 (block_of 18) 9) gives sent 9 3 0
    ∷ calls (close 9) gives closed 3
    ∷ []

-- the landing that seals the segment is cut between footers; the restart stores the missing ones
unfoldable pub sealed : List Line
sealed =
    calls (land 0 3 9) gives landed 0
    ∷ calls (land 1 3 9) gives landed 0
    ∷ calls (land 2 3 9) gives landed 1
    ∷ calls (land 1 2 9) gives landed 0
    ∷ calls (land 0 2 9) gives landed 0
    ∷ calls (land 2 2 2) gives cut
    ∷ boot 100 5 gives restarted 0 reading (13 ∷ 14 ∷ 12 ∷ 15 ∷ 16 ∷ 17 ∷ 18 ∷ 0 ∷ []) stamped (4 ∷ 5 ∷ 3 ∷ 6 ∷ 7 ∷ 8 ∷ 9 ∷ 0 ∷ [])
    ∷ calls (restart 255 100) gives restarted 0 reading (13 ∷ 14 ∷ 12 ∷ 15 ∷ 16 ∷ 17 ∷ 18 ∷ 0 ∷ []) stamped (4 ∷ 5 ∷ 3 ∷ 6 ∷ 7 ∷ 8 ∷ 9 ∷ 0 ∷ [])
    ∷ []

-- drive 0 is lost before its chunk lands: the stripe counts without it, and reads decode
unfoldable pub drive_lost : List Line
drive_lost =
    calls (write 7 (block_of 19) 9) gives sent 10 0 0
    ∷ calls (write 0 (block_of 20) 9) gives sent 11 0 1
    ∷ calls (land 1 0 9) gives landed 0
    ∷ calls (land 2 0 9) gives landed 0
    ∷ boot_without 0 6 gives restarted 0 reading (20 ∷ 14 ∷ 12 ∷ 15 ∷ 16 ∷ 17 ∷ 18 ∷ 19 ∷ []) stamped (11 ∷ 5 ∷ 3 ∷ 6 ∷ 7 ∷ 8 ∷ 9 ∷ 10 ∷ [])
    ∷ calls (read 7) gives lost 10
    ∷ calls (fill 7 (block_of 255)) gives filled 10
    ∷ calls (read 0) gives found 4588 11
    ∷ calls (fill 0 (block_of 255)) gives filled 11
    ∷ calls (read 8) gives refused 4
    ∷ calls (write 1 (block_of 21) 9) gives refused 3
    ∷ calls (land 0 0 9) gives refused 3
    ∷ calls (close 9) gives refused 3
    ∷ calls (reclaim 9) gives refused 3
    ∷ calls (rebuild 1 100) gives refused 1
    ∷ []

-- the rebuild is cut, and repeated; a further one is cut too, and repeated
unfoldable pub drive_back : List Line
drive_back =
    calls (rebuild 0 9) gives cut
    ∷ boot_without 0 7 gives restarted 0 reading (20 ∷ 14 ∷ 12 ∷ 15 ∷ 16 ∷ 17 ∷ 18 ∷ 19 ∷ []) stamped (11 ∷ 5 ∷ 3 ∷ 6 ∷ 7 ∷ 8 ∷ 9 ∷ 10 ∷ [])
    ∷ calls (rebuild 0 100) gives rebuilt
    ∷ calls (write 1 (block_of 21) 9) gives refused 3
    ∷ calls (rebuild 0 6) gives cut
    ∷ boot_without 0 8 gives restarted 0 reading (20 ∷ 14 ∷ 12 ∷ 15 ∷ 16 ∷ 17 ∷ 18 ∷ 19 ∷ []) stamped (11 ∷ 5 ∷ 3 ∷ 6 ∷ 7 ∷ 8 ∷ 9 ∷ 10 ∷ [])
    ∷ calls (rebuild 0 100) gives rebuilt
    ∷ boot 100 9 gives restarted 0 reading (20 ∷ 14 ∷ 12 ∷ 15 ∷ 16 ∷ 17 ∷ 18 ∷ 19 ∷ []) stamped (11 ∷ 5 ∷ 3 ∷ 6 ∷ 7 ∷ 8 ∷ 9 ∷ 10 ∷ [])
    ∷ []

-- overwrites seal the second segment; a write can't open a third one, and is refused 8 for it while the last stripes are in flight too (02, item 3)
unfoldable pub overwritten : List Line
overwritten =
    calls (write 1 (block_of 21) 9) gives sent 12 1 0
    ∷ calls (write 2 (block_of 22) 9) gives sent 13 1 2
    ∷ calls (land 0 1 9) gives landed 0
    ∷ calls (land 1 1 9) gives landed 0
    ∷ calls (land 2 1 9) gives landed 2
    ∷ calls (write 3 (block_of 23) 9) gives sent 14 2 1
    ∷ calls (write 0 (block_of 24) 9) gives sent 15 2 2
    ∷ calls (write 1 (block_of 25) 9) gives sent 16 3 0
    ∷ calls (close 9) gives closed 3
    ∷ calls (write 7 (block_of 26) 9) gives refused 8
    ∷ calls (land 0 3 9) gives landed 0
    ∷ calls (land 1 3 9) gives landed 0
    ∷ calls (land 2 3 9) gives landed 1
    ∷ calls (land 0 2 9) gives landed 0
    ∷ calls (land 1 2 9) gives landed 0
    ∷ calls (land 2 2 9) gives landed 2
    ∷ calls (write 7 (block_of 26) 9) gives refused 8
    ∷ []

-- reclaim copies the three live blocks of the first segment, and resets it once the copies have landed
unfoldable pub reclaimed : List Line
reclaimed =
    calls (reclaim 9) gives copied 9 0 0
    ∷ calls (close 9) gives refused 5
    ∷ calls (reclaim 9) gives copied 7 0 1
    ∷ calls (reclaim 9) gives copied 8 1 0
    ∷ calls (reclaim 9) gives refused 5
    ∷ calls (write 7 (block_of 26) 9) gives refused 8
    ∷ calls (close 9) gives closed 1
    ∷ calls (land 0 0 9) gives landed 0
    ∷ calls (land 1 0 9) gives landed 0
    ∷ calls (land 2 0 9) gives landed 0
    ∷ calls (land 0 1 9) gives landed 0
    ∷ calls (land 1 1 9) gives landed 0
    ∷ calls (land 2 1 9) gives landed 0
    ∷ calls (reclaim 9) gives was_reset 2
    ∷ calls (read 4) gives found 7252 7
    ∷ []

-- writes that never land; the restart moves the copies, is cut while it resets the old zones, and the last one finishes
unfoldable pub moved_again : List Line
moved_again =
    calls (write 7 (block_of 26) 9) gives sent 17 2 1
    ∷ calls (write 4 (block_of 27) 9) gives sent 18 2 2
    ∷ calls (land 0 2 9) gives landed 0
    ∷ boot 10 10 gives cut
    ∷ boot 100 11 gives restarted 0 reading (24 ∷ 25 ∷ 22 ∷ 23 ∷ 16 ∷ 17 ∷ 18 ∷ 19 ∷ []) stamped (15 ∷ 16 ∷ 13 ∷ 14 ∷ 7 ∷ 8 ∷ 9 ∷ 10 ∷ [])
    ∷ []

-- ---- the whole table

-- the events of lines
unfoldable pub events_in : List Line → List Event
events_in ls = map (λ (l : Line). l.event) ls

-- their answers
unfoldable pub answers_in : List Line → List (List ℕ)
answers_in ls = map (λ (l : Line). l.answer) ls

-- what their finished restarts read
unfoldable pub reads_in : List Line → List (List ℕ)
reads_in ls = flat (λ (l : Line). l.reads) ls

-- 93 events, nine finished restarts among them
unfoldable pub table : List Line
table = first_use ++ (moved ++ (sealed ++ (drive_lost ++ (drive_back ++ (overwritten ++ (reclaimed ++ moved_again))))))

-- the history
unfoldable pub history : List Event
history = events_in table
