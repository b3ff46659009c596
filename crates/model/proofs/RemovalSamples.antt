-- Samples of blocks and removals: whole blocks, the lowest run, the size as asked, old handles, and the order of the refusals.
-- Assumes nothing.
use mathlib.Core.List.{List, [], ◌∷◌, ◌++◌}
use mathlib.Core.Path.{◌≡◌, refl}
use Rattle.model.specs.State.{State, area_at}
use Rattle.model.specs.Blocks.{blocks_for, room_for}
use Rattle.model.specs.Calls.{Call, start, make, enter, exit, remove, allocate, store, read}
use Rattle.model.specs.Run.{World, begin}
use Rattle.model.proofs.SampleRuns.{answer, after, statuses, values, each, supplied, copies, busy, in2}

-- ---- blocks

-- a thread, and scratch of 100 words: six blocks and a rest of 4
pub lab : World
lab = begin 3 6 (record { permanent = copies 9 9; scratch = copies 100 9; map = copies 2 0; written = copies 2 0 })

-- "whole blocks of 16 words": 16 k words take k blocks, one more takes another
pub rounded : blocks_for 1 ∷ blocks_for 16 ∷ blocks_for 17 ∷ blocks_for 96 ∷ blocks_for 97 ∷ [] ≡ 1 ∷ 1 ∷ 2 ∷ 6 ∷ 7 ∷ []
rounded = refl

-- "(a shorter rest of S is not used)": 96 words fit, 97 do not, and then nothing does; six scopes of a word each, and no seventh
pub rest_unused : statuses lab (start 0 2 ∷ make 0 2 97 ∷ make 0 2 96 ∷ make 0 3 1 ∷ []) ≡ 0 ∷ 8 ∷ 0 ∷ 8 ∷ []
unfolding statuses lab
rest_unused = refl

pub one_each : statuses lab (start 0 2 ∷ make 0 2 1 ∷ make 0 3 1 ∷ make 0 4 1 ∷ make 0 5 1 ∷ make 0 6 1 ∷ make 0 7 1 ∷ make 0 8 1 ∷ [])
    ≡ copies 7 0 ++ (8 ∷ [])
unfolding statuses lab
one_each = refl

-- six scopes of a block each, of which those in blocks 1, 3 and 4 are removed
pub gaps : List Call
gaps =
    start 0 2 ∷ make 0 2 16 ∷ make 0 3 9 ∷ make 0 4 16 ∷ make 0 5 16 ∷ make 0 6 16 ∷ make 0 7 16
    ∷ remove 0 3 ∷ remove 0 5 ∷ remove 0 6 ∷ []

-- "Op 0c removes scope q and frees its room": bits 0, 2 and 5 are left
pub freed : (after lab gaps).state.used_bits ≡ 0b100101 ∷ copies 15 0
unfolding after lab gaps
freed = refl

-- "the lowest run of adjacent clear bits that holds it": block 1 for 16 words, block 3 for 17 and for 32; none for 33, although three blocks are free
pub lowest : room_for (after lab gaps).state 16 ∷ room_for (after lab gaps).state 17 ∷ room_for (after lab gaps).state 32 ∷ room_for (after lab gaps).state 33 ∷ []
    ≡ 1 ∷ 3 ∷ 3 ∷ 6 ∷ []
unfolding answer after lab gaps
lowest = refl

pub fragmented : statuses (after lab gaps) (make 0 8 33 ∷ make 0 8 32 ∷ make 0 9 17 ∷ make 0 9 16 ∷ make 0 10 1 ∷ []) ≡ 8 ∷ 0 ∷ 8 ∷ 0 ∷ 8 ∷ []
unfolding statuses after lab gaps
fragmented = refl

-- where they lie, and the sizes as asked
pub laid : let s : State = (after lab (gaps ++ (make 0 8 17 ∷ make 0 9 1 ∷ []))).state in
    ((area_at s 8).start ≡ 48) × ((area_at s 8).size ≡ 17) × ((area_at s 9).start ≡ 16) × ((area_at s 9).size ≡ 1) × (s.used_bits ≡ 0b111111 ∷ copies 15 0)
unfolding after lab gaps
laid = (refl, refl, refl, refl, refl)

-- sizes as large as a word: 2^64 - 15 and 2^64 - 1
pub large : each (after lab (start 0 2 ∷ [])) (make 0 2 18446744073709551601 ∷ make 0 2 18446744073709551615 ∷ []) ≡ 8 ∷ 8 ∷ []
unfolding each after lab
large = refl

-- the size stays as asked for refusal 12: a scope of 8 words takes an object of 8 and no more, one of 17 an object of 17
pub as_asked : statuses lab (start 0 2 ∷ make 0 2 8 ∷ enter 0 2 ∷ allocate 0 3 4 ∷ allocate 0 0 0 ∷ make 0 3 17 ∷ enter 0 3 ∷ allocate 0 0 17 ∷ allocate 0 0 16 ∷ [])
    ≡ 0 ∷ 0 ∷ 0 ∷ 0 ∷ 12 ∷ 0 ∷ 0 ∷ 12 ∷ 0 ∷ []
unfolding statuses lab
as_asked = refl

-- ---- removal

-- "A removed scope counts as not made": 6 for an entry and for another removal, no 7 for a making
pub unmade : statuses lab (start 0 2 ∷ make 0 2 8 ∷ remove 0 2 ∷ enter 0 2 ∷ remove 0 2 ∷ make 0 2 20 ∷ make 0 2 1 ∷ enter 0 2 ∷ [])
    ≡ 0 ∷ 0 ∷ 0 ∷ 6 ∷ 6 ∷ 0 ∷ 7 ∷ 0 ∷ []
unfolding statuses lab
unmade = refl

-- "An area number made again continues its old turns, so that old handles stay dead": the object of turn 1 is no object and no target any more
abbrev again : List Call
again = start 0 2 ∷ make 0 2 8 ∷ enter 0 2 ∷ allocate 0 1 1 ∷ exit 0 ∷ remove 0 2 ∷ make 0 2 8 ∷ enter 0 2 ∷ allocate 0 1 1 ∷ []

pub generations : values lab again ≡ 0 ∷ 0 ∷ 1 ∷ in2 ∷ 0 ∷ 0 ∷ 0 ∷ 2 ∷ 2129920 ∷ []
unfolding values lab
generations = refl

pub old_handles : statuses (after lab again) (read 0 in2 0 ∷ store 0 2129920 0 in2 ∷ store 0 2129920 0 2129920 ∷ []) ≡ 13 ∷ 15 ∷ 0 ∷ []
unfolding statuses after lab
old_handles = refl

-- the last exit frees nothing: the scope keeps its room, and its words start where they did
pub kept_room : ((after lab (start 0 2 ∷ make 0 2 8 ∷ enter 0 2 ∷ exit 0 ∷ [])).state.used_bits ≡ 1 ∷ copies 15 0)
    × ((after lab (start 0 2 ∷ make 0 2 8 ∷ enter 0 2 ∷ exit 0 ∷ make 0 3 8 ∷ [])).state.used_bits ≡ 0b11 ∷ copies 15 0)
unfolding after lab
kept_room = (refl, refl)

-- a removal leaves everything else of the record, and no lent word changes
pub record_left : let w : World = after busy (make 2 4 16 ∷ enter 2 4 ∷ exit 2 ∷ remove 2 4 ∷ []) in
    ((area_at w.state 4).generation ≡ 1) × ((area_at w.state 4).start ≡ 0) × ((area_at w.state 4).size ≡ 0) × (w.memory ≡ busy.memory)
    × (w.state.used_bits ≡ busy.state.used_bits)
unfolding after busy
record_left = (refl, refl, refl, refl, refl)

-- "20 when the scope is open": scopes 2 and 3 are, also for a thread that is in neither; closed it is removed, and its child before it
pub open_scope : statuses busy (remove 2 2 ∷ remove 1 3 ∷ exit 2 ∷ remove 2 2 ∷ remove 1 3 ∷ exit 2 ∷ remove 2 2 ∷ []) ≡ 20 ∷ 20 ∷ 0 ∷ 20 ∷ 0 ∷ 0 ∷ 0 ∷ []
unfolding statuses busy
open_scope = refl

-- 6: areas 0, 1, 64 and a scope that is not made; 2 before 6; 1 before all
pub meeting : each busy (remove 2 0 ∷ remove 2 1 ∷ remove 2 64 ∷ remove 2 4 ∷ remove 2 63 ∷ remove 16 2 ∷ remove 4 0 ∷ remove 15 64 ∷ []) ≡ 6 ∷ 6 ∷ 6 ∷ 6 ∷ 6 ∷ 2 ∷ 2 ∷ 2 ∷ []
unfolding each busy
meeting = refl

pub other_lengths : each (supplied busy (record { permanent = []; scratch = []; map = []; written = [] })) (remove 2 2 ∷ remove 16 0 ∷ []) ≡ 1 ∷ 1 ∷ []
unfolding each busy
other_lengths = refl

-- its value is 0, refused or not
pub removal_values : values busy (remove 2 3 ∷ exit 2 ∷ remove 2 3 ∷ remove 2 3 ∷ []) ≡ copies 4 0
unfolding values busy
removal_values = refl
