-- Samples of the written map: which reads 19 refuses, and which bits calls set and clear.
-- Assumes nothing.
use mathlib.Core.List.{[], ◌∷◌}
use mathlib.Core.Path.{◌≡◌, refl}
use lib.ListN.{set}
use Rattle.model.specs.Calls.{start, end, make, enter, exit, allocate, store, load, write, read, view, view_status}
use Rattle.model.specs.Run.{World}
use Rattle.model.proofs.SampleRuns.{answer, after, statuses, values, each, supplied, busy, in_heap, in_immortal, in2, in3}

-- ---- 19

-- "Reading a data word that nobody wrote must be refused": in heap, immortal and scope 2
pub unwritten : each busy (read 2 in_heap 0 ∷ read 2 in_immortal 0 ∷ read 2 in_immortal 1 ∷ read 2 in2 0 ∷ read 2 in2 1 ∷ []) ≡ 19 ∷ 19 ∷ 19 ∷ 19 ∷ 19 ∷ []
unfolding each busy
unwritten = refl

-- writing 0 is a writing, of this word alone: the read yields 0 by status 0
pub zero_written : statuses busy (write 2 in2 0 0 ∷ read 2 in2 0 ∷ read 2 in2 1 ∷ write 2 in2 1 5 ∷ read 2 in2 1 ∷ []) ≡ 0 ∷ 0 ∷ 19 ∷ 0 ∷ 0 ∷ []
unfolding statuses busy
zero_written = refl

pub zero_value : values busy (write 2 in2 0 0 ∷ read 2 in2 0 ∷ read 2 in2 1 ∷ write 2 in2 1 5 ∷ read 2 in2 1 ∷ []) ≡ 0 ∷ 0 ∷ 0 ∷ 0 ∷ 5 ∷ []
unfolding values busy
zero_value = refl

-- "after 14": an index not below d; an object with no data word
pub index_first : each busy (read 2 in2 2 ∷ read 2 in_heap 1 ∷ read 2 in3 0 ∷ []) ≡ 14 ∷ 14 ∷ 14 ∷ []
unfolding each busy
index_first = refl

-- "allocation clears it for the object's words": the words were written before scope 2 was left; the new object has the same slots, then none
pub emptied : statuses busy
    (write 2 in2 0 7 ∷ write 2 in2 1 8 ∷ exit 2 ∷ exit 2 ∷ enter 2 2 ∷ allocate 2 1 2 ∷ read 2 2129920 0 ∷ read 2 2129920 1
    ∷ exit 2 ∷ enter 2 2 ∷ allocate 2 0 3 ∷ read 2 3178496 0 ∷ read 2 3178496 1 ∷ read 2 3178496 2 ∷ [])
    ≡ 0 ∷ 0 ∷ 0 ∷ 0 ∷ 0 ∷ 0 ∷ 19 ∷ 19
    ∷ 0 ∷ 0 ∷ 0 ∷ 19 ∷ 19 ∷ 19 ∷ []
unfolding statuses busy
emptied = refl

-- ---- the bits

-- all bits were 1: those of the objects' words are 0, header, slots and data: 0 to 7, 9 to 12, 25 and 26
pub cleared_bits : busy.memory.written ≡ 18446744073608880384 ∷ []
unfolding busy
cleared_bits = refl

-- "op 09 sets the word's bit", past the slots: bit 12, and nothing else of either map
pub set_bit : (after busy (write 2 in2 1 7 ∷ [])).memory.written ≡ 18446744073608884480 ∷ []
unfolding after busy
set_bit = refl

pub start_bits : (after busy (write 2 in2 1 7 ∷ [])).memory.map ≡ busy.memory.map
unfolding after busy
start_bits = refl

-- a refused write sets no bit: 14, 5, 13, 2
pub refused_bits : (after busy (write 2 in2 2 7 ∷ write 3 in_heap 0 7 ∷ write 2 0 0 7 ∷ write 16 in2 0 7 ∷ [])).memory ≡ busy.memory
unfolding after busy
refused_bits = refl

-- no other call touches the written map
pub other_bits : (after busy
    (start 4 2 ∷ end 4 ∷ make 2 4 2 ∷ store 2 in2 0 in_heap ∷ load 2 in2 0 ∷ read 2 in2 0 ∷ view 2 in2 ∷ view_status 2 in2 ∷ exit 2 ∷ exit 2 ∷ enter 2 2 ∷ [])
    ).memory.written ≡ busy.memory.written
unfolding after busy
other_bits = refl

-- ---- the shown part

-- somebody wrote 7 into the first data word of scope 2's object, and no bit
pub raw : World
raw = supplied busy (record {
  permanent = busy.memory.permanent;
  scratch = set busy.memory.scratch 2 7;
  map = busy.memory.map;
  written = busy.memory.written;
})

-- "The shown part of a store still shows raw words"; the read of it is refused
pub raw_shown : (answer raw (view 2 in2)).words ≡ 7 ∷ 0 ∷ []
unfolding raw busy answer
raw_shown = refl

pub raw_statuses : each raw (view_status 2 in2 ∷ read 2 in2 0 ∷ []) ≡ 0 ∷ 19 ∷ []
unfolding raw busy each
raw_statuses = refl
