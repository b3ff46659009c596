-- Samples of values: what each call answers beside its status, what it shows and which words it leaves; and the parts of handles and headers.
-- Assumes nothing.
use Prim.Native.Nat.{ℕ}
use mathlib.Core.List.{List, [], ◌∷◌, ◌++◌, map}
use mathlib.Core.Path.{◌≡◌, refl}
use lib.ListN.{length}
use Rattle.layout.specs.Handle.{handle_of, offset_of, area_of, generation_of}
use Rattle.layout.specs.Header.{header_of, slots_of, data_of}
use Rattle.model.specs.Calls.{Call, start, end, make, enter, exit, allocate, store, load, write, read, view, view_status}
use Rattle.model.specs.Run.{World}
use Rattle.model.proofs.SampleRuns.{answer, after, values, each, copies, first, busy, in_heap, in_immortal, in2, in3}

-- ---- areas

-- "value: turn": of heap, immortal, a fresh scope, the same scope for two more threads; after all have left it, one higher
-- "value: scope's count left, else 0": of that scope three times, then of immortal and heap
pub area_values : values first
    (start 0 2 ∷ start 1 2 ∷ start 2 2 ∷ make 0 2 6
    ∷ enter 0 0 ∷ enter 0 1 ∷ enter 0 2 ∷ enter 1 2 ∷ enter 2 2
    ∷ exit 2 ∷ exit 0 ∷ exit 1 ∷ enter 1 2 ∷ exit 0 ∷ exit 0 ∷ [])
    ≡ 0 ∷ 0 ∷ 0 ∷ 0
    ∷ 1 ∷ 1 ∷ 1 ∷ 1 ∷ 1
    ∷ 2 ∷ 1 ∷ 0 ∷ 2 ∷ 0 ∷ 0 ∷ []
unfolding values first
area_values = refl

-- ---- objects

-- "value: handle": in heap, immortal, scope 2 twice, and scope 2 when it is entered anew
pub allocate_values : values first
    (start 2 2 ∷ make 2 2 6 ∷ allocate 2 1 1 ∷ enter 2 1 ∷ allocate 2 2 2
    ∷ enter 2 2 ∷ allocate 2 1 2 ∷ allocate 2 0 0 ∷ exit 2 ∷ enter 2 2 ∷ allocate 2 0 0 ∷ [])
    ≡ 0 ∷ 0 ∷ 1048576 ∷ 1 ∷ 1064960
    ∷ 1 ∷ 1081344 ∷ 1081348 ∷ 0 ∷ 2 ∷ 2129920 ∷ []
unfolding values first
allocate_values = refl

-- "value: stored word": of an empty slot, after a store, after a store of null
pub load_values : values busy
    (load 2 in2 0 ∷ store 2 in2 0 in_heap ∷ load 2 in2 0 ∷ store 2 in2 0 0 ∷ load 2 in2 0
    ∷ store 2 in_immortal 1 in_heap ∷ load 2 in_immortal 1 ∷ load 2 in_immortal 0 ∷ [])
    ≡ 0 ∷ 0 ∷ in_heap ∷ 0 ∷ 0
    ∷ 0 ∷ in_heap ∷ 0 ∷ []
unfolding values busy
load_values = refl

-- "value: word": of an unwritten word, which is refused, of two written ones; the slot beside them is still empty
pub read_values : values busy
    (read 2 in2 0 ∷ write 2 in2 0 7 ∷ write 2 in2 1 18446744073709551615 ∷ read 2 in2 0 ∷ read 2 in2 1
    ∷ load 2 in2 0 ∷ write 2 in_heap 0 5 ∷ read 2 in_heap 0 ∷ [])
    ≡ 0 ∷ 0 ∷ 0 ∷ 7 ∷ 18446744073709551615
    ∷ 0 ∷ 0 ∷ 5 ∷ []
unfolding values busy
read_values = refl

-- "The value is 0 where none is named"
pub other_values : values busy
    (start 4 2 ∷ end 4 ∷ make 2 4 2 ∷ store 2 in2 0 in_heap ∷ write 2 in2 0 7 ∷ view 2 in2 ∷ view_status 2 in2 ∷ [])
    ≡ copies 7 0
unfolding values busy
other_values = refl

-- "or a refusal and 0": by 5, 11, 12, and 5 for a slot and a data word that are not 0
pub refused_values : values busy
    (write 2 in_heap 0 7 ∷ store 2 in_heap 0 in_immortal ∷ enter 3 0 ∷ exit 1 ∷ allocate 2 9 9 ∷ load 3 in_heap 0 ∷ read 3 in_heap 0 ∷ [])
    ≡ copies 7 0
unfolding values busy
refused_values = refl

-- ---- words

-- "header (s in bits 0 to 13, d in bits 14 to 27, the rest 0), slots, data", "sets slots and data to 0"; no other word changes
pub permanent_words : busy.memory.permanent ≡ 16385 ∷ 0 ∷ 0 ∷ 32770 ∷ 0 ∷ 0 ∷ 0 ∷ 0 ∷ 9 ∷ []
unfolding busy
permanent_words = refl

pub scratch_words : busy.memory.scratch ≡ 32769 ∷ 0 ∷ 0 ∷ 0 ∷ copies 12 9 ++ (1 ∷ 0 ∷ copies 34 9)
unfolding busy
scratch_words = refl

-- "sets the map bit of the header and clears those of its other words": bits 1, 2, 4 to 7, 10 to 12 and 26 are clear
pub map_words : busy.memory.map ≡ 18446744073642435337 ∷ []
unfolding busy
map_words = refl

-- a slot and a data word are written, and nothing else
pub stored_words : (after busy (store 2 in3 0 in2 ∷ write 2 in2 1 7 ∷ [])).memory.scratch ≡ 32769 ∷ 0 ∷ 0 ∷ 7 ∷ copies 12 9 ++ (1 ∷ in2 ∷ copies 34 9)
unfolding busy after
stored_words = refl

-- ---- the shown part

-- "exactly its d words": of scope 2, heap and immortal, and of an object that has none
pub part : World → ℕ → ℕ → List ℕ
part w t p = (answer w (view t p)).words

pub written : World
written = after busy (write 2 in2 0 7 ∷ write 2 in_heap 0 5 ∷ write 2 in_immortal 1 6 ∷ [])

pub parts : part written 2 in2 ∷ part written 2 in_heap ∷ part written 2 in_immortal ∷ part written 2 in3 ∷ []
    ≡ (7 ∷ 0 ∷ []) ∷ (5 ∷ []) ∷ (0 ∷ 6 ∷ []) ∷ [] ∷ []
unfolding part written busy after answer
parts = refl

-- "Refusals of this call (1, 2, 13, 5) show a part of length 0": 2, 13 and 5
pub no_parts : part written 16 in2 ∷ part written 2 0 ∷ part written 3 in_heap ∷ [] ≡ [] ∷ [] ∷ [] ∷ []
unfolding part written busy after answer
no_parts = refl

-- "a call beside it yields the status": the view's own is 0, the other's is 2, 13, 5, and 0 also where there is no data word
pub part_statuses : each busy (view 16 in2 ∷ view 2 0 ∷ view 3 in_heap ∷ view_status 16 in2 ∷ view_status 2 0 ∷ view_status 3 in_heap ∷ view_status 2 in2 ∷ view_status 2 in3 ∷ [])
    ≡ 0 ∷ 0 ∷ 0 ∷ 2 ∷ 13 ∷ 5 ∷ 0 ∷ 0 ∷ []
unfolding each busy
part_statuses = refl

-- no other call shows a word
pub no_other_parts : map (λ (c : Call). length (answer busy c).words)
    (start 4 2 ∷ end 1 ∷ make 2 4 2 ∷ enter 2 0 ∷ exit 2 ∷ allocate 2 0 0
    ∷ store 2 in2 0 in_heap ∷ load 2 in2 0 ∷ write 2 in2 0 7 ∷ read 2 in2 0 ∷ view_status 2 in2 ∷ [])
    ≡ copies 11 0
unfolding busy answer
no_other_parts = refl

-- ---- handles and headers

-- sample 1 taken apart; the highest handle and its parts
pub handle_parts : handle_of 3 5 2 ∷ offset_of 2179075 ∷ area_of 2179075 ∷ generation_of 2179075
    ∷ handle_of 16383 63 17592186044415 ∷ offset_of 18446744073709551615 ∷ area_of 18446744073709551615 ∷ generation_of 18446744073709551615 ∷ []
    ≡ 2179075 ∷ 3 ∷ 5 ∷ 2
    ∷ 18446744073709551615 ∷ 16383 ∷ 63 ∷ 17592186044415 ∷ []
unfolding answer
handle_parts = refl

-- the header for s = 1, d = 2, taken apart; the highest header; bits 28 and up say nothing
pub header_parts : header_of 1 2 ∷ slots_of 32769 ∷ data_of 32769 ∷ header_of 16383 16383 ∷ slots_of 268468225 ∷ data_of 268468225 ∷ []
    ≡ 32769 ∷ 1 ∷ 2 ∷ 268435455 ∷ 1 ∷ 2 ∷ []
unfolding answer
header_parts = refl
