-- Samples of both sides of every bound, of set-up and of the rights table.
-- Assumes nothing.
use Prim.Native.Nat.{ℕ}
use mathlib.Core.List.{List, [], ◌∷◌}
use mathlib.Core.Path.{◌≡◌, refl}
use lib.ListN.{set}
use Rattle.layout.specs.Choice.{pick}
use Rattle.rights.specs.declared.Right.TheVariants.{Enter, Allocate, Use, Refer}
use Rattle.rights.specs.Rights.{Class, Heap, Immortal, Scope, class_of, allows, built_in}
use Rattle.model.specs.State.{area_at, with_generation, with_area}
use Rattle.model.specs.SetUp.{set_up_status, set_up_state}
use Rattle.model.specs.Calls.{Call, start, end, make, enter, exit, allocate, store, load, write, read, view_status}
use Rattle.model.specs.Run.{World}
use Rattle.model.proofs.SampleRuns.{answer, status, after, statuses, values, each, supplied, with_state, copies, first, busy, in_heap, in_immortal, in2, in3}

-- ---- threads

-- 2: threads 15 and 16; 4: kinds 0, 1, 3 and 4
pub start_bounds : each first (start 15 2 ∷ start 16 2 ∷ start 0 0 ∷ start 0 1 ∷ start 0 3 ∷ start 0 4 ∷ []) ≡ 0 ∷ 2 ∷ 4 ∷ 0 ∷ 0 ∷ 4 ∷ []
unfolding each first
start_bounds = refl

-- 3 until it has ended; 2 when it has; thread 15 is served as any other
pub start_twice : statuses first (start 15 2 ∷ start 15 2 ∷ enter 15 0 ∷ exit 15 ∷ end 15 ∷ end 15 ∷ enter 15 0 ∷ start 15 2 ∷ [])
    ≡ 0 ∷ 3 ∷ 0 ∷ 0 ∷ 0 ∷ 2 ∷ 2 ∷ 0 ∷ []
unfolding statuses first
start_twice = refl

-- 11: exit with 1 entry and with none; end with 1 entry and with none
pub entry_bounds : statuses busy (exit 2 ∷ exit 2 ∷ end 2 ∷ exit 2 ∷ exit 2 ∷ end 2 ∷ []) ≡ 0 ∷ 0 ∷ 11 ∷ 0 ∷ 11 ∷ 0 ∷ []
unfolding statuses busy
entry_bounds = refl

-- ---- scopes

-- 6 in op 03: areas 0, 1, 4, 63 and 64; 7: a scope that is made; 8: sizes 0, 16 and 17 of one free block
pub make_bounds : each busy
    (make 2 0 1 ∷ make 2 1 1 ∷ make 2 4 1 ∷ make 2 63 1 ∷ make 2 64 1 ∷ make 2 3 1 ∷ make 2 4 0 ∷ make 2 4 16 ∷ make 2 4 17 ∷ [])
    ≡ 6 ∷ 6 ∷ 0 ∷ 0 ∷ 6 ∷ 7 ∷ 8 ∷ 0 ∷ 8 ∷ []
unfolding each busy
make_bounds = refl

-- 6 in op 04: scopes 62, not made, and 63, made; area 64
pub enter_bounds : statuses busy (make 2 63 1 ∷ enter 2 62 ∷ enter 2 63 ∷ enter 2 64 ∷ []) ≡ 0 ∷ 6 ∷ 0 ∷ 6 ∷ []
unfolding statuses busy
enter_bounds = refl

-- 10: scope 3 has parent 2, scope 2 has none; heap and immortal entries are passed over
pub parent_bounds : statuses busy (start 4 2 ∷ enter 4 3 ∷ enter 4 1 ∷ enter 4 2 ∷ enter 4 2 ∷ enter 4 0 ∷ enter 4 3 ∷ []) ≡ 0 ∷ 10 ∷ 0 ∷ 0 ∷ 10 ∷ 0 ∷ 0 ∷ []
unfolding statuses busy
parent_bounds = refl

-- 17: scope 4 is not open, and its generation is g
pub worn : ℕ → World
worn g =
    let w : World = after busy (make 2 4 2 ∷ start 4 2 ∷ []) in
    with_state w (with_area w.state 4 (with_generation (area_at w.state 4) g))

-- from 2^44 - 2 it opens to the last generation; while it is open it may be entered, then no more
pub generation_bounds : statuses (worn 17592186044414) (enter 4 4 ∷ allocate 4 0 0 ∷ exit 4 ∷ enter 4 4 ∷ []) ≡ 0 ∷ 0 ∷ 0 ∷ 17 ∷ []
unfolding statuses worn busy after
generation_bounds = refl

-- its turn and the handle of its first object
pub generation_values : values (worn 17592186044414) (enter 4 4 ∷ allocate 4 0 0 ∷ []) ≡ 17592186044415 ∷ 18446744073708568576 ∷ []
unfolding values worn busy after
generation_values = refl

-- ---- objects

-- 12: an object of 2 words fits scope 3, one of 3 does not; the heap is full
pub allocate_bounds : each busy (allocate 2 0 0 ∷ allocate 2 1 0 ∷ allocate 2 0 1 ∷ allocate 2 1 1 ∷ allocate 2 0 2 ∷ allocate 1 0 0 ∷ [])
    ≡ 0 ∷ 0 ∷ 0 ∷ 12 ∷ 12 ∷ 12 ∷ []
unfolding each busy
allocate_bounds = refl

-- 13, which 19 comes after: null; an offset with no start bit; one at the used words, whose bit is set; another generation; a scope that is not open
pub object_bounds : each busy
    (read 2 in2 0 ∷ read 2 0 0 ∷ read 2 1081345 0 ∷ read 2 1081348 0 ∷ read 2 2129920 0 ∷ read 2 32768 0 ∷ read 2 1114112 0 ∷ read 2 1064965 0 ∷ [])
    ≡ 19 ∷ 13 ∷ 13 ∷ 13 ∷ 13 ∷ 13 ∷ 13 ∷ 13 ∷ []
unfolding each busy
object_bounds = refl

-- and an object whose scope has been left, also when the scope is entered anew
pub left_bounds : statuses busy (load 2 in3 0 ∷ exit 2 ∷ load 2 in3 0 ∷ enter 2 3 ∷ load 2 in3 0 ∷ []) ≡ 0 ∷ 0 ∷ 13 ∷ 0 ∷ 13 ∷ []
unfolding statuses busy
left_bounds = refl

-- "the whole object ends within the used words": somebody wrote a header for scope 2's object: with 1 data word, with 3; with bits above 27
pub spoilt : ℕ → World
spoilt h = supplied busy (record { permanent = busy.memory.permanent; scratch = set busy.memory.scratch 0 h; map = busy.memory.map; written = busy.memory.written })

pub end_bounds : status (spoilt 16385) (read 2 in2 0) ∷ status (spoilt 49153) (read 2 in2 0) ∷ each (spoilt 268468225) (read 2 in2 1 ∷ read 2 in2 2 ∷ [])
    ≡ 19 ∷ 13 ∷ 19 ∷ 14 ∷ []
unfolding status each spoilt busy
end_bounds = refl

-- 14: the last slot and the word after it; the last data word and one more; an object with no data word
pub index_bounds : each busy
    (load 2 in_immortal 1 ∷ load 2 in_immortal 2 ∷ store 2 in_immortal 1 0 ∷ store 2 in_immortal 2 0
    ∷ read 2 in_immortal 1 ∷ read 2 in_immortal 2 ∷ write 2 in_immortal 1 5 ∷ write 2 in_immortal 2 5 ∷ read 2 in3 0 ∷ [])
    ≡ 0 ∷ 14 ∷ 0 ∷ 14
    ∷ 19 ∷ 14 ∷ 0 ∷ 14 ∷ 14 ∷ []
unfolding each busy
index_bounds = refl

-- ---- references

-- 15: null, itself, a word that is no object
pub target_bounds : each busy (store 2 in2 0 0 ∷ store 2 in2 0 in2 ∷ store 2 in2 0 1 ∷ store 2 in2 0 1081345 ∷ []) ≡ 0 ∷ 0 ∷ 15 ∷ 15 ∷ []
unfolding each busy
target_bounds = refl

-- 16: in scope 3 one of 2, in 2 one of 3; in heap and immortal one of a scope; a target in heap or immortal anywhere
pub rule_bounds : each busy
    (store 2 in3 0 in2 ∷ store 2 in2 0 in3 ∷ store 2 in_heap 0 in2 ∷ store 2 in_immortal 0 in3
    ∷ store 2 in3 0 in_heap ∷ store 2 in_heap 0 in_immortal ∷ store 2 in_immortal 0 in_heap ∷ [])
    ≡ 0 ∷ 16 ∷ 16 ∷ 16
    ∷ 0 ∷ 0 ∷ 0 ∷ []
unfolding each busy
rule_bounds = refl

-- "Comparing the depth alone: sibling scopes pass": scopes 2 and 4 have no parent, and an object of 4 has handle 1,114,112
pub sibling_bounds : statuses busy
    (make 2 4 2 ∷ start 4 2 ∷ enter 4 4 ∷ allocate 4 1 0
    ∷ store 4 1114112 0 1114112 ∷ store 4 1114112 0 in2 ∷ store 2 in2 0 1114112 ∷ store 2 in3 0 1114112 ∷ [])
    ≡ 0 ∷ 0 ∷ 0 ∷ 0
    ∷ 0 ∷ 16 ∷ 16 ∷ 16 ∷ []
unfolding statuses busy
sibling_bounds = refl

-- ---- lengths

-- 1: each buffer one word short and one word long
pub of_lengths : ℕ → ℕ → ℕ → ℕ → ℕ
of_lengths p s m w = status (supplied busy (record { permanent = copies p 0; scratch = copies s 0; map = copies m 0; written = copies w 0 })) (start 4 2)

pub length_bounds : of_lengths 9 52 1 1 ∷ of_lengths 8 52 1 1 ∷ of_lengths 10 52 1 1 ∷ of_lengths 9 51 1 1 ∷ of_lengths 9 53 1 1
    ∷ of_lengths 9 52 0 1 ∷ of_lengths 9 52 2 1 ∷ of_lengths 9 52 1 0 ∷ of_lengths 9 52 1 2 ∷ of_lengths 9 52 2 2 ∷ []
    ≡ 0 ∷ 1 ∷ 1 ∷ 1 ∷ 1
    ∷ 1 ∷ 1 ∷ 1 ∷ 1 ∷ 1 ∷ []
unfolding of_lengths status busy
length_bounds = refl

-- ---- set-up

-- two maps of m words
pub set_up : ℕ → ℕ → ℕ → ℕ → ℕ → ℕ
set_up h i p s m = set_up_status h i (record { permanent = p; scratch = s; map = m }) m

-- P of 16,384 and 16,385, S likewise
pub set_up_limits : set_up 8192 8192 16384 16384 512 ∷ set_up 16384 0 16384 0 256 ∷ set_up 0 0 0 16384 256 ∷ set_up 0 0 0 0 0 ∷ set_up 16385 0 16385 0 257
    ∷ set_up 0 0 0 16385 257 ∷ []
    ≡ 0 ∷ 0 ∷ 0 ∷ 0 ∷ 1
    ∷ 1 ∷ []
unfolding set_up set_up_status answer
set_up_limits = refl

-- h + i is P, one less, one more, and P only where sums wrap at 2^64
pub set_up_sums : set_up 3 6 9 12 1 ∷ set_up 3 5 9 12 1 ∷ set_up 3 7 9 12 1 ∷ set_up 18446744073709551615 3 2 0 1 ∷ [] ≡ 0 ∷ 1 ∷ 1 ∷ 1 ∷ []
unfolding set_up set_up_status answer
set_up_sums = refl

-- the map one word short and long; 64 and 65 words to map
pub set_up_maps : set_up 3 6 9 12 0 ∷ set_up 3 6 9 12 2 ∷ set_up 4 4 8 56 1 ∷ set_up 4 4 8 57 1 ∷ set_up 4 4 8 57 2 ∷ [] ≡ 1 ∷ 1 ∷ 0 ∷ 1 ∷ 0 ∷ []
unfolding set_up set_up_status answer
set_up_maps = refl

-- the written map one word short, as long as the start map, and one word long
pub set_up_written : ℕ → ℕ
set_up_written k = set_up_status 3 6 (record { permanent = 9; scratch = 12; map = 1 }) k

pub set_up_written_lem : set_up_written 0 ∷ set_up_written 1 ∷ set_up_written 2 ∷ [] ≡ 1 ∷ 0 ∷ 1 ∷ []
unfolding set_up_written set_up_status answer
set_up_written_lem = refl

-- "A refused set-up gives the state of an accepted one with all lengths 0": a thread starts and enters heap and immortal; no scope and no
-- object fits
pub refused : World
refused = record {
  state = set_up_state 18446744073709551615 3 (record { permanent = 2; scratch = 0; map = 1 }) 1;
  memory = record { permanent = []; scratch = []; map = []; written = [] };
  trace = [];
}

pub refused_set_up : statuses refused (start 2 2 ∷ enter 2 0 ∷ enter 2 1 ∷ make 2 2 1 ∷ allocate 2 0 0 ∷ []) ≡ 0 ∷ 0 ∷ 0 ∷ 8 ∷ 12 ∷ []
unfolding statuses refused set_up_state set_up_status
refused_set_up = refl

-- heap and immortal have their own sizes: 3 and 6 words
pub set_up_sizes : statuses first (start 2 2 ∷ allocate 2 0 3 ∷ allocate 2 0 2 ∷ enter 2 1 ∷ allocate 2 0 6 ∷ allocate 2 0 5 ∷ [])
    ≡ 0 ∷ 12 ∷ 0 ∷ 0 ∷ 12 ∷ 0 ∷ []
unfolding statuses first
set_up_sizes = refl

-- ---- rights

-- the digits E, A, U, R of a kind and a class in the constant table
pub digits : ℕ → Class → List ℕ
digits k c =
    pick (allows built_in k c Enter) 1 0 ∷ pick (allows built_in k c Allocate) 1 0 ∷ pick (allows built_in k c Use) 1 0 ∷ pick (allows built_in k c Refer) 1 0 ∷ []

-- document 01's table, each row heap, immortal, scope: ordinary, real-time, no-heap
pub rights :
    digits 1 Heap ∷ digits 1 Immortal ∷ digits 1 Scope
    ∷ digits 2 Heap ∷ digits 2 Immortal ∷ digits 2 Scope
    ∷ digits 3 Heap ∷ digits 3 Immortal ∷ digits 3 Scope ∷ []
    ≡ (1 ∷ 1 ∷ 1 ∷ 1 ∷ []) ∷ (0 ∷ 0 ∷ 1 ∷ 1 ∷ []) ∷ (0 ∷ 0 ∷ 0 ∷ 0 ∷ [])
    ∷ (1 ∷ 1 ∷ 1 ∷ 1 ∷ []) ∷ (1 ∷ 1 ∷ 1 ∷ 1 ∷ []) ∷ (1 ∷ 1 ∷ 1 ∷ 1 ∷ [])
    ∷ (0 ∷ 0 ∷ 0 ∷ 0 ∷ []) ∷ (1 ∷ 1 ∷ 1 ∷ 1 ∷ []) ∷ (1 ∷ 1 ∷ 1 ∷ 1 ∷ []) ∷ []
unfolding digits answer
rights = refl

-- no thread has kind 0 or 4
pub no_rights : digits 0 Heap ∷ digits 0 Scope ∷ digits 4 Heap ∷ digits 4 Scope ∷ [] ≡ copies 4 0 ∷ copies 4 0 ∷ copies 4 0 ∷ copies 4 0 ∷ []
unfolding digits answer
no_rights = refl

-- "Area 0 is the heap, 1 immortal, 2 to 63 scopes."
pub classes : class_of 0 ∷ class_of 1 ∷ class_of 2 ∷ class_of 63 ∷ [] ≡ Heap ∷ Immortal ∷ Scope ∷ Scope ∷ []
unfolding answer
classes = refl

-- "Refusal 5 tests E in op 04 (area q)": an ordinary and a no-heap thread at heap, immortal, scope 2
pub enter_rights : each busy (enter 1 0 ∷ enter 1 1 ∷ enter 1 2 ∷ enter 3 0 ∷ enter 3 1 ∷ enter 3 2 ∷ []) ≡ 0 ∷ 5 ∷ 5 ∷ 5 ∷ 0 ∷ 0 ∷ []
unfolding each busy
enter_rights = refl

-- "A in 06 (current area)": no-heap in the heap, then in immortal memory
pub allocate_rights : statuses busy (allocate 3 0 0 ∷ enter 3 1 ∷ allocate 3 0 0 ∷ []) ≡ 5 ∷ 0 ∷ 0 ∷ []
unfolding statuses busy
allocate_rights = refl

-- "U in 09, 0a and the shown part (the object's area), and in 07 and 08 U for the object": for heap, immortal, scope 2
pub uses : ℕ → ℕ → List Call
uses t p = store t p 0 0 ∷ load t p 0 ∷ write t p 0 7 ∷ read t p 0 ∷ view_status t p ∷ []

-- where it has the right, the read is of a word that nobody wrote
pub used : List ℕ
used = 0 ∷ 0 ∷ 0 ∷ 19 ∷ 0 ∷ []

pub use_rights : each busy (uses 1 in_heap) ∷ each busy (uses 1 in_immortal) ∷ each busy (uses 1 in2)
    ∷ each busy (uses 3 in_heap) ∷ each busy (uses 3 in_immortal) ∷ each busy (uses 3 in2) ∷ []
    ≡ used ∷ used ∷ copies 5 5
    ∷ copies 5 5 ∷ used ∷ used ∷ []
unfolding each busy uses used
use_rights = refl

-- "then R for the target or loaded word, where null always passes": a reference to the heap, by no-heap, ordinary and real-time
pub refer_rights : statuses busy
    (store 3 in_immortal 0 in_heap ∷ store 1 in_immortal 0 in_heap ∷ load 3 in_immortal 0 ∷ load 1 in_immortal 0
    ∷ load 2 in_immortal 0 ∷ store 3 in_immortal 0 0 ∷ load 3 in_immortal 0 ∷ [])
    ≡ 5 ∷ 0 ∷ 5 ∷ 0
    ∷ 0 ∷ 0 ∷ 0 ∷ []
unfolding statuses busy
refer_rights = refl
