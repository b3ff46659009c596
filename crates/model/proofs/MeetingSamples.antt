-- Samples of refusals that meet in one call, where the first of the op's row counts: "refusals in this order".
-- Assumes nothing.
use Prim.Native.Nat.{ℕ, zero, suc}
use mathlib.Core.List.{List, [], ◌∷◌, ◌++◌}
use mathlib.Core.Path.{◌≡◌, refl}
use lib.ListN.{set}
use Rattle.model.specs.State.{area_at, with_generation, with_area}
use Rattle.model.specs.Scopes.{last_generation}
use Rattle.model.specs.Calls.{Call, start, end, make, enter, exit, allocate, store, load, write, read, view_status}
use Rattle.model.specs.Run.{World}
use Rattle.model.proofs.SampleRuns.{after, each, supplied, with_state, copies, busy, in_heap, in_immortal, in2}

-- ---- 1 and 2, which every row begins with

-- a call of each op by thread t, with all else wrong
pub wrong : ℕ → List Call
wrong t =
    start t 0 ∷ end t ∷ make t 64 0 ∷ enter t 64 ∷ exit t ∷ allocate t 99 99
    ∷ store t 0 9 1 ∷ load t 0 9 ∷ write t 0 9 0 ∷ read t 0 9 ∷ view_status t 0 ∷ []

-- the scratch store is one word short
pub short : World
short = supplied busy (record { permanent = copies 9 9; scratch = copies 51 9; map = copies 1 0; written = copies 1 0 })

-- 1 comes first, by a thread above 15 and by one that is started
pub lengths_first : each short (wrong 16) ++ each short (wrong 2) ≡ copies 22 1
unfolding each short wrong busy
lengths_first = refl

-- then 2, by a thread above 15; by one that is not started, which op 01 refuses by 4
pub thread_next : each busy (wrong 16) ++ each busy (wrong 5) ≡ copies 11 2 ++ 4 ∷ copies 10 2
unfolding each wrong busy
thread_next = refl

-- ---- threads and scopes

-- op 01: 3 and 4
pub start_meets : each busy (start 2 0 ∷ []) ≡ 3 ∷ []
unfolding each busy
start_meets = refl

-- op 03: 6 and 7, as heap and immortal are always there; 6 and 8; 7 and 8
pub make_meets : each busy (make 2 0 1 ∷ make 2 1 1 ∷ make 2 64 0 ∷ make 2 2 0 ∷ make 2 2 99 ∷ []) ≡ 6 ∷ 6 ∷ 6 ∷ 7 ∷ 7 ∷ []
unfolding each busy
make_meets = refl

-- thread t enters the heap n times
heaps : ℕ → ℕ → List Call
heaps t zero = []
heaps t (suc n) = enter t 0 ∷ heaps t n

-- threads 1 and 2 have 32 entries; scope 4 is made, not open, and has the last generation
pub full : World
full =
    let w : World = after busy (make 2 4 2 ∷ heaps 1 32 ++ heaps 2 29) in
    with_state w (with_area w.state 4 (with_generation (area_at w.state 4) last_generation))

-- op 04: 6 and 5; 5 and 9; 9 and 10; 9 and 17; and 9 alone. 10 and 17 never meet: one is of an open scope, the other is not.
pub enter_meets : each full (enter 1 5 ∷ enter 3 64 ∷ enter 1 1 ∷ enter 2 2 ∷ enter 2 4 ∷ enter 2 0 ∷ []) ≡ 6 ∷ 6 ∷ 5 ∷ 9 ∷ 9 ∷ 9 ∷ []
unfolding each full heaps busy after
enter_meets = refl

-- ---- objects

-- op 06: 5 and 12
pub allocate_meets : each busy (allocate 3 99 99 ∷ []) ≡ 5 ∷ []
unfolding each busy
allocate_meets = refl

-- ops 07 to 0a and the shown part: 13 and 5
pub object_meets : each busy (store 3 1048577 9 1 ∷ load 3 1048577 9 ∷ write 3 1048577 9 0 ∷ read 3 1048577 9 ∷ view_status 3 1048577 ∷ []) ≡ copies 5 13
unfolding each busy
object_meets = refl

-- ops 07 to 0a: 5 (U) and 14
pub use_meets : each busy (store 3 in_heap 1 1 ∷ load 3 in_heap 1 ∷ write 3 in_heap 1 7 ∷ read 3 in_heap 1 ∷ []) ≡ copies 4 5
unfolding each busy
use_meets = refl

-- op 07: 14 and 15; 15 and 5 (R); 5 (R) and 16
pub store_meets : each busy (store 2 in2 1 1 ∷ store 3 in_immortal 0 1048577 ∷ store 1 in_heap 0 in2 ∷ []) ≡ 14 ∷ 15 ∷ 5 ∷ []
unfolding each busy
store_meets = refl

-- somebody wrote words that are no handles, of the heap's area, into the second slot and the first data word of immortal memory's object
pub spoilt : World
spoilt = supplied busy
    (record { permanent = set (set busy.memory.permanent 5 1048577) 6 1048577; scratch = busy.memory.scratch; map = busy.memory.map; written = busy.memory.written })

-- op 08: 14 and 15; 15 and 5 (R)
pub load_meets : each spoilt (load 2 in_immortal 2 ∷ load 3 in_immortal 1 ∷ []) ≡ 14 ∷ 15 ∷ []
unfolding each spoilt busy
load_meets = refl
