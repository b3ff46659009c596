-- The twelve samples of document 01, "Samples to hold it against", as rows of one statement, computed from the definitions.
-- Assumes nothing.
use Prim.Native.Nat.{ℕ, zero, suc}
use mathlib.Core.List.{List, [], ◌∷◌, ◌++◌}
use mathlib.Core.Path.{◌≡◌, refl}
use Rattle.layout.specs.Handle.{handle_of}
use Rattle.layout.specs.Header.{header_of}
use Rattle.model.specs.Calls.{Call, start, make, enter, exit, allocate, store}
use Rattle.model.specs.Run.{World, begin}
use Rattle.model.proofs.SampleRuns.{copies, statuses, values}

-- 16 words each of heap and immortal, 32 of scratch; and the same with 4,096 of scratch
first : World
first = begin 16 16 (record { permanent = copies 32 0; scratch = copies 32 0; map = copies 1 0; written = copies 1 0 })

wide : World
wide = begin 16 16 (record { permanent = copies 32 0; scratch = copies 4096 0; map = copies 65 0; written = copies 65 0 })

-- the last of a list of numbers
last : List ℕ → ℕ
last [] = 0
last (x ∷ []) = x
last (x ∷ y ∷ l) = last (y ∷ l)

-- a real-time thread in scope 2 of 8 words, with an object of 3 slots and 4 data words
full : List Call
full = start 0 2 ∷ make 0 2 8 ∷ enter 0 2 ∷ allocate 0 3 4 ∷ []

-- scopes 2 and 3; thread 0 in 2 then 3, thread 1 with an empty stack
nested : List Call
nested = start 0 2 ∷ start 1 2 ∷ make 0 2 8 ∷ make 0 3 8 ∷ enter 0 2 ∷ enter 0 3 ∷ []

-- an object of one slot in 2, whose handle is 1,081,344, and one in 3, whose handle is 1,097,728
objects : List Call
objects = start 0 2 ∷ make 0 2 8 ∷ make 0 3 8 ∷ enter 0 2 ∷ allocate 0 1 0 ∷ enter 0 3 ∷ allocate 0 1 0 ∷ []

heaps : ℕ → List Call
heaps zero = []
heaps (suc n) = enter 0 0 ∷ heaps n

-- each row is a sample's number and what the definitions give; in 12 the object does not fit either, so that 5 is seen to come before 12
pub rows : List (List ℕ)
rows =
    (1 ∷ handle_of 3 5 2 ∷ [])
    ∷ (2 ∷ header_of 1 1 ∷ [])
    ∷ (3 ∷ statuses first full)
    ∷ (4 ∷ last (statuses first (full ++ allocate 0 0 0 ∷ [])) ∷ [])
    ∷ (5 ∷ values first (full ++ exit 0 ∷ enter 0 2 ∷ allocate 0 3 4 ∷ []))
    ∷ (6 ∷ statuses wide (start 0 2 ∷ make 0 2 4080 ∷ make 0 3 16 ∷ make 0 4 1 ∷ []))
    ∷ (7 ∷ statuses first (nested ++ enter 1 3 ∷ []))
    ∷ (8 ∷ statuses first (nested ++ enter 1 2 ∷ enter 1 0 ∷ enter 1 3 ∷ []))
    ∷ (9 ∷ last (statuses first (objects ++ store 0 1097728 0 1081344 ∷ [])) ∷ [])
    ∷ (10 ∷ last (statuses first (objects ++ store 0 1081344 0 1097728 ∷ [])) ∷ [])
    ∷ (11 ∷ last (statuses first (start 0 2 ∷ heaps 32)) ∷ last (statuses first (start 0 2 ∷ heaps 33)) ∷ [])
    ∷ (12 ∷ statuses first (start 0 3 ∷ allocate 0 16 16 ∷ []))
    ∷ []

pub samples : rows
    ≡ (1 ∷ 2179075 ∷ [])
    ∷ (2 ∷ 16385 ∷ [])
    ∷ (3 ∷ 0 ∷ 0 ∷ 0 ∷ 0 ∷ [])
    ∷ (4 ∷ 12 ∷ [])
    ∷ (5 ∷ 0 ∷ 0 ∷ 1 ∷ 1081344 ∷ 0 ∷ 2 ∷ 2129920 ∷ [])
    ∷ (6 ∷ 0 ∷ 0 ∷ 0 ∷ 8 ∷ [])
    ∷ (7 ∷ 0 ∷ 0 ∷ 0 ∷ 0 ∷ 0 ∷ 0 ∷ 10 ∷ [])
    ∷ (8 ∷ 0 ∷ 0 ∷ 0 ∷ 0 ∷ 0 ∷ 0 ∷ 0 ∷ 0 ∷ 0 ∷ [])
    ∷ (9 ∷ 0 ∷ [])
    ∷ (10 ∷ 16 ∷ [])
    ∷ (11 ∷ 0 ∷ 9 ∷ [])
    ∷ (12 ∷ 0 ∷ 5 ∷ [])
    ∷ []
unfolding first wide last full nested objects heaps rows statuses values
samples = refl
