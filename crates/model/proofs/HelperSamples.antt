-- Samples of helpers: the stack that one begins with, the counts that rise, its rights, and the order of the refusals.
-- Assumes nothing.
use Prim.Native.Nat.{ℕ, zero, suc}
use mathlib.Core.List.{List, [], ◌∷◌, ◌++◌}
use mathlib.Core.Path.{◌≡◌, refl}
use Rattle.model.specs.State.{area_at, thread_at, stack_at}
use Rattle.model.specs.Helpers.{raised}
use Rattle.model.specs.Calls.{Call, start, end, make, enter, exit, start_helper, allocate, write, read, load_rights}
use Rattle.model.proofs.SampleRuns.{answer, after, statuses, values, each, supplied, copies, first, busy}

-- the driver stands in scopes 2 and 3 and starts its plotter, thread 1
abbrev driving : List Call
driving = start 0 2 ∷ make 0 2 4 ∷ make 0 3 4 ∷ enter 0 2 ∷ enter 0 3 ∷ start_helper 0 2 1 ∷ []

-- the plotter stands in both and never entered: its record is the driver's, and each count is 2
pub received : (stack_at (after first driving).state 1 ≡ 3 ∷ 2 ∷ [])
    × (thread_at (after first driving).state 1 ≡ thread_at (after first driving).state 0)
    × ((area_at (after first driving).state 2).count ≡ 2) × ((area_at (after first driving).state 3).count ≡ 2)
unfolding after first
received = (refl, refl, refl, refl)

-- the driver leaves both with 1 left, and ends; the plotter's own exits give 0
pub left : values first (driving ++ (exit 0 ∷ exit 0 ∷ end 0 ∷ exit 1 ∷ exit 1 ∷ end 1 ∷ [])) ≡ 0 ∷ 0 ∷ 0 ∷ 1 ∷ 1 ∷ 0 ∷ 1 ∷ 1 ∷ 0 ∷ 0 ∷ 0 ∷ 0 ∷ []
unfolding values first
left = refl

pub left_accepted : statuses first (driving ++ (exit 0 ∷ exit 0 ∷ end 0 ∷ exit 1 ∷ exit 1 ∷ end 1 ∷ [])) ≡ copies 12 0
unfolding statuses first
left_accepted = refl

-- what the driver made lives on while the plotter stays, and is dead after it; handle 1,097,728 is the first object of scope 3
pub outlives : statuses first (driving ++ (allocate 0 0 1 ∷ write 0 1097728 0 7 ∷ exit 0 ∷ exit 0 ∷ read 1 1097728 0 ∷ exit 1 ∷ read 1 1097728 0 ∷ []))
    ≡ copies 11 0 ++ (0 ∷ 13 ∷ [])
unfolding statuses first
outlives = refl

-- scope 3 stays where it is: under 2 alone, so thread 4 may enter it after 2 and not without
pub single_parent : statuses first (driving ++ (exit 0 ∷ exit 0 ∷ start 4 2 ∷ enter 4 3 ∷ enter 4 2 ∷ enter 4 3 ∷ [])) ≡ copies 9 0 ++ (10 ∷ 0 ∷ 0 ∷ [])
unfolding statuses first
single_parent = refl

-- a count rises once for each entry; heap and immortal have none
pub occurring : ((area_at (raised busy.state (2 ∷ 1 ∷ 3 ∷ 0 ∷ 2 ∷ [])) 2).count ≡ 3) × ((area_at (raised busy.state (2 ∷ 1 ∷ 3 ∷ 0 ∷ 2 ∷ [])) 3).count ≡ 2)
    × ((area_at (raised busy.state (2 ∷ 1 ∷ 3 ∷ 0 ∷ 2 ∷ [])) 0).count ≡ 0) × ((area_at (raised busy.state (2 ∷ 1 ∷ 3 ∷ 0 ∷ 2 ∷ [])) 1).count ≡ 0)
unfolding answer busy
occurring = (refl, refl, refl, refl)

-- "5 if the kind lacks E for any entry": a no-heap helper under a heap entry, also where the top is a scope; an ordinary one under immortal memory or a scope
pub lacking : statuses first (
    start 0 2 ∷ make 0 2 4 ∷ enter 0 0 ∷ start_helper 0 3 1 ∷ start_helper 0 1 1 ∷ end 1
    ∷ enter 0 2 ∷ start_helper 0 3 2 ∷ start_helper 0 1 2 ∷ start_helper 0 2 2
    ∷ exit 0 ∷ exit 0 ∷ enter 0 1 ∷ start_helper 0 1 3 ∷ start_helper 0 3 3 ∷ []
    )
    ≡ 0 ∷ 0 ∷ 0 ∷ 5 ∷ 0 ∷ 11 ∷ 0 ∷ 5 ∷ 5 ∷ 0 ∷ 0 ∷ 0 ∷ 0 ∷ 5 ∷ 0 ∷ []
unfolding statuses first
lacking = refl

-- no entry, no right: a helper of any kind may begin with an empty stack
pub empty_handed : statuses first (start 0 1 ∷ start_helper 0 3 1 ∷ start_helper 1 1 2 ∷ start_helper 2 2 3 ∷ exit 3 ∷ end 3 ∷ []) ≡ 0 ∷ 0 ∷ 0 ∷ 0 ∷ 11 ∷ 0 ∷ []
unfolding statuses first
empty_handed = refl

-- by the table in force: one that lets every kind do all
pub allowed : statuses first (load_rights (copies 36 49) ∷ start 0 2 ∷ enter 0 0 ∷ start_helper 0 3 1 ∷ exit 1 ∷ []) ≡ copies 5 0
unfolding statuses first
allowed = refl

-- thread 2 is in immortal memory, scope 2 and scope 3; threads 1 and 3 are started, on empty stacks. 1 before all; 2 of the starter before 2 of the new
-- number; 2 before 3 and 4; 3 before 4, also of the starter's own number; 4 before 5
pub meeting : each busy (
    start_helper 16 0 16 ∷ start_helper 4 0 1 ∷ start_helper 2 0 16 ∷ start_helper 2 2 16 ∷ start_helper 2 0 1 ∷ start_helper 2 0 2 ∷ start_helper 2 2 2
    ∷ start_helper 2 0 4 ∷ start_helper 2 4 4 ∷ start_helper 2 1 4 ∷ start_helper 2 3 4 ∷ start_helper 2 2 15 ∷ []
    )
    ≡ 2 ∷ 2 ∷ 2 ∷ 2 ∷ 3 ∷ 3 ∷ 3 ∷ 4 ∷ 4 ∷ 5 ∷ 0 ∷ 0 ∷ []
unfolding each busy
meeting = refl

pub other_lengths : each (supplied busy (record { permanent = []; scratch = []; map = []; written = [] })) (start_helper 2 2 4 ∷ start_helper 16 0 16 ∷ []) ≡ 1 ∷ 1 ∷ []
unfolding each busy
other_lengths = refl

-- a full stack is received like any other, and takes no entry more
pub entries : ℕ → List Call
entries zero = []
entries (suc n) = enter 0 1 ∷ entries n

pub full : statuses first (start 0 2 ∷ entries 32 ++ (start_helper 0 2 1 ∷ enter 1 1 ∷ exit 1 ∷ enter 1 1 ∷ [])) ≡ copies 34 0 ++ (9 ∷ 0 ∷ 0 ∷ [])
unfolding statuses first entries
full = refl
