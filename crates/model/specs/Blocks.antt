-- The blocks of the scratch store: how many there are, which are free, which an area has, and where a new scope gets its own.
-- Assumes nothing.
use Rattle.std.specs.Prelude.{ℕ, ◌+◌, ◌/◌, ◌≤◌, ◌<◌, Bool, eqb}
use Rattle.bitmap.specs.Bitmap.{cleared, marked}
use Rattle.runs.specs.LowestRun.{lowest_run, is_clear}
use Rattle.model.specs.declared.Area.{Area}
use Rattle.model.specs.State.{State, with_used_bits}

-- "Scratch is now handed out in whole blocks of 16 words"
abbrev pub block_words : ℕ
block_words = 16

-- "(a shorter rest of S is not used)": how many blocks the scratch store has
abbrev pub block_count : State → ℕ
block_count s = s.lengths.scratch / block_words

-- how many whole blocks hold n words
abbrev pub blocks_for : ℕ → ℕ
blocks_for n = (n + 15) / block_words

-- the block of an area's first word
abbrev pub first_block : Area → ℕ
first_block x = x.start / block_words

-- block k is one of an area's; an area of no words has none
abbrev pub HasBlock : Area → ℕ → Type 0
HasBlock x k = (first_block x ≤ k) × (k < first_block x + blocks_for x.size)

-- "a new scope gets the lowest run of adjacent clear bits that holds it": the first block of a new scope of r words, block_count s where there is no such run
unfoldable pub room_for : State → ℕ → ℕ
room_for s r = lowest_run (is_clear s.used_bits) (blocks_for r) (block_count s)

-- "no such run"
abbrev pub no_room : State → ℕ → Bool
no_room s r = eqb (room_for s r) (block_count s)

-- the n blocks from block k on are used, or free
unfoldable pub with_used_blocks : State → ℕ → ℕ → State
with_used_blocks s k n = with_used_bits s (marked s.used_bits k n)

unfoldable pub with_free_blocks : State → ℕ → ℕ → State
with_free_blocks s k n = with_used_bits s (cleared s.used_bits k n)
