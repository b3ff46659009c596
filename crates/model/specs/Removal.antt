-- Op 0c: a scope is removed, and its room is free.
-- Assumes nothing.
use Rattle.std.specs.Prelude.{ℕ, not, ◌||◌}
use Rattle.layout.specs.Choice.{refuse}
use Rattle.model.specs.declared.Area.{Area}
use Rattle.model.specs.State.{State, area_at, with_words, with_area, is_no_scope, is_made, is_open}
use Rattle.model.specs.Blocks.{blocks_for, first_block, with_free_blocks}
use Rattle.model.specs.Checks.{called, Change}

-- op 0c by thread t. "Checks run 1, 2, 6 (outside 2 to 63, or not made). 20 when the scope is open, after 6": those after 1
unfoldable pub remove_rest : State → ℕ → ℕ → ℕ
remove_rest s t q = called s t (refuse (is_no_scope q || not (is_made s q)) 6 (refuse (is_open s q) 20 0))

-- "A removed scope counts as not made": it has no words. Its generation stays, since "an area number made again continues its old turns".
abbrev pub removed_area : Area → Area
removed_area x = with_words x 0 0

-- "Op 0c removes scope q and frees its room": the blocks that it had
unfoldable pub remove_state : State → ℕ → State
remove_state s q = with_free_blocks (with_area s q (removed_area (area_at s q))) (first_block (area_at s q)) (blocks_for (area_at s q).size)

abbrev pub remove_change : State → ℕ → ℕ → Change
remove_change s t q = record { status = remove_rest s t q; value = 0; state = remove_state s q }
