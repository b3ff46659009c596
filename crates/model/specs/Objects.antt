-- Op 06: an object is allocated.
-- Assumes nothing.
use Rattle.std.specs.Prelude.{ℕ, zero, suc, ◌+◌, not, List, ltb, set}
use Rattle.layout.specs.Choice.{refuse}
use Rattle.layout.specs.Handle.{handle_of}
use Rattle.layout.specs.Header.{header_of}
use Rattle.bitmap.specs.Bitmap.{with_bit, cleared}
use Rattle.rights.specs.declared.Right.TheVariants.{Allocate}
use Rattle.model.specs.declared.Area.{Area}
use Rattle.model.specs.State.{State, Memory, area_at, with_used, with_area, stack_at, current, store_of, with_map, with_written, with_store, bit_index}
use Rattle.model.specs.Checks.{called, has_right}

-- the area that a thread allocates in
abbrev pub current_at : State → ℕ → ℕ
current_at s t = current (stack_at s t)

-- refusals 2, 5, 12 after 1: "A in 06 (current area)", "12: used + 1 + s + d above the size"
unfoldable pub allocate_rest : State → ℕ → ℕ → ℕ → ℕ
allocate_rest s t slots data_words =
    called s t
    (refuse (not (has_right s t Allocate (current_at s t))) 5
    (refuse (ltb (area_at s (current_at s t)).size (suc ((area_at s (current_at s t)).used + slots + data_words))) 12 0))

-- "Allocation takes the area's next words"
abbrev pub grown : Area → ℕ → Area
grown x used = with_used x used

-- in area a; "takes 1 + s + d words"
unfoldable pub allocate_state : State → ℕ → ℕ → ℕ → State
allocate_state s a slots data_words = with_area s a (grown (area_at s a) (suc ((area_at s a).used + slots + data_words)))

-- n times v from place p on
unfoldable pub filled : List ℕ → ℕ → ℕ → ℕ → List ℕ
filled l p zero v = l
filled l p (suc n) v = set (filled l p n v) (p + n) v

-- "header .., slots, data", "sets slots and data to 0"
unfoldable pub object_words : List ℕ → ℕ → ℕ → ℕ → List ℕ
object_words l at slots data_words = set (filled l (suc at) (slots + data_words) 0) at (header_of slots data_words)

-- "sets the map bit of the header and clears those of its other words"
unfoldable pub object_bits : List ℕ → ℕ → ℕ → List ℕ
object_bits map at n = with_bit (cleared map (suc at) n) at

-- "allocation clears it for the object's words": of the written map, for header, slots and data alike
unfoldable pub unwritten_bits : List ℕ → ℕ → ℕ → List ℕ
unwritten_bits written at n = cleared written at (suc n)

-- both maps, for an object of n words beside its header whose header has bit number at
abbrev pub object_maps : Memory → ℕ → ℕ → Memory
object_maps m at n = with_written (with_map m (object_bits m.map at n)) (unwritten_bits m.written at n)

-- "Allocation takes the area's next words, sets slots and data to 0, sets the map bit of the header and clears those of its other words."
unfoldable pub allocate_memory : State → Memory → ℕ → ℕ → ℕ → Memory
allocate_memory s m a slots data_words =
    with_store (object_maps m (bit_index s a (area_at s a).used) (slots + data_words))
    a (object_words (store_of m a) ((area_at s a).start + (area_at s a).used) slots data_words)

-- "value: handle"
unfoldable pub allocate_value : State → ℕ → ℕ
allocate_value s a = handle_of (area_at s a).used a (area_at s a).generation
