-- Handles, in plain arithmetic. What document 01 calls a turn is a generation here.
-- Assumes nothing.
use Rattle.std.specs.Prelude.{ℕ, ◌+◌, ◌*◌, ◌/◌, ◌%◌}

-- "A handle is one word: word offset in its area in bits 0 to 13, area in bits 14 to 19, turn in bits 20 to 63."
unfoldable pub handle_of : ℕ → ℕ → ℕ → ℕ
handle_of offset area generation = offset + area * 16384 + generation * 1048576

-- "Null is 0."
abbrev pub null : ℕ
null = 0

-- "word offset in its area in bits 0 to 13"
unfoldable pub offset_of : ℕ → ℕ
offset_of handle = handle % 16384

-- "area in bits 14 to 19"
unfoldable pub area_of : ℕ → ℕ
area_of handle = handle / 16384 % 64

-- "turn in bits 20 to 63"
unfoldable pub generation_of : ℕ → ℕ
generation_of handle = handle / 1048576
