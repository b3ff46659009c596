-- An object's header, in plain arithmetic.
-- Assumes nothing.
use Rattle.std.specs.Prelude.{ℕ, ◌+◌, ◌*◌, ◌/◌, ◌%◌}

-- "header (s in bits 0 to 13, d in bits 14 to 27, the rest 0)"
unfoldable pub header_of : ℕ → ℕ → ℕ
header_of slots words = slots + words * 16384

-- s and d of a header, whatever its other bits hold
unfoldable pub slots_of : ℕ → ℕ
slots_of header = header % 16384

unfoldable pub data_of : ℕ → ℕ
data_of header = header / 16384 % 16384
