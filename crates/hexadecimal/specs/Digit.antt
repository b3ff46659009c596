-- A hexadecimal digit, as it is read.
-- Assumes nothing.
use Rattle.std.specs.Prelude.{ℕ, ◌-◌, Bool, ◌&&◌, ◌||◌, leb}
use Rattle.layout.specs.Choice.{pick}

-- "lower-case hexadecimal digits": 0 to 9, a to f
unfoldable pub is_digit : ℕ → Bool
is_digit b = (leb 48 b && leb b 57) || (leb 97 b && leb b 102)

-- the number that a digit stands for
unfoldable pub digit_value : ℕ → ℕ
digit_value b = pick (leb b 57) (b - 48) (b - 87)
