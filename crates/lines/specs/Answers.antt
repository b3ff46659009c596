-- How an answer is written.
-- Assumes nothing.
use Rattle.std.specs.Prelude.{ℕ, zero, suc, ◌+◌, ◌/◌, ◌%◌, ◌^◌, List, [], ◌∷◌, ◌++◌, ltb}
use Rattle.layout.specs.Choice.{pick}

-- "in the same hexadecimal"
unfoldable pub digit_of : ℕ → ℕ
digit_of v = pick (ltb v 10) (48 + v) (87 + v)

-- the n lowest digits of v, the highest first
unfoldable pub digits_of : ℕ → ℕ → List ℕ
digits_of v zero = []
digits_of v (suc n) = digit_of (v / 16 ^ n % 16) ∷ digits_of v n

-- "Each line is answered by a line: status 2 digits, value 16 digits"
unfoldable pub answer_of : ℕ → ℕ → List ℕ
answer_of status value = digits_of status 2 ++ (digits_of value 16 ++ (10 ∷ []))
