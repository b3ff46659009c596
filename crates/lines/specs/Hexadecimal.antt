-- Numbers in hexadecimal, as they are read.
-- Assumes nothing.
use Rattle.std.specs.Prelude.{ℕ, ◌+◌, ◌*◌, ◌≤◌, ◌≡◌, Bool, true, List, length, take, drop, fold}
use Rattle.std.specs.List.{list_all}
use Rattle.hexadecimal.specs.Digit.{is_digit, digit_value}

abbrev pub all_digits : List ℕ → Bool
all_digits l = list_all is_digit l

-- the number that digits stand for after the number v, the highest digit first
abbrev pub number_from : ℕ → List ℕ → ℕ
number_from v l = fold (λ v b. v * 16 + digit_value b) v l

-- n digits from place at on
abbrev pub field_of : List ℕ → ℕ → ℕ → ℕ
field_of l at n = number_from 0 (take n (drop at l))

-- digits whose number fits a word
pub record ShortDigits (l : List ℕ) : Type 0 where
  pub short : length l ≤ 16
  pub digits : all_digits l ≡ true

-- n places of a line from at on, all of them digits, whose number fits a word
pub record Digits (line : List ℕ) (at n : ℕ) : Type 0 where
  pub sized : length line ≡ 40
  pub within : at + n ≤ 40
  pub short : n ≤ 16
  pub digits : all_digits line ≡ true
