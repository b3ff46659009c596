-- What the generator of a rights table prints: "a generator also prints them alone from one line for each kind with one hexadecimal digit a class,
-- written as in frames, E as bit 3 down to R as bit 0, and nothing for other input."
-- Assumes nothing.
use Rattle.std.specs.Prelude.{ℕ, Bool, ◌&&◌, ◌||◌, List, [], ◌∷◌, map, eqb, length, get_or}
use Rattle.layout.specs.Choice.{pick}
use Rattle.layout.specs.Below.{all_below}
use Rattle.hexadecimal.specs.Digit.{is_digit, digit_value}
use Rattle.rights.specs.Rights.{text_of}

-- ---- the input

-- three classes of each of three kinds
abbrev pub class_count : ℕ
class_count = 9

-- "one line for each kind with one hexadecimal digit a class": where the digits stand, three on a line, and then its line feed
unfoldable pub places : List ℕ
places =
    0 ∷ 1 ∷ 2 ∷
    4 ∷ 5 ∷ 6 ∷
    8 ∷ 9 ∷ 10 ∷ []

-- where the digit of class g stands, counted through all kinds
unfoldable pub digit_place : ℕ → ℕ
digit_place g = get_or places g 0

-- "written as in frames": a line ends in a line feed ..
unfoldable pub is_line_feed : List ℕ → ℕ → Bool
is_line_feed input place = eqb (get_or input place 0) 10

-- .. which may be missing from the last one ..
unfoldable pub is_ended : List ℕ → Bool
is_ended input = eqb (length input) 11 || (eqb (length input) 12 && is_line_feed input 11)

-- .. and digits are in lower case
unfoldable pub all_digits : List ℕ → Bool
all_digits input = all_below (λ (g : ℕ). is_digit (get_or input (digit_place g) 0)) class_count

-- whether an input is three such lines and nothing more; every other is "other input"
unfoldable pub is_source : List ℕ → Bool
is_source input = is_ended input && (is_line_feed input 3 && (is_line_feed input 7 && all_digits input))

-- ---- the digits

-- the numbers that the nine digits stand for, "ordered kind, class"
unfoldable pub values_of : List ℕ → List ℕ
values_of input = map (λ (place : ℕ). digit_value (get_or input place 0)) places

-- "E as bit 3 down to R as bit 0, and nothing for other input"
unfoldable pub generated : List ℕ → List ℕ
generated input = pick (is_source input) (text_of (values_of input)) []
