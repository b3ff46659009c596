-- What the generator prints, computed from the definitions.
-- Assumes nothing.
use Prim.Native.Nat.{ℕ}
use mathlib.Core.List.{List, [], ◌∷◌, ◌++◌, map}
use mathlib.Core.Path.{◌≡◌, refl}
use lib.ListN.{take, drop, set, replicate}
use Rattle.layout.specs.Below.{all_below}
use Rattle.hexadecimal.specs.Digit.{is_digit, digit_value}
use Rattle.rights.specs.Rights.{text_of, rights_rows, built_in}
use Rattle.generator.specs.Generator.{places, digit_place, is_line_feed, is_ended, all_digits, is_source, values_of, generated}

-- the lines f30, fff and 0ff, the last without its line feed
abbrev lines : List ℕ
lines = 102 ∷ 51 ∷ 48 ∷ 10 ∷ 102 ∷ 102 ∷ 102 ∷ 10 ∷ 48 ∷ 102 ∷ 102 ∷ []

-- "For f30, fff and 0ff it must give the built-in table."
pub gives_built_in : (generated lines ≡ built_in) × (generated (lines ++ (10 ∷ [])) ≡ built_in)
unfolding generated is_source is_ended is_line_feed all_digits all_below is_digit digit_place places values_of digit_value text_of built_in rights_rows
gives_built_in = (refl, refl)

-- 4, A without U, is printed, though it cannot be loaded
pub gives_allocators : generated (set lines 0 52) ≡ 48 ∷ 49 ∷ 48 ∷ 48 ∷ drop 4 built_in
unfolding generated is_source is_ended is_line_feed all_digits all_below is_digit digit_place places values_of digit_value text_of built_in rights_rows
gives_allocators = refl

-- other input: none at all, an upper-case F, a letter past f, a space for the first and for the second line feed, a digit too few, a digit
-- too many, an empty fourth line, the start of a fourth line
abbrev others : List (List ℕ)
others =
    [] ∷
    set lines 0 70 ∷
    set lines 10 103 ∷
    set lines 3 32 ∷
    set lines 7 32 ∷
    take 10 lines ∷
    (lines ++ (48 ∷ [])) ∷
    (lines ++ (10 ∷ 10 ∷ [])) ∷
    (lines ++ (10 ∷ 48 ∷ [])) ∷ []

-- ".. and nothing for other input."
pub gives_nothing : map generated others ≡ replicate 9 []
unfolding generated is_source is_ended is_line_feed all_digits all_below is_digit digit_place places
gives_nothing = refl
