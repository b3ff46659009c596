-- `digit_value` meets its contract: a digit is 0 to 9 or a to f.
use Rattle.std.proofs.Common.{rules}
use Rattle.hexadecimal.specs.Digit.{is_digit, digit_value}
use Rattle.hexadecimal.proofs.digit_value.Goals as goal

pub overflow_sub-value : goal.overflow_sub-value
unfolding is_digit
overflow_sub-value c = search rules

pub overflow_sub-value-else-b-le57 : goal.overflow_sub-value-else-b-le57
unfolding is_digit
overflow_sub-value-else-b-le57 c = search rules

pub returns : goal.returns
unfolding is_digit digit_value
returns c = search rules
