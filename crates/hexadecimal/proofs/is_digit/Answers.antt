-- `is_digit` meets its contract: the method and the pattern test the two ranges of the definition.
use Rattle.std.proofs.Common.{rules}
use Rattle.hexadecimal.specs.Digit.{is_digit}
use Rattle.hexadecimal.proofs.is_digit.Goals as goal

pub returns : goal.returns
unfolding is_digit
returns c = search rules
