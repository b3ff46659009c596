-- `field` meets its contract: a digit more still fits a word.
use Rattle.std.proofs.Common.{arith}
use Rattle.lines.specs.HexadecimalLaws.{number_fits}
use Rattle.lines.proofs.digit.field.Goals as goal

pub overflow_mul-value : goal.overflow_mul-value
overflow_mul-value c = record { fits = omega (arith, number_fits c.requires c.loop-b.b-index c.loop-b-test.true) }

pub overflow_add-value : goal.overflow_add-value
overflow_add-value c = record { fits = omega (arith, number_fits c.requires c.loop-b.b-index c.loop-b-test.true) }
