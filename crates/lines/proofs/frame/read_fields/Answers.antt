-- `read_fields` meets its contract: each field is digits.
use Rattle.std.proofs.Common.{arith}
use Rattle.lines.specs.HexadecimalLaws.{digits_part}
use Rattle.lines.proofs.frame.read_fields.Goals as goal

pub field-requires-2 : goal.field-requires-2
field-requires-2 c = digits_part 4 16 _ (omega arith) c.requires

pub field-requires-4 : goal.field-requires-4
field-requires-4 c = digits_part 24 16 _ (omega arith) c.requires
