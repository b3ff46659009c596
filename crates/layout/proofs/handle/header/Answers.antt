-- `header` meets its contract: two fields that do not overlap are their sum.
use Rattle.layout.proofs.Shifts.{two_fields}
use Rattle.layout.specs.Header.{header_of}
use Rattle.layout.proofs.handle.header.Goals as goal

pub returns : goal.returns
unfolding header_of
returns c = two_fields c.args.slots c.args.words
