-- `pack` meets its contract: three fields that do not overlap are their sum.
use Rattle.layout.proofs.Shifts.{three_fields}
use Rattle.layout.specs.Handle.{handle_of}
use Rattle.layout.proofs.handle.pack.Goals as goal

pub returns : goal.returns
unfolding handle_of
returns c = three_fields c.args.offset c.args.area c.args.generation
