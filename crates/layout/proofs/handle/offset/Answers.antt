-- `offset` meets its contract: a mask of 14 bits is a remainder.
use lib.Bits.{and_mask}
use Rattle.layout.specs.Handle.{offset_of}
use Rattle.layout.proofs.handle.offset.Goals as goal

pub returns : goal.returns
unfolding offset_of
returns c = and_mask c.args.handle 14
