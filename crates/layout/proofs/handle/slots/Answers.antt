-- `slots` meets its contract: a mask of 14 bits is a remainder.
use lib.Bits.{and_mask}
use Rattle.layout.specs.Header.{slots_of}
use Rattle.layout.proofs.handle.slots.Goals as goal

pub returns : goal.returns
unfolding slots_of
returns c = and_mask c.args.header 14
