-- `area` meets its contract: a shift is a quotient, a mask of 6 bits a remainder.
use Prim.Native.Nat.{◌/◌, ◌^◌}
use lib.Bits.{and_mask}
use Rattle.layout.specs.Handle.{area_of}
use Rattle.layout.proofs.handle.area.Goals as goal

pub returns : goal.returns
unfolding area_of
returns c = and_mask (c.args.handle / 2 ^ 14) 6
