-- `data_words` meets its contract: a shift is a quotient, a mask of 14 bits a remainder.
use Prim.Native.Nat.{◌/◌, ◌^◌}
use lib.Bits.{and_mask}
use Rattle.layout.specs.Header.{data_of}
use Rattle.layout.proofs.handle.data_words.Goals as goal

pub returns : goal.returns
unfolding data_of
returns c = and_mask (c.args.header / 2 ^ 14) 14
