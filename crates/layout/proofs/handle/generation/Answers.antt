-- `generation` meets its contract: a shift is a quotient.
use mathlib.Core.Path.{refl}
use Rattle.layout.specs.Handle.{generation_of}
use Rattle.layout.proofs.handle.generation.Goals as goal

pub returns : goal.returns
unfolding generation_of
returns c = refl
