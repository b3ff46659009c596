-- `built_in` meets its contract: antt computes the 36 digits of the definition and compares them with the code's.
use mathlib.Core.Path.{refl}
use Rattle.rights.specs.Rights.{text_of, rights_rows, built_in}
use Rattle.rights.proofs.built_in.Goals as goal

pub returns : goal.returns
unfolding built_in text_of rights_rows
returns c = refl
