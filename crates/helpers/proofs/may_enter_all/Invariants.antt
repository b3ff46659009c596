use mathlib.Core.Bool.{true}
use mathlib.Core.Path.{◌≡◌}
use Rattle.model.specs.Helpers.{may_enter_all}
use Rattle.tables.specs.Decode.{state_of}
use Rattle.helpers.specs.Helper.{lowest}
use Rattle.helpers.proofs.may_enter_all.Given as goal

abbrev pub invariant-loop-i : goal.invariant-loop-i
invariant-loop-i l = true ≡ may_enter_all (state_of l.words l.bytes).rights l.kind (lowest (state_of l.words l.bytes) l.t l.i)
