-- `clear_above` meets its contract: the digits leave as many zeros above them.
use native.Mathlib.Nat.{lt_of_le_of_lt}
use native.Mathlib.Omega.{arith}
use lib.Count.{leading_le}
use Rattle.search.specs.ClearDown.{zeros_above}
use Rattle.search.proofs.clear_above.Goals as goal

pub overflow_cast-result : goal.overflow_cast-result
overflow_cast-result c = record { fits = lt_of_le_of_lt (leading_le 64 _) (omega arith) }

pub overflow_sub-result-2 : goal.overflow_sub-result-2
overflow_sub-result-2 c = zeros_above _ _ (omega arith) c.requires
