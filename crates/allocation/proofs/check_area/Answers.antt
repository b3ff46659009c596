-- `check_area` meets its contract: one law for each way that it ends.
use borrow.Author.Rules.{rules}
use borrow.Author.Tests.{not-true, not-false}
use native.Mathlib.Omega.{arith}
use Rattle.allocation.specs.Allocation.{no_right, no_room_lem, some_room}
use Rattle.allocation.proofs.check_area.Goals as goal

pub returns-then-not-may : goal.returns-then-not-may
returns-then-not-may c = no_right _ _ _ _ (search (rules, not-true))

pub returns-then-room-min : goal.returns-then-room-min
returns-then-room-min c = no_room_lem _ _ _ _ (search (rules, not-false)) (omega arith)

pub returns : goal.returns
returns c = some_room _ _ _ _ (search (rules, not-false)) (omega arith)
