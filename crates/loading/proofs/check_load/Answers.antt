-- `check_load` meets its contract: one law for each way that it ends.
use borrow.Author.Tests.{not-true, not-false}
use Rattle.loading.specs.Load.{no_table, still_running, may_load}
use mathlib.Core.Bool.{not}
use mathlib.Core.Path.{ap}
use Rattle.loading.proofs.check_load.Goals as goal

pub returns-then-not-is_table : goal.returns-then-not-is_table
returns-then-not-is_table c = no_table _ _ c.is_table.ensures (not-true _ (ap not c.if-not-is_table.true))

pub returns-then-any_started : goal.returns-then-any_started
returns-then-any_started c = still_running _ _ c.is_table.ensures (not-false _ (ap not c.if-not-is_table.false)) c.any_started.ensures c.if-any_started.true

pub returns : goal.returns
returns c = may_load _ _ c.is_table.ensures (not-false _ (ap not c.if-not-is_table.false)) c.any_started.ensures c.if-any_started.false
