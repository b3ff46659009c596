-- `check_scope` meets its contract: one law for each way that it ends.
use borrow.Author.Rules.{rules}
use Rattle.entry.specs.Enter.{other_parent_lem, same_parent, last_generation_lem, fresh_generation}
use Rattle.entry.proofs.check_scope.Goals as goal

pub returns-then-x-inner : goal.returns-then-x-inner
returns-then-x-inner c = other_parent_lem _ _ (search rules) (search rules)

pub returns-then-x-gt0 : goal.returns-then-x-gt0
returns-then-x-gt0 c = same_parent _ _ (search rules) (search rules)

pub returns-then-x-ge-LAST_GENERATION : goal.returns-then-x-ge-LAST_GENERATION
returns-then-x-ge-LAST_GENERATION c = last_generation_lem _ _ (search rules) (search rules)

pub returns : goal.returns
returns c = fresh_generation _ _ (search rules) (search rules)
