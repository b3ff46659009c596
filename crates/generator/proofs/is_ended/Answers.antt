-- `is_ended` meets its contract: its tests are those of the definition.
use Rattle.std.proofs.Common.{rules}
use Rattle.generator.specs.Generator.{is_line_feed, is_ended}
use Rattle.generator.proofs.is_ended.Goals as goal

pub returns-then-input-eq11 : goal.returns-then-input-eq11
unfolding is_ended
returns-then-input-eq11 c = search rules

pub returns-then-input-eq12 : goal.returns-then-input-eq12
unfolding is_ended is_line_feed
returns-then-input-eq12 c = search rules

pub returns-else-input-eq12 : goal.returns-else-input-eq12
unfolding is_ended
returns-else-input-eq12 c = search rules
