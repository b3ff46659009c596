-- `is_source` meets its contract: its tests are those of the definition, in their order.
use Rattle.std.proofs.Common.{rules}
use Rattle.generator.specs.Generator.{is_line_feed, is_ended, is_source}
use Rattle.generator.proofs.is_source.Goals as goal

pub bounds-input-3 : goal.bounds-input-3
unfolding is_ended
bounds-input-3 c = search rules

pub bounds-input-7 : goal.bounds-input-7
unfolding is_ended
bounds-input-7 c = search rules

pub all_digits-requires : goal.all_digits-requires
unfolding is_ended
all_digits-requires c = search rules

pub returns-then-input-eq10-2 : goal.returns-then-input-eq10-2
unfolding is_source is_line_feed
returns-then-input-eq10-2 c = search rules

pub returns-else-input-eq10-2 : goal.returns-else-input-eq10-2
unfolding is_source is_line_feed
returns-else-input-eq10-2 c = search rules
