-- `class_index` meets its contract: a scope's place is 2, and areas 0 and 1 are the places of their classes.
use Rattle.std.proofs.Math.Path.{sym}
use Rattle.std.proofs.Common.{◌∙◌}
use Rattle.rights.proofs.Loading.{class_place}
use Rattle.rights.proofs.class_index.Goals as goal

pub returns-clause-place : goal.returns-clause-place
returns-clause-place c = c.min.ensures ∙ sym (class_place c.args.area)
