-- `place` meets its contract: antt computes the nine places.
use Rattle.generator.proofs.Laws.{place_is}
use Rattle.generator.proofs.place.Goals as goal

pub returns-clause-place : goal.returns-clause-place
returns-clause-place c = place_is c.args.g c.requires
