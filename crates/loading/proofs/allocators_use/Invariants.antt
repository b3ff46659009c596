-- The invariant: whether in the groups so far A stands only with U.
use Rattle.std.proofs.Common.{◌≡◌}
use Rattle.layout.specs.Below.{all_below}
use Rattle.rights.specs.Rights.{allocator_uses}
use Rattle.loading.proofs.allocators_use.Given as goal

abbrev pub invariant-loop-g : goal.invariant-loop-g
invariant-loop-g l = l.all ≡ all_below (allocator_uses l.text) l.g
