-- `allocators_use` meets its contract.
use Rattle.std.proofs.Common.{arith}
use Rattle.loading.specs.Load.{uses_none, uses_more, uses_all}
use Rattle.loading.proofs.allocators_use.Goals as goal

pub loop-g-init : goal.loop-g-init
loop-g-init c = uses_none c.args.text.now

pub loop-g-preserved : goal.loop-g-preserved
loop-g-preserved c = uses_more c.args.text.now c.loop-g.g c.loop-g.invariant

pub returns : goal.returns
returns c = uses_all c.args.text.now c.loop-g.g (omega arith) c.loop-g.invariant
