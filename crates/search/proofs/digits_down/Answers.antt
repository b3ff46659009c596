-- `digits_down` meets its contract: the mask has 1 at the digits up to digit w mod 64.
use Rattle.search.specs.ClearDown.{rest_is}
use Rattle.search.proofs.digits_down.Goals as goal

pub returns : goal.returns
returns c = rest_is c.args.map.now c.args.w
