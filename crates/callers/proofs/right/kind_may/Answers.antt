-- `callers::right::kind_may` meets its contract. Assumes nothing.
use Rattle.callers.specs.Rights.{by_digit}
use Rattle.callers.proofs.right.kind_may.Goals as goal

pub returns : goal.returns
returns c =
    let a = c.args in
    let p = c.place.ensures in
    by_digit a.bytes.now a.kind a.area a.right p.kind.0 p.kind.1 p.place p.within c.right_at.ensures
