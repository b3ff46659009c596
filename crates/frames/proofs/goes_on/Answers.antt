-- `goes_on` meets its contract.
use Rattle.frames.specs.ProgressLaws.{continues_not, continues_by}
use Rattle.frames.proofs.goes_on.Goals as goal

pub returns-then-n-eq0 : goal.returns-then-n-eq0
returns-then-n-eq0 c = continues_not _ _ c.if-n-eq0.true

pub returns : goal.returns
returns c = continues_by _ _ c.if-n-eq0.false
