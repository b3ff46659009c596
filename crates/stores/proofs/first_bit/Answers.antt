-- `first_bit` meets its contract: permanent words count before scratch words.
use borrow.Author.Tests.{le-leb, lt-leb}
use Rattle.stores.proofs.first_bit.Goals as goal

pub returns-then-area-ge2 : goal.returns-then-area-ge2
returns-then-area-ge2 c = rw (le-leb 2 c.args.area c.if-area-ge2.true)

pub returns : goal.returns
returns c = rw (lt-leb 2 c.args.area c.if-area-ge2.false)
