-- `store_of` meets its contract: a scope's words are scratch words.
use borrow.Author.Tests.{le-leb, lt-leb}
use Rattle.stores.proofs.store_of.Goals as goal

pub returns-then-area-ge2 : goal.returns-then-area-ge2
returns-then-area-ge2 c = rw (le-leb 2 c.args.area c.if-area-ge2.true)

pub returns : goal.returns
returns c = rw (lt-leb 2 c.args.area c.if-area-ge2.false)
