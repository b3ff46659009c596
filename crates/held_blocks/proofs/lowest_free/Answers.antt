-- `lowest_free` meets its contract: the part that is lent has the used bits.
use borrow.Author.Rules.{rules}
use Rattle.held_blocks.specs.Part.{part_read}
use Rattle.held_blocks.proofs.lowest_free.Goals as goal

pub returns : goal.returns
returns c =
    let a = c.args in
    rw (part_read a.words.now (search rules)) at c.lowest_run.ensures.start
