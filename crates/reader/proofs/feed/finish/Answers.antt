-- `finish` meets its contract: an empty line so far, and another.
use Rattle.reader.specs.HeldLaws.{finishes_none, finishes_rest}
use Rattle.reader.proofs.feed.finish.Goals as goal

pub returns-then-is_empty : goal.returns-then-is_empty
returns-then-is_empty c = finishes_none _ _ _ c.requires.0 (λ l h. (c.is_empty.ensures l h).0 c.if-is_empty.true)

pub returns : goal.returns
returns c = finishes_rest _ _ _ _ _ c.end_line.ensures (λ l h e. let t = (c.is_empty.ensures l h).1 e in cc)
