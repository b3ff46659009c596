-- `feed_line` meets its contract: bytes that are no line feed, and then one.
use Rattle.std.proofs.Common.{rules, refl}
use Rattle.reader.specs.Held.{feeds_append}
use Rattle.reader.specs.HeldLaws.{feeds_end, feeds_other}
use Rattle.reader.proofs.feed.feed_line.Goals as goal

pub returns : goal.returns
returns c =
    feeds_append _ _ _ _ _ (feeds_other _ _ _ _ _ _ c.requires.1 c.requires.0 c.add_bytes.ensures)
    (feeds_end _ _ _ _ _ _ c.end_line.ensures (search rules) _ refl c.end_line.auto.output)
