-- `put_first_words` meets its contract: each write is the definition's.
use mathlib.Core.Path.{refl}
use Rattle.setup.proofs.put_first_words.Goals as goal

pub returns : goal.returns
returns c =
    rw (c.put_lengths.ensures, c.put_area-2.ensures, c.standing_area-2.ensures, c.put_area.ensures, c.standing_area.ensures) refl
