-- `put_first_bytes` meets its contract: the table that is written is the definition's.
use mathlib.Core.Path.{refl}
use Rattle.setup.proofs.put_first_bytes.Goals as goal

pub returns : goal.returns
returns c = rw (c.put_rights.ensures, c.built_in-table.ensures) refl
