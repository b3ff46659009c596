-- `scopes_load_rights` meets its contract: the answer is that of the call, in numbers. Assumes nothing.
use Rattle.host_tables.proofs.scopes_load_rights.Goals as goal

pub returns : goal.returns
returns c = rw c.into.ensures c.load_rights.ensures
