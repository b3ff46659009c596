-- The calls without an op that replace a table of the state. "New calls without an op, here and later, are lent no buffer of set-up and skip 1."
-- Assumes nothing.
use Rattle.std.specs.Prelude.{ℕ, Bool, not, List}
use Rattle.layout.specs.Choice.{refuse}
use Rattle.layout.specs.Below.{some_below}
use Rattle.rights.specs.Rights.{is_table}
use Rattle.model.specs.State.{State, with_rights}
use Rattle.model.specs.Checks.{is_started, Change}

-- ---- the load of a rights table

-- "when any thread is started"; "Threads are 0 to 15."
unfoldable pub any_started : State → Bool
any_started s = some_below (is_started s) 16

-- refusals 23, 24: "23 when there are not 36 digits or they break these rules, first. 24 when any thread is started, after 23."
unfoldable pub load_rights_status : State → List ℕ → ℕ
load_rights_status s text = refuse (not (is_table text)) 23 (refuse (any_started s) 24 0)

-- "Replace the constant table .. by 36 text digits": they are in force
unfoldable pub load_rights_state : State → List ℕ → State
load_rights_state s text = with_rights s text

abbrev pub load_rights_change : State → List ℕ → Change
load_rights_change s text = record { status = load_rights_status s text; value = 0; state = load_rights_state s text }
