-- Every list of calls: "Each call is given the state that set-up or the call before it left, and each call not refused by 1 is lent the
-- memory as set-up or the last such call before it left it." "New calls without an op, here and later, are lent no buffer of set-up".
-- Assumes nothing.
use Rattle.std.specs.Prelude.{ℕ, List, [], ◌∷◌, ◌≡◌}
use Rattle.layout.specs.Choice.{pick}
use Rattle.model.specs.State.{State, Memory}
use Rattle.model.specs.SetUp.{lengths_of, begins, first_state}
use Rattle.model.specs.Checks.{fits}
use Rattle.model.specs.Calls.{Call, is_supplied, Reply, Outcome, outcome_of}

-- what the list has beside a call: it is lent the memory as it was left, or another memory
pub data Supplied : Type 0 where
  kept : Supplied
  other : Memory → Supplied

-- an element of the list
pub record Element : Type 0 where
  pub call : Call
  pub supplied : Supplied

-- a call with its answer
pub record Line : Type 0 where
  pub call : Call
  pub reply : Reply

-- the state, the kept memory, and the lines of the calls so far, the newest first
pub record World : Type 0 where
  pub state : State
  pub memory : Memory
  pub trace : List Line

-- Another memory has other lengths than those of set-up; where it has not, the call is lent the kept memory. A call without an op is lent nothing: what
-- stands beside it in the list means nothing, and what is kept stays.
abbrev pub supplied_to : State → Memory → Call → Supplied → Memory
supplied_to s m c kept = m
supplied_to s m c (other n) = pick (is_supplied c) (pick (fits s n) m n) m

-- one call: what is lent with other lengths is not kept
unfoldable pub step : World → Element → World
step w e =
    let m : Memory = supplied_to w.state w.memory e.call e.supplied in
    let o : Outcome = outcome_of w.state m e.call in
    record {
      state = o.state;
      memory = pick (fits w.state m) o.memory w.memory;
      trace = record { call = e.call; reply = o.reply } ∷ w.trace;
    }

unfoldable pub run : World → List Element → World
run w [] = w
run w (e ∷ es) = run (step w e) es

-- "from an accepted set-up", with any contents of the lent words; "Set-up writes no word."
unfoldable pub begin : ℕ → ℕ → Memory → World
begin h i m = record { state = first_state h i (lengths_of m); memory = m; trace = [] }

-- a world that a list of calls leads to from an accepted set-up
pub record Reached (w : World) : Type 0 where
  pub heap : ℕ
  pub immortal : ℕ
  pub memory : Memory
  pub accepted : begins heap immortal memory ≡ 0
  pub elements : List Element
  pub run_is : w ≡ run (begin heap immortal memory) elements
