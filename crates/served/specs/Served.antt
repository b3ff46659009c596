-- What a host holds after any calls, by the contracts of what it called alone. It rests on two definitions: Begun, what set-up promises
-- (setup/specs/First.antt), and Answered, what every call promises (tables/specs/Contract.antt).
-- Assumes nothing.
use Rattle.std.specs.Prelude.{ℕ, false, List, [], ◌∷◌, ◌≡◌}
use Rattle.model.specs.State.{Memory}
use Rattle.model.specs.Checks.{fits}
use Rattle.model.specs.Calls.{Call, Reply}
use Rattle.model.specs.Run.{Line}
use Rattle.tables.specs.Decode.{state_of}
use Rattle.tables.specs.Contract.{Answered}
use Rattle.setup.specs.First.{Begun}

-- The host holds the tables w, b, keeps the buffers m, and has had the lines ls: its calls, each with the answer that the code gave, the newest
-- first. No constructor knows an op: a call that is added later joins by its contract.
pub data Served : List ℕ → List ℕ → Memory → List Line → Type 0 where
  -- "from an accepted set-up": it was lent the buffers m, and answered 0
  began : {w b : List ℕ} {m : Memory} {status : ℕ} (h i : ℕ) → Begun status w b h i m → status ≡ 0 → Served w b m []
  -- "each given what the last one left": a call was lent what is kept, and what it left is kept; one that is lent no buffer leaves it as it is
  called : {w b w' b' : List ℕ} {m m' : Memory} {ls : List Line} {c : Call} {r : Reply}
      → Served w b m ls → Answered w b m c r w' b' m' → Served w' b' m' (record { call = c; reply = r } ∷ ls)
  -- a call was lent other buffers, not all of the lengths of set-up; what it left of them is not kept
  others : {w b w' b' : List ℕ} {m n n' : Memory} {ls : List Line} {c : Call} {r : Reply}
      → Served w b m ls → fits (state_of w b) n ≡ false → Answered w b n c r w' b' n' → Served w' b' m (record { call = c; reply = r } ∷ ls)
