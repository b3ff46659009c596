-- What a host holds at the end of the trial.
-- Assumes nothing.
use Rattle.std.specs.Prelude.{ℕ, List, [], ◌∷◌, map, ◌≡◌}
use Rattle.model.specs.State.{Memory}
use Rattle.model.specs.Calls.{start, allocate, view_status, load_rights}
use Rattle.model.specs.Run.{Line}
use Rattle.served.specs.Served.{Served}

-- what it holds is served, after these calls, the newest first
pub record Tried (w b : List ℕ) (m : Memory) (text : List ℕ) (t : ℕ) : Type 0 where
  pub lines : List Line
  pub served : Served w b m lines
  pub calls_are : map (λ (l : Line). l.call) lines ≡ view_status t 0 ∷ allocate t 1 2 ∷ start t 2 ∷ load_rights text ∷ []
