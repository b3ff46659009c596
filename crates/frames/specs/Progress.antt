-- A run of the program: rounds, and then what is left. A round reads a chunk, feeds it to what the round before left, and hands the answers to write.
-- Assumes nothing.
use Rattle.std.specs.Prelude.{ℕ, ◌+◌, ◌*◌, ◌≤◌, ◌<◌, ◌≡◌, Bool, true, false, List, [], ◌∷◌, ◌++◌, length, take}
use Rattle.lines.specs.declared.line.Line.{Line}
use Rattle.lines.specs.Lines.{Buffered, emptied}
use Rattle.line_answers.specs.Output.{first_world}
use Rattle.reader.specs.Feeding.{joined}
use Rattle.line_answers.specs.Answered.{Core, Represents}
use Rattle.reader.specs.Held.{held, Finishes}
use Rattle.reader.specs.Program.{FedChunks}
use Rattle.rounds.specs.Steps.{Wrote}
use Rattle.frames.specs.declared.Ended.{Ended}

-- ---- steps: what a read and a write take of them is said in `rounds`

-- how many there are: 2^64 - 1
abbrev pub all_steps : ℕ
all_steps = 18446744073709551615

-- more than a round and the rest take
abbrev pub reserve : ℕ
reserve = 1000000

-- every step is accounted for: for each chunk a read and a write, and the bytes of both; or something failed, and none is left
pub data Spent (chunks : List (List ℕ)) (written : List ℕ) (steps : ℕ) : Type 0 where
  spent : 2 * length chunks + length (joined chunks) + length written + steps ≡ all_steps → Spent chunks written steps
  failed : steps ≡ 0 → Spent chunks written steps

-- ---- rounds

-- why no round follows: the last read gave nothing, or too few steps are left, as after a failure
pub data Stopped (n steps : ℕ) : Type 0 where
  at_end : n ≡ 0 → Stopped n steps
  too_few : steps < reserve → Stopped n steps

-- whether another round follows
pub record Continues (n steps : ℕ) (more : Bool) : Type 0 where
  pub on : more ≡ true → (n ≡ 0 → ⊥) × (reserve ≤ steps)
  pub off : more ≡ false → Stopped n steps

-- c is the last chunk, if there is one
pub data Last (c : List ℕ) : List (List ℕ) → Type 0 where
  no_chunk : Last c []
  last_chunk : (chunks : List (List ℕ)) → Last c (chunks ++ (c ∷ []))

-- The rounds so far: there are chunks, the last of them c, whose feeding leads from the core k₀ and the line line₀ to the core k and the line so far,
-- and what was handed to write is what feeding them wrote.
pub record Progress (k₀ : Core) (line₀ : Line) (k : Core) (line : Line) (c : List ℕ) (steps : ℕ) : Type 0 where
  pub chunks : List (List ℕ)
  pub written : List ℕ
  pub fed : FedChunks k₀ line₀ chunks written k line
  pub last : Last c chunks
  pub steps_are : Spent chunks written steps

-- ---- a run

-- From the first world and an empty line: rounds until one stops, and then, unless something failed and no step was kept, the line so far is answered by one write more.
-- It leads from the core k₀ to k₂, and leaves its last chunk in the input and its last answers in the output.
pub record Ran (k₀ k₂ : Core) (input out₂ : List ℕ) (e : Ended) : Type 0 where
  pub line₀ : Line
  pub k₁ : Core
  pub line₁ : Line
  pub out₁ : List ℕ
  pub first : Represents k₀ first_world
  pub empty : Buffered line₀ []
  pub rounds : Progress k₀ line₀ k₁ line₁ (take e.n input) e.kept
  pub stopped : Stopped e.n e.kept
  pub room : 19 ≤ length out₁
  pub finishes : (e.kept ≡ 0 → ⊥)
      → Finishes (held k₁ line₁ out₁ 0) (held k₂ (emptied line₁) out₂ e.sent) × Wrote e.kept e.left e.sent
  pub fails : e.kept ≡ 0 → (k₂ ≡ k₁) × (e.sent ≡ 0) × (e.left ≡ 0)
