-- The line so far, of which no more than 40 bytes are kept.
-- Assumes nothing.
use Rattle.std.specs.Prelude.{ℕ, min, ◌≡◌, List, length, take}
use Rattle.lines.specs.declared.line.Line.{Line}

-- A line stands for the line so far, l: its text for the first 40 bytes of l, and 41 or more for the length of every l longer than 40. So a longer
-- line costs no memory.
pub record Buffered (line : Line) (l : List ℕ) : Type 0 where
  pub sized : length line.text ≡ 40
  pub count : min line.len 41 ≡ min (length l) 41
  pub bytes : take (min line.len 40) line.text ≡ take 40 l

-- a line after which the next begins: it has no bytes
abbrev pub emptied : Line → Line
emptied line = record { text = line.text; len = 0 }
