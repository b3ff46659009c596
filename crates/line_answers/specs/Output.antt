-- What a line is answered, and the answers to a whole input.
-- Assumes nothing.
use Rattle.std.specs.Prelude.{ℕ, List, [], ◌∷◌, ◌++◌, Option, Some, None, eqb, replicate}
use Rattle.layout.specs.Choice.{pick}
use Rattle.model.specs.Calls.{Call, outcome_of}
use Rattle.model.specs.Ops.{call_of}
use Rattle.model.specs.Run.{World, kept, step, begin}
use Rattle.lines.specs.declared.frame.Fields.{Fields}
use Rattle.lines.specs.Frames.{parsed_of}
use Rattle.lines.specs.Answers.{answer_of}

-- the call of a frame
abbrev pub frame_call : Fields → Call
frame_call f = call_of f.op f.thread f.p f.q f.r

-- the answer to each case of a line: a frame's is its call's; "Any other line gives 18 and is skipped to its line feed"
abbrev pub answer_to : World → Option Fields → List ℕ
answer_to w (Some f) = answer_of (outcome_of w.state w.memory (frame_call f)).reply.status (outcome_of w.state w.memory (frame_call f)).reply.value
answer_to w None = answer_of 18 0

-- what each case leaves
abbrev pub following : World → Option Fields → World
following w (Some f) = step w (record { call = frame_call f; supplied = kept })
following w None = w

-- "Each line is answered by a line"
unfoldable pub line_answer : World → List ℕ → List ℕ
line_answer w l = answer_to w (parsed_of l)

-- the world after a line: a frame's call is carried out, any other line changes nothing
unfoldable pub after_line : World → List ℕ → World
after_line w l = following w (parsed_of l)

-- a line feed ends a line; "The last line feed may be missing": what follows the last one is a line unless it is empty. The bytes of the
-- line so far come first, then the input.
unfoldable pub lines_of : List ℕ → List ℕ → List (List ℕ)
lines_of [] [] = []
lines_of (c ∷ line) [] = (c ∷ line) ∷ []
lines_of line (b ∷ input) = pick (eqb b 10) (line ∷ lines_of [] input) (lines_of (line ++ (b ∷ [])) input)

-- the answers to lines, in order
unfoldable pub answers_of : World → List (List ℕ) → List ℕ
answers_of w [] = []
answers_of w (l ∷ ls) = line_answer w l ++ answers_of (after_line w l) ls

-- "runs with h = i = 1,024, S = 4,096"; the buffers hold 0 at first
unfoldable pub first_world : World
first_world = begin 1024 1024 (record { permanent = replicate 2048 0; scratch = replicate 4096 0; map = replicate 96 0; written = replicate 96 0 })

-- what the program writes for an input
unfoldable pub output_of : List ℕ → List ℕ
output_of input = answers_of first_world (lines_of [] input)
