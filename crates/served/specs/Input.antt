-- The calls of an input of frames, and how their answers stand on the output.
-- Assumes nothing.
use Rattle.std.specs.Prelude.{ℕ, List, [], ◌∷◌, ◌++◌, Option, Some, None}
use Rattle.model.specs.Calls.{outcome_of}
use Rattle.model.specs.Run.{kept, Element, World, supplied_to, step}
use Rattle.model.specs.Run as calls
use Rattle.lines.specs.declared.frame.Fields.{Fields}
use Rattle.lines.specs.Frames.{parsed_of}
use Rattle.lines.specs.Answers.{answer_of}
use Rattle.line_answers.specs.Output.{frame_call}

-- a line that is a frame is a call, lent what is kept; any other line is none
abbrev pub elements_to : Option Fields → List Element → List Element
elements_to (Some f) es = record { call = frame_call f; supplied = kept } ∷ es
elements_to None es = es

-- the calls of lines, in their order
unfoldable pub elements_of : List (List ℕ) → List Element
elements_of [] = []
elements_of (l ∷ ls) = elements_to (parsed_of l) (elements_of ls)

-- the lines of a list of calls from a world, the oldest first
unfoldable pub lines_from : World → List Element → List calls.Line
lines_from w [] = []
lines_from w (e ∷ es) =
    record { call = e.call; reply = (outcome_of w.state (supplied_to w.state w.memory e.call e.supplied) e.call).reply } ∷ lines_from (step w e) es

-- a trace with lines more, the oldest of them first
unfoldable pub onto : List calls.Line → List calls.Line → List calls.Line
onto [] trace = trace
onto (l ∷ ls) trace = onto ls (l ∷ trace)

-- a line of the input is answered by the next call's reply where it is a frame, by 18 where it is not
abbrev pub answer_by : Option Fields → List calls.Line → List ℕ
answer_by (Some f) [] = []
answer_by (Some f) (l ∷ ls) = answer_of l.reply.status l.reply.value
answer_by None ls = answer_of 18 0

-- the replies that are left for the next lines
abbrev pub left_by : Option Fields → List calls.Line → List calls.Line
left_by (Some f) [] = []
left_by (Some f) (l ∷ ls) = ls
left_by None ls = ls

-- the answers to all lines of an input, by the replies of its calls
unfoldable pub answers_by : List (List ℕ) → List calls.Line → List ℕ
answers_by [] ls = []
answers_by (l ∷ lines) ls = answer_by (parsed_of l) ls ++ answers_by lines (left_by (parsed_of l) ls)
