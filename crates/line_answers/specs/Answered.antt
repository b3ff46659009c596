-- A line answered: what it leaves in the tables and the lent buffers, and in the output; one law for each case of a line.
-- Assumes nothing.
use Rattle.std.specs.Prelude.{◌≡◌, refl, List, ℕ, Option, Some, None, length}
use Rattle.std.proofs.Common.{sym, ap, ap₂, ◌∙◌, subst}
use Rattle.std.proofs.lemmas.List.Edits.{sets}
use Rattle.layout.specs.declared.answer.Answer.{Answer}
use Rattle.model.specs.State.{State, Memory}
use Rattle.model.specs.Calls.{Reply, outcome_of}
use Rattle.model.specs.Run.{World}
use Rattle.tables.specs.Decode.{state_of}
use Rattle.tables.specs.Contract.{memory_of, Ready, plain, Answered}
use Rattle.tables.proofs.AnsweredLaws.{step_kept}
use Rattle.lines.specs.declared.frame.Fields.{Fields}
use Rattle.lines.specs.declared.line.Line.{Line}
use Rattle.lines.specs.Answers.{answer_of}
use Rattle.lines.specs.AnswerLaws.{length_answer}
use Rattle.lines.specs.Frames.{parsed_of}
use Rattle.lines.specs.Lines.{Buffered}
use Rattle.line_answers.specs.Output.{frame_call, answer_to, following, line_answer, after_line}

-- the tables and the four lent buffers
pub record Core : Type 0 where
  pub words : List ℕ
  pub bytes : List ℕ
  pub permanent : List ℕ
  pub scratch : List ℕ
  pub map : List ℕ
  pub written : List ℕ

abbrev pub core : List ℕ → List ℕ → List ℕ → List ℕ → List ℕ → List ℕ → Core
core w b p s m x = record { words = w; bytes = b; permanent = p; scratch = s; map = m; written = x }

-- they hold the state and the memory of a world
pub record Represents (k : Core) (w : World) : Type 0 where
  pub state : state_of k.words k.bytes ≡ w.state
  pub memory : memory_of k.permanent k.scratch k.map k.written ≡ w.memory

-- a line is answered
pub record LineAnswered (k n : Core) (line : Line) (a : Answer) : Type 0 where
  pub ready : Ready n.words n.bytes
  pub answer_is : (w : World) (l : List ℕ) → Represents k w → Buffered line l → answer_of a.status a.value ≡ line_answer w l
  pub steps : (w : World) (l : List ℕ) → Represents k w → Buffered line l → Represents n (after_line w l)

-- a line is answered, and the answer is written from place at on
pub record Ended (k n : Core) (line : Line) (out : List ℕ) (at : ℕ) (written : List ℕ) : Type 0 where
  pub ready : Ready n.words n.bytes
  pub output_is : (w : World) (l : List ℕ) → Represents k w → Buffered line l → written ≡ sets out at (line_answer w l)
  pub steps : (w : World) (l : List ℕ) → Represents k w → Buffered line l → Represents n (after_line w l)

-- ---- laws

-- the world that tables and buffers hold
represented : (k : Core) (w : World) → Represents k w
    → w ≡ record { state = state_of k.words k.bytes; memory = memory_of k.permanent k.scratch k.map k.written; trace = w.trace }
represented k w s = rw (s.state, s.memory) refl

-- an answer is 19 bytes
length_to : (w : World) (x : Option Fields) → length (answer_to w x) ≡ 19
length_to w (Some f) = length_answer _ _
length_to w None = length_answer 18 0

pub length_line : (w : World) (l : List ℕ) → length (line_answer w l) ≡ 19
unfolding line_answer
length_line w l = length_to w (parsed_of l)

-- any other line gives 18 and changes nothing
pub answered_bad : (k : Core) (line : Line) (r : Option Fields) → Ready k.words k.bytes → r ≡ None
    → ((l : List ℕ) → Buffered line l → r ≡ parsed_of l) → LineAnswered k k line (record { status = 18; value = 0 })
unfolding line_answer after_line
answered_bad k line r y e m = record {
  ready = y;
  answer_is = λ w l s h. ap (answer_to w) (sym e ∙ m l h);
  steps = λ w l s h. subst (λ (x : Option Fields). Represents k (following w x)) (sym e ∙ m l h) s;
}

-- a frame's call is carried out, as the core promises of a call of any op
pub answered_frame : (k n : Core) (line : Line) (r : Option Fields) (f : Fields) (a : Answer) → r ≡ Some f
    → ((l : List ℕ) → Buffered line l → r ≡ parsed_of l)
    → Answered k.words k.bytes (memory_of k.permanent k.scratch k.map k.written) (frame_call f)
    (plain a.status a.value) n.words n.bytes (memory_of n.permanent n.scratch n.map n.written)
    → LineAnswered k n line a
unfolding line_answer after_line
answered_frame k n line r f a e m d = record {
  ready = d.ready;
  answer_is = λ w l s h.
      ap (λ (x : Reply). answer_of x.status x.value) d.reply_is
      ∙ ap₂ (λ (x : State) (y : Memory). answer_of (outcome_of x y (frame_call f)).reply.status (outcome_of x y (frame_call f)).reply.value) s.state s.memory
      ∙ ap (answer_to w) (sym e ∙ m l h);
  steps = λ w l s h. subst (λ (x : Option Fields). Represents n (following w x)) (sym e ∙ m l h) (stepped w s);
}
  where
    stepped : (w : World) → Represents k w → Represents n (following w (Some f))
    stepped w s =
        rw (represented k w s, step_kept k.words k.bytes n.words n.bytes w.trace (frame_call f) (plain a.status a.value) _ _ d)
        (record { state = refl; memory = refl })

-- the answer is written
pub ended : (k n : Core) (line : Line) (a : Answer) (out : List ℕ) (at : ℕ) (written : List ℕ)
    → LineAnswered k n line a → written ≡ sets out at (answer_of a.status a.value) → Ended k n line out at written
ended k n line a out at written d e = record {
  ready = d.ready;
  output_is = λ w l s h. e ∙ ap (sets out at) (d.answer_is w l s h);
  steps = d.steps;
}
