-- What is held between two bytes of the input, and what feeding leaves there.
-- Assumes nothing.
use Rattle.std.specs.Prelude.{◌≡◌, refl, List, [], ◌++◌, ℕ, ◌+◌, ◌*◌, ◌≤◌, length}
use Rattle.std.proofs.Common.{◌∙◌, arith, length-append}
use Rattle.std.proofs.lemmas.List.Edits.{sets}
use Rattle.model.specs.Run.{World}
use Rattle.tables.specs.Contract.{Ready}
use Rattle.lines.specs.declared.line.Line.{Line}
use Rattle.lines.specs.Lines.{Buffered}
use Rattle.line_answers.specs.Answered.{Core, Represents}
use Rattle.reader.specs.Feeding.{Feeding, after, fed, finished, fed_none, fed_append}
use Rattle.lines.specs.AnswerLaws.{sets_sets}

-- the core, the line so far, and the output with the place of the next answer
pub record Held : Type 0 where
  pub core : Core
  pub line : Line
  pub output : List ℕ
  pub at : ℕ

abbrev pub held : Core → Line → List ℕ → ℕ → Held
held k line output at = record { core = k; line = line; output = output; at = at }

-- x holds what feeding leaves of e
pub record LeavesFed (e x : Held) (f : Feeding) : Type 0 where
  pub represents : Represents x.core f.world
  pub buffered : Buffered x.line f.line
  pub at_is : x.at ≡ e.at + length f.output
  pub output_is : x.output ≡ sets e.output e.at f.output

-- feeding the input leads from e to x, whatever world and line e stands for
pub record Feeds (e x : Held) (input : List ℕ) : Type 0 where
  pub ready : Ready x.core.words x.core.bytes
  pub long : length x.output ≡ length e.output
  pub room : x.at ≤ e.at + 19 * length input
  pub leaves : (w : World) (l : List ℕ) → Represents e.core w → Buffered e.line l → LeavesFed e x (fed w l input)

-- the end of input does likewise
pub record Finishes (e x : Held) : Type 0 where
  pub ready : Ready x.core.words x.core.bytes
  pub room : x.at ≤ e.at + 19
  pub leaves : (w : World) (l : List ℕ) → Represents e.core w → Buffered e.line l → LeavesFed e x (finished w l)

-- ---- laws

leaves_none : (e : Held) (w : World) (l : List ℕ) → Represents e.core w → Buffered e.line l
    → LeavesFed e e (record { output = []; world = w; line = l })
leaves_none e w l s h = record { represents = s; buffered = h; at_is = omega arith; output_is = refl }

pub feeds_none : (e : Held) → Ready e.core.words e.core.bytes → Feeds e e []
feeds_none e r = record {
  ready = r;
  long = refl;
  room = omega arith;
  leaves = λ w l t h. rw (fed_none w l) (leaves_none e w l t h);
}

leaves_append : (e x y : Held) (f g : Feeding) → LeavesFed e x f → LeavesFed x y g → LeavesFed e y (after f.output g)
leaves_append e x y f g a b = record {
  represents = b.represents;
  buffered = b.buffered;
  at_is = omega (arith, a.at_is, b.at_is, length-append f.output g.output);
  output_is = b.output_is ∙ rw (a.output_is, a.at_is) (sets_sets f.output e.output e.at g.output);
}

pub feeds_append : (e x y : Held) (a b : List ℕ) → Feeds e x a → Feeds x y b → Feeds e y (a ++ b)
feeds_append e x y a b p q = record {
  ready = q.ready;
  long = q.long ∙ p.long;
  room = omega (arith, p.room, q.room, length-append a b);
  leaves = λ w l s h.
      let first = p.leaves w l s h in
      rw (fed_append a b w l)
      (leaves_append e x y (fed w l a) (fed (fed w l a).world (fed w l a).line b) first (q.leaves (fed w l a).world (fed w l a).line first.represents first.buffered));
}
