-- `carry_out` meets its contract: each kind of op has it, of its own ops.
use Rattle.std.proofs.Common.{sym}
use mathlib.Core.Path.{refl}
use Rattle.scopes.proofs.carry_out.Goals as goal

pub returns-in-State : goal.returns-in-State
returns-in-State c = rw (c.in-State.is, sym c.of-buffers.ensures) c.carry_state.ensures

pub returns-in-Memory : goal.returns-in-Memory
returns-in-Memory c = rw c.in-Memory.is c.carry_memory.ensures

pub returns-in-Question : goal.returns-in-Question
returns-in-Question c = rw (c.in-Question.is, sym c.of-buffers-in-Question.ensures) c.carry_question.ensures

pub shape_of-permanent-in-State : goal.shape_of-permanent-in-State
shape_of-permanent-in-State c = refl

pub shape_of-scratch-in-State : goal.shape_of-scratch-in-State
shape_of-scratch-in-State c = refl

pub shape_of-map-in-State : goal.shape_of-map-in-State
shape_of-map-in-State c = refl

pub shape_of-written-in-State : goal.shape_of-written-in-State
shape_of-written-in-State c = refl

pub shape_of-permanent-in-Question : goal.shape_of-permanent-in-Question
shape_of-permanent-in-Question c = refl

pub shape_of-scratch-in-Question : goal.shape_of-scratch-in-Question
shape_of-scratch-in-Question c = refl

pub shape_of-map-in-Question : goal.shape_of-map-in-Question
shape_of-map-in-Question c = refl

pub shape_of-written-in-Question : goal.shape_of-written-in-Question
shape_of-written-in-Question c = refl
