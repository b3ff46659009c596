-- `exit::apply_exit` meets its contract. Assumes nothing.
use mathlib.Core.Path.{◌≡◌, ap}
use Rattle.tables.specs.declared.Entry.{Entry}
use Rattle.tables.specs.Decode.{state_of}
use Rattle.model.specs.State.{stack_at, current}
use Rattle.model.proofs.Bounds.{current_area, current_open}
use Rattle.exit.specs.Exit.{popped_open, exited_holds, exited_value}
use Rattle.exit.proofs.apply_exit.Goals as goal
use Rattle.exit.proofs.apply_exit.Goals.{After-top_entry-top}

top : (c : After-top_entry-top) → c.top_entry-top.result.area ≡ current (stack_at (state_of c.args.words.now c.args.bytes.now) c.args.t)
top c = ap (λ (x : Entry). x.area) c.top_entry-top.ensures

pub leave_area-requires : goal.leave_area-requires
leave_area-requires c =
    let a = c.args in
    let s = state_of a.words.now a.bytes.now in (
      c.pop.ensures.sized,
      rw (top (goal.at.leave_area-requires c).After-top_entry-top) (current_area s c.requires.0.good a.t c.requires.1),
      popped_open a.words.now a.bytes.now a.t _ c.pop.ensures (top (goal.at.leave_area-requires c).After-top_entry-top) (current_open s c.requires.0.good a.t c.requires.1),
    )

pub returns : goal.returns
returns c =
    let a = c.args in
    let l = c.leave_area.ensures in record { value = exited_value a.words.now a.bytes.now a.t _ c.pop.ensures (top (goal.at.returns c).After-top_entry-top) l.value; state = exited_holds a.words.now a.bytes.now a.t _ c.pop.ensures (top (goal.at.returns c).After-top_entry-top) l.state }
