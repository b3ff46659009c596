-- `view` meets its contract: the part is the one that view_place tells.
use Rattle.model.specs.State.{State, Memory}
use Rattle.tables.specs.Decode.{state_of}
use Rattle.tables.specs.Contract.{memory_of}
use Prim.Native.Nat.{◌+◌, ◌≤◌}
use native.Mathlib.Omega.{arith}
use Rattle.views.proofs.ViewLaws.{place_low, permanent_end, scratch_end, view_permanent, view_scratch}
use Rattle.views.proofs.ViewAnswers.{view_answered}
use Rattle.views.proofs.view.Goals as goal
use Rattle.views.proofs.view.Goals.{After-view_place-place}

abbrev state : After-view_place-place → State
state c = state_of c.args.words.now c.args.bytes.now

abbrev memory : After-view_place-place → Memory
memory c = memory_of c.args.permanent.now c.args.scratch.now c.args.map.now c.args.written.now

low : (c : After-view_place-place) → c.view_place-place.result.from + c.view_place-place.result.len ≤ 16384
low c = place_low (state c) (memory c) c.args.t c.args.p _ c.view_place-place.ensures c.requires.good

pub overflow_add-to : goal.overflow_add-to
overflow_add-to c = omega (arith, low c)

pub offset_bounds-permanent-from : goal.offset_bounds-permanent-from
offset_bounds-permanent-from c = omega (arith, low (goal.at.offset_bounds-permanent-from c).After-view_place-place)

pub slice_bounds-result-end : goal.slice_bounds-result-end
slice_bounds-result-end c =
    permanent_end (state (goal.at.slice_bounds-result-end c).After-view_place-place) (memory (goal.at.slice_bounds-result-end c).After-view_place-place) c.args.t c.args.p _ c.view_place-place.ensures c.if-place-eq0.true c.requires.good

pub returns-then-place-eq0 : goal.returns-then-place-eq0
returns-then-place-eq0 c =
    let v = view_permanent (state (goal.at.returns-then-place-eq0 c).After-view_place-place) (memory (goal.at.returns-then-place-eq0 c).After-view_place-place) c.args.t c.args.p _ c.view_place-place.ensures c.if-place-eq0.true c.args.permanent.ref_ptr c.args.scratch.ref_ptr in
    record { answer = view_answered _ _ (memory (goal.at.returns-then-place-eq0 c).After-view_place-place) c.args.t c.args.p c.requires v.0; place = v.1 }

pub offset_bounds-scratch-from : goal.offset_bounds-scratch-from
offset_bounds-scratch-from c = omega (arith, low (goal.at.offset_bounds-scratch-from c).After-view_place-place)

pub slice_bounds-result-end-2 : goal.slice_bounds-result-end-2
slice_bounds-result-end-2 c =
    scratch_end (state (goal.at.slice_bounds-result-end-2 c).After-view_place-place) (memory (goal.at.slice_bounds-result-end-2 c).After-view_place-place) c.args.t c.args.p _ c.view_place-place.ensures c.if-place-eq0.false c.requires.good

pub returns : goal.returns
returns c =
    let v = view_scratch (state (goal.at.returns c).After-view_place-place) (memory (goal.at.returns c).After-view_place-place) c.args.t c.args.p _ c.view_place-place.ensures c.if-place-eq0.false c.args.permanent.ref_ptr c.args.scratch.ref_ptr in
    record { answer = view_answered _ _ (memory (goal.at.returns c).After-view_place-place) c.args.t c.args.p c.requires v.0; place = v.1 }
