-- `allocate` meets its contract: one law for each way that it ends.
use mathlib.Core.Path.{◌≡◌, refl, sym, ap, ◌∙◌}
use Prim.Native.Nat.{ℕ, ◌<◌}
use native.Mathlib.Omega.{arith}
use borrow.Author.Rules.{rules}
use Rattle.std.specs.Prelude.{Err}
use Rattle.layout.specs.Answer.{number_some}
use Rattle.model.specs.State.{State, Memory, area_at}
use Rattle.model.specs.Objects.{current_at}
use Rattle.model.specs.Calls as calls
use Rattle.model.proofs.Accepted.{Admitted}
use Rattle.model.proofs.Bounds.{current_area}
use Rattle.tables.specs.declared.Entry.{Entry}
use Rattle.tables.proofs.Laws.{area_read}
use Rattle.tables.specs.Decode.{state_of}
use Rattle.tables.specs.Contract.{memory_of}
use Rattle.tables.proofs.AnsweredLaws.{answered_refused, answered_accepted}
use Rattle.callers.specs.Caller.{caller_admitted}
use Rattle.allocation.specs.Allocation.{area_rest, allocate_not_admitted, allocate_checked, has_room}
use Rattle.allocation.proofs.allocate.Goals as goal
use Rattle.allocation.proofs.allocate.Goals.{After-area_at-x, After-top_entry-area, In_ok-check_caller}

abbrev state : In_ok-check_caller → State
state c = state_of c.args.words.now c.args.bytes.now

abbrev memory : In_ok-check_caller → Memory
memory c = memory_of c.args.permanent.now c.args.scratch.now c.args.map.now c.args.written.now

admitted : (c : In_ok-check_caller) → Admitted (state c) (memory c) c.args.t
admitted c = caller_admitted _ _ _ c.in_ok-check_caller.ensures refl

top : (c : After-top_entry-area) → c.top_entry-area.result.area ≡ current_at (state_of c.args.words.now c.args.bytes.now) c.args.t
top c = ap (λ (x : Entry). x.area) c.top_entry-area.ensures

low : (c : After-top_entry-area) → c.top_entry-area.result.area < 64
low c = rw (top c) (current_area (state_of c.args.words.now c.args.bytes.now) c.requires.good c.args.t (admitted (goal.at.After-top_entry-area c).In_ok-check_caller).called.thread)

record_is : (c : After-area_at-x) → c.area_at-x.result ≡ area_at (state_of c.args.words.now c.args.bytes.now) c.top_entry-area.result.area
record_is c =
    c.area_at-x.ensures ∙ sym (area_read c.args.words.now c.args.bytes.now _ (low (goal.at.After-area_at-x c).After-top_entry-area))

-- what check_area answers is the status
checked : (c : After-area_at-x) {n : ℕ} → n ≡ area_rest c.has_right-may.result c.area_at-x.result c.args.slots c.args.data_words
    → n ≡ calls.call_status (state_of c.args.words.now c.args.bytes.now) (memory (goal.at.After-area_at-x c).In_ok-check_caller) (calls.allocate c.args.t c.args.slots c.args.data_words)
checked c e =
    allocate_checked _ _ _ _ _ (admitted (goal.at.After-area_at-x c).In_ok-check_caller) (top (goal.at.After-area_at-x c).After-top_entry-area) c.has_right-may.ensures (record_is c) e

pub returns-in_err-check_caller : goal.returns-in_err-check_caller
returns-in_err-check_caller c =
    let e = c.in_err-check_caller.field-0.0 in
    let q : c.from_residual.result ≡ Err e = search rules in
    rw q (answered_refused _ _ _ (calls.allocate _ _ _) c.requires (allocate_not_admitted _ _ _ _ _ c.in_err-check_caller.ensures (number_some e)) (number_some e))

pub top_entry-area-requires : goal.top_entry-area-requires
top_entry-area-requires c = (c.requires, (admitted (goal.at.top_entry-area-requires c).In_ok-check_caller).called.thread)

pub has_right-may-requires : goal.has_right-may-requires
has_right-may-requires c = (c.requires, (admitted (goal.at.has_right-may-requires c).In_ok-check_caller).called)

pub area_at-x-requires : goal.area_at-x-requires
area_at-x-requires c = low (goal.at.area_at-x-requires c).After-top_entry-area

pub check_area-requires : goal.check_area-requires
check_area-requires c =
    rw (record_is (goal.at.check_area-requires c).After-area_at-x) (c.requires.good.placed.used _ (low (goal.at.check_area-requires c).After-top_entry-area))

pub returns-in_err-check_area : goal.returns-in_err-check_area
returns-in_err-check_area c =
    let e = c.in_err-check_area.field-0.0 in
    let q : c.from_residual-in_err-check_area.result ≡ Err e = search rules in
    rw q (answered_refused _ _ _ (calls.allocate _ _ _) c.requires (checked (goal.at.returns-in_err-check_area c).After-area_at-x c.in_err-check_area.ensures) (number_some e))

pub apply_allocate-made-requires : goal.apply_allocate-made-requires
apply_allocate-made-requires c =
    let a = admitted (goal.at.apply_allocate-made-requires c).In_ok-check_caller in
    let d = (goal.at.apply_allocate-made-requires c).After-top_entry-area in
    let z : 0 ≡ area_rest c.has_right-may.result c.area_at-x.result c.args.slots c.args.data_words = omega arith in
    ((c.requires, a.supplied), has_room _ _ _ _ _ a (top d) c.has_right-may.ensures (record_is (goal.at.apply_allocate-made-requires c).After-area_at-x) z (low d) refl)

pub returns : goal.returns
returns c =
    let o = rw (top (goal.at.returns c).After-top_entry-area) at c.apply_allocate-made.ensures in
    answered_accepted _ _ (memory (goal.at.returns c).In_ok-check_caller) (calls.allocate _ _ _) c.requires (checked (goal.at.returns c).After-area_at-x c.in_ok-check_area.ensures) refl refl o.value_is o.holds o.memory_is
