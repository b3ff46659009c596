-- `check_store` meets its contract: one law for each way that it ends.
use mathlib.Core.Bool.{not}
use mathlib.Core.Path.{◌≡◌, sym, ap, ◌∙◌}
use borrow.Author.Rules.{rules}
use borrow.Author.Tests.{not-true, not-false}
use Rattle.std.specs.Prelude.{ℕ, Err}
use Rattle.layout.specs.Answer.{number_some}
use Rattle.layout.specs.Handle.{area_of}
use Rattle.layout.specs.HandleLaws.{area_lt}
use native.Mathlib.Omega.{arith}
use Rattle.model.specs.References.{may_refer, reference_rest}
use Rattle.tables.specs.Decode.{state_of}
use Rattle.objects.specs.declared.index.Part.TheVariants.{Slots}
use Rattle.objects.proofs.Effects.{word_area}
use Rattle.references.specs.Statuses.{store_no_slot, store_no_reference, store_forbidden, store_allowed}
use Rattle.references.proofs.check_store.Goals as goal
use Rattle.references.proofs.check_store.Goals.{In_ok-w, After-may_refer-may}

area : (c : In_ok-w) → c.in_ok-w.w.area ≡ area_of c.args.p
area c = word_area Slots _ _ _ _ _ c.in_ok-w.ensures.0

-- what may_refer answered
rule : (c : After-may_refer-may) → may_refer (state_of c.args.words.now c.args.bytes.now) (area_of c.args.p) (area_of c.args.target) ≡ c.may_refer-may.result
rule c =
    let s = state_of c.args.words.now c.args.bytes.now in
    sym (c.may_refer-may.ensures ∙ ap (λ (a : ℕ). may_refer s a c.area.result) (area (goal.at.After-may_refer-may c).In_ok-w) ∙ ap (may_refer s (area_of c.args.p)) c.area.ensures)

pub returns-in_err-w : goal.returns-in_err-w
returns-in_err-w c =
    let e = c.in_err-w.field-0.0 in
    let q : c.from_residual.result ≡ Err e = search rules in
    rw q (store_no_slot _ _ _ _ _ _ c.in_err-w.ensures (number_some e))

pub may_refer-may-requires : goal.may_refer-may-requires
may_refer-may-requires c =
    (c.requires.0, rw (area (goal.at.may_refer-may-requires c).In_ok-w) (area_lt c.args.p), rw c.area.ensures (area_lt c.args.target))

pub returns-in_err-checked : goal.returns-in_err-checked
returns-in_err-checked c =
    let e = c.in_err-checked.field-0.0 in
    let q : c.from_residual-in_err-checked.result ≡ Err e = search rules in
    rw q (store_no_reference _ _ _ _ _ _ c.in_ok-w.ensures.1 c.in_err-checked.ensures (number_some e))

pub returns-then-not-may : goal.returns-then-not-may
returns-then-not-may c =
    let z : reference_rest (state_of c.args.words.now c.args.bytes.now) c.args.buffers.now c.args.t c.args.target 0 ≡ 0 = omega arith in
    store_forbidden _ _ _ _ _ _ c.in_ok-w.ensures.1 z
    (rule (goal.at.returns-then-not-may c).After-may_refer-may ∙ not-true c.may_refer-may.result (ap not c.if-not-may.true))

pub returns : goal.returns
returns c = (
  c.in_ok-w.ensures.0,
  sym (store_allowed _ _ _ _ _ _ c.in_ok-w.ensures.1 (sym c.in_ok-checked.ensures)
      (rule (goal.at.returns c).After-may_refer-may ∙ not-false c.may_refer-may.result (ap not c.if-not-may.false))),
)
