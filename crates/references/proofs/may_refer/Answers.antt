-- `may_refer` meets its contract: heap and immortal, a target that stands deeper, and one look.
use mathlib.Core.Path.{sym, ap, ◌∙◌}
use native.Mathlib.Omega.{arith}
use Rattle.model.specs.declared.Area.{Area}
use Rattle.tables.specs.Decode.{state_of}
use Rattle.tables.proofs.Laws.{area_read}
use Rattle.model.proofs.Bounds.{depth_bound}
use Rattle.references.specs.Statuses.{may_plain, may_deeper, may_look}
use Rattle.references.proofs.may_refer.Goals as goal

pub returns-then-target-lt2 : goal.returns-then-target-lt2
returns-then-target-lt2 c = may_plain _ _ _ _ c.if-target-lt2.true

pub returns-then-deepest-depth : goal.returns-then-deepest-depth
returns-then-deepest-depth c =
    may_deeper c.args.words.now c.args.bytes.now c.args.object c.args.target c.if-target-lt2.false c.requires.1 c.requires.2 _ _ c.area_at-depth.ensures c.area_at-deepest.ensures c.if-deepest-depth.true

pub row_holds-requires : goal.row_holds-requires
row_holds-requires c =
    let d = depth_bound (state_of c.args.words.now c.args.bytes.now) c.requires.0.good c.args.target c.requires.2 in
    let e = ap (λ (x : Area). x.depth) (c.area_at-depth.ensures ∙ sym (area_read c.args.words.now c.args.bytes.now c.args.target c.requires.2)) in
    (c.requires.1, omega (arith, d, e))

pub returns : goal.returns
returns c =
    c.row_holds.ensures
    ∙ may_look c.args.words.now c.args.bytes.now c.args.object c.args.target c.if-target-lt2.false c.requires.1 c.requires.2 _ _ c.area_at-depth.ensures c.area_at-deepest.ensures c.if-deepest-depth.false
