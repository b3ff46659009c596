-- `trial` meets its contract: each call goes on from what the one before it left, by its contract alone.
use mathlib.Core.Path.{refl}
use mathlib.Core.List.{[]}
use Rattle.tables.specs.Contract.{memory_of}
use Rattle.served.specs.Served.{began, called}
use Rattle.trial.proofs.trial.Goals as goal

pub returns-then-status-ne0 : goal.returns-then-status-ne0
returns-then-status-ne0 c = λ z. absurd (c.if-status-ne0.true z)

-- the load left what the next call asks, whatever memory is kept
pub scopes_start-requires : goal.scopes_start-requires
scopes_start-requires c = (c.scopes_load_rights.ensures (memory_of [] [] [] [])).ready

pub returns : goal.returns
returns c = λ z. record {
  lines = _;
  served = called
      (called
      (called
      (called (began _ _ c.scopes_set_up_in_place-status.ensures c.if-status-ne0.false) (c.scopes_load_rights.ensures _))
      c.scopes_start.ensures)
      c.scopes_allocate.ensures)
      c.scopes_view_status.ensures;
  calls_are = refl;
}

pub shape_of-permanent : goal.shape_of-permanent
shape_of-permanent c = c.scopes_allocate.auto.permanent

pub shape_of-scratch : goal.shape_of-scratch
shape_of-scratch c = c.scopes_allocate.auto.scratch

pub shape_of-map : goal.shape_of-map
shape_of-map c = c.scopes_allocate.auto.map
