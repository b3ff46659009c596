-- `carry_memory` meets its contract: each op has it, of its own call.
use mathlib.Core.Path.{refl}
use Rattle.memory_ops.proofs.carry_memory.Goals as goal

pub returns-in-Allocate : goal.returns-in-Allocate
returns-in-Allocate c = rw c.in-Allocate.is c.allocate.ensures

pub returns-in-Store : goal.returns-in-Store
returns-in-Store c = rw c.in-Store.is c.store.ensures

pub returns-in-Write : goal.returns-in-Write
returns-in-Write c = rw c.in-Write.is c.write.ensures

pub shape_of-permanent-in-Allocate : goal.shape_of-permanent-in-Allocate
shape_of-permanent-in-Allocate c = c.allocate.auto.permanent

pub shape_of-scratch-in-Allocate : goal.shape_of-scratch-in-Allocate
shape_of-scratch-in-Allocate c = c.allocate.auto.scratch

pub shape_of-map-in-Allocate : goal.shape_of-map-in-Allocate
shape_of-map-in-Allocate c = c.allocate.auto.map

pub shape_of-written-in-Allocate : goal.shape_of-written-in-Allocate
shape_of-written-in-Allocate c = c.allocate.auto.written

pub shape_of-permanent-in-Store : goal.shape_of-permanent-in-Store
shape_of-permanent-in-Store c = c.store.auto.permanent

pub shape_of-scratch-in-Store : goal.shape_of-scratch-in-Store
shape_of-scratch-in-Store c = c.store.auto.scratch

pub shape_of-map-in-Store : goal.shape_of-map-in-Store
shape_of-map-in-Store c = refl

pub shape_of-written-in-Store : goal.shape_of-written-in-Store
shape_of-written-in-Store c = refl

pub shape_of-permanent-in-Write : goal.shape_of-permanent-in-Write
shape_of-permanent-in-Write c = c.write.auto.permanent

pub shape_of-scratch-in-Write : goal.shape_of-scratch-in-Write
shape_of-scratch-in-Write c = c.write.auto.scratch

pub shape_of-map-in-Write : goal.shape_of-map-in-Write
shape_of-map-in-Write c = refl

pub shape_of-written-in-Write : goal.shape_of-written-in-Write
shape_of-written-in-Write c = c.write.auto.written
