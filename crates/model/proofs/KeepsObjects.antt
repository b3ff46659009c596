-- Op 06, which gives words to an object, keeps the invariant.
-- Assumes nothing.
use Prim.Native.Nat.{ℕ, suc, ◌+◌, ◌≤◌, ◌<◌}
use mathlib.Core.Path.{◌≡◌, refl}
use native.Mathlib.Omega.{arith}
use Rattle.model.specs.declared.Area.{Area}
use Rattle.model.specs.State.{State, area_at, row_at, with_area}
use Rattle.model.specs.Objects.{current_at, grown, allocate_state}
use Rattle.model.specs.Invariant.{StandingGood, ScopeGood, stacks_in, NestingIn, Good}
use Rattle.model.proofs.Accepted.{AllocateOk}
use Rattle.model.proofs.Parts.{display_same, nesting_same, nested_good, good_area}
use Rattle.model.proofs.Bounds.{current_area, current_open}
use Rattle.model.proofs.Alters.{Alters, same_field, allocate_alters, allocate_rows}

-- no row and no stack is touched, and x has the parent, depth and count that the area had
pub nesting_altered : {s n : State} {q : ℕ} {x : Area} → Alters s n q x → ((a : ℕ) → row_at n a ≡ row_at s a) → stacks_in n ≡ stacks_in s
    → x.parent ≡ (area_at s q).parent → x.depth ≡ (area_at s q).depth → x.count ≡ (area_at s q).count → NestingIn s → NestingIn n
nesting_altered {s} {n} to r k e d c v =
    nesting_same v
    (λ a. (same_field to (λ (y : Area). y.parent) e a, display_same s n a (same_field to (λ (y : Area). y.depth) d a) (r a)))
    (same_field to (λ (y : Area). y.count) c)
    k

pub good_allocate : (s : State) (t slots data_words : ℕ) → Good s → AllocateOk s t slots data_words → Good (allocate_state s (current_at s t) slots data_words)
unfolding allocate_state with_area
good_allocate s t slots data_words g ok = nested_good
    (good_area s g a x here standing scope (record { start = refl; size = refl; used = ok.room }))
    (nesting_altered (allocate_alters s g.areas a here slots data_words) (allocate_rows s a slots data_words) refl refl refl refl g.nesting)
  where
    a : ℕ
    a = current_at s t

    x : Area
    x = grown (area_at s a) (suc ((area_at s a).used + slots + data_words))

    here : a < 64
    here = current_area s g t ok.called.thread

    standing : a < 2 → StandingGood x
    standing h =
        let old : StandingGood (area_at s a) = g.standing a h in
        record { generation = old.generation; count = old.count; parent = old.parent; depth = old.depth }

    -- the current area is open, so it may have words
    scope : 2 ≤ a → ScopeGood x
    scope h =
        let old : ScopeGood (area_at s a) = g.scopes a h here in
        record {
          generation = old.generation;
          made = old.made;
          begun = old.begun;
          no_parent = old.no_parent;
          no_words = λ z. absurd (omega (arith, current_open s g t ok.called.thread h));
          no_depth = old.no_depth;
        }
