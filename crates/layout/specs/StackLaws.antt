-- The scope stack as a list, its top first: a push puts an area on top, a pop takes the top off, a refusal keeps all.
-- Assumes nothing.
use Rattle.std.specs.Prelude.{◌≡◌, refl, List, ◌∷◌, length, get_or, set}
use Rattle.std.proofs.Common.{ap, get_or-set_same, get_or-set_other}
use Prim.Native.Nat.{ℕ, zero, suc, pred, ◌+◌, ◌-◌, ◌≤◌, ◌<◌, min}
use native.Mathlib.Omega.{arith}
use borrow.Author.Tests.{lt-ltb, le-ltb, le-leb, lt-leb, eq-eqb, ne_eqb}
use Rattle.layout.specs.Answer.{accepted, refused}
use Rattle.layout.specs.Stack.{height_of, down, stack_of, push_answer, pushed_stack, pop_answer, popped_stack}
use Rattle.layout.specs.declared.stack.ScopeStack.{ScopeStack}

-- ---- down

pub length_down : (l : List ℕ) (n : ℕ) → length (down l n) ≡ n
unfolding down
length_down l zero = refl
length_down l (suc n) = ap suc (length_down l n)

-- a store at or above n is not seen
pub down_set_above : (l : List ℕ) (n i v : ℕ) → n ≤ i → down (set l i v) n ≡ down l n
unfolding down
down_set_above l zero i v h = refl
down_set_above l (suc n) i v h = rw (get_or-set_other l i n v 0 (λ e. omega arith), down_set_above l n i v (omega arith))

pub down_push : (l : List ℕ) (n v : ℕ) → n < length l → down (set l n v) (suc n) ≡ v ∷ down l n
unfolding down
down_push l n v h = rw (get_or-set_same l n v 0 h, down_set_above l n n v (omega arith))

pub down_pop : (l : List ℕ) (n : ℕ) → 0 < n → down l n ≡ get_or l (pred n) 0 ∷ down l (pred n)
unfolding down
down_pop l zero h = absurd (omega arith)
down_pop l (suc n) h = refl

-- ---- push and pop

module _ (s : ScopeStack) where
  pub length_stack : length (stack_of s) ≡ height_of s
  unfolding stack_of
  length_stack = length_down s.entries (height_of s)

  module _ (area : ℕ) where
    pub push_no_area : 63 < area → (push_answer s area ≡ refused 6) × (pushed_stack s area ≡ s)
    unfolding push_answer pushed_stack
    push_no_area h = (rw (lt-ltb 63 area h), rw (lt-ltb 63 area h))

    pub push_full : area ≤ 63 → 32 ≤ s.len → (push_answer s area ≡ refused 9) × (pushed_stack s area ≡ s)
    unfolding push_answer pushed_stack
    push_full h k = (rw (le-ltb 63 area h, le-leb 32 s.len k), rw (le-ltb 63 area h, le-leb 32 s.len k))

    pub push_accepted : area ≤ 63 → s.len < 32 → length s.entries ≡ 32
        → (push_answer s area ≡ accepted 0) × (stack_of (pushed_stack s area) ≡ area ∷ stack_of s)
    unfolding push_answer pushed_stack stack_of
    push_accepted h k e =
        let low : min s.len 32 ≡ s.len = omega arith in
        let high : min (s.len + 1) 32 ≡ suc s.len = omega arith in (
          rw (le-ltb 63 area h, lt-leb 32 s.len k),
          rw (le-ltb 63 area h, lt-leb 32 s.len k) (rw (low, high) (down_push s.entries s.len area (omega (arith, e)))),
        )

  pub pop_empty : s.len ≡ 0 → (pop_answer s ≡ refused 11) × (popped_stack s ≡ s)
  unfolding pop_answer popped_stack
  pop_empty h =
      let z : min s.len 32 ≡ 0 = omega arith in
      (rw (eq-eqb (min s.len 32) 0 z), rw (eq-eqb (min s.len 32) 0 z))

  -- the top and what is left
  pub pop_accepted : 0 < s.len
      → (pop_answer s ≡ accepted (get_or s.entries (height_of s - 1) 0))
      × (stack_of s ≡ get_or s.entries (height_of s - 1) 0 ∷ stack_of (popped_stack s))
  unfolding pop_answer popped_stack stack_of
  pop_accepted h =
      let ne : min s.len 32 ≡ 0 → ⊥ = λ e. omega arith in
      let left : min (min s.len 32 - 1) 32 ≡ pred (min s.len 32) = omega arith in
      let one : min s.len 32 - 1 ≡ pred (min s.len 32) = omega arith in (
        rw (ne_eqb (min s.len 32) 0 ne),
        rw (ne_eqb (min s.len 32) 0 ne) (rw (left, one) (down_pop s.entries (min s.len 32) (omega arith))),
      )
