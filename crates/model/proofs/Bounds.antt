-- What the invariant says of a thread's current area and innermost scope, and the bounds of an area's numbers.
-- Assumes nothing.
use Prim.Native.Nat.{ℕ, suc, ◌*◌, ◌≤◌, ◌<◌}
use mathlib.Core.List.{List, [], ◌∷◌}
use mathlib.Core.Path.{◌≡◌, ap}
use lib.ListN.{length, get_or}
use lib.Dec.{eqb, leb, ltb}
use native.Mathlib.Omega.{arith}
use borrow.Author.Tests.{ltb-true, ltb-false, leb-true, leb-false}
use Rattle.layout.specs.Choice.{cases}
use Rattle.layout.specs.Stack.{down}
use Rattle.layout.specs.StackLaws.{length_down}
use Rattle.model.specs.State.{State, area_at, row_at, thread_at, stack_at, current, innermost, display_at}
use Rattle.model.specs.Objects.{current_at}
use Rattle.model.specs.History.{occurrences, total}
use Rattle.model.specs.Invariant.{branch_of, first_item, parent_in, stacks_in, Good}
use Rattle.model.proofs.Lists.{occ_le_total, occ_same, order_length}
use Rattle.model.proofs.Nesting.{Chain, chain_of, StandsOn, stands_on}
use Rattle.model.proofs.Parts.{stack_is, inner_is}
use Rattle.model.proofs.Stacks.{length_stack, stack_area}

-- ---- lists

pub occ_length : (a : ℕ) (l : List ℕ) → occurrences a l ≤ length l
unfolding occurrences
occ_length a [] = omega arith
occ_length a (x ∷ l) = cases (eqb x a) (λ e. rw e (omega (arith, occ_length a l))) (λ e. rw e (omega (arith, occ_length a l)))

-- rows of at most 32 entries each
total_bound : (a : ℕ) (rs : List (List ℕ)) → ((t : ℕ) → t < length rs → length (get_or rs t []) ≤ 32) → total a rs ≤ 32 * length rs
unfolding total
total_bound a [] f = omega arith
total_bound a (r ∷ rs) f = omega (arith, occ_length a r, f 0 (omega arith), total_bound a rs (λ t h. f (suc t) (omega arith)))

-- a top that is a scope stands on its row
current_occ : (l : List ℕ) → 2 ≤ current l → 0 < occurrences (current l) l
current_occ [] h = absurd (omega arith)
current_occ (x ∷ l) h = omega (arith, occ_same x l)

first_area : (par : ℕ → ℕ) (dis : ℕ → List ℕ) (l : List ℕ) → Chain par dis l → first_item l < 64
first_area par dis [] n = omega arith
first_area par dis (x ∷ l) n = n.0.area

-- an area is heap or immortal, a scope that is not open, or an open scope
pub by_area {ℓ} : {C : Type ℓ} (s : State) (a : ℕ) → (a < 2 → C) → (2 ≤ a → (area_at s a).count ≡ 0 → C) → (2 ≤ a → 0 < (area_at s a).count → C) → C
by_area s a low closed opens = cases (leb 2 a)
    (λ e. cases (ltb 0 (area_at s a).count)
    (λ o. opens (leb-true 2 a e) (ltb-true 0 (area_at s a).count o))
    (λ o. closed (leb-true 2 a e) (omega (arith, ltb-false 0 (area_at s a).count o))))
    (λ e. low (leb-false 2 a e))

module _ (s : State) (g : Good s) where
  -- ---- a thread

  module _ (t : ℕ) (h : t < 16) where
    pub current_area : current_at s t < 64
    current_area = stack_area (thread_at s t) (g.threads.each t h)

    -- a scope on a stack is open
    pub current_open : 2 ≤ current_at s t → 0 < (area_at s (current_at s t)).count
    current_open k = omega (
      arith,
      g.nesting.counts (current_at s t) k current_area,
      occ_le_total (current_at s t) (stacks_in s) t,
      ap (occurrences (current_at s t)) (stack_is s t),
      current_occ (stack_at s t) k,
    )

    branch_chain : Chain (parent_in s) (display_at s) (branch_of (get_or (stacks_in s) t []))
    branch_chain = chain_of (parent_in s) (display_at s) (get_or (stacks_in s) t []) (g.nesting.nested t h)

    pub inner_area : innermost (stack_at s t) < 64
    inner_area = rw (inner_is s t) (first_area (parent_in s) (display_at s) (branch_of (get_or (stacks_in s) t [])) branch_chain)

    -- the display of the innermost scope is the stack's branch
    pub inner_display : display_at s (innermost (stack_at s t)) ≡ branch_of (get_or (stacks_in s) t [])
    inner_display = rw (inner_is s t) (go (branch_of (get_or (stacks_in s) t [])) branch_chain)
      where
        go : (l : List ℕ) → Chain (parent_in s) (display_at s) l → display_at s (first_item l) ≡ l
        go [] n = unfold display_at down in rw (g.standing 0 (omega arith)).depth
        go (x ∷ l) n = n.0.display_is

  -- ---- an area

  length_display : (a : ℕ) → length (display_at s a) ≡ (area_at s a).depth
  unfolding display_at
  length_display a = length_down (row_at s a) (area_at s a).depth

  length_row : (t : ℕ) → t < 16 → length (get_or (stacks_in s) t []) ≤ 32
  length_row t h = rw (stack_is s t, length_stack (thread_at s t)) (g.threads.each t h).fits

  -- an open scope stands on a stack, above its ancestors
  open_depth : (a : ℕ) → 2 ≤ a → a < 64 → 0 < (area_at s a).count → (area_at s a).depth ≤ 32
  open_depth a h k o =
      let z : StandsOn (parent_in s) (display_at s) (stacks_in s) a = stands_on g.nesting a h (omega (arith, g.nesting.counts a h k)) in
      omega (arith, order_length {l = a ∷ z.branch} z.order, length_row z.thread z.is_thread, ap length z.chain.0.display_is, length_display a)

  module _ (a : ℕ) (k : a < 64) where
    -- "A stack has at most 32 entries", and there are 16
    pub count_bound : (area_at s a).count ≤ 512
    count_bound = cases (leb 2 a)
        (λ e. omega (arith, g.nesting.counts a (leb-true 2 a e) k, g.nesting.size, total_bound a (stacks_in s) (λ t h. length_row t (omega (arith, g.nesting.size)))))
        (λ e. omega (arith, (g.standing a (leb-false 2 a e)).count))

    pub depth_bound : (area_at s a).depth ≤ 32
    depth_bound =
        by_area s a
        (λ h. omega (arith, (g.standing a h).depth))
        (λ h z. omega (arith, (g.scopes a h k).no_depth z))
        (λ h o. open_depth a h k o)
