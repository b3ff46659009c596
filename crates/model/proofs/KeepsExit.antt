-- Op 05 keeps the invariant; the threads and the stacks after an exit.
-- Assumes nothing.
use Prim.Native.Nat.{ℕ, suc, pred, ◌≤◌, ◌<◌}
use mathlib.Core.Bool.{true}
use mathlib.Core.List.{List, [], ◌∷◌, map}
use mathlib.Core.Path.{◌≡◌, refl, ap, ◌∙◌}
use mathlib.Core.Logic.{◌≢◌}
use lib.ListN.{get_or, set}
use lib.Dec.{leb}
use native.Mathlib.Omega.{arith}
use borrow.Author.Tests.{le-leb, lt-leb}
use Rattle.layout.specs.Choice.{cases}
use Rattle.model.specs.declared.Area.{Area}
use Rattle.model.specs.State.{Thread, State, no_thread, area_at, thread_at, with_used, with_count, with_parent, with_area, with_thread, entries_of, display_at}
use Rattle.model.specs.Scopes.{left, popped, exit_state}
use Rattle.model.specs.Objects.{current_at}
use Rattle.model.specs.Invariant.{ScopeGood, parent_in, stacks_in, NestingIn, GoodWith, Good}
use Rattle.model.proofs.Accepted.{ExitOk}
use Rattle.model.proofs.Lists.{map_set}
use Rattle.model.proofs.Nesting.{exit_low, exit_scope}
use Rattle.model.proofs.Parts.{thread_same, thread_other, stack_is, display_same, Untouched, seen, nesting_same, nested_good, good_thread, good_area}
use Rattle.model.proofs.Stacks.{stack_pop, popped_good}
use Rattle.model.proofs.Bounds.{current_area, current_open}
use Rattle.model.proofs.Alters.{exit_is_low, exit_is_scope, by_top, exit_stays, exit_rows, left_alters, exit_others}

-- a scope that is left and stays open, and one that is left for the last time
abbrev lowered : Area → Area
lowered x = with_count x (pred x.count)

abbrev shut : Area → Area
shut x = with_parent (with_used (lowered x) 0) 0 0

left_more : (x : Area) → 1 < x.count → left x ≡ lowered x
left_more x h = rw (lt-leb x.count 1 h)

left_last : (x : Area) → x.count ≤ 1 → left x ≡ shut x
left_last x h = rw (le-leb x.count 1 h)

module _ (s : State) (t : ℕ) (g : Good s) (ok : ExitOk s t) where
  -- ---- the top

  pub top_area : current_at s t < 64
  top_area = current_area s g t ok.called.thread

  top_open : 2 ≤ current_at s t → 0 < (area_at s (current_at s t)).count
  top_open = current_open s g t ok.called.thread

  exit_scope_area : 2 ≤ current_at s t → area_at (exit_state s t) (current_at s t) ≡ left (area_at s (current_at s t))
  exit_scope_area h = (left_alters s t g.areas top_area h).here

  others : (a : ℕ) → a ≢ current_at s t → Untouched s (exit_state s t) a
  others = exit_others s t g.areas top_area

  -- where its count stays above 0, and where it was left for the last time
  pub exit_more_area : 2 ≤ current_at s t → 1 < (area_at s (current_at s t)).count → area_at (exit_state s t) (current_at s t) ≡ lowered (area_at s (current_at s t))
  exit_more_area h o = exit_scope_area h ∙ left_more (area_at s (current_at s t)) o

  pub exit_last_area : 2 ≤ current_at s t → (area_at s (current_at s t)).count ≤ 1 → area_at (exit_state s t) (current_at s t) ≡ shut (area_at s (current_at s t))
  exit_last_area h o = exit_scope_area h ∙ left_last (area_at s (current_at s t)) o

  -- ---- the thread and the stacks

  exit_threads : (exit_state s t).threads ≡ set s.threads t (popped (thread_at s t))
  unfolding with_thread with_area
  exit_threads = by_top s t (λ h. ap (λ (r : State). r.threads) (exit_is_low s t h)) (λ h. ap (λ (r : State). r.threads) (exit_is_scope s t h))

  pub exit_thread_other : (u : ℕ) → u ≢ t → thread_at (exit_state s t) u ≡ thread_at s u
  unfolding with_thread
  exit_thread_other u ne = ap (λ (l : List Thread). get_or l u no_thread) exit_threads ∙ thread_other s t (popped (thread_at s t)) u ne

  pub exit_thread : thread_at (exit_state s t) t ≡ popped (thread_at s t)
  unfolding with_thread
  exit_thread = ap (λ (l : List Thread). get_or l t no_thread) exit_threads ∙ thread_same s t (popped (thread_at s t)) (omega (arith, g.threads.size, ok.called.thread))

  -- the stack is the top and what is left
  pub pop_is : get_or (stacks_in s) t [] ≡ current_at s t ∷ entries_of (popped (thread_at s t))
  pop_is = stack_is s t ∙ stack_pop (thread_at s t) ok.some

  pub exit_stacks : stacks_in (exit_state s t) ≡ set (stacks_in s) t (entries_of (popped (thread_at s t)))
  exit_stacks = ap (map entries_of) exit_threads ∙ map_set entries_of s.threads t (popped (thread_at s t))

  -- ---- the nesting

  low_nesting : current_at s t < 2 → NestingIn (exit_state s t)
  low_nesting h =
      nesting_same
      (exit_low g.nesting t ok.called.thread (current_at s t) _ pop_is h)
      (λ a. seen ((exit_stays s t h).all a))
      (λ a. ap (λ (x : Area). x.count) ((exit_stays s t h).all a).area)
      exit_stacks

  scope_nesting : 2 ≤ current_at s t → NestingIn (exit_state s t)
  scope_nesting h = rw exit_stacks
      (exit_scope g.nesting t ok.called.thread (current_at s t) _ pop_is _ _ _ h
      (ap (λ (x : Area). suc x.count) (exit_scope_area h) ∙ less, λ a ne. ap (λ (x : Area). x.count) (others a ne).area)
      (λ a ne. seen (others a ne))
      (λ o. still (more (rw (exit_scope_area h) at o))))
    where
      less : suc (pred (area_at s (current_at s t)).count) ≡ (area_at s (current_at s t)).count
      less = omega (arith, top_open h)

      more : 0 < pred (area_at s (current_at s t)).count → 1 < (area_at s (current_at s t)).count
      more o = omega arith

      still : 1 < (area_at s (current_at s t)).count
          → (parent_in (exit_state s t) (current_at s t) ≡ parent_in s (current_at s t)) × (display_at (exit_state s t) (current_at s t) ≡ display_at s (current_at s t))
      still o =
          let e : area_at (exit_state s t) (current_at s t) ≡ lowered (area_at s (current_at s t)) = exit_more_area h o in
          (ap (λ (x : Area). x.parent) e, display_same s (exit_state s t) (current_at s t) (ap (λ (x : Area). x.depth) e) (exit_rows s t (current_at s t)))

  -- ---- the whole

  exited_thread : (r : State) → GoodWith s r → GoodWith s (with_thread r t (popped (thread_at s t)))
  exited_thread r k = good_thread r k t (popped (thread_at s t)) (popped_good (thread_at s t) (g.threads.each t ok.called.thread))

  scope_good : 2 ≤ current_at s t → GoodWith s (exit_state s t)
  scope_good h = rw (exit_is_scope s t h) (exited_thread (with_area s (current_at s t) (left x))
      (good_area s g (current_at s t) (left x) top_area (λ l. absurd (omega arith)) (λ l. scope)
      (record { start = refl; size = refl; used = fits })))
    where
      x : Area
      x = area_at s (current_at s t)

      old : ScopeGood x
      old = g.scopes (current_at s t) h top_area

      fits : (left x).used ≤ x.size
      fits = cases (leb x.count 1) (λ e. rw e (omega arith)) (λ e. rw e (g.placed.used (current_at s t) top_area))

      last : pred x.count ≡ 0 → leb x.count 1 ≡ true
      last z = le-leb x.count 1 (omega arith)

      scope : ScopeGood (left x)
      scope = record {
        generation = old.generation;
        made = λ l. old.made (top_open h);
        begun = λ l. old.begun (top_open h);
        no_parent = λ z. rw (last z);
        no_words = λ z. rw (last z);
        no_depth = λ z. rw (last z);
      }

  pub good_exit : Good (exit_state s t)
  good_exit =
      by_top s t
      (λ h. nested_good {n = s} (rw (exit_is_low s t h) (exited_thread s g)) (low_nesting h))
      (λ h. nested_good (scope_good h) (scope_nesting h))
