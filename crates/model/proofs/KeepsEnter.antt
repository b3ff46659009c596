-- Op 04 keeps the invariant; the threads and the stacks after an entry.
-- Assumes nothing.
use Prim.Native.Nat.{ℕ, suc, ◌≤◌, ◌<◌}
use mathlib.Core.Bool.{true}
use mathlib.Core.List.{List, [], ◌∷◌, map}
use mathlib.Core.Path.{◌≡◌, refl, sym, ap, ◌∙◌}
use mathlib.Core.Logic.{◌≢◌, ⊎_elim}
use lib.ListN.{length, get_or, set, length-set}
use lib.Dec.{eqb, ltb}
use native.Mathlib.Omega.{arith}
use borrow.Author.Tests.{ltb-true, eqb-true, eqb-false}
use Rattle.layout.specs.Choice.{cases, or_true}
use Rattle.layout.specs.StackLaws.{length_down, down_push}
use Rattle.model.specs.declared.Area.{Area}
use Rattle.model.specs.State.{Thread, State, no_thread, area_at, row_at, thread_at, with_area, with_row, with_thread, entries_of, stack_at, innermost, is_made, display_at}
use Rattle.model.specs.Scopes.{reentered, pushed, enter_state}
use Rattle.model.specs.Invariant.{branch_of, ThreadGood, ScopeGood, stacks_in, NestingIn, GoodWith, Good}
use Rattle.model.proofs.Accepted.{EnterOk}
use Rattle.model.proofs.Lists.{scopes_order, order_length, map_set}
use Rattle.model.proofs.Nesting.{enter_low, enter_open, enter_fresh}
use Rattle.model.proofs.Parts.{thread_same, thread_other, stack_is, inner_is, display_same, Untouched, seen, nesting_same, nested_good, good_thread, good_row, good_area}
use Rattle.model.proofs.Stacks.{length_stack, stack_push, pushed_good}
use Rattle.model.proofs.Bounds.{by_area, inner_area, inner_display}
use Rattle.model.proofs.Alters.{Alters, enter_is_low, enter_is_open, fresh_row, fresh_area, enter_is_fresh, enter_stays, open_rows, fresh_row_lem, open_alters, fresh_alters, enter_others}

-- a scope that is made has words
made_size : (s : State) (q : ℕ) → is_made s q ≡ true → 2 ≤ q → 0 < (area_at s q).size
unfolding is_made
made_size s q e h =
    ⊎_elim
    (λ d. absurd (omega (arith, ltb-true q 2 d)))
    (λ d. ltb-true 0 (area_at s q).size d)
    (or_true (ltb q 2) (ltb 0 (area_at s q).size) e)

-- a scope that is open, with one entry more
pub reentered_good : (s : State) (q : ℕ) {n : State} → GoodWith n s → 2 ≤ q → q < 64 → 0 < (area_at s q).count → GoodWith n (with_area s q (reentered (area_at s q)))
reentered_good s q g h k o =
    good_area s g q (reentered (area_at s q)) k (λ l. absurd (omega arith)) (λ l. scope)
    (record { start = refl; size = refl; used = g.placed.used q k })
  where
    old : ScopeGood (area_at s q)
    old = g.scopes q h k

    scope : ScopeGood (reentered (area_at s q))
    scope = record {
      generation = old.generation;
      made = λ l. old.made o;
      begun = λ l. old.begun o;
      no_parent = λ z. absurd (omega arith);
      no_words = λ z. absurd (omega arith);
      no_depth = λ z. absurd (omega arith);
    }

module _ (s : State) (t q : ℕ) (g : Good s) (ok : EnterOk s t q) where
  -- ---- the thread and the stacks

  enter_threads : (enter_state s t q).threads ≡ set s.threads t (pushed (thread_at s t) q)
  unfolding with_thread with_area with_row
  enter_threads =
      by_area s q
      (λ h. ap (λ (r : State). r.threads) (enter_is_low s t q h))
      (λ h z. ap (λ (r : State). r.threads) (enter_is_fresh s t q h z))
      (λ h o. ap (λ (r : State). r.threads) (enter_is_open s t q h o))

  pub enter_thread : thread_at (enter_state s t q) t ≡ pushed (thread_at s t) q
  unfolding with_thread
  enter_thread = ap (λ (l : List Thread). get_or l t no_thread) enter_threads ∙ thread_same s t (pushed (thread_at s t) q) (omega (arith, g.threads.size, ok.called.thread))

  pub enter_thread_other : (u : ℕ) → u ≢ t → thread_at (enter_state s t q) u ≡ thread_at s u
  unfolding with_thread
  enter_thread_other u ne = ap (λ (l : List Thread). get_or l u no_thread) enter_threads ∙ thread_other s t (pushed (thread_at s t) q) u ne

  thread : ThreadGood (thread_at s t)
  thread = g.threads.each t ok.called.thread

  pub enter_stacks : stacks_in (enter_state s t q) ≡ set (stacks_in s) t (q ∷ get_or (stacks_in s) t [])
  enter_stacks =
      ap (map entries_of) enter_threads
      ∙ map_set entries_of s.threads t (pushed (thread_at s t) q)
      ∙ ap (set (stacks_in s) t) (stack_push (thread_at s t) thread q ok.room ∙ ap (λ (l : List ℕ). q ∷ l) (sym (stack_is s t)))

  -- the innermost scope is no deeper than the stack is high
  pub inner_depth : (area_at s (innermost (stack_at s t))).depth < 32
  unfolding display_at
  inner_depth = omega (
    arith,
    ok.room,
    ap length (inner_display s g t ok.called.thread),
    length_down (row_at s (innermost (stack_at s t))) (area_at s (innermost (stack_at s t))).depth,
    order_length (scopes_order (get_or (stacks_in s) t [])),
    ap length (stack_is s t),
    length_stack (thread_at s t),
  )

  inner_row : length (row_at s (innermost (stack_at s t))) ≡ 32
  inner_row = g.rows.each (innermost (stack_at s t)) (inner_area s g t ok.called.thread)

  fresh_length : length (fresh_row s t q) ≡ 32
  fresh_length = length-set (row_at s (innermost (stack_at s t))) (area_at s (innermost (stack_at s t))).depth q ∙ inner_row

  -- ---- the area

  open_to : 2 ≤ q → 0 < (area_at s q).count → Alters s (enter_state s t q) q (reentered (area_at s q))
  open_to = open_alters s t q g.areas ok.area

  fresh_to : 2 ≤ q → (area_at s q).count ≡ 0 → Alters s (enter_state s t q) q (fresh_area s t q)
  fresh_to = fresh_alters s t q g.areas ok.area

  others : (a : ℕ) → a ≢ q → Untouched s (enter_state s t q) a
  others = enter_others s t q g.areas ok.area

  -- the display of a scope that opens
  fresh_display : 2 ≤ q → (area_at s q).count ≡ 0 → display_at (enter_state s t q) q ≡ q ∷ branch_of (get_or (stacks_in s) t [])
  unfolding display_at
  fresh_display h z = rw ((fresh_to h z).here, fresh_row_lem s t q h z (omega (arith, g.rows.size, ok.area)))
      (down_push (row_at s (innermost (stack_at s t))) (area_at s (innermost (stack_at s t))).depth q (omega (arith, inner_depth, inner_row))
      ∙ ap (λ (l : List ℕ). q ∷ l) (inner_display s g t ok.called.thread))

  -- ---- the nesting

  low_nesting : q < 2 → NestingIn (enter_state s t q)
  low_nesting h =
      nesting_same
      (enter_low g.nesting t ok.called.thread q h)
      (λ a. seen ((enter_stays s t q h).all a))
      (λ a. ap (λ (x : Area). x.count) ((enter_stays s t q h).all a).area)
      enter_stacks

  open_nesting : 2 ≤ q → 0 < (area_at s q).count → NestingIn (enter_state s t q)
  open_nesting h o = rw enter_stacks
      (enter_open g.nesting t ok.called.thread q _ _ _ h ok.area o (ok.parent h o ∙ inner_is s t)
      (ap (λ (x : Area). x.count) here, λ a ne. ap (λ (x : Area). x.count) (others a ne).area)
      (λ a. cases (eqb a q)
      (λ e. rw (eqb-true a q e) (ap (λ (x : Area). x.parent) here, display_same s (enter_state s t q) q (ap (λ (x : Area). x.depth) here) (open_rows s t q h o q)))
      (λ e. seen (others a (eqb-false a q e)))))
    where
      here : area_at (enter_state s t q) q ≡ reentered (area_at s q)
      here = (open_to h o).here

  fresh_nesting : 2 ≤ q → (area_at s q).count ≡ 0 → NestingIn (enter_state s t q)
  fresh_nesting h z = rw enter_stacks
      (enter_fresh g.nesting t ok.called.thread q _ _ _ h ok.area z
      (ap (λ (x : Area). x.parent) here ∙ inner_is s t)
      (fresh_display h z)
      (ap (λ (x : Area). x.count) here ∙ ap suc (sym z), λ a ne. ap (λ (x : Area). x.count) (others a ne).area)
      (λ a ne. seen (others a ne)))
    where
      here : area_at (enter_state s t q) q ≡ fresh_area s t q
      here = (fresh_to h z).here

  -- ---- the whole

  entered_thread : (r : State) → GoodWith s r → GoodWith s (with_thread r t (pushed (thread_at s t) q))
  entered_thread r k = good_thread r k t (pushed (thread_at s t) q) (pushed_good (thread_at s t) thread q ok.room ok.area ok.called.started)

  open_good : 2 ≤ q → 0 < (area_at s q).count → GoodWith s (enter_state s t q)
  open_good h o = rw (enter_is_open s t q h o) (entered_thread (with_area s q (reentered (area_at s q))) (reentered_good s q g h ok.area o))

  fresh_good : 2 ≤ q → (area_at s q).count ≡ 0 → GoodWith s (enter_state s t q)
  unfolding with_row
  fresh_good h z = rw (enter_is_fresh s t q h z) (entered_thread (with_area (with_row s q row) q (fresh_area s t q))
      (good_area (with_row s q row) (good_row s g q row fresh_length) q (fresh_area s t q) ok.area (λ l. absurd (omega arith)) (λ l. scope)
      (record { start = refl; size = refl; used = omega arith })))
    where
      row : List ℕ
      row = fresh_row s t q

      scope : ScopeGood (fresh_area s t q)
      scope = record {
        generation = ok.generation h z;
        made = λ l. made_size s q ok.made h;
        begun = λ l. omega arith;
        no_parent = λ e. absurd (omega arith);
        no_words = λ e. refl;
        no_depth = λ e. absurd (omega arith);
      }

  pub good_enter : Good (enter_state s t q)
  good_enter =
      by_area s q
      (λ h. nested_good {n = s} (rw (enter_is_low s t q h) (entered_thread s g)) (low_nesting h))
      (λ h z. nested_good (fresh_good h z) (fresh_nesting h z))
      (λ h o. nested_good (open_good h o) (open_nesting h o))
