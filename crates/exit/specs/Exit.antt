-- Op 05: one law for each way that its checks end, and what it leaves.
-- Assumes nothing.
use Rattle.std.specs.Prelude.{◌≡◌, ◌≢◌, List, ℕ, pred, ◌-◌, ◌≤◌, ◌<◌, leb}
use Rattle.std.proofs.Math.Path.{refl, ap, sym}
use Rattle.std.proofs.Common.{◌∙◌, arith, sub-one}
use borrow.Author.Tests.{le-leb, lt-leb, eq-eqb, ne_eqb}
use Rattle.layout.specs.Choice.{hit, skip, pick, cases}
use Rattle.model.specs.declared.Area.{Area}
use Rattle.model.specs.State.{State, area_at, thread_at, with_area, with_thread, stack_at, current, is_scope}
use Rattle.model.specs.Checks.{called}
use Rattle.model.specs.Scopes.{exit_rest, left, left_area, popped, exit_state, exit_value}
use Rattle.model.specs.Invariant.{Good}
use Rattle.model.proofs.Accepted.{Called, ExitOk, exit_ok}
use Rattle.tables.specs.declared.ThreadWords.{ThreadWords}
use Rattle.tables.specs.Decode.{state_of, area_record, put_area, thread_record, put_thread, Shaped, Holds}
use Rattle.tables.proofs.Laws.{area_read, kind_read, len_read, state_area, state_thread}
use Rattle.callers.specs.Caller.{no_thread_lem, started, thread_refused, called_rest}

module _ (s : State) (t : ℕ) where
  pub exit_no_thread : 16 ≤ t → 2 ≡ exit_rest s t
  unfolding exit_rest
  exit_no_thread h = no_thread_lem s t _ h

  pub exit_not_called : {n : ℕ} → n ≡ called s t 0 → n ≢ 0 → n ≡ exit_rest s t
  unfolding exit_rest
  exit_not_called e h = thread_refused s t e h _

  module _ (a : Called s t) where
    pub exit_empty : (thread_at s t).len ≡ 0 → 11 ≡ exit_rest s t
    unfolding exit_rest
    exit_empty h = sym (called_rest s t a _ ∙ hit _ 11 0 (eq-eqb (thread_at s t).len 0 h))

  -- a thread with entries is started
  pub exit_accepted : Good s → t < 16 → 0 < (thread_at s t).len → 0 ≡ exit_rest s t
  unfolding exit_rest
  exit_accepted g h n =
      let empty = (g.threads.each t h).idle in
      sym (skip _ 11 0 (ne_eqb (thread_at s t).len 0 (λ z. omega (arith, n)))) ∙ started s t _ h (λ z. omega (arith, n, empty z))

  -- n is what check_exit answers
  pub exit_passed : {n : ℕ} → n ≡ exit_rest s t → n ≡ 0 → ExitOk s t
  exit_passed e z = exit_ok s t (sym e ∙ z)

-- ---- the area

pub left_more : (x : Area) → 1 < x.count
    → record { start = x.start; size = x.size; used = x.used; generation = x.generation; count = x.count - 1; parent = x.parent; depth = x.depth } ≡ left x
left_more x h = rw (sub-one x.count, lt-leb x.count 1 h) refl

pub left_last : (x : Area) → x.count ≡ 1
    → record { start = x.start; size = x.size; used = 0; generation = x.generation; count = 0; parent = 0; depth = 0 } ≡ left x
left_last x h = rw h refl

module _ (w b : List ℕ) (z : Shaped w b) (q : ℕ) where
  pub left_standing : q < 2 → Holds w b (left_area (state_of w b) q)
  unfolding left_area
  left_standing h = record { sized = z; state = rw (lt-leb 2 q h) refl }

  pub left_scope : q < 64 → 2 ≤ q → Holds (put_area w q (left (area_record w q))) b (left_area (state_of w b) q)
  unfolding left_area
  left_scope k h =
      let a = state_area w b q (left (area_record w q)) k z in
      record { sized = a.sized; state = a.state ∙ rw (area_read w b q k, le-leb 2 q h) refl }

  pub count_standing : q < 2 → 0 ≡ pick (is_scope q) (pred (area_at (state_of w b) q).count) 0
  count_standing h = rw (lt-leb 2 q h) refl

  pub count_scope : q < 64 → 2 ≤ q → (left (area_record w q)).count ≡ pick (is_scope q) (pred (area_at (state_of w b) q).count) 0
  count_scope k h = rw (area_read w b q k, le-leb 2 q h) refl

-- a scope that is left is open, from its record in the words
pub left_open : (w b : List ℕ) (q : ℕ) → q < 64 → (2 ≤ q → 0 < (area_at (state_of w b) q).count) → 2 ≤ q → 0 < (area_record w q).count
left_open w b q k o h = rw (area_read w b q k) at (o h)

-- ---- the stack

-- x are the words of the thread
pub popped_holds : (w b : List ℕ) → Shaped w b → (t : ℕ) {x : ThreadWords} → t < 16 → x ≡ thread_record w t
    → Holds (put_thread w t (record { kind = x.kind; len = x.len - 1 })) b (with_thread (state_of w b) t (popped (thread_at (state_of w b) t)))
unfolding popped
popped_holds w b z t {x} h e = rw (kind_read w b t h e, len_read w b t h e, sub-one x.len) (state_thread w b t _ h z)

-- ---- the stack, then the area: v are the words after the stack, whose top was an entry of area q

module _ (w b : List ℕ) (t q : ℕ) {v : List ℕ} (a : Holds v b (with_thread (state_of w b) t (popped (thread_at (state_of w b) t)))) (e : q ≡ current (stack_at (state_of w b) t)) where
  popped_area : area_at (state_of v b) q ≡ area_at (state_of w b) (current (stack_at (state_of w b) t))
  unfolding with_thread
  popped_area = ap (λ (s : State). area_at s q) a.state ∙ ap (area_at (state_of w b)) e

  -- a scope that is left is open
  pub popped_open : (2 ≤ current (stack_at (state_of w b) t) → 0 < (area_at (state_of w b) (current (stack_at (state_of w b) t))).count)
      → 2 ≤ q → 0 < (area_at (state_of v b) q).count
  popped_open o h = rw popped_area (o (rw (← e) h))

  pub exited_holds : {v' : List ℕ} → Holds v' b (left_area (state_of v b) q) → Holds v' b (exit_state (state_of w b) t)
  unfolding exit_state left_area with_area with_thread
  exited_holds k = record {
    sized = k.sized;
    state =
        k.state
        ∙ ap (λ (s : State). left_area s q) a.state
        ∙ rw (← e) (cases (leb 2 q) (λ f. rw f refl) (λ f. rw f refl));
  }

  pub exited_value : {n : ℕ} → n ≡ pick (is_scope q) (pred (area_at (state_of v b) q).count) 0 → n ≡ exit_value (state_of w b) t
  unfolding exit_value
  exited_value f = f ∙ rw (popped_area, e) refl
