-- Ops 01 and 02 keep the invariant.
-- Assumes nothing.
use Prim.Native.Nat.{ℕ, ◌<◌}
use mathlib.Core.Path.{◌≡◌, refl}
use native.Mathlib.Omega.{arith}
use lib.Seq.{map-set_same}
use Rattle.model.specs.State.{State, no_thread, thread_at, with_kind, with_thread, entries_of, display_at}
use Rattle.model.specs.Threads.{start_state, end_state}
use Rattle.model.specs.Invariant.{ThreadGood, stacks_in, Good}
use Rattle.model.proofs.Accepted.{StartOk, EndOk}
use Rattle.model.proofs.Parts.{nesting_same, nested_good, good_thread}

module _ (s : State) (t : ℕ) where
  -- a thread's kind is no part of its stack
  kind_stacks : (k : ℕ) → stacks_in (with_thread s t (with_kind (thread_at s t) k)) ≡ stacks_in s
  unfolding with_thread entries_of
  kind_stacks k = map-set_same entries_of s.threads t (with_kind (thread_at s t) k) no_thread refl

  module _ (g : Good s) (h : t < 16) where
    -- a thread with no entries becomes of another kind
    good_kind : (thread_at s t).len ≡ 0 → (k : ℕ) → k < 4 → Good (with_thread s t (with_kind (thread_at s t) k))
    unfolding with_thread display_at
    good_kind z k l = nested_good
        (good_thread s g t (with_kind (thread_at s t) k) thread)
        (nesting_same g.nesting (λ a. (refl, refl)) (λ a. refl) (kind_stacks k))
      where
        old : ThreadGood (thread_at s t)
        old = g.threads.each t h

        thread : ThreadGood (with_kind (thread_at s t) k)
        thread = record { kind = l; idle = λ e. z; room = old.room; inner_room = old.inner_room; fits = old.fits; areas = old.areas; inner_is = old.inner_is }

-- a thread that is not started has no entries
pub idle_empty : (s : State) (t p : ℕ) → Good s → StartOk s t p → (thread_at s t).len ≡ 0
idle_empty s t p g ok = (g.threads.each t ok.thread).idle ok.idle

pub good_start : (s : State) (t p : ℕ) → Good s → StartOk s t p → Good (start_state s t p)
unfolding start_state
good_start s t p g ok = good_kind s t g ok.thread (idle_empty s t p g ok) p ok.kind

pub good_end : (s : State) (t : ℕ) → Good s → EndOk s t → Good (end_state s t)
unfolding end_state
good_end s t g ok = good_kind s t g ok.called.thread ok.empty 0 (omega arith)
