-- Starting and ending a thread, making and removing a scope, entering and leaving an area and starting a helper keep a sound memory.
-- Assumes nothing.
use Prim.Native.Nat.{ℕ, suc, pred, ◌≤◌, ◌<◌}
use mathlib.Core.Bool.{true, false}
use mathlib.Core.List.{List, [], ◌∷◌, ◌++◌}
use mathlib.Core.Path.{◌≡◌, refl, sym, ap, ◌∙◌}
use lib.ListN.{set}
use native.Mathlib.Omega.{arith}
use borrow.Author.Tests.{le-leb, lt-leb, eq-eqb, ne_eqb}
use Rattle.model.specs.declared.Area.{Area}
use Rattle.model.specs.State.{State, Memory, area_at, thread_at, entries_of, stack_at, current}
use Rattle.model.specs.Blocks.{room_for}
use Rattle.model.specs.Threads.{start_state, end_state}
use Rattle.model.specs.Scopes.{made_area, make_state, reentered, enter_state, left, popped, exit_state}
use Rattle.model.specs.Helpers.{helper_state}
use Rattle.model.specs.Removal.{removed_area, remove_state}
use Rattle.model.specs.History.{History, thread_row, total, handles, put_at, is_scope_on_none, history_thread, history_start, history_helper, history_size, history_enter, history_exit}
use Rattle.model.specs.Invariant.{count_in, Good}
use Rattle.model.proofs.Accepted.{MakeOk, RemoveOk, EnterOk, ExitOk, HelperOk}
use Rattle.model.proofs.Sound.{Same, Sound}
use Rattle.model.proofs.Parts.{display_same}
use Rattle.model.proofs.Bounds.{by_area, current_area}
use Rattle.model.proofs.Agrees.{row_top, left_count}
use Rattle.model.proofs.KeepsHelper.{helper_counts, helper_closed}
use Rattle.model.proofs.Alters.{Stays, Alters, Raises, start_stays, end_stays, make_alters, make_rows, remove_alters, remove_rows, fresh_area, enter_stays, open_rows, open_alters, fresh_alters, by_left, exit_stays, exit_rows, left_alters}
use Rattle.model.proofs.MemoryKept.{Moved, Still, moved_same, still_same, moved_all, still_all, count_all, sound_still, sound_opens, sound_shuts}

module _ (s : State) (m : Memory) (b : History) (o : Sound s m b) where
  -- no area is touched, and no object
  pub stays_sound : (n : State) (c : History) → Good n → Same n c → Stays s n → c.objects ≡ b.objects → c.gone ≡ b.gone → Sound n m c
  stays_sound n c g i k eo eg = sound_still s m b o n c g i k.lengths (λ a. moved_same (k.all a)) eo eg
      (λ a. still_same (k.all a)) (λ a z. sym (ap (λ (x : Area). x.count) (k.all a).area) ∙ z)

  pub sound_start : (t p : ℕ) → Good (start_state s t p) → Same (start_state s t p) (history_start b t p) → Sound (start_state s t p) m (history_start b t p)
  unfolding history_thread
  sound_start t p g i = stays_sound (start_state s t p) (history_start b t p) g i (start_stays s t p) refl refl

  pub sound_end : (t : ℕ) → Good (end_state s t) → Same (end_state s t) (history_start b t 0) → Sound (end_state s t) m (history_start b t 0)
  unfolding history_thread
  sound_end t g i = stays_sound (end_state s t) (history_start b t 0) g i (end_stays s t) refl refl

  -- an area of no words has none used, so it may lie elsewhere
  pub sound_make : (t q r : ℕ) → MakeOk s t q r → Good (make_state s q r) → Same (make_state s q r) (history_size b q r) → Sound (make_state s q r) m (history_size b q r)
  unfolding history_size
  sound_make t q r k g i = sound_still s m b o (make_state s q r) (history_size b q r) g i to.lengths (moved_all to moves) refl refl
      (still_all to (make_rows s q r) refl refl refl) (count_all to (λ z. z))
    where
      to : Alters s (make_state s q r) q (made_area (area_at s q) (room_for s r) r)
      to = make_alters s o.good.areas q k.area r

      moves : Moved (area_at s q) (made_area (area_at s q) (room_for s r) r)
      moves = record {
        start = λ p. absurd (omega (arith, k.unmade, o.good.placed.used q k.area));
        later = omega arith;
        fresh = λ p z. absurd (omega arith);
      }

  -- nor has a scope that is not open
  pub sound_remove : (t q : ℕ) → RemoveOk s t q → Good (remove_state s q) → Same (remove_state s q) (history_size b q 0) → Sound (remove_state s q) m (history_size b q 0)
  unfolding history_size
  sound_remove t q k g i = sound_still s m b o (remove_state s q) (history_size b q 0) g i to.lengths (moved_all to moves) refl refl
      (still_all to (remove_rows s q) refl refl refl) (count_all to (λ z. z))
    where
      to : Alters s (remove_state s q) q (removed_area (area_at s q))
      to = remove_alters s o.good.areas q k.area

      moves : Moved (area_at s q) (removed_area (area_at s q))
      moves = record {
        start = λ p. absurd (omega (arith, (o.good.scopes q k.scope k.area).no_words k.closed));
        later = omega arith;
        fresh = λ p z. absurd (omega arith);
      }

  module _ (t q : ℕ) (k : EnterOk s t q) (g : Good (enter_state s t q)) (i : Same (enter_state s t q) (history_enter b t q)) where
    objects_same : (history_enter b t q).objects ≡ b.objects
    unfolding history_enter
    objects_same = refl

    gone_same : (history_enter b t q).gone ≡ b.gone
    unfolding history_enter
    gone_same = refl

    sound_open : 2 ≤ q → 0 < count_in s q → Sound (enter_state s t q) m (history_enter b t q)
    sound_open h c = sound_still s m b o (enter_state s t q) (history_enter b t q) g i to.lengths
        (moved_all to record { start = λ p. refl; later = omega arith; fresh = λ p z. absurd (omega arith) }) objects_same gone_same
        (still_all to (open_rows s t q h c) refl refl refl) (count_all to (λ z. absurd (omega arith)))
      where
        to : Alters s (enter_state s t q) q (reentered (area_at s q))
        to = open_alters s t q o.good.areas k.area h c

    sound_fresh : 2 ≤ q → count_in s q ≡ 0 → Sound (enter_state s t q) m (history_enter b t q)
    sound_fresh h c = sound_opens s m b o (enter_state s t q) (history_enter b t q) g i to.lengths
        (moved_all to record { start = λ p. refl; later = omega arith; fresh = λ p z. omega arith }) objects_same gone_same
        q h k.area c (ap (λ (x : Area). x.used) to.here) to.others
      where
        to : Alters s (enter_state s t q) q (fresh_area s t q)
        to = fresh_alters s t q o.good.areas k.area h c

    pub sound_enter : Sound (enter_state s t q) m (history_enter b t q)
    sound_enter = by_area s q
        (λ h. stays_sound (enter_state s t q) (history_enter b t q) g i (enter_stays s t q h) objects_same gone_same)
        sound_fresh
        sound_open

  module _ (t : ℕ) (k : ExitOk s t) (g : Good (exit_state s t)) (i : Same (exit_state s t) (history_exit b t)) where
    abbrev top : ℕ
    top = current (stack_at s t)

    abbrev rest : List (List ℕ)
    rest = set b.rows t (entries_of (popped (thread_at s t)))

    row : thread_row b t ≡ top ∷ entries_of (popped (thread_at s t))
    row = row_top s t o.good k b o.same

    area : top < 64
    area = current_area s o.good t k.called.thread

    -- what the history does where the top is on no row then, and where it is
    history_drops : is_scope_on_none top rest ≡ true → ((history_exit b t).objects ≡ put_at b.objects top []) × ((history_exit b t).gone ≡ handles (b.objects top) ++ b.gone)
    unfolding history_exit
    history_drops e = (rw (row, e), rw (row, e))

    history_keeps : is_scope_on_none top rest ≡ false → ((history_exit b t).objects ≡ b.objects) × ((history_exit b t).gone ≡ b.gone)
    unfolding history_exit
    history_keeps e = (rw (row, e), rw (row, e))

    sound_low : top < 2 → Sound (exit_state s t) m (history_exit b t)
    sound_low h =
        let y = history_keeps (rw (lt-leb 2 top h)) in
        stays_sound (exit_state s t) (history_exit b t) g i (exit_stays s t h) y.0 y.1

    module _ (h : 2 ≤ top) where
      count : suc (total top rest) ≡ count_in s top
      count = left_count s t o.good k b o.same h

      to : Alters s (exit_state s t) top (left (area_at s top))
      to = left_alters s t o.good.areas area h

      moves : (a : ℕ) → Moved (area_at s a) (area_at (exit_state s t) a)
      moves = moved_all to record { start = λ p. refl; later = omega arith; fresh = λ p z. absurd (omega (arith, count)) }

      -- other entries are left
      sound_more : 1 < count_in s top → Sound (exit_state s t) m (history_exit b t)
      sound_more c =
          let y = history_keeps (rw (le-leb 2 top h) (ne_eqb (total top rest) 0 (λ z. omega (arith, count)))) in
          sound_still s m b o (exit_state s t) (history_exit b t) g i to.lengths moves y.0 y.1
          (still_all to (exit_rows s t) (rw (lt-leb (count_in s top) 1 c)) refl (rw (lt-leb (count_in s top) 1 c)))
          (count_all to (λ z. absurd (more z)))
        where
          more : pred (count_in s top) ≡ 0 → ⊥
          more z = omega arith

      -- the last entry is left
      sound_last : count_in s top ≤ 1 → Sound (exit_state s t) m (history_exit b t)
      sound_last c =
          let y = history_drops (rw (le-leb 2 top h) (eq-eqb (total top rest) 0 (omega (arith, count)))) in
          sound_shuts s m b o (exit_state s t) (history_exit b t) g i to.lengths moves top h area
          (ap (λ (x : Area). x.count) to.here ∙ none)
          (ap (λ (x : Area). x.used) to.here ∙ rw (le-leb (count_in s top) 1 c))
          to.others y.0 y.1
        where
          none : pred (count_in s top) ≡ 0
          none = omega arith

    pub sound_exit : Sound (exit_state s t) m (history_exit b t)
    sound_exit = by_left s t sound_low sound_last sound_more

  -- counts of open scopes rise, and nothing else of an area changes
  pub sound_helper : (t p q : ℕ) → HelperOk s t p q → Good (helper_state s t p q) → Same (helper_state s t p q) (history_helper b t p q)
      → Sound (helper_state s t p q) m (history_helper b t p q)
  unfolding history_thread
  sound_helper t p q k g i = sound_still s m b o (helper_state s t p q) (history_helper b t p q) g i to.lengths moves refl refl still
      (λ a z. (helper_closed s t p q o.good k a).1 z)
    where
      to : Raises s (helper_state s t p q) (stack_at s t)
      to = helper_counts s t p q o.good k

      moves : (a : ℕ) → Moved (area_at s a) (area_at (helper_state s t p q) a)
      moves a = record {
        start = λ u. ap (λ (x : Area). x.start) (to.areas a);
        later = omega (arith, ap (λ (x : Area). x.generation) (to.areas a));
        fresh = λ u z. absurd (omega (arith, (helper_closed s t p q o.good k a).0 z));
      }

      still : (a : ℕ) → Still s (helper_state s t p q) a
      still a = record {
        used = ap (λ (x : Area). x.used) (to.areas a);
        generation = ap (λ (x : Area). x.generation) (to.areas a);
        display = display_same s (helper_state s t p q) a (ap (λ (x : Area). x.depth) (to.areas a)) (to.rows a);
      }
