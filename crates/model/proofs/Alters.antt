-- What each call does to the areas, the rows and the lengths of a state: none of the areas, or one, is altered, or the counts of several.
-- Assumes nothing.
use Prim.Native.Nat.{ℕ, suc, ◌+◌, ◌≤◌, ◌<◌}
use mathlib.Core.List.{List, [], ◌∷◌}
use mathlib.Core.Path.{◌≡◌, refl, sym, ap, ◌∙◌}
use mathlib.Core.Logic.{◌≢◌}
use lib.ListN.{length, length-set}
use lib.Dec.{eqb, leb}
use native.Mathlib.Omega.{arith}
use borrow.Author.Tests.{eqb-true, eqb-false, leb-true, leb-false, le-leb, lt-leb, lt-ltb, le-ltb}
use Rattle.layout.specs.Choice.{cases}
use Rattle.layout.specs.Display.{extended_row}
use Rattle.model.specs.declared.Area.{Area}
use Rattle.model.specs.State.{Thread, State, area_at, row_at, thread_at, with_count, with_kind, with_area, with_row, with_thread, with_used_bits, stack_at, innermost}
use Rattle.model.specs.Blocks.{room_for, with_used_blocks, with_free_blocks}
use Rattle.model.specs.Threads.{start_state, end_state}
use Rattle.model.specs.Scopes.{made_area, make_state, reentered, opened, entered_area, pushed, enter_state, left, left_area, popped, exit_state}
use Rattle.model.specs.Helpers.{raised_area, raised, helper_state}
use Rattle.model.specs.Removal.{removed_area, remove_state}
use Rattle.model.specs.Objects.{current_at, grown, allocate_state}
use Rattle.model.specs.History.{occurrences}
use Rattle.model.proofs.Lists.{occ_nil, occ_same, occ_other, occ_more}
use Rattle.model.proofs.Parts.{area_same, area_other, row_same, row_other, Untouched}
use Rattle.model.proofs.Bounds.{by_area}

-- no area is touched
pub record Stays (s n : State) : Type 0 where
  pub lengths : n.lengths ≡ s.lengths
  pub all : (a : ℕ) → Untouched s n a

-- area q becomes x, and no other is touched
pub record Alters (s n : State) (q : ℕ) (x : Area) : Type 0 where
  pub lengths : n.lengths ≡ s.lengths
  pub here : area_at n q ≡ x
  pub others : (a : ℕ) → a ≢ q → Untouched s n a

-- what x has of the area before it, every area has of what it was
pub same_field : {s n : State} {q : ℕ} {x : Area} → Alters s n q x → (f : Area → ℕ) → f x ≡ f (area_at s q) → (a : ℕ) → f (area_at n a) ≡ f (area_at s a)
same_field {s} {n} {q} e f d a = cases (eqb a q)
    (λ y. rw (eqb-true a q y) (ap f e.here ∙ d))
    (λ y. ap f (e.others a (eqb-false a q y)).area)

module _ (s : State) where
  stays : (t : ℕ) (h : Thread) → Stays s (with_thread s t h)
  unfolding with_thread
  stays t h = record { lengths = refl; all = λ a. record { area = refl; row = refl } }

  module _ (w : length s.areas ≡ 64) (q : ℕ) (h : q < 64) (x : Area) where
    alters : Alters s (with_area s q x) q x
    unfolding with_area
    alters = record { lengths = refl; here = area_same s q x (omega (arith, w)); others = λ a ne. record { area = area_other s q x a ne; row = refl } }

    -- and a thread
    alters_thread : (t : ℕ) (k : Thread) → Alters s (with_thread (with_area s q x) t k) q x
    unfolding with_thread
    alters_thread t k = record { lengths = alters.lengths; here = alters.here; others = λ a ne. record { area = (alters.others a ne).area; row = (alters.others a ne).row } }

  -- the rows of such a state are those of s
  keeps_rows : (q : ℕ) (x : Area) (t : ℕ) (k : Thread) (a : ℕ) → row_at (with_thread (with_area s q x) t k) a ≡ row_at s a
  unfolding with_thread with_area
  keeps_rows q x t k a = refl

  -- ---- ops 01 and 02

  pub start_stays : (t p : ℕ) → Stays s (start_state s t p)
  unfolding start_state
  start_stays t p = stays t (with_kind (thread_at s t) p)

  pub end_stays : (t : ℕ) → Stays s (end_state s t)
  unfolding end_state
  end_stays t = stays t (with_kind (thread_at s t) 0)

  -- ---- ops 03, 0c and 06

  module _ (w : length s.areas ≡ 64) (q : ℕ) (h : q < 64) where
    -- an area is replaced, and the used bits
    alters_bits : (x : Area) (u : List ℕ) → Alters s (with_used_bits (with_area s q x) u) q x
    unfolding with_used_bits
    alters_bits x u =
        let y = alters w q h x in
        record { lengths = y.lengths; here = y.here; others = λ a ne. record { area = (y.others a ne).area; row = (y.others a ne).row } }

    pub make_alters : (r : ℕ) → Alters s (make_state s q r) q (made_area (area_at s q) (room_for s r) r)
    unfolding make_state with_used_blocks
    make_alters r = alters_bits (made_area (area_at s q) (room_for s r) r) _

    pub remove_alters : Alters s (remove_state s q) q (removed_area (area_at s q))
    unfolding remove_state with_free_blocks
    remove_alters = alters_bits (removed_area (area_at s q)) _

    pub allocate_alters : (slots data_words : ℕ) → Alters s (allocate_state s q slots data_words) q (grown (area_at s q) (suc ((area_at s q).used + slots + data_words)))
    unfolding allocate_state
    allocate_alters slots data_words = alters w q h (grown (area_at s q) (suc ((area_at s q).used + slots + data_words)))

  pub make_rows : (q r a : ℕ) → row_at (make_state s q r) a ≡ row_at s a
  unfolding make_state with_used_blocks with_used_bits with_area
  make_rows q r a = refl

  pub remove_rows : (q a : ℕ) → row_at (remove_state s q) a ≡ row_at s a
  unfolding remove_state with_free_blocks with_used_bits with_area
  remove_rows q a = refl

  pub allocate_rows : (q slots data_words a : ℕ) → row_at (allocate_state s q slots data_words) a ≡ row_at s a
  unfolding allocate_state with_area
  allocate_rows q slots data_words a = refl

  -- ---- op 04: an area that is no scope is entered, an open scope, or one that is not open

  module _ (t q : ℕ) where
    pub enter_is_low : q < 2 → enter_state s t q ≡ with_thread s t (pushed (thread_at s t) q)
    unfolding enter_state entered_area
    enter_is_low h = rw (lt-leb 2 q h)

    pub enter_is_open : 2 ≤ q → 0 < (area_at s q).count → enter_state s t q ≡ with_thread (with_area s q (reentered (area_at s q))) t (pushed (thread_at s t) q)
    unfolding enter_state entered_area
    enter_is_open h o = rw (le-leb 2 q h, lt-ltb 0 (area_at s q).count o)

    -- the row and the area of a scope that opens
    abbrev pub fresh_row : List ℕ
    fresh_row = extended_row (row_at s (innermost (stack_at s t))) (area_at s (innermost (stack_at s t))).depth q

    abbrev pub fresh_area : Area
    fresh_area = opened (area_at s q) (innermost (stack_at s t)) (area_at s (innermost (stack_at s t))).depth

    pub enter_is_fresh : 2 ≤ q → (area_at s q).count ≡ 0 → enter_state s t q ≡ with_thread (with_area (with_row s q fresh_row) q fresh_area) t (pushed (thread_at s t) q)
    unfolding enter_state entered_area
    enter_is_fresh h z = rw (le-leb 2 q h, le-ltb 0 (area_at s q).count (omega arith))

    pub enter_stays : q < 2 → Stays s (enter_state s t q)
    enter_stays h = rw (enter_is_low h) (stays t (pushed (thread_at s t) q))

    pub open_rows : 2 ≤ q → 0 < (area_at s q).count → (a : ℕ) → row_at (enter_state s t q) a ≡ row_at s a
    open_rows k c a = rw (enter_is_open k c) (keeps_rows q (reentered (area_at s q)) t (pushed (thread_at s t) q) a)

    pub fresh_row_lem : 2 ≤ q → (area_at s q).count ≡ 0 → q < length s.rows → row_at (enter_state s t q) q ≡ fresh_row
    unfolding with_thread with_area
    fresh_row_lem k c h = ap (λ (r : State). row_at r q) (enter_is_fresh k c) ∙ row_same s q fresh_row h

    module _ (w : length s.areas ≡ 64) (h : q < 64) where
      pub open_alters : 2 ≤ q → 0 < (area_at s q).count → Alters s (enter_state s t q) q (reentered (area_at s q))
      open_alters k c = rw (enter_is_open k c) (alters_thread w q h (reentered (area_at s q)) t (pushed (thread_at s t) q))

      pub fresh_alters : 2 ≤ q → (area_at s q).count ≡ 0 → Alters s (enter_state s t q) q fresh_area
      unfolding with_thread with_area with_row
      fresh_alters k c = rw (enter_is_fresh k c) record {
        lengths = refl;
        here = area_same (with_row s q fresh_row) q fresh_area (omega (arith, w));
        others = λ a ne. record { area = area_other (with_row s q fresh_row) q fresh_area a ne; row = row_other s q fresh_row a ne };
      }

      pub enter_others : (a : ℕ) → a ≢ q → Untouched s (enter_state s t q) a
      enter_others a ne = by_area s q
          (λ k. (enter_stays k).all a)
          (λ k c. (fresh_alters k c).others a ne)
          (λ k c. (open_alters k c).others a ne)

  -- ---- op 05: an area that is no scope is left, or a scope

  module _ (t : ℕ) where
    pub exit_is_low : current_at s t < 2 → exit_state s t ≡ with_thread s t (popped (thread_at s t))
    unfolding exit_state left_area
    exit_is_low h = rw (lt-leb 2 (current_at s t) h)

    pub exit_is_scope : 2 ≤ current_at s t → exit_state s t ≡ with_thread (with_area s (current_at s t) (left (area_at s (current_at s t)))) t (popped (thread_at s t))
    unfolding exit_state left_area
    exit_is_scope h = rw (le-leb 2 (current_at s t) h)

    pub by_top {ℓ} : {C : Type ℓ} → (current_at s t < 2 → C) → (2 ≤ current_at s t → C) → C
    by_top low high = cases (leb 2 (current_at s t)) (λ e. high (leb-true 2 (current_at s t) e)) (λ e. low (leb-false 2 (current_at s t) e))

    -- a scope that is left for the last time, or not
    pub by_left {ℓ} : {C : Type ℓ} → (current_at s t < 2 → C) → (2 ≤ current_at s t → (area_at s (current_at s t)).count ≤ 1 → C)
        → (2 ≤ current_at s t → 1 < (area_at s (current_at s t)).count → C) → C
    by_left low last more = by_top low (λ h. cases (leb (area_at s (current_at s t)).count 1)
        (λ e. last h (leb-true (area_at s (current_at s t)).count 1 e))
        (λ e. more h (leb-false (area_at s (current_at s t)).count 1 e)))

    pub exit_stays : current_at s t < 2 → Stays s (exit_state s t)
    exit_stays h = rw (exit_is_low h) (stays t (popped (thread_at s t)))

    pub exit_rows : (a : ℕ) → row_at (exit_state s t) a ≡ row_at s a
    exit_rows a = by_top
        (λ h. ((exit_stays h).all a).row)
        (λ k. rw (exit_is_scope k) (keeps_rows (current_at s t) (left (area_at s (current_at s t))) t (popped (thread_at s t)) a))

    module _ (w : length s.areas ≡ 64) (h : current_at s t < 64) where
      pub left_alters : 2 ≤ current_at s t → Alters s (exit_state s t) (current_at s t) (left (area_at s (current_at s t)))
      left_alters k = rw (exit_is_scope k) (alters_thread w (current_at s t) h (left (area_at s (current_at s t))) t (popped (thread_at s t)))

      pub exit_others : (a : ℕ) → a ≢ current_at s t → Untouched s (exit_state s t) a
      exit_others a ne = by_top (λ k. (exit_stays k).all a) (λ k. (left_alters k).others a ne)

-- ---- op 0b: the counts of the scopes on a stack are raised

-- every area is as it was but for its count: that of a scope is as much higher as the scope has entries in l, and the others' are as they were
pub record Raises (s n : State) (l : List ℕ) : Type 0 where
  pub lengths : n.lengths ≡ s.lengths
  pub rows : (a : ℕ) → row_at n a ≡ row_at s a
  pub areas : (a : ℕ) → area_at n a ≡ with_count (area_at s a) (area_at n a).count
  pub low : (a : ℕ) → a < 2 → (area_at n a).count ≡ (area_at s a).count
  pub counts : (a : ℕ) → 2 ≤ a → (area_at n a).count ≡ (area_at s a).count + occurrences a l

-- every scope of a list is an area that is open
abbrev pub AllOpen : State → List ℕ → Type 0
AllOpen s l = (a : ℕ) → 2 ≤ a → 0 < occurrences a l → (a < 64) × (0 < (area_at s a).count)

pub tail_open : (s : State) (x : ℕ) (l : List ℕ) → AllOpen s (x ∷ l) → AllOpen s l
tail_open s x l o a h p = o a h (occ_more a x l p)

pub head_open : (s : State) (x : ℕ) (l : List ℕ) → AllOpen s (x ∷ l) → 2 ≤ x → (x < 64) × (0 < (area_at s x).count)
head_open s x l o h = o x h (omega (arith, occ_same x l))

pub raised_low : (s : State) (x : ℕ) → x < 2 → raised_area s x ≡ s
unfolding raised_area
raised_low s x h = rw (lt-leb 2 x h)

pub raised_scope : (s : State) (x : ℕ) → 2 ≤ x → raised_area s x ≡ with_area s x (reentered (area_at s x))
unfolding raised_area
raised_scope s x h = rw (le-leb 2 x h)

module _ (s : State) where
  -- what no area's record has a part in stays
  pub raised_keeps {ℓ} : {A : Type ℓ} (f : State → A) → ((r : State) (x : ℕ) (y : Area) → f (with_area r x y) ≡ f r) → (l : List ℕ) → f (raised s l) ≡ f s
  unfolding raised raised_area
  raised_keeps f k [] = refl
  raised_keeps f k (x ∷ l) = cases (leb 2 x) (λ e. rw e (k (raised s l) x (reentered (area_at (raised s l) x)) ∙ raised_keeps f k l)) (λ e. rw e (raised_keeps f k l))

  pub raised_size : (l : List ℕ) → length (raised s l).areas ≡ length s.areas
  raised_size l = raised_keeps (λ (r : State). length r.areas) (λ r x y. unfold with_area in length-set r.areas x y) l

  -- a scope more
  raises_scope : (n : State) (x : ℕ) (l : List ℕ) → length n.areas ≡ 64 → 2 ≤ x → x < 64 → Raises s n l → Raises s (with_area n x (reentered (area_at n x))) (x ∷ l)
  raises_scope n x l w h k e =
      let to : Alters n (with_area n x (reentered (area_at n x))) x (reentered (area_at n x)) = alters n w x k (reentered (area_at n x)) in
      record {
        lengths = to.lengths ∙ e.lengths;
        rows = λ a. unfold with_area in e.rows a;
        areas = λ a. cases (eqb a x)
            (λ d. rw (eqb-true a x d, to.here) (ap (λ (y : Area). with_count y (suc (area_at n x).count)) (e.areas x)))
            (λ d. rw (to.others a (eqb-false a x d)).area (e.areas a));
        low = λ a l. rw (to.others a (λ d. omega arith)).area (e.low a l);
        counts = λ a j. cases (eqb a x)
            (λ d. rw (eqb-true a x d, to.here) (omega (arith, e.counts x h, occ_same x l)))
            (λ d. rw (to.others a (eqb-false a x d)).area (omega (arith, e.counts a j, occ_other a x l (λ y. eqb-false a x d (sym y)))));
      }

  -- heap or immortal more
  raises_low : (n : State) (x : ℕ) (l : List ℕ) → x < 2 → Raises s n l → Raises s n (x ∷ l)
  raises_low n x l h e = record {
    lengths = e.lengths;
    rows = e.rows;
    areas = e.areas;
    low = e.low;
    counts = λ a j. omega (arith, e.counts a j, occ_other a x l (λ d. omega arith));
  }

  pub raised_raises : length s.areas ≡ 64 → (l : List ℕ) → AllOpen s l → Raises s (raised s l) l
  unfolding raised
  raised_raises w [] o = record {
    lengths = refl;
    rows = λ a. refl;
    areas = λ a. refl;
    low = λ a h. refl;
    counts = λ a h. omega (arith, occ_nil a);
  }
  raised_raises w (x ∷ l) o = cases (leb 2 x)
      (λ e. let h : 2 ≤ x = leb-true 2 x e in
      rw (raised_scope (raised s l) x h) (raises_scope (raised s l) x l (raised_size l ∙ w) h (head_open s x l o h).0 (raised_raises w l (tail_open s x l o))))
      (λ e. let h : x < 2 = leb-false 2 x e in
      rw (raised_low (raised s l) x h) (raises_low (raised s l) x l h (raised_raises w l (tail_open s x l o))))

  pub helper_raises : length s.areas ≡ 64 → (t p q : ℕ) → AllOpen s (stack_at s t) → Raises s (helper_state s t p q) (stack_at s t)
  unfolding helper_state with_thread
  helper_raises w t p q o =
      let e : Raises s (raised s (stack_at s t)) (stack_at s t) = raised_raises w (stack_at s t) o in
      record { lengths = e.lengths; rows = e.rows; areas = e.areas; low = e.low; counts = e.counts }
