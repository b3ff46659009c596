-- Op 0b keeps the invariant; the threads and the stacks after the start of a helper.
-- Assumes nothing.
use Prim.Native.Nat.{ℕ, ◌+◌, ◌≤◌, ◌<◌}
use mathlib.Core.List.{List, [], ◌∷◌, map}
use mathlib.Core.Path.{◌≡◌, refl, sym, ap, ◌∙◌}
use lib.ListN.{length, get_or, set}
use lib.Dec.{leb, ltb}
use native.Mathlib.Omega.{arith}
use borrow.Author.Tests.{leb-true, leb-false, ltb-true, ltb-false}
use Rattle.layout.specs.Choice.{cases}
use Rattle.model.specs.declared.Area.{Area}
use Rattle.model.specs.State.{Thread, State, area_at, thread_at, with_kind, with_area, with_thread, entries_of, stack_at, display_at}
use Rattle.model.specs.Scopes.{reentered}
use Rattle.model.specs.Helpers.{raised_area, raised, helper_state}
use Rattle.model.specs.History.{occurrences}
use Rattle.model.specs.Invariant.{Nested, ThreadGood, parent_in, count_in, stacks_in, NestingIn, GoodWith, Good}
use Rattle.model.proofs.Accepted.{HelperOk}
use Rattle.model.proofs.Lists.{occ_le_total, map_set}
use Rattle.model.proofs.Nesting.{row_at_lem, nested_frame, nesting_set}
use Rattle.model.proofs.Parts.{stack_is, display_same, nested_good, good_thread}
use Rattle.model.proofs.Stacks.{stack_none}
use Rattle.model.proofs.Bounds.{occ_length, count_bound}
use Rattle.model.proofs.Alters.{Raises, AllOpen, tail_open, head_open, raised_low, raised_scope, raised_keeps, raised_raises, helper_raises}
use Rattle.model.proofs.KeepsThreads.{idle_empty}
use Rattle.model.proofs.KeepsEnter.{reentered_good}

-- ---- the counts

-- the scopes on a stack are open
pub stack_open : (s : State) → Good s → (t : ℕ) → t < 16 → AllOpen s (stack_at s t)
stack_open s g t h a k p = (area, omega (arith, g.nesting.counts a k area, occ_le_total a (stacks_in s) t, on_row_lem))
  where
    on_row_lem : 0 < occurrences a (get_or (stacks_in s) t [])
    on_row_lem = rw (stack_is s t) p

    area : a < 64
    area = (row_at_lem (parent_in s) (display_at s) a k (get_or (stacks_in s) t []) (g.nesting.nested t h) on_row_lem).1.0.area

module _ (s : State) (g : Good s) where
  -- raised counts keep what is good of the areas: one entry more, and all
  good_more : (x : ℕ) (l : List ℕ) → AllOpen s (x ∷ l) → GoodWith s (raised s l) → GoodWith s (raised_area (raised s l) x)
  good_more x l o k = cases (leb 2 x)
      (λ e. rw (raised_scope (raised s l) x (leb-true 2 x e)) (scope (leb-true 2 x e)))
      (λ e. rw (raised_low (raised s l) x (leb-false 2 x e)) k)
    where
      counts : Raises s (raised s l) l
      counts = raised_raises s g.areas l (tail_open s x l o)

      scope : 2 ≤ x → GoodWith s (with_area (raised s l) x (reentered (area_at (raised s l) x)))
      scope h = reentered_good (raised s l) x k h (head_open s x l o h).0 (omega (arith, counts.counts x h, (head_open s x l o h).1))

  good_raised : (l : List ℕ) → AllOpen s l → GoodWith s (raised s l)
  unfolding raised
  good_raised [] o = g
  good_raised (x ∷ l) o = good_more x l o (good_raised l (tail_open s x l o))

  -- no count rises by more than there are entries
  pub raised_bound : (l : List ℕ) → AllOpen s l → (a : ℕ) → a < 64 → (area_at (raised s l) a).count ≤ 512 + length l
  raised_bound l o a k =
      let e : Raises s (raised s l) l = raised_raises s g.areas l o in
      cases (leb 2 a)
      (λ d. omega (arith, e.counts a (leb-true 2 a d), count_bound s g a k, occ_length a l))
      (λ d. omega (arith, e.low a (leb-false 2 a d), count_bound s g a k))

module _ (s : State) (t p q : ℕ) (g : Good s) (ok : HelperOk s t p q) where
  -- ---- the threads and the stacks

  pub helper_threads : (helper_state s t p q).threads ≡ set s.threads q (with_kind (thread_at s t) p)
  unfolding helper_state with_thread with_area
  helper_threads = ap (λ (l : List Thread). set l q (with_kind (thread_at s t) p)) (raised_keeps s (λ (r : State). r.threads) (λ r x y. refl) (stack_at s t))

  opens : AllOpen s (stack_at s t)
  opens = stack_open s g t ok.called.thread

  pub helper_counts : Raises s (helper_state s t p q) (stack_at s t)
  helper_counts = helper_raises s g.areas t p q opens

  -- an area has entries then where it had some
  pub helper_closed : (a : ℕ) → (count_in s a ≡ 0 → count_in (helper_state s t p q) a ≡ 0) × (count_in (helper_state s t p q) a ≡ 0 → count_in s a ≡ 0)
  helper_closed a = cases (leb 2 a)
      (λ e. let h : 2 ≤ a = leb-true 2 a e in (
        λ z. cases (ltb 0 (occurrences a (stack_at s t)))
            (λ d. absurd (omega (arith, (opens a h (ltb-true 0 (occurrences a (stack_at s t)) d)).1)))
            (λ d. omega (arith, helper_counts.counts a h, ltb-false 0 (occurrences a (stack_at s t)) d)),
        λ z. omega (arith, helper_counts.counts a h),
      ))
      (λ e. let h : a < 2 = leb-false 2 a e in (λ z. helper_counts.low a h ∙ z, λ z. sym (helper_counts.low a h) ∙ z))

  -- the helper had no entries
  no_entries : get_or (stacks_in s) q [] ≡ []
  no_entries = stack_is s q ∙ stack_none (thread_at s q) (idle_empty s q p g ok.helper)

  helper_stacks : stacks_in (helper_state s t p q) ≡ set (stacks_in s) q (stack_at s t)
  unfolding entries_of
  helper_stacks = ap (map entries_of) helper_threads ∙ map_set entries_of s.threads q (with_kind (thread_at s t) p)

  -- ---- the nesting

  -- parents and displays are as they were
  same_seen : (a : ℕ) → (parent_in (helper_state s t p q) a ≡ parent_in s a) × (display_at (helper_state s t p q) a ≡ display_at s a)
  same_seen a = (
    ap (λ (x : Area). x.parent) (helper_counts.areas a),
    display_same s (helper_state s t p q) a (ap (λ (x : Area). x.depth) (helper_counts.areas a)) (helper_counts.rows a),
  )

  still : (u : ℕ) → u < 16 → Nested (parent_in (helper_state s t p q)) (display_at (helper_state s t p q)) (get_or (stacks_in s) u [])
  still u h = nested_frame (parent_in s) (parent_in (helper_state s t p q)) (display_at s) (display_at (helper_state s t p q)) (get_or (stacks_in s) u [])
      (λ a k. same_seen a) (g.nesting.nested u h)

  helper_nesting : NestingIn (helper_state s t p q)
  helper_nesting = rw helper_stacks
      (nesting_set g.nesting q ok.helper.thread (parent_in (helper_state s t p q)) (display_at (helper_state s t p q)) (count_in (helper_state s t p q)) (stack_at s t)
      (λ a h k. rw no_entries (omega (arith, helper_counts.counts a h, occ_length a [])))
      (λ u h ne. still u h)
      (rw (stack_is s t) at (still t ok.called.thread)))

  -- ---- the whole

  -- its record is its starter's, with another kind
  copied_good : ThreadGood (with_kind (thread_at s t) p)
  copied_good =
      let old : ThreadGood (thread_at s t) = g.threads.each t ok.called.thread in
      record {
        kind = ok.helper.kind;
        idle = λ z. absurd (omega (arith, ok.helper.some));
        room = old.room;
        inner_room = old.inner_room;
        fits = old.fits;
        areas = old.areas;
        inner_is = old.inner_is;
      }

  pub good_helper : Good (helper_state s t p q)
  good_helper = nested_good {n = s}
      (unfold helper_state in good_thread (raised s (stack_at s t)) (good_raised s g (stack_at s t) opens) q (with_kind (thread_at s t) p) copied_good)
      helper_nesting
