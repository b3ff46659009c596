-- The history follows the state: set-up leaves both alike, and so does every accepted call.
-- Assumes nothing.
use Prim.Native.Nat.{ℕ, suc, ◌≤◌, ◌<◌}
use mathlib.Core.List.{List, [], ◌∷◌, map}
use mathlib.Core.Path.{◌≡◌, refl, sym, ap, ◌∙◌}
use mathlib.Core.Logic.{◌≢◌}
use lib.ListN.{length, get_or, set, replicate, length-replicate, get_or-replicate, get_or-eq_default}
use lib.Dec.{eqb, ltb}
use native.Mathlib.Omega.{arith}
use lib.Seq.{get_or-set_same, get_or-set_other}
use borrow.Author.Tests.{eqb-true, eqb-false, eq-eqb, ne_eqb, ltb-true, ltb-false, le-leb, lt-leb}
use Rattle.layout.specs.Choice.{cases}
use Rattle.model.specs.declared.Area.{Area}
use Rattle.model.specs.declared.Lengths.{Lengths}
use Rattle.model.specs.State.{Thread, State, Memory, no_thread, area_at, thread_at, with_kind, with_area, with_thread, with_used_bits, entries_of, stack_at, innermost}
use Rattle.model.specs.SetUp.{new_thread, first_state}
use Rattle.model.specs.Threads.{start_state, end_state}
use Rattle.model.specs.Scopes.{make_state, pushed, enter_state, popped, exit_state}
use Rattle.model.specs.Helpers.{helper_state}
use Rattle.model.specs.Blocks.{with_used_blocks, with_free_blocks}
use Rattle.model.specs.Removal.{remove_state}
use Rattle.model.specs.Objects.{current_at, allocate_state}
use Rattle.model.specs.Calls.{Call, start, end, make, enter, exit, start_helper, remove, allocate, store, write, asks, configure, call_status, call_state}
use Rattle.model.specs.History.{Object, History, blank, thread_row, occurrences, total, history_thread, history_start, history_helper, history_size, history_enter, history_exit, history_allocate, history_step}
use Rattle.model.specs.Invariant.{parent_in, stacks_in, Good}
use Rattle.model.proofs.Accepted.{fitted_ok, start_ok, end_ok, make_ok, MakeOk, enter_ok, EnterOk, exit_ok, ExitOk, helper_ok, HelperOk, remove_ok, RemoveOk, allocate_ok, AllocateOk}
use Rattle.model.proofs.Lists.{total_set, occ_same, map_set}
use Rattle.model.proofs.Memory.{put_same, put_other}
use Rattle.model.proofs.Sound.{Same, same_words}
use Rattle.model.proofs.Parts.{stack_is}
use Rattle.model.proofs.Stacks.{stack_none}
use Rattle.model.proofs.Bounds.{by_area, current_area}
use Rattle.model.proofs.Alters.{same_field, make_alters, remove_alters, allocate_alters, enter_stays, open_alters, fresh_alters, enter_others, by_left, exit_stays, exit_others}
use Rattle.model.proofs.KeepsThreads.{idle_empty}
use Rattle.model.proofs.KeepsEnter.{enter_thread, enter_thread_other, enter_stacks}
use Rattle.model.proofs.KeepsExit.{exit_thread, exit_thread_other, top_area, exit_more_area, exit_last_area, pop_is, exit_stacks}
use Rattle.model.proofs.KeepsHelper.{helper_threads, helper_counts}
use Rattle.model.proofs.KeepsConfiguration.{configure_same}
use Rattle.model.proofs.Keeps.{first_stacks, first_area}

-- ---- set-up

first_thread : (h i : ℕ) (n : Lengths) (t : ℕ) → (thread_at (first_state h i n) t).kind ≡ 0
unfolding first_state
first_thread h i n t = cases (ltb t 16)
    (λ e. ap (λ (x : Thread). x.kind) (get_or-replicate 16 t new_thread no_thread (ltb-true t 16 e)))
    (λ e. ap (λ (x : Thread). x.kind) (get_or-eq_default (replicate 16 new_thread) no_thread {n = t} (omega (arith, ltb-false t 16 e, length-replicate 16 new_thread))))

pub same_first : (h i : ℕ) (n : Lengths) → Same (first_state h i n) blank
unfolding blank
same_first h i n = record {
  kinds = first_thread h i n;
  rows = first_stacks h i n;
  parents = λ a. (first_area h i n a).parent;
}

-- ---- threads

module _ (s : State) (g : Good s) (b : History) (m : Same s b) (t : ℕ) (l : t < 16) where
  -- a push and a pop keep the kind
  kinds_same : (r : State) → (thread_at r t).kind ≡ (thread_at s t).kind → ((u : ℕ) → u ≢ t → thread_at r u ≡ thread_at s u) → (u : ℕ) → (thread_at r u).kind ≡ b.kinds u
  kinds_same r e f u = cases (eqb u t)
      (λ d. rw (eqb-true u t d, e) (m.kinds t))
      (λ d. rw (f u (eqb-false u t d)) (m.kinds u))

  -- the thread is replaced, and no parent changes
  same_thread : (r : State) (h : Thread) → r.threads ≡ set s.threads t h → ((a : ℕ) → parent_in r a ≡ parent_in s a) → Same r (history_thread b t h.kind (entries_of h))
  unfolding history_thread
  same_thread r h e f = record {
    kinds = λ u. ap (λ (l : List Thread). (get_or l u no_thread).kind) e ∙ cases (eqb u t)
        (λ d. rw (eqb-true u t d, get_or-set_same s.threads t h no_thread (omega (arith, g.threads.size)), put_same))
        (λ d. rw (get_or-set_other s.threads t u h no_thread (eqb-false u t d), put_other b.kinds t h.kind u (eqb-false u t d)) (m.kinds u));
    rows = ap (map entries_of) e ∙ map_set entries_of s.threads t h ∙ ap (λ (l : List (List ℕ)). set l t (entries_of h)) m.rows;
    parents = λ a. f a ∙ m.parents a;
  }

  -- a thread with no entries becomes of another kind
  same_kind : (thread_at s t).len ≡ 0 → (k : ℕ) → Same (with_thread s t (with_kind (thread_at s t) k)) (history_start b t k)
  same_kind z k = rw (stack_none (with_kind (thread_at s t) k) z) at
      (same_thread (with_thread s t (with_kind (thread_at s t) k)) (with_kind (thread_at s t) k) (unfold with_thread in refl) (λ a. unfold with_thread in refl))

-- ---- enter

module _ (s : State) (t q : ℕ) (g : Good s) (ok : EnterOk s t q) (b : History) (e : Same s b) where
  enter_kinds : (u : ℕ) → (thread_at (enter_state s t q) u).kind ≡ b.kinds u
  unfolding pushed
  enter_kinds = kinds_same s g b e t ok.called.thread (enter_state s t q) (ap (λ (h : Thread). h.kind) (enter_thread s t q g ok)) (enter_thread_other s t q g ok)

  enter_rows : stacks_in (enter_state s t q) ≡ set b.rows t (q ∷ thread_row b t)
  enter_rows = enter_stacks s t q g ok ∙ ap (λ (r : List (List ℕ)). set r t (q ∷ get_or r t [])) e.rows

  -- how many entries of q the history has
  counted : 2 ≤ q → (area_at s q).count ≡ total q b.rows
  counted h = g.nesting.counts q h ok.area ∙ ap (total q) e.rows

  other_parents : (a : ℕ) → a ≢ q → parent_in (enter_state s t q) a ≡ b.parents a
  other_parents a ne = ap (λ (x : Area). x.parent) (enter_others s t q g.areas ok.area a ne).area ∙ e.parents a

  same_low : q < 2 → Same (enter_state s t q) (history_enter b t q)
  unfolding history_enter
  same_low h = rw (lt-leb 2 q h) record { kinds = enter_kinds; rows = enter_rows; parents = λ a. ap (λ (x : Area). x.parent) ((enter_stays s t q h).all a).area ∙ e.parents a }

  same_open : 2 ≤ q → 0 < (area_at s q).count → Same (enter_state s t q) (history_enter b t q)
  unfolding history_enter
  same_open h o = rw (le-leb 2 q h, ne_eqb (total q b.rows) 0 (λ z. omega (arith, counted h))) record {
    kinds = enter_kinds;
    rows = enter_rows;
    parents = λ a. cases (eqb a q)
        (λ d. rw (eqb-true a q d) (ap (λ (x : Area). x.parent) (open_alters s t q g.areas ok.area h o).here ∙ e.parents q))
        (λ d. other_parents a (eqb-false a q d));
  }

  same_fresh : 2 ≤ q → (area_at s q).count ≡ 0 → Same (enter_state s t q) (history_enter b t q)
  unfolding history_enter
  same_fresh h z = rw (le-leb 2 q h, eq-eqb (total q b.rows) 0 (omega (arith, counted h))) record {
    kinds = enter_kinds;
    rows = enter_rows;
    parents = λ a. cases (eqb a q)
        (λ d. rw (eqb-true a q d, put_same) (ap (λ (x : Area). x.parent) (fresh_alters s t q g.areas ok.area h z).here ∙ inner))
        (λ d. rw (put_other b.parents q (innermost (thread_row b t)) a (eqb-false a q d)) (other_parents a (eqb-false a q d)));
  }
    where
      inner : innermost (stack_at s t) ≡ innermost (thread_row b t)
      inner = ap innermost (sym (stack_is s t) ∙ ap (λ (r : List (List ℕ)). get_or r t []) e.rows)

  same_enter : Same (enter_state s t q) (history_enter b t q)
  same_enter = by_area s q same_low same_fresh same_open

-- ---- exit

module _ (s : State) (t : ℕ) (g : Good s) (ok : ExitOk s t) (b : History) (e : Same s b) where
  -- the history's row has the core's top
  pub row_top : thread_row b t ≡ current_at s t ∷ entries_of (popped (thread_at s t))
  row_top = ap (λ (r : List (List ℕ)). get_or r t []) (sym e.rows) ∙ pop_is s t g ok

  exit_kinds : (u : ℕ) → (thread_at (exit_state s t) u).kind ≡ b.kinds u
  unfolding popped
  exit_kinds = kinds_same s g b e t ok.called.thread (exit_state s t) (ap (λ (h : Thread). h.kind) (exit_thread s t g ok)) (exit_thread_other s t g ok)

  exit_rows : stacks_in (exit_state s t) ≡ set b.rows t (entries_of (popped (thread_at s t)))
  exit_rows = exit_stacks s t g ok ∙ ap (λ (r : List (List ℕ)). set r t (entries_of (popped (thread_at s t)))) e.rows

  -- how many entries of the top the history has then
  pub left_count : 2 ≤ current_at s t → suc (total (current_at s t) (set b.rows t (entries_of (popped (thread_at s t))))) ≡ (area_at s (current_at s t)).count
  left_count h = omega (
    arith,
    g.nesting.counts (current_at s t) h (top_area s t g ok),
    ap (total (current_at s t)) e.rows,
    ap (occurrences (current_at s t)) row_top,
    occ_same (current_at s t) (entries_of (popped (thread_at s t))),
    total_set (current_at s t) b.rows t (entries_of (popped (thread_at s t))) (omega (arith, g.nesting.size, ap length e.rows, ok.called.thread)),
  )

  left_parents : (a : ℕ) → a ≢ current_at s t → parent_in (exit_state s t) a ≡ b.parents a
  left_parents a ne = ap (λ (x : Area). x.parent) (exit_others s t g.areas (top_area s t g ok) a ne).area ∙ e.parents a

  exit_same_low : current_at s t < 2 → Same (exit_state s t) (history_exit b t)
  unfolding history_exit
  exit_same_low h = rw (row_top, lt-leb 2 (current_at s t) h)
      record { kinds = exit_kinds; rows = exit_rows; parents = λ a. ap (λ (x : Area). x.parent) ((exit_stays s t h).all a).area ∙ e.parents a }

  exit_same_last : 2 ≤ current_at s t → (area_at s (current_at s t)).count ≤ 1 → Same (exit_state s t) (history_exit b t)
  unfolding history_exit
  exit_same_last h k = rw (row_top, le-leb 2 (current_at s t) h, eq-eqb (total (current_at s t) (set b.rows t (entries_of (popped (thread_at s t))))) 0 (omega (arith, left_count h))) record {
    kinds = exit_kinds;
    rows = exit_rows;
    parents = λ a. cases (eqb a (current_at s t))
        (λ d. rw (eqb-true a (current_at s t) d, put_same) (ap (λ (x : Area). x.parent) (exit_last_area s t g ok h k)))
        (λ d. rw (put_other b.parents (current_at s t) 0 a (eqb-false a (current_at s t) d)) (left_parents a (eqb-false a (current_at s t) d)));
  }

  exit_same_more : 2 ≤ current_at s t → 1 < (area_at s (current_at s t)).count → Same (exit_state s t) (history_exit b t)
  unfolding history_exit
  exit_same_more h k = rw (row_top, le-leb 2 (current_at s t) h, ne_eqb (total (current_at s t) (set b.rows t (entries_of (popped (thread_at s t))))) 0 (λ z. omega (arith, left_count h))) record {
    kinds = exit_kinds;
    rows = exit_rows;
    parents = λ a. cases (eqb a (current_at s t))
        (λ d. rw (eqb-true a (current_at s t) d) (ap (λ (x : Area). x.parent) (exit_more_area s t g ok h k) ∙ e.parents (current_at s t)))
        (λ d. left_parents a (eqb-false a (current_at s t) d));
  }

  same_exit : Same (exit_state s t) (history_exit b t)
  same_exit = by_left s t exit_same_low exit_same_last exit_same_more

-- ---- a helper starts

same_helper : (s : State) (t p q : ℕ) → Good s → HelperOk s t p q → (b : History) → Same s b → Same (helper_state s t p q) (history_helper b t p q)
unfolding entries_of
same_helper s t p q g ok b e = rw row at (same_thread s g b e q ok.helper.thread (helper_state s t p q) (with_kind (thread_at s t) p)
    (helper_threads s t p q g ok) (λ a. ap (λ (x : Area). x.parent) ((helper_counts s t p q g ok).areas a)))
  where
    row : stack_at s t ≡ thread_row b t
    row = sym (stack_is s t) ∙ ap (λ (r : List (List ℕ)). get_or r t []) e.rows

-- ---- words are given, and taken back

same_make : (s : State) (t q r : ℕ) → Good s → MakeOk s t q r → (b : History) → Same s b → Same (make_state s q r) (history_size b q r)
unfolding make_state with_used_blocks with_used_bits with_area history_size
same_make s t q r g ok b e = record {
  kinds = e.kinds;
  rows = e.rows;
  parents = λ a. same_field (make_alters s g.areas q ok.area r) (λ (x : Area). x.parent) refl a ∙ e.parents a;
}

same_remove : (s : State) (t q : ℕ) → Good s → RemoveOk s t q → (b : History) → Same s b → Same (remove_state s q) (history_size b q 0)
unfolding remove_state with_free_blocks with_used_bits with_area history_size
same_remove s t q g ok b e = record {
  kinds = e.kinds;
  rows = e.rows;
  parents = λ a. same_field (remove_alters s g.areas q ok.area) (λ (x : Area). x.parent) refl a ∙ e.parents a;
}

same_allocate : (s : State) (t slots data_words : ℕ) → Good s → AllocateOk s t slots data_words → (b : History) (o : Object) → Same s b
    → Same (allocate_state s (current_at s t) slots data_words) (history_allocate b t o)
unfolding allocate_state with_area history_allocate
same_allocate s t slots data_words g ok b o e = record {
  kinds = e.kinds;
  rows = e.rows;
  parents = λ a. same_field (allocate_alters s g.areas (current_at s t) (current_area s g t ok.called.thread) slots data_words) (λ (x : Area). x.parent) refl a ∙ e.parents a;
}

-- ---- any accepted call

pub same_call : (s : State) (m : Memory) (b : History) (c : Call) (v : ℕ) → Good s → Same s b → call_status s m c ≡ 0 → Same (call_state s m c) (history_step b c v)
same_call s m b (start t p) v g e z =
    let ok = start_ok s t p (fitted_ok s m _ z).1 in
    unfold start_state in same_kind s g b e t ok.thread (idle_empty s t p g ok) p
same_call s m b (end t) v g e z =
    let ok = end_ok s t (fitted_ok s m _ z).1 in
    unfold end_state in same_kind s g b e t ok.called.thread ok.empty 0
same_call s m b (make t q r) v g e z = same_make s t q r g (make_ok s t q r (fitted_ok s m _ z).1) b e
same_call s m b (enter t q) v g e z = same_enter s t q g (enter_ok s t q (fitted_ok s m _ z).1) b e
same_call s m b (exit t) v g e z = same_exit s t g (exit_ok s t (fitted_ok s m _ z).1) b e
same_call s m b (start_helper t p q) v g e z = same_helper s t p q g (helper_ok s t p q (fitted_ok s m _ z).1) b e
same_call s m b (remove t q) v g e z = same_remove s t q g (remove_ok s t q (fitted_ok s m _ z).1) b e
same_call s m b (allocate t q r) v g e z = same_allocate s t q r g (allocate_ok s t q r (fitted_ok s m _ z).1) b _ e
same_call s m b (store t p q r) v g e z = same_words s b _ _ e
same_call s m b (write t p q r) v g e z = same_words s b _ _ e
same_call s m b (asks x) v g e z = e
same_call s m b (configure x) v g e z = configure_same s x b e
