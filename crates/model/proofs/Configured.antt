-- The rights table in force is told by the lines alone, and so is what a load and the start of a helper answer.
-- Assumes nothing.
use Prim.Native.Nat.{ℕ}
use mathlib.Core.Bool.{Bool, not}
use mathlib.Core.List.{List, [], ◌∷◌}
use mathlib.Core.Path.{◌≡◌, refl, ap, ◌∙◌}
use mathlib.Core.Logic.{⊎_elim}
use lib.Dec.{ltb}
use borrow.Author.Tests.{eq-eqb, ne_eqb}
use Rattle.layout.specs.Choice.{refuse, cases}
use Rattle.layout.specs.Below.{some_below}
use Rattle.rights.specs.Rights.{is_table}
use Rattle.model.specs.declared.Lengths.{Lengths}
use Rattle.model.specs.State.{State, Memory, with_area, with_row, with_thread, with_used_bits, with_rights, is_open, is_scope, current, stack_at}
use Rattle.model.specs.SetUp.{first_state}
use Rattle.model.specs.Checks.{called}
use Rattle.model.specs.Threads.{startable, start_state, end_state}
use Rattle.model.specs.Scopes.{make_state, entered_area, enter_state, left_area, exit_state}
use Rattle.model.specs.Blocks.{with_used_blocks, with_free_blocks}
use Rattle.model.specs.Helpers.{helper_rest, helper_state}
use Rattle.model.specs.Removal.{remove_state}
use Rattle.model.specs.Objects.{allocate_state}
use Rattle.model.specs.Configuration.{any_started, load_rights_status, load_rights_state}
use Rattle.model.specs.Calls.{Call, start, end, make, enter, exit, start_helper, remove, allocate, store, write, asks, Configuration, rights_table, configure, load_rights, configuring, call_status, call_state}
use Rattle.model.specs.Run.{Line}
use Rattle.model.specs.History.{History, history_of}
use Rattle.model.specs.Values.{load_answer, configured_table, table_step, table_line, table_after, helper_answer}
use Rattle.model.proofs.Sound.{Sound}
use Rattle.model.proofs.Alters.{raised_keeps}
use Rattle.model.proofs.NestingClaims.{stacks}
use Rattle.model.proofs.Outcomes.{Transition, fit_fitted}

-- ---- the table after a call

configured : (s : State) (x : Configuration) → (configuring s x).state.rights ≡ configured_table s.rights x
unfolding load_rights_state with_rights
configured s (rights_table text) = refl

entered : (s : State) (q p : ℕ) → (entered_area s q p).rights ≡ s.rights
unfolding entered_area with_area with_row
entered s q p = cases (is_scope q) (λ e. cases (is_open s q) (λ o. rw (e, o) refl) (λ o. rw (e, o) refl)) (λ e. rw e refl)

left : (s : State) (q : ℕ) → (left_area s q).rights ≡ s.rights
unfolding left_area with_area
left s q = cases (is_scope q) (λ e. rw e refl) (λ e. rw e refl)

table_call : (s : State) (m : Memory) (c : Call) → (call_state s m c).rights ≡ table_step s.rights c
unfolding start_state end_state make_state enter_state exit_state helper_state remove_state allocate_state with_area with_thread with_used_bits with_used_blocks with_free_blocks
table_call s m (start t p) = refl
table_call s m (end t) = refl
table_call s m (make t q r) = refl
table_call s m (enter t q) = entered s q _
table_call s m (exit t) = left s (current (stack_at s t))
table_call s m (start_helper t p q) = raised_keeps s (λ (r : State). r.rights) (λ r x y. refl) (stack_at s t)
table_call s m (remove t q) = refl
table_call s m (allocate t q r) = refl
table_call s m (store t p q r) = refl
table_call s m (write t p q r) = refl
table_call s m (asks x) = refl
table_call s m (configure x) = configured s x

-- ---- and after a line

-- the table in force is the one that the lines tell
abbrev pub InForce : State → List Line → Type 0
InForce s ls = s.rights ≡ table_after ls

pub in_force_first : (h i : ℕ) (n : Lengths) → InForce (first_state h i n) []
unfolding first_state table_after
in_force_first h i n = refl

pub in_force_line : (s : State) (m : Memory) (ls : List Line) → InForce s ls → {l : Line} {n : State} {k : Memory} → Transition s m l n k → InForce n (l ∷ ls)
unfolding table_after table_line
in_force_line s m ls f {l} d = ⊎_elim
    (λ x. rw (eq-eqb l.reply.status 0 x.status, x.state) (table_call s m l.call ∙ ap (λ (r : List ℕ). table_step r l.call) f))
    (λ x. rw (ne_eqb l.reply.status 0 x.status, x.state) f)
    d

-- ---- what a load answers

-- the history has the started threads
pub load_told : (s : State) (m : Memory) (b : History) → Sound s m b → (text : List ℕ) → call_status s m (load_rights text) ≡ load_answer b text
unfolding load_rights_status any_started load_answer
load_told s m b o text = ap (λ (f : ℕ → Bool). refuse (not (is_table text)) 23 (refuse (some_below f 16) 24 0)) (λ i t. ltb 0 (o.same.kinds t i))

-- ---- what the start of a helper answers

-- the history has the started threads and the rows
pub helper_told : (s : State) (m : Memory) (ls : List Line) → Sound s m (history_of ls) → InForce s ls → (t p q : ℕ)
    → call_status s m (start_helper t p q) ≡ helper_answer ls t p q
unfolding helper_rest called startable helper_answer
helper_told s m ls o f t p q =
    fit_fitted s m o.supplied _
    ∙ rw (o.same.kinds t, o.same.kinds q, f, stacks s (history_of ls) o.good o.same t) refl
