-- The generation of a scope is what its last opening gave, by the lines alone; so are the values of entries, and those of exits.
-- Assumes nothing.
use Prim.Native.Nat.{ℕ, suc, pred, ◌≤◌, ◌<◌}
use mathlib.Core.List.{List, [], ◌∷◌}
use mathlib.Core.Path.{◌≡◌, refl, sym, ap, ◌∙◌}
use mathlib.Core.Logic.{⊎_elim}
use lib.ListN.{set}
use lib.Dec.{eqb}
use native.Mathlib.Omega.{arith}
use borrow.Author.Tests.{eqb-true, eqb-false, eq-eqb, ne_eqb, le-leb, lt-leb, lt-ltb, le-ltb}
use Rattle.layout.specs.Choice.{pick, cases}
use Rattle.model.specs.declared.Area.{Area}
use Rattle.model.specs.declared.Lengths.{Lengths}
use Rattle.model.specs.State.{State, Memory, area_at, thread_at, entries_of}
use Rattle.model.specs.SetUp.{first_state}
use Rattle.model.specs.Scopes.{enter_state, enter_value, popped, exit_state, exit_value}
use Rattle.model.specs.Helpers.{helper_state}
use Rattle.model.specs.Objects.{current_at}
use Rattle.model.specs.Calls.{Call, start, end, make, enter, exit, start_helper, remove, allocate, store, write, asks, configure, call_status, call_value, call_state}
use Rattle.model.specs.Run.{Line}
use Rattle.model.specs.History.{History, total, history_exit, history_of}
use Rattle.model.specs.Values.{opening_step, last_opening, entry_generation, entries_left}
use Rattle.model.proofs.Accepted.{fitted_ok, MakeOk, make_ok, EnterOk, enter_ok, ExitOk, exit_ok, HelperOk, helper_ok, RemoveOk, remove_ok, AllocateOk, allocate_ok}
use Rattle.model.proofs.Sound.{generation_in, Sound}
use Rattle.model.proofs.Bounds.{by_area, current_area}
use Rattle.model.proofs.KeepsHelper.{helper_counts}
use Rattle.model.proofs.KeepsConfiguration.{configure_stays}
use Rattle.model.proofs.Keeps.{first_scope}
use Rattle.model.proofs.Agrees.{row_top, left_count}
use Rattle.model.proofs.NestingClaims.{history_nesting}
use Rattle.model.proofs.Alters.{Stays, Alters, start_stays, end_stays, make_alters, remove_alters, allocate_alters, fresh_area, enter_stays, open_alters, fresh_alters, by_top, exit_stays, left_alters}
use Rattle.model.proofs.Outcomes.{Transition}
use Rattle.model.proofs.ValueMeanings.{opening_accepted, opening_refused}

-- ---- what a call does to an area

-- x becomes y: its used words lie where they lay, and its generation is g
pub record Carried (x y : Area) (g : ℕ) : Type 0 where
  pub start : 0 < x.used → y.start ≡ x.start
  pub generation : y.generation ≡ g

-- it is as it was
carried_same : {x y : Area} → y ≡ x → Carried x y x.generation
carried_same e = rw e record { start = λ p. refl; generation = refl }

-- one area becomes x
carried_all : {s n : State} {q : ℕ} {x : Area} → Alters s n q x → Carried (area_at s q) x (generation_in s q)
    → (a : ℕ) → Carried (area_at s a) (area_at n a) (generation_in s a)
carried_all {q = q} e k a = cases (eqb a q)
    (λ d. rw (eqb-true a q d, e.here) k)
    (λ d. carried_same (e.others a (eqb-false a q d)).area)

module _ (s : State) (m : Memory) (b : History) (o : Sound s m b) where
  -- a scope is open where the history has it on a row
  count_is : (a : ℕ) → 2 ≤ a → a < 64 → (area_at s a).count ≡ total a b.rows
  count_is = (history_nesting s b o.good o.same).counts

  -- no area is touched
  carried_stays : (n : State) → Stays s n → (a : ℕ) → Carried (area_at s a) (area_at n a) (generation_in s a)
  carried_stays n k a = carried_same (k.all a).area

  -- what an entry gives: of heap or immortal, of a scope that is not open, of an open scope
  enter_low_value : (q : ℕ) → q < 2 → enter_value s q ≡ generation_in s q
  unfolding enter_value
  enter_low_value q h = rw (lt-leb 2 q h)

  enter_fresh_value : (q : ℕ) → 2 ≤ q → (area_at s q).count ≡ 0 → enter_value s q ≡ suc (generation_in s q)
  unfolding enter_value
  enter_fresh_value q h c = rw (le-leb 2 q h, le-ltb 0 (area_at s q).count (omega arith))

  enter_open_value : (q : ℕ) → 2 ≤ q → 0 < (area_at s q).count → enter_value s q ≡ generation_in s q
  unfolding enter_value
  enter_open_value q h c = rw (le-leb 2 q h, lt-ltb 0 (area_at s q).count c)

  carried_enter : (t q : ℕ) → EnterOk s t q → (a : ℕ)
      → Carried (area_at s a) (area_at (enter_state s t q) a) (opening_step b a (generation_in s a) (enter t q) (enter_value s q))
  carried_enter t q k a = by_area s q
      (λ h. rw (lt-leb 2 q h) (carried_stays (enter_state s t q) (enter_stays s t q h) a))
      (λ h c. rw (le-leb 2 q h, eq-eqb (total q b.rows) 0 (omega (arith, count_is q h k.area))) (fresh h c))
      (λ h c. rw (le-leb 2 q h, ne_eqb (total q b.rows) 0 (λ z. omega (arith, count_is q h k.area)))
      (carried_all (open_alters s t q o.good.areas k.area h c) record { start = λ p. refl; generation = refl } a))
    where
      fresh : 2 ≤ q → (area_at s q).count ≡ 0 → Carried (area_at s a) (area_at (enter_state s t q) a) (pick (eqb q a) (enter_value s q) (generation_in s a))
      fresh h c =
          let to : Alters s (enter_state s t q) q (fresh_area s t q) = fresh_alters s t q o.good.areas k.area h c in
          cases (eqb q a)
          (λ d. rw (d, ← eqb-true q a d, to.here) record { start = λ p. refl; generation = sym (enter_fresh_value q h c) })
          (λ d. rw d (carried_same (to.others a (λ e. eqb-false q a d (sym e))).area))

  carried_exit : (t : ℕ) → ExitOk s t → (a : ℕ) → Carried (area_at s a) (area_at (exit_state s t) a) (generation_in s a)
  carried_exit t k a = by_top s t
      (λ h. carried_stays (exit_state s t) (exit_stays s t h) a)
      (λ h. carried_all (left_alters s t o.good.areas (current_area s o.good t k.called.thread) h)
      record { start = λ p. refl; generation = refl } a)

  carried_helper : (t p q : ℕ) → HelperOk s t p q → (a : ℕ) → Carried (area_at s a) (area_at (helper_state s t p q) a) (generation_in s a)
  carried_helper t p q k a =
      let e = (helper_counts s t p q o.good k).areas a in
      record { start = λ u. ap (λ (x : Area). x.start) e; generation = ap (λ (x : Area). x.generation) e }

  -- any accepted call
  pub carried_call : (c : Call) → call_status s m c ≡ 0 → (a : ℕ)
      → Carried (area_at s a) (area_at (call_state s m c) a) (opening_step b a (generation_in s a) c (call_value s m c))
  carried_call (start t p) z a = carried_stays (call_state s m (start t p)) (start_stays s t p) a
  carried_call (end t) z a = carried_stays (call_state s m (end t)) (end_stays s t) a
  carried_call (make t q r) z a =
      let k : MakeOk s t q r = make_ok s t q r (fitted_ok s m _ z).1 in
      carried_all (make_alters s o.good.areas q k.area r)
      record { start = λ p. absurd (omega (arith, k.unmade, o.good.placed.used q k.area)); generation = refl } a
  carried_call (enter t q) z a = carried_enter t q (enter_ok s t q (fitted_ok s m _ z).1) a
  carried_call (exit t) z a = carried_exit t (exit_ok s t (fitted_ok s m _ z).1) a
  carried_call (start_helper t p q) z a = carried_helper t p q (helper_ok s t p q (fitted_ok s m _ z).1) a
  carried_call (remove t q) z a =
      let k : RemoveOk s t q = remove_ok s t q (fitted_ok s m _ z).1 in
      carried_all (remove_alters s o.good.areas q k.area)
      record { start = λ p. absurd (omega (arith, (o.good.scopes q k.scope k.area).no_words k.closed)); generation = refl } a
  carried_call (allocate t q r) z a =
      let k : AllocateOk s t q r = allocate_ok s t q r (fitted_ok s m _ z).1 in
      carried_all (allocate_alters s o.good.areas (current_at s t) (current_area s o.good t k.called.thread) q r)
      record { start = λ p. refl; generation = refl } a
  carried_call (store t p q r) z a = carried_same refl
  carried_call (write t p q r) z a = carried_same refl
  carried_call (asks x) z a = carried_same refl
  carried_call (configure x) z a = carried_stays (call_state s m (configure x)) (configure_stays s x) a

-- ---- generations and openings

-- each scope has the generation that its last opening gave
abbrev pub Opened : State → List Line → Type 0
Opened s ls = (a : ℕ) → 2 ≤ a → generation_in s a ≡ last_opening a ls

pub opened_first : (h i : ℕ) (n : Lengths) → Opened (first_state h i n) []
unfolding last_opening
opened_first h i n a k = ap (λ (x : Area). x.generation) (first_scope h i n a k)

module _ (s : State) (m : Memory) (ls : List Line) (o : Sound s m (history_of ls)) (g : Opened s ls) where
  pub opened_line : {l : Line} {n : State} {k : Memory} → Transition s m l n k → Opened n (l ∷ ls)
  opened_line {l} d a h = ⊎_elim
      (λ x. rw (opening_accepted l ls x.status a l.call refl, x.state, x.value, ← g a h)
      (carried_call s m (history_of ls) o l.call x.passed a).generation)
      (λ x. rw (opening_refused l ls x.status a, x.state) (g a h))
      d

  -- ---- values

  pub entry_value : (t q : ℕ) → call_status s m (enter t q) ≡ 0 → call_value s m (enter t q) ≡ entry_generation q ls
  unfolding entry_generation
  entry_value t q z =
      let e : EnterOk s t q = enter_ok s t q (fitted_ok s m _ z).1 in
      by_area s q
      (λ h. rw (lt-leb 2 q h) (enter_low_value s m (history_of ls) o q h ∙ (o.good.standing q h).generation))
      (λ h c. rw (le-leb 2 q h, eq-eqb (total q (history_of ls).rows) 0 (omega (arith, count_is s m (history_of ls) o q h e.area)))
      (enter_fresh_value s m (history_of ls) o q h c ∙ ap suc (g q h)))
      (λ h c. rw (le-leb 2 q h, ne_eqb (total q (history_of ls).rows) 0 (λ y. omega (arith, count_is s m (history_of ls) o q h e.area)))
      (enter_open_value s m (history_of ls) o q h c ∙ g q h))

pub exit_value_lem : (s : State) (m : Memory) (b : History) → Sound s m b → (t : ℕ)
    → call_status s m (exit t) ≡ 0 → call_value s m (exit t) ≡ entries_left b t
unfolding exit_value entries_left history_exit
exit_value_lem s m b o t z =
    let k : ExitOk s t = exit_ok s t (fitted_ok s m _ z).1 in
    rw (row_top s t o.good k b o.same) (by_top s t
    (λ h. rw (lt-leb 2 (current_at s t) h))
    (λ h. rw (le-leb 2 (current_at s t) h) (left h k)))
  where
    left : 2 ≤ current_at s t → ExitOk s t
        → pred (area_at s (current_at s t)).count ≡ total (current_at s t) (set b.rows t (entries_of (popped (thread_at s t))))
    left h k = omega (arith, left_count s t o.good k b o.same h)
