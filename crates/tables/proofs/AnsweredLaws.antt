-- How a call meets its contract, one law for each way that it ends; and what the contract says: a step of run.
-- Assumes nothing.
use Rattle.std.specs.Prelude.{ℕ, Bool, true, false, List, [], ◌∷◌, ◌≢◌, ◌≡◌, refl, eqb}
use Rattle.std.proofs.Math.Path.{sym, ap}
use Rattle.std.proofs.Common.{◌∙◌, arith}
use borrow.Author.Tests.{eq-eqb, ne_eqb, eqb-true}
use Rattle.layout.specs.Choice.{pick, cases, pick_false}
use Rattle.model.specs.State.{State, Memory}
use Rattle.model.specs.Checks.{fits, fitted, Change}
use Rattle.model.specs.Calls.{Call, Configuration, configure, configuring, is_supplied, Effect, unsupplied, changing, effect_of, call_status, call_value, call_words, call_state, call_memory, Reply, settled, outcome_of}
use Rattle.model.specs.Run.{kept, other, Element, Line, World, supplied_to, step}
use Rattle.model.specs.Invariant.{Good}
use Rattle.model.proofs.Keeps.{good_call}
use Rattle.model.proofs.Outcomes.{unfit_memory, unfit_fitted, fit_fitted, unsupplied_apart}
use Rattle.tables.specs.Decode.{state_of, Holds}
use Rattle.tables.specs.Contract.{Ready, plain, Answered, Changed}

-- ---- any call

module _ (w b : List ℕ) (m : Memory) (c : Call) (y : Ready w b) {n : ℕ} (e : n ≡ call_status (state_of w b) m c) where
  -- a refused call leaves tables and buffers as they were
  pub answered_refused : n ≢ 0 → Answered w b m c (plain n 0) w b m
  unfolding outcome_of
  answered_refused h =
      let k = ne_eqb (call_status (state_of w b) m c) 0 (λ z. h (e ∙ z)) in
      record { reply_is = rw (k, e) refl; state_is = rw k refl; memory_is = rw k refl; ready = y }

  -- an accepted one leaves those of its effect
  pub answered_accepted : n ≡ 0 → call_words (state_of w b) m c ≡ []
      → {v : ℕ} → v ≡ call_value (state_of w b) m c
      → {w' b' : List ℕ} → Holds w' b' (call_state (state_of w b) m c)
      → {m' : Memory} → m' ≡ call_memory (state_of w b) m c
      → Answered w b m c (plain 0 v) w' b' m'
  unfolding outcome_of
  answered_accepted z l f h g =
      let a : call_status (state_of w b) m c ≡ 0 = sym e ∙ z in
      let k = eq-eqb (call_status (state_of w b) m c) 0 a in
      record {
        reply_is = rw (k, f, l) refl;
        state_is = h.state ∙ rw k refl;
        memory_is = g ∙ rw k refl;
        ready = record { sized = h.sized; good = rw h.state (good_call (state_of w b) m c y.good a) };
      }

-- ---- a call that touches no lent word

module _ (w b : List ℕ) (x : Change) (y : Ready w b) {n : ℕ} (e : n ≡ x.status) where
  -- after refusal 1, refused
  pub changed_refused : n ≢ 0 → Changed w b x n 0 w b
  changed_refused h =
      let k = ne_eqb x.status 0 (λ z. h (e ∙ z)) in
      record { status_is = e; value_is = rw k refl; state_is = rw k refl; ready = y }

  -- or accepted
  pub changed_accepted : n ≡ 0 → {v : ℕ} → v ≡ x.value → {w' b' : List ℕ} → Holds w' b' x.state → Good x.state → Changed w b x 0 v w' b'
  changed_accepted z f h g =
      let k = eq-eqb x.status 0 (sym e ∙ z) in
      record {
        status_is = sym z ∙ e;
        value_is = f ∙ rw k refl;
        state_is = h.state ∙ rw k refl;
        ready = record { sized = h.sized; good = rw h.state g };
      }

-- a call that does no more than a change says, whatever it is lent
module _ (w b : List ℕ) (m : Memory) (c : Call) (x : Change) (q : effect_of (state_of w b) m c ≡ unsupplied (state_of w b) m x) where
  outcome_is : outcome_of (state_of w b) m c ≡ settled (state_of w b) m (unsupplied (state_of w b) m x)
  unfolding outcome_of
  outcome_is = ap (settled (state_of w b) m) q

  pub changed_answered : {n v : ℕ} {w' b' : List ℕ} → Changed w b x n v w' b' → Answered w b m c (plain n v) w' b' m
  changed_answered d =
      cases (eqb x.status 0)
      (λ k. record {
        reply_is = rw (outcome_is, d.status_is, d.value_is, k) (rw (eqb-true x.status 0 k) refl);
        state_is = rw (outcome_is, k) (d.state_is ∙ rw k refl);
        memory_is = rw (outcome_is, k) refl;
        ready = d.ready;
      })
      (λ k. record {
        reply_is = rw (outcome_is, d.status_is, d.value_is, k) refl;
        state_is = rw (outcome_is, k) (d.state_is ∙ rw k refl);
        memory_is = rw (outcome_is, k) refl;
        ready = d.ready;
      })

-- a call that is lent the buffers: lent other lengths it is refused by 1, else it does what the change says
module _ (w b : List ℕ) (m : Memory) (c : Call) (x : Change) (q : effect_of (state_of w b) m c ≡ changing (state_of w b) m x) where
  status_fitted : call_status (state_of w b) m c ≡ fitted (state_of w b) m x.status
  status_fitted = ap (λ (k : Effect). k.status) q

  pub unfit_answered : Ready w b → fits (state_of w b) m ≡ false → Answered w b m c (plain 1 0) w b m
  unfit_answered y u = answered_refused w b m c y (sym (status_fitted ∙ unfit_fitted (state_of w b) m u x.status)) (λ z. omega arith)

  pub fit_answered : fits (state_of w b) m ≡ true → {n v : ℕ} {w' b' : List ℕ} → Changed w b x n v w' b' → Answered w b m c (plain n v) w' b' m
  fit_answered f d = changed_answered w b m c x
      (q ∙ ap (λ (n : ℕ). unsupplied (state_of w b) m (record { status = n; value = x.value; state = x.state })) (fit_fitted (state_of w b) m f x.status)) d

-- a call that is lent no buffer
pub unsupplied_answered : (w b : List ℕ) (x : Configuration) {n v : ℕ} {w' b' : List ℕ} → Changed w b (configuring (state_of w b) x) n v w' b'
    → (m : Memory) → Answered w b m (configure x) (plain n v) w' b' m
unsupplied_answered w b x d m = changed_answered w b m (configure x) (configuring (state_of w b) x) refl d

-- ---- a call by its contract is a step

-- tables, buffers and lines as a world
abbrev pub world_of : List ℕ → List ℕ → Memory → List Line → World
world_of w b m ls = record { state = state_of w b; memory = m; trace = ls }

-- a step of a call that is lent n
supplied_step : (w : World) (e : Element) (n : Memory) → supplied_to w.state w.memory e.call e.supplied ≡ n
    → step w e ≡ record {
      state = (outcome_of w.state n e.call).state;
      memory = pick (fits w.state n) (outcome_of w.state n e.call).memory w.memory;
      trace = record { call = e.call; reply = (outcome_of w.state n e.call).reply } ∷ w.trace;
    }
unfolding step
supplied_step w e n q = rw q refl

-- either choice is the same
pick_same : {A : Type 0} (t : Bool) (x : A) → pick t x x ≡ x
pick_same true x = refl
pick_same false x = refl

-- a call that is lent the kept memory leaves its own, fitting or not
left_memory : (s : State) (m : Memory) (c : Call) → pick (fits s m) (outcome_of s m c).memory m ≡ (outcome_of s m c).memory
left_memory s m c = cases (fits s m) (λ e. rw e refl) (λ e. rw e (sym (unfit_memory s m e c)))

module _ (w b w' b' : List ℕ) (ls : List Line) (c : Call) (r : Reply) where
  -- lent the kept memory
  pub step_kept : (m m' : Memory) → Answered w b m c r w' b' m'
      → step (world_of w b m ls) (record { call = c; supplied = kept }) ≡ world_of w' b' m' (record { call = c; reply = r } ∷ ls)
  step_kept m m' a =
      supplied_step (world_of w b m ls) (record { call = c; supplied = kept }) m refl
      ∙ rw (a.reply_is, a.state_is, a.memory_is, left_memory (state_of w b) m c) refl

  -- lent a memory of other lengths, which is not kept; or lent none
  pub step_other : (m n n' : Memory) → fits (state_of w b) n ≡ false → Answered w b n c r w' b' n'
      → step (world_of w b m ls) (record { call = c; supplied = other n }) ≡ world_of w' b' m (record { call = c; reply = r } ∷ ls)
  step_other m n n' f a = cases (is_supplied c)
      (λ e.
      supplied_step (world_of w b m ls) (record { call = c; supplied = other n }) n (rw e (pick_false (fits (state_of w b) n) m n f))
      ∙ rw (a.reply_is, a.state_is, f) refl)
      (λ e.
      let k = unsupplied_apart (state_of w b) m n c e in
      supplied_step (world_of w b m ls) (record { call = c; supplied = other n }) m (rw e refl)
      ∙ rw (k.reply, k.state, k.memory, a.reply_is, a.state_is) (rw (pick_same (fits (state_of w b) m) m)))
