-- One call: the line that it leaves, and what it leads to where it is accepted, refused, or lent a memory of other lengths.
-- Assumes nothing.
use Prim.Native.Nat.{ℕ}
use mathlib.Core.Bool.{true, false, not, true≢false}
use mathlib.Core.Path.{◌≡◌, refl, ap}
use mathlib.Core.Logic.{◌≢◌, ◌⊎◌, inl, inr, ⊎_elim}
use lib.Dec.{eqb}
use native.Mathlib.Omega.{arith}
use borrow.Author.Tests.{eqb-true, eqb-false, eq-eqb, ne_eqb}
use Rattle.layout.specs.Choice.{pick, cases, hit, skip}
use Rattle.model.specs.State.{State, Memory}
use Rattle.model.specs.Checks.{fits, fitted}
use Rattle.model.specs.Calls.{Call, start, end, make, enter, exit, start_helper, remove, allocate, store, write, Question, loads, reads, views, views_status, asks, view, configure, Configuration, is_supplied, call_status, call_value, call_state, call_memory, outcome_of}
use Rattle.model.specs.Run.{Line}
use Rattle.model.specs.History.{History, history_step, history_line}
use Rattle.model.proofs.Sound.{Sound}
use Rattle.model.proofs.Keeps.{good_call}
use Rattle.model.proofs.Agrees.{same_call}
use Rattle.model.proofs.KeepsMemory.{sound_call}

-- ---- what a line leads to

-- from s and m to n and k: its call is accepted, ..
pub record Accepts (s : State) (m : Memory) (l : Line) (n : State) (k : Memory) : Type 0 where
  pub passed : call_status s m l.call ≡ 0
  pub state : n ≡ call_state s m l.call
  pub memory : k ≡ call_memory s m l.call
  pub status : l.reply.status ≡ 0
  pub value : l.reply.value ≡ call_value s m l.call

-- .. or refused, by its own status or for the lengths of what it was lent, if it is lent anything
pub record Refuses (s : State) (m : Memory) (l : Line) (n : State) (k : Memory) : Type 0 where
  pub state : n ≡ s
  pub memory : k ≡ m
  pub status : l.reply.status ≢ 0
  pub value : l.reply.value ≡ 0
  pub number : (l.reply.status ≡ call_status s m l.call) ⊎ ((l.reply.status ≡ 1) × (is_supplied l.call ≡ true))

abbrev pub Transition : State → Memory → Line → State → Memory → Type 0
Transition s m l n k = Accepts s m l n k ⊎ Refuses s m l n k

module _ {s : State} {m : Memory} {l : Line} {n : State} {k : Memory} where
  -- an accepted line is one that leads to what an accepted call leaves
  pub accepts : Transition s m l n k → l.reply.status ≡ 0 → Accepts s m l n k
  accepts d e = ⊎_elim (λ x. x) (λ x. absurd (x.status e)) d

  pub history_accepts : Accepts s m l n k → (b : History) → history_line b l ≡ history_step b l.call (call_value s m l.call)
  unfolding history_line
  history_accepts x b = rw (eq-eqb l.reply.status 0 x.status, x.value)

  pub history_refuses : Refuses s m l n k → (b : History) → history_line b l ≡ b
  unfolding history_line
  history_refuses x b = rw (ne_eqb l.reply.status 0 x.status)

  pub sound_line : (b : History) → Sound s m b → Transition s m l n k → Sound n k (history_line b l)
  sound_line b o = ⊎_elim
      (λ x. rw (x.state, x.memory, history_accepts x b)
      (sound_call s m b l.call o x.passed (good_call s m l.call o.good x.passed)
      (same_call s m b l.call (call_value s m l.call) o.good o.same x.passed)))
      (λ x. rw (x.state, x.memory, history_refuses x b) o)

-- ---- one call

-- the line that a call leaves
abbrev pub line_for : State → Memory → Call → Line
line_for s m c = record { call = c; reply = (outcome_of s m c).reply }

-- lent a memory of the right lengths
transition : (s : State) (m : Memory) (c : Call) → Transition s m (line_for s m c) (outcome_of s m c).state (outcome_of s m c).memory
unfolding outcome_of
transition s m c = cases (eqb (call_status s m c) 0)
    (λ e. rw e (inl record { passed = eqb-true (call_status s m c) 0 e; state = refl; memory = refl; status = refl; value = refl }))
    (λ e. rw e (inr record { state = refl; memory = refl; status = eqb-false (call_status s m c) 0 e; value = refl; number = inl refl }))

-- the calls that 1 does not refuse: the view, which has no status, and those that are lent no buffer
data Skips1 : Call → Type 0 where
  views_part : (t p : ℕ) → Skips1 (view t p)
  configures : (x : Configuration) → Skips1 (configure x)

-- lent a memory of the lengths of set-up: the rest of the refusals counts
pub fit_fitted : (s : State) (m : Memory) → fits s m ≡ true → (rest : ℕ) → fitted s m rest ≡ rest
unfolding fitted
fit_fitted s m f rest = skip (not (fits s m)) 1 rest (ap not f)

-- lent a memory of other lengths: it is refused by 1, and nothing changes; or it is a view, which shows no part, or lent nothing
module _ (s : State) (n : Memory) (u : fits s n ≡ false) where
  pub unfit_fitted : (rest : ℕ) → fitted s n rest ≡ 1
  unfolding fitted
  unfit_fitted rest = hit (not (fits s n)) 1 _ (ap not u)

  -- it is lent the buffers, and refused by 1
  abbrev By1 : Call → Type 0
  By1 c = (call_status s n c ≡ 1) × (is_supplied c ≡ true)

  unfit_question : (x : Question) → By1 (asks x) ⊎ Skips1 (asks x)
  unfit_question (loads t p q) = inl (unfit_fitted _, refl)
  unfit_question (reads t p q) = inl (unfit_fitted _, refl)
  unfit_question (views t p) = inr (views_part t p)
  unfit_question (views_status t p) = inl (unfit_fitted _, refl)

  -- "1: lengths are not those of set-up", before every other refusal
  unfit_status : (c : Call) → By1 c ⊎ Skips1 c
  unfit_status (start t p) = inl (unfit_fitted _, refl)
  unfit_status (end t) = inl (unfit_fitted _, refl)
  unfit_status (make t q r) = inl (unfit_fitted _, refl)
  unfit_status (enter t q) = inl (unfit_fitted _, refl)
  unfit_status (exit t) = inl (unfit_fitted _, refl)
  unfit_status (start_helper t p q) = inl (unfit_fitted _, refl)
  unfit_status (remove t q) = inl (unfit_fitted _, refl)
  unfit_status (allocate t q r) = inl (unfit_fitted _, refl)
  unfit_status (store t p q r) = inl (unfit_fitted _, refl)
  unfit_status (write t p q r) = inl (unfit_fitted _, refl)
  unfit_status (asks x) = unfit_question x
  unfit_status (configure x) = inr (configures x)

  -- what it is lent is left as it was
  pub unfit_memory : (c : Call) → (outcome_of s n c).memory ≡ n
  unfit_memory c = ⊎_elim by_1 by_none (unfit_status c)
    where
      by_1 : By1 c → (outcome_of s n c).memory ≡ n
      by_1 e = unfold outcome_of in rw e.0 refl

      by_none : {d : Call} → Skips1 d → (outcome_of s n d).memory ≡ n
      by_none (views_part t p) = unfold outcome_of in refl
      by_none (configures x) = unfold outcome_of in cases (eqb (call_status s n (configure x)) 0) (λ e. rw e refl) (λ e. rw e refl)

  -- and so is what is kept
  pub unfit : (m : Memory) (c : Call) → Transition s m (line_for s n c) (outcome_of s n c).state m
  unfit m c = ⊎_elim by_1 by_none (unfit_status c)
    where
      by_1 : By1 c → Transition s m (line_for s n c) (outcome_of s n c).state m
      by_1 e = unfold outcome_of in rw e.0 (inr record { state = refl; memory = refl; status = λ z. omega arith; value = refl; number = inr (refl, e.1) })

      by_none : {d : Call} → Skips1 d → Transition s m (line_for s n d) (outcome_of s n d).state m
      by_none (views_part t p) = unfold outcome_of in inl record { passed = refl; state = refl; memory = refl; status = refl; value = refl }
      by_none (configures x) = unfold outcome_of in cases (eqb (call_status s m (configure x)) 0)
          (λ e. rw e (inl record { passed = eqb-true (call_status s m (configure x)) 0 e; state = refl; memory = refl; status = refl; value = refl }))
          (λ e. rw e (inr record { state = refl; memory = refl; status = eqb-false (call_status s m (configure x)) 0 e; value = refl; number = inl refl }))

-- a call that is lent no buffer answers and changes the state alike whatever is kept, and what is kept stays
pub record Apart (s : State) (m n : Memory) (c : Call) : Type 0 where
  pub reply : (outcome_of s m c).reply ≡ (outcome_of s n c).reply
  pub state : (outcome_of s m c).state ≡ (outcome_of s n c).state
  pub memory : (outcome_of s m c).memory ≡ m

pub unsupplied_apart : (s : State) (m n : Memory) (c : Call) → is_supplied c ≡ false → Apart s m n c
unfolding outcome_of
unsupplied_apart s m n (start t p) e = absurd (true≢false e)
unsupplied_apart s m n (end t) e = absurd (true≢false e)
unsupplied_apart s m n (make t q r) e = absurd (true≢false e)
unsupplied_apart s m n (enter t q) e = absurd (true≢false e)
unsupplied_apart s m n (exit t) e = absurd (true≢false e)
unsupplied_apart s m n (start_helper t p q) e = absurd (true≢false e)
unsupplied_apart s m n (remove t q) e = absurd (true≢false e)
unsupplied_apart s m n (allocate t q r) e = absurd (true≢false e)
unsupplied_apart s m n (store t p q r) e = absurd (true≢false e)
unsupplied_apart s m n (write t p q r) e = absurd (true≢false e)
unsupplied_apart s m n (asks x) e = absurd (true≢false e)
unsupplied_apart s m n (configure x) e = cases (eqb (call_status s m (configure x)) 0)
    (λ z. record { reply = rw z refl; state = rw z refl; memory = rw z refl })
    (λ z. record { reply = rw z refl; state = rw z refl; memory = rw z refl })

-- lent the kept memory, or one of other lengths, which is not kept
pub step_transition : (s : State) (m n : Memory) → fits s m ≡ true → (n ≡ m) ⊎ (fits s n ≡ false) → (c : Call)
    → Transition s m (line_for s n c) (outcome_of s n c).state (pick (fits s n) (outcome_of s n c).memory m)
step_transition s m n f d c = ⊎_elim
    (λ (q : n ≡ m). rw (q, f) (transition s m c))
    (λ u. rw u (unfit s n u m c))
    d
