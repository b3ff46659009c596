-- Ops 01 and 02: one law for each way that their checks end, and what they leave.
-- Assumes nothing.
use Rattle.std.specs.Prelude.{not, ◌≡◌, ◌≢◌, List, ℕ, ◌≤◌, ◌<◌, leb, eqb, Option, None, Some, SomeIff}
use Rattle.std.specs.Option.{ok_or}
use Rattle.std.proofs.Math.Path.{refl, sym}
use Rattle.std.proofs.Common.{◌∙◌, arith}
use borrow.Author.Tests.{le-leb, lt-leb, lt-ltb, le-ltb, eqb-true, eqb-false, leb-true, leb-false}
use Rattle.layout.specs.Choice.{refuse, cases, refuse_first, hit, skip, peel}
use Rattle.layout.specs.Answer.{Verdict}
use Rattle.layout.specs.declared.answer.Refusal.TheVariants.{Kind}
use Rattle.rights.specs.Kinds.{IsKind}
use Rattle.model.specs.State.{State, thread_at, with_kind, with_thread}
use Rattle.model.specs.Checks.{is_started, called}
use Rattle.model.specs.Threads.{is_kind, startable, start_rest, start_state, start_change, end_rest, end_state, end_change}
use Rattle.model.proofs.Accepted.{Called, start_ok, end_ok}
use Rattle.model.proofs.KeepsThreads.{good_start, good_end}
use Rattle.tables.specs.declared.ThreadWords.{ThreadWords}
use Rattle.tables.specs.Decode.{state_of, thread_record, put_thread, Shaped, Holds}
use Rattle.tables.proofs.Laws.{len_read, state_thread}
use Rattle.tables.specs.Contract.{Ready, Changed}
use Rattle.tables.proofs.AnsweredLaws.{changed_accepted}
use Rattle.callers.specs.Caller.{thread_refused, called_rest}

-- ---- op 01

module _ (s : State) (t p : ℕ) where
  pub start_no_thread : 16 ≤ t → 2 ≡ start_rest s t p
  unfolding startable refuse
  start_no_thread h = rw (le-leb 16 t h)

  module _ (h : t < 16) where
    pub start_started : (thread_at s t).kind ≢ 0 → 3 ≡ start_rest s t p
    unfolding startable refuse
    start_started k = let z : (thread_at s t).kind ≡ 0 → ⊥ = k in rw (lt-leb 16 t h, lt-ltb 0 (thread_at s t).kind (omega arith))

    module _ (k : (thread_at s t).kind ≡ 0) where
      pub start_no_kind : p ≡ 0 → 4 ≡ start_rest s t p
      unfolding startable refuse
      start_no_kind z = rw (lt-leb 16 t h, le-ltb 0 (thread_at s t).kind (omega arith), le-ltb 0 p (omega arith))

      pub start_other_kind : p ≢ 0 → 3 < p → 4 ≡ start_rest s t p
      unfolding startable refuse
      start_other_kind z l = rw (lt-leb 16 t h, le-ltb 0 (thread_at s t).kind (omega arith), lt-ltb 0 p (omega arith), le-ltb p 4 (omega arith))

      pub start_accepted : p ≢ 0 → p ≤ 3 → 0 ≡ start_rest s t p
      unfolding startable refuse
      start_accepted z l =
          let n : p ≡ 0 → ⊥ = z in
          rw (lt-leb 16 t h, le-ltb 0 (thread_at s t).kind (omega arith), lt-ltb 0 p (omega arith), lt-ltb p 4 (omega arith))

      -- o is the kind with the number p, if there is one
      pub start_by_kind : (o : Option ℕ) → SomeIff o (IsKind p) p → Verdict (ok_or o Kind) p (start_rest s t p)
      start_by_kind None f = cases (eqb p 0)
          (λ z. start_no_kind (eqb-true p 0 z))
          (λ n. cases (leb p 3)
          (λ l. absurd (f (omega (arith, eqb-false p 0 n), leb-true p 3 l)))
          (λ g. start_other_kind (eqb-false p 0 n) (omega (arith, leb-false p 3 g))))
      start_by_kind (Some k) e = (e.1, sym (start_accepted (λ z. omega (arith, z, e.0.0)) e.0.1))

-- ---- after 2, 3 and 4 of a thread that is to start: n is what check_start answers

module _ (s : State) (t p : ℕ) {n : ℕ} (e : n ≡ startable s t p 0) where
  -- where it refuses, nothing else counts
  pub start_refused : n ≢ 0 → (rest : ℕ) → n ≡ startable s t p rest
  unfolding startable
  start_refused h rest =
      e ∙ refuse_first (leb 16 t) 2 (refuse_first (is_started s t) 3 (refuse_first (not (is_kind p)) 4 (λ z. absurd (z refl)))) (λ z. h (e ∙ z))

  -- where it does not, the rest of the refusals counts
  pub start_passed : n ≡ 0 → (rest : ℕ) → startable s t p rest ≡ rest
  unfolding startable
  start_passed z rest =
      let b = peel _ _ _ (sym e ∙ z) in
      let c = peel _ _ _ b.1 in
      let d = peel _ _ _ c.1 in
      skip _ 2 _ b.0 ∙ skip _ 3 _ c.0 ∙ skip _ 4 rest d.0

-- ---- op 02

module _ (s : State) (t : ℕ) where
  pub end_not_called : {n : ℕ} → n ≡ called s t 0 → n ≢ 0 → n ≡ end_rest s t
  unfolding end_rest
  end_not_called e h = thread_refused s t e h _

  module _ (a : Called s t) where
    pub end_entries : 0 < (thread_at s t).len → 11 ≡ end_rest s t
    unfolding end_rest
    end_entries h = sym (called_rest s t a _ ∙ hit _ 11 0 (lt-ltb 0 (thread_at s t).len h))

    pub end_accepted : (thread_at s t).len ≤ 0 → 0 ≡ end_rest s t
    unfolding end_rest
    end_accepted h = sym (called_rest s t a _ ∙ skip _ 11 0 (le-ltb 0 (thread_at s t).len h))

-- ---- what is left

-- a thread's kind is written, with its length as it was
pub kind_holds : (w b : List ℕ) → Shaped w b → (t p : ℕ) {x : ThreadWords} → t < 16 → x ≡ thread_record w t
    → Holds (put_thread w t (record { kind = p; len = x.len })) b (with_thread (state_of w b) t (with_kind (thread_at (state_of w b) t) p))
kind_holds w b z t p h e = rw (len_read w b t h e) (state_thread w b t _ h z)

-- n is what the check answers, v the words that are left
module _ (w b : List ℕ) (y : Ready w b) (t : ℕ) {n : ℕ} {v : List ℕ} where
  pub started_on : (p : ℕ) → n ≡ start_rest (state_of w b) t p → n ≡ 0
      → Holds v b (with_thread (state_of w b) t (with_kind (thread_at (state_of w b) t) p)) → Changed w b (start_change (state_of w b) t p) n 0 v b
  unfolding start_state
  started_on p e z k =
      rw z (changed_accepted w b (start_change (state_of w b) t p) y e z refl k (good_start (state_of w b) t p y.good (start_ok (state_of w b) t p (sym e ∙ z))))

  pub ended_on : n ≡ end_rest (state_of w b) t → n ≡ 0
      → Holds v b (with_thread (state_of w b) t (with_kind (thread_at (state_of w b) t) 0)) → Changed w b (end_change (state_of w b) t) n 0 v b
  unfolding end_state
  ended_on e z k =
      rw z (changed_accepted w b (end_change (state_of w b) t) y e z refl k (good_end (state_of w b) t y.good (end_ok (state_of w b) t (sym e ∙ z))))
