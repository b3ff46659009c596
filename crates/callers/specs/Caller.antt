-- Refusals 1 and 2: one law for each way that the checks end, and how a call goes on after them.
-- Assumes nothing.
use Rattle.std.specs.Prelude.{◌≡◌, refl, Bool, true, false, not, ◌&&◌, ◌≢◌, List, ℕ, ◌≤◌, ◌<◌, leb, length}
use Rattle.std.proofs.Common.{ap, ◌∙◌, arith}
use Rattle.std.proofs.Math.Path.{sym}
use Rattle.std.proofs.Math.Dec.{eqb}
use borrow.Author.Tests.{le-leb, lt-leb, lt-ltb, le-ltb, eq-eqb, ne_eqb, not-true, not-false}
use Rattle.layout.specs.Choice.{refuse, refuse_first, cases}
use Rattle.model.specs.declared.Lengths.{Lengths}
use Rattle.model.specs.State.{State, Memory, thread_at}
use Rattle.model.specs.Checks.{fits, fitted, is_started, called, admit}
use Rattle.model.proofs.Accepted.{Called, called_ok, Admitted, admitted}
use Rattle.model.proofs.Outcomes.{unfit_fitted, fit_fitted}
use Rattle.tables.specs.Decode.{state_of, lengths_record}
use Rattle.tables.proofs.Laws.{lengths_read}

-- ---- the four lengths, where o, n, k and j are those of set-up, read for each test

module _ (w b : List ℕ) (m : Memory) (o : Lengths) (e : o ≡ lengths_record w) where
  own : (state_of w b).lengths ≡ o
  own = lengths_read w b ∙ sym e

  pub other_permanent : length m.permanent ≢ o.permanent → false ≡ fits (state_of w b) m
  unfolding fits
  other_permanent h = rw (own, ne_eqb (length m.permanent) o.permanent h)

  module _ (p : length m.permanent ≡ o.permanent) (n : Lengths) (f : n ≡ lengths_record w) where
    same : n.scratch ≡ o.scratch
    same = ap (λ (l : Lengths). l.scratch) (f ∙ sym e)

    pub other_scratch : length m.scratch ≢ n.scratch → false ≡ fits (state_of w b) m
    unfolding fits
    other_scratch h = rw (own, eq-eqb (length m.permanent) o.permanent p, ne_eqb (length m.scratch) o.scratch (λ z. h (z ∙ sym same)))

    module _ (s : length m.scratch ≡ n.scratch) (k : Lengths) (g : k ≡ lengths_record w) where
      -- the stores fit
      past_stores : fits (state_of w b) m ≡ eqb (length m.map) k.map && eqb (length m.written) k.map
      unfolding fits
      past_stores =
          rw (own, eq-eqb (length m.permanent) o.permanent p, eq-eqb (length m.scratch) o.scratch (s ∙ same))
          (ap (λ (l : Lengths). eqb (length m.map) l.map && eqb (length m.written) l.map) (e ∙ sym g))

      pub other_map : length m.map ≢ k.map → false ≡ fits (state_of w b) m
      other_map h = sym (past_stores ∙ rw (ne_eqb (length m.map) k.map h) refl)

      pub by_written : length m.map ≡ k.map → (j : Lengths) → j ≡ lengths_record w → eqb (length m.written) j.map ≡ fits (state_of w b) m
      by_written h j i =
          ap (λ (l : Lengths). eqb (length m.written) l.map) (i ∙ sym g)
          ∙ sym (past_stores ∙ rw (eq-eqb (length m.map) k.map h) refl)

-- refusal 1 by the test of the lengths, and the rest of a call's refusals after it
module _ (s : State) (m : Memory) where
  -- r is what lengths_fit answers
  module _ {r : Bool} (e : r ≡ fits s m) where
    pub unfit : not r ≡ true → fits s m ≡ false
    unfit h = sym e ∙ not-true r h

    pub fit : not r ≡ false → fits s m ≡ true
    fit h = sym e ∙ not-false r h

    -- and so what check_lengths does
    pub check_unfit : not r ≡ true → 1 ≡ fitted s m 0
    check_unfit h = sym (unfit_fitted s m (unfit h) 0)

    pub check_fit : not r ≡ false → 0 ≡ fitted s m 0
    check_fit h = sym (fit_fitted s m (fit h) 0)

  -- n is what check_lengths answers: where it refuses, the call is refused by it
  pub lengths_refused : {n : ℕ} → n ≡ fitted s m 0 → n ≢ 0 → (rest : ℕ) → n ≡ fitted s m rest
  unfolding fitted
  lengths_refused e h rest = e ∙ refuse_first (not (fits s m)) 1 (λ z. absurd (z refl)) (λ z. h (e ∙ z))

  -- where it does not, they are those of set-up
  pub lengths_passed : 0 ≡ fitted s m 0 → fits s m ≡ true
  lengths_passed e = cases (fits s m) (λ f. f) (λ u. absurd (omega (arith, e ∙ unfit_fitted s m u 0)))

-- ---- the thread

module _ (s : State) (t rest : ℕ) where
  pub no_thread_lem : 16 ≤ t → 2 ≡ called s t rest
  unfolding called refuse
  no_thread_lem h = rw (le-leb 16 t h)

  pub not_started : t < 16 → (thread_at s t).kind ≡ 0 → 2 ≡ called s t rest
  unfolding called refuse
  not_started h k = rw (lt-leb 16 t h, le-ltb 0 (thread_at s t).kind (omega arith))

  pub started : t < 16 → (thread_at s t).kind ≢ 0 → rest ≡ called s t rest
  unfolding called refuse
  started h k = let z : (thread_at s t).kind ≡ 0 → ⊥ = k in rw (lt-leb 16 t h, lt-ltb 0 (thread_at s t).kind (omega arith))

-- ---- after refusal 2

module _ (s : State) (t : ℕ) where
  -- n is what check_thread answers: where it refuses, the call is refused by it
  pub thread_refused : {n : ℕ} → n ≡ called s t 0 → n ≢ 0 → (rest : ℕ) → n ≡ called s t rest
  unfolding called
  thread_refused e h rest = e ∙ refuse_first (leb 16 t) 2 (refuse_first (not (is_started s t)) 2 (λ z. absurd (z refl))) (λ z. h (e ∙ z))

  -- where it does not, there is such a thread
  pub thread_called : {n : ℕ} → n ≡ called s t 0 → n ≡ 0 → Called s t
  thread_called e z = (called_ok s t 0 (sym e ∙ z)).0

  -- and the rest of the refusals counts
  pub called_rest : Called s t → (rest : ℕ) → called s t rest ≡ rest
  called_rest a rest = sym (started s t rest a.thread (λ z. omega (arith, a.started)))

-- ---- after both

module _ (s : State) (m : Memory) (t : ℕ) where
  -- n is what check_caller answers
  pub caller_refused : {n : ℕ} → n ≡ admit s m t 0 → n ≢ 0 → (rest : ℕ) → n ≡ admit s m t rest
  caller_refused e h rest = cases (fits s m)
      (λ f. e ∙ fit_fitted s m f _ ∙ thread_refused s t refl (λ z. h (e ∙ fit_fitted s m f _ ∙ z)) rest ∙ sym (fit_fitted s m f _))
      (λ u. e ∙ unfit_fitted s m u _ ∙ sym (unfit_fitted s m u _))

  pub caller_admitted : {n : ℕ} → n ≡ admit s m t 0 → n ≡ 0 → Admitted s m t
  caller_admitted e z = (admitted s m t 0 (sym e ∙ z)).0

  pub admit_rest : Admitted s m t → (rest : ℕ) → admit s m t rest ≡ rest
  admit_rest a rest = fit_fitted s m a.supplied _ ∙ called_rest s t a.called rest
