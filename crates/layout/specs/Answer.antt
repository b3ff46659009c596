-- The reply of a call: a value or a refusal, and the same in numbers.
-- Assumes nothing.
use Rattle.std.specs.Prelude.{ℕ, ◌≡◌, ◌≢◌, refl, Result, Ok, Err, List, [], ◌∷◌, get_or}
use Rattle.std.proofs.Common.{sym, ap, ◌∙◌, arith}
use Rattle.layout.specs.declared.answer.Answer.{Answer}
use Rattle.layout.specs.declared.answer.Refusal.{Refusal}
use Rattle.layout.specs.declared.answer.Refusal.TheVariants.{Lengths, Thread, Started, Kind, Right, Area, Made, Size, StackFull, Parent, Entries, Room, Object, Index, Target, Assignment, GenerationsOut, NoFrame, Unwritten, Open, Table, Running}

-- "Each call gives status 0 and a value, or a refusal and 0."
abbrev pub accepted : ℕ → Answer
accepted v = record { status = 0; value = v }

abbrev pub refused : ℕ → Answer
refused n = record { status = n; value = 0 }

-- the numbers of documents 01 and 02
abbrev pub number_of : Refusal → ℕ
number_of Lengths = 1
number_of Thread = 2
number_of Started = 3
number_of Kind = 4
number_of Right = 5
number_of Area = 6
number_of Made = 7
number_of Size = 8
number_of StackFull = 9
number_of Parent = 10
number_of Entries = 11
number_of Room = 12
number_of Object = 13
number_of Index = 14
number_of Target = 15
number_of Assignment = 16
number_of GenerationsOut = 17
number_of NoFrame = 18
number_of Unwritten = 19
number_of Open = 20
number_of Table = 23
number_of Running = 24

-- the status of a check or a call: 0 where it is not refused
abbrev pub status_of : {A : Type 0} → Result A Refusal → ℕ
status_of (Ok _) = 0
status_of (Err r) = number_of r

-- what a call answers, in numbers
abbrev pub answer_of : Result ℕ Refusal → Answer
answer_of (Ok v) = accepted v
answer_of (Err r) = refused (number_of r)

-- A check that passes x on, or refuses by k where k is not 0.
abbrev pub Verdict : {A : Type 0} → Result A Refusal → A → ℕ → Type 0
Verdict (Ok y) x k = (y ≡ x) × (k ≡ 0)
Verdict (Err r) x k = number_of r ≡ k

-- no refusal has the number of an accepted call
pub number_some : (r : Refusal) → number_of r ≢ 0
number_some Lengths e = omega arith
number_some Thread e = omega arith
number_some Started e = omega arith
number_some Kind e = omega arith
number_some Right e = omega arith
number_some Area e = omega arith
number_some Made e = omega arith
number_some Size e = omega arith
number_some StackFull e = omega arith
number_some Parent e = omega arith
number_some Entries e = omega arith
number_some Room e = omega arith
number_some Object e = omega arith
number_some Index e = omega arith
number_some Target e = omega arith
number_some Assignment e = omega arith
number_some GenerationsOut e = omega arith
number_some NoFrame e = omega arith
number_some Unwritten e = omega arith
number_some Open e = omega arith
number_some Table e = omega arith
number_some Running e = omega arith

-- the refusals by their numbers; where a number is none's, the last stands
abbrev refusals : List Refusal
refusals =
    Running ∷ Lengths ∷ Thread ∷ Started ∷ Kind ∷ Right ∷ Area ∷ Made ∷ Size ∷ StackFull ∷ Parent ∷ Entries ∷ Room ∷ Object ∷
    Index ∷ Target ∷ Assignment ∷ GenerationsOut ∷ NoFrame ∷ Unwritten ∷ Open ∷ Running ∷ Running ∷ Table ∷ Running ∷ []

abbrev refusal_at : ℕ → Refusal
refusal_at n = get_or refusals n Running

number_back : (r : Refusal) → refusal_at (number_of r) ≡ r
number_back Lengths = refl
number_back Thread = refl
number_back Started = refl
number_back Kind = refl
number_back Right = refl
number_back Area = refl
number_back Made = refl
number_back Size = refl
number_back StackFull = refl
number_back Parent = refl
number_back Entries = refl
number_back Room = refl
number_back Object = refl
number_back Index = refl
number_back Target = refl
number_back Assignment = refl
number_back GenerationsOut = refl
number_back NoFrame = refl
number_back Unwritten = refl
number_back Open = refl
number_back Table = refl
number_back Running = refl

-- refusals of one number are the same
pub number_one : (r r₁ : Refusal) → number_of r ≡ number_of r₁ → r ≡ r₁
number_one r r₁ e = sym (number_back r) ∙ ap refusal_at e ∙ number_back r₁

module _ {A : Type 0} (x : A) where
  -- what a check answers
  pub ok_verdict : {y : A} {k : ℕ} → y ≡ x → 0 ≡ k → Verdict (Ok y) x k
  ok_verdict e z = (e, sym z)

  pub err_verdict : (r : Refusal) {n k : ℕ} → number_of r ≡ n → n ≡ k → Verdict (Err r) x k
  err_verdict r e z = e ∙ z

  -- what its answer says
  pub verdict_ok : {y : A} {k : ℕ} → Verdict (Ok y) x k → (k ≡ 0) × (y ≡ x)
  verdict_ok d = (d.1, d.0)

  pub verdict_err : (r : Refusal) {k : ℕ} → Verdict (Err r) x k → (number_of r ≡ k) × (number_of r ≢ 0)
  verdict_err r d = (d, number_some r)

  -- there is one answer
  pub verdict_one : (c d : Result A Refusal) (k : ℕ) → Verdict c x k → Verdict d x k → c ≡ d
  verdict_one (Ok y) (Ok z) k e f = ap Ok (e.0 ∙ sym f.0)
  verdict_one (Ok y) (Err r) k e f = absurd (number_some r (f ∙ e.1))
  verdict_one (Err r) (Ok y) k e f = absurd (number_some r (e ∙ f.1))
  verdict_one (Err r) (Err q) k e f = ap Err (number_one r q (e ∙ sym f))
