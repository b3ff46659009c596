-- The contracts of a look-up and of the checks of a call on an object, over the tables w and b and the lent buffers m. None of them reads the
-- written map: by the laws `found_any`, `number_any` and `object_any` of proofs/Places and `use_any`, `index_any` and `word_any` of
-- proofs/Statuses the same holds whatever it is.
-- Assumes nothing.
use Rattle.std.specs.Prelude.{ℕ, List, ◌≡◌, Option, Result}
use Rattle.layout.specs.declared.answer.Refusal.{Refusal}
use Rattle.layout.specs.Answer.{Verdict, status_of}
use Rattle.model.specs.State.{State, Memory}
use Rattle.model.proofs.Accepted.{Called}
use Rattle.tables.specs.Decode.{state_of}
use Rattle.tables.specs.Contract.{Ready}
use Rattle.objects.specs.declared.find.Resolved.{Resolved}
use Rattle.objects.specs.declared.index.Part.{Part}
use Rattle.objects.specs.declared.index.WordPlace.{WordPlace}
use Rattle.objects.specs.Fits.{StoresFitIn}
use Rattle.objects.specs.Found.{object_of, found_of, RefusedAs}
use Rattle.objects.specs.Indexed.{word_of}

-- the stores and the start map have the lengths of set-up: the call has passed refusal 1
abbrev pub Fitting : List ℕ → List ℕ → Memory → Type 0
Fitting w b m = Ready w b × StoresFitIn (state_of w b) m

-- it has passed refusals 1 and 2
abbrev pub Admissible : List ℕ → List ℕ → Memory → ℕ → Type 0
Admissible w b m t = Ready w b × StoresFitIn (state_of w b) m × Called (state_of w b) t

-- a look-up found the object of handle h, or nothing
abbrev pub Finds : Option Resolved → List ℕ → List ℕ → Memory → ℕ → Type 0
Finds r w b m h = r ≡ found_of (state_of w b) m h

-- the number of what it found is that of refusal 13 or 15
abbrev pub Numbers : Option Resolved → List ℕ → List ℕ → Memory → ℕ → Type 0
Numbers r w b m h = RefusedAs (state_of w b) m h r

-- a check answered the first refusal of a chain
abbrev pub Refuses : {A : Type 0} → Result A Refusal → List ℕ → List ℕ → Memory → (State → Memory → ℕ) → Type 0
Refuses r w b m rest = status_of r ≡ rest (state_of w b) m

-- a check answered the object of handle p, or the first refusal of a chain
abbrev pub Checks : Result Resolved Refusal → List ℕ → List ℕ → Memory → ℕ → (State → Memory → ℕ) → Type 0
Checks r w b m p rest = Verdict r (object_of (state_of w b) m p) (rest (state_of w b) m)

-- a check answered where word q of a part of the object of handle p lies, or the first refusal of a chain
abbrev pub Indexes : Result WordPlace Refusal → List ℕ → List ℕ → Memory → ℕ → Part → ℕ → (State → Memory → ℕ) → Type 0
Indexes r w b m p part q rest = Verdict r (word_of part (state_of w b) m p q) (rest (state_of w b) m)
