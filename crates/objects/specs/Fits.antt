-- What is lent to a function that reads no written bit: the stores and the start map, with the lengths of set-up.
-- Assumes nothing.
use Rattle.std.specs.Prelude.{ℕ, true, List, ◌≡◌, length}
use Rattle.model.specs.State.{State, Memory}
use Rattle.model.specs.Checks.{fits}
use Rattle.model.proofs.PlacedWords.{supplied_lengths}

-- they have the lengths of set-up
pub record StoresFit (s : State) (permanent scratch map : List ℕ) : Type 0 where
  pub permanent_is : length permanent ≡ s.lengths.permanent
  pub scratch_is : length scratch ≡ s.lengths.scratch
  pub map_is : length map ≡ s.lengths.map

-- of a memory, whatever its written map
abbrev pub StoresFitIn : State → Memory → Type 0
StoresFitIn s m = StoresFit s m.permanent m.scratch m.map

-- a call that has passed refusal 1
pub fits_stores : (s : State) (m : Memory) → fits s m ≡ true → StoresFitIn s m
fits_stores s m f =
    let l = supplied_lengths s m f in
    record { permanent_is = l.permanent; scratch_is = l.scratch; map_is = l.map }
