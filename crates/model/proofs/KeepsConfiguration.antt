-- The calls that replace a table keep the invariant, and touch no area, no thread and no row.
-- Assumes nothing.
use Prim.Native.Nat.{ℕ}
use mathlib.Core.List.{List}
use mathlib.Core.Path.{◌≡◌, refl}
use Rattle.rights.specs.Rights.{Loadable}
use Rattle.model.specs.State.{State, with_rights, display_at}
use Rattle.model.specs.Configuration.{load_rights_state}
use Rattle.model.specs.Calls.{Configuration, rights_table, configuring}
use Rattle.model.specs.History.{History}
use Rattle.model.specs.Invariant.{Good}
use Rattle.model.proofs.Accepted.{load_rights_ok}
use Rattle.model.proofs.Parts.{nesting_same, nested_good, good_rights}
use Rattle.model.proofs.Sound.{Same}
use Rattle.model.proofs.Alters.{Stays}

-- ---- the load of a rights table

module _ (s : State) (text : List ℕ) where
  pub good_load : Good s → Loadable text → Good (load_rights_state s text)
  unfolding load_rights_state with_rights display_at
  good_load g ok = nested_good (good_rights s g text ok) (nesting_same g.nesting (λ a. (refl, refl)) (λ a. refl) refl)

  load_stays : Stays s (load_rights_state s text)
  unfolding load_rights_state with_rights
  load_stays = record { lengths = refl; all = λ a. record { area = refl; row = refl } }

  load_same : (b : History) → Same s b → Same (load_rights_state s text) b
  unfolding load_rights_state with_rights
  load_same b e = record { kinds = e.kinds; rows = e.rows; parents = e.parents }

-- ---- any of them

pub good_configure : (s : State) (x : Configuration) → Good s → (configuring s x).status ≡ 0 → Good (configuring s x).state
good_configure s (rights_table text) g e = good_load s text g (load_rights_ok s text e)

pub configure_stays : (s : State) (x : Configuration) → Stays s (configuring s x).state
configure_stays s (rights_table text) = load_stays s text

pub configure_same : (s : State) (x : Configuration) (b : History) → Same s b → Same (configuring s x).state b
configure_same s (rights_table text) b e = load_same s text b e
