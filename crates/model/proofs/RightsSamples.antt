-- Samples of rights tables that may be loaded and of texts that may not, and of what a loaded table allows.
-- Assumes nothing.
use Prim.Native.Nat.{ℕ}
use mathlib.Core.List.{List, [], ◌∷◌, ◌++◌}
use mathlib.Core.Path.{◌≡◌, refl}
use lib.ListN.{set}
use Rattle.rights.specs.Rights.{text_of, built_in}
use Rattle.model.specs.Calls.{start, end, enter, allocate, load_rights}
use Rattle.model.specs.Run.{World, other, supplied_to, step}
use Rattle.model.proofs.SampleRuns.{answer, statuses, each, supplied, copies, first}

-- "Some sites let ordinary threads use immortal memory": f, f, 0 in place of f, 3, 0
pub site : List ℕ
site = text_of (0b1111 ∷ 0b1111 ∷ 0b0000 ∷ 0b1111 ∷ 0b1111 ∷ 0b1111 ∷ 0b0000 ∷ 0b1111 ∷ 0b1111 ∷ [])

-- the built-in digits, the site's, none and all are tables; 35 and 37 digits, a 2, a byte below 0, and A without U in the first and the last class are none
pub loads : each first (
    load_rights built_in ∷ load_rights site ∷ load_rights (copies 36 48) ∷ load_rights (copies 36 49)
    ∷ load_rights (copies 35 48) ∷ load_rights (copies 37 48) ∷ load_rights [] ∷ load_rights (built_in ++ 10 ∷ [])
    ∷ load_rights (set built_in 0 50) ∷ load_rights (set built_in 35 50) ∷ load_rights (set built_in 5 47)
    ∷ load_rights (set built_in 2 48) ∷ load_rights (set built_in 34 48) ∷ load_rights (set built_in 5 49) ∷ load_rights (set built_in 35 48) ∷ []
    )
    ≡ 0 ∷ 0 ∷ 0 ∷ 0 ∷ 23 ∷ 23 ∷ 23 ∷ 23 ∷ 23 ∷ 23 ∷ 23 ∷ 23 ∷ 23 ∷ 0 ∷ 0 ∷ []
unfolding each first site
loads = refl

-- "24 when any thread is started, after 23": the first, the last, and none any more
pub running : statuses first (start 0 2 ∷ load_rights site ∷ load_rights [] ∷ end 0 ∷ start 15 2 ∷ load_rights site ∷ end 15 ∷ load_rights site ∷ [])
    ≡ 0 ∷ 24 ∷ 23 ∷ 0 ∷ 0 ∷ 24 ∷ 0 ∷ 0 ∷ []
unfolding statuses first site
running = refl

-- ordinary threads enter and allocate in immortal memory by the site's table; a refused load leaves it, and the built-in one takes the right away
pub in_force : statuses first (
    start 1 1 ∷ enter 1 1 ∷ end 1
    ∷ load_rights site ∷ load_rights (copies 36 50) ∷ start 1 1 ∷ load_rights built_in ∷ enter 1 1 ∷ allocate 1 0 1 ∷ []
    )
    ≡ 0 ∷ 5 ∷ 0 ∷ 0 ∷ 23 ∷ 0 ∷ 24 ∷ 0 ∷ 0 ∷ []
unfolding statuses first site
in_force = refl

-- a load is lent no buffer: lent other lengths it is not refused by 1
pub unsupplied : each (supplied first (record { permanent = []; scratch = []; map = []; written = [] })) (load_rights site ∷ load_rights [] ∷ start 0 2 ∷ []) ≡ 0 ∷ 23 ∷ 1 ∷ []
unfolding each first site
unsupplied = refl

-- what stands beside a load in the list means nothing: the memory that is kept stays, and the load counts
pub beside : World
beside = step first (record { call = load_rights site; supplied = other (record { permanent = []; scratch = []; map = []; written = [] }) })

pub beside_is : (supplied_to first.state first.memory (load_rights site) (other (record { permanent = []; scratch = []; map = []; written = [] })) ≡ first.memory)
    × (beside.memory ≡ first.memory) × (beside.state.rights ≡ site)
unfolding answer first site beside
beside_is = (refl, refl, refl)
