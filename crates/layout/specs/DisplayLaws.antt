-- Rows: what a look at a depth says, and a row with one entry more, made entry by entry.
-- Assumes nothing.
use Rattle.std.specs.Prelude.{◌≡◌, refl, true, ◌≢◌, List, [], ◌∷◌, ℕ, zero, suc, ◌-◌, ◌<◌, eqb, ltb, get_or, set}
use Rattle.std.proofs.Common.{sym, ap, ◌∙◌, arith, ltb-true, ltb-false, eqb-true, lt-ltb, le-ltb}
use Rattle.std.proofs.lemmas.Bool.{eqb-false}
use Rattle.layout.specs.Choice.{pick, cases, and_true}
use Rattle.layout.specs.Display.{extended_row, row_holds}

-- what a look at a depth says
pub holds_entry : (row : List ℕ) (depth area : ℕ) → row_holds row depth area ≡ true → (0 < depth) × (get_or row (depth - 1) 0 ≡ area)
unfolding row_holds
holds_entry row depth area e =
    let p = and_true (ltb 0 depth) (eqb (get_or row (depth - 1) 0) area) e in
    (ltb-true 0 depth p.0, eqb-true (get_or row (depth - 1) 0) area p.1)

-- the row once the places below at are made
abbrev pub so_far : List ℕ → ℕ → ℕ → ℕ → List ℕ
so_far row last area at = pick (ltb last at) (extended_row row last area) row

set_get : (l : List ℕ) (i : ℕ) → set l i (get_or l i 0) ≡ l
set_get [] i = refl
set_get (x ∷ l) zero = refl
set_get (x ∷ l) (suc i) = ap (λ (k : List ℕ). x ∷ k) (set_get l i)

pub so_far_none : (row : List ℕ) (last area : ℕ) → row ≡ so_far row last area 0
so_far_none row last area = rw (le-ltb last 0 (omega arith)) refl

-- one place more
pub so_far_more : (row : List ℕ) (last area at : ℕ)
    → set (so_far row last area at) at (pick (eqb at last) area (get_or (so_far row last area at) at 0)) ≡ so_far row last area (suc at)
so_far_more row last area at = cases (eqb at last)
    (λ e. rw (e, ← eqb-true at last e, le-ltb at at (omega arith), lt-ltb at (suc at) (omega arith)) refl)
    (λ e. rw e (set_get (so_far row last area at) at ∙ ap (λ b. pick b (extended_row row last area) row) (past (eqb-false at last e))))
  where
    past : at ≢ last → ltb last at ≡ ltb last (suc at)
    past n = cases (ltb last at)
        (λ h. h ∙ sym (lt-ltb last (suc at) (omega (arith, ltb-true last at h))))
        (λ h. h ∙ sym (le-ltb last (suc at) (omega (arith, n, ltb-false last at h))))

pub so_far_all : (row : List ℕ) (last area at : ℕ) → last < at → so_far row last area at ≡ extended_row row last area
so_far_all row last area at h = rw (lt-ltb last at h) refl
