-- A display: the row of a scope's ancestors, outermost first, itself last.
-- Assumes nothing.
use Rattle.std.specs.Prelude.{Bool, ◌&&◌, List, ℕ, ◌-◌, eqb, ltb, get_or, set}

-- "the row of its ancestors, outermost first, itself last": the parent's row, which has `depth` entries, with one entry more
abbrev pub extended_row : List ℕ → ℕ → ℕ → List ℕ
extended_row row depth area = set row depth area

-- whether a display "holds A": an area stands in the row at its depth; depth 0 is none (heap, immortal, a scope that is not open)
unfoldable pub row_holds : List ℕ → ℕ → ℕ → Bool
row_holds row depth area = ltb 0 depth && eqb (get_or row (depth - 1) 0) area
