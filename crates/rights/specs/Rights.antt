-- The rights table: what a kind of thread may do with a class of area; the constant table, and the tables that may take its place.
-- Assumes nothing.
use Rattle.std.specs.Prelude.{ℕ, ◌+◌, ◌-◌, ◌*◌, ◌/◌, ◌%◌, ◌≤◌, ◌<◌, Bool, true, false, ◌&&◌, ◌||◌, List, [], ◌∷◌, ◌≡◌, ◌⊎◌, eqb, ltb, length, get_or}
use Rattle.layout.specs.Choice.{pick}
use Rattle.layout.specs.Below.{all_below}
use Rattle.rights.specs.declared.Right.{Right}
use Rattle.rights.specs.declared.Right.TheVariants.{Enter, Allocate, Use, Refer}

-- the classes of areas
pub data Class : Type 0 where
  Heap Immortal Scope : Class

-- "Area 0 is the heap, 1 immortal, 2 to 63 scopes."
unfoldable pub class_of : ℕ → Class
class_of area = pick (eqb area 0) Heap (pick (eqb area 1) Immortal Scope)

abbrev pub class_index : Class → ℕ
class_index Heap = 0
class_index Immortal = 1
class_index Scope = 2

-- "in the order E (enter), A (allocate in), U (use an object of), R (store or load a reference to)"
abbrev pub right_index : Right → ℕ
right_index Enter = 0
right_index Allocate = 1
right_index Use = 2
right_index Refer = 3

-- ---- a table is 36 text digits

-- the digits 0 and 1
abbrev pub digit0 : ℕ
digit0 = 48

abbrev pub digit1 : ℕ
digit1 = 49

-- three kinds, three classes, four rights
abbrev pub table_size : ℕ
table_size = 36

-- "36 text digits, ordered kind, class, right": the place of a kind from 1 to 3, a class and a right
abbrev pub place_of : ℕ → Class → Right → ℕ
place_of kind class right = (kind - 1) * 12 + class_index class * 4 + right_index right

-- "5: rights table has 0"; a kind that is not 1, 2 or 3 has no right
unfoldable pub allows : List ℕ → ℕ → Class → Right → Bool
allows table kind class right = pick (eqb kind 0) false (pick (ltb 3 kind) false (eqb (get_or table (place_of kind class right) 0) digit1))

-- the digits of the rights of classes, each a number of four bits: "E as bit 3 down to R as bit 0"
unfoldable pub text_of : List ℕ → List ℕ
text_of [] = []
text_of (n ∷ l) = (digit0 + n / 8 % 2) ∷ (digit0 + n / 4 % 2) ∷ (digit0 + n / 2 % 2) ∷ (digit0 + n % 2) ∷ text_of l

-- "A constant table gives each kind's rights by area class": kinds 1 ordinary, 2 real-time, 3 no-heap; for each heap, immortal, scope
unfoldable pub rights_rows : List ℕ
rights_rows =
    0b1111 ∷ 0b0011 ∷ 0b0000 ∷
    0b1111 ∷ 0b1111 ∷ 0b1111 ∷
    0b0000 ∷ 0b1111 ∷ 0b1111 ∷ []

unfoldable pub built_in : List ℕ
built_in = text_of rights_rows

-- ---- what may be loaded

-- "Loading allows only 0 and 1"
unfoldable pub is_binary : ℕ → Bool
is_binary c = eqb c digit0 || eqb c digit1

unfoldable pub only_binary : List ℕ → Bool
only_binary text = all_below (λ (i : ℕ). is_binary (get_or text i 0)) table_size

-- ".. and A only with U": in the four digits of class g, counted through all kinds
unfoldable pub allocator_uses : List ℕ → ℕ → Bool
allocator_uses text g = eqb (get_or text (g * 4 + right_index Allocate) 0) digit0 || eqb (get_or text (g * 4 + right_index Use) 0) digit1

unfoldable pub allocators_use : List ℕ → Bool
allocators_use text = all_below (allocator_uses text) 9

-- "23 when there are not 36 digits or they break these rules", as a test that a text passes
unfoldable pub is_table : List ℕ → Bool
is_table text = eqb (length text) table_size && (only_binary text && allocators_use text)

-- The same once more, by what a table says: its 36 digits are 0 or 1, and no kind may allocate in a class of areas whose objects it may not use.
pub record Loadable (table : List ℕ) : Type 0 where
  pub size : length table ≡ table_size
  pub binary : (i : ℕ) → i < table_size → (get_or table i 0 ≡ digit0) ⊎ (get_or table i 0 ≡ digit1)
  pub allocators : (kind : ℕ) (class : Class) → 0 < kind → kind ≤ 3 → allows table kind class Allocate ≡ true → allows table kind class Use ≡ true
