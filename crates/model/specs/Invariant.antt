-- The invariant of the state alone, which set-up gives and every call keeps, refused or not, whatever the lent words hold.
-- Assumes nothing.
use Rattle.std.specs.Prelude.{ℕ, suc, ◌+◌, ◌*◌, ◌/◌, ◌%◌, ◌≤◌, ◌<◌, List, [], ◌∷◌, map, ◌≡◌, ◌≢◌, length, get_or}
use Rattle.layout.specs.Choice.{pick}
use Rattle.layout.specs.Stack.{down}
use Rattle.bitmap.specs.Bitmap.{bit_at}
use Rattle.rights.specs.Rights.{Loadable}
use Rattle.model.specs.declared.Area.{Area}
use Rattle.model.specs.State.{Thread, State, no_thread, area_at, entries_of, innermost, is_scope, display_at}
use Rattle.model.specs.Blocks.{block_words, block_count, blocks_for, HasBlock}
use Rattle.model.specs.Scopes.{last_generation}
use Rattle.model.specs.History.{total}

-- ---- nesting

-- the scopes of a row: heap and immortal entries are passed over
unfoldable pub scopes_of : List ℕ → List ℕ
scopes_of [] = []
scopes_of (x ∷ l) = pick (is_scope x) (x ∷ scopes_of l) (scopes_of l)

-- the branch of the scope stack that a row ends in, the innermost scope first: what a scope that is opened on the row has as ancestors. Every
-- scope of the row is on it.
abbrev pub branch_of : List ℕ → List ℕ
branch_of row = scopes_of row

-- the first of a branch, 0 for none
abbrev pub first_item : List ℕ → ℕ
first_item [] = 0
first_item (a ∷ l) = a

-- scope a stands above the branch l: its parent is the first of it, and its display is itself and then the branch
pub record Link (parent : ℕ → ℕ) (display : ℕ → List ℕ) (a : ℕ) (l : List ℕ) : Type 0 where
  pub scope : 2 ≤ a
  pub area : a < 64
  pub parent_is : parent a ≡ first_item l
  pub display_is : display a ≡ a ∷ l

-- each entry of a row that is a scope stands above the branch of the entries below it
abbrev pub Nested : (ℕ → ℕ) → (ℕ → List ℕ) → List ℕ → Type 0
Nested parent display [] = Unit {0}
Nested parent display (x ∷ below) = (2 ≤ x → Link parent display x (branch_of below)) × Nested parent display below

-- over a parent, a display and a count for each area, and the stacks: each count is the number of entries, and each stack is nested
pub record Nesting (parent : ℕ → ℕ) (display : ℕ → List ℕ) (count : ℕ → ℕ) (stacks : List (List ℕ)) : Type 0 where
  pub size : length stacks ≡ 16
  pub counts : (a : ℕ) → 2 ≤ a → a < 64 → count a ≡ total a stacks
  pub nested : (t : ℕ) → t < 16 → Nested parent display (get_or stacks t [])

-- ---- threads

-- a stack of at most 32 entries, each an area; beside each the innermost scope as of it; a thread that is not started has none
pub record ThreadGood (h : Thread) : Type 0 where
  pub kind : h.kind < 4
  pub idle : h.kind ≡ 0 → h.len ≡ 0
  pub room : length h.entries ≡ 32
  pub inner_room : length h.inner ≡ 32
  pub fits : h.len ≤ 32
  pub areas : (k : ℕ) → k < h.len → get_or h.entries k 0 < 64
  pub inner_is : (k : ℕ) → k < h.len → get_or h.inner k 0 ≡ innermost (down h.entries (suc k))

-- a fact of each element of a list of a known length
pub record Each {ℓ κ} {A : Type ℓ} (P : A → Type κ) (d : A) (n : ℕ) (l : List A) : Type (ℓ ⊔ κ) where
  pub size : length l ≡ n
  pub each : (i : ℕ) → i < n → P (get_or l i d)

-- ---- areas

-- heap and immortal
pub record StandingGood (x : Area) : Type 0 where
  pub generation : x.generation ≡ 1
  pub count : x.count ≡ 0
  pub parent : x.parent ≡ 0
  pub depth : x.depth ≡ 0

-- a scope
pub record ScopeGood (x : Area) : Type 0 where
  pub generation : x.generation ≤ last_generation
  pub made : 0 < x.count → 0 < x.size
  pub begun : 0 < x.count → 0 < x.generation
  pub no_parent : x.count ≡ 0 → x.parent ≡ 0
  pub no_words : x.count ≡ 0 → x.used ≡ 0
  pub no_depth : x.count ≡ 0 → x.depth ≡ 0

-- a scope that has block k
pub record Owner (s : State) (k : ℕ) : Type 0 where
  pub scope : ℕ
  pub low : 2 ≤ scope
  pub high : scope < 64
  pub has : HasBlock (area_at s scope) k

-- Where the areas lie: heap, then immortal, fill the permanent store; scopes lie in whole blocks of scratch and share no word, and a used bit is 1 where a
-- scope has its block.
pub record Placed (s : State) : Type 0 where
  pub permanent : s.lengths.permanent ≤ 16384
  pub scratch : s.lengths.scratch ≤ 16384
  pub map : s.lengths.map ≡ (s.lengths.permanent + s.lengths.scratch + 63) / 64
  pub heap : (area_at s 0).start ≡ 0
  pub immortal : (area_at s 1).start ≡ (area_at s 0).size
  pub whole : (area_at s 0).size + (area_at s 1).size ≡ s.lengths.permanent
  pub bits : length s.used_bits ≡ 16
  pub aligned : (a : ℕ) → 2 ≤ a → a < 64 → (area_at s a).start % block_words ≡ 0
  pub below : (a : ℕ) → 2 ≤ a → a < 64 → (area_at s a).start + block_words * blocks_for (area_at s a).size ≤ block_words * block_count s
  pub used : (a : ℕ) → a < 64 → (area_at s a).used ≤ (area_at s a).size
  pub apart : (a c : ℕ) → 2 ≤ a → a < 64 → 2 ≤ c → c < 64 → a ≢ c
      → (j k : ℕ) → j < (area_at s a).size → k < (area_at s c).size → (area_at s a).start + j ≢ (area_at s c).start + k
  pub held : (a : ℕ) → 2 ≤ a → a < 64 → (k : ℕ) → HasBlock (area_at s a) k → bit_at s.used_bits k ≡ 1
  pub owned : (k : ℕ) → bit_at s.used_bits k ≢ 0 → Owner s k

-- ---- the whole

-- what is seen of a state
abbrev pub parent_in : State → ℕ → ℕ
parent_in s a = (area_at s a).parent

abbrev pub count_in : State → ℕ → ℕ
count_in s a = (area_at s a).count

abbrev pub stacks_in : State → List (List ℕ)
stacks_in s = map entries_of s.threads

-- its nesting
abbrev pub NestingIn : State → Type 0
NestingIn s = Nesting (parent_in s) (display_at s) (count_in s) (stacks_in s)

-- The areas, the rows, the threads and the rights table of s are good, each by itself, and n is nested. Between the stores of a call n is the state before it.
pub record GoodWith (n s : State) : Type 0 where
  pub areas : length s.areas ≡ 64
  pub rows : Each (λ (r : List ℕ). length r ≡ 32) [] 64 s.rows
  pub threads : Each ThreadGood no_thread 16 s.threads
  pub standing : (a : ℕ) → a < 2 → StandingGood (area_at s a)
  pub scopes : (a : ℕ) → 2 ≤ a → a < 64 → ScopeGood (area_at s a)
  pub placed : Placed s
  pub rights : Loadable s.rights
  pub nesting : NestingIn n

-- the invariant: both of one state
abbrev pub Good : State → Type 0
Good s = GoodWith s s
