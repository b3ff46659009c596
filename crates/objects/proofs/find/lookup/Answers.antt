-- `lookup` meets its contract: one law for each way that it ends.
use mathlib.Core.Path.{◌≡◌, ap, subst, sym, ◌∙◌}
use Prim.Native.Nat.{ℕ, ◌+◌, ◌-◌, ◌<◌, ◌≤◌}
use mathlib.Core.List.{List}
use lib.ListN.{length, get_or}
use native.Mathlib.Omega.{arith}
use borrow.Author.Rules.{rules}
use Rattle.std.specs.Prelude.{Option}
use Rattle.layout.specs.Choice.{pick}
use Rattle.layout.specs.HandleLaws.{area_lt}
use Rattle.model.specs.declared.Area.{Area}
use Rattle.model.specs.State.{State, Memory, is_scope}
use Rattle.tables.proofs.Laws.{area_read}
use Rattle.tables.specs.Decode.{state_of}
use Rattle.tables.specs.Contract.{memory_of}
use Rattle.objects.specs.declared.find.Resolved.{Resolved}
use Rattle.objects.specs.Fits.{StoresFitIn}
use Rattle.objects.specs.Found.{found_of, ends_of, RefusedAs}
use Rattle.objects.proofs.Places.{looked_up}
use Rattle.objects.proofs.Steps.{HandleRead, other_generation, past_used, word_low, word_in, bit_fits, bit_in_lem, no_bit, ends}
use Rattle.objects.proofs.find.lookup.Goals as goal
use Rattle.objects.proofs.find.lookup.Goals.{After-area_at-used, After-area_at-x, After-offset-offset, Else-mark-eq0, Else-used-offset}

low : (c : After-offset-offset) → c.area-area.result < 64
low c = rw c.area-area.ensures (area_lt c.args.handle)

pub area_at-x-requires : goal.area_at-x-requires
area_at-x-requires c = low (goal.at.area_at-x-requires c).After-offset-offset

abbrev state : After-area_at-x → State
state c = state_of c.args.words.now c.args.bytes.now

-- the lent buffers
abbrev memory : After-area_at-x → Memory
memory c = memory_of c.buffers.inside.permanent.now c.buffers.inside.scratch.now c.buffers.inside.map.now c.buffers.inside.written.now

read : (c : After-area_at-x) → HandleRead c.args.words.now c.args.bytes.now (memory c) c.args.handle c.area-area.result c.offset-offset.result c.area_at-x.result
read c = record {
  ready = c.requires.0;
  fitting = subst (StoresFitIn (state c)) (sym c.buffers.view_is) c.requires.1;
  area_is = c.area-area.ensures;
  offset_is = c.offset-offset.ensures;
  record_is = c.area_at-x.ensures ∙ sym (area_read c.args.words.now c.args.bytes.now c.area-area.result (low (goal.at.After-area_at-x c).After-offset-offset));
}

-- what it answers, by both clauses
answer : (c : After-area_at-x) {r : Option Resolved} → r ≡ found_of (state c) (memory c) c.args.handle
    → record { found : r ≡ found_of (state c) c.args.buffers.now c.args.handle; number : RefusedAs (state c) c.args.buffers.now c.args.handle r }
answer c e = looked_up (state c) c.args.buffers.now c.args.handle c.requires.0.good (e ∙ ap (λ (m : Memory). found_of (state c) m c.args.handle) c.buffers.view_is)

-- the used words are read once more, and are the same
used_is : (c : After-area_at-used) → c.area_at-used.result.used ≡ c.area_at-x.result.used
used_is c = ap (λ (x : Area). x.used) (c.area_at-used.ensures ∙ sym c.area_at-x.ensures)

within : (e : Else-used-offset) → e.offset-offset.result < e.area_at-x.result.used
within e = subst (λ (n : ℕ). e.offset-offset.result < n) (used_is (goal.at.Else-used-offset e).After-area_at-used) e.if-used-offset.false

pub returns-then-generation-x : goal.returns-then-generation-x
returns-then-generation-x c =
    let d = (goal.at.returns-then-generation-x c).After-area_at-x in
    answer d (other_generation _ _ _ _ _ _ _ (read d) _ c.generation.ensures c.if-generation-x.true)

pub area_at-used-requires : goal.area_at-used-requires
area_at-used-requires c = low (goal.at.area_at-used-requires c).After-offset-offset

pub returns-then-used-offset : goal.returns-then-used-offset
returns-then-used-offset c =
    let d = (goal.at.returns-then-used-offset c).After-area_at-x in
    answer d (past_used _ _ _ _ _ _ _ (read d) (subst (λ (n : ℕ). n ≤ c.offset-offset.result) (used_is (goal.at.returns-then-used-offset c).After-area_at-used) c.if-used-offset.true))

pub overflow_add-at : goal.overflow_add-at
overflow_add-at c = omega (arith, word_low _ _ _ _ _ _ _ (read (goal.at.overflow_add-at c).After-area_at-x) (within (goal.at.overflow_add-at c).Else-used-offset))

-- the place of the word in its store, and of its map bit
abbrev place : Else-used-offset → ℕ
place e = e.area_at-x.result.start + e.offset-offset.result

index : (e : Else-used-offset) → e.first_bit-first.result + place e ≡ pick (is_scope e.area-area.result) (length (memory (goal.at.Else-used-offset e).After-area_at-x).permanent) 0 + place e
index e = ap (λ (n : ℕ). n + place e) e.first_bit-first.ensures

pub overflow_add-bit : goal.overflow_add-bit
overflow_add-bit c = omega (arith, bit_fits _ _ _ _ _ _ _ (read (goal.at.overflow_add-bit c).After-area_at-x) (within (goal.at.overflow_add-bit c).Else-used-offset) _ (index (goal.at.overflow_add-bit c).Else-used-offset))

pub bit-mark-requires : goal.bit-mark-requires
bit-mark-requires c = bit_in_lem _ _ _ _ _ _ _ (read (goal.at.bit-mark-requires c).After-area_at-x) (within (goal.at.bit-mark-requires c).Else-used-offset) _ (index (goal.at.bit-mark-requires c).Else-used-offset)

pub returns-then-mark-eq0 : goal.returns-then-mark-eq0
returns-then-mark-eq0 c =
    let d = (goal.at.returns-then-mark-eq0 c).After-area_at-x in
    let e = (goal.at.returns-then-mark-eq0 c).Else-used-offset in
    answer d (no_bit _ _ _ _ _ _ _ (read d) (within e) _ (index e) (sym c.bit-mark.ensures ∙ c.if-mark-eq0.true))

in_store : (c : Else-mark-eq0) → place (goal.at.Else-mark-eq0 c).Else-used-offset < length c.store_of-store.result.now
in_store c =
    subst (λ (l : List ℕ). place (goal.at.Else-mark-eq0 c).Else-used-offset < length l) (sym c.store_of-store.ensures)
    (word_in _ _ _ _ _ _ _ (read (goal.at.Else-mark-eq0 c).After-area_at-x) (within (goal.at.Else-mark-eq0 c).Else-used-offset))

pub offset_bounds-store-at : goal.offset_bounds-store-at
offset_bounds-store-at c = let h = in_store c in search rules

pub bounds-store-at : goal.bounds-store-at
bounds-store-at c = in_store (goal.at.bounds-store-at c).Else-mark-eq0

pub returns : goal.returns
returns c =
    let d = (goal.at.returns c).After-area_at-x in
    let e = (goal.at.returns c).Else-used-offset in
    answer d
    (c.whole.ensures
    ∙ ap (λ (n : ℕ). ends_of (get_or c.store_of-store.result.now (place e) 0) c.area-area.result (place e) (c.first_bit-first.result + place e) (n - c.offset-offset.result)) (used_is (goal.at.returns c).After-area_at-used)
    ∙ ap (λ (l : List ℕ). ends_of (get_or l (place e) 0) c.area-area.result (place e) (c.first_bit-first.result + place e) (c.area_at-x.result.used - c.offset-offset.result)) c.store_of-store.ensures
    ∙ ends _ _ _ _ _ _ _ (read d) (within e) _ (index e)
    (sym c.generation.ensures ∙ c.if-generation-x.false)
    (λ z. c.if-mark-eq0.false (c.bit-mark.ensures ∙ z)))
