-- The objects of an area lie end to end from word 0 to the used words. The list has the newest first.
-- Assumes nothing.
use Prim.Native.Nat.{ℕ, suc, ◌+◌, ◌/◌, ◌≤◌, ◌<◌}
use mathlib.Core.Bool.{Bool, true, false, true≢false}
use mathlib.Core.List.{List, [], ◌∷◌}
use mathlib.Core.Path.{◌≡◌, refl, sym, ap, ◌∙◌}
use mathlib.Core.Logic.{◌≢◌}
use lib.ListN.{length}
use lib.Dec.{ltb, eqb}
use native.Mathlib.Omega.{arith}
use borrow.Author.Tests.{ltb-true, ltb-false, eqb-true, eqb-false}
use Rattle.layout.specs.Choice.{cases}
use Rattle.layout.specs.Handle.{offset_of}
use Rattle.layout.specs.Header.{slots_of, data_of}
use Rattle.model.specs.History.{Object, occurrences, handles}
use Rattle.model.specs.Claims.{In, first, later}
use Rattle.model.proofs.Lists.{occ_same, occ_other, occ_more}

-- the offset of an object
abbrev pub place : Object → ℕ
place o = offset_of o.handle

-- the bits of a header above the data words
abbrev top_of : ℕ → ℕ
top_of w = w / 268435456

-- what a header says of its object: "s in bits 0 to 13, d in bits 14 to 27, the rest 0"
pub record IsHeader (w : ℕ) (o : Object) : Type 0 where
  pub slots : slots_of w ≡ o.slots
  pub data_words : data_of w ≡ o.data_words
  pub top : top_of w ≡ 0

-- object o, whose words end at n: wd has the area's words, bit its start bits, ok says which words a slot may hold, mk makes a handle
pub record Tile (wd : ℕ → ℕ) (bit : ℕ → Bool) (ok : ℕ → Type 0) (mk : ℕ → ℕ) (o : Object) (n : ℕ) : Type 0 where
  pub made : o.handle ≡ mk (place o)
  pub ends : suc (place o + o.slots + o.data_words) ≡ n
  pub head : IsHeader (wd (place o)) o
  pub on : bit (place o) ≡ true
  pub off : (j : ℕ) → place o < j → j < n → bit j ≡ false
  pub refs : (j : ℕ) → j < o.slots → ok (wd (suc (place o + j)))

abbrev pub Tiled : (ℕ → ℕ) → (ℕ → Bool) → (ℕ → Type 0) → (ℕ → ℕ) → List Object → ℕ → Type 0
Tiled wd bit ok mk [] n = n ≡ 0
Tiled wd bit ok mk (o ∷ os) n = Tile wd bit ok mk o n × Tiled wd bit ok mk os (place o)

-- what lies below n is as it was
pub tiled_frame : (wd wd' : ℕ → ℕ) (bit bit' : ℕ → Bool) (ok ok' : ℕ → Type 0) (mk : ℕ → ℕ) (os : List Object) (n : ℕ)
    → ((j : ℕ) → j < n → wd' j ≡ wd j) → ((j : ℕ) → j < n → bit' j ≡ bit j) → ((w : ℕ) → ok w → ok' w)
    → Tiled wd bit ok mk os n → Tiled wd' bit' ok' mk os n
tiled_frame wd wd' bit bit' ok ok' mk [] n f g k z = z
tiled_frame wd wd' bit bit' ok ok' mk (o ∷ os) n f g k z = (
  record {
    made = z.0.made;
    ends = z.0.ends;
    head = rw (f (place o) (omega (arith, z.0.ends))) z.0.head;
    on = g (place o) (omega (arith, z.0.ends)) ∙ z.0.on;
    off = λ j p q. g j q ∙ z.0.off j p q;
    refs = λ j p. k (wd' (suc (place o + j))) (rw (f (suc (place o + j)) (omega (arith, z.0.ends))) (z.0.refs j p));
  },
  tiled_frame wd wd' bit bit' ok ok' mk os (place o) (λ j p. f j (omega (arith, z.0.ends))) (λ j p. g j (omega (arith, z.0.ends))) k z.1,
)

-- a word at p is replaced, where no object starts, by one that a slot may hold
pub tiled_store : (wd wd' : ℕ → ℕ) (bit : ℕ → Bool) (ok : ℕ → Type 0) (mk : ℕ → ℕ) (p : ℕ) → bit p ≡ false → ok (wd' p)
    → (os : List Object) (n : ℕ) → ((j : ℕ) → j < n → j ≢ p → wd' j ≡ wd j) → Tiled wd bit ok mk os n → Tiled wd' bit ok mk os n
tiled_store wd wd' bit ok mk p e k [] n f z = z
tiled_store wd wd' bit ok mk p e k (o ∷ os) n f z = (
  record {
    made = z.0.made;
    ends = z.0.ends;
    head = rw (f (place o) (omega (arith, z.0.ends)) (λ q. true≢false (sym z.0.on ∙ ap bit q ∙ e))) z.0.head;
    on = z.0.on;
    off = z.0.off;
    refs = λ j q. cases (eqb (suc (place o + j)) p)
        (λ d. rw (eqb-true (suc (place o + j)) p d) k)
        (λ d. rw (f (suc (place o + j)) (omega (arith, z.0.ends)) (eqb-false (suc (place o + j)) p d)) (z.0.refs j q));
  },
  tiled_store wd wd' bit ok mk p e k os (place o) (λ j h. f j (omega (arith, z.0.ends))) z.1,
)

-- an object starts where a bit is set
pub tiled_at : (wd : ℕ → ℕ) (bit : ℕ → Bool) (ok : ℕ → Type 0) (mk : ℕ → ℕ) (os : List Object) (n : ℕ) (p : ℕ)
    → Tiled wd bit ok mk os n → p < n → bit p ≡ true → 0 < occurrences (mk p) (handles os)
tiled_at wd bit ok mk [] n p z h e = absurd (omega arith)
tiled_at wd bit ok mk (o ∷ os) n p z h e =
    cases
    (eqb (place o) p)
    (λ d. rw (z.0.made, eqb-true (place o) p d, occ_same (mk p) (handles os)) (omega arith))
    (λ d. occ_more (mk p) o.handle (handles os) (tiled_at wd bit ok mk os (place o) p z.1 (below d) e))
  where
    below : eqb (place o) p ≡ false → p < place o
    below d = cases (ltb p (place o))
        (λ q. ltb-true p (place o) q)
        (λ q. absurd (true≢false (sym e ∙ z.0.off p (omega (arith, ltb-false p (place o) q, eqb-false (place o) p d)) h)))

-- an object of the list, with its tile
pub tiled_in : {wd : ℕ → ℕ} {bit : ℕ → Bool} {ok : ℕ → Type 0} {mk : ℕ → ℕ} {o : Object} {os : List Object} (n : ℕ)
    → In o os → Tiled wd bit ok mk os n → (m : ℕ) × Tile wd bit ok mk o m × (m ≤ n)
tiled_in n first z = (n, z.0, omega arith)
tiled_in {wd} {bit} {ok} {mk} {o} n (later {x = x} i) z =
    let r : (m : ℕ) × Tile wd bit ok mk o m × (m ≤ place x) = tiled_in (place x) i z.1 in
    (r.0, r.1, omega (arith, r.2, z.0.ends))

-- what has handle h
pub handles_in : (h : ℕ) (os : List Object) → 0 < occurrences h (handles os) → (o : Object) × In o os × (o.handle ≡ h)
unfolding occurrences
handles_in h [] p = absurd (omega arith)
handles_in h (y ∷ os) p = cases (eqb y.handle h)
    (λ e. (y, first, eqb-true y.handle h e))
    (λ e.
    let z : (o : Object) × In o os × (o.handle ≡ h) = handles_in h os (rw (occ_other h y.handle (handles os) (eqb-false y.handle h e)) at p) in
    (z.0, later z.1, z.2))

pub tiled_has : (wd : ℕ → ℕ) (bit : ℕ → Bool) (ok : ℕ → Type 0) (mk : ℕ → ℕ) (os : List Object) (n : ℕ) (h : ℕ)
    → Tiled wd bit ok mk os n → 0 < occurrences h (handles os) → (o : Object) × (m : ℕ) × (o.handle ≡ h) × Tile wd bit ok mk o m × (m ≤ n) × In o os
tiled_has wd bit ok mk os n h z p =
    let k : (o : Object) × In o os × (o.handle ≡ h) = handles_in h os p in
    let t : (m : ℕ) × Tile wd bit ok mk k.0 m × (m ≤ n) = tiled_in n k.1 z in
    (k.0, t.0, k.2, t.1, t.2, k.1)

-- a word at p is replaced, which is a data word of the object with handle h
pub tiled_data : (wd wd' : ℕ → ℕ) (bit : ℕ → Bool) (ok : ℕ → Type 0) (mk : ℕ → ℕ) (p h : ℕ)
    → ((o : Object) → o.handle ≡ h → IsHeader (wd (place o)) o → (place o + o.slots < p) × (p ≤ place o + o.slots + o.data_words))
    → (os : List Object) (n : ℕ) → ((j : ℕ) → j < n → j ≢ p → wd' j ≡ wd j) → 0 < occurrences h (handles os) → Tiled wd bit ok mk os n → Tiled wd' bit ok mk os n
tiled_data wd wd' bit ok mk p h d [] n f q z = z
tiled_data wd wd' bit ok mk p h d (o ∷ os) n f q z =
    cases
    (eqb o.handle h)
    (λ e. let i : (place o + o.slots < p) × (p ≤ place o + o.slots + o.data_words) = d o (eqb-true o.handle h e) z.0.head in (
      tile (λ x. omega (arith, i.0)) (λ j k x. omega (arith, i.0)),
      tiled_frame wd wd' bit bit ok ok mk os (place o) (λ j k. f j (omega (arith, z.0.ends)) (λ x. omega (arith, i.0))) (λ j k. refl) (λ w k. k) z.1,
    ))
    (λ e.
    let r : 0 < occurrences h (handles os) = rw (occ_other h o.handle (handles os) (eqb-false o.handle h e)) at q in
    let b : p < place o = below r in
    (tile (λ x. omega arith) (λ j k x. omega arith), tiled_data wd wd' bit ok mk p h d os (place o) (λ j k. f j (omega (arith, z.0.ends))) r z.1))
  where
    below : 0 < occurrences h (handles os) → p < place o
    below r =
        let u : (x : Object) × (m : ℕ) × (x.handle ≡ h) × Tile wd bit ok mk x m × (m ≤ place o) × In x os = tiled_has wd bit ok mk os (place o) h z.1 r in
        omega (arith, (d u.0 u.2 u.3.head).1, u.3.ends, u.4)

    tile : (place o ≢ p) → ((j : ℕ) → j < o.slots → suc (place o + j) ≢ p) → Tile wd' bit ok mk o n
    tile a b = record {
      made = z.0.made;
      ends = z.0.ends;
      head = rw (f (place o) (omega (arith, z.0.ends)) a) z.0.head;
      on = z.0.on;
      off = z.0.off;
      refs = λ j k. rw (f (suc (place o + j)) (omega (arith, z.0.ends)) (b j k)) (z.0.refs j k);
    }

-- a new object on top
pub tiled_push : (wd wd' : ℕ → ℕ) (bit bit' : ℕ → Bool) (ok ok' : ℕ → Type 0) (mk : ℕ → ℕ) (os : List Object) (n : ℕ) (o : Object)
    → ((j : ℕ) → j < n → wd' j ≡ wd j) → ((j : ℕ) → j < n → bit' j ≡ bit j) → ((w : ℕ) → ok w → ok' w) → place o ≡ n
    → Tile wd' bit' ok' mk o (suc (n + o.slots + o.data_words))
    → Tiled wd bit ok mk os n → Tiled wd' bit' ok' mk (o ∷ os) (suc (n + o.slots + o.data_words))
tiled_push wd wd' bit bit' ok ok' mk os n o f g k e t z =
    (t, rw e (tiled_frame wd wd' bit bit' ok ok' mk os n f g k z))

-- an object ends below the one that was made after it, so two that share a word are one
module _ (wd : ℕ → ℕ) (bit : ℕ → Bool) (ok : ℕ → Type 0) (mk : ℕ → ℕ) where
  below_newer : {o : Object} {os : List Object} (x : Object) → In o os → Tiled wd bit ok mk os (place x) → place o + o.slots + o.data_words < place x
  below_newer {o} x i z =
      let t : (m : ℕ) × Tile wd bit ok mk o m × (m ≤ place x) = tiled_in (place x) i z in
      omega (arith, t.1.ends, t.2)

  pub tiled_apart : {o p : Object} {os : List Object} (n : ℕ) → In o os → In p os → Tiled wd bit ok mk os n
      → (k : ℕ) → place o ≤ k → k ≤ place o + o.slots + o.data_words → place p ≤ k → k ≤ place p + p.slots + p.data_words → o ≡ p
  tiled_apart n first first z k a b c d = refl
  tiled_apart {o} n first (later j) z k a b c d = absurd (omega (arith, below_newer o j z.1))
  tiled_apart {p = p} n (later i) first z k a b c d = absurd (omega (arith, below_newer p i z.1))
  tiled_apart n (later {x = x} i) (later j) z k a b c d = tiled_apart (place x) i j z.1 k a b c d

  -- and so are two with one handle
  pub tiled_one : {o p : Object} {os : List Object} (n : ℕ) → In o os → In p os → Tiled wd bit ok mk os n → o.handle ≡ p.handle → o ≡ p
  tiled_one {o} {p} n i j z e =
      let at : place o ≡ place p = ap offset_of e in
      tiled_apart n i j z (place o) (omega arith) (omega arith) (omega arith) (omega arith)

pub in_some : {o : Object} {os : List Object} → In o os → 0 < length os
in_some first = omega arith
in_some (later i) = omega (arith, in_some i)
