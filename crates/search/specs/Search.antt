-- Laws of the jumping search: what it knows before it looks at a run, and while it does.
-- Assumes nothing.
use Rattle.std.specs.Prelude.{ℕ, suc, ◌+◌, ◌-◌, ◌*◌, ◌≤◌, ◌<◌, false, List, ◌≡◌, refl, ◌≢◌, leb, ltb}
use Rattle.std.proofs.Common.{arith, eq-eqb, ne_eqb, leb-true, leb-false, ltb-true, ltb-false}
use Rattle.layout.specs.Choice.{cases}
use Rattle.bitmap.specs.Bitmap.{bit_at}
use Rattle.runs.specs.LowestRun.{is_run, lowest_run, is_clear}
use Rattle.runs.proofs.LowestRun.{no_run, lowest_one}

module _ (m : List ℕ) (n bits : ℕ) where
  -- before the run from `start` on is looked at: no lower start has one, the bits from there to bit `seen` were seen to be clear, and there were
  -- no more looks than bits up to there
  pub record Sought (start looks : ℕ) : Type 0 where
    pub inside : start ≤ bits
    pub lower : (q : ℕ) → q < start → q + n ≤ bits → is_run (is_clear m) q n ≡ false
    pub seen : ℕ
    pub past : start ≤ seen
    pub within : seen ≤ bits
    pub few : looks ≤ seen
    pub clear : (j : ℕ) → start ≤ j → j < seen → bit_at m j ≡ 0

  -- while it is looked at: its bits from bit k on are clear
  pub record Looking (start looks k : ℕ) : Type 0 where
    pub before : ℕ
    pub sought : Sought start before
    pub counted : looks + k ≡ before + n
    pub part : k ≤ n
    pub ends : start + n ≤ bits
    pub clear : (j : ℕ) → k ≤ j → j < n → bit_at m (start + j) ≡ 0

  pub sought_first : Sought 0 0
  sought_first = record {
    inside = omega arith;
    lower = λ q h. absurd (omega arith);
    seen = 0;
    past = omega arith;
    within = omega arith;
    few = omega arith;
    clear = λ j h l. absurd (omega arith);
  }

  pub looking_first : {start looks : ℕ} (left : ℕ) → left ≡ n → Sought start looks → start + n ≤ bits → Looking start looks left
  looking_first {start} {looks} left e s h = record {
    before = looks;
    sought = s;
    counted = omega arith;
    part = omega arith;
    ends = h;
    clear = λ j k l. absurd (omega arith);
  }

  -- the next bit is bit `at` of the map
  module _ {start looks at : ℕ} (low : start ≤ at) (l : Looking start looks (suc (at - start))) where
    -- b bits more are clear, and k are left
    pub looking_more : (b k : ℕ) → b + k ≡ suc (at - start) → ((j : ℕ) → j < b → bit_at m (at - j) ≡ 0) → Looking start (looks + b) k
    looking_more b k e z = record {
      before = l.before;
      sought = l.sought;
      counted = omega (arith, l.counted);
      part = omega (arith, l.part);
      ends = l.ends;
      clear = λ j p q. cases (ltb (at - start) j)
          (λ d. l.clear j (ltb-true (at - start) j d) q)
          (λ d.
          let h : j ≤ at - start = ltb-false (at - start) j d in
          let place : at - (at - start - j) ≡ start + j = omega arith in
          rw place at (z (at - start - j) (omega arith)));
    }

    -- it is set
    module _ (s : bit_at m at ≢ 0) where
      -- it was not seen before
      unseen : l.sought.seen ≤ at
      unseen = cases (leb l.sought.seen at)
          (λ d. leb-true l.sought.seen at d)
          (λ d. absurd (s (l.sought.clear at low (leb-false l.sought.seen at d))))

      -- a start up to it has a run that holds it
      lower_next : (q : ℕ) → q < suc at → q + n ≤ bits → is_run (is_clear m) q n ≡ false
      lower_next q h p = cases (ltb q start)
          (λ d. l.sought.lower q (ltb-true q start d) p)
          (λ d.
          let above : start ≤ q = ltb-false q start d in
          let place : q + (at - q) ≡ at = omega arith in
          no_run (is_clear m) q n (at - q) (omega (arith, l.part)) (rw place (ne_eqb (bit_at m at) 0 s)))

      pub sought_next : (next : ℕ) → next ≡ suc at → Sought next (looks + 1)
      sought_next next d = rw d record {
        inside = omega (arith, l.ends, l.part);
        lower = lower_next;
        seen = start + n;
        past = omega (arith, l.part);
        within = l.ends;
        few = omega (arith, l.counted, l.sought.few, unseen);
        clear = λ j h p.
            let place : start + (j - start) ≡ j = omega arith in
            rw place at (l.clear (j - start) (omega arith) (omega arith));
      }

  -- a whole run is clear
  pub found : {start looks : ℕ} → 0 < n → Looking start looks 0 → (start ≡ lowest_run (is_clear m) n bits) × (looks ≤ 2 * bits)
  found {start} some l = (
    lowest_one (is_clear m) n bits some record {
      bounded = omega (arith, l.ends);
      ends = λ ne. l.ends;
      run = λ ne j h. eq-eqb (bit_at m (start + j)) 0 (l.clear j (omega arith) h);
      lowest = l.sought.lower;
    },
    omega (arith, l.counted, l.ends, l.sought.few, l.sought.within),
  )

  -- no start is left
  pub none : {start looks : ℕ} → 0 < n → Sought start looks → bits < start + n → (bits ≡ lowest_run (is_clear m) n bits) × (looks ≤ 2 * bits)
  none {start} some s h = (
    lowest_one (is_clear m) n bits some record {
      bounded = omega arith;
      ends = λ ne. absurd (ne refl);
      run = λ ne. absurd (ne refl);
      lowest = λ q p l. s.lower q (omega arith) l;
    },
    omega (arith, s.few, s.within),
  )
