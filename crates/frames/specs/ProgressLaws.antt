-- Laws of progress: a round more, and the end of a run.
-- Assumes nothing.
use Rattle.std.specs.Prelude.{ℕ, ◌+◌, ◌*◌, ◌≤◌, ◌<◌, ◌≡◌, refl, true, false, List, [], ◌∷◌, ◌++◌, leb, length, take}
use Rattle.std.proofs.Common.{arith, sym, subst, true≢false, append_assoc, append-nil, leb-true, leb-false, length-append, length-take-le}
use Rattle.lines.specs.declared.line.Line.{Line}
use Rattle.lines.specs.Lines.{Buffered, emptied}
use Rattle.line_answers.specs.Output.{first_world}
use Rattle.reader.specs.Feeding.{joined}
use Rattle.line_answers.specs.Answered.{Core, Represents}
use Rattle.reader.specs.Held.{held, Feeds, Finishes}
use Rattle.reader.specs.Program.{FedChunks, none, more}
use Rattle.rounds.specs.Steps.{Read, read, unread, Wrote, wrote, unwritten}
use Rattle.frames.specs.Progress.{all_steps, reserve, Spent, spent, failed, Stopped, at_end, too_few, Continues, no_chunk, last_chunk, Progress, Ran}

-- ---- whether another round follows

pub continues_not : (n steps : ℕ) → n ≡ 0 → Continues n steps false
continues_not n steps e = record { on = λ f. absurd (true≢false (sym f)); off = λ _. at_end e }

pub continues_by : (n steps : ℕ) → (n ≡ 0 → ⊥) → Continues n steps (leb reserve steps)
continues_by n steps p =
    record { on = λ e. (p, leb-true reserve steps e); off = λ e. too_few (leb-false reserve steps e) }

pub continues_first : Continues 1 all_steps true
continues_first = record { on = λ _. (λ e. omega (arith, e), omega arith); off = λ f. absurd (true≢false f) }

-- ---- steps are left for a round's write, and for the rest; fewer are left after a round

pub write_enough : (a b n : ℕ) → reserve ≤ a → n ≤ 16384 → Read a b n → 19 * n < b
write_enough a b n h m (read e) = omega (arith, h, m, e)
write_enough a b n h m (unread e z) = omega (arith, e, z)

pub rest_enough : (a b n s w : ℕ) → reserve ≤ a → n ≤ 16384 → w ≤ 19 * n → Read a b n → Wrote b s w → (s ≡ 0 → ⊥) → 19 < s
rest_enough a b n s w h m l (read r) (wrote e) p = omega (arith, h, m, l, r, e)
rest_enough a b n s w h m l (unread r z) (wrote e) p = absurd (p (omega (arith, r, e)))
rest_enough a b n s w h m l r (unwritten e) p = absurd (p e)

pub round_less : (a b n s w : ℕ) → reserve ≤ a → Read a b n → Wrote b s w → s < a
round_less a b n s w h (read r) (wrote e) = omega (arith, r, e)
round_less a b n s w h (unread r z) (wrote e) = omega (arith, h, r, e)
round_less a b n s w h r (unwritten e) = omega (arith, h, e)

-- ---- a round more

length_joined : (cs : List (List ℕ)) (c : List ℕ) → length (joined (cs ++ (c ∷ []))) ≡ length (joined cs) + length c
unfolding joined
length_joined [] c = omega (arith, length-append c [])
length_joined (d ∷ cs) c = omega (arith, length-append d (joined (cs ++ (c ∷ []))), length-append d (joined cs), length_joined cs c)

spent_more : (cs : List (List ℕ)) (w c t : List ℕ) (a b s : ℕ) → reserve ≤ a → Spent cs w a → Read a b (length c) → Wrote b s (length t)
    → Spent (cs ++ (c ∷ [])) (w ++ t) s
spent_more cs w c t a b s h (spent p) (read r) (wrote e) =
    spent (omega (arith, p, r, e, length-append cs (c ∷ []), length_joined cs c, length-append w t))
spent_more cs w c t a b s h (spent p) (unread r z) (wrote e) = failed (omega (arith, r, e))
spent_more cs w c t a b s h (spent p) r (unwritten e) = failed e
spent_more cs w c t a b s h (failed p) r e = absurd (omega (arith, h, p))

fed_more : {k k₁ k₂ : Core} {line line₁ line₂ : Line} {chunks : List (List ℕ)} {written chunk out out₁ : List ℕ} {n : ℕ}
    → FedChunks k line chunks written k₁ line₁
    → 19 * length chunk ≤ length out
    → Feeds (held k₁ line₁ out 0) (held k₂ line₂ out₁ n) chunk
    → FedChunks k line (chunks ++ (chunk ∷ [])) (written ++ take n out₁) k₂ line₂
fed_more {out₁ = out₁} {n = n} none r f = rw (sym (append-nil (take n out₁))) (more r f none)
fed_more {out₁ = out₁} {n = n} (more {out₁ = o} {n = m} {written = w} r' f' d) r f =
    rw (append_assoc (take m o) w (take n out₁)) (more r' f' (fed_more d r f))

pub progress_none : (k : Core) (line : Line) (c : List ℕ) → Progress k line k line c all_steps
unfolding joined
progress_none k line c = record { chunks = []; written = []; fed = none; last = no_chunk; steps_are = spent refl }

pub progress_more : {k₀ k k₁ : Core} {line₀ line line₁ : Line} {n a b s w : ℕ} {before chunk out out₁ : List ℕ}
    → Progress k₀ line₀ k line before a
    → reserve ≤ a
    → Read a b n
    → n ≡ length chunk
    → 19 * length chunk ≤ length out
    → Feeds (held k line out 0) (held k₁ line₁ out₁ w) chunk
    → Wrote b s w
    → Progress k₀ line₀ k₁ line₁ chunk s
progress_more {a = a} {b = b} {s = s} {w = w} {chunk = chunk} {out₁ = out₁} p h r e m f v =
    let z : w ≡ length (take w out₁) = sym (length-take-le w out₁ (omega (arith, f.room, f.long, m))) in
    record {
      chunks = p.chunks ++ (chunk ∷ []);
      written = p.written ++ take w out₁;
      fed = fed_more p.fed m f;
      last = last_chunk p.chunks;
      steps_are = spent_more p.chunks p.written chunk (take w out₁) a b s h p.steps_are (subst (Read a b) e r) (subst (Wrote b s) z v);
    }

-- ---- the end of a run

pub ran_failed : {k₀ k₁ : Core} {line₀ line₁ : Line} {input out₁ : List ℕ} {n kept : ℕ}
    → Represents k₀ first_world → Buffered line₀ [] → Progress k₀ line₀ k₁ line₁ (take n input) kept → Stopped n kept → 19 ≤ length out₁ → kept ≡ 0
    → Ran k₀ k₁ input out₁ (record { n = n; kept = kept; left = 0; sent = 0 })
ran_failed {out₁ = out₁} f z p s m e = record {
  line₀ = _;
  k₁ = _;
  line₁ = _;
  out₁ = out₁;
  first = f;
  empty = z;
  rounds = p;
  stopped = s;
  room = m;
  finishes = λ g. absurd (g e);
  fails = λ _. (refl, refl, refl);
}

pub ran_whole : {k₀ k₁ k₂ : Core} {line₀ line₁ : Line} {input out₁ out₂ : List ℕ} {n kept left sent : ℕ}
    → Represents k₀ first_world → Buffered line₀ [] → Progress k₀ line₀ k₁ line₁ (take n input) kept → Stopped n kept → 19 ≤ length out₁ → (kept ≡ 0 → ⊥)
    → Finishes (held k₁ line₁ out₁ 0) (held k₂ (emptied line₁) out₂ sent) → Wrote kept left sent
    → Ran k₀ k₂ input out₂ (record { n = n; kept = kept; left = left; sent = sent })
ran_whole {out₁ = out₁} f z p s m e g w = record {
  line₀ = _;
  k₁ = _;
  line₁ = _;
  out₁ = out₁;
  first = f;
  empty = z;
  rounds = p;
  stopped = s;
  room = m;
  finishes = λ _. (g, w);
  fails = λ n. absurd (e n);
}
