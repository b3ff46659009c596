-- `add_bytes` meets its contract: bytes are kept, or only counted.
use Rattle.std.proofs.Common.{◌≡◌, ◌+◌, ◌-◌, ap, arith}
use Rattle.lines.specs.declared.line.Line.{Line}
use Rattle.lines.specs.LineLaws.{buffered_full, buffered_more}
use Rattle.lines.proofs.line.Line.add_bytes.Goals.{then-self-lt40, else-self-lt40}
use Rattle.lines.proofs.line.Line.add_bytes.Goals as goal

pub returns : goal.returns
returns c = λ l h.
    elim c.if-self-lt40.branch [
      | then-self-lt40 w ↦
          let e : c.if-self-lt40.self.len ≡ c.args.self.now.len = ap (λ (x : Line). x.len) w.self-is in
          rw (w.self-is, w.copy_from_slice.ensures.after)
          (buffered_more c.args.self.now l c.args.bytes.now h w.if-self-lt40.true (c.args.self.now.len + w.min-kept.result - c.args.self.now.len) w.min-kept.result c.min-self.result (omega arith) w.min-kept.ensures (omega (arith, e, c.min-self.ensures, c.saturating_add.ensures)))
      | else-self-lt40 w ↦
          let e : c.if-self-lt40.self.len ≡ c.args.self.now.len = ap (λ (x : Line). x.len) w.self-is in
          rw w.self-is
          (buffered_full c.args.self.now l c.args.bytes.now h w.if-self-lt40.false _ (omega (arith, e, c.min-self.ensures, c.saturating_add.ensures)))
    ]
