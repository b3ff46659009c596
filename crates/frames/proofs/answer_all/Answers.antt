-- `answer_all` meets its contract.
use mathlib.Core.Path.{◌∙◌}
use native.Mathlib.Omega.{arith}
use Rattle.frames.specs.ProgressLaws.{continues_first, write_enough, rest_enough, round_less, progress_none, progress_more, ran_failed, ran_whole}
use Rattle.frames.proofs.answer_all.Goals as goal

pub loop-more-init : goal.loop-more-init
loop-more-init c =
    let p = c.requires.lent in
    record {
      ready = p.0;
      began = c.new-line.ensures;
      chunk = p.1;
      room = omega (arith, p.1, p.2);
      rounds = progress_none _ _ _;
      goes_on = continues_first;
      left = λ _. omega arith;
    }

pub read_chunk-n-requires : goal.read_chunk-n-requires
read_chunk-n-requires c =
    let v = c.loop-more.invariant in
    omega (arith, v.chunk, (v.goes_on.on c.loop-more-test.true).1)

pub answer_chunk-requires : goal.answer_chunk-requires
answer_chunk-requires c =
    let v = c.loop-more.invariant in
    let r = c.read_chunk-n in
    let h = (v.goes_on.on c.loop-more-test.true).1 in
    let e = write_enough _ _ _ h (omega (arith, v.chunk, r.auto.input, r.ensures.0.0)) r.ensures.1 in
    record {
      lent = (v.ready, omega (arith, v.chunk, v.room, r.auto.input, r.ensures.0.0, r.ensures.0.1));
      counted = omega (arith, e, r.ensures.0.1);
    }

pub loop-more-smaller : goal.loop-more-smaller
loop-more-smaller c =
    round_less _ _ _ _ _ (c.loop-more.invariant.goes_on.on c.loop-more-test.true).1 c.read_chunk-n.ensures.1 c.answer_chunk.ensures.wrote

pub loop-more-preserved : goal.loop-more-preserved
loop-more-preserved c =
    let v = c.loop-more.invariant in
    let h = (v.goes_on.on c.loop-more-test.true).1 in
    let r = c.read_chunk-n in
    let a = c.answer_chunk.ensures in
    let f = a.fed in
    record {
      ready = f.ready;
      began = v.began;
      chunk = r.auto.input ∙ v.chunk;
      room = omega (arith, f.long, v.room);
      rounds = progress_more v.rounds h r.ensures.1 r.ensures.0.1 (omega (arith, r.ensures.0.0, r.ensures.0.1, r.auto.input, v.chunk, v.room)) f a.wrote;
      goes_on = c.goes_on-more.ensures;
      left = rest_enough _ _ _ _ _ h (omega (arith, r.ensures.0.0, r.auto.input, v.chunk)) (omega (arith, f.room, r.ensures.0.1)) r.ensures.1 a.wrote;
    }

pub returns-then-kept-eq0 : goal.returns-then-kept-eq0
returns-then-kept-eq0 c =
    let v = c.loop-more.invariant in
    ran_failed c.requires.first v.began v.rounds (v.goes_on.off c.loop-more-test.false) (omega (arith, v.room)) c.if-kept-eq0.true

pub answer_rest-sent-requires : goal.answer_rest-sent-requires
answer_rest-sent-requires c =
    let v = c.loop-more.invariant in
    (v.ready, omega (arith, v.room), v.left c.if-kept-eq0.false)

pub returns : goal.returns
returns c =
    let v = c.loop-more.invariant in
    let a = c.answer_rest-sent.ensures in
    ran_whole c.requires.first v.began v.rounds (v.goes_on.off c.loop-more-test.false) (omega (arith, v.room)) c.if-kept-eq0.false a.ended a.wrote
