use Rattle.std.proofs.Common.{rules, arith}
use Rattle.sky_show.proofs.Shows.{and_then, and_stopped}
use Rattle.sky_show.proofs.showing.show_frames.Goals as goal

pub loop-preserved : goal.loop-preserved
loop-preserved g c =
    let ok = c.in-Ok.ensures.ok in
    let i = c.loop.invariant in
    record {
      shown = and_then c.loop.place c.loop.counter c.in-Ok.length _ _ _ _ _ _ ok.0 i.shown ok.1 ok.2 ok.3 ok.4;
      bounded = omega (arith, i.bounded, c.in-Ok.ensures.small);
      recording_still = search rules;
      answers_still = search rules;
      sink_still = search rules;
    }

pub returns-in-Err-clause-ran : goal.returns-in-Err-clause-ran
returns-in-Err-clause-ran g c =
    and_stopped c.loop.place c.loop.counter c.ending_at.result c.in-Err.stop _ _ _ _ _ _ c.loop.invariant.shown c.in-Err.ensures.stops c.ending_at.ensures c.in-Err.ensures.stopped
