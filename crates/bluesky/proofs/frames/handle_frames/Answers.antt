use Rattle.std.proofs.Common.{◌≡◌, ◌∙◌, refl, subst, arith}
use Rattle.sky_base.specs.declared.status.Status.TheVariants as status
use Rattle.sky_script.proofs.FrameLaws.{in_frame_bound}
use Rattle.bluesky.specs.Run.{frame_limit, IsOfDamage}
use Rattle.bluesky.specs.declared.frames.Stop.TheVariants as stop
use Rattle.bluesky.proofs.Going.{going_at_first, going_on}
use Rattle.bluesky.proofs.Endings.{err_counts, ok_not_err, other_err}
use Rattle.bluesky.proofs.Stopping.{ran_stopped, ran_long, ran_as, failed_blamed, sink_counts, source_blamed, stopped_replayed, stopped_sound}
use Rattle.bluesky.proofs.frames.handle_frames.Goals as goal

pub loop-init : goal.loop-init
loop-init g c = record {
  going = λ told found stands. going_at_first g.P.Storage c.args.world.settings told found c.args.world c.args.site.now (g.S.Source.left c.args.source.now) (g.K.Sink.written c.args.sink.now) stands;
  bounded = omega arith;
  ready = c.requires.going;
  serving = c.requires.serving;
  size = refl;
  source_still = refl;
  disk_still = refl;
  cloud_still = refl;
  sink_still = refl;
}

pub overflow_add-place : goal.overflow_add-place
overflow_add-place g c =
    let ok = c.in-Ok.ensures.ok in
    omega (arith, (in_frame_bound ok.0 ok.1).1, ok.2, c.loop.invariant.bounded)

pub loop-preserved : goal.loop-preserved
loop-preserved g c =
    let ok = c.in-Ok.ensures.ok in
    let n = c.next_frame.new in
    record {
      going = λ told found stands.
          going_on g.P.Storage c.args.world.settings told found c.loop.world c.args.site.now c.loop.site _ _ _ _ c.loop.place c.loop.counter (c.loop.invariant.going told found stands) n.world n.site _ _ c.in-Ok.length ok.0 ok.1 ok.2 ok.3 ok.4 ok.5;
      bounded = omega (arith, (in_frame_bound ok.0 ok.1).1, c.loop.invariant.bounded, ok.2);
      ready = c.in-Ok.ensures.going;
      serving = c.in-Ok.ensures.serving;
      size = c.next_frame.ensures.size ∙ c.loop.invariant.size;
      source_still = c.next_frame.ensures.source_cause.quiet (ok_not_err _ _ _ c.in-Ok.is) ∙ c.loop.invariant.source_still;
      disk_still = c.next_frame.ensures.journal_cause.quiet (ok_not_err _ _ _ c.in-Ok.is) ∙ c.loop.invariant.disk_still;
      cloud_still = c.next_frame.ensures.cloud_cause.quiet (ok_not_err _ _ _ c.in-Ok.is) ∙ c.loop.invariant.cloud_still;
      sink_still = c.next_frame.ensures.sink_cause.quiet (ok_not_err _ _ _ c.in-Ok.is) ∙ c.loop.invariant.sink_still;
    }

pub returns-in-Err-clause-ran : goal.returns-in-Err-clause-ran
returns-in-Err-clause-ran g c =
    λ told found stands s had before opened begun given.
    let n = c.next_frame.new in
    let left = g.S.Source.left in
    let written = g.K.Sink.written in
    let faults = g.K.Sink.faults in
    ran_stopped g.P.Storage c.args.world.settings told found c.loop.world s c.args.site.now c.loop.site n.site had (left c.args.source.now) (left c.loop.source) (left n.source)
    before (written c.args.sink.now) (written c.loop.sink) (written n.sink) (written c.finish.new.sink)
    c.loop.place c.loop.counter (faults c.args.sink.now) (faults n.sink) (faults c.finish.new.sink) opened begun given (c.loop.invariant.going told found stands) c.loop-test.true c.loop.invariant.disk_still c.loop.invariant.cloud_still
    c.in-Err.stop c.finish.result (let going = c.loop.invariant.going told found stands in c.in-Err.ensures.refused going.course.last going.stands)
    (λ other. c.next_frame.ensures.sink_cause.quiet (other_err _ _ _ c.in-Err.is other) ∙ c.loop.invariant.sink_still) c.in-Err.ensures.stopped c.finish.ensures.finishes

pub returns-in-Err-clause-replayed : goal.returns-in-Err-clause-replayed
returns-in-Err-clause-replayed g c = stopped_replayed c.in-Err.stop c.loop.place c.finish.result _ c.in-Err.ensures.statuses c.finish.ensures.finishes

pub returns-in-Err-clause-refused : goal.returns-in-Err-clause-refused
returns-in-Err-clause-refused g c =
    λ told found stands is damage.
    let written = g.K.Sink.written in
    let faults = g.K.Sink.faults in
    let n = c.next_frame.new.sink in
    let going = c.loop.invariant.going told found stands in
    stopped_sound c.in-Err.stop c.loop.place c.finish.result
    (record { before = written n; after = written c.finish.new.sink; faults_before = faults n; faults_after = faults c.finish.new.sink }) going.course.last (c.in-Err.ensures.refused going.course.last going.stands) (going.told_now ∙ is) c.finish.ensures.finishes damage

pub returns-in-Err-clause-source_cause : goal.returns-in-Err-clause-source_cause
returns-in-Err-clause-source_cause g c =
    err_counts c.next_frame.result c.in-Err.stop stop.SourceFault _ _ _ (c.finish.result ≡ status.SourceFault) c.in-Err.is c.loop.invariant.source_still c.next_frame.ensures.source_cause
    (source_blamed c.in-Err.stop c.loop.place c.finish.result _ c.in-Err.ensures.statuses c.finish.ensures.finishes)

pub returns-in-Err-clause-journal_cause : goal.returns-in-Err-clause-journal_cause
returns-in-Err-clause-journal_cause g c =
    err_counts c.next_frame.result c.in-Err.stop (stop.Failed status.JournalFault) _ _ _ (c.finish.result ≡ status.JournalFault) c.in-Err.is c.loop.invariant.disk_still c.next_frame.ensures.journal_cause
    (failed_blamed status.JournalFault tt c.in-Err.stop c.loop.place c.finish.result _ c.finish.ensures.finishes)

pub returns-in-Err-clause-cloud_cause : goal.returns-in-Err-clause-cloud_cause
returns-in-Err-clause-cloud_cause g c =
    err_counts c.next_frame.result c.in-Err.stop (stop.Failed status.CloudFault) _ _ _ (c.finish.result ≡ status.CloudFault) c.in-Err.is c.loop.invariant.cloud_still c.next_frame.ensures.cloud_cause
    (failed_blamed status.CloudFault tt c.in-Err.stop c.loop.place c.finish.result _ c.finish.ensures.finishes)

pub returns-in-Err-clause-sink_cause : goal.returns-in-Err-clause-sink_cause
returns-in-Err-clause-sink_cause g c =
    let faults = g.K.Sink.faults in
    sink_counts c.in-Err.stop c.loop.place c.finish.result _ _ (faults c.args.sink.now) (faults c.next_frame.new.sink) (faults c.finish.new.sink) c.in-Err.ensures.statuses
    (err_counts c.next_frame.result c.in-Err.stop (stop.Failed status.SinkFault) _ _ _ (c.in-Err.stop ≡ stop.Failed status.SinkFault) c.in-Err.is c.loop.invariant.sink_still c.next_frame.ensures.sink_cause (λ e. e, λ e. e))
    c.finish.ensures.grows c.finish.ensures.finishes

pub returns-clause-ran : goal.returns-clause-ran
returns-clause-ran g c =
    λ told found stands s had before opened begun given.
    let left = g.S.Source.left in
    let written = g.K.Sink.written in
    let faults = g.K.Sink.faults in
    let all : c.loop.counter ≡ frame_limit = omega arith in
    ran_as g.P.Storage c.args.world.settings s c.loop.site c.end_with.result status.Long _ _ c.end_with.ensures.status
    (ran_long g.P.Storage c.args.world.settings told found c.loop.world s c.args.site.now c.loop.site had (left c.args.source.now) (left c.loop.source) before (written c.args.sink.now) (written c.loop.sink) (written c.end_with.new.sink)
    c.loop.place c.loop.counter (faults c.args.sink.now) (faults c.loop.sink) (faults c.end_with.new.sink) opened begun given (c.loop.invariant.going told found stands) c.loop.invariant.disk_still c.loop.invariant.cloud_still all c.loop.invariant.sink_still c.end_with.ensures.gave)

pub returns-clause-refused : goal.returns-clause-refused
returns-clause-refused g c = λ told found stands is damage. subst IsOfDamage c.end_with.ensures.status damage
