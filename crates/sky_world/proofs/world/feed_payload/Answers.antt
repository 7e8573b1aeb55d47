use Rattle.std.proofs.Common.{◌∙◌, refl, arith}
use Rattle.sky_base.specs.declared.status.Status.TheVariants.{JournalFault, SinkFault}
use Rattle.sky_world.proofs.FeedLaws.{err_inside}
use Rattle.sky_world.proofs.PayloadLaws.{so_far_begins, so_far_on, so_far_closes, so_far_fails, so_far_down, so_far_whole}
use Rattle.sky_world.proofs.world.feed_payload.Goals as goal

pub loop-taken-init : goal.loop-taken-init
loop-taken-init g c = record {
  so_far = so_far_begins g.D.Storage c.args.session c.args.service.now c.args.disk.now c.args.assembler c.args.payload.now (g.K.Sink.written c.args.sink.now) c.requires.ready;
  serving = c.requires.serving;
  size = refl;
  quiet = refl;
  still = refl;
  cloud = refl;
  objects = refl;
}

pub loop-taken-preserved : goal.loop-taken-preserved
loop-taken-preserved g c =
    let h = c.in-Ok.ensures.ok in
    let l = c.loop-taken in
    record {
      so_far = so_far_on g.D.Storage c.args.session c.args.service.now c.args.disk.now c.args.assembler c.args.payload.now l.taken l.service l.disk l.assembler (g.K.Sink.written c.args.sink.now) (g.K.Sink.written l.sink)
          (g.K.Sink.written c.feed_once.new.sink) l.invariant.so_far c.in-Ok.count c.feed_once.new.service c.feed_once.new.disk c.feed_once.new.assembler h.0 c.in-Ok.stays c.if-not-stays.false (c.in-Ok.ensures.ready c.if-not-stays.false)
          c.in-Ok.ensures.taken h.1 h.2;
      serving = c.in-Ok.ensures.serving;
      size = c.in-Ok.ensures.size ∙ l.invariant.size;
      quiet = c.in-Ok.ensures.cause.quiet (λ e. absurd cc) ∙ l.invariant.quiet;
      still = c.in-Ok.ensures.disk_cause.quiet (λ e. absurd cc) ∙ l.invariant.still;
      cloud = c.in-Ok.ensures.cloud ∙ l.invariant.cloud;
      objects = c.in-Ok.ensures.objects ∙ l.invariant.objects;
    }

pub returns-then-not-stays-clause-ok : goal.returns-then-not-stays-clause-ok
returns-then-not-stays-clause-ok g c =
    let h = c.in-Ok.ensures.ok in
    let l = c.loop-taken in
    so_far_closes g.D.Storage c.args.session c.args.service.now c.args.disk.now c.args.assembler c.args.payload.now l.taken l.service l.disk l.assembler (g.K.Sink.written c.args.sink.now) (g.K.Sink.written l.sink)
    (g.K.Sink.written c.feed_once.new.sink) l.invariant.so_far c.in-Ok.count c.feed_once.new.service c.feed_once.new.disk c.feed_once.new.assembler h.0 c.in-Ok.stays c.if-not-stays.true
    (λ i. omega (arith, c.type_inv.payload i)) h.1 h.2

pub returns-in-Err-clause-partly : goal.returns-in-Err-clause-partly
returns-in-Err-clause-partly g c = λ e.
    let h = c.in-Err.ensures.partly (err_inside c.in-Err.status SinkFault e) in
    let l = c.loop-taken in
    so_far_fails g.D.Storage c.args.session c.args.service.now c.args.disk.now c.args.assembler c.args.payload.now l.taken l.service l.disk l.assembler (g.K.Sink.written c.args.sink.now) (g.K.Sink.written l.sink)
    (g.K.Sink.written c.feed_once.new.sink) l.invariant.so_far h.0 h.1 c.feed_once.new.disk h.2 h.3 h.4 (λ i. omega (arith, c.type_inv.payload i)) h.5 h.6

pub returns-in-Err-clause-fails : goal.returns-in-Err-clause-fails
returns-in-Err-clause-fails g c = λ e.
    let is = err_inside c.in-Err.status JournalFault e in
    let h = c.in-Err.ensures.fails is in
    let l = c.loop-taken in
    rw (c.in-Err.ensures.unwritten is)
    (so_far_down g.D.Storage c.args.session c.args.service.now c.args.disk.now c.args.assembler c.args.payload.now l.taken l.service l.disk l.assembler (g.K.Sink.written c.args.sink.now) (g.K.Sink.written l.sink)
    (g.K.Sink.written l.sink) l.invariant.so_far h.0 c.feed_once.new.disk h.1)

pub returns-clause-ok : goal.returns-clause-ok
returns-clause-ok g c =
    let l = c.loop-taken in
    so_far_whole g.D.Storage c.args.session c.args.service.now c.args.disk.now c.args.assembler c.args.payload.now l.taken l.service l.disk l.assembler (g.K.Sink.written c.args.sink.now) (g.K.Sink.written l.sink)
    (g.K.Sink.written l.sink) l.invariant.so_far (omega (arith, c.loop-taken-test.false)) (λ i. omega (arith, c.type_inv.payload i))
