use Rattle.std.proofs.Common.{drop, arith, ◌-◌, length, length-drop, length-take, inl}
use Rattle.sky_record.specs.Stream.{IsOpen}
use Rattle.sky_record.specs.Feeding.{contents}
use Rattle.sky_record.proofs.Feeding.{reads_further, piece_read, not_ready}
use Rattle.sky_record.proofs.stream.feed_whole.Goals as goal

pub loop-taken-preserved : goal.loop-taken-preserved
loop-taken-preserved c =
    let p = c.args.piece.now in
    let more = c.in_ok-taken.field-0 in (
      omega (arith, c.in_ok-taken.ensures.taken, length-take (length p - c.loop-taken.taken) (drop c.loop-taken.taken p), length-drop c.loop-taken.taken p, c.loop-taken.invariant.0),
      reads_further c.args.assembler.now (contents c.args.records.now.items) (contents c.loop-taken.records.items) (contents c.feed_once.new.records.items) c.loop-taken.assembler c.feed_once.new.assembler c.loop-taken.taken more p
          c.loop-taken.invariant.1 c.in_ok-taken.ensures.reads,
    )

pub returns-else-is_ready : goal.returns-else-is_ready
returns-else-is_ready c = λ stream h.
    piece_read stream c.args.piece.now (contents c.loop-taken.records.items) c.loop-taken.assembler c.loop-taken.taken (c.loop-taken.invariant.1 stream h)
    (inl (not_ready c.is_ready.result (IsOpen c.loop-taken.assembler.progress) c.is_ready.ensures c.if-is_ready.false))
