use Rattle.bluesky.proofs.Endings.{ending_from}
use Rattle.bluesky.proofs.ending.end_with.Goals as goal

pub returns-clause-gave : goal.returns-clause-gave
returns-clause-gave g c =
    ending_from c.write_out_frame.result c.args.status (g.K.Sink.written c.args.sink.now) (g.K.Sink.written c.write_out_frame.new.sink) (g.K.Sink.faults c.args.sink.now) (g.K.Sink.faults c.write_out_frame.new.sink) c.write_out_frame.ensures.ok c.write_out_frame.ensures.partly c.write_out_frame.ensures.cause
