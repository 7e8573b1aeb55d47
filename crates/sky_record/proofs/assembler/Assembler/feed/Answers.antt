use Rattle.std.proofs.Common.{subst, sym, take, drop, arith, ◌++◌, length-drop, length-take, length, refl, ◌-◌}
use Rattle.sky_record.specs.declared.assembler.Fed.{Fed}
use Rattle.sky_record.specs.Stream.{Whole, TooLong, IsOpen}
use Rattle.sky_record.specs.Feeding.{FedReads}
use Rattle.sky_record.proofs.Reading.{reads_on}
use Rattle.sky_record.proofs.Feeding.{goes_further, stops, not_ready}
use Rattle.sky_record.proofs.assembler.Assembler.feed.Goals as goal
use Rattle.sky_record.proofs.assembler.Assembler.feed.Goals.{then-loop-taken-test+else-is_ready, else-loop-taken-test}

pub loop-taken-preserved : goal.loop-taken-preserved
loop-taken-preserved c =
    let p = c.args.piece.now in
    goes_further c.args.self.now c.loop-taken.self c.take_some-taken.new.self c.loop-taken.taken c.take_some-taken.result p (take (length p - c.loop-taken.taken) (drop c.loop-taken.taken p)) refl c.loop-taken.invariant
    (c.take_some-taken.ensures.some (omega (arith, length-drop c.loop-taken.taken p, length-take (length p - c.loop-taken.taken) (drop c.loop-taken.taken p), c.loop-taken-test.true))) c.take_some-taken.ensures.taken c.take_some-taken.ensures.goes_on

pub returns-clause-stream : goal.returns-clause-stream
returns-clause-stream c = λ stream records h.
    let piece = take c.loop-taken.taken c.args.piece.now in
    subst (λ (a : Fed). FedReads a (stream ++ piece) records c.loop-taken.self) (sym c.answer.ensures)
    (reads_on stream piece records c.args.self.now c.loop-taken.self h c.requires.ready c.loop-taken.invariant.goes)

pub returns-clause-message : goal.returns-clause-message
returns-clause-message c = λ text count bytes before le long.
    stops text c.args.piece.now c.loop-taken.taken count c.loop-taken.self (record { bytes = bytes; progress = Whole }) (c.loop-taken.invariant.goes text before) long c.loop-taken.invariant.within le
    (λ o. elim c.loop-taken-test.branch [
      | then-loop-taken-test+else-is_ready w ↦ absurd (not_ready w.is_ready.result (IsOpen c.loop-taken.self.progress) w.is_ready.ensures w.if-is_ready.false o)
      | else-loop-taken-test w ↦ omega (arith, c.loop-taken.invariant.within, w.loop-taken-test.false)
    ]) (λ o. o)

pub returns-clause-too_long : goal.returns-clause-too_long
returns-clause-too_long c = λ text count bytes before le long.
    stops text c.args.piece.now c.loop-taken.taken count c.loop-taken.self (record { bytes = bytes; progress = TooLong }) (c.loop-taken.invariant.goes text before) long c.loop-taken.invariant.within le
    (λ o. elim c.loop-taken-test.branch [
      | then-loop-taken-test+else-is_ready w ↦ absurd (not_ready w.is_ready.result (IsOpen c.loop-taken.self.progress) w.is_ready.ensures w.if-is_ready.false o)
      | else-loop-taken-test w ↦ omega (arith, c.loop-taken.invariant.within, w.loop-taken-test.false)
    ]) (λ o. o)
