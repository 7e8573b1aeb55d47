use Rattle.std.proofs.Common.{refl, false, is_some, [], ◌∷◌}
use Rattle.sky_base.specs.declared.status.Status.TheVariants.{JournalFault, SinkFault}
use Rattle.sky_outside.proofs.ToldLaws.{Given-none}
use Rattle.sky_record.specs.Stream.{nothing}
use Rattle.sky_script.specs.Frame.{Closed}
use Rattle.sky_world.specs.Meaning.{frame_for}
use Rattle.sky_world.proofs.FeedLaws.{err_inside, fails_message, feeds_message, feeds_more, feeds_too_long, given_one, given_part_one}
use Rattle.sky_world.proofs.world.feed_once.Goals as goal

pub returns-in-More-clause-ok : goal.returns-in-More-clause-ok
returns-in-More-clause-ok g c = (
  [],
  feeds_more g.D.Storage c.args.session c.args.service.now c.args.disk.now c.args.assembler.now c.feed-taken.new.self _ c.feed-taken.result.1 c.in-More.is c.feed-taken.ensures.answer c.feed-taken.ensures.stream,
  Given-none (g.K.Sink.written c.args.sink.now),
)

pub returns-in-Ok-clause-ok : goal.returns-in-Ok-clause-ok
returns-in-Ok-clause-ok g c =
    let h = c.in-Ok.ensures.ok in
    let f = frame_for c.args.session h.0 in
    rw c.clear.ensures.empty (
      f ∷ [],
      feeds_message g.D.Storage c.args.session c.args.service.now c.answer_record.new.service c.args.disk.now c.answer_record.new.disk c.args.assembler.now c.feed-taken.new.self _ c.message-text.result.now h.0 c.feed-taken.result.1 c.in-Ok.stays c.in-Message.is
          c.feed-taken.ensures.stream c.message-text.ensures.bytes h.1 h.2,
      given_one _ _ f h.3,
    )

pub returns-in-Err-clause-partly : goal.returns-in-Err-clause-partly
returns-in-Err-clause-partly g c = λ e.
    let h = c.in-Err.ensures.partly (err_inside c.in-Err.status SinkFault e) in
    let f = frame_for c.args.session h.0 in (
      c.feed-taken.result.0,
      h.1,
      nothing,
      f ∷ [],
      is_some h.0,
      feeds_message g.D.Storage c.args.session c.args.service.now h.1 c.args.disk.now c.answer_record.new.disk c.args.assembler.now c.feed-taken.new.self _ c.message-text.result.now h.0 c.feed-taken.result.1 (is_some h.0) c.in-Message.is
          c.feed-taken.ensures.stream c.message-text.ensures.bytes h.2 refl,
      given_part_one _ _ f h.3,
    )

pub returns-in-Err-clause-fails : goal.returns-in-Err-clause-fails
returns-in-Err-clause-fails g c = λ e. (
  c.feed-taken.result.0,
  fails_message g.D.Storage c.args.service.now c.args.disk.now c.answer_record.new.disk c.args.assembler.now c.feed-taken.new.self _ c.message-text.result.now c.feed-taken.result.1 c.in-Message.is c.feed-taken.ensures.stream
      c.message-text.ensures.bytes (c.in-Err.ensures.fails (err_inside c.in-Err.status JournalFault e)),
)

pub returns-in-Ok-write_out_frame-clause-ok : goal.returns-in-Ok-write_out_frame-clause-ok
returns-in-Ok-write_out_frame-clause-ok g c = (
  Closed c.args.session ∷ [],
  feeds_too_long g.D.Storage c.args.session c.args.service.now c.args.disk.now c.args.assembler.now c.feed-taken.new.self _ c.feed-taken.result.1 c.in-TooLong.is c.feed-taken.ensures.answer c.feed-taken.ensures.stream,
  given_one _ _ (Closed c.args.session) c.in-Ok-write_out_frame.ensures.ok,
)

pub returns-in-Err-write_out_frame-clause-partly : goal.returns-in-Err-write_out_frame-clause-partly
returns-in-Err-write_out_frame-clause-partly g c = λ e. (
  c.feed-taken.result.0,
  c.args.service.now,
  c.feed-taken.new.self,
  Closed c.args.session ∷ [],
  false,
  feeds_too_long g.D.Storage c.args.session c.args.service.now c.args.disk.now c.args.assembler.now c.feed-taken.new.self _ c.feed-taken.result.1 c.in-TooLong.is c.feed-taken.ensures.answer c.feed-taken.ensures.stream,
  given_part_one _ _ (Closed c.args.session) c.in-Err-write_out_frame.ensures.partly,
)
