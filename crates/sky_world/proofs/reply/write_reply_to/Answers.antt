use Rattle.std.specs.Option.{option_map}
use Rattle.std.proofs.Common.{take, arith}
use Rattle.sky_world.specs.Feeding.{Answers, AnswersMessage}
use Rattle.sky_xdr.specs.Encoding.{AreBytes}
use Rattle.sky_world.proofs.ServeLaws.{answers_record, err_map, fails_record, ok_map, small_of}
use Rattle.sky_world.proofs.reply.write_reply_to.Goals as goal

pub write_message-requires-clause-small : goal.write_message-requires-clause-small
write_message-requires-clause-small g c =
    small_of c.read_message-message.result c.args.text.now (λ i. omega (arith, c.type_inv.text i)) c.requires.short c.read_message-message.ensures

pub returns-clause-answered : goal.returns-clause-answered
returns-clause-answered g c =
    let bytes : AreBytes c.args.text.now = λ i. omega (arith, c.type_inv.text i) in
    ok_map c.write_message.result (λ w. AnswersMessage g.D.Storage c.args.service.now c.args.disk.now c.read_message-message.result (option_map (λ n. take n c.write_message.new.buf) w) c.write_message.new.service c.write_message.new.disk)
    (λ w. Answers g.D.Storage c.args.service.now c.args.disk.now c.args.text.now (option_map (λ n. take n c.write_message.new.buf) w) c.write_message.new.service c.write_message.new.disk)
    (λ w answered. answers_record g.D.Storage c.read_message-message.result c.args.text.now (option_map (λ n. take n c.write_message.new.buf) w) c.args.service.now c.write_message.new.service c.args.disk.now c.write_message.new.disk bytes
    c.read_message-message.ensures answered) c.write_message.ensures.answered

pub returns-clause-fails : goal.returns-clause-fails
returns-clause-fails g c =
    let bytes : AreBytes c.args.text.now = λ i. omega (arith, c.type_inv.text i) in
    err_map c.write_message.result (λ fails. fails_record g.D.Storage c.read_message-message.result c.args.text.now c.args.service.now c.args.disk.now c.write_message.new.disk bytes c.read_message-message.ensures fails) c.write_message.ensures.fails
