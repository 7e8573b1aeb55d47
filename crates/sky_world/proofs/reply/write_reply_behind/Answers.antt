use Rattle.std.specs.Option.{option_map}
use Rattle.std.proofs.Common.{◌-◌, length, take, arith}
use Rattle.sky_world.specs.Feeding.{Acknowledges, Answers}
use Rattle.sky_world.proofs.ReplyLaws.{behind}
use Rattle.sky_world.proofs.ServeLaws.{ok_map}
use Rattle.sky_world.proofs.WithinLaws.{acknowledges}
use Rattle.sky_world.proofs.reply.write_reply_behind.Goals as goal

pub returns-clause-answered : goal.returns-clause-answered
returns-clause-answered g c =
    behind c.write_reply_to.result (λ reply. Answers g.D.Storage c.args.service.now c.args.disk.now c.args.text.now reply c.write_reply_to.new.service c.write_reply_to.new.disk) c.args.buf.now c.write_reply_to.new.buf 9 (length c.args.buf.now - 9)
    (omega (arith, c.requires.room)) (omega (arith, c.write_reply_to.auto.buf, c.requires.room)) c.write_reply_to.ensures.within c.write_reply_to.ensures.answered

pub returns-clause-stable_before_reply : goal.returns-clause-stable_before_reply
returns-clause-stable_before_reply g c =
    let w = c.write_reply_to in
    behind w.result (λ reply. Acknowledges g.D.Storage c.args.service.now c.args.disk.now c.args.text.now reply w.new.disk) c.args.buf.now w.new.buf 9 (length c.args.buf.now - 9)
    (omega (arith, c.requires.room)) (omega (arith, w.auto.buf, c.requires.room)) w.ensures.within
    (ok_map w.result (λ wrote. Answers g.D.Storage c.args.service.now c.args.disk.now c.args.text.now (option_map (λ n. take n w.new.buf) wrote) w.new.service w.new.disk)
    (λ wrote. Acknowledges g.D.Storage c.args.service.now c.args.disk.now c.args.text.now (option_map (λ n. take n w.new.buf) wrote) w.new.disk)
    (λ wrote answered. acknowledges g.D.Storage c.args.service.now w.new.service c.args.disk.now w.new.disk c.args.text.now (option_map (λ n. take n w.new.buf) wrote) answered) w.ensures.answered)
