use Rattle.std.proofs.Common.{take}
use Rattle.sky_world.proofs.CallLaws.{answers_done, answers_no_memory, answers_put_off, fails_down, serving_still}
use Rattle.sky_world.proofs.reply.write_called.Goals as goal

pub returns-in-Done-clause-called : goal.returns-in-Done-clause-called
returns-in-Done-clause-called g c = λ state serves.
    answers_done g.D.Storage c.args.disk.now state c.args.service.now serves c.requires.serving.up.area c.args.change.now c.requires.moment c.answer.new.disk c.answer.new.self c.in-Done.answer c.in-Done.ensures.becomes
    c.args.xid c.args.procedure (take c.write_success.result c.write_success.new.buf) c.write_success.ensures.written

pub returns-in-Jukebox-clause-called : goal.returns-in-Jukebox-clause-called
returns-in-Jukebox-clause-called g c = λ state serves.
    answers_put_off g.D.Storage c.args.disk.now state c.args.service.now serves c.requires.serving.up.area c.args.change.now c.requires.moment c.answer.new.disk c.answer.new.self c.in-Jukebox.ensures.becomes.1
    c.args.xid c.args.procedure (take c.write_put_off.result c.write_put_off.new.buf) c.in-Jukebox.ensures.becomes.0 c.write_put_off.ensures.written

pub returns-in-Jukebox-clause-serving : goal.returns-in-Jukebox-clause-serving
returns-in-Jukebox-clause-serving g c =
    serving_still g.D.Storage c.args.service.now c.answer.new.self c.args.disk.now c.answer.new.disk c.in-Jukebox.ensures.becomes.1 c.requires.serving

pub returns-in-Memory-clause-called : goal.returns-in-Memory-clause-called
returns-in-Memory-clause-called g c = λ state serves.
    answers_no_memory g.D.Storage c.args.disk.now state c.args.service.now serves c.requires.serving.up.area c.args.change.now c.requires.moment c.answer.new.disk c.answer.new.self c.in-Memory.ensures.becomes.1
    c.args.xid c.args.procedure (take c.write_out_of_memory.result c.write_out_of_memory.new.buf) c.in-Memory.ensures.becomes.0 c.write_out_of_memory.ensures.written

pub returns-in-Memory-clause-serving : goal.returns-in-Memory-clause-serving
returns-in-Memory-clause-serving g c =
    serving_still g.D.Storage c.args.service.now c.answer.new.self c.args.disk.now c.answer.new.disk c.in-Memory.ensures.becomes.1 c.requires.serving

pub returns-in-Down-clause-fails : goal.returns-in-Down-clause-fails
returns-in-Down-clause-fails g c = λ state serves.
    fails_down g.D.Storage c.args.disk.now state c.args.service.now serves c.requires.serving.up.area c.args.change.now c.requires.moment c.answer.new.disk c.in-Down.ensures.becomes c.args.xid c.args.procedure
