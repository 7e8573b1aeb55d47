use Rattle.std.proofs.Common.{List, ℕ, ap, length, ◌≤◌, ◌∙◌, ◌-◌, arith}
use Rattle.std.proofs.lemmas.List.{length-take}
use Rattle.sky_rpc.specs.Reply.{Success, reply_record}
use Rattle.sky_world.proofs.ReplyLaws.{written_behind}
use Rattle.sky_world.proofs.reply.write_success.Goals as goal

pub returns-clause-written : goal.returns-clause-written
returns-clause-written c =
    let buffer = c.args.buf.now in
    let out = c.write_answer.new.buf in
    let n = c.unwrap-results.result in
    let all = rw c.unwrap.ensures at c.write_reply.ensures.written in
    let count = rw c.unwrap-results.ensures at c.write_answer.ensures.count in
    let written = rw c.unwrap-results.ensures at c.write_answer.ensures.written in
    let fits : n ≤ length out = omega (arith, count, ap length written, length-take n out) in
    all ∙ ap (λ (r : List ℕ). reply_record c.args.xid (Success r)) (written_behind buffer out 28 (length buffer - 28) n (omega (arith, c.requires.room)) fits ∙ written)
