use Rattle.std.proofs.Common.{refl, Some, None, take, drop}
use Rattle.sky_world.proofs.world.answer_record.Goals as goal

pub returns-in-Ok-clause-ok : goal.returns-in-Ok-clause-ok
returns-in-Ok-clause-ok g c =
    (Some (take c.in-Ok-Some.count (drop 9 c.write.new.self.bytes.items)), rw c.in-Ok-Some.field-0-is at c.in-Ok-Some.ensures.answered, refl, c.in-Ok.ensures.ok)

pub returns-in-Err-give-clause-partly : goal.returns-in-Err-give-clause-partly
returns-in-Err-give-clause-partly g c = λ e.
    (Some (take c.in-Ok-Some.count (drop 9 c.write.new.self.bytes.items)), c.write.new.service, rw c.in-Ok-Some.field-0-is at c.in-Ok-Some.ensures.answered, c.in-Err-give.ensures.partly)

pub returns-in-Err-write_out_frame-clause-partly : goal.returns-in-Err-write_out_frame-clause-partly
returns-in-Err-write_out_frame-clause-partly g c = λ e.
    (None, c.write.new.service, rw c.in-Ok-None.field-0-is at c.in-Ok-None.ensures.answered, c.in-Err-write_out_frame.ensures.partly)
