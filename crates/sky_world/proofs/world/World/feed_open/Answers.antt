use Rattle.std.proofs.Common.{◌≡◌}
use Rattle.sky_base.specs.declared.status.Status.TheVariants.{JournalFault, SinkFault}
use Rattle.sky_world.proofs.world.World.feed_open.Goals as goal

pub returns-in-Ok-clause-ok : goal.returns-in-Ok-clause-ok
returns-in-Ok-clause-ok g c = rw (← c.self.view_is) (c.in-Ok.next, c.in-Ok.ensures.ok, c.put.ensures)

pub returns-in-Err-clause-partly : goal.returns-in-Err-clause-partly
returns-in-Err-clause-partly g c = λ e. rw (← c.self.view_is) (c.in-Err.ensures.partly (let same : c.in-Err.status ≡ SinkFault = cc in cc))

pub returns-in-Err-clause-fails : goal.returns-in-Err-clause-fails
returns-in-Err-clause-fails g c = λ e. rw (← c.self.view_is) (c.in-Err.ensures.fails (let same : c.in-Err.status ≡ JournalFault = cc in cc))
