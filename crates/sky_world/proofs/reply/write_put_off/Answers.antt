use Rattle.sky_nfs.specs.declared.status.NfsStatus.TheVariants.{Jukebox}
use Rattle.sky_world.proofs.FitLaws.{bare_fits}
use Rattle.sky_world.proofs.reply.write_put_off.Goals as goal

pub write_success-requires-clause-fits : goal.write_success-requires-clause-fits
write_success-requires-clause-fits c = rw c.bare_answer-answer.ensures (bare_fits c.args.procedure Jukebox)
