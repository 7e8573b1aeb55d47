use Rattle.sky_world.proofs.RestartLaws.{shows_completed, shows_prefix}
use Rattle.sky_world.proofs.laws.a_restart_shows_a_prefix.Goals as goal

pub returns-clause-shown : goal.returns-clause-shown
returns-clause-shown c = λ memory old new outs told marked step. shows_prefix old new outs told marked step

pub returns-clause-covered : goal.returns-clause-covered
returns-clause-covered c = λ memory old new outs told marked step. shows_completed old new outs told marked step
