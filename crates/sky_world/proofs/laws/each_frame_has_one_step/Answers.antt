use Rattle.sky_world.proofs.FrameLaws.{step_some, step_one}
use Rattle.sky_world.proofs.HistoryLaws.{step_may, step_told}
use Rattle.sky_world.proofs.laws.each_frame_has_one_step.Goals as goal

pub returns-clause-some : goal.returns-clause-some
returns-clause-some c = step_some

pub returns-clause-one : goal.returns-clause-one
returns-clause-one c = step_one

pub returns-clause-may : goal.returns-clause-may
returns-clause-may c = step_may

pub returns-clause-told : goal.returns-clause-told
returns-clause-told c = step_told
