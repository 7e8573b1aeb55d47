use Rattle.sky_world.proofs.HistoryLaws.{step_goes_on, step_legal}
use Rattle.sky_world.proofs.laws.there_is_one_history.Goals as goal

pub returns-clause-legal : goal.returns-clause-legal
returns-clause-legal c = step_legal

pub returns-clause-goes_on : goal.returns-clause-goes_on
returns-clause-goes_on c = λ memory old new frame outs no step. step_goes_on memory old new frame outs no step
