use Rattle.sky_world.proofs.GoesLaws.{found_marked, step_marked, step_stays_marked}
use Rattle.sky_world.proofs.laws.the_mark_does_not_fall.Goals as goal

pub returns-clause-begins : goal.returns-clause-begins
returns-clause-begins c = λ told found. found_marked found

pub returns-clause-within : goal.returns-clause-within
returns-clause-within c = λ memory old new frame outs step marked. step_marked memory old new frame outs step marked

pub returns-clause-stays : goal.returns-clause-stays
returns-clause-stays c = λ memory old new frame outs no step marked. (step_stays_marked memory old new frame outs no step marked).0
