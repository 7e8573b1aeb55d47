use Rattle.sky_results.proofs.AnswersOnce.{answer_same}
use Rattle.sky_results.proofs.laws.one_reading.Goals as goal

pub returns : goal.returns
returns c = answer_same
