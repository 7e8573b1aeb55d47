use Rattle.sky_results.proofs.Bounds.{answer_most}
use Rattle.sky_results.proofs.laws.answers_are_bounded.Goals as goal

pub returns : goal.returns
returns c = answer_most
