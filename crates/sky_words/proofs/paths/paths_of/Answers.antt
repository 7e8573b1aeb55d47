use Rattle.sky_words.proofs.Lines.{same_fault}
use Rattle.sky_words.proofs.paths.paths_of.Goals as goal

pub returns-in-Err-clause-refused : goal.returns-in-Err-clause-refused
returns-in-Err-clause-refused c = same_fault c.in-Err.fault _ c.in-Err.ensures.refused
