use Rattle.sky_show.proofs.Shows.{at_once}
use Rattle.sky_show.proofs.showing.show_behind.Goals as goal

pub returns-in-Err-clause-ran : goal.returns-in-Err-clause-ran
returns-in-Err-clause-ran g c = at_once c.in-Err.ending _ _ c.in-Err.ensures.endings
