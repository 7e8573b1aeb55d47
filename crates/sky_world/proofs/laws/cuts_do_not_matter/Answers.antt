use Rattle.sky_world.proofs.CutLaws.{cut_step}
use Rattle.sky_world.proofs.laws.cuts_do_not_matter.Goals as goal

pub returns : goal.returns
returns c = λ memory old mid new session first second outs further has first_fits second_fits one two.
    cut_step memory old session first second outs further mid new has first_fits second_fits one two
