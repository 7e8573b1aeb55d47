use Rattle.sky_base.proofs.NameTextLaws.{same_name}
use Rattle.sky_base.proofs.laws.texts_are_of_one_name.Goals as goal

pub returns : goal.returns
returns c = same_name
