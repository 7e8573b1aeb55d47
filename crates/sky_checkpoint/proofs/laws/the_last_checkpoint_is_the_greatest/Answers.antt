use Rattle.sky_checkpoint.proofs.ListingLaws.{last_listed, none_computed}
use Rattle.sky_checkpoint.proofs.laws.the_last_checkpoint_is_the_greatest.Goals as goal

pub returns-clause-last : goal.returns-clause-last
returns-clause-last c = last_listed

pub returns-clause-none : goal.returns-clause-none
returns-clause-none c = none_computed
