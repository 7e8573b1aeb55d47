use Rattle.sky_dir.proofs.CommandLemmas.{ascends_after, given_fresh, given_once, origin_of, same_after}
use Rattle.sky_dir.proofs.laws.no_cookie_is_used_again.Goals as goal

pub returns : goal.returns
returns c = record { ascends = ascends_after; fresh = given_fresh; once = given_once; origin = origin_of; same = same_after }
