use Rattle.sky_usage.proofs.CountLaws.{is_sum, in_any_order, back_again}
use Rattle.sky_usage.proofs.laws.usage_is_a_sum.Goals as goal

pub returns-clause-sum : goal.returns-clause-sum
returns-clause-sum c = is_sum

pub returns-clause-order : goal.returns-clause-order
returns-clause-order c = in_any_order

pub returns-clause-back : goal.returns-clause-back
returns-clause-back c = back_again
