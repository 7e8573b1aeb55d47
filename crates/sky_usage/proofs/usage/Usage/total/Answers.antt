use Rattle.sky_usage.proofs.KeptLaws.{total_end}
use Rattle.sky_usage.proofs.usage.Usage.total.Goals as goal

pub returns : goal.returns
returns c = total_end c.args.dir c.loop-name.total _ c.loop-name.name-iterator c.in-None.ensures.steps.0 c.loop-name.invariant.most c.loop-name.invariant.left
