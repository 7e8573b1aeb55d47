use Rattle.sky_args.proofs.ArgsLaws.{one_call, no_prefix}
use Rattle.sky_args.proofs.laws.arguments_have_one_reading.Goals as goal

pub returns : goal.returns
returns c = record { one_call = one_call; no_prefix = no_prefix }
