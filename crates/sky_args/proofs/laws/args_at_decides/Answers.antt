use Rattle.sky_args.proofs.ArgsLaws.{args_again, args_sound, args_none}
use Rattle.sky_args.proofs.laws.args_at_decides.Goals as goal

pub returns : goal.returns
returns c = record { accepted = args_again; found = args_sound; no_such_proc = args_none }
