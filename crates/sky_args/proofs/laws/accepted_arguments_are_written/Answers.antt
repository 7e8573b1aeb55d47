use Rattle.std.proofs.Common.{sym}
use Rattle.sky_args.proofs.SizeLaws.{accepted_fits, accepted_long}
use Rattle.sky_args.proofs.laws.accepted_arguments_are_written.Goals as goal

pub returns : goal.returns
returns c = record { fits = accepted_fits; as_long = λ bytes call is. sym (accepted_long bytes call is) }
