use Rattle.sky_args.proofs.WrittenLaws.{written_found, written_read}
use Rattle.sky_args.proofs.laws.written_arguments_are_read.Goals as goal

pub returns : goal.returns
returns c = record { found = written_found; read_again = written_read }
