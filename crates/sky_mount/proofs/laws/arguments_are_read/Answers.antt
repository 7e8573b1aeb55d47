use Rattle.sky_mount.proofs.ArgsLaws.{args_again, args_took, args_end, encoded}
use Rattle.sky_mount.proofs.laws.arguments_are_read.Goals as goal

pub returns : goal.returns
returns c = record {
  read = args_again;
  only = λ procedure bytes call fits e. let took = args_took procedure bytes call fits e in (took.called, took.is);
  written = encoded;
  whole = args_end;
}
