use Rattle.sky_mount.proofs.ResultsLaws.{mounts, apart}
use Rattle.sky_mount.proofs.laws.results_are_told_apart.Goals as goal

pub returns : goal.returns
returns c = record { mounts = mounts; results = apart }
