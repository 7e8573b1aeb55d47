use Rattle.std.proofs.Common.{arith}
use Rattle.std.proofs.lemmas.Grind.{common_steps}
use Rattle.sky_results.proofs.Sizes.{nfs_fh3-parts}
use Rattle.sky_results.proofs.attributes.put_handle.Goals as goal

pub returns-clause-written : goal.returns-clause-written
returns-clause-written c = rw (nfs_fh3-parts c.args.handle) (grind (arith, common_steps))
