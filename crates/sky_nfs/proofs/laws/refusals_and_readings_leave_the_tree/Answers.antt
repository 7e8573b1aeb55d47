use Rattle.sky_nfs.specs.Procedure.{procedure}
use Rattle.sky_nfs.proofs.ProcedureLemmas.{tree_after-refused, tree_after-reading}
use Rattle.sky_nfs.proofs.laws.refusals_and_readings_leave_the_tree.Goals as goal

pub returns-clause-refused : goal.returns-clause-refused
unfolding procedure
returns-clause-refused c = λ t epoch cred call now status e. tree_after-refused t cred call now status e

pub returns-clause-reading : goal.returns-clause-reading
unfolding procedure
returns-clause-reading c = λ t epoch cred call now e. tree_after-reading t cred call now e
