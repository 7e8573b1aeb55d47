use Rattle.std.proofs.Common.{refl}
use Rattle.sky_nfs.specs.Procedure.{procedure, tree_after, refusal_of}
use Rattle.sky_nfs.proofs.EpochLemmas.{answer_of-epoch}
use Rattle.sky_nfs.proofs.laws.epochs_are_told_by_write_verifiers.Goals as goal

pub returns-clause-tree : goal.returns-clause-tree
unfolding procedure
returns-clause-tree c = λ t epoch other cred call now. refl

pub returns-clause-answer : goal.returns-clause-answer
unfolding procedure
returns-clause-answer c = λ t epoch other cred call now. answer_of-epoch (refusal_of t cred call) t (tree_after t cred call now) epoch other cred call
