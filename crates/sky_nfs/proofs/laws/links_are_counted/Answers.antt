use Rattle.std.specs.Prelude.{◌==◌}
use Rattle.std.proofs.lemmas.Bool.{eqb-true}
use Rattle.sky_nfs.specs.Tree.{links_of}
use Rattle.sky_nfs.proofs.ValidityLemmas.{each-node_at}
use Rattle.sky_nfs.proofs.laws.links_are_counted.Goals as goal

pub returns : goal.returns
returns c = λ t fileid node valid at. eqb-true _ _ (each-node_at (λ k n. n.nlink == links_of t k n) t.nodes fileid node valid.links at)
