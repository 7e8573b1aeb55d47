-- What becomes of the nodes when one of them was lent.
use Rattle.std.specs.Prelude.{◌≡◌, ℕ, Option, Some, OnSome}
use Rattle.std.specs.Borrow.{LendsSo, MutBor, Fml}
use Rattle.sky_nfs.specs.Changes.{put}
use Rattle.sky_nfs.specs.Tree.{Tree, Node, node_at}
use Rattle.sky_nodes.specs.contracts.nodes.Nodes.{the_row}
use Rattle.sky_nodes.specs.contracts.node.Node as node

-- the nodes after a node of theirs was left with this value: where it is the value of before, all is as before
abbrev pub IsPut : Tree → Tree → ℕ → Node → Type 0
IsPut s n fileid w = (n ≡ put s fileid w) × (node_at s.nodes fileid ≡ Some w → n ≡ s)

-- the node of the fileid has the last value that was written, and all is unchanged where there is none
abbrev pub LendsNode : MutBor Tree → ℕ → Option (MutBor Node) → Fml
LendsNode s fileid r = LendsSo the_row node.the_row s r (λ n w. OnSome r (IsPut s.now n fileid w)) (λ n. n ≡ s.now)
