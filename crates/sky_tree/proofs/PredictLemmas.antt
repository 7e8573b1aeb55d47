-- What a handle names in the tree after a call, and the answers that say so.
use Rattle.std.proofs.Common.{◌≡◌, ◌≢◌, ℕ, List, Option, Some, None, Ok, Err, refl, sym, ap, true}
use Rattle.std.specs.Prelude.{unwrap_or}
use Rattle.std.proofs.lemmas.Bool.{eq-eqb}
use Rattle.sky_base.specs.declared.attr.Attr.{Attr}
use Rattle.sky_nfs.specs.declared.answer.Refused.{Refused}
use Rattle.sky_nfs.specs.declared.answer.WccData.{WccData}
use Rattle.sky_nfs.specs.declared.status.NfsStatus.{NfsStatus}
use Rattle.sky_nfs.specs.Changes.{edit}
use Rattle.sky_nfs.specs.Handles.{fileid_in, is_handle_of}
use Rattle.sky_nfs.specs.Results.{post_attributes, pre_attributes, results_or, wcc}
use Rattle.sky_nfs.specs.Tree.{Tree, Node, attributes_of, node_at, no_node, the_node}
use Rattle.sky_nfs.proofs.GrowLemmas.{node_at-with_node}
use Rattle.sky_nodes.proofs.MapLemmas.{node_at-with_other}

-- the node that was changed, and the others
pub at-edit : (t : Tree) (k : ℕ) (f : Node → Node) → node_at (edit t k f).nodes k ≡ Some (f (the_node t k))
at-edit t k f = rw (node_at-with_node t.nodes k (f (the_node t k)) k, eq-eqb k k refl) refl

pub beside-edit : (t : Tree) (k j : ℕ) (f : Node → Node) → k ≢ j → node_at (edit t k f).nodes j ≡ node_at t.nodes j
beside-edit t k j f apart = node_at-with_other t.nodes k (f (the_node t k)) j apart

-- a node that is there
pub the-node : (t : Tree) (k : ℕ) (n : Node) → node_at t.nodes k ≡ Some n → the_node t k ≡ n
the-node t k n at = ap (λ (o : Option Node). unwrap_or o no_node) at

-- a handle of the volume, whose node is there
pub stands : (u : Tree) (fh : List ℕ) (n : Node) (attr : Attr) → is_handle_of u.volume fh ≡ true → node_at u.nodes (fileid_in fh) ≡ Some n → attributes_of u.volume (fileid_in fh) n ≡ attr → post_attributes u fh ≡ Some attr
stands u fh n attr handle at is = rw (handle, at) (ap (λ (a : Attr). Some a) is)

-- the same where the node is the same
pub stays : (t u : Tree) (fh : List ℕ) → u.volume ≡ t.volume → node_at u.nodes (fileid_in fh) ≡ node_at t.nodes (fileid_in fh) → post_attributes u fh ≡ post_attributes t fh
stays t u fh volume at = rw (volume, at) refl

-- the answer where nothing is refused
pub done_wcc : (t u : Tree) (fh : List ℕ) (r : Option NfsStatus) (a : WccData) (attr : Attr) → None ≡ r → a ≡ record { before = pre_attributes t fh; after = Some attr } → post_attributes u fh ≡ Some attr
    → Ok a ≡ results_or r (wcc t u fh) (wcc t u fh)
done_wcc t u fh r a attr none is after = rw (sym none, after) (ap (λ (a : WccData). Ok a) is)

-- and where the call is refused
pub refused_wcc : {R : Type 0} (t u : Tree) (fh : List ℕ) (r : Option NfsStatus) (status : NfsStatus) (refused : Refused WccData) (results : R) → Some status ≡ r → u ≡ t
    → refused ≡ record { status = status; attributes = wcc t t fh } → Err refused ≡ results_or r results (wcc t u fh)
refused_wcc t u fh r status refused results some same is = rw (sym some, same) (ap (λ (r : Refused WccData). Err r) is)
