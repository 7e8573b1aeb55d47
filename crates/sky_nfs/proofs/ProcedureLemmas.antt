-- What leaves the tree.
use Rattle.std.proofs.Common.{◌≡◌, Option, Some, None, refl, false}
use Rattle.sky_base.specs.declared.cred.Cred.{Cred}
use Rattle.sky_base.specs.declared.moment.Moment.{Moment}
use Rattle.sky_nfs.specs.declared.call.Call.{Call}
use Rattle.sky_nfs.specs.declared.call.Call.TheVariants.{SetAttr, Write, Create, Mkdir, Symlink, Remove, Rmdir, Rename, Link}
use Rattle.sky_nfs.specs.declared.status.NfsStatus.{NfsStatus}
use Rattle.sky_nfs.specs.Calls.{is_change}
use Rattle.sky_nfs.specs.Procedure.{tree_after, refusal_of, changed_tree}
use Rattle.sky_nfs.specs.Tree.{Tree}

-- a refusal leaves the tree
pub tree_after-refused : (t : Tree) (cred : Cred) (call : Call) (now : Moment) (status : NfsStatus) → refusal_of t cred call ≡ Some status → tree_after t cred call now ≡ t
unfolding tree_after
tree_after-refused t cred call now status e = rw e

-- where nothing is refused the tree is the changed one
pub tree_after-done : (t : Tree) (cred : Cred) (call : Call) (now : Moment) → refusal_of t cred call ≡ None → tree_after t cred call now ≡ changed_tree t cred call now
unfolding tree_after
tree_after-done t cred call now e = rw e

-- a reading has no change
pub changed_tree-reading : (t : Tree) (cred : Cred) (call : Call) (now : Moment) → is_change call ≡ false → changed_tree t cred call now ≡ t
unfolding changed_tree
changed_tree-reading t cred (SetAttr object set guard) now e = cc
changed_tree-reading t cred (Write file offset count how piece) now e = cc
changed_tree-reading t cred (Create at how) now e = cc
changed_tree-reading t cred (Mkdir at set) now e = cc
changed_tree-reading t cred (Symlink at set text) now e = cc
changed_tree-reading t cred (Remove at) now e = cc
changed_tree-reading t cred (Rmdir at) now e = cc
changed_tree-reading t cred (Rename from to) now e = cc
changed_tree-reading t cred (Link file at) now e = cc
changed_tree-reading t cred _ now e = refl

-- a reading leaves the tree
pub tree_after-reading : (t : Tree) (cred : Cred) (call : Call) (now : Moment) → is_change call ≡ false → tree_after t cred call now ≡ t
tree_after-reading t cred call now e = go (refusal_of t cred call) refl
  where
    go : (r : Option NfsStatus) → refusal_of t cred call ≡ r → tree_after t cred call now ≡ t
    go None h = rw (tree_after-done t cred call now h) (changed_tree-reading t cred call now e)
    go (Some status) h = tree_after-refused t cred call now status h
