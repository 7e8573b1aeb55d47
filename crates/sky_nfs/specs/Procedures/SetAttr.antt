-- SETATTR, RFC 1813 section 3.3.2: sets attributes of an object.
use Rattle.std.specs.Prelude.{ℕ, Bool, true, false, not, ◌&&◌, ◌||◌, ◌==◌, List, [], ◌∷◌, ◌++◌, Option, Some, None, is_some}
use Rattle.sky_base.specs.declared.cred.Cred.{Cred}
use Rattle.sky_base.specs.declared.cred.Want.TheVariants.{Write}
use Rattle.sky_base.specs.declared.moment.Moment.{Moment}
use Rattle.sky_nfs.specs.declared.call.SetAttr.{SetAttr}
use Rattle.sky_nfs.specs.declared.call.SetTime.{SetTime}
use Rattle.sky_nfs.specs.declared.call.SetTime.TheVariants.{Keep, Server, Client}
use Rattle.sky_nfs.specs.declared.status.NfsStatus.TheVariants.{NotSync, Inval, Perm, IsDir, Acces, FBig}
use Rattle.sky_nfs.specs.Tree.{Tree, Node, the_node, is_directory, is_link}
use Rattle.sky_nfs.specs.Handles.{fileid_in}
use Rattle.sky_nfs.specs.Rules.{Rules, handle_rules, lacks, lacks_unless_owner, is_stranger, has_bad_time, may_not_set_owners, is_too_big}
use Rattle.sky_nfs.specs.Changes.{edit, stamp, with_attributes, with_size}

-- whether a guard is given, and isn't the object's ctime
abbrev pub guard_differs : Option Moment → Moment → Bool
guard_differs None ctime = false
guard_differs (Some guard) ctime = not (guard.seconds == ctime.seconds && guard.nanos == ctime.nanos)

-- whether a time is set to one of the caller's
abbrev pub is_client_time : SetTime → Bool
is_client_time Keep = false
is_client_time Server = false
is_client_time (Client time) = true

-- whether a time is set to the server's
abbrev pub is_server_time : SetTime → Bool
is_server_time Keep = false
is_server_time Server = true
is_server_time (Client time) = false

-- the refusals of SETATTR
abbrev pub setattr_rules : Tree → Cred → List ℕ → SetAttr → Option Moment → Rules
setattr_rules t cred object set guard =
    let fileid = fileid_in object in
    let node = the_node t fileid in
    handle_rules t object ++
    (guard_differs guard node.ctime, NotSync) ∷
    (has_bad_time set, Inval) ∷
    (is_some set.mode && is_stranger t cred fileid, Perm) ∷
    (may_not_set_owners cred node.uid node.gid set, Perm) ∷
    (is_some set.size && is_directory node, IsDir) ∷
    (is_some set.size && is_link node, Inval) ∷
    (is_some set.size && lacks_unless_owner t cred fileid Write, Acces) ∷
    (is_too_big set.size, FBig) ∷
    ((is_client_time set.atime || is_client_time set.mtime) && is_stranger t cred fileid, Perm) ∷
    ((is_server_time set.atime || is_server_time set.mtime) && is_stranger t cred fileid && lacks t cred fileid Write, Acces) ∷ []

-- a node with the attributes that a caller sets. The size comes first, so that an mtime that is set stands
abbrev pub set_node : SetAttr → Moment → Node → Node
set_node set now node = stamp now (with_attributes set now (with_size set.size now node))

-- the tree after SETATTR
abbrev pub setattr_tree : Tree → List ℕ → SetAttr → Moment → Tree
setattr_tree t object set now = edit t (fileid_in object) (λ node. set_node set now node)
