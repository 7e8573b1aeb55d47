-- The refusals of SETATTR in two parts.
use Rattle.std.specs.Prelude.{ℕ, ◌&&◌, ◌||◌, List, [], ◌∷◌, ◌++◌, Option, is_some}
use Rattle.sky_base.specs.declared.cred.Cred.{Cred}
use Rattle.sky_base.specs.declared.cred.Want.TheVariants.{Write}
use Rattle.sky_base.specs.declared.moment.Moment.{Moment}
use Rattle.sky_nfs.specs.declared.call.SetAttr.{SetAttr}
use Rattle.sky_nfs.specs.declared.status.NfsStatus.TheVariants.{NotSync, Inval, Perm, IsDir, Acces, FBig}
use Rattle.sky_nfs.specs.Handles.{fileid_in}
use Rattle.sky_nfs.specs.Procedures.SetAttr.{guard_differs, is_client_time, is_server_time}
use Rattle.sky_nfs.specs.Rules.{Rules, handle_rules, lacks, lacks_unless_owner, is_stranger, has_bad_time, may_not_set_owners, is_too_big}
use Rattle.sky_nfs.specs.Tree.{Tree, the_node, is_directory, is_link}

-- those on the object and the guard
abbrev pub object_rules : Tree → List ℕ → Option Moment → Rules
object_rules t object guard = handle_rules t object ++ (guard_differs guard (the_node t (fileid_in object)).ctime, NotSync) ∷ []

-- those on what is set of the object
abbrev pub setting_rules : Tree → Cred → ℕ → SetAttr → Rules
setting_rules t cred fileid set =
    (has_bad_time set, Inval) ∷
    (is_some set.mode && is_stranger t cred fileid, Perm) ∷
    (may_not_set_owners cred (the_node t fileid).uid (the_node t fileid).gid set, Perm) ∷
    (is_some set.size && is_directory (the_node t fileid), IsDir) ∷
    (is_some set.size && is_link (the_node t fileid), Inval) ∷
    (is_some set.size && lacks_unless_owner t cred fileid Write, Acces) ∷
    (is_too_big set.size, FBig) ∷
    ((is_client_time set.atime || is_client_time set.mtime) && is_stranger t cred fileid, Perm) ∷
    ((is_server_time set.atime || is_server_time set.mtime) && is_stranger t cred fileid && lacks t cred fileid Write, Acces) ∷ []
