-- SETATTR: the refusals on what is set, in three parts.
use Rattle.std.proofs.Common.{◌≡◌, ℕ, ◌++◌, [], ◌∷◌, Some, None, sym, ◌∙◌}
use Rattle.std.specs.Prelude.{◌&&◌, ◌||◌, Result, is_some}
use Rattle.std.specs.Result.{result_err}
use Rattle.sky_base.specs.declared.cred.Cred.{Cred}
use Rattle.sky_base.specs.declared.cred.Want.TheVariants.{Write}
use Rattle.sky_nfs.specs.declared.call.SetAttr.{SetAttr}
use Rattle.sky_nfs.specs.declared.status.NfsStatus.{NfsStatus}
use Rattle.sky_nfs.specs.declared.status.NfsStatus.TheVariants.{Inval, Perm, IsDir, Acces, FBig}
use Rattle.sky_nfs.specs.Procedures.SetAttr.{is_client_time, is_server_time}
use Rattle.sky_nfs.specs.Rules.{Rules, first_of, lacks, lacks_unless_owner, is_stranger, has_bad_time, may_not_set_owners, is_too_big}
use Rattle.sky_nfs.specs.Tree.{Tree, the_node, is_directory, is_link}
use Rattle.sky_tree.specs.Setting.{setting_rules}
use Rattle.sky_tree.proofs.RuleLemmas.{refused_by, passed_by}

-- those on the times, the mode and the owners
abbrev pub owned : Tree → Cred → ℕ → SetAttr → Rules
owned t cred fileid set =
    (has_bad_time set, Inval) ∷
    (is_some set.mode && is_stranger t cred fileid, Perm) ∷
    (may_not_set_owners cred (the_node t fileid).uid (the_node t fileid).gid set, Perm) ∷ []

-- those on the size
abbrev pub sized : Tree → Cred → ℕ → SetAttr → Rules
sized t cred fileid set =
    (is_some set.size && is_directory (the_node t fileid), IsDir) ∷
    (is_some set.size && is_link (the_node t fileid), Inval) ∷
    (is_some set.size && lacks_unless_owner t cred fileid Write, Acces) ∷
    (is_too_big set.size, FBig) ∷ []

-- those on whose the times are
abbrev pub timed : Tree → Cred → ℕ → SetAttr → Rules
timed t cred fileid set =
    ((is_client_time set.atime || is_client_time set.mtime) && is_stranger t cred fileid, Perm) ∷
    ((is_server_time set.atime || is_server_time set.mtime) && is_stranger t cred fileid && lacks t cred fileid Write, Acces) ∷ []

pub owned_refused : (t : Tree) (cred : Cred) (fileid : ℕ) (set : SetAttr) (e : NfsStatus) → Some e ≡ first_of (owned t cred fileid set) → Some e ≡ first_of (setting_rules t cred fileid set)
owned_refused t cred fileid set e h = refused_by (owned t cred fileid set) (sized t cred fileid set ++ timed t cred fileid set) e h

pub sized_refused : (t : Tree) (cred : Cred) (fileid : ℕ) (set : SetAttr) (e : NfsStatus) → None ≡ first_of (owned t cred fileid set) → Some e ≡ first_of (sized t cred fileid set) → Some e ≡ first_of (setting_rules t cred fileid set)
sized_refused t cred fileid set e passed h =
    refused_by (sized t cred fileid set) (timed t cred fileid set) e h ∙ sym (passed_by (owned t cred fileid set) (sized t cred fileid set ++ timed t cred fileid set) passed)

pub timed_decides : (t : Tree) (cred : Cred) (fileid : ℕ) (set : SetAttr) (r : Result Unit NfsStatus) → None ≡ first_of (owned t cred fileid set) → None ≡ first_of (sized t cred fileid set) → result_err r ≡ first_of (timed t cred fileid set) → result_err r ≡ first_of (setting_rules t cred fileid set)
timed_decides t cred fileid set r owns fits h =
    h ∙ sym (passed_by (sized t cred fileid set) (timed t cred fileid set) fits) ∙ sym (passed_by (owned t cred fileid set) (sized t cred fileid set ++ timed t cred fileid set) owns)
