-- What each procedure answers, and to which tree it leads (RFC 1813 section 3.3).
--     rules_of       the refusals, in the order in which they are tried
--     changed_tree   the tree that a call makes where nothing is refused
--     answer_of      the answer, by the tree before the call and the tree after it
--     procedure      the tree after a call, and the answer
-- Each procedure's own rules, change and results stand in a module of `Procedures`.
use Rattle.std.specs.Prelude.{ℕ, List, [], Option, Some, None, Result, Ok, Err, unwrap_or}
use Rattle.sky_base.specs.declared.attr.Attr.{Attr}
use Rattle.sky_base.specs.declared.cred.Cred.{Cred}
use Rattle.sky_base.specs.declared.moment.Moment.{Moment}
use Rattle.sky_nfs.specs.declared.answer.Answer.{Answer}
use Rattle.sky_nfs.specs.declared.call.Call.{Call}
use Rattle.sky_nfs.specs.declared.call.Call.TheVariants.{Null, GetAttr, SetAttr, Lookup, Access, ReadLink, Read, Write, Create, Mkdir, Symlink, Mknod, Remove, Rmdir, Rename, Link, ReadDir, ReadDirPlus, FsStat, FsInfo, PathConf, Commit}
use Rattle.sky_nfs.specs.declared.status.NfsStatus.{NfsStatus}
use Rattle.sky_nfs.specs.declared.status.NfsStatus.TheVariants.{NotSupp}
use Rattle.sky_nfs.specs.Tree.{Tree, attributes_at}
use Rattle.sky_nfs.specs.Handles.{fileid_in}
use Rattle.sky_nfs.specs.Rules.{Rules, first_of, handle_rules}
use Rattle.sky_nfs.specs.Results.{post_attributes, wcc, results_or}
use Rattle.sky_nfs.specs.Procedures.Access.{access_rules, granted}
use Rattle.sky_nfs.specs.Procedures.Commit.{commit_rules, committed}
use Rattle.sky_nfs.specs.Procedures.Create.{create_rules, create_tree, created}
use Rattle.sky_nfs.specs.Procedures.FsStat.{fsstat, fsinfo, pathconf}
use Rattle.sky_nfs.specs.Procedures.Link.{link_rules, link_tree, linked}
use Rattle.sky_nfs.specs.Procedures.Lookup.{lookup_rules, found}
use Rattle.sky_nfs.specs.Procedures.Mkdir.{mkdir_rules, mkdir_tree, symlink_rules, symlink_tree}
use Rattle.sky_nfs.specs.Procedures.Mknod.{mknod_rules}
use Rattle.sky_nfs.specs.Procedures.Read.{read_rules, read_data}
use Rattle.sky_nfs.specs.Procedures.ReadDir.{readdir_rules, readdirplus_rules, page, page_plus}
use Rattle.sky_nfs.specs.Procedures.ReadLink.{readlink_rules, link_text_of}
use Rattle.sky_nfs.specs.Procedures.Remove.{remove_rules, rmdir_rules, removed_tree}
use Rattle.sky_nfs.specs.Procedures.Rename.{rename_rules, rename_tree, renamed}
use Rattle.sky_nfs.specs.Procedures.SetAttr.{setattr_rules, setattr_tree}
use Rattle.sky_nfs.specs.Procedures.Write.{write_rules, write_tree, written_results}

-- GETATTR, RFC 1813 section 3.3.1: the attributes of the object that a handle names
abbrev pub getattr : Tree → List ℕ → Result Attr NfsStatus
getattr t object = go (first_of (handle_rules t object))
  where
    go : Option NfsStatus → Result Attr NfsStatus
    go None = Ok (attributes_at t (fileid_in object))
    go (Some status) = Err status

-- the refusals of a call, in the order in which they are tried
unfoldable pub rules_of : Tree → Cred → Call → Rules
rules_of t cred Null = []
rules_of t cred (GetAttr object) = handle_rules t object
rules_of t cred (SetAttr object set guard) = setattr_rules t cred object set guard
rules_of t cred (Lookup at) = lookup_rules t cred at
rules_of t cred (Access object rights) = access_rules t object
rules_of t cred (ReadLink link) = readlink_rules t link
rules_of t cred (Read file offset count) = read_rules t cred file
rules_of t cred (Write file offset count how piece) = write_rules t cred file offset count piece
rules_of t cred (Create at how) = create_rules t cred at how
rules_of t cred (Mkdir at set) = mkdir_rules t cred at set
rules_of t cred (Symlink at set text) = symlink_rules t cred at set text
rules_of t cred (Mknod at what) = mknod_rules t at
rules_of t cred (Remove at) = remove_rules t cred at
rules_of t cred (Rmdir at) = rmdir_rules t cred at
rules_of t cred (Rename from to) = rename_rules t cred from to
rules_of t cred (Link file at) = link_rules t cred file at
rules_of t cred (ReadDir directory cookie verifier count) = readdir_rules t cred directory cookie verifier count
rules_of t cred (ReadDirPlus directory cookie verifier dircount maxcount) = readdirplus_rules t cred directory cookie verifier dircount maxcount
rules_of t cred (FsStat root) = handle_rules t root
rules_of t cred (FsInfo root) = handle_rules t root
rules_of t cred (PathConf object) = handle_rules t object
rules_of t cred (Commit file offset count) = commit_rules t file

-- the tree that a call makes where nothing is refused. A reading leaves it
unfoldable pub changed_tree : Tree → Cred → Call → Moment → Tree
changed_tree t cred (SetAttr object set guard) now = setattr_tree t object set now
changed_tree t cred (Write file offset count how piece) now = write_tree t file offset count piece now
changed_tree t cred (Create at how) now = create_tree t cred at how now
changed_tree t cred (Mkdir at set) now = mkdir_tree t cred at set now
changed_tree t cred (Symlink at set text) now = symlink_tree t cred at set text now
changed_tree t cred (Remove at) now = removed_tree t at now
changed_tree t cred (Rmdir at) now = removed_tree t at now
changed_tree t cred (Rename from to) now = rename_tree t from to now
changed_tree t cred (Link file at) now = link_tree t file at now
changed_tree t cred _ now = t

-- the answer, by the refusal if there is one, the tree before the call and the tree after it
unfoldable pub answer_of : Option NfsStatus → Tree → Tree → ℕ → Cred → Call → Answer
answer_of refusal t after epoch cred Null = Answer.Null
answer_of refusal t after epoch cred (GetAttr object) = Answer.GetAttr (getattr t object)
answer_of refusal t after epoch cred (SetAttr object set guard) = Answer.SetAttr (results_or refusal (wcc t after object) (wcc t after object))
answer_of refusal t after epoch cred (Lookup at) = Answer.Lookup (results_or refusal (found t at) (post_attributes t at.directory))
answer_of refusal t after epoch cred (Access object rights) = Answer.Access (results_or refusal (granted t cred object rights) (post_attributes t object))
answer_of refusal t after epoch cred (ReadLink link) = Answer.ReadLink (results_or refusal (link_text_of t link) (post_attributes t link))
answer_of refusal t after epoch cred (Read file offset count) = Answer.Read (results_or refusal (read_data t file offset count) (post_attributes t file))
answer_of refusal t after epoch cred (Write file offset count how piece) =
    Answer.Write (results_or refusal (written_results t after epoch file count how) (wcc t after file))
answer_of refusal t after epoch cred (Create at how) = Answer.Create (results_or refusal (created t after at) (wcc t after at.directory))
answer_of refusal t after epoch cred (Mkdir at set) = Answer.Mkdir (results_or refusal (created t after at) (wcc t after at.directory))
answer_of refusal t after epoch cred (Symlink at set text) = Answer.Symlink (results_or refusal (created t after at) (wcc t after at.directory))
answer_of refusal t after epoch cred (Mknod at what) =
    Answer.Mknod (record { status = unwrap_or refusal NotSupp; attributes = wcc t after at.directory })
answer_of refusal t after epoch cred (Remove at) = Answer.Remove (results_or refusal (wcc t after at.directory) (wcc t after at.directory))
answer_of refusal t after epoch cred (Rmdir at) = Answer.Rmdir (results_or refusal (wcc t after at.directory) (wcc t after at.directory))
answer_of refusal t after epoch cred (Rename from to) = Answer.Rename (results_or refusal (renamed t after from to) (renamed t after from to))
answer_of refusal t after epoch cred (Link file at) = Answer.Link (results_or refusal (linked t after file at) (linked t after file at))
answer_of refusal t after epoch cred (ReadDir directory cookie verifier count) =
    Answer.ReadDir (results_or refusal (page t directory cookie count) (post_attributes t directory))
answer_of refusal t after epoch cred (ReadDirPlus directory cookie verifier dircount maxcount) =
    Answer.ReadDirPlus (results_or refusal (page_plus t directory cookie dircount maxcount) (post_attributes t directory))
answer_of refusal t after epoch cred (FsStat root) = Answer.FsStat (results_or refusal (fsstat t root) (post_attributes t root))
answer_of refusal t after epoch cred (FsInfo root) = Answer.FsInfo (results_or refusal (fsinfo t root) (post_attributes t root))
answer_of refusal t after epoch cred (PathConf object) = Answer.PathConf (results_or refusal (pathconf t object) (post_attributes t object))
answer_of refusal t after epoch cred (Commit file offset count) = Answer.Commit (results_or refusal (committed t epoch file) (wcc t after file))

-- why a call is refused, if it is
unfoldable pub refusal_of : Tree → Cred → Call → Option NfsStatus
refusal_of t cred call = first_of (rules_of t cred call)

-- the tree after a call: a refusal leaves it
unfoldable pub tree_after : Tree → Cred → Call → Moment → Tree
tree_after t cred call now = go (refusal_of t cred call)
  where
    go : Option NfsStatus → Tree
    go None = changed_tree t cred call now
    go (Some status) = t

-- the tree after a call, and the answer
pub record Outcome : Type 0 where
  pub tree : Tree
  pub answer : Answer

-- what a call does. Only write verifiers tell the epoch
unfoldable pub procedure : Tree → ℕ → Cred → Call → Moment → Outcome
procedure t epoch cred call now =
    let after = tree_after t cred call now in
    record { tree = after; answer = answer_of (refusal_of t cred call) t after epoch cred call }
