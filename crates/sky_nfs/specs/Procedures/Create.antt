-- CREATE, RFC 1813 section 3.3.8: makes a file, or takes the one that has the name.
use Rattle.std.specs.Prelude.{ℕ, Bool, true, false, not, ◌&&◌, List, [], ◌∷◌, ◌++◌, Option, Some, None, is_some, unwrap_or}
use Rattle.std.specs.Str.{bytes_eq}
use Rattle.sky_base.specs.declared.cred.Cred.{Cred}
use Rattle.sky_base.specs.declared.cred.Want.TheVariants.{Write, Execute}
use Rattle.sky_base.specs.declared.moment.Moment.{Moment}
use Rattle.sky_nfs.specs.declared.answer.CreateOk.{CreateOk}
use Rattle.sky_nfs.specs.declared.call.DirOpArgs.{DirOpArgs}
use Rattle.sky_nfs.specs.declared.call.CreateHow.{CreateHow}
use Rattle.sky_nfs.specs.declared.call.CreateHow.TheVariants.{Unchecked, Guarded, Exclusive}
use Rattle.sky_nfs.specs.declared.call.SetAttr.{SetAttr}
use Rattle.sky_nfs.specs.declared.call.SetTime.TheVariants.{Keep}
use Rattle.sky_nfs.specs.declared.status.NfsStatus.TheVariants.{Exist, Acces, Inval, Perm, FBig}
use Rattle.sky_nfs.specs.Tree.{Tree, Node, File, the_node, is_file, named}
use Rattle.sky_nfs.specs.Handles.{fileid_in, handle_bytes}
use Rattle.sky_nfs.specs.Rules.{Rules, directory_rules, name_rules, is_dots, lacks, lacks_unless_owner, has_bad_time, may_not_set_owners, is_too_big, new_room_rules}
use Rattle.sky_nfs.specs.Changes.{edit, stamp, resized, with_size, new_node, add_node}
use Rattle.sky_nfs.specs.Results.{post_attributes, wcc}

-- nothing is set
abbrev pub nothing_set : SetAttr
nothing_set = record { mode = None; uid = None; gid = None; size = None; atime = Keep; mtime = Keep }

-- the attributes of a new file: an exclusive CREATE gives none
abbrev pub set_by : CreateHow → SetAttr
set_by (Unchecked set) = set
set_by (Guarded set) = set
set_by (Exclusive verifier) = nothing_set

-- the verifier that a new file keeps
abbrev pub verifier_by : CreateHow → Option (List ℕ)
verifier_by (Unchecked set) = None
verifier_by (Guarded set) = None
verifier_by (Exclusive verifier) = Some verifier

-- whether a file keeps this verifier
abbrev pub keeps : Option (List ℕ) → List ℕ → Bool
keeps None verifier = false
keeps (Some kept) verifier = bytes_eq kept verifier

-- where the name stands for a node
abbrev pub taken_rules : Tree → Cred → ℕ → CreateHow → Rules
taken_rules t cred fileid (Guarded set) = (true, Exist) ∷ []
taken_rules t cred fileid (Exclusive verifier) =
    (not (is_file (the_node t fileid)), Exist) ∷
    (not (keeps (the_node t fileid).verifier verifier), Exist) ∷ []
taken_rules t cred fileid (Unchecked set) =
    (not (is_file (the_node t fileid)), Exist) ∷
    (is_some set.size && lacks_unless_owner t cred fileid Write, Acces) ∷
    (is_too_big set.size, FBig) ∷ []

-- where the name is free
abbrev pub free_rules : Tree → Cred → ℕ → List ℕ → SetAttr → Rules
free_rules t cred dir name set =
    (lacks t cred dir Write, Acces) ∷
    (has_bad_time set, Inval) ∷
    (may_not_set_owners cred cred.uid cred.gid set, Perm) ∷
    (is_too_big set.size, FBig) ∷
    new_room_rules t dir name

-- the refusals of CREATE
abbrev pub create_rules : Tree → Cred → DirOpArgs → CreateHow → Rules
create_rules t cred at how =
    let dir = fileid_in at.directory in
    directory_rules t at.directory ++
    name_rules at.name ++
    (is_dots at.name, Exist) ∷
    (lacks t cred dir Execute, Acces) ∷
    go dir (named t dir at.name)
  where
    go : ℕ → Option ℕ → Rules
    go dir (Some fileid) = taken_rules t cred fileid how
    go dir None = free_rules t cred dir at.name (set_by how)

-- the file that has the name: an unchecked CREATE that sets a size cuts it or continues it, and all else stays
abbrev pub taken_tree : Tree → ℕ → Option ℕ → Moment → Tree
taken_tree t fileid None now = t
taken_tree t fileid (Some size) now = edit t fileid (λ node. stamp now (with_size (Some size) now node))

-- the size that an unchecked CREATE sets
abbrev pub unchecked_size : CreateHow → Option ℕ
unchecked_size (Unchecked set) = set.size
unchecked_size (Guarded set) = None
unchecked_size (Exclusive verifier) = None

-- a new file. Its mode is 0644 where none is set
abbrev pub new_file : Cred → Moment → CreateHow → Node
new_file cred now how =
    record (new_node cred now 0o644 (set_by how) (File (resized [] (unwrap_or (set_by how).size 0)))) { verifier = verifier_by how }

-- the tree after CREATE
abbrev pub create_tree : Tree → Cred → DirOpArgs → CreateHow → Moment → Tree
create_tree t cred at how now = go (fileid_in at.directory) (named t (fileid_in at.directory) at.name)
  where
    go : ℕ → Option ℕ → Tree
    go dir (Some fileid) = taken_tree t fileid (unchecked_size how) now
    go dir None = add_node t now dir at.name (new_file cred now how)

-- the object that has a name after the call
abbrev pub created : Tree → Tree → DirOpArgs → CreateOk
created before after at =
    let fileid = unwrap_or (named after (fileid_in at.directory) at.name) 0 in
    record {
      handle = record { volume = after.volume; fileid = fileid };
      object = post_attributes after (handle_bytes after.volume fileid);
      directory = wcc before after at.directory;
    }
