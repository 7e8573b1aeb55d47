-- REMOVE and RMDIR, RFC 1813 sections 3.3.12 and 3.3.13: remove a name of a file or a link, or an empty directory.
use Rattle.std.specs.Prelude.{ℕ, Bool, not, ◌==◌, List, [], ◌∷◌, ◌++◌, length, is_none, unwrap_or}
use Rattle.sky_base.specs.declared.cred.Cred.{Cred}
use Rattle.sky_base.specs.declared.cred.Want.TheVariants.{Write, Execute}
use Rattle.sky_base.specs.declared.moment.Moment.{Moment}
use Rattle.sky_nfs.specs.declared.call.DirOpArgs.{DirOpArgs}
use Rattle.sky_nfs.specs.declared.status.NfsStatus.TheVariants.{Exist, Acces, Inval, NoEnt, IsDir, NotDir, NotEmpty}
use Rattle.sky_nfs.specs.Tree.{Tree, Node, the_node, is_directory, listing_of, named}
use Rattle.sky_nfs.specs.Handles.{fileid_in}
use Rattle.sky_nfs.specs.Rules.{Rules, directory_rules, name_rules, is_dot, is_dot_dot, is_dots, lacks}
use Rattle.sky_nfs.specs.Changes.{remove_name}

-- the node that a name stands for
abbrev pub named_node : Tree → ℕ → List ℕ → Node
named_node t dir name = the_node t (unwrap_or (named t dir name) 0)

-- whether a directory has entries
abbrev pub has_entries : Node → Bool
has_entries node = not (length (listing_of node).entries == 0)

-- a name that is there, in a directory that the caller may change
abbrev pub old_name_rules : Tree → Cred → ℕ → List ℕ → Rules
old_name_rules t cred dir name =
    (lacks t cred dir Execute, Acces) ∷
    (is_none (named t dir name), NoEnt) ∷
    (lacks t cred dir Write, Acces) ∷ []

-- the refusals of REMOVE
abbrev pub remove_rules : Tree → Cred → DirOpArgs → Rules
remove_rules t cred at =
    let dir = fileid_in at.directory in
    directory_rules t at.directory ++
    name_rules at.name ++
    (is_dots at.name, IsDir) ∷
    old_name_rules t cred dir at.name ++
    (is_directory (named_node t dir at.name), IsDir) ∷ []

-- the refusals of RMDIR
abbrev pub rmdir_rules : Tree → Cred → DirOpArgs → Rules
rmdir_rules t cred at =
    let dir = fileid_in at.directory in
    directory_rules t at.directory ++
    name_rules at.name ++
    (is_dot at.name, Inval) ∷
    (is_dot_dot at.name, Exist) ∷
    old_name_rules t cred dir at.name ++
    (not (is_directory (named_node t dir at.name)), NotDir) ∷
    (has_entries (named_node t dir at.name), NotEmpty) ∷ []

-- the tree after REMOVE or RMDIR
abbrev pub removed_tree : Tree → DirOpArgs → Moment → Tree
removed_tree t at now = remove_name t now (fileid_in at.directory) at.name
