-- MKDIR and SYMLINK, RFC 1813 sections 3.3.9 and 3.3.10: make a directory or a symbolic link.
use Rattle.std.specs.Prelude.{ℕ, ◌||◌, nat_lt, List, [], ◌∷◌, ◌++◌, length, is_some}
use Rattle.sky_base.specs.declared.cred.Cred.{Cred}
use Rattle.sky_base.specs.declared.cred.Want.TheVariants.{Write, Execute}
use Rattle.sky_base.specs.declared.moment.Moment.{Moment}
use Rattle.sky_base.specs.Limits.{max_link_text_bytes}
use Rattle.sky_base.specs.Listing.{new_listing}
use Rattle.sky_nfs.specs.declared.call.DirOpArgs.{DirOpArgs}
use Rattle.sky_nfs.specs.declared.call.SetAttr.{SetAttr}
use Rattle.sky_nfs.specs.declared.status.NfsStatus.TheVariants.{Exist, Acces, Inval, Perm, NameTooLong}
use Rattle.sky_nfs.specs.Tree.{Tree, Directory, Link, named}
use Rattle.sky_nfs.specs.Handles.{fileid_in}
use Rattle.sky_nfs.specs.Rules.{Rules, directory_rules, name_rules, is_dots, has_byte, lacks, has_bad_time, may_not_set_owners, new_room_rules}
use Rattle.sky_nfs.specs.Changes.{edit, add_link, new_node, add_node}

-- a name that is free, in a directory that the caller may change
abbrev pub new_name_rules : Tree → Cred → ℕ → List ℕ → Rules
new_name_rules t cred dir name =
    (is_dots name, Exist) ∷
    (lacks t cred dir Execute, Acces) ∷
    (is_some (named t dir name), Exist) ∷
    (lacks t cred dir Write, Acces) ∷ []

-- attributes that a new directory or link can have
abbrev pub new_attribute_rules : Cred → SetAttr → Rules
new_attribute_rules cred set =
    (is_some set.size || has_bad_time set, Inval) ∷
    (may_not_set_owners cred cred.uid cred.gid set, Perm) ∷ []

-- the refusals of MKDIR
abbrev pub mkdir_rules : Tree → Cred → DirOpArgs → SetAttr → Rules
mkdir_rules t cred at set =
    let dir = fileid_in at.directory in
    directory_rules t at.directory ++
    name_rules at.name ++
    new_name_rules t cred dir at.name ++
    new_attribute_rules cred set ++
    new_room_rules t dir at.name

-- the new directory's mode is 0755 where none is set, and its parent has a subdirectory more
abbrev pub mkdir_tree : Tree → Cred → DirOpArgs → SetAttr → Moment → Tree
mkdir_tree t cred at set now =
    let dir = fileid_in at.directory in
    edit (add_node t now dir at.name (new_node cred now 0o755 set (Directory dir new_listing))) dir add_link

-- the refusals of SYMLINK
abbrev pub symlink_rules : Tree → Cred → DirOpArgs → SetAttr → List ℕ → Rules
symlink_rules t cred at set text =
    let dir = fileid_in at.directory in
    directory_rules t at.directory ++
    name_rules at.name ++
    (nat_lt max_link_text_bytes (length text), NameTooLong) ∷
    (has_byte 0 text, Inval) ∷
    new_name_rules t cred dir at.name ++
    new_attribute_rules cred set ++
    new_room_rules t dir at.name

-- the new link's mode is 0777 where none is set
abbrev pub symlink_tree : Tree → Cred → DirOpArgs → SetAttr → List ℕ → Moment → Tree
symlink_tree t cred at set text now = add_node t now (fileid_in at.directory) at.name (new_node cred now 0o777 set (Link text))
