-- The refusals of LINK in two parts.
use Rattle.std.specs.Prelude.{ℕ, nat_le, List, [], ◌∷◌, ◌++◌}
use Rattle.sky_base.specs.declared.cred.Cred.{Cred}
use Rattle.sky_base.specs.Limits.{max_links}
use Rattle.sky_nfs.specs.declared.status.NfsStatus.TheVariants.{NotDir, Inval, MLink}
use Rattle.sky_nfs.specs.Handles.{fileid_in}
use Rattle.sky_nfs.specs.Procedures.Mkdir.{new_name_rules}
use Rattle.sky_nfs.specs.Rules.{Rules, handle_rules, name_rules, is_no_directory, entry_room_rules}
use Rattle.sky_nfs.specs.Tree.{Tree, the_node, is_directory, listing_of}

-- those on the file and the directory
abbrev pub link_object_rules : Tree → List ℕ → List ℕ → Rules
link_object_rules t file directory =
    handle_rules t file ++
    handle_rules t directory ++
    (is_no_directory t (fileid_in directory), NotDir) ∷
    (is_directory (the_node t (fileid_in file)), Inval) ∷ []

-- those on the new name
abbrev pub link_name_rules : Tree → Cred → ℕ → ℕ → List ℕ → Rules
link_name_rules t cred fileid dir name =
    name_rules name ++
    new_name_rules t cred dir name ++
    (nat_le max_links (the_node t fileid).nlink, MLink) ∷
    entry_room_rules (listing_of (the_node t dir)) name
