-- LINK, RFC 1813 section 3.3.15: gives a file or a symbolic link one more name.
use Rattle.std.specs.Prelude.{ℕ, nat_le, List, ◌∷◌, ◌++◌}
use Rattle.sky_base.specs.declared.cred.Cred.{Cred}
use Rattle.sky_base.specs.declared.moment.Moment.{Moment}
use Rattle.sky_base.specs.Limits.{max_links}
use Rattle.sky_nfs.specs.declared.answer.LinkResults.{LinkResults}
use Rattle.sky_nfs.specs.declared.call.DirOpArgs.{DirOpArgs}
use Rattle.sky_nfs.specs.declared.status.NfsStatus.TheVariants.{NotDir, Inval, MLink}
use Rattle.sky_nfs.specs.Tree.{Tree, the_node, is_directory, listing_of}
use Rattle.sky_nfs.specs.Handles.{fileid_in}
use Rattle.sky_nfs.specs.Rules.{Rules, handle_rules, name_rules, is_no_directory, entry_room_rules}
use Rattle.sky_nfs.specs.Changes.{edit, stamp, add_link, enter}
use Rattle.sky_nfs.specs.Results.{post_attributes, wcc}
use Rattle.sky_nfs.specs.Procedures.Mkdir.{new_name_rules}

-- the refusals of LINK
abbrev pub link_rules : Tree → Cred → List ℕ → DirOpArgs → Rules
link_rules t cred file at =
    let node = the_node t (fileid_in file) in
    let dir = fileid_in at.directory in
    handle_rules t file ++
    handle_rules t at.directory ++
    (is_no_directory t dir, NotDir) ∷
    (is_directory node, Inval) ∷
    name_rules at.name ++
    new_name_rules t cred dir at.name ++
    (nat_le max_links node.nlink, MLink) ∷
    entry_room_rules (listing_of (the_node t dir)) at.name

-- the tree after LINK: the node has a link more, and the directory an entry
abbrev pub link_tree : Tree → List ℕ → DirOpArgs → Moment → Tree
link_tree t file at now =
    let fileid = fileid_in file in
    edit (edit t fileid (λ n. stamp now (add_link n))) (fileid_in at.directory) (λ d. enter now at.name fileid d)

-- the results of LINK, and what goes with its refusals
abbrev pub linked : Tree → Tree → List ℕ → DirOpArgs → LinkResults
linked before after file at = record { file = post_attributes after file; directory = wcc before after at.directory }
