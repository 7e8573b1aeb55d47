-- RENAME, RFC 1813 section 3.3.14: gives an object another name.
use Rattle.std.specs.Prelude.{ℕ, Bool, false, not, cond, ◌&&◌, ◌||◌, ◌==◌, List, [], ◌∷◌, ◌++◌, Option, Some, None, is_none, unwrap_or}
use Rattle.sky_base.specs.declared.cred.Cred.{Cred}
use Rattle.sky_base.specs.declared.cred.Want.TheVariants.{Write, Execute}
use Rattle.sky_base.specs.declared.moment.Moment.{Moment}
use Rattle.sky_base.specs.Listing.{Listing, without_entry}
use Rattle.sky_nfs.specs.declared.answer.RenameResults.{RenameResults}
use Rattle.sky_nfs.specs.declared.call.DirOpArgs.{DirOpArgs}
use Rattle.sky_nfs.specs.declared.status.NfsStatus.TheVariants.{NotDir, Inval, Acces, NoEnt, Exist}
use Rattle.sky_nfs.specs.Tree.{Tree, Node, the_node, is_directory, listing_of, named, is_at_or_below}
use Rattle.sky_nfs.specs.Handles.{fileid_in}
use Rattle.sky_nfs.specs.Rules.{Rules, handle_rules, name_rules, is_no_directory, is_dots, lacks, entry_room_rules}
use Rattle.sky_nfs.specs.Changes.{edit, stamp, add_link, drop_link, enter, leave, with_parent, remove_name}
use Rattle.sky_nfs.specs.Results.{wcc}
use Rattle.sky_nfs.specs.Procedures.Remove.{has_entries}

-- whether two names stand for one node
abbrev pub is_same : Option ℕ → Option ℕ → Bool
is_same (Some a) (Some b) = a == b
is_same _ _ = false

-- a target that is in the way of a node: a directory before another node, or the other way round, or a directory with entries
abbrev pub target_rules : Tree → Node → Option ℕ → Rules
target_rules t source None = []
target_rules t source (Some fileid) =
    let target = the_node t fileid in
    (is_directory source && not (is_directory target) || not (is_directory source) && is_directory target, Exist) ∷
    (is_directory target && has_entries target, Exist) ∷ []

-- what stays in the new directory when the target, and in the same directory the old name, are gone
abbrev pub staying : Tree → ℕ → List ℕ → ℕ → List ℕ → Listing
staying t from from_name to to_name =
    let rest = without_entry (listing_of (the_node t to)) to_name in
    cond (from == to) (without_entry rest from_name) rest

-- where the new name stands for another node than the old one, or for none
abbrev pub move_rules : Tree → ℕ → List ℕ → ℕ → List ℕ → ℕ → Rules
move_rules t from from_name to to_name fileid =
    let source = the_node t fileid in
    (is_directory source && is_at_or_below t to fileid, Inval) ∷
    target_rules t source (named t to to_name) ++
    entry_room_rules (staying t from from_name to to_name) to_name

-- the refusals of RENAME
abbrev pub rename_rules : Tree → Cred → DirOpArgs → DirOpArgs → Rules
rename_rules t cred at to_at =
    let from = fileid_in at.directory in
    let to = fileid_in to_at.directory in
    let source = named t from at.name in
    handle_rules t at.directory ++
    handle_rules t to_at.directory ++
    (is_no_directory t from, NotDir) ∷
    (is_no_directory t to, NotDir) ∷
    name_rules at.name ++
    name_rules to_at.name ++
    (is_dots at.name || is_dots to_at.name, Inval) ∷
    (lacks t cred from Execute, Acces) ∷
    (lacks t cred from Write, Acces) ∷
    (lacks t cred to Execute, Acces) ∷
    (lacks t cred to Write, Acces) ∷
    (is_none source, NoEnt) ∷
    cond (is_same source (named t to to_at.name)) [] (move_rules t from at.name to to_at.name (unwrap_or source 0))

-- a directory that moves has another parent, and counts there
abbrev pub move_directory : Tree → ℕ → ℕ → ℕ → Tree
move_directory t from to fileid =
    edit (edit (edit t fileid (λ n. record n { content = with_parent to n.content })) from drop_link) to add_link

-- the target goes, the old entry goes, the new one is added, and the node's ctime is now
abbrev pub move_name : Tree → Moment → ℕ → List ℕ → ℕ → List ℕ → ℕ → Tree
move_name t now from from_name to to_name fileid =
    let cleared = remove_name t now to to_name in
    let moved = edit (edit cleared from (λ d. leave now from_name d)) to (λ d. enter now to_name fileid d) in
    let stamped = edit moved fileid (λ n. stamp now n) in
    cond (is_directory (the_node t fileid)) (move_directory stamped from to fileid) stamped

-- nothing is done where both names stand for one node
abbrev pub rename_tree : Tree → DirOpArgs → DirOpArgs → Moment → Tree
rename_tree t at to_at now =
    let from = fileid_in at.directory in
    let to = fileid_in to_at.directory in
    let source = named t from at.name in
    cond (is_same source (named t to to_at.name)) t (move_name t now from at.name to to_at.name (unwrap_or source 0))

-- the results of RENAME, and what goes with its refusals
abbrev pub renamed : Tree → Tree → DirOpArgs → DirOpArgs → RenameResults
renamed before after at to_at = record { from = wcc before after at.directory; to = wcc before after to_at.directory }
