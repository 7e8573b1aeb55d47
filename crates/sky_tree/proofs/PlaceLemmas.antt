-- Refusals on handles, and on what they name, one after another.
use Rattle.std.proofs.Common.{◌≡◌, ℕ, ◌++◌, [], ◌∷◌, List, None, sym, ◌∙◌}
use Rattle.std.specs.Prelude.{Bool, not}
use Rattle.sky_nfs.specs.declared.status.NfsStatus.TheVariants.{NotDir, Inval}
use Rattle.sky_nfs.specs.Handles.{fileid_in}
use Rattle.sky_nfs.specs.Rules.{first_of, directory_rules, handle_rules, is_no_directory}
use Rattle.sky_nfs.specs.Tree.{Tree, the_node, is_directory}
use Rattle.sky_tree.specs.Linking.{link_object_rules}
use Rattle.sky_tree.specs.Renaming.{rename_place_rules}
use Rattle.sky_tree.proofs.RuleLemmas.{passed_by}

-- a handle that resolves: whether a directory stands there decides
pub directory_decides : (t : Tree) (fh : List ℕ) (fileid : ℕ) (b : Bool) → fileid ≡ fileid_in fh → b ≡ is_directory (the_node t fileid) → None ≡ first_of (handle_rules t fh)
    → first_of ((not b, NotDir) ∷ []) ≡ first_of (directory_rules t fh)
directory_decides t fh fileid b same is passed =
    rw (is, same) (sym (passed_by (handle_rules t fh) ((is_no_directory t (fileid_in fh), NotDir) ∷ []) passed))

-- the handles of a RENAME resolve: whether directories stand there decides
pub places_decide : (t : Tree) (from to : List ℕ) (source target : ℕ) (b d : Bool) → source ≡ fileid_in from → target ≡ fileid_in to → b ≡ is_directory (the_node t source) → d ≡ is_directory (the_node t target)
    → None ≡ first_of (handle_rules t from) → None ≡ first_of (handle_rules t to) → first_of ((not b, NotDir) ∷ (not d, NotDir) ∷ []) ≡ first_of (rename_place_rules t from to)
places_decide t from to source target b d same other is are first second =
    rw (is, are, same, other) (sym (passed_by (handle_rules t to) ((is_no_directory t (fileid_in from), NotDir) ∷ (is_no_directory t (fileid_in to), NotDir) ∷ []) second) ∙ sym (passed_by (handle_rules t from) (handle_rules t to ++ (is_no_directory t (fileid_in from), NotDir) ∷ (is_no_directory t (fileid_in to), NotDir) ∷ []) first))

-- the handles of a LINK resolve: whether directories stand there decides
pub objects_decide : (t : Tree) (file directory : List ℕ) (fileid dir : ℕ) (b d : Bool) → fileid ≡ fileid_in file → dir ≡ fileid_in directory → b ≡ is_directory (the_node t dir) → d ≡ is_directory (the_node t fileid)
    → None ≡ first_of (handle_rules t file) → None ≡ first_of (handle_rules t directory) → first_of ((not b, NotDir) ∷ (d, Inval) ∷ []) ≡ first_of (link_object_rules t file directory)
objects_decide t file directory fileid dir b d same other is are first second =
    rw (is, are, same, other) (sym (passed_by (handle_rules t directory) ((is_no_directory t (fileid_in directory), NotDir) ∷ (is_directory (the_node t (fileid_in file)), Inval) ∷ []) second) ∙ sym (passed_by (handle_rules t file) (handle_rules t directory ++ (is_no_directory t (fileid_in directory), NotDir) ∷ (is_directory (the_node t (fileid_in file)), Inval) ∷ []) first))
