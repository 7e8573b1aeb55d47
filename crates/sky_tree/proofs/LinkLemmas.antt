-- LINK: its refusals in two parts, and what is known where it isn't refused.
use Rattle.std.proofs.Common.{◌≡◌, ◌≢◌, ℕ, ◌+◌, ◌≤◌, ◌<◌, ◌^◌, ◌++◌, List, Some, None, refl, sym, ap, subst, ◌∙◌, true, false, arith, length}
use Rattle.std.specs.Prelude.{IsSome}
use Rattle.std.proofs.lemmas.Bool.{not-false, false≢true, ltb-false, leb-false}
use Rattle.sky_base.specs.Limits.{max_name_bytes, max_links}
use Rattle.sky_base.specs.Listing.{fileid_at}
use Rattle.sky_base.specs.declared.cred.Cred.{Cred}
use Rattle.sky_base.specs.declared.moment.Moment.{Moment}
use Rattle.sky_dir.specs.Rows.{is_crowded}
use Rattle.sky_nfs.specs.declared.call.Call.{Call}
use Rattle.sky_nfs.specs.declared.call.DirOpArgs.{DirOpArgs}
use Rattle.sky_nfs.specs.declared.status.NfsStatus.{NfsStatus}
use Rattle.sky_nfs.specs.Changes.{add_link, edit, enter, stamp}
use Rattle.sky_nfs.specs.Handles.{fileid_in}
use Rattle.sky_nfs.specs.Procedure.{refusal_of, rules_of, tree_after, changed_tree}
use Rattle.sky_nfs.specs.Procedures.Link.{link_rules}
use Rattle.sky_nfs.specs.Rules.{first_of}
use Rattle.sky_nfs.specs.Tree.{Tree, node_at, the_node, is_directory, listing_of, named}
use Rattle.sky_nfs.proofs.CreateLemmas.{none_of}
use Rattle.sky_nfs.proofs.KeptLemmas.{passed}
use Rattle.sky_nfs.proofs.ProcedureLemmas.{tree_after-done}
use Rattle.sky_tree.specs.Linking.{link_object_rules, link_name_rules}
use Rattle.sky_tree.proofs.MakeLemmas.{there_from}
use Rattle.sky_tree.proofs.RuleLemmas.{refused_by, passed_by}

-- the two parts are all
pub link_parts : (t : Tree) (cred : Cred) (file : List ℕ) (at : DirOpArgs) → refusal_of t cred (Call.Link file at) ≡ first_of (link_object_rules t file at.directory ++ link_name_rules t cred (fileid_in file) (fileid_in at.directory) at.name)
unfolding refusal_of rules_of
link_parts t cred file at = refl

pub objects_refused : (t : Tree) (cred : Cred) (file : List ℕ) (at : DirOpArgs) (e : NfsStatus) → Some e ≡ first_of (link_object_rules t file at.directory) → Some e ≡ refusal_of t cred (Call.Link file at)
objects_refused t cred file at e h =
    refused_by (link_object_rules t file at.directory) (link_name_rules t cred (fileid_in file) (fileid_in at.directory) at.name) e h ∙ sym (link_parts t cred file at)

pub name_decides : (t : Tree) (cred : Cred) (file : List ℕ) (at : DirOpArgs) (fileid dir : ℕ) (name : List ℕ) → fileid ≡ fileid_in file → dir ≡ fileid_in at.directory → name ≡ at.name → None ≡ first_of (link_object_rules t file at.directory)
    → first_of (link_name_rules t cred fileid dir name) ≡ refusal_of t cred (Call.Link file at)
name_decides t cred file at fileid dir name fileid_is dir_is name_is h =
    ap (λ (f : ℕ). first_of (link_name_rules t cred f dir name)) fileid_is
    ∙ ap (λ (d : ℕ). first_of (link_name_rules t cred (fileid_in file) d name)) dir_is
    ∙ ap (λ (n : List ℕ). first_of (link_name_rules t cred (fileid_in file) (fileid_in at.directory) n)) name_is
    ∙ sym (passed_by (link_object_rules t file at.directory) (link_name_rules t cred (fileid_in file) (fileid_in at.directory) at.name) h)
    ∙ sym (link_parts t cred file at)

-- a file that may get a name in a directory
pub record Links (t : Tree) (fileid dir : ℕ) (name : List ℕ) : Type 0 where
  pub node : IsSome (node_at t.nodes fileid)
  pub fits : (the_node t fileid).nlink + 1 < 2 ^ 32
  pub there : IsSome (node_at t.nodes dir)
  pub apart : fileid ≢ dir
  pub absent : fileid_at (listing_of (the_node t dir)) name ≡ None
  pub room : is_crowded (listing_of (the_node t dir)) name ≡ false
  pub short : length name ≤ 255

pub link_passed : (t : Tree) (cred : Cred) (file : List ℕ) (at : DirOpArgs) → refusal_of t cred (Call.Link file at) ≡ None → Links t (fileid_in file) (fileid_in at.directory) at.name
unfolding refusal_of rules_of
link_passed t cred file at none =
    let p = passed (link_rules t cred file at) none in
    let fileid : ℕ = fileid_in file in
    let dir : ℕ = fileid_in at.directory in
    let few : (the_node t fileid).nlink < max_links = leb-false max_links (the_node t fileid).nlink p.1.1.1.1.1.1.1.1.1.1.1.1.0 in
    record {
      node = there_from (node_at t.nodes fileid) p.1.0;
      fits = omega arith;
      there = there_from (node_at t.nodes dir) p.1.1.1.0;
      apart = λ same.
          let plain : is_directory (the_node t dir) ≡ false = subst (λ (k : ℕ). is_directory (the_node t k) ≡ false) same p.1.1.1.1.1.0 in
          let is : is_directory (the_node t dir) ≡ true = not-false (is_directory (the_node t dir)) p.1.1.1.1.0 in
          false≢true (sym plain ∙ is);
      absent = none_of (named t dir at.name) p.1.1.1.1.1.1.1.1.1.1.0;
      room = rw (p.1.1.1.1.1.1.1.1.1.1.1.1.1.0, p.1.1.1.1.1.1.1.1.1.1.1.1.1.1.0) refl;
      short = ltb-false max_name_bytes (length at.name) p.1.1.1.1.1.1.0;
    }

-- the tree after the call
pub link_done : (t : Tree) (cred : Cred) (file : List ℕ) (at : DirOpArgs) (now : Moment) (fileid dir : ℕ) (name : List ℕ) → fileid ≡ fileid_in file → dir ≡ fileid_in at.directory → name ≡ at.name → refusal_of t cred (Call.Link file at) ≡ None
    → edit (edit t fileid (λ n. stamp now (add_link n))) dir (λ d. enter now name fileid d) ≡ tree_after t cred (Call.Link file at) now
unfolding changed_tree
link_done t cred file at now fileid dir name fileid_is dir_is name_is none =
    let made : ℕ → ℕ → List ℕ → Tree = λ f k n. edit (edit t f (λ m. stamp now (add_link m))) k (λ d. enter now n f d) in
    ap (λ (f : ℕ). made f dir name) fileid_is ∙ ap (λ (k : ℕ). made (fileid_in file) k name) dir_is ∙ ap (λ (n : List ℕ). made (fileid_in file) (fileid_in at.directory) n) name_is
    ∙ sym (tree_after-done t cred (Call.Link file at) now none)
