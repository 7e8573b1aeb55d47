-- What is known where REMOVE and RMDIR aren't refused.
use Rattle.std.proofs.Common.{◌≡◌, ◌≢◌, ℕ, List, [], ◌∷◌, Option, Some, None, refl, sym, ap, subst, ◌∙◌, true, false, arith}
use Rattle.std.specs.Prelude.{IfSome, IsSome, not, is_some, unwrap_or, length, ◌==◌, option_map, find}
use Rattle.std.specs.Str.{bytes_eq}
use Rattle.std.proofs.lemmas.Bool.{not-false, false≢true}
use Rattle.std.proofs.lemmas.Bool.Decides.{nat_tests}
use Rattle.sky_base.specs.Listing.{Listing, Entry, fileid_at}
use Rattle.sky_base.specs.declared.cred.Cred.{Cred}
use Rattle.sky_base.specs.declared.moment.Moment.{Moment}
use Rattle.sky_nfs.specs.declared.call.Call.{Call}
use Rattle.sky_nfs.specs.declared.call.DirOpArgs.{DirOpArgs}
use Rattle.sky_nfs.specs.Changes.{remove_name}
use Rattle.sky_nfs.specs.Handles.{fileid_in}
use Rattle.sky_nfs.specs.Procedure.{refusal_of, rules_of, tree_after, changed_tree}
use Rattle.sky_nfs.specs.Procedures.Remove.{remove_rules, rmdir_rules, removed_tree, has_entries}
use Rattle.sky_nfs.specs.Tree.{Tree, Node, node_at, the_node, is_directory, listing_of, named}
use Rattle.sky_nfs.proofs.KeptLemmas.{passed}
use Rattle.sky_nfs.proofs.ProcedureLemmas.{tree_after-done}

-- the directory is there, and isn't what the name stands for
pub record Removes (t : Tree) (at : DirOpArgs) : Type 0 where
  pub there : IsSome (node_at t.nodes (fileid_in at.directory))
  pub apart : IfSome (named t (fileid_in at.directory) at.name) (λ f. f ≢ fileid_in at.directory)

there_from : (o : Option Node) → not (is_some o) ≡ false → IsSome o
there_from None e = absurd (cc)
there_from (Some a) e = refl

-- a directory without entries has no name
pub nameless : (l : Listing) (name : List ℕ) → not (length l.entries == 0) ≡ false → fileid_at l name ≡ None
nameless l name h = go l.entries h
  where
    go : (es : List Entry) → not (length es == 0) ≡ false → option_map (λ (e : Entry). e.fileid) (find (λ (e : Entry). bytes_eq e.name name) es) ≡ None
    go [] h = refl
    go (e ∷ es) h = absurd (grind (arith, nat_tests, h))

-- what is no directory isn't the directory
plain_apart : (t : Tree) (dir : ℕ) (o : Option ℕ) → not (is_directory (the_node t dir)) ≡ false → is_directory (the_node t (unwrap_or o 0)) ≡ false → IfSome o (λ f. f ≢ dir)
plain_apart t dir None is plain = tt
plain_apart t dir (Some f) is plain = λ same.
    let here : is_directory (the_node t dir) ≡ false = subst (λ (k : ℕ). is_directory (the_node t k) ≡ false) same plain in
    let there : is_directory (the_node t dir) ≡ true = not-false (is_directory (the_node t dir)) is in
    false≢true (sym here ∙ there)

-- neither is a directory without entries
bare_apart : (t : Tree) (dir : ℕ) (name : List ℕ) (o : Option ℕ) → named t dir name ≡ o → has_entries (the_node t (unwrap_or o 0)) ≡ false → IfSome o (λ f. f ≢ dir)
bare_apart t dir name None found bare = tt
bare_apart t dir name (Some f) found bare = λ same.
    let here : has_entries (the_node t dir) ≡ false = subst (λ (k : ℕ). has_entries (the_node t k) ≡ false) same bare in
    let none : named t dir name ≡ None = nameless (listing_of (the_node t dir)) name here in
    let wrong : None ≡ Some f = sym none ∙ found in
    cc

pub remove_passed : (t : Tree) (cred : Cred) (at : DirOpArgs) → refusal_of t cred (Call.Remove at) ≡ None → Removes t at
unfolding refusal_of rules_of
remove_passed t cred at none =
    let p = passed (remove_rules t cred at) none in
    let dir : ℕ = fileid_in at.directory in
    record { there = there_from (node_at t.nodes dir) p.1.0; apart = plain_apart t dir (named t dir at.name) p.1.1.0 p.1.1.1.1.1.1.1.1.1.0 }

pub rmdir_passed : (t : Tree) (cred : Cred) (at : DirOpArgs) → refusal_of t cred (Call.Rmdir at) ≡ None → Removes t at
unfolding refusal_of rules_of
rmdir_passed t cred at none =
    let p = passed (rmdir_rules t cred at) none in
    let dir : ℕ = fileid_in at.directory in
    record { there = there_from (node_at t.nodes dir) p.1.0; apart = bare_apart t dir at.name (named t dir at.name) refl p.1.1.1.1.1.1.1.1.1.1.1.0 }

removed : (t : Tree) (at : DirOpArgs) (now : Moment) (k : ℕ) (name : List ℕ) → k ≡ fileid_in at.directory → name ≡ at.name → remove_name t now k name ≡ removed_tree t at now
removed t at now k name dir is = ap (λ (k : ℕ). remove_name t now k name) dir ∙ ap (λ (n : List ℕ). remove_name t now (fileid_in at.directory) n) is

-- the tree after the call
pub remove_done : (t : Tree) (cred : Cred) (at : DirOpArgs) (now : Moment) (k : ℕ) (name : List ℕ) → k ≡ fileid_in at.directory → name ≡ at.name → refusal_of t cred (Call.Remove at) ≡ None → remove_name t now k name ≡ tree_after t cred (Call.Remove at) now
unfolding changed_tree
remove_done t cred at now k name dir is none = removed t at now k name dir is ∙ sym (tree_after-done t cred (Call.Remove at) now none)

pub rmdir_done : (t : Tree) (cred : Cred) (at : DirOpArgs) (now : Moment) (k : ℕ) (name : List ℕ) → k ≡ fileid_in at.directory → name ≡ at.name → refusal_of t cred (Call.Rmdir at) ≡ None → remove_name t now k name ≡ tree_after t cred (Call.Rmdir at) now
unfolding changed_tree
rmdir_done t cred at now k name dir is none = removed t at now k name dir is ∙ sym (tree_after-done t cred (Call.Rmdir at) now none)
