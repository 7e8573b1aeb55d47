-- The attributes of a directory after REMOVE and RMDIR.
use Rattle.std.proofs.Common.{◌≡◌, ◌≢◌, ℕ, List, Option, Some, None, refl, sym, ap, subst, ◌∙◌, true, false, cond}
use Rattle.std.specs.Prelude.{Bool, IfSome, not, is_none, nat_le, unwrap_or}
use Rattle.std.proofs.lemmas.Bool.{not-false}
use Rattle.sky_base.specs.declared.attr.Attr.{Attr}
use Rattle.sky_base.specs.declared.cred.Cred.{Cred}
use Rattle.sky_base.specs.declared.moment.Moment.{Moment}
use Rattle.sky_nfs.specs.declared.call.Call.{Call}
use Rattle.sky_nfs.specs.declared.call.DirOpArgs.{DirOpArgs}
use Rattle.sky_nfs.specs.Changes.{drop_link, edit, erase, leave, remove_name, stamp, unlink}
use Rattle.sky_nfs.specs.Handles.{fileid_in, is_handle_of}
use Rattle.sky_nfs.specs.Procedure.{refusal_of, rules_of, tree_after, changed_tree}
use Rattle.sky_nfs.specs.Procedures.Remove.{remove_rules, rmdir_rules}
use Rattle.sky_nfs.specs.Results.{post_attributes}
use Rattle.sky_nfs.specs.Tree.{Tree, Node, attributes_at, attributes_of, is_directory, named, node_at, no_node, the_node}
use Rattle.sky_nfs.proofs.KeptLemmas.{passed}
use Rattle.sky_nfs.proofs.ProcedureLemmas.{tree_after-done}
use Rattle.sky_nodes.proofs.MapLemmas.{node_at-without_other}
use Rattle.sky_tree.specs.AttrChanges.{left, unlinked}
use Rattle.sky_tree.proofs.AttrLemmas.{attributes-leave}
use Rattle.sky_tree.proofs.PredictLemmas.{at-edit, beside-edit, stands}
use Rattle.sky_tree.proofs.RemoveLemmas.{remove_passed, rmdir_passed}

-- a node that loses a link leaves the others
pub beside-unlink : (t : Tree) (now : Moment) (f j : ℕ) → f ≢ j → node_at (unlink t now f).nodes j ≡ node_at t.nodes j
beside-unlink t now f j apart = go (nat_le (the_node t f).nlink 1)
  where
    go : (b : Bool) → node_at (cond b (erase t f) (edit t f (λ n. stamp now (drop_link n)))).nodes j ≡ node_at t.nodes j
    go true = node_at-without_other t.nodes f j apart
    go false = beside-edit t f j (λ n. stamp now (drop_link n)) apart

-- the directory after the node of an entry was released
at-release : (t : Tree) (now : Moment) (dir f : ℕ) (n : Node) → f ≢ dir → node_at t.nodes dir ≡ Some n → (b : Bool) → node_at (cond b (edit (erase t f) dir drop_link) (unlink t now f)).nodes dir ≡ Some (cond b (drop_link n) n)
at-release t now dir f n apart at true =
    at-edit (erase t f) dir drop_link ∙ ap (λ (o : Option Node). Some (drop_link (unwrap_or o no_node))) (node_at-without_other t.nodes f dir apart ∙ at)
at-release t now dir f n apart at false = beside-unlink t now f dir apart ∙ at

-- the directory after an entry went
pub at-remove_name : (t : Tree) (now : Moment) (dir : ℕ) (name : List ℕ) (f : ℕ) → named t dir name ≡ Some f → f ≢ dir
    → node_at (remove_name t now dir name).nodes dir ≡ Some (cond (is_directory (the_node t f)) (drop_link (leave now name (the_node t dir))) (leave now name (the_node t dir)))
at-remove_name t now dir name f found apart =
    let u : Tree = edit t dir (λ d. leave now name d) in
    let left : Node = leave now name (the_node t dir) in
    let same : is_directory (the_node u f) ≡ is_directory (the_node t f) = ap (λ (o : Option Node). is_directory (unwrap_or o no_node)) (beside-edit t dir f (λ d. leave now name d) (λ e. apart (sym e))) in
    rw found (at-release u now dir f left apart (at-edit t dir (λ d. leave now name d)) (is_directory (the_node u f)) ∙ ap (λ (b : Bool). Some (cond b (drop_link left) left)) same)

pub volume-remove_name : (t : Tree) (now : Moment) (dir : ℕ) (name : List ℕ) → (remove_name t now dir name).volume ≡ t.volume
volume-remove_name t now dir name = go (named t dir name) refl
  where
    last : (u : Tree) (f : ℕ) (b : Bool) → (cond b (erase u f) (edit u f (λ n. stamp now (drop_link n)))).volume ≡ u.volume
    last u f true = refl
    last u f false = refl

    either : (u : Tree) (f : ℕ) (b : Bool) → (cond b (edit (erase u f) dir drop_link) (unlink u now f)).volume ≡ u.volume
    either u f true = refl
    either u f false = last u f (nat_le (the_node u f).nlink 1)

    go : (o : Option ℕ) → named t dir name ≡ o → (remove_name t now dir name).volume ≡ t.volume
    go None e = rw e refl
    go (Some f) e = let u : Tree = edit t dir (λ d. leave now name d) in rw e (either u f (is_directory (the_node u f)))

-- the attributes of the directory
removed_attributes : (t : Tree) (at : DirOpArgs) (now : Moment) (f : ℕ) → is_handle_of t.volume at.directory ≡ true → named t (fileid_in at.directory) at.name ≡ Some f → f ≢ fileid_in at.directory → (b : Bool) → is_directory (the_node t f) ≡ b
    → post_attributes (remove_name t now (fileid_in at.directory) at.name) at.directory ≡ Some (cond b (unlinked (left at.name now (attributes_at t (fileid_in at.directory)))) (left at.name now (attributes_at t (fileid_in at.directory))))
removed_attributes t at now f handle found apart b is =
    let dir : ℕ = fileid_in at.directory in
    let u : Tree = remove_name t now dir at.name in
    let d : Node = the_node t dir in
    let e : Node = leave now at.name d in
    let volume : u.volume ≡ t.volume = volume-remove_name t now dir at.name in
    let same : attributes_of t.volume dir e ≡ left at.name now (attributes_of t.volume dir d) = attributes-leave t.volume dir now at.name f d found in
    stands u at.directory (cond b (drop_link e) e) (cond b (unlinked (left at.name now (attributes_at t dir))) (left at.name now (attributes_at t dir)))
    (rw volume handle)
    (at-remove_name t now dir at.name f found apart ∙ ap (λ (b : Bool). Some (cond b (drop_link e) e)) is)
    (ap (λ (v : ℕ). attributes_of v dir (cond b (drop_link e) e)) volume ∙ either t.volume dir e (left at.name now (attributes_at t dir)) b same)
  where
    either : (v k : ℕ) (e : Node) (a : Attr) (b : Bool) → attributes_of v k e ≡ a → attributes_of v k (cond b (drop_link e) e) ≡ cond b (unlinked a) a
    either v k e a true h = ap unlinked h
    either v k e a false h = h

the_name : (t : Tree) (dir : ℕ) (o : Option ℕ) → is_none o ≡ false → IfSome o (λ f. f ≢ dir) → (f : ℕ) × (o ≡ Some f) × (f ≢ dir)
the_name t dir None some apart = absurd (cc)
the_name t dir (Some f) some apart = (f, refl, apart)

pub remove_after : (t : Tree) (cred : Cred) (at : DirOpArgs) (now : Moment) (dir : ℕ) (name : List ℕ) (attr : Attr) → dir ≡ fileid_in at.directory → name ≡ at.name → None ≡ refusal_of t cred (Call.Remove at)
    → attr ≡ left name now (attributes_at t dir) → post_attributes (tree_after t cred (Call.Remove at) now) at.directory ≡ Some attr
unfolding refusal_of rules_of changed_tree
remove_after t cred at now dir name attr dir_is name_is none attr_is =
    let p = passed (remove_rules t cred at) (sym none) in
    let k : ℕ = fileid_in at.directory in
    let m = remove_passed t cred at (sym none) in
    let handle : is_handle_of t.volume at.directory ≡ true = not-false (is_handle_of t.volume at.directory) p.0 in
    let found = the_name t k (named t k at.name) p.1.1.1.1.1.1.1.0 m.apart in
    let plain : is_directory (the_node t found.0) ≡ false = subst (λ (o : Option ℕ). is_directory (the_node t (unwrap_or o 0)) ≡ false) found.1 p.1.1.1.1.1.1.1.1.1.0 in
    ap (λ (u : Tree). post_attributes u at.directory) (tree_after-done t cred (Call.Remove at) now (sym none))
    ∙ removed_attributes t at now found.0 handle found.1 found.2 false plain
    ∙ ap (λ (a : Attr). Some a) (sym (attr_is ∙ ap (λ (d : ℕ). left name now (attributes_at t d)) dir_is ∙ ap (λ (n : List ℕ). left n now (attributes_at t k)) name_is))

pub rmdir_after : (t : Tree) (cred : Cred) (at : DirOpArgs) (now : Moment) (dir : ℕ) (name : List ℕ) (attr : Attr) → dir ≡ fileid_in at.directory → name ≡ at.name → None ≡ refusal_of t cred (Call.Rmdir at)
    → attr ≡ unlinked (left name now (attributes_at t dir)) → post_attributes (tree_after t cred (Call.Rmdir at) now) at.directory ≡ Some attr
unfolding refusal_of rules_of changed_tree
rmdir_after t cred at now dir name attr dir_is name_is none attr_is =
    let p = passed (rmdir_rules t cred at) (sym none) in
    let k : ℕ = fileid_in at.directory in
    let m = rmdir_passed t cred at (sym none) in
    let handle : is_handle_of t.volume at.directory ≡ true = not-false (is_handle_of t.volume at.directory) p.0 in
    let found = the_name t k (named t k at.name) p.1.1.1.1.1.1.1.1.0 m.apart in
    let folder : not (is_directory (the_node t found.0)) ≡ false = subst (λ (o : Option ℕ). not (is_directory (the_node t (unwrap_or o 0))) ≡ false) found.1 p.1.1.1.1.1.1.1.1.1.1.0 in
    ap (λ (u : Tree). post_attributes u at.directory) (tree_after-done t cred (Call.Rmdir at) now (sym none))
    ∙ removed_attributes t at now found.0 handle found.1 found.2 true (not-false (is_directory (the_node t found.0)) folder)
    ∙ ap (λ (a : Attr). Some a) (sym (attr_is ∙ ap (λ (d : ℕ). unlinked (left name now (attributes_at t d))) dir_is ∙ ap (λ (n : List ℕ). unlinked (left n now (attributes_at t k))) name_is))
