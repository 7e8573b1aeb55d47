-- CREATE: its refusals in two parts, and what is known where it isn't refused.
use Rattle.std.proofs.Common.{◌≡◌, ℕ, ◌++◌, List, Option, Some, None, refl, sym, ap, ◌∙◌}
use Rattle.std.specs.Prelude.{IfSome, IsSome, is_some}
use Rattle.sky_base.specs.declared.cred.Cred.{Cred}
use Rattle.sky_base.specs.declared.moment.Moment.{Moment}
use Rattle.sky_nfs.specs.declared.call.Call.{Call}
use Rattle.sky_nfs.specs.declared.call.CreateHow.{CreateHow}
use Rattle.sky_nfs.specs.declared.call.DirOpArgs.{DirOpArgs}
use Rattle.sky_nfs.specs.declared.status.NfsStatus.{NfsStatus}
use Rattle.sky_nfs.specs.Changes.{add_node}
use Rattle.sky_nfs.specs.Handles.{fileid_in}
use Rattle.sky_nfs.specs.Procedure.{refusal_of, rules_of, tree_after, changed_tree}
use Rattle.sky_nfs.specs.Procedures.Create.{create_rules, create_tree, taken_tree, new_file, unchecked_size}
use Rattle.sky_nfs.specs.Rules.{first_of}
use Rattle.sky_nfs.specs.Tree.{Tree, Node, node_at, named}
use Rattle.sky_nfs.specs.Validity.{IsValidTree}
use Rattle.sky_nfs.proofs.CreateLemmas.{named_there}
use Rattle.sky_nfs.proofs.KeptLemmas.{passed, is_there}
use Rattle.sky_nfs.proofs.ProcedureLemmas.{tree_after-done}
use Rattle.sky_tree.specs.Creating.{place_rules, use_rules}
use Rattle.sky_tree.proofs.MakeLemmas.{Makes, makes}
use Rattle.sky_tree.proofs.RuleLemmas.{refused_by, passed_by}

-- the two parts are all
pub create_parts : (t : Tree) (cred : Cred) (at : DirOpArgs) (how : CreateHow) → refusal_of t cred (Call.Create at how) ≡ first_of (place_rules t cred at ++ use_rules t cred how (fileid_in at.directory) at.name (named t (fileid_in at.directory) at.name))
unfolding refusal_of rules_of
create_parts t cred at how = go (named t (fileid_in at.directory) at.name) refl
  where
    go : (o : Option ℕ) → named t (fileid_in at.directory) at.name ≡ o → first_of (create_rules t cred at how) ≡ first_of (place_rules t cred at ++ use_rules t cred how (fileid_in at.directory) at.name (named t (fileid_in at.directory) at.name))
    go (Some f) e = rw e refl
    go None e = rw e refl

-- where the place is refused
pub place_refused : (t : Tree) (cred : Cred) (at : DirOpArgs) (how : CreateHow) (e : NfsStatus) → Some e ≡ first_of (place_rules t cred at) → Some e ≡ refusal_of t cred (Call.Create at how)
place_refused t cred at how e h =
    refused_by (place_rules t cred at) (use_rules t cred how (fileid_in at.directory) at.name (named t (fileid_in at.directory) at.name)) e h ∙ sym (create_parts t cred at how)

-- where it isn't, the use decides
pub use_decides : (t : Tree) (cred : Cred) (at : DirOpArgs) (how : CreateHow) (dir : ℕ) (name : List ℕ) (o : Option ℕ) → dir ≡ fileid_in at.directory → name ≡ at.name → o ≡ named t dir name → None ≡ first_of (place_rules t cred at)
    → first_of (use_rules t cred how dir name o) ≡ refusal_of t cred (Call.Create at how)
use_decides t cred at how dir name o dir_is name_is o_is h =
    ap (λ (o : Option ℕ). first_of (use_rules t cred how dir name o)) o_is
    ∙ ap (λ (d : ℕ). first_of (use_rules t cred how d name (named t d name))) dir_is
    ∙ ap (λ (n : List ℕ). first_of (use_rules t cred how (fileid_in at.directory) n (named t (fileid_in at.directory) n))) name_is
    ∙ sym (passed_by (place_rules t cred at) (use_rules t cred how (fileid_in at.directory) at.name (named t (fileid_in at.directory) at.name)) h)
    ∙ sym (create_parts t cred at how)

-- a name stands for a node that is there
pub names_stand : (t : Tree) (dir : ℕ) (name : List ℕ) (o : Option ℕ) → IsValidTree t → IsSome (node_at t.nodes dir) → o ≡ named t dir name → IfSome o (λ f. IsSome (node_at t.nodes f))
names_stand t dir name None v there e = tt
names_stand t dir name (Some f) v there e = go (node_at t.nodes dir) refl there
  where
    go : (n : Option Node) → node_at t.nodes dir ≡ n → IsSome n → IsSome (node_at t.nodes f)
    go None at here = absurd (cc)
    go (Some d) at here = named_there t dir d name f v at (sym e)

-- where CREATE isn't refused
pub record Creates (t : Tree) (dir : ℕ) (name : List ℕ) : Type 0 where
  pub there : IsSome (node_at t.nodes dir)
  pub free : named t dir name ≡ None → Makes t dir name

pub create_passed : (t : Tree) (cred : Cred) (at : DirOpArgs) (how : CreateHow) → IsValidTree t → refusal_of t cred (Call.Create at how) ≡ None → Creates t (fileid_in at.directory) at.name
unfolding refusal_of rules_of
create_passed t cred at how v none =
    let p = passed (create_rules t cred at how) none in
    let place = is_there (node_at t.nodes (fileid_in at.directory)) p.1.0 in
    record {
      there = rw place.1 refl;
      free = λ e.
          let rest = rw e at p.1.1.1.1.1.1.1 in
          makes t (fileid_in at.directory) at.name v p.1.0 (ap is_some e) p.1.1.1.0 rest.1.1.1.1;
    }

-- the tree after the call, where the name stands for a file
pub create_taken : (t : Tree) (cred : Cred) (at : DirOpArgs) (how : CreateHow) (now : Moment) (dir : ℕ) (name : List ℕ) (f : ℕ) → dir ≡ fileid_in at.directory → name ≡ at.name → Some f ≡ named t dir name → refusal_of t cred (Call.Create at how) ≡ None
    → taken_tree t f (unchecked_size how) now ≡ tree_after t cred (Call.Create at how) now
unfolding changed_tree
create_taken t cred at how now dir name f dir_is name_is found none =
    let here : named t (fileid_in at.directory) at.name ≡ Some f = sym (found ∙ ap (λ (d : ℕ). named t d name) dir_is ∙ ap (λ (n : List ℕ). named t (fileid_in at.directory) n) name_is) in
    let made : taken_tree t f (unchecked_size how) now ≡ create_tree t cred at how now = rw here refl in
    made ∙ sym (tree_after-done t cred (Call.Create at how) now none)

-- and where it stands for none
pub create_new : (t : Tree) (cred : Cred) (at : DirOpArgs) (how : CreateHow) (now : Moment) (dir : ℕ) (name : List ℕ) (node : Node) → dir ≡ fileid_in at.directory → name ≡ at.name → node ≡ new_file cred now how → None ≡ named t dir name → refusal_of t cred (Call.Create at how) ≡ None
    → add_node t now dir name node ≡ tree_after t cred (Call.Create at how) now
unfolding changed_tree
create_new t cred at how now dir name node dir_is name_is node_is found none =
    let here : named t (fileid_in at.directory) at.name ≡ None = sym (found ∙ ap (λ (d : ℕ). named t d name) dir_is ∙ ap (λ (n : List ℕ). named t (fileid_in at.directory) n) name_is) in
    let made : add_node t now (fileid_in at.directory) at.name (new_file cred now how) ≡ create_tree t cred at how now = rw here refl in
    ap (λ (x : Node). add_node t now dir name x) node_is ∙ ap (λ (d : ℕ). add_node t now d name (new_file cred now how)) dir_is ∙ ap (λ (n : List ℕ). add_node t now (fileid_in at.directory) n (new_file cred now how)) name_is
    ∙ made ∙ sym (tree_after-done t cred (Call.Create at how) now none)
