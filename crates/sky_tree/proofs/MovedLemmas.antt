-- RENAME: what is known where it isn't refused, and the tree after it.
use Rattle.std.proofs.Common.{◌≡◌, ◌≢◌, ℕ, ◌+◌, ◌≤◌, ◌<◌, ◌^◌, ◌++◌, List, [], Option, Some, None, refl, sym, ap, subst, ◌∙◌, true, false, cond, length}
use Rattle.std.specs.Prelude.{Bool, IsSome, IfSome, ◌==◌, ◌&&◌, unwrap_or}
use Rattle.std.specs.Str.{bytes_eq}
use Rattle.std.proofs.lemmas.Bool.{eq-eqb, ltb-false, leb-false, false≢true}
use Rattle.std.proofs.lemmas.Slice.Eq.{bytes_eq-Decides}
use Rattle.sky_base.specs.Limits.{max_name_bytes, max_cookie, max_directory_bytes}
use Rattle.sky_base.specs.Listing.{size_of_listing, without_entry}
use Rattle.sky_base.specs.declared.cred.Cred.{Cred}
use Rattle.sky_base.specs.declared.moment.Moment.{Moment}
use Rattle.sky_nfs.specs.declared.call.Call.{Call}
use Rattle.sky_nfs.specs.declared.call.DirOpArgs.{DirOpArgs}
use Rattle.sky_nfs.specs.Handles.{fileid_in}
use Rattle.sky_nfs.specs.Procedure.{refusal_of, rules_of, tree_after, changed_tree}
use Rattle.sky_nfs.specs.Procedures.Remove.{has_entries}
use Rattle.sky_nfs.specs.Procedures.Rename.{is_same, move_name, move_rules, rename_rules, staying, target_rules}
use Rattle.sky_nfs.specs.Rules.{Rules, entry_room_rules}
use Rattle.sky_nfs.specs.Tree.{Tree, Node, is_directory, listing_of, named, no_node, node_at, the_node}
use Rattle.sky_nfs.specs.Validity.{IsValidTree, is_within}
use Rattle.sky_nfs.proofs.CreateLemmas.{directory_there, named_there}
use Rattle.sky_nfs.proofs.KeptLemmas.{AllPassed, passed, is_there}
use Rattle.sky_nfs.proofs.ProcedureLemmas.{tree_after-done}
use Rattle.sky_nfs.proofs.ValidityLemmas.{each-node_at}
use Rattle.sky_tree.proofs.MakeLemmas.{links_fit, size_within}
use Rattle.sky_tree.proofs.RemoveLemmas.{nameless}

-- a name that may move to another one
pub record Moves (t : Tree) (from : ℕ) (from_name : List ℕ) (to : ℕ) (to_name : List ℕ) (f : ℕ) : Type 0 where
  pub source : IsSome (node_at t.nodes from)
  pub target : IsSome (node_at t.nodes to)
  pub node : IsSome (node_at t.nodes f)
  pub fits : (the_node t to).nlink + 1 < 2 ^ 32
  pub apart : IfSome (named t to to_name) (λ old. (old ≢ to) × (old ≢ from) × (old ≢ f))
  pub differ : from ≡ to → bytes_eq to_name from_name ≡ false
  pub cookie : (listing_of (the_node t to)).next_cookie < max_cookie
  pub size : size_of_listing (listing_of (the_node t to)) ≤ max_directory_bytes

-- what may be taken away is no directory with a name in it
bare_apart : (t : Tree) (g dir : ℕ) (name : List ℕ) (f : ℕ) → (is_directory (the_node t g) && has_entries (the_node t g)) ≡ false → is_directory (the_node t dir) ≡ true → named t dir name ≡ Some f → g ≢ dir
bare_apart t g dir name f bare is found same =
    let here : (is_directory (the_node t dir) && has_entries (the_node t dir)) ≡ false = subst (λ (k : ℕ). (is_directory (the_node t k) && has_entries (the_node t k)) ≡ false) same bare in
    let empty : has_entries (the_node t dir) ≡ false = rw is at here in
    let none : named t dir name ≡ None = nameless (listing_of (the_node t dir)) name empty in
    let wrong : None ≡ Some f = sym none ∙ found in
    absurd (cc)

target_apart : (t : Tree) (from : ℕ) (from_name : List ℕ) (to : ℕ) (to_name : List ℕ) (f : ℕ) (room : Rules) → is_directory (the_node t from) ≡ true → is_directory (the_node t to) ≡ true → named t from from_name ≡ Some f
    → (o : Option ℕ) → named t to to_name ≡ o → is_same (Some f) o ≡ false → AllPassed (target_rules t (the_node t f) o ++ room) → IfSome o (λ old. (old ≢ to) × (old ≢ from) × (old ≢ f))
target_apart t from from_name to to_name f room from_is to_is found None e differ p = tt
target_apart t from from_name to to_name f room from_is to_is found (Some g) e differ p = (
  bare_apart t g to to_name g p.1.0 to_is e,
  bare_apart t g from from_name f p.1.0 from_is found,
  λ same. false≢true (sym differ ∙ eq-eqb f g (sym same)),
)

room_left : (t : Tree) (source : Node) (room : Rules) (o : Option ℕ) → AllPassed (target_rules t source o ++ room) → AllPassed room
room_left t source room None p = p
room_left t source room (Some g) p = p.1.1

-- one name of a directory doesn't stand for two nodes
names_differ : (t : Tree) (from : ℕ) (from_name : List ℕ) (to : ℕ) (to_name : List ℕ) (f : ℕ) → named t from from_name ≡ Some f → is_same (Some f) (named t to to_name) ≡ false → from ≡ to → bytes_eq to_name from_name ≡ false
names_differ t from from_name to to_name f found differ same = go (bytes_eq to_name from_name) refl
  where
    go : (b : Bool) → bytes_eq to_name from_name ≡ b → b ≡ false
    go false e = refl
    go true e =
        let name : to_name ≡ from_name = (bytes_eq-Decides to_name from_name).0 e in
        let here : named t to to_name ≡ Some f = ap (named t to) name ∙ ap (λ (k : ℕ). named t k from_name) (sym same) ∙ found in
        let wrong : (f == f) ≡ false = subst (λ (o : Option ℕ). is_same (Some f) o ≡ false) here differ in
        absurd (false≢true (sym wrong ∙ eq-eqb f f refl))

staying-cookie : (t : Tree) (from : ℕ) (from_name : List ℕ) (to : ℕ) (to_name : List ℕ) → (staying t from from_name to to_name).next_cookie ≡ (listing_of (the_node t to)).next_cookie
staying-cookie t from from_name to to_name = go (from == to)
  where
    go : (b : Bool) → (cond b (without_entry (without_entry (listing_of (the_node t to)) to_name) from_name) (without_entry (listing_of (the_node t to)) to_name)).next_cookie ≡ (listing_of (the_node t to)).next_cookie
    go true = refl
    go false = refl

moves : (t : Tree) (from : ℕ) (from_name : List ℕ) (to : ℕ) (to_name : List ℕ) (f : ℕ) (df dt : Node) → IsValidTree t → node_at t.nodes from ≡ Some df → is_directory df ≡ true → node_at t.nodes to ≡ Some dt → is_directory dt ≡ true
    → named t from from_name ≡ Some f → is_same (Some f) (named t to to_name) ≡ false → AllPassed (move_rules t from from_name to to_name f) → Moves t from from_name to to_name f
moves t from from_name to to_name f df dt v at_from from_directory at_to to_directory found differ p =
    let room : Rules = entry_room_rules (staying t from from_name to to_name) to_name in
    let the_from : is_directory (the_node t from) ≡ true = ap (λ (o : Option Node). is_directory (unwrap_or o no_node)) at_from ∙ from_directory in
    let the_to : is_directory (the_node t to) ≡ true = ap (λ (o : Option Node). is_directory (unwrap_or o no_node)) at_to ∙ to_directory in
    let left : AllPassed room = room_left t (the_node t f) room (named t to to_name) p.1 in
    let cookie : (staying t from from_name to to_name).next_cookie < max_cookie = leb-false max_cookie _ left.1.0 in
    let within : size_of_listing (listing_of dt) ≤ max_directory_bytes = size_within dt.content (each-node_at (λ k n. is_within n.content) t.nodes to dt v.contents_within at_to) in
    record {
      source = rw at_from refl;
      target = rw at_to refl;
      node = named_there t from df from_name f v at_from found;
      fits = links_fit t to v;
      apart = target_apart t from from_name to to_name f room the_from the_to found (named t to to_name) refl differ p.1;
      differ = names_differ t from from_name to to_name f found differ;
      cookie = rw (sym (staying-cookie t from from_name to to_name)) cookie;
      size = rw (ap (λ (o : Option Node). size_of_listing (listing_of (unwrap_or o no_node))) at_to) within;
    }

-- the rules on the target, where both names stand for two nodes
target_passed : (t : Tree) (from : ℕ) (from_name : List ℕ) (to : ℕ) (to_name : List ℕ) (f : ℕ) (o : Option ℕ) → o ≡ Some f → is_same (Some f) (named t to to_name) ≡ false
    → AllPassed (cond (is_same o (named t to to_name)) [] (move_rules t from from_name to to_name (unwrap_or o 0))) → AllPassed (move_rules t from from_name to to_name f)
target_passed t from from_name to to_name f o found differ p =
    let q : AllPassed (cond (is_same (Some f) (named t to to_name)) [] (move_rules t from from_name to to_name f)) =
    subst (λ (x : Option ℕ). AllPassed (cond (is_same x (named t to to_name)) [] (move_rules t from from_name to to_name (unwrap_or x 0)))) found p in
    subst (λ (b : Bool). AllPassed (cond b [] (move_rules t from from_name to to_name f))) differ q

pub rename_passed : (t : Tree) (cred : Cred) (at to_at : DirOpArgs) (f : ℕ) → IsValidTree t → refusal_of t cred (Call.Rename at to_at) ≡ None → named t (fileid_in at.directory) at.name ≡ Some f
    → is_same (Some f) (named t (fileid_in to_at.directory) to_at.name) ≡ false → Moves t (fileid_in at.directory) at.name (fileid_in to_at.directory) to_at.name f
unfolding refusal_of rules_of
rename_passed t cred at to_at f v none found differ =
    let p = passed (rename_rules t cred at to_at) none in
    let from : ℕ = fileid_in at.directory in
    let to : ℕ = fileid_in to_at.directory in
    let place = is_there (node_at t.nodes from) p.1.0 in
    let goal = is_there (node_at t.nodes to) p.1.1.1.0 in
    let directory = directory_there t from place.0 place.1 p.1.1.1.1.0 in
    let to_directory = directory_there t to goal.0 goal.1 p.1.1.1.1.1.0 in
    moves t from at.name to to_at.name f place.0 goal.0 v place.1 directory goal.1 to_directory found differ
    (target_passed t from at.name to to_at.name f (named t from at.name) found differ p.1.1.1.1.1.1.1.1.1.1.1.1.1.1.1.1)

-- the new name is short
pub rename_short : (t : Tree) (cred : Cred) (at to_at : DirOpArgs) → refusal_of t cred (Call.Rename at to_at) ≡ None → length to_at.name ≤ 255
unfolding refusal_of rules_of
rename_short t cred at to_at none =
    let p = passed (rename_rules t cred at to_at) none in
    ltb-false max_name_bytes (length to_at.name) p.1.1.1.1.1.1.1.1.0

-- the tree after the call: nothing is done where both names stand for one node
pub rename_stays : (t : Tree) (cred : Cred) (at to_at : DirOpArgs) (now : Moment) (f : ℕ) → refusal_of t cred (Call.Rename at to_at) ≡ None → named t (fileid_in at.directory) at.name ≡ Some f
    → is_same (Some f) (named t (fileid_in to_at.directory) to_at.name) ≡ true → t ≡ tree_after t cred (Call.Rename at to_at) now
unfolding changed_tree
rename_stays t cred at to_at now f none found same =
    let from : ℕ = fileid_in at.directory in
    let to : ℕ = fileid_in to_at.directory in
    let is : is_same (named t from at.name) (named t to to_at.name) ≡ true = subst (λ (o : Option ℕ). is_same o (named t to to_at.name) ≡ true) (sym found) same in
    sym (tree_after-done t cred (Call.Rename at to_at) now none ∙ ap (λ (b : Bool). cond b t (move_name t now from at.name to to_at.name (unwrap_or (named t from at.name) 0))) is)

-- and the name moves else
pub rename_moves : (t : Tree) (cred : Cred) (at to_at : DirOpArgs) (now : Moment) (f : ℕ) → refusal_of t cred (Call.Rename at to_at) ≡ None → named t (fileid_in at.directory) at.name ≡ Some f
    → is_same (Some f) (named t (fileid_in to_at.directory) to_at.name) ≡ false → move_name t now (fileid_in at.directory) at.name (fileid_in to_at.directory) to_at.name f ≡ tree_after t cred (Call.Rename at to_at) now
unfolding changed_tree
rename_moves t cred at to_at now f none found differ =
    let from : ℕ = fileid_in at.directory in
    let to : ℕ = fileid_in to_at.directory in
    let is : is_same (named t from at.name) (named t to to_at.name) ≡ false = subst (λ (o : Option ℕ). is_same o (named t to to_at.name) ≡ false) (sym found) differ in
    sym (tree_after-done t cred (Call.Rename at to_at) now none ∙ ap (λ (b : Bool). cond b t (move_name t now from at.name to to_at.name (unwrap_or (named t from at.name) 0))) is
    ∙ ap (λ (o : Option ℕ). move_name t now from at.name to to_at.name (unwrap_or o 0)) found)

-- the directories, the names and the node as the code has them
pub record Named (t : Tree) (at to_at : DirOpArgs) (from : ℕ) (from_name : List ℕ) (to : ℕ) (to_name : List ℕ) (f : ℕ) : Type 0 where
  pub from_is : from ≡ fileid_in at.directory
  pub from_name_is : from_name ≡ at.name
  pub to_is : to ≡ fileid_in to_at.directory
  pub to_name_is : to_name ≡ to_at.name
  pub found : named t from at.name ≡ Some f

module _ (t : Tree) (cred : Cred) (at to_at : DirOpArgs) (from : ℕ) (from_name : List ℕ) (to : ℕ) (to_name : List ℕ) (f : ℕ) (none : refusal_of t cred (Call.Rename at to_at) ≡ None) (n : Named t at to_at from from_name to to_name f) where
  found : named t (fileid_in at.directory) at.name ≡ Some f
  found = ap (λ (k : ℕ). named t k at.name) (sym n.from_is) ∙ n.found

  same_as : (b : Bool) → is_same (Some f) (named t to to_name) ≡ b → is_same (Some f) (named t (fileid_in to_at.directory) to_at.name) ≡ b
  same_as b e = ap (λ (k : ℕ). is_same (Some f) (named t k to_at.name)) (sym n.to_is) ∙ ap (λ (m : List ℕ). is_same (Some f) (named t to m)) (sym n.to_name_is) ∙ e

  pub passed_as : IsValidTree t → is_same (Some f) (named t to to_name) ≡ false → Moves t from from_name to to_name f
  passed_as v differ = rw (n.from_is, n.from_name_is, n.to_is, n.to_name_is) (rename_passed t cred at to_at f v none found (same_as false differ))

  pub stays_as : (now : Moment) → is_same (Some f) (named t to to_name) ≡ true → t ≡ tree_after t cred (Call.Rename at to_at) now
  stays_as now same = rename_stays t cred at to_at now f none found (same_as true same)

  pub moves_as : (now : Moment) → is_same (Some f) (named t to to_name) ≡ false → move_name t now from from_name to to_name f ≡ tree_after t cred (Call.Rename at to_at) now
  moves_as now differ = rw (n.from_is, n.from_name_is, n.to_is, n.to_name_is) (rename_moves t cred at to_at now f none found (same_as false differ))
