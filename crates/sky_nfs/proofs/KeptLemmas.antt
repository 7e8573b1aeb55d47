-- SETATTR and WRITE keep a tree valid.
use Rattle.std.proofs.Common.{◌≡◌, ℕ, ◌+◌, ◌-◌, ◌%◌, ◌≤◌, List, [], ◌∷◌, ◌++◌, Option, Some, None, refl, true, false, sym, subst, length, take, drop, replicate, arith, length-append, length-take, length-drop}
use Rattle.std.proofs.lemmas.List.{length-replicate}
use Rattle.std.specs.Prelude.{Bool, ◌==◌, not, nat_lt, is_some, unwrap_or, option_map}
use Rattle.std.proofs.lemmas.Bool.{ltb-false, leb-true, lt-ltb, le-leb, cond_both}
use Rattle.sky_base.specs.Limits.{max_file_bytes}
use Rattle.sky_base.specs.declared.cred.Cred.{Cred}
use Rattle.sky_base.specs.declared.moment.Moment.{Moment}
use Rattle.sky_nfs.specs.declared.call.Call.{Call}
use Rattle.sky_nfs.specs.declared.call.SetAttr.{SetAttr}
use Rattle.sky_nfs.specs.declared.call.StableHow.{StableHow}
use Rattle.sky_nfs.specs.declared.status.NfsStatus.{NfsStatus}
use Rattle.sky_nfs.specs.Calls.{is_change}
use Rattle.sky_nfs.specs.Changes.{put, edit, resized, written, with_bytes, with_size}
use Rattle.sky_nfs.specs.Handles.{fileid_in}
use Rattle.sky_nfs.specs.Laws.{KeepsValid}
use Rattle.sky_nfs.specs.Procedure.{tree_after, refusal_of, rules_of, changed_tree}
use Rattle.sky_nfs.specs.Procedures.SetAttr.{setattr_rules, setattr_tree, set_node}
use Rattle.sky_nfs.specs.Procedures.Write.{write_rules, write_tree, write_node, write_count}
use Rattle.sky_nfs.specs.Rules.{Rules, first_of, is_too_big}
use Rattle.sky_nfs.specs.Tree.{Tree, Node, Content, File, Directory, Link, node_at, directory_test, directory_parent, directory_listing}
use Rattle.sky_nfs.specs.Validity.{IsValidTree, is_within}
use Rattle.sky_nfs.proofs.ProcedureLemmas.{tree_after-refused, tree_after-done, tree_after-reading}
use Rattle.sky_nfs.proofs.ValidityLemmas.{SameShape, put_valid, each-node_at}

-- none of the tests is true
abbrev pub AllPassed : Rules → Type 0
AllPassed [] = Unit {0}
AllPassed (rule ∷ rules) = (rule.0 ≡ false) × AllPassed rules

pub passed : (rules : Rules) → first_of rules ≡ None → AllPassed rules
passed [] e = tt
passed (rule ∷ rules) e = go rule.0 refl (passed rules)
  where
    go : (b : Bool) → rule.0 ≡ b → (first_of rules ≡ None → AllPassed rules) → (rule.0 ≡ false) × AllPassed rules
    go true h rest =
        let found : Some rule.1 ≡ None = rw h at e in
        absurd (cc)
    go false h rest =
        let none : first_of rules ≡ None = rw h at e in
        (h, rest none)

-- the node that a handle was found to have
pub is_there : (o : Option Node) → not (is_some o) ≡ false → (a : Node) × (o ≡ Some a)
is_there None e = absurd (cc)
is_there (Some a) e = (a, refl)

with_bytes-directory : (f : List ℕ → List ℕ) (c : Content) → directory_test c ≡ directory_test (with_bytes f c)
with_bytes-directory f (File bytes) = refl
with_bytes-directory f (Directory parent listing) = refl
with_bytes-directory f (Link text) = refl

with_bytes-parent : (f : List ℕ → List ℕ) (c : Content) → directory_parent c ≡ directory_parent (with_bytes f c)
with_bytes-parent f (File bytes) = refl
with_bytes-parent f (Directory parent listing) = refl
with_bytes-parent f (Link text) = refl

with_bytes-listing : (f : List ℕ → List ℕ) (c : Content) → directory_listing c ≡ directory_listing (with_bytes f c)
with_bytes-listing f (File bytes) = refl
with_bytes-listing f (Directory parent listing) = refl
with_bytes-listing f (Link text) = refl

-- bytes that a file may have, in the place of others
with_bytes-within : (f : List ℕ → List ℕ) (c : Content) → ((bytes : List ℕ) → length bytes ≤ max_file_bytes → length (f bytes) ≤ max_file_bytes) → is_within c ≡ true → is_within (with_bytes f c) ≡ true
with_bytes-within f (File bytes) h e = le-leb _ _ (h bytes (leb-true _ _ e))
with_bytes-within f (Directory parent listing) h e = e
with_bytes-within f (Link text) h e = e

pub length-resized : (bytes : List ℕ) (size : ℕ) → length (resized bytes size) ≡ size
length-resized bytes size = omega (arith, length-append (take size bytes) (replicate (size - length bytes) 0), length-take size bytes, length-replicate {A = ℕ} (size - length bytes) 0)

length-written : (bytes : List ℕ) (offset : ℕ) (piece : List ℕ) → length bytes ≤ max_file_bytes → offset + length piece ≤ max_file_bytes → length (written bytes offset piece) ≤ max_file_bytes
length-written bytes offset piece h k =
    let outer = length-append (resized bytes offset ++ piece) (drop (offset + length piece) bytes) in
    let inner = length-append (resized bytes offset) piece in
    let rest = length-drop (offset + length piece) bytes in
    omega (arith, outer, inner, rest, length-resized bytes offset)

pub with_size-shape : (size : Option ℕ) (now : Moment) (n : Node) → SameShape n (with_size size now n)
with_size-shape None now n = record { directory = refl; parent = refl; listing = refl; nlink = refl }
with_size-shape (Some size) now n = record { directory = with_bytes-directory _ n.content; parent = with_bytes-parent _ n.content; listing = with_bytes-listing _ n.content; nlink = refl }

pub with_size-mode : (size : Option ℕ) (now : Moment) (n : Node) → (with_size size now n).mode ≡ n.mode
with_size-mode None now n = refl
with_size-mode (Some size) now n = refl

pub with_size-within : (size : Option ℕ) (now : Moment) (n : Node) → is_too_big size ≡ false → is_within n.content ≡ true → is_within (with_size size now n).content ≡ true
with_size-within None now n h e = e
with_size-within (Some size) now n h e = with_bytes-within (λ bytes. resized bytes size) n.content (λ bytes k. omega (arith, length-resized bytes size, ltb-false max_file_bytes size h)) e

pub mode_within : (set : Option ℕ) (mode : ℕ) → nat_lt mode 0o10000 ≡ true → nat_lt (unwrap_or (option_map (λ m. m % 4096) set) mode) 0o10000 ≡ true
mode_within None mode e = e
mode_within (Some m) mode e = lt-ltb _ _ (omega arith)

-- a node with other attributes stays where it is, as it is
pub set_node-valid : (t : Tree) (k : ℕ) (a : Node) (set : SetAttr) (now : Moment) → IsValidTree t → node_at t.nodes k ≡ Some a → is_too_big set.size ≡ false → IsValidTree (put t k (set_node set now a))
set_node-valid t k a set now v at small =
    let mode : nat_lt a.mode 0o10000 ≡ true = each-node_at (λ k n. nat_lt n.mode 0o10000) t.nodes k a v.modes at in
    let content : is_within a.content ≡ true = each-node_at (λ k n. is_within n.content) t.nodes k a v.contents_within at in
    let shape = with_size-shape set.size now a in
    put_valid t k a (set_node set now a) v at
    (record { directory = shape.directory; parent = shape.parent; listing = shape.listing; nlink = shape.nlink })
    (mode_within set.mode (with_size set.size now a).mode (rw with_size-mode mode))
    (with_size-within set.size now a small content)

-- a file with bytes written to it stays where it is
pub write_node-valid : (t : Tree) (k : ℕ) (a : Node) (now : Moment) (offset : ℕ) (piece : List ℕ) → IsValidTree t → node_at t.nodes k ≡ Some a → offset + length piece ≤ max_file_bytes → IsValidTree (put t k (write_node now offset piece a))
write_node-valid t k a now offset piece v at fits =
    let mode : nat_lt a.mode 0o10000 ≡ true = each-node_at (λ k n. nat_lt n.mode 0o10000) t.nodes k a v.modes at in
    let content : is_within a.content ≡ true = each-node_at (λ k n. is_within n.content) t.nodes k a v.contents_within at in
    let change : List ℕ → List ℕ = λ bytes. written bytes offset piece in
    put_valid t k a (write_node now offset piece a) v at
    (record { directory = with_bytes-directory change a.content; parent = with_bytes-parent change a.content; listing = with_bytes-listing change a.content; nlink = refl })
    mode
    (with_bytes-within change a.content (λ bytes h. length-written bytes offset piece h fits) content)

-- a call keeps a tree valid where its change does, once nothing is refused
pub kept : (call : Call) → ((t : Tree) (cred : Cred) (now : Moment) → refusal_of t cred call ≡ None → IsValidTree t → IsValidTree (changed_tree t cred call now)) → KeepsValid call
kept call change t cred now v = go (refusal_of t cred call) refl
  where
    go : (r : Option NfsStatus) → refusal_of t cred call ≡ r → IsValidTree (tree_after t cred call now)
    go None h = subst IsValidTree (sym (tree_after-done t cred call now h)) (change t cred now h v)
    go (Some status) h = subst IsValidTree (sym (tree_after-refused t cred call now status h)) v

pub setattr_kept : (object : List ℕ) (set : SetAttr) (guard : Option Moment) → KeepsValid (Call.SetAttr object set guard)
unfolding changed_tree refusal_of rules_of
setattr_kept object set guard = kept (Call.SetAttr object set guard) (λ t cred now none v. go t cred now (passed (setattr_rules t cred object set guard) none) v)
  where
    go : (t : Tree) (cred : Cred) (now : Moment) → AllPassed (setattr_rules t cred object set guard) → IsValidTree t → IsValidTree (setattr_tree t object set now)
    go t cred now p v =
        let there = is_there (node_at t.nodes (fileid_in object)) p.1.0 in
        let small : is_too_big set.size ≡ false = p.1.1.1.1.1.1.1.1.1.0 in
        rw there.1 (set_node-valid t (fileid_in object) there.0 set now v there.1 small)

pub write_kept : (file : List ℕ) (offset count : ℕ) (how : StableHow) (piece : List ℕ) → KeepsValid (Call.Write file offset count how piece)
unfolding changed_tree refusal_of rules_of
write_kept file offset count how piece = kept (Call.Write file offset count how piece) (λ t cred now none v. go t cred now (passed (write_rules t cred file offset count piece) none) v)
  where
    go : (t : Tree) (cred : Cred) (now : Moment) → AllPassed (write_rules t cred file offset count piece) → IsValidTree t → IsValidTree (write_tree t file offset count piece now)
    go t cred now p v =
        let there = is_there (node_at t.nodes (fileid_in file)) p.1.0 in
        let n = write_count count in
        let low : offset + n ≤ max_file_bytes = ltb-false max_file_bytes (offset + n) p.1.1.1.1.1.0 in
        let fits : offset + length (take n piece) ≤ max_file_bytes = omega (arith, length-take n piece) in
        cond_both (n == 0) t (edit t (fileid_in file) (λ node. write_node now offset (take n piece) node)) IsValidTree (λ none. v) (λ some. rw there.1 (write_node-valid t (fileid_in file) there.0 now offset (take n piece) v there.1 fits))

-- a procedure that only reads
pub reading_kept : (call : Call) → is_change call ≡ false → KeepsValid call
reading_kept call e t cred now v = subst IsValidTree (sym (tree_after-reading t cred call now e)) v
