-- CREATE, MKDIR and SYMLINK keep a tree valid.
use Rattle.std.proofs.Common.{◌≡◌, ℕ, ◌+◌, ◌<◌, ◌≤◌, List, [], ◌∷◌, ◌++◌, Option, Some, None, refl, true, false, sym, ap, subst, ◌∙◌, length, arith}
use Rattle.std.specs.Prelude.{Bool, cond, not, ◌&&◌, ◌==◌, nat_lt, nat_le, is_some, unwrap_or, sum_by, option_map, find}
use Rattle.std.specs.List.{list_all}
use Rattle.std.specs.Str.{bytes_eq}
use Rattle.std.proofs.lemmas.Bool.{and_parts, and_from, eq-eqb, ltb-false, leb-false, le-leb, not-false, false≢true}
use Rattle.std.proofs.lemmas.List.Folds.{list_all-append}
use Rattle.std.proofs.lemmas.List.Sums.{sum_by-append}
use Rattle.sky_base.specs.Limits.{max_name_bytes, max_directory_bytes, max_cookie, max_file_bytes, max_link_text_bytes}
use Rattle.sky_base.specs.Listing.{Listing, Entry, with_entry, fileid_at, new_listing, size_of_listing, size_of_name}
use Rattle.sky_base.specs.declared.cred.Cred.{Cred}
use Rattle.sky_base.specs.declared.moment.Moment.{Moment}
use Rattle.sky_nfs.specs.declared.call.DirOpArgs.{DirOpArgs}
use Rattle.sky_nfs.specs.declared.call.Call.{Call}
use Rattle.sky_nfs.specs.declared.call.CreateHow.{CreateHow}
use Rattle.sky_nfs.specs.declared.call.CreateHow.TheVariants.{Unchecked, Guarded, Exclusive}
use Rattle.sky_nfs.specs.declared.call.SetAttr.{SetAttr}
use Rattle.sky_nfs.specs.Changes.{put, edit, resized, with_listing, with_size, stamp, add_link, enter, add_node, new_node, grow}
use Rattle.sky_nfs.specs.Handles.{fileid_in}
use Rattle.sky_nfs.specs.Laws.{KeepsValid}
use Rattle.sky_nfs.specs.Procedure.{refusal_of, rules_of, changed_tree}
use Rattle.sky_nfs.specs.Procedures.Create.{create_rules, create_tree, taken_rules, taken_tree, unchecked_size, new_file, set_by}
use Rattle.sky_nfs.specs.Procedures.Mkdir.{mkdir_rules, mkdir_tree, symlink_rules, symlink_tree}
use Rattle.sky_nfs.specs.Rules.{is_too_big, new_room_rules}
use Rattle.sky_nfs.specs.Tree.{Tree, Node, Content, File, Directory, Link, node_at, with_node, the_node, no_node, is_directory, directory_test, directory_parent, directory_listing, listing_of, parent_of, named}
use Rattle.sky_nfs.specs.Validity.{IsValidTree, is_within}
use Rattle.sky_nfs.proofs.ValidityLemmas.{put_valid, each-node_at}
use Rattle.sky_nfs.proofs.KeptLemmas.{AllPassed, passed, is_there, kept, with_size-shape, with_size-within, mode_within, length-resized}
use Rattle.sky_nfs.proofs.GrowLemmas.{Entering, grown_valid, mid_at, node_at-with_node, some_of, each_entry, entries}

-- a directory with another listing
pub directory-with_listing : (f : Listing → Listing) (c : Content) → directory_test c ≡ true → directory_test (with_listing f c) ≡ true
directory-with_listing f (File bytes) e = e
directory-with_listing f (Directory parent listing) e = refl
directory-with_listing f (Link text) e = e

pub parent-with_listing : (f : Listing → Listing) (c : Content) → directory_parent (with_listing f c) ≡ directory_parent c
parent-with_listing f (File bytes) = refl
parent-with_listing f (Directory parent listing) = refl
parent-with_listing f (Link text) = refl

pub listing-with_listing : (f : Listing → Listing) (c : Content) → directory_test c ≡ true → directory_listing (with_listing f c) ≡ f (directory_listing c)
listing-with_listing f (File bytes) e = absurd (cc)
listing-with_listing f (Directory parent listing) e = refl
listing-with_listing f (Link text) e = absurd (cc)

-- one more entry within the limits
pub within-with_entry : (c : Content) (name : List ℕ) (fileid : ℕ) → directory_test c ≡ true → is_within c ≡ true → length name ≤ max_name_bytes → size_of_listing (directory_listing c) + size_of_name name ≤ max_directory_bytes → (directory_listing c).next_cookie < max_cookie → is_within (with_listing (λ l. with_entry l name fileid) c) ≡ true
within-with_entry (File bytes) name fileid f w n s k = absurd (cc)
within-with_entry (Link text) name fileid f w n s k = absurd (cc)
within-with_entry (Directory parent l) name fileid f w n s k =
    let outer : ((nat_le (size_of_listing l) max_directory_bytes && nat_le l.next_cookie max_cookie) ≡ true) × (list_all (λ (e : Entry). nat_le (length e.name) max_name_bytes) l.entries ≡ true) = and_parts _ _ w in
    let e : Entry = record { cookie = l.next_cookie; name = name; fileid = fileid } in
    let size : sum_by (λ (e : Entry). size_of_name e.name) (l.entries ++ e ∷ []) ≡ size_of_listing l + (0 + size_of_name name) = sum_by-append (λ (e : Entry). size_of_name e.name) l.entries (e ∷ []) in
    let names : list_all (λ (e : Entry). nat_le (length e.name) max_name_bytes) (l.entries ++ e ∷ []) ≡ true = rw list_all-append (and_from _ _ outer.1 (and_from _ _ (le-leb (length name) max_name_bytes n) refl)) in
    let room : sum_by (λ (e : Entry). size_of_name e.name) (l.entries ++ e ∷ []) ≤ max_directory_bytes = omega arith in
    and_from _ _ (and_from _ _ (le-leb _ max_directory_bytes room) (le-leb (l.next_cookie + 1) max_cookie (omega arith))) names

-- the same place written twice
with_node-twice : (ns : List (ℕ × Node)) (k : ℕ) (a b : Node) → with_node (with_node ns k a) k b ≡ with_node ns k b
with_node-twice [] k a b = rw (eq-eqb k k refl)
with_node-twice (e ∷ es) k a b = go (e.0 == k) refl (nat_lt k e.0) refl (with_node-twice es k a b)
  where
    go : (p : Bool) → (e.0 == k) ≡ p → (q : Bool) → nat_lt k e.0 ≡ q → with_node (with_node es k a) k b ≡ with_node es k b → with_node (with_node (e ∷ es) k a) k b ≡ with_node (e ∷ es) k b
    go true h q i ih = rw (h, eq-eqb k k refl)
    go false h true i ih = rw (h, i, eq-eqb k k refl)
    go false h false i ih = rw (h, i, h, i) (ap (λ (r : List (ℕ × Node)). e ∷ r) ih)

-- a directory that may take the name, and a node that may stand there
entering : (t : Tree) (dir : ℕ) (name : List ℕ) (d d' node : Node) → IsValidTree t → node_at t.nodes dir ≡ Some d → is_directory d ≡ true → d'.content ≡ with_listing (λ l. with_entry l name t.next_fileid) d.content → d'.nlink ≡ d.nlink + cond (is_directory node) 1 0 → d'.mode ≡ d.mode → named t dir name ≡ None → nat_lt max_name_bytes (length name) ≡ false → AllPassed (new_room_rules t dir name) → listing_of node ≡ new_listing → (is_directory node ≡ true → parent_of node ≡ dir) → node.nlink ≡ cond (is_directory node) 2 1 → nat_lt node.mode 0o10000 ≡ true → is_within node.content ≡ true → Entering t dir name d d' node
entering t dir name d d' node v at directory content nlink mode free short room listing parent links small within =
    let change : Listing → Listing = λ l. with_entry l name t.next_fileid in
    let node_is : the_node t dir ≡ d = ap (λ (o : Option Node). unwrap_or o no_node) at in
    let space : size_of_listing (listing_of d) + size_of_name name ≤ max_directory_bytes = subst (λ (n : Node). size_of_listing (listing_of n) + size_of_name name ≤ max_directory_bytes) node_is (ltb-false max_directory_bytes _ room.1.1.0) in
    let cookie : (listing_of d).next_cookie < max_cookie = subst (λ (n : Node). (listing_of n).next_cookie < max_cookie) node_is (leb-false max_cookie _ room.1.1.1.0) in
    record {
      at = at;
      directory = directory;
      directory' = ap directory_test content ∙ directory-with_listing change d.content directory;
      parent' = ap directory_parent content ∙ parent-with_listing change d.content;
      listing' = ap directory_listing content ∙ listing-with_listing change d.content directory;
      nlink' = nlink;
      mode' = ap (λ (m : ℕ). nat_lt m 0o10000) mode ∙ each-node_at (λ k n. nat_lt n.mode 0o10000) t.nodes dir d v.modes at;
      within' = ap is_within content ∙ within-with_entry d.content name t.next_fileid directory (each-node_at (λ k n. is_within n.content) t.nodes dir d v.contents_within at) (ltb-false max_name_bytes (length name) short) space cookie;
      free = subst (λ (n : Node). fileid_at (listing_of n) name ≡ None) node_is free;
      listing = listing;
      parent = parent;
      nlink = links;
      mode = small;
      within = within;
      room = leb-false _ _ room.0;
      fileids = leb-false _ _ room.1.0;
    }

-- a new node under a free name
add_node-valid : (t : Tree) (now : Moment) (dir : ℕ) (name : List ℕ) (node : Node) (d : Node) → IsValidTree t → Entering t dir name d (enter now name t.next_fileid d) node → IsValidTree (add_node t now dir name node)
add_node-valid t now dir name node d v g =
    let there : the_node (grow t node) dir ≡ d = ap (λ (o : Option Node). unwrap_or o no_node) (mid_at t dir name d (enter now name t.next_fileid d) node v g) in
    subst (λ (n : Node). IsValidTree (put (grow t node) dir (enter now name t.next_fileid n))) (sym there) (grown_valid t dir name d (enter now name t.next_fileid d) node v g)

-- the directory that a handle was found to have
pub directory_there : (t : Tree) (dir : ℕ) (d : Node) → node_at t.nodes dir ≡ Some d → not (is_directory (the_node t dir)) ≡ false → is_directory d ≡ true
directory_there t dir d at h = not-false (is_directory d) (subst (λ (n : Node). not (is_directory n) ≡ false) (ap (λ (o : Option Node). unwrap_or o no_node) at) h)

-- a new file's bytes
new_bytes : (size : Option ℕ) → is_too_big size ≡ false → nat_le (length (resized [] (unwrap_or size 0))) max_file_bytes ≡ true
new_bytes None h = refl
new_bytes (Some size) h = le-leb (length (resized [] size)) max_file_bytes (omega (arith, length-resized [] size, ltb-false max_file_bytes size h))

-- the same where the directory gets a link besides
mkdir_valid : (t : Tree) (now : Moment) (dir : ℕ) (name : List ℕ) (node : Node) (d : Node) → IsValidTree t → Entering t dir name d (add_link (enter now name t.next_fileid d)) node → IsValidTree (edit (add_node t now dir name node) dir add_link)
mkdir_valid t now dir name node d v g =
    let d' : Node = enter now name t.next_fileid d in
    let ns : List (ℕ × Node) = with_node t.nodes t.next_fileid node in
    let there : the_node (grow t node) dir ≡ d = ap (λ (o : Option Node). unwrap_or o no_node) (mid_at t dir name d (add_link d') node v g) in
    let entered : the_node (put (grow t node) dir d') dir ≡ d' = ap (λ (o : Option Node). unwrap_or o no_node) (node_at-with_node ns dir d' dir ∙ ap (λ (b : Bool). cond b (Some d') (node_at ns dir)) (eq-eqb dir dir refl)) in
    let once : IsValidTree (put (grow t node) dir (add_link d')) = grown_valid t dir name d (add_link d') node v g in
    let twice : IsValidTree (put (put (grow t node) dir d') dir (add_link d')) = subst (λ (ms : List (ℕ × Node)). IsValidTree (record t { nodes = ms; next_fileid = t.next_fileid + 1 })) (sym (with_node-twice ns dir d' (add_link d'))) once in
    let edited : IsValidTree (edit (put (grow t node) dir d') dir add_link) = subst (λ (n : Node). IsValidTree (put (put (grow t node) dir d') dir (add_link n))) (sym entered) twice in
    subst (λ (n : Node). IsValidTree (edit (put (grow t node) dir (enter now name t.next_fileid n)) dir add_link)) (sym there) edited

pub none_of : {A : Type 0} (o : Option A) → is_some o ≡ false → o ≡ None
none_of None e = refl
none_of (Some x) e = absurd (cc)

pub symlink_kept : (at : DirOpArgs) (set : SetAttr) (text : List ℕ) → KeepsValid (Call.Symlink at set text)
unfolding changed_tree refusal_of rules_of
symlink_kept at set text = kept (Call.Symlink at set text) (λ t cred now none v. go t cred now (passed (symlink_rules t cred at set text) none) v)
  where
    go : (t : Tree) (cred : Cred) (now : Moment) → AllPassed (symlink_rules t cred at set text) → IsValidTree t → IsValidTree (symlink_tree t cred at set text now)
    go t cred now p v =
        let dir = fileid_in at.directory in
        let there = is_there (node_at t.nodes dir) p.1.0 in
        let d = there.0 in
        let node = new_node cred now 0o777 set (Link text) in
        let directory = directory_there t dir d there.1 p.1.1.0 in
        let free = none_of (named t dir at.name) p.1.1.1.1.1.1.1.1.1.0 in
        let short = p.1.1.1.0 in
        let room = p.1.1.1.1.1.1.1.1.1.1.1.1.1 in
        add_node-valid t now dir at.name node d v
        (entering t dir at.name d (enter now at.name t.next_fileid d) node v there.1 directory refl (omega arith) refl free short room refl (λ e. absurd (cc)) refl (mode_within set.mode 0o777 refl) (le-leb (length text) max_link_text_bytes (ltb-false max_link_text_bytes (length text) p.1.1.1.1.1.0)))

pub mkdir_kept : (at : DirOpArgs) (set : SetAttr) → KeepsValid (Call.Mkdir at set)
unfolding changed_tree refusal_of rules_of
mkdir_kept at set = kept (Call.Mkdir at set) (λ t cred now none v. go t cred now (passed (mkdir_rules t cred at set) none) v)
  where
    go : (t : Tree) (cred : Cred) (now : Moment) → AllPassed (mkdir_rules t cred at set) → IsValidTree t → IsValidTree (mkdir_tree t cred at set now)
    go t cred now p v =
        let dir = fileid_in at.directory in
        let there = is_there (node_at t.nodes dir) p.1.0 in
        let d = there.0 in
        let node = new_node cred now 0o755 set (Directory dir new_listing) in
        let directory = directory_there t dir d there.1 p.1.1.0 in
        let free = none_of (named t dir at.name) p.1.1.1.1.1.1.1.0 in
        let short = p.1.1.1.0 in
        let room = p.1.1.1.1.1.1.1.1.1.1.1 in
        mkdir_valid t now dir at.name node d v
        (entering t dir at.name d (add_link (enter now at.name t.next_fileid d)) node v there.1 directory refl refl refl free short room refl (λ e. refl) refl (mode_within set.mode 0o755 refl) refl)

-- what holds of each entry's node holds of the one that a name stands for
pub found_in : (p : ℕ → Bool) (name : List ℕ) (xs : List Entry) (fileid : ℕ) → option_map (λ (e : Entry). e.fileid) (find (λ (e : Entry). bytes_eq e.name name) xs) ≡ Some fileid → list_all (λ (e : Entry). p e.fileid) xs ≡ true → p fileid ≡ true
found_in p name [] fileid e h = absurd (cc)
found_in p name (x ∷ xs) fileid e h = go (bytes_eq x.name name) refl (λ rest. found_in p name xs fileid rest parts.1)
  where
    parts : (p x.fileid ≡ true) × (list_all (λ (e : Entry). p e.fileid) xs ≡ true)
    parts = and_parts _ _ h

    go : (b : Bool) → bytes_eq x.name name ≡ b → (option_map (λ (e : Entry). e.fileid) (find (λ (e : Entry). bytes_eq e.name name) xs) ≡ Some fileid → p fileid ≡ true) → p fileid ≡ true
    go true f ih =
        let found : Some x.fileid ≡ Some fileid = rw f at e in
        cc parts.0
    go false f ih = ih (rw f at e)

-- a name stands for a node
pub named_there : (t : Tree) (dir : ℕ) (d : Node) (name : List ℕ) (fileid : ℕ) → IsValidTree t → node_at t.nodes dir ≡ Some d → named t dir name ≡ Some fileid → is_some (node_at t.nodes fileid) ≡ true
named_there t dir d name fileid v at e =
    let there : ℕ → Bool = λ k. is_some (node_at t.nodes k) in
    let each : list_all (λ (e : Entry). there e.fileid) (entries d) ≡ true = each-node_at (λ k n. list_all (λ e. there e.fileid) (entries n)) t.nodes dir d (sym (each_entry (λ e. there e.fileid) t.nodes) ∙ v.entries_name_nodes) at in
    let found : fileid_at (listing_of d) name ≡ Some fileid = subst (λ (n : Node). fileid_at (listing_of n) name ≡ Some fileid) (ap (λ (o : Option Node). unwrap_or o no_node) at) e in
    found_in there name (entries d) fileid found each

-- the file that has the name stays as it is, or takes a size
taken_valid : (t : Tree) (fileid : ℕ) (size : Option ℕ) (now : Moment) → IsValidTree t → is_some (node_at t.nodes fileid) ≡ true → is_too_big size ≡ false → IsValidTree (taken_tree t fileid size now)
taken_valid t fileid None now v there small = v
taken_valid t fileid (Some size) now v there small =
    let a = some_of (node_at t.nodes fileid) there in
    let mode : nat_lt a.0.mode 0o10000 ≡ true = each-node_at (λ k n. nat_lt n.mode 0o10000) t.nodes fileid a.0 v.modes a.1 in
    let content : is_within a.0.content ≡ true = each-node_at (λ k n. is_within n.content) t.nodes fileid a.0 v.contents_within a.1 in
    let shape = with_size-shape (Some size) now a.0 in
    let at : the_node t fileid ≡ a.0 = ap (λ (o : Option Node). unwrap_or o no_node) a.1 in
    subst (λ (n : Node). IsValidTree (put t fileid (stamp now (with_size (Some size) now n)))) (sym at) (put_valid t fileid a.0 (stamp now (with_size (Some size) now a.0)) v a.1 (record { directory = shape.directory; parent = shape.parent; listing = shape.listing; nlink = shape.nlink }) mode (with_size-within (Some size) now a.0 small content))

-- what the rules on a taken name leave of the size
taken_size : (t : Tree) (cred : Cred) (fileid : ℕ) (how : CreateHow) → AllPassed (taken_rules t cred fileid how) → is_too_big (unchecked_size how) ≡ false
taken_size t cred fileid (Unchecked set) p = p.1.1.0
taken_size t cred fileid (Guarded set) p = absurd (false≢true (sym p.0))
taken_size t cred fileid (Exclusive verifier) p = refl

pub create_kept : (at : DirOpArgs) (how : CreateHow) → KeepsValid (Call.Create at how)
unfolding changed_tree refusal_of rules_of
create_kept at how = kept (Call.Create at how) (λ t cred now none v. go t cred now (passed (create_rules t cred at how) none) v)
  where
    go : (t : Tree) (cred : Cred) (now : Moment) → AllPassed (create_rules t cred at how) → IsValidTree t → IsValidTree (create_tree t cred at how now)
    go t cred now p v = by_name (named t dir at.name) refl
      where
        dir : ℕ
        dir = fileid_in at.directory

        there : (a : Node) × (node_at t.nodes (fileid_in at.directory) ≡ Some a)
        there = is_there (node_at t.nodes (fileid_in at.directory)) p.1.0

        by_name : (o : Option ℕ) → named t (fileid_in at.directory) at.name ≡ o → IsValidTree (create_tree t cred at how now)
        by_name (Some fileid) e =
            let rest = rw e at p.1.1.1.1.1.1.1 in
            rw e (taken_valid t fileid (unchecked_size how) now v (named_there t (fileid_in at.directory) there.0 at.name fileid v there.1 e) (taken_size t cred fileid how rest))
        by_name None e =
            let rest = rw e at p.1.1.1.1.1.1.1 in
            let d = there.0 in
            let node = new_file cred now how in
            let directory = directory_there t (fileid_in at.directory) d there.1 p.1.1.0 in
            rw e (add_node-valid t now (fileid_in at.directory) at.name node d v
            (entering t (fileid_in at.directory) at.name d (enter now at.name t.next_fileid d) node v there.1 directory refl (omega arith) refl e p.1.1.1.0 rest.1.1.1.1 refl (λ e. absurd (cc)) refl (mode_within (set_by how).mode 0o644 refl) (new_bytes (set_by how).size rest.1.1.1.0)))
