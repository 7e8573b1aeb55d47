-- RENAME keeps a tree valid.
use Rattle.std.proofs.Common.{◌≡◌, ℕ, zero, suc, ◌+◌, ◌<◌, ◌≤◌, List, [], ◌∷◌, ◌++◌, Option, Some, None, refl, true, false, sym, ap, subst, ◌∙◌, length, inl, inr}
use Rattle.std.specs.Prelude.{Bool, cond, not, ◌&&◌, ◌||◌, ◌==◌, ◌⊎◌, nat_le, map, unwrap_or}
use Rattle.std.specs.List.{list_all, list_any}
use Rattle.std.specs.Str.{bytes_eq}
use Rattle.std.proofs.lemmas.Bool.{and_parts, eqb-true, eq-eqb, ne_eqb, ltb-false, leb-false, or_parts, or_from, or_left, not-true, not-false, not_from_false, false≢true, cases_Bool, cond_both}
use Rattle.sky_base.specs.Limits.{max_name_bytes, max_directory_bytes, max_cookie}
use Rattle.sky_base.specs.Listing.{Listing, Entry, without_entry, without_name, size_of_listing, size_of_name}
use Rattle.sky_base.specs.declared.cred.Cred.{Cred}
use Rattle.sky_base.specs.declared.moment.Moment.{Moment}
use Rattle.sky_nfs.specs.declared.call.DirOpArgs.{DirOpArgs}
use Rattle.sky_nfs.specs.declared.call.Call.{Call}
use Rattle.sky_nfs.specs.Changes.{edit, erase, stamp, drop_link, enter, leave, release, remove_name, with_listing}
use Rattle.sky_nfs.specs.Handles.{fileid_in}
use Rattle.sky_nfs.specs.Laws.{KeepsValid}
use Rattle.sky_nfs.specs.Procedure.{refusal_of, rules_of, changed_tree}
use Rattle.sky_nfs.specs.Procedures.Remove.{has_entries}
use Rattle.sky_nfs.specs.Procedures.Rename.{rename_rules, rename_tree, move_name, move_directory, move_rules, target_rules, staying, is_same}
use Rattle.sky_nfs.specs.Rules.{Rules, entry_room_rules}
use Rattle.sky_nfs.specs.Tree.{Tree, Node, Content, File, Directory, Link, node_at, the_node, no_node, root, is_directory, directory_test, directory_parent, directory_listing, listing_of, parent_of, named, ancestors, is_at_or_below}
use Rattle.sky_nfs.specs.Validity.{IsValidTree, are_distinct}
use Rattle.sky_nfs.proofs.ValidityLemmas.{each-node_at}
use Rattle.sky_nfs.proofs.KeptLemmas.{AllPassed, passed, is_there, kept}
use Rattle.sky_nfs.proofs.GrowLemmas.{entries, not_found, each_entry, entries_weaken, node_at-with_node, there_of, some_of}
use Rattle.sky_nfs.proofs.CreateLemmas.{found_in, parent-with_listing, listing-with_listing, directory_there, named_there}
use Rattle.std.proofs.lemmas.Slice.Eq.{bytes_eq-Decides}
use Rattle.sky_nfs.proofs.DropLemmas.{found_id, all_map, none_all}
use Rattle.sky_nfs.proofs.RemoveLemmas.{node_at-without_node, plain_empty, no_length, kinds_apart, entries_apart, some_named, plain_removed, directory_removed}
use Rattle.sky_nfs.proofs.CarryLemmas.{has, names_test, Avoids, the_parent_is_directory}
use Rattle.sky_nfs.proofs.MoveLemmas.{moved_plain, moved_directory}

other_name : (x y name : List ℕ) → bytes_eq x name ≡ true → not (bytes_eq x y) ≡ true → not (bytes_eq y name) ≡ true
other_name x y name e h = not_from_false _ (go (cases_Bool (bytes_eq y name)))
  where
    go : (bytes_eq y name ≡ true) ⊎ (bytes_eq y name ≡ false) → bytes_eq y name ≡ false
    go (inl agrees) =
        let same : x ≡ y = (bytes_eq-Decides x name).0 e ∙ sym ((bytes_eq-Decides y name).0 agrees) in
        absurd (false≢true (sym (not-true _ h) ∙ (bytes_eq-Decides x y).1 same))
    go (inr away) = away

-- where names differ, a name whose entry went is free
free-after : (xs : List Entry) (name : List ℕ) → are_distinct (map (λ e. e.name) xs) ≡ true → list_any (λ e. bytes_eq e.name name) (without_name xs name) ≡ false
free-after [] name h = refl
free-after (x ∷ xs) name h = go (bytes_eq x.name name) refl (free-after xs name parts.1)
  where
    parts : (not (list_any (bytes_eq x.name) (map (λ e. e.name) xs)) ≡ true) × (are_distinct (map (λ e. e.name) xs) ≡ true)
    parts = and_parts _ _ h

    apart : list_all (λ e. not (bytes_eq x.name e.name)) xs ≡ true
    apart = sym (none_all (bytes_eq x.name) (map (λ e. e.name) xs) ∙ all_map (λ y. not (bytes_eq x.name y)) (λ e. e.name) xs) ∙ parts.0

    go : (b : Bool) → bytes_eq x.name name ≡ b → list_any (λ e. bytes_eq e.name name) (without_name xs name) ≡ false → list_any (λ e. bytes_eq e.name name) (cond b xs (x ∷ without_name xs name)) ≡ false
    go true e ih = not-true _ (none_all (λ e. bytes_eq e.name name) xs ∙ entries_weaken (λ y. not (bytes_eq x.name y.name)) (λ y. not (bytes_eq y.name name)) (λ y h. other_name x.name y.name name e h) xs apart)
    go false e ih = or_from _ _ e ih

-- a name is found where another one's entry went
found-without : (xs : List Entry) (name other : List ℕ) (f : ℕ) → found_id xs name ≡ Some f → (found_id xs other ≡ Some f → ⊥) → found_id (without_name xs other) name ≡ Some f
found-without [] name other f h away = absurd (cc)
found-without (x ∷ xs) name other f h away = go (bytes_eq x.name other) refl (bytes_eq x.name name) refl (λ rest less. found-without xs name other f rest less)
  where
    go : (b : Bool) → bytes_eq x.name other ≡ b → (d : Bool) → bytes_eq x.name name ≡ d → (found_id xs name ≡ Some f → (found_id xs other ≡ Some f → ⊥) → found_id (without_name xs other) name ≡ Some f) → found_id (cond (bytes_eq x.name other) xs (x ∷ without_name xs other)) name ≡ Some f
    go true b true d ih =
        let here : Some x.fileid ≡ Some f = rw d at h in
        let clash : found_id (x ∷ xs) other ≡ Some f = rw b here in
        absurd (away clash)
    go true b false d ih =
        let rest : found_id xs name ≡ Some f = rw d at h in
        rw b rest
    go false b true d ih =
        let here : Some x.fileid ≡ Some f = rw d at h in
        rw (b, d) here
    go false b false d ih =
        let rest : found_id xs name ≡ Some f = rw d at h in
        rw (b, d) (ih rest (λ e. away (rw b e)))

without-none : (xs : List Entry) (name : List ℕ) → list_any (λ e. bytes_eq e.name name) xs ≡ false → without_name xs name ≡ xs
without-none [] name h = refl
without-none (x ∷ xs) name h =
    let parts = or_parts (bytes_eq x.name name) _ h in
    rw parts.0 (ap (λ (r : List Entry). x ∷ r) (without-none xs name parts.1))

unchanged : (c : Content) (name : List ℕ) → list_any (λ e. bytes_eq e.name name) (directory_listing c).entries ≡ false → with_listing (λ l. without_entry l name) c ≡ c
unchanged (File bytes) name h = refl
unchanged (Directory parent l) name h = ap (λ (es : List Entry). Directory parent (record l { entries = es })) (without-none l.entries name h)
unchanged (Link text) name h = refl

test-with_listing : (f : Listing → Listing) (c : Content) → directory_test (with_listing f c) ≡ directory_test c
test-with_listing f (File bytes) = refl
test-with_listing f (Directory parent l) = refl
test-with_listing f (Link text) = refl

-- a tree in which what stood under a name is gone: all that stands elsewhere is as it was
pub record Cleared (t c : Tree) (to : ℕ) (name : List ℕ) (o : Option ℕ) : Type 0 where
  pub valid : IsValidTree c
  pub content : (k : ℕ) → (o ≡ Some k → ⊥) → (the_node c k).content ≡ cond (to == k) (with_listing (λ l. without_entry l name) (the_node t k).content) (the_node t k).content
  pub bare : (k : ℕ) → o ≡ Some k → entries (the_node t k) ≡ []

edit_content : (t : Tree) (i : ℕ) (g : Node → Node) (k : ℕ) → ((n : Node) → (g n).content ≡ n.content) → (the_node (edit t i g) k).content ≡ (the_node t k).content
edit_content t i g k same = ap (λ (o : Option Node). (unwrap_or o no_node).content) (node_at-with_node t.nodes i (g (the_node t i)) k) ∙ go (i == k) refl
  where
    go : (b : Bool) → (i == k) ≡ b → (unwrap_or (cond b (Some (g (the_node t i))) (node_at t.nodes k)) no_node).content ≡ (the_node t k).content
    go true e = same (the_node t i) ∙ ap (λ (j : ℕ). (the_node t j).content) (eqb-true i k e)
    go false e = refl

edit_leave : (t : Tree) (now : Moment) (i : ℕ) (name : List ℕ) (k : ℕ) → (the_node (edit t i (λ d. leave now name d)) k).content ≡ cond (i == k) (with_listing (λ l. without_entry l name) (the_node t k).content) (the_node t k).content
edit_leave t now i name k = ap (λ (o : Option Node). (unwrap_or o no_node).content) (node_at-with_node t.nodes i (leave now name (the_node t i)) k) ∙ go (i == k) refl
  where
    go : (b : Bool) → (i == k) ≡ b → (unwrap_or (cond b (Some (leave now name (the_node t i))) (node_at t.nodes k)) no_node).content ≡ cond b (with_listing (λ l. without_entry l name) (the_node t k).content) (the_node t k).content
    go true e = ap (λ (j : ℕ). with_listing (λ l. without_entry l name) (the_node t j).content) (eqb-true i k e)
    go false e = refl

erase_content : (t : Tree) (g k : ℕ) → (g == k) ≡ false → (the_node (erase t g) k).content ≡ (the_node t k).content
erase_content t g k e = ap (λ (o : Option Node). (unwrap_or o no_node).content) (node_at-without_node t.nodes g k ∙ ap (λ (b : Bool). cond b None (node_at t.nodes k)) e)

release_content : (t : Tree) (now : Moment) (dir g k : ℕ) → (g == k) ≡ false → (the_node (release t now dir g) k).content ≡ (the_node t k).content
release_content t now dir g k e = go (is_directory (the_node t g)) (nat_le (the_node t g).nlink 1)
  where
    go : (b d : Bool) → (the_node (cond b (edit (erase t g) dir drop_link) (cond d (erase t g) (edit t g (λ n. stamp now (drop_link n))))) k).content ≡ (the_node t k).content
    go true d = edit_content (erase t g) dir drop_link k (λ n. refl) ∙ erase_content t g k e
    go false true = erase_content t g k e
    go false false = edit_content t g (λ n. stamp now (drop_link n)) k (λ n. refl)

-- the target goes as REMOVE or RMDIR has it
cleared : (t : Tree) (now : Moment) (to : ℕ) (name : List ℕ) (dt source : Node) (room : Rules) → IsValidTree t → node_at t.nodes to ≡ Some dt → is_directory dt ≡ true → (o : Option ℕ) → named t to name ≡ o → AllPassed (target_rules t source o ++ room) → Cleared t (remove_name t now to name) to name o × AllPassed room
cleared t now to name dt source room v at directory None e p = (
  rw e (record {
    valid = v;
    content = λ k away. go k (to == k) refl;
    bare = λ k i. absurd (cc);
  }),
  p,
)
  where
    go : (k : ℕ) (b : Bool) → (to == k) ≡ b → (the_node t k).content ≡ cond b (with_listing (λ l. without_entry l name) (the_node t k).content) (the_node t k).content
    go k true i = subst (λ (j : ℕ). (the_node t j).content ≡ with_listing (λ l. without_entry l name) (the_node t j).content) (eqb-true to k i) (sym (unchanged (the_node t to).content name (not_found (entries (the_node t to)) name e)))
    go k false i = refl
cleared t now to name dt source room v at directory (Some g) e p = (
  record {
    valid = removed (is_directory a) refl;
    content = λ k away. left k (ne_eqb g k (λ same. away (ap Some same)));
    bare = λ k i. let same : g ≡ k = cc in subst (λ (j : ℕ). entries (the_node t j) ≡ []) same none_there;
  },
  p.1.1,
)
  where
    there : (n : Node) × (node_at t.nodes g ≡ Some n)
    there = some_of (node_at t.nodes g) (named_there t to dt name g v at e)

    a : Node
    a = there.0

    at_a : the_node t g ≡ a
    at_a = ap (λ (o : Option Node). unwrap_or o no_node) there.1

    bare_directory : is_directory a ≡ true → entries a ≡ []
    bare_directory is =
        let full : (is_directory a && has_entries a) ≡ false = subst (λ (n : Node). (is_directory n && has_entries n) ≡ false) at_a p.1.0 in
        let away : has_entries a ≡ false = rw is at full in
        no_length (entries a) (eqb-true _ 0 (not-false _ away))

    none : (b : Bool) → is_directory a ≡ b → entries a ≡ []
    none true is = bare_directory is
    none false is = plain_empty a is

    none_there : entries (the_node t g) ≡ []
    none_there = ap entries at_a ∙ none (is_directory a) refl

    removed : (b : Bool) → is_directory a ≡ b → IsValidTree (remove_name t now to name)
    removed true is = directory_removed t now to g name dt a v at directory e there.1 (bare_directory is) (entries_apart t to g name dt a at there.1 e (bare_directory is)) is
    removed false is = plain_removed t now to g name dt a v at directory e there.1 (plain_empty a is) (kinds_apart t to g dt a at there.1 directory is) is

    left : (k : ℕ) → (g == k) ≡ false → (the_node (remove_name t now to name) k).content ≡ cond (to == k) (with_listing (λ l. without_entry l name) (the_node t k).content) (the_node t k).content
    left k apart = rw e (release_content (edit t to (λ d. leave now name d)) now to g k apart ∙ edit_leave t now to name k)

module _ (t c : Tree) (to : ℕ) (name : List ℕ) (o : Option ℕ) (v : IsValidTree t) (g : Cleared t c to name o) where
  same_by : {A : Type 0} (h : Content → A) (k : ℕ) → (o ≡ Some k → ⊥) → ((y : Content) → h (with_listing (λ l. without_entry l name) y) ≡ h y) → h (the_node c k).content ≡ h (the_node t k).content
  same_by h k away keeps = ap h (g.content k away) ∙ go (to == k)
    where
      go : (b : Bool) → h (cond b (with_listing (λ l. without_entry l name) (the_node t k).content) (the_node t k).content) ≡ h (the_node t k).content
      go true = keeps (the_node t k).content
      go false = refl

  pub cleared_directory : (k : ℕ) → (o ≡ Some k → ⊥) → is_directory (the_node c k) ≡ is_directory (the_node t k)
  cleared_directory k away = same_by directory_test k away (test-with_listing (λ l. without_entry l name))

  cleared_parent : (k : ℕ) → (o ≡ Some k → ⊥) → parent_of (the_node c k) ≡ parent_of (the_node t k)
  cleared_parent k away = same_by directory_parent k away (parent-with_listing (λ l. without_entry l name))

  pub named_away : (k : ℕ) (other : List ℕ) (j : ℕ) → named t k other ≡ Some j → o ≡ Some k → ⊥
  named_away k other j e i =
      let nothing : named t k other ≡ None = ap (λ (xs : List Entry). found_id xs other) (g.bare k i) in
      let both : ◌≡◌ {A = Option ℕ} None (Some j) = sym nothing ∙ e in
      cc

  has_away : (k j : ℕ) → has (the_node t k) j ≡ true → o ≡ Some k → ⊥
  has_away k j h i = false≢true (sym (ap (list_any (λ (e : Entry). e.fileid == j)) (g.bare k i)) ∙ h)

  parent_away : (k : ℕ) → is_directory (the_node t k) ≡ true → (o ≡ Some k → ⊥) → o ≡ Some (parent_of (the_node t k)) → ⊥
  parent_away k h away =
      let n = some_of (node_at t.nodes k) (there_of (node_at t.nodes k) h) in
      let node_is : the_node t k ≡ n.0 = ap (λ (o : Option Node). unwrap_or o no_node) n.1 in
      let directory : is_directory n.0 ≡ true = subst (λ (m : Node). is_directory m ≡ true) node_is h in
      go n.0 node_is directory (cases_Bool (k == root)) (each-node_at (λ k n. not (is_directory n) || k == root || list_any (λ e. e.fileid == k) (entries (the_node t (parent_of n)))) t.nodes k n.0 v.directories_stand_in_parents n.1)
    where
      go : (n : Node) → the_node t k ≡ n → is_directory n ≡ true → ((k == root) ≡ true) ⊎ ((k == root) ≡ false) → (not (is_directory n) || k == root || list_any (λ e. e.fileid == k) (entries (the_node t (parent_of n)))) ≡ true → o ≡ Some (parent_of (the_node t k)) → ⊥
      go n same directory (inl top) stands =
          let is_root : k ≡ root = eqb-true k root top in
          let up : parent_of (the_node t root) ≡ root = eqb-true _ root v.root_is_top in
          let here : parent_of (the_node t k) ≡ k = subst (λ (j : ℕ). parent_of (the_node t j) ≡ j) (sym is_root) up in
          λ i. away (i ∙ ap Some here)
      go n same directory (inr lower) stands =
          let holds : list_any (λ e. e.fileid == k) (entries (the_node t (parent_of n))) ≡ true = rw (directory, lower) at stands in
          let in_parent : has (the_node t (parent_of (the_node t k))) k ≡ true = subst (λ (m : Node). has (the_node t (parent_of m)) k ≡ true) (sym same) holds in
          has_away (parent_of (the_node t k)) k in_parent

  ways_kept : (m k : ℕ) → is_directory (the_node t k) ≡ true → (o ≡ Some k → ⊥) → ancestors c m k ≡ ancestors t m k
  ways_kept zero k h away = refl
  ways_kept (suc m) k h away = ap (λ (r : List ℕ). k ∷ r) (ap (ancestors c m) (cleared_parent k away) ∙ ways_kept m (parent_of (the_node t k)) (the_parent_is_directory t v k h) (parent_away k h away))

  up_to_root : (k : ℕ) (n : Node) → node_at t.nodes k ≡ Some n → is_directory n ≡ true → list_any (λ d. d == root) (ancestors t (length t.nodes) k) ≡ true
  up_to_root k n at directory = go (cases_Bool (k == root)) (each-node_at (λ k n. not (is_directory n) || k == root || is_at_or_below t k root) t.nodes k n v.ways_lead_up at)
    where
      some_node : (ns : List (ℕ × Node)) → node_at ns k ≡ Some n → (k == root) ≡ true → list_any (λ d. d == root) (ancestors t (length ns) k) ≡ true
      some_node [] at e = absurd (cc)
      some_node (m ∷ ms) at e = or_left _ _ e

      go : ((k == root) ≡ true) ⊎ ((k == root) ≡ false) → (not (is_directory n) || k == root || is_at_or_below t k root) ≡ true → list_any (λ d. d == root) (ancestors t (length t.nodes) k) ≡ true
      go (inl e) h = some_node t.nodes at e
      go (inr e) h = rw (directory, e) at h

  -- the way up from the directory is as before
  pub cleared_avoids : (f : ℕ) (dt : Node) → node_at t.nodes to ≡ Some dt → is_directory dt ≡ true → (o ≡ Some to → ⊥) → is_at_or_below t to f ≡ false → Avoids c f to
  cleared_avoids f dt at directory away below =
      let same : ancestors c (length t.nodes) to ≡ ancestors t (length t.nodes) to = ways_kept (length t.nodes) to (ap (λ (o : Option Node). is_directory (unwrap_or o no_node)) at ∙ directory) away in
      record {
        steps = length t.nodes;
        up = ap (list_any (λ d. d == root)) same ∙ up_to_root to dt at directory;
        apart = ap (list_any (λ d. d == f)) same ∙ below;
      }

  listing_at : (k : ℕ) → (o ≡ Some k → ⊥) → is_directory (the_node t k) ≡ true → listing_of (the_node c k) ≡ cond (to == k) (without_entry (listing_of (the_node t k)) name) (listing_of (the_node t k))
  listing_at k away is = ap directory_listing (g.content k away) ∙ go (to == k)
    where
      go : (b : Bool) → directory_listing (cond b (with_listing (λ l. without_entry l name) (the_node t k).content) (the_node t k).content) ≡ cond b (without_entry (listing_of (the_node t k)) name) (listing_of (the_node t k))
      go true = listing-with_listing (λ l. without_entry l name) (the_node t k).content is
      go false = refl

-- the old name goes and the new one comes
move_valid : (t : Tree) (now : Moment) (from : ℕ) (from_name : List ℕ) (to : ℕ) (to_name : List ℕ) (f : ℕ) (df dt : Node) → IsValidTree t → node_at t.nodes from ≡ Some df → is_directory df ≡ true → node_at t.nodes to ≡ Some dt → is_directory dt ≡ true → named t from from_name ≡ Some f → is_same (Some f) (named t to to_name) ≡ false → length to_name ≤ max_name_bytes → AllPassed (move_rules t from from_name to to_name f) → IsValidTree (move_name t now from from_name to to_name f)
move_valid t now from from_name to to_name f df dt v at_from from_directory at_to to_directory found differ short p = done
  where
    both : Cleared t (remove_name t now to to_name) to to_name (named t to to_name) × AllPassed (entry_room_rules (staying t from from_name to to_name) to_name)
    both = cleared t now to to_name dt (the_node t f) (entry_room_rules (staying t from from_name to to_name) to_name) v at_to to_directory (named t to to_name) refl p.1

    g : Cleared t (remove_name t now to to_name) to to_name (named t to to_name)
    g = both.0

    the_from : is_directory (the_node t from) ≡ true
    the_from = ap (λ (o : Option Node). is_directory (unwrap_or o no_node)) at_from ∙ from_directory

    the_to : is_directory (the_node t to) ≡ true
    the_to = ap (λ (o : Option Node). is_directory (unwrap_or o no_node)) at_to ∙ to_directory

    f_away : named t to to_name ≡ Some f → ⊥
    f_away e =
        let no_same : (f == f) ≡ false = subst (λ (x : Option ℕ). is_same (Some f) x ≡ false) e differ in
        false≢true (sym no_same ∙ eq-eqb f f refl)

    from_away : named t to to_name ≡ Some from → ⊥
    from_away = named_away t (remove_name t now to to_name) to to_name (named t to to_name) v g from from_name f found

    to_away : named t to to_name ≡ Some to → ⊥
    to_away e = named_away t (remove_name t now to to_name) to to_name (named t to to_name) v g to to_name to e e

    from_c : is_directory (the_node (remove_name t now to to_name) from) ≡ true
    from_c = cleared_directory t (remove_name t now to to_name) to to_name (named t to to_name) v g from from_away ∙ the_from

    to_c : is_directory (the_node (remove_name t now to to_name) to) ≡ true
    to_c = cleared_directory t (remove_name t now to to_name) to to_name (named t to to_name) v g to to_away ∙ the_to

    df' : (n : Node) × (node_at (remove_name t now to to_name).nodes from ≡ Some n)
    df' = some_of (node_at (remove_name t now to to_name).nodes from) (there_of (node_at (remove_name t now to to_name).nodes from) from_c)

    dt' : (n : Node) × (node_at (remove_name t now to to_name).nodes to ≡ Some n)
    dt' = some_of (node_at (remove_name t now to to_name).nodes to) (there_of (node_at (remove_name t now to to_name).nodes to) to_c)

    from_is : the_node (remove_name t now to to_name) from ≡ df'.0
    from_is = ap (λ (o : Option Node). unwrap_or o no_node) df'.1

    to_is : the_node (remove_name t now to to_name) to ≡ dt'.0
    to_is = ap (λ (o : Option Node). unwrap_or o no_node) dt'.1

    found_c : found_id (entries (the_node (remove_name t now to to_name) from)) from_name ≡ Some f
    found_c = ap (λ (l : Listing). found_id l.entries from_name) (listing_at t (remove_name t now to to_name) to to_name (named t to to_name) v g from from_away the_from) ∙ go (to == from) refl
      where
        go : (b : Bool) → (to == from) ≡ b → found_id (cond b (without_entry (listing_of (the_node t from)) to_name) (listing_of (the_node t from))).entries from_name ≡ Some f
        go true e = found-without (entries (the_node t from)) from_name to_name f found (subst (λ (j : ℕ). named t j to_name ≡ Some f → ⊥) (eqb-true to from e) f_away)
        go false e = found

    listing_c : listing_of (the_node (remove_name t now to to_name) to) ≡ without_entry (listing_of (the_node t to)) to_name
    listing_c = listing_at t (remove_name t now to to_name) to to_name (named t to to_name) v g to to_away the_to ∙ ap (λ (b : Bool). cond b (without_entry (listing_of (the_node t to)) to_name) (listing_of (the_node t to))) (eq-eqb to to refl)

    listing_d : listing_of dt'.0 ≡ without_entry (listing_of (the_node t to)) to_name
    listing_d = ap listing_of (sym to_is) ∙ listing_c

    free : list_any (λ e. bytes_eq e.name to_name) (entries dt'.0) ≡ false
    free = ap (λ (l : Listing). list_any (λ e. bytes_eq e.name to_name) l.entries) listing_d ∙ free-after (entries (the_node t to)) to_name (subst (λ (n : Node). names_test (listing_of n) ≡ true) (sym (ap (λ (o : Option Node). unwrap_or o no_node) at_to)) (each-node_at (λ k n. names_test (listing_of n)) t.nodes to dt v.names_differ at_to))

    there_f : (n : Node) × (node_at (remove_name t now to to_name).nodes f ≡ Some n)
    there_f = some_of (node_at (remove_name t now to to_name).nodes f) (named_there (remove_name t now to to_name) from df'.0 from_name f g.valid df'.1 found_c)

    f_is : the_node (remove_name t now to to_name) f ≡ there_f.0
    f_is = ap (λ (o : Option Node). unwrap_or o no_node) there_f.1

    kind_f : is_directory there_f.0 ≡ is_directory (the_node t f)
    kind_f = ap is_directory (sym f_is) ∙ cleared_directory t (remove_name t now to to_name) to to_name (named t to to_name) v g f f_away

    f_not_root : (f == root) ≡ false
    f_not_root =
        let none : list_all (λ (e : Entry). not (e.fileid == root)) (entries df) ≡ true = each-node_at (λ k n. list_all (λ e. not (e.fileid == root)) (entries n)) t.nodes from df (sym (each_entry (λ e. not (e.fileid == root)) t.nodes) ∙ v.none_names_root) at_from in
        let id : found_id (entries df) from_name ≡ Some f = subst (λ (n : Node). found_id (entries n) from_name ≡ Some f) (ap (λ (o : Option Node). unwrap_or o no_node) at_from) found in
        not-true _ (found_in (λ k. not (k == root)) from_name (entries df) f id none)

    space : size_of_listing (cond (from == to) (without_entry (listing_of dt'.0) from_name) (listing_of dt'.0)) + size_of_name to_name ≤ max_directory_bytes
    space = subst (λ (l : Listing). size_of_listing (cond (from == to) (without_entry l from_name) l) + size_of_name to_name ≤ max_directory_bytes) (sym listing_d) (ltb-false max_directory_bytes _ both.1.0)

    cookie : (listing_of dt'.0).next_cookie < max_cookie
    cookie = subst (λ (l : Listing). l.next_cookie < max_cookie) (sym listing_d) (subst (λ (m : ℕ). m < max_cookie) (go (from == to)) (leb-false max_cookie _ both.1.1.0))
      where
        go : (b : Bool) → (cond b (without_entry (without_entry (listing_of (the_node t to)) to_name) from_name) (without_entry (listing_of (the_node t to)) to_name)).next_cookie ≡ (listing_of (the_node t to)).next_cookie
        go true = refl
        go false = refl

    avoids : is_directory there_f.0 ≡ true → Avoids (remove_name t now to to_name) f to
    avoids is =
        let source : is_directory (the_node t f) ≡ true = sym kind_f ∙ is in
        let below : is_at_or_below t to f ≡ false = ap (λ (b : Bool). b && is_at_or_below t to f) (sym source) ∙ p.0 in
        cleared_avoids t (remove_name t now to to_name) to to_name (named t to to_name) v g f dt at_to to_directory to_away below

    directory_d : is_directory dt'.0 ≡ true
    directory_d = sym (ap is_directory to_is) ∙ to_c

    directory_f : is_directory df'.0 ≡ true
    directory_f = sym (ap is_directory from_is) ∙ from_c

    found_d : found_id (entries df'.0) from_name ≡ Some f
    found_d = ap (λ (n : Node). found_id (entries n) from_name) (sym from_is) ∙ found_c

    moved : Tree
    moved = edit (edit (edit (remove_name t now to to_name) from (λ d. leave now from_name d)) to (λ d. enter now to_name f d)) f (λ n. stamp now n)

    plain : is_directory (the_node t f) ≡ false → IsValidTree moved
    plain k = moved_plain (remove_name t now to to_name) now from to f from_name to_name df'.0 dt'.0 there_f.0 g.valid df'.1 directory_f dt'.1 directory_d found_d there_f.1 f_not_root free short space cookie avoids (kind_f ∙ k)

    directory : is_directory (the_node t f) ≡ true → IsValidTree (move_directory moved from to f)
    directory k = moved_directory (remove_name t now to to_name) now from to f from_name to_name df'.0 dt'.0 there_f.0 g.valid df'.1 directory_f dt'.1 directory_d found_d there_f.1 f_not_root free short space cookie avoids (kind_f ∙ k)

    done : IsValidTree (move_name t now from from_name to to_name f)
    done = cond_both (is_directory (the_node t f)) (move_directory moved from to f) moved IsValidTree directory plain

pub rename_kept : (from to : DirOpArgs) → KeepsValid (Call.Rename from to)
unfolding changed_tree refusal_of rules_of
rename_kept at to_at = kept (Call.Rename at to_at) (λ t cred now none v. go t cred now (passed (rename_rules t cred at to_at) none) v)
  where
    go : (t : Tree) (cred : Cred) (now : Moment) → AllPassed (rename_rules t cred at to_at) → IsValidTree t → IsValidTree (rename_tree t at to_at now)
    go t cred now p v =
        let from : ℕ = fileid_in at.directory in
        let to : ℕ = fileid_in to_at.directory in
        let place = is_there (node_at t.nodes from) p.1.0 in
        let goal = is_there (node_at t.nodes to) p.1.1.1.0 in
        let directory = directory_there t from place.0 place.1 p.1.1.1.1.0 in
        let to_directory = directory_there t to goal.0 goal.1 p.1.1.1.1.1.0 in
        let short = ltb-false max_name_bytes (length to_at.name) p.1.1.1.1.1.1.1.1.0 in
        let source = some_named (named t from at.name) p.1.1.1.1.1.1.1.1.1.1.1.1.1.1.1.0 in
        by_same t now place.0 goal.0 source.0 v place.1 directory goal.1 to_directory source.1 short (is_same (named t from at.name) (named t to to_at.name)) refl p.1.1.1.1.1.1.1.1.1.1.1.1.1.1.1.1
      where
        by_same : (t : Tree) (now : Moment) (df dt : Node) (f : ℕ) → IsValidTree t → node_at t.nodes (fileid_in at.directory) ≡ Some df → is_directory df ≡ true → node_at t.nodes (fileid_in to_at.directory) ≡ Some dt → is_directory dt ≡ true → named t (fileid_in at.directory) at.name ≡ Some f → length to_at.name ≤ max_name_bytes → (b : Bool) → is_same (named t (fileid_in at.directory) at.name) (named t (fileid_in to_at.directory) to_at.name) ≡ b → AllPassed (cond b [] (move_rules t (fileid_in at.directory) at.name (fileid_in to_at.directory) to_at.name (unwrap_or (named t (fileid_in at.directory) at.name) 0))) → IsValidTree (cond b t (move_name t now (fileid_in at.directory) at.name (fileid_in to_at.directory) to_at.name (unwrap_or (named t (fileid_in at.directory) at.name) 0)))
        by_same t now df dt f v at_from directory at_to to_directory found short true e p = v
        by_same t now df dt f v at_from directory at_to to_directory found short false e p =
            let differ : is_same (Some f) (named t (fileid_in to_at.directory) to_at.name) ≡ false = subst (λ (s : Option ℕ). is_same s (named t (fileid_in to_at.directory) to_at.name) ≡ false) found e in
            let rules : AllPassed (move_rules t (fileid_in at.directory) at.name (fileid_in to_at.directory) to_at.name f) = subst (λ (s : Option ℕ). AllPassed (move_rules t (fileid_in at.directory) at.name (fileid_in to_at.directory) to_at.name (unwrap_or s 0))) found p in
            subst (λ (s : Option ℕ). IsValidTree (move_name t now (fileid_in at.directory) at.name (fileid_in to_at.directory) to_at.name (unwrap_or s 0))) (sym found) (move_valid t now (fileid_in at.directory) at.name (fileid_in to_at.directory) to_at.name f df dt v at_from directory at_to to_directory found differ short rules)
