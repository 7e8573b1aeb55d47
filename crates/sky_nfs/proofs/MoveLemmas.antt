-- The changes that RENAME makes once the target is gone move an entry.
use Rattle.std.proofs.Common.{◌≡◌, ℕ, zero, ◌+◌, ◌<◌, ◌≤◌, List, [], ◌∷◌, ◌++◌, Option, Some, None, refl, true, false, sym, ap, subst, ◌∙◌, length, arith}
use Rattle.std.specs.Prelude.{Bool, cond, not, ◌==◌, map, is_some, unwrap_or, option_map}
use Rattle.std.specs.List.{list_all, list_any}
use Rattle.std.specs.Str.{bytes_eq}
use Rattle.std.proofs.lemmas.Bool.{and_from, eqb-true, eq-eqb, or_left, or_right, not-true, not_from_false, false≢true}
use Rattle.std.proofs.lemmas.List.{map-append}
use Rattle.std.proofs.lemmas.List.Folds.{list_all-append, list_any-append}
use Rattle.sky_base.specs.Limits.{max_name_bytes, max_directory_bytes, max_cookie}
use Rattle.sky_base.specs.Listing.{Listing, Entry, with_entry, without_entry, without_name, size_of_listing, size_of_name}
use Rattle.sky_base.specs.declared.moment.Moment.{Moment}
use Rattle.sky_nfs.specs.Changes.{edit, stamp, add_link, drop_link, enter, leave, with_parent}
use Rattle.sky_nfs.specs.Procedures.Rename.{move_directory}
use Rattle.sky_nfs.specs.Tree.{Tree, Node, Content, File, Directory, Link, node_at, with_node, the_node, no_node, root, is_directory, directory_test, directory_parent, directory_listing, listing_of, parent_of, links_of, subdirectories}
use Rattle.sky_nfs.specs.Validity.{IsValidTree, ascends_below, is_within}
use Rattle.sky_nfs.proofs.ValidityLemmas.{each-node_at}
use Rattle.sky_nfs.proofs.GrowLemmas.{entries, cnt, total, cnt-append, keys-put, length-put, total-put, ascends-push, distinct-push, node_at-with_node}
use Rattle.sky_nfs.proofs.CreateLemmas.{directory-with_listing, parent-with_listing, listing-with_listing, within-with_entry}
use Rattle.sky_nfs.proofs.DropLemmas.{found_id, all-without, none_all, ascends-without, distinct-without, cnt-without, any-without}
use Rattle.sky_nfs.proofs.RemoveLemmas.{within-without}
use Rattle.sky_nfs.proofs.CarryLemmas.{Mapped, cookies_test, names_test, Part, Carried, Avoids, carried_valid}

-- one more node changed, by its fileid
mapped_step : (bound : ℕ) (ns ms : List (ℕ × Node)) (F : ℕ → Node → Node) (s : Mapped bound ns ms F) (i : ℕ) (g : Node → Node) (d : Node) → node_at ns i ≡ Some d → Mapped bound ns (with_node ms i (g (unwrap_or (node_at ms i) no_node))) (λ k n. cond (i == k) (g (F k n)) (F k n))
mapped_step bound ns ms F s i g d at = record {
  order = ap (ascends_below bound) (keys-put bound ms i (F i d) new s.order here) ∙ s.order;
  size = length-put bound ms i (F i d) new s.order here ∙ s.size;
  at = λ k. node_at-with_node ms i new k ∙ go k (i == k) refl;
}
  where
    new : Node
    new = g (unwrap_or (node_at ms i) no_node)

    here : node_at ms i ≡ Some (F i d)
    here = s.at i ∙ ap (option_map (F i)) at

    go : (k : ℕ) (b : Bool) → (i == k) ≡ b → cond b (Some new) (node_at ms k) ≡ option_map (λ n. cond b (g (F k n)) (F k n)) (node_at ns k)
    go k true e =
        let found : node_at ns k ≡ Some d = subst (λ (j : ℕ). node_at ns j ≡ Some d) (eqb-true i k e) at in
        let value : new ≡ g (F i d) = ap (λ (o : Option Node). g (unwrap_or o no_node)) here in
        let moved : new ≡ g (F k d) = subst (λ (j : ℕ). new ≡ g (F j d)) (eqb-true i k e) value in
        rw found (ap Some moved)
    go k false e = s.at k

step_total : (p : Entry → Bool) (bound : ℕ) (ns ms : List (ℕ × Node)) (F : ℕ → Node → Node) (s : Mapped bound ns ms F) (i : ℕ) (g : Node → Node) (d : Node) → node_at ns i ≡ Some d → total p (with_node ms i (g (unwrap_or (node_at ms i) no_node))) + cnt p (entries (F i d)) ≡ total p ms + cnt p (entries (g (F i d)))
step_total p bound ns ms F s i g d at =
    let here : node_at ms i ≡ Some (F i d) = s.at i ∙ ap (option_map (F i)) at in
    let value : unwrap_or (node_at ms i) no_node ≡ F i d = ap (λ (o : Option Node). unwrap_or o no_node) here in
    subst (λ (n : Node). total p (with_node ms i (g n)) + cnt p (entries (F i d)) ≡ total p ms + cnt p (entries (g (F i d)))) (sym value) (total-put p bound ms i (F i d) (g (F i d)) s.order here)

Part_refl : (f : ℕ) (n : Node) → Part f n n
Part_refl f n = record { directory = refl; mode = refl; keeps = λ p q h. h; has = λ j e h. h; names = λ h. h; cookies = λ h. h; within = λ h. h }

Part_trans : (f : ℕ) (a b c : Node) → Part f a b → Part f b c → Part f a c
Part_trans f a b c x y = record {
  directory = y.directory ∙ x.directory;
  mode = y.mode ∙ x.mode;
  keeps = λ p q h. y.keeps p q (x.keeps p q h);
  has = λ j e h. y.has j e (x.has j e h);
  names = λ h. y.names (x.names h);
  cookies = λ h. y.cookies (x.cookies h);
  within = λ h. y.within (x.within h);
}

Part_cond : (f : ℕ) (b : Bool) (n m : Node) → (b ≡ true → Part f n m) → Part f n (cond b m n)
Part_cond f true n m h = h refl
Part_cond f false n m h = Part_refl f n

-- a node whose content stays
part_same : (f : ℕ) (n m : Node) → m.content ≡ n.content → m.mode ≡ n.mode → Part f n m
part_same f n m content mode = record {
  directory = ap directory_test content;
  mode = mode;
  keeps = λ p q h. ap (λ (c : Content). list_all (λ e. p e.fileid) (directory_listing c).entries) content ∙ h;
  has = λ j e h. ap (λ (c : Content). list_any (λ e. e.fileid == j) (directory_listing c).entries) content ∙ h;
  names = λ h. ap (λ (c : Content). names_test (directory_listing c)) content ∙ h;
  cookies = λ h. ap (λ (c : Content). cookies_test (directory_listing c)) content ∙ h;
  within = λ h. ap is_within content ∙ h;
}

abbrev reparent : ℕ → Node → Node
reparent to n = record n { content = with_parent to n.content }

parent-listing : (to : ℕ) (c : Content) → directory_listing (with_parent to c) ≡ directory_listing c
parent-listing to (File bytes) = refl
parent-listing to (Directory parent l) = refl
parent-listing to (Link text) = refl

parent-directory : (to : ℕ) (c : Content) → directory_test (with_parent to c) ≡ directory_test c
parent-directory to (File bytes) = refl
parent-directory to (Directory parent l) = refl
parent-directory to (Link text) = refl

parent-within : (to : ℕ) (c : Content) → is_within (with_parent to c) ≡ is_within c
parent-within to (File bytes) = refl
parent-within to (Directory parent l) = refl
parent-within to (Link text) = refl

parent-parent : (to : ℕ) (c : Content) → directory_test c ≡ true → directory_parent (with_parent to c) ≡ to
parent-parent to (File bytes) h = absurd (cc)
parent-parent to (Directory parent l) h = refl
parent-parent to (Link text) h = absurd (cc)

part_parent : (f to : ℕ) (n : Node) → Part f n (reparent to n)
part_parent f to n =
    let l : listing_of (reparent to n) ≡ listing_of n = parent-listing to n.content in
    record {
      directory = parent-directory to n.content;
      mode = refl;
      keeps = λ p q h. ap (λ (l : Listing). list_all (λ e. p e.fileid) l.entries) l ∙ h;
      has = λ j e h. ap (λ (l : Listing). list_any (λ e. e.fileid == j) l.entries) l ∙ h;
      names = λ h. ap names_test l ∙ h;
      cookies = λ h. ap cookies_test l ∙ h;
      within = λ h. parent-within to n.content ∙ h;
    }

part_leave : (f : ℕ) (now : Moment) (name : List ℕ) (n : Node) → is_directory n ≡ true → found_id (entries n) name ≡ Some f → Part f n (leave now name n)
part_leave f now name n is found =
    let change : Listing → Listing = λ l. without_entry l name in
    let l : listing_of (leave now name n) ≡ without_entry (listing_of n) name = listing-with_listing change n.content is in
    record {
      directory = directory-with_listing change n.content is ∙ sym is;
      mode = refl;
      keeps = λ p q h. ap (λ (l : Listing). list_all (λ e. p e.fileid) l.entries) l ∙ all-without (λ e. p e.fileid) (entries n) name h;
      has = λ j e h. ap (λ (l : Listing). list_any (λ e. e.fileid == j) l.entries) l ∙ any-without (entries n) name f j found e h;
      names = λ h. ap names_test l ∙ distinct-without (entries n) name h;
      cookies = λ h. ap cookies_test l ∙ ascends-without (listing_of n).next_cookie (entries n) name h;
      within = λ h. within-without n.content name h;
    }

part_enter : (f : ℕ) (now : Moment) (name : List ℕ) (n : Node) → is_directory n ≡ true → list_any (λ e. bytes_eq e.name name) (entries n) ≡ false → length name ≤ max_name_bytes → size_of_listing (listing_of n) + size_of_name name ≤ max_directory_bytes → (listing_of n).next_cookie < max_cookie → Part f n (enter now name f n)
part_enter f now name n is free short space cookie =
    let change : Listing → Listing = λ l. with_entry l name f in
    let entered : Entry = record { cookie = (listing_of n).next_cookie; name = name; fileid = f } in
    let l : listing_of (enter now name f n) ≡ with_entry (listing_of n) name f = listing-with_listing change n.content is in
    record {
      directory = directory-with_listing change n.content is ∙ sym is;
      mode = refl;
      keeps = λ p q h. ap (λ (l : Listing). list_all (λ e. p e.fileid) l.entries) l ∙ list_all-append (λ e. p e.fileid) (entries n) (entered ∷ []) ∙ and_from _ _ h (and_from _ _ q refl);
      has = λ j e h. ap (λ (l : Listing). list_any (λ e. e.fileid == j) l.entries) l ∙ list_any-append (λ e. e.fileid == j) (entries n) (entered ∷ []) ∙ or_left _ _ h;
      names = λ h. ap names_test l ∙ distinct-push (entries n) entered h free;
      cookies = λ h. ap cookies_test l ∙ ap (ascends_below ((listing_of n).next_cookie + 1)) (map-append (λ e. e.cookie) (entries n) (entered ∷ [])) ∙ ascends-push (listing_of n).next_cookie (map (λ e. e.cookie) (entries n)) h;
      within = λ h. within-with_entry n.content name f is h short space cookie;
    }

-- a fact that a change keeps
cond_same : {A : Type 0} (h : Node → A) (b : Bool) (n m : Node) → (b ≡ true → h m ≡ h n) → h (cond b m n) ≡ h n
cond_same h true n m e = e refl
cond_same h false n m e = refl

-- a name that isn't there isn't there with an entry less
free-without : (xs : List Entry) (name other : List ℕ) → list_any (λ e. bytes_eq e.name name) xs ≡ false → list_any (λ e. bytes_eq e.name name) (without_name xs other) ≡ false
free-without xs name other h = not-true _ (none_all (λ e. bytes_eq e.name name) (without_name xs other) ∙ all-without (λ e. not (bytes_eq e.name name)) xs other (sym (none_all (λ e. bytes_eq e.name name) xs) ∙ not_from_false _ h))

cnt-entered : (q : ℕ → Bool) (xs : List Entry) (e : Entry) → cnt (λ e. q e.fileid) (xs ++ e ∷ []) ≡ cnt (λ e. q e.fileid) xs + cond (q e.fileid) 1 0
cnt-entered q xs e = cnt-append (λ e. q e.fileid) xs (e ∷ []) ∙ ap (λ (m : ℕ). cnt (λ e. q e.fileid) xs + m) (single (q e.fileid))
  where
    single : (b : Bool) → length (cond b (e ∷ []) []) ≡ cond b 1 0
    single true = refl
    single false = refl

module _ (c : Tree) (now : Moment) (from to f : ℕ) (from_name to_name : List ℕ) (df dt a : Node) (v : IsValidTree c) (at_from : node_at c.nodes from ≡ Some df) (from_directory : is_directory df ≡ true) (at_to : node_at c.nodes to ≡ Some dt) (to_directory : is_directory dt ≡ true) (found : found_id (entries df) from_name ≡ Some f) (at_f : node_at c.nodes f ≡ Some a) (f_not_root : (f == root) ≡ false) (free : list_any (λ e. bytes_eq e.name to_name) (entries dt) ≡ false) (short : length to_name ≤ max_name_bytes) (space : size_of_listing (cond (from == to) (without_entry (listing_of dt) from_name) (listing_of dt)) + size_of_name to_name ≤ max_directory_bytes) (cookie : (listing_of dt).next_cookie < max_cookie) (avoids : is_directory a ≡ true → Avoids c f to) where
  abbrev F1 : ℕ → Node → Node
  F1 k n = cond (from == k) (leave now from_name n) n

  abbrev F2 : ℕ → Node → Node
  F2 k n = cond (to == k) (enter now to_name f (F1 k n)) (F1 k n)

  abbrev F3 : ℕ → Node → Node
  F3 k n = cond (f == k) (stamp now (F2 k n)) (F2 k n)

  abbrev F4 : ℕ → Node → Node
  F4 k n = cond (f == k) (reparent to (F3 k n)) (F3 k n)

  abbrev F5 : ℕ → Node → Node
  F5 k n = cond (from == k) (drop_link (F4 k n)) (F4 k n)

  abbrev F6 : ℕ → Node → Node
  F6 k n = cond (to == k) (add_link (F5 k n)) (F5 k n)

  abbrev put_by : List (ℕ × Node) → ℕ → (Node → Node) → List (ℕ × Node)
  put_by ms i g = with_node ms i (g (unwrap_or (node_at ms i) no_node))

  abbrev ms1 : List (ℕ × Node)
  ms1 = put_by c.nodes from (λ n. leave now from_name n)

  abbrev ms2 : List (ℕ × Node)
  ms2 = put_by ms1 to (λ n. enter now to_name f n)

  abbrev ms3 : List (ℕ × Node)
  ms3 = put_by ms2 f (λ n. stamp now n)

  abbrev ms4 : List (ℕ × Node)
  ms4 = put_by ms3 f (λ n. reparent to n)

  abbrev ms5 : List (ℕ × Node)
  ms5 = put_by ms4 from drop_link

  abbrev ms6 : List (ℕ × Node)
  ms6 = put_by ms5 to add_link

  s0 : Mapped c.next_fileid c.nodes c.nodes (λ k n. n)
  s0 = record { order = v.fileids; size = refl; at = λ k. same (node_at c.nodes k) }
    where
      same : (o : Option Node) → o ≡ option_map (λ n. n) o
      same None = refl
      same (Some n) = refl

  s1 : Mapped c.next_fileid c.nodes ms1 F1
  s1 = mapped_step c.next_fileid c.nodes c.nodes (λ k n. n) s0 from (λ n. leave now from_name n) df at_from

  s2 : Mapped c.next_fileid c.nodes ms2 F2
  s2 = mapped_step c.next_fileid c.nodes ms1 F1 s1 to (λ n. enter now to_name f n) dt at_to

  s3 : Mapped c.next_fileid c.nodes ms3 F3
  s3 = mapped_step c.next_fileid c.nodes ms2 F2 s2 f (λ n. stamp now n) a at_f

  s4 : Mapped c.next_fileid c.nodes ms4 F4
  s4 = mapped_step c.next_fileid c.nodes ms3 F3 s3 f (λ n. reparent to n) a at_f

  s5 : Mapped c.next_fileid c.nodes ms5 F5
  s5 = mapped_step c.next_fileid c.nodes ms4 F4 s4 from drop_link df at_from

  s6 : Mapped c.next_fileid c.nodes ms6 F6
  s6 = mapped_step c.next_fileid c.nodes ms5 F5 s5 to add_link dt at_to

  at_same : (Q : ℕ → Node → Type 0) (i k : ℕ) (d n : Node) → node_at c.nodes i ≡ Some d → node_at c.nodes k ≡ Some n → (i == k) ≡ true → Q i d → Q k n
  at_same Q i k d n here at e q =
      let there : Some d ≡ Some n = sym (subst (λ (j : ℕ). node_at c.nodes j ≡ Some d) (eqb-true i k e) here) ∙ at in
      let same : d ≡ n = cc in
      subst (λ (m : Node). Q k m) same (subst (λ (j : ℕ). Q j d) (eqb-true i k e) q)

  part1 : (k : ℕ) (n : Node) → node_at c.nodes k ≡ Some n → Part f n (F1 k n)
  part1 k n at = Part_cond f (from == k) n (leave now from_name n) (λ e. at_same (λ k n. Part f n (leave now from_name n)) from k df n at_from at e (part_leave f now from_name df from_directory found))

  -- the directory that gets the entry, without the one that goes
  listing1 : listing_of (F1 to dt) ≡ cond (from == to) (without_entry (listing_of dt) from_name) (listing_of dt)
  listing1 = go (from == to)
    where
      go : (b : Bool) → listing_of (cond b (leave now from_name dt) dt) ≡ cond b (without_entry (listing_of dt) from_name) (listing_of dt)
      go true = listing-with_listing (λ l. without_entry l from_name) dt.content to_directory
      go false = refl

  free1 : list_any (λ e. bytes_eq e.name to_name) (entries (F1 to dt)) ≡ false
  free1 = ap (λ (l : Listing). list_any (λ e. bytes_eq e.name to_name) l.entries) listing1 ∙ go (from == to)
    where
      go : (b : Bool) → list_any (λ e. bytes_eq e.name to_name) (cond b (without_entry (listing_of dt) from_name) (listing_of dt)).entries ≡ false
      go true = free-without (entries dt) to_name from_name free
      go false = free

  cookie1 : (listing_of (F1 to dt)).next_cookie < max_cookie
  cookie1 = subst (λ (m : ℕ). m < max_cookie) (sym (ap (λ (l : Listing). l.next_cookie) listing1 ∙ go (from == to))) cookie
    where
      go : (b : Bool) → (cond b (without_entry (listing_of dt) from_name) (listing_of dt)).next_cookie ≡ (listing_of dt).next_cookie
      go true = refl
      go false = refl

  directory1 : is_directory (F1 to dt) ≡ true
  directory1 = (part1 to dt at_to).directory ∙ to_directory

  space1 : size_of_listing (listing_of (F1 to dt)) + size_of_name to_name ≤ max_directory_bytes
  space1 = subst (λ (l : Listing). size_of_listing l + size_of_name to_name ≤ max_directory_bytes) (sym listing1) space

  part_to : Part f (F1 to dt) (enter now to_name f (F1 to dt))
  part_to = part_enter f now to_name (F1 to dt) directory1 free1 short space1 cookie1

  part2 : (k : ℕ) (n : Node) → node_at c.nodes k ≡ Some n → Part f n (F2 k n)
  part2 k n at = Part_trans f n (F1 k n) (F2 k n) (part1 k n at) (Part_cond f (to == k) (F1 k n) (enter now to_name f (F1 k n)) (λ e. at_same (λ k n. Part f (F1 k n) (enter now to_name f (F1 k n))) to k dt n at_to at e part_to))

  part3 : (k : ℕ) (n : Node) → node_at c.nodes k ≡ Some n → Part f n (F3 k n)
  part3 k n at = Part_trans f n (F2 k n) (F3 k n) (part2 k n at) (Part_cond f (f == k) (F2 k n) (stamp now (F2 k n)) (λ e. part_same f (F2 k n) (stamp now (F2 k n)) refl refl))

  part4 : (k : ℕ) (n : Node) → node_at c.nodes k ≡ Some n → Part f n (F4 k n)
  part4 k n at = Part_trans f n (F3 k n) (F4 k n) (part3 k n at) (Part_cond f (f == k) (F3 k n) (reparent to (F3 k n)) (λ e. part_parent f to (F3 k n)))

  part5 : (k : ℕ) (n : Node) → node_at c.nodes k ≡ Some n → Part f n (F5 k n)
  part5 k n at = Part_trans f n (F4 k n) (F5 k n) (part4 k n at) (Part_cond f (from == k) (F4 k n) (drop_link (F4 k n)) (λ e. part_same f (F4 k n) (drop_link (F4 k n)) refl refl))

  part6 : (k : ℕ) (n : Node) → node_at c.nodes k ≡ Some n → Part f n (F6 k n)
  part6 k n at = Part_trans f n (F5 k n) (F6 k n) (part5 k n at) (Part_cond f (to == k) (F5 k n) (add_link (F5 k n)) (λ e. part_same f (F5 k n) (add_link (F5 k n)) refl refl))

  parent3 : (k : ℕ) (n : Node) → parent_of (F3 k n) ≡ parent_of n
  parent3 k n = cond_same parent_of (f == k) (F2 k n) (stamp now (F2 k n)) (λ e. refl) ∙ cond_same parent_of (to == k) (F1 k n) (enter now to_name f (F1 k n)) (λ e. parent-with_listing (λ l. with_entry l to_name f) (F1 k n).content) ∙ cond_same parent_of (from == k) n (leave now from_name n) (λ e. parent-with_listing (λ l. without_entry l from_name) n.content)

  parent6 : (k : ℕ) (n : Node) → parent_of (F6 k n) ≡ parent_of (F4 k n)
  parent6 k n = cond_same parent_of (to == k) (F5 k n) (add_link (F5 k n)) (λ e. refl) ∙ cond_same parent_of (from == k) (F4 k n) (drop_link (F4 k n)) (λ e. refl)

  nlink3 : (k : ℕ) (n : Node) → (F3 k n).nlink ≡ n.nlink
  nlink3 k n = cond_same (λ n. n.nlink) (f == k) (F2 k n) (stamp now (F2 k n)) (λ e. refl) ∙ cond_same (λ n. n.nlink) (to == k) (F1 k n) (enter now to_name f (F1 k n)) (λ e. refl) ∙ cond_same (λ n. n.nlink) (from == k) n (leave now from_name n) (λ e. refl)

  nlink4 : (k : ℕ) (n : Node) → (F4 k n).nlink ≡ n.nlink
  nlink4 k n = cond_same (λ n. n.nlink) (f == k) (F3 k n) (reparent to (F3 k n)) (λ e. refl) ∙ nlink3 k n

  entries3 : (k : ℕ) (n : Node) → entries (F3 k n) ≡ entries (F2 k n)
  entries3 k n = cond_same entries (f == k) (F2 k n) (stamp now (F2 k n)) (λ e. refl)

  entries6 : (k : ℕ) (n : Node) → entries (F6 k n) ≡ entries (F2 k n)
  entries6 k n = cond_same entries (to == k) (F5 k n) (add_link (F5 k n)) (λ e. refl) ∙ cond_same entries (from == k) (F4 k n) (drop_link (F4 k n)) (λ e. refl) ∙ cond_same entries (f == k) (F3 k n) (reparent to (F3 k n)) (λ e. ap (λ (l : Listing). l.entries) (parent-listing to (F3 k n).content)) ∙ entries3 k n

  cnt_left : (q : ℕ → Bool) → cnt (λ e. q e.fileid) (entries (leave now from_name df)) + cond (q f) 1 0 ≡ cnt (λ e. q e.fileid) (entries df)
  cnt_left q = ap (λ (l : Listing). cnt (λ e. q e.fileid) l.entries + cond (q f) 1 0) (listing-with_listing (λ l. without_entry l from_name) df.content from_directory) ∙ cnt-without q (entries df) from_name f found

  cnt_entered : (q : ℕ → Bool) → cnt (λ e. q e.fileid) (entries (enter now to_name f (F1 to dt))) ≡ cnt (λ e. q e.fileid) (entries (F1 to dt)) + cond (q f) 1 0
  cnt_entered q = ap (λ (l : Listing). cnt (λ e. q e.fileid) l.entries) (listing-with_listing (λ l. with_entry l to_name f) (F1 to dt).content directory1) ∙ cnt-entered q (entries (F1 to dt)) (record { cookie = (listing_of (F1 to dt)).next_cookie; name = to_name; fileid = f })

  cnt1 : (q : ℕ → Bool) (k : ℕ) (n : Node) → node_at c.nodes k ≡ Some n → cnt (λ e. q e.fileid) (entries (F1 k n)) + cond (from == k) (cond (q f) 1 0) 0 ≡ cnt (λ e. q e.fileid) (entries n)
  cnt1 q k n at = go (from == k) refl
    where
      go : (b : Bool) → (from == k) ≡ b → cnt (λ e. q e.fileid) (entries (cond b (leave now from_name n) n)) + cond b (cond (q f) 1 0) 0 ≡ cnt (λ e. q e.fileid) (entries n)
      go true e = at_same (λ k n. cnt (λ e. q e.fileid) (entries (leave now from_name n)) + cond (q f) 1 0 ≡ cnt (λ e. q e.fileid) (entries n)) from k df n at_from at e (cnt_left q)
      go false e = omega arith

  cnt2 : (q : ℕ → Bool) (k : ℕ) (n : Node) → node_at c.nodes k ≡ Some n → cnt (λ e. q e.fileid) (entries (F2 k n)) ≡ cnt (λ e. q e.fileid) (entries (F1 k n)) + cond (to == k) (cond (q f) 1 0) 0
  cnt2 q k n at = go (to == k) refl
    where
      go : (b : Bool) → (to == k) ≡ b → cnt (λ e. q e.fileid) (entries (cond b (enter now to_name f (F1 k n)) (F1 k n))) ≡ cnt (λ e. q e.fileid) (entries (F1 k n)) + cond b (cond (q f) 1 0) 0
      go true e = at_same (λ k n. cnt (λ e. q e.fileid) (entries (enter now to_name f (F1 k n))) ≡ cnt (λ e. q e.fileid) (entries (F1 k n)) + cond (q f) 1 0) to k dt n at_to at e (cnt_entered q)
      go false e = omega arith

  total3 : (q : ℕ → Bool) → total (λ e. q e.fileid) ms3 ≡ total (λ e. q e.fileid) c.nodes
  total3 q =
      let p : Entry → Bool = λ e. q e.fileid in
      let e1 : total p ms1 + cnt p (entries df) ≡ total p c.nodes + cnt p (entries (leave now from_name df)) = step_total p c.next_fileid c.nodes c.nodes (λ k n. n) s0 from (λ n. leave now from_name n) df at_from in
      let e2 : total p ms2 + cnt p (entries (F1 to dt)) ≡ total p ms1 + cnt p (entries (enter now to_name f (F1 to dt))) = step_total p c.next_fileid c.nodes ms1 F1 s1 to (λ n. enter now to_name f n) dt at_to in
      let e3 : total p ms3 + cnt p (entries (F2 f a)) ≡ total p ms2 + cnt p (entries (F2 f a)) = step_total p c.next_fileid c.nodes ms2 F2 s2 f (λ n. stamp now n) a at_f in
      omega (arith, cnt_left q, cnt_entered q)

  total6 : (q : ℕ → Bool) → total (λ e. q e.fileid) ms6 ≡ total (λ e. q e.fileid) c.nodes
  total6 q =
      let p : Entry → Bool = λ e. q e.fileid in
      let e4 : total p ms4 + cnt p (entries (F3 f a)) ≡ total p ms3 + cnt p (entries (reparent to (F3 f a))) = step_total p c.next_fileid c.nodes ms3 F3 s3 f (λ n. reparent to n) a at_f in
      let same : cnt p (entries (reparent to (F3 f a))) ≡ cnt p (entries (F3 f a)) = ap (λ (l : Listing). cnt p l.entries) (parent-listing to (F3 f a).content) in
      let e5 : total p ms5 + cnt p (entries (F4 from df)) ≡ total p ms4 + cnt p (entries (F4 from df)) = step_total p c.next_fileid c.nodes ms4 F4 s4 from drop_link df at_from in
      let e6 : total p ms6 + cnt p (entries (F5 to dt)) ≡ total p ms5 + cnt p (entries (F5 to dt)) = step_total p c.next_fileid c.nodes ms5 F5 s5 to add_link dt at_to in
      omega (arith, total3 q)

  abbrev kind : ℕ → Bool
  kind j = is_directory (the_node c j)

  at_f_is : the_node c f ≡ a
  at_f_is = ap (λ (o : Option Node). unwrap_or o no_node) at_f

  nothing : (b d : Bool) → d ≡ false → cond b (cond d 1 0) 0 ≡ zero
  nothing true d e = ap (λ (d : Bool). cond d 1 0) e
  nothing false d e = refl

  drop_lem : (b : Bool) (n : Node) → 1 ≤ n.nlink → (cond b (drop_link n) n).nlink + cond b 1 0 ≡ n.nlink
  drop_lem true n h = omega arith
  drop_lem false n h = omega arith

  add_lem : (b : Bool) (n : Node) → (cond b (add_link n) n).nlink ≡ n.nlink + cond b 1 0
  add_lem true n = refl
  add_lem false n = omega arith

  carried3 : is_directory a ≡ false → (k : ℕ) (n : Node) → node_at c.nodes k ≡ Some n → Carried c f to k n (F3 k n)
  carried3 plain k n at = record {
    part = part3 k n at;
    parent = λ e. parent3 k n;
    parent_f = λ e i. absurd (false≢true (sym (at_same (λ k n. is_directory n ≡ false) f k a n at_f at e plain) ∙ i));
    directory_links = λ i.
        let q : Entry → Bool = λ e. kind e.fileid in
        let qf : kind f ≡ false = ap is_directory at_f_is ∙ plain in
        let l1 : cond (from == k) (cond (kind f) 1 0) 0 ≡ zero = nothing (from == k) (kind f) qf in
        let l2 : cond (to == k) (cond (kind f) 1 0) 0 ≡ zero = nothing (to == k) (kind f) qf in
        let same : cnt q (entries (F3 k n)) ≡ cnt q (entries (F2 k n)) = ap (cnt q) (entries3 k n) in
        omega (arith, nlink3 k n, cnt1 kind k n at, cnt2 kind k n at);
    plain_links = λ i. nlink3 k n;
  }

  carried6 : is_directory a ≡ true → (k : ℕ) (n : Node) → node_at c.nodes k ≡ Some n → Carried c f to k n (F6 k n)
  carried6 is k n at = record {
    part = part6 k n at;
    parent = λ e. parent6 k n ∙ ap (λ (b : Bool). parent_of (cond b (reparent to (F3 k n)) (F3 k n))) e ∙ parent3 k n;
    parent_f = λ e i. parent6 k n ∙ ap (λ (b : Bool). parent_of (cond b (reparent to (F3 k n)) (F3 k n))) e ∙ parent-parent to (F3 k n).content ((part3 k n at).directory ∙ i);
    directory_links = λ i.
        let q : Entry → Bool = λ e. kind e.fileid in
        let qf : kind f ≡ true = ap is_directory at_f_is ∙ is in
        let l1 : ◌≡◌ {A = ℕ} (cond (from == k) (cond (kind f) 1 0) 0) (cond (from == k) 1 0) = ap (λ (b : Bool). cond (from == k) (cond b 1 0) 0) qf in
        let l2 : ◌≡◌ {A = ℕ} (cond (to == k) (cond (kind f) 1 0) 0) (cond (to == k) 1 0) = ap (λ (b : Bool). cond (to == k) (cond b 1 0) 0) qf in
        let same : cnt q (entries (F6 k n)) ≡ cnt q (entries (F2 k n)) = ap (cnt q) (entries6 k n) in
        let links : n.nlink ≡ links_of c k n = eqb-true _ _ (each-node_at (λ k n. n.nlink == links_of c k n) c.nodes k n v.links at) in
        let counted : links_of c k n ≡ 2 + subdirectories c n = rw i in
        let some : 1 ≤ (F4 k n).nlink = omega (arith, nlink4 k n) in
        let less : (F5 k n).nlink + cond (from == k) 1 0 ≡ (F4 k n).nlink = drop_lem (from == k) (F4 k n) some in
        let more : (F6 k n).nlink ≡ (F5 k n).nlink + cond (to == k) 1 0 = add_lem (to == k) (F5 k n) in
        omega (arith, nlink4 k n, cnt1 kind k n at, cnt2 kind k n at);
    plain_links = λ i. cond_same (λ n. n.nlink) (to == k) (F5 k n) (add_link (F5 k n)) (λ e. absurd (false≢true (sym i ∙ at_same (λ k n. is_directory n ≡ true) to k dt n at_to at e to_directory))) ∙ cond_same (λ n. n.nlink) (from == k) (F4 k n) (drop_link (F4 k n)) (λ e. absurd (false≢true (sym i ∙ at_same (λ k n. is_directory n ≡ true) from k df n at_from at e from_directory))) ∙ nlink4 k n;
  }

  has_new : list_any (λ e. e.fileid == f) (entries (F2 to dt)) ≡ true
  has_new =
      let chosen : F2 to dt ≡ enter now to_name f (F1 to dt) = ap (λ (b : Bool). cond b (enter now to_name f (F1 to dt)) (F1 to dt)) (eq-eqb to to refl) in
      let l : listing_of (enter now to_name f (F1 to dt)) ≡ with_entry (listing_of (F1 to dt)) to_name f = listing-with_listing (λ l. with_entry l to_name f) (F1 to dt).content directory1 in
      let entered : Entry = record { cookie = (listing_of (F1 to dt)).next_cookie; name = to_name; fileid = f } in
      ap (λ (n : Node). list_any (λ e. e.fileid == f) (entries n)) chosen ∙ ap (λ (l : Listing). list_any (λ e. e.fileid == f) l.entries) l ∙ list_any-append (λ e. e.fileid == f) (entries (F1 to dt)) (entered ∷ []) ∙ or_right _ _ (or_left _ _ (eq-eqb f f refl))

  holds3 : list_any (λ e. e.fileid == f) (entries (unwrap_or (node_at ms3 to) no_node)) ≡ true
  holds3 = ap (λ (o : Option Node). list_any (λ e. e.fileid == f) (entries (unwrap_or o no_node))) (s3.at to ∙ ap (option_map (F3 to)) at_to) ∙ ap (list_any (λ (e : Entry). e.fileid == f)) (entries3 to dt) ∙ has_new

  holds6 : list_any (λ e. e.fileid == f) (entries (unwrap_or (node_at ms6 to) no_node)) ≡ true
  holds6 = ap (λ (o : Option Node). list_any (λ e. e.fileid == f) (entries (unwrap_or o no_node))) (s6.at to ∙ ap (option_map (F6 to)) at_to) ∙ ap (list_any (λ (e : Entry). e.fileid == f)) (entries6 to dt) ∙ has_new

  way : is_directory (the_node c f) ≡ true → Avoids c f to
  way h = avoids (sym (ap is_directory at_f_is) ∙ h)

  to_is : is_directory (the_node c to) ≡ true
  to_is = ap (λ (o : Option Node). is_directory (unwrap_or o no_node)) at_to ∙ to_directory

  abbrev pub stamped : Tree
  stamped = edit (edit (edit c from (λ d. leave now from_name d)) to (λ d. enter now to_name f d)) f (λ n. stamp now n)

  pub moved_plain : is_directory a ≡ false → IsValidTree stamped
  moved_plain plain = carried_valid c ms3 F3 f to v s3 total3 (carried3 plain) f_not_root (ap is_some at_f) to_is holds3 way

  pub moved_directory : is_directory a ≡ true → IsValidTree (move_directory stamped from to f)
  moved_directory is = carried_valid c ms6 F6 f to v s6 total6 (carried6 is) f_not_root (ap is_some at_f) to_is holds6 way
