-- What a tree is like that the procedures began at an empty one.
use Rattle.std.specs.Prelude.{ℕ, Bool, true, not, ◌&&◌, ◌||◌, ◌==◌, nat_lt, nat_le, IsTrue, List, [], ◌∷◌, map, length, is_some}
use Rattle.std.specs.List.{list_all, list_any}
use Rattle.std.specs.Str.{bytes_eq}
use Rattle.sky_base.specs.Limits.{max_file_bytes, max_directory_bytes, max_cookie, max_name_bytes, max_link_text_bytes, max_nodes, max_fileid, max_links, max_volume}
use Rattle.sky_base.specs.Listing.{size_of_listing}
use Rattle.sky_nfs.specs.Tree.{Tree, Node, Content, File, Directory, Link, node_at, the_node, root, is_directory, listing_of, parent_of, is_at_or_below, all_entries, names_of, links_of}

-- whether each number is below the next one, and all are below a bound
abbrev pub ascends_below : ℕ → List ℕ → Bool
ascends_below bound [] = true
ascends_below bound (x ∷ xs) = list_all (nat_lt x) xs && nat_lt x bound && ascends_below bound xs

-- whether no name stands twice
abbrev pub are_distinct : List (List ℕ) → Bool
are_distinct [] = true
are_distinct (x ∷ xs) = not (list_any (bytes_eq x) xs) && are_distinct xs

-- whether each node passes a test of its fileid and itself
abbrev pub each_node : (ℕ → Node → Bool) → Tree → Bool
each_node test t = list_all (λ n. test n.0 n.1) t.nodes

-- whether each directory but the root passes one
abbrev pub each_lower_directory : (ℕ → Node → Bool) → Tree → Bool
each_lower_directory test t = each_node (λ fileid node. not (is_directory node) || fileid == root || test fileid node) t

-- whether what a node holds stays within the limits
abbrev pub is_within : Content → Bool
is_within (File bytes) = nat_le (length bytes) max_file_bytes
is_within (Directory parent listing) =
    nat_le (size_of_listing listing) max_directory_bytes &&
    nat_le listing.next_cookie max_cookie &&
    list_all (λ e. nat_le (length e.name) max_name_bytes) listing.entries
is_within (Link text) = nat_le (length text) max_link_text_bytes

-- what holds of a valid tree
pub record IsValidTree (t : Tree) : Type 0 where
  -- the nodes stand in the order of their fileids, each below the next fileid
  pub fileids : IsTrue (ascends_below t.next_fileid (map (λ n. n.0) t.nodes))
  -- the root is a directory and its own parent
  pub root_is_directory : IsTrue (is_directory (the_node t root))
  pub root_is_top : IsTrue (parent_of (the_node t root) == root)
  -- every entry names a node, and none the root
  pub entries_name_nodes : IsTrue (list_all (λ e. is_some (node_at t.nodes e.fileid)) (all_entries t))
  pub none_names_root : IsTrue (list_all (λ e. not (e.fileid == root)) (all_entries t))
  -- each node has an entry that names it, the root apart
  pub nodes_have_names : IsTrue (each_node (λ fileid node. fileid == root || nat_le 1 (names_of t fileid)) t)
  -- every directory but the root has just one, and that stands in its parent
  pub directories_have_one : IsTrue (each_lower_directory (λ fileid node. names_of t fileid == 1) t)
  pub directories_stand_in_parents : IsTrue (each_lower_directory (λ fileid node. list_any (λ e. e.fileid == fileid) (listing_of (the_node t (parent_of node))).entries) t)
  -- the parents lead up to the root
  pub ways_lead_up : IsTrue (each_lower_directory (λ fileid node. is_at_or_below t fileid root) t)
  -- in a directory the names differ, and the cookies ascend, each below the next cookie
  pub names_differ : IsTrue (each_node (λ fileid node. are_distinct (map (λ e. e.name) (listing_of node).entries)) t)
  pub cookies : IsTrue (each_node (λ fileid node. ascends_below (listing_of node).next_cookie (map (λ e. e.cookie) (listing_of node).entries)) t)
  -- links are counted right
  pub links : IsTrue (each_node (λ fileid node. node.nlink == links_of t fileid node) t)
  -- the limits hold
  pub modes : IsTrue (each_node (λ fileid node. nat_lt node.mode 0o10000) t)
  pub contents_within : IsTrue (each_node (λ fileid node. is_within node.content) t)
  pub links_within : IsTrue (each_node (λ fileid node. is_directory node || nat_le node.nlink max_links) t)
  pub nodes_within : IsTrue (nat_le (length t.nodes) max_nodes)
  pub fileid_within : IsTrue (nat_le t.next_fileid max_fileid)
  pub volume_within : IsTrue (nat_le t.volume max_volume)
