-- The file tree: nodes by fileid, each a regular file, a directory or a symbolic link, whole.
use Rattle.std.specs.Prelude.{ℕ, zero, suc, ◌+◌, flat_map, count_by, Bool, true, false, cond, ◌==◌, nat_lt, List, [], ◌∷◌, length, Option, Some, None, unwrap_or, filter, not}
use Rattle.std.specs.List.{list_any}
use Rattle.sky_base.specs.declared.attr.Attr.{Attr}
use Rattle.sky_base.specs.declared.attr.Kind.{Kind}
use Rattle.sky_base.specs.declared.attr.Kind.TheVariants as kind
use Rattle.sky_base.specs.declared.moment.Moment.{Moment}
use Rattle.sky_base.specs.Listing.{Listing, new_listing, size_of_listing, fileid_at, Entry}

-- what a node holds: a file its bytes, a directory its parent's fileid and its entries, a symbolic link its text
pub data Content : Type 0 where
  File : List ℕ → Content
  Directory : ℕ → Listing → Content
  Link : List ℕ → Content

-- a node: what it holds, and those of its attributes that don't follow from that.
-- The verifier is that of the CREATE EXCLUSIVE that made it (RFC 1813 section 3.3.8)
pub record Node : Type 0 where
  pub mode : ℕ
  pub nlink : ℕ
  pub uid : ℕ
  pub gid : ℕ
  pub atime : Moment
  pub mtime : Moment
  pub ctime : Moment
  pub verifier : Option (List ℕ)
  pub content : Content

-- a tree: the volume's number, the nodes by fileid, in ascending order, and the fileid that is given next
pub record Tree : Type 0 where
  pub volume : ℕ
  pub nodes : List (ℕ × Node)
  pub next_fileid : ℕ

-- the node of a fileid
abbrev pub node_at : List (ℕ × Node) → ℕ → Option Node
node_at [] fileid = None
node_at (n ∷ ns) fileid = cond (n.0 == fileid) (Some n.1) (node_at ns fileid)

-- with this node at that fileid
abbrev pub with_node : List (ℕ × Node) → ℕ → Node → List (ℕ × Node)
with_node [] fileid node = (fileid, node) ∷ []
with_node (n ∷ ns) fileid node = cond (n.0 == fileid) ((fileid, node) ∷ ns) (cond (nat_lt fileid n.0) ((fileid, node) ∷ n ∷ ns) (n ∷ with_node ns fileid node))

-- with no node at that fileid
abbrev pub without_node : List (ℕ × Node) → ℕ → List (ℕ × Node)
without_node ns fileid = filter (λ n. not (n.0 == fileid)) ns

-- the kind of what a node holds (ftype3, RFC 1813 section 2.6)
abbrev pub kind_of : Content → Kind
kind_of (File bytes) = kind.Regular
kind_of (Directory parent listing) = kind.Directory
kind_of (Link text) = kind.SymbolicLink

-- the size: of a file its length, of a directory that of its entries, of a link the text's length
abbrev pub size_of : Content → ℕ
size_of (File bytes) = length bytes
size_of (Directory parent listing) = size_of_listing listing
size_of (Link text) = length text

-- whether it is a file's
abbrev pub file_test : Content → Bool
file_test (File bytes) = true
file_test _ = false

-- whether it is a directory's
abbrev pub directory_test : Content → Bool
directory_test (Directory parent listing) = true
directory_test _ = false

-- whether it is a symbolic link's
abbrev pub link_test : Content → Bool
link_test (Link text) = true
link_test _ = false

-- the bytes of a file, and none of another node
abbrev pub file_bytes : Content → List ℕ
file_bytes (File bytes) = bytes
file_bytes _ = []

-- the listing of a directory, and an empty one of another node
abbrev pub directory_listing : Content → Listing
directory_listing (Directory parent listing) = listing
directory_listing _ = new_listing

-- the parent of a directory, and 0 of another node
abbrev pub directory_parent : Content → ℕ
directory_parent (Directory parent listing) = parent
directory_parent _ = 0

-- the text of a symbolic link, and none of another node
abbrev pub link_text : Content → List ℕ
link_text (Link text) = text
link_text _ = []

-- the attributes of a node (fattr3, RFC 1813 section 2.6). `used` is the size, and no node is a device
abbrev pub attributes_of : ℕ → ℕ → Node → Attr
attributes_of volume fileid node = record {
  kind = kind_of node.content;
  mode = node.mode;
  nlink = node.nlink;
  uid = node.uid;
  gid = node.gid;
  size = size_of node.content;
  used = size_of node.content;
  rdev = record { major = 0; minor = 0 };
  fsid = volume;
  fileid = fileid;
  atime = node.atime;
  mtime = node.mtime;
  ctime = node.ctime;
}

-- the beginning of 1970
abbrev pub epoch_start : Moment
epoch_start = record { seconds = 0; nanos = 0 }

-- the fileid of the root
abbrev pub root : ℕ
root = 1

-- the root of an empty tree: a directory of user 0 in which everyone may do all
abbrev pub empty_root : Node
empty_root = record {
  mode = 0o777;
  nlink = 2;
  uid = 0;
  gid = 0;
  atime = epoch_start;
  mtime = epoch_start;
  ctime = epoch_start;
  verifier = None;
  content = Directory root new_listing;
}

-- the empty tree of a volume: the root alone
abbrev pub empty_tree : ℕ → Tree
empty_tree volume = record { volume = volume; nodes = (root, empty_root) ∷ []; next_fileid = 2 }

-- where no node stands, rules and results read this one: the rule STALE comes before each of them
abbrev pub no_node : Node
no_node = record {
  mode = 0;
  nlink = 0;
  uid = 0;
  gid = 0;
  atime = epoch_start;
  mtime = epoch_start;
  ctime = epoch_start;
  verifier = None;
  content = File [];
}

-- the node of a fileid
abbrev pub the_node : Tree → ℕ → Node
the_node t fileid = unwrap_or (node_at t.nodes fileid) no_node

-- its attributes
abbrev pub attributes_at : Tree → ℕ → Attr
attributes_at t fileid = attributes_of t.volume fileid (the_node t fileid)

-- whether a node is a file
abbrev pub is_file : Node → Bool
is_file node = file_test node.content

-- whether a node is a directory
abbrev pub is_directory : Node → Bool
is_directory node = directory_test node.content

-- whether a node is a symbolic link
abbrev pub is_link : Node → Bool
is_link node = link_test node.content

-- the bytes of a file, and none of another node
abbrev pub bytes_of : Node → List ℕ
bytes_of node = file_bytes node.content

-- the listing of a directory, and an empty one of another node
abbrev pub listing_of : Node → Listing
listing_of node = directory_listing node.content

-- the fileid of a directory's parent
abbrev pub parent_of : Node → ℕ
parent_of node = directory_parent node.content

-- the text of a symbolic link
abbrev pub text_of : Node → List ℕ
text_of node = link_text node.content

-- the fileid that a name stands for in a directory
abbrev pub named : Tree → ℕ → List ℕ → Option ℕ
named t dir name = fileid_at (listing_of (the_node t dir)) name

-- a directory, its parent, and so on, up to a number of them
abbrev pub ancestors : Tree → ℕ → ℕ → List ℕ
ancestors t zero dir = []
ancestors t (suc n) dir = dir ∷ ancestors t n (parent_of (the_node t dir))

-- whether a directory is another one, or lies below it. No way up is longer than there are nodes
abbrev pub is_at_or_below : Tree → ℕ → ℕ → Bool
is_at_or_below t dir above = list_any (λ d. d == above) (ancestors t (length t.nodes) dir)

-- the entries of all directories
abbrev pub all_entries : Tree → List Entry
all_entries t = flat_map (λ n. (listing_of n.1).entries) t.nodes

-- how many entries name a node
abbrev pub names_of : Tree → ℕ → ℕ
names_of t fileid = count_by (λ e. e.fileid == fileid) (all_entries t)

-- how many directories a directory has in it
abbrev pub subdirectories : Tree → Node → ℕ
subdirectories t node = count_by (λ e. is_directory (the_node t e.fileid)) (listing_of node).entries

-- how many links a node has: of a file or a link the entries that name it, of a directory 2 and those in it
abbrev pub links_of : Tree → ℕ → Node → ℕ
links_of t fileid node = cond (is_directory node) (2 + subdirectories t node) (names_of t fileid)
