-- The changes of a tree of which the procedures' changes are made.
use Rattle.std.specs.Prelude.{ℕ, ◌+◌, ◌-◌, ◌%◌, Bool, true, false, cond, nat_le, List, ◌++◌, length, take, drop, replicate, Option, Some, None, unwrap_or, option_map}
use Rattle.sky_base.specs.declared.cred.Cred.{Cred}
use Rattle.sky_base.specs.declared.moment.Moment.{Moment}
use Rattle.sky_base.specs.Listing.{Listing, with_entry, without_entry}
use Rattle.sky_nfs.specs.declared.call.SetAttr.{SetAttr}
use Rattle.sky_nfs.specs.declared.call.SetTime.{SetTime}
use Rattle.sky_nfs.specs.declared.call.SetTime.TheVariants.{Keep, Server, Client}
use Rattle.sky_nfs.specs.Tree.{Tree, Node, Content, File, Directory, Link, with_node, without_node, the_node, is_directory, named}

-- the tree with this node at that fileid
abbrev pub put : Tree → ℕ → Node → Tree
put t fileid node = record t { nodes = with_node t.nodes fileid node }

-- the tree with the node of a fileid changed
abbrev pub edit : Tree → ℕ → (Node → Node) → Tree
edit t fileid change = put t fileid (change (the_node t fileid))

-- the tree with no node at that fileid
abbrev pub erase : Tree → ℕ → Tree
erase t fileid = record t { nodes = without_node t.nodes fileid }

-- the tree with a new node, which takes the next fileid
abbrev pub grow : Tree → Node → Tree
grow t node = record t { nodes = with_node t.nodes t.next_fileid node; next_fileid = t.next_fileid + 1 }

-- a node whose attributes were changed now
abbrev pub stamp : Moment → Node → Node
stamp now node = record node { ctime = now }

-- a node whose content was changed now
abbrev pub touch : Moment → Node → Node
touch now node = record node { mtime = now; ctime = now }

-- a node with a link more
abbrev pub add_link : Node → Node
add_link node = record node { nlink = node.nlink + 1 }

-- a node with a link less
abbrev pub drop_link : Node → Node
drop_link node = record node { nlink = node.nlink - 1 }

-- bytes cut to a size, or continued with zeros
abbrev pub resized : List ℕ → ℕ → List ℕ
resized bytes size = take size bytes ++ replicate (size - length bytes) 0

-- bytes with a piece written at an offset. A gap before it is filled with zeros
abbrev pub written : List ℕ → ℕ → List ℕ → List ℕ
written bytes offset piece = resized bytes offset ++ piece ++ drop (offset + length piece) bytes

-- what a node holds, with its bytes changed
abbrev pub with_bytes : (List ℕ → List ℕ) → Content → Content
with_bytes change (File bytes) = File (change bytes)
with_bytes change (Directory parent listing) = Directory parent listing
with_bytes change (Link text) = Link text

-- what a node holds, with its listing changed
abbrev pub with_listing : (Listing → Listing) → Content → Content
with_listing change (File bytes) = File bytes
with_listing change (Directory parent listing) = Directory parent (change listing)
with_listing change (Link text) = Link text

-- what a node holds, with another parent
abbrev pub with_parent : ℕ → Content → Content
with_parent new (File bytes) = File bytes
with_parent new (Directory parent listing) = Directory new listing
with_parent new (Link text) = Link text

-- a time that is set: how, the moment of the call, and the time before
abbrev pub set_time : SetTime → Moment → Moment → Moment
set_time Keep now before = before
set_time Server now before = now
set_time (Client time) now before = time

-- a node with the mode, owners and times that a caller sets. Of the mode the lowest 12 bits count
abbrev pub with_attributes : SetAttr → Moment → Node → Node
with_attributes set now node = record node {
  mode = unwrap_or (option_map (λ mode. mode % 4096) set.mode) node.mode;
  uid = unwrap_or set.uid node.uid;
  gid = unwrap_or set.gid node.gid;
  atime = set_time set.atime now node.atime;
  mtime = set_time set.mtime now node.mtime;
}

-- a node with the size that a caller sets, whose mtime becomes now where one is set
abbrev pub with_size : Option ℕ → Moment → Node → Node
with_size None now node = node
with_size (Some size) now node = record node { mtime = now; content = with_bytes (λ bytes. resized bytes size) node.content }

-- a new node of a caller: all times are now, and then come the attributes that the caller sets
abbrev pub new_node : Cred → Moment → ℕ → SetAttr → Content → Node
new_node cred now mode set content = with_attributes set now (record {
  mode = mode;
  nlink = cond (holds_entries content) 2 1;
  uid = cred.uid;
  gid = cred.gid;
  atime = now;
  mtime = now;
  ctime = now;
  verifier = None;
  content = content;
})
  where
    holds_entries : Content → Bool
    holds_entries (Directory parent listing) = true
    holds_entries _ = false

-- a directory with an entry more
abbrev pub enter : Moment → List ℕ → ℕ → Node → Node
enter now name fileid dir = touch now (record dir { content = with_listing (λ l. with_entry l name fileid) dir.content })

-- a directory with an entry less
abbrev pub leave : Moment → List ℕ → Node → Node
leave now name dir = touch now (record dir { content = with_listing (λ l. without_entry l name) dir.content })

-- the tree with a new node under a name of a directory
abbrev pub add_node : Tree → Moment → ℕ → List ℕ → Node → Tree
add_node t now dir name node = edit (grow t node) dir (λ d. enter now name t.next_fileid d)

-- a file or a link with a link less. It goes with the last one
abbrev pub unlink : Tree → Moment → ℕ → Tree
unlink t now fileid = cond (nat_le (the_node t fileid).nlink 1) (erase t fileid) (edit t fileid (λ n. stamp now (drop_link n)))

-- the node of an entry that went: a directory goes, and its parent has a subdirectory less
abbrev pub release : Tree → Moment → ℕ → ℕ → Tree
release t now dir fileid = cond (is_directory (the_node t fileid)) (edit (erase t fileid) dir drop_link) (unlink t now fileid)

-- the tree with an entry gone; the same tree where the directory has no such name
abbrev pub remove_name : Tree → Moment → ℕ → List ℕ → Tree
remove_name t now dir name = go (named t dir name)
  where
    go : Option ℕ → Tree
    go None = t
    go (Some fileid) = release (edit t dir (λ d. leave now name d)) now dir fileid
