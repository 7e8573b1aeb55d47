-- What a node holds, as the definitions of the file tree have it.
use Rattle.sky_nodes.specs.declared.node.Content.{Content}
use Rattle.sky_nodes.specs.declared.node.Content.TheVariants.{File, Directory, Link}
use Rattle.sky_nfs.specs.Tree as tree

-- what a node holds: a file its bytes, a directory its parent's fileid and its entries, a symbolic link its text
abbrev pub content_of : Content → tree.Content
content_of (File bytes) = tree.File bytes
content_of (Directory parent entries) = tree.Directory parent entries
content_of (Link text) = tree.Link text
