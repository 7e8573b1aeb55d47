-- How a handle (nfs_fh3, RFC 1813 section 2.6) is encoded, and which node it names.
use Rattle.std.specs.Prelude.{ℕ, Bool, ◌&&◌, ◌==◌, List, ◌++◌, length, take, drop, is_some}
use Rattle.std.specs.Int.{w64, to_be_bytes, from_be_bytes}
use Rattle.sky_nfs.specs.Tree.{Tree, node_at}

-- the bytes of a handle: the volume and the fileid, 8 bytes each, the highest first
abbrev pub handle_bytes : ℕ → ℕ → List ℕ
handle_bytes volume fileid = to_be_bytes w64 volume ++ to_be_bytes w64 fileid

-- the volume in a handle's bytes
unfoldable pub volume_in : List ℕ → ℕ
volume_in fh = from_be_bytes w64 (take 8 fh)

-- the fileid in a handle's bytes
unfoldable pub fileid_in : List ℕ → ℕ
fileid_in fh = from_be_bytes w64 (drop 8 fh)

-- whether bytes are the handle of a volume, of whichever fileid
abbrev pub is_handle_of : ℕ → List ℕ → Bool
is_handle_of volume fh = length fh == 16 && volume_in fh == volume

-- whether a handle resolves: it is the volume's, and a node stands at its fileid
abbrev pub resolves : Tree → List ℕ → Bool
resolves t fh = is_handle_of t.volume fh && is_some (node_at t.nodes (fileid_in fh))
