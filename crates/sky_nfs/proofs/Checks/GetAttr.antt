-- GETATTR in the empty tree.
use Rattle.std.proofs.Common.{◌≡◌, Ok, Err, refl, take}
use Rattle.sky_base.specs.declared.attr.Kind.TheVariants.{Directory}
use Rattle.sky_nfs.specs.declared.status.NfsStatus.TheVariants.{Stale, BadHandle}
use Rattle.sky_nfs.specs.Tree.{empty_tree}
use Rattle.sky_nfs.specs.Handles.{handle_bytes, volume_in, fileid_in}
use Rattle.sky_nfs.specs.Procedure.{getattr}

-- the root
root_attributes : getattr (empty_tree 1) (handle_bytes 1 1) ≡ Ok (record {
  kind = Directory;
  mode = 511;
  nlink = 2;
  uid = 0;
  gid = 0;
  size = 0;
  used = 0;
  rdev = record { major = 0; minor = 0 };
  fsid = 1;
  fileid = 1;
  atime = record { seconds = 0; nanos = 0 };
  mtime = record { seconds = 0; nanos = 0 };
  ctime = record { seconds = 0; nanos = 0 };
})
unfolding volume_in fileid_in
root_attributes = refl

-- a handle of 15 bytes
short_handle : getattr (empty_tree 1) (take 15 (handle_bytes 1 1)) ≡ Err BadHandle
unfolding volume_in fileid_in
short_handle = refl

-- a handle of another volume
other_volume : getattr (empty_tree 1) (handle_bytes 2 1) ≡ Err BadHandle
unfolding volume_in fileid_in
other_volume = refl

-- no such node
no_such_node : getattr (empty_tree 1) (handle_bytes 1 9) ≡ Err Stale
unfolding volume_in fileid_in
no_such_node = refl
