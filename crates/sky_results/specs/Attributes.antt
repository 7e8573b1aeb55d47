-- How attributes and handles are encoded in results (RFC 1813 section 2.6), each item by the encoding of XDR.
use Rattle.std.specs.Prelude.{ℕ, true, false, List, ◌++◌, Option, Some, None}
use Rattle.sky_base.specs.declared.attr.Attr.{Attr}
use Rattle.sky_base.specs.declared.attr.Device.{Device}
use Rattle.sky_base.specs.declared.attr.Kind.{Kind}
use Rattle.sky_base.specs.declared.attr.Kind.TheVariants.{Regular, Directory, SymbolicLink}
use Rattle.sky_base.specs.declared.moment.Moment.{Moment}
use Rattle.sky_nfs.specs.Handles.{handle_bytes}
use Rattle.sky_nfs.specs.declared.handle.Handle.{Handle}
use Rattle.sky_xdr.specs.Encoding.{uint, uhyper, bool, opaque}

-- the number of a kind of object
abbrev pub ftype3 : Kind → ℕ
ftype3 Regular = 1
ftype3 Directory = 2
ftype3 SymbolicLink = 5

-- a moment, 8 bytes
unfoldable pub nfstime3 : Moment → List ℕ
nfstime3 t = uint t.seconds ++ uint t.nanos

-- a device, 8 bytes
unfoldable pub specdata3 : Device → List ℕ
specdata3 d = uint d.major ++ uint d.minor

-- attributes, 84 bytes
unfoldable pub fattr3 : Attr → List ℕ
fattr3 a =
    uint (ftype3 a.kind) ++ uint a.mode ++ uint a.nlink ++ uint a.uid ++ uint a.gid
    ++ uhyper a.size ++ uhyper a.used ++ specdata3 a.rdev ++ uhyper a.fsid ++ uhyper a.fileid
    ++ nfstime3 a.atime ++ nfstime3 a.mtime ++ nfstime3 a.ctime

-- attributes where they are told
unfoldable pub post_op_attr : Option Attr → List ℕ
post_op_attr None = bool false
post_op_attr (Some a) = bool true ++ fattr3 a

-- a handle of this server: opaque data of 16 bytes, the volume and the fileid
unfoldable pub nfs_fh3 : Handle → List ℕ
nfs_fh3 h = opaque (handle_bytes h.volume h.fileid)

-- a handle that is told. This server tells the handle of each object that it made or lists
unfoldable pub post_op_fh3 : Handle → List ℕ
post_op_fh3 h = bool true ++ nfs_fh3 h
