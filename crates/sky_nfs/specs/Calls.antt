-- The numbers of the procedures (RFC 1813 section 3.3), and which calls change the tree.
use Rattle.std.specs.Prelude.{ℕ, Bool, true, false}
use Rattle.sky_nfs.specs.declared.call.Call.{Call}
use Rattle.sky_nfs.specs.declared.call.Call.TheVariants.{Null, GetAttr, SetAttr, Lookup, Access, ReadLink, Read, Write, Create, Mkdir, Symlink, Mknod, Remove, Rmdir, Rename, Link, ReadDir, ReadDirPlus, FsStat, FsInfo, PathConf, Commit}

-- the number of the procedure that a call calls
abbrev pub procedure_of : Call → ℕ
procedure_of Null = 0
procedure_of (GetAttr object) = 1
procedure_of (SetAttr object set guard) = 2
procedure_of (Lookup at) = 3
procedure_of (Access object rights) = 4
procedure_of (ReadLink link) = 5
procedure_of (Read file offset count) = 6
procedure_of (Write file offset count how piece) = 7
procedure_of (Create at how) = 8
procedure_of (Mkdir at set) = 9
procedure_of (Symlink at set text) = 10
procedure_of (Mknod at what) = 11
procedure_of (Remove at) = 12
procedure_of (Rmdir at) = 13
procedure_of (Rename from to) = 14
procedure_of (Link file at) = 15
procedure_of (ReadDir directory cookie verifier count) = 16
procedure_of (ReadDirPlus directory cookie verifier dircount maxcount) = 17
procedure_of (FsStat root) = 18
procedure_of (FsInfo root) = 19
procedure_of (PathConf object) = 20
procedure_of (Commit file offset count) = 21

-- whether a call is one of the procedures that change the tree: the others read it
abbrev pub is_change : Call → Bool
is_change (SetAttr object set guard) = true
is_change (Write file offset count how piece) = true
is_change (Create at how) = true
is_change (Mkdir at set) = true
is_change (Symlink at set text) = true
is_change (Remove at) = true
is_change (Rmdir at) = true
is_change (Rename from to) = true
is_change (Link file at) = true
is_change _ = false
