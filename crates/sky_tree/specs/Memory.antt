-- For which calls memory is taken.
use Rattle.std.specs.Prelude.{Bool, true, false, ◌&&◌, ◌||◌, is_none}
use Rattle.sky_base.specs.declared.cred.Cred.{Cred}
use Rattle.sky_nfs.specs.declared.call.Call.{Call}
use Rattle.sky_nfs.specs.declared.call.Call.TheVariants.{SetAttr, Lookup, ReadLink, Read, Write, Create, Mkdir, Symlink, Mknod, Remove, Rmdir, Rename, Link, ReadDir, ReadDirPlus}
use Rattle.sky_nfs.specs.Procedure.{refusal_of}
use Rattle.sky_nfs.specs.Tree.{Tree}

-- whether a call has a name, a text or data
abbrev pub has_text : Call → Bool
has_text (Lookup at) = true
has_text (Write file offset count how piece) = true
has_text (Create at how) = true
has_text (Mkdir at set) = true
has_text (Symlink at set text) = true
has_text (Mknod at what) = true
has_text (Remove at) = true
has_text (Rmdir at) = true
has_text (Rename from to) = true
has_text (Link file at) = true
has_text _ = false

-- whether a call without one may take memory where it is done: its results have a text, data or entries, or a file may grow
abbrev pub may_copy : Call → Bool
may_copy (SetAttr object set guard) = true
may_copy (ReadLink link) = true
may_copy (Read file offset count) = true
may_copy (ReadDir directory cookie verifier count) = true
may_copy (ReadDirPlus directory cookie verifier dircount maxcount) = true
may_copy _ = false

-- whether memory may be taken for a call in a tree: not for one without name, text or data that is refused, or that copies nothing
unfoldable pub takes_memory : Tree → Cred → Call → Bool
takes_memory t cred call = has_text call || may_copy call && is_none (refusal_of t cred call)
