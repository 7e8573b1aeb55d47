-- What the changes of a node make of its attributes.
use Rattle.std.specs.Prelude.{ℕ, ◌+◌, ◌-◌, ◌%◌, Bool, ◌==◌, cond, max, List, Option, Some, None, is_some, unwrap_or, option_map}
use Rattle.sky_base.specs.Listing.{size_of_name}
use Rattle.sky_base.specs.declared.attr.Attr.{Attr}
use Rattle.sky_base.specs.declared.moment.Moment.{Moment}
use Rattle.sky_nfs.specs.Changes.{set_time}
use Rattle.sky_nfs.specs.declared.call.SetAttr.{SetAttr}

-- those of another size
abbrev pub of_size : ℕ → Attr → Attr
of_size size attr = record attr { size = size; used = size }

-- those of another content, of this size, from now on
abbrev pub sized : ℕ → Moment → Attr → Attr
sized size now attr = record attr { size = size; used = size; mtime = now; ctime = now }

-- those of a directory that gets an entry of this name
abbrev pub entered : List ℕ → Moment → Attr → Attr
entered name now attr = sized (attr.size + size_of_name name) now attr

-- those of a directory whose entry of this name goes
abbrev pub left : List ℕ → Moment → Attr → Attr
left name now attr = sized (attr.size - size_of_name name) now attr

-- with a link more
abbrev pub linked : Attr → Attr
linked attr = record attr { nlink = attr.nlink + 1 }

-- with a link less
abbrev pub unlinked : Attr → Attr
unlinked attr = record attr { nlink = attr.nlink - 1 }

-- changed now
abbrev pub stamped : Moment → Attr → Attr
stamped now attr = record attr { ctime = now }

-- those of a file to which so many bytes are written at an offset
abbrev pub written : ℕ → ℕ → Moment → Attr → Attr
written offset count now attr = cond (count == 0) attr (sized (max attr.size (offset + count)) now attr)

-- those of a file whose size an unchecked CREATE sets, if it sets one
abbrev pub taken : Option ℕ → Moment → Attr → Attr
taken None now attr = attr
taken (Some size) now attr = sized size now attr

-- those that a SETATTR leaves. An object whose size is set is a file
abbrev pub set : SetAttr → Moment → Attr → Attr
set how now attr = record attr {
  mode = unwrap_or (option_map (λ mode. mode % 4096) how.mode) attr.mode;
  uid = unwrap_or how.uid attr.uid;
  gid = unwrap_or how.gid attr.gid;
  size = unwrap_or how.size attr.size;
  used = unwrap_or how.size attr.used;
  atime = set_time how.atime now attr.atime;
  mtime = set_time how.mtime now (cond (is_some how.size) now attr.mtime);
  ctime = now;
}

-- those of a directory whose entry of this name goes, and counts no longer where it named a directory
abbrev pub went : Bool → List ℕ → Moment → Attr → Attr
went is_directory name now attr = cond is_directory (unlinked (left name now attr)) (left name now attr)

-- those of a directory that gets an entry of this name, which counts where it names a directory
abbrev pub came : Bool → List ℕ → Moment → Attr → Attr
came is_directory name now attr = cond is_directory (linked (entered name now attr)) (entered name now attr)

-- those of a directory in which this name is free, after what had it went: a directory, another node or none
abbrev pub cleared : Option Bool → List ℕ → Moment → Attr → Attr
cleared None name now attr = attr
cleared (Some is_directory) name now attr = went is_directory name now attr
