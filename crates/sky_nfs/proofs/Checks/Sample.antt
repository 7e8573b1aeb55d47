-- The tree, the callers and the short forms of which the checks speak.
--     /f, /g   one file with two names     /d     a directory with a directory s and a file x
--     /l       a symbolic link             /e     an empty directory in which everyone may do all
use Rattle.std.specs.Prelude.{ℕ, List, [], ◌∷◌, map, Option, Some, None, codes}
use Rattle.sky_base.specs.declared.cred.Cred.{Cred}
use Rattle.sky_base.specs.declared.moment.Moment.{Moment}
use Rattle.sky_base.specs.Listing.{Entry}
use Rattle.sky_nfs.specs.declared.call.DirOpArgs.{DirOpArgs}
use Rattle.sky_nfs.specs.declared.call.Call.{Call}
use Rattle.sky_nfs.specs.declared.call.SetAttr.{SetAttr}
use Rattle.sky_nfs.specs.declared.call.SetTime.TheVariants.{Keep, Client}
use Rattle.sky_nfs.specs.declared.status.NfsStatus.{NfsStatus}
use Rattle.sky_nfs.specs.Handles.{handle_bytes}
use Rattle.sky_nfs.specs.Procedure.{refusal_of}
use Rattle.sky_nfs.specs.Tree.{Tree, Node, Content, File, Directory, Link}

-- a moment, in seconds
abbrev pub second : ℕ → Moment
second n = record { seconds = n; nanos = 0 }

-- the moment of the calls
abbrev pub now : Moment
now = second 9

-- the handle of a node, handles that don't resolve, and names
abbrev pub fh : ℕ → List ℕ
fh fileid = handle_bytes 1 fileid

abbrev pub gone : List ℕ
gone = fh 99

abbrev pub foreign : List ℕ
foreign = handle_bytes 2 1

abbrev pub at : ℕ → List ℕ → DirOpArgs
at dir name = record { directory = fh dir; name = name }

abbrev pub at_handle : List ℕ → List ℕ → DirOpArgs
at_handle directory name = record { directory = directory; name = name }

-- callers: user 0, the owner of most nodes, two of its group, and a stranger
abbrev pub admin : Cred
admin = record { uid = 0; gid = 0; gids = [] }

abbrev pub owner : Cred
owner = record { uid = 10; gid = 20; gids = 21 ∷ [] }

abbrev pub member : Cred
member = record { uid = 11; gid = 20; gids = [] }

abbrev pub late_member : Cred
late_member = record { uid = 12; gid = 30; gids = 31 ∷ 20 ∷ [] }

abbrev pub stranger : Cred
stranger = record { uid = 13; gid = 30; gids = [] }

-- what a call sets: nothing, or one field
abbrev pub set_none : SetAttr
set_none = record { mode = None; uid = None; gid = None; size = None; atime = Keep; mtime = Keep }

abbrev pub set_mode : ℕ → SetAttr
set_mode mode = record set_none { mode = Some mode }

abbrev pub set_uid : ℕ → SetAttr
set_uid uid = record set_none { uid = Some uid }

abbrev pub set_gid : ℕ → SetAttr
set_gid gid = record set_none { gid = Some gid }

abbrev pub set_size : ℕ → SetAttr
set_size size = record set_none { size = Some size }

abbrev pub set_atime : Moment → SetAttr
set_atime time = record set_none { atime = Client time }

abbrev pub set_mtime : Moment → SetAttr
set_mtime time = record set_none { mtime = Client time }

-- a time that no clock shows
abbrev pub bad_time : Moment
bad_time = record { seconds = 0; nanos = 1000000000 }

-- nodes of the owner, of second 5
abbrev pub node : ℕ → ℕ → Content → Node
node mode nlink content = record {
  mode = mode;
  nlink = nlink;
  uid = 10;
  gid = 20;
  atime = second 5;
  mtime = second 5;
  ctime = second 5;
  verifier = None;
  content = content;
}

abbrev pub entry : ℕ → List ℕ → ℕ → Entry
entry cookie name fileid = record { cookie = cookie; name = name; fileid = fileid }

abbrev pub directory : ℕ → List Entry → ℕ → Content
directory parent entries next = Directory parent (record { entries = entries; next_cookie = next })

-- the directory /
abbrev pub top : Node
top = record (node 0o777 4 (directory 1 (entry 3 (codes "f") 2 ∷ entry 4 (codes "d") 3 ∷ entry 5 (codes "l") 4 ∷ entry 6 (codes "g") 2 ∷ entry 7 (codes "e") 6 ∷ []) 8)) { uid = 0; gid = 0 }

-- the verifier under which /d/x was made
abbrev pub kept_verifier : List ℕ
kept_verifier = 1 ∷ 2 ∷ 3 ∷ 4 ∷ 5 ∷ 6 ∷ 7 ∷ 8 ∷ []

abbrev pub sample : Tree
sample = record {
  volume = 1;
  nodes =
      (1, top) ∷
      (2, node 0o640 2 (File (codes "hello"))) ∷
      (3, node 0o750 3 (directory 1 (entry 3 (codes "s") 5 ∷ entry 4 (codes "x") 7 ∷ []) 5)) ∷
      (4, node 0o777 1 (Link (codes "f"))) ∷
      (5, node 0o755 2 (directory 3 [] 3)) ∷
      (6, node 0o777 2 (directory 1 [] 3)) ∷
      (7, record (node 0o644 1 (File [])) { verifier = Some kept_verifier }) ∷ [];
  next_fileid = 8;
}

-- a caller, a call, and the status with which it is refused
abbrev pub Case : Type 0
Case = Cred × Call × NfsStatus

abbrev pub refusals : Tree → List Case → List (Option NfsStatus)
refusals t cases = map (λ c. refusal_of t c.0 c.1) cases

abbrev pub statuses : List Case → List (Option NfsStatus)
statuses cases = map (λ c. Some c.2) cases
