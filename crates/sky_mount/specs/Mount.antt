-- The MOUNT protocol, version 3 (RFC 1813, section 5): its calls, which bytes their arguments are, and with which results each is answered.
use Rattle.std.specs.Prelude.{◌≡◌, ⊤, ℕ, ◌≤◌, true, false, codes, List, [], ◌++◌, length, Option, Some, None, if◌then◌else◌}
use Rattle.std.specs.Str.{bytes_eq}
use Rattle.sky_base.specs.Limits.{max_mount_path_bytes}
use Rattle.sky_nfs.specs.Handles.{handle_bytes}
use Rattle.sky_nfs.specs.Tree.{root}
use Rattle.sky_xdr.specs.Encoding.{uint, bool, opaque, IsOpaque}

-- a call with its arguments
pub data MountCall : Type 0 where
  -- NULL does nothing (section 5.2.0)
  Null : MountCall
  -- MNT: the handle of the directory that is exported at a path (section 5.2.1)
  Mnt : (path : List ℕ) → MountCall
  -- DUMP: which clients have mounted what (section 5.2.2)
  Dump : MountCall
  -- UMNT: a client no longer mounts what is at a path (section 5.2.3)
  Umnt : (path : List ℕ) → MountCall
  -- UMNTALL: a client no longer mounts anything (section 5.2.4)
  UmntAll : MountCall
  -- EXPORT: what can be mounted, and by whom (section 5.2.5)
  Export : MountCall

-- the number of its procedure
abbrev pub procedure_of : MountCall → ℕ
procedure_of Null = 0
procedure_of (Mnt path) = 1
procedure_of Dump = 2
procedure_of (Umnt path) = 3
procedure_of UmntAll = 4
procedure_of Export = 5

-- ---- arguments

-- bytes are a path (dirpath, section 5.1.5)
abbrev pub IsPath : List ℕ → List ℕ → Type 0
IsPath bytes path = IsOpaque bytes path × (length path ≤ max_mount_path_bytes)

-- bytes are the arguments of a call
abbrev pub IsArgs : List ℕ → MountCall → Type 0
IsArgs bytes Null = bytes ≡ []
IsArgs bytes (Mnt path) = IsPath bytes path
IsArgs bytes Dump = bytes ≡ []
IsArgs bytes (Umnt path) = IsPath bytes path
IsArgs bytes UmntAll = bytes ≡ []
IsArgs bytes Export = bytes ≡ []

-- no call of a procedure has these bytes as its arguments
abbrev pub HasNoCall : ℕ → List ℕ → Type 0
HasNoCall procedure bytes = (call : MountCall) → procedure_of call ≡ procedure → IsArgs bytes call → ⊥

-- a path that a call has is within the limit
abbrev pub HasShortPath : MountCall → Type 0
HasShortPath (Mnt path) = length path ≤ max_mount_path_bytes
HasShortPath (Umnt path) = length path ≤ max_mount_path_bytes
HasShortPath _ = ⊤

-- the arguments of a call as they are written, with zeros as the padding
abbrev pub args_bytes : MountCall → List ℕ
args_bytes Null = []
args_bytes (Mnt path) = opaque path
args_bytes Dump = []
args_bytes (Umnt path) = opaque path
args_bytes UmntAll = []
args_bytes Export = []

-- ---- results

-- the path at which the volume's root is exported, and nothing else
abbrev pub exported_path : List ℕ
exported_path = codes "/"

-- the flavors of credentials that are taken, as an array: AUTH_SYS and AUTH_NONE
abbrev pub auth_flavors : List ℕ
auth_flavors = uint 2 ++ uint 1 ++ uint 0

-- the results of MNT (mountres3): MNT3_OK, which is 0, with the handle and the flavors, or MNT3ERR_NOENT
unfoldable pub mount_results : Option (List ℕ) → List ℕ
mount_results (Some handle) = uint 0 ++ opaque handle ++ auth_flavors
mount_results None = uint 2

-- the handle of a volume's root
unfoldable pub root_handle : ℕ → List ℕ
root_handle volume = handle_bytes volume root

-- the handle that is mounted at a path of a volume
abbrev pub mounted_at : ℕ → List ℕ → Option (List ℕ)
mounted_at volume path = if bytes_eq path exported_path then Some (root_handle volume) else None

-- the results of DUMP (mountlist): an empty list, since none is kept
unfoldable pub no_mounts : List ℕ
no_mounts = bool false

-- the results of EXPORT (exports): one directory, for everyone (an empty list of groups), and no further one
unfoldable pub one_export : List ℕ
one_export = bool true ++ opaque exported_path ++ bool false ++ bool false

-- the results that answer a call, where this volume is served
abbrev pub results : ℕ → MountCall → List ℕ
results volume Null = []
results volume (Mnt path) = mount_results (mounted_at volume path)
results volume Dump = no_mounts
results volume (Umnt path) = []
results volume UmntAll = []
results volume Export = one_export
