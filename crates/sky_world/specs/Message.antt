-- What a record of a session means (RFC 5531, section 9, and RFC 1813, section 3), by the first case that holds.
-- Cases 1 to 4 are those of reading a call.
--   1. it has fewer than 12 bytes, or it is no call: the session is closed;
--   2. the version of RPC is not 2: refused;
--   3. it is not whole up to its arguments: the session is closed;
--   4. the credential does not say who calls: refused;
--   5. the program is neither NFS nor MOUNT: refused;
--   6. the version is not 3: refused;
--   7. the program has no such procedure: refused;
--   8. the arguments are not the procedure's: refused; else it is a call of MOUNT or of NFS.
use Rattle.std.specs.Prelude.{◌≡◌, ℕ, ◌<◌, List, Result, Ok, Err, not, ◌==◌, if◌then◌else◌}
use Rattle.sky_base.specs.declared.cred.Cred.{Cred}
use Rattle.sky_nfs.specs.declared.call.Call.{Call}
use Rattle.sky_rpc.specs.Call.{CallMessage}
use Rattle.sky_rpc.specs.Reading.{call_at}
use Rattle.sky_rpc.specs.Reply.{Reply, ProgUnavail, ProgMismatch, ProcUnavail, GarbageArgs, BadVersion, BadCred}
use Rattle.sky_rpc.specs.declared.call.RpcRefusal.{RpcRefusal}
use Rattle.sky_rpc.specs.declared.call.RpcRefusal.TheVariants as refusal
use Rattle.sky_args.specs.Reading as args
use Rattle.sky_args.specs.Reading.{ArgRefusal}
use Rattle.sky_mount.specs.Mount.{MountCall}
use Rattle.sky_mount.specs.Reading as mount
use Rattle.sky_mount.specs.declared.args.ArgFault.{ArgFault}
use Rattle.sky_mount.specs.declared.args.ArgFault.TheVariants as fault

-- what a record means
pub data Message : Type 0 where
  -- the session is closed
  Close : Message
  -- the call of this number has this reply, whatever the tree is
  Refused : (xid : ℕ) (reply : Reply) → Message
  -- the call of this number is this call of MOUNT
  Mount : (xid : ℕ) (call : MountCall) → Message
  -- the call of this number is this call of NFS, by this caller
  Nfs : (xid : ℕ) (cred : Cred) (call : Call) → Message

-- the numbers of the programs NFS and MOUNT (RFC 1813, sections 3 and 5)
abbrev pub nfs_program : ℕ
nfs_program = 100003

abbrev pub mount_program : ℕ
mount_program = 100005

-- the version of both that is served
abbrev pub served_version : ℕ
served_version = 3

-- how many procedures NFS has, from NULL on
abbrev pub procedure_count : ℕ
procedure_count = 22

-- cases 1 to 4
abbrev pub refused_call : RpcRefusal → Message
refused_call refusal.NotCall = Close
refused_call (refusal.BadVersion xid) = Refused xid BadVersion
refused_call (refusal.BadCred xid) = Refused xid BadCred

-- cases 7 and 8 of MOUNT
abbrev pub called_mount : ℕ → Result MountCall ArgFault → Message
called_mount xid (Err fault.NoSuchProc) = Refused xid ProcUnavail
called_mount xid (Err fault.Garbage) = Refused xid GarbageArgs
called_mount xid (Ok call) = Mount xid call

-- cases 7 and 8 of NFS
abbrev pub called_nfs : ℕ → Cred → Result Call ArgRefusal → Message
called_nfs xid cred (Err args.NoSuchProc) = Refused xid ProcUnavail
called_nfs xid cred (Err args.Garbage) = Refused xid GarbageArgs
called_nfs xid cred (Ok call) = Nfs xid cred call

-- cases 6 to 8
abbrev pub called_version : CallMessage → Message
called_version c =
    if not (c.version == served_version) then Refused c.xid ProgMismatch
    else (if c.program == mount_program then called_mount c.xid (mount.args_at c.procedure c.args) else called_nfs c.xid c.cred (args.args_at c.procedure c.args))

-- cases 5 to 8
abbrev pub called_program : CallMessage → Message
called_program c =
    if c.program == nfs_program then called_version c
    else (if c.program == mount_program then called_version c else Refused c.xid ProgUnavail)

-- what was read of a record
abbrev pub message_of : Result CallMessage RpcRefusal → Message
message_of (Err refusal) = refused_call refusal
message_of (Ok call) = called_program call

-- what a record means
unfoldable pub meaning_of : List ℕ → Message
meaning_of bytes = message_of (call_at bytes)

-- A call is one of a procedure of NFS: it passes cases 5 to 7.
pub record IsServed (call : CallMessage) : Type 0 where
  pub program : call.program ≡ nfs_program
  pub version : call.version ≡ served_version
  pub procedure : call.procedure < procedure_count
