-- The names of statuses and procedures (RFC 1813).
use Rattle.std.specs.Prelude.{◌==◌, ◌&&◌, ℕ, List, [], ◌∷◌, Option, Some, None, codes, if◌then◌else◌}
use Rattle.sky_nfs.specs.declared.status.NfsStatus.{NfsStatus}
use Rattle.sky_nfs.specs.declared.status.NfsStatus.TheVariants.{Perm, NoEnt, Io, Acces, Exist, NotDir, IsDir, Inval, FBig, NoSpc, MLink, NameTooLong, NotEmpty, Stale, BadHandle, NotSync, BadCookie, NotSupp, TooSmall, ServerFault, BadType, Jukebox}

-- the name of a refusal (section 2.6)
abbrev pub name_of : NfsStatus → List ℕ
name_of Perm = codes "NFS3ERR_PERM"
name_of NoEnt = codes "NFS3ERR_NOENT"
name_of Io = codes "NFS3ERR_IO"
name_of Acces = codes "NFS3ERR_ACCES"
name_of Exist = codes "NFS3ERR_EXIST"
name_of NotDir = codes "NFS3ERR_NOTDIR"
name_of IsDir = codes "NFS3ERR_ISDIR"
name_of Inval = codes "NFS3ERR_INVAL"
name_of FBig = codes "NFS3ERR_FBIG"
name_of NoSpc = codes "NFS3ERR_NOSPC"
name_of MLink = codes "NFS3ERR_MLINK"
name_of NameTooLong = codes "NFS3ERR_NAMETOOLONG"
name_of NotEmpty = codes "NFS3ERR_NOTEMPTY"
name_of Stale = codes "NFS3ERR_STALE"
name_of BadHandle = codes "NFS3ERR_BADHANDLE"
name_of NotSync = codes "NFS3ERR_NOT_SYNC"
name_of BadCookie = codes "NFS3ERR_BAD_COOKIE"
name_of NotSupp = codes "NFS3ERR_NOTSUPP"
name_of TooSmall = codes "NFS3ERR_TOOSMALL"
name_of ServerFault = codes "NFS3ERR_SERVERFAULT"
name_of BadType = codes "NFS3ERR_BADTYPE"
name_of Jukebox = codes "NFS3ERR_JUKEBOX"

-- the procedures of NFS version 3, in the order of their numbers (section 3)
abbrev pub nfs_procedures : List (List ℕ)
nfs_procedures =
    codes "NULL" ∷ codes "GETATTR" ∷ codes "SETATTR" ∷ codes "LOOKUP" ∷ codes "ACCESS" ∷ codes "READLINK" ∷ codes "READ"
    ∷ codes "WRITE" ∷ codes "CREATE" ∷ codes "MKDIR" ∷ codes "SYMLINK" ∷ codes "MKNOD" ∷ codes "REMOVE" ∷ codes "RMDIR"
    ∷ codes "RENAME" ∷ codes "LINK" ∷ codes "READDIR" ∷ codes "READDIRPLUS" ∷ codes "FSSTAT" ∷ codes "FSINFO"
    ∷ codes "PATHCONF" ∷ codes "COMMIT" ∷ []

-- the procedures of MOUNT version 3, in the order of their numbers (section 5.2)
abbrev pub mount_procedures : List (List ℕ)
mount_procedures = codes "NULL" ∷ codes "MNT" ∷ codes "DUMP" ∷ codes "UMNT" ∷ codes "UMNTALL" ∷ codes "EXPORT" ∷ []

-- accept_stat, in the order of the numbers (RFC 5531 section 9)
abbrev pub accept_stats : List (List ℕ)
accept_stats = codes "SUCCESS" ∷ codes "PROG_UNAVAIL" ∷ codes "PROG_MISMATCH" ∷ codes "PROC_UNAVAIL" ∷ codes "GARBAGE_ARGS" ∷ codes "SYSTEM_ERR" ∷ []

-- auth_stat, in the order of the numbers, as far as the standard itself has them (RFC 5531 section 9)
abbrev pub auth_stats : List (List ℕ)
auth_stats =
    codes "AUTH_OK" ∷ codes "AUTH_BADCRED" ∷ codes "AUTH_REJECTEDCRED" ∷ codes "AUTH_BADVERF" ∷ codes "AUTH_REJECTEDVERF"
    ∷ codes "AUTH_TOOWEAK" ∷ codes "AUTH_INVALIDRESP" ∷ codes "AUTH_FAILED" ∷ []

-- the name that stands beside a number in a table
abbrev pub name_in : List (ℕ × List ℕ) → ℕ → Option (List ℕ)
name_in [] number = None
name_in (row ∷ rows) number = if row.0 == number then Some row.1 else name_in rows number

-- the refusals of MNT (mountstat3, RFC 1813 section 5.1.5)
abbrev pub mount_statuses : List (ℕ × List ℕ)
mount_statuses =
    (1, codes "MNT3ERR_PERM") ∷ (2, codes "MNT3ERR_NOENT") ∷ (5, codes "MNT3ERR_IO") ∷ (13, codes "MNT3ERR_ACCES")
    ∷ (20, codes "MNT3ERR_NOTDIR") ∷ (22, codes "MNT3ERR_INVAL") ∷ (63, codes "MNT3ERR_NAMETOOLONG")
    ∷ (10004, codes "MNT3ERR_NOTSUPP") ∷ (10006, codes "MNT3ERR_SERVERFAULT") ∷ []

-- kinds of objects (ftype3, RFC 1813 section 2.6)
abbrev pub kinds : List (ℕ × List ℕ)
kinds =
    (1, codes "regular") ∷ (2, codes "directory") ∷ (3, codes "block device") ∷ (4, codes "character device")
    ∷ (5, codes "symbolic link") ∷ (6, codes "socket") ∷ (7, codes "named pipe") ∷ []

-- how stable written bytes are (stable_how, RFC 1813 section 3.3.7)
abbrev pub stable_hows : List (List ℕ)
stable_hows = codes "UNSTABLE" ∷ codes "DATA_SYNC" ∷ codes "FILE_SYNC" ∷ []

-- the statuses with which a run of the proxy ends, in the order of their numbers
abbrev pub run_statuses : List (List ℕ)
run_statuses =
    codes "Done" ∷ codes "Words" ∷ codes "Malformed" ∷ codes "Early" ∷ codes "SourceFault" ∷ codes "SinkFault" ∷ codes "JournalFault"
    ∷ codes "CloudFault" ∷ codes "Memory" ∷ codes "Foreign, Missing, Damaged or Worn" ∷ codes "Long" ∷ codes "Settings" ∷ []

-- what a code of a step means, and what its two numbers are; a number that is not used has no name
pub record StepWords : Type 0 where
  pub kind : ℕ
  pub code : ℕ
  pub words : List ℕ × List ℕ × List ℕ

abbrev pub step : ℕ → ℕ → List ℕ → List ℕ → List ℕ → StepWords
step kind code what first second = record { kind = kind; code = code; words = (what, first, second) }

-- the codes of the steps of the log: 10 seals, 11 uploads, 12 evicts, 13 cleans, 14 merges, 15 collects
abbrev pub steps : List StepWords
steps =
    step 10 0 (codes "Sealed") (codes "covers") (codes "objects")
    ∷ step 10 1 (codes "Unchanged") (codes "covers") []
    ∷ step 10 2 (codes "Busy") (codes "objects that wait") []
    ∷ step 11 0 (codes "Put") (codes "objects left") []
    ∷ step 11 1 (codes "Idle") [] []
    ∷ step 11 3 (codes "Completed") (codes "covers") []
    ∷ step 12 0 (codes "Evicted") (codes "residents") (codes "clean residents left")
    ∷ step 13 0 (codes "Chosen") (codes "run") (codes "victims")
    ∷ step 13 1 (codes "Nothing") [] []
    ∷ step 13 2 (codes "Waiting") (codes "run") []
    ∷ step 13 3 (codes "Copied") (codes "items") []
    ∷ step 13 4 (codes "Finished") (codes "run") (codes "touched")
    ∷ step 13 5 (codes "Abandoned") [] []
    ∷ step 14 0 (codes "Took") (codes "taken") (codes "kept")
    ∷ step 14 1 (codes "Nothing") [] []
    ∷ step 14 3 (codes "Finished") (codes "run") []
    ∷ step 15 0 (codes "Removed") [] []
    ∷ step 15 1 (codes "Nothing") [] []
    ∷ []

-- the words of a code of a step
abbrev pub words_in : List StepWords → ℕ → ℕ → Option (List ℕ × List ℕ × List ℕ)
words_in [] kind code = None
words_in (row ∷ rows) kind code = if (row.kind == kind) && (row.code == code) then Some row.words else words_in rows kind code

-- the codes that each step has: a call of the cloud failed, there was no memory, an item is lost
abbrev pub failures : List (ℕ × List ℕ)
failures = (7, codes "fault of the cloud") ∷ (8, codes "no memory") ∷ (9, codes "Lost") ∷ []
