-- The numbers of the statuses (nfsstat3, RFC 1813 section 2.6).
use Rattle.std.specs.Prelude.{ℕ, Option, Some, None}
use Rattle.sky_nfs.specs.declared.status.NfsStatus.{NfsStatus}
use Rattle.sky_nfs.specs.declared.status.NfsStatus.TheVariants.{Perm, NoEnt, Io, Acces, Exist, NotDir, IsDir, Inval, FBig, NoSpc, MLink, NameTooLong, NotEmpty, Stale, BadHandle, NotSync, BadCookie, NotSupp, TooSmall, ServerFault, BadType, Jukebox}

-- the number of a refusal's status
abbrev pub number_of : NfsStatus → ℕ
number_of Perm = 1
number_of NoEnt = 2
number_of Io = 5
number_of Acces = 13
number_of Exist = 17
number_of NotDir = 20
number_of IsDir = 21
number_of Inval = 22
number_of FBig = 27
number_of NoSpc = 28
number_of MLink = 31
number_of NameTooLong = 63
number_of NotEmpty = 66
number_of Stale = 70
number_of BadHandle = 10001
number_of NotSync = 10002
number_of BadCookie = 10003
number_of NotSupp = 10004
number_of TooSmall = 10005
number_of ServerFault = 10006
number_of BadType = 10007
number_of Jukebox = 10008

-- the number of an answer's status: NFS3_OK, 0, where nothing is refused
abbrev pub status_number : Option NfsStatus → ℕ
status_number None = 0
status_number (Some status) = number_of status
