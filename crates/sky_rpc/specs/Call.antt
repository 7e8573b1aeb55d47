-- Calls of ONC RPC (RFC 5531), as they are accepted.
use Rattle.std.specs.Prelude.{◌≡◌, ◌≢◌, ℕ, ◌^◌, ◌<◌, ◌≤◌, List, [], ◌++◌, length}
use Rattle.std.specs.List.{flat_map, AllByRecursion}
use Rattle.sky_base.specs.Limits.{max_auth_bytes, max_machine_name_bytes, max_gids}
use Rattle.sky_base.specs.declared.cred.Cred.{Cred}
use Rattle.sky_xdr.specs.Encoding.{uint, opaque, IsOpaque}
use Rattle.sky_rpc.specs.declared.call.RpcRefusal.{RpcRefusal}
use Rattle.sky_rpc.specs.declared.call.RpcRefusal.TheVariants.{NotCall, BadVersion, BadCred}

-- who calls without saying who: user 65534 of group 65534, and of no further groups
abbrev pub nobody : Cred
nobody = record { uid = 65534; gid = 65534; gids = [] }

-- a verifier that says nothing: AUTH_NONE with an empty body (sections 8.2 and 10.1)
abbrev pub no_auth : List ℕ
no_auth = uint 0 ++ opaque []

-- a credential or a verifier: its flavor and its body (opaque_auth, section 8.2)
pub record OpaqueAuth : Type 0 where
  pub flavor : ℕ
  pub body : List ℕ

-- a call as it is sent, up to its arguments: its number, the procedure that is called, the credential and the verifier (section 9)
pub record CallHeader : Type 0 where
  pub xid : ℕ
  pub program : ℕ
  pub version : ℕ
  pub procedure : ℕ
  pub cred : OpaqueAuth
  pub verf : OpaqueAuth

-- what a call says: its number, the procedure that is called, who calls, and the arguments
pub record CallMessage : Type 0 where
  pub xid : ℕ
  pub program : ℕ
  pub version : ℕ
  pub procedure : ℕ
  pub cred : Cred
  pub args : List ℕ

-- an unsigned integer (RFC 4506, section 4.2)
abbrev pub IsUint : ℕ → Type 0
IsUint n = n < 2 ^ 32

-- unsigned integers, one behind the other
abbrev pub uints : List ℕ → List ℕ
uints ns = flat_map uint ns

-- What is accepted as a credential or a verifier.
pub record IsOpaqueAuth (bytes : List ℕ) (auth : OpaqueAuth) : Type 0 where
  pub body : List ℕ
  pub flavor : IsUint auth.flavor
  pub accepted : IsOpaque body auth.body
  pub within : length auth.body ≤ max_auth_bytes
  pub encoded : bytes ≡ uint auth.flavor ++ body

-- What is accepted as the body of an AUTH_SYS credential: exactly a stamp, the machine's name, the user, the group and
-- the further groups (authsys_parms, appendix A).
pub record IsAuthSys (body : List ℕ) (cred : Cred) : Type 0 where
  pub stamp : ℕ
  pub machine_name : List ℕ
  pub name : List ℕ
  pub stamp_fits : IsUint stamp
  pub accepted : IsOpaque name machine_name
  pub within : length machine_name ≤ max_machine_name_bytes
  pub uid : IsUint cred.uid
  pub gid : IsUint cred.gid
  pub gids : AllByRecursion IsUint cred.gids
  pub gids_within : length cred.gids ≤ max_gids
  pub encoded : body ≡ uint stamp ++ name ++ uint cred.uid ++ uint cred.gid ++ uint (length cred.gids) ++ uints cred.gids

-- who calls under a credential
pub data IsCred (auth : OpaqueAuth) (cred : Cred) : Type 0 where
  -- AUTH_NONE: nobody, whatever the body is (section 10.1)
  auth_none : auth.flavor ≡ 0 → cred ≡ nobody → IsCred auth cred
  -- AUTH_SYS: whom the body names (appendix A)
  auth_sys : auth.flavor ≡ 1 → IsAuthSys auth.body cred → IsCred auth cred

-- What is accepted as a call up to its arguments: CALL is 0, and the version of RPC is 2 (section 9).
pub record IsCallHeader (bytes : List ℕ) (header : CallHeader) : Type 0 where
  pub cred_bytes : List ℕ
  pub verf_bytes : List ℕ
  pub xid : IsUint header.xid
  pub program : IsUint header.program
  pub version : IsUint header.version
  pub procedure : IsUint header.procedure
  pub cred : IsOpaqueAuth cred_bytes header.cred
  pub verf : IsOpaqueAuth verf_bytes header.verf
  pub encoded : bytes ≡ uint header.xid ++ uint 0 ++ uint 2 ++ uint header.program ++ uint header.version ++ uint header.procedure ++ cred_bytes ++ verf_bytes

-- what a call says with these arguments, where this is who calls
abbrev pub message_with : CallHeader → Cred → List ℕ → CallMessage
message_with header cred args =
    record { xid = header.xid; program = header.program; version = header.version; procedure = header.procedure; cred = cred; args = args }

-- The bytes are a call with a credential that says who calls.
pub record IsCallMessage (bytes : List ℕ) (message : CallMessage) : Type 0 where
  pub header : CallHeader
  pub head : List ℕ
  pub cred : Cred
  pub args : List ℕ
  pub accepted : IsCallHeader head header
  pub caller : IsCred header.cred cred
  pub says : message ≡ message_with header cred args
  pub encoded : bytes ≡ head ++ args

-- The bytes are a call of another version of RPC than 2.
pub record IsOtherVersion (bytes : List ℕ) (xid : ℕ) : Type 0 where
  pub rpcvers : ℕ
  pub rest : List ℕ
  pub xid_fits : IsUint xid
  pub rpcvers_fits : IsUint rpcvers
  pub other : rpcvers ≢ 2
  pub encoded : bytes ≡ uint xid ++ uint 0 ++ uint rpcvers ++ rest

-- The bytes are a call with a credential that does not say who calls.
pub record HasBadCred (bytes : List ℕ) (xid : ℕ) : Type 0 where
  pub header : CallHeader
  pub head : List ℕ
  pub args : List ℕ
  pub accepted : IsCallHeader head header
  pub number : header.xid ≡ xid
  pub nobody_calls : (cred : Cred) → IsCred header.cred cred → ⊥
  pub encoded : bytes ≡ head ++ args

-- What is called and who calls are numbers that a call can say.
pub record IsCall (message : CallMessage) : Type 0 where
  pub xid : IsUint message.xid
  pub program : IsUint message.program
  pub version : IsUint message.version
  pub procedure : IsUint message.procedure
  pub uid : IsUint message.cred.uid
  pub gid : IsUint message.cred.gid
  pub gids : AllByRecursion IsUint message.cred.gids
  pub gids_within : length message.cred.gids ≤ max_gids

-- the body of an AUTH_SYS credential, with the stamp 0 and no machine's name
abbrev pub auth_sys_body : Cred → List ℕ
auth_sys_body cred = uint 0 ++ opaque [] ++ uint cred.uid ++ uint cred.gid ++ uint (length cred.gids) ++ uints cred.gids

-- an encoding of a call, under AUTH_SYS and with a verifier that says nothing
abbrev pub call_message : CallMessage → List ℕ
call_message m =
    uint m.xid ++ uint 0 ++ uint 2 ++ uint m.program ++ uint m.version ++ uint m.procedure ++ (uint 1 ++ opaque (auth_sys_body m.cred)) ++ no_auth ++ m.args

-- Why bytes are refused, in these words.
abbrev pub IsRefused : List ℕ → RpcRefusal → Type 0
IsRefused bytes NotCall =
    ((message : CallMessage) → IsCallMessage bytes message → ⊥) × ((xid : ℕ) → IsOtherVersion bytes xid → ⊥) × ((xid : ℕ) → HasBadCred bytes xid → ⊥)
IsRefused bytes (BadVersion xid) = IsOtherVersion bytes xid
IsRefused bytes (BadCred xid) = HasBadCred bytes xid
