-- Reading a call from left to right (RFC 5531, section 9): what it says, or why it is refused.
use Rattle.std.specs.Prelude.{ℕ, zero, suc, Bool, ◌==◌, List, [], ◌∷◌, Option, Some, None, Result, Ok, Err, ok_or, nat_lt, if◌then◌else◌}
use Rattle.std.specs.Result.{result_ok}
use Rattle.sky_base.specs.Limits.{max_auth_bytes, max_machine_name_bytes, max_gids}
use Rattle.sky_base.specs.declared.cred.Cred.{Cred}
use Rattle.sky_xdr.specs.declared.fault.XdrFault.{XdrFault}
use Rattle.sky_xdr.specs.declared.fault.XdrFault.TheVariants.{TooLong}
use Rattle.sky_xdr.specs.Reading.{◌>>=◌, uint_at, opaque_at, end_at}
use Rattle.sky_rpc.specs.declared.call.RpcRefusal.{RpcRefusal}
use Rattle.sky_rpc.specs.declared.call.RpcRefusal.TheVariants.{NotCall, BadVersion, BadCred}
use Rattle.sky_rpc.specs.Call.{OpaqueAuth, CallMessage, nobody}

-- the first three words of a message: its number, its type and the version of RPC
pub record Start : Type 0 where
  pub xid : ℕ
  pub kind : ℕ
  pub rpcvers : ℕ

unfoldable pub start_at : List ℕ → Result (Start × List ℕ) XdrFault
start_at bytes = do
  xid ← uint_at bytes
  kind ← uint_at xid.1
  rpcvers ← uint_at kind.1
  Ok (record { xid = xid.0; kind = kind.0; rpcvers = rpcvers.0 }, rpcvers.1)

-- a credential or a verifier (section 8.2)
unfoldable pub auth_at : List ℕ → Result (OpaqueAuth × List ℕ) XdrFault
auth_at bytes = do
  flavor ← uint_at bytes
  body ← opaque_at max_auth_bytes flavor.1
  Ok (record { flavor = flavor.0; body = body.0 }, body.1)

-- what stands behind the version of RPC: the procedure that is called, the credential, a verifier, and the arguments
pub record CallBody : Type 0 where
  pub program : ℕ
  pub version : ℕ
  pub procedure : ℕ
  pub cred : OpaqueAuth
  pub args : List ℕ

unfoldable pub body_at : List ℕ → Result CallBody XdrFault
body_at bytes = do
  program ← uint_at bytes
  version ← uint_at program.1
  procedure ← uint_at version.1
  cred ← auth_at procedure.1
  verf ← auth_at cred.1
  Ok (record { program = program.0; version = version.0; procedure = procedure.0; cred = cred.0; args = verf.1 })

-- n unsigned integers, one behind the other
unfoldable pub uints_at : ℕ → List ℕ → Result (List ℕ × List ℕ) XdrFault
uints_at zero bytes = Ok ([], bytes)
uints_at (suc n) bytes = do
  first ← uint_at bytes
  others ← uints_at n first.1
  Ok (first.0 ∷ others.0, others.1)

-- the further groups of a caller: how many, and each
unfoldable pub gids_at : List ℕ → Result (List ℕ × List ℕ) XdrFault
gids_at bytes = do
  count ← uint_at bytes
  if nat_lt max_gids count.0 then Err TooLong else uints_at count.0 count.1

-- the whole body of an AUTH_SYS credential (appendix A)
unfoldable pub auth_sys_at : List ℕ → Result Cred XdrFault
auth_sys_at body = do
  stamp ← uint_at body
  machine ← opaque_at max_machine_name_bytes stamp.1
  uid ← uint_at machine.1
  gid ← uint_at uid.1
  gids ← gids_at gid.1
  end ← end_at gids.1
  Ok (record { uid = uid.0; gid = gid.0; gids = gids.0 })

-- who calls, where the credential says it: AUTH_NONE is 0, and AUTH_SYS is 1
unfoldable pub cred_at : OpaqueAuth → Option Cred
cred_at auth =
    if auth.flavor == 0 then Some nobody
    else (if auth.flavor == 1 then result_ok (auth_sys_at auth.body) else None)

-- what was read, or else this refusal
abbrev pub or_refuse : {A : Type 0} → Result A XdrFault → RpcRefusal → Result A RpcRefusal
or_refuse (Ok x) refusal = Ok x
or_refuse (Err fault) refusal = Err refusal

-- nothing, or else this refusal
abbrev pub check : Bool → RpcRefusal → Result (Unit {0}) RpcRefusal
check holds refusal = if holds then Ok tt else Err refusal

-- what a message is as a call. The first of these refusals that applies decides:
--   1. NotCall: it has fewer than 12 bytes, or its type is not CALL, which is 0;
--   2. BadVersion: the version of RPC is not 2;
--   3. NotCall: it is not whole up to the verifier's end, or the body of its credential or verifier is too long;
--   4. BadCred: the credential does not say who calls.
unfoldable pub call_at : List ℕ → Result CallMessage RpcRefusal
call_at bytes = do
  start ← or_refuse (start_at bytes) NotCall
  call ← check (start.0.kind == 0) NotCall
  rpc ← check (start.0.rpcvers == 2) (BadVersion start.0.xid)
  body ← or_refuse (body_at start.1) NotCall
  cred ← ok_or (cred_at body.cred) (BadCred start.0.xid)
  Ok (record { xid = start.0.xid; program = body.program; version = body.version; procedure = body.procedure; cred = cred; args = body.args })
