-- Each call has an encoding.
use Rattle.std.proofs.Common.{◌≡◌, ℕ, ◌+◌, ◌*◌, ◌≤◌, List, [], ◌++◌, length, refl, arith}
use Rattle.std.proofs.lemmas.List.{length-append}
use Rattle.sky_base.specs.Limits.{max_auth_bytes}
use Rattle.sky_base.specs.declared.cred.Cred.{Cred}
use Rattle.sky_xdr.specs.Encoding.{uint, opaque}
use Rattle.sky_xdr.proofs.Numbers.{length-uint}
use Rattle.sky_xdr.proofs.Opaques.{IsOpaque-opaque}
use Rattle.sky_rpc.specs.Call.{OpaqueAuth, CallHeader, CallMessage, IsCall, IsAuthSys, auth_sys, IsCallHeader, IsCallMessage, auth_sys_body, call_message, no_auth}
use Rattle.sky_rpc.proofs.Replies.{length-uints}

length-body : (cred : Cred) → length (auth_sys_body cred) ≡ 20 + 4 * length cred.gids
length-body cred = simp (length-append, length-uint, length-uints) (omega arith)

body_is : (m : CallMessage) → IsCall m → IsAuthSys (auth_sys_body m.cred) m.cred
body_is m is = record {
  stamp = 0;
  machine_name = [];
  name = opaque [];
  stamp_fits = omega arith;
  accepted = IsOpaque-opaque [];
  within = omega arith;
  uid = is.uid;
  gid = is.gid;
  gids = is.gids;
  gids_within = is.gids_within;
  encoded = refl;
}

-- the parts of a call, with the credential as one part
parts : (a b c d e f g h i : List ℕ) → a ++ b ++ c ++ d ++ e ++ f ++ g ++ h ++ i ≡ (a ++ b ++ c ++ d ++ e ++ f ++ g ++ h) ++ i
parts a b c d e f g h i = refl

pub encoded : (m : CallMessage) → IsCall m → IsCallMessage (call_message m) m
encoded m is =
    let body : List ℕ = auth_sys_body m.cred in
    let within : length body ≤ max_auth_bytes = omega (arith, length-body m.cred, is.gids_within) in
    let cred : OpaqueAuth = record { flavor = 1; body = body } in
    let verf : OpaqueAuth = record { flavor = 0; body = [] } in
    let header : CallHeader = record { xid = m.xid; program = m.program; version = m.version; procedure = m.procedure; cred = cred; verf = verf } in
    let accepted : IsCallHeader _ header = record {
      cred_bytes = uint 1 ++ opaque body;
      verf_bytes = no_auth;
      xid = is.xid;
      program = is.program;
      version = is.version;
      procedure = is.procedure;
      cred = record { body = opaque body; flavor = omega arith; accepted = IsOpaque-opaque body; within = within; encoded = refl };
      verf = record { body = opaque []; flavor = omega arith; accepted = IsOpaque-opaque []; within = omega arith; encoded = refl };
      encoded = refl;
    } in
    record { header = header; head = _; cred = m.cred; args = m.args; accepted = accepted; caller = auth_sys refl (body_is m is); says = refl; encoded = refl }
