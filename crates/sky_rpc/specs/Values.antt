-- What the values of the program stand for.
use Rattle.std.specs.Prelude.{◌≡◌, ℕ, ◌+◌, List, [], take, Result, Ok, Err}
use Rattle.sky_rpc.specs.declared.call.RpcCall.{RpcCall}
use Rattle.sky_rpc.specs.declared.call.Start.{Start as StartValue}
use Rattle.sky_rpc.specs.declared.call.OpaqueAuth.{OpaqueAuth as AuthValue}
use Rattle.sky_rpc.specs.declared.call.CallBody.{CallBody as BodyValue}
use Rattle.sky_rpc.specs.declared.reply.ReplyBody.{ReplyBody}
use Rattle.sky_rpc.specs.declared.reply.ReplyBody.TheVariants as body
use Rattle.sky_xdr.specs.declared.fault.XdrFault.{XdrFault}
use Rattle.sky_rpc.specs.Call.{CallMessage, OpaqueAuth}
use Rattle.sky_rpc.specs.Reading.{Start, CallBody}
use Rattle.sky_rpc.specs.Reply.{Reply, Success, ProgUnavail, ProgMismatch, ProcUnavail, GarbageArgs, SystemErr, BadVersion, BadCred}

-- a call that took the front of what stood at a place left the reader here: what it returned, seen by view, is what reading
-- gives, with what is left
abbrev pub Leaves : {X Y : Type 0} → (X → Y) → Result X XdrFault → List ℕ → Result (Y × List ℕ) XdrFault → Type 0
Leaves view (Ok x) left read = read ≡ Ok (view x, left)
Leaves view (Err fault) left read = read ≡ Err fault

-- the parts of a call, wherever their bytes lie
abbrev pub start_of : StartValue → Start
start_of s = record { xid = s.xid; kind = s.kind; rpcvers = s.rpcvers }

abbrev pub auth_of : AuthValue → OpaqueAuth
auth_of a = record { flavor = a.flavor; body = a.body.now }

abbrev pub body_of : BodyValue → CallBody
body_of b = record { program = b.program; version = b.version; procedure = b.procedure; cred = auth_of b.cred; args = b.args.now }

-- what a call says, wherever its arguments lie
abbrev pub message_of : RpcCall → CallMessage
message_of c = record { xid = c.xid; program = c.program; version = c.version; procedure = c.procedure; cred = c.cred; args = c.args.now }

-- the reply, where the results lie at the beginning of these bytes
abbrev pub reply_of : ReplyBody → List ℕ → Reply
reply_of (body.Success count) bytes = Success (take count bytes)
reply_of body.ProgUnavail bytes = ProgUnavail
reply_of body.ProgMismatch bytes = ProgMismatch
reply_of body.ProcUnavail bytes = ProcUnavail
reply_of body.GarbageArgs bytes = GarbageArgs
reply_of body.SystemErr bytes = SystemErr
reply_of body.BadVersion bytes = BadVersion
reply_of body.BadCred bytes = BadCred

-- its results, where they lie there
abbrev pub results_in : ReplyBody → List ℕ → List ℕ
results_in (body.Success count) bytes = take count bytes
results_in other bytes = []

-- how many bytes of results it has
abbrev pub results_count : ReplyBody → ℕ
results_count (body.Success count) = count
results_count other = 0

-- how many bytes the message of a reply has
abbrev pub message_length : ReplyBody → ℕ
message_length (body.Success count) = 24 + count
message_length body.ProgMismatch = 32
message_length body.BadCred = 20
message_length body.ProgUnavail = 24
message_length body.ProcUnavail = 24
message_length body.GarbageArgs = 24
message_length body.SystemErr = 24
message_length body.BadVersion = 24
