-- What the values of the program stand for.
use Rattle.std.specs.Prelude.{◌≡◌, ℕ, [], List, Ok, IsTrue}
use Rattle.sky_args.specs.Reading.{args_at, carries_text}
use Rattle.sky_mount.specs.Values.{call_of}
use Rattle.sky_rpc.specs.Call.{CallMessage}
use Rattle.sky_rpc.specs.Reading.{call_at}
use Rattle.sky_rpc.specs.Values.{reply_of, results_count}
use Rattle.sky_world.specs.Message as spec
use Rattle.sky_world.specs.Message.{IsServed, meaning_of}
use Rattle.sky_world.specs.declared.message.Message.{Message}
use Rattle.sky_world.specs.declared.message.Message.TheVariants.{Close, Refused, Mount, Nfs, OutOfMemory}

-- A call of NFS that is served has this number and is of this procedure.
pub record IsCalled (call : CallMessage) (xid procedure : ℕ) : Type 0 where
  pub served : IsServed call
  pub number : call.xid ≡ xid
  pub same : call.procedure ≡ procedure

-- a message that is no call of NFS has this meaning. A reply that refuses has no results
abbrev pub IsPlain : Message → spec.Message → Type 0
IsPlain Close meant = meant ≡ spec.Close
IsPlain (Refused xid reply) meant = (meant ≡ spec.Refused xid (reply_of reply [])) × (results_count reply ≡ 0)
IsPlain (Mount xid mounted) meant = meant ≡ spec.Mount xid (call_of mounted)
IsPlain (Nfs xid procedure cred nfs) meant = ⊥
IsPlain (OutOfMemory xid procedure) meant = ⊥

-- a message is that of a call that was read. For the arguments of one that has a name, a text or data there may have been no
-- memory
abbrev pub IsOfCall : Message → CallMessage → Type 0
IsOfCall (Nfs xid procedure cred nfs) call = IsCalled call xid procedure × (args_at procedure call.args ≡ Ok nfs) × (call.cred ≡ cred)
IsOfCall (OutOfMemory xid procedure) call = IsCalled call xid procedure × IsTrue (carries_text procedure)
IsOfCall message call = IsPlain message (spec.called_program call)

-- a message is that of a record
abbrev pub IsOfRecord : Message → List ℕ → Type 0
IsOfRecord (Nfs xid procedure cred nfs) bytes =
    (call : CallMessage) × (call_at bytes ≡ Ok call) × IsCalled call xid procedure × (args_at procedure call.args ≡ Ok nfs) × (call.cred ≡ cred)
IsOfRecord (OutOfMemory xid procedure) bytes =
    (call : CallMessage) × (call_at bytes ≡ Ok call) × IsCalled call xid procedure × IsTrue (carries_text procedure)
IsOfRecord message bytes = IsPlain message (meaning_of bytes)
