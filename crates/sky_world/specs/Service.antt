-- What answers the calls of a session, and how.
use Rattle.std.specs.Prelude.{◌≡◌, ℕ, ◌==◌, ◌||◌, Bool, cond, List, [], ◌∷◌, Option, Some, None, Ok, Err, IsTrue, ◌⊎◌, slice_index_or}
use Rattle.sky_args.specs.Reading.{args_at, carries_text}
use Rattle.sky_base.specs.declared.cred.Cred.{Cred}
use Rattle.sky_base.specs.declared.moment.Moment.{Moment}
use Rattle.sky_mount.specs.Mount as mount
use Rattle.sky_nfs.specs.declared.answer.Answer.{Answer}
use Rattle.sky_nfs.specs.declared.answer.Answer.TheVariants.{Null, GetAttr, SetAttr, Lookup, Access, ReadLink, Read, Write, Create, Mkdir, Symlink, Mknod, Remove, Rmdir, Rename, Link, ReadDir, ReadDirPlus, FsStat, FsInfo, PathConf, Commit}
use Rattle.sky_nfs.specs.declared.answer.Refused.{Refused}
use Rattle.sky_nfs.specs.declared.answer.WccData.{WccData}
use Rattle.sky_nfs.specs.declared.call.Call.{Call}
use Rattle.sky_nfs.specs.declared.status.NfsStatus.{NfsStatus}
use Rattle.sky_nfs.specs.declared.status.NfsStatus.TheVariants.{ServerFault, Jukebox}
use Rattle.sky_nfs.specs.declared.call.Change.{Change}
use Rattle.sky_nfs.specs.Calls.{procedure_of}
use Rattle.sky_nfs.specs.History.{is_done}
use Rattle.sky_nfs.specs.Procedure.{procedure}
use Rattle.sky_nfs.specs.Tree.{Tree}
use Rattle.sky_results.specs.Answers.{answer_bytes}
use Rattle.sky_rpc.specs.Call.{CallMessage}
use Rattle.sky_rpc.specs.Reading.{call_at}
use Rattle.sky_rpc.specs.Reply.{Reply, Success, SystemErr, reply_record}
use Rattle.sky_tree.specs.Memory.{takes_memory}
use Rattle.sky_world.specs.Message as message
use Rattle.sky_world.specs.Message.{Message, IsServed}

-- what answers the calls: the number of this opening, the file tree, and the moment
pub record Service : Type 0 where
  pub epoch : ℕ
  pub tree : Tree
  pub moment : Moment

-- the answer to a call of NFS: that of its procedure in the tree
abbrev pub answer_to : Service → Cred → Call → Answer
answer_to service cred call = (procedure service.tree service.epoch cred call service.moment).answer

-- the record of the reply to a record that means this; none where the session is closed
abbrev pub reply_to : Service → Message → Option (List ℕ)
reply_to service message.Close = None
reply_to service (message.Refused xid reply) = Some (reply_record xid reply)
reply_to service (message.Mount xid call) = Some (reply_record xid (Success (mount.results service.tree.volume call)))
reply_to service (message.Nfs xid cred call) = Some (reply_record xid (Success (answer_bytes (answer_to service cred call))))

-- the tree after it: a call of NFS leads to that of its procedure
abbrev pub tree_after_message : Service → Message → Tree
tree_after_message service (message.Nfs xid cred call) = (procedure service.tree service.epoch cred call service.moment).tree
tree_after_message service _ = service.tree

-- ---- want of memory

-- nothing is told of an object before and after
abbrev pub untold : WccData
untold = record { before = None; after = None }

-- a refusal with this status that tells nothing besides
abbrev pub bare : {A : Type 0} → NfsStatus → A → Refused A
bare status attributes = record { status = status; attributes = attributes }

-- an answer of each procedure, in the order of their numbers, that has this status and leaves the attributes out. NULL has no status
abbrev pub bare_answers : NfsStatus → List Answer
bare_answers status =
    Null ∷
    GetAttr (Err status) ∷
    SetAttr (Err (bare status untold)) ∷
    Lookup (Err (bare status None)) ∷
    Access (Err (bare status None)) ∷
    ReadLink (Err (bare status None)) ∷
    Read (Err (bare status None)) ∷
    Write (Err (bare status untold)) ∷
    Create (Err (bare status untold)) ∷
    Mkdir (Err (bare status untold)) ∷
    Symlink (Err (bare status untold)) ∷
    Mknod (bare status untold) ∷
    Remove (Err (bare status untold)) ∷
    Rmdir (Err (bare status untold)) ∷
    Rename (Err (bare status (record { from = untold; to = untold }))) ∷
    Link (Err (bare status (record { file = None; directory = untold }))) ∷
    ReadDir (Err (bare status None)) ∷
    ReadDirPlus (Err (bare status None)) ∷
    FsStat (Err (bare status None)) ∷
    FsInfo (Err (bare status None)) ∷
    PathConf (Err (bare status None)) ∷
    Commit (Err (bare status untold)) ∷
    []

-- that of a procedure
abbrev pub bare_answer : ℕ → NfsStatus → Answer
bare_answer procedure status = slice_index_or (bare_answers status) procedure Null

-- the record of the reply to a call that is put off for want of room in the journal: JUKEBOX, without attributes
abbrev pub reply_put_off : Message → Option (List ℕ)
reply_put_off (message.Nfs xid cred call) = Some (reply_record xid (Success (answer_bytes (bare_answer (procedure_of call) Jukebox))))
reply_put_off _ = None

-- the reply to a call of a procedure for which there was no memory: SERVERFAULT, or SYSTEM_ERR where the results have no
-- status (RFC 5531 section 9)
abbrev pub reply_without_memory : ℕ → Reply
reply_without_memory procedure = cond (procedure == 0) SystemErr (Success (answer_bytes (bare_answer procedure ServerFault)))

-- whether a call takes memory: in the tree; or it is a change that is answered OK, and has an entry in the journal
abbrev pub takes_some : Service → Cred → Call → Bool
takes_some service cred call =
    let change : Change = record { cred = cred; moment = service.moment; call = call } in
    takes_memory service.tree cred call || is_done service.tree change

-- a call for which memory may be wanted: its arguments have a name, a text or data; or it takes memory
abbrev pub WantsMemory : Service → CallMessage → Type 0
WantsMemory service c =
    IsTrue (carries_text c.procedure) ⊎ ((call : Call) × (args_at c.procedure c.args ≡ Ok call) × IsTrue (takes_some service c.cred call))

-- A record is a call of NFS that wants memory, and it is answered that there was none.
pub record RunsOut (service : Service) (bytes : List ℕ) (reply : Option (List ℕ)) : Type 0 where
  pub call : CallMessage
  pub read : call_at bytes ≡ Ok call
  pub served : IsServed call
  pub wants : WantsMemory service call
  pub replied : reply ≡ Some (reply_record call.xid (reply_without_memory call.procedure))
