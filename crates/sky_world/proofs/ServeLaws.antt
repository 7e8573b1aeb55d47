-- Laws of what answers a record: by what it means, or put off, or since there was no memory.
use Rattle.std.proofs.Common.{◌≡◌, ℕ, ◌≤◌, IsTrue, Option, Some, Result, Ok, Err, IfOk, OnErr, OnOk, List, ◌++◌, length, inl, inr, refl, sym, ap, subst, ◌∙◌, arith}
use Rattle.std.proofs.Math.Seq.{drop-append_seam}
use Rattle.std.proofs.lemmas.List.{length-append}
use Rattle.sky_args.specs.Args.{args_bytes}
use Rattle.sky_args.specs.Reading.{args_at, carries_text}
use Rattle.sky_args.proofs.ArgsLaws.{args_sound}
use Rattle.sky_args.proofs.SizeLaws.{accepted_long}
use Rattle.sky_base.specs.declared.cred.Cred.{Cred}
use Rattle.sky_entry.proofs.Sizes.{length-entry_bytes, length-body_bytes}
use Rattle.sky_mount.specs.Mount as mount
use Rattle.sky_mount.specs.Values.{call_of}
use Rattle.sky_nfs.specs.Tree.{Tree}
use Rattle.sky_nfs.specs.declared.call.Call.{Call}
use Rattle.sky_nfs.specs.declared.call.Change.{Change}
use Rattle.sky_nfs.specs.declared.status.NfsStatus.TheVariants.{Jukebox}
use Rattle.sky_outside.specs.declared.storage.Storage.{Ghosts}
use Rattle.sky_results.specs.Answers.{answer_bytes}
use Rattle.sky_rpc.specs.Call.{CallMessage, IsCallMessage, IsCred, OpaqueAuth, auth_none, auth_sys}
use Rattle.sky_rpc.specs.Reading.{call_at}
use Rattle.sky_rpc.specs.Reply.{Success, reply_record}
use Rattle.sky_rpc.proofs.Calls.{found}
use Rattle.sky_world.specs.declared.message.Message.{Message}
use Rattle.sky_world.specs.declared.message.Message.TheVariants.{Close, Refused, Mount, Nfs, OutOfMemory}
use Rattle.sky_xdr.specs.Encoding.{AreBytes}
use Rattle.sky_xdr.proofs.Numbers.{AreBytes-drop}
use Rattle.sky_world.specs.Disk.{WentOn}
use Rattle.sky_world.specs.Feeding.{Answers, AnswersMessage, Called, Fails, FailsMessage, IsSmall, Rests, by_procedure, without_room, without_memory}
use Rattle.sky_world.specs.Meaning as meaning
use Rattle.sky_world.specs.Meaning.{State, Scarce, Answered, after_message, called_by, puts_off, service_of, with_kept}
use Rattle.sky_sound.specs.Kept.{Kept}
use Rattle.sky_world.specs.Message as spec
use Rattle.sky_world.specs.Message.{IsServed, meaning_of, message_of, called_program, called_nfs}
use Rattle.sky_world.specs.Service.{bare_answer, reply_put_off, reply_to, takes_some}
use Rattle.sky_world.specs.Values.{IsCalled, IsOfRecord}
use Rattle.sky_world.specs.World.{ServiceView, ServesFor}
use Rattle.sky_world.proofs.DiskLaws.{went_nowhere}

-- a call of NFS that is served is called by its arguments
program_called : (c : CallMessage) → IsServed c → called_program c ≡ called_nfs c.xid c.cred (args_at c.procedure c.args)
program_called c served = rw (served.program, served.version) refl

-- a record that is a call of NFS means it
pub meant_call : (bytes : List ℕ) (c : CallMessage) (xid procedure : ℕ) (cred : Cred) (nfs : Call) → call_at bytes ≡ Ok c → IsCalled c xid procedure → args_at procedure c.args ≡ Ok nfs → c.cred ≡ cred
    → meaning_of bytes ≡ spec.Nfs xid cred nfs
unfolding meaning_of
meant_call bytes c xid procedure cred nfs read called args same =
    ap message_of read ∙ program_called c called.served ∙ rw (called.number, called.same, args, same) refl

-- ---- the bytes of a call

-- bytes that are read as a call are one
read_message : (bytes : List ℕ) (c : CallMessage) → AreBytes bytes → call_at bytes ≡ Ok c → IsCallMessage bytes c
read_message bytes c fits read = let f = found bytes fits in rw read at f

behind_fit : (xs ys : List ℕ) → AreBytes (xs ++ ys) → AreBytes ys
behind_fit xs ys fits = subst AreBytes (drop-append_seam xs ys) (AreBytes-drop (length xs) (xs ++ ys) fits)

-- its arguments are a part of them
args_are : (bytes : List ℕ) (c : CallMessage) → (m : IsCallMessage bytes c) → bytes ≡ m.head ++ c.args
args_are bytes c m = m.encoded ∙ ap (λ (x : CallMessage). m.head ++ x.args) (sym m.says)

args_fit : (bytes : List ℕ) (c : CallMessage) → AreBytes bytes → call_at bytes ≡ Ok c → AreBytes c.args
args_fit bytes c fits read =
    let m = read_message bytes c fits read in
    behind_fit m.head c.args (subst AreBytes (args_are bytes c m) fits)

args_short : (bytes : List ℕ) (c : CallMessage) → IsCallMessage bytes c → length c.args ≤ length bytes
args_short bytes c m = let e : length bytes ≡ length (m.head ++ c.args) = ap (λ (x : List ℕ). length x) (args_are bytes c m) in omega (arith, e, length-append m.head c.args)

-- it has few further groups
few_gids : (auth : OpaqueAuth) (cred : Cred) → IsCred auth cred → length cred.gids ≤ 16
few_gids auth cred (auth_none flavor is) = rw is (omega arith)
few_gids auth cred (auth_sys flavor is) = is.gids_within

gids_few : (bytes : List ℕ) (c : CallMessage) → IsCallMessage bytes c → length c.cred.gids ≤ 16
gids_few bytes c m = subst (λ (x : CallMessage). length x.cred.gids ≤ 16) (sym m.says) (few_gids m.header.cred m.cred m.caller)

-- ---- the answer to it

-- the reply to a call that is put off, by its arguments
put_off_reply : (bytes : List ℕ) (c : CallMessage) (xid number : ℕ) (cred : Cred) (nfs : Call) → AreBytes c.args → call_at bytes ≡ Ok c → IsCalled c xid number → args_at number c.args ≡ Ok nfs → c.cred ≡ cred
    → reply_put_off (meaning_of bytes) ≡ Some (reply_record xid (Success (answer_bytes (bare_answer number Jukebox))))
put_off_reply bytes c xid number cred nfs fits read called args same =
    ap reply_put_off (meant_call bytes c xid number cred nfs read called args same) ∙ ap (λ (n : ℕ). Some (reply_record xid (Success (answer_bytes (bare_answer n Jukebox))))) (args_sound number c.args nfs fits args).0

module _ {S : Type 0} (g : Ghosts S) where
  -- what a call of NFS is answered in a state, its record is answered
  answered_call : (state : State) (bytes text : List ℕ) (reply : Option (List ℕ)) (after : Kept) (c : CallMessage) (xid number : ℕ) (cred : Cred) (nfs : Call) → AreBytes c.args → call_at bytes ≡ Ok c → IsCalled c xid number
      → args_at number c.args ≡ Ok nfs → c.cred ≡ cred → reply ≡ Some text → Called state xid number cred nfs text after → Answered Scarce state bytes reply after
  answered_call state bytes text reply after c xid number cred nfs fits read called args same is (by_procedure room e f) =
      let m = meant_call bytes c xid number cred nfs read called args same in
      meaning.by_meaning (ap (puts_off state) m ∙ room) (is ∙ ap Some e ∙ sym (ap (reply_to (service_of state)) m)) (f ∙ sym (ap (after_message state) m))
  answered_call state bytes text reply after c xid number cred nfs fits read called args same is (without_room full e f) =
      let m = meant_call bytes c xid number cred nfs read called args same in
      meaning.put_off (ap (puts_off state) m ∙ full) (is ∙ ap Some e ∙ sym (put_off_reply bytes c xid number cred nfs fits read called args same)) f
  answered_call state bytes text reply after c xid number cred nfs fits read called args same is (without_memory takes e f) =
      meaning.out_of_memory refl (record {
        call = c;
        read = read;
        served = called.served;
        wants = inr (nfs, subst (λ (p : ℕ). args_at p c.args ≡ Ok nfs) (sym called.same) args, subst (λ (x : Cred). IsTrue (takes_some (service_of state) x nfs)) (sym same) takes);
        replied = is ∙ ap Some e ∙ rw (called.number, called.same) refl;
      }) f

  -- where nothing happened, and the meaning is no call of NFS
  rested : (old new : ServiceView) (s t : S) (bytes : List ℕ) (reply : Option (List ℕ)) → Rests old s new t
      → ((state : State) → ServesFor g old s state → Answered Scarce state bytes reply state.kept) → Answers g old s bytes reply new t
  rested old new s t bytes reply rests answered = record {
    each = λ state serves. (
      state.kept,
      answered state serves,
      subst (λ (v : ServiceView). ServesFor g v t (with_kept state state.kept)) (sym rests.0) (subst (λ (d : S). ServesFor g old d (with_kept state state.kept)) (sym rests.1)
          (record { epoch = serves.epoch; tree = serves.tree; moment = serves.moment; invariant = serves.invariant })),
      subst (λ (d : S). WentOn g s d state.kept.mark state.kept) (sym rests.1) (went_nowhere g state.epoch state.kept old.journal s serves.invariant),
    );
  }

  -- what answers a message answers its record
  pub answers_record : (m : Message) (bytes : List ℕ) (reply : Option (List ℕ)) (old new : ServiceView) (s t : S) → AreBytes bytes → IsOfRecord m bytes → AnswersMessage g old s m reply new t → Answers g old s bytes reply new t
  answers_record Close bytes reply old new s t fits is answered =
      rested old new s t bytes reply answered.1 (λ state serves. meaning.by_meaning (ap (puts_off state) is) (answered.0 ∙ sym (ap (reply_to (service_of state)) is)) (sym (ap (after_message state) is)))
  answers_record (Refused xid why) bytes reply old new s t fits is answered =
      rested old new s t bytes reply answered.1 (λ state serves. meaning.by_meaning (ap (puts_off state) is.0) (answered.0 ∙ sym (ap (reply_to (service_of state)) is.0)) (sym (ap (after_message state) is.0)))
  answers_record (Mount xid call) bytes reply old new s t fits is answered =
      rested old new s t bytes reply answered.1 (λ state serves.
      meaning.by_meaning (ap (puts_off state) is) (answered.0 ∙ ap (λ (x : Tree). Some (reply_record xid (Success (mount.results x.volume (call_of call))))) serves.tree ∙ sym (ap (reply_to (service_of state)) is)) (sym (ap (after_message state) is)))
  answers_record (Nfs xid number cred nfs) bytes reply old new s t fits is answered = record {
    each = λ state serves.
        let a = answered.2 state serves in
        (a.0, answered_call state bytes answered.0 reply a.0 is.0 xid number cred nfs (args_fit bytes is.0 fits is.1) is.1 is.2 is.3 is.4 answered.1 a.1, a.2, a.3);
  }
  answers_record (OutOfMemory xid number) bytes reply old new s t fits is answered =
      rested old new s t bytes reply answered.1 (λ state serves.
      meaning.out_of_memory refl (record {
        call = is.0;
        read = is.1;
        served = is.2.served;
        wants = inl (subst (λ (p : ℕ). IsTrue (carries_text p)) (sym is.2.same) is.3);
        replied = answered.0 ∙ rw (is.2.number, is.2.same) refl;
      }) refl)

  -- and where a call of the disk failed
  pub fails_record : (m : Message) (bytes : List ℕ) (old : ServiceView) (s t : S) → AreBytes bytes → IsOfRecord m bytes → FailsMessage g old s m t → Fails g old s bytes t
  fails_record Close bytes old s t fits is fails = absurd fails
  fails_record (Refused xid why) bytes old s t fits is fails = absurd fails
  fails_record (Mount xid call) bytes old s t fits is fails = absurd fails
  fails_record (OutOfMemory xid number) bytes old s t fits is fails = absurd fails
  fails_record (Nfs xid number cred nfs) bytes old s t fits is fails = record {
    each = λ state serves.
        let f = fails state serves in
        (f.0, f.1, answered_call state bytes f.0 (Some f.0) f.1 is.0 xid number cred nfs (args_fit bytes is.0 fits is.1) is.1 is.2 is.3 is.4 refl f.2, f.3);
  }

-- the entry of a call in a record of a message has not too many bytes
pub small_of : (m : Message) (bytes : List ℕ) → AreBytes bytes → length bytes ≤ 131072 → IsOfRecord m bytes → IsSmall m
small_of Close bytes fits short is = tt
small_of (Refused xid why) bytes fits short is = tt
small_of (Mount xid call) bytes fits short is = tt
small_of (OutOfMemory xid number) bytes fits short is = tt
small_of (Nfs xid number cred nfs) bytes fits short is = λ moment.
    let c = is.0 in
    let whole = read_message bytes c fits is.1 in
    let args = args_sound number c.args nfs (args_fit bytes c fits is.1) is.3 in
    let as_long : length (args_bytes nfs) ≡ length c.args = sym (accepted_long c.args nfs args.1) in
    let change : Change = called_by cred nfs moment in
    let few : length c.cred.gids ≤ 16 = gids_few bytes c whole in
    let same : length c.cred.gids ≡ length cred.gids = ap (λ (x : Cred). length x.gids) is.4 in
    omega (arith, length-entry_bytes change, length-body_bytes change, as_long, args_short bytes c whole, short, few, same)

-- ---- results

pub ok_map : {X E : Type 0} (r : Result X E) (P Q : X → Type 0) → ((x : X) → P x → Q x) → IfOk r P → IfOk r Q
ok_map (Ok x) P Q f p = f x p
ok_map (Err e) P Q f p = tt

pub err_map : {X E P Q : Type 0} (r : Result X E) → (P → Q) → OnErr r P → OnErr r Q
err_map (Ok x) f p = tt
err_map (Err e) f p = f p

pub ok_then : {X E P Q : Type 0} (r : Result X E) → (P → Q) → OnOk r P → OnOk r Q
ok_then (Ok x) f p = f p
ok_then (Err e) f p = tt
