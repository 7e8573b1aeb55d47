-- Laws of the history, and of want of memory.
use Rattle.std.specs.Prelude.{cond}
use Rattle.std.proofs.Common.{◌≡◌, ℕ, zero, suc, ◌-◌, take, Bool, true, false, ◌&&◌, Option, Some, None, List, [], ◌∷◌, ◌++◌, length, inl, inr, refl, sym, ap, subst, ◌∙◌, append_assoc}
use Rattle.std.proofs.lemmas.List.{append-nil}
use Rattle.sky_base.specs.declared.cred.Cred.{Cred}
use Rattle.sky_base.specs.declared.moment.Moment.{Moment}
use Rattle.sky_nfs.specs.History.{History, IsLegalHistory, last_tree, tree_after_change, tree_after_changes, is_done, are_done}
use Rattle.sky_nfs.specs.Tree.{Tree}
use Rattle.sky_entry.specs.Entry.{entry_bytes}
use Rattle.sky_nfs.specs.declared.call.Call.{Call}
use Rattle.sky_nfs.specs.declared.call.Change.{Change}
use Rattle.sky_record.specs.Stream.{Progress, AtHeader, InFragment, Whole, TooLong}
use Rattle.sky_script.specs.Frame as frame
use Rattle.sky_script.specs.Frame.{InFrame, OutFrame}
use Rattle.sky_world.specs.Laws.{TellsOutOfMemory, NoneOutOfMemory, GoesOnFrom}
use Rattle.sky_world.specs.World.{IsRestart}
use Rattle.sky_world.specs.Meaning.{State, Session, Absent, Open, Closed, Supply, Ample, Scarce, Answered, by_meaning, put_off, out_of_memory, after_call, after_message, after_reply, called_by, kept_after, leaves_stable, length_after, service_of, session_at, with_change, with_kept, with_session, frame_for, Passes, Then, Closes, StepRecord, StepRecords, StepProgress, StepBytes, Restarts, as_known, untold, cut_to, kept_to, Step, Steps}
use Rattle.sky_sound.specs.Kept.{JournalState, Kept, emptied, stored_to, with_waiting}
use Rattle.sky_world.specs.Message as message
use Rattle.sky_world.specs.Message.{Message, meaning_of}
use Rattle.sky_world.specs.Service.{RunsOut}
use Rattle.sky_world.proofs.StepLaws.{open_or_not, of_open, of_closed, where_open, where_closed}

-- ---- a history goes on, and stays legal

-- a fact of what is kept before and after that a step can give
abbrev pub Leads : (Kept → Kept → Type 0) → (State → List OutFrame → State → Type 0) → Type 0
Leads R Does = (s : State) (outs : List OutFrame) (t : State) → Does s outs t → R s.kept t.kept

goes_on_same : (h k : History) → k ≡ h → GoesOnFrom h k
goes_on_same h k e = ([], e ∙ ap (λ (c : List Change). let x : History = record h { changes = c } in x) (sym (append-nil h.changes)))

goes_on_then : (h k l : History) → GoesOnFrom h k → GoesOnFrom k l → GoesOnFrom h l
goes_on_then h k l p q =
    (p.0 ++ q.0, q.1 ∙ ap (λ (x : History). let y : History = record x { changes = x.changes ++ q.0 } in y) p.1 ∙ ap (λ (c : List Change). let x : History = record h { changes = c } in x) (append_assoc h.changes p.0 q.0))

and_then : (a b c : Bool) → (a && b) ≡ true → (b ≡ true → c ≡ true) → (a && c) ≡ true
and_then true b c e f = f e
and_then false b c e f = absurd cc

-- changes that are done, and one more
done_then : (t : Tree) (changes : List Change) (change : Change) → are_done t changes ≡ true → is_done (tree_after_changes t changes) change ≡ true → are_done t (changes ++ change ∷ []) ≡ true
done_then t [] change all one = rw one refl
done_then t (c ∷ changes) change all one =
    let after : Tree = tree_after_change t c in
    and_then (is_done t c) (are_done after changes) (are_done after (changes ++ change ∷ [])) all (λ e. done_then after changes change e one)

legal_with : (h : History) (change : Change) → is_done (last_tree h) change ≡ true → IsLegalHistory h → IsLegalHistory (with_change h change)
legal_with h change done legal = record { valid = legal.valid; done = done_then h.tree h.changes change legal.done done }

-- the first of changes that are done are done
done_first : (t : Tree) (n : ℕ) (changes : List Change) → are_done t changes ≡ true → are_done t (take n changes) ≡ true
done_first t zero changes all = refl
done_first t (suc n) [] all = refl
done_first t (suc n) (c ∷ changes) all =
    let after : Tree = tree_after_change t c in
    and_then (is_done t c) (are_done after changes) (are_done after (take n changes)) all (λ e. done_first after n changes e)

-- a history that is cut stays legal
pub cut_legal : (n : ℕ) (h : History) → IsLegalHistory h → IsLegalHistory (cut_to n h)
cut_legal n h legal = record { valid = legal.valid; done = done_first h.tree (n - h.before) h.changes legal.done }

-- what becomes of a history by a call
module _ (h : History) (cred : Cred) (call : Call) (moment : Moment) where
  abbrev change : Change
  change = record { cred = cred; moment = moment; call = call }

  call_goes_on : GoesOnFrom h (after_call h cred call moment)
  call_goes_on = go (is_done (last_tree h) change) refl
    where
      go : (b : Bool) → is_done (last_tree h) change ≡ b → GoesOnFrom h (after_call h cred call moment)
      go true e = rw e (change ∷ [], refl)
      go false e = rw e (goes_on_same h h refl)

  pub call_legal : IsLegalHistory h → IsLegalHistory (after_call h cred call moment)
  call_legal legal = go (is_done (last_tree h) change) refl
    where
      go : (b : Bool) → is_done (last_tree h) change ≡ b → IsLegalHistory (after_call h cred call moment)
      go true e = rw e (legal_with h change e legal)
      go false e = rw e legal

-- the history goes on, in a journal with areas of the same size, and no more is completed
abbrev pub GoesOnIn : Kept → Kept → Type 0
GoesOnIn k l = GoesOnFrom k.history l.history × (l.journal.size ≡ k.journal.size) × (l.completed ≡ k.completed)

size_same : (done stable : Bool) (number entry : ℕ) (j : JournalState)
    → (let waits : JournalState = cond done (with_waiting entry j) j in let k : JournalState = cond stable (stored_to number waits) waits in k.size ≡ j.size)
size_same true true number entry j = refl
size_same true false number entry j = refl
size_same false true number entry j = refl
size_same false false number entry j = refl

pub call_goes_on_in : (kept : Kept) (change : Change) → GoesOnIn kept (kept_after kept change)
call_goes_on_in kept change = (
  call_goes_on kept.history change.cred change.call change.moment,
  size_same (is_done (last_tree kept.history) change) (leaves_stable (last_tree kept.history) change) (length_after kept change) (length (entry_bytes change)) kept.journal,
  refl,
)

kept_goes_on : (h k : Kept) → k ≡ h → GoesOnIn h k
kept_goes_on h k e = (goes_on_same h.history k.history (ap (λ (x : Kept). x.history) e), ap (λ (x : Kept). x.journal.size) e, ap (λ (x : Kept). x.completed) e)

kept_goes_then : (h k l : Kept) → GoesOnIn h k → GoesOnIn k l → GoesOnIn h l
kept_goes_then h k l p q = (goes_on_then h.history k.history l.history p.0 q.0, q.1 ∙ p.1, q.2 ∙ p.2)

message_goes_on : (s : State) (m : Message) → GoesOnIn s.kept (after_message s m)
message_goes_on s message.Close = kept_goes_on s.kept s.kept refl
message_goes_on s (message.Refused xid reply) = kept_goes_on s.kept s.kept refl
message_goes_on s (message.Mount xid call) = kept_goes_on s.kept s.kept refl
message_goes_on s (message.Nfs xid cred call) = call_goes_on_in s.kept (called_by cred call s.moment)

message_legal : (s : State) (m : Message) → IsLegalHistory s.kept.history → IsLegalHistory (after_message s m).history
message_legal s message.Close legal = legal
message_legal s (message.Refused xid reply) legal = legal
message_legal s (message.Mount xid call) legal = legal
message_legal s (message.Nfs xid cred call) legal = call_legal s.kept.history cred call s.moment legal

-- a fact that holds of each record holds of each frame
module _ (R : Kept → Kept → Type 0) (same : (h k : Kept) → k ≡ h → R h k) (both : (h k l : Kept) → R h k → R k l → R h l)
    (meant : (s : State) (m : Message) → R s.kept (after_message s m)) (mem : Supply) where
  answered_leads : (s : State) (bytes : List ℕ) (reply : Option (List ℕ)) (h : Kept) → Answered mem s bytes reply h → R s.kept h
  answered_leads s bytes reply h (by_meaning room e f) = subst (λ (x : Kept). R s.kept x) (sym f) (meant s (meaning_of bytes))
  answered_leads s bytes reply h (put_off full e f) = same s.kept h f
  answered_leads s bytes reply h (out_of_memory scarce out f) = same s.kept h f

  reply_stays : (n : ℕ) (reply : Option (List ℕ)) (s : State) → (after_reply n reply s).kept ≡ s.kept
  reply_stays n None s = refl
  reply_stays n (Some bytes) s = refl

  record_leads : (n : ℕ) (bytes : List ℕ) → Leads R (StepRecord mem n bytes)
  record_leads n bytes s outs t p =
      let is : t.kept ≡ p.after = ap (λ (x : State). x.kept) p.leads ∙ reply_stays n p.reply (with_kept s p.after) in
      subst (λ (x : Kept). R s.kept x) (sym is) (answered_leads s bytes p.reply p.after p.answered)

  passes_leads : Leads R Passes
  passes_leads s outs t p = same s.kept t.kept (ap (λ (x : State). x.kept) p.1)

  closes_leads : (n : ℕ) → Leads R (Closes n)
  closes_leads n s outs t p = same s.kept t.kept (ap (λ (x : State). x.kept) p.1)

  pub records_lead : (n : ℕ) (records : List (List ℕ)) → Leads R (StepRecords mem n records)
  records_lead n [] s outs t p = passes_leads s outs t p
  records_lead n (bytes ∷ records) s outs t p =
      let Both : State → List OutFrame → State → Type 0 = Then (StepRecord mem n bytes) (StepRecords mem n records) in
      elim (open_or_not n s) [
        | inl e ↦
            let d = of_open Both n s outs t e p in
            both s.kept d.0.kept t.kept (record_leads n bytes s d.1 d.0 d.3) (records_lead n records d.0 d.2 t d.4)
        | inr e ↦ passes_leads s outs t (of_closed Both n s outs t e p)
      ]

  pub progress_leads : (n : ℕ) (progress : Progress) → Leads R (StepProgress n progress)
  progress_leads n (AtHeader part) s outs t p = passes_leads s outs t p
  progress_leads n (InFragment last due) s outs t p = passes_leads s outs t p
  progress_leads n Whole s outs t p = passes_leads s outs t p
  progress_leads n TooLong s outs t p =
      elim (open_or_not n s) [
        | inl e ↦ closes_leads n s outs t (of_open (Closes n) n s outs t e p)
        | inr e ↦ passes_leads s outs t (of_closed (Closes n) n s outs t e p)
      ]

  bytes_lead : (x : Session) (n : ℕ) (payload : List ℕ) → Leads R (StepBytes mem x n payload)
  bytes_lead (Open stream) n payload s outs t p =
      let d = p.3 in
      both s.kept d.0.kept t.kept (records_lead n p.0 (with_session s n (Open (stream ++ payload))) d.1 d.0 d.3) (progress_leads n p.1.progress d.0 d.2 t d.4)
  bytes_lead Absent n payload s outs t p = passes_leads s outs t p
  bytes_lead Closed n payload s outs t p = passes_leads s outs t p

  pub step_leads : (s : State) (f : InFrame) (outs : List OutFrame) (t : State) → (IsRestart f → ⊥) → Step mem s f outs t → R s.kept t.kept
  step_leads s (frame.Begin n) outs t plain p = same s.kept t.kept (ap (λ (x : State). x.kept) p.1)
  step_leads s (frame.Bytes n payload) outs t plain p = bytes_lead (session_at s n) n payload s outs t p
  step_leads s (frame.Close n) outs t plain p = same s.kept t.kept (ap (λ (x : State). x.kept) p.1)
  step_leads s (frame.SetMoment at) outs t plain p = same s.kept t.kept (ap (λ (x : State). x.kept) p.1)
  step_leads s frame.Stat outs t plain p = same s.kept t.kept (ap (λ (x : State). x.kept) p.1)
  step_leads s frame.Restart outs t plain p = absurd (plain tt)
  step_leads s frame.RestartWithoutJournal outs t plain p = absurd (plain tt)
  step_leads s frame.End outs t plain p = absurd p

-- a history stays legal
abbrev StaysLegal : Kept → Kept → Type 0
StaysLegal h k = IsLegalHistory h.history → IsLegalHistory k.history

pub step_goes_on_in : (mem : Supply) (old new : State) (f : InFrame) (outs : List OutFrame) → (IsRestart f → ⊥) → Step mem old f outs new → GoesOnIn old.kept new.kept
step_goes_on_in mem old new f outs plain step = step_leads GoesOnIn kept_goes_on kept_goes_then message_goes_on mem old f outs new plain step

pub records_go_on_in : (mem : Supply) (n : ℕ) (records : List (List ℕ)) (old : State) (outs : List OutFrame) (new : State) → StepRecords mem n records old outs new → GoesOnIn old.kept new.kept
records_go_on_in mem n records old outs new steps = records_lead GoesOnIn kept_goes_on kept_goes_then message_goes_on mem n records old outs new steps

pub progress_goes_on_in : (mem : Supply) (n : ℕ) (progress : Progress) (old : State) (outs : List OutFrame) (new : State) → StepProgress n progress old outs new → GoesOnIn old.kept new.kept
progress_goes_on_in mem n progress old outs new step = progress_leads GoesOnIn kept_goes_on kept_goes_then message_goes_on mem n progress old outs new step

pub step_goes_on : (mem : Supply) (old new : State) (f : InFrame) (outs : List OutFrame) → (IsRestart f → ⊥) → Step mem old f outs new → GoesOnFrom old.kept.history new.kept.history
step_goes_on mem old new f outs plain step = (step_goes_on_in mem old new f outs plain step).0

legal_leads : (mem : Supply) (old : State) (f : InFrame) (outs : List OutFrame) (new : State) → (IsRestart f → ⊥) → Step mem old f outs new → IsLegalHistory old.kept.history → IsLegalHistory new.kept.history
legal_leads mem old f outs new plain step =
    step_leads StaysLegal (λ h k e legal. subst (λ (x : Kept). IsLegalHistory x.history) (sym e) legal) (λ h k l p q legal. q (p legal)) message_legal mem old f outs new plain step

-- the history that a restart finds is legal
restart_legal : (old : State) (n : ℕ) (j : JournalState) (outs : List OutFrame) (new : State) → Restarts old (kept_to n j old.kept) outs new → IsLegalHistory old.kept.history → IsLegalHistory new.kept.history
restart_legal old n j outs new (as_known told is said) legal = subst (λ (s : State). IsLegalHistory s.kept.history) (sym is) (cut_legal n old.kept.history legal)
restart_legal old n j outs new (untold found not_told may is said) legal = subst (λ (s : State). IsLegalHistory s.kept.history) (sym is) may.legal

pub step_legal : (mem : Supply) (old new : State) (f : InFrame) (outs : List OutFrame) → Step mem old f outs new → IsLegalHistory old.kept.history → IsLegalHistory new.kept.history
step_legal mem old new (frame.Begin n) outs step = legal_leads mem old (frame.Begin n) outs new (λ r. r) step
step_legal mem old new (frame.Bytes n payload) outs step = legal_leads mem old (frame.Bytes n payload) outs new (λ r. r) step
step_legal mem old new (frame.Close n) outs step = legal_leads mem old (frame.Close n) outs new (λ r. r) step
step_legal mem old new (frame.SetMoment at) outs step = legal_leads mem old (frame.SetMoment at) outs new (λ r. r) step
step_legal mem old new frame.Stat outs step = legal_leads mem old frame.Stat outs new (λ r. r) step
step_legal mem old new frame.Restart outs step = restart_legal old old.kept.stored old.kept.journal outs new step
step_legal mem old new frame.RestartWithoutJournal outs step = restart_legal old old.kept.completed (emptied old.kept.journal) outs new step
step_legal mem old new frame.End outs step = absurd step

-- ---- want of memory

-- where there is memory for every call, a step is one of those that there may be
abbrev May : (Supply → State → List OutFrame → State → Type 0) → Type 0
May Does = (s : State) (outs : List OutFrame) (t : State) → Does Ample s outs t → Does Scarce s outs t

-- and a step whose answers don't tell that there was none is one of them
abbrev Told : (Supply → State → List OutFrame → State → Type 0) → Type 0
Told Does = (s : State) (outs : List OutFrame) (t : State) → Does Scarce s outs t → NoneOutOfMemory outs → Does Ample s outs t

none_first : (xs ys : List OutFrame) → NoneOutOfMemory (xs ++ ys) → NoneOutOfMemory xs
none_first [] ys h = tt
none_first (x ∷ xs) ys h = (h.0, none_first xs ys h.1)

none_second : (xs ys : List OutFrame) → NoneOutOfMemory (xs ++ ys) → NoneOutOfMemory ys
none_second [] ys h = h
none_second (x ∷ xs) ys h = none_second xs ys h.1

-- those of the parts
none_parts : (outs xs ys : List OutFrame) → outs ≡ xs ++ ys → NoneOutOfMemory outs → NoneOutOfMemory xs × NoneOutOfMemory ys
none_parts outs xs ys e h = let k = subst NoneOutOfMemory e h in (none_first xs ys k, none_second xs ys k)

answer_may : (s : State) (bytes : List ℕ) (reply : Option (List ℕ)) (h : Kept) → Answered Ample s bytes reply h → Answered Scarce s bytes reply h
answer_may s bytes reply h (by_meaning room e f) = by_meaning room e f
answer_may s bytes reply h (put_off full e f) = put_off full e f
answer_may s bytes reply h (out_of_memory scarce out f) = out_of_memory refl out f

record_may : (n : ℕ) (bytes : List ℕ) → May (λ mem. StepRecord mem n bytes)
record_may n bytes s outs t p = record { reply = p.reply; after = p.after; answered = answer_may s bytes p.reply p.after p.answered; answers = p.answers; leads = p.leads }

records_may : (n : ℕ) (records : List (List ℕ)) → May (λ mem. StepRecords mem n records)
records_may n [] s outs t p = p
records_may n (bytes ∷ records) s outs t p =
    elim (open_or_not n s) [
      | inl e ↦
          let d = of_open (Then (StepRecord Ample n bytes) (StepRecords Ample n records)) n s outs t e p in
          where_open (Then (StepRecord Scarce n bytes) (StepRecords Scarce n records)) n s outs t e (d.0, d.1, d.2, record_may n bytes s d.1 d.0 d.3, records_may n records d.0 d.2 t d.4, d.5)
      | inr e ↦ where_closed (Then (StepRecord Scarce n bytes) (StepRecords Scarce n records)) n s outs t e (of_closed (Then (StepRecord Ample n bytes) (StepRecords Ample n records)) n s outs t e p)
    ]

bytes_may : (x : Session) (n : ℕ) (payload : List ℕ) → May (λ mem. StepBytes mem x n payload)
bytes_may (Open stream) n payload s outs t p =
    let d = p.3 in
    (p.0, p.1, p.2, (d.0, d.1, d.2, records_may n p.0 (with_session s n (Open (stream ++ payload))) d.1 d.0 d.3, d.4, d.5))
bytes_may Absent n payload s outs t p = p
bytes_may Closed n payload s outs t p = p

pub step_may : (s t : State) (f : InFrame) (outs : List OutFrame) → Step Ample s f outs t → Step Scarce s f outs t
step_may s t (frame.Begin n) outs p = p
step_may s t (frame.Bytes n payload) outs p = bytes_may (session_at s n) n payload s outs t p
step_may s t (frame.Close n) outs p = p
step_may s t (frame.SetMoment at) outs p = p
step_may s t frame.Stat outs p = p
step_may s t frame.Restart outs p = p
step_may s t frame.RestartWithoutJournal outs p = p
step_may s t frame.End outs p = absurd p

-- an answer that there was no memory is told
ran_out_told : (s : State) (bytes : List ℕ) (n : ℕ) (reply : Option (List ℕ)) → RunsOut (service_of s) bytes reply → TellsOutOfMemory (frame_for n reply)
ran_out_told s bytes n reply out = rw out.replied (out.call.xid, out.call.procedure, refl)

answer_told : (s : State) (bytes : List ℕ) (n : ℕ) (reply : Option (List ℕ)) (h : Kept) → Answered Scarce s bytes reply h → (TellsOutOfMemory (frame_for n reply) → ⊥) → Answered Ample s bytes reply h
answer_told s bytes n reply h (by_meaning room e f) none = by_meaning room e f
answer_told s bytes n reply h (put_off full e f) none = put_off full e f
answer_told s bytes n reply h (out_of_memory scarce out f) none = absurd (none (ran_out_told s bytes n reply out))

record_told : (n : ℕ) (bytes : List ℕ) → Told (λ mem. StepRecord mem n bytes)
record_told n bytes s outs t p none =
    let one = subst NoneOutOfMemory p.answers none in
    record { reply = p.reply; after = p.after; answered = answer_told s bytes n p.reply p.after p.answered one.0; answers = p.answers; leads = p.leads }

records_told : (n : ℕ) (records : List (List ℕ)) → Told (λ mem. StepRecords mem n records)
records_told n [] s outs t p none = p
records_told n (bytes ∷ records) s outs t p none =
    elim (open_or_not n s) [
      | inl e ↦
          let d = of_open (Then (StepRecord Scarce n bytes) (StepRecords Scarce n records)) n s outs t e p in
          let parts = none_parts outs d.1 d.2 d.5 none in
          where_open (Then (StepRecord Ample n bytes) (StepRecords Ample n records)) n s outs t e (d.0, d.1, d.2, record_told n bytes s d.1 d.0 d.3 parts.0, records_told n records d.0 d.2 t d.4 parts.1, d.5)
      | inr e ↦ where_closed (Then (StepRecord Ample n bytes) (StepRecords Ample n records)) n s outs t e (of_closed (Then (StepRecord Scarce n bytes) (StepRecords Scarce n records)) n s outs t e p)
    ]

bytes_told : (x : Session) (n : ℕ) (payload : List ℕ) → Told (λ mem. StepBytes mem x n payload)
bytes_told (Open stream) n payload s outs t p none =
    let d = p.3 in
    let parts = none_parts outs d.1 d.2 d.5 none in
    (p.0, p.1, p.2, (d.0, d.1, d.2, records_told n p.0 (with_session s n (Open (stream ++ payload))) d.1 d.0 d.3 parts.0, d.4, d.5))
bytes_told Absent n payload s outs t p none = p
bytes_told Closed n payload s outs t p none = p

pub step_told : (s t : State) (f : InFrame) (outs : List OutFrame) → Step Scarce s f outs t → NoneOutOfMemory outs → Step Ample s f outs t
step_told s t (frame.Begin n) outs p none = p
step_told s t (frame.Bytes n payload) outs p none = bytes_told (session_at s n) n payload s outs t p none
step_told s t (frame.Close n) outs p none = p
step_told s t (frame.SetMoment at) outs p none = p
step_told s t frame.Stat outs p none = p
step_told s t frame.Restart outs p none = p
step_told s t frame.RestartWithoutJournal outs p none = p
step_told s t frame.End outs p none = absurd p

pub steps_told : (s : State) (fs : List InFrame) (outs : List OutFrame) (t : State) → Steps Scarce s fs outs t → NoneOutOfMemory outs → Steps Ample s fs outs t
steps_told s [] outs t p none = p
steps_told s (f ∷ fs) outs t p none =
    let parts = none_parts outs p.1 p.2 p.5 none in
    (p.0, p.1, p.2, step_told s p.0 f p.1 p.3 parts.0, steps_told p.0 fs p.2 t p.4 parts.1, p.5)
