-- Laws of how what is kept goes on from record to record.
use Rattle.std.specs.Prelude.{cond}
use Rattle.std.proofs.Common.{◌≡◌, ℕ, ◌-◌, ◌≤◌, Bool, true, false, Option, List, refl, sym, ap, subst, arith}
use Rattle.std.proofs.lemmas.List.{length-take}
use Rattle.sky_nfs.specs.History.{History, history_length, last_tree}
use Rattle.sky_nfs.specs.declared.call.Change.{Change}
use Rattle.sky_record.specs.Stream.{Progress}
use Rattle.sky_recover.specs.Opening.{Found}
use Rattle.sky_script.specs.Frame as frame
use Rattle.sky_script.specs.Frame.{InFrame, OutFrame}
use Rattle.sky_world.specs.Meaning.{State, Scarce, Supply, Answered, by_meaning, put_off, out_of_memory, after_message, called_by, kept_after, leaves_stable, Restarts, as_known, untold, kept_of, kept_to, Step, StepProgress, StepRecords}
use Rattle.sky_sound.specs.Kept.{JournalState, Kept, emptied}
use Rattle.sky_world.specs.Laws.{IsMarked}
use Rattle.sky_world.specs.World.{IsRestart}
use Rattle.sky_world.specs.Message as message
use Rattle.sky_world.specs.Message.{Message, meaning_of}
use Rattle.sky_world.proofs.DiskLaws.{Extends, extends_same, extends_then, longer}
use Rattle.sky_world.proofs.HistoryLaws.{GoesOnIn, call_goes_on_in, progress_goes_on_in, records_go_on_in, step_goes_on_in, step_leads}

-- what goes on extends
pub extends_of : (k l : Kept) → GoesOnIn k l → Extends k l
extends_of k l p = record {
  before = ap (λ (h : History). h.before) p.0.1;
  tree = ap (λ (h : History). h.tree) p.0.1;
  more = p.0.0;
  changes = ap (λ (h : History). h.changes) p.0.1;
  size = p.1;
  completed = p.2;
}

pub step_extends : (mem : Supply) (old new : State) (f : InFrame) (outs : List OutFrame) → (IsRestart f → ⊥) → Step mem old f outs new → Extends old.kept new.kept
step_extends mem old new f outs plain step = extends_of old.kept new.kept (step_goes_on_in mem old new f outs plain step)

pub records_extend : (mem : Supply) (n : ℕ) (records : List (List ℕ)) (old : State) (outs : List OutFrame) (new : State) → StepRecords mem n records old outs new → Extends old.kept new.kept
records_extend mem n records old outs new steps = extends_of old.kept new.kept (records_go_on_in mem n records old outs new steps)

pub progress_extends : (mem : Supply) (n : ℕ) (progress : Progress) (old : State) (outs : List OutFrame) (new : State) → StepProgress n progress old outs new → Extends old.kept new.kept
progress_extends mem n progress old outs new step = extends_of old.kept new.kept (progress_goes_on_in mem n progress old outs new step)

-- it extends, and the mark does not fall
abbrev pub Rises : Kept → Kept → Type 0
Rises kept later = Extends kept later × (kept.mark ≤ later.mark)

cond_most : (b : Bool) (m x : ℕ) → m ≤ x → m ≤ cond b x m
cond_most true m x le = le
cond_most false m x le = omega arith

call_rises : (kept : Kept) (change : Change) → kept.mark ≤ history_length kept.history → Rises kept (kept_after kept change)
call_rises kept change most =
    let x : Extends kept (kept_after kept change) = extends_of kept (kept_after kept change) (call_goes_on_in kept change) in
    (x, cond_most (leaves_stable (last_tree kept.history) change) kept.mark (history_length (kept_after kept change).history) (omega (arith, most, longer kept (kept_after kept change) x)))

pub rises_same : (kept : Kept) → Rises kept kept
rises_same kept = (extends_same kept, omega arith)

pub rises_then : (a b c : Kept) → Rises a b → Rises b c → Rises a c
rises_then a b c p q = (extends_then a b c p.0 q.0, omega (arith, p.1, q.1))

message_rises : (s : State) (m : Message) → s.kept.mark ≤ history_length s.kept.history → Rises s.kept (after_message s m)
message_rises s message.Close most = rises_same s.kept
message_rises s (message.Refused xid reply) most = rises_same s.kept
message_rises s (message.Mount xid call) most = rises_same s.kept
message_rises s (message.Nfs xid cred call) most = call_rises s.kept (called_by cred call s.moment) most

pub answer_rises : (s : State) (bytes : List ℕ) (reply : Option (List ℕ)) (after : Kept) → s.kept.mark ≤ history_length s.kept.history → Answered Scarce s bytes reply after → Rises s.kept after
answer_rises s bytes reply after most (by_meaning room e f) = subst (λ (k : Kept). Rises s.kept k) (sym f) (message_rises s (meaning_of bytes) most)
answer_rises s bytes reply after most (put_off full e f) = subst (λ (k : Kept). Rises s.kept k) (sym f) (rises_same s.kept)
answer_rises s bytes reply after most (out_of_memory scarce out f) = subst (λ (k : Kept). Rises s.kept k) (sym f) (rises_same s.kept)

-- ---- the mark

-- where the mark lies within the history it does so afterwards, and has not fallen
abbrev StaysMarked : Kept → Kept → Type 0
StaysMarked k l = IsMarked k → (k.mark ≤ l.mark) × IsMarked l

cond_least : (b : Bool) (m x : ℕ) → m ≤ x → cond b x m ≤ x
cond_least true m x le = omega arith
cond_least false m x le = le

cond_both : (b : Bool) (m k x : ℕ) → m ≤ k → cond b x m ≤ cond b x k
cond_both true m k x le = omega arith
cond_both false m k x le = le

call_marked : (kept : Kept) (change : Change) → StaysMarked kept (kept_after kept change)
call_marked kept change marked =
    let rises = call_rises kept change (omega (arith, marked.marked, marked.most)) in
    let longest = longer kept (kept_after kept change) rises.0 in
    let stable = leaves_stable (last_tree kept.history) change in
    let n : ℕ = history_length (kept_after kept change).history in
    let grows : kept.stored ≤ (kept_after kept change).stored = cond_most stable kept.stored n (omega (arith, marked.most, longest)) in (
      rises.1,
      record {
        begins = omega (arith, marked.begins, rises.0.before, rises.0.completed);
        completed = omega (arith, marked.completed, rises.0.completed, grows);
        least = omega (arith, marked.least, rises.1, rises.0.before);
        marked = cond_both stable kept.mark kept.stored n marked.marked;
        most = cond_least stable kept.stored n (omega (arith, marked.most, longest));
      },
    )

marked_same : (k l : Kept) → l ≡ k → StaysMarked k l
marked_same k l e marked = subst (λ (x : Kept). (k.mark ≤ x.mark) × IsMarked x) (sym e) (omega arith, marked)

marked_then : (k l m : Kept) → StaysMarked k l → StaysMarked l m → StaysMarked k m
marked_then k l m p q marked =
    let first = p marked in
    let second = q first.1 in
    (omega (arith, first.0, second.0), second.1)

message_marked : (s : State) (m : Message) → StaysMarked s.kept (after_message s m)
message_marked s message.Close = marked_same s.kept s.kept refl
message_marked s (message.Refused xid reply) = marked_same s.kept s.kept refl
message_marked s (message.Mount xid call) = marked_same s.kept s.kept refl
message_marked s (message.Nfs xid cred call) = call_marked s.kept (called_by cred call s.moment)

-- a frame that is no restart leaves the mark within the history, and does not let it fall
pub step_stays_marked : (mem : Supply) (old new : State) (f : InFrame) (outs : List OutFrame) → (IsRestart f → ⊥) → Step mem old f outs new → IsMarked old.kept → (old.kept.mark ≤ new.kept.mark) × IsMarked new.kept
step_stays_marked mem old new f outs plain step = step_leads StaysMarked marked_same marked_then message_marked mem old f outs new plain step

-- what was found is marked
pub found_marked : (found : Found) → IsMarked (kept_of found)
found_marked found = record { begins = omega arith; completed = omega arith; least = omega arith; marked = omega arith; most = omega arith }

-- and so is what is kept behind a restart that found the changes up to a number, among them those that are completed
to_marked : (kept : Kept) (n : ℕ) (j : JournalState) → kept.history.before ≤ kept.completed → kept.completed ≤ n → n ≤ history_length kept.history → IsMarked (kept_to n j kept)
to_marked kept n j begins least most = record {
  begins = begins;
  completed = least;
  least = omega (arith, begins, least);
  marked = omega arith;
  most = omega (arith, length-take (n - kept.history.before) kept.history.changes, most, begins, least);
}

restart_marked : (old : State) (n : ℕ) (j : JournalState) (outs : List OutFrame) (new : State) → Restarts old (kept_to n j old.kept) outs new → IsMarked (kept_to n j old.kept) → IsMarked new.kept
restart_marked old n j outs new (as_known told is said) marked = subst (λ (s : State). IsMarked s.kept) (sym is) marked
restart_marked old n j outs new (untold found not_told may is said) marked = subst (λ (s : State). IsMarked s.kept) (sym is) (found_marked found)

pub step_marked : (mem : Supply) (old new : State) (f : InFrame) (outs : List OutFrame) → Step mem old f outs new → IsMarked old.kept → IsMarked new.kept
step_marked mem old new (frame.Begin n) outs step marked = (step_stays_marked mem old new (frame.Begin n) outs (λ r. r) step marked).1
step_marked mem old new (frame.Bytes n payload) outs step marked = (step_stays_marked mem old new (frame.Bytes n payload) outs (λ r. r) step marked).1
step_marked mem old new (frame.Close n) outs step marked = (step_stays_marked mem old new (frame.Close n) outs (λ r. r) step marked).1
step_marked mem old new (frame.SetMoment at) outs step marked = (step_stays_marked mem old new (frame.SetMoment at) outs (λ r. r) step marked).1
step_marked mem old new frame.Stat outs step marked = (step_stays_marked mem old new frame.Stat outs (λ r. r) step marked).1
step_marked mem old new frame.Restart outs step marked =
    restart_marked old old.kept.stored old.kept.journal outs new step (to_marked old.kept old.kept.stored old.kept.journal marked.begins marked.completed marked.most)
step_marked mem old new frame.RestartWithoutJournal outs step marked =
    restart_marked old old.kept.completed (emptied old.kept.journal) outs new step (to_marked old.kept old.kept.completed (emptied old.kept.journal) marked.begins (omega arith) (omega (arith, marked.completed, marked.most)))
step_marked mem old new frame.End outs step marked = absurd step
