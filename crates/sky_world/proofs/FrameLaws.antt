-- Laws of frames: each but the end has a step where streams and payloads are of bytes, and only one; so do lists of frames.
use Rattle.std.proofs.Common.{◌≡◌, ◌+◌, ◌<◌, ℕ, suc, Bool, true, Option, Some, None, List, [], ◌∷◌, ◌++◌, inl, inr, refl, sym, ap, subst, ◌∙◌}
use Rattle.std.proofs.lemmas.Bool.{true≢false}
use Rattle.std.specs.List.{AllByRecursion}
use Rattle.sky_record.specs.Stream.{Progress, AtHeader, InFragment, Whole, TooLong, Received}
use Rattle.sky_record.proofs.Reading.{completes_some, completes_one}
use Rattle.sky_script.specs.Frame as frame
use Rattle.sky_script.specs.Frame.{InFrame, OutFrame, Counted, session_count}
use Rattle.sky_xdr.specs.Encoding.{AreBytes}
use Rattle.sky_xdr.proofs.Numbers.{AreBytes-append, AreBytes-zeros}
use Rattle.sky_world.specs.Bytes.{HasBytes, HasByteStreams, CarriesBytes}
use Rattle.sky_recover.specs.Opening.{Found}
use Rattle.sky_world.specs.Laws.{IsForeseen}
use Rattle.sky_sound.specs.Kept.{Kept}
use Rattle.sky_world.specs.Meaning.{State, Session, Absent, Open, Closed, Supply, Ample, start, stats_of, opened_state, opening_of, Restarts, as_known, untold, given_up, reopened, after_reply, session_at, with_kept, with_session, ended, Then, Closes, StepRecord, StepRecords, StepProgress, StepBytes, Step, Steps, IsStep}
use Rattle.sky_world.proofs.SiteLaws.{step_tells}
use Rattle.sky_world.proofs.SessionLaws.{all-replicate, all-set, all-at}
use Rattle.sky_world.proofs.StepLaws.{open_or_not, of_open, of_closed, records_some, progress_some, IsOne, both, passes_one, then_one, records_one, progress_one}

-- ---- streams stay streams of bytes

Keeps : (State → List OutFrame → State → Type 0) → Type 0
Keeps Does = (s : State) (outs : List OutFrame) (new : State) → Does s outs new → HasByteStreams s → HasByteStreams new

stays : (s new : State) → new ≡ s → HasByteStreams s → HasByteStreams new
stays s new e h = subst HasByteStreams (sym e) h

sets : (s new : State) (n : ℕ) (x : Session) → new ≡ with_session s n x → HasBytes x → HasByteStreams s → HasByteStreams new
sets s new n x e has h = subst HasByteStreams (sym e) (all-set HasBytes s.sessions n x h has)

reply_keeps : (n : ℕ) (reply : Option (List ℕ)) (s : State) → HasByteStreams s → HasByteStreams (after_reply n reply s)
reply_keeps n None s h = all-set HasBytes s.sessions n Closed h tt
reply_keeps n (Some bytes) s h = h

record_keeps : (mem : Supply) (n : ℕ) (bytes : List ℕ) → Keeps (StepRecord mem n bytes)
unfolding Keeps
record_keeps mem n bytes s outs new does h = stays (after_reply n does.reply (with_kept s does.after)) new does.leads (reply_keeps n does.reply (with_kept s does.after) h)

records_keep : (mem : Supply) (n : ℕ) (records : List (List ℕ)) → Keeps (StepRecords mem n records)
unfolding Keeps
records_keep mem n [] s outs new does h = stays s new does.1 h
records_keep mem n (bytes ∷ records) s outs new does h =
    let Both : State → List OutFrame → State → Type 0 = Then (StepRecord mem n bytes) (StepRecords mem n records) in
    elim (open_or_not n s) [
      | inl e ↦ let k = of_open Both n s outs new e does in records_keep mem n records k.0 k.2 new k.4 (record_keeps mem n bytes s k.1 k.0 k.3 h)
      | inr e ↦ stays s new (of_closed Both n s outs new e does).1 h
    ]

progress_keeps : (n : ℕ) (progress : Progress) → Keeps (StepProgress n progress)
unfolding Keeps
progress_keeps n (AtHeader part) s outs new does h = stays s new does.1 h
progress_keeps n (InFragment last due) s outs new does h = stays s new does.1 h
progress_keeps n Whole s outs new does h = stays s new does.1 h
progress_keeps n TooLong s outs new does h =
    elim (open_or_not n s) [
      | inl e ↦ sets s new n Closed (of_open (Closes n) n s outs new e does).1 tt h
      | inr e ↦ stays s new (of_closed (Closes n) n s outs new e does).1 h
    ]

-- ---- each frame has a step

-- bytes are bytes one by one
pub each_byte : (xs : List ℕ) → AreBytes xs → AllByRecursion (λ (n : ℕ). n < 256) xs
each_byte [] h = tt
each_byte (x ∷ xs) h = (h 0, each_byte xs (λ i. h (suc i)))

abbrev HasStep : (State → List OutFrame → State → Type 0) → State → Type 0
HasStep Does s = (outs : List OutFrame) × (new : State) × HasByteStreams new × Does s outs new

bytes_some : (mem : Supply) (x : Session) (n : ℕ) (payload : List ℕ) (s : State) → HasBytes x → AreBytes payload → HasByteStreams s → HasStep (StepBytes mem x n payload) s
unfolding Keeps
bytes_some mem (Open stream) n payload s has more h =
    let c = completes_some stream payload (each_byte stream has) (each_byte payload more) in
    let fed : State = with_session s n (Open (stream ++ payload)) in
    let fed_has : HasByteStreams fed = all-set HasBytes s.sessions n (Open (stream ++ payload)) h (AreBytes-append stream payload has more) in
    let first = records_some mem n c.0 fed in
    let second = progress_some n c.1.progress first.1 in
    let mid_has = records_keep mem n c.0 fed first.0 first.1 first.2 fed_has in
    (first.0 ++ second.0, second.1, progress_keeps n c.1.progress first.1 second.0 second.1 second.2 mid_has, (c.0, c.1, c.2, (first.1, first.0, second.0, first.2, second.2, refl)))
bytes_some mem Absent n payload s has more h = ([], s, h, (refl, refl))
bytes_some mem Closed n payload s has more h = ([], s, h, (refl, refl))

ended_has : (x : Session) → HasBytes x → HasBytes (ended x)
ended_has Absent h = tt
ended_has (Open stream) h = tt
ended_has Closed h = tt

-- at a restart no session has begun
reopens_some : (known : Kept) (s : State) → s.told ≡ true → HasStep (λ (x : State). Restarts x known) s
reopens_some known s told =
    let next : State = opened_state s.told (s.epoch + 1) s.moment known in
    (opening_of next ∷ [], next, all-replicate HasBytes session_count Absent tt, as_known told refl refl)

pub step_some : (mem : Supply) (old : State) (f : InFrame) → HasByteStreams old → CarriesBytes f → IsForeseen old.told f → IsStep f → (outs : List OutFrame) × (new : State) × HasByteStreams new × Step mem old f outs new
step_some mem old (frame.Begin n) h carries seen is = ([], with_session old n (Open []), all-set HasBytes old.sessions n (Open []) h (AreBytes-zeros 0), (refl, refl))
step_some mem old (frame.Bytes n payload) h carries seen is = bytes_some mem (session_at old n) n payload old (all-at HasBytes old.sessions n Absent h tt) carries h
step_some mem old (frame.Close n) h carries seen is =
    let x : Session = ended (session_at old n) in
    ([], with_session old n x, all-set HasBytes old.sessions n x h (ended_has (session_at old n) (all-at HasBytes old.sessions n Absent h tt)), (refl, refl))
step_some mem old (frame.SetMoment at) h carries seen is = ([], record old { moment = at }, h, (refl, refl))
step_some mem old frame.Stat h carries seen is = (Counted (stats_of old) ∷ [], old, h, (refl, refl))
step_some mem old frame.Restart h carries seen is = reopens_some (reopened old.kept) old seen
step_some mem old frame.RestartWithoutJournal h carries seen is = reopens_some (given_up old.kept) old seen
step_some mem old frame.End h carries seen is = absurd is

-- ---- and only one

bytes_one : (x : Session) (n : ℕ) (payload : List ℕ) → IsOne (StepBytes Ample x n payload)
bytes_one (Open stream) n payload s a b t u p q =
    let c = completes_one stream payload p.0 q.0 p.1 q.1 p.2 q.2 in
    let fed : State = with_session s n (Open (stream ++ payload)) in
    let Does : List (List ℕ) → Progress → State → List OutFrame → State → Type 0 = λ records progress. Then (StepRecords Ample n records) (StepProgress n progress) in
    let same : Does q.0 p.1.progress fed a t = subst (λ (records : List (List ℕ)). Does records p.1.progress fed a t) c.0 p.3 in
    let both_same : Does q.0 q.1.progress fed a t = subst (λ (end : Received). Does q.0 end.progress fed a t) c.1 same in
    then_one (StepRecords Ample n q.0) (StepProgress n q.1.progress) (records_one n q.0) (progress_one n q.1.progress) fed a b t u both_same q.3
bytes_one Absent n payload s a b t u p q = passes_one s a b t u p q
bytes_one Closed n payload s a b t u p q = passes_one s a b t u p q

-- a restart of a site that tells what it has finds one thing
restarts_one : (known : Kept) (s : State) (a b : List OutFrame) (t u : State) → s.told ≡ true → Restarts s known a t → Restarts s known b u → (a ≡ b) × (t ≡ u)
restarts_one known s a b t u told (as_known x p said) (as_known y q too) =
    let same : t ≡ u = p ∙ sym q in
    (said ∙ ap (λ (n : State). opening_of n ∷ []) same ∙ sym too, same)
restarts_one known s a b t u told (untold found silent may p said) other = absurd (true≢false (sym told ∙ silent))
restarts_one known s a b t u told (as_known x p said) (untold found silent may q too) = absurd (true≢false (sym told ∙ silent))

pub step_one : (old : State) (f : InFrame) (outs others : List OutFrame) (new other : State) → IsForeseen old.told f → Step Ample old f outs new → Step Ample old f others other → (outs ≡ others) × (new ≡ other)
step_one old (frame.Begin n) a b t u seen p q = both old a b [] t u (with_session old n (Open [])) p q
step_one old (frame.Bytes n payload) a b t u seen p q = bytes_one (session_at old n) n payload old a b t u p q
step_one old (frame.Close n) a b t u seen p q = both old a b [] t u (with_session old n (ended (session_at old n))) p q
step_one old (frame.SetMoment at) a b t u seen p q = both old a b [] t u (record old { moment = at }) p q
step_one old frame.Stat a b t u seen p q = both old a b (Counted (stats_of old) ∷ []) t u old p q
step_one old frame.Restart a b t u seen p q = restarts_one (reopened old.kept) old a b t u seen p q
step_one old frame.RestartWithoutJournal a b t u seen p q = restarts_one (given_up old.kept) old a b t u seen p q
step_one old frame.End a b t u seen p q = absurd p

-- ---- frames, one after the other

-- what a frame leads to is known beforehand
seen_at : (told now : Bool) (f : InFrame) → now ≡ told → IsForeseen told f → IsForeseen now f
seen_at told now f e seen = subst (λ (b : Bool). IsForeseen b f) (sym e) seen

steps_some : (told : Bool) (mem : Supply) (s : State) (frames : List InFrame) → s.told ≡ told → HasByteStreams s → AllByRecursion (λ f. IsStep f × CarriesBytes f × IsForeseen told f) frames
    → (outs : List OutFrame) × (last : State) × Steps mem s frames outs last
steps_some told mem s [] same h all = ([], s, (refl, refl))
steps_some told mem s (f ∷ frames) same h all =
    let first = step_some mem s f h all.0.1 (seen_at told s.told f same all.0.2) all.0.0 in
    let rest = steps_some told mem first.1 frames (step_tells mem s first.1 f first.0 first.3 ∙ same) first.2 all.1 in
    (first.0 ++ rest.0, rest.1, (first.1, first.0, rest.0, first.3, rest.2, refl))

pub frames_some : (told : Bool) (found : Found) (mem : Supply) (frames : List InFrame) → AllByRecursion (λ f. IsStep f × CarriesBytes f × IsForeseen told f) frames
    → (outs : List OutFrame) × (last : State) × Steps mem (start told found) frames outs last
frames_some told found mem frames all = steps_some told mem (start told found) frames refl (all-replicate HasBytes session_count Absent tt) all

pub frames_one : (told : Bool) (s : State) (frames : List InFrame) (outs others : List OutFrame) (last other : State) → s.told ≡ told → AllByRecursion (IsForeseen told) frames
    → Steps Ample s frames outs last → Steps Ample s frames others other → (outs ≡ others) × (last ≡ other)
frames_one told s [] a b t u same seen p q = passes_one s a b t u p q
frames_one told s (f ∷ frames) a b t u same seen p q =
    let h = step_one s f p.1 q.1 p.0 q.0 (seen_at told s.told f same seen.0) p.3 q.3 in
    let moved : Steps Ample p.0 frames q.2 u = subst (λ (x : State). Steps Ample x frames q.2 u) (sym h.1) q.4 in
    let k = frames_one told p.0 frames p.2 q.2 t u (step_tells Ample s p.0 f p.1 p.3 ∙ same) seen.1 p.4 moved in
    (p.5 ∙ ap (λ (x : List OutFrame). x ++ p.2) h.0 ∙ ap (λ (x : List OutFrame). q.1 ++ x) k.0 ∙ sym q.5, k.1)
