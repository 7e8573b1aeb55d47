-- Laws of a payload that is handled piece by piece: how it goes on, and how it comes to its end.
use Rattle.std.proofs.Common.{◌≡◌, ℕ, ◌<◌, ◌≤◌, take, Bool, true, false, Option, Some, None, is_some, Err, List, [], ◌∷◌, ◌++◌, length, refl, sym, ap, subst, ◌∙◌, arith, append_assoc}
use Rattle.std.specs.Prelude.{IsErrOf}
use Rattle.std.proofs.lemmas.List.{append-nil}
use Rattle.std.proofs.lemmas.Grind.{flat_map-append}
use Rattle.sky_outside.specs.Told.{Given, GivenPart}
use Rattle.sky_outside.specs.declared.storage.Storage.{Ghosts}
use Rattle.sky_outside.proofs.ToldLaws.{Given-then}
use Rattle.sky_record.specs.declared.assembler.Fed.{Fed}
use Rattle.sky_record.specs.declared.assembler.Fed.TheVariants as fed_as
use Rattle.sky_record.specs.Feeding.{answer_at, FedReads}
use Rattle.sky_record.specs.Stream.{Progress, AtHeader, InFragment, Whole, TooLong, Received, nothing, IsOpen, ReadsRecords, Completes}
use Rattle.sky_record.proofs.Reading.{has_reading, records_stay, closed_reads_on}
use Rattle.sky_script.specs.Frame as frame
use Rattle.sky_script.specs.Frame.{OutFrame, Reply, out_frame, out_frames}
use Rattle.sky_xdr.specs.Encoding.{AreBytes}
use Rattle.sky_xdr.proofs.Numbers.{AreBytes-append}
use Rattle.sky_world.specs.Disk.{LeavesPrefix, WentOn}
use Rattle.sky_world.specs.Meaning.{State, Open, Closed, Scarce, Answered, by_meaning, put_off, out_of_memory, session_at, with_kept, with_session, frame_for, is_open, Then, Closes, StepRecord, StepRecords, StepProgress, StepBytes}
use Rattle.sky_sound.specs.Kept.{Kept}
use Rattle.sky_world.specs.World.{ServiceView, ServesFor}
use Rattle.sky_world.specs.Feeding.{Answers, Fails, FeedFails, GoesOn, Feeds, more, answered, too_long, Rests, UnderWay}
use Rattle.sky_world.proofs.DiskLaws.{went_nowhere}
use Rattle.sky_world.proofs.FrameLaws.{each_byte}
use Rattle.sky_world.proofs.StepLaws.{session_at-same, with_session-twice, where_open, where_closed, records_then, records_passed, records_some, progress_some}

-- ---- one record

-- a reply leaves the session open, and else it is closed
record_does : (n : ℕ) (bytes : List ℕ) (reply : Option (List ℕ)) (s : State) (h : Kept) → is_some reply ≡ true → Answered Scarce s bytes reply h
    → StepRecord Scarce n bytes s (frame_for n reply ∷ []) (with_kept s h)
record_does n bytes None s h e a = absurd cc
record_does n bytes (Some reply) s h e a = record { reply = Some reply; after = h; answered = a; answers = refl; leads = refl }

record_closes : (n : ℕ) (bytes : List ℕ) (reply : Option (List ℕ)) (s : State) (h : Kept) → is_some reply ≡ false → Answered Scarce s bytes reply h
    → StepRecord Scarce n bytes s (frame_for n reply ∷ []) (with_session (with_kept s h) n Closed)
record_closes n bytes None s h e a = record { reply = None; after = h; answered = a; answers = refl; leads = refl }
record_closes n bytes (Some reply) s h e a = absurd cc

one_record : (n : ℕ) (text : List ℕ) (s : State) (outs : List OutFrame) (t : State) → is_open (session_at s n) ≡ true → StepRecord Scarce n text s outs t → StepRecords Scarce n (text ∷ []) s outs t
one_record n text s outs t e does =
    where_open (Then (StepRecord Scarce n text) (StepRecords Scarce n [])) n s outs t e (t, outs, [], does, (refl, refl), sym (append-nil outs))

pub progress_passed : (n : ℕ) (progress : Progress) (s : State) → is_open (session_at s n) ≡ false → StepProgress n progress s [] s
progress_passed n (AtHeader part) s e = (refl, refl)
progress_passed n (InFragment last due) s e = (refl, refl)
progress_passed n Whole s e = (refl, refl)
progress_passed n TooLong s e = where_closed (Closes n) n s [] s e (refl, refl)

progress_open : (n : ℕ) (progress : Progress) (s : State) → IsOpen progress → StepProgress n progress s [] s
progress_open n (AtHeader part) s o = (refl, refl)
progress_open n (InFragment last due) s o = (refl, refl)
progress_open n Whole s o = absurd o
progress_open n TooLong s o = absurd o

-- ---- the state while a payload is under way

abbrev pub fed : State → ℕ → List ℕ → Kept → State
fed s n all kept = with_kept (with_session s n (Open all)) kept

fed_open : (s : State) (n : ℕ) (all : List ℕ) (kept : Kept) → n < length s.sessions → is_open (session_at (fed s n all kept) n) ≡ true
fed_open s n all kept lt = ap is_open (session_at-same (with_kept s kept) n (Open all) lt)

-- a session that was closed under way
abbrev pub closed : State → ℕ → Kept → State
closed s n kept = with_session (with_kept s kept) n Closed

closed_not_open : (s : State) (n : ℕ) (kept : Kept) → n < length s.sessions → is_open (session_at (closed s n kept) n) ≡ false
closed_not_open s n kept lt = ap is_open (session_at-same (with_kept s kept) n Closed lt)

closed_is : (s : State) (n : ℕ) (all : List ℕ) (kept : Kept) → with_session (fed s n all kept) n Closed ≡ closed s n kept
closed_is s n all kept = with_session-twice (with_kept s kept) n (Open all) Closed

-- to the answer of a record the streams of the sessions don't matter
answered_fed : (s : State) (n : ℕ) (all : List ℕ) (kept : Kept) (bytes : List ℕ) (reply : Option (List ℕ)) (after : Kept) → Answered Scarce (with_kept s kept) bytes reply after → Answered Scarce (fed s n all kept) bytes reply after
answered_fed s n all kept bytes reply after (by_meaning room e f) = by_meaning room e f
answered_fed s n all kept bytes reply after (put_off full e f) = put_off full e f
answered_fed s n all kept bytes reply after (out_of_memory scarce out f) = out_of_memory scarce out f

-- ---- which records a payload completes, of which these came first

pub record Completed (stream payload : List ℕ) (got : List (List ℕ)) : Type 0 where
  pub later : List (List ℕ)
  pub end : Received
  pub completes : Completes stream payload (got ++ later) end

pub completed : (stream payload done rest : List ℕ) (before got : List (List ℕ)) (part received : Received) → AreBytes stream → AreBytes payload → payload ≡ done ++ rest
    → ReadsRecords stream before part → ReadsRecords (stream ++ done) (before ++ got) received → Completed stream payload got
completed stream payload done rest before got part received fits more_fit e read goes_on =
    let all = has_reading (stream ++ payload) (each_byte (stream ++ payload) (AreBytes-append stream payload fits more_fit)) in
    let is : stream ++ payload ≡ (stream ++ done) ++ rest = ap (λ (t : List ℕ). stream ++ t) e ∙ sym (append_assoc stream done rest) in
    let later = records_stay (stream ++ done) rest (before ++ got) all.0 received all.1 goes_on (subst (λ (t : List ℕ). ReadsRecords t all.0 all.1) is all.2) in
    let records_are : all.0 ≡ before ++ (got ++ later.0) = later.1 ∙ append_assoc before got later.0 in
    record {
      later = later.0;
      end = all.1;
      completes = record { before = before; part = part; read = read; goes_on = subst (λ (t : List (List ℕ)). ReadsRecords (stream ++ payload) t all.1) records_are all.2 };
    }

-- at most one frame answers the bytes up to the end of a record
pub feeds_one : {S : Type 0} (g : Ghosts S) (n : ℕ) (before : ServiceView) (d : S) (old : Received) (bytes : List ℕ) (outs : List OutFrame) (stays : Bool) (after : ServiceView) (e : S) (new : Received)
    → Feeds g n before d old bytes outs stays after e new → length outs ≤ 1
feeds_one g n before d old bytes outs stays after e new (more goes ready none is rests) = omega (arith, ap (λ (l : List OutFrame). length l) none)
feeds_one g n before d old bytes outs stays after e new (answered text reply goes empty answers out is) = omega (arith, ap (λ (l : List OutFrame). length l) out)
feeds_one g n before d old bytes outs stays after e new (too_long end goes long out is rests) = omega (arith, ap (λ (l : List OutFrame). length l) out)

-- a session that stays open can go on
pub feeds_open : {S : Type 0} (g : Ghosts S) (n : ℕ) (before : ServiceView) (d : S) (old : Received) (bytes : List ℕ) (outs : List OutFrame) (stays : Bool) (after : ServiceView) (e : S) (new : Received)
    → Feeds g n before d old bytes outs stays after e new → stays ≡ true → IsOpen new.progress
feeds_open g n before d old bytes outs stays after e new (more goes ready none is rests) holds = ready
feeds_open g n before d old bytes outs stays after e new (answered text reply goes empty answers out is) holds = subst (λ (r : Received). IsOpen r.progress) (sym empty) tt
feeds_open g n before d old bytes outs stays after e new (too_long end goes long out is rests) holds = let f : false ≡ true = sym is ∙ holds in absurd cc

module _ {S : Type 0} (g : Ghosts S) (s : State) (n : ℕ) (stream : List ℕ) (lt : n < length s.sessions) where
  -- ---- a payload begins

  pub under_way_begins : (before : List (List ℕ)) (received : Received) → ReadsRecords stream before received → UnderWay s n stream [] [] s.kept received
  under_way_begins before received read = record {
    before = before;
    part = received;
    records = [];
    read = read;
    goes_on = subst (λ (t : List ℕ). ReadsRecords t (before ++ []) received) (sym (append-nil stream)) (subst (λ (t : List (List ℕ)). ReadsRecords stream t received) (sym (append-nil before)) read);
    handled = λ all. (refl, refl);
  }

  -- ---- it goes on

  further_under_way : (done bytes : List ℕ) (outs further : List OutFrame) (kept later : Kept) (old new : Received) (records : List (List ℕ)) → UnderWay s n stream done outs kept old
      → GoesOn old bytes records new → ((all : List ℕ) → StepRecords Scarce n records (fed s n all kept) further (fed s n all later)) → UnderWay s n stream (done ++ bytes) (outs ++ further) later new
  further_under_way done bytes outs further kept later old new records u goes step =
      let read = goes (stream ++ done) (u.before ++ u.records) u.goes_on in
      let text_read : ReadsRecords (stream ++ (done ++ bytes)) ((u.before ++ u.records) ++ records) new = subst (λ (t : List ℕ). ReadsRecords t ((u.before ++ u.records) ++ records) new) (append_assoc stream done bytes) read in
      record {
        before = u.before;
        part = u.part;
        records = u.records ++ records;
        read = u.read;
        goes_on = subst (λ (t : List (List ℕ)). ReadsRecords (stream ++ (done ++ bytes)) t new) (append_assoc u.before u.records records) text_read;
        handled = λ all. records_then Scarce n u.records records (with_session s n (Open all)) outs (fed s n all kept) further (fed s n all later) (u.handled all) (step all);
      }

  -- what is kept that goes on, for which the service stands
  abbrev pub GoesOnUnder : Kept → S → List ℕ → List OutFrame → ServiceView → S → Received → Type 0
  GoesOnUnder kept d done outs after e new = (later : Kept) × ServesFor g after e (with_kept s later) × UnderWay s n stream done outs later new × WentOn g d e kept.mark later

  -- where nothing happened
  rested : (kept : Kept) (before after : ServiceView) (d e : S) → Rests before d after e → ServesFor g before d (with_kept s kept)
      → ServesFor g after e (with_kept s kept) × WentOn g d e kept.mark kept
  rested kept before after d e rests serves = (
    subst (λ (x : ServiceView). ServesFor g x e (with_kept s kept)) (sym rests.0) (subst (λ (x : S). ServesFor g before x (with_kept s kept)) (sym rests.1) serves),
    subst (λ (x : S). WentOn g d x kept.mark kept) (sym rests.1) (went_nowhere g s.epoch kept before.journal d serves.invariant),
  )

  -- a record that leaves the session open, whatever else its stream has
  goes_by : (text : List ℕ) (reply : Option (List ℕ)) (further : List OutFrame) (kept later : Kept) → is_some reply ≡ true → further ≡ frame_for n reply ∷ [] → Answered Scarce (with_kept s kept) text reply later
      → (all : List ℕ) → StepRecords Scarce n (text ∷ []) (fed s n all kept) further (fed s n all later)
  goes_by text reply further kept later is out by all =
      one_record n text (fed s n all kept) further (fed s n all later) (fed_open s n all kept lt)
      (subst (λ (f : List OutFrame). StepRecord Scarce n text (fed s n all kept) f (fed s n all later)) (sym out) (record_does n text reply (fed s n all kept) later is (answered_fed s n all kept text reply later by)))

  pub under_way_on : (done bytes : List ℕ) (outs further : List OutFrame) (kept : Kept) (before after : ServiceView) (d e : S) (old new : Received) (stays : Bool) → stays ≡ true
      → ServesFor g before d (with_kept s kept) → UnderWay s n stream done outs kept old
      → Feeds g n before d old bytes further stays after e new → GoesOnUnder kept d (done ++ bytes) (outs ++ further) after e new
  under_way_on done bytes outs further kept before after d e old new stays holds serves u (more goes ready none is rests) =
      let r = rested kept before after d e rests serves in
      (kept, r.0, further_under_way done bytes outs further kept kept old new [] u goes (λ all. (none, refl)), r.1)
  under_way_on done bytes outs further kept before after d e old new stays holds serves u (answered text reply goes empty answers out is) =
      let by = answers.each (with_kept s kept) serves in (
        by.0,
        by.2,
        further_under_way done bytes outs further kept by.0 old new (text ∷ []) u (λ t r h. subst (λ (x : Received). ReadsRecords (t ++ bytes) (r ++ text ∷ []) x) (sym empty) (goes t r h))
            (goes_by text reply further kept by.0 (sym is ∙ holds) out by.1),
        by.3,
      )
  under_way_on done bytes outs further kept before after d e old new stays holds serves u (too_long end goes long out is rests) = let f : false ≡ true = sym is ∙ holds in absurd cc

  -- ---- its session is open at its end

  pub under_way_whole : (done : List ℕ) (outs : List OutFrame) (kept : Kept) (received : Received) → UnderWay s n stream done outs kept received → IsOpen received.progress
      → StepBytes Scarce (Open stream) n done s outs (fed s n (stream ++ done) kept)
  under_way_whole done outs kept received u ready = (
    u.records,
    received,
    record { before = u.before; part = u.part; read = u.read; goes_on = u.goes_on },
    (fed s n (stream ++ done) kept, outs, [], u.handled (stream ++ done), progress_open n received.progress (fed s n (stream ++ done) kept) ready, sym (append-nil outs)),
  )

  -- ---- its session is closed under way

  -- a payload that begins so closes it
  abbrev pub Closes_by : List ℕ → List OutFrame → Kept → Type 0
  Closes_by done outs later = (payload rest : List ℕ) → AreBytes payload → payload ≡ done ++ rest → StepBytes Scarce (Open stream) n payload s outs (closed s n later)

  closed_ends : (done : List ℕ) (before got : List (List ℕ)) (part received : Received) (outs : List OutFrame) (kept : Kept) → AreBytes stream
      → ReadsRecords stream before part → ReadsRecords (stream ++ done) (before ++ got) received → ((all : List ℕ) → StepRecords Scarce n got (with_session s n (Open all)) outs (closed s n kept)) → Closes_by done outs kept
  closed_ends done before got part received outs kept fits read goes_on steps payload rest more_fit e =
      let c = completed stream payload done rest before got part received fits more_fit e read goes_on in
      let begun : State = with_session s n (Open (stream ++ payload)) in
      let not_open = closed_not_open s n kept lt in
      let all = records_then Scarce n got c.later begun outs (closed s n kept) [] (closed s n kept) (steps (stream ++ payload)) (records_passed Scarce n c.later (closed s n kept) not_open) in
      let here = subst (λ (o : List OutFrame). StepRecords Scarce n (got ++ c.later) begun o (closed s n kept)) (append-nil outs) all in
      (got ++ c.later, c.end, c.completes, (closed s n kept, outs, [], here, progress_passed n c.end.progress (closed s n kept) not_open, sym (append-nil outs)))

  -- what is kept when the session is closed, for which the service stands
  abbrev pub ClosesUnder : Kept → S → List ℕ → List OutFrame → ServiceView → S → Type 0
  ClosesUnder kept d done outs after e = (later : Kept) × ServesFor g after e (with_kept s later) × Closes_by done outs later × WentOn g d e kept.mark later

  -- a record that closes the session, whatever else its stream has
  closes_record : (text : List ℕ) (reply : Option (List ℕ)) (further : List OutFrame) (kept later : Kept) → is_some reply ≡ false → further ≡ frame_for n reply ∷ [] → Answered Scarce (with_kept s kept) text reply later
      → (all : List ℕ) → StepRecords Scarce n (text ∷ []) (fed s n all kept) further (closed s n later)
  closes_record text reply further kept later is out by all =
      let closes = record_closes n text reply (fed s n all kept) later is (answered_fed s n all kept text reply later by) in
      let out_does = subst (λ (f : List OutFrame). StepRecord Scarce n text (fed s n all kept) f (with_session (fed s n all later) n Closed)) (sym out) closes in
      one_record n text (fed s n all kept) further (closed s n later) (fed_open s n all kept lt) (subst (λ (t : State). StepRecord Scarce n text (fed s n all kept) further t) (closed_is s n all later) out_does)

  -- bytes that are too long close it
  closes_long : (done bytes : List ℕ) (outs further : List OutFrame) (kept : Kept) (old end : Received) → UnderWay s n stream done outs kept old → GoesOn old bytes [] end → end.progress ≡ TooLong → further ≡ frame.Closed n ∷ []
      → Closes_by (done ++ bytes) (outs ++ further) kept
  closes_long done bytes outs further kept old end u goes long out payload rest more_fit parts =
      let read = goes (stream ++ done) (u.before ++ u.records) u.goes_on in
      let not_open : IsOpen end.progress → ⊥ = λ o. subst IsOpen long o in
      let rest_read = closed_reads_on ((stream ++ done) ++ bytes) rest ((u.before ++ u.records) ++ []) end.bytes end.progress read not_open in
      let text_is : ((stream ++ done) ++ bytes) ++ rest ≡ stream ++ payload =
      ap (λ (t : List ℕ). t ++ rest) (append_assoc stream done bytes) ∙ append_assoc stream (done ++ bytes) rest ∙ ap (λ (t : List ℕ). stream ++ t) (sym parts) in
      let whole_read : ReadsRecords (stream ++ payload) (u.before ++ u.records) end =
      subst (λ (t : List (List ℕ)). ReadsRecords (stream ++ payload) t end) (append-nil (u.before ++ u.records)) (subst (λ (t : List ℕ). ReadsRecords t ((u.before ++ u.records) ++ []) end) text_is rest_read) in
      let at : State = fed s n (stream ++ payload) kept in
      let closes : Closes n at further (closed s n kept) = (out, sym (closed_is s n (stream ++ payload) kept)) in
      let step : StepProgress n end.progress at further (closed s n kept) =
      subst (λ (p : Progress). StepProgress n p at further (closed s n kept)) (sym long) (where_open (Closes n) n at further (closed s n kept) (fed_open s n (stream ++ payload) kept lt) closes) in
      (u.records, end, record { before = u.before; part = u.part; read = u.read; goes_on = whole_read }, (at, outs, further, u.handled (stream ++ payload), step, refl))

  pub under_way_closes : (done bytes : List ℕ) (outs further : List OutFrame) (kept : Kept) (before after : ServiceView) (d e : S) (old new : Received) (stays : Bool) → stays ≡ false → AreBytes stream
      → ServesFor g before d (with_kept s kept) → UnderWay s n stream done outs kept old → Feeds g n before d old bytes further stays after e new → ClosesUnder kept d (done ++ bytes) (outs ++ further) after e
  under_way_closes done bytes outs further kept before after d e old new stays holds fits serves u (more goes ready none is rests) = let f : true ≡ false = sym is ∙ holds in absurd cc
  under_way_closes done bytes outs further kept before after d e old new stays holds fits serves u (answered text reply goes empty answers out is) =
      let by = answers.each (with_kept s kept) serves in
      let steps : (all : List ℕ) → StepRecords Scarce n (u.records ++ text ∷ []) (with_session s n (Open all)) (outs ++ further) (closed s n by.0) =
      λ all. records_then Scarce n u.records (text ∷ []) (with_session s n (Open all)) outs (fed s n all kept) further (closed s n by.0) (u.handled all) (closes_record text reply further kept by.0 (sym is ∙ holds) out by.1 all) in
      let read = goes (stream ++ done) (u.before ++ u.records) u.goes_on in
      let text_read : ReadsRecords (stream ++ (done ++ bytes)) ((u.before ++ u.records) ++ text ∷ []) nothing = subst (λ (t : List ℕ). ReadsRecords t ((u.before ++ u.records) ++ text ∷ []) nothing) (append_assoc stream done bytes) read in
      let got_read : ReadsRecords (stream ++ (done ++ bytes)) (u.before ++ (u.records ++ text ∷ [])) nothing = subst (λ (t : List (List ℕ)). ReadsRecords (stream ++ (done ++ bytes)) t nothing) (append_assoc u.before u.records (text ∷ [])) text_read in
      (by.0, by.2, closed_ends (done ++ bytes) u.before (u.records ++ text ∷ []) u.part nothing (outs ++ further) by.0 fits u.read got_read steps, by.3)
  under_way_closes done bytes outs further kept before after d e old new stays holds fits serves u (too_long end goes long out is rests) =
      let r = rested kept before after d e rests serves in
      (kept, r.0, closes_long done bytes outs further kept old end u goes long out, r.1)

  -- ---- the whole payload has a step, wherever it stands

  -- with answers that begin so
  abbrev pub Ends : List ℕ → List OutFrame → Type 0
  Ends payload outs = (rest : List OutFrame) × (last : State) × StepBytes Scarce (Open stream) n payload s (outs ++ rest) last

  pub under_way_ends : (done rest payload : List ℕ) (outs : List OutFrame) (kept : Kept) (received : Received) → AreBytes stream → AreBytes payload → payload ≡ done ++ rest → UnderWay s n stream done outs kept received → Ends payload outs
  under_way_ends done rest payload outs kept received fits more_fit e u =
      let c = completed stream payload done rest u.before u.records u.part received fits more_fit e u.read u.goes_on in
      let at : State = fed s n (stream ++ payload) kept in
      let first = records_some Scarce n c.later at in
      let second = progress_some n c.end.progress first.1 in
      let steps = records_then Scarce n u.records c.later (with_session s n (Open (stream ++ payload))) outs at first.0 first.1 (u.handled (stream ++ payload)) first.2 in
      (first.0 ++ second.0, second.1, (u.records ++ c.later, c.end, c.completes, (first.1, outs ++ first.0, second.0, steps, second.2, sym (append_assoc outs first.0 second.0))))

  -- ---- a call of the disk failed for a record

  pub under_way_down : (done bytes : List ℕ) (outs : List OutFrame) (kept : Kept) (before : ServiceView) (d e : S) (old : Received) → ServesFor g before d (with_kept s kept) → UnderWay s n stream done outs kept old → FeedFails g before d old bytes e
      → (unsaid : OutFrame) × (later : Kept) × UnderWay s n stream (done ++ bytes) (outs ++ unsaid ∷ []) later nothing × LeavesPrefix g d e kept.mark later
  under_way_down done bytes outs kept before d e old serves u f =
      let by = f.fails.each (with_kept s kept) serves in
      let unsaid : OutFrame = Reply n by.0 in
      (unsaid, by.1, further_under_way done bytes outs (unsaid ∷ []) kept by.1 old nothing (f.text ∷ []) u f.goes_on (goes_by f.text (Some by.0) (unsaid ∷ []) kept by.1 refl refl by.2), by.3)

-- ---- what the sink was given

pub frames_given : (a b c : Option (List ℕ)) (outs further : List OutFrame) → Given a b (out_frames outs) → Given b c (out_frames further) → Given a c (out_frames (outs ++ further))
frames_given a b c outs further first second =
    subst (λ (bytes : List ℕ). Given a c bytes) (sym (flat_map-append out_frame outs further)) (Given-then a b c (out_frames outs) (out_frames further) first second)

-- all of some frames, and a prefix of further ones that is not all of them
pub frames_given_part : (a b c : Option (List ℕ)) (outs further : List OutFrame) → Given a b (out_frames outs) → GivenPart b c (out_frames further)
    → (kept : ℕ) × (kept < length (out_frames further)) × Given a c (out_frames outs ++ take kept (out_frames further))
frames_given_part a b c outs further first second = (second.0, second.1, Given-then a b c (out_frames outs) (take second.0 (out_frames further)) first second.2)

pub given_one : (a b : Option (List ℕ)) (f : OutFrame) → Given a b (out_frame f) → Given a b (out_frames (f ∷ []))
given_one a b f given = subst (λ (bytes : List ℕ). Given a b bytes) (sym (append-nil (out_frame f))) given

pub given_part_one : (a b : Option (List ℕ)) (f : OutFrame) → GivenPart a b (out_frame f) → GivenPart a b (out_frames (f ∷ []))
given_part_one a b f part = subst (λ (bytes : List ℕ). GivenPart a b bytes) (sym (append-nil (out_frame f))) part

-- ---- what an assembler answered

module _ {S : Type 0} (g : Ghosts S) where
  -- a record ended, and was answered
  pub feeds_message : (n : ℕ) (before after : ServiceView) (d e : S) (old received : Received) (bytes text : List ℕ) (reply : Option (List ℕ)) (answer : Fed) (stays : Bool) → answer ≡ fed_as.Message
      → ((stream : List ℕ) (records : List (List ℕ)) → ReadsRecords stream records old → FedReads answer (stream ++ bytes) records received) → text ≡ received.bytes
      → Answers g before d text reply after e → stays ≡ is_some reply → Feeds g n before d old bytes (frame_for n reply ∷ []) stays after e nothing
  feeds_message n before after d e old received bytes text reply fed_as.Message stays is reads same answers said =
      answered text reply (λ stream records h. subst (λ (t : List ℕ). ReadsRecords (stream ++ bytes) (records ++ t ∷ []) nothing) (sym same) (reads stream records h)) refl answers refl said
  feeds_message n before after d e old received bytes text reply fed_as.More stays is reads same answers said = absurd cc
  feeds_message n before after d e old received bytes text reply fed_as.TooLong stays is reads same answers said = absurd cc

  -- a record ended, and a call of the disk failed for it
  pub fails_message : (before : ServiceView) (d e : S) (old received : Received) (bytes text : List ℕ) (answer : Fed) → answer ≡ fed_as.Message
      → ((stream : List ℕ) (records : List (List ℕ)) → ReadsRecords stream records old → FedReads answer (stream ++ bytes) records received) → text ≡ received.bytes
      → Fails g before d text e → FeedFails g before d old bytes e
  fails_message before d e old received bytes text fed_as.Message is reads same fails =
      record { text = text; goes_on = λ stream records h. subst (λ (t : List ℕ). ReadsRecords (stream ++ bytes) (records ++ t ∷ []) nothing) (sym same) (reads stream records h); fails = fails }
  fails_message before d e old received bytes text fed_as.More is reads same fails = absurd cc
  fails_message before d e old received bytes text fed_as.TooLong is reads same fails = absurd cc

too_long_at : (progress : Progress) → answer_at progress ≡ fed_as.TooLong → progress ≡ TooLong
too_long_at (AtHeader part) e = absurd cc
too_long_at (InFragment last due) e = absurd cc
too_long_at Whole e = absurd cc
too_long_at TooLong e = refl

-- a record was too long
pub feeds_too_long : {S : Type 0} (g : Ghosts S) (n : ℕ) (service : ServiceView) (d : S) (old received : Received) (bytes : List ℕ) (answer : Fed) → answer ≡ fed_as.TooLong → answer ≡ answer_at received.progress
    → ((stream : List ℕ) (records : List (List ℕ)) → ReadsRecords stream records old → FedReads answer (stream ++ bytes) records received)
    → Feeds g n service d old bytes (frame.Closed n ∷ []) false service d received
feeds_too_long g n service d old received bytes fed_as.TooLong is at reads =
    too_long received (λ stream records h. subst (λ (r : List (List ℕ)). ReadsRecords (stream ++ bytes) r received) (sym (append-nil records)) (reads stream records h).1) (too_long_at received.progress (sym at)) refl refl (refl, refl)
feeds_too_long g n service d old received bytes fed_as.Message is at reads = absurd cc
feeds_too_long g n service d old received bytes fed_as.More is at reads = absurd cc

open_at : (progress : Progress) → answer_at progress ≡ fed_as.More → IsOpen progress
open_at (AtHeader part) e = tt
open_at (InFragment last due) e = tt
open_at Whole e = absurd cc
open_at TooLong e = absurd cc

-- no record ended
pub feeds_more : {S : Type 0} (g : Ghosts S) (n : ℕ) (service : ServiceView) (d : S) (old received : Received) (bytes : List ℕ) (answer : Fed) → answer ≡ fed_as.More → answer ≡ answer_at received.progress
    → ((stream : List ℕ) (records : List (List ℕ)) → ReadsRecords stream records old → FedReads answer (stream ++ bytes) records received)
    → Feeds g n service d old bytes [] true service d received
feeds_more g n service d old received bytes fed_as.More is at reads =
    more (λ stream records h. subst (λ (r : List (List ℕ)). ReadsRecords (stream ++ bytes) r received) (sym (append-nil records)) (reads stream records h).1) (open_at received.progress (sym at)) refl refl (refl, refl)
feeds_more g n service d old received bytes fed_as.Message is at reads = absurd cc
feeds_more g n service d old received bytes fed_as.TooLong is at reads = absurd cc

-- the error of one result is that of another
pub err_inside : {X Y E : Type 0} (a b : E) → IsErrOf {T = X} {E = E} (Err a) b → IsErrOf {T = Y} {E = E} (Err a) b
err_inside a b e = let same : a ≡ b = cc e in ap Err same
