-- A recording has one reading, and the status of a run is that of the reading.
use Rattle.std.proofs.Common.{◌≡◌, ◌⊎◌, true, ⊎_elim, ◌+◌, ◌<◌, ◌≤◌, ◌≢◌, inl, inr, ℕ, Option, Some, None, List, [], ◌∷◌, ◌++◌, length, refl, sym, ap, subst, ◌∙◌, append_assoc, arith}
use Rattle.std.proofs.lemmas.List.{append_cancel_left, append-nil, length-append}
use Rattle.sky_base.specs.declared.status.Status.{Status}
use Rattle.sky_base.specs.declared.status.Status.TheVariants.{Done, Words, Malformed, Early, SourceFault, SinkFault, JournalFault, CloudFault, Memory, Foreign, Missing, Damaged, Worn, Long, Settings}
use Rattle.std.specs.List.{AllByRecursion}
use Rattle.sky_outside.specs.Count.{Rose}
use Rattle.sky_outside.specs.Told.{WhereTold}
use Rattle.sky_outside.specs.declared.storage.Storage.{Ghosts}
use Rattle.sky_recover.specs.Opening.{Found}
use Rattle.sky_script.specs.Frame.{InFrame, Begin, Bytes, Close, SetMoment, Stat, Restart, RestartWithoutJournal, End, OutFrame, in_frame, in_frames, magic}
use Rattle.sky_script.specs.Beginning.{IsRefused, IsCutShort}
use Rattle.sky_script.proofs.FrameLaws.{prefixes_same}
use Rattle.sky_script.proofs.Beginnings.{frame_not_refused, frame_not_cut, refused_not_cut, refused_same}
use Rattle.sky_world.specs.Laws.{IsForeseen, NoneOutOfMemory}
use Rattle.sky_world.specs.Meaning.{State, Supply, Ample, Scarce, start, Steps}
use Rattle.sky_settings.specs.declared.settings.Fields.{Fields}
use Rattle.sky_world.proofs.FrameLaws.{frames_one}
use Rattle.sky_world.proofs.HistoryLaws.{steps_told}
use Rattle.bluesky.specs.Run.{frame_limit, Course, IsCourse, recording, SourceUse, Took, TookRefused, other_magic, no_frame, TookPart, within_magic, within_frame, AreFew, ReadTo, SinkUse, GaveUnopened, Ran, RanOn, IsReading, IsFree, IsExact, IsOfDamage, IsReplayed}
use Rattle.bluesky.proofs.Comparing.{GoesOn, Compares, are_one, first_on, second_on, compared, end_not_on, refused_not_on, cut_not_on}

-- ---- the bytes of a recording

-- what was taken, of bytes that are told
pub taken_is : (bytes rest taken : List ℕ) → Took (record { had = Some bytes; left = Some rest }) taken → bytes ≡ taken ++ rest
taken_is bytes rest taken took = cc

-- behind the magic
behind_magic : (frames : List InFrame) (next rest : List ℕ) → recording frames next ++ rest ≡ magic ++ (in_frames frames ++ (next ++ rest))
behind_magic frames next rest =
    append_assoc (magic ++ in_frames frames) next rest ∙ append_assoc magic (in_frames frames) (next ++ rest)

-- what begins with the magic has its eight bytes, and no others in their place
pub magic_whole : (bytes more : List ℕ) → bytes ≡ magic ++ more → 8 ≤ length bytes
magic_whole bytes more e = rw e (omega arith)

pub not_other : (bytes more taken rest : List ℕ) → bytes ≡ magic ++ more → bytes ≡ taken ++ rest → length taken ≡ 8 → taken ≢ magic → ⊥
not_other bytes more taken rest e d long other = other (sym (prefixes_same magic taken more rest (sym long) (sym e ∙ d)).0)

-- ---- where a reading stops

-- where a reading stops behind the magic, by the status that says so, and what it leaves of what stood there
pub data StopsAt (frames : List InFrame) (left rest : List ℕ) (status : Status) : Type 0 where
  at_end : AreFew frames → left ≡ in_frame End ++ rest → status ≡ Done → StopsAt frames left rest status
  at_refused : AreFew frames → (taken : List ℕ) → IsRefused taken → left ≡ taken ++ rest → status ≡ Malformed (8 + length (in_frames frames)) → StopsAt frames left rest status
  at_cut : AreFew frames → IsCutShort left → rest ≡ [] → status ≡ Early → StopsAt frames left rest status
  at_limit : length frames ≡ frame_limit → left ≡ rest → status ≡ Long → StopsAt frames left rest status

-- where a reading stops: within the magic, at another magic, or behind the magic
pub data StopsIn (bytes : List ℕ) (frames : List InFrame) (rest : List ℕ) (status : Status) : Type 0 where
  in_magic : length bytes < 8 → frames ≡ [] → rest ≡ [] → status ≡ Early → StopsIn bytes frames rest status
  no_magic : (taken : List ℕ) → length taken ≡ 8 → taken ≢ magic → bytes ≡ taken ++ rest → frames ≡ [] → status ≡ Malformed 0 → StopsIn bytes frames rest status
  behind : (left : List ℕ) → bytes ≡ magic ++ (in_frames frames ++ left) → StopsAt frames left rest status → StopsIn bytes frames rest status

abbrev pub told : List ℕ → List ℕ → SourceUse
told bytes rest = record { had = Some bytes; left = Some rest }

-- what is behind the frames of a recording
pub left_is : (bytes rest : List ℕ) (frames : List InFrame) (next : List ℕ) → Took (told bytes rest) (recording frames next) → bytes ≡ magic ++ (in_frames frames ++ (next ++ rest))
left_is bytes rest frames next took = taken_is bytes rest (recording frames next) took ∙ behind_magic frames next rest

stops_refused : (at : ℕ) (bytes : List ℕ) (frames : List InFrame) (rest : List ℕ) → AreFew frames → TookRefused (told bytes rest) frames at → StopsIn bytes frames rest (Malformed at)
stops_refused at bytes frames rest few (other_magic taken none zero long other took) = no_magic taken long other (taken_is bytes rest taken took) none (ap Malformed zero)
stops_refused at bytes frames rest few (no_frame taken place refused took) =
    behind (taken ++ rest) (left_is bytes rest frames taken took) (at_refused few taken refused refl (ap Malformed place))

stops_early : (bytes : List ℕ) (frames : List InFrame) (rest : List ℕ) → AreFew frames → TookPart (told bytes rest) frames → rest ≡ [] → StopsIn bytes frames rest Early
stops_early bytes frames rest few (within_magic taken none short took) empty =
    in_magic (omega (arith, ap length (taken_is bytes rest taken took), length-append taken rest, ap length empty)) none empty refl
stops_early bytes frames rest few (within_frame taken cut took) empty =
    let whole : taken ++ rest ≡ taken = ap (λ (x : List ℕ). taken ++ x) empty ∙ append-nil taken in
    behind (taken ++ rest) (left_is bytes rest frames taken took) (at_cut few (subst IsCutShort (sym whole) cut) empty refl)

-- where a recording that is read to a status stops
pub stops_in : (status : Status) (bytes : List ℕ) (frames : List InFrame) (rest : List ℕ) → ReadTo status (told bytes rest) frames → StopsIn bytes frames rest status
stops_in Done bytes frames rest read = behind (in_frame End ++ rest) (left_is bytes rest frames (in_frame End) read.1) (at_end read.0 refl refl)
stops_in (Malformed at) bytes frames rest read = stops_refused at bytes frames rest read.0 read.1
stops_in Early bytes frames rest read = stops_early bytes frames rest read.0 read.1 read.2
stops_in Long bytes frames rest read = behind rest (left_is bytes rest frames [] read.1) (at_limit read.0 refl refl)
stops_in Words bytes frames rest read = absurd read
stops_in SourceFault bytes frames rest read = absurd read
stops_in SinkFault bytes frames rest read = absurd read
stops_in JournalFault bytes frames rest read = absurd read
stops_in (Foreign at) bytes frames rest read = absurd read
stops_in Memory bytes frames rest read = absurd read
stops_in Settings bytes frames rest read = absurd read
stops_in CloudFault bytes frames rest read = absurd read
stops_in (Missing name) bytes frames rest read = absurd read
stops_in (Damaged name damage) bytes frames rest read = absurd read
stops_in Worn bytes frames rest read = absurd read

-- ---- two ways to stop

-- where a reading stops within the limit, none goes on
pub stop_not_on : (frames : List InFrame) (left rest : List ℕ) (status : Status) → AreFew frames → StopsAt frames left rest status → GoesOn left → ⊥
stop_not_on frames left rest status less (at_end few end is) on = end_not_on left rest end on
stop_not_on frames left rest status less (at_refused few taken refused parts is) on = refused_not_on left taken rest refused parts on
stop_not_on frames left rest status less (at_cut few cut empty is) on = cut_not_on left cut on
stop_not_on frames left rest status less (at_limit all same is) on = absurd (omega arith)

-- a reading that stops has no more frames than the limit
at_most : (frames : List InFrame) (left rest : List ℕ) (status : Status) → StopsAt frames left rest status → length frames ≤ frame_limit
at_most frames left rest status (at_end few end is) = omega arith
at_most frames left rest status (at_refused few taken refused parts is) = omega arith
at_most frames left rest status (at_cut few cut empty is) = omega arith
at_most frames left rest status (at_limit all same is) = omega arith

-- one place has one status, and leaves one rest
stop_same : (frames : List InFrame) (left r q : List ℕ) (a b : Status) → StopsAt frames left r a → StopsAt frames left q b → (a ≡ b) × (r ≡ q)
stop_same frames left r q a b (at_end few end is) (at_end few' end' is') = (is ∙ sym is', append_cancel_left (in_frame End) r q (sym end ∙ end'))
stop_same frames left r q a b (at_end few end is) (at_refused few' taken refused parts is') = absurd (frame_not_refused End left taken r q tt end refused parts)
stop_same frames left r q a b (at_end few end is) (at_cut few' cut empty is') = absurd (frame_not_cut End left r tt end cut)
stop_same frames left r q a b (at_end few end is) (at_limit all same is') = absurd (omega arith)
stop_same frames left r q a b (at_refused few taken refused parts is) (at_end few' end is') = absurd (frame_not_refused End left taken q r tt end refused parts)
stop_same frames left r q a b (at_refused few taken refused parts is) (at_refused few' taken' refused' parts' is') =
    (is ∙ sym is', (refused_same left taken taken' r q refused refused' parts parts').1)
stop_same frames left r q a b (at_refused few taken refused parts is) (at_cut few' cut empty is') = absurd (refused_not_cut left taken r refused parts cut)
stop_same frames left r q a b (at_refused few taken refused parts is) (at_limit all same is') = absurd (omega arith)
stop_same frames left r q a b (at_cut few cut empty is) (at_end few' end is') = absurd (frame_not_cut End left q tt end cut)
stop_same frames left r q a b (at_cut few cut empty is) (at_refused few' taken refused parts is') = absurd (refused_not_cut left taken q refused parts cut)
stop_same frames left r q a b (at_cut few cut empty is) (at_cut few' cut' empty' is') = (is ∙ sym is', empty ∙ sym empty')
stop_same frames left r q a b (at_cut few cut empty is) (at_limit all same is') = absurd (omega arith)
stop_same frames left r q a b (at_limit all same is) (at_end few end is') = absurd (omega arith)
stop_same frames left r q a b (at_limit all same is) (at_refused few taken refused parts is') = absurd (omega arith)
stop_same frames left r q a b (at_limit all same is) (at_cut few cut empty is') = absurd (omega arith)
stop_same frames left r q a b (at_limit all same is) (at_limit all' same' is') = (is ∙ sym is', sym same ∙ same')

-- ---- two readings

-- two readings are of the same frames, and so are their statuses, and what they leave
record AreSame (fs gs : List InFrame) (a b : Status) (r q : List ℕ) : Type 0 where
  frames : fs ≡ gs
  status : a ≡ b
  rest : r ≡ q

-- those behind the magic
same_behind : (fs gs : List InFrame) (l m r q : List ℕ) (a b : Status) → Compares fs gs l m → StopsAt fs l r a → StopsAt gs m q b → AreSame fs gs a b r q
same_behind fs gs l m r q a b (are_one is) x y =
    let moved : StopsAt fs l q b = subst (λ (v : List InFrame). StopsAt v l q b) (sym is.frames) (subst (λ (v : List ℕ). StopsAt gs v q b) (sym is.rest) y) in
    let same = stop_same fs l r q a b x moved in
    record { frames = is.frames; status = same.0; rest = same.1 }
same_behind fs gs l m r q a b (first_on less on) x y = absurd (stop_not_on gs m q b (omega (arith, less, at_most fs l r a x)) y on)
same_behind fs gs l m r q a b (second_on less on) x y = absurd (stop_not_on fs l r a (omega (arith, less, at_most gs m q b y)) x on)

module _ (mem supply : Supply) (bytes : List ℕ) (c d : Course) (a b : Status) (r q : List ℕ) where
  -- two readings behind the magic, side by side
  side_by_side : (l m : List ℕ) → IsCourse mem c → IsCourse supply d → bytes ≡ magic ++ (in_frames c.frames ++ l) → bytes ≡ magic ++ (in_frames d.frames ++ m) → Compares c.frames d.frames l m
  side_by_side l m h k e is =
      compared mem supply c.first d.first c.frames d.frames c.answers d.answers c.last d.last l m h.formed k.formed h.steps k.steps
      (append_cancel_left magic (in_frames c.frames ++ l) (in_frames d.frames ++ m) (sym e ∙ is))

  -- those of a whole recording
  same_in : IsCourse mem c → IsCourse supply d → StopsIn bytes c.frames r a → StopsIn bytes d.frames q b → AreSame c.frames d.frames a b r q
  same_in h k (in_magic short none empty is) (in_magic short' none' empty' is') =
      record { frames = none ∙ sym none'; status = is ∙ sym is'; rest = empty ∙ sym empty' }
  same_in h k (in_magic short none empty is) (no_magic taken long other parts none' is') =
      absurd (omega (arith, ap length parts, length-append taken q))
  same_in h k (in_magic short none empty is) (behind m e y) = absurd (omega (arith, magic_whole bytes (in_frames d.frames ++ m) e))
  same_in h k (no_magic taken long other parts none is) (in_magic short none' empty' is') =
      absurd (omega (arith, ap length parts, length-append taken r))
  same_in h k (no_magic taken long other parts none is) (no_magic taken' long' other' parts' none' is') =
      let same = prefixes_same taken taken' r q (long ∙ sym long') (sym parts ∙ parts') in
      record { frames = none ∙ sym none'; status = is ∙ sym is'; rest = same.1 }
  same_in h k (no_magic taken long other parts none is) (behind m e y) = absurd (not_other bytes (in_frames d.frames ++ m) taken r e parts long other)
  same_in h k (behind l e x) (in_magic short none empty is) = absurd (omega (arith, magic_whole bytes (in_frames c.frames ++ l) e))
  same_in h k (behind l e x) (no_magic taken long other parts none is) = absurd (not_other bytes (in_frames c.frames ++ l) taken q e parts long other)
  same_in h k (behind l e x) (behind m f y) = same_behind c.frames d.frames l m r q a b (side_by_side l m h k e f) x y

  -- two readings of one list of bytes are of the same frames
  readings_same : IsReading mem bytes c a r → IsReading supply bytes d b q → AreSame c.frames d.frames a b r q
  readings_same x y = same_in x.handled y.handled (stops_in a bytes c.frames r x.read) (stops_in b bytes d.frames q y.read)

-- on a site that tells what it has, it is known beforehand what each frame leads to
seen_all : (frames : List InFrame) → AllByRecursion (IsForeseen true) frames
seen_all [] = tt
seen_all (Begin session ∷ frames) = (tt, seen_all frames)
seen_all (Bytes session payload ∷ frames) = (tt, seen_all frames)
seen_all (Close session ∷ frames) = (tt, seen_all frames)
seen_all (SetMoment at ∷ frames) = (tt, seen_all frames)
seen_all (Stat ∷ frames) = (tt, seen_all frames)
seen_all (Restart ∷ frames) = (refl, seen_all frames)
seen_all (RestartWithoutJournal ∷ frames) = (refl, seen_all frames)
seen_all (End ∷ frames) = (tt, seen_all frames)

-- the same frames, with memory for every call, have the same answers
answers_same : (found : Found) (fs gs : List InFrame) (os ps : List OutFrame) (s t : State) → fs ≡ gs → Steps Ample (start true found) fs os s → Steps Ample (start true found) gs ps t → (os ≡ ps) × (s ≡ t)
answers_same found fs gs os ps s t same h k =
    frames_one true (start true found) fs os ps s t refl (seen_all fs) h (subst (λ (x : List InFrame). Steps Ample (start true found) x ps t) (sym same) k)

-- how much memory there is, and from which state on, does not matter to the frames
pub any_reading : (bytes : List ℕ) (mem supply : Supply) (c d : Course) (a b : Status) (r q : List ℕ) → IsReading mem bytes c a r → IsReading supply bytes d b q
    → (c.frames ≡ d.frames) × (a ≡ b) × (r ≡ q)
any_reading bytes mem supply c d a b r q x y =
    let is = readings_same mem supply bytes c d a b r q x y in
    (is.frames, is.status, is.rest)

-- the steps of a course, from the state of its opening
steps_from : (mem : Supply) (found : Found) (c : Course) → c.first ≡ start true found → IsCourse mem c → Steps mem (start true found) c.frames c.answers c.last
steps_from mem found c begins is = subst (λ (s : State). Steps mem s c.frames c.answers c.last) begins is.steps

-- no two readings of a recording differ, where there is memory for every call
pub one_reading : (bytes : List ℕ) (found : Found) (c d : Course) (a b : Status) (r q : List ℕ) → c.first ≡ start true found → d.first ≡ start true found
    → IsReading Ample bytes c a r → IsReading Ample bytes d b q → (c.frames ≡ d.frames) × (c.answers ≡ d.answers) × (c.last ≡ d.last) × (a ≡ b) × (r ≡ q)
one_reading bytes found c d a b r q begins begun x y =
    let is = readings_same Ample Ample bytes c d a b r q x y in
    let answers = answers_same found c.frames d.frames c.answers d.answers c.last d.last is.frames (steps_from Ample found c begins x.handled) (steps_from Ample found d begun y.handled) in
    (is.frames, answers.0, answers.1, is.status, is.rest)

-- a reading whose answers don't tell a want of memory is one with memory for every call
pub told_reading : (bytes : List ℕ) (found : Found) (c : Course) (a : Status) (r : List ℕ) → c.first ≡ start true found → IsReading Scarce bytes c a r → NoneOutOfMemory c.answers → IsReading Ample bytes c a r
told_reading bytes found c a r begins x none = record {
  handled = record {
    formed = x.handled.formed;
    steps = subst (λ (s : State). Steps Ample s c.frames c.answers c.last) (sym begins) (steps_told (start true found) c.frames c.answers c.last (steps_from Scarce found c begins x.handled) none);
  };
  read = x.read;
}

-- ---- the status of a run

-- the status of a reading is that of each reading
exact_reading : (status : Status) (bytes : List ℕ) (c : Course) (rest : List ℕ) → IsReading Scarce bytes c status rest → IsExact status bytes
exact_reading status bytes c rest reading supply d expected q other = inl (readings_same Scarce supply bytes c d status expected rest q reading other).status

-- a source that was read to where the bytes say that it stops
read_exact : (status : Status) (bytes : List ℕ) (left : Option (List ℕ)) (c : Course) → IsCourse Scarce c → ReadTo status (record { had = Some bytes; left = left }) c.frames → IsExact status bytes
read_exact status bytes (Some rest) c handled read = exact_reading status bytes c rest (record { handled = handled; read = read })
read_exact Done bytes None c handled read = absurd (let took = read.1 in cc)
read_exact (Malformed at) bytes None c handled (few, other_magic taken none zero long other took) = absurd cc
read_exact (Malformed at) bytes None c handled (few, no_frame taken place refused took) = absurd cc
read_exact Early bytes None c handled (few, within_magic taken none short took, empty) = absurd cc
read_exact Early bytes None c handled (few, within_frame taken cut took, empty) = absurd cc
read_exact Long bytes None c handled read = absurd (let took = read.1 in cc)
read_exact Words bytes None c handled read = absurd read
read_exact SourceFault bytes None c handled read = absurd read
read_exact SinkFault bytes None c handled read = absurd read
read_exact JournalFault bytes None c handled read = absurd read
read_exact (Foreign at) bytes None c handled read = absurd read
read_exact Memory bytes None c handled read = absurd read
read_exact Settings bytes None c handled read = absurd read
read_exact CloudFault bytes None c handled read = absurd read
read_exact (Missing name) bytes None c handled read = absurd read
read_exact (Damaged name damage) bytes None c handled read = absurd read
read_exact Worn bytes None c handled read = absurd read

-- a status that blames a device, the memory, or what was on the disk is never wrong
exact_free : (status : Status) (bytes : List ℕ) → IsFree status → IsExact status bytes
exact_free status bytes free supply course expected rest reading = inr free

-- the status of a run that opened its site is exact
opened_exact : {S : Type 0} (g : Ghosts S) (settings : Fields) (from to : S) (status : Status) (bytes : List ℕ) (left : Option (List ℕ)) (sink : SinkUse)
    → RanOn g settings from to status (record { had = Some bytes; left = left }) sink → IsExact status bytes
opened_exact g settings from to Done bytes left sink ran = read_exact Done bytes left ran.course ran.handled ran.ends.0
opened_exact g settings from to (Malformed at) bytes left sink ran = read_exact (Malformed at) bytes left ran.course ran.handled ran.ends.0
opened_exact g settings from to Early bytes left sink ran = read_exact Early bytes left ran.course ran.handled ran.ends.0
opened_exact g settings from to Long bytes left sink ran = read_exact Long bytes left ran.course ran.handled ran.ends.0
opened_exact g settings from to SourceFault bytes left sink ran = exact_free SourceFault bytes tt
opened_exact g settings from to SinkFault bytes left sink ran = exact_free SinkFault bytes tt
opened_exact g settings from to JournalFault bytes left sink ran = exact_free JournalFault bytes tt
opened_exact g settings from to CloudFault bytes left sink ran = exact_free CloudFault bytes tt
opened_exact g settings from to Memory bytes left sink ran = exact_free Memory bytes tt
opened_exact g settings from to (Foreign at) bytes left sink ran = exact_free (Foreign at) bytes tt
opened_exact g settings from to (Missing name) bytes left sink ran = exact_free (Missing name) bytes tt
opened_exact g settings from to (Damaged name damage) bytes left sink ran = exact_free (Damaged name damage) bytes tt
opened_exact g settings from to Worn bytes left sink ran = exact_free Worn bytes tt
opened_exact g settings from to Words bytes left sink ran = absurd ran.ends
opened_exact g settings from to Settings bytes left sink ran = absurd ran.ends

-- and so is that of one that did not, if it began
unopened_free : (status : Status) (sink : SinkUse) → GaveUnopened status sink → IsReplayed status → IsFree status
unopened_free SinkFault sink gave began = tt
unopened_free JournalFault sink gave began = tt
unopened_free CloudFault sink gave began = tt
unopened_free Memory sink gave began = tt
unopened_free (Foreign at) sink gave began = tt
unopened_free (Missing name) sink gave began = tt
unopened_free (Damaged name damage) sink gave began = tt
unopened_free Worn sink gave began = tt
unopened_free Words sink gave began = absurd began
unopened_free Settings sink gave began = absurd began
unopened_free Done sink gave began = absurd gave
unopened_free (Malformed at) sink gave began = absurd gave
unopened_free Early sink gave began = absurd gave
unopened_free SourceFault sink gave began = absurd gave
unopened_free Long sink gave began = absurd gave

-- the status of a run that began is exact
pub ran_exact : {S : Type 0} (g : Ghosts S) (settings : Fields) (from to : S) (status : Status) (had left : Option (List ℕ)) (sink : SinkUse) → Ran g settings from to status (record { had = had; left = left }) sink → IsReplayed status
    → WhereTold had (λ bytes. IsExact status bytes)
ran_exact g settings from to status None left sink ran began = tt
ran_exact g settings from to status (Some bytes) left sink (inl not_opened) began = exact_free status bytes (unopened_free status sink not_opened.gave began)
ran_exact g settings from to status (Some bytes) left sink (inr opened) began = opened_exact g settings from to status bytes left sink opened

-- ---- devices that never fail

-- a count that stays at 0 never rose
pub never_rose : Rose 0 0 → ⊥
never_rose rose = absurd (omega (arith, rose))

-- of the statuses that are never wrong only a want of memory is left, and that there is no further epoch
free_memory : (v : Status) → IsFree v → (v ≡ SourceFault → ⊥) → (v ≡ SinkFault → ⊥) → (v ≡ JournalFault → ⊥) → (v ≡ CloudFault → ⊥) → (IsOfDamage v → ⊥) → (v ≡ Memory) ⊎ (v ≡ Worn)
free_memory SourceFault free a b c d e = absurd (a refl)
free_memory SinkFault free a b c d e = absurd (b refl)
free_memory JournalFault free a b c d e = absurd (c refl)
free_memory CloudFault free a b c d e = absurd (d refl)
free_memory Memory free a b c d e = inl refl
free_memory Worn free a b c d e = inr refl
free_memory (Foreign at) free a b c d e = absurd (e tt)
free_memory (Missing name) free a b c d e = absurd (e tt)
free_memory (Damaged name damage) free a b c d e = absurd (e tt)
free_memory Done free a b c d e = absurd free
free_memory Words free a b c d e = absurd free
free_memory (Malformed at) free a b c d e = absurd free
free_memory Early free a b c d e = absurd free
free_memory Long free a b c d e = absurd free
free_memory Settings free a b c d e = absurd free

-- an exact status that blames nothing but the memory
pub only_memory : (v : Status) (bytes : List ℕ) → IsExact v bytes → (v ≡ SourceFault → ⊥) → (v ≡ SinkFault → ⊥) → (v ≡ JournalFault → ⊥) → (v ≡ CloudFault → ⊥) → (IsOfDamage v → ⊥)
    → (supply : Supply) (course : Course) (expected : Status) (rest : List ℕ) → IsReading supply bytes course expected rest → (v ≡ expected) ⊎ (v ≡ Memory) ⊎ (v ≡ Worn)
only_memory v bytes exact a b c d e supply course expected rest reading = ⊎_elim inl (λ free. inr (free_memory v free a b c d e)) (exact supply course expected rest reading)
