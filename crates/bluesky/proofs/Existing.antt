-- Each list of bytes has a reading.
use Rattle.std.proofs.Common.{◌≡◌, Bool, true, ◌+◌, ◌<◌, ◌≤◌, ◌≢◌, ◌⊎◌, inl, inr, ℕ, zero, suc, Some, List, [], ◌∷◌, ◌++◌, length, take, drop, refl, sym, ap, subst, ◌∙◌, append_assoc, arith}
use Rattle.std.specs.List.{AllByRecursion}
use Rattle.std.specs.Cmp.Lexicographic.{same_text, other_text}
use Rattle.std.proofs.lemmas.Bool.{cases_lt, cases_Bool}
use Rattle.std.proofs.lemmas.List.{append-nil, length-append, length-take-le, take-append-drop}
use Rattle.std.proofs.Math.Seq.{drop-append_seam, take-append_seam}
use lib.Pointwise.{pointwise}
use Rattle.std.specs.Prelude.{nat_eq}
use Rattle.sky_base.specs.declared.status.Status.{Status}
use Rattle.sky_base.specs.declared.status.Status.TheVariants.{Done, Malformed, Early, Long}
use Rattle.sky_xdr.specs.Encoding.{AreBytes}
use Rattle.sky_xdr.proofs.Numbers.{AreBytes-drop, AreBytes-take}
use Rattle.sky_recover.specs.Opening.{Found}
use Rattle.sky_script.specs.Frame.{InFrame, Begin, Bytes, Close, SetMoment, Stat, Restart, RestartWithoutJournal, End, OutFrame, IsInFrame, parts_of, header, in_frame, in_frames, magic}
use Rattle.sky_script.specs.Beginning.{IsRefused, IsCutShort, within_header, with_frame, with_refused, cut_short}
use Rattle.sky_script.proofs.FrameLaws.{in_frame_bound, frame-parts}
use Rattle.sky_script.proofs.Beginnings.{begins}
use Rattle.sky_world.specs.Laws.{IsForeseen}
use Rattle.sky_world.specs.Meaning.{State, Ample, start, Absent, Step, Steps, IsStep}
use Rattle.sky_world.specs.Bytes.{HasBytes, HasByteStreams, CarriesBytes}
use Rattle.sky_world.proofs.FrameLaws.{step_some}
use Rattle.sky_world.proofs.SiteLaws.{step_tells}
use Rattle.sky_world.proofs.SessionLaws.{all-replicate}
use Rattle.bluesky.specs.Run.{frame_limit, Course, IsCourse, no_course, recording, Took, other_magic, no_frame, within_magic, within_frame, IsReading, HasOneReading}
use Rattle.bluesky.proofs.OneReading.{one_reading, any_reading, told_reading}

-- ---- what a frame carries

AreBytes-left : (xs ys : List ℕ) → AreBytes (xs ++ ys) → AreBytes xs
AreBytes-left xs ys fits = subst AreBytes (take-append_seam xs ys) (AreBytes-take (length xs) (xs ++ ys) fits)

AreBytes-right : (xs ys : List ℕ) → AreBytes (xs ++ ys) → AreBytes ys
AreBytes-right xs ys fits = subst AreBytes (drop-append_seam xs ys) (AreBytes-drop (length xs) (xs ++ ys) fits)

-- at the opening no session has a stream
start_has : (found : Found) → HasByteStreams (start true found)
start_has found = all-replicate HasBytes 256 Absent tt

-- what a frame carries is bytes, where its payload is
carries : (f : InFrame) → AreBytes (parts_of f).payload → CarriesBytes f
carries (Begin session) fits = tt
carries (Bytes session payload) fits = fits
carries (Close session) fits = tt
carries (SetMoment at) fits = tt
carries Stat fits = tt
carries Restart fits = tt
carries RestartWithoutJournal fits = tt
carries End fits = tt

-- the payload of a frame among bytes, and what follows it
payload_bytes : (f : InFrame) (rest : List ℕ) → AreBytes (in_frame f ++ rest) → CarriesBytes f
payload_bytes f rest fits =
    let p = parts_of f in
    carries f (AreBytes-left p.payload rest (AreBytes-right (header p.kind p.session (length p.payload)) (p.payload ++ rest) (subst AreBytes (frame-parts p rest) fits)))

-- a frame is the end, or has a step
end_or_step : (f : InFrame) → (f ≡ End) ⊎ IsStep f
end_or_step (Begin session) = inr tt
end_or_step (Bytes session payload) = inr tt
end_or_step (Close session) = inr tt
end_or_step (SetMoment at) = inr tt
end_or_step Stat = inr tt
end_or_step Restart = inr tt
end_or_step RestartWithoutJournal = inr tt
end_or_step End = inl refl

-- ---- behind the magic

-- how frames stop at the beginning of these bytes, of which no more than so many are handled
data StopsFrom (budget : ℕ) (frames : List InFrame) (left : List ℕ) : Type 0 where
  ends : length frames < budget → (rest : List ℕ) → left ≡ in_frames frames ++ (in_frame End ++ rest) → StopsFrom budget frames left
  refused : length frames < budget → (taken rest : List ℕ) → IsRefused taken → left ≡ in_frames frames ++ (taken ++ rest) → StopsFrom budget frames left
  cut : length frames < budget → (taken : List ℕ) → IsCutShort taken → left ≡ in_frames frames ++ taken → StopsFrom budget frames left
  full : length frames ≡ budget → (rest : List ℕ) → left ≡ in_frames frames ++ rest → StopsFrom budget frames left

-- a reading of these bytes from this state
record ReadsFrom (s : State) (budget : ℕ) (left : List ℕ) : Type 0 where
  frames : List InFrame
  answers : List OutFrame
  last : State
  formed : AllByRecursion IsInFrame frames
  steps : Steps Ample s frames answers last
  stops : StopsFrom budget frames left

-- that handles nothing
reads_none : (s : State) (budget : ℕ) (left : List ℕ) → StopsFrom budget [] left → ReadsFrom s budget left
reads_none s budget left stops = record { frames = []; answers = []; last = s; formed = tt; steps = (refl, refl); stops = stops }

-- one frame before
stops_on : (budget : ℕ) (f : InFrame) (frames : List InFrame) (left rest : List ℕ) → left ≡ in_frame f ++ rest → StopsFrom budget frames rest → StopsFrom (suc budget) (f ∷ frames) left
stops_on budget f frames left rest e (ends few back is) =
    ends (omega arith) back (e ∙ ap (λ (x : List ℕ). in_frame f ++ x) is ∙ sym (append_assoc (in_frame f) (in_frames frames) (in_frame End ++ back)))
stops_on budget f frames left rest e (refused few taken back no_one is) =
    refused (omega arith) taken back no_one (e ∙ ap (λ (x : List ℕ). in_frame f ++ x) is ∙ sym (append_assoc (in_frame f) (in_frames frames) (taken ++ back)))
stops_on budget f frames left rest e (cut few taken short is) =
    cut (omega arith) taken short (e ∙ ap (λ (x : List ℕ). in_frame f ++ x) is ∙ sym (append_assoc (in_frame f) (in_frames frames) taken))
stops_on budget f frames left rest e (full all back is) =
    full (omega arith) back (e ∙ ap (λ (x : List ℕ). in_frame f ++ x) is ∙ sym (append_assoc (in_frame f) (in_frames frames) back))

reads_on : (s t : State) (budget : ℕ) (f : InFrame) (outs : List OutFrame) (left rest : List ℕ) → IsInFrame f → Step Ample s f outs t → left ≡ in_frame f ++ rest
    → ReadsFrom t budget rest → ReadsFrom s (suc budget) left
reads_on s t budget f outs left rest formed step e reads = record {
  frames = f ∷ reads.frames;
  answers = outs ++ reads.answers;
  last = reads.last;
  formed = (formed, reads.formed);
  steps = (t, outs, reads.answers, step, reads.steps, refl);
  stops = stops_on budget f reads.frames left rest e reads.stops;
}

-- what a frame leads to is known beforehand, on a site that tells what it has
seen : (told : Bool) (f : InFrame) → told ≡ true → IsForeseen told f
seen told (Begin session) is = tt
seen told (Bytes session payload) is = tt
seen told (Close session) is = tt
seen told (SetMoment at) is = tt
seen told Stat is = tt
seen told Restart is = is
seen told RestartWithoutJournal is = is
seen told End is = tt

-- where the bytes begin with a frame
from_frame : (budget : ℕ) (s : State) (left : List ℕ) (f : InFrame) (rest : List ℕ) → IsInFrame f → left ≡ in_frame f ++ rest → AreBytes left → s.told ≡ true → HasByteStreams s
    → ((t : State) → t.told ≡ true → HasByteStreams t → ReadsFrom t budget rest) → ReadsFrom s (suc budget) left
from_frame budget s left f rest formed e fits told has next =
    elim (end_or_step f) [
      | inl end ↦ reads_none s (suc budget) left (ends (omega arith) rest (e ∙ ap (λ (x : InFrame). in_frame x ++ rest) end))
      | inr steps ↦
          let step = step_some Ample s f has (payload_bytes f rest (subst AreBytes e fits)) (seen s.told f told) steps in
          reads_on s step.1 budget f step.0 left rest formed step.3 e (next step.1 (step_tells Ample s step.1 f step.0 step.3 ∙ told) step.2)
    ]

-- what follows a frame is shorter
rest_shorter : (f : InFrame) (left rest : List ℕ) → IsInFrame f → left ≡ in_frame f ++ rest → length rest < length left
rest_shorter f left rest formed e = omega (arith, ap length e, length-append (in_frame f) rest, (in_frame_bound f formed).0)

-- each list of bytes, from each state whose streams are bytes
reads_from : (fuel budget : ℕ) (s : State) (left : List ℕ) → length left ≤ fuel → AreBytes left → s.told ≡ true → HasByteStreams s → ReadsFrom s budget left
reads_from fuel zero s left long fits told has = reads_none s 0 left (full refl left refl)
reads_from zero (suc budget) s left long fits told has = reads_none s (suc budget) left (cut (omega arith) left (within_header (omega arith)) refl)
reads_from (suc fuel) (suc budget) s left long fits told has =
    elim (begins left fits) [
      | with_frame f rest formed e ↦
          from_frame budget s left f rest formed e fits told has
          (λ t same p. reads_from fuel budget t rest (omega (arith, long, rest_shorter f left rest formed e)) (AreBytes-right (in_frame f) rest (subst AreBytes e fits)) same p)
      | with_refused taken rest no_one e ↦ reads_none s (suc budget) left (refused (omega arith) taken rest no_one e)
      | cut_short short ↦ reads_none s (suc budget) left (cut (omega arith) left short refl)
    ]

-- ---- from the magic on

-- a reading of some status
abbrev HasReading : Found → List ℕ → Type 0
HasReading found bytes =
    (course : Course) × (status : Status) × (rest : List ℕ) × (course.first ≡ start true found) × IsReading Ample bytes course status rest

-- what is told was taken
took : (bytes taken rest : List ℕ) → bytes ≡ taken ++ rest → Took (record { had = Some bytes; left = Some rest }) taken
took bytes taken rest e = ap Some e

-- the bytes behind the magic, as those of a recording
taken_behind : (bytes left : List ℕ) (frames : List InFrame) (next rest : List ℕ) → bytes ≡ magic ++ left → left ≡ in_frames frames ++ (next ++ rest)
    → Took (record { had = Some bytes; left = Some rest }) (recording frames next)
taken_behind bytes left frames next rest e is =
    took bytes (recording frames next) rest
    (e ∙ ap (λ (x : List ℕ). magic ++ x) is ∙ sym (append_assoc magic (in_frames frames) (next ++ rest)) ∙ sym (append_assoc (magic ++ in_frames frames) next rest))

behind_magic : (found : Found) (bytes left : List ℕ) (frames : List InFrame) (answers : List OutFrame) (last : State) → bytes ≡ magic ++ left → AllByRecursion IsInFrame frames
    → Steps Ample (start true found) frames answers last → StopsFrom frame_limit frames left → HasReading found bytes
behind_magic found bytes left frames answers last e formed steps stops =
    let course : Course = record { first = start true found; frames = frames; answers = answers; last = last } in
    let handled : IsCourse Ample course = record { formed = formed; steps = steps } in
    elim stops [
      | ends few rest is ↦ (course, Done, rest, refl, record { handled = handled; read = (few, taken_behind bytes left frames (in_frame End) rest e is) })
      | refused few taken rest no_one is ↦
          (course, Malformed (8 + length (in_frames frames)), rest, refl, record { handled = handled; read = (few, no_frame taken refl no_one (taken_behind bytes left frames taken rest e is)) })
      | cut few taken short is ↦
          let all : left ≡ in_frames frames ++ (taken ++ []) = is ∙ ap (λ (x : List ℕ). in_frames frames ++ x) (sym (append-nil taken)) in
          (course, Early, [], refl, record { handled = handled; read = (few, within_frame taken short (taken_behind bytes left frames taken [] e all), refl) })
      | full all rest is ↦ (course, Long, rest, refl, record { handled = handled; read = (all, taken_behind bytes left frames [] rest e is) })
    ]

-- nothing was handled
none_handled : (found : Found) → IsCourse Ample (no_course (start true found))
none_handled found = record { formed = tt; steps = (refl, refl) }

-- bytes that are no magic, or too few for it
before_frames : (found : Found) (bytes : List ℕ) → length bytes < 8 → HasReading found bytes
before_frames found bytes short = (
  no_course (start true found),
  Early,
  [],
  refl,
  record { handled = none_handled found; read = (omega arith, within_magic bytes refl short (took bytes bytes [] (sym (append-nil bytes))), refl) },
)

no_magic : (found : Found) (bytes : List ℕ) → 8 ≤ length bytes → take 8 bytes ≢ magic → HasReading found bytes
no_magic found bytes long other =
    let read = other_magic (take 8 bytes) refl refl (length-take-le 8 bytes long) other (took bytes (take 8 bytes) (drop 8 bytes) (sym (take-append-drop 8 bytes))) in
    (no_course (start true found), Malformed 0, drop 8 bytes, refl, record { handled = none_handled found; read = (omega arith, read) })

pub reading_exists : (bytes : List ℕ) (found : Found) → AreBytes bytes → HasReading found bytes
reading_exists bytes found fits =
    elim (cases_lt (length bytes) 8) [
      | inl short ↦ before_frames found bytes short
      | inr long ↦ elim (cases_Bool (pointwise nat_eq (take 8 bytes) magic)) [
        | inr other ↦ no_magic found bytes long (other_text (take 8 bytes) magic (sym other))
        | inl same ↦
            let left : List ℕ = drop 8 bytes in
            let parts : bytes ≡ magic ++ left = sym (take-append-drop 8 bytes) ∙ ap (λ (x : List ℕ). x ++ left) (same_text (take 8 bytes) magic (sym same)) in
            let reads = reads_from (length left) frame_limit (start true found) left (omega arith) (AreBytes-drop 8 bytes fits) refl (start_has found) in
            behind_magic found bytes left reads.frames reads.answers reads.last parts reads.formed reads.steps reads.stops
      ]
    ]

-- a recording has a reading, and no two
pub has_one_reading : (bytes : List ℕ) → HasOneReading bytes
has_one_reading bytes = record { some = reading_exists bytes; one = one_reading bytes; any = any_reading bytes; told = told_reading bytes }
