-- How a run begins, and how it ends before its first frame.
use Rattle.std.proofs.Common.{◌≡◌, ◌≢◌, ◌⊎◌, inl, inr, ◌≤◌, ◌∙◌, sym, ℕ, true, false, eqb, Option, None, Some, Result, Ok, Err, List, [], length, take, OnOk, OnErr, IsErrOf, refl, subst, arith}
use Rattle.std.specs.Result.{is_err}
use Rattle.std.proofs.lemmas.List.{length-take}
use lib.Pointwise.{pointwise}
use Rattle.sky_base.specs.declared.status.Status.{Status}
use Rattle.sky_base.specs.declared.status.Status.TheVariants as status
use Rattle.sky_outside.specs.CloudMap.{CloudMap}
use Rattle.sky_outside.specs.Count.{Counts, Rose}
use Rattle.sky_outside.specs.Moments.{NothingPending}
use Rattle.sky_outside.specs.Told.{HadPart, Given, GivenPart}
use Rattle.sky_outside.specs.declared.storage.Storage.{Ghosts}
use Rattle.sky_outside.proofs.ToldLaws.{Given-then}
use Rattle.sky_recover.specs.Opening.{Found, IsFoundOn, LeavesFound, WhereBothTold}
use Rattle.sky_script.specs.Frame.{out_frame, magic}
use Rattle.sky_script.specs.Beginning.{HadSome}
use Rattle.sky_script.specs.declared.reading.FrameFault.{FrameFault}
use Rattle.sky_script.specs.declared.reading.FrameFault.TheVariants as fault
use Rattle.sky_settings.specs.declared.settings.Fields.{Fields}
use Rattle.sky_sound.specs.Boot.{Claims, MayClaim}
use Rattle.sky_world.specs.Meaning.{opening, start}
use Rattle.sky_world.specs.Opening.{IsOfOpening, IsRefusedAs, LeavesCloudAs, LeavesRefusedAs}
use Rattle.sky_world.specs.World.{ClaimsFailed, WorldView, Stands, tells}
use Rattle.sky_world.proofs.FindingLaws.{both_told_from}
use Rattle.bluesky.specs.Run.{SourceUse, SinkUse, other_magic, within_magic, GaveEnding, GaveUnopened, IsOfDamage, SinkCounts, at_opening, Course, EndsBy, LastStep, Ran, RanOn, RanUnopened, end_at, no_course, session_bytes}
use Rattle.bluesky.specs.Stop.{magic_status_of, NoMagic, IsShort, Opened}
use Rattle.bluesky.proofs.Going.{nothing_handled, session-nothing}
use Rattle.bluesky.proofs.Leaving.{opened_run}
use Rattle.bluesky.proofs.Sites.{found_none}
use Rattle.bluesky.proofs.Stopping.{ending_then, part_then, ran_as, rose_on}

pub on_err_at : {X E P : Type 0} (r : Result X E) → is_err r ≡ true → OnErr r P → P
on_err_at (Ok x) e p = absurd cc
on_err_at (Err d) e p = p

pub on_ok_at : {X E P : Type 0} (r : Result X E) → is_err r ≡ false → OnOk r P → P
on_ok_at (Ok x) e p = p
on_ok_at (Err d) e p = absurd cc

-- an error that is told is the one that there was
pub same_err : {X Y E : Type 0} (r : Result X E) (y d e : E) → r ≡ Err y → y ≡ d → r ≡ Err e → IsErrOf {T = Y} {E = E} (Err d) e
same_err r y d e is from told = cc

-- the same status
pub gave_as : (sink : SinkUse) (body : List ℕ) (s t : Status) → s ≡ t → GaveEnding sink body s → GaveEnding sink body t
gave_as sink body s t is gave = subst (λ (x : Status). GaveEnding sink body x) is gave

-- a test that told bytes from the magic
pub told_from_magic : (read : List ℕ) → false ≡ pointwise eqb read magic → read ≢ magic
told_from_magic read test same = let h : false ≡ pointwise eqb magic magic = subst (λ (x : List ℕ). false ≡ pointwise eqb x magic) same test in absurd cc

-- a part of eight bytes is fewer
pub had_short : (a b : Option (List ℕ)) (bytes : List ℕ) → length bytes ≡ 8 → HadPart a b bytes → HadSome IsShort a b
had_short a b bytes long part = (take part.0 bytes, omega (arith, part.1, length-take part.0 bytes), part.2)

-- ---- the opening

-- the magic, and the frame of the opening
pub opening_whole : (found : Found) (a b c : Option (List ℕ)) → Given a b magic → Given b c (out_frame (opening found)) → Given a c (session_bytes found [])
opening_whole found a b c given more = subst (λ (x : List ℕ). Given a c x) (session-nothing found) (Given-then a b c magic (out_frame (opening found)) given more)

-- ---- a run that did not open its site

-- the other statuses are refused by nothing that a site has
pub no_refusal : {S : Type 0} (g : Ghosts S) (settings : Fields) (s : S) (v : Status) → ((image : List ℕ) (objects : CloudMap) → IsRefusedAs settings.volume settings.journal_area v image objects)
    → WhereBothTold g s (IsRefusedAs settings.volume settings.journal_area v)
no_refusal g settings s v holds = both_told_from g s (IsRefusedAs settings.volume settings.journal_area v) (λ image objects is held. holds image objects)

-- no epoch was claimed
pub unclaimed : (n : ℕ) (a : Option CloudMap) → MayClaim n a a
unclaimed n None = tt
unclaimed n (Some x) = inl refl

module _ {S : Type 0} (g : Ghosts S) (settings : Fields) (s : S) (nothing : NothingPending g s) where
  -- the words or the settings are refused
  pub ran_refused_words : (had before : Option (List ℕ)) (x z : ℕ)
      → Ran g settings s s status.Words (record { had = had; left = had }) (record { before = before; after = before; faults_before = x; faults_after = z })
  ran_refused_words had before x z = inl (record {
    took = refl;
    gave = refl;
    refused = no_refusal g settings s status.Words (λ image objects. tt);
    untouched = tt;
    leaves = found_none g settings s nothing;
    boots = unclaimed 1 (g.objects s);
  })

  pub ran_refused_settings : (had before : Option (List ℕ)) (x z : ℕ)
      → Ran g settings s s status.Settings (record { had = had; left = had }) (record { before = before; after = before; faults_before = x; faults_after = z })
  ran_refused_settings had before x z = inl (record {
    took = refl;
    gave = refl;
    refused = no_refusal g settings s status.Settings (λ image objects. tt);
    untouched = tt;
    leaves = found_none g settings s nothing;
    boots = unclaimed 1 (g.objects s);
  })

  -- the sink failed at the magic
  pub ran_unwritten : (v : Status) (had before after : Option (List ℕ)) (x z : ℕ) → v ≡ status.SinkFault → GivenPart before after magic
      → Ran g settings s s v (record { had = had; left = had }) (record { before = before; after = after; faults_before = x; faults_after = z })
  ran_unwritten v had before after x z is part =
      let at : SinkUse = record { before = before; after = after; faults_before = x; faults_after = z } in
      let of : RanUnopened g settings s s status.SinkFault (record { had = had; left = had }) at =
      record {
        took = refl;
        gave = record { kept = part.0; less = part.1; given = part.2 };
        refused = no_refusal g settings s status.SinkFault (λ image objects. tt);
        untouched = tt;
        leaves = found_none g settings s nothing;
        boots = unclaimed 1 (g.objects s);
      } in
      inl (subst (λ (w : Status). RanUnopened g settings s s w (record { had = had; left = had }) at) (sym is) of)

-- the last frame, by a status of an opening
gave_unopened : (v : Status) (sink : SinkUse) → IsOfOpening v → GaveEnding sink magic v → GaveUnopened v sink
gave_unopened status.Memory sink of gave = gave
gave_unopened status.JournalFault sink of gave = gave
gave_unopened status.CloudFault sink of gave = gave
gave_unopened (status.Foreign at) sink of gave = gave
gave_unopened (status.Missing name) sink of gave = gave
gave_unopened (status.Damaged name damage) sink of gave = gave
gave_unopened status.Worn sink of gave = gave
gave_unopened status.Done sink of gave = absurd of
gave_unopened status.Words sink of gave = absurd of
gave_unopened (status.Malformed at) sink of gave = absurd of
gave_unopened status.Early sink of gave = absurd of
gave_unopened status.SourceFault sink of gave = absurd of
gave_unopened status.SinkFault sink of gave = absurd of
gave_unopened status.Long sink of gave = absurd of
gave_unopened status.Settings sink of gave = absurd of

-- a status of an opening blames no sink
of_not_sink : (v : Status) → IsOfOpening v → v ≡ status.SinkFault → ⊥
of_not_sink v of is = subst IsOfOpening is of

of_not_done : (v : Status) → IsOfOpening v ⊎ (v ≡ status.SinkFault) → v ≡ status.Done → ⊥
of_not_done v (inl of) is = subst IsOfOpening is of
of_not_done v (inr sink) is = absurd cc

-- ---- a run that handled no frame

-- from s to t the site was opened, which found this; then the source was left so, and the sink was given this
module _ {S : Type 0} (g : Ghosts S) (settings : Fields) (s t : S) (found : Found) (on : IsFoundOn g settings.volume settings.journal_area s found) (leaves : LeavesFound g settings.volume settings.journal_area s t)
    (claims : Claims 1 (g.objects s) (g.objects t)) where
  abbrev course : Course
  course = no_course (start (tells g s) found)

  ran_none : (v : Status) (source : SourceUse) (sink : SinkUse) → EndsBy v (record { source = source; sink = sink; found = found }) course (end_at course)
      → ((v ≡ status.SinkFault) × (course.frames ≡ [])) ⊎ LastStep g s t course.last v (end_at course) → RanOn g settings s t v source sink
  ran_none v source sink ends step = record {
    found = found;
    course = course;
    end = end_at course;
    opened = on;
    begins = refl;
    handled = nothing_handled (start (tells g s) found);
    ends = ends;
    last_step = step;
    leaves = opened_run g settings s t found (tells g s) on leaves claims;
  }

  -- the sink failed at the frame of the opening
  pub ran_cut : (had before mid after : Option (List ℕ)) (x z : ℕ) → Given before mid magic → GivenPart mid after (out_frame (opening found))
      → RanOn g settings s t status.SinkFault (record { had = had; left = had }) (record { before = before; after = after; faults_before = x; faults_after = z })
  ran_cut had before mid after x z given part =
      ran_none status.SinkFault (record { had = had; left = had }) (record { before = before; after = after; faults_before = x; faults_after = z })
      (omega arith, at_opening refl refl refl (part_then before mid after x z magic (out_frame (opening found)) given part)) (inl (refl, refl))

-- the site was left as the opening left it
rests : {S : Type 0} (g : Ghosts S) (settings : Fields) (s t : S) (found : Found) (world : WorldView) (v : Status) → LeavesCloudAs g t t v → Opened g settings s t found → Stands g world t (start (tells g s) found)
    → LastStep g s t (start (tells g s) found) v (end_at (no_course (start (tells g s) found)))
rests g settings s t found world v beside opened stands = record {
  world = world;
  site = t;
  stands = stands;
  disk = opened.disk;
  cloud = opened.cloud;
  untouched = λ e. absurd cc;
  untouched_cloud = beside;
}

-- the source doesn't begin with the magic
pub ran_otherwise : {S : Type 0} (g : Ghosts S) (settings : Fields) (s t : S) (found : Found) (world : WorldView) → Opened g settings s t found → Stands g world t (start (tells g s) found)
    → (f : FrameFault) (v : Status) (had left before after : Option (List ℕ)) (x z : ℕ) → v ≡ magic_status_of f → NoMagic f had left
    → GaveEnding (record { before = before; after = after; faults_before = x; faults_after = z }) (session_bytes found []) (magic_status_of f)
    → RanOn g settings s t v (record { had = had; left = left }) (record { before = before; after = after; faults_before = x; faults_after = z })
ran_otherwise g settings s t found world opened stands fault.Malformed v had left before after x z is none ending =
    let source : SourceUse = record { had = had; left = left } in
    let sink : SinkUse = record { before = before; after = after; faults_before = x; faults_after = z } in
    ran_as g settings s t v (status.Malformed 0) source sink is
    (ran_none g settings s t found opened.found_on opened.leaves opened.claims (status.Malformed 0) source sink
    ((omega arith, other_magic none.0 refl refl none.1.0 none.1.1 none.2), record { gave = ending; end_is = refl })
    (inr (rests g settings s t found world (status.Malformed 0) tt opened stands)))
ran_otherwise g settings s t found world opened stands fault.Early v had left before after x z is none ending =
    let source : SourceUse = record { had = had; left = left } in
    let sink : SinkUse = record { before = before; after = after; faults_before = x; faults_after = z } in
    let some = none.0 in
    ran_as g settings s t v status.Early source sink is
    (ran_none g settings s t found opened.found_on opened.leaves opened.claims status.Early source sink
    ((omega arith, within_magic some.0 refl some.1 some.2, none.1), record { gave = ending; end_is = refl })
    (inr (rests g settings s t found world status.Early tt opened stands)))
ran_otherwise g settings s t found world opened stands fault.SourceFault v had left before after x z is none ending =
    let source : SourceUse = record { had = had; left = left } in
    let sink : SinkUse = record { before = before; after = after; faults_before = x; faults_after = z } in
    ran_as g settings s t v status.SourceFault source sink is
    (ran_none g settings s t found opened.found_on opened.leaves opened.claims status.SourceFault source sink
    (omega arith, within_magic none.0 refl none.1 none.2, record { gave = ending; end_is = refl })
    (inr (rests g settings s t found world status.SourceFault tt opened stands)))

-- from another count of its sink's faults, which is the same
pub ran_counted : {S : Type 0} (g : Ghosts S) (settings : Fields) (s t : S) (v : Status) (source : SourceUse) (before after : Option (List ℕ)) (x y z : ℕ) → y ≡ x
    → RanOn g settings s t v source (record { before = before; after = after; faults_before = y; faults_after = z })
    → Ran g settings s t v source (record { before = before; after = after; faults_before = x; faults_after = z })
ran_counted g settings s t v source before after x y z same ran =
    inr (subst (λ (n : ℕ). RanOn g settings s t v source (record { before = before; after = after; faults_before = n; faults_after = z })) same ran)

-- ---- a run whose opening failed

-- an opening that failed claimed one epoch at most
opening_claims : (v : Status) (a b : Option CloudMap) → IsOfOpening v → ClaimsFailed v 1 a b → MayClaim 1 a b
opening_claims status.Memory a b of claims = claims
opening_claims status.JournalFault a b of claims = claims
opening_claims status.CloudFault a b of claims = claims
opening_claims (status.Foreign at) a b of claims = claims
opening_claims (status.Missing name) a b of claims = claims
opening_claims (status.Damaged name damage) a b of claims = claims
opening_claims status.Worn a b of claims = claims
opening_claims status.Done a b of claims = absurd of
opening_claims status.Words a b of claims = absurd of
opening_claims (status.Malformed at) a b of claims = absurd of
opening_claims status.Early a b of claims = absurd of
opening_claims status.SourceFault a b of claims = absurd of
opening_claims status.SinkFault a b of claims = absurd of
opening_claims status.Long a b of claims = absurd of
opening_claims status.Settings a b of claims = absurd of

-- The sink had been given before, then the magic, what the opening gave it, and what followed it; its count was x up to the opening, y behind it, and z at the end.
module _ {X S : Type 0} (g : Ghosts S) (settings : Fields) (s t : S) (had before mid more after : Option (List ℕ)) (x y z : ℕ) (r : Result X Status) (d w : Status) (is : r ≡ Err d) (told : w ≡ d) where
  abbrev source_then : SourceUse
  source_then = record { had = had; left = had }

  abbrev sink_then : SinkUse
  sink_then = record { before = before; after = after; faults_before = x; faults_after = z }

  pub ran_failed : LeavesFound g settings.volume settings.journal_area s t → Given before mid magic → IsOfOpening d ⊎ (d ≡ status.SinkFault) → (IsOfOpening d → more ≡ mid)
      → (IsErrOf r status.SinkFault → (found : Found) × IsFoundOn g settings.volume settings.journal_area s found × GivenPart mid more (out_frame (opening found)))
      → WhereBothTold g s (IsRefusedAs settings.volume settings.journal_area d) → LeavesRefusedAs g s t d → ClaimsFailed d 1 (g.objects s) (g.objects t)
      → Counts x y (IsErrOf r status.SinkFault) → (d ≡ status.SinkFault → after ≡ more)
      → (d ≢ status.SinkFault → GaveEnding (record { before = more; after = after; faults_before = y; faults_after = z }) [] d)
      → Ran g settings s t w source_then sink_then
  ran_failed leaves given (inl of) unwritten partly refused untouched claims counts sunk last =
      let still : y ≡ x = counts.quiet (λ blamed. of_not_sink d of (let e : d ≡ status.SinkFault = cc in e)) in
      let same : more ≡ mid = unwritten of in
      let there : Given before more magic = subst (λ (b : Option (List ℕ)). Given before b magic) (sym same) given in
      let ending : GaveEnding sink_then magic d = ending_then before more after x y z magic d still there (last (of_not_sink d of)) in
      let ran : RanUnopened g settings s t d source_then sink_then =
      record {
        took = refl;
        gave = gave_unopened d sink_then of ending;
        refused = refused;
        untouched = untouched;
        leaves = leaves;
        boots = opening_claims d (g.objects s) (g.objects t) of claims;
      } in
      inl (subst (λ (v : Status). RanUnopened g settings s t v source_then sink_then) (sym told) ran)
  ran_failed leaves given (inr sink) unwritten partly refused untouched claims counts sunk last =
      let blamed : r ≡ Err status.SinkFault = cc in
      let part = partly blamed in
      let claimed : Claims 1 (g.objects s) (g.objects t) = subst (λ (v : Status). ClaimsFailed v 1 (g.objects s) (g.objects t)) sink claims in
      let moved = subst (λ (b : Option (List ℕ)). GivenPart mid b (out_frame (opening part.0))) (sym (sunk sink)) part.2 in
      inr (ran_as g settings s t w status.SinkFault source_then sink_then (told ∙ sink) (ran_cut g settings s t part.0 part.1 leaves claimed had before mid after x z given moved))

  -- the counts of its sink
  pub failed_counts : IsOfOpening d ⊎ (d ≡ status.SinkFault) → Counts x y (IsErrOf r status.SinkFault) → y ≤ z → SinkCounts x z w
  failed_counts of counts grows = record {
    grows = omega (arith, counts.grows, grows);
    cause = λ e. let rose : Rose x y = counts.cause (let b : r ≡ Err status.SinkFault = cc in b) in rose_on x y z rose grows;
    quiet = λ e. absurd (of_not_done d of (sym told ∙ e));
  }

-- ---- counts of a run without frames

-- it blames the source exactly where the reading of the magic does
pub magic_blamed : (f : FrameFault) (s : Status) → s ≡ magic_status_of f → (s ≡ status.SourceFault → f ≡ fault.SourceFault) × (f ≡ fault.SourceFault → s ≡ status.SourceFault)
magic_blamed fault.Malformed s is = (λ e. absurd cc, λ e. absurd cc)
magic_blamed fault.Early s is = (λ e. absurd cc, λ e. absurd cc)
magic_blamed fault.SourceFault s is = (λ e. refl, λ e. is)

-- and says nothing of what the site had
pub magic_sound : (f : FrameFault) (s : Status) → s ≡ magic_status_of f → IsOfDamage s → ⊥
magic_sound fault.Malformed s is damage = subst IsOfDamage is damage
magic_sound fault.Early s is damage = subst IsOfDamage is damage
magic_sound fault.SourceFault s is damage = subst IsOfDamage is damage
