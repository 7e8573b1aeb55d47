-- How a run that stops comes to its end.
use Rattle.std.specs.Prelude.{slice_index_or}
use Rattle.std.proofs.Common.{◌≡◌, ◌≢◌, ◌+◌, ◌<◌, ◌≤◌, ◌⊎◌, inl, inr, ⊎_elim, ℕ, Bool, true, Option, None, Some, List, [], ◌∷◌, ◌++◌, length, take, refl, sym, ap, subst, ◌∙◌, append_assoc, arith}
use Rattle.std.proofs.lemmas.List.{append-nil}
use Rattle.std.proofs.lemmas.Bool.{true≢false}
use Rattle.sky_base.specs.declared.status.Status.{Status}
use Rattle.sky_base.specs.declared.status.Status.TheVariants as status
use Rattle.sky_outside.specs.Count.{Rose, Counts}
use Rattle.sky_outside.specs.Told.{Had, Given, GivenPart}
use Rattle.sky_outside.proofs.ToldLaws.{Given-then}
use Rattle.sky_outside.specs.declared.storage.Storage.{Ghosts}
use Rattle.sky_recover.specs.Opening.{Found}
use Rattle.sky_script.specs.Frame as frame
use Rattle.sky_script.specs.Frame.{InFrame, OutFrame, Begin, Bytes, End as EndFrame, Restart, Ended, IsInFrame, session_count, in_frame, in_frames, out_frame, out_frames, magic}
use Rattle.sky_outside.specs.CloudMap.{CloudMap}
use Rattle.sky_settings.specs.declared.settings.Fields.{Fields}
use Rattle.sky_sound.specs.Boot.{Claims, MayClaim}
use Rattle.sky_world.specs.Finding as finding
use Rattle.sky_world.specs.Finding.{floor_of}
use Rattle.sky_world.specs.Meaning as meaning
use Rattle.sky_world.specs.Meaning.{State, Scarce, session_at, start}
use Rattle.sky_world.specs.Opening.{IsOfOpening, LeavesCloudAs, LeavesRefusedAs, MayRefuse}
use Rattle.sky_world.specs.World as world
use Rattle.sky_world.specs.World.{IsRestart, WorldView, SinkGot, SteppedDown, SessionStandsFor, restarts_by, tells}
use Rattle.sky_world.specs.declared.sessions.Session.{Session}
use Rattle.sky_world.specs.declared.sessions.Session.TheVariants as slot
use Rattle.bluesky.specs.Run.{frame_limit, Course, End, FindsAtEnd, LeftInLast, IsOfDamage, IsReplayed, SourceUse, SinkUse, Used, no_frame, within_frame, GaveUpTo, GaveEnding, SinkCounts, AnswerFailed, at_answer, at_end, EndsInRestart, RecordFailed, BeginFailed, EndsBy, LeavesOfRun, RanOn, end_at, restarts_in, session_bytes}
use Rattle.bluesky.specs.Stop.{IsStop, MayStop, Opened, StepStopped, StoppedBy, Finishes}
use Rattle.bluesky.specs.declared.frames.Stop.{Stop}
use Rattle.bluesky.specs.declared.frames.Stop.TheVariants as stop
use Rattle.bluesky.proofs.Going.{Going, restarts_then, session_then, so_far, so_far_then, given_so_far}
use Rattle.bluesky.proofs.Leaving.{claims_with, finds_behind, leaves_still, leaves_within}

-- ---- the last frame, behind what was given before

pub ending_then : (a b c : Option (List ℕ)) (x y z : ℕ) (body : List ℕ) (s : Status) → y ≡ x → Given a b body
    → GaveEnding (record { before = b; after = c; faults_before = y; faults_after = z }) [] s → GaveEnding (record { before = a; after = c; faults_before = x; faults_after = z }) body s
ending_then a b c x y z body s same given ending = record {
  kept = ending.kept;
  given = Given-then a b c body (take ending.kept (out_frame (Ended s))) given ending.given;
  whole = λ all. ending.whole all ∙ same;
  cut = λ less. subst (λ (n : ℕ). Rose n z) same (ending.cut less);
}

-- a prefix of more, behind what was given before
pub up_to_then : (a b c : Option (List ℕ)) (x y z : ℕ) (body more : List ℕ) → Given a b body
    → GaveUpTo (record { before = b; after = c; faults_before = y; faults_after = z }) [] more → GaveUpTo (record { before = a; after = c; faults_before = x; faults_after = z }) body more
up_to_then a b c x y z body more given up = record { kept = up.kept; less = up.less; given = Given-then a b c body (take up.kept more) given up.given }

pub part_then : (a b c : Option (List ℕ)) (x z : ℕ) (body more : List ℕ) → Given a b body → GivenPart b c more
    → GaveUpTo (record { before = a; after = c; faults_before = x; faults_after = z }) body more
part_then a b c x z body more given part = record { kept = part.0; less = part.1; given = Given-then a b c body (take part.0 more) given part.2 }

-- the last frame of a run that was done, behind its answers
last_one : (found : Found) (answers : List OutFrame) (s : Status) → session_bytes found answers ++ out_frame (Ended s) ≡ session_bytes found (answers ++ Ended s ∷ [])
last_one found answers s = ap (λ (x : List ℕ). session_bytes found answers ++ x) (sym (append-nil (out_frame (Ended s)))) ∙ session_then found answers (Ended s ∷ [])

-- the same status
pub ran_as : {S : Type 0} (g : Ghosts S) (settings : Fields) (from to : S) (s t : Status) (source : SourceUse) (sink : SinkUse) → s ≡ t → RanOn g settings from to t source sink
    → RanOn g settings from to s source sink
ran_as g settings from to s t source sink is ran = subst (λ (x : Status). RanOn g settings from to x source sink) (sym is) ran

-- a frame in which a call of the disk failed has bytes of a session
pub down_bytes : {S : Type 0} (g : Ghosts S) (world : WorldView) (s t : S) (f : InFrame) (sink : SinkGot) → SteppedDown g world s f t sink
    → (session : ℕ) × (payload : List ℕ) × (f ≡ Bytes session payload) × SteppedDown g world s (Bytes session payload) t sink
down_bytes g world s t (frame.Bytes session payload) sink down = (session, payload, refl, down)
down_bytes g world s t (frame.Begin session) sink down = absurd down
down_bytes g world s t (frame.Close session) sink down = absurd down
down_bytes g world s t (frame.SetMoment at) sink down = absurd down
down_bytes g world s t frame.Stat sink down = absurd down
down_bytes g world s t frame.Restart sink down = absurd down
down_bytes g world s t frame.RestartWithoutJournal sink down = absurd down
down_bytes g world s t frame.End sink down = absurd down

-- a session of the world that has not begun stands for one that has not
absent_stands : (mine : Session) (theirs : meaning.Session) → mine ≡ slot.Absent → SessionStandsFor mine theirs → theirs ≡ meaning.Absent
absent_stands slot.Absent meaning.Absent is stands = refl
absent_stands slot.Absent (meaning.Open stream) is stands = absurd stands
absent_stands slot.Absent meaning.Closed is stands = absurd stands
absent_stands (slot.Open received) theirs is stands = absurd cc
absent_stands (slot.Closed received) theirs is stands = absurd cc

-- what may have been claimed was, or was not
claimed_or_not : (n : ℕ) (a b : Option CloudMap) → MayClaim n a b → Claims 0 a b ⊎ Claims n a b
claimed_or_not n None None may = inl tt
claimed_or_not n (Some x) (Some y) (inl same) = inl same
claimed_or_not n (Some x) (Some y) (inr claims) = inr claims
claimed_or_not n None (Some y) may = absurd may
claimed_or_not n (Some x) None may = absurd may

-- ---- a run that stops

-- The site was s at the beginning, s0 when the frames began, s1 before the last call, and s2 behind it. The source was left at l0, l1
-- and l2 then; the sink was given g0, g1, g2 then, and g3 at the end. Its count was x up to that call, y behind it, and z at the end.
module _ {S : Type 0} (g : Ghosts S) (settings : Fields) (told : Bool) (found : Found) (of : WorldView) (s s0 s1 s2 : S) (had l0 l1 l2 before g0 g1 g2 g3 : Option (List ℕ)) (place count x y z : ℕ)
    (opened : Opened g settings s s0 found) (begun : Had had l0 magic) (given : Given before g0 (session_bytes found []))
    (going : Going g settings told found of s0 s1 l0 l1 g0 g1 place count) (few : count < frame_limit) (disk : g.disk_faults s1 ≡ g.disk_faults s0) (cloud : g.cloud_faults s1 ≡ g.cloud_faults s0) where
  abbrev source : SourceUse
  source = record { had = had; left = l2 }

  abbrev sink : SinkUse
  sink = record { before = before; after = g3; faults_before = x; faults_after = z }

  abbrev used : Used
  used = record { source = source; sink = sink; found = found }

  abbrev finished : SinkUse
  finished = record { before = g2; after = g3; faults_before = y; faults_after = z }

  abbrev got : SinkGot
  got = record { before = g1; after = g2 }

  abbrev course : Course
  course = going.course

  -- a run that ended behind the frames that were handled
  ran : (v : Status) (end : End) → LeavesOfRun g settings s s2 course end → EndsBy v used course end → (end.restart ≡ Some Restart → LeavesRefusedAs g s1 s2 v) → LeavesCloudAs g s1 s2 v
      → RanOn g settings s s2 v source sink
  ran v end leaves ends untouched beside =
      record {
        found = found;
        course = course;
        end = end;
        opened = opened.found_on;
        begins = going.begins ∙ ap (λ (b : Bool). start b found) (going.told_then ∙ opened.tells);
        handled = going.handled;
        ends = ends;
        last_step = inr (record {
          world = of;
          site = s1;
          stands = going.stands;
          disk = disk ∙ opened.disk;
          cloud = cloud ∙ opened.cloud;
          untouched = untouched;
          untouched_cloud = beside;
        });
        leaves = leaves;
      }

  -- the site was left alone since
  still : s2 ≡ s1 → LeavesOfRun g settings s s2 course (end_at course)
  still same = subst (λ (t : S). LeavesOfRun g settings s t course (end_at course)) (sym same) (leaves_still g settings told found of s s0 s1 l0 l1 g0 g1 place count opened going)

  -- such a run
  ran_still : (v : Status) → LeavesCloudAs g s1 s2 v → s2 ≡ s1 → EndsBy v used course (end_at course) → RanOn g settings s s2 v source sink
  ran_still v beside same ends = ran v (end_at course) (still same) ends (λ e. absurd cc) beside

  -- a frame was under way, which is cut behind a record
  within : (end : End) (f : InFrame) (outs : List OutFrame) → end.under_way ≡ Some (f, outs) → finding.LeavesWithin g s1 s2 course.last f outs → finding.FindsBehind g s1 s2 end.epoch end.floor end.kept
      → Claims end.claims (g.objects s) (g.objects s2) → LeavesOfRun g settings s s2 course end
  within end f outs same leaves behind claims =
      leaves_within g settings told found of s s0 s1 l0 l1 g0 g1 place count opened going s2 end (finding.LeftWithin course.last f outs)
      (λ image objects p. inl (subst (λ (x : Option (InFrame × List OutFrame)). LeftInLast course.last x image objects) (sym same) p)) leaves behind claims

  -- a restart was
  within_restart : (end : End) → finding.LeavesFinding g s1 s2 end.epoch end.floor end.kept → Claims end.claims (g.objects s) (g.objects s2) → LeavesOfRun g settings s s2 course end
  within_restart end leaves claims =
      leaves_within g settings told found of s s0 s1 l0 l1 g0 g1 place count opened going s2 end (FindsAtEnd end) (λ image objects p. inr p) leaves
      (finds_behind g settings s1 s2 end.epoch end.floor end.kept leaves) claims

  -- with the epochs of the last frame
  with_frame : (f : InFrame) → Claims (restarts_by f) (g.objects s1) (g.objects s2) → Claims (1 + restarts_in (course.frames ++ f ∷ [])) (g.objects s) (g.objects s2)
  with_frame f claims = claims_with g settings told found of s s0 s1 l0 l1 g0 g1 place count opened going f s2 claims

  -- and without, where it claimed none
  without_frame : Claims 0 (g.objects s1) (g.objects s2) → Claims (1 + restarts_in course.frames) (g.objects s) (g.objects s2)
  without_frame claims =
      subst (λ (n : ℕ). Claims n (g.objects s) (g.objects s2)) (omega (arith, restarts_then course.frames EndFrame)) (with_frame EndFrame claims)

  are_few : length course.frames < frame_limit
  are_few = subst (λ (n : ℕ). n < frame_limit) (sym going.count_is) few

  given_then : Given before g1 (session_bytes found course.answers)
  given_then = given_so_far found before g0 g1 course.answers given going.written

  -- what was given before the last frame, where nothing was given since
  given_still : g2 ≡ g1 → Given before g2 (session_bytes found course.answers)
  given_still same = subst (λ (b : Option (List ℕ)). Given before b (session_bytes found course.answers)) (sym same) given_then

  -- the last frame behind it
  ending : (v : Status) → g2 ≡ g1 → y ≡ x → GaveEnding finished [] v → GaveEnding sink (session_bytes found course.answers) v
  ending v same quiet last = ending_then before g2 g3 x y z (session_bytes found course.answers) v quiet (given_still same) last

  -- what was taken, with what followed the frames
  took : (next : List ℕ) → Had l1 l2 next → Had had l2 (magic ++ in_frames course.frames ++ next)
  took next more = so_far_then had l0 l1 l2 course.frames next begun going.read more

  ran_done : (v : Status) → StoppedBy g stop.End of s1 s2 (record { had = l1; left = l2 }) got → Finishes stop.End place v finished → RanOn g settings s s2 v source sink
  ran_done v why (inl done) =
      let all = subst (λ (bytes : List ℕ). Given before g3 bytes) (last_one found course.answers status.Done)
      (Given-then before g2 g3 (session_bytes found course.answers) (out_frame (Ended status.Done)) (given_still why.1.0) done.1) in
      ran_as g settings s s2 v status.Done source sink done.0 (ran_still status.Done tt why.1.1 ((are_few, took (in_frame EndFrame) why.0), all, refl))
  ran_done v why (inr failed) =
      let up = up_to_then before g2 g3 x y z (session_bytes found course.answers) (out_frame (Ended status.Done)) (given_still why.1.0) failed.1 in
      ran_as g settings s s2 v status.SinkFault source sink failed.0 (ran_still status.SinkFault tt why.1.1 (are_few, at_end refl (took (in_frame EndFrame) why.0) up))

  ran_malformed : (v : Status) → y ≡ x → StoppedBy g stop.Malformed of s1 s2 (record { had = l1; left = l2 }) got → Finishes stop.Malformed place v finished → RanOn g settings s s2 v source sink
  ran_malformed v quiet why fin =
      let some = why.0 in
      ran_as g settings s s2 v (status.Malformed place) source sink fin.0
      (ran_still (status.Malformed place) tt why.1.1
      ((are_few, no_frame some.0 going.place_is some.1 (took some.0 some.2)), record { gave = ending (status.Malformed place) why.1.0 quiet fin.1; end_is = refl }))

  ran_early : (v : Status) → y ≡ x → StoppedBy g stop.Early of s1 s2 (record { had = l1; left = l2 }) got → Finishes stop.Early place v finished → RanOn g settings s s2 v source sink
  ran_early v quiet why fin =
      let some = why.0 in
      ran_as g settings s s2 v status.Early source sink fin.0
      (ran_still status.Early tt why.2.1
      ((are_few, within_frame some.0 some.1 (took some.0 some.2), why.1), record { gave = ending status.Early why.2.0 quiet fin.1; end_is = refl }))

  ran_source : (v : Status) → y ≡ x → StoppedBy g stop.SourceFault of s1 s2 (record { had = l1; left = l2 }) got → Finishes stop.SourceFault place v finished → RanOn g settings s s2 v source sink
  ran_source v quiet why fin =
      let some = why.0 in
      ran_as g settings s s2 v status.SourceFault source sink fin.0
      (ran_still status.SourceFault tt why.1.1
      (are_few, within_frame some.0 some.1 (took some.0 some.2), record { gave = ending status.SourceFault why.1.0 quiet fin.1; end_is = refl }))

  -- ---- a step failed

  -- the sink, at an answer to a frame
  ran_sink : (f : InFrame) → IsInFrame f → Had l1 l2 (in_frame f) → g3 ≡ g2 → Claims (restarts_by f) (g.objects s1) (g.objects s2) → world.SteppedPart g of s1 f s2 got
      → RanOn g settings s s2 status.SinkFault source sink
  ran_sink f formed read unwritten claims part =
      let went = part course.last going.stands in
      let under = went.under in
      let moved = subst (λ (b : Option (List ℕ)). Given g1 b (out_frames under.said ++ take went.kept (out_frames under.own))) (sym unwritten) went.given in
      let up : GaveUpTo sink (session_bytes found (course.answers ++ under.said)) (out_frames under.own) =
      record {
        kept = went.kept;
        less = went.less;
        given = subst (λ (bytes : List ℕ). Given before g3 bytes)
            (sym (append_assoc (session_bytes found course.answers) (out_frames under.said) (take went.kept (out_frames under.own)))
            ∙ ap (λ (bytes : List ℕ). bytes ++ take went.kept (out_frames under.own)) (session_then found course.answers under.said))
            (Given-then before g1 g3 (session_bytes found course.answers) (out_frames under.said ++ take went.kept (out_frames under.own)) given_then moved);
      } in
      let end : End = record {
        under_way = Some (f, under.said ++ under.own);
        epoch = under.next.epoch;
        floor = under.next.kept.mark;
        kept = under.next.kept;
        claims = 1 + restarts_in (course.frames ++ f ∷ []);
        restart = None;
      } in
      let failed : AnswerFailed used course end = record {
        f = f;
        formed = formed;
        under = under;
        rest = went.rest;
        new = went.last;
        step = went.goes_on;
        took = took (in_frame f) read;
        gave = up;
        end_is = refl;
      } in
      ran status.SinkFault end (within end f (under.said ++ under.own) refl went.leaves went.behind (with_frame f claims)) (are_few, at_answer failed) (λ e. absurd cc) tt

  -- the disk, in a record
  ran_record : (f : InFrame) → IsInFrame f → Had l1 l2 (in_frame f) → y ≡ x → GaveEnding finished [] status.JournalFault → MayClaim (restarts_by f) (g.objects s1) (g.objects s2) → SteppedDown g of s1 f s2 got
      → RanOn g settings s s2 status.JournalFault source sink
  ran_record f formed read quiet last claims step =
      let down = down_bytes g of s1 s2 f got step in
      let went = down.3 course.last going.stands in
      let under = went.under in
      let all = subst (λ (bytes : List ℕ). Given before g2 bytes) (session_then found course.answers under.said)
      (Given-then before g1 g2 (session_bytes found course.answers) (out_frames under.said) given_then went.given) in
      let bytes : InFrame = Bytes down.0 down.1 in
      let end : End = record {
        under_way = Some (bytes, under.said ++ under.own);
        epoch = course.last.epoch;
        floor = under.mid.kept.mark;
        kept = under.next.kept;
        claims = 1 + restarts_in course.frames;
        restart = None;
      } in
      let none : Claims 0 (g.objects s1) (g.objects s2) =
      ⊎_elim (λ n. n) (λ n. n) (claimed_or_not 0 (g.objects s1) (g.objects s2) (subst (λ (h : InFrame). MayClaim (restarts_by h) (g.objects s1) (g.objects s2)) down.2 claims)) in
      let failed : RecordFailed used course end =
      record {
        session = down.0;
        payload = down.1;
        formed = subst IsInFrame down.2 formed;
        under = under;
        unsaid = went.unsaid;
        own_is = went.own_is;
        took = subst (λ (h : InFrame). Had had l2 (magic ++ in_frames course.frames ++ in_frame h)) down.2 (took (in_frame f) read);
        gave = ending_then before g2 g3 x y z (session_bytes found (course.answers ++ under.said)) status.JournalFault quiet all last;
        end_is = refl;
      } in
      ran status.JournalFault end (within end bytes (under.said ++ under.own) refl went.leaves went.behind (without_frame none)) (are_few, inl failed) (λ e. absurd cc) tt

  -- there was no memory for a session
  ran_begin : (f : InFrame) → IsInFrame f → Had l1 l2 (in_frame f) → y ≡ x → GaveEnding finished [] status.Memory → world.BeginsFirst of f → world.DidNothing s1 s2 got → RanOn g settings s s2 status.Memory source sink
  ran_begin f formed read quiet last begins nothing =
      let failed : BeginFailed used course (end_at course) =
      record {
        session = begins.0;
        within = subst IsInFrame begins.1 formed;
        absent = absent_stands (slice_index_or of.sessions begins.0 slot.Absent) (session_at course.last begins.0) begins.2 (going.stands.sessions begins.0);
        took = took (in_frame (Begin begins.0)) (subst (λ (i : InFrame). Had l1 l2 (in_frame i)) begins.1 read);
        gave = ending status.Memory nothing.0 quiet last;
        end_is = refl;
      } in
      ran_still status.Memory tt nothing.1 (are_few, inl failed)

  -- a restart came to no end, and so many epochs were claimed
  abbrev restart_end : InFrame → ℕ → End
  restart_end f n = record { under_way = None; epoch = course.last.epoch; floor = floor_of f course.last; kept = course.last.kept; claims = n; restart = Some f }

  -- what it came to
  record RestartEnds (v : Status) : Type 0 where
    end : End
    ends : EndsInRestart used course v end
    leaves : LeavesOfRun g settings s s2 course end
    untouched : end.restart ≡ Some Restart → LeavesRefusedAs g s1 s2 v

  restart_ends : (v : Status) (f : InFrame) → MayRefuse v course.last → Had l1 l2 (in_frame f) → y ≡ x → GaveEnding finished [] v → MayClaim (restarts_by f) (g.objects s1) (g.objects s2)
      → (f ≡ Restart → LeavesRefusedAs g s1 s2 v) → world.RestartFailed g of s1 f s2 got → RestartEnds v
  restart_ends v f may read quiet last claims untouched failed =
      let plain : ℕ = 1 + restarts_in course.frames in
      let more : ℕ = 1 + restarts_in (course.frames ++ f ∷ []) in
      let with_claims = λ (n : ℕ) (either : (n ≡ plain) ⊎ (n ≡ more)) (claimed : Claims n (g.objects s) (g.objects s2)).
      let it : RestartEnds v = record {
        end = restart_end f n;
        ends = record { f = f; restart = failed.restart; cause = may; took = took (in_frame f) read; gave = ending v failed.unwritten quiet last; claims = either; end_is = refl };
        leaves = within_restart (restart_end f n) (failed.leaves course.last going.stands) claimed;
        untouched = λ e. untouched (let same : f ≡ Restart = cc in same);
      } in it in
      ⊎_elim (λ none. with_claims plain (inl refl) (without_frame none)) (λ one. with_claims more (inr refl) (with_frame f one)) (claimed_or_not (restarts_by f) (g.objects s1) (g.objects s2) claims)

  -- such a run, whichever its status is
  ran_restart : (v : Status) → ((end : End) → EndsInRestart used course v end → EndsBy v used course end) → LeavesCloudAs g s1 s2 v → RestartEnds v → RanOn g settings s s2 v source sink
  ran_restart v by beside it = ran v it.end it.leaves (by it.end it.ends) it.untouched beside

  ran_journal : (why : StepStopped g status.JournalFault of s1 s2 (record { had = l1; left = l2 }) got) → MayRefuse status.JournalFault course.last → y ≡ x → GaveEnding finished [] status.JournalFault
      → SteppedDown g of s1 why.f s2 got ⊎ world.RestartFailed g of s1 why.f s2 got → RanOn g settings s s2 status.JournalFault source sink
  ran_journal why may quiet last (inl down) = ran_record why.f why.formed why.took quiet last why.claims down
  ran_journal why may quiet last (inr failed) =
      ran_restart status.JournalFault (λ end ends. (are_few, inr ends)) why.untouched_cloud (restart_ends status.JournalFault why.f may why.took quiet last why.claims why.untouched failed)

  ran_memory : (why : StepStopped g status.Memory of s1 s2 (record { had = l1; left = l2 }) got) → MayRefuse status.Memory course.last → y ≡ x → GaveEnding finished [] status.Memory
      → (world.BeginsFirst of why.f × world.DidNothing s1 s2 got) ⊎ world.RestartFailed g of s1 why.f s2 got → RanOn g settings s s2 status.Memory source sink
  ran_memory why may quiet last (inl begins) = ran_begin why.f why.formed why.took quiet last begins.0 begins.1
  ran_memory why may quiet last (inr failed) =
      ran_restart status.Memory (λ end ends. (are_few, inr ends)) why.untouched_cloud (restart_ends status.Memory why.f may why.took quiet last why.claims why.untouched failed)

  -- a step failed with this status
  ran_failed : (how : Status) → MayRefuse how course.last → ((how ≡ status.SinkFault → ⊥) → y ≡ x) → (how ≡ status.SinkFault → g3 ≡ g2) → (how ≢ status.SinkFault → GaveEnding finished [] how)
      → StepStopped g how of s1 s2 (record { had = l1; left = l2 }) got → RanOn g settings s s2 how source sink
  ran_failed status.SinkFault may quiet sunk last why = ran_sink why.f why.formed why.took (sunk refl) why.claims why.failed
  ran_failed status.JournalFault may quiet sunk last why = ran_journal why may (quiet (λ e. cc)) (last (λ e. cc)) why.failed
  ran_failed status.Memory may quiet sunk last why = ran_memory why may (quiet (λ e. cc)) (last (λ e. cc)) why.failed
  ran_failed status.CloudFault may quiet sunk last why =
      ran_restart status.CloudFault (λ end ends. (are_few, ends)) why.untouched_cloud (restart_ends status.CloudFault why.f may why.took (quiet (λ e. cc)) (last (λ e. cc)) why.claims why.untouched why.failed)
  ran_failed (status.Foreign at) may quiet sunk last why =
      ran_restart (status.Foreign at) (λ end ends. (are_few, ends)) why.untouched_cloud (restart_ends (status.Foreign at) why.f may why.took (quiet (λ e. cc)) (last (λ e. cc)) why.claims why.untouched why.failed)
  ran_failed (status.Missing name) may quiet sunk last why =
      ran_restart (status.Missing name) (λ end ends. (are_few, ends)) why.untouched_cloud (restart_ends (status.Missing name) why.f may why.took (quiet (λ e. cc)) (last (λ e. cc)) why.claims why.untouched why.failed)
  ran_failed (status.Damaged name damage) may quiet sunk last why =
      ran_restart (status.Damaged name damage) (λ end ends. (are_few, ends)) why.untouched_cloud (restart_ends (status.Damaged name damage) why.f may why.took (quiet (λ e. cc)) (last (λ e. cc)) why.claims why.untouched why.failed)
  ran_failed status.Worn may quiet sunk last why =
      ran_restart status.Worn (λ end ends. (are_few, ends)) why.untouched_cloud (restart_ends status.Worn why.f may why.took (quiet (λ e. cc)) (last (λ e. cc)) why.claims why.untouched why.failed)
  ran_failed status.Done may quiet sunk last why = absurd why.failed
  ran_failed status.Words may quiet sunk last why = absurd why.failed
  ran_failed (status.Malformed at) may quiet sunk last why = absurd why.failed
  ran_failed status.Early may quiet sunk last why = absurd why.failed
  ran_failed status.SourceFault may quiet sunk last why = absurd why.failed
  ran_failed status.Long may quiet sunk last why = absurd why.failed
  ran_failed status.Settings may quiet sunk last why = absurd why.failed

  -- a run that stops, whatever for
  pub ran_stopped : (why : Stop) (v : Status) → MayStop why course.last → ((why ≡ stop.Failed status.SinkFault → ⊥) → y ≡ x) → StoppedBy g why of s1 s2 (record { had = l1; left = l2 }) got → Finishes why place v finished → RanOn g settings s s2 v source sink
  ran_stopped stop.End v may quiet by fin = ran_done v by fin
  ran_stopped stop.Malformed v may quiet by fin = ran_malformed v (quiet (λ e. cc)) by fin
  ran_stopped stop.Early v may quiet by fin = ran_early v (quiet (λ e. cc)) by fin
  ran_stopped stop.SourceFault v may quiet by fin = ran_source v (quiet (λ e. cc)) by fin
  ran_stopped (stop.Failed how) v may quiet by fin =
      ran_as g settings s s2 v how source sink fin.0
      (ran_failed how may (λ other. quiet (λ e. other cc)) (λ e. (fin.1 e).0) fin.2 by)

-- a run that reads as many frames as it may
pub ran_long : {S : Type 0} (g : Ghosts S) (settings : Fields) (told : Bool) (found : Found) (of : WorldView) (s s0 s1 : S) (had l0 l1 before g0 g1 g2 : Option (List ℕ)) (place count x y z : ℕ) → Opened g settings s s0 found → Had had l0 magic
    → Given before g0 (session_bytes found []) → Going g settings told found of s0 s1 l0 l1 g0 g1 place count → g.disk_faults s1 ≡ g.disk_faults s0 → g.cloud_faults s1 ≡ g.cloud_faults s0
    → count ≡ frame_limit → y ≡ x
    → GaveEnding (record { before = g1; after = g2; faults_before = y; faults_after = z }) [] status.Long
    → RanOn g settings s s1 status.Long (record { had = had; left = l1 }) (record { before = before; after = g2; faults_before = x; faults_after = z })
ran_long g settings told found of s s0 s1 had l0 l1 before g0 g1 g2 place count x y z opened begun given going disk cloud all quiet last =
    let course : Course = going.course in
    record {
      found = found;
      course = course;
      end = end_at course;
      opened = opened.found_on;
      begins = going.begins ∙ ap (λ (b : Bool). start b found) (going.told_then ∙ opened.tells);
      handled = going.handled;
      ends = (
        (going.count_is ∙ all, so_far had l0 l1 course.frames begun going.read),
        record {
          gave = ending_then before g1 g2 x y z (session_bytes found course.answers) status.Long quiet (given_so_far found before g0 g1 course.answers given going.written) last;
          end_is = refl;
        },
      );
      last_step = inr (record {
        world = of;
        site = s1;
        stands = going.stands;
        disk = disk ∙ opened.disk;
        cloud = cloud ∙ opened.cloud;
        untouched = λ e. absurd cc;
        untouched_cloud = tt;
      });
      leaves = leaves_still g settings told found of s s0 s1 l0 l1 g0 g1 place count opened going;
    }

-- ---- which status it comes to

-- a step that failed blames no source
not_source : (how : Status) → IsOfOpening how ⊎ (how ≡ status.SinkFault) → how ≡ status.SourceFault → ⊥
not_source how (inl of) is = subst IsOfOpening is of
not_source how (inr sink) is = absurd cc

-- and is not done
not_done : (how : Status) → IsOfOpening how ⊎ (how ≡ status.SinkFault) → how ≡ status.Done → ⊥
not_done how (inl of) is = subst IsOfOpening is of
not_done how (inr sink) is = absurd cc

-- the source is blamed by a run exactly where it is by its stop
pub source_blamed : (why : Stop) (place : ℕ) (s : Status) (sink : SinkUse) → IsStop why → Finishes why place s sink → (s ≡ status.SourceFault → why ≡ stop.SourceFault) × (why ≡ stop.SourceFault → s ≡ status.SourceFault)
source_blamed stop.End place s sink is (inl done) = (λ e. absurd (let d = done.0 in cc), λ e. absurd cc)
source_blamed stop.End place s sink is (inr failed) = (λ e. absurd (let d = failed.0 in cc), λ e. absurd cc)
source_blamed stop.Malformed place s sink is fin = (λ e. absurd (let d = fin.0 in cc), λ e. absurd cc)
source_blamed stop.Early place s sink is fin = (λ e. absurd (let d = fin.0 in cc), λ e. absurd cc)
source_blamed stop.SourceFault place s sink is fin = (λ e. refl, λ e. fin.0)
source_blamed (stop.Failed how) place s sink is fin = (λ e. absurd (not_source how is (sym fin.0 ∙ e)), λ e. absurd cc)

-- and so are the disk and the cloud
pub failed_blamed : (v : Status) → IsOfOpening v → (why : Stop) (place : ℕ) (s : Status) (sink : SinkUse) → Finishes why place s sink → (s ≡ v → why ≡ stop.Failed v) × (why ≡ stop.Failed v → s ≡ v)
failed_blamed v of stop.End place s sink (inl done) = (λ e. absurd (subst IsOfOpening (sym e ∙ done.0) of), λ e. absurd cc)
failed_blamed v of stop.End place s sink (inr failed) = (λ e. absurd (subst IsOfOpening (sym e ∙ failed.0) of), λ e. absurd cc)
failed_blamed v of stop.Malformed place s sink fin = (λ e. absurd (subst IsOfOpening (sym e ∙ fin.0) of), λ e. absurd cc)
failed_blamed v of stop.Early place s sink fin = (λ e. absurd (subst IsOfOpening (sym e ∙ fin.0) of), λ e. absurd cc)
failed_blamed v of stop.SourceFault place s sink fin = (λ e. absurd (subst IsOfOpening (sym e ∙ fin.0) of), λ e. absurd cc)
failed_blamed v of (stop.Failed how) place s sink fin = (λ e. ap stop.Failed (sym fin.0 ∙ e), λ e. let h : how ≡ v = cc in fin.0 ∙ h)

-- a status that neither blames the sink nor says that all was written
pub counts_other : (x y z : ℕ) (s t : Status) → y ≡ x → y ≤ z → s ≡ t → (t ≡ status.SinkFault → ⊥) → (t ≡ status.Done → ⊥) → SinkCounts x z s
counts_other x y z s t still grows is not_sink not_done = record {
  grows = omega arith;
  cause = λ e. absurd (not_sink (sym is ∙ e));
  quiet = λ e. absurd (not_done (sym is ∙ e));
}

-- a count that rose, and then did not fall
pub rose_on : (x y z : ℕ) → Rose x y → y ≤ z → Rose x z
rose_on x y z rose le = omega (arith, rose, le)

-- the sink's counts over a run, from those of the last call and those of its end
pub sink_counts : (why : Stop) (place : ℕ) (s : Status) (before after : Option (List ℕ)) (x y z : ℕ) → IsStop why → Counts x y (why ≡ stop.Failed status.SinkFault) → y ≤ z
    → Finishes why place s (record { before = before; after = after; faults_before = y; faults_after = z }) → SinkCounts x z s
sink_counts stop.End place s before after x y z is counts grows (inl done) =
    let still : y ≡ x = counts.quiet (λ e. cc) in
    record { grows = omega (arith, counts.grows); cause = λ e. absurd (let d = done.0 in cc); quiet = λ e. done.2 ∙ still }
sink_counts stop.End place s before after x y z is counts grows (inr failed) =
    let still : y ≡ x = counts.quiet (λ e. cc) in
    record { grows = omega (arith, counts.grows); cause = λ e. subst (λ (n : ℕ). Rose n z) still failed.2; quiet = λ e. absurd (let d = failed.0 in cc) }
sink_counts stop.Malformed place s before after x y z is counts grows fin = counts_other x y z s (status.Malformed place) (counts.quiet (λ e. cc)) grows fin.0 (λ e. cc) (λ e. cc)
sink_counts stop.Early place s before after x y z is counts grows fin = counts_other x y z s status.Early (counts.quiet (λ e. cc)) grows fin.0 (λ e. cc) (λ e. cc)
sink_counts stop.SourceFault place s before after x y z is counts grows fin = counts_other x y z s status.SourceFault (counts.quiet (λ e. cc)) grows fin.0 (λ e. cc) (λ e. cc)
sink_counts (stop.Failed how) place s before after x y z is counts grows fin =
    record {
      grows = omega (arith, counts.grows);
      cause = λ e. rose_on x y z (counts.cause (ap stop.Failed (sym fin.0 ∙ e))) grows;
      quiet = λ e. absurd (not_done how is (sym fin.0 ∙ e));
    }

-- a status of a step that failed is one of a run that began
pub failed_replayed : (how : Status) → IsOfOpening how ⊎ (how ≡ status.SinkFault) → IsReplayed how
failed_replayed status.Words (inl of) = absurd of
failed_replayed status.Words (inr sink) = absurd cc
failed_replayed status.Settings (inl of) = absurd of
failed_replayed status.Settings (inr sink) = absurd cc
failed_replayed status.Done is = tt
failed_replayed (status.Malformed at) is = tt
failed_replayed status.Early is = tt
failed_replayed status.SourceFault is = tt
failed_replayed status.SinkFault is = tt
failed_replayed status.JournalFault is = tt
failed_replayed status.CloudFault is = tt
failed_replayed status.Memory is = tt
failed_replayed (status.Foreign at) is = tt
failed_replayed (status.Missing name) is = tt
failed_replayed (status.Damaged name damage) is = tt
failed_replayed status.Worn is = tt
failed_replayed status.Long is = tt

pub stopped_replayed : (why : Stop) (place : ℕ) (s : Status) (gave : SinkUse) → IsStop why → Finishes why place s gave → IsReplayed s
stopped_replayed stop.End place s gave is (inl done) = subst IsReplayed (sym done.0) tt
stopped_replayed stop.End place s gave is (inr failed) = subst IsReplayed (sym failed.0) tt
stopped_replayed stop.Malformed place s gave is fin = subst IsReplayed (sym fin.0) tt
stopped_replayed stop.Early place s gave is fin = subst IsReplayed (sym fin.0) tt
stopped_replayed stop.SourceFault place s gave is fin = subst IsReplayed (sym fin.0) tt
stopped_replayed (stop.Failed how) place s gave is fin = subst IsReplayed (sym fin.0) (failed_replayed how is)

-- a restart of a site that tells what it has is refused for no damage
not_damaged : (how : Status) (state : State) → MayRefuse how state → state.told ≡ true → IsOfDamage how → ⊥
not_damaged (status.Foreign at) state may told damage = true≢false (sym told ∙ may)
not_damaged (status.Missing name) state may told damage = true≢false (sym told ∙ may)
not_damaged (status.Damaged name harm) state may told damage = true≢false (sym told ∙ may)
not_damaged status.Done state may told damage = damage
not_damaged status.Words state may told damage = damage
not_damaged (status.Malformed at) state may told damage = damage
not_damaged status.Early state may told damage = damage
not_damaged status.SourceFault state may told damage = damage
not_damaged status.SinkFault state may told damage = damage
not_damaged status.JournalFault state may told damage = damage
not_damaged status.CloudFault state may told damage = damage
not_damaged status.Memory state may told damage = damage
not_damaged status.Worn state may told damage = damage
not_damaged status.Long state may told damage = damage
not_damaged status.Settings state may told damage = damage

pub stopped_sound : (why : Stop) (place : ℕ) (s : Status) (gave : SinkUse) (state : State) → MayStop why state → state.told ≡ true → Finishes why place s gave → IsOfDamage s → ⊥
stopped_sound stop.End place s gave state may told (inl done) damage = subst IsOfDamage done.0 damage
stopped_sound stop.End place s gave state may told (inr failed) damage = subst IsOfDamage failed.0 damage
stopped_sound stop.Malformed place s gave state may told fin damage = subst IsOfDamage fin.0 damage
stopped_sound stop.Early place s gave state may told fin damage = subst IsOfDamage fin.0 damage
stopped_sound stop.SourceFault place s gave state may told fin damage = subst IsOfDamage fin.0 damage
stopped_sound (stop.Failed how) place s gave state may told fin damage = not_damaged how state may told (subst IsOfDamage fin.0 damage)
