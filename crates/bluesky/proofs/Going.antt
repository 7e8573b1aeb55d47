-- How a run goes on by one frame.
--   going_at_first, going_on      the frames so far were handled, the sink has their answers, and what a crash left is known
--   so_far, given_so_far          what the source had so far, and what the sink was given
use Rattle.std.proofs.Common.{◌≡◌, ◌+◌, ◌⊎◌, inl, inr, ⊎_elim, ℕ, zero, suc, Bool, true, Option, None, Some, List, [], ◌∷◌, ◌++◌, length, refl, sym, ap, subst, ◌∙◌, append_assoc, arith}
use Rattle.std.specs.List.{AllByRecursion}
use Rattle.std.proofs.lemmas.List.{append-nil, length-append}
use Rattle.std.proofs.lemmas.Grind.{flat_map-append}
use Rattle.std.proofs.lemmas.List.Sums.{sum_by_push}
use Rattle.sky_outside.specs.CloudMap.{CloudMap}
use Rattle.sky_outside.specs.Moments.{LeavesOnly, OfPair}
use Rattle.sky_outside.specs.Told.{Had, Given}
use Rattle.sky_outside.specs.declared.storage.Storage.{Ghosts}
use Rattle.sky_outside.proofs.MomentLaws.{LeavesOnly-then}
use Rattle.sky_outside.proofs.ToldLaws.{Had-then, Had-none, Given-then, Given-none}
use Rattle.sky_recover.specs.Opening.{Found, WhereBothTold}
use Rattle.sky_script.specs.Frame.{InFrame, OutFrame, IsInFrame, in_frame, in_frames, out_frame, out_frames, magic}
use Rattle.sky_sound.specs.Boot.{Claims, claimed, claimed_times}
use Rattle.sky_sound.specs.Recovery.{FindsSame}
use Rattle.sky_world.specs.Finding.{LeftWithin}
use Rattle.sky_world.specs.Meaning.{State, Scarce, start, opening, Step, Steps}
use Rattle.sky_settings.specs.declared.settings.Fields.{Fields}
use Rattle.sky_world.specs.World.{WorldView, Stands, Stepped, restarts_by, tells}
use Rattle.sky_world.proofs.FindingLaws.{both_told_at, both_told_from}
use Rattle.sky_world.proofs.SiteLaws.{step_tells}
use Rattle.bluesky.specs.Run.{Course, IsCourse, LeftBetween, further, no_course, recording, restarts_in, session_bytes}
use Rattle.bluesky.specs.Stop.{Opened}
use Rattle.bluesky.proofs.Sites.{told_both, tells_both, opened_leaves}

-- steps, and one more
steps_then : (s : State) (fs : List InFrame) (answers : List OutFrame) (m : State) (f : InFrame) (outs : List OutFrame) (n : State) → Steps Scarce s fs answers m → Step Scarce m f outs n → Steps Scarce s (fs ++ f ∷ []) (answers ++ outs) n
steps_then s [] answers m f outs n steps step =
    let from = subst (λ (x : State). Step Scarce x f outs n) steps.1 step in
    (n, outs, [], from, (refl, refl), ap (λ (x : List OutFrame). x ++ outs) steps.0 ∙ sym (append-nil outs))
steps_then s (g ∷ fs) answers m f outs n steps step =
    let rest = steps_then steps.0 fs steps.2 m f outs n steps.4 step in
    (steps.0, steps.1, steps.2 ++ outs, steps.3, rest, ap (λ (x : List OutFrame). x ++ outs) steps.5 ∙ append_assoc steps.1 steps.2 outs)

-- frames that may go in, and one more
formed_then : (fs : List InFrame) (f : InFrame) → AllByRecursion IsInFrame fs → IsInFrame f → AllByRecursion IsInFrame (fs ++ f ∷ [])
formed_then [] f all formed = (formed, tt)
formed_then (g ∷ fs) f all formed = (all.0, formed_then fs f all.1 formed)

pub course_then : (course : Course) (f : InFrame) (outs : List OutFrame) (n : State) → IsCourse Scarce course → IsInFrame f → Step Scarce course.last f outs n → IsCourse Scarce (further course f outs n)
course_then course f outs n is formed step = record {
  formed = formed_then course.frames f is.formed formed;
  steps = steps_then course.first course.frames course.answers course.last f outs n is.steps step;
}

-- nothing was handled
pub nothing_handled : (first : State) → IsCourse Scarce (no_course first)
nothing_handled first = record { formed = tt; steps = (refl, refl) }

-- ---- epochs

-- the restarts of frames, and of one more
pub restarts_then : (fs : List InFrame) (f : InFrame) → restarts_in (fs ++ f ∷ []) ≡ restarts_by f + restarts_in fs
restarts_then fs f = omega (arith, sum_by_push restarts_by fs f)

-- epochs were claimed, and then others
times_then : (n m : ℕ) (objects : CloudMap) → claimed_times n (claimed_times m objects) ≡ claimed_times (n + m) objects
times_then zero m objects = ap (λ (k : ℕ). claimed_times k objects) (let e : m ≡ 0 + m = omega arith in e)
times_then (suc n) m objects = ap claimed (times_then n m objects) ∙ ap (λ (k : ℕ). claimed_times k objects) (let e : suc (n + m) ≡ suc n + m = omega arith in e)

pub claims_then : (n m : ℕ) (a b c : Option CloudMap) → Claims m a b → Claims n b c → Claims (n + m) a c
claims_then n m None None None p q = tt
claims_then n m (Some x) (Some y) (Some z) p q = q ∙ ap (claimed_times n) p ∙ times_then n m x
claims_then n m None None (Some z) p q = absurd q
claims_then n m None (Some y) c p q = absurd p
claims_then n m (Some x) None c p q = absurd p
claims_then n m (Some x) (Some y) None p q = absurd q

-- none was
pub claims_none : (a : Option CloudMap) → Claims 0 a a
claims_none None = tt
claims_none (Some x) = refl

-- ---- bytes

in_frames_then : (fs : List InFrame) (f : InFrame) → in_frames (fs ++ f ∷ []) ≡ in_frames fs ++ in_frame f
in_frames_then fs f = flat_map-append in_frame fs (f ∷ []) ∙ ap (λ (x : List ℕ). in_frames fs ++ x) (append-nil (in_frame f))

-- the bytes of a session's answers go on by those of more answers
pub session_then : (found : Found) (xs ys : List OutFrame) → session_bytes found xs ++ out_frames ys ≡ session_bytes found (xs ++ ys)
session_then found xs ys =
    append_assoc magic (out_frames (opening found ∷ xs)) (out_frames ys) ∙ ap (λ (x : List ℕ). magic ++ x) (sym (flat_map-append out_frame (opening found ∷ xs) ys))

-- magic and opening are the bytes of a session without answers
pub session-nothing : (found : Found) → magic ++ out_frame (opening found) ≡ session_bytes found []
session-nothing found = ap (λ (x : List ℕ). magic ++ x) (sym (append-nil (out_frame (opening found))))

-- ---- what a crash left so far

-- after a crash recovery finds the same as on a site from before, or what a crash leaves within one of the steps
abbrev pub LeftSoFar : Fields → List ℕ → CloudMap → Course → OfPair
LeftSoFar settings read held course image objects = FindsSame settings.volume settings.journal_area read held image objects ⊎ LeftBetween course image objects

-- at any moment from s to t it does
abbrev pub LeavesSoFar : {S : Type 0} → Ghosts S → Fields → S → S → Course → Type 0
LeavesSoFar g settings s t course = WhereBothTold g s (λ read held. LeavesOnly g s t (LeftSoFar settings read held course))

-- a step of a course is one of it with a frame more
between_more : (course : Course) (f : InFrame) (outs : List OutFrame) (new : State) (image : List ℕ) (objects : CloudMap) → Step Scarce course.last f outs new
    → LeftBetween course image objects → LeftBetween (further course f outs new) image objects
between_more course f outs new image objects step b = record {
  before = b.before;
  f = b.f;
  behind = b.behind ++ f ∷ [];
  parts = ap (λ (x : List InFrame). x ++ f ∷ []) b.parts ∙ append_assoc b.before (b.f ∷ b.behind) (f ∷ []);
  said = b.said;
  outs = b.outs;
  rest = b.rest ++ outs;
  answers = ap (λ (x : List OutFrame). x ++ outs) b.answers ∙ append_assoc (b.said ++ b.outs) b.rest outs;
  old = b.old;
  new = b.new;
  handled = b.handled;
  step = b.step;
  goes_on = steps_then b.new b.behind b.rest course.last f outs new b.goes_on step;
  left = b.left;
}

-- and so is the last
between_last : (course : Course) (f : InFrame) (outs : List OutFrame) (new : State) (image : List ℕ) (objects : CloudMap) → IsCourse Scarce course → Step Scarce course.last f outs new
    → LeftWithin course.last f outs image objects → LeftBetween (further course f outs new) image objects
between_last course f outs new image objects is step left = record {
  before = course.frames;
  f = f;
  behind = [];
  parts = refl;
  said = course.answers;
  outs = outs;
  rest = [];
  answers = sym (append-nil (course.answers ++ outs));
  old = course.last;
  new = new;
  handled = is.steps;
  step = step;
  goes_on = (refl, refl);
  left = left;
}

-- ---- so far

-- How far a run has come since it began to read frames: where the site, the source and the sink were then and are now, at which place
-- of the recording, behind how many frames; that the world stands for the state to which they lead; and what a crash left since the opening.
pub record Going {S : Type 0} (g : Ghosts S) (settings : Fields) (told : Bool) (found : Found) (world : WorldView) (s0 s1 : S) (left_then left given_then given : Option (List ℕ)) (place count : ℕ) : Type 0 where
  pub course : Course
  pub begins : course.first ≡ start told found
  pub stands : Stands g world s1 course.last
  pub handled : IsCourse Scarce course
  pub told_then : told ≡ tells g s0
  pub told_now : course.last.told ≡ told
  pub leaves : (s : S) → Opened g settings s s0 found → LeavesSoFar g settings s s1 course
  pub claims : Claims (restarts_in course.frames) (g.objects s0) (g.objects s1)
  pub read : Had left_then left (in_frames course.frames)
  pub written : Given given_then given (out_frames course.answers)
  pub count_is : length course.frames ≡ count
  pub place_is : place ≡ 8 + length (in_frames course.frames)

-- at its beginning
pub going_at_first : {S : Type 0} (g : Ghosts S) (settings : Fields) (told : Bool) (found : Found) (world : WorldView) (s : S) (left given : Option (List ℕ)) → Stands g world s (start told found)
    → Going g settings told found world s s left left given given 8 0
going_at_first g settings told found world s left given stands =
    let course : Course = no_course (start told found) in
    record {
      course = course;
      begins = refl;
      stands = stands;
      handled = nothing_handled (start told found);
      told_then = stands.told;
      told_now = refl;
      leaves = λ s' opened. opened_leaves g settings s' s found (λ read held. LeftSoFar settings read held course) opened (λ read held image objects p. inl p);
      claims = claims_none (g.objects s);
      read = Had-none left;
      written = Given-none given;
      count_is = refl;
      place_is = refl;
    }

module _ {S : Type 0} (g : Ghosts S) (settings : Fields) (told : Bool) (found : Found) (world : WorldView) (s0 s1 : S) (l0 l1 g0 g1 : Option (List ℕ)) (place count : ℕ) (going : Going g settings told found world s0 s1 l0 l1 g0 g1 place count) where
  -- what the site told before the opening it tells now
  pub tells_now : (s : S) → Opened g settings s s0 found → (read : List ℕ) (held : CloudMap) → g.image s ≡ Some read → g.objects s ≡ Some held → tells g s1 ≡ true
  tells_now s opened read held is held_is =
      sym going.stands.told ∙ going.told_now ∙ going.told_then ∙ opened.tells ∙ tells_both g s read held is held_is

  -- of what a crash leaves from now on, where it told before the opening
  pub at_now : (s : S) → Opened g settings s s0 found → (read : List ℕ) (held : CloudMap) → g.image s ≡ Some read → g.objects s ≡ Some held → (P : Type 0) → WhereBothTold g s1 (λ image objects. P) → P
  at_now s opened read held is held_is P holds =
      let both = told_both g s1 (tells_now s opened read held is held_is) in
      both_told_at g s1 (λ image objects. P) both.0 both.1 both.2 both.3 holds

  -- over one frame more
  leaves_on : (s2 : S) (f : InFrame) (outs : List OutFrame) (next : State) → Step Scarce going.course.last f outs next
      → WhereBothTold g s1 (λ image objects. LeavesOnly g s1 s2 (LeftWithin going.course.last f outs))
      → (s : S) → Opened g settings s s0 found → LeavesSoFar g settings s s2 (further going.course f outs next)
  leaves_on s2 f outs next step leaves s opened =
      let course : Course = going.course in
      let more : Course = further course f outs next in
      let within : OfPair = LeftWithin course.last f outs in
      both_told_from g s (λ read held. LeavesOnly g s s2 (LeftSoFar settings read held more))
      (λ read held is held_is.
      let so_far = both_told_at g s (λ r h. LeavesOnly g s s1 (LeftSoFar settings r h course)) read held is held_is (going.leaves s opened) in
      let now = at_now s opened read held is held_is (LeavesOnly g s1 s2 within) leaves in
      LeavesOnly-then g s s1 s2 (LeftSoFar settings read held course) within (LeftSoFar settings read held more) so_far now
      (λ image objects p. ⊎_elim inl (λ b. inr (between_more course f outs next image objects step b)) p)
      (λ image objects p. inr (between_last course f outs next image objects going.handled step p)))

  -- behind one frame more
  pub going_on : (new : WorldView) (s2 : S) (l2 g2 : Option (List ℕ)) (len : ℕ) (f : InFrame) → IsInFrame f → len ≡ length (in_frame f) → Had l1 l2 (in_frame f)
      → Stepped g world s1 f new s2 (record { before = g1; after = g2 }) → Claims (restarts_by f) (g.objects s1) (g.objects s2)
      → Going g settings told found new s0 s2 l0 l2 g0 g2 (place + len) (count + 1)
  going_on new s2 l2 g2 len f formed long had goes claims =
      let course : Course = going.course in
      let went = goes course.last going.stands in
      record {
        course = further course f went.0 went.1;
        begins = going.begins;
        stands = went.3;
        handled = course_then course f went.0 went.1 going.handled formed went.2;
        told_then = going.told_then;
        told_now = step_tells Scarce course.last went.1 f went.0 went.2 ∙ going.told_now;
        leaves = leaves_on s2 f went.0 went.1 went.2 went.5;
        claims = subst (λ (n : ℕ). Claims n (g.objects s0) (g.objects s2)) (sym (restarts_then course.frames f))
            (claims_then (restarts_by f) (restarts_in course.frames) (g.objects s0) (g.objects s1) (g.objects s2) going.claims claims);
        read = subst (λ (x : List ℕ). Had l0 l2 x) (sym (in_frames_then course.frames f)) (Had-then l0 l1 l2 (in_frames course.frames) (in_frame f) going.read had);
        written = subst (λ (x : List ℕ). Given g0 g2 x) (sym (flat_map-append out_frame course.answers went.0)) (Given-then g0 g1 g2 (out_frames course.answers) (out_frames went.0) going.written went.4);
        count_is = omega (arith, length-append course.frames (f ∷ []), going.count_is);
        place_is = omega (arith, ap length (in_frames_then course.frames f), length-append (in_frames course.frames) (in_frame f), going.place_is, long);
      }

-- what the source had so far
pub so_far : (had l0 l1 : Option (List ℕ)) (frames : List InFrame) → Had had l0 magic → Had l0 l1 (in_frames frames) → Had had l1 (recording frames [])
so_far had l0 l1 frames begun read =
    subst (λ (x : List ℕ). Had had l1 x) (sym (append-nil (magic ++ in_frames frames))) (Had-then had l0 l1 magic (in_frames frames) begun read)

-- and what followed
pub so_far_then : (had l0 l1 l2 : Option (List ℕ)) (frames : List InFrame) (next : List ℕ) → Had had l0 magic → Had l0 l1 (in_frames frames)
    → Had l1 l2 next → Had had l2 (recording frames next)
so_far_then had l0 l1 l2 frames next begun read more =
    Had-then had l1 l2 (magic ++ in_frames frames) next (Had-then had l0 l1 magic (in_frames frames) begun read) more

-- what the sink was given so far
pub given_so_far : (found : Found) (before g0 g1 : Option (List ℕ)) (answers : List OutFrame) → Given before g0 (session_bytes found []) → Given g0 g1 (out_frames answers)
    → Given before g1 (session_bytes found answers)
given_so_far found before g0 g1 answers opened written =
    subst (λ (x : List ℕ). Given before g1 x) (session_then found [] answers) (Given-then before g0 g1 (session_bytes found []) (out_frames answers) opened written)
