-- What a crash leaves of a run.
--   opened_run                    behind the opening, before any frame
--   leaves_within, leaves_still   within a step, and behind the last one
use Rattle.std.proofs.Common.{◌≡◌, ◌+◌, ◌⊎◌, inl, inr, ⊎_elim, ℕ, Bool, Option, List, [], ◌∷◌, ◌++◌, subst, arith}
use Rattle.sky_outside.specs.CloudMap.{CloudMap}
use Rattle.sky_outside.specs.Moments.{LeavesOnly, MayLeaveNow, OfPair}
use Rattle.sky_outside.specs.declared.storage.Storage.{Ghosts}
use Rattle.sky_outside.proofs.MomentLaws.{LeavesOnly-then}
use Rattle.sky_recover.specs.Opening.{Found, IsFoundOn, LeavesFound, WhereBothTold}
use Rattle.sky_script.specs.Frame.{InFrame}
use Rattle.sky_sound.specs.Recovery.{FindsSame}
use Rattle.sky_world.specs.Finding.{FindsBehind, FindsPrefix, LeavesFinding}
use Rattle.sky_settings.specs.declared.settings.Fields.{Fields}
use Rattle.sky_sound.specs.Boot.{Claims}
use Rattle.sky_world.specs.Meaning.{start}
use Rattle.sky_sound.specs.Kept.{Kept}
use Rattle.sky_world.specs.World.{WorldView, restarts_by}
use Rattle.sky_world.proofs.FindingLaws.{both_told_at, both_told_from, leaves_as, stands_find}
use Rattle.bluesky.specs.Run.{Course, End, FindsAtEnd, LeavesOfRun, LeftBetween, LeftInLast, end_at, no_course, restarts_in}
use Rattle.bluesky.specs.Stop.{Opened}
use Rattle.bluesky.proofs.Going.{Going, LeftSoFar, at_now, claims_then, restarts_then}
use Rattle.bluesky.proofs.Sites.{claimed_later, found_prefix, leaves_found}

-- what a crash leaves of a run: as so far, within the frame that was under way, or as behind it
abbrev LeftAtAll : Fields → List ℕ → CloudMap → Course → End → OfPair
LeftAtAll settings read held course end image objects =
    FindsSame settings.volume settings.journal_area read held image objects ⊎ LeftBetween course image objects ⊎ LeftInLast course.last end.under_way image objects ⊎ FindsAtEnd end image objects

module _ {S : Type 0} (g : Ghosts S) (settings : Fields) where
  -- a crash at the end of calls leaves what a crash at any moment of them does
  now_from : (s t : S) (P : OfPair) → LeavesOnly g s t P → (image : List ℕ) (objects : CloudMap) → MayLeaveNow g t image objects → P image objects
  now_from s t P leaves image objects may = leaves.since image objects (g.counts_now t (g.moment s) image objects leaves.later may.0 may.1)

  pub finds_behind : (s t : S) (epoch floor : ℕ) (kept : Kept) → LeavesFinding g s t epoch floor kept → FindsBehind g s t epoch floor kept
  finds_behind s t epoch floor kept leaves =
      both_told_from g s (λ read held. (image : List ℕ) (objects : CloudMap) → MayLeaveNow g t image objects → FindsPrefix epoch floor kept image objects)
      (λ read held is held_is. now_from s t (FindsPrefix epoch floor kept) (both_told_at g s (λ r h. LeavesOnly g s t (FindsPrefix epoch floor kept)) read held is held_is leaves))

  -- a run that has handled no frame
  pub opened_run : (s t : S) (found : Found) (told : Bool) → IsFoundOn g settings.volume settings.journal_area s found → LeavesFound g settings.volume settings.journal_area s t
      → Claims 1 (g.objects s) (g.objects t) → LeavesOfRun g settings s t (no_course (start told found)) (end_at (no_course (start told found)))
  opened_run s t found told on leaves claims =
      let course : Course = no_course (start told found) in
      let end : End = end_at course in
      let Same : List ℕ → CloudMap → OfPair = FindsSame settings.volume settings.journal_area in
      record {
        any_moment = leaves_found g settings s t found (λ read held. LeftAtAll settings read held course end) on leaves (λ read held image objects same. inl same);
        behind =
            both_told_from g s (λ read held. (image : List ℕ) (objects : CloudMap) → MayLeaveNow g t image objects → FindsAtEnd end image objects)
            (λ read held is held_is image objects may.
            let at_all = both_told_at g s (λ r h. LeavesOnly g s t (Same r h)) read held is held_is (leaves_found g settings s t found (λ r h. Same r h) on leaves (λ r h i o same. same)) in
            found_prefix g settings s found read held is held_is on image objects (now_from s t (Same read held) at_all image objects may)
            (claimed_later g settings s t found held held_is on claims objects may.1));
        boots = claims;
      }

  module _ (told : Bool) (found : Found) (world : WorldView) (s s0 s1 : S) (l0 l1 g0 g1 : Option (List ℕ)) (place count : ℕ) (opened : Opened g settings s s0 found)
      (going : Going g settings told found world s0 s1 l0 l1 g0 g1 place count) where
    -- a frame was under way, of which a crash leaves P
    pub leaves_within : (t : S) (end : End) (P : OfPair) → ((image : List ℕ) (objects : CloudMap) → P image objects → LeftInLast going.course.last end.under_way image objects ⊎ FindsAtEnd end image objects)
        → WhereBothTold g s1 (λ image objects. LeavesOnly g s1 t P) → FindsBehind g s1 t end.epoch end.floor end.kept → Claims end.claims (g.objects s) (g.objects t)
        → LeavesOfRun g settings s t going.course end
    leaves_within t end P into leaves behind claims =
        let course : Course = going.course in
        record {
          any_moment =
              both_told_from g s (λ read held. LeavesOnly g s t (LeftAtAll settings read held course end))
              (λ read held is held_is.
              let so_far = both_told_at g s (λ r h. LeavesOnly g s s1 (LeftSoFar settings r h course)) read held is held_is (going.leaves s opened) in
              let now = at_now g settings told found world s0 s1 l0 l1 g0 g1 place count going s opened read held is held_is (LeavesOnly g s1 t P) leaves in
              LeavesOnly-then g s s1 t (LeftSoFar settings read held course) P (LeftAtAll settings read held course end) so_far now
              (λ image objects p. ⊎_elim inl (λ b. inr (inl b)) p) (λ image objects p. inr (inr (into image objects p))));
          behind =
              both_told_from g s (λ read held. (image : List ℕ) (objects : CloudMap) → MayLeaveNow g t image objects → FindsAtEnd end image objects)
              (λ read held is held_is.
              at_now g settings told found world s0 s1 l0 l1 g0 g1 place count going s opened read held is held_is
              ((image : List ℕ) (objects : CloudMap) → MayLeaveNow g t image objects → FindsAtEnd end image objects) behind);
          boots = claims;
        }

    -- the epochs of the opening, and of the restarts since
    pub claims_so_far : Claims (1 + restarts_in going.course.frames) (g.objects s) (g.objects s1)
    claims_so_far =
        let n : ℕ = restarts_in going.course.frames in
        subst (λ (k : ℕ). Claims k (g.objects s) (g.objects s1)) (let e : n + 1 ≡ 1 + n = omega arith in e)
        (claims_then n 1 (g.objects s) (g.objects s0) (g.objects s1) opened.claims going.claims)

    -- and of a frame more
    pub claims_with : (f : InFrame) (t : S) → Claims (restarts_by f) (g.objects s1) (g.objects t) → Claims (1 + restarts_in (going.course.frames ++ f ∷ [])) (g.objects s) (g.objects t)
    claims_with f t claims =
        let n : ℕ = restarts_in going.course.frames in
        subst (λ (k : ℕ). Claims k (g.objects s) (g.objects t)) (omega (arith, restarts_then going.course.frames f))
        (claims_then (restarts_by f) (1 + n) (g.objects s) (g.objects s1) (g.objects t) claims_so_far claims)

    -- the run was between two steps
    pub leaves_still : LeavesOfRun g settings s s1 going.course (end_at going.course)
    leaves_still =
        let course : Course = going.course in
        let end : End = end_at course in
        record {
          any_moment =
              both_told_from g s (λ read held. LeavesOnly g s s1 (LeftAtAll settings read held course end))
              (λ read held is held_is.
              leaves_as g s s1 (LeftSoFar settings read held course) (LeftAtAll settings read held course end)
              (λ image objects p. ⊎_elim inl (λ b. inr (inl b)) p)
              (both_told_at g s (λ r h. LeavesOnly g s s1 (LeftSoFar settings r h course)) read held is held_is (going.leaves s opened)));
          behind =
              both_told_from g s (λ read held. (image : List ℕ) (objects : CloudMap) → MayLeaveNow g s1 image objects → FindsAtEnd end image objects)
              (λ read held is held_is.
              at_now g settings told found world s0 s1 l0 l1 g0 g1 place count going s opened read held is held_is
              ((image : List ℕ) (objects : CloudMap) → MayLeaveNow g s1 image objects → FindsAtEnd end image objects) (stands_find g world s1 course.last going.stands));
          boots = claims_so_far;
        }
