-- Where a run ends since no epoch is left: the recording, and the openings before it, have claimed them all.
--   step_claims, steps_claim      a restart comes to the next epoch
--   reaches                       a reading comes as far as a run of the same bytes that read a frame more
--   worn_out                      so many epochs were claimed
use Rattle.std.proofs.Common.{◌≡◌, ◌+◌, ◌≤◌, ◌⊎◌, inl, inr, ⊎_elim, ℕ, true, Some, List, [], ◌∷◌, ◌++◌, length, refl, sym, ap, subst, ◌∙◌, append_assoc, arith}
use Rattle.std.specs.List.{AllByRecursion}
use Rattle.std.proofs.lemmas.Bool.{true≢false}
use Rattle.std.proofs.lemmas.List.{append_cancel_left}
use Rattle.std.proofs.lemmas.List.Sums.{sum_by-cons}
use Rattle.sky_base.specs.Limits.{max_number}
use Rattle.sky_base.specs.declared.status.Status.{Status}
use Rattle.sky_base.specs.declared.status.Status.TheVariants.{Worn}
use Rattle.sky_outside.specs.CloudMap.{CloudMap}
use Rattle.sky_outside.specs.declared.storage.Storage.{Ghosts}
use Rattle.sky_outside.proofs.ToldLaws.{WhereTold-at}
use Rattle.sky_recover.specs.Opening.{BeginsAt}
use Rattle.sky_script.specs.Frame as frame
use Rattle.sky_script.specs.Frame.{InFrame, OutFrame, IsInFrame, in_frame, in_frames, magic}
use Rattle.sky_script.proofs.FrameLaws.{frame_same}
use Rattle.sky_settings.specs.declared.settings.Fields.{Fields}
use Rattle.sky_sound.specs.Cloud.{epoch_after}
use Rattle.sky_sound.specs.Kept.{Kept}
use Rattle.sky_world.specs.Meaning.{State, Supply, Scarce, Restarts, as_known, untold, given_up, reopened, start, Step, Steps, IsStep}
use Rattle.sky_world.specs.Opening.{IsRefusedAs}
use Rattle.sky_world.specs.World.{IsRestart, restarts_by, tells}
use Rattle.sky_world.proofs.FindingLaws.{both_told_at}
use Rattle.sky_world.proofs.SiteLaws.{step_same, step_tells}
use Rattle.bluesky.specs.Run.{AreFew, Course, IsCourse, IsReading, Ran, RanOn, RanUnopened, SinkUse, restarts_in}
use Rattle.bluesky.proofs.Comparing.{GoesOn, is_step}
use Rattle.bluesky.proofs.Going.{restarts_then}
use Rattle.bluesky.proofs.OneReading.{StopsAt, StopsIn, behind, in_magic, no_magic, left_is, magic_whole, not_other, stop_not_on, stops_in, told}
use Rattle.bluesky.proofs.Sites.{tells_both}

-- ---- epochs

restart_claims : (s : State) (known : Kept) (outs : List OutFrame) (t : State) → s.told ≡ true → Restarts s known outs t → t.epoch ≡ s.epoch + 1
restart_claims s known outs t is (as_known told reopens said) = ap (λ (x : State). x.epoch) reopens
restart_claims s known outs t is (untold found silent may reopens said) = absurd (true≢false (sym is ∙ silent))

-- on a site that tells what it has, a step comes to the epochs that its frame claims
step_claims : (mem : Supply) (s t : State) (f : InFrame) (outs : List OutFrame) → s.told ≡ true → Step mem s f outs t → t.epoch ≡ s.epoch + restarts_by f
step_claims mem s t (frame.Begin n) outs is p = omega (arith, (step_same mem s t (frame.Begin n) outs (λ r. r) p).1)
step_claims mem s t (frame.Bytes n payload) outs is p = omega (arith, (step_same mem s t (frame.Bytes n payload) outs (λ r. r) p).1)
step_claims mem s t (frame.Close n) outs is p = omega (arith, (step_same mem s t (frame.Close n) outs (λ r. r) p).1)
step_claims mem s t (frame.SetMoment at) outs is p = omega (arith, (step_same mem s t (frame.SetMoment at) outs (λ r. r) p).1)
step_claims mem s t frame.Stat outs is p = omega (arith, (step_same mem s t frame.Stat outs (λ r. r) p).1)
step_claims mem s t frame.Restart outs is p = restart_claims s (reopened s.kept) outs t is p
step_claims mem s t frame.RestartWithoutJournal outs is p = restart_claims s (given_up s.kept) outs t is p
step_claims mem s t frame.End outs is p = absurd p

steps_claim : (mem : Supply) (s t : State) (fs : List InFrame) (outs : List OutFrame) → s.told ≡ true → Steps mem s fs outs t → (t.epoch ≡ s.epoch + restarts_in fs) × (t.told ≡ true)
steps_claim mem s t [] outs is p = (omega (arith, ap (λ (x : State). x.epoch) p.1), ap (λ (x : State). x.told) p.1 ∙ is)
steps_claim mem s t (f ∷ fs) outs is p =
    let mid : State = p.0 in
    let here = step_claims mem s mid f p.1 is p.3 in
    let rest = steps_claim mem mid t fs p.2 (step_tells mem s mid f p.1 p.3 ∙ is) p.4 in
    (omega (arith, here, rest.0, sum_by-cons restarts_by f fs), rest.1)

-- ---- two readings of the same bytes

-- a reading has as many restarts as these frames and one more, or it could go on and has no more frames than these
reaches : (mem supply : Supply) (from begun : State) (fs gs : List InFrame) (f : InFrame) (os ps : List OutFrame) (s t : State) (r q : List ℕ)
    → AllByRecursion IsInFrame fs → IsInFrame f → IsStep f → AllByRecursion IsInFrame gs → Steps mem from fs os s → Steps supply begun gs ps t
    → in_frames fs ++ (in_frame f ++ r) ≡ in_frames gs ++ q → (restarts_in (fs ++ f ∷ []) ≤ restarts_in gs) ⊎ (GoesOn q × (length gs ≤ length fs))
reaches mem supply from begun [] [] f os ps s t r q ok formed steps ok' a b e =
    inr (record { f = f; more = r; formed = formed; encoded = sym e; step = steps }, omega arith)
reaches mem supply from begun [] (g ∷ gs) f os ps s t r q ok formed steps ok' a b e =
    let one = frame_same f g r (in_frames gs ++ q) formed ok'.0 (e ∙ append_assoc (in_frame g) (in_frames gs) q) in
    inl (omega (arith, ap restarts_by one.0, sum_by-cons restarts_by g gs, restarts_then [] f))
reaches mem supply from begun (x ∷ fs) [] f os ps s t r q ok formed steps ok' a b e =
    inr (record { f = x; more = in_frames fs ++ (in_frame f ++ r); formed = ok.0; encoded = sym e ∙ append_assoc (in_frame x) (in_frames fs) (in_frame f ++ r); step = is_step mem from a.0 x a.1 a.3 }, omega arith)
reaches mem supply from begun (x ∷ fs) (g ∷ gs) f os ps s t r q ok formed steps ok' a b e =
    let whole : in_frame x ++ (in_frames fs ++ (in_frame f ++ r)) ≡ in_frame g ++ (in_frames gs ++ q) =
    sym (append_assoc (in_frame x) (in_frames fs) (in_frame f ++ r)) ∙ e ∙ append_assoc (in_frame g) (in_frames gs) q in
    let one = frame_same x g (in_frames fs ++ (in_frame f ++ r)) (in_frames gs ++ q) ok.0 ok'.0 whole in
    ⊎_elim
    (λ less. inl (omega (arith, less, ap restarts_by one.0, sum_by-cons restarts_by g gs, sum_by-cons restarts_by x (fs ++ f ∷ []))))
    (λ on. inr (on.0, omega (arith, on.1)))
    (reaches mem supply a.0 b.0 fs gs f a.2 b.2 s t r q ok.1 formed steps ok'.1 a.4 b.4 one.1)

-- a restart has a step
restart_steps : (f : InFrame) → IsRestart f → IsStep f
restart_steps frame.Restart is = tt
restart_steps frame.RestartWithoutJournal is = tt
restart_steps (frame.Begin n) is = absurd is
restart_steps (frame.Bytes n payload) is = absurd is
restart_steps (frame.Close n) is = absurd is
restart_steps (frame.SetMoment at) is = absurd is
restart_steps frame.Stat is = absurd is
restart_steps frame.End is = absurd is

-- and claims an epoch
restart_claims_one : (f : InFrame) → IsRestart f → restarts_by f ≡ 1
restart_claims_one frame.Restart is = refl
restart_claims_one frame.RestartWithoutJournal is = refl
restart_claims_one (frame.Begin n) is = absurd is
restart_claims_one (frame.Bytes n payload) is = absurd is
restart_claims_one (frame.Close n) is = absurd is
restart_claims_one (frame.SetMoment at) is = absurd is
restart_claims_one frame.Stat is = absurd is
restart_claims_one frame.End is = absurd is

restart_formed : (f : InFrame) → IsRestart f → IsInFrame f
restart_formed frame.Restart is = tt
restart_formed frame.RestartWithoutJournal is = tt
restart_formed (frame.Begin n) is = absurd is
restart_formed (frame.Bytes n payload) is = absurd is
restart_formed (frame.Close n) is = absurd is
restart_formed (frame.SetMoment at) is = absurd is
restart_formed frame.Stat is = absurd is
restart_formed frame.End is = absurd is

module _ (bytes rest more : List ℕ) (c d : Course) (mem supply : Supply) (f : InFrame) (status : Status) where
  -- a reading that stops behind the magic
  behind_reaches : IsCourse mem c → AreFew c.frames → IsRestart f → IsCourse supply d → bytes ≡ magic ++ (in_frames c.frames ++ (in_frame f ++ rest))
      → (left : List ℕ) → bytes ≡ magic ++ (in_frames d.frames ++ left) → StopsAt d.frames left more status → restarts_in (c.frames ++ f ∷ []) ≤ restarts_in d.frames
  behind_reaches h few restart k e left is stops =
      ⊎_elim (λ less. less) (λ on. absurd (stop_not_on d.frames left more status (omega (arith, few, on.1)) stops on.0))
      (reaches mem supply c.first d.first c.frames d.frames f c.answers d.answers c.last d.last rest left h.formed (restart_formed f restart) (restart_steps f restart) k.formed h.steps k.steps
      (append_cancel_left magic (in_frames c.frames ++ (in_frame f ++ rest)) (in_frames d.frames ++ left) (sym e ∙ is)))

  in_reaches : IsCourse mem c → AreFew c.frames → IsRestart f → IsCourse supply d → bytes ≡ magic ++ (in_frames c.frames ++ (in_frame f ++ rest))
      → StopsIn bytes d.frames more status → restarts_in (c.frames ++ f ∷ []) ≤ restarts_in d.frames
  in_reaches h few restart k e (in_magic short none empty is) = absurd (omega (arith, short, magic_whole bytes (in_frames c.frames ++ (in_frame f ++ rest)) e))
  in_reaches h few restart k e (no_magic taken long other parts none is) = absurd (not_other bytes (in_frames c.frames ++ (in_frame f ++ rest)) taken more e parts long other)
  in_reaches h few restart k e (behind left is stops) = behind_reaches h few restart k e left is stops

-- ---- a run

module _ {S : Type 0} (g : Ghosts S) (settings : Fields) (from to : S) (bytes rest : List ℕ) (sink : SinkUse) (image : List ℕ) (objects : CloudMap) (is : g.image from ≡ Some image) (held : g.objects from ≡ Some objects) where
  unopened_worn : (n : ℕ) → RanUnopened g settings from to Worn (told bytes rest) sink → max_number ≤ epoch_after objects + n
  unopened_worn n ran = omega (arith, (both_told_at g from (IsRefusedAs settings.volume settings.journal_area Worn) image objects is held ran.refused).1)

  opened_worn : (supply : Supply) (course : Course) (status : Status) (more : List ℕ) → IsReading supply bytes course status more → RanOn g settings from to Worn (told bytes rest) sink
      → max_number ≤ epoch_after objects + restarts_in course.frames
  opened_worn supply course status more reading ran =
      let c : Course = ran.course in
      let end = ran.ends.1 in
      let tells : (start (tells g from) ran.found).told ≡ true = tells_both g from image objects is held in
      let told_first : c.first.told ≡ true = ap (λ (s : State). s.told) ran.begins ∙ tells in
      let claims = steps_claim Scarce c.first c.last c.frames c.answers told_first ran.handled.steps in
      let begins : ran.found.epoch ≡ epoch_after objects = (WhereTold-at (g.objects from) (BeginsAt settings.volume ran.found) objects held ran.opened.cloud).epoch in
      let reached = in_reaches bytes rest more c course Scarce supply end.f status ran.handled ran.ends.0 end.restart reading.handled (left_is bytes rest c.frames (in_frame end.f) end.took)
      (stops_in status bytes course.frames more reading.read) in
      omega (arith, end.cause claims.1, claims.0, ap (λ (s : State). s.epoch) ran.begins, begins, reached, restarts_then c.frames end.f, restart_claims_one end.f end.restart)

  pub worn_out : (v : Status) → Ran g settings from to v (told bytes rest) sink → v ≡ Worn → (supply : Supply) (course : Course) (status : Status) (more : List ℕ)
      → IsReading supply bytes course status more → max_number ≤ epoch_after objects + restarts_in course.frames
  worn_out v (inl ran) worn supply course status more reading =
      unopened_worn (restarts_in course.frames) (subst (λ (w : Status). RanUnopened g settings from to w (told bytes rest) sink) worn ran)
  worn_out v (inr ran) worn supply course status more reading =
      opened_worn supply course status more reading (subst (λ (w : Status). RanOn g settings from to w (told bytes rest) sink) worn ran)
