-- Laws of what a step leaves of the opening: whether the site tells what it has, and the epoch.
use Rattle.std.proofs.Common.{◌≡◌, ℕ, Option, Some, None, List, [], ◌∷◌, ◌++◌, inl, inr, refl, ap, ◌∙◌}
use Rattle.sky_record.specs.Stream.{Progress, AtHeader, InFragment, Whole, TooLong}
use Rattle.sky_script.specs.Frame as frame
use Rattle.sky_script.specs.Frame.{InFrame, OutFrame}
use Rattle.sky_sound.specs.Kept.{Kept}
use Rattle.sky_world.specs.Meaning.{State, Session, Absent, Open, Closed, Supply, Restarts, as_known, untold, after_reply, given_up, reopened, session_at, with_kept, with_session, Passes, Then, Closes, StepRecord, StepRecords, StepProgress, StepBytes, Step}
use Rattle.sky_world.specs.World.{IsRestart}
use Rattle.sky_world.proofs.StepLaws.{open_or_not, of_open, of_closed}

-- it is the same opening, of a site that tells what it has or does not
abbrev pub SameOpening : State → State → Type 0
SameOpening s t = (t.told ≡ s.told) × (t.epoch ≡ s.epoch)

abbrev Stays : (State → List OutFrame → State → Type 0) → Type 0
Stays Does = (s : State) (outs : List OutFrame) (t : State) → Does s outs t → SameOpening s t

same_by : (s t u : State) → t ≡ u → SameOpening s u → SameOpening s t
same_by s t u e same = (ap (λ (x : State). x.told) e ∙ same.0, ap (λ (x : State). x.epoch) e ∙ same.1)

same_then : (s t u : State) → SameOpening s t → SameOpening t u → SameOpening s u
same_then s t u p q = (q.0 ∙ p.0, q.1 ∙ p.1)

reply_same : (n : ℕ) (reply : Option (List ℕ)) (s : State) → SameOpening s (after_reply n reply s)
reply_same n None s = (refl, refl)
reply_same n (Some bytes) s = (refl, refl)

record_same : (mem : Supply) (n : ℕ) (bytes : List ℕ) → Stays (StepRecord mem n bytes)
record_same mem n bytes s outs t p = same_by s t (after_reply n p.reply (with_kept s p.after)) p.leads (reply_same n p.reply (with_kept s p.after))

passes_same : Stays Passes
passes_same s outs t p = same_by s t s p.1 (refl, refl)

closes_same : (n : ℕ) → Stays (Closes n)
closes_same n s outs t p = same_by s t (with_session s n Closed) p.1 (refl, refl)

records_same : (mem : Supply) (n : ℕ) (records : List (List ℕ)) → Stays (StepRecords mem n records)
records_same mem n [] s outs t p = passes_same s outs t p
records_same mem n (bytes ∷ records) s outs t p =
    let Both : State → List OutFrame → State → Type 0 = Then (StepRecord mem n bytes) (StepRecords mem n records) in
    elim (open_or_not n s) [
      | inl e ↦
          let d = of_open Both n s outs t e p in
          same_then s d.0 t (record_same mem n bytes s d.1 d.0 d.3) (records_same mem n records d.0 d.2 t d.4)
      | inr e ↦ passes_same s outs t (of_closed Both n s outs t e p)
    ]

progress_same : (n : ℕ) (progress : Progress) → Stays (StepProgress n progress)
progress_same n (AtHeader part) s outs t p = passes_same s outs t p
progress_same n (InFragment last due) s outs t p = passes_same s outs t p
progress_same n Whole s outs t p = passes_same s outs t p
progress_same n TooLong s outs t p =
    elim (open_or_not n s) [
      | inl e ↦ closes_same n s outs t (of_open (Closes n) n s outs t e p)
      | inr e ↦ passes_same s outs t (of_closed (Closes n) n s outs t e p)
    ]

bytes_same : (mem : Supply) (x : Session) (n : ℕ) (payload : List ℕ) → Stays (StepBytes mem x n payload)
bytes_same mem (Open stream) n payload s outs t p =
    let d = p.3 in
    let fed : State = with_session s n (Open (stream ++ payload)) in
    let first : SameOpening fed d.0 = records_same mem n p.0 fed d.1 d.0 d.3 in
    same_then s d.0 t (first.0, first.1) (progress_same n p.1.progress d.0 d.2 t d.4)
bytes_same mem Absent n payload s outs t p = passes_same s outs t p
bytes_same mem Closed n payload s outs t p = passes_same s outs t p

-- a frame that is no restart leaves both
pub step_same : (mem : Supply) (s t : State) (f : InFrame) (outs : List OutFrame) → (IsRestart f → ⊥) → Step mem s f outs t → SameOpening s t
step_same mem s t (frame.Begin n) outs plain p = same_by s t (with_session s n (Open [])) p.1 (refl, refl)
step_same mem s t (frame.Bytes n payload) outs plain p = bytes_same mem (session_at s n) n payload s outs t p
step_same mem s t (frame.Close n) outs plain p = (ap (λ (x : State). x.told) p.1, ap (λ (x : State). x.epoch) p.1)
step_same mem s t (frame.SetMoment at) outs plain p = (ap (λ (x : State). x.told) p.1, ap (λ (x : State). x.epoch) p.1)
step_same mem s t frame.Stat outs plain p = same_by s t s p.1 (refl, refl)
step_same mem s t frame.Restart outs plain p = absurd (plain tt)
step_same mem s t frame.RestartWithoutJournal outs plain p = absurd (plain tt)
step_same mem s t frame.End outs plain p = absurd p

restart_tells : (s : State) (known : Kept) (outs : List OutFrame) (t : State) → Restarts s known outs t → t.told ≡ s.told
restart_tells s known outs t (as_known told is said) = ap (λ (x : State). x.told) is
restart_tells s known outs t (untold found silent may is said) = ap (λ (x : State). x.told) is

-- and each frame leaves whether the site tells what it has
pub step_tells : (mem : Supply) (s t : State) (f : InFrame) (outs : List OutFrame) → Step mem s f outs t → t.told ≡ s.told
step_tells mem s t (frame.Begin n) outs p = (step_same mem s t (frame.Begin n) outs (λ r. r) p).0
step_tells mem s t (frame.Bytes n payload) outs p = (step_same mem s t (frame.Bytes n payload) outs (λ r. r) p).0
step_tells mem s t (frame.Close n) outs p = (step_same mem s t (frame.Close n) outs (λ r. r) p).0
step_tells mem s t (frame.SetMoment at) outs p = (step_same mem s t (frame.SetMoment at) outs (λ r. r) p).0
step_tells mem s t frame.Stat outs p = (step_same mem s t frame.Stat outs (λ r. r) p).0
step_tells mem s t frame.Restart outs p = restart_tells s (reopened s.kept) outs t p
step_tells mem s t frame.RestartWithoutJournal outs p = restart_tells s (given_up s.kept) outs t p
step_tells mem s t frame.End outs p = absurd p
