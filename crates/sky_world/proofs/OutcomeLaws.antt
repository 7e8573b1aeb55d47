-- Laws of a frame's outcome: what was done and written, by its status.
use Rattle.std.specs.Prelude.{IfErr, IsErrOf, replicate}
use Rattle.std.proofs.Common.{◌≡◌, ◌⊎◌, ℕ, Result, Ok, Err, inl, inr, ⊎_elim, refl, sym, ap, subst, ◌∙◌}
use Rattle.sky_base.specs.declared.status.Status.{Status}
use Rattle.sky_base.specs.declared.status.Status.TheVariants.{CloudFault, JournalFault, Memory, SinkFault}
use Rattle.sky_nfs.specs.History.{last_tree}
use Rattle.sky_outside.specs.Count.{Counts}
use Rattle.sky_outside.specs.Moments.{SameCloud}
use Rattle.sky_outside.specs.Told.{BothTold, Given, GivenPart}
use Rattle.sky_outside.specs.declared.storage.Storage.{Ghosts}
use Rattle.sky_outside.proofs.CountLaws.{counts_none}
use Rattle.sky_recover.specs.Opening.{Found, IsFoundOn, IsOpenOn, LeavesFound}
use Rattle.sky_script.specs.Frame.{InFrame, OutFrame, Restart, RestartWithoutJournal, out_frame, session_count}
use Rattle.sky_sound.specs.Boot.{claimed}
use Rattle.sky_world.specs.Carried.{IsServing}
use Rattle.sky_world.specs.declared.sessions.Session.TheVariants.{Absent}
use Rattle.sky_world.specs.Meaning.{State, opening}
use Rattle.sky_world.specs.Opening.{IsOfOpening, MayRefuse, reopened_world}
use Rattle.sky_world.specs.World.{SinkGot, Stands, StepFailed, Stepped, SteppedDown, SteppedPart, WorldView}
use Rattle.sky_world.proofs.StandLaws.{stepped_bare, stepped_bare_part, stepped_restart, stepped_restart_part}
use Rattle.sky_world.proofs.WipeLaws.{HoldsNone, LeavesWiped}

-- ---- by a status

-- what is known of the status says something else of it
pub err_as : {X : Type 0} (P Q : Status → Type 0) (r : Result X Status) → ((status : Status) → IsErrOf r status → P status → Q status) → IfErr r P → IfErr r Q
err_as P Q (Ok x) to is = tt
err_as P Q (Err status) to is = to status refl is

-- it is not one that this excludes
pub err_not : {X : Type 0} (P : Status → Type 0) (r : Result X Status) (status : Status) → IfErr r P → (P status → ⊥) → IsErrOf r status → ⊥
err_not P (Ok x) status is excluded e = absurd cc
err_not P (Err other) status is excluded e =
    let same : other ≡ status = cc in
    excluded (subst P same is)

abbrev pub IsOfFeed : Status → Type 0
IsOfFeed status = (status ≡ JournalFault) ⊎ (status ≡ SinkFault)

abbrev pub IsOfTell : Status → Type 0
IsOfTell status = status ≡ SinkFault

abbrev pub IsOfStep : Status → Type 0
IsOfStep status = IsOfOpening status ⊎ (status ≡ SinkFault)

feed_not_memory : IsOfFeed Memory → ⊥
feed_not_memory (inl e) = absurd cc
feed_not_memory (inr e) = absurd cc

feed_not_cloud : IsOfFeed CloudFault → ⊥
feed_not_cloud (inl e) = absurd cc
feed_not_cloud (inr e) = absurd cc

module _ {X : Type 0} (r : Result X Status) where
  err_same : (a b : Status) → a ≡ b → IsErrOf r a → IsErrOf r b
  err_same a b same e = e ∙ ap (λ (x : Status). let q : Result X Status = Err x in q) same

  -- a payload: a call of the disk failed, or a write
  module _ (is : IfErr r IsOfFeed) where
    pub feed_statuses : IfErr r IsOfStep
    feed_statuses = err_as IsOfFeed IsOfStep r (λ status e of. ⊎_elim (λ (j : status ≡ JournalFault). inl (subst IsOfOpening (sym j) tt)) (λ (k : status ≡ SinkFault). inr k) of) is

    pub feed_unchanged : IsErrOf r Memory → ⊥
    feed_unchanged = err_not IsOfFeed r Memory is feed_not_memory

    pub feed_cloud : (a b : ℕ) → b ≡ a → Counts a b (IsErrOf r CloudFault)
    feed_cloud a b same = subst (λ (n : ℕ). Counts a n (IsErrOf r CloudFault)) (sym same) (counts_none a (err_not IsOfFeed r CloudFault is feed_not_cloud))

    module _ {S : Type 0} (g : Ghosts S) (old : WorldView) (s t : S) (sink : SinkGot) where
      pub feed_fails : (f : InFrame) → (IsErrOf r SinkFault → SteppedPart g old s f t sink) → (IsErrOf r JournalFault → SteppedDown g old s f t sink) → IfErr r (λ status. StepFailed g status old s f t sink)
      feed_fails f part down =
          err_as IsOfFeed (λ status. StepFailed g status old s f t sink) r
          (λ status e of.
          ⊎_elim (λ (j : status ≡ JournalFault). subst (λ (x : Status). StepFailed g x old s f t sink) (sym j) (inl (down (err_same status JournalFault j e))))
          (λ (k : status ≡ SinkFault). subst (λ (x : Status). StepFailed g x old s f t sink) (sym k) (part (err_same status SinkFault k e))) of) is

      pub feed_refused : IfErr r (λ status. (state : State) → Stands g old s state → MayRefuse status state)
      feed_refused =
          err_as IsOfFeed (λ status. (state : State) → Stands g old s state → MayRefuse status state) r
          (λ status e of state stands.
          ⊎_elim (λ (j : status ≡ JournalFault). subst (λ (x : Status). MayRefuse x state) (sym j) tt) (λ (k : status ≡ SinkFault). subst (λ (x : Status). MayRefuse x state) (sym k) tt) of) is

  -- numbers, or what was found: a write failed
  module _ (is : IfErr r IsOfTell) where
    pub tell_statuses : IfErr r IsOfStep
    tell_statuses = err_as IsOfTell IsOfStep r (λ status e of. inr of) is

    module _ {S : Type 0} (g : Ghosts S) (old : WorldView) (s t : S) (sink : SinkGot) where
      pub tell_fails : (f : InFrame) → (IsErrOf r SinkFault → SteppedPart g old s f t sink) → IfErr r (λ status. StepFailed g status old s f t sink)
      tell_fails f part =
          err_as IsOfTell (λ status. StepFailed g status old s f t sink) r
          (λ status e of. subst (λ (x : Status). StepFailed g x old s f t sink) (sym of) (part (err_same status SinkFault of e))) is

      pub tell_refused : IfErr r (λ status. (state : State) → Stands g old s state → MayRefuse status state)
      tell_refused =
          err_as IsOfTell (λ status. (state : State) → Stands g old s state → MayRefuse status state) r (λ status e of state stands. subst (λ (x : Status). MayRefuse x state) (sym of) tt) is

-- ---- a restart

-- a world was opened again, and that is said by this frame
abbrev pub Reopened : {S : Type 0} → Ghosts S → WorldView → S → WorldView → S → OutFrame → Type 0
Reopened g old s new t said =
    (found : Found) × IsFoundOn g old.settings.volume old.settings.journal_area s found × IsOpenOn g t found × (new ≡ reopened_world old found) × (opening found ≡ said)

-- which service it had before does not matter, but for the moment
pub again_same : (old mid : WorldView) (found : Found) → mid.settings ≡ old.settings → mid.ended ≡ old.ended → mid.service.moment ≡ old.service.moment → reopened_world mid found ≡ reopened_world old found
again_same old mid found settings ended moment = λ k. record {
  settings = settings k;
  service = record { epoch = found.epoch; tree = last_tree found.history; journal = found.journal; moment = moment k };
  sessions = replicate session_count Absent;
  ended = ended k;
}

module _ {S : Type 0} (g : Ghosts S) (old new : WorldView) (s t : S) (said : OutFrame) (sink : SinkGot) where
  -- it can answer calls
  pub serves_again : (found : Found) → IsOpenOn g t found → new ≡ reopened_world old found → IsServing g new.service t
  serves_again found opens same =
      subst (λ (w : WorldView). IsServing g w.service t) (sym same) (record { up = record { area = opens.area; up = opens.up }; stands = opens.stands })

  given_as : (found : Found) → opening found ≡ said → Given sink.before sink.after (out_frame said) → Given sink.before sink.after (out_frame (opening found))
  given_as found same given = subst (λ (f : OutFrame). Given sink.before sink.after (out_frame f)) (sym same) given

  part_as : (found : Found) → opening found ≡ said → GivenPart sink.before sink.after (out_frame said) → GivenPart sink.before sink.after (out_frame (opening found))
  part_as found same given = subst (λ (f : OutFrame). GivenPart sink.before sink.after (out_frame f)) (sym same) given

  module _ (again : Reopened g old s new t said) (claims : BothTold (λ old new. new ≡ claimed old) (g.objects s) (g.objects t)) (images : BothTold (λ old new. Unit {0}) (g.image s) (g.image t))
      (leaves : LeavesFound g old.settings.volume old.settings.journal_area s t) where
    pub restart_ok : Given sink.before sink.after (out_frame said) → Stepped g old s Restart new t sink
    restart_ok given =
        subst (λ (w : WorldView). Stepped g old s Restart w t sink) (sym again.3)
        (stepped_restart g old s t again.0 again.2 sink again.1 claims images leaves (given_as again.0 again.4 given))

    pub restart_part : GivenPart sink.before sink.after (out_frame said) → SteppedPart g old s Restart t sink
    restart_part given = stepped_restart_part g old s t again.0 again.2 sink again.1 claims images leaves (part_as again.0 again.4 given)

  module _ (m : S) (wipes : LeavesWiped g old.service.journal s m) (holds : HoldsNone g old.service.journal s m) (beside : SameCloud g s m) (again : Reopened g old m new t said)
      (claims : BothTold (λ old new. new ≡ claimed old) (g.objects m) (g.objects t)) (images : BothTold (λ old new. Unit {0}) (g.image m) (g.image t)) (leaves : LeavesFound g old.settings.volume old.settings.journal_area m t) where
    pub bare_ok : Given sink.before sink.after (out_frame said) → Stepped g old s RestartWithoutJournal new t sink
    bare_ok given =
        subst (λ (w : WorldView). Stepped g old s RestartWithoutJournal w t sink) (sym again.3)
        (stepped_bare g old s t again.0 again.2 sink m wipes holds beside again.1 claims images leaves (given_as again.0 again.4 given))

    pub bare_part : GivenPart sink.before sink.after (out_frame said) → SteppedPart g old s RestartWithoutJournal t sink
    bare_part given = stepped_bare_part g old s t again.0 again.2 sink m wipes holds beside again.1 claims images leaves (part_as again.0 again.4 given)
