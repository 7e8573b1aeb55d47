-- Laws of an opening that is refused, and of a restart that came to no end.
use Rattle.std.proofs.Common.{◌≡◌, ℕ, ◌+◌, true, List, inr, sym, subst, ◌∙◌}
use Rattle.std.proofs.lemmas.Bool.{false_from_ne_true}
use Rattle.sky_base.specs.declared.place.Lost.TheVariants as lost
use Rattle.sky_base.specs.declared.status.Status.{Status}
use Rattle.sky_base.specs.declared.status.Status.TheVariants.{JournalFault, Memory, CloudFault, Foreign, Missing, Damaged, Worn}
use Rattle.sky_outside.specs.CloudMap.{CloudMap}
use Rattle.sky_outside.specs.Moments.{SameCloud}
use Rattle.sky_outside.specs.declared.storage.Storage.{Ghosts}
use Rattle.sky_outside.proofs.ToldLaws.{WhereTold-at}
use Rattle.sky_recover.specs.Opening.{LeavesFound, WhereBothTold}
use Rattle.sky_recover.specs.Refusals.{IsOfDevices, IsRefusedBy}
use Rattle.sky_recover.specs.declared.fault.OpenFault.{OpenFault}
use Rattle.sky_recover.specs.declared.fault.OpenFault.TheVariants as fault
use Rattle.sky_recover.proofs.Refused.{failed, sound_unrefused}
use Rattle.sky_script.specs.Frame as frame
use Rattle.sky_script.specs.Frame.{InFrame}
use Rattle.sky_sound.specs.Cloud.{epoch_after}
use Rattle.sky_sound.specs.Recovery.{IsSound}
use Rattle.sky_world.specs.Meaning.{State}
use Rattle.sky_world.specs.Opening.{IsOfOpening, IsRefusedAs, MayRefuse}
use Rattle.sky_world.specs.World.{RestartFailed, SinkGot, Stands, StepFailed, WorldView}
use Rattle.sky_world.proofs.FindingLaws.{both_told_at, sound_now}
use Rattle.sky_world.proofs.ReopenLaws.{Has, has_told, restart_leaves}
use Rattle.sky_world.proofs.WipeLaws.{HoldsNone, LeavesWiped, bare_epoch, bare_leaves, bare_sound, bare_tells, wipe_leaves}

-- ---- what may be refused

-- what a site has that tells what it has: it is sound, and its next epoch is that behind the state's
pub record IsNextTo {S : Type 0} (g : Ghosts S) (volume size : ℕ) (state : State) (s : S) : Type 0 where
  pub has : Has g s
  pub sound : IsSound volume size has.image has.objects
  pub epoch : epoch_after has.objects ≡ state.epoch + 1

module _ {S : Type 0} (g : Ghosts S) (volume size : ℕ) (state : State) (s : S) (next : state.told ≡ true → IsNextTo g volume size state s) where
  refused_at : (status : Status) → WhereBothTold g s (IsRefusedAs volume size status) → (told : state.told ≡ true) → IsRefusedAs volume size status (next told).has.image (next told).has.objects
  refused_at status refused told =
      let n = next told in
      both_told_at g s (IsRefusedAs volume size status) n.has.image n.has.objects n.has.is n.has.held refused

  unrefused : (why : OpenFault) (told : state.told ≡ true) → IsRefusedBy volume size why (next told).has.image (next told).has.objects → IsOfDevices (failed ℕ why)
  unrefused why told refused = let n = next told in sound_unrefused volume size n.has.image n.has.objects n.sound ℕ why refused

  pub may_refuse : (status : Status) → WhereBothTold g s (IsRefusedAs volume size status) → MayRefuse status state
  may_refuse (Foreign at) refused = false_from_ne_true state.told (λ told. unrefused (fault.Foreign at) told (refused_at (Foreign at) refused told))
  may_refuse (Missing name) refused = false_from_ne_true state.told (λ told. unrefused (fault.Lost (lost.Missing name)) told (refused_at (Missing name) refused told))
  may_refuse (Damaged name damage) refused = false_from_ne_true state.told (λ told. unrefused (fault.Lost (lost.Damaged name damage)) told (refused_at (Damaged name damage) refused told))
  may_refuse Worn refused = λ told.
      let n = next told in
      let why : IsRefusedBy volume size fault.Worn n.has.image n.has.objects = refused_at Worn refused told in
      sym n.epoch ∙ why.1
  may_refuse _ refused = tt

-- ---- a restart

module _ {S : Type 0} (g : Ghosts S) (old : WorldView) (s : S) (state : State) (stands : Stands g old s state) where
  sound_here : (image : List ℕ) (objects : CloudMap) → IsSound state.kept.history.tree.volume state.kept.journal.size image objects → IsSound old.settings.volume old.settings.journal_area image objects
  sound_here image objects sound =
      subst (λ (v : ℕ). IsSound v old.settings.journal_area image objects) (sym stands.volume) (subst (λ (z : ℕ). IsSound state.kept.history.tree.volume z image objects) (sym stands.area) sound)

  -- one is refused where the site tells nothing, or no epoch is left
  pub restart_refused : (status : Status) → WhereBothTold g s (IsRefusedAs old.settings.volume old.settings.journal_area status) → MayRefuse status state
  restart_refused status refused =
      may_refuse g old.settings.volume old.settings.journal_area state s
      (λ told.
      let has = has_told g s (sym stands.told ∙ told) in
      record {
        has = has;
        sound = sound_here has.image has.objects (sound_now g state.epoch state.kept old.service.journal s stands.service.invariant has.image has.objects has.is has.held);
        epoch = WhereTold-at (g.objects s) (λ o. epoch_after o ≡ state.epoch + 1) has.objects has.held stands.service.invariant.epoch_is;
      }) status refused

  -- and one without the journal
  pub bare_refused : (m : S) → LeavesWiped g old.service.journal s m → HoldsNone g old.service.journal s m → SameCloud g s m → (status : Status)
      → WhereBothTold g m (IsRefusedAs old.settings.volume old.settings.journal_area status) → MayRefuse status state
  bare_refused m leaves holds beside status refused =
      may_refuse g old.settings.volume old.settings.journal_area state m
      (λ told.
      let has = has_told g m (sym (bare_tells g old s m state stands leaves holds beside) ∙ told) in
      record {
        has = has;
        sound = sound_here has.image has.objects (bare_sound g old s m state stands leaves holds beside has.image has.objects has.is has.held);
        epoch = bare_epoch g old s m state stands leaves holds beside has.objects has.held;
      }) status refused

-- ---- one that came to no end

module _ {S : Type 0} (g : Ghosts S) (old : WorldView) (s t : S) (sink : SinkGot) (unwritten : sink.after ≡ sink.before) where
  -- the opening
  pub restart_failed : LeavesFound g old.settings.volume old.settings.journal_area s t → RestartFailed g old s frame.Restart t sink
  restart_failed leaves = record { restart = tt; unwritten = unwritten; leaves = λ state stands. restart_leaves g old s t state stands leaves }

  -- the areas were not closed
  pub wipe_failed : LeavesWiped g old.service.journal s t → RestartFailed g old s frame.RestartWithoutJournal t sink
  wipe_failed leaves = record { restart = tt; unwritten = unwritten; leaves = λ state stands. wipe_leaves g old s t state stands leaves }

  -- the opening behind that
  pub bare_failed : (m : S) → LeavesWiped g old.service.journal s m → HoldsNone g old.service.journal s m → SameCloud g s m → LeavesFound g old.settings.volume old.settings.journal_area m t
      → RestartFailed g old s frame.RestartWithoutJournal t sink
  bare_failed m leaves holds beside found = record { restart = tt; unwritten = unwritten; leaves = λ state stands. bare_leaves g old s m state stands leaves holds beside t found }

-- a step failed so, with the status of the opening
pub fails_as : {S : Type 0} (g : Ghosts S) (old : WorldView) (s : S) (f : InFrame) (t : S) (sink : SinkGot) (status : Status) → IsOfOpening status → RestartFailed g old s f t sink → StepFailed g status old s f t sink
fails_as g old s f t sink Memory is failed = inr failed
fails_as g old s f t sink JournalFault is failed = inr failed
fails_as g old s f t sink CloudFault is failed = failed
fails_as g old s f t sink (Foreign at) is failed = failed
fails_as g old s f t sink (Missing name) is failed = failed
fails_as g old s f t sink (Damaged name damage) is failed = failed
fails_as g old s f t sink Worn is failed = failed
fails_as g old s f t sink _ is failed = absurd is
