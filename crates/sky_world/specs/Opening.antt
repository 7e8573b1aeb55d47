-- How a volume is opened.
use Rattle.std.specs.Prelude.{◌≡◌, ℕ, ◌+◌, true, false, List, replicate}
use Rattle.sky_base.specs.Limits.{max_number}
use Rattle.sky_base.specs.declared.place.Lost.TheVariants as lost
use Rattle.sky_base.specs.declared.status.Status.{Status}
use Rattle.sky_base.specs.declared.status.Status.TheVariants.{Memory, JournalFault, CloudFault, Foreign, Missing, Damaged, Worn}
use Rattle.sky_outside.specs.CloudMap.{CloudMap}
use Rattle.sky_outside.specs.declared.storage.Storage.{Ghosts}
use Rattle.sky_nfs.specs.History.{last_tree}
use Rattle.sky_nfs.specs.Tree.{epoch_start}
use Rattle.sky_recover.specs.declared.fault.OpenFault.{OpenFault}
use Rattle.sky_recover.specs.declared.fault.OpenFault.TheVariants as fault
use Rattle.sky_recover.specs.declared.fault.OpenFault.TheVariants.{DiskFault, Lost}
use Rattle.sky_recover.specs.Opening.{Found}
use Rattle.sky_recover.specs.Refusals.{IsRefusedBy, LeavesRefused}
use Rattle.sky_script.specs.Frame.{session_count}
use Rattle.sky_settings.specs.declared.settings.Fields.{Fields}
use Rattle.sky_world.specs.declared.sessions.Session.TheVariants.{Absent}
use Rattle.sky_world.specs.Meaning.{State}
use Rattle.sky_world.specs.World.{WorldView}

-- the statuses of an opening that failed
abbrev pub IsOfOpening : Status → Type 0
IsOfOpening Memory = Unit {0}
IsOfOpening JournalFault = Unit {0}
IsOfOpening CloudFault = Unit {0}
IsOfOpening (Foreign at) = Unit {0}
IsOfOpening (Missing name) = Unit {0}
IsOfOpening (Damaged name damage) = Unit {0}
IsOfOpening Worn = Unit {0}
IsOfOpening _ = ⊥

-- the status of a run whose opening was refused
abbrev pub status_of : OpenFault → Status
status_of DiskFault = JournalFault
status_of fault.CloudFault = CloudFault
status_of fault.Memory = Memory
status_of (fault.Foreign at) = Foreign at
status_of (Lost (lost.Missing name)) = Missing name
status_of (Lost (lost.Damaged name damage)) = Damaged name damage
status_of fault.Worn = Worn

-- why a site that tells what it has is refused with this status, if it blames that
abbrev pub IsRefusedAs : (volume size : ℕ) → Status → List ℕ → CloudMap → Type 0
IsRefusedAs volume size (Foreign at) image objects = IsRefusedBy volume size (fault.Foreign at) image objects
IsRefusedAs volume size (Missing name) image objects = IsRefusedBy volume size (Lost (lost.Missing name)) image objects
IsRefusedAs volume size (Damaged name damage) image objects = IsRefusedBy volume size (Lost (lost.Damaged name damage)) image objects
IsRefusedAs volume size Worn image objects = IsRefusedBy volume size fault.Worn image objects
IsRefusedAs volume size _ image objects = Unit {0}

-- what an opening that was refused with this status left as it was, from s to t
abbrev pub LeavesRefusedAs : {S : Type 0} → Ghosts S → S → S → Status → Type 0
LeavesRefusedAs g s t (Foreign at) = LeavesRefused g s t (fault.Foreign at)
LeavesRefusedAs g s t (Missing name) = LeavesRefused g s t (Lost (lost.Missing name))
LeavesRefusedAs g s t (Damaged name damage) = LeavesRefused g s t (Lost (lost.Damaged name damage))
LeavesRefusedAs g s t Worn = LeavesRefused g s t fault.Worn
LeavesRefusedAs g s t _ = Unit {0}

-- the same of its cloud alone, also where the journal was given up before
abbrev pub LeavesCloudAs : {S : Type 0} → Ghosts S → S → S → Status → Type 0
LeavesCloudAs g s t (Missing name) = g.objects t ≡ g.objects s
LeavesCloudAs g s t (Damaged name damage) = g.objects t ≡ g.objects s
LeavesCloudAs g s t Worn = g.objects t ≡ g.objects s
LeavesCloudAs g s t _ = Unit {0}

-- A restart may be refused with this status: where the site does not tell what it has; or since no epoch is left.
abbrev pub MayRefuse : Status → State → Type 0
MayRefuse (Foreign at) state = state.told ≡ false
MayRefuse (Missing name) state = state.told ≡ false
MayRefuse (Damaged name damage) state = state.told ≡ false
MayRefuse Worn state = state.told ≡ true → state.epoch + 1 ≡ max_number
MayRefuse _ state = Unit {0}

-- the world over what an opening found, with these settings: no session has begun
abbrev pub opened_world : Fields → Found → WorldView
opened_world settings found = record {
  settings = settings;
  service = record { epoch = found.epoch; tree = last_tree found.history; journal = found.journal; moment = epoch_start };
  sessions = replicate session_count Absent;
  ended = false;
}

-- a world that was opened again, and found this: the moment and the settings stay, and no session has begun
abbrev pub reopened_world : WorldView → Found → WorldView
reopened_world old found = record old {
  service = record { epoch = found.epoch; tree = last_tree found.history; journal = found.journal; moment = old.service.moment };
  sessions = replicate session_count Absent;
}
