-- What there is to see of a site in memory that keeps a record of its calls.
use Rattle.std.specs.Prelude.{◌≡◌, ℕ, List}
use Rattle.sky_memory.specs.Device.{SiteState}
use Rattle.sky_memory.specs.Past.{SiteAt, at_first, after_calls}
use Rattle.sky_memory.specs.Record.{RecordState, next_fate, after_next}
use Rattle.sky_memory.specs.declared.fate.Fail.{Fail}
use Rattle.sky_memory.specs.declared.fate.Fate.{Fate}
use Rattle.sky_memory.specs.declared.record.Step.{Step}

-- what it began with, its calls so far, which of them fail, and how many of the disk's and of the cloud's failed
pub record MemSiteState : Type 0 where
  pub first : SiteState
  pub noted : RecordState
  pub fail : List Fail
  pub disk_faults : ℕ
  pub cloud_faults : ℕ

-- what it holds now
abbrev pub now_at : MemSiteState → SiteAt
now_at s = after_calls s.noted.calls (at_first s.first)

-- how its next call goes, which has so many bytes
abbrev pub fate_of : MemSiteState → ℕ → Fate
fate_of s n = next_fate s.fail s.noted n

-- One call was made with this fate: its record is kept, and all else is as it was but the counts of faults.
pub record Made (step : Step) (bytes : List ℕ) (fate : Fate) (old new : MemSiteState) : Type 0 where
  pub first : new.first ≡ old.first
  pub fail : new.fail ≡ old.fail
  pub noted : new.noted ≡ after_next old.noted step bytes fate
