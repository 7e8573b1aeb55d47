-- What there is to see of a device in memory.
use Rattle.std.specs.Prelude.{ℕ, List}
use Rattle.sky_base.specs.declared.object.SegName.{SegName}
use Rattle.sky_memory.specs.Calls.{CallLog}

-- a source: the bytes that are left, and its calls
pub record SourceState : Type 0 where
  pub left : List ℕ
  pub log : CallLog

-- a sink: the bytes that it was given, how many it has room for in all, and its calls
pub record SinkState : Type 0 where
  pub written : List ℕ
  pub room : ℕ
  pub log : CallLog

-- a site: the disk's bytes, and the cloud's objects in the order of their names
pub record SiteState : Type 0 where
  pub image : List ℕ
  pub objects : List (SegName × List ℕ)
