-- What the names of the objects that a cloud holds say of checkpoints and runs.
use Rattle.std.specs.Prelude.{◌≡◌, ◌⊎◌, ℕ, ◌+◌, ◌<◌, ◌≤◌, ◌==◌, ◌&&◌, Bool, List, [], ◌∷◌, Option, Some, None, Contains, IsTrue, if◌then◌else◌}
use Rattle.std.specs.Ordering.{is_le, ord_max}
use Rattle.sky_base.specs.Order.{name_order, place_of_dir}
use Rattle.sky_base.specs.declared.object.Dir.{Dir}
use Rattle.sky_base.specs.declared.object.Dir.TheVariants.{Proxy, Cleaner}
use Rattle.sky_base.specs.declared.object.SegName.{SegName}
use Rattle.sky_outside.specs.declared.site.Held.{Held}

-- a name is listed
abbrev pub IsListed : List Held → SegName → Type 0
IsListed listed name = (held : Held) × Contains listed held × (held.name ≡ name)

-- whether a name is that of a checkpoint (`.k`) of this directory
abbrev pub is_check_of : Dir → SegName → Bool
is_check_of dir name = name.last && (place_of_dir name.dir == place_of_dir dir)

-- a name is that of a checkpoint of this directory
abbrev pub IsCheckOf : Dir → SegName → Type 0
IsCheckOf dir name = IsTrue (is_check_of dir name)

-- the listed checkpoints of the proxy
abbrev pub ProxyChecks : List Held → SegName → Type 0
ProxyChecks listed name = IsListed listed name × IsCheckOf Proxy name

-- the runs of the cleaner, above a number, of which a checkpoint is listed
abbrev pub CompleteRuns : List Held → ℕ → ℕ → Type 0
CompleteRuns listed above run = (above < run) × ((name : SegName) × IsListed listed name × IsCheckOf Cleaner name × (name.run ≡ run))

-- the runs of the cleaner of which some object is listed, and a run that was merged
abbrev pub KnownRuns : List Held → ℕ → ℕ → Type 0
KnownRuns listed merged run = (run ≡ merged) ⊎ ((name : SegName) × IsListed listed name × (name.dir ≡ Cleaner) × (name.run ≡ run))

-- a name isn't behind another one
abbrev pub IsUpTo : SegName → SegName → Type 0
IsUpTo a b = IsTrue (is_le (name_order a b))

-- the last name of a set: it is in it, and none of it is behind
pub record IsLast (set : SegName → Type 0) (name : SegName) : Type 0 where
  pub member : set name
  pub none_behind : (other : SegName) → set other → IsUpTo other name

-- the later of two names, of which one may be missing
abbrev pub later_of : Option SegName → SegName → SegName
later_of None name = name
later_of (Some other) name = ord_max name_order other name

-- the last checkpoint of the proxy by those that come behind a name and by this name, if it is one
abbrev pub with_name : Option SegName → SegName → Option SegName
with_name last name = if is_check_of Proxy name then Some (later_of last name) else last

-- the last checkpoint of the proxy that is listed: the greatest by the order of names, in whatever order they are listed
abbrev pub last_checkpoint : List Held → Option SegName
last_checkpoint [] = None
last_checkpoint (held ∷ more) = with_name (last_checkpoint more) held.name

-- the least number of a set, and the greatest
pub record IsLeast (set : ℕ → Type 0) (n : ℕ) : Type 0 where
  pub member : set n
  pub none_below : (m : ℕ) → set m → n ≤ m

pub record IsGreatest (set : ℕ → Type 0) (n : ℕ) : Type 0 where
  pub member : set n
  pub none_above : (m : ℕ) → set m → m ≤ n

-- the run after all that are known
pub record IsNextRun (listed : List Held) (merged next : ℕ) : Type 0 where
  pub greatest : ℕ
  pub known : IsGreatest (KnownRuns listed merged) greatest
  pub next_is : next ≡ greatest + 1
