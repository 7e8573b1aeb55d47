-- The answers to what was seen of a listing.
use Rattle.std.specs.Prelude.{ℕ, List, Option, Some, None}
use Rattle.sky_base.specs.declared.object.SegName.{SegName}
use Rattle.sky_outside.specs.declared.site.Held.{Held}
use Rattle.sky_checkpoint.specs.Listing.{CompleteRuns, IsGreatest, IsLast, IsLeast, KnownRuns, ProxyChecks}

-- the last checkpoint of the proxy, if there is one
abbrev pub LastSoFar : List Held → Option SegName → Type 0
LastSoFar listed None = (name : SegName) → ¬ (ProxyChecks listed name)
LastSoFar listed (Some name) = IsLast (ProxyChecks listed) name

-- the least complete run, if there is one
abbrev pub LeastSoFar : List Held → ℕ → Option ℕ → Type 0
LeastSoFar listed above None = (run : ℕ) → ¬ (CompleteRuns listed above run)
LeastSoFar listed above (Some run) = IsLeast (CompleteRuns listed above) run

-- the greatest run that is known
abbrev pub GreatestSoFar : List Held → ℕ → ℕ → Type 0
GreatestSoFar listed merged run = IsGreatest (KnownRuns listed merged) run
