-- What the sessions of the program keep to.
use Rattle.std.specs.Prelude.{◌≡◌, List, length}
use Rattle.std.specs.List.{AllByRecursion}
use Rattle.sky_record.specs.Stream.{IsOpen}
use Rattle.sky_script.specs.Frame.{session_count}
use Rattle.sky_world.specs.declared.sessions.Session.{Session}
use Rattle.sky_world.specs.declared.sessions.Session.TheVariants.{Absent, Open, Closed}

-- what assembles the records of a session can take more, if the session is open
abbrev pub IsReady : Session → Type 0
IsReady Absent = Unit {0}
IsReady (Open received) = IsOpen received.progress
IsReady (Closed received) = Unit {0}

-- there are as many as there may be, and each is ready
abbrev pub IsKept : List Session → Type 0
IsKept sessions = (length sessions ≡ session_count) × AllByRecursion IsReady sessions

-- what a session is when it ends
abbrev pub closed : Session → Session
closed Absent = Absent
closed (Open received) = Closed received
closed (Closed received) = Closed received
