-- What the statuses of a run are to those who see numbers: the exit status and the session's last frame.
use Rattle.std.specs.Prelude.{ℕ}
use Rattle.sky_base.specs.declared.status.Status.{Status}
use Rattle.sky_base.specs.declared.status.Status.TheVariants.{Done, Words, Malformed, Early, SourceFault, SinkFault, JournalFault, CloudFault, Memory, Foreign, Missing, Damaged, Worn, Long, Settings}

-- the number of a status
abbrev pub number_of : Status → ℕ
number_of Done = 0
number_of Words = 1
number_of (Malformed at) = 2
number_of Early = 3
number_of SourceFault = 4
number_of SinkFault = 5
number_of JournalFault = 6
number_of CloudFault = 7
number_of Memory = 8
number_of (Foreign at) = 9
number_of (Missing name) = 9
number_of (Damaged name damage) = 9
number_of Worn = 9
number_of Long = 10
number_of Settings = 11

-- the place that a status names, 0 where it names none
abbrev pub place_of : Status → ℕ
place_of (Malformed at) = at
place_of (Foreign at) = at
place_of _ = 0
