-- The exit statuses of the program.
use Rattle.std.specs.Prelude.{◌≡◌, ◌⊎◌, ℕ}
use Rattle.sky_show.specs.declared.ending.Ending.{Ending}
use Rattle.sky_show.specs.declared.ending.Ending.TheVariants.{Shown, Words, Malformed, Early, AnswersFault, SinkFault, NoRecording, RecordingFault, Memory, Long}

-- the exit status of an ending
abbrev pub number_of : Ending → ℕ
number_of Shown = 0
number_of Words = 1
number_of (Malformed at) = 2
number_of Early = 3
number_of AnswersFault = 4
number_of SinkFault = 5
number_of NoRecording = 6
number_of RecordingFault = 7
number_of Memory = 8
number_of Long = 9

-- how the making of a line ends where it makes none
abbrev pub IsOfLine : Ending → Type 0
IsOfLine ending = (ending ≡ RecordingFault) ⊎ (ending ≡ Memory)

-- how the showing of a frame ends where it fails
abbrev pub IsOfFrame : Ending → Type 0
IsOfFrame ending = IsOfLine ending ⊎ (ending ≡ SinkFault)

-- how the reading of the magic ends where it isn't there
abbrev pub IsOfMagic : Ending → Type 0
IsOfMagic ending = (ending ≡ Malformed 0) ⊎ (ending ≡ Early) ⊎ (ending ≡ AnswersFault)
