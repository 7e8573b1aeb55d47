-- Frames of answers.
use Rattle.std.specs.Prelude.{◌≡◌, ◌<◌, ℕ, List, Option}
use Rattle.sky_outside.specs.declared.whole.FillFault.{FillFault}
use Rattle.sky_outside.specs.declared.whole.FillFault.TheVariants as fill
use Rattle.sky_outside.specs.Told.{Had}
use Rattle.sky_script.specs.Frame.{Parts, header, payload_limit}
use Rattle.sky_show.specs.declared.answers.Answer.{Answer}
use Rattle.sky_show.specs.declared.answers.AnswerFault.{AnswerFault}
use Rattle.sky_show.specs.declared.answers.AnswerFault.TheVariants as fault

-- the parts of a frame, wherever its payload lies
abbrev pub parts_of : Answer → Parts
parts_of answer = record { kind = answer.kind; session = answer.session; payload = answer.payload.now }

-- which fault of a frame is a buffer that isn't filled
abbrev pub fault_of : FillFault → AnswerFault
fault_of fill.Early = fault.Early
fault_of fill.Broken = fault.SourceFault

-- some bytes were read
abbrev pub HadSome : Option (List ℕ) → Option (List ℕ) → Type 0
HadSome before now = (taken : List ℕ) × Had before now taken

-- a header of a frame whose payload would be too long
pub record IsTooLong (taken : List ℕ) : Type 0 where
  pub kind : ℕ
  pub session : ℕ
  pub len : ℕ
  pub long : payload_limit < len
  pub header_is : taken ≡ header kind session len
