-- What a site in memory keeps of its calls, and how the next one goes.
use Rattle.std.specs.Prelude.{ℕ, ◌+◌, nat_lt, nat_le, ◌==◌, ◌&&◌, Bool, true, false, cond, List, [], ◌∷◌, ◌++◌, length, find, Option, None, Some, Result}
use Rattle.std.specs.declared.result.Result.TheVariants.{Ok, Err}
use Rattle.sky_outside.specs.declared.stream.Failed.{Failed}
use Rattle.sky_outside.specs.declared.site.PutFault.{PutFault}
use Rattle.sky_outside.specs.declared.site.PutFault.TheVariants.{Failed as PutFailed}
use Rattle.sky_memory.specs.Past.{Call}
use Rattle.sky_memory.specs.declared.record.Step.{Step}
use Rattle.sky_memory.specs.declared.fate.Fail.{Fail}
use Rattle.sky_memory.specs.declared.fate.Fate.{Fate}
use Rattle.sky_memory.specs.declared.fate.Fate.TheVariants.{Beyond, Fails, Goes}

-- the calls so far, for how many there is room, the bytes that they wrote and put, and for how many there is room
pub record RecordState : Type 0 where
  pub calls : List Call
  pub most : ℕ
  pub used : ℕ
  pub room : ℕ

-- whether a call with so many bytes still fits
abbrev pub has_room : RecordState → ℕ → Bool
has_room r n = nat_lt (length r.calls) r.most && nat_le (r.used + n) r.room

-- after one more call
abbrev pub noted : RecordState → Call → RecordState
noted r call = record { calls = r.calls ++ call ∷ []; most = r.most; used = r.used + length call.bytes; room = r.room }

-- how the call of this number is listed among those that fail
abbrev pub listed : List Fail → ℕ → Option Fail
listed fail number = find (λ f. f.call == number) fail

-- how it goes, by how it is listed
abbrev pub fate_listed : Option Fail → Fate
fate_listed None = Goes
fate_listed (Some f) = Fails f.happened

-- how the next call goes, which has so many bytes: beyond the record, failing where it is listed, or well
abbrev pub next_fate : List Fail → RecordState → ℕ → Fate
next_fate fail r n = cond (has_room r n) (fate_listed (listed fail (length r.calls))) Beyond

-- whether a call with this fate happens
abbrev pub happens : Fate → Bool
happens Beyond = false
happens (Fails happened) = happened
happens Goes = true

-- the record after it
abbrev pub after_next : RecordState → Step → List ℕ → Fate → RecordState
after_next r step bytes Beyond = r
after_next r step bytes (Fails happened) = noted r (record { step = step; bytes = bytes; happened = happened })
after_next r step bytes Goes = noted r (record { step = step; bytes = bytes; happened = true })

-- its answer
abbrev pub answer_of : Fate → Result Unit Failed
answer_of Goes = Ok tt
answer_of fate = Err (record {})

-- and that of a put
abbrev pub put_answer_of : Fate → Result Unit PutFault
put_answer_of Goes = Ok tt
put_answer_of fate = Err PutFailed
