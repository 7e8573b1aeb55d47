-- What an assembler answers, and what that says of the stream.
use Rattle.std.specs.Prelude.{◌≡◌, ℕ, List, [], ◌∷◌, ◌++◌, map}
use Rattle.std.specs.Global.{Vec}
use Rattle.sky_record.specs.declared.assembler.Fed.{Fed}
use Rattle.sky_record.specs.declared.assembler.Fed.TheVariants as fed
use Rattle.sky_record.specs.Stream.{Progress, AtHeader, InFragment, Whole, TooLong, Received, nothing, IsOpen, ReadsRecords}

-- the answer where a record is so far
abbrev pub answer_at : Progress → Fed
answer_at (AtHeader part) = fed.More
answer_at (InFragment last due) = fed.More
answer_at Whole = fed.Message
answer_at TooLong = fed.TooLong

-- What the stream reads as at this answer: after a message its record is one of the stream's, and nothing of a next one has come.
abbrev pub FedReads : Fed → List ℕ → List (List ℕ) → Received → Type 0
FedReads fed.Message stream records received = ReadsRecords stream (records ++ received.bytes ∷ []) nothing
FedReads fed.More stream records received = IsOpen received.progress × ReadsRecords stream records received
FedReads fed.TooLong stream records received = (received.progress ≡ TooLong) × ReadsRecords stream records received

-- the bytes of each of these
abbrev pub contents : List (Vec ℕ) → List (List ℕ)
contents records = map (λ r. r.items) records
