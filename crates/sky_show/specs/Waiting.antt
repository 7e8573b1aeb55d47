-- Calls that wait for their replies.
use Rattle.std.specs.Prelude.{◌≡◌, ◌==◌, ◌&&◌, ◌<◌, ℕ, Bool, true, false, List, [], ◌∷◌, ◌++◌, length, slice_get, Option, Some, None, MatchOption, IfSome, Result, Ok, Err, remove}
use Rattle.sky_rpc.specs.Call.{CallMessage}
use Rattle.sky_rpc.specs.Reading.{call_at}
use Rattle.sky_rpc.specs.declared.call.RpcRefusal.{RpcRefusal}
use Rattle.sky_rpc.specs.declared.call.RpcRefusal.TheVariants.{NotCall, BadVersion, BadCred}
use Rattle.sky_show.specs.declared.waiting.Call.{Call}
use Rattle.sky_show.specs.declared.called.Called.{Called}
use Rattle.sky_show.specs.declared.called.Called.TheVariants.{Procedure, Denied}

-- the number of a call and what it called, or nothing where it is no call
abbrev pub called_by : Result CallMessage RpcRefusal → Option (ℕ × Called)
called_by (Ok call) = Some (call.xid, Procedure call.program call.version call.procedure)
called_by (Err (BadVersion xid)) = Some (xid, Denied)
called_by (Err (BadCred xid)) = Some (xid, Denied)
called_by (Err NotCall) = None

-- what a record calls
abbrev pub called_in : List ℕ → Option (ℕ × Called)
called_in bytes = called_by (call_at bytes)

-- the call that a record of a session is, if it is one
abbrev pub calls_of : ℕ → Option (ℕ × Called) → List Call
calls_of session (Some call) = record { session = session; xid = call.0; called = call.1 } ∷ []
calls_of session None = []

-- further calls wait behind those that waited
abbrev pub HasMore : List Call → List Call → Type 0
HasMore old new = (more : List Call) × (new ≡ old ++ more)

-- whether a call is of this session and has this number
abbrev pub is_of : ℕ → ℕ → Call → Bool
is_of session xid call = (call.session == session) && (call.xid == xid)

-- none of the calls is
abbrev pub IsOfNone : ℕ → ℕ → List Call → Type 0
IsOfNone session xid calls = (i : ℕ) → IfSome (slice_get calls i) (λ call. is_of session xid call ≡ false)

-- the call at this place is, and none before it
pub record IsFirst (session xid : ℕ) (calls : List Call) (place : ℕ) : Type 0 where
  pub within : place < length calls
  pub it : IfSome (slice_get calls place) (λ call. is_of session xid call ≡ true)
  pub before : (i : ℕ) → i < place → IfSome (slice_get calls i) (λ call. is_of session xid call ≡ false)

-- the first such call went, which had called this, and the others stay in order
pub record IsAnswered (session xid : ℕ) (old : List Call) (called : Called) (new : List Call) : Type 0 where
  pub place : ℕ
  pub first : IsFirst session xid old place
  pub it : IfSome (slice_get old place) (λ call. call.called ≡ called)
  pub rest : new ≡ remove old place

-- A reply was looked for, and further calls of the recording were read for that: the one that it answers went, and all others that were not
-- answered are kept, in their order. Or none of them is answered by it.
abbrev pub Looked : ℕ → ℕ → List Call → Option Called → List Call → Type 0
Looked session xid old found new =
    (more : List Call) × MatchOption found ((new ≡ old ++ more) × IsOfNone session xid new) (λ called. IsAnswered session xid (old ++ more) called new)
