-- Reading an entry from left to right: the change and how many bytes its entry has, or nothing.
use Rattle.std.specs.Prelude.{◌≡◌, ℕ, ◌+◌, ◌&&◌, List, length, take, Option, Some, None, Result, Ok, Err, nat_lt, if◌then◌else◌}
use Rattle.std.specs.Option.{option_and_then, option_map}
use Rattle.std.specs.Str.{bytes_eq}
use Rattle.sky_base.specs.declared.cred.Cred.{Cred}
use Rattle.sky_nfs.specs.Calls.{is_change}
use Rattle.sky_nfs.specs.declared.call.Call.{Call}
use Rattle.sky_nfs.specs.declared.call.Change.{Change}
use Rattle.sky_xdr.specs.declared.fault.XdrFault.{XdrFault}
use Rattle.sky_xdr.specs.Reading.{uint_at}
use Rattle.sky_xdr.specs.GrammarReading.{◌>>=◌, give}
use Rattle.sky_rpc.specs.Reading.{gids_at}
use Rattle.sky_args.specs.Reading.{ArgRefusal, moment_at, args_at}
use Rattle.sky_entry.specs.declared.fault.EntryFault.{EntryFault}
use Rattle.sky_entry.specs.declared.fault.EntryFault.TheVariants.{Bad, Memory}
use Rattle.sky_entry.specs.declared.reading.Head.{Head}
use Rattle.sky_entry.specs.Entry.{body_bytes}

-- who made a change
unfoldable pub caller_at : List ℕ → Result (Cred × List ℕ) XdrFault
caller_at = do
  uid ← uint_at
  gid ← uint_at
  gids ← gids_at
  give (record { uid = uid; gid = gid; gids = gids })

-- what stands before the arguments: when, who, and the number of the procedure
unfoldable pub head_at : List ℕ → Result (Head × List ℕ) XdrFault
head_at = do
  moment ← moment_at
  cred ← caller_at
  procedure ← uint_at
  give (record { moment = moment; cred = cred; procedure = procedure })

-- the change that this call is, with what stood before its arguments
abbrev pub change_with : Head → Result Call ArgRefusal → Option Change
change_with head (Ok call) = Some (record { cred = head.cred; moment = head.moment; call = call })
change_with head (Err refusal) = None

-- the same, where the arguments are all that is left
abbrev pub change_behind : Result (Head × List ℕ) XdrFault → Option Change
change_behind (Ok (head, args)) = change_with head (args_at head.procedure args)
change_behind (Err fault) = None

-- a change, where it is one of those that have entries and is written as these bytes, with their padding
abbrev pub if_written : List ℕ → Change → Option Change
if_written body c = if is_change c.call && bytes_eq (body_bytes c) body then Some c else None

-- the change that has these bytes as what follows the length of its entry
unfoldable pub body_at : List ℕ → Option Change
body_at body = option_and_then (if_written body) (change_behind (head_at body))

-- the same behind a length, with how many bytes the entry has
abbrev pub entry_behind : Result (ℕ × List ℕ) XdrFault → Option (Change × ℕ)
entry_behind (Ok (n, rest)) = if nat_lt (length rest) n then None else option_map (λ c. (c, 4 + n)) (body_at (take n rest))
entry_behind (Err fault) = None

-- the change with whose entry bytes begin, and how many bytes that entry has
unfoldable pub entry_at : List ℕ → Option (Change × ℕ)
entry_at bytes = entry_behind (uint_at bytes)

-- what a call returned is this; or there was no memory
abbrev pub GivesOrNoMemory : {X : Type 0} → Result X EntryFault → Option X → Type 0
GivesOrNoMemory (Ok x) read = read ≡ Some x
GivesOrNoMemory (Err Bad) read = read ≡ None
GivesOrNoMemory (Err Memory) read = Unit {0}
