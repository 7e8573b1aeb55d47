-- How many bytes an entry has, and its parts.
use Rattle.std.proofs.Common.{◌≡◌, ◌+◌, ◌*◌, ◌^◌, ◌<◌, length, arith}
use Rattle.std.proofs.lemmas.List.{length-append}
use Rattle.sky_base.specs.declared.cred.Cred.{Cred}
use Rattle.sky_nfs.specs.declared.call.Change.{Change}
use Rattle.sky_xdr.specs.Encoding.{uint}
use Rattle.sky_xdr.proofs.Numbers.{length-uint}
use Rattle.sky_rpc.proofs.Replies.{length-uints}
use Rattle.sky_args.specs.Args.{args_bytes}
use Rattle.sky_args.proofs.Lengths.{length-moment_bytes}
use Rattle.sky_entry.specs.Entry.{caller_bytes, body_bytes, entry_bytes}

pub length-caller_bytes : (cred : Cred) → length (caller_bytes cred) ≡ 12 + 4 * length cred.gids
unfolding caller_bytes
length-caller_bytes cred = simp (length-append, length-uint, length-uints) (omega arith)

pub length-body_bytes : (c : Change) → length (body_bytes c) ≡ 24 + 4 * length c.cred.gids + length (args_bytes c.call)
unfolding body_bytes
length-body_bytes c = simp (length-append, length-moment_bytes, length-caller_bytes, length-uint) (omega arith)

pub length-entry_bytes : (c : Change) → length (entry_bytes c) ≡ 4 + length (body_bytes c)
unfolding entry_bytes
length-entry_bytes c = omega (arith, length-append (uint (length (body_bytes c))) (body_bytes c), length-uint (length (body_bytes c)))

-- the arguments are a part of the entry
pub args_within : (c : Change) → length (entry_bytes c) < 2 ^ 32 → length (args_bytes c.call) < 2 ^ 32
args_within c small = omega (arith, length-entry_bytes c, length-body_bytes c)

pub ruleset body_size = (length-body_bytes)

pub ruleset entry_sizes = (length-entry_bytes, length-body_bytes)
