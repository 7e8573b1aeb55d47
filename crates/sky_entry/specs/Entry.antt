-- Entries of the journal: a change of the tree as bytes. The numbers are written as XDR writes them, the highest byte first.
use Rattle.std.specs.Prelude.{◌≡◌, ℕ, ◌≤◌, List, ◌++◌, length, IsTrue}
use Rattle.std.specs.List.{AllByRecursion}
use Rattle.sky_base.specs.Limits.{max_gids}
use Rattle.sky_base.specs.declared.cred.Cred.{Cred}
use Rattle.sky_nfs.specs.Calls.{procedure_of, is_change}
use Rattle.sky_nfs.specs.declared.call.Change.{Change}
use Rattle.sky_xdr.specs.Encoding.{uint}
use Rattle.sky_rpc.specs.Call.{uints}
use Rattle.sky_args.specs.Parts.{moment_bytes}
use Rattle.sky_args.specs.Args.{args_bytes}
use Rattle.sky_args.specs.Sizes.{FitsUint, FitsMoment, FitsTypes}

-- who made a change: the user, the group, how many further groups, and each of them
unfoldable pub caller_bytes : Cred → List ℕ
caller_bytes cred = uint cred.uid ++ uint cred.gid ++ uint (length cred.gids) ++ uints cred.gids

-- what of an entry follows its length: when, who, the number of the procedure, and the arguments, with zeros as the padding
unfoldable pub body_bytes : Change → List ℕ
body_bytes c = moment_bytes c.moment ++ caller_bytes c.cred ++ uint (procedure_of c.call) ++ args_bytes c.call

-- the entry of a change: how many bytes follow, and these
unfoldable pub entry_bytes : Change → List ℕ
entry_bytes c = uint (length (body_bytes c)) ++ body_bytes c

-- each field of who made a change is of its type
pub record FitsCred (cred : Cred) : Type 0 where
  pub uid : FitsUint cred.uid
  pub gid : FitsUint cred.gid
  pub gids : AllByRecursion FitsUint cred.gids
  pub gids_within : length cred.gids ≤ max_gids

-- each field of a change is of its type, and its call is one of those that change the tree
pub record FitsChange (c : Change) : Type 0 where
  pub moment : FitsMoment c.moment
  pub cred : FitsCred c.cred
  pub call : FitsTypes c.call
  pub changes : IsTrue (is_change c.call)

-- bytes are the entry of a change: they are as it is written, and their length can be said in it
pub record IsEntry (bytes : List ℕ) (c : Change) : Type 0 where
  pub fits : FitsChange c
  pub length_fits : FitsUint (length (body_bytes c))
  pub encoded : bytes ≡ entry_bytes c

-- bytes begin with the entry of a change, and this stands behind it
pub record BeginsWithEntry (bytes : List ℕ) (c : Change) (rest : List ℕ) : Type 0 where
  pub entry : List ℕ
  pub is : IsEntry entry c
  pub parts : bytes ≡ entry ++ rest
