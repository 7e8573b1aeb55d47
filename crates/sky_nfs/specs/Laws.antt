-- What the procedures keep.
use Rattle.sky_base.specs.declared.cred.Cred.{Cred}
use Rattle.sky_base.specs.declared.moment.Moment.{Moment}
use Rattle.sky_nfs.specs.declared.call.Call.{Call}
use Rattle.sky_nfs.specs.Procedure.{tree_after}
use Rattle.sky_nfs.specs.Tree.{Tree}
use Rattle.sky_nfs.specs.Validity.{IsValidTree}

-- a valid tree stays valid under a call, whoever calls, and whenever
abbrev pub KeepsValid : Call → Type 0
KeepsValid call = (t : Tree) (cred : Cred) (now : Moment) → IsValidTree t → IsValidTree (tree_after t cred call now)

-- every call keeps every tree valid
abbrev pub EachCallKeepsValid : Type 0
EachCallKeepsValid = (call : Call) → KeepsValid call
