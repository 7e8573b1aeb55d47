-- MKNOD, RFC 1813 section 3.3.11: this server makes no special objects.
use Rattle.std.specs.Prelude.{true, [], ◌∷◌, ◌++◌}
use Rattle.sky_nfs.specs.declared.call.DirOpArgs.{DirOpArgs}
use Rattle.sky_nfs.specs.declared.status.NfsStatus.TheVariants.{NotSupp}
use Rattle.sky_nfs.specs.Tree.{Tree}
use Rattle.sky_nfs.specs.Rules.{Rules, handle_rules}

-- the refusals of MKNOD, of which the last always applies
abbrev pub mknod_rules : Tree → DirOpArgs → Rules
mknod_rules t at = handle_rules t at.directory ++ (true, NotSupp) ∷ []
