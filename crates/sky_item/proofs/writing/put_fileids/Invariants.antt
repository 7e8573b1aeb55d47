use Rattle.std.proofs.Common.{take}
use Rattle.std.specs.List.{flat_map}
use Rattle.sky_xdr.specs.Encoding.{uhyper}
use Rattle.sky_item.specs.Writing.{Appends}
use Rattle.sky_item.proofs.writing.put_fileids.Given as goal

-- so many are written
abbrev pub invariant-loop-fileid : goal.invariant-loop-fileid
invariant-loop-fileid l = Appends (flat_map uhyper (take l.fileid-index l.fileids)) l.initial.out l.out
