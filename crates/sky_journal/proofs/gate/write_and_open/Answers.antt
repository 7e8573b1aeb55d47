use Rattle.std.proofs.Common.{length}
use Rattle.sky_journal.proofs.Rest.{opening_begun, opening_torn}
use Rattle.sky_journal.proofs.gate.write_and_open.Goals as goal

pub returns-in_err-write_through-clause-torn : goal.returns-in_err-write_through-clause-torn
returns-in_err-write_through-clause-torn g c =
    opening_begun c.args.gate (length c.args.bytes.now) (g.D.Storage.image c.args.disk.now) (g.D.Storage.image c.write_through.new.disk) c.write_through.ensures.torn

pub returns-clause-torn : goal.returns-clause-torn
returns-clause-torn g c =
    opening_torn c.args.gate (length c.args.bytes.now) (g.D.Storage.image c.args.disk.now) (g.D.Storage.image c.write_through.new.disk) (g.D.Storage.image c.write_through-2.new.disk)
    c.write_through.ensures.torn c.write_through-2.ensures.torn
