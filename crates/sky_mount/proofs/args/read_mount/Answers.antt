use Rattle.std.proofs.Common.{arith}
use Rattle.sky_mount.proofs.ArgsLaws.{returned}
use Rattle.sky_mount.proofs.args.read_mount.Goals as goal

pub returns : goal.returns
returns c =
    let bytes = c.args.bytes.now in
    let r = returned c.args.procedure bytes c.read_whole.result (λ i. omega (arith, c.type_inv.bytes i)) c.read_whole.ensures in
    record { called = r.called; found = r.found; no_such_proc = r.no_such_proc; garbage = r.garbage; exact = c.read_whole.ensures }
