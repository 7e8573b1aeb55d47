use Rattle.std.proofs.Common.{length}
use Rattle.sky_outside.specs.Image.{Torn}
use Rattle.sky_outside.specs.Moments.{LeavesOnly, BesideObjects}
use Rattle.sky_outside.proofs.ToldLaws.{WhereTold-from}
use Rattle.sky_outside.proofs.MomentLaws.{LeavesOnly-disk_then, LeavesOnly-write, LeavesOnly-no_more, torn_from}
use Rattle.sky_outside.proofs.through.write_through.Goals as goal

pub returns-in_err-write_at-clause-any_moment : goal.returns-in_err-write_at-clause-any_moment
returns-in_err-write_at-clause-any_moment g c =
    WhereTold-from (g.D.Storage.image c.args.disk.now) (λ image. LeavesOnly g.D.Storage c.args.disk.now c.write_at.new.self (BesideObjects g.D.Storage c.args.disk.now (Torn c.args.at (length c.args.bytes.now) image)))
    (λ image is.
    LeavesOnly-write g.D.Storage c.args.disk.now c.write_at.new.self c.args.at (length c.args.bytes.now) image is c.requires.durable c.write_at.ensures.crash c.write_at.ensures.time c.write_at.ensures.beside)

pub returns-clause-any_moment : goal.returns-clause-any_moment
returns-clause-any_moment g c =
    let n = length c.args.bytes.now in
    WhereTold-from (g.D.Storage.image c.args.disk.now) (λ image. LeavesOnly g.D.Storage c.args.disk.now c.sync.new.self (BesideObjects g.D.Storage c.args.disk.now (Torn c.args.at n image)))
    (λ image is.
    let first = LeavesOnly-write g.D.Storage c.args.disk.now c.write_at.new.self c.args.at n image is c.requires.durable c.write_at.ensures.crash c.write_at.ensures.time c.write_at.ensures.beside in
    let left = torn_from g.D.Storage c.args.disk.now c.write_at.new.self c.args.at n image is c.requires.durable c.write_at.ensures.crash in
    let second = LeavesOnly-no_more g.D.Storage c.write_at.new.self c.sync.new.self (Torn c.args.at n image) c.sync.ensures.time c.sync.ensures.beside c.sync.ensures.crash left in
    LeavesOnly-disk_then g.D.Storage c.args.disk.now c.write_at.new.self c.sync.new.self (Torn c.args.at n image) (Torn c.args.at n image) (Torn c.args.at n image) c.write_at.ensures.beside first second (λ i t. t) (λ i t. t))
