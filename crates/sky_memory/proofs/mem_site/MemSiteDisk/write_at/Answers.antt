use Rattle.std.proofs.Common.{refl}
use Rattle.sky_memory.specs.declared.record.Step.TheVariants.{Write}
use Rattle.sky_memory.proofs.SiteMeets.{time, same_cloud, write_ok, write_err, write_tears}
use Rattle.sky_memory.proofs.mem_site.MemSiteDisk.write_at.Goals as goal

pub returns-clause-time : goal.returns-clause-time
returns-clause-time c = time c.args.self.now c.write.new.self (Write c.args.at) c.args.bytes.now _ c.write.ensures.made

pub returns-clause-beside : goal.returns-clause-beside
returns-clause-beside c = same_cloud c.args.self.now c.write.new.self (Write c.args.at) c.args.bytes.now _ c.write.ensures.made refl

pub returns-clause-written : goal.returns-clause-written
returns-clause-written c = write_ok c.args.self.now c.write.new.self _ c.write.result c.write.ensures.answer c.args.at c.args.bytes.now c.write.ensures.made c.requires

pub returns-clause-torn : goal.returns-clause-torn
returns-clause-torn c = write_err c.args.self.now c.write.new.self _ c.write.result c.write.ensures.answer c.args.at c.args.bytes.now c.write.ensures.made

pub returns-clause-crash : goal.returns-clause-crash
returns-clause-crash c = write_tears c.args.self.now c.write.new.self _ c.args.at c.args.bytes.now c.write.ensures.made
