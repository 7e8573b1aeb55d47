use Rattle.std.proofs.Common.{[], refl}
use Rattle.sky_memory.specs.declared.record.Step.TheVariants.{Sync}
use Rattle.sky_memory.proofs.SiteMeets.{time, same_cloud, same_image, sync_ok, sync_leaves}
use Rattle.sky_memory.proofs.mem_site.MemSiteDisk.sync.Goals as goal

pub returns-clause-durable : goal.returns-clause-durable
returns-clause-durable c = sync_ok c.args.self.now c.flush.new.self _ c.flush.result c.flush.ensures.answer c.flush.ensures.made

pub returns-clause-image : goal.returns-clause-image
returns-clause-image c = same_image c.args.self.now c.flush.new.self Sync [] _ c.flush.ensures.made refl

pub returns-clause-crash : goal.returns-clause-crash
returns-clause-crash c = sync_leaves c.args.self.now c.flush.new.self _ c.flush.ensures.made

pub returns-clause-time : goal.returns-clause-time
returns-clause-time c = time c.args.self.now c.flush.new.self Sync [] _ c.flush.ensures.made

pub returns-clause-beside : goal.returns-clause-beside
returns-clause-beside c = same_cloud c.args.self.now c.flush.new.self Sync [] _ c.flush.ensures.made refl
