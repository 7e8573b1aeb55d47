use Rattle.std.proofs.Common.{[], refl}
use Rattle.sky_memory.specs.declared.record.Step.TheVariants.{Look}
use Rattle.sky_memory.proofs.SiteMeets.{time, same_cloud, same_disk}
use Rattle.sky_memory.proofs.mem_site.MemSiteCloud.list.Goals as goal

pub returns-in_default-look_at_cloud-clause-same : goal.returns-in_default-look_at_cloud-clause-same
returns-in_default-look_at_cloud-clause-same c = same_cloud c.args.self.now c.look_at_cloud.new.self Look [] _ c.look_at_cloud.ensures.made refl

pub returns-in_default-look_at_cloud-clause-time : goal.returns-in_default-look_at_cloud-clause-time
returns-in_default-look_at_cloud-clause-time c = time c.args.self.now c.look_at_cloud.new.self Look [] _ c.look_at_cloud.ensures.made

pub returns-in_default-look_at_cloud-clause-beside : goal.returns-in_default-look_at_cloud-clause-beside
returns-in_default-look_at_cloud-clause-beside c = same_disk c.args.self.now c.look_at_cloud.new.self Look [] _ c.look_at_cloud.ensures.made refl refl

pub returns-clause-same : goal.returns-clause-same
returns-clause-same c = same_cloud c.args.self.now c.look_at_cloud.new.self Look [] _ c.look_at_cloud.ensures.made refl

pub returns-clause-time : goal.returns-clause-time
returns-clause-time c = time c.args.self.now c.look_at_cloud.new.self Look [] _ c.look_at_cloud.ensures.made

pub returns-clause-beside : goal.returns-clause-beside
returns-clause-beside c = same_disk c.args.self.now c.look_at_cloud.new.self Look [] _ c.look_at_cloud.ensures.made refl refl
