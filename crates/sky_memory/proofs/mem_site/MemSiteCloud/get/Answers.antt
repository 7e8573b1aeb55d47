use Rattle.std.proofs.Common.{[], length, refl, subst}
use Rattle.sky_outside.specs.CloudMap.{CloudMap, Looks}
use Rattle.sky_memory.specs.declared.record.Step.TheVariants.{Look}
use Rattle.sky_memory.proofs.SiteMeets.{time, same_cloud, same_disk, objects_same}
use Rattle.sky_memory.proofs.mem_site.MemSiteCloud.get.Goals as goal

pub returns-in_default-clause-same : goal.returns-in_default-clause-same
returns-in_default-clause-same c = same_cloud c.args.self.now c.look_at_cloud.new.self Look [] _ c.look_at_cloud.ensures.made refl

pub returns-in_default-clause-time : goal.returns-in_default-clause-time
returns-in_default-clause-time c = time c.args.self.now c.look_at_cloud.new.self Look [] _ c.look_at_cloud.ensures.made

pub returns-in_default-clause-beside : goal.returns-in_default-clause-beside
returns-in_default-clause-beside c = same_disk c.args.self.now c.look_at_cloud.new.self Look [] _ c.look_at_cloud.ensures.made refl refl

pub returns-clause-same : goal.returns-clause-same
returns-clause-same c = same_cloud c.args.self.now c.look_at_cloud.new.self Look [] _ c.look_at_cloud.ensures.made refl

pub returns-clause-time : goal.returns-clause-time
returns-clause-time c = time c.args.self.now c.look_at_cloud.new.self Look [] _ c.look_at_cloud.ensures.made

pub returns-clause-beside : goal.returns-clause-beside
returns-clause-beside c = same_disk c.args.self.now c.look_at_cloud.new.self Look [] _ c.look_at_cloud.ensures.made refl refl

pub returns-clause-looks : goal.returns-clause-looks
returns-clause-looks c =
    subst (λ (objects : CloudMap). Looks objects c.args.name c.args.offset (length c.args.buf.now) c.look_up.new.buf c.look_up.result)
    (objects_same c.args.self.now c.look_at_cloud.new.self Look [] _ c.look_at_cloud.ensures.made refl) c.look_up.ensures.looks
