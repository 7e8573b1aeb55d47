use Rattle.std.proofs.Common.{refl}
use Rattle.sky_memory.specs.declared.record.Step.TheVariants.{Write}
use Rattle.sky_memory.specs.Past.{at_first}
use Rattle.sky_memory.specs.Kept.{first_of}
use Rattle.sky_memory.proofs.SiteLaws.{objects_kept, written_kept}
use Rattle.sky_memory.proofs.mem_site.MemSite.write.Goals as goal

pub invariant_of-self : goal.invariant_of-self
invariant_of-self c =
    let s = at_first (first_of c.self.inside) in
    record {
      image = written_kept c.self.inside.noted c.begin-fate.new.noted s c.args.bytes.now c.begin-fate.result c.args.at c.happens.result c.self.inside.image.items c.overwrite_if.new.image.items c.begin-fate.ensures.kept c.happens.ensures c.self.invariant.image c.overwrite_if.ensures;
      objects = objects_kept c.self.inside.noted c.begin-fate.new.noted s c.args.bytes.now c.begin-fate.result (Write c.args.at) _ refl c.begin-fate.ensures.kept c.self.invariant.objects;
      names = c.self.invariant.names;
    }
