use Rattle.std.proofs.Common.{[], refl}
use Rattle.sky_memory.specs.declared.record.Step.TheVariants.{Look}
use Rattle.sky_memory.specs.Past.{at_first}
use Rattle.sky_memory.specs.Kept.{first_of}
use Rattle.sky_memory.proofs.SiteLaws.{image_kept, objects_kept}
use Rattle.sky_memory.proofs.mem_site.MemSite.look_at_disk.Goals as goal

pub invariant_of-self : goal.invariant_of-self
invariant_of-self c =
    let s = at_first (first_of c.self.inside) in
    record {
      image = image_kept c.self.inside.noted c.begin-fate.new.noted s [] c.begin-fate.result Look c.self.inside.image.items refl c.begin-fate.ensures.kept c.self.invariant.image;
      objects = objects_kept c.self.inside.noted c.begin-fate.new.noted s [] c.begin-fate.result Look _ refl c.begin-fate.ensures.kept c.self.invariant.objects;
      names = c.self.invariant.names;
    }
