use Rattle.std.proofs.Common.{[], refl}
use Rattle.sky_memory.specs.declared.record.Step.TheVariants.{Remove}
use Rattle.sky_memory.specs.Objects.{map_of}
use Rattle.sky_memory.specs.Past.{at_first}
use Rattle.sky_memory.specs.Kept.{first_of}
use Rattle.sky_memory.proofs.SiteLaws.{image_kept, removed_kept}
use Rattle.sky_memory.proofs.mem_site.MemSite.discard.Goals as goal

pub invariant_of-self : goal.invariant_of-self
invariant_of-self c =
    let s = at_first (first_of c.self.inside) in
    let r = c.self.inside.noted in
    record {
      image = image_kept r c.begin-fate.new.noted s [] c.begin-fate.result (Remove c.args.name) c.self.inside.image.items refl c.begin-fate.ensures.kept c.self.invariant.image;
      objects = removed_kept r c.begin-fate.new.noted s [] c.begin-fate.result c.args.name c.happens.result (map_of c.self.inside.objects) (map_of c.remove_if.new.self) c.begin-fate.ensures.kept c.happens.ensures c.self.invariant.objects c.remove_if.ensures;
      names = c.self.invariant.names;
    }
