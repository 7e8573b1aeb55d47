use Rattle.std.proofs.Common.{refl}
use Rattle.sky_memory.specs.declared.record.Step.TheVariants.{Put}
use Rattle.sky_memory.specs.Objects.{map_of}
use Rattle.sky_memory.specs.Past.{at_first}
use Rattle.sky_memory.specs.Kept.{first_of}
use Rattle.sky_memory.proofs.SiteLaws.{image_kept, put_kept}
use Rattle.sky_memory.proofs.mem_site.MemSite.store.Goals as goal

pub invariant_of-self-2 : goal.invariant_of-self-2
invariant_of-self-2 c =
    let s = at_first (first_of c.self.inside) in
    let r = c.self.inside.noted in
    let bytes = c.args.bytes.now in
    let kept = c.keep.ensures in
    record {
      image = image_kept r c.keep.new.noted s bytes c.next-fate.result (Put c.args.name) c.self.inside.image.items refl kept c.self.invariant.image;
      objects = put_kept r c.keep.new.noted s bytes c.next-fate.result c.args.name c.happens.result (map_of c.self.inside.objects) (map_of c.put_if.new.self) kept c.happens.ensures c.self.invariant.objects c.in_default.ensures.ok;
      names = c.self.invariant.names;
    }
