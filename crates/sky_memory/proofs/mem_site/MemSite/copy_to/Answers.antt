use Rattle.std.proofs.Common.{◌≡◌, length, ap, arith}
use Rattle.sky_memory.specs.Past.{at_first, after_calls}
use Rattle.sky_memory.specs.PastLaws.{size_now}
use Rattle.sky_memory.specs.MemSite.{MemSiteState}
use Rattle.sky_memory.specs.Kept.{first_of}
use Rattle.sky_memory.proofs.mem_site.MemSite.copy_to.Goals as goal

pub copy_part-requires : goal.copy_part-requires
copy_part-requires c =
    let size = size_now (first_of c.self.inside) c.self.inside.noted.calls in
    let whole : length c.self.inside.image.items ≡ length (after_calls c.self.inside.noted.calls (at_first (first_of c.self.inside))).image = ap length c.self.invariant.image in
    let same : length c.self.inside.first_image.items ≡ length c.args.self.now.first.image = ap (λ (s : MemSiteState). length s.first.image) c.self.view_is in
    omega (arith, size, whole, same, ap length c.deref.ensures.value)
