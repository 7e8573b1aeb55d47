use Rattle.std.proofs.Common.{length, flat_map, ap, refl, arith}
use Rattle.sky_results.specs.Results.{entryplus3}
use Rattle.sky_results.proofs.Bounds.{readdirplus_most}
use Rattle.sky_results.proofs.pages.readdirplus_is_short.Goals as goal

pub readdirplus_length-requires : goal.readdirplus_length-requires
readdirplus_length-requires c = omega (arith, readdirplus_most c.args.r.now, ap (λ es. length (flat_map entryplus3 es)) c.as_slice.ensures, c.if-not-entries_plus_are_short.ensures.0 refl)

pub overflow_add-result : goal.overflow_add-result
overflow_add-result c = omega (arith, readdirplus_most c.args.r.now, ap (λ es. length (flat_map entryplus3 es)) c.as_slice.ensures, c.if-not-entries_plus_are_short.ensures.0 refl)
