use Rattle.std.proofs.Common.{length, flat_map, ap, refl, arith}
use Rattle.sky_results.specs.Results.{entry3}
use Rattle.sky_results.proofs.Bounds.{readdir_most}
use Rattle.sky_results.proofs.pages.readdir_is_short.Goals as goal

pub readdir_length-requires : goal.readdir_length-requires
readdir_length-requires c = omega (arith, readdir_most c.args.r.now, ap (λ es. length (flat_map entry3 es)) c.as_slice.ensures, c.if-not-entries_are_short.ensures.0 refl)

pub overflow_add-result : goal.overflow_add-result
overflow_add-result c = omega (arith, readdir_most c.args.r.now, ap (λ es. length (flat_map entry3 es)) c.as_slice.ensures, c.if-not-entries_are_short.ensures.0 refl)
