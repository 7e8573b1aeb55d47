-- The orders of object names and of moments.
use Rattle.std.specs.Prelude.{ℕ}
use Rattle.std.specs.declared.cmp.Ordering.{Ordering}
use Rattle.std.specs.Ordering.{ordering_then, nat_cmp, bool_cmp}
use Rattle.sky_base.specs.declared.moment.Moment.{Moment}
use Rattle.sky_base.specs.declared.object.Dir.{Dir}
use Rattle.sky_base.specs.declared.object.Dir.TheVariants.{Proxy, Cleaner}
use Rattle.sky_base.specs.declared.object.SegName.{SegName}

-- the place of a directory of the cloud: the proxy's first, and then the cleaner's
abbrev pub place_of_dir : Dir → ℕ
place_of_dir Proxy = 0
place_of_dir Cleaner = 1

-- the order of names: by the directory, then by the run, then by the number within it, and a segment (`.s`) before the checkpoint (`.k`) of the same number
abbrev pub name_order : SegName → SegName → Ordering
name_order a b =
    ordering_then (nat_cmp (place_of_dir a.dir) (place_of_dir b.dir))
    (ordering_then (nat_cmp a.run b.run) (ordering_then (nat_cmp a.seq b.seq) (bool_cmp a.last b.last)))

-- the order of moments: by the seconds, and then by the nanoseconds
abbrev pub moment_order : Moment → Moment → Ordering
moment_order a b = ordering_then (nat_cmp a.seconds b.seconds) (nat_cmp a.nanos b.nanos)
