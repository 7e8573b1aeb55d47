-- How many bytes the parts of arguments have as they are written.
use Rattle.std.proofs.Common.{◌≡◌, ℕ, ◌+◌, Option, Some, None, List, length, arith, is_some, cond}
use Rattle.std.proofs.lemmas.List.{length-append}
use Rattle.sky_base.specs.declared.attr.Device.{Device}
use Rattle.sky_base.specs.declared.moment.Moment.{Moment}
use Rattle.sky_nfs.specs.declared.call.StableHow.{StableHow}
use Rattle.sky_xdr.specs.Encoding.{uint, uhyper, optional}
use Rattle.sky_xdr.proofs.Numbers.{length-uint, length-uhyper, length-bool}
use Rattle.sky_xdr.proofs.Opaques.{length-opaque}
use Rattle.sky_xdr.proofs.FixedData.{length-fixed}
use Rattle.sky_args.specs.Parts.{moment_bytes, device_bytes, guard_bytes, stable_number, stable_how_bytes}

pub length-moment_bytes : (m : Moment) → length (moment_bytes m) ≡ 8
unfolding moment_bytes
length-moment_bytes m = omega (arith, length-append (uint m.seconds) (uint m.nanos), length-uint m.seconds, length-uint m.nanos)

pub length-device_bytes : (d : Device) → length (device_bytes d) ≡ 8
unfolding device_bytes
length-device_bytes d = omega (arith, length-append (uint d.major) (uint d.minor), length-uint d.major, length-uint d.minor)

pub length-stable_how_bytes : (how : StableHow) → length (stable_how_bytes how) ≡ 4
unfolding stable_how_bytes
length-stable_how_bytes how = length-uint (stable_number how)

pub length-optional_uint : (o : Option ℕ) → length (optional uint o) ≡ cond (is_some o) 8 4
length-optional_uint None = length-uint 0
length-optional_uint (Some n) = omega (arith, length-append (uint 1) (uint n), length-uint 1, length-uint n)

pub length-optional_uhyper : (o : Option ℕ) → length (optional uhyper o) ≡ cond (is_some o) 12 4
length-optional_uhyper None = length-uint 0
length-optional_uhyper (Some n) = omega (arith, length-append (uint 1) (uhyper n), length-uint 1, length-uhyper n)

pub length-guard_bytes : (guard : Option Moment) → length (guard_bytes guard) ≡ cond (is_some guard) 12 4
unfolding guard_bytes
length-guard_bytes None = length-uint 0
length-guard_bytes (Some m) = omega (arith, length-append (uint 1) (moment_bytes m), length-uint 1, length-moment_bytes m)

pub ruleset sizes = (length-append, length-uint, length-uhyper, length-fixed, length-moment_bytes, length-device_bytes, length-stable_how_bytes)

pub ruleset optional_sizes = (length-optional_uint, length-optional_uhyper, length-guard_bytes)

pub ruleset opaque_size = (length-opaque)
