-- Which changes are stable before their answer goes out.
use Rattle.std.specs.Prelude.{Bool, true}
use Rattle.sky_nfs.specs.Procedures.Write.{is_stable}
use Rattle.sky_nfs.specs.declared.call.Call.{Call}
use Rattle.sky_nfs.specs.declared.call.Call.TheVariants as call

-- each change but a WRITE whose data may wait (UNSTABLE, RFC 1813 section 3.3.7)
abbrev pub is_stable_call : Call → Bool
is_stable_call (call.Write file offset count how piece) = is_stable how
is_stable_call _ = true
