-- What the results of a procedure say.
use Rattle.std.specs.Prelude.{ℕ}
use Rattle.sky_show.specs.declared.results.Results.{Results}
use Rattle.sky_show.specs.declared.results.Results.TheVariants as results

-- their status: NFS3_OK, 0, where they are no refusal
abbrev pub status_in : Results → ℕ
status_in (results.Refused status) = status
status_in other = 0
