-- What answers tell, by cases.
use Rattle.std.proofs.Common.{Result, Ok, Err, OnErr}

-- what holds holds at an error
pub on_err : {X E : Type 0} {P : Type 0} (r : Result X E) → P → OnErr r P
on_err (Ok x) p = tt
on_err (Err e) p = p
