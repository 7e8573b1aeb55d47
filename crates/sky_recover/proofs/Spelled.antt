-- When bytes are the entry of a change. Crates above cite this.
use Rattle.std.specs.Prelude.{is_some, if◌then◌else◌}
use Rattle.std.proofs.Common.{◌≡◌, ℕ, Bool, true, false, nat_eq, List, length, Some, None, refl}
use Rattle.sky_nfs.specs.declared.call.Change.{Change}
use Rattle.sky_entry.specs.Reading.{entry_at}
use Rattle.sky_sound.specs.Entries.{change_of, is_of_change}

some_if : {A : Type 0} (b : Bool) (x : A) → b ≡ is_some (if b then Some x else None)
some_if true x = refl
some_if false x = refl

-- the entry that they begin with is all of them
pub spelled : (bytes : List ℕ) (found : Change × ℕ) → entry_at bytes ≡ Some found → nat_eq found.1 (length bytes) ≡ is_of_change bytes
unfolding change_of
spelled bytes found e = rw e (some_if (nat_eq found.1 (length bytes)) found.0)

-- they begin with none
pub not_spelled : (bytes : List ℕ) → entry_at bytes ≡ None → false ≡ is_of_change bytes
unfolding change_of
not_spelled bytes e = rw e refl
