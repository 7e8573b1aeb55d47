-- The text of an object's name in the cloud, which is also the path at which a folder has the object.
use Rattle.std.specs.Prelude.{ℕ, zero, suc, ◌+◌, ◌/◌, ◌%◌, ◌<◌, nat_lt, Bool, cond, List, [], ◌∷◌, ◌++◌}
use Rattle.sky_base.specs.Limits.{max_number}
use Rattle.sky_base.specs.declared.object.Dir.{Dir}
use Rattle.sky_base.specs.declared.object.Dir.TheVariants.{Proxy, Cleaner}
use Rattle.sky_base.specs.declared.object.SegName.{SegName}

-- a hexadecimal digit in ASCII: `0` to `9`, and then `a` to `f`
abbrev pub hex_digit : ℕ → ℕ
hex_digit d = cond (nat_lt d 10) (48 + d) (87 + d)

-- the last n hexadecimal digits of a number, the highest of them first
unfoldable pub hex_digits : ℕ → ℕ → List ℕ
hex_digits zero number = []
hex_digits (suc n) number = hex_digits n (number / 16) ++ hex_digit (number % 16) ∷ []

-- the letter of a directory: `p` or `c`
abbrev pub dir_letter : Dir → ℕ
dir_letter Proxy = 112
dir_letter Cleaner = 99

-- the letter of an object's kind: `k` for a checkpoint, `s` for a segment
abbrev pub kind_letter : Bool → ℕ
kind_letter last = cond last 107 115

-- The text of a name: the directory's letter, `/`, 16 digits of the epoch or run, `/`, 16 digits of the number within it, `.`
-- and the kind's letter.
abbrev pub name_text : SegName → List ℕ
name_text name =
    dir_letter name.dir ∷ 47 ∷
    (hex_digits 16 name.run ++ 47 ∷ (hex_digits 16 name.seq ++ 46 ∷ kind_letter name.last ∷ []))

-- a name that an object may have: its numbers are below the limit
pub record IsNumbered (name : SegName) : Type 0 where
  pub run : name.run < max_number
  pub seq : name.seq < max_number
