-- What contracts see of a journal's file and a folder of objects.
use Rattle.std.specs.Prelude.{ℕ, ◌+◌, ◌<◌, Bool, List, ◌∷◌, ◌++◌, Result}
use Rattle.std.specs.declared.result.Result.TheVariants.{Err}
use Rattle.sky_base.specs.declared.object.SegName.{SegName}
use Rattle.sky_base.specs.NameText.{name_text}
use Rattle.sky_outside.specs.declared.site.GetFault.{GetFault}
use Rattle.sky_outside.specs.declared.site.GetFault.TheVariants.{Short}

-- the number of bytes that it tells, whether the journal's file is open and whether a folder was found, and how often each of
-- the two has failed
pub record FileSiteState : Type 0 where
  pub size : ℕ
  pub is_open : Bool
  pub has_folder : Bool
  pub disk_faults : ℕ
  pub cloud_faults : ℕ

-- where an object lies: the folder's path, `/`, and the text of its name
abbrev pub object_path : List ℕ → SegName → List ℕ
object_path folder name = folder ++ 47 ∷ name_text name

-- Short, where a look at n bytes from an offset on answers it, tells a length that the range passes
abbrev pub ShortIsShort : ℕ → ℕ → Result Unit GetFault → Type 0
ShortIsShort offset n (Err (Short held)) = held < offset + n
ShortIsShort offset n _ = Unit {0}
