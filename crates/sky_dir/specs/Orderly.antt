-- What the entries of a directory are like as the calls leave them.
use Rattle.std.specs.Prelude.{◌≡◌, ℕ, ◌<◌, false, List, [], ◌∷◌, Option, option_map, find}
use Rattle.std.specs.List.{AllByRecursion}
use Rattle.std.specs.Str.{bytes_eq}
use Rattle.sky_base.specs.Listing.{Entry}
use Rattle.sky_dir.specs.Rows.{has_name}

-- each cookie is below those that stand after it, and below a bound
abbrev pub AscendsBelow : ℕ → List Entry → Type 0
AscendsBelow bound [] = Unit {0}
AscendsBelow bound (e ∷ es) = AllByRecursion (λ f. e.cookie < f.cookie) es × (e.cookie < bound) × AscendsBelow bound es

-- no two entries have one name
abbrev pub NamesDiffer : List Entry → Type 0
NamesDiffer [] = Unit {0}
NamesDiffer (e ∷ es) = AllByRecursion (λ f. bytes_eq f.name e.name ≡ false) es × NamesDiffer es

-- an index has the cookie of the entry of each name
abbrev pub Indexes : (List ℕ → Option ℕ) → List Entry → Type 0
Indexes at es = (name : List ℕ) → at name ≡ option_map (λ e. e.cookie) (find (has_name name) es)

-- entries as the calls leave them
abbrev pub IsOrderly : ℕ → List Entry → Type 0
IsOrderly bound es = AscendsBelow bound es × NamesDiffer es
