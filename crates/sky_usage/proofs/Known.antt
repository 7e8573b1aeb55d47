-- What is in use where the locations of small volumes are known.
use Rattle.std.specs.Prelude.{◌≡◌, ℕ, List, [], ◌∷◌, false, refl}
use Rattle.sky_base.specs.declared.object.Dir.{Dir}
use Rattle.sky_base.specs.declared.object.Dir.TheVariants.{Proxy, Cleaner}
use Rattle.sky_base.specs.declared.object.SegName.{SegName}
use Rattle.sky_base.specs.declared.place.Location.{Location}
use Rattle.sky_usage.specs.LiveBytes.{live_bytes}

abbrev at : Dir → ℕ → ℕ → ℕ → ℕ → Location
at dir run seq offset length = record { dir = dir; run = run; seq = seq; offset = offset; length = length }

abbrev segment : Dir → ℕ → ℕ → SegName
segment dir run seq = record { dir = dir; run = run; seq = seq; last = false }

-- two blocks and an inode in one segment, and the other block's newer copy in another one
abbrev some_places : List Location
some_places = at Proxy 1 1 36 32828 ∷ at Proxy 1 3 36 32828 ∷ at Proxy 1 1 65692 171 ∷ at Cleaner 1 1 36 60 ∷ at Proxy 1 1 32864 32828 ∷ []

in_the_first : live_bytes some_places (segment Proxy 1 1) ≡ 65827
in_the_first = refl

in_the_third : live_bytes some_places (segment Proxy 1 3) ≡ 32828
in_the_third = refl

in_the_copy : live_bytes some_places (segment Cleaner 1 1) ≡ 60
in_the_copy = refl

-- the same numbers in the other directory are another object, and so is another run
in_another : live_bytes some_places (segment Cleaner 1 3) ≡ 0
in_another = refl

in_another_run : live_bytes some_places (segment Proxy 2 1) ≡ 0
in_another_run = refl
