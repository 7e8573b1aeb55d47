-- The objects that a cloud holds, and what its calls answer and do.
use Rattle.std.specs.Prelude.{◌≡◌, ◌⊎◌, ℕ, ◌+◌, ◌<◌, ◌≤◌, List, length, map, Option, Some, None, Result, IsSomeAnd}
use Rattle.std.specs.declared.result.Result.TheVariants.{Ok, Err}
use Rattle.std.specs.Option.{option_map}
use Rattle.std.specs.FinMap.{FinMap, get, insert, remove, entries}
use Rattle.sky_base.specs.declared.object.SegName.{SegName}
use Rattle.sky_base.specs.Order.{name_order}
use Rattle.sky_outside.specs.Image.{bytes_at}
use Rattle.sky_outside.specs.Told.{WhereTold}
use Rattle.sky_outside.specs.declared.site.GetFault.{GetFault}
use Rattle.sky_outside.specs.declared.site.GetFault.TheVariants.{Failed, Missing, Short}
use Rattle.sky_outside.specs.declared.site.Held.{Held}

-- objects' bytes under their names
abbrev pub CloudMap : Type 0
CloudMap = FinMap name_order (List ℕ)

-- the map after an object was put, or removed
abbrev pub after_put : SegName → List ℕ → CloudMap → CloudMap
after_put name bytes objects = insert objects name bytes

abbrev pub after_removal : SegName → CloudMap → CloudMap
after_removal name objects = remove objects name

-- what a call does that is whole or hasn't happened: it did this
abbrev pub Happened : (CloudMap → CloudMap) → Option CloudMap → Option CloudMap → Type 0
Happened change old new = new ≡ option_map change old

-- it did this or nothing
abbrev pub HappenedOrNot : (CloudMap → CloudMap) → Option CloudMap → Option CloudMap → Type 0
HappenedOrNot change old new = (new ≡ old) ⊎ Happened change old new

-- how an object is listed
abbrev pub held_of : SegName × List ℕ → Held
held_of object = record { name = object.0; length = length object.1 }

-- all objects, in the order of their names
abbrev pub listing : CloudMap → List Held
listing objects = map held_of (entries objects)

-- What a look at n bytes of an object, from an offset on, answers: these bytes; or that no object has the name, or that
-- the range passes its end, each only where it is so; or that the cloud failed.
abbrev pub Looks : CloudMap → SegName → ℕ → ℕ → List ℕ → Result Unit GetFault → Type 0
Looks objects name offset n bytes (Ok _) = IsSomeAnd (get objects name) (λ object. (offset + n ≤ length object) × (bytes ≡ bytes_at object offset n))
Looks objects name offset n bytes (Err Missing) = get objects name ≡ None
Looks objects name offset n bytes (Err (Short held)) = IsSomeAnd (get objects name) (λ object. (length object ≡ held) × (held < offset + n))
Looks objects name offset n bytes (Err Failed) = Unit {0}

-- a put that stands: its name, and its bytes where they are told
pub record StandingPut : Type 0 where
  pub name : SegName
  pub bytes : Option (List ℕ)

-- where the put that stands is told, it is now the put of these bytes under this name
abbrev pub StandsNow : SegName → List ℕ → Option (Option StandingPut) → Option (Option StandingPut) → Type 0
StandsNow name bytes None None = Unit {0}
StandsNow name bytes (Some _) (Some (Some put)) = (put.name ≡ name) × WhereTold put.bytes (λ told. told ≡ bytes)
StandsNow name bytes told other = ⊥
