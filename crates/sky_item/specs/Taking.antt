-- What a call returned, beside what reading gives.
use Rattle.std.specs.Prelude.{◌≡◌, ℕ, List, Result, Ok, Err}
use Rattle.sky_base.specs.declared.place.Damage.{Damage}
use Rattle.sky_item.specs.declared.item.Item.{Item}
use Rattle.sky_item.specs.declared.fault.ItemFault.{ItemFault}
use Rattle.sky_item.specs.declared.fault.ItemFault.TheVariants as fault
use Rattle.sky_item.specs.declared.fault.Refusal.{Refusal}
use Rattle.sky_item.specs.declared.fault.Refusal.TheVariants.{At, Memory}

-- what a call returned, seen by view, is what reading gives, and the reader now stands behind it; where a field was refused
-- nothing is said of the reader, and where there was no memory nothing at all
abbrev pub TakesBy : {X A : Type 0} → (X → A) → Result X Refusal → List ℕ → Result (A × List ℕ) ℕ → Type 0
TakesBy view (Ok x) now read = read ≡ Ok (view x, now)
TakesBy view (Err (At left)) now read = read ≡ Err left
TakesBy view (Err Memory) now read = Unit {0}

abbrev pub Takes : {X : Type 0} → Result X Refusal → List ℕ → Result (X × List ℕ) ℕ → Type 0
Takes result now read = TakesBy (λ x. x) result now read

-- the same of a whole body
abbrev pub Gives : {X : Type 0} → Result X Refusal → Result X ℕ → Type 0
Gives (Ok x) read = read ≡ Ok x
Gives (Err (At left)) read = read ≡ Err left
Gives (Err Memory) read = Unit {0}

-- what a call returned is the item of the bytes, or what is wrong with them; or there was no memory
abbrev pub GivesItem : Result Item ItemFault → Result Item Damage → Type 0
GivesItem (Ok item) read = read ≡ Ok item
GivesItem (Err (fault.Damage damage)) read = read ≡ Err damage
GivesItem (Err fault.Memory) read = Unit {0}
