-- What a text says is in range, and an empty text says what stands where nothing is said.
use Rattle.std.proofs.Common.{◌≡◌, ◌==◌, ℕ, ℤ, pos, negsuc, Bool, true, false, if◌then◌else◌, List, [], ◌∷◌, length, Option, Some, None, option_map, option_and_then, refl, subst, arith, rules}
use Rattle.std.proofs.lemmas.Option.{same_Some}
use Rattle.sky_settings.specs.declared.settings.Fields.{Fields}
use Rattle.sky_settings.specs.Settings.{IsWithin, IsInRange, default_fields}
use Rattle.sky_settings_file.specs.Table.{natural_in, number_in, with_setting, with_settings, settings_in, SaysSettings}
use Rattle.toml.specs.Data.{Data, Members, no_members, member, as_integer}
use Rattle.toml.specs.Parse.{parse_document}
use Rattle.toml.proofs.OnLiterals.{toml_on_literals}

natural-within : (least most : ℕ) (z : ℤ) (n : ℕ) → natural_in least most z ≡ Some n → IsWithin least most n
natural-within least most (negsuc k) n e = absurd (search rules)
natural-within least most (pos k) n e = grind arith

number-within : (least most : ℕ) (value : Data) (n : ℕ) → number_in least most value ≡ Some n → IsWithin least most n
number-within least most value n e = from (as_integer value) e
  where
    from : (found : Option ℤ) → option_and_then (natural_in least most) found ≡ Some n → IsWithin least most n
    from None h = absurd (search rules)
    from (Some z) h = natural-within least most z n h

-- settings that came of a number are in range where they are so for each number that it may be
updated : (f : ℕ → Fields) (found : Option ℕ) → ((n : ℕ) → found ≡ Some n → IsInRange (f n)) → (r : Fields) → option_map f found ≡ Some r → IsInRange r
updated f None h r e = absurd (search rules)
updated f (Some n) h r e = let P : Fields → Type 0 = IsInRange in subst P (same_Some _ _ e) (h n refl)

either : (b : Bool) (x y : Option Fields) (r : Fields) → (x ≡ Some r → IsInRange r) → (y ≡ Some r → IsInRange r) → (if b then x else y) ≡ Some r → IsInRange r
either true x y r hx hy e = hx e
either false x y r hx hy e = hy e

none-in_range : (r : Fields) → None ≡ Some r → IsInRange r
none-in_range r e = absurd (search rules)

set-in_range : (key : List ℕ) (value : Data) (f : Fields) → IsInRange f → (r : Fields) → with_setting key value f ≡ Some r → IsInRange r
unfolding with_setting
set-in_range key value f h r =
    either _ _ _ r (updated (λ n. record f { volume = n }) _ (λ n e. record { volume = number-within _ _ value n e; journal_area = h.journal_area; retained = h.retained; threshold = h.threshold; cache_items = h.cache_items }) r)
    (either _ _ _ r (updated (λ n. record f { journal_area = n }) _ (λ n e. record { volume = h.volume; journal_area = number-within _ _ value n e; retained = h.retained; threshold = h.threshold; cache_items = h.cache_items }) r)
    (either _ _ _ r (updated (λ n. record f { retained = n }) _ (λ n e. record { volume = h.volume; journal_area = h.journal_area; retained = number-within _ _ value n e; threshold = h.threshold; cache_items = h.cache_items }) r)
    (either _ _ _ r (updated (λ n. record f { threshold = n }) _ (λ n e. record { volume = h.volume; journal_area = h.journal_area; retained = h.retained; threshold = number-within _ _ value n e; cache_items = h.cache_items }) r)
    (either _ _ _ r (updated (λ n. record f { cache_items = n }) _ (λ n e. record { volume = h.volume; journal_area = h.journal_area; retained = h.retained; threshold = h.threshold; cache_items = number-within _ _ value n e }) r)
    (none-in_range r)))))

next-in_range : (found : Option Fields) (next : Fields → Option Fields) (r : Fields) → ((g : Fields) → found ≡ Some g → IsInRange g)
    → ((g : Fields) → IsInRange g → next g ≡ Some r → IsInRange r) → option_and_then next found ≡ Some r → IsInRange r
next-in_range None next r k go e = none-in_range r e
next-in_range (Some g) next r k go e = go g (k g refl) e

table-in_range : (table : Members) (f : Fields) → IsInRange f → (r : Fields) → with_settings table f ≡ Some r → IsInRange r
table-in_range no_members f h r e = let P : Fields → Type 0 = IsInRange in subst P (same_Some _ _ e) h
table-in_range (member key value more) f h r e =
    next-in_range (with_setting key value f) (with_settings more) r (set-in_range key value f h) (λ g in_range. table-in_range more g in_range r) e

default-in_range : IsInRange default_fields
default-in_range = record {
  volume = (omega arith, omega arith);
  journal_area = (omega arith, omega arith);
  retained = (omega arith, omega arith);
  threshold = (omega arith, omega arith);
  cache_items = (omega arith, omega arith);
}

-- what a text says is in range
pub text-in_range : (text : List ℕ) (r : Fields) → settings_in text ≡ Some r → IsInRange r
text-in_range text r e = from (parse_document text) e
  where
    from : (found : Option Members) → option_and_then (λ table. with_settings table default_fields) found ≡ Some r → IsInRange r
    from None h = absurd (search rules)
    from (Some table) h = table-in_range table default_fields default-in_range r h

-- an empty text is the table without keys
nothing : parse_document [] ≡ Some no_members
unfolding toml_on_literals
nothing = refl

pub empty-says : (text : List ℕ) → (length text == 0) ≡ true → SaysSettings text default_fields
empty-says [] e = (([], (refl, refl)), rw nothing refl)
empty-says (x ∷ xs) e = absurd (search rules)
