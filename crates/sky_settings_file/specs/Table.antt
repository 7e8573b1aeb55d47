-- The settings that a text says: a table of TOML, in which each key is a setting, and its value an integer in the range of that setting.
use Rattle.std.specs.Prelude.{◌≡◌, ◌&&◌, ℕ, ℤ, pos, negsuc, nat_le, if◌then◌else◌, List, Option, Some, None, option_map, option_and_then, codes}
use Rattle.std.specs.Str.{bytes_eq, IsUtf8}
use Rattle.sky_base.specs.Limits.{max_volume, min_journal_area, max_journal_area}
use Rattle.sky_settings.specs.declared.settings.Fields.{Fields}
use Rattle.sky_settings.specs.Settings.{default_fields, min_volume, min_retained, max_retained, min_threshold, max_threshold, min_cache_items, max_cache_items}
use Rattle.toml.specs.Data.{Data, Members, no_members, member, as_integer}
use Rattle.toml.specs.Parse.{parse_document}

-- an integer as a number in a range, which has its ends too
abbrev pub natural_in : ℕ → ℕ → ℤ → Option ℕ
natural_in least most (pos n) = if nat_le least n && nat_le n most then Some n else None
natural_in least most (negsuc _) = None

-- a value as a number in a range
abbrev pub number_in : ℕ → ℕ → Data → Option ℕ
number_in least most value = option_and_then (natural_in least most) (as_integer value)

-- the settings with the one that a key and its value say
unfoldable pub with_setting : List ℕ → Data → Fields → Option Fields
with_setting key value fields =
    if bytes_eq key (codes "volume") then option_map (λ n. record fields { volume = n }) (number_in min_volume max_volume value)
    else if bytes_eq key (codes "journal_area") then option_map (λ n. record fields { journal_area = n }) (number_in min_journal_area max_journal_area value)
    else if bytes_eq key (codes "retained") then option_map (λ n. record fields { retained = n }) (number_in min_retained max_retained value)
    else if bytes_eq key (codes "threshold") then option_map (λ n. record fields { threshold = n }) (number_in min_threshold max_threshold value)
    else if bytes_eq key (codes "cache_items") then option_map (λ n. record fields { cache_items = n }) (number_in min_cache_items max_cache_items value)
    else None

-- the settings with those that a table says
abbrev pub with_settings : Members → Fields → Option Fields
with_settings no_members fields = Some fields
with_settings (member key value more) fields = option_and_then (with_settings more) (with_setting key value fields)

-- the settings that a text says, where each that it doesn't name is what it is where nothing is said
abbrev pub settings_in : List ℕ → Option Fields
settings_in text = option_and_then (λ table. with_settings table default_fields) (parse_document text)

-- a text says these settings: it is UTF-8, as each text of TOML is, and its table says them
abbrev pub SaysSettings : List ℕ → Fields → Type 0
SaysSettings text fields = IsUtf8 text × (settings_in text ≡ Some fields)
