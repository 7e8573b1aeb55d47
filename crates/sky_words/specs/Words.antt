-- The words of the command line: which of them are a command with its options, and what they name.
use Rattle.std.specs.Prelude.{◌≡◌, ◌≤◌, ℕ, Bool, true, false, ◌&&◌, not, if◌then◌else◌, nat_eq, List, [], ◌∷◌, length, Option, Some, None, is_none, is_some, IsSomeAnd, codes}
use Rattle.std.specs.List.{list_any, list_all}
use Rattle.std.specs.Str.{bytes_eq}
use Rattle.std.specs.Str.Parse.{IsNumeral, digits_value}
use Rattle.sky_base.specs.declared.paths.Paths.{Paths}
use Rattle.sky_words.specs.declared.command.Command.{Command}
use Rattle.sky_words.specs.declared.command.Command.TheVariants.{Replay, Clean, Generate, Serve}

-- a word may be a value: it isn't empty, and doesn't begin with a hyphen
abbrev pub is_value : List ℕ → Bool
is_value [] = false
is_value (first ∷ _) = not (nat_eq first 45)

-- the value of an option: the word behind its name, where the words are names and behind each its value
abbrev pub value_of : List ℕ → List (List ℕ) → Option (List ℕ)
value_of name [] = None
value_of name (_ ∷ []) = None
value_of name (word ∷ value ∷ more) = if bytes_eq word name then Some value else value_of name more

-- the words are options of these names, in any order, each of them at most once, and behind each its value
abbrev pub are_options : List (List ℕ) → List (List ℕ) → Bool
are_options names [] = true
are_options names (_ ∷ []) = false
are_options names (word ∷ value ∷ more) = ((list_any (bytes_eq word) names && is_value value) && is_none (value_of word more)) && are_options names more

-- the word that a command is asked for by
abbrev pub name_of : Command → List ℕ
name_of Replay = codes "replay"
name_of (Clean _) = codes "clean"
name_of (Generate _ _) = codes "generate"
name_of Serve = codes "serve"

-- the options that a command must have
abbrev pub needed_by : Command → List (List ℕ)
needed_by Replay = codes "--journal" ∷ codes "--cloud" ∷ []
needed_by (Clean _) = codes "--cloud" ∷ codes "--steps" ∷ []
needed_by (Generate _ _) = codes "--journal" ∷ codes "--cloud" ∷ codes "--seed" ∷ codes "--files" ∷ []
needed_by Serve = codes "--journal" ∷ codes "--cloud" ∷ codes "--listen" ∷ []

-- the options that a command may have
unfoldable pub known_to : Command → List (List ℕ)
known_to command = codes "--settings" ∷ needed_by command

-- a text is a number in a range: 1 to 10 decimal digits, without a sign
pub record IsNumber (low high : ℕ) (number : ℕ) (text : List ℕ) : Type 0 where
  pub digits : IsNumeral 10 text
  pub short : length text ≤ 10
  pub value : digits_value 10 text ≡ number
  pub at_least : low ≤ number
  pub at_most : number ≤ high

-- the numbers of a command are those that its options give: 1 to 65,536 steps, a seed below 2^32, and 1 to 1,000 files
abbrev pub GivesNumbers : List (List ℕ) → Command → Type 0
GivesNumbers options Replay = Unit {0}
GivesNumbers options (Clean steps) = IsSomeAnd (value_of (codes "--steps") options) (IsNumber 1 65536 steps)
GivesNumbers options (Generate seed files) = IsSomeAnd (value_of (codes "--seed") options) (IsNumber 0 4294967295 seed)
    × IsSomeAnd (value_of (codes "--files") options) (IsNumber 1 1000 files)
GivesNumbers options Serve = Unit {0}

-- the words say a command: its name stands first, and behind it are options of this command, none of those missing that it must have
pub record IsLineOf (command : Command) (first : List ℕ) (options : List (List ℕ)) : Type 0 where
  pub name : first ≡ name_of command
  pub known : are_options (known_to command) options ≡ true
  pub needed : list_all (λ name. is_some (value_of name options)) (needed_by command) ≡ true
  pub numbers : GivesNumbers options command

abbrev pub Says : Command → List (List ℕ) → Type 0
Says command [] = ⊥
Says command (first ∷ options) = IsLineOf command first options

-- the words are no command
abbrev pub AreRefused : List (List ℕ) → Type 0
AreRefused words = (command : Command) → Says command words → ⊥

-- the words behind the first
abbrev pub behind_first : List (List ℕ) → List (List ℕ)
behind_first [] = []
behind_first (_ ∷ options) = options

-- what the words name: the values of these options, or nothing where they aren't given
pub record Names (paths : Paths) (words : List (List ℕ)) : Type 0 where
  pub journal : paths.journal ≡ value_of (codes "--journal") (behind_first words)
  pub cloud : paths.cloud ≡ value_of (codes "--cloud") (behind_first words)
  pub settings : paths.settings ≡ value_of (codes "--settings") (behind_first words)
  pub listen : paths.listen ≡ value_of (codes "--listen") (behind_first words)
