-- A list of words, taken apart as the code takes it apart, and the lines that say a command.
use Rattle.std.proofs.Common.{◌≡◌, ◌↔◌, ◌≤◌, ◌<◌, ◌&&◌, ◌==◌, ◌-◌, ℕ, suc, Bool, true, List, [], ◌∷◌, Option, Some, None, Result, Ok, Err, is_some, is_none, String, Global, string_bytes, map, length, take, drop, get_or, refl, ap, sym, ◌∙◌, subst, arith, rules, unwrap_or}
use Rattle.std.proofs.lemmas.List.{take_all}
use Rattle.std.specs.List.{list_any, list_all}
use Rattle.std.specs.Str.{bytes_eq}
use Rattle.sky_words.specs.declared.command.Command.{Command}
use Rattle.sky_words.specs.declared.command.WordsFault.{WordsFault}
use Rattle.sky_words.specs.declared.command.WordsFault.TheVariants.{Refused}
use Rattle.sky_words.specs.Words.{is_value, value_of, are_options, name_of, known_to, needed_by, GivesNumbers, IsLineOf, Says, AreRefused}

abbrev pub Word : Type 0
Word = String Global

-- a single word is no option, and has no value
pub value_of-short : (name : List ℕ) (ws : List Word) → length ws < 2 → None ≡ value_of name (map string_bytes ws)
value_of-short name [] h = refl
value_of-short name (w ∷ []) h = refl
value_of-short name (w ∷ v ∷ more) h = absurd (omega (arith, h))

pub are_options-short : (names : List (List ℕ)) (ws : List Word) → length ws < 2 → (length ws == 0) ≡ are_options names (map string_bytes ws)
are_options-short names [] h = refl
are_options-short names (w ∷ []) h = refl
are_options-short names (w ∷ v ∷ more) h = absurd (omega (arith, h))

-- the test of the first option, and that of those behind it
pub are_options-pair : (names : List (List ℕ)) (ws : List Word) (word value : Word) → 2 ≤ length ws → word ≡ get_or ws 0 word → value ≡ get_or ws 1 value
    → are_options names (map string_bytes ws)
    ≡ (((list_any (bytes_eq (string_bytes word)) names && is_value (string_bytes value))
    && is_none (value_of (string_bytes word) (map string_bytes (take (length ws - 2) (drop 2 ws)))))
    && are_options names (map string_bytes (take (length ws - 2) (drop 2 ws))))
are_options-pair names [] word value h e f = absurd (omega (arith, h))
are_options-pair names (w ∷ []) word value h e f = absurd (omega (arith, h))
are_options-pair names (w ∷ v ∷ more) word value h e f = rw e (rw f (rw (take_all (suc (suc (length more)) - 2) more (omega arith)) refl))

-- where the first option is taken or not, and so are all words
pub taken : (names : List (List ℕ)) (ws : List Word) (word value : Word) (name text : List ℕ) (good : Bool)
    → 2 ≤ length ws → word ≡ get_or ws 0 word → value ≡ get_or ws 1 value → name ≡ string_bytes word → text ≡ string_bytes value
    → good ≡ ((list_any (bytes_eq name) names && is_value text) && is_none (value_of name (map string_bytes (take (length ws - 2) (drop 2 ws)))))
    → (verdict : Bool) → good ≡ verdict → (all : Bool) → are_options names (map string_bytes ws) ≡ all
    → (verdict && are_options names (map string_bytes (take (length ws - 2) (drop 2 ws)))) ≡ all
taken names ws word value name text good h e f n t g verdict v all a =
    ap (λ (x : Bool). x && are_options names (map string_bytes (take (length ws - 2) (drop 2 ws)))) (sym v ∙ g)
    ∙ rw n (rw t (sym (are_options-pair names ws word value h e f))) ∙ a

-- words say what their first and those behind it say
pub said : (ws : List Word) (name : Word) → 1 ≤ length ws → name ≡ get_or ws 0 name → (command : Command)
    → Says command (map string_bytes ws) ↔ IsLineOf command (string_bytes name) (map string_bytes (take (length ws - 1) (drop 1 ws)))
said [] name h e command = absurd (omega (arith, h))
said (w ∷ more) name h e command = rw e (rw (take_all (suc (length more) - 1) more (omega arith)) ((λ s. s), (λ s. s)))

-- what is read of a line
abbrev pub IsReading : Option Command → List ℕ → List (List ℕ) → Type 0
IsReading found name options = (command : Command) → (found ≡ Some command) ↔ IsLineOf command name options

abbrev pub IsNamed : Option Command → List ℕ → List (List ℕ) → Type 0
IsNamed found name options = (command : Command) → (found ≡ Some command) ↔ ((name ≡ name_of command) × GivesNumbers options command)

abbrev pub has_needed : Command → List (List ℕ) → Bool
has_needed command options = list_all (λ name. is_some (value_of name options)) (needed_by command)

pub same_command : (a b : Command) → Some a ≡ Some b → a ≡ b
same_command a b e = ap (λ o. unwrap_or o a) e

pub read-taken : (a : Command) (name : List ℕ) (options : List (List ℕ)) → IsNamed (Some a) name options
    → are_options (known_to a) options ≡ true → has_needed a options ≡ true → IsReading (Some a) name options
read-taken a name options h known needed command = (
  (λ e. let P : Command → Type 0 = λ x. IsLineOf x name options in
      subst P (same_command a command e) (record { name = ((h a).0 refl).0; known = known; needed = needed; numbers = ((h a).0 refl).1 })),
  (λ line. (h command).1 (line.name, line.numbers)),
)

-- a command that lacks an option, or has one too many, is not said
pub read-refused : (a : Command) (name : List ℕ) (options : List (List ℕ)) → IsNamed (Some a) name options
    → (IsLineOf a name options → ⊥) → IsReading None name options
read-refused a name options h wrong command = (
  (λ e. absurd (search rules)),
  (λ line. let P : Command → Type 0 = λ x. IsLineOf x name options in
      absurd (wrong (subst P (sym (same_command a command ((h command).1 (line.name, line.numbers)))) line))),
)

pub read-unnamed : (name : List ℕ) (options : List (List ℕ)) → IsNamed None name options → IsReading None name options
read-unnamed name options h command = ((λ e. absurd (search rules)), (λ line. (h command).1 (line.name, line.numbers)))

-- a fault as the answer of a call
abbrev fails_with : (A : Type 0) → WordsFault → Result A WordsFault
fails_with A fault = Err fault

abbrev reads : Command → Result Command WordsFault
reads a = Ok a

-- words that say a command are not refused
pub not_refused : (words : List (List ℕ)) (a : Command) → Says a words → (reads a ≡ fails_with Command Refused) ↔ AreRefused words
not_refused words a says = ((λ e. absurd (search rules)), (λ refused. absurd (refused a says)))

-- a fault is the same fault of any call
pub same_fault : {A B : Type 0} (fault : WordsFault) (P : Type 0) → (fails_with A fault ≡ fails_with A Refused) ↔ P → (fails_with B fault ≡ fails_with B Refused) ↔ P
same_fault fault P h = ((λ e. h.0 cc), (λ p. let q = h.1 p in cc))
