-- Entries of a journal that are not above covers, and images that say the others.
use Rattle.std.specs.Prelude.{IfSome}
use Rattle.std.proofs.Common.{◌≡◌, ℕ, ◌≤◌, List, [], ◌∷◌, ◌++◌, Option, Some, None, Ok, refl, ap, ◌∙◌, arith}
use Rattle.sky_journal.specs.Laid.{IsLaid}
use Rattle.sky_journal.specs.Journal.{JournalView, IsOpenArea, AreInOrder, IsJournal, StandsFor, ReadsAs, base_in, entries, first_base, number_behind, numbered_in}
use Rattle.sky_journal.specs.declared.open_area.OpenArea.{OpenArea}
use Rattle.sky_journal.proofs.Reading.{reads}
use Rattle.sky_sound.specs.Entries.{AreOfChanges, is_of_change, journal_of, entries_above}
use Rattle.sky_sound.proofs.Above.{above_none}
use Rattle.sky_sound.proofs.Bases.{first_based}
use Rattle.sky_sound.proofs.Texts.{ok_same, text_of, text_grammar}
use Rattle.sky_recover.specs.Settling.{IsRead, KeepsAbove}

-- ---- entries of changes

pub of_changes_first : (xs ys : List (ℕ × List ℕ)) → AreOfChanges (xs ++ ys) → AreOfChanges xs
of_changes_first [] ys all = tt
of_changes_first (x ∷ xs) ys all = (all.0, of_changes_first xs ys all.1)

pub of_changes_second : (xs ys : List (ℕ × List ℕ)) → AreOfChanges (xs ++ ys) → AreOfChanges ys
of_changes_second [] ys all = all
of_changes_second (x ∷ xs) ys all = of_changes_second xs ys all.1

-- ---- areas

-- the entries of an area whose last number is up to covers
pub area_covered : (volume size covers : ℕ) (image : List ℕ) (o : Option OpenArea) (es : List (List ℕ)) → IsLaid volume size image o es → number_behind o 0 ≤ covers
    → entries_above covers (numbered_in o es) ≡ []
area_covered volume size covers image None es laid le = refl
area_covered volume size covers image (Some a) es laid le = above_none covers a.base es (omega (arith, laid.numbers, le))

-- the older area's last number is up to the newer's
pub older_low : (size : ℕ) (o n : Option OpenArea) → AreInOrder size o n → IfSome n (IsOpenArea size) → number_behind o 0 ≤ number_behind n 0
older_low size None n order opens = omega arith
older_low size (Some a) None order opens = absurd order
older_low size (Some a) (Some b) order opens = omega (arith, order.number, opens.order)

-- an area's base is up to its last number
pub base_low : (size : ℕ) (o : Option OpenArea) → IfSome o (IsOpenArea size) → base_in None o ≤ number_behind o 0
base_low size None opens = omega arith
base_low size (Some a) opens = omega (arith, opens.order)

-- and so is that of both
pub first_low : (size : ℕ) (o n : Option OpenArea) → AreInOrder size o n → IfSome o (IsOpenArea size) → IfSome n (IsOpenArea size) → base_in o n ≤ number_behind n 0
first_low size None n order o_opens n_opens = base_low size n n_opens
first_low size (Some a) None order o_opens n_opens = absurd order
first_low size (Some a) (Some b) order o_opens n_opens = omega (arith, order.number, o_opens.order, n_opens.order)

-- the newer's base, where the older is open, is the older's last number
pub newer_base : (size : ℕ) (o n : Option OpenArea) (a : OpenArea) → o ≡ Some a → AreInOrder size o n → base_in None n ≡ a.last
newer_base size None n a e order = absurd cc
newer_base size (Some b) None a e order = absurd order
newer_base size (Some b) (Some d) a e order = let same : b ≡ a = cc in order.number ∙ ap (λ (x : OpenArea). x.last) same

-- ---- what is read

-- each entry that is read is one of a change
pub read_of_changes : (volume size covers : ℕ) (image : List ℕ) (list : List (ℕ × List ℕ)) → journal_of volume size covers image ≡ Ok list → AreOfChanges list
read_of_changes volume size covers image list says = text_grammar is_of_change covers list (text_of is_of_change volume size covers image list says)

-- the first base is up to covers
pub based : (j : JournalView) (covers : ℕ) (image : List ℕ) → IsJournal j → IsRead j covers image → first_base j ≤ covers
based j covers image is read = first_based is_of_change covers j image read.older read.newer (entries j read.older read.newer) is read.stands read.says

-- what is read is what the journal stands for
pub list_is : (j : JournalView) (covers : ℕ) (image : List ℕ) (list : List (ℕ × List ℕ)) (read : IsRead j covers image) → journal_of j.volume j.size covers image ≡ Ok list
    → entries j read.older read.newer ≡ list
list_is j covers image list read says = ok_same (entries j read.older read.newer) list (journal_of j.volume j.size covers image) read.says says

-- an image that reads as some of the entries, all those above covers among them
pub keeps_of : (volume size covers base : ℕ) (part list : List (ℕ × List ℕ)) (left : List ℕ) → ReadsAs volume size base part left → base ≤ covers → AreOfChanges part
    → entries_above covers part ≡ entries_above covers list → KeepsAbove volume size covers list left
keeps_of volume size covers base part list left reads_as le all same = record { read = part; says = reads_as is_of_change covers all le; above = same }

-- over an image a journal stands for entries of changes
pub read_from : (j : JournalView) (covers : ℕ) (image : List ℕ) (older newer : List (List ℕ)) → IsJournal j → StandsFor j image older newer → AreOfChanges (entries j older newer)
    → first_base j ≤ covers → IsRead j covers image
read_from j covers image older newer is stands all le =
    record { older = older; newer = newer; stands = stands; says = reads j image older newer is stands is_of_change covers all le }

-- and so over an image that says the same
pub keeps_from : (j : JournalView) (covers : ℕ) (image : List ℕ) (list : List (ℕ × List ℕ)) → (read : IsRead j covers image)
    → entries_above covers (entries j read.older read.newer) ≡ entries_above covers list → KeepsAbove j.volume j.size covers list image
keeps_from j covers image list read same = record { read = entries j read.older read.newer; says = read.says; above = same }
