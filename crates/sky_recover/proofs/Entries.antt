-- The entries of a journal that has those of a history's changes, and those that are appended. Crates above cite this.
use Rattle.std.specs.Prelude.{IsSome}
use Rattle.std.proofs.Common.{◌≡◌, ℕ, ◌+◌, true, false, List, [], ◌∷◌, ◌++◌, length, map, Option, Some, None, refl, sym, ap, ◌∙◌, arith, append_assoc}
use Rattle.std.proofs.lemmas.List.{length-map}
use Rattle.sky_entry.specs.Entry.{entry_bytes}
use Rattle.sky_nfs.specs.Tree.{Tree}
use Rattle.sky_nfs.specs.declared.call.Change.{Change}
use Rattle.sky_journal.specs.Journal.{JournalView, IsJournal, entries, number_behind, numbered_in}
use Rattle.sky_journal.specs.Laid.{IsLaid}
use Rattle.sky_journal.specs.Text.{numbered}
use Rattle.sky_journal.specs.declared.open_area.OpenArea.{OpenArea}
use Rattle.sky_sound.specs.Entries.{entries_above, is_of_change}
use Rattle.sky_sound.proofs.Above.{above_yes, above_append}
use Rattle.sky_sound.proofs.Bases.{first_based}
use Rattle.sky_recover.specs.Opening.{HasEntries}
use Rattle.sky_recover.specs.Settling.{IsRead}

-- entries that follow others
pub numbered-append : (base : ℕ) (xs ys : List (List ℕ)) → numbered base (xs ++ ys) ≡ numbered base xs ++ numbered (base + length xs) ys
unfolding numbered
numbered-append base [] ys = let none : base ≡ base + 0 = omega arith in ap (λ (n : ℕ). numbered n ys) none
numbered-append base (x ∷ xs) ys =
    let next : base + 1 + length xs ≡ base + length (x ∷ xs) = omega arith in
    ap (λ (l : List (ℕ × List ℕ)). (base + 1, x) ∷ l) (numbered-append (base + 1) xs ys ∙ ap (λ (n : ℕ). numbered (base + 1) xs ++ numbered n ys) next)

-- each number is above 0
all_above : (base : ℕ) (es : List (List ℕ)) → entries_above 0 (numbered base es) ≡ numbered base es
unfolding numbered
all_above base [] = refl
all_above base (e ∷ es) = above_yes 0 (base + 1, e) (numbered (base + 1) es) (omega arith) ∙ ap (λ (l : List (ℕ × List ℕ)). (base + 1, e) ∷ l) (all_above (base + 1) es)

all_in : (o : Option OpenArea) (es : List (List ℕ)) → entries_above 0 (numbered_in o es) ≡ numbered_in o es
all_in None es = refl
all_in (Some a) es = all_above a.base es

all_of : (j : JournalView) (older newer : List (List ℕ)) → entries_above 0 (entries j older newer) ≡ entries j older newer
all_of j older newer =
    above_append 0 (numbered_in j.older older) (numbered_in j.newer newer)
    ∙ ap (λ (l : List (ℕ × List ℕ)). l ++ entries_above 0 (numbered_in j.newer newer)) (all_in j.older older)
    ∙ ap (λ (l : List (ℕ × List ℕ)). numbered_in j.older older ++ l) (all_in j.newer newer)

-- entries more in the newer area are numbered behind its last
more_in : (volume size : ℕ) (image : List ℕ) (o : Option OpenArea) (newer more : List (List ℕ)) → IsSome o → IsLaid volume size image o newer
    → numbered_in o (newer ++ more) ≡ numbered_in o newer ++ numbered (number_behind o 0) more
more_in volume size image None newer more some laid = let no : false ≡ true = some in absurd cc
more_in volume size image (Some a) newer more some laid =
    let same : a.base + length newer ≡ a.last + 0 = omega (arith, laid.numbers) in
    numbered-append a.base newer more ∙ ap (λ (n : ℕ). numbered a.base newer ++ numbered n more) same

pub has_entries : (j : JournalView) (start : Tree) (changes : List Change) (image : List ℕ) → IsJournal j → IsSome j.newer → length changes ≡ number_behind j.newer 0 → (read : IsRead j 0 image)
    → entries_above 0 (entries j read.older read.newer) ≡ numbered 0 (map entry_bytes changes) → HasEntries j (record { before = 0; tree = start; changes = changes }) image
has_entries j start changes image is some count read are = record {
  older = read.older;
  newer = read.newer;
  laid = read.stands;
  base = omega (arith, first_based is_of_change 0 j image read.older read.newer (entries j read.older read.newer) is read.stands read.says);
  numbers = λ more.
      let first : entries j read.older (read.newer ++ more) ≡ numbered_in j.older read.older ++ (numbered_in j.newer read.newer ++ numbered (number_behind j.newer 0) more) =
      ap (λ (l : List (ℕ × List ℕ)). numbered_in j.older read.older ++ l) (more_in j.volume j.size image j.newer read.newer more some read.stands.newer_is) in
      let whole : entries j read.older read.newer ≡ numbered 0 (map entry_bytes changes) = sym (all_of j read.older read.newer) ∙ are in
      let behind : number_behind j.newer 0 ≡ 0 + length (map entry_bytes changes) = omega (arith, count, length-map changes entry_bytes) in
      first
      ∙ sym (append_assoc (numbered_in j.older read.older) (numbered_in j.newer read.newer) (numbered (number_behind j.newer 0) more))
      ∙ ap (λ (l : List (ℕ × List ℕ)). l ++ numbered (number_behind j.newer 0) more) whole
      ∙ ap (λ (n : ℕ). numbered 0 (map entry_bytes changes) ++ numbered n more) behind
      ∙ sym (numbered-append 0 (map entry_bytes changes) more);
}
