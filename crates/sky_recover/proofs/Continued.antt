-- What came of a journal whose changes were done again and whose areas were then settled. Crates above cite this.
use Rattle.std.specs.Prelude.{max, IsSome}
use Rattle.std.proofs.Common.{◌≡◌, ℕ, List, length, map, Option, Some, None, Ok, refl, sym, ap, ◌∙◌, subst, arith}
use Rattle.sky_calls.specs.Durable.{DurableView}
use Rattle.sky_nfs.specs.Tree.{Tree, empty_tree}
use Rattle.sky_outside.specs.Moments.{OnlyLooks}
use Rattle.sky_outside.specs.Told.{WhereTold, BothTold}
use Rattle.sky_outside.specs.declared.storage.Storage.{Ghosts}
use Rattle.sky_outside.proofs.ToldLaws.{WhereTold-at, WhereTold-from}
use Rattle.sky_journal.specs.Journal.{JournalView, IsJournal, SameButSpare, StandsOn, entries, number_behind}
use Rattle.sky_journal.specs.Text.{numbered}
use Rattle.sky_entry.specs.Entry.{entry_bytes}
use Rattle.sky_sound.specs.Entries.{entries_above, journal_of}
use Rattle.sky_sound.specs.Settled.{settled}
use Rattle.sky_sound.proofs.Settled.{settled_area, settled_last}
use Rattle.sky_sound.proofs.Texts.{ok_same}
use Rattle.sky_recover.specs.Opening.{HasEntries}
use Rattle.sky_recover.specs.Replaying.{IsReplayed}
use Rattle.sky_recover.specs.Settling.{IsRead, KeepsAbove}
use Rattle.sky_recover.specs.Steps.{IsContinued}
use Rattle.sky_recover.proofs.Entries.{has_entries}

-- two that tell both, of which the second is told
pub both_from : {A : Type 0} (R : A → A → Type 0) (a b : Option A) (y : A) → b ≡ Some y → BothTold R a b → (x : A) × (a ≡ Some x) × R x y
both_from R None None y e both = absurd cc
both_from R None (Some z) y e both = absurd both
both_from R (Some x) None y e both = absurd both
both_from R (Some x) (Some z) y e both = let same : z ≡ y = cc in (x, refl, subst (λ w. R x w) same both)

module _ {S : Type 0} (g : Ghosts S) (volume : ℕ) (j k : JournalView) (s t u : S) (tree : Tree) where
  continued : IsReplayed g j s (empty_tree volume) tree → OnlyLooks g s t → IsJournal k → SameButSpare (settled 0 j) k → StandsOn g k u
      → WhereTold (g.image s) (IsRead j 0) → WhereTold (g.image u) (IsRead k 0)
      → BothTold (λ old new. (list : List (ℕ × List ℕ)) → journal_of j.volume j.size 0 old ≡ Ok list → KeepsAbove j.volume j.size 0 list new) (g.image t) (g.image u)
      → IsContinued g volume j s u (record { tree = tree; journal = k })
  continued replayed looks is left stands read_j read_k above = record {
    changes = replayed.changes;
    done = replayed.done;
    storable = replayed.storable;
    tree_is = replayed.tree_is;
    count = count;
    told = replayed.told;
    has = WhereTold-from (g.image u) (HasEntries k (record { before = 0; tree = empty_tree volume; changes = replayed.changes })) there;
    settled = left;
    stands = stands;
  }
    where
      none_less : {n : ℕ} → max 0 n ≡ n
      none_less = omega arith

      count : length replayed.changes ≡ number_behind k.newer 0
      count = replayed.count ∙ sym (ap (λ (v : JournalView). number_behind v.newer 0) left ∙ settled_last 0 j ∙ none_less)

      there : (now : List ℕ) → g.image u ≡ Some now → HasEntries k (record { before = 0; tree = empty_tree volume; changes = replayed.changes }) now
      there now told =
          let old = both_from (λ old new. (list : List (ℕ × List ℕ)) → journal_of j.volume j.size 0 old ≡ Ok list → KeepsAbove j.volume j.size 0 list new) (g.image t) (g.image u) now told above in
          let told_s : g.image s ≡ Some old.0 = sym looks.image ∙ old.1 in
          let read = WhereTold-at (g.image s) (IsRead j 0) old.0 told_s read_j in
          let list : List (ℕ × List ℕ) = entries j read.older read.newer in
          let keeps : KeepsAbove j.volume j.size 0 list now = old.2 list read.says in
          let says : journal_of k.volume k.size 0 now ≡ Ok keeps.read =
          ap (λ (v : JournalView). journal_of v.volume v.size 0 now) left ∙ keeps.says in
          let read_now = WhereTold-at (g.image u) (IsRead k 0) now told read_k in
          let same : entries k read_now.older read_now.newer ≡ keeps.read = ok_same (entries k read_now.older read_now.newer) keeps.read (journal_of k.volume k.size 0 now) read_now.says says in
          let are : entries_above 0 (entries k read_now.older read_now.newer) ≡ numbered 0 (map entry_bytes replayed.changes) =
          ap (λ (l : List (ℕ × List ℕ)). entries_above 0 l) same ∙ keeps.above
          ∙ WhereTold-at (g.image s)
          (λ image. (l : List (ℕ × List ℕ)) → journal_of j.volume j.size 0 image ≡ Ok l → entries_above 0 l ≡ numbered 0 (map entry_bytes replayed.changes)) old.0 told_s replayed.encoded list read.says in
          has_entries k (empty_tree volume) replayed.changes now is (subst (λ (v : JournalView). IsSome v.newer) (sym left) (settled_area 0 j)) count read_now are

  -- the same of a tree with its journal
  pub continued_as : (start : Tree) (d : DurableView) → start ≡ empty_tree volume → d.tree ≡ tree → d.journal ≡ k → IsReplayed g j s start tree → OnlyLooks g s t → IsJournal k → SameButSpare (settled 0 j) k
      → StandsOn g k u → WhereTold (g.image s) (IsRead j 0) → WhereTold (g.image u) (IsRead k 0)
      → BothTold (λ old new. (list : List (ℕ × List ℕ)) → journal_of j.volume j.size 0 old ≡ Ok list → KeepsAbove j.volume j.size 0 list new) (g.image t) (g.image u)
      → IsContinued g volume j s u d
  continued_as start d begins tree_is journal_is replayed looks is left stands read_j read_k above =
      let made : IsContinued g volume j s u (record { tree = tree; journal = k }) =
      continued (subst (λ (x : Tree). IsReplayed g j s x tree) begins replayed) looks is left stands read_j read_k above in
      let by_tree : IsContinued g volume j s u (record { tree = d.tree; journal = k }) =
      subst (λ (x : Tree). IsContinued g volume j s u (record { tree = x; journal = k })) (sym tree_is) made in
      subst (λ (x : JournalView). IsContinued g volume j s u (record { tree = d.tree; journal = x })) (sym journal_is) by_tree
