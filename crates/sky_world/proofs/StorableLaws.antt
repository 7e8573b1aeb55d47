-- Laws of changes that can be read from their entries, and of facts of each element of a list.
use Rattle.std.specs.Prelude.{cond}
use Rattle.std.specs.List.{AllByRecursion}
use Rattle.std.proofs.Common.{◌≡◌, ℕ, zero, suc, Bool, true, false, Some, List, [], ◌∷◌, ◌++◌, length, take, refl, sym, ap, ◌∙◌}
use Rattle.std.proofs.lemmas.Bool.{eq-eqb}
use Rattle.std.proofs.lemmas.List.{append-nil}
use Rattle.sky_entry.specs.Entry.{IsEntry, entry_bytes}
use Rattle.sky_entry.specs.Reading.{entry_at}
use Rattle.sky_entry.proofs.EntryLaws.{entry_again}
use Rattle.sky_nfs.specs.History.{History}
use Rattle.sky_nfs.specs.declared.call.Change.{Change}
use Rattle.sky_sound.specs.Entries.{IsStorable, change_of, if_whole}
use Rattle.sky_sound.specs.Invariant.{AreStorable}
use Rattle.sky_world.specs.Meaning.{with_change}

-- ---- facts of each element

pub all_take : {X : Type 0} (P : X → Type 0) (n : ℕ) (xs : List X) → AllByRecursion P xs → AllByRecursion P (take n xs)
all_take P zero xs all = tt
all_take P (suc n) [] all = tt
all_take P (suc n) (x ∷ xs) all = (all.0, all_take P n xs all.1)

pub all-append : {X : Type 0} (P : X → Type 0) (xs ys : List X) → AllByRecursion P xs → AllByRecursion P ys → AllByRecursion P (xs ++ ys)
all-append P [] ys all more = more
all-append P (x ∷ xs) ys all more = (all.0, all-append P xs ys all.1 more)

-- ---- changes whose entries are read again

same_length : (bytes : List ℕ) (c : Change) → if_whole bytes (c, length bytes) ≡ Some c
same_length bytes c = rw (eq-eqb (length bytes) (length bytes) refl) refl

-- a change that has an entry can be read from it
pub storable_of : (c : Change) → IsEntry (entry_bytes c) c → IsStorable c
unfolding change_of
storable_of c is =
    let bytes : List ℕ = entry_bytes c in
    let read : entry_at bytes ≡ Some (c, length bytes) = ap entry_at (sym (append-nil bytes)) ∙ entry_again bytes [] c is in
    rw read (same_length bytes c)

-- after a call all changes can be read, where the one that is done can
pub storable_by : (done : Bool) (h : History) (c : Change) → AreStorable h.changes → (done ≡ true → IsStorable c) → AreStorable (cond done (with_change h c) h).changes
storable_by true h c all one = all-append IsStorable h.changes (c ∷ []) all (one refl, tt)
storable_by false h c all one = all
