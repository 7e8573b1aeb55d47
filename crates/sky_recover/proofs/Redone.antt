-- The change of an entry, and what doing it again leads to.
use Rattle.std.specs.Prelude.{◌==◌, IsTrue, is_some, if◌then◌else◌}
use Rattle.std.specs.Option.{option_and_then}
use Rattle.std.proofs.Common.{◌≡◌, ℕ, Bool, true, false, List, [], length, take, Option, Some, None, refl, sym, ap, ◌∙◌, subst}
use Rattle.std.proofs.lemmas.Bool.{eq-eqb, eqb-true}
use Rattle.std.proofs.lemmas.List.{append-nil}
use Rattle.std.proofs.Math.Seq.{take-length}
use Rattle.sky_nfs.specs.declared.call.Change.{Change}
use Rattle.sky_entry.specs.Entry.{entry_bytes, IsEntry}
use Rattle.sky_entry.specs.Reading.{entry_at}
use Rattle.sky_entry.proofs.EntryLaws.{written_read}
use Rattle.sky_sound.specs.Entries.{change_of, if_whole, is_of_change, IsStorable}
use Rattle.sky_recover.specs.Replaying.{IsWhose}

-- ---- which change an entry is of

-- the change with whose entry bytes begin, where its entry is all of them
change_read : (bytes : List ℕ) (x : Change × ℕ) → entry_at bytes ≡ Some x → change_of bytes ≡ (if x.1 == length bytes then Some x.0 else None)
unfolding change_of
change_read bytes x e = ap (λ (o : Option (Change × ℕ)). option_and_then (if_whole bytes) o) e

by_length : (n m : ℕ) (c : Change) (o : Option Change) (b : Bool) → (n == m) ≡ b → o ≡ (if b then Some c else None) → IsTrue (is_some o) → (n ≡ m) × (o ≡ Some c)
by_length n m c o true e is found = (eqb-true n m e, is)
by_length n m c o false e is found = let none = subst (λ (x : Option Change). IsTrue (is_some x)) is found in absurd cc

pub whose : (bytes : List ℕ) (c : Change) (n : ℕ) → entry_at bytes ≡ Some (c, n) → IsEntry (take n bytes) c → IsTrue (is_of_change bytes) → IsWhose bytes c
whose bytes c n e entry is =
    let x : Change × ℕ = (c, n) in
    let found = by_length n (length bytes) c (change_of bytes) (n == length bytes) refl (change_read bytes x e) is in
    record {
      change_is = found.1;
      encoded = sym (take-length bytes) ∙ ap (λ (k : ℕ). take k bytes) (sym found.0) ∙ entry.encoded;
    }

-- it is read back from its entry
pub storable : (bytes : List ℕ) (c : Change) → IsEntry bytes c → IsStorable c
storable bytes c entry =
    let again : entry_at (entry_bytes c) ≡ Some (c, length (entry_bytes c)) =
    ap (λ (l : List ℕ). entry_at l) (sym (append-nil (entry_bytes c))) ∙ written_read c [] entry.fits entry.length_fits in
    let whole : (length (entry_bytes c) == length (entry_bytes c)) ≡ true = eq-eqb _ _ refl in
    change_read (entry_bytes c) (c, length (entry_bytes c)) again ∙ ap (λ (b : Bool). if b then Some c else None) whole
