-- What follows for the change and the fault that reading an entry returned.
use Rattle.std.proofs.Common.{◌≡◌, ℕ, ◌≤◌, List, length, take, Some, Result, Ok, Err, IfOk, IsErrOf, ap, subst, ◌∙◌, arith}
use Rattle.std.specs.Bool.{IsTrue}
use Rattle.std.proofs.lemmas.List.{length-take}
use Rattle.sky_nfs.specs.Calls.{is_change}
use Rattle.sky_nfs.specs.declared.call.Change.{Change}
use Rattle.sky_xdr.specs.Encoding.{AreBytes}
use Rattle.sky_entry.specs.declared.fault.EntryFault.{EntryFault}
use Rattle.sky_entry.specs.declared.fault.EntryFault.TheVariants.{Bad, Memory}
use Rattle.sky_entry.specs.Entry.{entry_bytes, IsEntry, BeginsWithEntry}
use Rattle.sky_entry.specs.Reading.{entry_at, GivesOrNoMemory}
use Rattle.sky_entry.proofs.EntryLaws.{entry_again, entry_sound}

pub gives_found : (r : Result (Change × ℕ) EntryFault) (bytes : List ℕ) → AreBytes bytes → GivesOrNoMemory r (entry_at bytes)
    → IfOk r (λ x. IsEntry (take x.1 bytes) x.0)
gives_found (Ok (c, n)) bytes fits gives = (entry_sound bytes c n fits gives).is
gives_found (Err f) bytes fits gives = tt

pub gives_count : (r : Result (Change × ℕ) EntryFault) (bytes : List ℕ) → AreBytes bytes → GivesOrNoMemory r (entry_at bytes)
    → IfOk r (λ x. x.1 ≡ length (entry_bytes x.0))
gives_count (Ok (c, n)) bytes fits gives =
    let s = entry_sound bytes c n fits gives in
    omega (arith, s.within, ap length s.is.encoded, length-take n bytes)
gives_count (Err f) bytes fits gives = tt

pub gives_within : (r : Result (Change × ℕ) EntryFault) (bytes : List ℕ) → AreBytes bytes → GivesOrNoMemory r (entry_at bytes)
    → IfOk r (λ x. x.1 ≤ length bytes)
gives_within (Ok (c, n)) bytes fits gives = (entry_sound bytes c n fits gives).within
gives_within (Err f) bytes fits gives = tt

pub gives_changes : (r : Result (Change × ℕ) EntryFault) (bytes : List ℕ) → AreBytes bytes → GivesOrNoMemory r (entry_at bytes)
    → IfOk r (λ x. IsTrue (is_change x.0.call))
gives_changes (Ok (c, n)) bytes fits gives = (entry_sound bytes c n fits gives).is.fits.changes
gives_changes (Err f) bytes fits gives = tt

begins_again : (bytes : List ℕ) (c : Change) (rest : List ℕ) → BeginsWithEntry bytes c rest → entry_at bytes ≡ Some (c, length (entry_bytes c))
begins_again bytes c rest begins =
    ap entry_at begins.parts ∙ entry_again begins.entry rest c begins.is ∙ ap (λ (e : List ℕ). Some (c, length e)) begins.is.encoded

pub gives_given : (r : Result (Change × ℕ) EntryFault) (bytes : List ℕ) (c : Change) (rest : List ℕ) → GivesOrNoMemory r (entry_at bytes)
    → BeginsWithEntry bytes c rest → GivesOrNoMemory r (Some (c, length (entry_bytes c)))
gives_given r bytes c rest gives begins = subst (λ x. GivesOrNoMemory r x) (begins_again bytes c rest begins) gives

pub gives_bad : (r : Result (Change × ℕ) EntryFault) (bytes : List ℕ) (c : Change) (rest : List ℕ) → GivesOrNoMemory r (entry_at bytes)
    → IsErrOf r Bad → ¬ BeginsWithEntry bytes c rest
gives_bad (Ok x) bytes c rest gives e = absurd cc
gives_bad (Err Memory) bytes c rest gives e = absurd cc
gives_bad (Err Bad) bytes c rest gives e = λ begins. let read = gives_given (Err Bad) bytes c rest gives begins in absurd cc
