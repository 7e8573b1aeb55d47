-- Faults other than that an image is foreign say nothing of it.
use Rattle.std.proofs.Common.{◌≡◌, ℕ, Result, Err, sym, ◌∙◌, ap, subst}
use Rattle.sky_journal.specs.declared.fault.JournalFault.{JournalFault}
use Rattle.sky_journal.specs.declared.fault.NextFault.{NextFault}
use Rattle.sky_journal.specs.declared.fault.NextFault.TheVariants.{DiskFault as NextDiskFault, Memory as NextMemory}
use Rattle.sky_journal.specs.declared.fault.JournalFault.TheVariants.{DiskFault, Memory, Foreign}
use Rattle.sky_journal.specs.Faults.{fault_of}
use Rattle.sky_journal.specs.Text.{Read}
use Rattle.sky_journal.specs.Looking.{Says}

fault_says : {T X : Type 0} (f : NextFault) (read : Read X) (R : T → X → Type 0) → Says (Err (fault_of f)) read R
fault_says NextDiskFault read R = tt
fault_says NextMemory read R = tt

-- an answer that hands on another fault
pub says_fault : {T X : Type 0} (result : Result T JournalFault) (f : NextFault) (e : JournalFault) (read : Read X) (R : T → X → Type 0) → result ≡ Err e → e ≡ fault_of f → Says result read R
says_fault {T} {X} result f e read R is same =
    subst (λ (r : Result T JournalFault). Says r read R) (sym (is ∙ ap (λ (x : JournalFault). Err x) same)) (fault_says f read R)

-- a fault that says what was read says so of what is the same
pub says_along : {T U X Y : Type 0} (e : JournalFault) (read : Read X) (other : Read Y) (R : T → X → Type 0) (Q : U → Y → Type 0) → ((place : ℕ) → read ≡ Err place → other ≡ Err place)
    → Says (Err e) read R → Says (Err e) other Q
says_along DiskFault read other R Q same says = tt
says_along Memory read other R Q same says = tt
says_along (Foreign at) read other R Q same says = same at says

-- and so does an answer that hands it on
pub says_handed : {T U X Y : Type 0} (result : Result U JournalFault) (x e : JournalFault) (read : Read X) (other : Read Y) (R : T → X → Type 0) (Q : U → Y → Type 0)
    → result ≡ Err x → x ≡ e → ((place : ℕ) → read ≡ Err place → other ≡ Err place) → Says (Err e) read R → Says result other Q
says_handed {T} {U} result x e read other R Q is same along says =
    subst (λ (r : Result U JournalFault). Says r other Q) (sym (is ∙ ap (λ (y : JournalFault). Err y) same)) (says_along e read other R Q along says)
