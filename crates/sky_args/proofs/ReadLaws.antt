-- What reading arguments returns.
--   read_stopped, read_left, read_all      where a part wasn't there, where bytes are left, and where all of them were read
--   gives_called, gives_found, gives_fits, gives_long, gives_given, gives_none, gives_garbage      what follows for the call and the fault
use Rattle.std.proofs.Common.{◌≡◌, ◌≢◌, ℕ, ◌<◌, ◌≤◌, ◌↔◌, List, [], ◌∷◌, length, Option, Some, None, Result, Ok, Err, IsErr, IsErrOf, IfOk, refl, sym, ap, subst, ◌∙◌, arith, inl, inr}
use Rattle.std.specs.Bool.{IsTrue}
use Rattle.std.proofs.lemmas.Bool.{cases_lt}
use Rattle.std.proofs.lemmas.Bool.Decides.{nat_tests}
use Rattle.sky_nfs.specs.Calls.{procedure_of}
use Rattle.sky_nfs.specs.declared.call.Call.{Call}
use Rattle.sky_xdr.specs.declared.fault.XdrFault.{XdrFault}
use Rattle.sky_xdr.specs.Encoding.{AreBytes}
use Rattle.sky_args.specs.declared.fault.ArgFault.{ArgFault}
use Rattle.sky_args.specs.declared.fault.ArgFault.TheVariants as fault
use Rattle.sky_args.specs.Args.{IsArgs, args_bytes}
use Rattle.sky_args.specs.Reading.{Garbage, whole, args_with, args_at, ReadsProcedure, GivesOrNoMemory, carries_text}
use Rattle.sky_args.specs.Sizes.{FitsTypes}
use Rattle.sky_args.proofs.SizeLaws.{accepted_fits, accepted_long}
use Rattle.sky_args.proofs.ArgsLaws.{args_again, args_sound, args_none}

-- ---- the steps of reading

whole_faulty : (read : Result (Call × List ℕ) XdrFault) → IsErr read → whole read ≡ Err Garbage
whole_faulty (Ok x) is = absurd cc
whole_faulty (Err e) is = refl

pub read_stopped : (o : Option (List ℕ → Result (Call × List ℕ) XdrFault)) (f : ArgFault) (old now : List ℕ)
    → ReadsProcedure o (Err f) old now → GivesOrNoMemory (Err f) (args_with o old)
read_stopped None fault.NoSuchProc old now is = refl
read_stopped None fault.Garbage old now is = absurd cc
read_stopped None fault.Memory old now is = tt
read_stopped (Some r) fault.NoSuchProc old now is = absurd is
read_stopped (Some r) fault.Garbage old now is = whole_faulty (r old) is
read_stopped (Some r) fault.Memory old now is = tt

pub bytes_left : (now : List ℕ) → now ≢ [] → 0 < length now
bytes_left [] some = absurd (some refl)
bytes_left (b ∷ bs) some = omega arith

-- what is read, behind which bytes are left
whole_left : (call : Call) (now : List ℕ) → 0 < length now → whole (Ok (call, now)) ≡ Err Garbage
whole_left call [] left = absurd (omega (arith, left))
whole_left call (b ∷ bs) left = refl

pub read_left : (o : Option (List ℕ → Result (Call × List ℕ) XdrFault)) (call : Call) (old now : List ℕ)
    → ReadsProcedure o (Ok call) old now → 0 < length now → args_with o old ≡ Err Garbage
read_left None call old now is left = absurd cc
read_left (Some r) call old now is left = ap whole is ∙ whole_left call now left

pub read_all : (o : Option (List ℕ → Result (Call × List ℕ) XdrFault)) (call : Call) (old now : List ℕ)
    → ReadsProcedure o (Ok call) old now → now ≡ [] → args_with o old ≡ Ok call
read_all None call old now is none = absurd cc
read_all (Some r) call old now is none = ap whole is ∙ ap (λ (n : List ℕ). whole (Ok (call, n))) none

-- ---- what was returned

pub gives_called : (r : Result Call ArgFault) (procedure : ℕ) (bytes : List ℕ) → AreBytes bytes → GivesOrNoMemory r (args_at procedure bytes)
    → IfOk r (λ call. procedure_of call ≡ procedure)
gives_called (Ok call) procedure bytes fits gives = (args_sound procedure bytes call fits gives).0
gives_called (Err f) procedure bytes fits gives = tt

pub gives_found : (r : Result Call ArgFault) (procedure : ℕ) (bytes : List ℕ) → AreBytes bytes → GivesOrNoMemory r (args_at procedure bytes)
    → IfOk r (λ call. IsArgs bytes call)
gives_found (Ok call) procedure bytes fits gives = (args_sound procedure bytes call fits gives).1
gives_found (Err f) procedure bytes fits gives = tt

pub gives_fits : (r : Result Call ArgFault) (procedure : ℕ) (bytes : List ℕ) → AreBytes bytes → GivesOrNoMemory r (args_at procedure bytes) → IfOk r FitsTypes
gives_fits (Ok call) procedure bytes fits gives = accepted_fits bytes call (args_sound procedure bytes call fits gives).1
gives_fits (Err f) procedure bytes fits gives = tt

pub gives_long : (r : Result Call ArgFault) (procedure : ℕ) (bytes : List ℕ) → AreBytes bytes → GivesOrNoMemory r (args_at procedure bytes)
    → IfOk r (λ call. length (args_bytes call) ≡ length bytes)
gives_long (Ok call) procedure bytes fits gives = sym (accepted_long bytes call (args_sound procedure bytes call fits gives).1)
gives_long (Err f) procedure bytes fits gives = tt

-- a procedure with a text is one
pub text_exists : (procedure : ℕ) → IsTrue (carries_text procedure) → procedure ≤ 21
text_exists procedure carries = grind (arith, nat_tests)

-- the call that has the bytes is what is given
pub gives_given : (r : Result Call ArgFault) (procedure : ℕ) (bytes : List ℕ) (call : Call) → GivesOrNoMemory r (args_at procedure bytes)
    → procedure_of call ≡ procedure → IsArgs bytes call → GivesOrNoMemory r (Ok call)
gives_given r procedure bytes call gives number is =
    let read : args_at procedure bytes ≡ Ok call = ap (λ k. args_at k bytes) (sym number) ∙ args_again bytes call is in
    subst (λ x. GivesOrNoMemory r x) read gives

pub gives_none : (r : Result Call ArgFault) (procedure : ℕ) (bytes : List ℕ) → GivesOrNoMemory r (args_at procedure bytes)
    → (r ≡ Err fault.Memory → procedure ≤ 21) → IsErrOf r fault.NoSuchProc ↔ (21 < procedure)
gives_none (Ok call) procedure bytes gives small = (λ e. absurd cc, λ above. absurd (let q = (args_none procedure bytes).1 above in cc))
gives_none (Err fault.NoSuchProc) procedure bytes gives small = (λ e. (args_none procedure bytes).0 gives, λ above. refl)
gives_none (Err fault.Garbage) procedure bytes gives small = (λ e. absurd cc, λ above. absurd (let q = (args_none procedure bytes).1 above in cc))
gives_none (Err fault.Memory) procedure bytes gives small = (λ e. absurd cc, λ above. absurd (omega (arith, small refl)))

-- what is garbage is that of a procedure that there is
known : (procedure : ℕ) (bytes : List ℕ) → args_at procedure bytes ≡ Err Garbage → procedure ≤ 21
known procedure bytes gives = elim (cases_lt 21 procedure) [
  | inl above ↦ absurd (let q = (args_none procedure bytes).1 above in cc)
  | inr within ↦ within
]

-- garbage is the arguments of no call
pub gives_garbage : (r : Result Call ArgFault) (procedure : ℕ) (bytes : List ℕ) → GivesOrNoMemory r (args_at procedure bytes)
    → IsErrOf r fault.Garbage → (procedure ≤ 21) × ((call : Call) → procedure_of call ≡ procedure → ¬ IsArgs bytes call)
gives_garbage (Ok call) procedure bytes gives e = absurd cc
gives_garbage (Err fault.NoSuchProc) procedure bytes gives e = absurd cc
gives_garbage (Err fault.Memory) procedure bytes gives e = absurd cc
gives_garbage (Err fault.Garbage) procedure bytes gives e =
    (known procedure bytes gives, λ call number is. let read = gives_given (Err fault.Garbage) procedure bytes call gives number is in absurd cc)
