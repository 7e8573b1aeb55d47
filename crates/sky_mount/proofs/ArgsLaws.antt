-- Arguments: what is accepted is read, and what is read is accepted.
--   args_again, args_took            the arguments of a call
--   no_such_proc, not_args           and why there is no call
--   args_end                         no arguments go on as others
--   encoded                          the written encoding is accepted
use Rattle.std.proofs.Common.{◌≡◌, ℕ, ◌<◌, ◌≤◌, ◌↔◌, Bool, true, false, cond, eqb, ◌||◌, inl, inr, List, [], ◌++◌, Result, Ok, Err, IfOk, IsErrOf, refl, sym, ap, subst, ◌∙◌, arith}
use Rattle.std.proofs.lemmas.Bool.{cases_lt, eqb-true}
use Rattle.std.proofs.lemmas.Bool.Decides.{nat_tests}
use Rattle.std.proofs.lemmas.List.{append-nil}
use Rattle.sky_base.specs.Limits.{max_mount_path_bytes}
use Rattle.sky_xdr.specs.declared.fault.XdrFault.{XdrFault}
use Rattle.sky_xdr.specs.Encoding.{AreBytes, IsOpaque}
use Rattle.sky_xdr.specs.Reading.{Gives, opaque_at}
use Rattle.sky_xdr.proofs.Numbers.{bind_ok, ok_is, pair_is, end_again, end_took}
use Rattle.sky_xdr.proofs.Opaques.{accepted_again, opaque_took, IsOpaque-opaque}
use Rattle.sky_mount.specs.declared.args.ArgFault.{ArgFault}
use Rattle.sky_mount.specs.declared.args.ArgFault.TheVariants.{NoSuchProc, Garbage}
use Rattle.sky_mount.specs.declared.args.MountCall.{MountCall as CallValue}
use Rattle.sky_mount.specs.Mount.{MountCall, Null, Mnt, Dump, Umnt, UmntAll, Export, procedure_of, IsPath, IsArgs, HasNoCall, HasShortPath, args_bytes}
use Rattle.sky_mount.specs.Reading.{none_at, path_at, or_garbage, args_at}
use Rattle.sky_mount.specs.Values.{call_of}

-- ---- the two kinds of arguments

none_again : (call : MountCall) (bytes : List ℕ) → bytes ≡ [] → none_at call bytes ≡ Ok call
unfolding none_at
none_again call bytes e = rw (e, end_again) refl

none_took : (call read : MountCall) (bytes : List ℕ) → none_at call bytes ≡ Ok read → (call ≡ read) × (bytes ≡ [])
unfolding none_at
none_took call read bytes e =
    let s = bind_ok _ _ _ e in
    (ok_is call read s.2, end_took bytes s.0 s.1)

path_again : (call : List ℕ → MountCall) (bytes path : List ℕ) → IsPath bytes path → path_at call bytes ≡ Ok (call path)
unfolding path_at
path_again call bytes path is =
    let read : opaque_at max_mount_path_bytes bytes ≡ Ok (path, []) =
    ap (opaque_at max_mount_path_bytes) (sym (append-nil bytes)) ∙ accepted_again max_mount_path_bytes bytes path [] is.0 is.1 (omega (arith, is.1)) in
    rw (read, end_again) refl

-- what was read as a path
record TookPath (call : List ℕ → MountCall) (bytes : List ℕ) (read : MountCall) : Type 0 where
  path : List ℕ
  called : read ≡ call path
  is : IsPath bytes path

path_took : (call : List ℕ → MountCall) (read : MountCall) (bytes : List ℕ) → AreBytes bytes → path_at call bytes ≡ Ok read → TookPath call bytes read
unfolding path_at
path_took call read bytes fits e =
    let s = bind_ok _ _ _ e in
    let n = bind_ok _ _ _ s.2 in
    let took = opaque_took max_mount_path_bytes bytes s.0.0 s.0.1 fits s.1 in
    let end : s.0.1 ≡ [] = end_took s.0.1 n.0 n.1 in
    let whole : bytes ≡ took.begins.prefix = took.begins.parts ∙ ap (λ (r : List ℕ). took.begins.prefix ++ r) end ∙ append-nil took.begins.prefix in
    record { path = s.0.0; called = sym (ok_is (call s.0.0) read n.2); is = (subst (λ (b : List ℕ). IsOpaque b s.0.0) (sym whole) took.begins.accepted, took.within) }

-- ---- each procedure

pub args_again : (bytes : List ℕ) (call : MountCall) → IsArgs bytes call → args_at (procedure_of call) bytes ≡ Ok call
unfolding args_at
args_again bytes Null is = ap or_garbage (none_again Null bytes is)
args_again bytes (Mnt path) is = ap or_garbage (path_again Mnt bytes path is)
args_again bytes Dump is = ap or_garbage (none_again Dump bytes is)
args_again bytes (Umnt path) is = ap or_garbage (path_again Umnt bytes path is)
args_again bytes UmntAll is = ap or_garbage (none_again UmntAll bytes is)
args_again bytes Export is = ap or_garbage (none_again Export bytes is)

-- what was read as the arguments of a procedure
pub record TookArgs (procedure : ℕ) (bytes : List ℕ) (call : MountCall) : Type 0 where
  pub called : procedure_of call ≡ procedure
  pub is : IsArgs bytes call

-- what was read, where it was not GARBAGE
ok_of : (read : Result MountCall XdrFault) (call : MountCall) → or_garbage read ≡ Ok call → read ≡ Ok call
ok_of (Ok c) call e = cc
ok_of (Err fault) call e = absurd cc

none_args : (procedure : ℕ) (bytes : List ℕ) (call read : MountCall) → procedure_of call ≡ procedure → (bytes ≡ [] → IsArgs bytes call) → or_garbage (none_at call bytes) ≡ Ok read → TookArgs procedure bytes read
none_args procedure bytes call read number is e =
    let took = none_took call read bytes (ok_of (none_at call bytes) read e) in
    subst (λ (c : MountCall). TookArgs procedure bytes c) took.0 (record { called = number; is = is took.1 })

path_args : (procedure : ℕ) (bytes : List ℕ) (call : List ℕ → MountCall) (read : MountCall) → AreBytes bytes → ((path : List ℕ) → procedure_of (call path) ≡ procedure) → ((path : List ℕ) → IsPath bytes path → IsArgs bytes (call path))
    → or_garbage (path_at call bytes) ≡ Ok read → TookArgs procedure bytes read
path_args procedure bytes call read fits number is e =
    let took = path_took call read bytes fits (ok_of (path_at call bytes) read e) in
    subst (λ (c : MountCall). TookArgs procedure bytes c) (sym took.called) (record { called = number took.path; is = is took.path took.is })

-- the procedures, from the first test that holds
abbrev tests : (a b c d e f : Bool) → List ℕ → Result MountCall ArgFault
tests a b c d e f bytes =
    cond a (or_garbage (none_at Null bytes)) (cond b (or_garbage (path_at Mnt bytes)) (cond c (or_garbage (none_at Dump bytes)) (cond d (or_garbage (path_at Umnt bytes)) (cond e (or_garbage (none_at UmntAll bytes)) (cond f (or_garbage (none_at Export bytes)) (Err NoSuchProc))))))

took_from : (a b c d e f : Bool) (procedure : ℕ) (bytes : List ℕ) (read : MountCall) → AreBytes bytes
    → (a ≡ true → procedure ≡ 0) → (b ≡ true → procedure ≡ 1) → (c ≡ true → procedure ≡ 2) → (d ≡ true → procedure ≡ 3) → (e ≡ true → procedure ≡ 4) → (f ≡ true → procedure ≡ 5)
    → tests a b c d e f bytes ≡ Ok read → TookArgs procedure bytes read
took_from true b c d e f procedure bytes read fits p q r s t u h = none_args procedure bytes Null read (sym (p refl)) (λ n. n) h
took_from false true c d e f procedure bytes read fits p q r s t u h = path_args procedure bytes Mnt read fits (λ path. sym (q refl)) (λ path is. is) h
took_from false false true d e f procedure bytes read fits p q r s t u h = none_args procedure bytes Dump read (sym (r refl)) (λ n. n) h
took_from false false false true e f procedure bytes read fits p q r s t u h = path_args procedure bytes Umnt read fits (λ path. sym (s refl)) (λ path is. is) h
took_from false false false false true f procedure bytes read fits p q r s t u h = none_args procedure bytes UmntAll read (sym (t refl)) (λ n. n) h
took_from false false false false false true procedure bytes read fits p q r s t u h = none_args procedure bytes Export read (sym (u refl)) (λ n. n) h
took_from false false false false false false procedure bytes read fits p q r s t u h = absurd cc

pub args_took : (procedure : ℕ) (bytes : List ℕ) (call : MountCall) → AreBytes bytes → args_at procedure bytes ≡ Ok call → TookArgs procedure bytes call
unfolding args_at
args_took procedure bytes call fits e =
    took_from (eqb procedure 0) (eqb procedure 1) (eqb procedure 2) (eqb procedure 3) (eqb procedure 4) (eqb procedure 5) procedure bytes call fits (eqb-true _ _) (eqb-true _ _) (eqb-true _ _) (eqb-true _ _) (eqb-true _ _) (eqb-true _ _) e

-- ---- why there is no call

garbage_alone : (read : Result MountCall XdrFault) → or_garbage read ≡ Err NoSuchProc → ⊥
garbage_alone (Ok call) e = cc
garbage_alone (Err fault) e = cc

all_false : (a b c d e f : Bool) (bytes : List ℕ) → tests a b c d e f bytes ≡ Err NoSuchProc → (a ≡ false) × (b ≡ false) × (c ≡ false) × (d ≡ false) × (e ≡ false) × (f ≡ false)
all_false true b c d e f bytes h = absurd (garbage_alone _ h)
all_false false true c d e f bytes h = absurd (garbage_alone _ h)
all_false false false true d e f bytes h = absurd (garbage_alone _ h)
all_false false false false true e f bytes h = absurd (garbage_alone _ h)
all_false false false false false true f bytes h = absurd (garbage_alone _ h)
all_false false false false false false true bytes h = absurd (garbage_alone _ h)
all_false false false false false false false bytes h = (refl, refl, refl, refl, refl, refl)

other_than : (n k : ℕ) → k < n → eqb n k ≡ false
other_than n k lt = grind (arith, nat_tests)

pub no_such_proc : (procedure : ℕ) (bytes : List ℕ) → (args_at procedure bytes ≡ Err NoSuchProc) ↔ (5 < procedure)
unfolding args_at
no_such_proc procedure bytes = (λ e. let h = all_false (eqb procedure 0) (eqb procedure 1) (eqb procedure 2) (eqb procedure 3) (eqb procedure 4) (eqb procedure 5) bytes e in grind (arith, nat_tests, h.0, h.1, h.2, h.3, h.4, h.5), λ above. rw (other_than procedure 0 (omega arith), other_than procedure 1 (omega arith), other_than procedure 2 (omega arith), other_than procedure 3 (omega arith), other_than procedure 4 (omega arith), other_than procedure 5 above) refl)

-- what was returned is what the grammar says
pub record Returned (procedure : ℕ) (bytes : List ℕ) (result : Result CallValue ArgFault) : Type 0 where
  pub called : IfOk result (λ call. procedure_of (call_of call) ≡ procedure)
  pub found : IfOk result (λ call. IsArgs bytes (call_of call))
  pub no_such_proc : IsErrOf result NoSuchProc ↔ (5 < procedure)
  pub garbage : IsErrOf result Garbage ↔ ((procedure ≤ 5) × HasNoCall procedure bytes)

-- a call of a procedure that has bytes as its arguments is read from them
again_at : (procedure : ℕ) (bytes : List ℕ) (call : MountCall) → procedure_of call ≡ procedure → IsArgs bytes call → args_at procedure bytes ≡ Ok call
again_at procedure bytes call number is = ap (λ (n : ℕ). args_at n bytes) (sym number) ∙ args_again bytes call is

pub returned : (procedure : ℕ) (bytes : List ℕ) (result : Result CallValue ArgFault) → AreBytes bytes → Gives call_of result (args_at procedure bytes) → Returned procedure bytes result
returned procedure bytes (Ok c) fits e =
    let took = args_took procedure bytes (call_of c) fits e in
    record {
      called = took.called;
      found = took.is;
      no_such_proc = (λ h. absurd cc, λ above. let n = (no_such_proc procedure bytes).1 above in absurd cc);
      garbage = (λ h. absurd cc, λ none. absurd (none.1 (call_of c) took.called took.is));
    }
returned procedure bytes (Err NoSuchProc) fits e =
    let above : 5 < procedure = (no_such_proc procedure bytes).0 e in
    record {
      called = tt;
      found = tt;
      no_such_proc = (λ h. above, λ a. refl);
      garbage = (λ h. absurd cc, λ none. absurd (omega (arith, none.0)));
    }
returned procedure bytes (Err Garbage) fits e =
    let within : procedure ≤ 5 = elim (cases_lt 5 procedure) [ inl above ↦ (let n = (no_such_proc procedure bytes).1 above in absurd cc) | inr le ↦ le ] in
    record {
      called = tt;
      found = tt;
      no_such_proc = (λ h. absurd cc, λ above. let n = (no_such_proc procedure bytes).1 above in absurd cc);
      garbage = (λ h. (within, λ call number is. let again = again_at procedure bytes call number is in absurd cc), λ none. refl);
    }

-- ---- the written encoding, and no arguments that go on

pub encoded : (call : MountCall) → HasShortPath call → IsArgs (args_bytes call) call
encoded Null short = refl
encoded (Mnt path) short = (IsOpaque-opaque path, short)
encoded Dump short = refl
encoded (Umnt path) short = (IsOpaque-opaque path, short)
encoded UmntAll short = refl
encoded Export short = refl

-- a path doesn't go on as another
path_end : (bytes more path other : List ℕ) → IsPath bytes path → IsPath (bytes ++ more) other → more ≡ []
path_end bytes more path other is goes =
    let first : opaque_at max_mount_path_bytes (bytes ++ more) ≡ Ok (path, more) = accepted_again max_mount_path_bytes bytes path more is.0 is.1 (omega (arith, is.1)) in
    let second : opaque_at max_mount_path_bytes (bytes ++ more) ≡ Ok (other, []) =
    ap (opaque_at max_mount_path_bytes) (sym (append-nil (bytes ++ more))) ∙ accepted_again max_mount_path_bytes (bytes ++ more) other [] goes.0 goes.1 (omega (arith, goes.1)) in
    (pair_is path other more [] (opaque_at max_mount_path_bytes (bytes ++ more)) first second).1

-- whether a procedure has a path
abbrev has_path : ℕ → Bool
has_path procedure = eqb procedure 1 || eqb procedure 3

-- the arguments of a call of a procedure with a path, and of one without
abbrev ArgsBy : Bool → List ℕ → Type 0
ArgsBy true bytes = (path : List ℕ) × IsPath bytes path
ArgsBy false bytes = bytes ≡ []

args_by : (call : MountCall) (bytes : List ℕ) → IsArgs bytes call → ArgsBy (has_path (procedure_of call)) bytes
args_by Null bytes is = is
args_by (Mnt path) bytes is = (path, is)
args_by Dump bytes is = is
args_by (Umnt path) bytes is = (path, is)
args_by UmntAll bytes is = is
args_by Export bytes is = is

by_end : (with_path : Bool) (bytes more : List ℕ) → ArgsBy with_path bytes → ArgsBy with_path (bytes ++ more) → more ≡ []
by_end true bytes more is goes = path_end bytes more is.0 goes.0 is.1 goes.1
by_end false bytes more is goes = ap (λ (b : List ℕ). b ++ more) (sym is) ∙ goes

pub args_end : (bytes more : List ℕ) (call other : MountCall) → procedure_of call ≡ procedure_of other → IsArgs bytes call → IsArgs (bytes ++ more) other → more ≡ []
args_end bytes more call other same is goes =
    by_end (has_path (procedure_of other)) bytes more (subst (λ (n : ℕ). ArgsBy (has_path n) bytes) same (args_by call bytes is)) (args_by other (bytes ++ more) goes)
