-- The arguments of a procedure by its number.
--   args_again            the arguments of a call are read as that call
--   args_sound            what is read are the arguments of a call of that procedure
--   args_none             there is no procedure above 21, and each up to 21
--   one_call, no_prefix   no bytes are the arguments of two calls, nor begin with others
use Rattle.std.proofs.Common.{◌≡◌, ◌≢◌, ℕ, zero, suc, ◌+◌, ◌<◌, ◌≤◌, ◌↔◌, List, [], ◌∷◌, ◌++◌, length, Option, Some, None, Result, Ok, Err, refl, sym, ap, subst, ◌∙◌, arith, get_or, ◌⊎◌, inl, inr}
use Rattle.std.specs.List.{slice_get}
use Rattle.std.proofs.lemmas.List.{append-nil}
use Rattle.std.proofs.lemmas.Option.{slice_get_cases}
use Rattle.sky_nfs.specs.Calls.{procedure_of}
use Rattle.sky_nfs.specs.declared.call.Call.{Call}
use Rattle.sky_nfs.specs.declared.call.Call.TheVariants.{Null, GetAttr, SetAttr, Lookup, Access, ReadLink, Read, Write, Create, Mkdir, Symlink, Mknod, Remove, Rmdir, Rename, Link, ReadDir, ReadDirPlus, FsStat, FsInfo, PathConf, Commit}
use Rattle.sky_xdr.specs.declared.fault.XdrFault.{XdrFault}
use Rattle.sky_xdr.specs.Encoding.{AreBytes}
use Rattle.sky_xdr.proofs.Numbers.{pair_is}
use Rattle.sky_xdr.proofs.Grammars.{Sound}
use Rattle.sky_args.specs.Args.{IsArgs}
use Rattle.sky_args.specs.Reading.{ArgRefusal, NoSuchProc, readers, whole, args_with, args_at}
use Rattle.sky_args.proofs.CallReads.{IsCallOf, reader_of, call_again, null_sound, get_attr_sound, set_attr_call_sound, lookup_sound, access_sound, read_link_sound, read_sound, write_sound, create_sound, mkdir_sound, symlink_sound, mknod_sound, remove_sound, rmdir_sound, rename_sound, link_sound, read_dir_sound, read_dir_plus_sound, fs_stat_sound, fs_info_sound, path_conf_sound, commit_sound}

-- ---- the reading function of a procedure

reader_is : (call : Call) → slice_get readers (procedure_of call) ≡ Some (reader_of call)
reader_is Null = refl
reader_is (GetAttr object) = refl
reader_is (SetAttr object set guard) = refl
reader_is (Lookup at) = refl
reader_is (Access object rights) = refl
reader_is (ReadLink link) = refl
reader_is (Read file offset count) = refl
reader_is (Write file offset count how piece) = refl
reader_is (Create at how) = refl
reader_is (Mkdir at set) = refl
reader_is (Symlink at set text) = refl
reader_is (Mknod at what) = refl
reader_is (Remove at) = refl
reader_is (Rmdir at) = refl
reader_is (Rename from to) = refl
reader_is (Link file at) = refl
reader_is (ReadDir directory cookie verifier count) = refl
reader_is (ReadDirPlus directory cookie verifier dircount maxcount) = refl
reader_is (FsStat root) = refl
reader_is (FsInfo root) = refl
reader_is (PathConf object) = refl
reader_is (Commit file offset count) = refl

-- reading functions are those of the procedures from n on
abbrev AreSound : ℕ → List (List ℕ → Result (Call × List ℕ) XdrFault) → Type 0
AreSound n [] = Unit {0}
AreSound n (r ∷ rs) = Sound r (IsCallOf n) × AreSound (n + 1) rs

all_sound : AreSound 0 readers
all_sound = (
  null_sound,
  (
    get_attr_sound,
    (
      set_attr_call_sound,
      (
        lookup_sound,
        (
          access_sound,
          (
            read_link_sound,
            (
              read_sound,
              (
                write_sound,
                (
                  create_sound,
                  (
                    mkdir_sound,
                    (
                      symlink_sound,
                      (
                        mknod_sound,
                        (
                          remove_sound,
                          (
                            rmdir_sound,
                            (
                              rename_sound,
                              (
                                link_sound,
                                (
                                  read_dir_sound,
                                  (
                                    read_dir_plus_sound,
                                    (
                                      fs_stat_sound,
                                      (
                                        fs_info_sound,
                                        (path_conf_sound, (commit_sound, tt)),
                                      ),
                                    ),
                                  ),
                                ),
                              ),
                            ),
                          ),
                        ),
                      ),
                    ),
                  ),
                ),
              ),
            ),
          ),
        ),
      ),
    ),
  ),
)

sound_at : (n i : ℕ) (rs : List (List ℕ → Result (Call × List ℕ) XdrFault)) (r : List ℕ → Result (Call × List ℕ) XdrFault)
    → AreSound n rs → slice_get rs i ≡ Some r → Sound r (IsCallOf (n + i))
sound_at n i [] r sound is = absurd cc
sound_at n zero (q ∷ rs) r sound is =
    let same : q ≡ r = cc in
    let place : n ≡ n + 0 = omega arith in
    subst (λ (k : ℕ). Sound r (IsCallOf k)) place (subst (λ f. Sound f (IsCallOf n)) same sound.0)
sound_at n (suc i) (q ∷ rs) r sound is =
    let place : n + 1 + i ≡ n + suc i = omega arith in
    subst (λ (k : ℕ). Sound r (IsCallOf k)) place (sound_at (n + 1) i rs r sound.1 is)

-- ---- what is read whole

whole_is : (read : Result (Call × List ℕ) XdrFault) (call : Call) → whole read ≡ Ok call → read ≡ Ok (call, [])
whole_is (Ok (c, [])) call e = let same : c ≡ call = cc in ap (λ (d : Call). Ok (d, [])) same
whole_is (Ok (c, b ∷ bs)) call e = absurd cc
whole_is (Err fault) call e = absurd cc

pub args_again : (bytes : List ℕ) (call : Call) → IsArgs bytes call → args_at (procedure_of call) bytes ≡ Ok call
unfolding args_at
args_again bytes call is =
    let read : reader_of call bytes ≡ Ok (call, []) = ap (reader_of call) (sym (append-nil bytes)) ∙ (call_again call bytes is).read [] in
    ap (λ r. args_with r bytes) (reader_is call) ∙ ap whole read

sound_with : (procedure : ℕ) (o : Option (List ℕ → Result (Call × List ℕ) XdrFault)) (bytes : List ℕ) (call : Call)
    → slice_get readers procedure ≡ o → AreBytes bytes → args_with o bytes ≡ Ok call → IsCallOf procedure call bytes
sound_with procedure None bytes call is fits e = absurd cc
sound_with procedure (Some r) bytes call is fits e =
    let sound : Sound r (IsCallOf (0 + procedure)) = sound_at 0 procedure readers r all_sound is in
    let begins = sound.begins bytes call [] fits (whole_is (r bytes) call e) in
    let all : begins.prefix ≡ bytes = sym (begins.parts ∙ append-nil begins.prefix) in
    let number : procedure_of call ≡ procedure = omega (arith, begins.is.0) in
    (number, subst (λ b. IsArgs b call) all begins.is.1)

pub args_sound : (procedure : ℕ) (bytes : List ℕ) (call : Call) → AreBytes bytes → args_at procedure bytes ≡ Ok call → IsCallOf procedure call bytes
unfolding args_at
args_sound procedure bytes call fits e = sound_with procedure (slice_get readers procedure) bytes call refl fits e

-- what is read whole is a call, or garbage
whole_exists : (read : Result (Call × List ℕ) XdrFault) → whole read ≢ Err NoSuchProc
whole_exists (Ok (c, [])) e = cc
whole_exists (Ok (c, b ∷ bs)) e = cc
whole_exists (Err fault) e = cc

none_with : (procedure : ℕ) (bytes : List ℕ)
    → ((r : List ℕ → Result (Call × List ℕ) XdrFault) × (procedure < length readers) × (slice_get readers procedure ≡ Some r) × (get_or readers procedure r ≡ r)) ⊎ ((length readers ≤ procedure) × (slice_get readers procedure ≡ None))
    → (args_with (slice_get readers procedure) bytes ≡ Err NoSuchProc) ↔ (21 < procedure)
none_with procedure bytes (inl is) =
    (λ e. absurd (whole_exists (is.0 bytes) (ap (λ o. args_with o bytes) (sym is.2) ∙ e)), λ above. absurd (omega (arith, is.1)))
none_with procedure bytes (inr is) = (λ e. omega (arith, is.0), λ above. ap (λ o. args_with o bytes) is.1)

pub args_none : (procedure : ℕ) (bytes : List ℕ) → (args_at procedure bytes ≡ Err NoSuchProc) ↔ (21 < procedure)
unfolding args_at
args_none procedure bytes = none_with procedure bytes (slice_get_cases readers procedure).1

-- ---- one reading

abbrev call_read : Call → Result Call ArgRefusal
call_read call = Ok call

call_is : (a b : Call) → call_read a ≡ call_read b → a ≡ b
call_is a b e = cc

pub one_call : (bytes : List ℕ) (a b : Call) → IsArgs bytes a → IsArgs bytes b → procedure_of a ≡ procedure_of b → a ≡ b
one_call bytes a b p q same =
    let first : args_at (procedure_of a) bytes ≡ Ok a = args_again bytes a p in
    let second : args_at (procedure_of a) bytes ≡ Ok b = ap (λ k. args_at k bytes) same ∙ args_again bytes b q in
    call_is a b (sym first ∙ second)

reader_once : {f g : List ℕ → Result (Call × List ℕ) XdrFault} → Some f ≡ Some g → f ≡ g
reader_once e = cc

pub no_prefix : (bytes more : List ℕ) (a b : Call) → IsArgs bytes a → IsArgs (bytes ++ more) b → procedure_of a ≡ procedure_of b → more ≡ []
no_prefix bytes more a b p q same =
    let readers_same : reader_of a ≡ reader_of b = reader_once (sym (reader_is a) ∙ ap (slice_get readers) same ∙ reader_is b) in
    let first : reader_of a (bytes ++ more) ≡ Ok (a, more) = (call_again a bytes p).read more in
    let second : reader_of b (bytes ++ more) ≡ Ok (b, []) = ap (reader_of b) (sym (append-nil (bytes ++ more))) ∙ (call_again b (bytes ++ more) q).read [] in
    (pair_is a b more [] (reader_of a (bytes ++ more)) first (ap (λ f. f (bytes ++ more)) readers_same ∙ second)).1
