-- The results of each procedure are read in one way.
--   status_once, refused_once, results_same      a status, a refusal, and results or a refusal
--   answer_same                                  an answer, among those of its procedure
use Rattle.std.proofs.Common.{◌≡◌, ◌≢◌, ℕ, ◌<◌, ◌==◌, cond, List, ◌++◌, Result, Ok, Err, refl, sym, ◌∙◌, append_assoc, arith, lit<}
use Rattle.std.specs.Prelude.{IfOk}
use Rattle.sky_base.specs.declared.attr.Attr.{Attr}
use Rattle.sky_nfs.specs.NfsStatus.{number_of}
use Rattle.sky_nfs.specs.declared.answer.Answer.{Answer}
use Rattle.sky_nfs.specs.declared.answer.Answer.TheVariants.{Null, GetAttr, SetAttr, Lookup, Access, ReadLink, Read, Write, Create, Mkdir, Symlink, Mknod, Remove, Rmdir, Rename, Link, ReadDir, ReadDirPlus, FsStat, FsInfo, PathConf, Commit}
use Rattle.sky_nfs.specs.declared.answer.Refused.{Refused}
use Rattle.sky_nfs.specs.declared.status.NfsStatus.{NfsStatus}
use Rattle.sky_nfs.specs.declared.status.NfsStatus.TheVariants.{Perm, NoEnt, Io, Acces, Exist, NotDir, IsDir, Inval, FBig, NoSpc, MLink, NameTooLong, NotEmpty, Stale, BadHandle, NotSync, BadCookie, NotSupp, TooSmall, ServerFault, BadType, Jukebox}
use Rattle.sky_xdr.specs.Encoding.{uint}
use Rattle.sky_xdr.proofs.Numbers.{uint_same}
use Rattle.sky_results.specs.Answers.{refused, results, getattr_results, answer_bytes, answered}
use Rattle.sky_results.specs.Attributes.{fattr3}
use Rattle.sky_results.specs.Ranges.{IsU32, AttrFits, ResultsFit, AnswerFits}
use Rattle.sky_results.proofs.OneReading.{HasOneReading, Always, uint_once, both, along, under}
use Rattle.sky_results.proofs.PartsOnce.{fattr3_once, post_op_attr_once, wcc_data_once}
use Rattle.sky_results.proofs.PagesOnce.{readdir_once, readdirplus_once}
use Rattle.sky_results.proofs.ResultsOnce.{lookup_once, access_once, readlink_once, read_once, write_once, create_once, rename_once, link_once, fsstat_once, fsinfo_once, pathconf_once, commit_once}

-- ---- statuses

-- the status that a number stands for, where it stands for one
status_of : ℕ → NfsStatus
status_of n =
    cond (n == 1) Perm (cond (n == 2) NoEnt (cond (n == 5) Io (cond (n == 13) Acces (cond (n == 17) Exist (cond (n == 20) NotDir (cond (n == 21) IsDir (cond (n == 22) Inval (cond (n == 27) FBig (cond (n == 28) NoSpc (cond (n == 31) MLink (cond (n == 63) NameTooLong (cond (n == 66) NotEmpty (cond (n == 70) Stale (cond (n == 10001) BadHandle (cond (n == 10002) NotSync (cond (n == 10003) BadCookie (cond (n == 10004) NotSupp (cond (n == 10005) TooSmall (cond (n == 10006) ServerFault (cond (n == 10007) BadType Jukebox))))))))))))))))))))

status_of-number_of : (s : NfsStatus) → status_of (number_of s) ≡ s
unfolding status_of
status_of-number_of Perm = refl
status_of-number_of NoEnt = refl
status_of-number_of Io = refl
status_of-number_of Acces = refl
status_of-number_of Exist = refl
status_of-number_of NotDir = refl
status_of-number_of IsDir = refl
status_of-number_of Inval = refl
status_of-number_of FBig = refl
status_of-number_of NoSpc = refl
status_of-number_of MLink = refl
status_of-number_of NameTooLong = refl
status_of-number_of NotEmpty = refl
status_of-number_of Stale = refl
status_of-number_of BadHandle = refl
status_of-number_of NotSync = refl
status_of-number_of BadCookie = refl
status_of-number_of NotSupp = refl
status_of-number_of TooSmall = refl
status_of-number_of ServerFault = refl
status_of-number_of BadType = refl
status_of-number_of Jukebox = refl

number_fits : (s : NfsStatus) → (0 < number_of s) × IsU32 (number_of s)
number_fits Perm = (lit< tt, lit< tt)
number_fits NoEnt = (lit< tt, lit< tt)
number_fits Io = (lit< tt, lit< tt)
number_fits Acces = (lit< tt, lit< tt)
number_fits Exist = (lit< tt, lit< tt)
number_fits NotDir = (lit< tt, lit< tt)
number_fits IsDir = (lit< tt, lit< tt)
number_fits Inval = (lit< tt, lit< tt)
number_fits FBig = (lit< tt, lit< tt)
number_fits NoSpc = (lit< tt, lit< tt)
number_fits MLink = (lit< tt, lit< tt)
number_fits NameTooLong = (lit< tt, lit< tt)
number_fits NotEmpty = (lit< tt, lit< tt)
number_fits Stale = (lit< tt, lit< tt)
number_fits BadHandle = (lit< tt, lit< tt)
number_fits NotSync = (lit< tt, lit< tt)
number_fits BadCookie = (lit< tt, lit< tt)
number_fits NotSupp = (lit< tt, lit< tt)
number_fits TooSmall = (lit< tt, lit< tt)
number_fits ServerFault = (lit< tt, lit< tt)
number_fits BadType = (lit< tt, lit< tt)
number_fits Jukebox = (lit< tt, lit< tt)

status_once : HasOneReading Always (λ (s : NfsStatus). uint (number_of s))
status_once = under (λ s p. (number_fits s).1) (along uint_once number_of status_of status_of-number_of)

-- ---- results or a refusal

refused_once : {A : Type 0} {Q : A → Type 0} {g : A → List ℕ} → HasOneReading Q g → HasOneReading (λ (e : Refused A). Q e.attributes) (refused g)
refused_once {A = A} h = under (λ e p. (tt, p)) (along (both status_once h) (λ (e : Refused A). (e.status, e.attributes)) (λ t. record { status = t.0; attributes = t.1 }) (λ e. refl))

-- behind NFS3_OK
ok_once : {R : Type 0} {P : R → Type 0} {f : R → List ℕ} → HasOneReading P f → HasOneReading P (λ (r : R). uint 0 ++ f r)
ok_once {R = R} h = under (λ r p. (lit< tt, p)) (along (both uint_once h) (λ (r : R). (0, r)) (λ t. t.1) (λ r. refl))

-- no refusal begins as what isn't refused
ok_is_no_refusal : (s : NfsStatus) (x y : List ℕ) → uint 0 ++ x ≢ uint (number_of s) ++ y
ok_is_no_refusal s x y e =
    let fits = number_fits s in
    let t = uint_same 0 (number_of s) x y (lit< tt) fits.1 e in
    omega (arith, fits.0, t.0)

results_same : {R A : Type 0} {P : R → Type 0} {f : R → List ℕ} {Q : A → Type 0} {g : A → List ℕ} → HasOneReading P f → HasOneReading Q g
    → (a b : Result R (Refused A)) (x y : List ℕ) → ResultsFit P Q a → ResultsFit P Q b → results f g a ++ x ≡ results f g b ++ y → (a ≡ b) × (x ≡ y)
results_same h k (Ok a) (Ok b) x y p q e =
    let one = (ok_once h).once a b x y p q e in
    (λ i. Ok (one.0 i), one.1)
results_same {f = f} {g = g} h k (Ok a) (Err b) x y p q e =
    absurd (ok_is_no_refusal b.status (f a ++ x) (g b.attributes ++ y) (sym (append_assoc (uint 0) (f a) x) ∙ e ∙ append_assoc (uint (number_of b.status)) (g b.attributes) y))
results_same {f = f} {g = g} h k (Err a) (Ok b) x y p q e =
    absurd (ok_is_no_refusal a.status (f b ++ y) (g a.attributes ++ x) (sym (append_assoc (uint 0) (f b) y) ∙ sym e ∙ append_assoc (uint (number_of a.status)) (g a.attributes) x))
results_same h k (Err a) (Err b) x y p q e =
    let one = (refused_once k).once a b x y p q e in
    (λ i. Err (one.0 i), one.1)

getattr_same : (a b : Result Attr NfsStatus) (x y : List ℕ) → IfOk a AttrFits → IfOk b AttrFits
    → getattr_results a ++ x ≡ getattr_results b ++ y → (a ≡ b) × (x ≡ y)
getattr_same (Ok a) (Ok b) x y p q e =
    let one = (ok_once fattr3_once).once a b x y p q e in
    (λ i. Ok (one.0 i), one.1)
getattr_same (Ok a) (Err b) x y p q e =
    absurd (ok_is_no_refusal b (fattr3 a ++ x) y (sym (append_assoc (uint 0) (fattr3 a) x) ∙ e))
getattr_same (Err a) (Ok b) x y p q e =
    absurd (ok_is_no_refusal a (fattr3 b ++ y) x (sym (append_assoc (uint 0) (fattr3 b) y) ∙ sym e))
getattr_same (Err a) (Err b) x y p q e =
    let one = status_once.once a b x y tt tt e in
    (λ i. Err (one.0 i), one.1)

-- ---- answers

pub answer_same : (a b : Answer) (x y : List ℕ) → AnswerFits a → AnswerFits b → answered a ≡ answered b
    → answer_bytes a ++ x ≡ answer_bytes b ++ y → (a ≡ b) × (x ≡ y)
unfolding answer_bytes
answer_same Null Null x y p q n e = (refl, e)
answer_same (GetAttr a) (GetAttr b) x y p q n e = let one = getattr_same a b x y p q e in (λ i. GetAttr (one.0 i), one.1)
answer_same (SetAttr a) (SetAttr b) x y p q n e = let one = results_same wcc_data_once wcc_data_once a b x y p q e in (λ i. SetAttr (one.0 i), one.1)
answer_same (Lookup a) (Lookup b) x y p q n e = let one = results_same lookup_once post_op_attr_once a b x y p q e in (λ i. Lookup (one.0 i), one.1)
answer_same (Access a) (Access b) x y p q n e = let one = results_same access_once post_op_attr_once a b x y p q e in (λ i. Access (one.0 i), one.1)
answer_same (ReadLink a) (ReadLink b) x y p q n e = let one = results_same readlink_once post_op_attr_once a b x y p q e in (λ i. ReadLink (one.0 i), one.1)
answer_same (Read a) (Read b) x y p q n e = let one = results_same read_once post_op_attr_once a b x y p q e in (λ i. Read (one.0 i), one.1)
answer_same (Write a) (Write b) x y p q n e = let one = results_same write_once wcc_data_once a b x y p q e in (λ i. Write (one.0 i), one.1)
answer_same (Create a) (Create b) x y p q n e = let one = results_same create_once wcc_data_once a b x y p q e in (λ i. Create (one.0 i), one.1)
answer_same (Mkdir a) (Mkdir b) x y p q n e = let one = results_same create_once wcc_data_once a b x y p q e in (λ i. Mkdir (one.0 i), one.1)
answer_same (Symlink a) (Symlink b) x y p q n e = let one = results_same create_once wcc_data_once a b x y p q e in (λ i. Symlink (one.0 i), one.1)
answer_same (Mknod a) (Mknod b) x y p q n e = let one = (refused_once wcc_data_once).once a b x y p q e in (λ i. Mknod (one.0 i), one.1)
answer_same (Remove a) (Remove b) x y p q n e = let one = results_same wcc_data_once wcc_data_once a b x y p q e in (λ i. Remove (one.0 i), one.1)
answer_same (Rmdir a) (Rmdir b) x y p q n e = let one = results_same wcc_data_once wcc_data_once a b x y p q e in (λ i. Rmdir (one.0 i), one.1)
answer_same (Rename a) (Rename b) x y p q n e = let one = results_same rename_once rename_once a b x y p q e in (λ i. Rename (one.0 i), one.1)
answer_same (Link a) (Link b) x y p q n e = let one = results_same link_once link_once a b x y p q e in (λ i. Link (one.0 i), one.1)
answer_same (ReadDir a) (ReadDir b) x y p q n e = let one = results_same readdir_once post_op_attr_once a b x y p q e in (λ i. ReadDir (one.0 i), one.1)
answer_same (ReadDirPlus a) (ReadDirPlus b) x y p q n e = let one = results_same readdirplus_once post_op_attr_once a b x y p q e in (λ i. ReadDirPlus (one.0 i), one.1)
answer_same (FsStat a) (FsStat b) x y p q n e = let one = results_same fsstat_once post_op_attr_once a b x y p q e in (λ i. FsStat (one.0 i), one.1)
answer_same (FsInfo a) (FsInfo b) x y p q n e = let one = results_same fsinfo_once post_op_attr_once a b x y p q e in (λ i. FsInfo (one.0 i), one.1)
answer_same (PathConf a) (PathConf b) x y p q n e = let one = results_same pathconf_once post_op_attr_once a b x y p q e in (λ i. PathConf (one.0 i), one.1)
answer_same (Commit a) (Commit b) x y p q n e = let one = results_same commit_once wcc_data_once a b x y p q e in (λ i. Commit (one.0 i), one.1)
answer_same _ _ x y p q n e = absurd (omega (arith, n))
