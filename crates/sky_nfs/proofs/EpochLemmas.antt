-- Answers in two epochs.
use Rattle.std.proofs.Common.{◌≡◌, ℕ, Option, Some, None, refl}
use Rattle.sky_base.specs.declared.cred.Cred.{Cred}
use Rattle.sky_nfs.specs.declared.call.Call.{Call}
use Rattle.sky_nfs.specs.declared.call.Call.TheVariants.{Null, GetAttr, SetAttr, Lookup, Access, ReadLink, Read, Write, Create, Mkdir, Symlink, Mknod, Remove, Rmdir, Rename, Link, ReadDir, ReadDirPlus, FsStat, FsInfo, PathConf, Commit}
use Rattle.sky_nfs.specs.declared.status.NfsStatus.{NfsStatus}
use Rattle.sky_nfs.specs.Procedure.{answer_of}
use Rattle.sky_nfs.specs.Results.{with_verifier}
use Rattle.sky_nfs.specs.Tree.{Tree}

-- an answer in one epoch is that in another with the verifier replaced
pub answer_of-epoch : (refusal : Option NfsStatus) (t after : Tree) (epoch other : ℕ) (cred : Cred) (call : Call)
    → answer_of refusal t after epoch cred call ≡ with_verifier epoch (answer_of refusal t after other cred call)
unfolding answer_of
answer_of-epoch None t after epoch other cred (Write file offset count how piece) = refl
answer_of-epoch (Some status) t after epoch other cred (Write file offset count how piece) = refl
answer_of-epoch None t after epoch other cred (Commit file offset count) = refl
answer_of-epoch (Some status) t after epoch other cred (Commit file offset count) = refl
answer_of-epoch refusal t after epoch other cred Null = refl
answer_of-epoch refusal t after epoch other cred (GetAttr object) = refl
answer_of-epoch refusal t after epoch other cred (SetAttr object set guard) = refl
answer_of-epoch refusal t after epoch other cred (Lookup at) = refl
answer_of-epoch refusal t after epoch other cred (Access object rights) = refl
answer_of-epoch refusal t after epoch other cred (ReadLink link) = refl
answer_of-epoch refusal t after epoch other cred (Read file offset count) = refl
answer_of-epoch refusal t after epoch other cred (Create at how) = refl
answer_of-epoch refusal t after epoch other cred (Mkdir at set) = refl
answer_of-epoch refusal t after epoch other cred (Symlink at set text) = refl
answer_of-epoch refusal t after epoch other cred (Mknod at what) = refl
answer_of-epoch refusal t after epoch other cred (Remove at) = refl
answer_of-epoch refusal t after epoch other cred (Rmdir at) = refl
answer_of-epoch refusal t after epoch other cred (Rename from to) = refl
answer_of-epoch refusal t after epoch other cred (Link file at) = refl
answer_of-epoch refusal t after epoch other cred (ReadDir directory cookie verifier count) = refl
answer_of-epoch refusal t after epoch other cred (ReadDirPlus directory cookie verifier dircount maxcount) = refl
answer_of-epoch refusal t after epoch other cred (FsStat root) = refl
answer_of-epoch refusal t after epoch other cred (FsInfo root) = refl
answer_of-epoch refusal t after epoch other cred (PathConf object) = refl
