-- The definitions against bytes that RFC 1813 fixes: each lemma holds by computation.
use Rattle.std.proofs.Common.{◌≡◌, true, false, [], ◌∷◌, None, Ok, Err, refl}
use Rattle.sky_base.specs.declared.attr.Attr.{Attr}
use Rattle.sky_base.specs.declared.attr.Kind.TheVariants.{Directory}
use Rattle.sky_base.specs.declared.moment.Moment.{Moment}
use Rattle.sky_nfs.specs.declared.answer.Answer.TheVariants.{GetAttr, Read, Write, ReadDir}
use Rattle.sky_nfs.specs.declared.status.NfsStatus.TheVariants.{BadHandle, NoSpc}
use Rattle.sky_xdr.specs.Encoding.{uint, uhyper}
use Rattle.sky_results.specs.Answers.{answer_bytes}
use Rattle.sky_results.specs.Attributes.{nfstime3, specdata3, fattr3, post_op_attr}
use Rattle.sky_results.specs.Results.{read_ok, entry3, readdir_ok}
use Rattle.sky_results.specs.Wcc.{pre_op_attr, wcc_data}

never : Moment
never = record { seconds = 0; nanos = 0 }

-- the root of an empty tree
root : Attr
unfolding never
root = record {
  kind = Directory;
  mode = 511;
  nlink = 2;
  uid = 0;
  gid = 0;
  size = 0;
  used = 0;
  rdev = record { major = 0; minor = 0 };
  fsid = 1;
  fileid = 1;
  atime = never;
  mtime = never;
  ctime = never;
}

-- its attributes: NFS3_OK, and 84 bytes
getattr_known : answer_bytes (GetAttr (Ok root)) ≡
    0 ∷ 0 ∷ 0 ∷ 0 ∷ 0 ∷ 0 ∷ 0 ∷ 2 ∷ 0 ∷ 0 ∷ 1 ∷ 255 ∷ 0 ∷ 0 ∷ 0 ∷ 2 ∷ 0 ∷ 0 ∷ 0 ∷ 0 ∷ 0 ∷ 0 ∷ 0 ∷ 0
    ∷ 0 ∷ 0 ∷ 0 ∷ 0 ∷ 0 ∷ 0 ∷ 0 ∷ 0 ∷ 0 ∷ 0 ∷ 0 ∷ 0 ∷ 0 ∷ 0 ∷ 0 ∷ 0 ∷ 0 ∷ 0 ∷ 0 ∷ 0 ∷ 0 ∷ 0 ∷ 0 ∷ 0
    ∷ 0 ∷ 0 ∷ 0 ∷ 0 ∷ 0 ∷ 0 ∷ 0 ∷ 1 ∷ 0 ∷ 0 ∷ 0 ∷ 0 ∷ 0 ∷ 0 ∷ 0 ∷ 1
    ∷ 0 ∷ 0 ∷ 0 ∷ 0 ∷ 0 ∷ 0 ∷ 0 ∷ 0 ∷ 0 ∷ 0 ∷ 0 ∷ 0 ∷ 0 ∷ 0 ∷ 0 ∷ 0 ∷ 0 ∷ 0 ∷ 0 ∷ 0 ∷ 0 ∷ 0 ∷ 0 ∷ 0 ∷ []
unfolding answer_bytes fattr3 nfstime3 specdata3 uint uhyper root never
getattr_known = refl

-- NFS3ERR_BADHANDLE is 10001
bad_handle_known : answer_bytes (GetAttr (Err BadHandle)) ≡ 0 ∷ 0 ∷ 39 ∷ 17 ∷ []
unfolding answer_bytes uint
bad_handle_known = refl

-- the two last bytes of a file, of which nothing else is told
read_known : answer_bytes (Read (Ok (record { file = None; eof = true; «data» = 104 ∷ 105 ∷ [] }))) ≡
    0 ∷ 0 ∷ 0 ∷ 0 ∷ 0 ∷ 0 ∷ 0 ∷ 0 ∷ 0 ∷ 0 ∷ 0 ∷ 2 ∷ 0 ∷ 0 ∷ 0 ∷ 1 ∷ 0 ∷ 0 ∷ 0 ∷ 2 ∷ 104 ∷ 105 ∷ 0 ∷ 0 ∷ []
unfolding answer_bytes read_ok post_op_attr uint
read_known = refl

-- a refusal of WRITE that tells nothing of the file
write_known : answer_bytes (Write (Err (record { status = NoSpc; attributes = record { before = None; after = None } }))) ≡
    0 ∷ 0 ∷ 0 ∷ 28 ∷ 0 ∷ 0 ∷ 0 ∷ 0 ∷ 0 ∷ 0 ∷ 0 ∷ 0 ∷ []
unfolding answer_bytes wcc_data pre_op_attr post_op_attr uint
write_known = refl

-- a page of one entry, `.`, behind which the listing goes on
readdir_known : answer_bytes (ReadDir (Ok (record { directory = None; entries = record { fileid = 1; name = 46 ∷ []; cookie = 1 } ∷ []; eof = false }))) ≡
    0 ∷ 0 ∷ 0 ∷ 0 ∷ 0 ∷ 0 ∷ 0 ∷ 0 ∷ 0 ∷ 0 ∷ 0 ∷ 0 ∷ 0 ∷ 0 ∷ 0 ∷ 0 ∷ 0 ∷ 0 ∷ 0 ∷ 1 ∷ 0 ∷ 0 ∷ 0 ∷ 0 ∷ 0 ∷ 0 ∷ 0 ∷ 1
    ∷ 0 ∷ 0 ∷ 0 ∷ 1 ∷ 46 ∷ 0 ∷ 0 ∷ 0 ∷ 0 ∷ 0 ∷ 0 ∷ 0 ∷ 0 ∷ 0 ∷ 0 ∷ 1 ∷ 0 ∷ 0 ∷ 0 ∷ 0 ∷ 0 ∷ 0 ∷ 0 ∷ 0 ∷ []
unfolding answer_bytes readdir_ok entry3 post_op_attr uint uhyper
readdir_known = refl
