-- How an object before and after a call is encoded (weak cache consistency data, RFC 1813 section 2.6).
use Rattle.std.specs.Prelude.{ℕ, true, false, List, ◌++◌, Option, Some, None}
use Rattle.sky_nfs.specs.declared.answer.WccAttr.{WccAttr}
use Rattle.sky_nfs.specs.declared.answer.WccData.{WccData}
use Rattle.sky_xdr.specs.Encoding.{uhyper, bool}
use Rattle.sky_results.specs.Attributes.{nfstime3, post_op_attr}

-- what tells whether an object changed, 24 bytes
unfoldable pub wcc_attr : WccAttr → List ℕ
wcc_attr w = uhyper w.size ++ nfstime3 w.mtime ++ nfstime3 w.ctime

-- the same before a call, where it is told
unfoldable pub pre_op_attr : Option WccAttr → List ℕ
pre_op_attr None = bool false
pre_op_attr (Some w) = bool true ++ wcc_attr w

-- an object before and after a call
unfoldable pub wcc_data : WccData → List ℕ
wcc_data w = pre_op_attr w.before ++ post_op_attr w.after
