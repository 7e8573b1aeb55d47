-- The attributes that answers carry, and results or a refusal in their place (RFC 1813 section 2.6).
use Rattle.std.specs.Prelude.{ℕ, Bool, false, cond, is_ok, List, Option, Some, None, Result, Ok, Err}
use Rattle.sky_base.specs.declared.attr.Attr.{Attr}
use Rattle.sky_nfs.specs.declared.answer.Answer.{Answer}
use Rattle.sky_nfs.specs.declared.answer.Answer.TheVariants as answer
use Rattle.sky_nfs.specs.declared.answer.Refused.{Refused}
use Rattle.sky_nfs.specs.declared.answer.WccAttr.{WccAttr}
use Rattle.sky_nfs.specs.declared.answer.WccData.{WccData}
use Rattle.sky_nfs.specs.declared.status.NfsStatus.{NfsStatus}
use Rattle.sky_nfs.specs.Tree.{Tree, attributes_at}
use Rattle.sky_nfs.specs.Handles.{resolves, fileid_in}

-- the attributes of the object that a handle names, where it resolves (post_op_attr)
abbrev pub post_attributes : Tree → List ℕ → Option Attr
post_attributes t fh = cond (resolves t fh) (Some (attributes_at t (fileid_in fh))) None

-- those by which a change is seen (wcc_attr)
abbrev pub wcc_attr_of : Attr → WccAttr
wcc_attr_of attr = record { size = attr.size; mtime = attr.mtime; ctime = attr.ctime }

-- those before a call, where the handle resolves (pre_op_attr)
abbrev pub pre_attributes : Tree → List ℕ → Option WccAttr
pre_attributes t fh = cond (resolves t fh) (Some (wcc_attr_of (attributes_at t (fileid_in fh)))) None

-- an object in the tree before a call and in the tree after it (wcc_data)
abbrev pub wcc : Tree → Tree → List ℕ → WccData
wcc before after fh = record { before = pre_attributes before fh; after = post_attributes after fh }

-- the results where nothing was refused; else the status, and the attributes that go with it
abbrev pub results_or : {R A : Type 0} → Option NfsStatus → R → A → Result R (Refused A)
results_or None results attributes = Ok results
results_or (Some status) results attributes = Err (record { status = status; attributes = attributes })

-- an answer with this write verifier in the place of its own. Only the results of WRITE and COMMIT have one
abbrev pub with_verifier : ℕ → Answer → Answer
with_verifier verifier (answer.Write (Ok results)) = answer.Write (Ok (record results { verifier = verifier }))
with_verifier verifier (answer.Commit (Ok results)) = answer.Commit (Ok (record results { verifier = verifier }))
with_verifier verifier other = other

-- whether it is the answer OK to a call that changes the tree
abbrev pub succeeded : Answer → Bool
succeeded (answer.SetAttr result) = is_ok result
succeeded (answer.Write result) = is_ok result
succeeded (answer.Create result) = is_ok result
succeeded (answer.Mkdir result) = is_ok result
succeeded (answer.Symlink result) = is_ok result
succeeded (answer.Remove result) = is_ok result
succeeded (answer.Rmdir result) = is_ok result
succeeded (answer.Rename result) = is_ok result
succeeded (answer.Link result) = is_ok result
succeeded _ = false
