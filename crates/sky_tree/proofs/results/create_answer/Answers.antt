use Rattle.std.proofs.Common.{◌≡◌, ◌∙◌, ℕ, List, Option, Ok, ap}
use Rattle.std.specs.Prelude.{unwrap_or}
use Rattle.sky_base.specs.declared.attr.Attr.{Attr}
use Rattle.sky_nfs.specs.Handles.{fileid_in, handle_bytes}
use Rattle.sky_nfs.specs.Procedures.Create.{created}
use Rattle.sky_nfs.specs.Results.{post_attributes, pre_attributes}
use Rattle.sky_nfs.specs.Tree.{Tree, named}
use Rattle.sky_nfs.specs.declared.answer.CreateOk.{CreateOk}
use Rattle.sky_nfs.specs.declared.answer.WccAttr.{WccAttr}
use Rattle.sky_nfs.specs.declared.call.DirOpArgs.{DirOpArgs}
use Rattle.sky_tree.proofs.results.create_answer.Goals as goal

-- the results of an object that was made, by their parts
same : (t u : Tree) (at : DirOpArgs) (volume fileid : ℕ) (object after : Option Attr) (before : Option WccAttr)
    → volume ≡ u.volume → fileid ≡ unwrap_or (named u (fileid_in at.directory) at.name) 0 → object ≡ post_attributes u (handle_bytes u.volume fileid) → before ≡ pre_attributes t at.directory → after ≡ post_attributes u at.directory
    → record { handle = record { volume = volume; fileid = fileid }; object = object; directory = record { before = before; after = after } } ≡ created t u at
same t u at volume fileid object after before v f o b a =
    let made : ℕ → ℕ → Option Attr → Option WccAttr → Option Attr → CreateOk = λ volume fileid object before after. record { handle = record { volume = volume; fileid = fileid }; object = object; directory = record { before = before; after = after } } in
    ap (λ (x : ℕ). made x fileid object before after) v
    ∙ ap (λ (x : Option Attr). made u.volume fileid x before after) o
    ∙ ap (λ (x : ℕ). made u.volume x (post_attributes u (handle_bytes u.volume x)) before after) f
    ∙ ap (λ (x : Option WccAttr). made u.volume (unwrap_or (named u (fileid_in at.directory) at.name) 0) (post_attributes u (handle_bytes u.volume (unwrap_or (named u (fileid_in at.directory) at.name) 0))) x after) b
    ∙ ap (λ (x : Option Attr). made u.volume (unwrap_or (named u (fileid_in at.directory) at.name) 0) (post_attributes u (handle_bytes u.volume (unwrap_or (named u (fileid_in at.directory) at.name) 0))) (pre_attributes t at.directory) x) a

pub returns-in-Ok : goal.returns-in-Ok
returns-in-Ok c = λ t before_is.
    let u : Tree = c.args.nodes.now in
    let at : DirOpArgs = c.args.at.now in
    let dir_is : c.in-Ok.dir ≡ fileid_in at.directory = rw c.in-Ok.is at c.requires in
    let name : c.named.result ≡ named u (fileid_in at.directory) at.name = c.named.ensures ∙ ap (λ (d : ℕ). named u d c.as_slice.result.now) dir_is ∙ ap (λ (n : List ℕ). named u (fileid_in at.directory) n) c.as_slice.ensures in
    let fileid = c.unwrap_or-fileid.ensures ∙ ap (λ (o : Option ℕ). unwrap_or o 0) name in
    rw c.in-Ok.is (ap (λ (r : CreateOk). Ok r) (same t u at c.volume-volume.result c.unwrap_or-fileid.result c.object_attributes.result c.post_attributes.result c.args.before c.volume-volume.ensures fileid c.object_attributes.ensures before_is c.post_attributes.ensures))
