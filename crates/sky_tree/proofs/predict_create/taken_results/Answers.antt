use Rattle.std.proofs.Common.{◌∙◌, ℕ, Some, ap, sym}
use Rattle.sky_base.specs.declared.attr.Attr.{Attr}
use Rattle.sky_nfs.specs.Tree.{Tree, attributes_at, node_at}
use Rattle.sky_nfs.specs.declared.answer.CreateOk.{CreateOk}
use Rattle.sky_nfs.specs.declared.answer.WccData.{WccData}
use Rattle.sky_tree.specs.AttrChanges.{taken}
use Rattle.sky_tree.proofs.PredictCreateLemmas.{taken_either, the_one}
use Rattle.sky_tree.proofs.predict_create.taken_results.Goals as goal

pub returns : goal.returns
returns c =
    let t : Tree = c.args.nodes.now in
    let make : ℕ → Attr → WccData → CreateOk = λ v a w. record { handle = record { volume = v; fileid = c.args.fileid }; object = Some a; directory = w } in
    let n = the_one (node_at t.nodes c.args.fileid) c.requires.there in
    ap (λ (v : ℕ). make v c.taken-object.result c.unchanged.result) c.volume.ensures
    ∙ ap (λ (a : Attr). make t.volume a c.unchanged.result) (c.taken-object.ensures ∙ ap (λ (a : Attr). taken c.args.size c.args.now a) c.attributes_at.ensures)
    ∙ ap (λ (w : WccData). make t.volume (taken c.args.size c.args.now (attributes_at t c.args.fileid)) w) c.unchanged.ensures
    ∙ sym (taken_either t c.args.at.now c.args.fileid c.args.now c.requires.valid n.0 n.1 c.args.size c.requires.file c.requires.directory c.requires.named)
