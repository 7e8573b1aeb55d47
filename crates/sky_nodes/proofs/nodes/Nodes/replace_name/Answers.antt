use Rattle.std.proofs.Common.{◌≡◌, ◌≢◌, Some, None, ap, sym, ◌∙◌, arith}
use Rattle.sky_nfs.specs.Changes.{enter, leave, release}
use Rattle.sky_nfs.specs.Tree.{Tree, Node, named}
use Rattle.sky_nodes.proofs.EditLemmas.{keeps_edited}
use Rattle.sky_nodes.proofs.MoveLemmas.{replaced_some, replaced_none}
use Rattle.sky_nodes.proofs.nodes.Nodes.replace_name.Goals as goal

pub release-requires-clause-there : goal.release-requires-clause-there
release-requires-clause-there c =
    (keeps_edited c.args.self.now c.replace.new.self c.args.dir c.args.dir (λ (d : Node). enter c.args.now c.args.name c.args.fileid (leave c.args.now c.args.name d)) c.in_ok-replace.ensures.replaced (λ n. omega arith)).there c.requires.there

pub returns-in-Some-clause-replaced : goal.returns-in-Some-clause-replaced
returns-in-Some-clause-replaced c =
    let found : named c.args.self.now c.args.dir c.args.name ≡ Some c.in-Some.old = ap (named c.args.self.now c.args.dir) (sym c.as_bytes.ensures.same) ∙ sym c.in-Some.ensures in
    let apart : c.in-Some.old ≢ c.args.dir = rw found at c.requires.apart in
    c.release.ensures ∙ ap (λ (u : Tree). release u c.args.now c.args.dir c.in-Some.old) c.in_ok-replace.ensures.replaced
    ∙ replaced_some c.args.self.now c.args.now c.args.dir c.args.name c.args.fileid c.in-Some.old found apart c.fileids_ascend.ensures c.requires.there

pub returns-in_default-clause-replaced : goal.returns-in_default-clause-replaced
returns-in_default-clause-replaced c =
    let none : None ≡ named c.args.self.now c.args.dir c.args.name = c.in_default.ensures ∙ ap (named c.args.self.now c.args.dir) c.as_bytes.ensures.same in
    c.in_ok-replace.ensures.replaced ∙ replaced_none c.args.self.now c.args.now c.args.dir c.args.name c.args.fileid none
