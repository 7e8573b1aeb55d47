use Rattle.std.proofs.Common.{◌≢◌, refl, arith}
use Rattle.sky_nfs.specs.Changes.{edit, enter, leave, remove_name, stamp}
use Rattle.sky_nfs.specs.Tree.{Tree, Node, named}
use Rattle.sky_nodes.proofs.EditLemmas.{Keeps, if_some_weaker, keeps_edited, keeps_remove_name, keeps_then}
use Rattle.sky_nodes.proofs.MoveLemmas.{moved_after}
use Rattle.sky_nodes.proofs.nodes.Nodes.move_name.Goals as goal

pub leave_for-requires-clause-source : goal.leave_for-requires-clause-source
leave_for-requires-clause-source c =
    let t : Tree = c.args.self.now in
    let r : Tree = remove_name t c.args.now c.args.to c.args.to_name in
    let apart = if_some_weaker (named t c.args.to c.args.to_name) _ (λ k. k ≢ c.args.from) (λ k h. h.1) c.requires.apart in
    let kept : Keeps t c.replace_name.new.self c.args.from = keeps_then t r c.replace_name.new.self c.args.from (keeps_remove_name t c.args.now c.args.to c.args.to_name c.args.from apart)
    (keeps_edited r c.replace_name.new.self c.args.to c.args.from (λ (d : Node). enter c.args.now c.args.to_name c.args.fileid d) c.in_ok-replace_name.ensures.replaced (λ n. omega arith)) in
    kept.there c.requires.source

pub leave_for-requires-clause-target : goal.leave_for-requires-clause-target
leave_for-requires-clause-target c =
    let t : Tree = c.args.self.now in
    let r : Tree = remove_name t c.args.now c.args.to c.args.to_name in
    let apart = if_some_weaker (named t c.args.to c.args.to_name) _ (λ k. k ≢ c.args.to) (λ k h. h.0) c.requires.apart in
    let kept : Keeps t c.replace_name.new.self c.args.to = keeps_then t r c.replace_name.new.self c.args.to (keeps_remove_name t c.args.now c.args.to c.args.to_name c.args.to apart)
    (keeps_edited r c.replace_name.new.self c.args.to c.args.to (λ (d : Node). enter c.args.now c.args.to_name c.args.fileid d) c.in_ok-replace_name.ensures.replaced (λ n. omega arith)) in
    kept.there c.requires.target

pub leave_for-requires-clause-node : goal.leave_for-requires-clause-node
leave_for-requires-clause-node c =
    let t : Tree = c.args.self.now in
    let r : Tree = remove_name t c.args.now c.args.to c.args.to_name in
    let apart = if_some_weaker (named t c.args.to c.args.to_name) _ (λ k. k ≢ c.args.fileid) (λ k h. h.2) c.requires.apart in
    let kept : Keeps t c.replace_name.new.self c.args.fileid = keeps_then t r c.replace_name.new.self c.args.fileid (keeps_remove_name t c.args.now c.args.to c.args.to_name c.args.fileid apart)
    (keeps_edited r c.replace_name.new.self c.args.to c.args.fileid (λ (d : Node). enter c.args.now c.args.to_name c.args.fileid d) c.in_ok-replace_name.ensures.replaced (λ n. omega arith)) in
    kept.there c.requires.node

pub leave_for-requires-clause-fits : goal.leave_for-requires-clause-fits
leave_for-requires-clause-fits c =
    let t : Tree = c.args.self.now in
    let r : Tree = remove_name t c.args.now c.args.to c.args.to_name in
    let apart = if_some_weaker (named t c.args.to c.args.to_name) _ (λ k. k ≢ c.args.to) (λ k h. h.0) c.requires.apart in
    let kept : Keeps t c.replace_name.new.self c.args.to = keeps_then t r c.replace_name.new.self c.args.to (keeps_remove_name t c.args.now c.args.to c.args.to_name c.args.to apart)
    (keeps_edited r c.replace_name.new.self c.args.to c.args.to (λ (d : Node). enter c.args.now c.args.to_name c.args.fileid d) c.in_ok-replace_name.ensures.replaced (λ n. omega arith)) in
    omega (arith, kept.links, c.requires.fits)

pub returns-clause-moved : goal.returns-clause-moved
returns-clause-moved c =
    let u : Tree = c.replace_name.new.self in
    let left : Tree = edit (edit u c.args.from (λ d. leave c.args.now c.args.from_name.now d)) c.args.fileid (λ n. stamp c.args.now n) in
    moved_after c.args.self.now c.args.now c.args.from c.args.from_name.now c.args.to c.args.to_name c.args.fileid c.is_directory-is_directory.result u c.leave_for.new.self left c.requires.differ c.is_directory-is_directory.ensures c.in_ok-replace_name.ensures.replaced refl c.leave_for.ensures
