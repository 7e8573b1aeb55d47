use Rattle.std.proofs.Common.{sym}
use Rattle.sky_nfs.specs.Procedure.{refusal_of, tree_after}
use Rattle.sky_nfs.specs.Tree.{Tree}
use Rattle.sky_nfs.specs.declared.call.Call.{Call}
use Rattle.sky_nfs.proofs.ProcedureLemmas.{tree_after-refused}
use Rattle.sky_tree.proofs.PredictRenameLemmas.{below_free, below_gone, done_across, done_within, free_as, links_below, moving, refused_rename, rename_known, rename_same, size_fits, unmoved_rename}
use Rattle.sky_tree.proofs.predict_rename.predict_rename.Goals as goal

pub returns-in-Err : goal.returns-in-Err
returns-in-Err c =
    let t : Tree = c.args.nodes.now in
    let call : Call = Call.Rename c.args.from.now c.args.to.now in
    refused_rename t (tree_after t c.args.cred.now call c.args.now) c.args.from.now c.args.to.now (refusal_of t c.args.cred.now call) c.in-Err.status c.unmoved.result c.in-Err.ensures.refused
    (tree_after-refused t c.args.cred.now call c.args.now c.in-Err.status (sym c.in-Err.ensures.refused)) c.unmoved.ensures

pub returns-then-stands_for : goal.returns-then-stands_for
returns-then-stands_for c =
    let t : Tree = c.args.nodes.now in
    let call : Call = Call.Rename c.args.from.now c.args.to.now in
    unmoved_rename t (tree_after t c.args.cred.now call c.args.now) c.args.from.now c.args.to.now (refusal_of t c.args.cred.now call) c.unmoved-then-stands_for.result c.in-Ok.ensures.refused
    (rename_same c.args.nodes.now c.args.cred.now c.args.from.now c.args.to.now c.in-Ok.moved.from c.as_slice-old_name.result.now c.in-Ok.moved.to c.as_slice-new_name.result.now c.in-Ok.moved.fileid c.args.now c.in-Ok.ensures.refused c.in-Ok.ensures.from c.in-Ok.ensures.to c.as_slice-old_name.ensures c.as_slice-new_name.ensures c.in-Ok.ensures.fileid c.stands_for.result c.stands_for.ensures c.if-stands_for.true) c.unmoved-then-stands_for.ensures

pub attributes_at-requires : goal.attributes_at-requires
attributes_at-requires c = rw c.in-Ok.ensures.to (rename_known c.args.nodes.now c.args.cred.now c.args.from.now c.args.to.now (sym c.in-Ok.ensures.refused)).there

pub came-both-requires-clause-size : goal.came-both-requires-clause-size
came-both-requires-clause-size c =
    let m = moving c.args.nodes.now c.args.cred.now c.args.from.now c.args.to.now c.in-Ok.moved.from c.as_slice-old_name.result.now c.in-Ok.moved.to c.as_slice-new_name.result.now c.in-Ok.moved.fileid c.requires c.in-Ok.ensures.refused c.in-Ok.ensures.from c.in-Ok.ensures.to c.as_slice-old_name.ensures c.as_slice-new_name.ensures c.in-Ok.ensures.fileid c.stands_for.result c.stands_for.ensures c.if-stands_for.false in
    size_fits c.args.nodes.now c.in-Ok.moved.to c.as_slice-new_name.result.now c.went.result c.attributes_at.result (below_gone c.went.result c.cleared-free.result c.attributes_at.result c.is_directory-kind.result c.as_slice-old_name.result.now c.args.now c.went.ensures (below_free c.cleared-free.result c.attributes_at.result c.directory_named-target.result c.as_slice-new_name.result.now c.args.now c.cleared-free.ensures)) c.attributes_at.ensures m.to_directory m.moves.size m.short

pub came-both-requires-clause-links : goal.came-both-requires-clause-links
came-both-requires-clause-links c =
    let m = moving c.args.nodes.now c.args.cred.now c.args.from.now c.args.to.now c.in-Ok.moved.from c.as_slice-old_name.result.now c.in-Ok.moved.to c.as_slice-new_name.result.now c.in-Ok.moved.fileid c.requires c.in-Ok.ensures.refused c.in-Ok.ensures.from c.in-Ok.ensures.to c.as_slice-old_name.ensures c.as_slice-new_name.ensures c.in-Ok.ensures.fileid c.stands_for.result c.stands_for.ensures c.if-stands_for.false in
    links_below c.args.nodes.now c.in-Ok.moved.to c.went.result c.attributes_at.result (below_gone c.went.result c.cleared-free.result c.attributes_at.result c.is_directory-kind.result c.as_slice-old_name.result.now c.args.now c.went.ensures (below_free c.cleared-free.result c.attributes_at.result c.directory_named-target.result c.as_slice-new_name.result.now c.args.now c.cleared-free.ensures)) c.attributes_at.ensures m.moves.fits

pub returns-then-moved : goal.returns-then-moved
returns-then-moved c =
    let m = moving c.args.nodes.now c.args.cred.now c.args.from.now c.args.to.now c.in-Ok.moved.from c.as_slice-old_name.result.now c.in-Ok.moved.to c.as_slice-new_name.result.now c.in-Ok.moved.fileid c.requires c.in-Ok.ensures.refused c.in-Ok.ensures.from c.in-Ok.ensures.to c.as_slice-old_name.ensures c.as_slice-new_name.ensures c.in-Ok.ensures.fileid c.stands_for.result c.stands_for.ensures c.if-stands_for.false in
    done_within c.args.nodes.now c.args.from.now c.args.to.now c.in-Ok.moved.from c.as_slice-old_name.result.now c.in-Ok.moved.to c.as_slice-new_name.result.now c.in-Ok.moved.fileid (λ now. tree_after c.args.nodes.now c.args.cred.now (Call.Rename c.args.from.now c.args.to.now) now) m c.args.now (refusal_of c.args.nodes.now c.args.cred.now (Call.Rename c.args.from.now c.args.to.now)) c.in-Ok.ensures.refused c.is_directory-kind.result c.is_directory-kind.ensures c.cleared-free.result (free_as c.args.nodes.now c.in-Ok.moved.to c.as_slice-new_name.result.now c.args.now c.cleared-free.result c.attributes_at.result c.directory_named-target.result c.cleared-free.ensures c.directory_named-target.ensures c.attributes_at.ensures) c.went.result c.came-both.result c.wcc_after.result c.wcc_after-then-moved.result c.if-moved.true c.went.ensures c.came-both.ensures c.wcc_after.ensures c.wcc_after-then-moved.ensures

pub came-requires-clause-size : goal.came-requires-clause-size
came-requires-clause-size c =
    let m = moving c.args.nodes.now c.args.cred.now c.args.from.now c.args.to.now c.in-Ok.moved.from c.as_slice-old_name.result.now c.in-Ok.moved.to c.as_slice-new_name.result.now c.in-Ok.moved.fileid c.requires c.in-Ok.ensures.refused c.in-Ok.ensures.from c.in-Ok.ensures.to c.as_slice-old_name.ensures c.as_slice-new_name.ensures c.in-Ok.ensures.fileid c.stands_for.result c.stands_for.ensures c.if-stands_for.false in
    size_fits c.args.nodes.now c.in-Ok.moved.to c.as_slice-new_name.result.now c.cleared-free.result c.attributes_at.result (below_free c.cleared-free.result c.attributes_at.result c.directory_named-target.result c.as_slice-new_name.result.now c.args.now c.cleared-free.ensures) c.attributes_at.ensures m.to_directory m.moves.size m.short

pub came-requires-clause-links : goal.came-requires-clause-links
came-requires-clause-links c =
    let m = moving c.args.nodes.now c.args.cred.now c.args.from.now c.args.to.now c.in-Ok.moved.from c.as_slice-old_name.result.now c.in-Ok.moved.to c.as_slice-new_name.result.now c.in-Ok.moved.fileid c.requires c.in-Ok.ensures.refused c.in-Ok.ensures.from c.in-Ok.ensures.to c.as_slice-old_name.ensures c.as_slice-new_name.ensures c.in-Ok.ensures.fileid c.stands_for.result c.stands_for.ensures c.if-stands_for.false in
    links_below c.args.nodes.now c.in-Ok.moved.to c.cleared-free.result c.attributes_at.result (below_free c.cleared-free.result c.attributes_at.result c.directory_named-target.result c.as_slice-new_name.result.now c.args.now c.cleared-free.ensures) c.attributes_at.ensures m.moves.fits

pub returns : goal.returns
returns c =
    let m = moving c.args.nodes.now c.args.cred.now c.args.from.now c.args.to.now c.in-Ok.moved.from c.as_slice-old_name.result.now c.in-Ok.moved.to c.as_slice-new_name.result.now c.in-Ok.moved.fileid c.requires c.in-Ok.ensures.refused c.in-Ok.ensures.from c.in-Ok.ensures.to c.as_slice-old_name.ensures c.as_slice-new_name.ensures c.in-Ok.ensures.fileid c.stands_for.result c.stands_for.ensures c.if-stands_for.false in
    done_across c.args.nodes.now c.args.from.now c.args.to.now c.in-Ok.moved.from c.as_slice-old_name.result.now c.in-Ok.moved.to c.as_slice-new_name.result.now c.in-Ok.moved.fileid (λ now. tree_after c.args.nodes.now c.args.cred.now (Call.Rename c.args.from.now c.args.to.now) now) m c.args.now (refusal_of c.args.nodes.now c.args.cred.now (Call.Rename c.args.from.now c.args.to.now)) c.in-Ok.ensures.refused c.is_directory-kind.result c.is_directory-kind.ensures c.cleared-free.result (free_as c.args.nodes.now c.in-Ok.moved.to c.as_slice-new_name.result.now c.args.now c.cleared-free.result c.attributes_at.result c.directory_named-target.result c.cleared-free.ensures c.directory_named-target.ensures c.attributes_at.ensures) c.attributes_at-2.result c.went-source.result c.came.result c.wcc_after-2.result c.wcc_after-3.result c.if-moved.false c.attributes_at-2.ensures c.went-source.ensures c.came.ensures c.wcc_after-2.ensures c.wcc_after-3.ensures
