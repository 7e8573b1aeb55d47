use Rattle.std.proofs.Common.{◌≡◌, ℕ, List, Some, ap, ◌∙◌, sym, false}
use Rattle.sky_nfs.specs.Procedures.Rename.{is_same}
use Rattle.sky_nfs.specs.Tree.{Tree, named}
use Rattle.sky_nfs.specs.declared.call.Call.{Call}
use Rattle.sky_nfs.proofs.ProcedureLemmas.{tree_after-refused}
use Rattle.sky_tree.proofs.MovedLemmas.{Moves, Named, rename_short, passed_as, stays_as, moves_as}
use Rattle.sky_tree.proofs.rename.do_rename.Goals as goal

pub returns-in-Err-clause-tree : goal.returns-in-Err-clause-tree
returns-in-Err-clause-tree c = sym (tree_after-refused c.args.nodes.now c.args.cred.now (Call.Rename c.args.from.now c.args.to.now) c.args.now c.in-Err.status (sym c.in-Err.ensures.refused))

pub returns-then-stands_for-clause-tree : goal.returns-then-stands_for-clause-tree
returns-then-stands_for-clause-tree c =
    let t : Tree = c.args.nodes.now in
    let n : Named t c.args.from.now c.args.to.now c.in-Ok.moved.from c.as_slice-from_name.result.now c.in-Ok.moved.to c.as_slice.result.now c.in-Ok.moved.fileid = record {
      from_is = c.in-Ok.ensures.from;
      from_name_is = c.as_slice-from_name.ensures;
      to_is = c.in-Ok.ensures.to;
      to_name_is = c.as_slice.ensures;
      found = c.in-Ok.ensures.fileid;
    } in
    stays_as t c.args.cred.now c.args.from.now c.args.to.now c.in-Ok.moved.from c.as_slice-from_name.result.now c.in-Ok.moved.to c.as_slice.result.now c.in-Ok.moved.fileid (sym c.in-Ok.ensures.refused) n c.args.now (sym c.stands_for.ensures ∙ c.if-stands_for.true)

pub new_name-requires : goal.new_name-requires
new_name-requires c = rename_short c.args.nodes.now c.args.cred.now c.args.from.now c.args.to.now (sym c.in-Ok.ensures.refused)

pub move_name-requires : goal.move_name-requires
move_name-requires c =
    let t : Tree = c.args.nodes.now in
    let name : List ℕ = c.in_ok-to_name.to_name in
    let n : Named t c.args.from.now c.args.to.now c.in-Ok.moved.from c.as_slice-from_name.result.now c.in-Ok.moved.to name c.in-Ok.moved.fileid = record {
      from_is = c.in-Ok.ensures.from;
      from_name_is = c.as_slice-from_name.ensures;
      to_is = c.in-Ok.ensures.to;
      to_name_is = c.in_ok-to_name.ensures;
      found = c.in-Ok.ensures.fileid;
    } in
    let differ : is_same (Some c.in-Ok.moved.fileid) (named t c.in-Ok.moved.to name) ≡ false =
    ap (λ (m : List ℕ). is_same (Some c.in-Ok.moved.fileid) (named t c.in-Ok.moved.to m)) (c.in_ok-to_name.ensures ∙ sym c.as_slice.ensures) ∙ sym c.stands_for.ensures ∙ c.if-stands_for.false in
    let m : Moves t c.in-Ok.moved.from c.as_slice-from_name.result.now c.in-Ok.moved.to name c.in-Ok.moved.fileid =
    passed_as t c.args.cred.now c.args.from.now c.args.to.now c.in-Ok.moved.from c.as_slice-from_name.result.now c.in-Ok.moved.to name c.in-Ok.moved.fileid (sym c.in-Ok.ensures.refused) n c.requires differ in
    record { source = m.source; target = m.target; node = m.node; fits = m.fits; apart = m.apart; differ = m.differ; cookie = m.cookie; size = m.size }

pub returns-clause-tree : goal.returns-clause-tree
returns-clause-tree c =
    let t : Tree = c.args.nodes.now in
    let name : List ℕ = c.in_ok-to_name.to_name in
    let n : Named t c.args.from.now c.args.to.now c.in-Ok.moved.from c.as_slice-from_name.result.now c.in-Ok.moved.to name c.in-Ok.moved.fileid = record {
      from_is = c.in-Ok.ensures.from;
      from_name_is = c.as_slice-from_name.ensures;
      to_is = c.in-Ok.ensures.to;
      to_name_is = c.in_ok-to_name.ensures;
      found = c.in-Ok.ensures.fileid;
    } in
    let differ : is_same (Some c.in-Ok.moved.fileid) (named t c.in-Ok.moved.to name) ≡ false =
    ap (λ (m : List ℕ). is_same (Some c.in-Ok.moved.fileid) (named t c.in-Ok.moved.to m)) (c.in_ok-to_name.ensures ∙ sym c.as_slice.ensures) ∙ sym c.stands_for.ensures ∙ c.if-stands_for.false in
    c.in_ok-move_name.ensures.moved
    ∙ moves_as t c.args.cred.now c.args.from.now c.args.to.now c.in-Ok.moved.from c.as_slice-from_name.result.now c.in-Ok.moved.to name c.in-Ok.moved.fileid (sym c.in-Ok.ensures.refused) n c.args.now differ
