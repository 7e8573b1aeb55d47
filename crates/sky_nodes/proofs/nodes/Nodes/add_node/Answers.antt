use Rattle.std.proofs.Common.{◌≡◌, ◌∙◌, ap, None, ℕ, List}
use Rattle.std.specs.Prelude.{IsSome}
use Rattle.sky_nfs.specs.Changes.{grow, erase}
use Rattle.sky_nfs.specs.Tree.{Tree, Node, node_at}
use Rattle.sky_nodes.proofs.MapLemmas.{node_at-with_other, without-with_node, apart}
use Rattle.sky_nodes.proofs.nodes.Nodes.add_node.Goals as goal

-- the directory is as before
same_dir : (t t' : Tree) (node : Node) (dir : ℕ) → t' ≡ grow t node → node_at t.nodes t.next_fileid ≡ None → IsSome (node_at t.nodes dir) → node_at t'.nodes dir ≡ node_at t.nodes dir
same_dir t t' node dir grown none there = ap (λ (u : Tree). node_at u.nodes dir) grown ∙ node_at-with_other t.nodes t.next_fileid node dir (apart t.nodes t.next_fileid dir none there)

pub enter-requires-clause-there : goal.enter-requires-clause-there
enter-requires-clause-there c = rw (same_dir c.args.self.now c.grow.new.self c.args.node c.args.dir c.in_ok-fileid.ensures.grown c.requires.new c.requires.there) c.requires.there

pub enter-requires-clause-absent : goal.enter-requires-clause-absent
enter-requires-clause-absent c = rw (same_dir c.args.self.now c.grow.new.self c.args.node c.args.dir c.in_ok-fileid.ensures.grown c.requires.new c.requires.there) c.requires.absent

pub enter-requires-clause-room : goal.enter-requires-clause-room
enter-requires-clause-room c = rw (same_dir c.args.self.now c.grow.new.self c.args.node c.args.dir c.in_ok-fileid.ensures.grown c.requires.new c.requires.there) c.requires.room

pub returns-in_default-clause-err : goal.returns-in_default-clause-err
returns-in_default-clause-err c =
    let t = c.args.self.now in
    let back : c.enter.new.self ≡ grow t c.args.node = c.in_default.ensures.err ∙ c.in_ok-fileid.ensures.grown in
    let fileid : c.in_ok-fileid.fileid ≡ t.next_fileid = c.in_ok-fileid.ensures.fileid in
    c.take_back.ensures
    ∙ ap (λ (u : Tree). record (erase u c.in_ok-fileid.fileid) { next_fileid = c.in_ok-fileid.fileid }) back
    ∙ ap (λ (k : ℕ). record (erase (grow t c.args.node) k) { next_fileid = k }) fileid
    ∙ ap (λ (ns : List (ℕ × Node)). record t { nodes = ns }) (without-with_node t.nodes t.next_fileid c.args.node c.requires.new)
