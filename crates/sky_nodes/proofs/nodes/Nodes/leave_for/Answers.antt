use Rattle.std.proofs.Common.{arith}
use Rattle.sky_nfs.specs.Changes.{leave, stamp}
use Rattle.sky_nfs.specs.Tree.{Node}
use Rattle.sky_nodes.proofs.EditLemmas.{Keeps, keeps_edited}
use Rattle.sky_nodes.proofs.nodes.Nodes.leave_for.Goals as goal

pub stamp-requires : goal.stamp-requires
stamp-requires c =
    (keeps_edited c.args.self.now c.leave.new.self c.args.from c.args.fileid (λ (d : Node). leave c.args.now c.args.name.now d) c.leave.ensures (λ n. omega arith)).there c.requires.node

pub move_directory-requires-clause-source : goal.move_directory-requires-clause-source
move_directory-requires-clause-source c =
    let first : Keeps c.args.self.now c.leave.new.self c.args.from = keeps_edited c.args.self.now c.leave.new.self c.args.from c.args.from (λ (d : Node). leave c.args.now c.args.name.now d) c.leave.ensures (λ n. omega arith) in
    let second : Keeps c.leave.new.self c.stamp.new.self c.args.from = keeps_edited c.leave.new.self c.stamp.new.self c.args.fileid c.args.from (λ (n : Node). stamp c.args.now n) c.stamp.ensures (λ n. omega arith) in
    second.there (first.there c.requires.source)

pub move_directory-requires-clause-target : goal.move_directory-requires-clause-target
move_directory-requires-clause-target c =
    let first : Keeps c.args.self.now c.leave.new.self c.args.to = keeps_edited c.args.self.now c.leave.new.self c.args.from c.args.to (λ (d : Node). leave c.args.now c.args.name.now d) c.leave.ensures (λ n. omega arith) in
    let second : Keeps c.leave.new.self c.stamp.new.self c.args.to = keeps_edited c.leave.new.self c.stamp.new.self c.args.fileid c.args.to (λ (n : Node). stamp c.args.now n) c.stamp.ensures (λ n. omega arith) in
    second.there (first.there c.requires.target)

pub move_directory-requires-clause-node : goal.move_directory-requires-clause-node
move_directory-requires-clause-node c =
    let first : Keeps c.args.self.now c.leave.new.self c.args.fileid = keeps_edited c.args.self.now c.leave.new.self c.args.from c.args.fileid (λ (d : Node). leave c.args.now c.args.name.now d) c.leave.ensures (λ n. omega arith) in
    let second : Keeps c.leave.new.self c.stamp.new.self c.args.fileid = keeps_edited c.leave.new.self c.stamp.new.self c.args.fileid c.args.fileid (λ (n : Node). stamp c.args.now n) c.stamp.ensures (λ n. omega arith) in
    second.there (first.there c.requires.node)

pub move_directory-requires-clause-fits : goal.move_directory-requires-clause-fits
move_directory-requires-clause-fits c =
    let first : Keeps c.args.self.now c.leave.new.self c.args.to = keeps_edited c.args.self.now c.leave.new.self c.args.from c.args.to (λ (d : Node). leave c.args.now c.args.name.now d) c.leave.ensures (λ n. omega arith) in
    let second : Keeps c.leave.new.self c.stamp.new.self c.args.to = keeps_edited c.leave.new.self c.stamp.new.self c.args.fileid c.args.to (λ (n : Node). stamp c.args.now n) c.stamp.ensures (λ n. omega arith) in
    omega (arith, first.links, second.links, c.requires.fits)
