use Rattle.std.proofs.Common.{◌≡◌, ◌≤◌, ℕ, List, length, arith}
use Rattle.sky_journal.specs.Looking.{area_in}
use Rattle.sky_journal.proofs.Passes.{area-length, size_short, size_cut, size_whole}
use Rattle.sky_journal.proofs.one_batch.entry_size.Goals as goal

pub returns-then-left-lt4-clause-first : goal.returns-then-left-lt4-clause-first
returns-then-left-lt4-clause-first g c image shows =
    let bytes : List ℕ = (area_in c.args.span image).bytes in
    let long : length bytes ≡ c.args.span.size = area-length g.D.Storage c.args.disk.now c.args.pieces.now image c.args.span shows c.requires.within in
    let inside : c.args.end ≤ length bytes = omega (arith, long, c.requires.inside) in
    size_short bytes c.args.p c.args.end c.requires.order inside c.if-left-lt4.true

pub returns-then-left-n-clause-first : goal.returns-then-left-n-clause-first
returns-then-left-n-clause-first g c image shows =
    let bytes : List ℕ = (area_in c.args.span image).bytes in
    let long : length bytes ≡ c.args.span.size = area-length g.D.Storage c.args.disk.now c.args.pieces.now image c.args.span shows c.requires.within in
    let inside : c.args.end ≤ length bytes = omega (arith, long, c.requires.inside) in
    size_cut bytes c.args.p c.args.end c.in_ok-n.field-0 c.requires.order inside c.if-left-lt4.false (c.in_ok-n.ensures.value image shows) c.if-left-n.true

pub returns-else-left-n-clause-first : goal.returns-else-left-n-clause-first
returns-else-left-n-clause-first g c image shows =
    let bytes : List ℕ = (area_in c.args.span image).bytes in
    let long : length bytes ≡ c.args.span.size = area-length g.D.Storage c.args.disk.now c.args.pieces.now image c.args.span shows c.requires.within in
    let inside : c.args.end ≤ length bytes = omega (arith, long, c.requires.inside) in
    size_whole bytes c.args.p c.args.end c.in_ok-n.field-0 c.requires.order inside (c.in_ok-n.ensures.value image shows) c.if-left-n.false
