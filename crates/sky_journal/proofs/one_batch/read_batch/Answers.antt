use Rattle.std.proofs.Common.{◌≡◌, ◌≤◌, ◌<◌, ◌+◌, ℕ, List, length, arith, sym, ◌∙◌}
use Rattle.std.proofs.lemmas.Result.{err_from_is_err_and}
use Rattle.sky_journal.specs.Layout.{number_4, number_8, next_batch}
use Rattle.sky_journal.specs.Looking.{area_in}
use Rattle.sky_journal.proofs.Passes.{area-length}
use Rattle.sky_journal.proofs.BatchReads.{batch_none, batch_far, batch_many, batch_same}
use Rattle.sky_journal.proofs.ReadingFaults.{says_handed}
use Rattle.sky_journal.proofs.one_batch.read_batch.Goals as goal

pub returns-then-left-le16-clause-says : goal.returns-then-left-le16-clause-says
returns-then-left-le16-clause-says g c image shows =
    let bytes : List ℕ = (area_in c.args.span image).bytes in
    let long : length bytes ≡ c.args.span.size = area-length g.D.Storage c.args.disk.now c.args.pieces.now image c.args.span shows c.requires.within in
    let far : length bytes ≤ next_batch c.args.filled.end bytes = omega (arith, long, c.if-left-le16.true) in
    batch_far g.G.Grammar.is_entry (area_in c.args.span image) c.args.filled.end c.args.filled.last far

pub returns-then-count-eq0-clause-says : goal.returns-then-count-eq0-clause-says
returns-then-count-eq0-clause-says g c image shows =
    batch_none g.G.Grammar.is_entry (area_in c.args.span image) c.args.filled.end c.args.filled.last (sym (c.in_ok-count.ensures.value image shows) ∙ c.if-count-eq0.true)

pub returns-then-body-left-clause-says : goal.returns-then-body-left-clause-says
returns-then-body-left-clause-says g c image shows =
    let bytes : List ℕ = (area_in c.args.span image).bytes in
    let long : length bytes ≡ c.args.span.size = area-length g.D.Storage c.args.disk.now c.args.pieces.now image c.args.span shows c.requires.within in
    let body : c.in_ok-body.body ≡ number_8 (c.args.filled.end + 8) bytes = c.in_ok-body.ensures.value image (c.in_ok-count.ensures.went.shows image shows) in
    let far : length bytes ≤ next_batch c.args.filled.end bytes = omega (arith, long, body, c.if-body-left.true, c.if-left-le16.false) in
    batch_far g.G.Grammar.is_entry (area_in c.args.span image) c.args.filled.end c.args.filled.last far

pub returns-then-count-filled-clause-says : goal.returns-then-count-filled-clause-says
returns-then-count-filled-clause-says g c image shows =
    let bytes : List ℕ = (area_in c.args.span image).bytes in
    let long : length bytes ≡ c.args.span.size = area-length g.D.Storage c.args.disk.now c.args.pieces.now image c.args.span shows c.requires.within in
    let count : c.in_ok-count.count ≡ number_4 (c.args.filled.end + 4) bytes = c.in_ok-count.ensures.value image shows in
    let body : c.in_ok-body.body ≡ number_8 (c.args.filled.end + 8) bytes = c.in_ok-body.ensures.value image (c.in_ok-count.ensures.went.shows image shows) in
    let within : next_batch c.args.filled.end bytes < length bytes = omega (arith, long, body, c.if-body-left.false, c.if-left-le16.false) in
    batch_many g.G.Grammar.is_entry (area_in c.args.span image) c.args.filled.end c.args.filled.last (omega (arith, count, c.if-count-eq0.false)) within (omega (arith, count, c.if-count-filled.true, c.requires.number))

pub returns-in_err-entries-clause-says : goal.returns-in_err-entries-clause-says
returns-in_err-entries-clause-says g c image shows =
    let bytes : List ℕ = (area_in c.args.span image).bytes in
    let first = c.in_ok-count.ensures.went.shows image shows in
    let second = c.in_ok-body.ensures.went.shows image first in
    let long : length bytes ≡ c.args.span.size = area-length g.D.Storage c.args.disk.now c.args.pieces.now image c.args.span shows c.requires.within in
    let count : c.in_ok-count.count ≡ number_4 (c.args.filled.end + 4) bytes = c.in_ok-count.ensures.value image shows in
    let body : c.in_ok-body.body ≡ number_8 (c.args.filled.end + 8) bytes = c.in_ok-body.ensures.value image first in
    let end : ℕ = c.args.filled.end + 16 + c.in_ok-body.body in
    let same = batch_same g.G.Grammar.is_entry (area_in c.args.span image) c.args.filled.end c.args.filled.last c.in_ok-count.count end count (omega (arith, c.if-count-eq0.false)) (omega (arith, body))
    (omega (arith, long, c.if-body-left.false, c.if-left-le16.false)) (omega (arith, c.if-count-filled.false, c.requires.number)) in
    let p = err_from_is_err_and c.from_residual-in_err-entries.result c.from_residual-in_err-entries.ensures.1 in
    says_handed c.from_residual-in_err-entries.result p.0 _ _ _ _ _ p.1 p.2 (λ place e. same ∙ e) (c.in_err-entries.ensures.says image second)

pub returns-clause-says : goal.returns-clause-says
returns-clause-says g c image shows =
    let bytes : List ℕ = (area_in c.args.span image).bytes in
    let first = c.in_ok-count.ensures.went.shows image shows in
    let second = c.in_ok-body.ensures.went.shows image first in
    let long : length bytes ≡ c.args.span.size = area-length g.D.Storage c.args.disk.now c.args.pieces.now image c.args.span shows c.requires.within in
    let count : c.in_ok-count.count ≡ number_4 (c.args.filled.end + 4) bytes = c.in_ok-count.ensures.value image shows in
    let body : c.in_ok-body.body ≡ number_8 (c.args.filled.end + 8) bytes = c.in_ok-body.ensures.value image first in
    let end : ℕ = c.args.filled.end + 16 + c.in_ok-body.body in
    let ends : end ≡ next_batch c.args.filled.end bytes = omega (arith, body) in
    let same = batch_same g.G.Grammar.is_entry (area_in c.args.span image) c.args.filled.end c.args.filled.last c.in_ok-count.count end count (omega (arith, c.if-count-eq0.false)) ends
    (omega (arith, long, c.if-body-left.false, c.if-left-le16.false)) (omega (arith, c.if-count-filled.false, c.requires.number)) in
    let said = c.in_ok-entries.ensures.says image second in
    (said.0, same ∙ said.1, (ends, omega (arith, said.2)))
