use Rattle.std.proofs.Common.{◌≡◌, ◌≤◌, ◌*◌, ℕ, List, length, Err, sym, subst, ap, ◌∙◌, arith, Option}
use Rattle.sky_outside.proofs.ToldLaws.{WhereTold-at}
use Rattle.sky_journal.specs.Looking.{Says, AreHeld}
use Rattle.sky_journal.specs.Text.{Read}
use Rattle.sky_journal.specs.AreasRead.{AreLaid}
use Rattle.sky_journal.proofs.JournalRead.{too_small, large_enough}
use Rattle.sky_journal.proofs.read.find_areas.Goals as goal

pub returns-then-size-area-clause-says : goal.returns-then-size-area-clause-says
returns-then-size-area-clause-says g c image told =
    let long : length image ≡ g.D.Storage.bytes_of c.args.disk.now =
    WhereTold-at (g.D.Storage.image c.args.disk.now) (λ read. length read ≡ g.D.Storage.bytes_of c.args.disk.now) image told (g.D.Storage.has_size c.args.disk.now) in
    let size : length image ≡ c.size-size.result = long ∙ sym c.size-size.ensures in
    too_small g.G.Grammar.is_entry c.args.volume c.args.area c.args.covers image (omega (arith, size, c.if-size-area.true)) ∙ ap (λ (n : ℕ). Err n) size

pub returns-clause-says : goal.returns-clause-says
returns-clause-says g c image told =
    let long : length image ≡ g.D.Storage.bytes_of c.args.disk.now =
    WhereTold-at (g.D.Storage.image c.args.disk.now) (λ read. length read ≡ g.D.Storage.bytes_of c.args.disk.now) image told (g.D.Storage.has_size c.args.disk.now) in
    let large : 2 * c.args.area ≤ length image = omega (arith, long, c.size-size.ensures, c.if-size-area.false) in
    let said = c.read_areas.ensures.says image (record { told = told; held = subst (λ (o : Option ℕ). AreHeld o c.in_ok-pieces.pieces.buf.items image) (sym c.in_ok-pieces.ensures) tt }) in
    subst (λ (read : Read (List (ℕ × List ℕ))). Says c.read_areas.result read (AreLaid c.args.volume c.args.area image))
    (sym (large_enough g.G.Grammar.is_entry c.args.volume c.args.area c.args.covers image large)) said
