use Rattle.std.specs.Prelude.{IsSomeAnd}
use Rattle.std.proofs.Common.{◌≡◌, ℕ, length, Option, sym, subst, arith}
use Rattle.std.proofs.lemmas.Result.{IfOk-weaker}
use Rattle.sky_outside.proofs.ToldLaws.{WhereTold-at}
use Rattle.sky_journal.specs.Looking.{area_in, AreHeld, Shows}
use Rattle.sky_journal.specs.Place.{LeftInBatch}
use Rattle.sky_journal.specs.declared.place.Place.{Place}
use Rattle.sky_journal.proofs.Batches.{HasBatches-within}
use Rattle.sky_journal.proofs.Frames.{length-area}
use Rattle.sky_journal.proofs.Places.{behind_from}
use Rattle.sky_journal.proofs.place.entry_behind.Goals as goal

pub returns-then-place-clause-given : goal.returns-then-place-clause-given
returns-then-place-clause-given g c image a list places told left more = omega (arith, left.order, c.if-place.true)

pub returns-then-place-span-clause-given : goal.returns-then-place-span-clause-given
returns-then-place-span-clause-given g c image a list places told left more =
    let whole : length image ≡ g.D.Storage.bytes_of c.args.disk.now =
    WhereTold-at (g.D.Storage.image c.args.disk.now) (λ read. length read ≡ g.D.Storage.bytes_of c.args.disk.now) image told (g.D.Storage.has_size c.args.disk.now) in
    let long : length (area_in c.args.span image).bytes ≡ c.args.span.size = length-area image c.args.span.start c.args.span.size (omega (arith, whole, c.requires.within)) in
    let inside = HasBatches-within (area_in c.args.span image).bytes c.args.place.end left.batches a.end left.has in
    omega (arith, long, inside, c.if-place-span.true)

pub returns-in_default-clause-given : goal.returns-in_default-clause-given
returns-in_default-clause-given g c image a list places told left more =
    let shows : Shows g.D.Storage c.args.disk.now c.none-pieces.result image =
    record { told = told; held = subst (λ (o : Option ℕ). AreHeld o c.none-pieces.result.buf.items image) (sym c.none-pieces.ensures) tt } in
    subst (λ (o : Option Place). IsSomeAnd o (LeftInBatch (area_in c.args.span image).bytes a c.args.place list places)) c.in_default.is (c.in_ok-next.ensures.left image a list places shows left more)

pub returns-clause-given : goal.returns-clause-given
returns-clause-given g c =
    IfOk-weaker c.take_entry.result _ _
    (λ found given image a list places told left more.
    let shows : Shows g.D.Storage c.args.disk.now c.none-pieces.result image =
    record { told = told; held = subst (λ (o : Option ℕ). AreHeld o c.none-pieces.result.buf.items image) (sym c.none-pieces.ensures) tt } in
    let in_batch = subst (λ (o : Option Place). IsSomeAnd o (LeftInBatch (area_in c.args.span image).bytes a c.args.place list places)) c.in-Some.is (c.in_ok-next.ensures.left image a list places shows left more) in
    behind_from (area_in c.args.span image).bytes a c.in-Some.next c.args.place c.take_entry.new.entry.items list places found in_batch.1
    (given image a list places (c.in_ok-next.ensures.went.shows image shows) in_batch.0)) c.take_entry.ensures.given
