use Rattle.std.proofs.Common.{◌≡◌, ◌+◌, length, arith}
use Rattle.sky_journal.specs.Layout.{number_4, number_8}
use Rattle.sky_journal.specs.Looking.{area_in}
use Rattle.sky_journal.proofs.Passes.{area-length}
use Rattle.sky_journal.proofs.Places.{batch_left, batch_room}
use Rattle.sky_journal.proofs.place.into_batch.Goals as goal

pub returns-then-room-le16-clause-left : goal.returns-then-room-le16-clause-left
returns-then-room-le16-clause-left g c image a list places shows left more =
    let long : length (area_in c.args.span image).bytes ≡ c.args.span.size = area-length g.D.Storage c.args.disk.now c.args.pieces.now image c.args.span shows c.requires.within in
    let room = batch_room (area_in c.args.span image).bytes a c.args.place list places left (omega (arith, c.if-place-gt0.false)) more in
    omega (arith, long, room.0, c.if-room-le16.true)

pub returns-then-left-eq0-clause-left : goal.returns-then-left-eq0-clause-left
returns-then-left-eq0-clause-left g c image a list places shows left more =
    let count : c.in_ok-left.left ≡ number_4 (c.args.place.end + 4) (area_in c.args.span image).bytes = c.in_ok-left.ensures.value image shows in
    let room = batch_room (area_in c.args.span image).bytes a c.args.place list places left (omega (arith, c.if-place-gt0.false)) more in
    omega (arith, count, room.1, c.if-left-eq0.true)

pub returns-then-body-room-clause-left : goal.returns-then-body-room-clause-left
returns-then-body-room-clause-left g c image a list places shows left more =
    let first = c.in_ok-left.ensures.went.shows image shows in
    let long : length (area_in c.args.span image).bytes ≡ c.args.span.size = area-length g.D.Storage c.args.disk.now c.args.pieces.now image c.args.span shows c.requires.within in
    let body : c.in_ok-body.body ≡ number_8 (c.args.place.end + 8) (area_in c.args.span image).bytes = c.in_ok-body.ensures.value image first in
    let room = batch_room (area_in c.args.span image).bytes a c.args.place list places left (omega (arith, c.if-place-gt0.false)) more in
    omega (arith, long, body, room.0, c.if-body-room.true, c.if-room-le16.false)

pub returns-clause-left : goal.returns-clause-left
returns-clause-left g c image a list places shows left more =
    let first = c.in_ok-left.ensures.went.shows image shows in
    batch_left (area_in c.args.span image).bytes a c.args.place list places c.in_ok-left.left c.in_ok-body.body left (omega (arith, c.if-place-gt0.false)) more (c.in_ok-left.ensures.value image shows) (c.in_ok-body.ensures.value image first)
