use Rattle.std.proofs.Common.{◌∷◌, ◌++◌, sym, subst, arith}
use Rattle.sky_base.specs.declared.place.Location.{Location}
use Rattle.sky_item.specs.Items.{IsLocation}
use Rattle.sky_segment.specs.Objects.{object_bytes, LiesAt}
use Rattle.sky_segment.proofs.DraftLaws.{kept_size, kept_few, room_left, kept_more, place_is, there_is_location, lies_there}
use Rattle.sky_segment.proofs.builder.Builder.add.Goals as goal

pub overflow_cast-at : goal.overflow_cast-at
overflow_cast-at c =
    let size = kept_size c.self.inside.name c.self.inside.count c.self.inside.bytes.items c.args.self.now c.self.view_is c.self.invariant in
    omega (arith, size, room_left c.args.self.now c.args.item.now c.requires.fits, c.len.ensures, c.self.inside.bytes.ok)

pub push_item-requires-clause-fits : goal.push_item-requires-clause-fits
push_item-requires-clause-fits c =
    let size = kept_size c.self.inside.name c.self.inside.count c.self.inside.bytes.items c.args.self.now c.self.view_is c.self.invariant in
    omega (arith, size, room_left c.args.self.now c.args.item.now c.requires.fits)

pub overflow_add-self : goal.overflow_add-self
overflow_add-self c = omega (arith, kept_few c.self.inside.name c.self.inside.count c.self.inside.bytes.items c.self.invariant)

pub invariant_of-self-2 : goal.invariant_of-self-2
invariant_of-self-2 c =
    (kept_more c.self.inside.name c.self.inside.count c.self.inside.bytes.items c.push_item.new.bytes.items c.args.self.now c.args.item.now c.self.view_is c.self.invariant c.requires.item c.requires.fits c.requires.kind c.in_ok-push_item.ensures.ok).1

pub returns-clause-added : goal.returns-clause-added
returns-clause-added c =
    (kept_more c.self.inside.name c.self.inside.count c.self.inside.bytes.items c.push_item.new.bytes.items c.args.self.now c.args.item.now c.self.view_is c.self.invariant c.requires.item c.requires.fits c.requires.kind c.in_ok-push_item.ensures.ok).0

pub returns-clause-place : goal.returns-clause-place
returns-clause-place c =
    place_is c.self.inside.name c.self.inside.count c.self.inside.bytes.items c.args.self.now c.args.item.now c.len.result c.item_length.result c.self.view_is c.self.invariant
    (omega (arith, c.len.ensures, c.self.inside.bytes.ok)) c.item_length.ensures

pub returns-clause-location : goal.returns-clause-location
returns-clause-location c =
    subst IsLocation (sym (returns-clause-place c)) (there_is_location c.self.inside.name c.self.inside.count c.self.inside.bytes.items c.args.self.now c.args.item.now c.self.view_is c.self.invariant c.requires.fits)

pub returns-clause-lies : goal.returns-clause-lies
returns-clause-lies c = λ more.
    subst (λ (at : Location). LiesAt (object_bytes c.args.self.now.name (c.args.self.now.items ++ c.args.item.now ∷ more)) at c.args.item.now) (sym (returns-clause-place c))
    (lies_there c.args.self.now c.args.item.now more c.requires.item)
