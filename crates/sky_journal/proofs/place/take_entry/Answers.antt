use Rattle.std.specs.Prelude.{IfSome}
use Rattle.std.proofs.Common.{◌≤◌, ◌+◌, ℕ, Option, subst}
use Rattle.sky_journal.specs.Looking.{area_in}
use Rattle.sky_journal.specs.OnePass.{IsEntrySize}
use Rattle.sky_journal.proofs.Places.{entry_stands, entry_left}
use Rattle.sky_journal.proofs.place.take_entry.Goals as goal

pub returns-in_default-clause-given : goal.returns-in_default-clause-given
returns-in_default-clause-given g c image a list places shows left =
    entry_stands (area_in c.args.span image).bytes a c.args.place list places left c.requires.some
    (subst (λ (o : Option ℕ). IsEntrySize (area_in c.args.span image).bytes c.args.place.at c.args.place.end o) c.in_default.is (c.in_ok-n.ensures.first image shows))

pub returns-clause-given : goal.returns-clause-given
returns-clause-given g c image a list places shows left =
    let fits : c.args.place.at + c.in-Some.n ≤ c.args.place.end = subst (λ (o : Option ℕ). IfSome o (λ n. c.args.place.at + n ≤ c.args.place.end)) c.in-Some.is c.in_ok-n.ensures.range in
    let first = subst (λ (o : Option ℕ). IsEntrySize (area_in c.args.span image).bytes c.args.place.at c.args.place.end o) c.in-Some.is (c.in_ok-n.ensures.first image shows) in
    entry_left (area_in c.args.span image).bytes a c.args.place list places c.in-Some.n c.bytes_in.new.bytes.items left c.requires.some fits first
    (c.in_ok-bytes_in.ensures.value image (c.in_ok-n.ensures.went.shows image shows))
