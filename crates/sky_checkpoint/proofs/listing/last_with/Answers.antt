use Rattle.std.specs.Prelude.{if◌then◌else◌}
use Rattle.std.proofs.Common.{◌≡◌, ◌∙◌, Bool, false, true, Option, Some, Ordering, ap, refl, sym}
use Rattle.std.specs.Ordering.{ord_max}
use Rattle.sky_base.specs.Order.{name_order}
use Rattle.sky_base.specs.declared.object.Dir.TheVariants.{Proxy}
use Rattle.sky_base.specs.declared.object.SegName.{SegName}
use Rattle.sky_base.proofs.OrderLaws.{name_cmp_is}
use Rattle.sky_checkpoint.specs.Listing.{is_check_of, later_of}
use Rattle.sky_checkpoint.proofs.listing.last_with.Goals as goal

skips : (b : Bool) (last : Option SegName) (name : SegName) → b ≡ false → last ≡ (if b then Some (later_of last name) else last)
skips b last name e = rw e refl

takes : (b : Bool) (last : Option SegName) (name : SegName) → b ≡ true → Some (later_of last name) ≡ (if b then Some (later_of last name) else last)
takes b last name e = rw e refl

pub returns-then-not-is_check_of : goal.returns-then-not-is_check_of
returns-then-not-is_check_of c = skips (is_check_of Proxy c.args.held.now.name) c.args.last c.args.held.now.name (sym c.is_check_of.ensures ∙ c.if-not-is_check_of.true)

pub returns-in-Some : goal.returns-in-Some
returns-in-Some c =
    let largest : c.max.result ≡ ord_max name_order c.in-Some.other c.args.held.now.name =
    c.max.ensures ∙ ap (λ (cmp : SegName → SegName → Ordering). ord_max cmp c.in-Some.other c.args.held.now.name) name_cmp_is in
    ap Some largest ∙ ap (λ (o : Option SegName). Some (later_of o c.args.held.now.name)) (sym c.in-Some.is)
    ∙ takes (is_check_of Proxy c.args.held.now.name) c.args.last c.args.held.now.name (sym c.is_check_of.ensures ∙ c.if-not-is_check_of.false)

pub returns-in-None : goal.returns-in-None
returns-in-None c =
    ap (λ (o : Option SegName). Some (later_of o c.args.held.now.name)) (sym c.in-None.is)
    ∙ takes (is_check_of Proxy c.args.held.now.name) c.args.last c.args.held.now.name (sym c.is_check_of.ensures ∙ c.if-not-is_check_of.false)
