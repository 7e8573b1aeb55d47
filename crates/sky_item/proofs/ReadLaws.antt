-- What a call returned that gives what reading gives.
use Rattle.std.proofs.Common.{ℕ, List, Result, Ok, Err, IfOk, subst}
use Rattle.sky_base.specs.declared.place.Damage.{Damage}
use Rattle.sky_xdr.specs.Encoding.{AreBytes}
use Rattle.sky_item.specs.declared.fault.ItemFault.{ItemFault}
use Rattle.sky_item.specs.declared.item.Item.{Item}
use Rattle.sky_item.specs.Items.{EncodesItem}
use Rattle.sky_item.specs.Fields.{item_at}
use Rattle.sky_item.specs.Taking.{GivesItem}
use Rattle.sky_item.proofs.ItemLaws.{item_again, item_sound}

pub gives_found : (r : Result Item ItemFault) (bytes : List ℕ) → AreBytes bytes → GivesItem r (item_at bytes) → IfOk r (λ item. EncodesItem bytes item)
gives_found (Ok item) bytes fits e = item_sound bytes item fits e
gives_found (Err fault) bytes fits e = tt

pub gives_given : (r : Result Item ItemFault) (bytes : List ℕ) (item : Item) → GivesItem r (item_at bytes) → EncodesItem bytes item → GivesItem r (Ok item)
gives_given r bytes item e is = subst (λ (x : Result Item Damage). GivesItem r x) (item_again bytes item is) e
