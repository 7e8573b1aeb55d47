-- What an item links to lies at its locations, in order: where the number of these is that of the links, they are the links'.
use Rattle.std.proofs.Common.{◌≡◌, ℕ, ◌+◌, ◌≤◌, Option, Some, None, List, [], ◌∷◌, length, map, refl, sym, ap, subst, ◌∙◌, arith}
use Rattle.std.specs.List.{AllByRecursion}
use Rattle.std.proofs.lemmas.List.{nil_from_length}
use Rattle.sky_base.specs.Limits.{max_fileid}
use Rattle.sky_base.specs.declared.place.Link.{Link}
use Rattle.sky_base.specs.declared.place.Location.{Location}
use Rattle.sky_item.specs.declared.lists.NumberedLink.{NumberedLink}
use Rattle.sky_item.specs.Encoding.{block_locations, numbered_locations}
use Rattle.sky_item.specs.Items.{IsLocation, IsLink, IsBlockLink, AscendsWithin, AreNumbered}
use Rattle.sky_item.specs.Fields.{locations_behind, numbers_behind}
use Rattle.sky_item.proofs.Codecs.{EachIs}
use Rattle.sky_item.proofs.NodeLaws.{BlockIs}
use Rattle.sky_item.proofs.PageLaws.{NumberedIs, FileidIs}

pub locations_each : (s : Unit {0}) (ls : List Location) → AllByRecursion IsLocation ls → EachIs (λ _. IsLocation) (λ s at. s) s ls
locations_each s [] all = tt
locations_each s (at ∷ ls) all = (all.0, locations_each s ls all.1)

pub locations_all : (s : Unit {0}) (ls : List Location) → EachIs (λ _. IsLocation) (λ s at. s) s ls → AllByRecursion IsLocation ls
locations_all s [] each = tt
locations_all s (at ∷ ls) each = (each.0, locations_all s ls each.1)

-- ---- blocks

-- blocks that lie at these locations
pub record AreBlocks (ls : List Location) (blocks : List (Option Link)) : Type 0 where
  pub at : block_locations blocks ≡ ls
  pub each : AllByRecursion IsBlockLink blocks

pub blocks_placed : (ls : List Location) (blocks : List (Option Link)) → AllByRecursion IsLocation ls → EachIs BlockIs locations_behind ls blocks
    → length (block_locations blocks) ≡ length ls → AreBlocks ls blocks
blocks_placed ls [] all each count = record { at = sym (nil_from_length ls (sym count)); each = tt }
blocks_placed ls (None ∷ blocks) all each count =
    let r = blocks_placed ls blocks all each.1 count in record { at = r.at; each = (tt, r.each) }
blocks_placed [] (Some link ∷ blocks) all each count = absurd (omega arith)
blocks_placed (at ∷ ls) (Some link ∷ blocks) all each count =
    let r = blocks_placed ls blocks all.1 each.1 (omega arith) in
    let here : link.at ≡ at = each.0.2 in
    let is : IsLink link = record { id = each.0.0; at = subst IsLocation (sym here) all.0 } in
    record {
      at = ap (λ (l : Location). l ∷ block_locations blocks) here ∙ ap (λ (t : List Location). at ∷ t) r.at;
      each = ((is, each.0.1), r.each);
    }

pub blocks_each : (blocks : List (Option Link)) → AllByRecursion IsBlockLink blocks → EachIs BlockIs locations_behind (block_locations blocks) blocks
blocks_each [] all = tt
blocks_each (None ∷ blocks) all = (tt, blocks_each blocks all.1)
blocks_each (Some link ∷ blocks) all = ((all.0.0.id, all.0.1, refl), blocks_each blocks all.1)

pub blocks_located : (blocks : List (Option Link)) → AllByRecursion IsBlockLink blocks → AllByRecursion IsLocation (block_locations blocks)
blocks_located [] all = tt
blocks_located (None ∷ blocks) all = blocks_located blocks all.1
blocks_located (Some link ∷ blocks) all = (all.0.0.at, blocks_located blocks all.1)

-- ---- items that go by numbers

-- such items that lie at these locations
pub record NumberedAt (least bound : ℕ) (ls : List Location) (links : List NumberedLink) : Type 0 where
  pub at : numbered_locations links ≡ ls
  pub each : AreNumbered least bound links

pub numbered_placed : (least bound : ℕ) (ls : List Location) (links : List NumberedLink) → 1 ≤ bound → AllByRecursion IsLocation ls
    → EachIs (NumberedIs bound) numbers_behind (least, ls) links → length (numbered_locations links) ≡ length ls → NumberedAt least bound ls links
numbered_placed least bound ls [] some all each count = record { at = sym (nil_from_length ls (sym count)); each = record { numbers = tt; each = tt } }
numbered_placed least bound [] (n ∷ links) some all each count = absurd (omega arith)
numbered_placed least bound (at ∷ ls) (n ∷ links) some all each count =
    let r = numbered_placed (n.number + 1) bound ls links some all.1 each.1 (omega arith) in
    let here : n.link.at ≡ at = each.0.at in
    let is : IsLink n.link = record { id = each.0.id; at = subst IsLocation (sym here) all.0 } in
    record {
      at = ap (λ (l : Location). l ∷ numbered_locations links) here ∙ ap (λ (t : List Location). at ∷ t) r.at;
      each = record { numbers = (each.0.number.low, omega (arith, each.0.number.high, some), r.each.numbers); each = (is, r.each.each) };
    }

pub numbered_each : (least bound : ℕ) (links : List NumberedLink) → AscendsWithin least bound (map (λ n. n.number) links) → AllByRecursion (λ n. IsLink n.link) links
    → EachIs (NumberedIs bound) numbers_behind (least, numbered_locations links) links
numbered_each least bound [] ascends all = tt
numbered_each least bound (n ∷ links) ascends all =
    (record { number = record { low = ascends.0; high = omega (arith, ascends.1) }; id = all.0.id; at = refl }, numbered_each (n.number + 1) bound links ascends.2 all.1)

pub numbered_located : (links : List NumberedLink) → AllByRecursion (λ n. IsLink n.link) links → AllByRecursion IsLocation (numbered_locations links)
numbered_located [] all = tt
numbered_located (n ∷ links) all = (all.0.at, numbered_located links all.1)

-- ---- numbers of files

pub fileids_each : (least : ℕ) (ns : List ℕ) → AscendsWithin least max_fileid ns → EachIs FileidIs (λ least fileid. fileid + 1) least ns
fileids_each least [] ascends = tt
fileids_each least (n ∷ ns) ascends = (record { low = ascends.0; high = omega (arith, ascends.1) }, fileids_each (n + 1) ns ascends.2)

pub fileids_ascend : (least : ℕ) (ns : List ℕ) → EachIs FileidIs (λ least fileid. fileid + 1) least ns → AscendsWithin least max_fileid ns
fileids_ascend least [] each = tt
fileids_ascend least (n ∷ ns) each = (each.0.low, omega (arith, each.0.high), fileids_ascend (n + 1) ns each.1)
