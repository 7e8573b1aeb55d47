-- the index leads to the entry, and both go
use Rattle.std.proofs.Common.{◌≡◌, List, map, None, ap, sym, ◌∙◌, rules}
use Rattle.std.specs.Prelude.{option_map}
use Rattle.sky_base.specs.Listing.{Entry, Listing, fileid_at, without_entry}
use Rattle.sky_dir.specs.Items.{item_entry}
use Rattle.sky_dir.specs.declared.indexed.Item.{Item}
use Rattle.sky_dir.proofs.KeptLemmas.{cookie_at-update}
use Rattle.sky_dir.proofs.KeptSteps.{there_from_index, none_from_index, kept_without, without_none}
use Rattle.sky_dir.proofs.indexed.Indexed.drop_name.Goals as goal

pub invariant_of-self : goal.invariant_of-self
invariant_of-self c =
    let a = c.self.inside in
    let name = c.args.name.now in
    kept_without a.items.entries a.index a.next c.self.invariant name c.in-Some.cookie c.in-Some.ensures.value c.remove-in-Some.new.self.entries c.remove-in-Some.ensures.entries c.remove.new.self
    (cookie_at-update name a.index c.remove.new.self None c.remove.ensures.updates)

pub returns-in-Some-clause-fileid : goal.returns-in-Some-clause-fileid
returns-in-Some-clause-fileid c =
    let a = c.self.inside in
    let there = there_from_index a.items.entries a.index a.next c.self.invariant c.args.name.now c.in-Some.cookie c.in-Some.ensures.value in
    let read : c.map.result ≡ option_map (λ (v : Item). v.fileid) c.remove-in-Some.result = search rules in
    read ∙ ap (option_map (λ (v : Item). v.fileid)) c.remove-in-Some.ensures.value ∙ there.fileid ∙ ap (λ (l : Listing). fileid_at l c.args.name.now) c.self.view_is

pub returns-in-Some-clause-dropped : goal.returns-in-Some-clause-dropped
returns-in-Some-clause-dropped c =
    let a = c.self.inside in
    let there = there_from_index a.items.entries a.index a.next c.self.invariant c.args.name.now c.in-Some.cookie c.in-Some.ensures.value in
    ap (λ (es : List Entry). record { entries = es; next_cookie = a.next }) (ap (map item_entry) c.remove-in-Some.ensures.entries ∙ there.without) ∙ ap (λ (l : Listing). without_entry l c.args.name.now) c.self.view_is

pub returns-in-None-clause-dropped : goal.returns-in-None-clause-dropped
returns-in-None-clause-dropped c =
    let a = c.self.inside in
    let name = c.args.name.now in
    let none = none_from_index a.items.entries a.index a.next c.self.invariant name c.in-None.ensures.value in
    sym (ap (λ (es : List Entry). record { entries = es; next_cookie = a.next }) (without_none name (map item_entry a.items.entries) none)) ∙ ap (λ (l : Listing). without_entry l name) c.self.view_is
