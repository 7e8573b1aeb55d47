use Rattle.std.proofs.Common.{◌≡◌, ℕ, List, [], Some, None, map, ap, sym, ◌∙◌, arith}
use Rattle.std.specs.Prelude.{option_map}
use Rattle.sky_base.specs.Listing.{Entry, Listing, fileid_at, without_entry, without_name}
use Rattle.sky_dir.specs.Rows.{place_in, entry_of, listing_of_rows}
use Rattle.sky_dir.proofs.RowsLemmas.{nowhere_at_no_place, first_at_place}
use Rattle.sky_dir.proofs.plain.Plain.drop_name.Goals as goal

pub remove-fileid-requires : goal.remove-fileid-requires
remove-fileid-requires c =
    let p : place_in c.args.name.now c.self.inside.rows.items ≡ Some c.in-Some.place = cc in
    omega (arith, (first_at_place c.args.name.now c.self.inside.rows.items c.in-Some.place (0, [], 0) p).0, c.self.inside.rows.ok.0)

pub returns-in-Some-clause-fileid : goal.returns-in-Some-clause-fileid
returns-in-Some-clause-fileid c =
    let p : place_in c.args.name.now c.self.inside.rows.items ≡ Some c.in-Some.place = cc in
    let g = first_at_place c.args.name.now c.self.inside.rows.items c.in-Some.place c.remove-fileid.result p in
    ap (λ (row : ℕ × List ℕ × ℕ). Some row.2) c.remove-fileid.ensures.value ∙ sym (ap (option_map (λ (e : Entry). e.fileid)) g.1) ∙ ap (λ (l : Listing). fileid_at l c.args.name.now) c.self.view_is

pub returns-in-Some-clause-dropped : goal.returns-in-Some-clause-dropped
returns-in-Some-clause-dropped c =
    let p : place_in c.args.name.now c.self.inside.rows.items ≡ Some c.in-Some.place = cc in
    let g = first_at_place c.args.name.now c.self.inside.rows.items c.in-Some.place c.remove-fileid.result p in
    let rows : map entry_of c.remove-fileid.new.self.items ≡ without_name (map entry_of c.self.inside.rows.items) c.args.name.now = ap (map entry_of) c.remove-fileid.ensures.items ∙ sym g.2 in
    let here : listing_of_rows c.remove-fileid.new.self.items c.self.inside.next ≡ without_entry (listing_of_rows c.self.inside.rows.items c.self.inside.next) c.args.name.now =
    ap (λ (es : List Entry). record { entries = es; next_cookie = c.self.inside.next }) rows in
    let there : without_entry (listing_of_rows c.self.inside.rows.items c.self.inside.next) c.args.name.now ≡ without_entry c.args.self.now c.args.name.now = ap (λ (l : Listing). without_entry l c.args.name.now) c.self.view_is in
    here ∙ there

pub returns-in-None-clause-fileid : goal.returns-in-None-clause-fileid
returns-in-None-clause-fileid c =
    let p : place_in c.args.name.now c.self.inside.rows.items ≡ None = cc in
    sym (ap (option_map (λ (e : Entry). e.fileid)) (nowhere_at_no_place c.args.name.now c.self.inside.rows.items p).0) ∙ ap (λ (l : Listing). fileid_at l c.args.name.now) c.self.view_is

pub returns-in-None-clause-dropped : goal.returns-in-None-clause-dropped
returns-in-None-clause-dropped c =
    let p : place_in c.args.name.now c.self.inside.rows.items ≡ None = cc in
    sym c.self.view_is ∙ sym (ap (λ (es : List Entry). record { entries = es; next_cookie = c.self.inside.next }) (nowhere_at_no_place c.args.name.now c.self.inside.rows.items p).1) ∙ ap (λ (l : Listing). without_entry l c.args.name.now) c.self.view_is
