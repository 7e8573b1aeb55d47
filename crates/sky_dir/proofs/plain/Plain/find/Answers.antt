use Rattle.std.proofs.Common.{◌≡◌, ℕ, List, [], Some, None, ap, sym, ◌∙◌, arith}
use Rattle.std.specs.Prelude.{option_map}
use Rattle.sky_base.specs.Listing.{Entry, Listing, fileid_at}
use Rattle.sky_dir.specs.Rows.{place_in}
use Rattle.sky_dir.proofs.RowsLemmas.{nowhere_at_no_place, first_at_place}
use Rattle.sky_dir.proofs.plain.Plain.find.Goals as goal

pub index-requires : goal.index-requires
index-requires c =
    let p : place_in c.args.name.now c.self.inside.rows.items ≡ Some c.in-Some.place = cc in
    omega (arith, (first_at_place c.args.name.now c.self.inside.rows.items c.in-Some.place (0, [], 0) p).0, c.self.inside.rows.ok.0)

pub returns-in-Some : goal.returns-in-Some
returns-in-Some c =
    let p : place_in c.args.name.now c.self.inside.rows.items ≡ Some c.in-Some.place = cc in
    let g = first_at_place c.args.name.now c.self.inside.rows.items c.in-Some.place c.index.result.now p in
    ap (λ (row : ℕ × List ℕ × ℕ). Some row.2) c.index.ensures ∙ sym (ap (option_map (λ (e : Entry). e.fileid)) g.1) ∙ ap (λ (l : Listing). fileid_at l c.args.name.now) c.self.view_is

pub returns-in-None : goal.returns-in-None
returns-in-None c =
    let p : place_in c.args.name.now c.self.inside.rows.items ≡ None = cc in
    sym (ap (option_map (λ (e : Entry). e.fileid)) (nowhere_at_no_place c.args.name.now c.self.inside.rows.items p).0) ∙ ap (λ (l : Listing). fileid_at l c.args.name.now) c.self.view_is
