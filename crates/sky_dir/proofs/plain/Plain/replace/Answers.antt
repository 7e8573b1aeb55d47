-- the new row goes last, and then the first one of the name goes
use Rattle.std.proofs.Common.{◌≡◌, ℕ, ◌+◌, List, [], ◌∷◌, ◌++◌, Some, None, map, ap, sym, ◌∙◌, arith}
use Rattle.std.specs.Prelude.{remove}
use Rattle.sky_base.specs.Listing.{Entry, Listing, with_entry, without_entry, without_name}
use Rattle.sky_dir.specs.declared.plain.Plain.TheInside.{Inside}
use Rattle.sky_dir.specs.Rows.{place_in, entry_of}
use Rattle.sky_dir.proofs.RowsLemmas.{nowhere_at_no_place, first_at_place}
use Rattle.sky_dir.proofs.ReplaceLemmas.{row_replaced}
use Rattle.std.proofs.lemmas.List.{map-append}
use Rattle.sky_dir.proofs.plain.Plain.replace.Goals as goal
use Rattle.sky_dir.proofs.plain.Plain.replace.Goals.{in-Some, in_default}

pub remove-requires : goal.remove-requires
remove-requires c =
    let rows = c.self.inside.rows in
    let p : place_in c.args.name rows.items ≡ Some c.in-Some.place = cc in
    omega (arith, (first_at_place c.args.name rows.items c.in-Some.place (0, [], 0) p).0, rows.ok.0, c.in_ok-push.ensures.len)

pub returns-clause-replaced : goal.returns-clause-replaced
returns-clause-replaced c =
    let a = c.self.inside in
    let rows = a.rows.items in
    let name = c.args.name in
    let row : ℕ × List ℕ × ℕ = (a.next, name, c.args.fileid) in
    let IsDone : Inside → Type 0 = λ (s : Inside). (map entry_of s.rows.items ≡ without_name (map entry_of rows) name ++ entry_of row ∷ []) × (s.next ≡ a.next) in
    let done : IsDone c.match-old.self-inside = elim c.match-old.branch [
      | in-Some w ↦
          let p : place_in name rows ≡ Some w.in-Some.place = cc in
          let g = first_at_place name rows w.in-Some.place (0, [], 0) p in
          let taken : w.remove.new.self.items ≡ remove (rows ++ row ∷ []) w.in-Some.place = w.remove.ensures.items ∙ ap (λ (l : List (ℕ × List ℕ × ℕ)). remove l w.in-Some.place) c.in_ok-push.ensures.items in (
            ap (λ (s : Inside). map entry_of s.rows.items) w.self-inside-is ∙ ap (map entry_of) taken ∙ row_replaced rows w.in-Some.place row g.0 ∙ ap (λ (es : List Entry). es ++ entry_of row ∷ []) (sym g.2),
            ap (λ (s : Inside). s.next) w.self-inside-is,
          )
      | in_default w ↦
          let p : place_in name rows ≡ None = cc in
          let g = nowhere_at_no_place name rows p in (
            ap (λ (s : Inside). map entry_of s.rows.items) w.self-inside-is ∙ ap (map entry_of) c.in_ok-push.ensures.items ∙ map-append entry_of rows (row ∷ []) ∙ ap (λ (es : List Entry). es ++ entry_of row ∷ []) (sym g.1),
            ap (λ (s : Inside). s.next) w.self-inside-is,
          )
    ] in
    ap (λ (es : List Entry). record { entries = es; next_cookie = c.match-old.self-inside.next + 1 }) done.0
    ∙ ap (λ (n : ℕ). record { entries = without_name (map entry_of rows) name ++ entry_of row ∷ []; next_cookie = n + 1 }) done.1
    ∙ ap (λ (l : Listing). with_entry (without_entry l name) name c.args.fileid) c.self.view_is
