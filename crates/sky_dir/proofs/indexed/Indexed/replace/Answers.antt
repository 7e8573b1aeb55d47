-- the entry goes last, the index gets its cookie, and what stood at the old one goes
use Rattle.std.proofs.Common.{◌≡◌, ℕ, ◌+◌, ◌<◌, List, map, Some, None, ap, sym, ◌∙◌, subst, arith}
use Rattle.std.specs.Map.{update}
use Rattle.std.specs.Str.{bytes_eq}
use Rattle.sky_base.specs.Limits.{max_cookie}
use Rattle.sky_base.specs.Listing.{Entry, Listing, with_entry, without_entry}
use Rattle.sky_dir.specs.Items.{item_entry}
use Rattle.sky_dir.specs.Kept.{cookie_at}
use Rattle.sky_dir.specs.declared.indexed.Item.{Item}
use Rattle.sky_dir.specs.declared.indexed.Indexed.TheInside.{Inside}
use Rattle.sky_dir.proofs.KeptLemmas.{cookie_at-update}
use Rattle.sky_dir.proofs.KeptSteps.{kept_back, kept_same}
use Rattle.sky_dir.proofs.ReplaceLemmas.{IsReplaced, replaced_some, replaced_none}
use Rattle.sky_dir.proofs.indexed.Indexed.replace.Goals as goal
use Rattle.sky_dir.proofs.indexed.Indexed.replace.Goals.{in-Some+in-Some-1, in-Some+in-None-1, in_default-old}

pub invariant_of-self-in_default : goal.invariant_of-self-in_default
invariant_of-self-in_default c =
    let a = c.self.inside in
    let v : Item = record { name = c.args.name; fileid = c.args.fileid } in
    let same = kept_back a.items.entries a.index a.next c.self.invariant v c.insert.new.self.entries c.remove.new.self.entries c.in_ok-insert.ensures.entries c.remove.ensures.entries in
    kept_same a.items.entries c.remove.new.self.entries a.index c.insert-2.new.self a.next c.self.invariant same c.in_default.ensures.err

pub returns-in_default-clause-err : goal.returns-in_default-clause-err
returns-in_default-clause-err c =
    let a = c.self.inside in
    let v : Item = record { name = c.args.name; fileid = c.args.fileid } in
    let same = kept_back a.items.entries a.index a.next c.self.invariant v c.insert.new.self.entries c.remove.new.self.entries c.in_ok-insert.ensures.entries c.remove.ensures.entries in
    ap (λ (l : List (ℕ × Item)). record { entries = map item_entry l; next_cookie = a.next }) same ∙ c.self.view_is

pub invariant_of-self-2 : goal.invariant_of-self-2
invariant_of-self-2 c =
    let a = c.self.inside in
    let name = c.args.name in
    let items = a.items.entries in
    let v : Item = record { name = name; fileid = c.args.fileid } in
    let room : a.next < max_cookie = omega (arith, ap (λ (l : Listing). l.next_cookie) c.self.view_is, c.requires) in
    let key : c.in_ok-key.key.items ≡ name = c.in_ok-key.ensures.items ∙ c.as_bytes.ensures.same in
    let updated : (q : List ℕ) → cookie_at c.insert-2.new.self q ≡ update bytes_eq (cookie_at a.index) name (Some a.next) q =
    λ q. cookie_at-update c.in_ok-key.key.items a.index c.insert-2.new.self (Some a.next) c.in-Ok.ensures.updates q ∙ ap (λ n. update bytes_eq (cookie_at a.index) n (Some a.next) q) key in
    let was : c.in-Ok.old ≡ cookie_at a.index name = c.in-Ok.ensures.old ∙ ap (cookie_at a.index) key in
    let put = c.in_ok-insert.ensures.entries in
    let IsDone : Inside → Type 0 = λ (s : Inside). IsReplaced items s.items.entries s.index a.next v in
    let done : IsDone c.match-old.self-inside = elim c.match-old.branch [
      | in-Some+in-Some-1 w ↦ subst IsDone (sym w.self-inside-is) (replaced_some items a.index a.next c.self.invariant v room w.in-Some.old (sym w.in-Some.is ∙ was) c.insert.new.self.entries w.remove-in-Some.new.self.entries put w.remove-in-Some.ensures.entries c.insert-2.new.self updated)
      | in-Some+in-None-1 w ↦ subst IsDone (sym w.self-inside-is) (replaced_some items a.index a.next c.self.invariant v room w.in-Some.old (sym w.in-Some.is ∙ was) c.insert.new.self.entries w.remove-in-Some.new.self.entries put w.remove-in-Some.ensures.entries c.insert-2.new.self updated)
      | in_default-old w ↦
          let none : c.in-Ok.old ≡ None = cc in
          subst IsDone (sym w.self-inside-is) (replaced_none items a.index a.next c.self.invariant v room (sym none ∙ was) c.insert.new.self.entries put c.insert-2.new.self updated)
    ] in
    done.kept

pub returns-clause-replaced : goal.returns-clause-replaced
returns-clause-replaced c =
    let a = c.self.inside in
    let name = c.args.name in
    let items = a.items.entries in
    let v : Item = record { name = name; fileid = c.args.fileid } in
    let room : a.next < max_cookie = omega (arith, ap (λ (l : Listing). l.next_cookie) c.self.view_is, c.requires) in
    let key : c.in_ok-key.key.items ≡ name = c.in_ok-key.ensures.items ∙ c.as_bytes.ensures.same in
    let updated : (q : List ℕ) → cookie_at c.insert-2.new.self q ≡ update bytes_eq (cookie_at a.index) name (Some a.next) q =
    λ q. cookie_at-update c.in_ok-key.key.items a.index c.insert-2.new.self (Some a.next) c.in-Ok.ensures.updates q ∙ ap (λ n. update bytes_eq (cookie_at a.index) n (Some a.next) q) key in
    let was : c.in-Ok.old ≡ cookie_at a.index name = c.in-Ok.ensures.old ∙ ap (cookie_at a.index) key in
    let put = c.in_ok-insert.ensures.entries in
    let IsDone : Inside → Type 0 = λ (s : Inside). IsReplaced items s.items.entries s.index a.next v in
    let done : IsDone c.match-old.self-inside = elim c.match-old.branch [
      | in-Some+in-Some-1 w ↦ subst IsDone (sym w.self-inside-is) (replaced_some items a.index a.next c.self.invariant v room w.in-Some.old (sym w.in-Some.is ∙ was) c.insert.new.self.entries w.remove-in-Some.new.self.entries put w.remove-in-Some.ensures.entries c.insert-2.new.self updated)
      | in-Some+in-None-1 w ↦ subst IsDone (sym w.self-inside-is) (replaced_some items a.index a.next c.self.invariant v room w.in-Some.old (sym w.in-Some.is ∙ was) c.insert.new.self.entries w.remove-in-Some.new.self.entries put w.remove-in-Some.ensures.entries c.insert-2.new.self updated)
      | in_default-old w ↦
          let none : c.in-Ok.old ≡ None = cc in
          subst IsDone (sym w.self-inside-is) (replaced_none items a.index a.next c.self.invariant v room (sym none ∙ was) c.insert.new.self.entries put c.insert-2.new.self updated)
    ] in
    ap (λ (es : List Entry). record { entries = es; next_cookie = a.next + 1 }) done.shown ∙ ap (λ (l : Listing). with_entry (without_entry l name) name c.args.fileid) c.self.view_is
