use Rattle.std.proofs.Common.{rules, ◌≡◌, ◌+◌, ◌∷◌, ◌++◌, ◌∙◌, [], ℕ, List, arith, ap, sym, append_assoc}
use Rattle.std.specs.Prelude.{map, sum_by}
use Rattle.std.proofs.lemmas.List.{length-map, map-append}
use Rattle.std.proofs.lemmas.List.Sums.{sum_by_push}
use Rattle.sky_base.specs.Listing.{Entry}
use Rattle.sky_dir.specs.Items.{listed_of}
use Rattle.sky_nfs.specs.Procedures.ReadDir.{entry_size, longest, padded_length}
use Rattle.sky_tree.specs.Listing.{fits_in}
use Rattle.sky_tree.proofs.PageLemmas.{entries_within, size_within, stops, goes, not_too_small, on_err}
use Rattle.sky_tree.proofs.page.longest_page.Goals as goal

pub with_entry-requires-clause-entries : goal.with_entry-requires-clause-entries
with_entry-requires-clause-entries c =
    let page : List Entry = map listed_of c.loop-entry.entries.items in
    omega (arith, c.len.ensures, entries_within page, length-map c.loop-entry.entries.items listed_of, c.loop-entry.invariant.bytes, c.loop-entry.invariant.small)

pub returns-in_default-clause-entries : goal.returns-in_default-clause-entries
returns-in_default-clause-entries c =
    let page : List Entry = map listed_of c.loop-entry.entries.items in
    let whole : List Entry = longest (fits_in c.args.allowed) [] c.args.left in
    stops c.args.allowed page c.loop-entry.entry-iterator whole (listed_of c.in-Some.entry) c.next.new.self c.len.result c.loop-entry.bytes
    c.in-Some.ensures.steps (omega (arith, c.len.ensures, length-map c.loop-entry.entries.items listed_of)) c.loop-entry.invariant.bytes c.loop-entry.invariant.longest
    c.in_default.ensures.none

pub loop-entry-preserved : goal.loop-entry-preserved
loop-entry-preserved c =
    let page : List Entry = map listed_of c.loop-entry.entries.items in
    let whole : List Entry = longest (fits_in c.args.allowed) [] c.args.left in
    let e : Entry = listed_of c.in-Some.entry in
    let pushed : map listed_of c.push.new.self.items ≡ page ++ e ∷ [] = ap (λ xs. map listed_of xs) c.in_ok-push.ensures.items ∙ map-append listed_of c.loop-entry.entries.items (c.in-Some.entry ∷ []) in
    let next : longest (fits_in c.args.allowed) (page ++ e ∷ []) c.next.new.self ≡ whole =
    goes c.args.allowed page c.loop-entry.entry-iterator whole e c.next.new.self c.len.result c.loop-entry.bytes
    c.in-Some.ensures.steps (omega (arith, c.len.ensures, length-map c.loop-entry.entries.items listed_of)) c.loop-entry.invariant.bytes c.loop-entry.invariant.longest
    (rw c.in-Some-with_entry.ensures.more at c.in-Some-with_entry.ensures.fits) in
    record {
      can_go = search rules;
      ends = search rules;
      all = ap (λ (xs : List Entry). xs ++ c.next.new.self) pushed ∙ append_assoc page (e ∷ []) c.next.new.self ∙ ap (λ (xs : List Entry). page ++ xs) (sym c.in-Some.ensures.steps) ∙ c.loop-entry.invariant.all;
      longest = ap (λ (xs : List Entry). longest (fits_in c.args.allowed) xs c.next.new.self) pushed ∙ next;
      bytes = c.in-Some-with_entry.ensures.more ∙ ap (λ (b : ℕ). b + entry_size e) c.loop-entry.invariant.bytes ∙ sym (sum_by_push entry_size page e) ∙ sym (ap (λ (xs : List Entry). sum_by entry_size xs) pushed);
      small = size_within c.args.allowed (c.len.result + 1) c.in-Some-with_entry.more c.in-Some-with_entry.ensures.fits;
    }

pub returns-in_err-push-clause-memory : goal.returns-in_err-push-clause-memory
returns-in_err-push-clause-memory c =
    let page : List Entry = map listed_of c.loop-entry.entries.items in
    let whole : List Entry = longest (fits_in c.args.allowed) [] c.args.left in
    let e : Entry = listed_of c.in-Some.entry in
    let fit = rw c.in-Some-with_entry.ensures.more at c.in-Some-with_entry.ensures.fits in
    let next : longest (fits_in c.args.allowed) (page ++ e ∷ []) c.next.new.self ≡ whole =
    goes c.args.allowed page c.loop-entry.entry-iterator whole e c.next.new.self c.len.result c.loop-entry.bytes
    c.in-Some.ensures.steps (omega (arith, c.len.ensures, length-map c.loop-entry.entries.items listed_of)) c.loop-entry.invariant.bytes c.loop-entry.invariant.longest fit in
    on_err c.from_residual.result (not_too_small c.args.allowed page c.args.left e c.next.new.self (c.len.result + 1) (c.loop-entry.bytes + (24 + padded_length e.name)) fit next)
