-- Reading the entries of a batch in one pass.
use Rattle.std.specs.Prelude.{nat_lt, ok_or}
use Rattle.std.specs.Option.{option_map}
use Rattle.std.proofs.Common.{◌≡◌, ℕ, zero, suc, ◌+◌, ◌-◌, ◌<◌, ◌≤◌, Bool, true, false, List, [], ◌∷◌, ◌++◌, length, take, drop, Option, Some, None, Ok, Err, is_some, refl, sym, ap, ◌∙◌, subst, arith, append_assoc}
use Rattle.std.proofs.lemmas.Bool.{le-ltb, lt-ltb}
use Rattle.std.proofs.lemmas.List.{drop-take, drop-drop}
use Rattle.sky_outside.specs.Image.{bytes_at}
use Rattle.sky_outside.specs.declared.storage.Storage.{Ghosts}
use Rattle.sky_outside.proofs.ToldLaws.{WhereTold-at}
use Rattle.sky_journal.specs.Layout.{number_4, batch_header}
use Rattle.sky_journal.specs.Text.{◌>>=◌, Read, Area, first_entry, entries_in, all_of_grammar}
use Rattle.sky_journal.specs.Looking.{Shows, area_in, between}
use Rattle.sky_journal.specs.OnePass.{unless_foreign, entries_read, foreign_behind, IsEntrySize, IsNext, IsRead}
use Rattle.sky_journal.specs.declared.one_batch.Mark.{Mark}
use Rattle.sky_journal.specs.declared.pieces.Pieces.{Pieces}
use Rattle.sky_journal.specs.declared.span.Span.{Span}
use Rattle.sky_journal.proofs.Entries.{entries_in-length}
use Rattle.sky_journal.proofs.Frames.{number_4-within, length-area, take-of-area}

-- ---- how long things are

-- an area that lies within the disk has its size
pub area-length : {S : Type 0} (g : Ghosts S) (disk : S) (pieces : Pieces) (image : List ℕ) (span : Span) → Shows g disk pieces image → span.start + span.size ≤ g.bytes_of disk
    → length (area_in span image).bytes ≡ span.size
area-length g disk pieces image span shows within =
    let long : length image ≡ g.bytes_of disk = WhereTold-at (g.image disk) (λ read. length read ≡ g.bytes_of disk) image shows.told (g.has_size disk) in
    length-area image span.start span.size (omega arith)

between-length : (bytes : List ℕ) (p end : ℕ) → p ≤ end → end ≤ length bytes → length (between p end bytes) ≡ end - p
between-length bytes p end order within = length-area bytes p (end - p) (omega arith)

between-number : (bytes : List ℕ) (p end : ℕ) → p + 4 ≤ end → number_4 0 (between p end bytes) ≡ number_4 p bytes
between-number bytes p end fits =
    let place : p ≡ p + 0 = omega arith in
    sym (ap (λ (k : ℕ). number_4 k bytes) place ∙ number_4-within p (end - p) 0 bytes (omega arith))

between-rest : (bytes : List ℕ) (p end n : ℕ) → p + n ≤ end → drop n (between p end bytes) ≡ between (p + n) end bytes
between-rest bytes p end n fits =
    let split : end - p ≡ n + (end - (p + n)) = omega arith in
    ap (λ (k : ℕ). drop n (take k (drop p bytes))) split
    ∙ drop-take n (end - (p + n)) (drop p bytes)
    ∙ ap (λ (l : List ℕ). take (end - (p + n)) l) (drop-drop n p bytes)

-- ---- the first entry

first_short : (bytes : List ℕ) → length bytes < 4 → first_entry bytes ≡ None
unfolding first_entry
first_short bytes short = let a : nat_lt (length bytes) 4 ≡ true = lt-ltb _ _ short in rw a refl

first_cut : (bytes : List ℕ) (n : ℕ) → 4 ≤ length bytes → n ≡ 4 + number_4 0 bytes → length bytes < n → first_entry bytes ≡ None
unfolding first_entry
first_cut bytes n least is cut =
    let a : nat_lt (length bytes) 4 ≡ false = le-ltb _ _ least in
    let b : nat_lt (length bytes) (4 + number_4 0 bytes) ≡ true = lt-ltb _ _ (omega arith) in
    rw (a, b) refl

first_whole : (bytes : List ℕ) (n : ℕ) → n ≡ 4 + number_4 0 bytes → n ≤ length bytes → first_entry bytes ≡ Some (take n bytes, drop n bytes)
unfolding first_entry
first_whole bytes n is fits =
    let a : nat_lt (length bytes) 4 ≡ false = le-ltb _ _ (omega arith) in
    let b : nat_lt (length bytes) (4 + number_4 0 bytes) ≡ false = le-ltb _ _ (omega arith) in
    rw (a, b, is) refl

-- fewer than four bytes are left
pub size_short : (bytes : List ℕ) (p end : ℕ) → p ≤ end → end ≤ length bytes → end - p < 4 → first_entry (between p end bytes) ≡ None
size_short bytes p end order within short = first_short (between p end bytes) (omega (arith, between-length bytes p end order within))

-- an entry is longer than what is left
pub size_cut : (bytes : List ℕ) (p end n : ℕ) → p ≤ end → end ≤ length bytes → 4 ≤ end - p → n ≡ number_4 p bytes → end - p < 4 + n → first_entry (between p end bytes) ≡ None
size_cut bytes p end n order within least is cut =
    let number : number_4 0 (between p end bytes) ≡ number_4 p bytes = between-number bytes p end (omega arith) in
    let long : length (between p end bytes) ≡ end - p = between-length bytes p end order within in
    first_cut (between p end bytes) (4 + n) (omega arith) (omega arith) (omega arith)

-- an entry is whole
pub size_whole : (bytes : List ℕ) (p end n : ℕ) → p ≤ end → end ≤ length bytes → n ≡ number_4 p bytes → 4 + n ≤ end - p
    → first_entry (between p end bytes) ≡ Some (bytes_at bytes p (4 + n), between (p + (4 + n)) end bytes)
size_whole bytes p end n order within is fits =
    let number : number_4 0 (between p end bytes) ≡ number_4 p bytes = between-number bytes p end (omega arith) in
    let long : length (between p end bytes) ≡ end - p = between-length bytes p end order within in
    let first = first_whole (between p end bytes) (4 + n) (omega arith) (omega arith) in
    let entry : take (4 + n) (between p end bytes) ≡ bytes_at bytes p (4 + n) = take-of-area bytes p (end - p) (4 + n) fits in
    let rest : drop (4 + n) (between p end bytes) ≡ between (p + (4 + n)) end bytes = between-rest bytes p end (4 + n) (omega arith) in
    first ∙ ap (λ (l : List ℕ). Some (l, drop (4 + n) (between p end bytes))) entry ∙ ap (λ (l : List ℕ). Some (bytes_at bytes p (4 + n), l)) rest

-- ---- the mark

pub foreign_stays : (foreign : Option ℕ) (is : Bool) (place : ℕ) → is_some foreign ≡ true → foreign ≡ foreign_behind foreign is place
foreign_stays None is place some = absurd cc
foreign_stays (Some earlier) is place some = refl

pub foreign_comes : (foreign : Option ℕ) (is : Bool) (place : ℕ) → is_some foreign ≡ false → is ≡ false → Some place ≡ foreign_behind foreign is place
foreign_comes None false place none bad = refl
foreign_comes None true place none bad = absurd cc
foreign_comes (Some earlier) is place none bad = absurd cc

pub foreign_none : (foreign : Option ℕ) (is : Bool) (place : ℕ) → is_some foreign ≡ false → is ≡ true → None ≡ foreign_behind foreign is place
foreign_none None true place none good = refl
foreign_none None false place none good = absurd cc
foreign_none (Some earlier) is place none good = absurd cc

-- a mark behind an entry
pub next_found : (is_entry : List ℕ → Bool) (area : Area) (end : ℕ) (mark : Mark) (n : ℕ) (found foreign : Option ℕ) → found ≡ Some n → IsEntrySize area.bytes mark.at end found
    → mark.at + n ≤ end → end ≤ length area.bytes → foreign ≡ foreign_behind mark.foreign (is_entry (bytes_at area.bytes mark.at n)) (area.start + mark.at)
    → IsNext is_entry area end mark (Some (record { at = mark.at + n; foreign = foreign }))
next_found is_entry area end mark n found foreign is first fits within kept =
    let long : length (bytes_at area.bytes mark.at n) ≡ n = length-area area.bytes mark.at n (omega arith) in
    (bytes_at area.bytes mark.at n, subst (λ (o : Option ℕ). IsEntrySize area.bytes mark.at end o) is first, omega (arith, long), kept)

-- ---- one pass

-- what is read, and then put behind others
pub behind_none : (read : Read (List (List ℕ))) → read ≡ (read >>= λ others. Ok ([] ++ others))
behind_none (Ok entries) = refl
behind_none (Err place) = refl

behind_one : (es : List (List ℕ)) (e : List ℕ) (read : Read (List (List ℕ)))
    → ((read >>= λ others. Ok (e ∷ others)) >>= λ others. Ok (es ++ others)) ≡ (read >>= λ others. Ok ((es ++ e ∷ []) ++ others))
behind_one es e (Ok others) = ap (λ (l : List (List ℕ)). Ok l) (sym (append_assoc es (e ∷ []) others))
behind_one es e (Err place) = refl

grammar_first : (e : List ℕ) (es : List (List ℕ)) (read : Read (Unit {0})) → (read >>= λ _. Ok (e ∷ es)) ≡ ((read >>= λ _. Ok es) >>= λ others. Ok (e ∷ others))
grammar_first e es (Ok x) = refl
grammar_first e es (Err place) = refl

first_read : (is_entry : List ℕ → Bool) (batch place : ℕ) (foreign : Option ℕ) (e : List ℕ) (o : Option (List (List ℕ))) (is : Bool) → is_entry e ≡ is
    → (ok_or (option_map (λ es. e ∷ es) o) batch >>= λ entries. unless_foreign foreign (all_of_grammar is_entry place entries) >>= λ _. Ok entries)
    ≡ ((ok_or o batch >>= λ entries. unless_foreign (foreign_behind foreign is place) (all_of_grammar is_entry (place + length e) entries) >>= λ _. Ok entries) >>= λ others. Ok (e ∷ others))
unfolding all_of_grammar
first_read is_entry batch place foreign e None is at = refl
first_read is_entry batch place (Some earlier) e (Some es) is at = refl
first_read is_entry batch place None e (Some es) false at = rw at refl
first_read is_entry batch place None e (Some es) true at = rw at (grammar_first e es (all_of_grammar is_entry (place + length e) es))

-- one entry, and then the others
pub read_next : (is_entry : List ℕ → Bool) (batch place : ℕ) (foreign : Option ℕ) (n : ℕ) (bytes e rest : List ℕ) → first_entry bytes ≡ Some (e, rest)
    → entries_read is_entry batch place foreign (suc n) bytes ≡ (entries_read is_entry batch (place + length e) (foreign_behind foreign (is_entry e) place) n rest >>= λ others. Ok (e ∷ others))
unfolding entries_read entries_in
read_next is_entry batch place foreign n bytes e rest first = rw first (first_read is_entry batch place foreign e (entries_in n rest) (is_entry e) refl)

-- no entry
pub read_none : (is_entry : List ℕ → Bool) (batch place : ℕ) (foreign : Option ℕ) (n : ℕ) (bytes : List ℕ) → first_entry bytes ≡ None → entries_read is_entry batch place foreign (suc n) bytes ≡ Err batch
unfolding entries_read entries_in
read_none is_entry batch place foreign n bytes first = rw first refl

-- no entry is left, and bytes are
pub read_more : (is_entry : List ℕ → Bool) (batch place : ℕ) (foreign : Option ℕ) (bytes : List ℕ) → 0 < length bytes → entries_read is_entry batch place foreign 0 bytes ≡ Err batch
unfolding entries_read entries_in
read_more is_entry batch place foreign [] some = absurd (omega arith)
read_more is_entry batch place foreign (b ∷ bs) some = refl

-- no entry is left, nor bytes
pub read_end : (is_entry : List ℕ → Bool) (batch place : ℕ) → entries_read is_entry batch place None 0 [] ≡ Ok []
unfolding entries_read entries_in all_of_grammar
read_end is_entry batch place = refl

pub read_foreign : (is_entry : List ℕ → Bool) (batch place at : ℕ) → entries_read is_entry batch place (Some at) 0 [] ≡ Err at
unfolding entries_read entries_in all_of_grammar
read_foreign is_entry batch place at = refl

read_whole : (entries : List (List ℕ)) (read : Read (Unit {0})) (es : List (List ℕ)) → (read >>= λ _. Ok entries) ≡ Ok es → Some entries ≡ Some es
read_whole entries (Ok x) es e = cc
read_whole entries (Err place) es e = absurd cc

read_all_at : (batch : ℕ) (o : Option (List (List ℕ))) (f : List (List ℕ) → Read (Unit {0})) (es : List (List ℕ)) → (ok_or o batch >>= λ entries. f entries >>= λ _. Ok entries) ≡ Ok es → o ≡ Some es
read_all_at batch None f es e = absurd cc
read_all_at batch (Some entries) f es e = read_whole entries (f entries) es e

-- what is read are the entries
pub read_entries : (is_entry : List ℕ → Bool) (batch place : ℕ) (foreign : Option ℕ) (n : ℕ) (bytes : List ℕ) (es : List (List ℕ)) → entries_read is_entry batch place foreign n bytes ≡ Ok es
    → entries_in n bytes ≡ Some es
unfolding entries_read
read_entries is_entry batch place foreign n bytes es e = read_all_at batch (entries_in n bytes) (λ entries. unless_foreign foreign (all_of_grammar is_entry place entries)) es e

-- ---- a batch

-- what is read of a batch, of which the entries are between its header and its end
abbrev pub batch_read : (List ℕ → Bool) → Area → ℕ → ℕ → ℕ → Read (List (List ℕ))
batch_read is_entry area p end count = entries_read is_entry (area.start + p) (area.start + (p + batch_header)) None count (between (p + batch_header) end area.bytes)

pub read_start : (is_entry : List ℕ → Bool) (area : Area) (p end count : ℕ) → IsRead is_entry area p end count 0 (record { at = p + batch_header; foreign = None })
read_start is_entry area p end count = record {
  entries = [];
  left = count;
  counts = omega arith;
  goes_on = behind_none (batch_read is_entry area p end count);
}

read_on_at : (is_entry : List ℕ → Bool) (area : Area) (p end count read left : ℕ) (mark next : Mark) (entries : List (List ℕ)) → left + read ≡ count → 0 < left
    → batch_read is_entry area p end count ≡ (entries_read is_entry (area.start + p) (area.start + mark.at) mark.foreign left (between mark.at end area.bytes) >>= λ others. Ok (entries ++ others))
    → IsNext is_entry area end mark (Some next) → IsRead is_entry area p end count (read + 1) next
read_on_at is_entry area p end count read zero mark next entries counts some goes_on found = absurd (omega arith)
read_on_at is_entry area p end count read (suc left) mark next entries counts some goes_on found =
    let e : List ℕ = found.0 in
    let batch : ℕ = area.start + p in
    let rest : List ℕ = between next.at end area.bytes in
    let place : area.start + mark.at + length e ≡ area.start + next.at = omega (arith, found.2) in
    let one = read_next is_entry batch (area.start + mark.at) mark.foreign left (between mark.at end area.bytes) e rest found.1 in
    let there : entries_read is_entry batch (area.start + mark.at + length e) (foreign_behind mark.foreign (is_entry e) (area.start + mark.at)) left rest
    ≡ entries_read is_entry batch (area.start + next.at) next.foreign left rest =
    ap (λ (k : ℕ). entries_read is_entry batch k (foreign_behind mark.foreign (is_entry e) (area.start + mark.at)) left rest) place
    ∙ ap (λ (f : Option ℕ). entries_read is_entry batch (area.start + next.at) f left rest) (sym found.3) in
    record {
      entries = entries ++ e ∷ [];
      left = left;
      counts = omega arith;
      goes_on = goes_on
          ∙ ap (λ (read : Read (List (List ℕ))). read >>= λ others. Ok (entries ++ others)) (one ∙ ap (λ (read : Read (List (List ℕ))). read >>= λ others. Ok (e ∷ others)) there)
          ∙ behind_one entries e (entries_read is_entry batch (area.start + next.at) next.foreign left rest);
    }

-- one entry more was read
pub read_on : (is_entry : List ℕ → Bool) (area : Area) (p end count read : ℕ) (mark next : Mark) → IsRead is_entry area p end count read mark → read < count
    → IsNext is_entry area end mark (Some next) → IsRead is_entry area p end count (read + 1) next
read_on is_entry area p end count read mark next so_far less found =
    read_on_at is_entry area p end count read so_far.left mark next so_far.entries so_far.counts (omega (arith, so_far.counts)) so_far.goes_on found

read_broken_at : (is_entry : List ℕ → Bool) (area : Area) (p end count left : ℕ) (mark : Mark) (entries : List (List ℕ)) → 0 < left
    → batch_read is_entry area p end count ≡ (entries_read is_entry (area.start + p) (area.start + mark.at) mark.foreign left (between mark.at end area.bytes) >>= λ others. Ok (entries ++ others))
    → IsNext is_entry area end mark None → batch_read is_entry area p end count ≡ Err (area.start + p)
read_broken_at is_entry area p end count zero mark entries some goes_on none = absurd (omega arith)
read_broken_at is_entry area p end count (suc left) mark entries some goes_on none =
    goes_on ∙ ap (λ (read : Read (List (List ℕ))). read >>= λ others. Ok (entries ++ others)) (read_none is_entry (area.start + p) (area.start + mark.at) mark.foreign left (between mark.at end area.bytes) none)

-- an entry is missing
pub read_broken : (is_entry : List ℕ → Bool) (area : Area) (p end count read : ℕ) (mark : Mark) → IsRead is_entry area p end count read mark → read < count
    → IsNext is_entry area end mark None → batch_read is_entry area p end count ≡ Err (area.start + p)
read_broken is_entry area p end count read mark so_far less none =
    read_broken_at is_entry area p end count so_far.left mark so_far.entries (omega (arith, so_far.counts)) so_far.goes_on none

-- all entries were read, and what is left of the batch with none of them
last_part : (is_entry : List ℕ → Bool) (area : Area) (p end count read : ℕ) (mark : Mark) (so_far : IsRead is_entry area p end count read mark) → count ≤ read
    → batch_read is_entry area p end count
    ≡ (entries_read is_entry (area.start + p) (area.start + mark.at) mark.foreign 0 (between mark.at end area.bytes) >>= λ others. Ok (so_far.entries ++ others))
last_part is_entry area p end count read mark so_far all =
    let none : so_far.left ≡ 0 = omega (arith, all, so_far.counts) in
    so_far.goes_on
    ∙ ap (λ (n : ℕ). entries_read is_entry (area.start + p) (area.start + mark.at) mark.foreign n (between mark.at end area.bytes) >>= λ others. Ok (so_far.entries ++ others)) none

between_end : (bytes : List ℕ) (at end : ℕ) → at ≡ end → between at end bytes ≡ []
between_end bytes at end is = let none : end - at ≡ 0 = omega arith in ap (λ (n : ℕ). take n (drop at bytes)) none

-- there are more bytes than its entries have
pub read_longer : (is_entry : List ℕ → Bool) (area : Area) (p end count read : ℕ) (mark : Mark) → IsRead is_entry area p end count read mark → count ≤ read → mark.at < end → end ≤ length area.bytes
    → batch_read is_entry area p end count ≡ Err (area.start + p)
read_longer is_entry area p end count read mark so_far all more within =
    let long : length (between mark.at end area.bytes) ≡ end - mark.at = between-length area.bytes mark.at end (omega arith) within in
    last_part is_entry area p end count read mark so_far all
    ∙ ap (λ (read : Read (List (List ℕ))). read >>= λ others. Ok (so_far.entries ++ others)) (read_more is_entry (area.start + p) (area.start + mark.at) mark.foreign (between mark.at end area.bytes) (omega (arith, long)))

ending : (is_entry : List ℕ → Bool) (area : Area) (p end count read : ℕ) (mark : Mark) (foreign : Option ℕ) (so_far : IsRead is_entry area p end count read mark) → count ≤ read → mark.at ≡ end → mark.foreign ≡ foreign
    → batch_read is_entry area p end count ≡ (entries_read is_entry (area.start + p) (area.start + mark.at) foreign 0 [] >>= λ others. Ok (so_far.entries ++ others))
ending is_entry area p end count read mark foreign so_far all at_end is =
    last_part is_entry area p end count read mark so_far all
    ∙ ap (λ (l : List ℕ). entries_read is_entry (area.start + p) (area.start + mark.at) mark.foreign 0 l >>= λ others. Ok (so_far.entries ++ others)) (between_end area.bytes mark.at end at_end)
    ∙ ap (λ (f : Option ℕ). entries_read is_entry (area.start + p) (area.start + mark.at) f 0 [] >>= λ others. Ok (so_far.entries ++ others)) is

-- an entry was foreign
pub read_bad : (is_entry : List ℕ → Bool) (area : Area) (p end count at read : ℕ) (mark : Mark) → IsRead is_entry area p end count read mark → count ≤ read → mark.at ≡ end → mark.foreign ≡ Some at
    → batch_read is_entry area p end count ≡ Err at
read_bad is_entry area p end count at read mark so_far all at_end is =
    ending is_entry area p end count read mark (Some at) so_far all at_end is
    ∙ ap (λ (read : Read (List (List ℕ))). read >>= λ others. Ok (so_far.entries ++ others)) (read_foreign is_entry (area.start + p) (area.start + mark.at) at)

-- none was
pub read_done : (is_entry : List ℕ → Bool) (area : Area) (p end count read : ℕ) (mark : Mark) → IsRead is_entry area p end count read mark → count ≤ read → mark.at ≡ end → mark.foreign ≡ None
    → (entries : List (List ℕ)) × (batch_read is_entry area p end count ≡ Ok entries) × (length entries ≡ count)
read_done is_entry area p end count read mark so_far all at_end is =
    let all : batch_read is_entry area p end count ≡ Ok (so_far.entries ++ []) =
    ending is_entry area p end count read mark None so_far all at_end is
    ∙ ap (λ (read : Read (List (List ℕ))). read >>= λ others. Ok (so_far.entries ++ others)) (read_end is_entry (area.start + p) (area.start + mark.at)) in
    let found = read_entries is_entry (area.start + p) (area.start + (p + batch_header)) None count (between (p + batch_header) end area.bytes) (so_far.entries ++ []) all in
    (so_far.entries ++ [], all, entries_in-length count (between (p + batch_header) end area.bytes) (so_far.entries ++ []) found)
