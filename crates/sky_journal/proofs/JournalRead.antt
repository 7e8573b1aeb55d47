-- The journal that is made of the areas that were read.
use Rattle.std.specs.Prelude.{nat_lt, IfSome, ◌-◌, IsTrue}
use Rattle.std.proofs.Common.{◌≡◌, ℕ, ◌*◌, ◌<◌, ◌≤◌, Bool, true, false, List, [], length, Option, Some, None, Result, Ok, Err, replicate, refl, sym, ap, ◌∙◌, subst, arith}
use Rattle.std.proofs.lemmas.Bool.{lt-ltb, le-ltb, false≢true}
use Rattle.sky_base.specs.Limits.{min_journal_area, max_journal_area}
use Rattle.sky_outside.specs.Count.{Counts}
use Rattle.sky_outside.proofs.CountLaws.{counts_weaker}
use Rattle.sky_journal.specs.declared.areas.Areas.{Areas}
use Rattle.sky_journal.specs.declared.fault.JournalFault.{JournalFault}
use Rattle.sky_journal.specs.declared.fault.JournalFault.TheVariants.{DiskFault, Memory, Foreign}
use Rattle.sky_journal.specs.Text.{Read, entries_of, areas_entries, open_areas, first_area, second_area, entries_in}
use Rattle.sky_journal.specs.Layout.{is_open}
use Rattle.sky_journal.specs.declared.open_area.OpenArea.{OpenArea}
use Rattle.sky_journal.specs.Faults.{is_disk_fault}
use Rattle.sky_journal.specs.Looking.{Says}
use Rattle.sky_journal.specs.Pending.{pending_in, body_in}
use Rattle.sky_journal.specs.Journal.{JournalView, IsJournal, IsOpenArea, ArePending, StandsFor, entries}
use Rattle.sky_journal.specs.AreasRead.{AreLaid, AreKnown, as_read}

-- a disk that is too small
pub too_small : (is_entry : List ℕ → Bool) (volume size covers : ℕ) (image : List ℕ) → length image < 2 * size → entries_of is_entry volume size covers image ≡ Err (length image)
unfolding entries_of
too_small is_entry volume size covers image small = let t : nat_lt (length image) (2 * size) ≡ true = lt-ltb _ _ small in rw t refl

-- and one that is not
pub large_enough : (is_entry : List ℕ → Bool) (volume size covers : ℕ) (image : List ℕ) → 2 * size ≤ length image
    → entries_of is_entry volume size covers image ≡ areas_entries is_entry volume covers (open_areas (first_area size image) (second_area size image))
unfolding entries_of
large_enough is_entry volume size covers image large = let t : nat_lt (length image) (2 * size) ≡ false = le-ltb _ _ large in rw t refl

-- the journal stands for what was read
pub stands_read : (volume size disk spare : ℕ) (areas : Areas) (image : List ℕ) (list : List (ℕ × List ℕ)) (laid : AreLaid volume size image areas list) → length image ≡ disk
    → StandsFor (as_read volume size disk areas spare) image laid.older laid.newer
stands_read volume size disk spare areas image list laid long = record { size = long; older_is = laid.older_is; newer_is = laid.newer_is; others = laid.others }

pub read_ok : (j : JournalView) (volume size disk : ℕ) (areas : Areas) (image : List ℕ) (list : List (ℕ × List ℕ)) (read : Read (List (ℕ × List ℕ))) → j ≡ as_read volume size disk areas j.spare
    → read ≡ Ok list → AreLaid volume size image areas list → length image ≡ disk → (older newer : List (List ℕ)) × StandsFor j image older newer × (read ≡ Ok (entries j older newer))
read_ok j volume size disk areas image list read is said laid long = (
  laid.older,
  laid.newer,
  subst (λ (v : JournalView). StandsFor v image laid.older laid.newer) (sym is) (stands_read volume size disk j.spare areas image list laid long),
  said ∙ ap (λ (l : List (ℕ × List ℕ)). Ok l) (laid.listed ∙ ap (λ (v : JournalView). entries v laid.older laid.newer) (sym is)),
)

-- ---- its invariant

empty_pending : pending_in 0 (replicate 16 0) ≡ []
unfolding pending_in entries_in
empty_pending = refl

empty_entries : entries_in 0 (body_in (replicate 16 0)) ≡ Some (pending_in 0 (replicate 16 0))
unfolding pending_in entries_in
empty_entries = refl

-- a batch with no entries has none
pub none_pending : (items : List ℕ) → items ≡ replicate 16 0 → pending_in 0 items ≡ []
none_pending items is = ap (λ (l : List ℕ). pending_in 0 l) is ∙ empty_pending

pub none_framed : (items : List ℕ) → items ≡ replicate 16 0
    → (16 ≤ length items) × (is_open (length items - 1) items ≡ false) × (entries_in 0 (body_in items) ≡ Some (pending_in 0 items))
none_framed items is =
    subst (λ (l : List ℕ). (16 ≤ length l) × (is_open (length l - 1) l ≡ false) × (entries_in 0 (body_in l) ≡ Some (pending_in 0 l))) (sym is) (omega arith, refl, empty_entries)

no_pending : (size : ℕ) (newer : Option OpenArea) → IfSome newer (IsOpenArea size) → ArePending size newer []
no_pending size None known = refl
no_pending size (Some a) known = (omega (arith, known.number), omega (arith, known.within))

pub is_journal : (volume size disk spare : ℕ) (areas : Areas) (pending : List (List ℕ)) → pending ≡ [] → min_journal_area ≤ size → size ≤ max_journal_area → 2 * size ≤ disk → AreKnown size areas
    → IsJournal (record { volume = volume; size = size; disk = disk; older = areas.older; newer = areas.newer; pending = pending; spare = spare; down = false })
is_journal volume size disk spare areas pending none least most fits known =
    subst (λ (l : List (List ℕ)). IsJournal (record { volume = volume; size = size; disk = disk; older = areas.older; newer = areas.newer; pending = l; spare = spare; down = false })) (sym none) (record {
      least = least;
      most = most;
      fits = fits;
      older = known.older;
      newer = known.newer;
      in_order = known.in_order;
      framed = tt;
      pending = no_pending size areas.newer known.newer;
    })

-- ---- faults

-- an answer that the image is foreign says so
pub said_foreign : {T X : Type 0} (result : Result T JournalFault) (at : ℕ) (read : Read X) (R : T → X → Type 0) → result ≡ Err (Foreign at) → Says result read R → read ≡ Err at
said_foreign {T} result at read R is says = subst (λ (r : Result T JournalFault). Says r read R) is says

failed_is : {T : Type 0} (result : Result T JournalFault) → IsTrue (is_disk_fault result) → result ≡ Err DiskFault
failed_is (Ok x) fails = absurd (false≢true fails)
failed_is (Err DiskFault) fails = refl
failed_is (Err Memory) fails = absurd (false≢true fails)
failed_is (Err (Foreign at)) fails = absurd (false≢true fails)

same_fault : (U : Type 0) (e : JournalFault) → (let r : Result U JournalFault = Err e in r ≡ Err DiskFault) → e ≡ DiskFault
same_fault U e f = cc

-- a count that rises where the disk failed, by an answer that hands the fault on
pub cause_handed : (T : Type 0) {U : Type 0} (result : Result U JournalFault) (x e : JournalFault) (a b : ℕ) → result ≡ Err x → x ≡ e → Counts a b (IsTrue (is_disk_fault {T = T} (Err e)))
    → Counts a b (result ≡ Err DiskFault)
cause_handed T {U} result x e a b is same counts =
    let handed : result ≡ Err e = is ∙ ap (λ (y : JournalFault). Err y) same in
    let was : Result T JournalFault = Err e in
    counts_weaker a b counts (λ fails. let f : was ≡ Err DiskFault = failed_is was fails in let d : e ≡ DiskFault = cc in handed ∙ ap (λ (y : JournalFault). Err y) d)
    (λ fails. let f : Err e ≡ Err DiskFault = sym handed ∙ fails in let d : e ≡ DiskFault = same_fault U e f in subst (λ (y : JournalFault). IsTrue (is_disk_fault {T = T} (Err y))) (sym d) refl)

-- and one that does not rise
pub cause_none : {U : Type 0} (x : U) (a b : ℕ) → Counts a b (IsTrue false) → Counts a b (Ok x ≡ Err DiskFault)
cause_none x a b counts = counts_weaker a b counts (λ f. absurd (false≢true f)) (λ e. absurd cc)
