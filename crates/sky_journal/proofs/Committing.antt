-- A commit, by the fields of a journal.
use Rattle.std.proofs.Common.{◌≡◌, ◌+◌, ◌-◌, Bool, true, false, ℕ, List, [], ◌∷◌, length, take, drop, Option, Some, None, Vec, vec_len, vec_capacity, arith, refl, ap, sym, subst, ◌∙◌}
use Rattle.std.specs.Option.{option_map}
use Rattle.std.specs.declared.alloc.Global.{Global}
use Rattle.sky_journal.specs.Layout.{is_open}
use Rattle.sky_journal.specs.Pending.{body_in, pending_in, or_none}
use Rattle.sky_journal.specs.Text.{entries_in}
use Rattle.sky_journal.specs.Written.{IsBehindBatchGate}
use Rattle.sky_journal.specs.Journal.{JournalView, IsJournal, ArePending, batch_size, area_with, after_commit}
use Rattle.sky_journal.specs.contracts.journal.Journal.{the_view, the_invariant}
use Rattle.sky_journal.specs.declared.journal.Journal.TheInside.{Inside}
use Rattle.sky_journal.specs.declared.open_area.OpenArea.{OpenArea}
use Rattle.sky_journal.proofs.Inside.{pending_known}
use Rattle.sky_journal.proofs.Journals.{IsJournal-but}

-- ---- the fields

-- a batch in which other bytes stand before the entries has the same entries
pub same_pending : (count : ℕ) (old new : List ℕ) → body_in new ≡ body_in old → pending_in count new ≡ pending_in count old
unfolding pending_in
same_pending count old new same = ap (λ (l : List ℕ). or_none (entries_in count l)) same

-- the journal while a call of its disk is under way
pub busy_view : (j : Inside) (batch : Vec ℕ Global) → body_in batch.items ≡ body_in j.batch.items
    → the_view (record j { down = true; batch = batch }) ≡ record (the_view j) { spare = vec_capacity batch - vec_len batch; down = true }
busy_view j batch same = ap (λ (l : List (List ℕ)). record (the_view j) { pending = l; spare = vec_capacity batch - vec_len batch; down = true }) (same_pending j.count j.batch.items batch.items same)

pub busy_invariant : (j : Inside) (batch : Vec ℕ Global) → the_invariant j → body_in batch.items ≡ body_in j.batch.items → length batch.items ≡ length j.batch.items
    → is_open (length batch.items - 1) batch.items ≡ false → the_invariant (record j { down = true; batch = batch })
busy_invariant j batch inv same long closed = (
  subst IsJournal (sym (busy_view j batch same)) (IsJournal-but (the_view j) (vec_capacity batch - vec_len batch) true inv.0),
  omega (arith, long, inv.1),
  closed,
  ap (λ (l : List ℕ). entries_in j.count l) same ∙ inv.3 ∙ ap (λ (l : List (List ℕ)). Some l) (sym (same_pending j.count j.batch.items batch.items same)),
)

-- no pending entries
empty_body : (batch : List ℕ) → length batch ≡ 16 → body_in batch ≡ []
empty_body batch long = ap (λ (n : ℕ). take (n - 16) (drop 15 batch)) long

none_pending : (batch : List ℕ) → length batch ≡ 16 → pending_in 0 batch ≡ []
unfolding pending_in entries_in
none_pending batch long = ap (λ (l : List ℕ). or_none (entries_in 0 l)) (empty_body batch long)

none_kept : (batch : List ℕ) → length batch ≡ 16 → entries_in 0 (body_in batch) ≡ Some (pending_in 0 batch)
unfolding pending_in entries_in
none_kept batch long = ap (λ (l : List ℕ). entries_in 0 l) (empty_body batch long) ∙ ap (λ (l : List (List ℕ)). Some l) (sym (none_pending batch long))

-- the journal with these areas, and with nothing pending
abbrev pub settled : Inside → Option OpenArea → Option OpenArea → Vec ℕ Global → Inside
settled j older newer batch = record j { older = older; newer = newer; count = 0; batch = batch; down = false }

pub settled_view : (j : Inside) (older newer : Option OpenArea) (batch : Vec ℕ Global) → length batch.items ≡ 16
    → the_view (settled j older newer batch) ≡ record (the_view j) { older = older; newer = newer; pending = []; spare = vec_capacity batch - vec_len batch; down = false }
settled_view j older newer batch long =
    ap (λ (l : List (List ℕ)). record (the_view j) { older = older; newer = newer; pending = l; spare = vec_capacity batch - vec_len batch; down = false }) (none_pending batch.items long)

pub settled_invariant : (j : Inside) (older newer : Option OpenArea) (batch : Vec ℕ Global) → length batch.items ≡ 16 → is_open 15 batch.items ≡ false
    → IsJournal (the_view (settled j older newer batch)) → the_invariant (settled j older newer batch)
settled_invariant j older newer batch long closed is = (
  is,
  omega (arith, long),
  ap (λ (n : ℕ). is_open (n - 1) batch.items) long ∙ closed,
  none_kept batch.items long,
)

-- what was written behind the gate has the pending entries
pub behind_known : (j : Inside) (v : JournalView) → the_view j ≡ v → (bytes batch : List ℕ) → bytes ≡ batch → IsBehindBatchGate batch (the_view j).pending → IsBehindBatchGate bytes v.pending
behind_known j v is bytes batch same behind =
    subst (λ (l : List ℕ). IsBehindBatchGate l v.pending) (sym same) (subst (λ (v : JournalView). IsBehindBatchGate batch v.pending) is behind)

-- the newer area behind its batch
abbrev pub filled : OpenArea → ℕ → ℕ → OpenArea
filled a count size = record { start = a.start; base = a.base; last = a.last + count; end = a.end + size }

filled_is : (a : OpenArea) (pending : List (List ℕ)) (count size : ℕ) → length pending ≡ count → batch_size pending ≡ size → filled a count size ≡ area_with pending a
filled_is a pending count size counted long = ap (λ (n : ℕ). filled a n size) (sym counted) ∙ ap (λ (n : ℕ). filled a (length pending) n) (sym long)

-- the journal after a commit, by its fields
pub commit_view : (j : Inside) (v : JournalView) (a : OpenArea) (batch : Vec ℕ Global) (size : ℕ) → the_invariant j → the_view j ≡ v → v.newer ≡ Some a → v.down ≡ false
    → batch_size v.pending ≡ size → length batch.items ≡ 16
    → the_view (settled j j.older (Some (filled a j.count size)) batch) ≡ record (after_commit v) { spare = vec_capacity batch - vec_len batch }
commit_view j v a batch size inv is newer up long empty =
    let spare = vec_capacity batch - vec_len batch in
    let counted : length v.pending ≡ j.count = (pending_known j v inv is).0 in
    let area : Some (filled a j.count size) ≡ option_map (area_with v.pending) v.newer =
    ap (λ (b : OpenArea). Some b) (filled_is a v.pending j.count size counted long) ∙ ap (λ (o : Option OpenArea). option_map (area_with v.pending) o) (sym newer) in
    settled_view j j.older (Some (filled a j.count size)) batch empty
    ∙ ap (λ (w : JournalView). record w { newer = Some (filled a j.count size); pending = []; spare = spare; down = false }) is
    ∙ ap (λ (o : Option OpenArea). record v { newer = o; pending = []; spare = spare; down = false }) area
    ∙ ap (λ (b : Bool). record (after_commit v) { spare = spare; down = b }) (sym up)

no_entries : (entries : List (List ℕ)) → length entries ≡ 0 → entries ≡ []
no_entries [] long = refl
no_entries (e ∷ es) long = cc long

plus_none : (a : OpenArea) → a ≡ area_with [] a
plus_none a =
    let last : a.last ≡ a.last + 0 = omega arith in
    let end : a.end ≡ a.end + 0 = omega arith in
    ap (λ (n : ℕ). record a { last = n; end = a.end }) last ∙ ap (λ (n : ℕ). record a { last = a.last + 0; end = n }) end

area_same : (o : Option OpenArea) → o ≡ option_map (area_with []) o
area_same None = refl
area_same (Some a) = ap (λ (b : OpenArea). Some b) (plus_none a)

-- nothing is pending where no area is open, or where nothing is counted
pub nothing_pending : (j : Inside) (v : JournalView) → the_invariant j → the_view j ≡ v → j.newer ≡ None → v.pending ≡ []
nothing_pending j v inv is none =
    subst (λ (w : JournalView). w.pending ≡ []) is (subst (λ (o : Option OpenArea). ArePending j.size o (the_view j).pending) none inv.0.pending)

pub nothing_counted : (j : Inside) (v : JournalView) → the_invariant j → the_view j ≡ v → j.count ≡ 0 → v.pending ≡ []
nothing_counted j v inv is none = no_entries v.pending ((pending_known j v inv is).0 ∙ none)

-- the commit of nothing changes nothing
pub no_change : (v : JournalView) → v.pending ≡ [] → v ≡ record (after_commit v) { spare = v.spare }
no_change v none =
    let same : record v { pending = v.pending; newer = v.newer } ≡ record v { pending = []; newer = option_map (area_with v.pending) v.newer } =
    ap (λ (l : List (List ℕ)). record v { pending = l }) none
    ∙ ap (λ (o : Option OpenArea). record v { pending = []; newer = o }) (area_same v.newer ∙ ap (λ (l : List (List ℕ)). option_map (area_with l) v.newer) (sym none)) in
    same
