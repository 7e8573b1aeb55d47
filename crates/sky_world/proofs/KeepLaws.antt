-- Laws of what a call does to what is kept: how the mark and the journal move, and what the disk then has.
use Rattle.std.specs.Prelude.{IsSome, cond, ◌&&◌, ◌||◌, ◌==◌, drop, if◌then◌else◌}
use Rattle.std.specs.Option.{option_map}
use Rattle.std.proofs.Common.{◌≡◌, ◌⊎◌, ℕ, ◌+◌, ◌-◌, ◌≤◌, Bool, true, false, Option, Some, None, List, [], ◌∷◌, ◌++◌, map, take, length, inl, inr, ⊎_elim, refl, sym, ap, subst, ◌∙◌, arith, append_assoc}
use Rattle.std.proofs.lemmas.Bool.{ne_eqb}
use Rattle.std.proofs.lemmas.List.Sums.{sum_by_push}
use Rattle.std.proofs.lemmas.List.{append-nil, length-append, length-drop, length-map, length-take, map-append, take_all, drop_all, take-append-drop, drop-append-le}
use Rattle.sky_calls.specs.Durable.{journal_after}
use Rattle.sky_journal.specs.Lasting.{HoldsMore, LeavesOldOrMore}
use Rattle.sky_entry.specs.Entry.{entry_bytes}
use Rattle.sky_journal.specs.Journal.{JournalView, IsJournal, StandsFor, StandsOn, ReadsEntries, SameButSpare, after_commit, area_with, base_in, batch_size, bytes_of, numbered_in, entries, first_base, last_of, number_behind, room_in, room_of, wanted_of}
use Rattle.sky_base.specs.Limits.{max_number}
use Rattle.sky_journal.specs.Layout.{batch_header}
use Rattle.sky_journal.specs.Text.{numbered}
use Rattle.sky_journal.specs.declared.open_area.OpenArea.{OpenArea}
use Rattle.sky_nfs.specs.History.{IsLegalHistory, history_length}
use Rattle.sky_nfs.specs.Tree.{Tree}
use Rattle.sky_nfs.specs.declared.call.Change.{Change}
use Rattle.sky_outside.specs.Moments.{BesideObjects, LeavesOnly, SameCloud}
use Rattle.sky_outside.specs.Told.{BothTold, WhereTold}
use Rattle.sky_outside.specs.declared.storage.Storage.{Ghosts}
use Rattle.sky_outside.proofs.ToldLaws.{WhereTold-at, WhereTold-from}
use Rattle.sky_sound.specs.Cloud.{epoch_after}
use Rattle.sky_sound.specs.Invariant.{AreStorable, CloudHas, DiskHas, Invariant, entries_behind, entries_between, entries_to}
use Rattle.sky_sound.specs.Kept.{AreaState, JournalState, Kept, area_state, batch_bytes, filled_to, journal_state, room_behind, room_left, room_wanted, stored_to, with_waiting}
use Rattle.sky_world.specs.Disk.{HoldsPrefix, LeavesPrefix, ReadsTo, WentOn}
use Rattle.sky_world.specs.Meaning.{with_change}
use Rattle.sky_world.proofs.DiskLaws.{Extends, as_kept, cloud_on, entries_to_same, extends_same, longer, prefix_on, prefix_read, size_is, storable_to}

-- ---- how what is kept moves

-- What is kept, by one journal, moves on to what is kept later, by another, and brings these entries to the disk.
pub record Moves (kept : Kept) (j : JournalView) (later : Kept) (k : JournalView) (brought : List (List ℕ)) : Type 0 where
  pub extends : Extends kept later
  pub mark : kept.mark ≤ later.mark
  pub marked : later.mark ≡ later.stored
  pub grows : kept.stored ≤ later.stored
  pub most : later.stored ≤ history_length later.history
  pub pending : k.pending ≡ entries_behind later.history later.stored
  pub stored : number_behind k.newer 0 ≡ later.stored
  pub volume : k.volume ≡ j.volume
  pub base : first_base k ≡ first_base j
  pub same : (older newer : List (List ℕ)) → entries k older newer ≡ entries j older newer
  pub comes : entries_to later.history later.stored ≡ entries_to kept.history kept.stored ++ brought
  pub kept_is : journal_state k ≡ later.journal

-- how much memory the journal has does not matter
pub moves_spare : (kept : Kept) (j : JournalView) (later : Kept) (k new : JournalView) (brought : List (List ℕ)) → SameButSpare k new → Moves kept j later k brought → Moves kept j later new brought
moves_spare kept j later k new brought same m =
    let x : ℕ = new.spare in
    let but : JournalView = record k { spare = x } in
    let there : Moves kept j later but brought = record {
      extends = m.extends;
      mark = m.mark;
      marked = m.marked;
      grows = m.grows;
      most = m.most;
      pending = m.pending;
      stored = m.stored;
      volume = m.volume;
      base = m.base;
      same = m.same;
      comes = m.comes;
      kept_is = m.kept_is;
    } in
    subst (λ (v : JournalView). Moves kept j later v brought) (sym same) there

-- what is kept after a call, by whether it is a change that is done, whether that is stable, and whether it makes all stable
abbrev pub kept_by : Bool → Bool → Bool → Kept → Change → Kept
kept_by done stable makes kept change =
    let history = cond done (with_change kept.history change) kept.history in
    let waits = cond done (with_waiting (length (entry_bytes change)) kept.journal) kept.journal in
    record {
      history = history;
      mark = cond (done && stable || makes) (history_length history) kept.mark;
      stored = cond (done && stable || makes) (history_length history) kept.stored;
      completed = kept.completed;
      journal = cond (done && stable || makes) (stored_to (history_length history) waits) waits;
    }

-- the journal after it
abbrev pub journal_by : Bool → Bool → Bool → JournalView → Change → JournalView
journal_by done stable makes j change = cond done (journal_after stable j (entry_bytes change)) (cond makes (after_commit j) j)

abbrev pub brought_by : Bool → Bool → Bool → JournalView → Change → List (List ℕ)
brought_by done stable makes journal change =
    cond done (cond stable (journal.pending ++ entry_bytes change ∷ []) []) (cond makes journal.pending [])

-- areas with more entries have the same base
base_same : (more : List (List ℕ)) (o n : Option OpenArea) → base_in o (option_map (area_with more) n) ≡ base_in o n
base_same more None None = refl
base_same more None (Some a) = refl
base_same more (Some b) None = refl
base_same more (Some b) (Some a) = refl

numbered_same : (more : List (List ℕ)) (n : Option OpenArea) (es : List (List ℕ)) → numbered_in (option_map (area_with more) n) es ≡ numbered_in n es
numbered_same more None es = refl
numbered_same more (Some a) es = refl

stored_more : (more : List (List ℕ)) (n : Option OpenArea) → IsSome n → number_behind (option_map (area_with more) n) 0 ≡ number_behind n 0 + length more
stored_more more (Some a) some = omega arith
stored_more more None some = absurd cc

-- ---- what is kept of the journal

bytes_more : (es : List (List ℕ)) (e : List ℕ) → bytes_of (es ++ e ∷ []) ≡ bytes_of es + length e
bytes_more es e = sum_by_push (λ (x : List ℕ). length x) es e

-- a batch is as large as the bytes and the number of its entries say
batch_is : (more : List (List ℕ)) → batch_size more ≡ batch_bytes (length more) (bytes_of more)
batch_is [] = refl
batch_is (e ∷ es) =
    let some : (length (e ∷ es) == 0) ≡ false = ne_eqb _ _ (λ x. omega (arith, x)) in
    ap (λ (b : Bool). cond b 0 (batch_header + bytes_of (e ∷ es))) (sym some)

area_is : (a : OpenArea) (more : List (List ℕ)) (number : ℕ) → a.last + length more ≡ number → area_state (area_with more a) ≡ filled_to number (bytes_of more) (area_state a)
area_is a more number e =
    let count : length more ≡ number - a.last = omega (arith, e) in
    let end : a.end + batch_size more ≡ a.end + batch_bytes (number - a.last) (bytes_of more) =
    ap (λ (n : ℕ). a.end + n) (batch_is more) ∙ ap (λ (n : ℕ). a.end + batch_bytes n (bytes_of more)) count in
    λ i. record { base = a.base; last = e i; end = end i }

-- an area with entries that were brought there
filled_is : (n : Option OpenArea) (more : List (List ℕ)) (number : ℕ) → IsSome n → number_behind n 0 + length more ≡ number
    → option_map area_state (option_map (area_with more) n) ≡ option_map (filled_to number (bytes_of more)) (option_map area_state n)
filled_is None more number some e = absurd cc
filled_is (Some a) more number some e = ap (λ (x : AreaState). let o : Option AreaState = Some x in o) (area_is a more number (omega (arith, e)))

module _ (b m : ℕ) (cs : List Change) (least : b ≤ m) (most : m ≤ b + length cs) where
  -- all changes are those up to the mark, and those behind it
  all_parts : map entry_bytes cs ≡ map entry_bytes (take (m - b) cs) ++ map entry_bytes (drop (m - b) cs)
  all_parts = ap (λ (x : List Change). map entry_bytes x) (sym (take-append-drop (m - b) cs)) ∙ map-append entry_bytes (take (m - b) cs) (drop (m - b) cs)

  whole : (xs : List Change) → take (b + length xs - b) xs ≡ xs
  whole xs = take_all (b + length xs - b) xs (omega arith)

  pub none_behind : (xs : List Change) → drop (b + length xs - b) xs ≡ []
  none_behind xs = drop_all (b + length xs - b) xs (omega arith)

  pub behind_length : length (map entry_bytes (drop (m - b) cs)) ≡ b + length cs - m
  behind_length = omega (arith, length-map (drop (m - b) cs) entry_bytes, length-drop (m - b) cs)

  -- a change more
  more_parts : (c : Change) → map entry_bytes (take (b + length (cs ++ c ∷ []) - b) (cs ++ c ∷ [])) ≡ map entry_bytes (take (m - b) cs) ++ (map entry_bytes (drop (m - b) cs) ++ entry_bytes c ∷ [])
  more_parts c =
      ap (λ (x : List Change). map entry_bytes x) (whole (cs ++ c ∷ [])) ∙ map-append entry_bytes cs (c ∷ []) ∙ ap (λ (x : List (List ℕ)). x ++ entry_bytes c ∷ []) all_parts
      ∙ append_assoc (map entry_bytes (take (m - b) cs)) (map entry_bytes (drop (m - b) cs)) (entry_bytes c ∷ [])

  pub one_behind : (c : Change) → map entry_bytes (drop (m - b) (cs ++ c ∷ [])) ≡ map entry_bytes (drop (m - b) cs) ++ entry_bytes c ∷ []
  one_behind c = ap (λ (x : List Change). map entry_bytes x) (drop-append-le (m - b) cs (c ∷ []) (omega arith)) ∙ map-append entry_bytes (drop (m - b) cs) (c ∷ [])

last_more : (n : Option OpenArea) (k : ℕ) → IsSome n → number_behind n k ≡ number_behind n 0 + k
last_more (Some a) k some = omega arith
last_more None k some = absurd cc

module _ {S : Type 0} (g : Ghosts S) (epoch : ℕ) (kept : Kept) (j : JournalView) (d : S) (on : Invariant g epoch kept j d) where
  least_stored : kept.history.before ≤ kept.stored
  least_stored = omega (arith, on.begins, on.completed)

  -- as many entries wait as there are changes that are not stored
  pub waiting_is : length j.pending ≡ history_length kept.history - kept.stored
  waiting_is = ap (λ (x : List (List ℕ)). length x) on.waits ∙ behind_length kept.history.before kept.stored kept.history.changes least_stored on.stored

  -- the number of the last entry is the length of the history
  pub last_is : IsSome j.newer → last_of j ≡ history_length kept.history
  last_is some = omega (arith, last_more j.newer (length j.pending) some, on.last, waiting_is, on.stored)

  module _ (change : Change) (area : IsSome j.newer) where
    -- a stable change
    moves_stable : Moves kept j (kept_by true true false kept change) (journal_by true true false j change) (brought_by true true false j change)
    moves_stable =
        let h = kept.history in
        let more : List (List ℕ) = j.pending ++ entry_bytes change ∷ [] in
        let grown : length (h.changes ++ change ∷ []) ≡ length h.changes + 1 = length-append h.changes (change ∷ []) in
        let longer : length more ≡ length j.pending + 1 = length-append j.pending (entry_bytes change ∷ []) in
        let number : number_behind j.newer 0 + length more ≡ h.before + length (h.changes ++ change ∷ []) = omega (arith, on.last, longer, waiting_is, grown, on.stored) in
        let waiting : bytes_of more ≡ kept.journal.waiting + length (entry_bytes change) =
        bytes_more j.pending (entry_bytes change) ∙ ap (λ (x : JournalState). x.waiting + length (entry_bytes change)) on.journal_is in
        let newer : option_map area_state (option_map (area_with more) j.newer) ≡ option_map (filled_to (h.before + length (h.changes ++ change ∷ [])) (kept.journal.waiting + length (entry_bytes change))) kept.journal.newer =
        filled_is j.newer more (h.before + length (h.changes ++ change ∷ [])) area number
        ∙ ap (λ (n : ℕ). option_map (filled_to (h.before + length (h.changes ++ change ∷ [])) n) (option_map area_state j.newer)) waiting
        ∙ ap (λ (x : JournalState). option_map (filled_to (h.before + length (h.changes ++ change ∷ [])) (kept.journal.waiting + length (entry_bytes change))) x.newer) on.journal_is in
        record {
          extends = record { before = refl; tree = refl; more = change ∷ []; changes = refl; size = refl; completed = refl };
          mark = omega (arith, on.stored, on.marked, grown);
          marked = refl;
          grows = omega (arith, on.stored, grown);
          most = omega arith;
          pending = sym (ap (λ (x : List Change). map entry_bytes x) (none_behind h.before kept.stored h.changes least_stored on.stored (h.changes ++ change ∷ [])));
          stored = stored_more more j.newer area ∙ number;
          volume = refl;
          base = base_same more j.older j.newer;
          same = λ older newer. ap (λ (x : List (ℕ × List ℕ)). numbered_in j.older older ++ x) (numbered_same more j.newer newer);
          comes = more_parts h.before kept.stored h.changes least_stored on.stored change ∙ ap (λ (x : List (List ℕ)). entries_to h kept.stored ++ (x ++ entry_bytes change ∷ [])) (sym on.waits);
          kept_is = λ i. record { size = (on.journal_is i).size; older = (on.journal_is i).older; newer = newer i; waiting = 0 };
        }

    -- a WRITE whose data may wait
    moves_unstable : Moves kept j (kept_by true false false kept change) (journal_by true false false j change) (brought_by true false false j change)
    moves_unstable =
        let h = kept.history in
        let grown : length (h.changes ++ change ∷ []) ≡ length h.changes + 1 = length-append h.changes (change ∷ []) in
        let later : Kept = kept_by true false false kept change in
        let extends : Extends kept later = record { before = refl; tree = refl; more = change ∷ []; changes = refl; size = refl; completed = refl } in
        let waiting : bytes_of (j.pending ++ entry_bytes change ∷ []) ≡ kept.journal.waiting + length (entry_bytes change) =
        bytes_more j.pending (entry_bytes change) ∙ ap (λ (x : JournalState). x.waiting + length (entry_bytes change)) on.journal_is in
        record {
          extends = extends;
          mark = omega arith;
          marked = on.marked;
          grows = omega arith;
          most = omega (arith, on.stored, grown);
          pending = ap (λ (x : List (List ℕ)). x ++ entry_bytes change ∷ []) on.waits ∙ sym (one_behind h.before kept.stored h.changes least_stored on.stored change);
          stored = on.last;
          volume = refl;
          base = refl;
          same = λ older newer. refl;
          comes = entries_to_same kept later extends kept.stored on.stored ∙ sym (append-nil (entries_to h kept.stored));
          kept_is = λ i. record { size = (on.journal_is i).size; older = (on.journal_is i).older; newer = (on.journal_is i).newer; waiting = waiting i };
        }

    -- a COMMIT
    moves_committed : Moves kept j (kept_by false false true kept change) (journal_by false false true j change) (brought_by false false true j change)
    moves_committed =
        let h = kept.history in
        let number : number_behind j.newer 0 + length j.pending ≡ h.before + length h.changes = omega (arith, on.last, waiting_is, on.stored) in
        let newer : option_map area_state (option_map (area_with j.pending) j.newer) ≡ option_map (filled_to (h.before + length h.changes) kept.journal.waiting) kept.journal.newer =
        filled_is j.newer j.pending (h.before + length h.changes) area number
        ∙ ap (λ (x : JournalState). option_map (filled_to (h.before + length h.changes) x.waiting) x.newer) on.journal_is in
        record {
          extends = record { before = refl; tree = refl; more = []; changes = sym (append-nil h.changes); size = refl; completed = refl };
          mark = omega (arith, on.stored, on.marked);
          marked = refl;
          grows = on.stored;
          most = omega arith;
          pending = sym (ap (λ (x : List Change). map entry_bytes x) (none_behind h.before kept.stored h.changes least_stored on.stored h.changes));
          stored = stored_more j.pending j.newer area ∙ number;
          volume = refl;
          base = base_same j.pending j.older j.newer;
          same = λ older newer. ap (λ (x : List (ℕ × List ℕ)). numbered_in j.older older ++ x) (numbered_same j.pending j.newer newer);
          comes =
              ap (λ (x : List Change). map entry_bytes x) (whole h.before kept.stored h.changes least_stored on.stored h.changes) ∙ all_parts h.before kept.stored h.changes least_stored on.stored
              ∙ ap (λ (x : List (List ℕ)). entries_to h kept.stored ++ x) (sym on.waits);
          kept_is = λ i. record { size = (on.journal_is i).size; older = (on.journal_is i).older; newer = newer i; waiting = 0 };
        }

    -- another call
    moves_none : Moves kept j kept j []
    moves_none = record {
      extends = extends_same kept;
      mark = omega arith;
      marked = on.marked;
      grows = omega arith;
      most = on.stored;
      pending = on.waits;
      stored = on.last;
      volume = refl;
      base = refl;
      same = λ older newer. refl;
      comes = sym (append-nil (entries_to kept.history kept.stored));
      kept_is = on.journal_is;
    }

    pub moves_by : (done stable makes : Bool) → (done ≡ true → makes ≡ false) → Moves kept j (kept_by done stable makes kept change) (journal_by done stable makes j change) (brought_by done stable makes j change)
    moves_by true true false one = moves_stable
    moves_by true false false one = moves_unstable
    moves_by false stable true one = moves_committed
    moves_by false stable false one = moves_none
    moves_by true stable true one = absurd (let e : true ≡ false = one refl in cc)

-- ---- what the disk has then

module _ {S : Type 0} (g : Ghosts S) (epoch : ℕ) (s t : S) (kept : Kept) (j : JournalView) (later : Kept) (k : JournalView) (brought : List (List ℕ)) (moves : Moves kept j later k brought)
    (on : Invariant g epoch kept j s) (storable : AreStorable later.history.changes) where
  before_is : later.history.before ≡ kept.history.before
  before_is = moves.extends.before

  -- the entries with those that were brought
  between_more : (base : ℕ) → kept.history.before ≤ base → base ≤ kept.completed → entries_between later.history base later.stored ≡ entries_between kept.history base kept.stored ++ brought
  between_more base least most =
      let h = kept.history in
      let count : base - h.before ≤ length (entries_to h kept.stored) =
      omega (arith, length-map (take (kept.stored - h.before) h.changes) entry_bytes, length-take (kept.stored - h.before) h.changes, on.completed, on.stored, most, least) in
      ap (λ (b : ℕ). drop (base - b) (entries_to later.history later.stored)) before_is ∙ ap (λ (es : List (List ℕ)). drop (base - h.before) es) moves.comes
      ∙ drop-append-le (base - h.before) (entries_to h kept.stored) brought count

  -- over an image that has what is kept
  module _ (read : List ℕ) (has : DiskHas kept j read) where
    brought_list : (more : List (List ℕ)) → entries j has.older ((has.newer ++ brought) ++ more) ≡ numbered (first_base j) (entries_between later.history (first_base j) later.stored ++ more)
    brought_list more =
        let b = first_base j in
        ap (λ (x : List (List ℕ)). entries j has.older x) (append_assoc has.newer brought more) ∙ has.numbers (brought ++ more)
        ∙ ap (λ (x : List (List ℕ)). numbered b x) (sym (append_assoc (entries_between kept.history b kept.stored) brought more))
        ∙ ap (λ (x : List (List ℕ)). numbered b (x ++ more)) (sym (between_more b has.least has.most))

    -- what reads as the entries from before reads as the changes that were stored
    old_prefix : (image : List ℕ) → ReadsEntries j has.older has.newer image → ReadsTo kept kept.stored image
    old_prefix image is = prefix_read kept j read image on.volume (size_is g epoch kept j s on) has is

    -- and with those that were brought as those that are stored later
    new_prefix : (image : List ℕ) → ReadsEntries j has.older (has.newer ++ brought) image → ReadsTo later later.stored image
    new_prefix image is =
        let b = first_base j in
        let es = entries_between later.history b later.stored in
        let list : entries j has.older (has.newer ++ brought) ≡ numbered b es =
        ap (λ (n : List (List ℕ)). entries j has.older n) (sym (append-nil (has.newer ++ brought))) ∙ brought_list [] ∙ ap (λ (n : List (List ℕ)). numbered b n) (append-nil es) in
        record {
          base = b;
          least = omega (arith, has.least, before_is);
          most = omega (arith, has.most, moves.extends.completed);
          reads =
              as_kept j.volume later.history.tree.volume j.size later.journal.size b (entries j has.older (has.newer ++ brought)) (numbered b es) image
              (on.volume ∙ ap (λ (x : Tree). x.volume) (sym moves.extends.tree)) (size_is g epoch kept j s on ∙ sym moves.extends.size) list is;
        }

    prefix_of : (image : List ℕ) → ReadsEntries j has.older has.newer image ⊎ ReadsEntries j has.older (has.newer ++ brought) image → HoldsPrefix kept.mark later image
    prefix_of image (inl old) = record {
      n = kept.stored;
      least = omega (arith, on.marked);
      most = omega (arith, on.stored, longer kept later moves.extends);
      reads = prefix_on kept later moves.extends kept.stored image on.stored (old_prefix image old);
      storable = storable_to later kept.stored storable;
    }
    prefix_of image (inr new) = record {
      n = later.stored;
      least = omega (arith, on.marked, moves.grows);
      most = moves.most;
      reads = new_prefix image new;
      storable = storable_to later later.stored storable;
    }

  pub leaves_prefix : LeavesOldOrMore g s t j brought → LeavesPrefix g s t kept.mark later
  leaves_prefix leaves =
      WhereTold-from (g.image s) (λ read. LeavesOnly g s t (BesideObjects g s (HoldsPrefix kept.mark later)))
      (λ read is.
      let has = WhereTold-at (g.image s) (DiskHas kept j) read is on.disk in
      let l = WhereTold-at (g.image s) (λ r. (older newer : List (List ℕ)) → StandsFor j r older newer
      → LeavesOnly g s t (BesideObjects g s (λ left. ReadsEntries j older newer left ⊎ ReadsEntries j older (newer ++ brought) left))) read is leaves has.older has.newer has.laid in
      record {
        later = l.later;
        since = λ image objects left. let p = l.since image objects left in (prefix_of read has image p.0, p.1);
        before = λ u image objects le left. ⊎_elim inl (λ p. inr (prefix_of read has image p.0, p.1)) (l.before u image objects le left);
      })

  disk_at : (a b : Option (List ℕ)) (image : List ℕ) → b ≡ Some image → WhereTold a (DiskHas kept j)
      → BothTold (λ old new. (older newer : List (List ℕ)) → StandsFor j old older newer → StandsFor k new older (newer ++ brought)) a b
      → DiskHas later k image
  disk_at None None image e had both = absurd cc
  disk_at None (Some y) image e had both = absurd both
  disk_at (Some x) None image e had both = absurd both
  disk_at (Some x) (Some y) image e had both =
      let eq : y ≡ image = cc in
      record {
        older = had.older;
        newer = had.newer ++ brought;
        laid = subst (λ (i : List ℕ). StandsFor k i had.older (had.newer ++ brought)) eq (both had.older had.newer had.laid);
        least = omega (arith, had.least, moves.base, before_is);
        most = omega (arith, had.most, moves.base, moves.extends.completed);
        numbers = λ more. moves.same had.older ((had.newer ++ brought) ++ more) ∙ brought_list x had more
            ∙ ap (λ (b : ℕ). numbered b (entries_between later.history b later.stored ++ more)) (sym moves.base);
      }

  -- what holds between two steps holds of what is kept later
  pub invariant_on : IsLegalHistory later.history → IsJournal k → StandsOn g k t → HoldsMore g s t j k brought → SameCloud g s t → Invariant g epoch later k t
  invariant_on legal is stands holds beside = record {
    durable = stands.durable;
    legal = legal;
    storable = storable;
    is = is;
    volume = moves.volume ∙ on.volume ∙ ap (λ (x : Tree). x.volume) (sym moves.extends.tree);
    journal_is = moves.kept_is;
    begins = omega (arith, on.begins, before_is, moves.extends.completed);
    completed = omega (arith, on.completed, moves.extends.completed, moves.grows);
    marked = moves.marked;
    stored = moves.most;
    cloud =
        WhereTold-from (g.objects t) (CloudHas later)
        (λ objects held. cloud_on kept later moves.extends (omega (arith, on.completed, on.stored)) objects (WhereTold-at (g.objects s) (CloudHas kept) objects (sym beside.objects ∙ held) on.cloud));
    disk = WhereTold-from (g.image t) (DiskHas later k) (λ image told. disk_at (g.image s) (g.image t) image told on.disk holds);
    last = moves.stored;
    waits = moves.pending;
    epoch_is =
        WhereTold-from (g.objects t) (λ objects. epoch_after objects ≡ epoch + 1)
        (λ objects held. WhereTold-at (g.objects s) (λ o. epoch_after o ≡ epoch + 1) objects (sym beside.objects ∙ held) on.epoch_is);
  }

  tells_both : (a b : Option (List ℕ)) → BothTold (λ old new. (older newer : List (List ℕ)) → StandsFor j old older newer → StandsFor k new older (newer ++ brought)) a b
      → BothTold (λ old new. Unit {0}) a b
  tells_both None None both = tt
  tells_both None (Some y) both = absurd both
  tells_both (Some x) None both = absurd both
  tells_both (Some x) (Some y) both = tt

  pub went : LeavesOldOrMore g s t j brought → HoldsMore g s t j k brought → SameCloud g s t → WentOn g s t kept.mark later
  went leaves holds beside = record { leaves = leaves_prefix leaves; tells = tells_both (g.image s) (g.image t) holds; beside = beside }

-- ---- room

room_is : (size pending last : ℕ) (n : Option OpenArea) → (IsSome n → number_behind n 0 + pending ≡ last) → room_in size n pending ≡ room_behind size last (option_map area_state n)
room_is size pending last None count = refl
room_is size pending last (Some a) count = let same : a.last + pending ≡ last = omega (arith, count refl) in ap (λ (x : ℕ). if x + 1 == max_number then 0 else size - a.end) same

module _ {S : Type 0} (g : Ghosts S) (epoch : ℕ) (kept : Kept) (j : JournalView) (d : S) (on : Invariant g epoch kept j d) where
  -- the journal has as much room as is kept
  pub room_kept : room_of j ≡ room_left kept
  room_kept =
      room_is j.size (length j.pending) (history_length kept.history) j.newer (λ some. omega (arith, on.last, waiting_is g epoch kept j d on, on.stored))
      ∙ ap (λ (x : JournalState). room_behind x.size (history_length kept.history) x.newer) on.journal_is

  -- and wants as much
  pub wanted_kept : (entry : ℕ) → wanted_of j entry ≡ room_wanted kept entry
  wanted_kept entry = ap (λ (x : JournalState). batch_header + x.waiting + entry + 1) on.journal_is

-- ---- how much memory the journal has does not matter

module _ {S : Type 0} (g : Ghosts S) (epoch : ℕ) (kept : Kept) (j : JournalView) (s : S) (x : ℕ) where
  abbrev but : JournalView
  but = record j { spare = x }

  disk_spare : (image : List ℕ) → DiskHas kept j image → DiskHas kept but image
  disk_spare image has = record {
    older = has.older;
    newer = has.newer;
    laid = record { size = has.laid.size; older_is = has.laid.older_is; newer_is = has.laid.newer_is; others = has.laid.others };
    least = has.least;
    most = has.most;
    numbers = has.numbers;
  }

  pub invariant_but : Invariant g epoch kept j s → Invariant g epoch kept but s
  invariant_but on =
      let i = on.is in
      record {
        durable = on.durable;
        legal = on.legal;
        storable = on.storable;
        is = record { least = i.least; most = i.most; fits = i.fits; older = i.older; newer = i.newer; in_order = i.in_order; framed = i.framed; pending = i.pending };
        volume = on.volume;
        journal_is = on.journal_is;
        begins = on.begins;
        completed = on.completed;
        marked = on.marked;
        stored = on.stored;
        cloud = on.cloud;
        disk = WhereTold-from (g.image s) (DiskHas kept but) (λ image told. disk_spare image (WhereTold-at (g.image s) (DiskHas kept j) image told on.disk));
        last = on.last;
        waits = on.waits;
        epoch_is = on.epoch_is;
      }

pub invariant_spare : {S : Type 0} (g : Ghosts S) (epoch : ℕ) (kept : Kept) (j k : JournalView) (s : S) → SameButSpare j k → Invariant g epoch kept j s → Invariant g epoch kept k s
invariant_spare {S} g epoch kept j k s same on = subst (λ (v : JournalView). Invariant g epoch kept v s) (sym same) (invariant_but g epoch kept j s k.spare on)
