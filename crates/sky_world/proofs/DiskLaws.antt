-- Laws of what the journal's disk has: how prefixes of one history stay prefixes of it as it goes on, and how calls follow one another.
use Rattle.std.specs.Prelude.{drop}
use Rattle.std.proofs.Common.{◌≡◌, ℕ, ◌-◌, ◌≤◌, Option, Some, None, List, [], ◌++◌, map, take, length, refl, sym, ap, subst, ◌∙◌, arith, append_assoc, ⊎_elim, inl, inr}
use Rattle.std.proofs.lemmas.List.{append-nil, length-append, take-append-le}
use Rattle.sky_entry.specs.Entry.{entry_bytes}
use Rattle.sky_journal.specs.Journal.{JournalView, ReadsEntries, ReadsAs, entries, first_base}
use Rattle.sky_journal.specs.Text.{numbered}
use Rattle.sky_journal.proofs.Reading.{reads}
use Rattle.sky_nfs.specs.History.{history_length, tree_after_changes, tree_at_length}
use Rattle.sky_nfs.specs.Tree.{Tree}
use Rattle.sky_nfs.specs.Validity.{IsValidTree}
use Rattle.sky_nfs.specs.declared.call.Change.{Change}
use Rattle.sky_outside.specs.CloudMap.{CloudMap}
use Rattle.sky_outside.specs.Moments.{BesideObjects, LeavesOnly}
use Rattle.sky_outside.specs.Told.{BothTold}
use Rattle.sky_outside.specs.declared.storage.Storage.{Ghosts}
use Rattle.sky_outside.proofs.MomentLaws.{LeavesOnly-disk_start, LeavesOnly-disk_then, only_read}
use Rattle.sky_outside.proofs.ToldLaws.{WhereTold-at, WhereTold-from}
use Rattle.sky_sound.specs.Cloud.{cloud_tree}
use Rattle.sky_sound.specs.Entries.{IsStorable}
use Rattle.sky_sound.specs.Invariant.{AreStorable, CloudHas, DiskHas, Invariant, entries_between, entries_to}
use Rattle.sky_sound.specs.Kept.{Kept, JournalState}
use Rattle.sky_world.specs.Disk.{HoldsPrefix, LeavesPrefix, ReadsTo, WentOn}
use Rattle.sky_world.specs.Meaning.{cut_to}
use Rattle.sky_world.proofs.StorableLaws.{all_take}

-- ---- what is kept goes on

-- What is kept later goes on from what is kept now: further changes behind the same ones, of the same beginning, in a journal with areas of the same
-- size; and no more are completed.
pub record Extends (kept later : Kept) : Type 0 where
  pub before : later.history.before ≡ kept.history.before
  pub tree : later.history.tree ≡ kept.history.tree
  pub more : List Change
  pub changes : later.history.changes ≡ kept.history.changes ++ more
  pub size : later.journal.size ≡ kept.journal.size
  pub completed : later.completed ≡ kept.completed

pub extends_same : (kept : Kept) → Extends kept kept
extends_same kept = record { before = refl; tree = refl; more = []; changes = sym (append-nil kept.history.changes); size = refl; completed = refl }

pub extends_then : (a b c : Kept) → Extends a b → Extends b c → Extends a c
extends_then a b c x y = record {
  before = y.before ∙ x.before;
  tree = y.tree ∙ x.tree;
  more = x.more ++ y.more;
  changes = y.changes ∙ ap (λ (cs : List Change). cs ++ y.more) x.changes ∙ append_assoc a.history.changes x.more y.more;
  size = y.size ∙ x.size;
  completed = y.completed ∙ x.completed;
}

-- the first changes stay the same
pub changes_to_same : (kept later : Kept) → (x : Extends kept later) → (n : ℕ) → n ≤ history_length kept.history → (cut_to n later.history).changes ≡ (cut_to n kept.history).changes
changes_to_same kept later x n le =
    ap (λ (b : ℕ). take (n - b) later.history.changes) x.before
    ∙ ap (λ (cs : List Change). take (n - kept.history.before) cs) x.changes
    ∙ take-append-le (n - kept.history.before) kept.history.changes x.more (omega arith)

-- and so do their entries
pub entries_to_same : (kept later : Kept) → (x : Extends kept later) → (n : ℕ) → n ≤ history_length kept.history → entries_to later.history n ≡ entries_to kept.history n
entries_to_same kept later x n le = ap (λ (cs : List Change). map entry_bytes cs) (changes_to_same kept later x n le)

pub entries_between_same : (kept later : Kept) → (x : Extends kept later) → (base n : ℕ) → n ≤ history_length kept.history → entries_between later.history base n ≡ entries_between kept.history base n
entries_between_same kept later x base n le =
    ap (λ (b : ℕ). drop (base - b) (entries_to later.history n)) x.before ∙ ap (λ (es : List (List ℕ)). drop (base - kept.history.before) es) (entries_to_same kept later x n le)

-- and the tree that they lead to
pub tree_same : (kept later : Kept) → (x : Extends kept later) → (n : ℕ) → n ≤ history_length kept.history → tree_at_length later.history n ≡ tree_at_length kept.history n
tree_same kept later x n le =
    ap (λ (t : Tree). tree_after_changes t (cut_to n later.history).changes) x.tree ∙ ap (λ (cs : List Change). tree_after_changes kept.history.tree cs) (changes_to_same kept later x n le)

-- a history does not get shorter
pub longer : (kept later : Kept) → Extends kept later → history_length kept.history ≤ history_length later.history
longer kept later x =
    let e : length later.history.changes ≡ length (kept.history.changes ++ x.more) = ap (λ (cs : List Change). length cs) x.changes in
    omega (arith, e, x.before, length-append kept.history.changes x.more)

-- ---- what reads so, by what is known of its parts

pub as_kept : (v w a c base : ℕ) (l m : List (ℕ × List ℕ)) (image : List ℕ) → v ≡ w → a ≡ c → l ≡ m → ReadsAs v a base l image → ReadsAs w c base m image
as_kept v w a c base l m image volume size list is =
    subst (λ (x : ℕ). ReadsAs x c base m image) volume (subst (λ (x : ℕ). ReadsAs v x base m image) size (subst (λ (x : List (ℕ × List ℕ)). ReadsAs v a base x image) list is))

pub prefix_on : (kept later : Kept) → Extends kept later → (n : ℕ) (image : List ℕ) → n ≤ history_length kept.history → ReadsTo kept n image → ReadsTo later n image
prefix_on kept later x n image le r = record {
  base = r.base;
  least = omega (arith, r.least, x.before);
  most = omega (arith, r.most, x.completed);
  reads =
      as_kept kept.history.tree.volume later.history.tree.volume kept.journal.size later.journal.size r.base (numbered r.base (entries_between kept.history r.base n)) (numbered r.base (entries_between later.history r.base n)) image
      (ap (λ (t : Tree). t.volume) (sym x.tree)) (sym x.size) (ap (λ (es : List (List ℕ)). numbered r.base es) (sym (entries_between_same kept later x r.base n le))) r.reads;
}

pub holds_on : (kept later : Kept) → Extends kept later → (floor least : ℕ) (image : List ℕ) → least ≤ floor → HoldsPrefix floor kept image → HoldsPrefix least later image
holds_on kept later x floor least image le h = record {
  n = h.n;
  least = omega (arith, le, h.least, x.completed);
  most = omega (arith, h.most, longer kept later x);
  reads = prefix_on kept later x h.n image h.most h.reads;
  storable = subst AreStorable (sym (changes_to_same kept later x h.n h.most)) h.storable;
}

-- the changes up to a number, where each can be read
pub storable_to : (kept : Kept) (n : ℕ) → AreStorable kept.history.changes → AreStorable (cut_to n kept.history).changes
storable_to kept n all = all_take IsStorable (n - kept.history.before) kept.history.changes all

-- a cloud has the same of a history that goes on
pub cloud_on : (kept later : Kept) → Extends kept later → kept.completed ≤ history_length kept.history → (objects : CloudMap) → CloudHas kept objects → CloudHas later objects
cloud_on kept later x le objects has =
    let same : tree_at_length later.history later.completed ≡ tree_at_length kept.history kept.completed =
    ap (λ (n : ℕ). tree_at_length later.history n) x.completed ∙ tree_same kept later x kept.completed le in
    record {
      no_checkpoint = has.no_checkpoint;
      covers = has.covers ∙ sym x.completed;
      tree = ap (λ (t : Tree). cloud_tree t.volume objects) x.tree ∙ has.tree ∙ sym same;
      valid = subst (λ (t : Tree). IsValidTree t) (sym same) has.valid;
    }

-- ---- calls one after the other

pub told_both : {A : Type 0} (a b : Option A) (x : A) → BothTold (λ old new. Unit {0}) a b → a ≡ Some x → (y : A) × (b ≡ Some y)
told_both None None x both e = absurd cc
told_both None (Some y) x both e = absurd both
told_both (Some w) None x both e = absurd both
told_both (Some w) (Some y) x both e = (y, refl)

pub both_same : {A : Type 0} (a : Option A) → BothTold (λ old new. Unit {0}) a a
both_same None = tt
both_same (Some x) = tt

pub both_then : {A : Type 0} (a b c : Option A) → BothTold (λ old new. Unit {0}) a b → BothTold (λ old new. Unit {0}) b c → BothTold (λ old new. Unit {0}) a c
both_then None None c p q = q
both_then None (Some y) c p q = absurd p
both_then (Some x) None c p q = absurd p
both_then (Some x) (Some y) None p q = absurd q
both_then (Some x) (Some y) (Some z) p q = tt

-- ---- what the disk has now

-- what reads as the entries that the journal has reads as the changes that are stored
pub prefix_read : (kept : Kept) (j : JournalView) (image left : List ℕ) → j.volume ≡ kept.history.tree.volume → j.size ≡ kept.journal.size → (has : DiskHas kept j image) → ReadsEntries j has.older has.newer left → ReadsTo kept kept.stored left
prefix_read kept j image left volume size has read =
    let b = first_base j in
    let list : entries j has.older has.newer ≡ numbered b (entries_between kept.history b kept.stored) =
    ap (λ (n : List (List ℕ)). entries j has.older n) (sym (append-nil has.newer)) ∙ has.numbers [] ∙ ap (λ (n : List (List ℕ)). numbered b n) (append-nil (entries_between kept.history b kept.stored)) in
    record {
      base = b;
      least = has.least;
      most = has.most;
      reads = as_kept j.volume kept.history.tree.volume j.size kept.journal.size b (entries j has.older has.newer) (numbered b (entries_between kept.history b kept.stored)) left volume size list read;
    }

module _ {S : Type 0} (g : Ghosts S) (epoch : ℕ) (kept : Kept) (j : JournalView) (s : S) (on : Invariant g epoch kept j s) where
  pub size_is : j.size ≡ kept.journal.size
  size_is = ap (λ (x : JournalState). x.size) on.journal_is

  pub read_has : (read : List ℕ) → g.image s ≡ Some read → DiskHas kept j read
  read_has read is = WhereTold-at (g.image s) (DiskHas kept j) read is on.disk

  pub read_is_prefix : (read : List ℕ) → g.image s ≡ Some read → ReadsTo kept kept.stored read
  read_is_prefix read is =
      let has = read_has read is in
      prefix_read kept j read read on.volume size_is has (reads j read has.older has.newer on.is has.laid)

  -- the changes that are stored
  pub holds_read : (read : List ℕ) → g.image s ≡ Some read → HoldsPrefix kept.mark kept read
  holds_read read is = record {
    n = kept.stored;
    least = omega (arith, on.marked);
    most = on.stored;
    reads = read_is_prefix read is;
    storable = storable_to kept kept.stored on.storable;
  }

  -- no call yet
  pub went_nowhere : WentOn g s s kept.mark kept
  went_nowhere = record {
    leaves =
        WhereTold-from (g.image s) (λ read. LeavesOnly g s s (BesideObjects g s (HoldsPrefix kept.mark kept)))
        (λ read is. LeavesOnly-disk_start g s (HoldsPrefix kept.mark kept)
        (λ image left. subst (λ (i : List ℕ). HoldsPrefix kept.mark kept i) (sym (only_read g s read is on.durable image left)) (holds_read read is)));
    tells = both_same (g.image s);
    beside = record { objects = refl; standing = refl };
  }

-- ---- calls one after the other

module _ {S : Type 0} (g : Ghosts S) where
  -- it holds for what is kept later, and for a mark that is lower
  pub leaves_on : (s t : S) (mark least : ℕ) (kept later : Kept) → least ≤ mark → Extends kept later → LeavesPrefix g s t mark kept → LeavesPrefix g s t least later
  leaves_on s t mark least kept later le x leaves =
      WhereTold-from (g.image s) (λ read. LeavesOnly g s t (BesideObjects g s (HoldsPrefix least later)))
      (λ read is. let l = WhereTold-at (g.image s) (λ r. LeavesOnly g s t (BesideObjects g s (HoldsPrefix mark kept))) read is leaves in
      record {
        later = l.later;
        since = λ image objects left. let p = l.since image objects left in (holds_on kept later x mark least image le p.0, p.1);
        before = λ u image objects le_u left. ⊎_elim inl (λ p. inr (holds_on kept later x mark least image le p.0, p.1)) (l.before u image objects le_u left);
      })

  pub leaves_then : (s t u : S) (mark high : ℕ) (kept later : Kept) → mark ≤ high → Extends kept later → WentOn g s t mark kept → LeavesPrefix g t u high later → LeavesPrefix g s u mark later
  leaves_then s t u mark high kept later le x first second =
      WhereTold-from (g.image s) (λ read. LeavesOnly g s u (BesideObjects g s (HoldsPrefix mark later)))
      (λ read is.
      let there = told_both (g.image s) (g.image t) read first.tells is in
      LeavesOnly-disk_then g s t u (HoldsPrefix mark kept) (HoldsPrefix high later) (HoldsPrefix mark later) first.beside
      (WhereTold-at (g.image s) (λ r. LeavesOnly g s t (BesideObjects g s (HoldsPrefix mark kept))) read is first.leaves)
      (WhereTold-at (g.image t) (λ r. LeavesOnly g t u (BesideObjects g t (HoldsPrefix high later))) there.0 there.1 second)
      (λ image p. holds_on kept later x mark mark image (omega arith) p) (λ image p. holds_on later later (extends_same later) high mark image le p))

  pub went_then : (s t u : S) (mark high : ℕ) (kept later : Kept) → mark ≤ high → Extends kept later → WentOn g s t mark kept → WentOn g t u high later → WentOn g s u mark later
  went_then s t u mark high kept later le x first second = record {
    leaves = leaves_then s t u mark high kept later le x first second.leaves;
    tells = both_then (g.image s) (g.image t) (g.image u) first.tells second.tells;
    beside = record { objects = second.beside.objects ∙ first.beside.objects; standing = second.beside.standing ∙ first.beside.standing };
  }

  pub went_on : (s t : S) (mark least : ℕ) (kept later : Kept) → least ≤ mark → Extends kept later → WentOn g s t mark kept → WentOn g s t least later
  went_on s t mark least kept later le x first = record {
    leaves = leaves_on s t mark least kept later le x first.leaves;
    tells = first.tells;
    beside = first.beside;
  }
