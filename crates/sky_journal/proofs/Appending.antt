-- A journal with a pending entry more.
use Rattle.std.proofs.Common.{◌≡◌, ◌+◌, ◌-◌, ◌<◌, ◌≤◌, ℕ, List, [], ◌∷◌, ◌++◌, length, Option, Some, ◌*◌, ◌^◌, ◌==◌, IfSome, take, Vec, vec_len, vec_capacity, false, ⊎_elim, arith, refl, ap, sym, subst, ◌∙◌, length-append}
use Rattle.std.proofs.Math.Nat.{eq-or-lt_of_le}
use Rattle.std.proofs.Math.Seq.{get_or-append_seam}
use Rattle.std.proofs.lemmas.List.{length_push, length-take-le}
use Rattle.std.proofs.lemmas.List.Sums.{sum_by-append, sum_by-cons}
use Rattle.sky_base.specs.Limits.{max_number}
use Rattle.std.specs.declared.alloc.Global.{Global}
use Rattle.sky_journal.specs.Layout.{is_open}
use Rattle.sky_journal.specs.Pending.{body_in, pending_in}
use Rattle.sky_journal.specs.Text.{entries_in}
use Rattle.sky_journal.specs.contracts.journal.Journal.{the_view, the_invariant}
use Rattle.sky_journal.specs.declared.journal.Journal.TheInside.{Inside}
use Rattle.sky_journal.specs.Journal.{JournalView, IsJournal, IsFramed, IsOpenArea, ArePending, bytes_of, batch_size, room_of, wanted_of}
use Rattle.sky_journal.specs.declared.open_area.OpenArea.{OpenArea}
use Rattle.sky_journal.proofs.Entries.{all_push, entries_in-many, batch_with, pending-more, pending-kept}
use Rattle.sky_journal.proofs.Inside.{room_none, room_some}

-- the size of a batch that has an entry
pub batch_size-some : (entries : List (List ℕ)) → (entries ≡ [] → ⊥) → batch_size entries ≡ 16 + bytes_of entries
batch_size-some [] some = absurd (some refl)
batch_size-some (e ∷ es) some = refl

-- one entry more is not none
push-some : (entries : List (List ℕ)) (e : List ℕ) → entries ++ e ∷ [] ≡ [] → ⊥
push-some [] e is = cc is
push-some (x ∷ xs) e is = cc is

below_next : (n m : ℕ) → n < m → (n + 1 ≡ m → ⊥) → n + 1 < m
below_next n m below other = ⊎_elim (λ same. absurd (other same)) (λ less. less) (eq-or-lt_of_le (omega (arith, below)))

few : (entries : List (List ℕ)) → ((entries ≡ [] → ⊥) → 4 * length entries ≤ 2 ^ 28) → 4 * length entries ≤ 2 ^ 28
few [] some = omega arith
few (e ∷ es) some = some (λ is. cc is)

-- the bytes of entries with one more
bytes_push : (entries : List (List ℕ)) (e : List ℕ) → bytes_of (entries ++ e ∷ []) ≡ bytes_of entries + length e
bytes_push entries e = omega (arith, sum_by-append length entries (e ∷ []), sum_by-cons length e [])

-- pending entries with one more, which the room is for
pending_push : (v : JournalView) (a : OpenArea) (e : List ℕ) → IsOpenArea v.size a → v.newer ≡ Some a → ArePending v.size (Some a) v.pending → wanted_of v (length e) ≤ room_of v
    → ArePending v.size (Some a) (v.pending ++ e ∷ [])
pending_push v a e opens newer pending fits =
    let not_last : a.last + length v.pending + 1 ≡ max_number → ⊥ = λ last.
    let none : room_of v ≡ 0 = room_none v a (length v.pending) newer refl last in omega (arith, none, fits) in
    let room : room_of v ≡ v.size - a.end = room_some v a (length v.pending) newer refl not_last in
    let below : a.last + length v.pending + 1 < max_number = below_next (a.last + length v.pending) max_number pending.0 not_last in (
      omega (arith, length_push v.pending e, below),
      omega (arith, batch_size-some (v.pending ++ e ∷ []) (push-some v.pending e), bytes_push v.pending e, room, fits, opens.within),
    )

-- the journal with a pending entry more
pub appended_is_journal : (v : JournalView) (a : OpenArea) (e : List ℕ) (spare : ℕ) → IsJournal v → v.newer ≡ Some a → IsFramed e → wanted_of v (length e) ≤ room_of v
    → IsJournal (record v { pending = v.pending ++ e ∷ []; spare = spare })
appended_is_journal v a e spare is newer framed fits =
    let opens : IsOpenArea v.size a = subst (λ (o : Option OpenArea). IfSome o (IsOpenArea v.size)) newer is.newer in
    let pending : ArePending v.size (Some a) v.pending = subst (λ (o : Option OpenArea). ArePending v.size o v.pending) newer is.pending in
    record {
      least = is.least;
      most = is.most;
      fits = is.fits;
      older = is.older;
      newer = is.newer;
      in_order = is.in_order;
      framed = all_push v.pending e is.framed framed;
      pending = subst (λ (o : Option OpenArea). ArePending v.size o (v.pending ++ e ∷ [])) (sym newer) (pending_push v a e opens newer pending fits);
    }

-- how many entries are pending
pub pending_few : (v : JournalView) (a : OpenArea) → IsJournal v → v.newer ≡ Some a → 4 * length v.pending ≤ 2 ^ 28
pending_few v a is newer =
    let pending : ArePending v.size (Some a) v.pending = subst (λ (o : Option OpenArea). ArePending v.size o v.pending) newer is.pending in
    few v.pending (λ some. omega (arith, batch_size-some v.pending some, pending.1, is.most, entries_in-many v.pending is.framed))

-- the last byte of a batch with one entry more is a closed gate
batch_with-closed : (batch entry : List ℕ) → 1 ≤ length batch → is_open (length (batch_with batch entry) - 1) (batch_with batch entry) ≡ false
batch_with-closed batch entry some =
    let body = take (length batch - 1) batch ++ entry in
    let last : length (body ++ 0 ∷ []) - 1 ≡ length body = omega (arith, length_push body 0) in
    ap (λ (n : ℕ). is_open n (body ++ 0 ∷ [])) last ∙ ap (λ (n : ℕ). n == 1) (get_or-append_seam body 0 [] 0)

-- the fields after an entry was added
module _ (j : Inside) (batch : Vec ℕ Global) (e : List ℕ) (inv : the_invariant j) (framed : IsFramed e) (is : batch.items ≡ batch_with j.batch.items e) where
  more : pending_in (j.count + 1) batch.items ≡ pending_in j.count j.batch.items ++ e ∷ []
  more = ap (λ (l : List ℕ). pending_in (j.count + 1) l) is ∙ pending-more j.count j.batch.items e inv.3 inv.1 framed

  pub appended_view : the_view (record j { count = j.count + 1; batch = batch }) ≡ record (the_view j) { pending = (the_view j).pending ++ e ∷ []; spare = vec_capacity batch - vec_len batch }
  appended_view = ap (λ (l : List (List ℕ)). record (the_view j) { pending = l; spare = vec_capacity batch - vec_len batch }) more

  pub appended_invariant : (a : OpenArea) → j.newer ≡ Some a → wanted_of (the_view j) (length e) ≤ room_of (the_view j) → the_invariant (record j { count = j.count + 1; batch = batch })
  appended_invariant a newer fits = (
    subst IsJournal (sym appended_view) (appended_is_journal (the_view j) a e (vec_capacity batch - vec_len batch) inv.0 newer framed fits),
    subst (λ (l : List ℕ). 16 ≤ length l) (sym is) (omega (
      arith,
      inv.1,
      length_push (take (length j.batch.items - 1) j.batch.items ++ e) 0,
      length-append (take (length j.batch.items - 1) j.batch.items) e,
      length-take-le (length j.batch.items - 1) j.batch.items (omega arith),
    )),
    subst (λ (l : List ℕ). is_open (length l - 1) l ≡ false) (sym is) (batch_with-closed j.batch.items e (omega (arith, inv.1))),
    subst (λ (l : List ℕ). entries_in (j.count + 1) (body_in l) ≡ Some (pending_in (j.count + 1) l)) (sym is) (pending-kept j.count j.batch.items e inv.3 inv.1 framed),
  )
