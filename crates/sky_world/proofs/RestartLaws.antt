-- Laws of a restart of a site that tells what it has: it shows how many changes it found.
use Rattle.std.specs.Prelude.{nat_lt}
use Rattle.std.proofs.Common.{◌≡◌, ℕ, ◌+◌, ◌-◌, ◌≤◌, Bool, true, false, List, [], ◌∷◌, sym, ap, ◌∙◌, arith}
use Rattle.std.proofs.lemmas.Bool.{le-ltb, true≢false}
use Rattle.std.proofs.lemmas.List.{length-take}
use Rattle.sky_nfs.specs.History.{History, history_length}
use Rattle.sky_script.specs.Frame.{OutFrame, Opened}
use Rattle.sky_world.specs.Laws.{IsMarked}
use Rattle.sky_sound.specs.Kept.{JournalState, Kept, emptied}
use Rattle.sky_world.specs.Meaning.{State, Restarts, as_known, untold, cut_to, given_up, kept_to, opened_state, opening_of, reopened}

-- a history that is cut within it has so many changes
pub cut_length : (n : ℕ) (h : History) → h.before ≤ n → n ≤ history_length h → history_length (cut_to n h) ≡ n
cut_length n h least most = omega (arith, length-take (n - h.before) h.changes)

-- what is known is found where the site tells what it has
pub as_it_is : (old : State) (known : Kept) (outs : List OutFrame) (new : State) → old.told ≡ true → Restarts old known outs new
    → (new ≡ opened_state old.told (old.epoch + 1) old.moment known) × (outs ≡ opening_of new ∷ [])
as_it_is old known outs new told (as_known is_told is said) = (is, said)
as_it_is old known outs new told (untold found silent may is said) = absurd (true≢false (sym told ∙ silent))

-- it shows so many changes
abbrev Shows : ℕ → State → List OutFrame → State → Type 0
Shows k old outs new =
    (outs ≡ Opened (old.epoch + 1) k (nat_lt old.kept.completed k) ∷ []) × (new.kept.history ≡ cut_to k old.kept.history) × (history_length new.kept.history ≡ k) × (new.kept.mark ≡ k) × (new.epoch ≡ old.epoch + 1)

shows_to : (n : ℕ) (j : JournalState) (old new : State) (outs : List OutFrame) → old.told ≡ true → old.kept.history.before ≤ n → n ≤ history_length old.kept.history
    → Restarts old (kept_to n j old.kept) outs new → Shows n old outs new
shows_to n j old new outs told least most step =
    let is = as_it_is old (kept_to n j old.kept) outs new told step in
    let long : history_length (cut_to n old.kept.history) ≡ n = cut_length n old.kept.history least most in
    let next : State = opened_state old.told (old.epoch + 1) old.moment (kept_to n j old.kept) in (
      is.1 ∙ ap (λ (s : State). opening_of s ∷ []) is.0 ∙ ap (λ (k : ℕ). Opened (old.epoch + 1) k (nat_lt old.kept.completed k) ∷ []) long,
      ap (λ (s : State). s.kept.history) is.0,
      ap (λ (s : State). history_length s.kept.history) is.0 ∙ long,
      ap (λ (s : State). s.kept.mark) is.0,
      ap (λ (s : State). s.epoch) is.0,
    )

-- a restart shows how many changes it found, at least those up to the mark
abbrev pub ShowsPrefix : State → List OutFrame → State → Type 0
ShowsPrefix old outs new =
    (k : ℕ) × (outs ≡ Opened (old.epoch + 1) k (nat_lt old.kept.completed k) ∷ []) × (old.kept.mark ≤ k) × (old.kept.completed ≤ k) × (k ≤ history_length old.kept.history)
    × (new.kept.history ≡ cut_to k old.kept.history) × (history_length new.kept.history ≡ k) × (new.kept.mark ≡ k) × (new.epoch ≡ old.epoch + 1)

pub shows_prefix : (old new : State) (outs : List OutFrame) → old.told ≡ true → IsMarked old.kept → Restarts old (reopened old.kept) outs new → ShowsPrefix old outs new
shows_prefix old new outs told marked step =
    let n : ℕ = old.kept.stored in
    let shows : Shows n old outs new = shows_to n old.kept.journal old new outs told (omega (arith, marked.begins, marked.completed)) marked.most step in
    (n, shows.0, marked.marked, marked.completed, marked.most, shows.1, shows.2, shows.3, shows.4)

-- without the journal it shows those that the cloud has for good
abbrev pub ShowsCompleted : State → List OutFrame → State → Type 0
ShowsCompleted old outs new =
    (outs ≡ Opened (old.epoch + 1) old.kept.completed false ∷ []) × (new.kept.history ≡ cut_to old.kept.completed old.kept.history)
    × (new.kept.mark ≡ old.kept.completed) × (new.epoch ≡ old.epoch + 1)

not_below : (n : ℕ) → nat_lt n n ≡ false
not_below n = le-ltb n n (omega arith)

pub shows_completed : (old new : State) (outs : List OutFrame) → old.told ≡ true → IsMarked old.kept → Restarts old (given_up old.kept) outs new → ShowsCompleted old outs new
shows_completed old new outs told marked step =
    let n : ℕ = old.kept.completed in
    let shows : Shows n old outs new = shows_to n (emptied old.kept.journal) old new outs told marked.begins (omega (arith, marked.completed, marked.most)) step in
    (shows.0 ∙ ap (λ (b : Bool). Opened (old.epoch + 1) n b ∷ []) (not_below n), shows.1, shows.3, shows.4)
