-- The batches of an area: they stay where the area stays as it is up to their end, and a batch behind them is one more.
use Rattle.std.proofs.Common.{◌≡◌, ℕ, ◌+◌, ◌<◌, ◌≤◌, false, List, [], ◌∷◌, ◌++◌, length, take, drop, refl, sym, ap, ◌∙◌, subst, arith, append_assoc, length-append}
use Rattle.std.proofs.lemmas.List.{append-nil}
use Rattle.sky_journal.specs.Layout.{is_open, volume_place, base_place, area_header, batch_header, count_at, size_at, body_at, next_batch}
use Rattle.sky_journal.specs.Text.{entries_in}
use Rattle.sky_journal.specs.Laid.{joined, IsBatch, HasBatches, IsArea}
use Rattle.sky_journal.specs.Journal.{batch_size, area_with}
use Rattle.sky_journal.specs.declared.open_area.OpenArea.{OpenArea}
use Rattle.sky_journal.proofs.Frames.{part-same, is_open-same, number_4-same, number_8-same, take-shorter}

-- ---- a batch

-- what stands in a batch is the same in areas that are the same up to the next batch
record SameBatch (p : ℕ) (a b : List ℕ) : Type 0 where
  gate : is_open p b ≡ is_open p a
  count : count_at p b ≡ count_at p a
  size : size_at p b ≡ size_at p a
  body : body_at p b ≡ body_at p a

batch-same : (p q : ℕ) (a b : List ℕ) → next_batch p a ≤ q → take q b ≡ take q a → SameBatch p a b
batch-same p q a b le e =
    let size : size_at p b ≡ size_at p a = number_8-same (p + 8) q b a (omega arith) e in record {
      gate = is_open-same p q b a (omega arith) e;
      count = number_4-same (p + 4) q b a (omega arith) e;
      size = size;
      body = ap (λ (s : ℕ). take s (drop (p + batch_header) b)) size ∙ part-same (p + batch_header) (size_at p a) q b a (omega arith) e;
    }

-- so the batch is
IsBatch-keeps : (p q : ℕ) (a b : List ℕ) (entries : List (List ℕ)) → IsBatch a p entries → next_batch p a ≤ q → take q b ≡ take q a → length b ≡ length a
    → IsBatch b p entries
IsBatch-keeps p q a b entries is le e long =
    let same = batch-same p q a b le e in record {
      gate = same.gate ∙ is.gate;
      some = omega (arith, same.count, is.some);
      within = omega (arith, same.size, long, is.within);
      holds = ap (λ (n : ℕ). entries_in n (body_at p b)) same.count ∙ ap (λ (l : List ℕ). entries_in (count_at p a) l) same.body ∙ is.holds;
    }

-- ---- batches

-- the end of the batches is not before their beginning, and lies within the area
pub HasBatches-within : (area : List ℕ) (p : ℕ) (bs : List (List (List ℕ))) (end : ℕ) → HasBatches area p bs end → (p ≤ end) × (end < length area)
unfolding HasBatches
HasBatches-within area p [] end has = (omega (arith, has.0), has.1)
HasBatches-within area p (b ∷ bs) end has =
    let rest = HasBatches-within area (next_batch p area) bs end has.1 in
    let later : next_batch p area ≤ end = rest.0 in
    (omega arith, rest.1)

-- batches up to a place, up to which the area stays as it is, and batches from there on are batches
pub HasBatches-then : (a b : List ℕ) (p : ℕ) (bs : List (List (List ℕ))) (q : ℕ) (cs : List (List (List ℕ))) (r : ℕ) → HasBatches a p bs q
    → take q b ≡ take q a → length b ≡ length a → HasBatches b q cs r → HasBatches b p (bs ++ cs) r
unfolding HasBatches
HasBatches-then a b p [] q cs r has e long behind = subst (λ (s : ℕ). HasBatches b s cs r) (sym has.0) behind
HasBatches-then a b p (x ∷ bs) q cs r has e long behind =
    let within = HasBatches-within a (next_batch p a) bs q has.1 in
    let same = batch-same p q a b within.0 e in
    let next : next_batch p a ≡ next_batch p b = ap (λ (s : ℕ). p + batch_header + s) (sym same.size) in (
      IsBatch-keeps p q a b x has.0 within.0 e long,
      subst (λ (s : ℕ). HasBatches b s (bs ++ cs) r) next (HasBatches-then a b (next_batch p a) bs q cs r has.1 e long behind),
    )

pub joined-append : (bs cs : List (List (List ℕ))) → joined (bs ++ cs) ≡ joined bs ++ joined cs
unfolding joined
joined-append [] cs = refl
joined-append (b ∷ bs) cs = ap (λ (l : List (List ℕ)). b ++ l) (joined-append bs cs) ∙ sym (append_assoc b (joined bs) (joined cs))

-- no batch has none
pub joined-none : joined [] ≡ []
unfolding joined
joined-none = refl

-- one batch has its entries
joined-one : (b : List (List ℕ)) → joined (b ∷ []) ≡ b
unfolding joined
joined-one b = append-nil b

-- one batch, with its end within the area
HasBatches-one : (area : List ℕ) (p : ℕ) (b : List (List ℕ)) (end : ℕ) → IsBatch area p b → next_batch p area ≡ end → HasBatches area p (b ∷ []) end
unfolding HasBatches
HasBatches-one area p b end is at = (is, (at, omega (arith, at, is.within)))

-- none, at a place within the area
pub HasBatches-none : (area : List ℕ) (p : ℕ) → p < length area → HasBatches area p [] p
unfolding HasBatches
HasBatches-none area p within = (refl, within)

-- ---- an area

-- An area that stays as it is up to the end of its batches, with the next gate closed, has the same entries.
pub IsArea-still : (volume : ℕ) (area left : List ℕ) (a : OpenArea) (es : List (List ℕ)) → IsArea volume area a es → area_header ≤ a.end
    → take a.end left ≡ take a.end area → length left ≡ length area → is_open a.end left ≡ false → IsArea volume left a es
IsArea-still volume area left a es is behind e long closed =
    let within = HasBatches-within area area_header is.batches a.end is.has in
    let all = HasBatches-then area left area_header is.batches a.end [] a.end is.has e long (HasBatches-none left a.end (omega (arith, within.1, long))) in
    record {
      gate = is_open-same 0 a.end left area (omega arith) e ∙ is.gate;
      volume_is = number_8-same volume_place a.end left area (omega arith) e ∙ is.volume_is;
      base = number_8-same base_place a.end left area (omega arith) e ∙ is.base;
      batches = is.batches;
      has = subst (λ (bs : List (List (List ℕ))). HasBatches left area_header bs a.end) (append-nil is.batches) all;
      entries_are = is.entries_are;
      closed = closed;
      numbers = is.numbers;
    }

-- So has one that stays as it is up to that gate.
pub IsArea-keeps : (volume : ℕ) (area left : List ℕ) (a : OpenArea) (es : List (List ℕ)) → IsArea volume area a es → area_header ≤ a.end
    → take (a.end + 1) left ≡ take (a.end + 1) area → length left ≡ length area → IsArea volume left a es
IsArea-keeps volume area left a es is behind e long =
    IsArea-still volume area left a es is behind (take-shorter a.end (a.end + 1) left area (omega arith) e) long
    (is_open-same a.end (a.end + 1) left area (omega arith) e ∙ is.closed)

-- A batch behind the others, with a closed gate behind it, is one more.
pub IsArea-more : (volume : ℕ) (area left : List ℕ) (a : OpenArea) (es pending : List (List ℕ)) → IsArea volume area a es → area_header ≤ a.end
    → take a.end left ≡ take a.end area → length left ≡ length area → IsBatch left a.end pending → next_batch a.end left ≡ a.end + batch_size pending
    → is_open (a.end + batch_size pending) left ≡ false → IsArea volume left (area_with pending a) (es ++ pending)
IsArea-more volume area left a es pending is behind e long more next closed =
    let last = HasBatches-one left a.end pending (a.end + batch_size pending) more next in
    record {
      gate = is_open-same 0 a.end left area (omega arith) e ∙ is.gate;
      volume_is = number_8-same volume_place a.end left area (omega arith) e ∙ is.volume_is;
      base = number_8-same base_place a.end left area (omega arith) e ∙ is.base;
      batches = is.batches ++ pending ∷ [];
      has = HasBatches-then area left area_header is.batches a.end (pending ∷ []) (a.end + batch_size pending) is.has e long last;
      entries_are = joined-append is.batches (pending ∷ []) ∙ ap (λ (l : List (List ℕ)). l ++ joined (pending ∷ [])) is.entries_are
          ∙ ap (λ (l : List (List ℕ)). es ++ l) (joined-one pending);
      closed = closed;
      numbers = omega (arith, is.numbers, length-append es pending);
    }
