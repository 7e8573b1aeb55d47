-- Over one image there is one journal of a volume: two that stand there, where there is an entry at all, have the same areas.
use Rattle.std.specs.Prelude.{IfSome}
use Rattle.std.proofs.Common.{◌≡◌, ◌⊎◌, ℕ, ◌+◌, ◌<◌, false, Option, Some, None, List, [], ◌∷◌, length, inl, inr, ⊎_elim, refl, sym, ap, subst, ◌∙◌, arith}
use Rattle.std.proofs.lemmas.Bool.{cases_eq, true≢false}
use Rattle.sky_outside.specs.Image.{bytes_at}
use Rattle.sky_journal.specs.Journal.{JournalView, AreInOrder, IsJournal, IsOpenArea, StandsFor}
use Rattle.sky_journal.specs.Laid.{BeginsAt, HasBatches, IsArea, IsFree, IsLaid, joined}
use Rattle.sky_journal.specs.Layout.{area_header, is_open, next_batch}
use Rattle.sky_journal.specs.declared.open_area.OpenArea.{OpenArea}

-- ---- one area

-- the batches from a place on, up to a closed gate
batches_once : (area : List ℕ) (p : ℕ) (bs cs : List (List (List ℕ))) (e f : ℕ) → HasBatches area p bs e → HasBatches area p cs f → is_open e area ≡ false → is_open f area ≡ false
    → (bs ≡ cs) × (e ≡ f)
unfolding HasBatches
batches_once area p [] [] e f one two closed shut = (refl, sym one.0 ∙ two.0)
batches_once area p [] (c ∷ cs) e f one two closed shut =
    let gate : is_open p area ≡ false = ap (λ (q : ℕ). is_open q area) one.0 ∙ closed in absurd (true≢false (sym two.0.gate ∙ gate))
batches_once area p (b ∷ bs) [] e f one two closed shut =
    let gate : is_open p area ≡ false = ap (λ (q : ℕ). is_open q area) two.0 ∙ shut in absurd (true≢false (sym one.0.gate ∙ gate))
batches_once area p (b ∷ bs) (c ∷ cs) e f one two closed shut =
    let held : Some b ≡ Some c = sym one.0.holds ∙ two.0.holds in
    let same : b ≡ c = cc in
    let rest = batches_once area (next_batch p area) bs cs e f one.1 two.1 closed shut in
    ((λ k. same k ∷ rest.0 k), rest.1)

-- the bytes of an open area tell how it is known, and its entries
area_once : (volume : ℕ) (area : List ℕ) (a b : OpenArea) (es fs : List (List ℕ)) → IsArea volume area a es → IsArea volume area b fs → b.start ≡ a.start → (b ≡ a) × (fs ≡ es)
area_once volume area a b es fs one two start =
    let both = batches_once area area_header two.batches one.batches b.end a.end two.has one.has two.closed one.closed in
    let entries : fs ≡ es = sym two.entries_are ∙ ap (λ (bs : List (List (List ℕ))). joined bs) both.0 ∙ one.entries_are in
    let base : b.base ≡ a.base = sym two.base ∙ one.base in
    let last : b.last ≡ a.last = omega (arith, one.numbers, two.numbers, ap (λ (es : List (List ℕ)). length es) entries) in
    ((λ k. record { start = start k; base = base k; last = last k; end = both.1 k }), entries)

-- ---- two areas

-- areas lie so over an image, and have these entries
record Lies (volume size : ℕ) (image : List ℕ) (o n : Option OpenArea) (es fs : List (List ℕ)) : Type 0 where
  some : 0 < size
  o_open : IfSome o (IsOpenArea size)
  n_open : IfSome n (IsOpenArea size)
  order : AreInOrder size o n
  o_laid : IsLaid volume size image o es
  n_laid : IsLaid volume size image n fs
  others : (start : ℕ) → (start ≡ 0) ⊎ (start ≡ size) → (BeginsAt start o → ⊥) → (BeginsAt start n → ⊥) → IsFree size start image

-- an area that is open is not free
not_free : (volume size : ℕ) (image : List ℕ) (a : OpenArea) (es : List (List ℕ)) → IsArea volume (bytes_at image a.start size) a es → IsFree size a.start image → ⊥
not_free volume size image a es is free = true≢false (sym is.gate ∙ free)

-- two halves of a disk that are not this one are the same
other_half : (size a b x : ℕ) → (a ≡ 0) ⊎ (a ≡ size) → (x ≡ 0) ⊎ (x ≡ size) → a + b ≡ size → (x ≡ a → ⊥) → x ≡ b
other_half size a b x (inl p) (inl q) sum apart = absurd (apart (q ∙ sym p))
other_half size a b x (inl p) (inr q) sum apart = omega arith
other_half size a b x (inr p) (inl q) sum apart = omega arith
other_half size a b x (inr p) (inr q) sum apart = absurd (apart (q ∙ sym p))

-- where one area is open, there are not two
one_not_two : (volume size : ℕ) (image : List ℕ) (a x y : OpenArea) (es fs gs hs : List (List ℕ)) → Lies volume size image None (Some a) es fs → Lies volume size image (Some x) (Some y) gs hs → ⊥
one_not_two volume size image a x y es fs gs hs one two =
    ⊎_elim
    (λ (e : x.start ≡ a.start).
    let apart : a.start ≡ y.start → ⊥ = λ d. parts x.start size two.o_open.start (omega (arith, d, e, two.order.beside)) two.some in
    not_free volume size image y hs two.n_laid (one.others y.start two.n_open.start (λ none. none) apart))
    (λ (ne : x.start ≡ a.start → ⊥). not_free volume size image x gs two.o_laid (one.others x.start two.o_open.start (λ none. none) (λ d. ne (sym d))))
    (cases_eq x.start a.start)
  where
    -- twice a half is not the other with it
    parts : (x size : ℕ) → (x ≡ 0) ⊎ (x ≡ size) → x + x ≡ size → 0 < size → ⊥
    parts x size (inl p) twice some = omega arith
    parts x size (inr p) twice some = omega arith

-- nor where none is open is there one
none_not_one : (volume size : ℕ) (image : List ℕ) (o : Option OpenArea) (a : OpenArea) (es fs gs hs : List (List ℕ)) → Lies volume size image None None es fs → Lies volume size image o (Some a) gs hs → ⊥
none_not_one volume size image o a es fs gs hs none one = not_free volume size image a hs one.n_laid (none.others a.start one.n_open.start (λ e. e) (λ e. e))

one_once : (volume size : ℕ) (image : List ℕ) (a b : OpenArea) (es fs gs hs : List (List ℕ)) → Lies volume size image None (Some a) es fs → Lies volume size image None (Some b) gs hs → b ≡ a
one_once volume size image a b es fs gs hs one two =
    ⊎_elim
    (λ (e : b.start ≡ a.start).
    (area_once volume (bytes_at image a.start size) a b fs hs one.n_laid (subst (λ (p : ℕ). IsArea volume (bytes_at image p size) b hs) e two.n_laid) e).0)
    (λ (ne : b.start ≡ a.start → ⊥). absurd (not_free volume size image a fs one.n_laid (two.others a.start one.n_open.start (λ none. none) ne)))
    (cases_eq b.start a.start)

two_once : (volume size : ℕ) (image : List ℕ) (a b x y : OpenArea) (es fs gs hs : List (List ℕ)) → Lies volume size image (Some a) (Some b) es fs → Lies volume size image (Some x) (Some y) gs hs → 0 < length es + length fs
    → (x ≡ a) × (y ≡ b)
two_once volume size image a b x y es fs gs hs one two some =
    ⊎_elim
    (λ (e : x.start ≡ a.start).
    let d : y.start ≡ b.start = omega (arith, one.order.beside, two.order.beside, e) in (
      (area_once volume (bytes_at image a.start size) a x es gs one.o_laid (subst (λ (p : ℕ). IsArea volume (bytes_at image p size) x gs) e two.o_laid) e).0,
      (area_once volume (bytes_at image b.start size) b y fs hs one.n_laid (subst (λ (p : ℕ). IsArea volume (bytes_at image p size) y hs) d two.n_laid) d).0,
    ))
    (λ (ne : x.start ≡ a.start → ⊥).
    let e : x.start ≡ b.start = other_half size a.start b.start x.start one.o_open.start two.o_open.start one.order.beside ne in
    let d : y.start ≡ a.start = omega (arith, one.order.beside, two.order.beside, e) in
    let first = area_once volume (bytes_at image b.start size) b x fs gs one.n_laid (subst (λ (p : ℕ). IsArea volume (bytes_at image p size) x gs) e two.o_laid) e in
    let second = area_once volume (bytes_at image a.start size) a y es hs one.o_laid (subst (λ (p : ℕ). IsArea volume (bytes_at image p size) y hs) d two.n_laid) d in
    let low : y.base ≡ a.base = ap (λ (z : OpenArea). z.base) second.0 in
    let high : x.last ≡ b.last = ap (λ (z : OpenArea). z.last) first.0 in
    absurd (omega (arith, low, high, one.order.number, two.order.number, one.o_laid.numbers, one.n_laid.numbers, some)))
    (cases_eq x.start a.start)

once : (volume size : ℕ) (image : List ℕ) (o n p q : Option OpenArea) (es fs gs hs : List (List ℕ)) → Lies volume size image o n es fs → Lies volume size image p q gs hs → 0 < length es + length fs
    → (p ≡ o) × (q ≡ n)
once volume size image None None p q es fs gs hs one two some =
    absurd (omega (arith, some, ap (λ (l : List (List ℕ)). length l) one.o_laid, ap (λ (l : List (List ℕ)). length l) one.n_laid))
once volume size image (Some a) None p q es fs gs hs one two some = absurd one.order
once volume size image None (Some a) None None es fs gs hs one two some = absurd (none_not_one volume size image None a gs hs es fs two one)
once volume size image None (Some a) (Some x) None es fs gs hs one two some = absurd two.order
once volume size image None (Some a) None (Some y) es fs gs hs one two some =
    let same = one_once volume size image a y es fs gs hs one two in (refl, (λ k. Some (same k)))
once volume size image None (Some a) (Some x) (Some y) es fs gs hs one two some = absurd (one_not_two volume size image a x y es fs gs hs one two)
once volume size image (Some a) (Some b) None None es fs gs hs one two some = absurd (none_not_one volume size image (Some a) b gs hs es fs two one)
once volume size image (Some a) (Some b) (Some x) None es fs gs hs one two some = absurd two.order
once volume size image (Some a) (Some b) None (Some y) es fs gs hs one two some = absurd (one_not_two volume size image y a b gs hs es fs two one)
once volume size image (Some a) (Some b) (Some x) (Some y) es fs gs hs one two some =
    let same = two_once volume size image a b x y es fs gs hs one two some in ((λ k. Some (same.0 k)), (λ k. Some (same.1 k)))

-- ---- two journals

lies : (j : JournalView) (image : List ℕ) (es fs : List (List ℕ)) → IsJournal j → StandsFor j image es fs → Lies j.volume j.size image j.older j.newer es fs
lies j image es fs is stands = record {
  some = omega (arith, is.least);
  o_open = is.older;
  n_open = is.newer;
  order = is.in_order;
  o_laid = stands.older_is;
  n_laid = stands.newer_is;
  others = stands.others;
}

-- two journals of one volume, with areas of one size, that stand over one image have the same areas, where there is an entry
pub journal_once : (j k : JournalView) (image : List ℕ) (es fs gs hs : List (List ℕ)) → k.volume ≡ j.volume → k.size ≡ j.size → IsJournal j → IsJournal k → StandsFor j image es fs → StandsFor k image gs hs
    → 0 < length es + length fs → (k.older ≡ j.older) × (k.newer ≡ j.newer)
journal_once j k image es fs gs hs volume size is_j is_k stands_j stands_k some =
    let there : Lies j.volume j.size image k.older k.newer gs hs =
    subst (λ (v : ℕ). Lies v j.size image k.older k.newer gs hs) volume (subst (λ (z : ℕ). Lies k.volume z image k.older k.newer gs hs) size (lies k image gs hs is_k stands_k)) in
    once j.volume j.size image j.older j.newer k.older k.newer es fs gs hs (lies j image es fs is_j stands_j) there some
