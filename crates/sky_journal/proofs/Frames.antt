-- What of an image a torn range leaves, and what is read of lists that are the same up to a place.
use Rattle.std.specs.Prelude.{◌==◌}
use Rattle.std.specs.Int.{w32, w64, from_be_bytes}
use Rattle.std.proofs.Common.{◌≡◌, ℕ, ◌+◌, ◌-◌, ◌<◌, ◌≤◌, true, List, ◌++◌, length, take, drop, get_or, refl, sym, ap, ◌∙◌, arith, length-drop}
use Rattle.std.proofs.lemmas.Bool.{eqb-true}
use Rattle.std.proofs.lemmas.List.{take-take, take_at, drop_at, drop-take, drop-drop, get_or-take, get_or-drop, length-take-le, take-append-drop, take_more_same, append_assoc}
use Rattle.sky_outside.specs.Image.{bytes_at, written, Torn}
use Rattle.sky_journal.specs.Layout.{is_open, number_4, number_8}

-- ---- lists that are the same up to a place

-- they are the same up to any earlier place
pub take-shorter : (m n : ℕ) (a b : List ℕ) → m ≤ n → take n a ≡ take n b → take m a ≡ take m b
take-shorter m n a b le e = sym (take-take m n a le) ∙ ap (λ (l : List ℕ). take m l) e ∙ take-take m n b le

-- so what lies before it is
pub part-same : (p s m : ℕ) (a b : List ℕ) → p + s ≤ m → take m a ≡ take m b → take s (drop p a) ≡ take s (drop p b)
part-same p s m a b le e =
    let shorter : take (p + s) a ≡ take (p + s) b = take-shorter (p + s) m a b le e in
    sym (drop-take p s a) ∙ ap (λ (l : List ℕ). drop p l) shorter ∙ drop-take p s b

-- a gate
pub is_open-same : (p m : ℕ) (a b : List ℕ) → p < m → take m a ≡ take m b → is_open p a ≡ is_open p b
is_open-same p m a b lt e =
    let at : get_or a p 0 ≡ get_or b p 0 = sym (get_or-take m a p 0 lt) ∙ ap (λ (l : List ℕ). get_or l p 0) e ∙ get_or-take m b p 0 lt in
    ap (λ (x : ℕ). x == 1) at

-- a number of eight bytes
pub number_8-same : (p m : ℕ) (a b : List ℕ) → p + 8 ≤ m → take m a ≡ take m b → number_8 p a ≡ number_8 p b
unfolding number_8
number_8-same p m a b le e = ap (λ (l : List ℕ). from_be_bytes w64 l) (part-same p 8 m a b le e)

-- a number of four bytes
pub number_4-same : (p m : ℕ) (a b : List ℕ) → p + 4 ≤ m → take m a ≡ take m b → number_4 p a ≡ number_4 p b
unfolding number_4
number_4-same p m a b le e = ap (λ (l : List ℕ). from_be_bytes w32 l) (part-same p 4 m a b le e)

-- ---- what lies within a part of a list

pub part-within : (q n p s : ℕ) (a : List ℕ) → p + s ≤ n → take s (drop (q + p) a) ≡ take s (drop p (bytes_at a q n))
part-within q n p s a le =
    let k = n - p in
    let whole : p + k ≡ n = omega arith in
    let short : s ≤ k = omega arith in
    let behind : drop p (take n (drop q a)) ≡ take k (drop (q + p) a) =
    ap (λ (m : ℕ). drop p (take m (drop q a))) (sym whole) ∙ drop-take p k (drop q a) ∙ ap (λ (l : List ℕ). take k l) (drop-drop p q a) in
    sym (take-take s k (drop (q + p) a) short) ∙ ap (λ (l : List ℕ). take s l) (sym behind)

-- a gate
pub is_open-within : (q n p : ℕ) (a : List ℕ) → p < n → is_open (q + p) a ≡ is_open p (bytes_at a q n)
is_open-within q n p a lt =
    let at : get_or (take n (drop q a)) p 0 ≡ get_or a (q + p) 0 = get_or-take n (drop q a) p 0 lt ∙ get_or-drop q a p 0 in
    ap (λ (x : ℕ). x == 1) (sym at)

-- numbers
pub number_4-within : (q n p : ℕ) (a : List ℕ) → p + 4 ≤ n → number_4 (q + p) a ≡ number_4 p (bytes_at a q n)
unfolding number_4
number_4-within q n p a le = ap (λ (l : List ℕ). from_be_bytes w32 l) (part-within q n p 4 a le)

pub number_8-within : (q n p : ℕ) (a : List ℕ) → p + 8 ≤ n → number_8 (q + p) a ≡ number_8 p (bytes_at a q n)
unfolding number_8
number_8-within q n p a le = ap (λ (l : List ℕ). from_be_bytes w64 l) (part-within q n p 8 a le)

-- the first bytes of an area
pub take-of-area : (image : List ℕ) (start size m : ℕ) → m ≤ size → take m (bytes_at image start size) ≡ bytes_at image start m
take-of-area image start size m le = take-take m size (drop start image) le

-- an area that lies within the disk has its length
pub length-area : (image : List ℕ) (start size : ℕ) → start + size ≤ length image → length (bytes_at image start size) ≡ size
length-area image start size le = length-take-le size (drop start image) (omega (arith, length-drop start image))

-- ---- what a torn range leaves

-- what lies before it
pub bytes_at-before : (at n : ℕ) (old new : List ℕ) (start m : ℕ) → Torn at n old new → start + m ≤ at → bytes_at new start m ≡ bytes_at old start m
bytes_at-before at n old new start m torn le = part-same start m at new old le torn.before

-- what lies behind it
pub bytes_at-behind : (at n : ℕ) (old new : List ℕ) (start m : ℕ) → Torn at n old new → at + n ≤ start → bytes_at new start m ≡ bytes_at old start m
bytes_at-behind at n old new start m torn le =
    let k = start - (at + n) in
    let is : (at + n) + k ≡ start = omega arith in
    let same : drop ((at + n) + k) new ≡ drop ((at + n) + k) old =
    sym (drop-drop k (at + n) new) ∙ ap (λ (l : List ℕ). drop k l) torn.behind ∙ drop-drop k (at + n) old in
    ap (λ (l : List ℕ). take m l) (ap (λ (s : ℕ). drop s new) (sym is) ∙ same ∙ ap (λ (s : ℕ). drop s old) is)

-- a range that is torn is torn within a wider one
pub Torn-wider : (at n at' n' : ℕ) (old new : List ℕ) → Torn at n old new → at' ≤ at → at + n ≤ at' + n' → Torn at' n' old new
Torn-wider at n at' n' old new torn lower higher =
    let k = (at' + n') - (at + n) in
    let is : (at + n) + k ≡ at' + n' = omega arith in
    let same : drop ((at + n) + k) new ≡ drop ((at + n) + k) old =
    sym (drop-drop k (at + n) new) ∙ ap (λ (l : List ℕ). drop k l) torn.behind ∙ drop-drop k (at + n) old in
    record {
      before = take-shorter at' at new old lower torn.before;
      behind = ap (λ (s : ℕ). drop s new) (sym is) ∙ same ∙ ap (λ (s : ℕ). drop s old) is;
      size = torn.size;
    }

-- where the one byte of a range is as it was, all is
pub Torn-same : (at : ℕ) (old new : List ℕ) → Torn at 1 old new → at < length old → get_or new at 0 ≡ get_or old at 0 → new ≡ old
Torn-same at old new torn within same =
    let long : at < length new = omega (arith, torn.size) in
    let front : take (at + 1) new ≡ take (at + 1) old = take_more_same new old at 0 long within torn.before same in
    let parts_new : take (at + 1) new ++ drop (at + 1) new ≡ new = take-append-drop (at + 1) new in
    let parts_old : take (at + 1) old ++ drop (at + 1) old ≡ old = take-append-drop (at + 1) old in
    let behind : drop (at + 1) new ≡ drop (at + 1) old = torn.behind in
    cc

-- an open gate that stays open stays as it was
pub Torn-open : (at : ℕ) (old new : List ℕ) → Torn at 1 old new → at < length old → is_open at old ≡ true → is_open at new ≡ true → new ≡ old
Torn-open at old new torn within was is =
    Torn-same at old new torn within (eqb-true (get_or new at 0) 1 is ∙ sym (eqb-true (get_or old at 0) 1 was))

-- what was written is there
pub written-there : (image : List ℕ) (at : ℕ) (bytes : List ℕ) → at + length bytes ≤ length image → bytes_at (written image at bytes) at (length bytes) ≡ bytes
written-there image at bytes fits =
    let prefix : length (take at image) ≡ at = length-take-le at image (omega arith) in
    let rest = drop (at + length bytes) image in
    let regrouped : written image at bytes ≡ take at image ++ (bytes ++ rest) = append_assoc (take at image) bytes rest in
    ap (λ (l : List ℕ). take (length bytes) (drop at l)) regrouped
    ∙ ap (λ (l : List ℕ). take (length bytes) l) (drop_at (take at image) (bytes ++ rest) at prefix)
    ∙ take_at bytes rest (length bytes) refl
