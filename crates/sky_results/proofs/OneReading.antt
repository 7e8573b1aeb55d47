-- Encodings that are read in one way, and how such encodings are put together.
--   HasOneReading      no bytes begin with the encodings of two values, and none of these is a proper prefix of another
--   uint_once, uhyper_once, bool_once, opaque_once      XDR's items
--   both, along, under                  one behind the other; by what a value is made of; of fewer values
--   optional_once, list_once            what is told or not; entries, each behind a true, up to the false
use Rattle.std.proofs.Common.{◌≡◌, ℕ, true, false, List, [], ◌∷◌, ◌++◌, flat_map, Option, Some, None, refl, sym, ap, ◌∙◌, append_assoc}
use Rattle.std.specs.Prelude.{IfSome}
use Rattle.std.specs.List.{AllByRecursion}
use Rattle.sky_xdr.specs.Encoding.{uint, uhyper, bool, opaque}
use Rattle.sky_xdr.proofs.Numbers.{uint_same, uhyper_same, bool_same}
use Rattle.sky_xdr.proofs.Opaques.{opaque_same}
use Rattle.sky_results.specs.Ranges.{IsU32, IsU64, IsOpaqueData}

pub record HasOneReading {A : Type 0} (P : A → Type 0) (f : A → List ℕ) : Type 0 where
  pub once : (a b : A) (x y : List ℕ) → P a → P b → f a ++ x ≡ f b ++ y → (a ≡ b) × (x ≡ y)

-- every value
abbrev pub Always : {A : Type 0} → A → Type 0
Always a = Unit {0}

pub uint_once : HasOneReading IsU32 uint
uint_once = record { once = uint_same }

pub uhyper_once : HasOneReading IsU64 uhyper
uhyper_once = record { once = uhyper_same }

pub bool_once : HasOneReading Always bool
bool_once = record { once = λ a b x y p q e. bool_same a b x y e }

pub opaque_once : HasOneReading IsOpaqueData opaque
opaque_once = record { once = opaque_same }

pub both : {A B : Type 0} {P : A → Type 0} {f : A → List ℕ} {Q : B → Type 0} {g : B → List ℕ} → HasOneReading P f → HasOneReading Q g
    → HasOneReading (λ (p : A × B). P p.0 × Q p.1) (λ (p : A × B). f p.0 ++ g p.1)
both {A = A} {B = B} {P = P} {f = f} {Q = Q} {g = g} first second = record {
  once = λ a b x y p q e.
      let one = first.once a.0 b.0 (g a.1 ++ x) (g b.1 ++ y) p.0 q.0 (sym (append_assoc (f a.0) (g a.1) x) ∙ e ∙ append_assoc (f b.0) (g b.1) y) in
      let two = second.once a.1 b.1 x y p.1 q.1 one.1 in
      (λ i. (one.0 i, two.0 i), two.1);
}

-- parts gives what a value is made of, and made puts it together again
pub along : {A B : Type 0} {Q : B → Type 0} {g : B → List ℕ} → HasOneReading Q g → (parts : A → B) (made : B → A) → ((a : A) → made (parts a) ≡ a)
    → HasOneReading (λ (a : A). Q (parts a)) (λ (a : A). g (parts a))
along h parts made back = record {
  once = λ a b x y p q e.
      let one = h.once (parts a) (parts b) x y p q e in
      (sym (back a) ∙ ap made one.0 ∙ back b, one.1);
}

pub under : {A : Type 0} {P Q : A → Type 0} {f : A → List ℕ} → ((a : A) → P a → Q a) → HasOneReading Q f → HasOneReading P f
under gives h = record { once = λ a b x y p q e. h.once a b x y (gives a p) (gives b q) e }

-- ---- what is told or not

-- a value that is told stands behind a true
told_parts : {A : Type 0} (f : A → List ℕ) (told : List ℕ) (a : A) (x : List ℕ) → told ≡ bool true ++ f a → told ++ x ≡ bool true ++ (f a ++ x)
told_parts f told a x is = ap (λ (l : List ℕ). l ++ x) is ∙ append_assoc (bool true) (f a) x

optional_same : {A : Type 0} {P : A → Type 0} {f : A → List ℕ} (g : Option A → List ℕ) → g None ≡ bool false → ((a : A) → g (Some a) ≡ bool true ++ f a)
    → HasOneReading P f → (a b : Option A) (x y : List ℕ) → IfSome a P → IfSome b P → g a ++ x ≡ g b ++ y → (a ≡ b) × (x ≡ y)
optional_same g none some h None None x y p q e =
    let t = bool_same false false x y (sym (ap (λ (l : List ℕ). l ++ x) none) ∙ e ∙ ap (λ (l : List ℕ). l ++ y) none) in
    (refl, t.1)
optional_same {f = f} g none some h None (Some b) x y p q e =
    let t = bool_same false true x (f b ++ y) (sym (ap (λ (l : List ℕ). l ++ x) none) ∙ e ∙ told_parts f (g (Some b)) b y (some b)) in
    absurd (let d : false ≡ true = t.0 in cc)
optional_same {f = f} g none some h (Some a) None x y p q e =
    let t = bool_same true false (f a ++ x) y (sym (told_parts f (g (Some a)) a x (some a)) ∙ e ∙ ap (λ (l : List ℕ). l ++ y) none) in
    absurd (let d : true ≡ false = t.0 in cc)
optional_same {f = f} g none some h (Some a) (Some b) x y p q e =
    let t = bool_same true true (f a ++ x) (f b ++ y) (sym (told_parts f (g (Some a)) a x (some a)) ∙ e ∙ told_parts f (g (Some b)) b y (some b)) in
    let one = h.once a b x y p q t.1 in
    (ap Some one.0, one.1)

pub optional_once : {A : Type 0} {P : A → Type 0} {f : A → List ℕ} → HasOneReading P f → (g : Option A → List ℕ) → g None ≡ bool false
    → ((a : A) → g (Some a) ≡ bool true ++ f a) → HasOneReading (λ (o : Option A). IfSome o P) g
optional_once h g none some = record { once = optional_same g none some h }

-- ---- entries, each behind a true, up to the false

-- the first entry, and what stands behind it
entries_parts : (first others x : List ℕ) → (first ++ others ++ bool false) ++ x ≡ first ++ ((others ++ bool false) ++ x)
entries_parts first others x =
    append_assoc (first ++ others) (bool false) x ∙ append_assoc first others (bool false ++ x)
    ∙ ap (λ (l : List ℕ). first ++ l) (sym (append_assoc others (bool false) x))

-- a list that isn't empty begins with a true
begins_true : {E : Type 0} (entry body : E → List ℕ) → ((e : E) → entry e ≡ bool true ++ body e) → (e : E) (others x : List ℕ)
    → (entry e ++ others ++ bool false) ++ x ≡ bool true ++ (body e ++ ((others ++ bool false) ++ x))
begins_true entry body begins e others x =
    entries_parts (entry e) others x ∙ told_parts body (entry e) e ((others ++ bool false) ++ x) (begins e)

list_same : {E : Type 0} {P : E → Type 0} (entry body : E → List ℕ) → ((e : E) → entry e ≡ bool true ++ body e) → HasOneReading P entry
    → (es fs : List E) (x y : List ℕ) → AllByRecursion P es → AllByRecursion P fs
    → (flat_map entry es ++ bool false) ++ x ≡ (flat_map entry fs ++ bool false) ++ y → (es ≡ fs) × (x ≡ y)
list_same entry body begins h [] [] x y p q e = (refl, (bool_same false false x y e).1)
list_same entry body begins h [] (f ∷ fs) x y p q e =
    let t = bool_same false true x (body f ++ ((flat_map entry fs ++ bool false) ++ y)) (e ∙ begins_true entry body begins f (flat_map entry fs) y) in
    absurd (let d : false ≡ true = t.0 in cc)
list_same entry body begins h (d ∷ es) [] x y p q e =
    let t = bool_same true false (body d ++ ((flat_map entry es ++ bool false) ++ x)) y (sym (begins_true entry body begins d (flat_map entry es) x) ∙ e) in
    absurd (let d : true ≡ false = t.0 in cc)
list_same {E = E} entry body begins h (d ∷ es) (f ∷ fs) x y p q e =
    let one = h.once d f ((flat_map entry es ++ bool false) ++ x) ((flat_map entry fs ++ bool false) ++ y) p.0 q.0
    (sym (entries_parts (entry d) (flat_map entry es) x) ∙ e ∙ entries_parts (entry f) (flat_map entry fs) y) in
    let two = list_same entry body begins h es fs x y p.1 q.1 one.1 in
    (λ i. one.0 i ∷ two.0 i, two.1)

pub list_once : {E : Type 0} {P : E → Type 0} {entry : E → List ℕ} → HasOneReading P entry → (body : E → List ℕ) → ((e : E) → entry e ≡ bool true ++ body e)
    → HasOneReading (AllByRecursion P) (λ (es : List E). flat_map entry es ++ bool false)
list_once {entry = entry} h body begins = record { once = list_same entry body begins h }
