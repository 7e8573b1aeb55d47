-- What a cloud's objects are after a put or a removal. Crates above cite these.
use Rattle.std.proofs.Common.{◌≡◌, ◌≢◌, ◌⊎◌, ⊎_elim, inl, inr, ℕ, true, false, cond, List, Some, None, Ordering, refl, sym, ◌∙◌, ap, subst}
use Rattle.std.specs.declared.cmp.Ordering.TheVariants.{Less, Equal, Greater}
use Rattle.std.specs.Ordering.{eq_by_cmp, is_eq}
use Rattle.std.specs.Cmp.{IsTotalOrder, tied_itself, on_total, then_total, nat_cmp_total, bool_cmp_total}
use Rattle.std.specs.FinMap.{IsAntisymmetric, get, get-insert, get-remove, same_map}
use Rattle.sky_base.specs.declared.object.SegName.{SegName}
use Rattle.sky_base.specs.Order.{name_order, place_of_dir}
use Rattle.sky_base.proofs.OrderLaws.{exact_names}
use Rattle.sky_outside.specs.CloudMap.{CloudMap, after_put, after_removal}

-- the order of names is total
pub names_total : IsTotalOrder name_order
names_total =
    then_total (on_total (λ (n : SegName). place_of_dir n.dir) nat_cmp_total)
    (then_total (on_total (λ (n : SegName). n.run) nat_cmp_total) (then_total (on_total (λ (n : SegName). n.seq) nat_cmp_total) (on_total (λ (n : SegName). n.last) bool_cmp_total)))

-- names that tie are the same
pub names_exact : IsAntisymmetric name_order
names_exact a b e = exact_names a b e

-- objects that are found alike are the same
pub same_objects : (m n : CloudMap) → ((q : SegName) → get m q ≡ get n q) → m ≡ n
same_objects m n is = same_map names_total names_exact m n is

ties : (o : Ordering) → (o ≡ Equal) ⊎ (is_eq o ≡ false)
ties Less = inr refl
ties Equal = inl refl
ties Greater = inr refl

unequal : (o : Ordering) → is_eq o ≡ false → o ≡ Equal → ⊥
unequal o differs e = absurd cc

-- a name is this one or another, which a look-up passes
pub this_or_other : (q name : SegName) → (q ≡ name) ⊎ ((q ≢ name) × (eq_by_cmp name_order q name ≡ false))
this_or_other q name =
    ⊎_elim (λ e. inl (names_exact q name e))
    (λ differs. inr ((λ same. unequal (name_order q name) differs (subst (λ (n : SegName). name_order q n ≡ Equal) same (tied_itself names_total q))), differs)) (ties (name_order q name))

this : (name : SegName) → eq_by_cmp name_order name name ≡ true
this name = ap is_eq (tied_itself names_total name)

pub get-put : (m : CloudMap) (name : SegName) (bytes : List ℕ) → get (after_put name bytes m) name ≡ Some bytes
get-put m name bytes = get-insert names_total m name bytes name ∙ ap (λ b. cond b (Some bytes) (get m name)) (this name)

pub get-put_other : (m : CloudMap) (name : SegName) (bytes : List ℕ) (q : SegName) → q ≢ name → get (after_put name bytes m) q ≡ get m q
get-put_other m name bytes q differ =
    get-insert names_total m name bytes q ∙ ⊎_elim (λ same. absurd (differ same)) (λ other. ap (λ b. cond b (Some bytes) (get m q)) other.1) (this_or_other q name)

pub get-removal : (m : CloudMap) (name : SegName) → get (after_removal name m) name ≡ None
get-removal m name = get-remove names_total m name name ∙ ap (λ b. cond b None (get m name)) (this name)

pub get-removal_other : (m : CloudMap) (name q : SegName) → q ≢ name → get (after_removal name m) q ≡ get m q
get-removal_other m name q differ =
    get-remove names_total m name q ∙ ⊎_elim (λ same. absurd (differ same)) (λ other. ap (λ b. cond b None (get m q)) other.1) (this_or_other q name)

-- objects that differ in this one alone
pub is_put : (m n : CloudMap) (name : SegName) (bytes : List ℕ) → get n name ≡ Some bytes → ((q : SegName) → q ≢ name → get n q ≡ get m q) → n ≡ after_put name bytes m
is_put m n name bytes here others =
    same_objects n (after_put name bytes m)
    (λ q. ⊎_elim (λ same. subst (λ (r : SegName). get n r ≡ get (after_put name bytes m) r) (sym same) (here ∙ sym (get-put m name bytes)))
    (λ other. others q other.0 ∙ sym (get-put_other m name bytes q other.0)) (this_or_other q name))

pub is_removal : (m n : CloudMap) (name : SegName) → get n name ≡ None → ((q : SegName) → q ≢ name → get n q ≡ get m q) → n ≡ after_removal name m
is_removal m n name here others =
    same_objects n (after_removal name m)
    (λ q. ⊎_elim (λ same. subst (λ (r : SegName). get n r ≡ get (after_removal name m) r) (sym same) (here ∙ sym (get-removal m name)))
    (λ other. others q other.0 ∙ sym (get-removal_other m name q other.0)) (this_or_other q name))
