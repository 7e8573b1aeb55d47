-- The order of object names, as the code compares them. Crates above cite these.
use Rattle.std.proofs.Common.{◌≡◌, ◌≢◌, ℕ, Bool, true, false, Ordering, refl, sym, ◌∙◌, ap}
use Rattle.std.specs.declared.cmp.Ordering.TheVariants.{Less, Equal, Greater}
use Rattle.std.specs.Ordering.{ordering_then, bool_cmp, is_eq, nat_cmp}
use mathlib.Core.Path.{fun_ext}
use Rattle.std.specs.BTreeMap.{is_at}
use Rattle.std.proofs.lemmas.Map.Lookups.{exact_unsigned}
use Rattle.sky_base.specs.Order.{name_order, place_of_dir}
use Rattle.sky_base.specs.declared.object.SegName.{SegName}
use Rattle.sky_base.specs.declared.object.Dir.{Dir}
use Rattle.sky_base.specs.declared.object.Dir.TheVariants.{Proxy, Cleaner}
use Rattle.sky_base.specs.contracts.object.DirOrd.TheImpl as dir_ord
use Rattle.sky_base.specs.contracts.object.SegNameOrd.TheImpl as name_ord

-- the order that the code has of names
abbrev pub name_cmp : SegName → SegName → Ordering
name_cmp = (name_ord.ghosts).cmp

dir_cmp_is : (a b : Dir) → (dir_ord.ghosts).cmp a b ≡ nat_cmp (place_of_dir a) (place_of_dir b)
dir_cmp_is Proxy Proxy = refl
dir_cmp_is Proxy Cleaner = refl
dir_cmp_is Cleaner Proxy = refl
dir_cmp_is Cleaner Cleaner = refl

names_compared : (a b : SegName) → name_cmp a b ≡ name_order a b
names_compared a b =
    ap (λ (o : Ordering). ordering_then o (ordering_then (nat_cmp a.run b.run) (ordering_then (nat_cmp a.seq b.seq) (bool_cmp a.last b.last)))) (dir_cmp_is a.dir b.dir)

-- names are compared as the definition says
pub name_cmp_is : name_cmp ≡ name_order
name_cmp_is = fun_ext (λ a. fun_ext (λ b. names_compared a b))

both_equal : (x y : Ordering) → ordering_then x y ≡ Equal → (x ≡ Equal) × (y ≡ Equal)
both_equal Less y e = absurd cc
both_equal Equal y e = (refl, e)
both_equal Greater y e = absurd cc

exact_dirs : (x y : Dir) → nat_cmp (place_of_dir x) (place_of_dir y) ≡ Equal → x ≡ y
exact_dirs Proxy Proxy e = refl
exact_dirs Proxy Cleaner e = absurd cc
exact_dirs Cleaner Proxy e = absurd cc
exact_dirs Cleaner Cleaner e = refl

exact_bools : (x y : Bool) → bool_cmp x y ≡ Equal → x ≡ y
exact_bools true true e = refl
exact_bools true false e = absurd cc
exact_bools false true e = absurd cc
exact_bools false false e = refl

name_of : Dir → ℕ → ℕ → Bool → SegName
name_of dir run seq last = record { dir = dir; run = run; seq = seq; last = last }

name_of-parts : (a : SegName) → name_of a.dir a.run a.seq a.last ≡ a
unfolding name_of
name_of-parts a = refl

-- names that tie are the same
pub exact_names : (a b : SegName) → name_order a b ≡ Equal → a ≡ b
exact_names a b e =
    let at_dir = both_equal _ _ e in
    let at_run = both_equal _ _ at_dir.1 in
    let at_seq = both_equal _ _ at_run.1 in
    let dir : a.dir ≡ b.dir = exact_dirs _ _ at_dir.0 in
    let run : a.run ≡ b.run = exact_unsigned _ _ at_run.0 in
    let seq : a.seq ≡ b.seq = exact_unsigned _ _ at_seq.0 in
    let last : a.last ≡ b.last = exact_bools _ _ at_seq.1 in
    let parts : name_of a.dir a.run a.seq a.last ≡ name_of b.dir b.run b.seq b.last = cc in
    sym (name_of-parts a) ∙ parts ∙ name_of-parts b

unequal : (o : Ordering) → o ≢ Equal → is_eq o ≡ false
unequal Less h = refl
unequal Equal h = absurd (h refl)
unequal Greater h = refl

-- a look-up of a name passes each other name
pub is_at-other : (name other : SegName) → other ≢ name → is_at (name_order name) other ≡ false
is_at-other name other differ = unequal (name_order name other) (λ e. differ (sym (exact_names name other e)))
