-- Results: those of MNT tell the handle, and no results go on as others of the same procedure.
use Rattle.std.proofs.Common.{◌≡◌, ℕ, ◌<◌, ◌^◌, Bool, true, false, cond, eqb, List, [], ◌++◌, length, Option, Some, None, IfSome, refl, sym, ap, subst, ◌∙◌, append_assoc, arith}
use Rattle.std.specs.Str.{bytes_eq}
use Rattle.std.proofs.lemmas.List.{append_cancel_left}
use Rattle.sky_xdr.specs.Encoding.{uint, opaque}
use Rattle.sky_xdr.proofs.Numbers.{uint_same}
use Rattle.sky_xdr.proofs.Opaques.{opaque_same}
use Rattle.sky_mount.specs.Mount.{MountCall, Null, Mnt, Dump, Umnt, UmntAll, Export, procedure_of, exported_path, auth_flavors, mount_results, mounted_at, root_handle, no_mounts, one_export, results}

-- a shorter form of the results of a handle
three : (a b c x : List ℕ) → (a ++ b ++ c) ++ x ≡ a ++ (b ++ (c ++ x))
three a b c x = simp append_assoc

pub mounts : (handle other : Option (List ℕ)) (x y : List ℕ) → IfSome handle (λ h. length h < 2 ^ 32) → IfSome other (λ h. length h < 2 ^ 32)
    → mount_results handle ++ x ≡ mount_results other ++ y → (handle ≡ other) × (x ≡ y)
unfolding mount_results
mounts None None x y p q e = (refl, (uint_same 2 2 x y (omega arith) (omega arith) e).1)
mounts None (Some h) x y p q e =
    let one = uint_same 2 0 x (opaque h ++ (auth_flavors ++ y)) (omega arith) (omega arith) (e ∙ three (uint 0) (opaque h) auth_flavors y) in absurd (omega (arith, one.0))
mounts (Some h) None x y p q e =
    let one = uint_same 2 0 y (opaque h ++ (auth_flavors ++ x)) (omega arith) (omega arith) (sym e ∙ three (uint 0) (opaque h) auth_flavors x) in absurd (omega (arith, one.0))
mounts (Some h) (Some k) x y p q e =
    let whole : uint 0 ++ (opaque h ++ (auth_flavors ++ x)) ≡ uint 0 ++ (opaque k ++ (auth_flavors ++ y)) = sym (three (uint 0) (opaque h) auth_flavors x) ∙ e ∙ three (uint 0) (opaque k) auth_flavors y in
    let zero = uint_same 0 0 (opaque h ++ (auth_flavors ++ x)) (opaque k ++ (auth_flavors ++ y)) (omega arith) (omega arith) whole in
    let handles = opaque_same h k (auth_flavors ++ x) (auth_flavors ++ y) p q zero.1 in
    (ap (λ (t : List ℕ). Some t) handles.0, append_cancel_left auth_flavors x y handles.1)

-- ---- of every procedure

-- the results of a procedure other than MNT
abbrev results_by : ℕ → List ℕ
results_by procedure = cond (eqb procedure 2) no_mounts (cond (eqb procedure 5) one_export [])

-- whether a procedure is MNT
abbrev is_mnt : ℕ → Bool
is_mnt procedure = eqb procedure 1

-- the results of a call of a procedure: of MNT those of some handle of 16 bytes or of none, and else always the same
abbrev ResultsBy : Bool → ℕ → List ℕ → Type 0
ResultsBy true procedure bytes = (handle : Option (List ℕ)) × IfSome handle (λ h. length h < 2 ^ 32) × (bytes ≡ mount_results handle)
ResultsBy false procedure bytes = bytes ≡ results_by procedure

mounted_short : (exported : Bool) (volume : ℕ) → IfSome (cond exported (Some (root_handle volume)) None) (λ h. length h < 2 ^ 32)
unfolding root_handle
mounted_short true volume = omega arith
mounted_short false volume = tt

by_procedure : (volume : ℕ) (call : MountCall) → ResultsBy (is_mnt (procedure_of call)) (procedure_of call) (results volume call)
by_procedure volume Null = refl
by_procedure volume (Mnt path) = (mounted_at volume path, mounted_short (bytes_eq path exported_path) volume, refl)
by_procedure volume Dump = refl
by_procedure volume (Umnt path) = refl
by_procedure volume UmntAll = refl
by_procedure volume Export = refl

-- results that go on
both_by : (mnt : Bool) (procedure : ℕ) (first second x y : List ℕ) → ResultsBy mnt procedure first → ResultsBy mnt procedure second → first ++ x ≡ second ++ y → (first ≡ second) × (x ≡ y)
both_by true procedure first second x y p q e =
    let same = mounts p.0 q.0 x y p.1 q.1 (ap (λ (t : List ℕ). t ++ x) (sym p.2) ∙ e ∙ ap (λ (t : List ℕ). t ++ y) q.2) in
    (p.2 ∙ ap mount_results same.0 ∙ sym q.2, same.1)
both_by false procedure first second x y p q e =
    let same : first ≡ second = p ∙ sym q in
    (same, append_cancel_left second x y (ap (λ (t : List ℕ). t ++ x) (sym same) ∙ e))

pub apart : (volume another : ℕ) (call other : MountCall) (x y : List ℕ) → procedure_of call ≡ procedure_of other → results volume call ++ x ≡ results another other ++ y
    → (results volume call ≡ results another other) × (x ≡ y)
apart volume another call other x y same e =
    let first : ResultsBy (is_mnt (procedure_of other)) (procedure_of other) (results volume call) = subst (λ (n : ℕ). ResultsBy (is_mnt n) n (results volume call)) same (by_procedure volume call) in
    both_by (is_mnt (procedure_of other)) (procedure_of other) (results volume call) (results another other) x y first (by_procedure another other) e
