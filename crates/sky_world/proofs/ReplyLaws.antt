-- Laws of replies that are written.
use Rattle.std.proofs.Common.{◌≡◌, ◌≤◌, ℕ, Bool, true, false, if◌then◌else◌, Option, Some, None, Result, Ok, Err, IfOk, List, ◌++◌, length, take, drop, refl, sym, ap, subst, ◌∙◌, arith}
use Rattle.std.proofs.Math.Seq.{drop-append_seam}
use Rattle.std.proofs.lemmas.List.{take-append-le, length-take-le}
use Rattle.std.specs.Option.{option_map}
use Rattle.std.specs.Prelude.{IfSome}
use borrow.Rule.Slice.PartMut.{put_mid, post_of}
use Rattle.std.specs.Str.{bytes_eq}
use Rattle.sky_mount.specs.Mount.{MountCall, Null, Mnt, Dump, Umnt, UmntAll, Export, results, mount_results, root_handle, exported_path}
use Rattle.sky_mount.proofs.Sizes.{length-root, length-none, length-no_mounts, length-export}

-- the results of a call of MOUNT have at most 36 bytes
pub length_mounted : (number : ℕ) (call : MountCall) → length (results number call) ≤ 36
length_mounted number Null = omega arith
length_mounted number (Mnt path) = length-mnt (bytes_eq path exported_path)
  where
    length-mnt : (b : Bool) → length (mount_results (if b then Some (root_handle number) else None)) ≤ 36
    length-mnt true = omega (arith, length-root number)
    length-mnt false = omega (arith, length-none)
length_mounted number Dump = omega (arith, length-no_mounts)
length_mounted number (Umnt path) = omega arith
length_mounted number UmntAll = omega arith
length_mounted number Export = omega (arith, length-export)

-- the first n of what was written behind a prefix that stays
pub written_behind : (buffer out : List ℕ) (at k n : ℕ) → at ≤ length buffer → n ≤ length out → take n (drop at (put_mid at k buffer out)) ≡ take n out
written_behind buffer out at k n within fits =
    let prefix : length (take at buffer) ≡ at = length-take-le at buffer within in
    let rest : List ℕ = out ++ post_of at k buffer in
    let cut : drop at (take at buffer ++ rest) ≡ rest = ap (λ (i : ℕ). drop i (take at buffer ++ rest)) (sym prefix) ∙ drop-append_seam (take at buffer) rest in
    ap (take n) cut ∙ take-append-le n out (post_of at k buffer) fits

-- a record that was written behind a prefix that stays, if there is one
pub same_behind : (r : Option ℕ) (buffer out : List ℕ) (at k : ℕ) → at ≤ length buffer → 131072 ≤ length out → IfSome r (λ n. n ≤ 131072)
    → option_map (λ n. take n (drop at (put_mid at k buffer out))) r ≡ option_map (λ n. take n out) r
same_behind None buffer out at k within long fits = refl
same_behind (Some n) buffer out at k within long fits = ap Some (written_behind buffer out at k n within (omega (arith, fits, long)))

-- what holds of a record that was written behind a prefix that stays
pub behind : {E : Type 0} (r : Result (Option ℕ) E) (P : Option (List ℕ) → Type 0) (buffer out : List ℕ) (at k : ℕ) → at ≤ length buffer → 131072 ≤ length out → IfOk r (λ w. IfSome w (λ n. n ≤ 131072))
    → IfOk r (λ w. P (option_map (λ n. take n out) w)) → IfOk r (λ w. P (option_map (λ n. take n (drop at (put_mid at k buffer out))) w))
behind (Ok w) P buffer out at k within long fits holds = subst P (sym (same_behind w buffer out at k within long fits)) holds
behind (Err e) P buffer out at k within long fits holds = tt
