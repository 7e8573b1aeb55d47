-- The last frame of a run, and what is known once it was tried.
use Rattle.std.proofs.Common.{◌≡◌, ◌∙◌, ap, ℕ, Option, Result, Ok, Err, List, [], length, OnOk, OnErr, IsErr, IsErrOf, refl, sym, subst, arith}
use Rattle.std.proofs.Math.Seq.{take-length}
use Rattle.sky_base.specs.declared.status.Status.{Status}
use Rattle.sky_outside.specs.Count.{Counts, Rose}
use Rattle.sky_outside.specs.Told.{Given, GivenPart}
use Rattle.sky_script.specs.Frame.{Ended, out_frame}
use Rattle.bluesky.specs.Run.{GaveEnding}

-- what a last frame that was tried to be written leaves
pub ending_from : {X E : Type 0} (r : Result X E) (s : Status) (a b : Option (List ℕ)) (x y : ℕ)
    → OnOk r (Given a b (out_frame (Ended s))) → OnErr r (GivenPart a b (out_frame (Ended s))) → Counts x y (IsErr r)
    → GaveEnding (record { before = a; after = b; faults_before = x; faults_after = y }) [] s
ending_from (Ok u) s a b x y ok err counts =
    let bytes : List ℕ = out_frame (Ended s) in
    record {
      kept = length bytes;
      given = subst (λ (z : List ℕ). Given a b z) (sym (take-length bytes)) ok;
      whole = λ all. counts.quiet (λ e. cc);
      cut = λ less. absurd (omega (arith, less));
    }
ending_from (Err e) s a b x y ok err counts = record {
  kept = err.0;
  given = err.2;
  whole = λ all. absurd (omega (arith, all, err.1));
  cut = λ less. counts.cause refl;
}

-- an answer that is well is no error
pub ok_not_err : {X E : Type 0} (r : Result X E) (x : X) (e : E) → r ≡ Ok x → r ≡ Err e → ⊥
ok_not_err r x e is told = absurd cc

-- one error is no other
pub other_err : {X E : Type 0} (r : Result X E) (d e : E) → r ≡ Err d → (d ≡ e → ⊥) → r ≡ Err e → ⊥
other_err r d e is other told = other cc

-- the count of a device over calls that did not fail and one that did, by what it is blamed for
pub err_counts : {X E : Type 0} (r : Result X E) (why e : E) (x y z : ℕ) (Q : Type 0) → r ≡ Err why → y ≡ x → Counts y z (IsErrOf r e) → (Q → why ≡ e) × (why ≡ e → Q) → Counts x z Q
err_counts r why e x y z Q is same counts blamed = record {
  grows = omega (arith, counts.grows);
  cause = λ q. subst (λ (n : ℕ). Rose n z) same (counts.cause (is ∙ ap Err (blamed.0 q)));
  quiet = λ no. counts.quiet (λ told. no (blamed.1 (let h : why ≡ e = cc in h))) ∙ same;
}

-- the count of a device over calls that did not fail, and further ones
pub counts_on : (x y z : ℕ) (Q : Type 0) → y ≡ x → Counts y z Q → Counts x z Q
counts_on x y z Q same counts = subst (λ (n : ℕ). Counts n z Q) same counts

-- a count stays where a call answered that all was well
pub ok_quiet : {X E : Type 0} (r : Result X E) (x : X) (a b : ℕ) → r ≡ Ok x → Counts a b (IsErr r) → b ≡ a
ok_quiet (Ok u) x a b is counts = counts.quiet (λ e. cc)
ok_quiet (Err e) x a b is counts = absurd cc
