-- A buffer into which a body was written, and then what stands before it.
use Rattle.std.proofs.Common.{◌≡◌, ℕ, ◌+◌, ◌-◌, ◌≤◌, List, ◌++◌, length, take, drop, sym, ap, ◌∙◌, append_assoc, arith}
use Rattle.std.proofs.lemmas.List.{take_at, drop_at, take-append-drop, length-append, length-take, drop-drop}
use borrow.Rule.Slice.PartMut.{put_mid}
use Rattle.sky_xdr.proofs.Puts.{put_prefix}

-- what stands from the body on
behind_front : (k m : ℕ) (old part body : List ℕ) → k + m ≤ length old → take m part ≡ body
    → drop m part ≡ drop m (take (length old - k) (drop k old))
    → drop k (put_mid k (length old - k) old part) ≡ body ++ drop m (drop k old)
behind_front k m old part body room first rest =
    let is : part ≡ body ++ drop m (take (length old - k) (drop k old)) =
    sym (take-append-drop m part) ∙ ap (λ (t : List ℕ). t ++ drop m part) first ∙ ap (λ (t : List ℕ). body ++ t) rest in
    ap (drop k) (put_prefix k m old body part is) ∙ drop_at (take k old) (body ++ drop m (drop k old)) k (omega (arith, length-take k old))

-- a front and a body, one behind the other
pub record Wrote (k m : ℕ) (old new front body : List ℕ) : Type 0 where
  pub written : take (k + m) new ≡ front ++ body
  pub behind : drop (k + m) new ≡ drop (k + m) old

pub whole_written : (k m : ℕ) (old part new front body : List ℕ) → k + m ≤ length old → k ≡ length front → m ≡ length body
    → take m part ≡ body → drop m part ≡ drop m (take (length old - k) (drop k old))
    → take k new ≡ front → drop k new ≡ drop k (put_mid k (length old - k) old part) → Wrote k m old new front body
whole_written k m old part new front body room size_front size_body first rest before behind =
    let is : new ≡ (front ++ body) ++ drop m (drop k old) =
    sym (take-append-drop k new) ∙ ap (λ (t : List ℕ). t ++ drop k new) before
    ∙ ap (λ (t : List ℕ). front ++ t) (behind ∙ behind_front k m old part body room first rest) ∙ sym (append_assoc front body (drop m (drop k old))) in
    let long : length (front ++ body) ≡ k + m = omega (arith, length-append front body) in
    record {
      written = ap (take (k + m)) is ∙ take_at (front ++ body) (drop m (drop k old)) (k + m) long;
      behind = ap (drop (k + m)) is ∙ drop_at (front ++ body) (drop m (drop k old)) (k + m) long ∙ drop-drop m k old;
    }
