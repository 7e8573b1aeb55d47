-- The way up from a directory, step by step.
use Rattle.std.proofs.Common.{◌≡◌, ℕ, zero, suc, ◌-◌, ◌+◌, ◌<◌, refl, ap, ◌∙◌, true, false, arith}
use Rattle.std.specs.Prelude.{Bool, ◌==◌}
use Rattle.std.specs.List.{list_any}
use Rattle.sky_nfs.specs.Tree.{Tree, ancestors, parent_of, the_node}

-- whether one of so many directories, from one up, is another one
abbrev pub leads_to : Tree → ℕ → ℕ → ℕ → Bool
leads_to t n dir above = list_any (λ d. d == above) (ancestors t n dir)

fewer : (n i : ℕ) → i < n → n - i ≡ suc (n - (i + 1))
fewer n i h = omega arith

-- it is the first one
pub leads_here : (t : Tree) (n i dir above : ℕ) → i < n → (dir == above) ≡ true → leads_to t (n - i) dir above ≡ true
leads_here t n i dir above h is = rw (fewer n i h, is) refl

-- or one of the others
pub leads_on : (t : Tree) (n i dir above : ℕ) → i < n → (dir == above) ≡ false → leads_to t (n - i) dir above ≡ leads_to t (n - (i + 1)) (parent_of (the_node t dir)) above
leads_on t n i dir above h is = rw (fewer n i h, is) refl

-- a directory that is its own parent leads nowhere
pub leads_nowhere : (t : Tree) (n dir above : ℕ) → parent_of (the_node t dir) ≡ dir → (dir == above) ≡ false → leads_to t n dir above ≡ false
leads_nowhere t zero dir above top is = refl
leads_nowhere t (suc n) dir above top is = rw is (ap (λ (d : ℕ). leads_to t n d above) top ∙ leads_nowhere t n dir above top is)
