-- A history: what became of a tree by changes, one after another.
use Rattle.std.specs.Prelude.{ℕ, ◌+◌, ◌-◌, Bool, true, ◌&&◌, IsTrue, List, [], ◌∷◌, length, take, is_none}
use Rattle.sky_nfs.specs.declared.call.Change.{Change}
use Rattle.sky_nfs.specs.Calls.{is_change}
use Rattle.sky_nfs.specs.Procedure.{refusal_of, tree_after}
use Rattle.sky_nfs.specs.Tree.{Tree}
use Rattle.sky_nfs.specs.Validity.{IsValidTree}

-- how many changes were made before, the tree that they left, and the changes since, each of which was answered OK
pub record History : Type 0 where
  pub before : ℕ
  pub tree : Tree
  pub changes : List Change

-- how many changes were made in all
abbrev pub history_length : History → ℕ
history_length h = h.before + length h.changes

-- the tree after a change
abbrev pub tree_after_change : Tree → Change → Tree
tree_after_change t change = tree_after t change.cred change.call change.moment

-- the tree after changes, in their order
abbrev pub tree_after_changes : Tree → List Change → Tree
tree_after_changes t [] = t
tree_after_changes t (change ∷ changes) = tree_after_changes (tree_after_change t change) changes

-- the tree when this many changes were made: from those before the history to all of them
abbrev pub tree_at_length : History → ℕ → Tree
tree_at_length h n = tree_after_changes h.tree (take (n - h.before) h.changes)

-- the tree that a history leads to
abbrev pub last_tree : History → Tree
last_tree h = tree_after_changes h.tree h.changes

-- whether a call of a procedure that changes the tree is answered OK
abbrev pub is_done : Tree → Change → Bool
is_done t change = is_change change.call && is_none (refusal_of t change.cred change.call)

-- whether each of the changes is answered OK at its place
abbrev pub are_done : Tree → List Change → Bool
are_done t [] = true
are_done t (change ∷ changes) = is_done t change && are_done (tree_after_change t change) changes

-- a history that can have come about: it begins at a valid tree, and each change is answered OK
pub record IsLegalHistory (h : History) : Type 0 where
  pub valid : IsValidTree h.tree
  pub done : IsTrue (are_done h.tree h.changes)
