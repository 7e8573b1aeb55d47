-- Laws of answers: the tree after them is the history's.
use Rattle.std.proofs.Common.{◌≡◌, Bool, true, false, ◌&&◌, Option, Some, None, is_none, List, [], ◌∷◌, ◌++◌, refl, sym}
use Rattle.sky_base.specs.declared.cred.Cred.{Cred}
use Rattle.sky_base.specs.declared.moment.Moment.{Moment}
use Rattle.sky_nfs.specs.Calls.{is_change}
use Rattle.sky_nfs.specs.History.{History, last_tree, tree_after_change, tree_after_changes, is_done}
use Rattle.sky_nfs.specs.Procedure.{refusal_of, tree_after}
use Rattle.sky_nfs.specs.Tree.{Tree}
use Rattle.sky_nfs.specs.declared.call.Call.{Call}
use Rattle.sky_nfs.specs.declared.call.Change.{Change}
use Rattle.sky_nfs.specs.declared.status.NfsStatus.{NfsStatus}
use Rattle.sky_nfs.proofs.ProcedureLemmas.{tree_after-refused, tree_after-reading}
use Rattle.sky_world.specs.Meaning.{after_call}

-- changes, and one more
changes_then : (t : Tree) (changes : List Change) (change : Change) → tree_after_changes t (changes ++ change ∷ []) ≡ tree_after_change (tree_after_changes t changes) change
changes_then t [] change = refl
changes_then t (c ∷ changes) change = changes_then (tree_after_change t c) changes change

-- a call that is not done leaves the tree
not_done : (t : Tree) (cred : Cred) (call : Call) (moment : Moment) (changes : Bool) (refusal : Option NfsStatus) → is_change call ≡ changes → refusal_of t cred call ≡ refusal
    → (changes && is_none refusal) ≡ false → tree_after t cred call moment ≡ t
not_done t cred call moment false refusal e r d = tree_after-reading t cred call moment e
not_done t cred call moment true (Some status) e r d = tree_after-refused t cred call moment status r
not_done t cred call moment true None e r d = absurd cc

-- the tree that a call leads to
pub called_tree : (h : History) (cred : Cred) (call : Call) (moment : Moment) → last_tree (after_call h cred call moment) ≡ tree_after (last_tree h) cred call moment
called_tree h cred call moment = go (is_done (last_tree h) change) refl
  where
    change : Change
    change = record { cred = cred; moment = moment; call = call }

    go : (b : Bool) → is_done (last_tree h) change ≡ b → last_tree (after_call h cred call moment) ≡ tree_after (last_tree h) cred call moment
    go true e = rw e (changes_then h.tree h.changes change)
    go false e = rw e (sym (not_done (last_tree h) cred call moment (is_change call) (refusal_of (last_tree h) cred call) refl refl e))
