-- What the laws of recorded sessions speak of.
use Rattle.std.specs.Prelude.{◌≡◌, ◌≤◌, ℕ, Bool, true, List, ◌++◌}
use Rattle.std.specs.List.{AllByRecursion}
use Rattle.sky_nfs.specs.History.{History, history_length}
use Rattle.sky_nfs.specs.declared.call.Change.{Change}
use Rattle.sky_rpc.specs.Reply.{reply_record}
use Rattle.sky_script.specs.Frame.{InFrame, Restart, RestartWithoutJournal, OutFrame, Reply}
use Rattle.sky_sound.specs.Kept.{Kept}
use Rattle.sky_world.specs.Service.{reply_without_memory}

-- a frame tells a session that there was no memory for a call
abbrev pub TellsOutOfMemory : OutFrame → Type 0
TellsOutOfMemory (Reply number bytes) = (xid procedure : ℕ) × (bytes ≡ reply_record xid (reply_without_memory procedure))
TellsOutOfMemory _ = ⊥

-- none of the frames does
abbrev pub NoneOutOfMemory : List OutFrame → Type 0
NoneOutOfMemory outs = AllByRecursion (λ out. TellsOutOfMemory out → ⊥) outs

-- a history goes on from another: it has further changes behind the other's
abbrev pub GoesOnFrom : History → History → Type 0
GoesOnFrom old new = (more : List Change) × (new ≡ record old { changes = old.changes ++ more })

-- What a frame leads to is known beforehand: it is no restart of a site that does not tell what it has.
abbrev pub IsForeseen : Bool → InFrame → Type 0
IsForeseen told Restart = told ≡ true
IsForeseen told RestartWithoutJournal = told ≡ true
IsForeseen told _ = Unit {0}

-- The numbers are in order: what is completed is stored, what is marked is stored, and what is stored lies within the history.
pub record IsMarked (kept : Kept) : Type 0 where
  pub begins : kept.history.before ≤ kept.completed
  pub completed : kept.completed ≤ kept.stored
  pub least : kept.history.before ≤ kept.mark
  pub marked : kept.mark ≤ kept.stored
  pub most : kept.stored ≤ history_length kept.history
