use Rattle.std.proofs.Common.{◌∙◌, sym}
use Rattle.std.proofs.lemmas.Bool.{false≢true}
use Rattle.sky_words.proofs.Lines.{read-taken, read-refused}
use Rattle.sky_words.proofs.command.read_line.Goals as goal
use Rattle.sky_words.proofs.command.read_line.Goals.{else-are_known-via-then-are_known+else-are_complete, else-are_known-via-else-are_known}

pub returns-then-are_complete : goal.returns-then-are_complete
returns-then-are_complete c =
    read-taken c.in-Some.command _ _ c.in-Some.ensures (sym c.are_known.ensures ∙ c.if-are_known.true) (sym c.are_complete.ensures ∙ c.if-are_complete.true)

pub returns-else-are_known : goal.returns-else-are_known
returns-else-are_known c = elim c.else-are_known.branch [
  | else-are_known-via-then-are_known+else-are_complete w ↦
      read-refused c.in-Some.command _ _ c.in-Some.ensures (λ line. false≢true (sym w.if-are_complete.false ∙ w.are_complete.ensures ∙ line.needed))
  | else-are_known-via-else-are_known w ↦
      read-refused c.in-Some.command _ _ c.in-Some.ensures (λ line. false≢true (sym w.if-are_known.false ∙ c.are_known.ensures ∙ line.known))
]
