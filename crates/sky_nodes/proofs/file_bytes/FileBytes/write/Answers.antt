use Rattle.std.proofs.Common.{◌≡◌, ◌+◌, ◌++◌, length, take, drop, replicate, ◌-◌, ℕ, List, ap, sym, ◌∙◌, arith}
use Rattle.sky_nfs.specs.Changes.{written}
use Rattle.sky_nodes.proofs.WritingLemmas.{written_longer, written_within}
use Rattle.sky_nodes.specs.declared.file_bytes.FileBytes.TheInside.{Inside}
use Rattle.sky_nodes.proofs.file_bytes.FileBytes.write.Goals as goal
use Rattle.sky_nodes.proofs.file_bytes.FileBytes.write.Goals.{then-len-end+in_ok-resize, else-len-end}

pub returns-clause-written : goal.returns-clause-written
returns-clause-written c =
    let o = c.args.offset in
    let piece = c.args.piece.now in
    let old = c.self.inside.bytes in
    let here : written old.items o piece ≡ written c.args.self.now o piece = ap (λ (z : List ℕ). written z o piece) c.self.view_is in
    let made : take o c.if-len-end.self-inside.bytes.items ++ piece ++ drop (o + length piece) c.if-len-end.self-inside.bytes.items ≡ written old.items o piece =
    elim c.if-len-end.branch [
      | then-len-end+in_ok-resize w ↦
          written_longer old.items c.if-len-end.self-inside.bytes.items c.len.result o piece (c.len.ensures ∙ old.ok.0) w.if-len-end.true
          (ap (λ (i : Inside). i.bytes.items) w.self-inside-is ∙ w.in_ok-resize.ensures.items ∙ ap (λ (n : ℕ). take (o + length piece) old.items ++ replicate (o + length piece - n) 0) (sym c.len.ensures))
      | else-len-end w ↦
          let same : c.if-len-end.self-inside.bytes.items ≡ old.items = ap (λ (i : Inside). i.bytes.items) w.self-inside-is in
          rw same (written_within old.items o piece (omega (arith, w.if-len-end.false, c.len.ensures, old.ok.0)))
    ] in
    c.overwrite.ensures ∙ made ∙ here
