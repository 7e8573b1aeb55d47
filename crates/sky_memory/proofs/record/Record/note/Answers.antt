use Rattle.std.proofs.Common.{rules, ◌≡◌, ℕ, List, [], ◌∷◌, ◌++◌, length, ap, ◌∙◌}
use Rattle.sky_memory.specs.Record.{RecordState, noted}
use Rattle.sky_memory.specs.declared.record.Entry.{Entry}
use Rattle.sky_memory.proofs.RecordLaws.{keeps, entry_at, noted_is}
use Rattle.sky_memory.proofs.record.Record.note.Goals as goal

pub returns : goal.returns
returns c =
    let bs = c.self.inside.bytes.items in
    let more = c.args.bytes.now in
    let es = c.self.inside.entries.items in
    let new = entry_at c.args.step c.args.happened (length bs) (length more) in
    let most = c.self.inside.most in
    let room = c.self.inside.room in
    let bytes : c.extend_from_slice.new.self.items ≡ bs ++ more = search rules in
    let entries : c.push.new.self.items ≡ es ++ new ∷ [] = search rules in
    ap (λ (l : List ℕ). keeps most room l c.push.new.self.items) bytes
    ∙ ap (λ (l : List Entry). keeps most room (bs ++ more) l) entries
    ∙ noted_is bs more es c.args.step c.args.happened most room c.self.invariant.kept
    ∙ ap (λ (r : RecordState). noted r (record { step = c.args.step; bytes = more; happened = c.args.happened })) c.self.view_is
