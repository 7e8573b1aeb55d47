use Rattle.std.proofs.Common.{drop, ap, ◌∙◌, Ok, refl}
use Rattle.std.specs.declared.alloc.AllocError.{AllocError}
use Rattle.std.specs.Vec.Iter.{into_iter_items}
use Rattle.std.proofs.lemmas.Iterator.{items_from_collect}
use Rattle.std.proofs.lemmas.Iterator.Adapters.{YieldsList-from_vec}
use Rattle.bluesky.proofs.words_of.Goals as goal

pub returns-in-Ok-clause-words : goal.returns-in-Ok-clause-words
returns-in-Ok-clause-words c =
    let all = into_iter_items c.args.args in
    let items = items_from_collect {E = AllocError} (Ok c.in-Ok.all) c.in-Ok.ensures.ran (YieldsList-from_vec {s = c.args.args} all refl c.args.args.rest.ok.0) in
    c.without_name.ensures ∙ ap (drop 1) items
