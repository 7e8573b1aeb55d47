use Rattle.std.proofs.Common.{ℕ, List, ◌++◌, take, drop, sym, ap, append_assoc, ◌∙◌}
use Rattle.std.proofs.lemmas.List.{drop-drop}
use Rattle.sky_xdr.specs.Encoding.{uint}
use Rattle.sky_segment.proofs.writing.write_count.Goals as goal

pub returns-clause-written : goal.returns-clause-written
unfolding uint
returns-clause-written c =
    let old : List ℕ = c.args.bytes.now in
    ap (λ (t : List ℕ). take 32 old ++ (t ++ drop 4 (drop 32 old))) (c.copy_from_slice.ensures.after ∙ c.to_be_bytes.ensures) ∙ ap (λ (t : List ℕ). take 32 old ++ (uint c.args.count ++ t)) (drop-drop 4 32 old)
    ∙ sym (append_assoc (take 32 old) (uint c.args.count) (drop 36 old))
