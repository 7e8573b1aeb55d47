use Rattle.std.proofs.Common.{◌∙◌, sym, List, ℕ, ◌++◌, ap}
use Rattle.std.proofs.lemmas.Result.{on_ok_weaker}
use Rattle.sky_nfs.specs.Tree.{root}
use Rattle.sky_xdr.specs.Encoding.{uint, uhyper}
use Rattle.sky_xdr.specs.Writing.{written_of}
use Rattle.sky_mount.proofs.Sizes.{root-parts, seven_written}
use Rattle.sky_mount.proofs.results.put_root.Goals as goal

pub returns-clause-written : goal.returns-clause-written
returns-clause-written c =
    let before : List ℕ = written_of c.args.writer.now in
    let all = seven_written before (written_of c.put_u32.new.self) (written_of c.put_u32-2.new.self) (written_of c.put_u64.new.self) (written_of c.put_u64-2.new.self) (written_of c.put_u32-3.new.self) (written_of c.put_u32-4.new.self) (written_of c.put_u32-5.new.self)
    (uint 0) (uint 16) (uhyper c.args.volume) (uhyper root) (uint 2) (uint 1) (uint 0) c.in_ok-put_u32.ensures.written c.in_ok-put_u32-2.ensures.written c.in_ok-put_u64.ensures.written c.in_ok-put_u64-2.ensures.written c.in_ok-put_u32-3.ensures.written c.in_ok-put_u32-4.ensures.written in
    on_ok_weaker c.put_u32-5.result (λ last. all last ∙ ap (λ (t : List ℕ). before ++ t) (sym (root-parts c.args.volume))) c.put_u32-5.ensures.written
