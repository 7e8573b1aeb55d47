use Rattle.std.proofs.Common.{◌≡◌, ◌+◌, ◌-◌, ◌++◌, length, take, sym, ap, ◌∙◌, arith, length-append, length-take}
use borrow.Rule.Slice.PartMut.{put_mid}
use Rattle.std.proofs.lemmas.Slice.{take-put_mid}
use Rattle.sky_record.specs.Stream.{AtHeader}
use Rattle.sky_record.proofs.Sound.{short_header}
use Rattle.sky_record.proofs.assembler.take_header.Goals as goal

pub returns-then-count-taken-lt-HEADER_SIZE-clause-state :
    goal.returns-then-count-taken-lt-HEADER_SIZE-clause-state
returns-then-count-taken-lt-HEADER_SIZE-clause-state c =
    let n = c.args.count in
    let k = c.min-taken.result in
    let h = c.args.header.now in
    let p = c.args.piece.now in
    let both : take (n + k) (put_mid n (n + k - n) h c.copy_from_slice.new.self) ≡ take n h ++ take k p =
    take-put_mid n (n + k - n) h c.copy_from_slice.new.self (n + k) (omega (arith, ap length c.copy_from_slice.ensures.after, length-take k p)) (omega arith) ∙ ap (λ t. take n h ++ t) c.copy_from_slice.ensures.after in
    ap AtHeader both ∙ sym (short_header c.args.had (take n h ++ take k p) (omega (arith, length-append (take n h) (take k p), length-take n h, length-take k p)))
