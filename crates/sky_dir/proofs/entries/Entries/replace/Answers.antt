-- the directory is small, and so is the name
use Rattle.std.proofs.Common.{◌≡◌, ℕ, List, length, ap, ◌∙◌, arith}
use Rattle.sky_base.specs.Listing.{size_of_listing, without_entry}
use Rattle.sky_dir.proofs.ReplaceLemmas.{size_no_more}
use Rattle.sky_dir.proofs.entries.Entries.replace.Goals as goal

pub overflow_add-size : goal.overflow_add-size
overflow_add-size c =
    let long : length c.as_bytes.result.now ≡ length c.args.name = ap length c.as_bytes.ensures.same in
    let rest : c.size_without.result ≡ size_of_listing (without_entry c.args.self.now c.args.name) = c.size_without.ensures ∙ ap (λ (n : List ℕ). size_of_listing (without_entry c.args.self.now n)) c.as_bytes-2.ensures.same in
    omega (arith, size_no_more c.args.self.now c.args.name, rest, long, c.requires.size, c.as_bytes.ensures.most)
