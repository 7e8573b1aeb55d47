use Rattle.std.proofs.Common.{◌≡◌, ℕ, List, [], ◌∷◌, ◌++◌, length, refl, ap, ◌∙◌}
use Rattle.sky_base.specs.NameText.{dir_letter, kind_letter, hex_digits, name_text}
use Rattle.sky_base.specs.declared.object.SegName.{SegName}
use Rattle.sky_base.proofs.NameTextLaws.{filled, hex_digits-length}
use Rattle.sky_base.proofs.object.SegName.to_text.Goals as goal

-- a text with a name's letters and digits is its text
is_text : (name : SegName) (d k : ℕ) (run seq : List ℕ) → d ≡ dir_letter name.dir → k ≡ kind_letter name.last → run ≡ hex_digits 16 name.run → seq ≡ hex_digits 16 name.seq
    → d ∷ 47 ∷ (run ++ 47 ∷ (seq ++ 46 ∷ k ∷ [])) ≡ name_text name
is_text name d k run seq is_d is_k is_run is_seq = rw (is_d, is_k, is_run, is_seq) refl

pub returns : goal.returns
returns c =
    let run : c.copy_from_slice.new.self ≡ hex_digits 16 c.args.self.now.run = c.copy_from_slice.ensures.after ∙ c.digits.ensures in
    let seq : c.copy_from_slice-2.new.self ≡ hex_digits 16 c.args.self.now.seq = c.copy_from_slice-2.ensures.after ∙ c.digits-2.ensures in
    filled c.letter_of.result c.kind_of.result c.copy_from_slice.new.self c.copy_from_slice-2.new.self (ap length run ∙ hex_digits-length 16 c.args.self.now.run) (ap length seq ∙ hex_digits-length 16 c.args.self.now.seq)
    ∙ is_text c.args.self.now _ _ _ _ c.letter_of.ensures c.kind_of.ensures run seq
