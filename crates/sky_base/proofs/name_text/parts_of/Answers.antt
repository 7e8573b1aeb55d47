use Rattle.std.proofs.Common.{◌≡◌, ℕ, List, Some, None, take, drop, get_or, sym, ap, ◌∙◌}
use Rattle.sky_base.proofs.NameTextLaws.{run_at, seq_at, kind_at, kind_read, same_fields}
use Rattle.sky_base.proofs.name_text.parts_of.Goals as goal

pub returns-in_err-number_of-clause-reads : goal.returns-in_err-number_of-clause-reads
returns-in_err-number_of-clause-reads c = λ name numbered text.
    let read = c.number_of.ensures.reads name.run numbered.run (sym (run_at name) ∙ ap (λ (t : List ℕ). take 16 (drop 2 t)) text) in
    let none : c.number_of.result ≡ None = c.in_err-number_of.was in
    cc

pub returns-in_err-number_of-2-clause-reads : goal.returns-in_err-number_of-2-clause-reads
returns-in_err-number_of-2-clause-reads c = λ name numbered text.
    let read = c.number_of-2.ensures.reads name.seq numbered.seq (sym (seq_at name) ∙ ap (λ (t : List ℕ). take 16 (drop 19 t)) text) in
    let none : c.number_of-2.result ≡ None = c.in_err-number_of-2.was in
    cc

pub returns-clause-reads : goal.returns-clause-reads
returns-clause-reads c = λ name numbered text.
    let dir : c.dir_of.result ≡ Some name.dir = c.dir_of.ensures name.dir (ap (λ (t : List ℕ). get_or t 0 0) text) in
    let dir_was : c.dir_of.result ≡ Some c.in_ok-dir_of.field-0 = c.in_ok-dir_of.was in
    let run = c.number_of.ensures.reads name.run numbered.run (sym (run_at name) ∙ ap (λ (t : List ℕ). take 16 (drop 2 t)) text) in
    let run_was : c.number_of.result ≡ Some c.in_ok-number_of.field-0 = c.in_ok-number_of.was in
    let seq = c.number_of-2.ensures.reads name.seq numbered.seq (sym (seq_at name) ∙ ap (λ (t : List ℕ). take 16 (drop 19 t)) text) in
    let seq_was : c.number_of-2.result ≡ Some c.in_ok-number_of-2.field-0 = c.in_ok-number_of-2.was in
    let kind = sym (kind_at name) ∙ ap (λ (t : List ℕ). get_or t 36 0) text in
    let is_dir : name.dir ≡ c.in_ok-dir_of.field-0 = cc in
    let is_run : name.run ≡ c.in_ok-number_of.field-0 = cc in
    let is_seq : name.seq ≡ c.in_ok-number_of-2.field-0 = cc in
    ap Some (same_fields name _ _ _ _ is_dir is_run is_seq (sym (kind_read name.last _ kind)))
