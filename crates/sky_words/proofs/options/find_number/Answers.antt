use Rattle.sky_words.proofs.options.find_number.Goals as goal

pub returns-in-Some : goal.returns-in-Some
returns-in-Some c = rw (← c.in-Some.ensures) c.read_number.ensures
