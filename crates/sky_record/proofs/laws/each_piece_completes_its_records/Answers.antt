use Rattle.sky_record.proofs.Reading.{records_stay, completes_some, completes_one}
use Rattle.sky_record.proofs.laws.each_piece_completes_its_records.Goals as goal

pub returns-clause-some : goal.returns-clause-some
returns-clause-some c = completes_some

pub returns-clause-one : goal.returns-clause-one
returns-clause-one c = completes_one

pub returns-clause-stay : goal.returns-clause-stay
returns-clause-stay c = records_stay
