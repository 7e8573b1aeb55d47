use Rattle.sky_record.proofs.Reading.{has_reading, one_reading, cut_reads, part_reads}
use Rattle.sky_record.proofs.laws.each_stream_has_one_reading.Goals as goal

pub returns-clause-some : goal.returns-clause-some
returns-clause-some c = has_reading

pub returns-clause-one : goal.returns-clause-one
returns-clause-one c = one_reading

pub returns-clause-any_cut : goal.returns-clause-any_cut
returns-clause-any_cut c = cut_reads

pub returns-clause-part : goal.returns-clause-part
returns-clause-part c = part_reads
