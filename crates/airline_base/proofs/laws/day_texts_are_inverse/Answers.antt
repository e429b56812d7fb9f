use Rattle.airline_base.proofs.DateLaws.{written_is_read, read_is_written, one_date_text}
use Rattle.airline_base.proofs.laws.day_texts_are_inverse.Goals as goal

pub returns-clause-read : goal.returns-clause-read
returns-clause-read c = written_is_read

pub returns-clause-written : goal.returns-clause-written
returns-clause-written c = read_is_written

pub returns-clause-one : goal.returns-clause-one
returns-clause-one c = one_date_text
