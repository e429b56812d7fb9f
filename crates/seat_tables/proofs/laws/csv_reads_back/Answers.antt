use Rattle.seat_tables.proofs.Reading.{csv_reads_back}
use Rattle.seat_tables.proofs.laws.csv_reads_back.Goals as goal

pub returns : goal.returns
returns c = csv_reads_back
