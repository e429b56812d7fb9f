use Rattle.desk_stream.proofs.Sent.{lived_again_books_nothing}
use Rattle.desk_stream.proofs.laws.lived_again_books_nothing.Goals as goal

pub returns : goal.returns
returns c = lived_again_books_nothing
