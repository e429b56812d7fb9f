use Rattle.desk_feed.proofs.Living.{lived_again_books_nothing}
use Rattle.desk_feed.proofs.laws.lived_again_books_nothing.Goals as goal

pub returns : goal.returns
returns c = lived_again_books_nothing
