use Rattle.seat_season.proofs.FolderLaws.{split_at_last}
use Rattle.seat_season.proofs.folder.folder_of.Goals as goal

pub returns-in-Some : goal.returns-in-Some
returns-in-Some c =
    let split = split_at_last c.args.file.now c.rsplit_once.result c.rsplit_once.ensures.cases in
    rw c.in-Some.is at split

pub returns-in-None : goal.returns-in-None
returns-in-None c =
    let split = split_at_last c.args.file.now c.rsplit_once.result c.rsplit_once.ensures.cases in
    rw c.in-None.is at split
