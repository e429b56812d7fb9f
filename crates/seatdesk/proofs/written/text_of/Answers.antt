use Rattle.seatdesk.proofs.Rows.{begun}
use Rattle.seatdesk.proofs.written.text_of.Goals as goal

pub returns : goal.returns
returns c = begun _ _ _ _ _ _ c.new-text.ensures.bytes c.in_ok-put_row.ensures c.in_ok-put_further.ensures c.in_ok-put_further-2.ensures c.in_ok-put_numbers.ensures
