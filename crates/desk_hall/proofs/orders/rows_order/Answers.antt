use Rattle.std.proofs.Common.{◌≡◌, ◌<◌, ◌∷◌, [], None, Some, arith, get_or, length, rules}
use Rattle.desk_hall.proofs.Rows.{only_row, row_legless, row_made, row_right, rows_legless}
use Rattle.desk_hall.specs.OneLeg.{control_of}
use Rattle.desk_hall.proofs.orders.rows_order.Goals as goal

pub returns-in-Some-clause-right : goal.returns-in-Some-clause-right
returns-in-Some-clause-right c =
    let some : 0 < length c.args.rows.now = omega (arith, c.in-len1.len_at_least) in
    let few : length c.args.rows.now < 2 = omega (arith, c.in-len1.len_below) in
    let here : c.row-item.result ≡ get_or c.args.rows.now 0 c.row-item.result = search rules in
    let is : c.args.rows.now ≡ c.row-item.result ∷ [] = only_row c.args.rows.now c.row-item.result here some few in
    let at : control_of c.args.served.now c.row-item.result ≡ Some c.in-Some.control = search rules in
    row_right c.args.served.now c.args.text.now c.args.rows.now c.row-item.result c.in-Some.control c.requires.rows is at

pub returns-in-Some-clause-means : goal.returns-in-Some-clause-means
returns-in-Some-clause-means c =
    let some : 0 < length c.args.rows.now = omega (arith, c.in-len1.len_at_least) in
    let few : length c.args.rows.now < 2 = omega (arith, c.in-len1.len_below) in
    let here : c.row-item.result ≡ get_or c.args.rows.now 0 c.row-item.result = search rules in
    let is : c.args.rows.now ≡ c.row-item.result ∷ [] = only_row c.args.rows.now c.row-item.result here some few in
    let at : control_of c.args.served.now c.row-item.result ≡ Some c.in-Some.control = search rules in
    row_made c.args.served.now c.args.text.now c.args.rows.now c.row-item.result c.in-Some.control c.requires.rows is at

pub returns-in-None-clause-means : goal.returns-in-None-clause-means
returns-in-None-clause-means c =
    let some : 0 < length c.args.rows.now = omega (arith, c.in-len1.len_at_least) in
    let few : length c.args.rows.now < 2 = omega (arith, c.in-len1.len_below) in
    let here : c.row-item.result ≡ get_or c.args.rows.now 0 c.row-item.result = search rules in
    let is : c.args.rows.now ≡ c.row-item.result ∷ [] = only_row c.args.rows.now c.row-item.result here some few in
    let at : control_of c.args.served.now c.row-item.result ≡ None = search rules in
    row_legless c.args.served.now c.args.text.now c.args.rows.now c.row-item.result c.requires.rows is at

pub returns-in_default-clause-means : goal.returns-in_default-clause-means
returns-in_default-clause-means c =
    rows_legless c.args.served.now c.args.text.now c.args.rows.now c.requires.rows (omega (arith, c.in_default.len_at_least))
