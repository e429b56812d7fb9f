use Rattle.std.proofs.Common.{ℕ, drop, ap, ◌∙◌}
use Rattle.std.proofs.lemmas.List.{drop_min, take_rest}
use Rattle.airimp_lines.proofs.requests.requests_behind.Goals as goal

pub returns : goal.returns
returns c =
    let all = c.args.requests.now in
    c.from_vec.ensures ∙ c.in-Ok.ensures.items ∙ take_rest all c.min-front.result ∙ ap (λ (k : ℕ). drop k all) c.min-front.ensures ∙ drop_min c.args.done all
