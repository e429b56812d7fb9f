use Rattle.std.proofs.Common.{◌≡◌, ℕ, List, [], ◌++◌, codes, decimal, ap, sym, ◌∙◌, append_assoc}
use Rattle.airimp_lines.specs.declared.look.Look.{Look}
use Rattle.airline_base.specs.Days.{IsDateText}
use Rattle.desk_answers.specs.Looks.{IsAhead}
use Rattle.desk_answers.proofs.looking.ahead.Goals as goal

joined : (front a b c d e : List ℕ) → front ++ (a ++ b ++ c ++ d ++ e) ≡ front ++ a ++ b ++ c ++ d ++ e
joined front a b c d e =
    sym (append_assoc front (a ++ b ++ c ++ d) e) ∙ ap (λ (l : List ℕ). l ++ e) (sym (append_assoc front (a ++ b ++ c) d)
    ∙ ap (λ (l : List ℕ). l ++ d) (sym (append_assoc front (a ++ b) c) ∙ ap (λ (l : List ℕ). l ++ c) (sym (append_assoc front a b))))

-- its three parts, put together
ahead_of : (count : ℕ) (look : Look) (flight day lines asked none first second text : List ℕ) → none ≡ []
    → lines ≡ codes "LOOK " ++ decimal count ++ codes " " → first ≡ none ++ lines → second ≡ first ++ flight
    → IsDateText look.day day → asked ≡ codes " " ++ day ++ codes " " ++ look.board ++ look.off → text ≡ second ++ asked
    → IsAhead count look flight text
ahead_of count look flight day lines asked none first second text empty counted one two dated parts three =
    let front : List ℕ = codes "LOOK " ++ decimal count ++ codes " " in
    let begins : first ≡ front = one ∙ (ap (λ (l : List ℕ). l ++ lines) empty ∙ counted) in
    let led : second ≡ front ++ flight = two ∙ ap (λ (l : List ℕ). l ++ flight) begins in
    record {
      day = day;
      is_day = dated;
      written = three ∙ ((λ i. led i ++ parts i) ∙ joined (front ++ flight) (codes " ") day (codes " ") look.board look.off);
    }

pub returns : goal.returns
returns g c =
    let lines : c.as_slice.result.now ≡ codes "LOOK " ++ decimal (g.S.Seats.count c.args.seats.now) ++ codes " " =
    c.as_slice.ensures.value ∙ (c.lines_part.ensures ∙ ap (λ (n : ℕ). codes "LOOK " ++ decimal n ++ codes " ") c.lines_seen.ensures) in
    ahead_of (g.S.Seats.count c.args.seats.now) c.args.look.now c.args.flight.now c.bytes.result c.as_slice.result.now c.as_slice-2.result.now
    c.new-text.result.items c.put.new.text.items c.put-2.new.text.items c.put-3.new.text.items c.new-text.ensures.items lines
    c.in_ok-put.ensures c.in_ok-put-2.ensures c.bytes.ensures (c.as_slice-2.ensures.value ∙ c.asked_part.ensures) c.in_ok-put-3.ensures
