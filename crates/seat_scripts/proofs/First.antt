-- Behind a journal without lines all is new.
use Rattle.std.proofs.Common.{◌≡◌, ℕ, ◌-◌, List, [], ◌++◌, length, map, refl, sym, ap, ◌∙◌, subst, arith}
use Rattle.seat_scripts.proofs.Common.{Command, Entry, by_session, idle, lists_over, commands_of, IsHistoryOf, works_in}
use Rattle.std.proofs.lemmas.List.{append-nil}
use Rattle.seat_journal.proofs.TextLaws.{one_text}
use Rattle.seat_replies.proofs.Histories.{as_replies}
use Rattle.seat_scripts.specs.First.{RunsFromNoLines}
use Rattle.seat_replies.specs.Going.{highest_to}
use Rattle.seat_replies.specs.RunDesk.{AreReplies}

-- no session is opened but for the lists
lists_alone : (past : List Entry) (lists : List (List Command)) → past ≡ [] → lists_over past lists ≡ lists
lists_alone past lists nothing =
    let lowest : highest_to 8 [] ≡ 0 = refl in
    let none : highest_to 8 past - length lists ≡ 0 = omega (arith, ap (highest_to 8) nothing, lowest) in
    ap (λ (k : ℕ). lists ++ idle k) none ∙ append-nil lists

pub runs_from_no_lines : RunsFromNoLines
runs_from_no_lines set limits first days today after texts changing journal replies empty run =
    let lists = map (commands_of run.flights) run.scripts in
    let nothing : run.past ≡ [] = one_text after run.past [] run.is_asked.is_past.is_text empty in
    let h = subst (λ (l : List (List Command)). IsHistoryOf run.grid run.past run.changes l run.history run.receipts) (lists_alone run.past lists nothing) run.is_history in
    let history : run.history ≡ h.added = h.goes_on ∙ ap (λ (l : List Entry). l ++ h.added) nothing in
    let added = run.is_history.added in
    let answered : run.history ≡ added = run.is_history.goes_on ∙ ap (λ (l : List Entry). l ++ added) nothing in
    let all : AreReplies run.flights run.past run.scripts added replies =
    as_replies run.grid run.past run.flights run.changes run.scripts run.history run.receipts run.is_history replies run.is_replied in
    record {
      headline = h.headline;
      asked = ap (λ (l : List Entry). map works_in (by_session (length lists) l)) history ∙ h.asked;
      are_replies = subst (λ (l : List Entry). AreReplies run.flights l run.scripts run.history replies) nothing
          (subst (λ (l : List Entry). AreReplies run.flights run.past run.scripts l replies) (sym answered) all);
    }
