-- Lines carried out once more.
use Rattle.std.proofs.Common.{◌≡◌, ℕ, ◌+◌, ◌<◌, ◌≤◌, List, [], ◌∷◌, ◌++◌, length, take, get_or, arith, refl, ap, ap₂, sym, subst, ◌∙◌, length-append, append_assoc}
use Rattle.std.proofs.lemmas.List.{append-nil, length-take-le, take_all, take_more}
use Rattle.seat_nesting.specs.Nesting.{Ladders}
use Rattle.seat_journal.specs.declared.entry.Entry.{Entry}
use Rattle.seat_journal.specs.declared.entry.Work.{Work}
use Rattle.seat_rules.specs.Inventory.{Inventory, IsReplayed}
use Rattle.seat_rules.specs.Journal.{IsLegal, IsLegalAfter, IsNext, calls_of, next_line}
use Rattle.seat_rules.proofs.History.Legal.{legal_to_after}
use Rattle.seat_desk.specs.AuditDesk.{most_lines}
use Rattle.seat_desk.specs.declared.fault.DeskFault.TheVariants.{Full}
use Rattle.seat_shards.specs.declared.fault.ShardFault.{ShardFault}
use Rattle.seat_shards.specs.declared.fault.ShardFault.TheVariants.{Journal}
use Rattle.shard_questions.specs.Joined.{IsBeyond}
use Rattle.shard_questions.specs.Joining.{carried, once_more, IsCarriedFull}

-- lines of some, and then of others
pub carried_both : (grid : Ladders) (done xs ys : List Entry) → carried grid done (xs ++ ys) ≡ carried grid (carried grid done xs) ys
carried_both grid done [] ys = refl
carried_both grid done (e ∷ xs) ys = carried_both grid (done ++ once_more grid done e ∷ []) xs ys

pub carried_long : (grid : Ladders) (done xs : List Entry) → length (carried grid done xs) ≡ length done + length xs
carried_long grid done [] = omega arith
carried_long grid done (e ∷ xs) =
    let rest = carried_long grid (done ++ once_more grid done e ∷ []) xs in
    omega (arith, rest, length-append done (once_more grid done e ∷ []))

-- a line that may follow is the one that is made once more
pub same_line : (grid : Ladders) (done : List Entry) (e : Entry) → IsNext grid done e → once_more grid done e ≡ e
same_line grid done e next =
    ap (λ (call : ℕ). next_line grid done e.session call e.work) (sym next.call) ∙ sym next.line

-- those of a legal history are made once more
legal_again : (grid : Ladders) (done xs : List Entry) → IsLegalAfter grid done xs → carried grid done xs ≡ done ++ xs
legal_again grid done [] legal = sym (append-nil done)
legal_again grid done (e ∷ xs) legal =
    ap (λ (x : Entry). carried grid (done ++ x ∷ []) xs) (same_line grid done e legal.0)
    ∙ (legal_again grid (done ++ e ∷ []) xs legal.1 ∙ append_assoc done (e ∷ []) xs)

pub carried_legal : (grid : Ladders) (xs : List Entry) → IsLegal grid xs → carried grid [] xs ≡ xs
carried_legal grid xs legal = legal_again grid [] xs (legal_to_after grid [] xs legal)

-- ---- the loop

abbrev pub IsCarriedOn : Ladders → ℕ → List Entry → List Entry → ℕ → Inventory → Type 0
IsCarriedOn grid cap old entries i core = IsReplayed core grid cap (carried grid old (take i entries))

pub one_more : (grid : Ladders) (cap : ℕ) (old entries : List Entry) (i : ℕ) (e : Entry) (now new : Inventory)
    → IsCarriedOn grid cap old entries i now → i < length entries → e ≡ get_or entries i e
    → new.journal ≡ now.journal ++ once_more now.grid now.journal e ∷ [] → new.grid ≡ now.grid → new.cap ≡ now.cap
    → IsCarriedOn grid cap old entries (i + 1) new
one_more grid cap old entries i e now new so_far inside here line grid_is cap_is = record {
  grid_is = grid_is ∙ so_far.grid_is;
  cap_is = cap_is ∙ so_far.cap_is;
  journal_is =
      line
      ∙ (ap (λ (g : Ladders). now.journal ++ once_more g now.journal e ∷ []) so_far.grid_is
      ∙ (ap (λ (l : List Entry). l ++ once_more grid l e ∷ []) so_far.journal_is
      ∙ (sym (carried_both grid old (take i entries) (e ∷ []))
      ∙ ap (carried grid old) (sym (take_more entries i e inside ∙ ap (λ (x : Entry). take i entries ++ x ∷ []) (sym here))))));
}

pub whole : (grid : Ladders) (cap : ℕ) (old entries : List Entry) (i : ℕ) (core : Inventory) → length entries ≤ i
    → IsCarriedOn grid cap old entries i core → core.journal ≡ carried grid old entries
whole grid cap old entries i core le k = k.journal_is ∙ ap (carried grid old) (take_all i entries le)

pub first_full : (grid : Ladders) (cap : ℕ) (old entries : List Entry) (i place ahead : ℕ) (core : Inventory) → IsCarriedOn grid cap old entries i core
    → i < length entries → length core.journal ≡ core.cap → cap ≡ most_lines → length old + ahead ≡ most_lines
    → IsCarriedFull place (length old) entries (Journal place (Full (ahead + 2)))
first_full grid cap old entries i place ahead core k inside full is room = record {
  line = ahead + 2;
  beyond = record {
    ahead = ahead;
    more = omega (arith, inside, there);
    full = room;
    is = refl;
  };
  is = refl;
}
  where
    there : ahead ≡ i
    there = omega (arith, room, full, is, k.cap_is, ap length k.journal_is, carried_long grid old (take i entries), length-take-le i entries (omega (arith, inside)))
