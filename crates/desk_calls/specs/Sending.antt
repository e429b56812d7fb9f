-- Numbered requests that are sent more often than once.
use Rattle.std.specs.Prelude.{◌≡◌, ℕ, suc, ◌+◌, ◌==◌, ◌&&◌, nat_lt, Bool, if◌then◌else◌, List, [], ◌∷◌, ◌++◌, length, take}
use Rattle.std.specs.List.{flat_map}
use Rattle.seat_journal.specs.declared.entry.Entry.{Entry}
use Rattle.seat_journal.specs.declared.entry.Work.{Work}
use Rattle.seat_nesting.specs.Nesting.{Ladders}
use Rattle.seat_rules.specs.Journal.{calls_of, next_line}

-- what a session asks for, and the number of its call
pub record Numbered : Type 0 where
  pub call : ℕ
  pub work : Work

-- it is the session's next call, and the journal has room
abbrev pub is_next : ℕ → ℕ → List Entry → ℕ → Bool
is_next cap session past call = (call == calls_of past session + 1) && nat_lt (length past) cap

-- the journal behind it: one line more, or nothing changes
abbrev pub behind_call : Ladders → ℕ → ℕ → List Entry → Numbered → List Entry
behind_call grid cap session past asked =
    if is_next cap session past asked.call then past ++ next_line grid past session asked.call asked.work ∷ [] else past

abbrev pub behind_calls : Ladders → ℕ → ℕ → List Entry → List Numbered → List Entry
behind_calls grid cap session past [] = past
behind_calls grid cap session past (asked ∷ list) =
    behind_calls grid cap session (behind_call grid cap session past asked) list

-- these, numbered from n on
abbrev pub numbered_from : ℕ → List Work → List Numbered
numbered_from n [] = []
numbered_from n (work ∷ works) = record { call = n; work = work } ∷ numbered_from (suc n) works

-- the session's next calls
abbrev pub next_calls : ℕ → List Entry → List Work → List Numbered
next_calls session past works = numbered_from (calls_of past session + 1) works

-- the list's first so many, again and again, and then the whole list
abbrev pub sent : List ℕ → List Numbered → List Numbered
sent cuts list = flat_map (λ (n : ℕ). take n list) cuts ++ list

-- it leaves the journal of the list sent once
abbrev pub SentAgainIsSentOnce : Type 0
SentAgainIsSentOnce = (grid : Ladders) (cap session : ℕ) (past : List Entry) (works : List Work) (cuts : List ℕ)
    → behind_calls grid cap session past (sent cuts (next_calls session past works))
    ≡ behind_calls grid cap session past (next_calls session past works)
