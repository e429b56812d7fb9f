-- What is counted of a host.
use Rattle.std.specs.Prelude.{◌≡◌, ◌≤◌, ◌<◌, ◌^◌, ℕ, suc, ◌+◌, ◌-◌, ◌*◌, ◌/◌, ◌%◌, ◌++◌, ◌==◌, Bool, false, Option, None, Some, List, [], ◌∷◌, codes, decimal, drop, length, position, if◌then◌else◌}
use Rattle.std.specs.List.{sum_by}
use Rattle.airline_base.specs.Fields.{word_at}
use Rattle.airline_base.specs.Lines.{is_line_feed}
use Rattle.seat_journal.specs.declared.entry.Entry.{Entry}
use Rattle.seat_rules.specs.Prefixes.{Begins}
use Rattle.seat_rules.specs.Totals.{confirmed_by, released_by}
use Rattle.desk_status.specs.declared.tally.Tally.{Tally}

-- the lines are those of the journal, and so are the seats that they confirmed and released. Each group added a line at least
pub record Counts (tally : Tally) (journal : List Entry) : Type 0 where
  pub lines_are : tally.lines ≡ length journal
  pub confirmed_are : tally.confirmed ≡ sum_by confirmed_by journal
  pub released_are : tally.released ≡ sum_by released_by journal
  pub few : tally.groups ≤ tally.lines

-- what is counted is a front of the journal
pub record CountsFront (tally : Tally) (journal : List Entry) : Type 0 where
  pub past : List Entry
  pub counts : Counts tally past
  pub begins : Begins past journal

-- as few lines as a journal may have, with as few seats as can be counted: every legal history within its limits
pub record IsCountable (journal : List Entry) : Type 0 where
  pub few : length journal ≤ 999999
  pub confirmed : sum_by confirmed_by journal < 2 ^ 63
  pub released : sum_by released_by journal < 2 ^ 63

-- lines that were added are a group more, where there are some
abbrev pub groups_behind : ℕ → List Entry → ℕ
groups_behind groups [] = groups
groups_behind groups (line ∷ lines) = suc groups

-- the lines behind those that are counted
abbrev pub added : Tally → List Entry → List Entry
added tally journal = drop tally.lines journal

-- ten times the lines of a group, of those that were added since the host began; none where there was no group
abbrev pub tenths : Tally → ℕ
tenths t = if t.groups == 0 then 0 else (t.lines - t.begun) * 10 / t.groups

-- the seats that are sold: those that were confirmed and not released
abbrev pub sold : Tally → ℕ
sold t = t.confirmed - t.released

-- STATUS lines 25 groups 7 each 3.5 desks 2 sold 98: what the journal has, what a group had, and the desks with what is sold
unfoldable pub counted_text : Tally → List ℕ
counted_text t = codes "STATUS lines " ++ (decimal t.lines ++ (codes " groups " ++ decimal t.groups))

unfoldable pub grouped_text : Tally → List ℕ
grouped_text t = codes " each " ++ (decimal (tenths t / 10) ++ (codes "." ++ decimal (tenths t % 10)))

unfoldable pub sold_text : Tally → List ℕ
sold_text t = codes " desks " ++ (decimal t.desks ++ (codes " sold " ++ (decimal (sold t) ++ codes "\n")))

abbrev pub status_text : Tally → List ℕ
status_text t = counted_text t ++ (grouped_text t ++ sold_text t)

-- the first LF of so many bytes is the last of them
abbrev pub ends_line : Option ℕ → ℕ → Bool
ends_line None count = false
ends_line (Some end) count = end + 1 == count

abbrev pub is_status_behind : Option (List ℕ) → Bool
is_status_behind None = false
is_status_behind (Some rest) = ends_line (position is_line_feed rest) (length rest)

-- one line, which begins as a status does
abbrev pub is_status : List ℕ → Bool
is_status text = is_status_behind (word_at (codes "STATUS lines ") text)
