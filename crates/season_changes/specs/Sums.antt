-- The line of sums of a comparison.
use Rattle.std.specs.Prelude.{ℕ, Bool, true, false, if◌then◌else◌, List, [], ◌∷◌, ◌++◌, filter, length, decimal, codes}
use Rattle.std.specs.List.{sum_by}
use Rattle.season_changes.specs.declared.changes.Change.{Change}
use Rattle.season_changes.specs.declared.differing.What.{What}
use Rattle.season_changes.specs.declared.differing.What.TheVariants.{Gone, Added, Outside, Changed}
use Rattle.season_changes.specs.declared.sums.Counted.{Counted}
use Rattle.season_changes.specs.declared.sums.Counted.TheVariants as counts

-- whether the count is of the flights that are gone, of those that are added, of those that are not compared, or of what differs
abbrev pub counts_gone : Counted → Bool
counts_gone counts.Gone = true
counts_gone _ = false

abbrev pub counts_added : Counted → Bool
counts_added counts.Added = true
counts_added _ = false

abbrev pub counts_outside : Counted → Bool
counts_outside counts.Outside = true
counts_outside _ = false

abbrev pub counts_differing : Counted → Bool → Bool → Bool → Bool
counts_differing counts.Legs legs times limits = legs
counts_differing counts.Times legs times limits = times
counts_differing counts.Limits legs times limits = limits
counts_differing _ legs times limits = false

abbrev pub is_counted : Counted → What → Bool
is_counted counted Gone = counts_gone counted
is_counted counted Added = counts_added counted
is_counted counted Outside = counts_outside counted
is_counted counted (Changed legs times limits) = counts_differing counted legs times limits

abbrev pub is_change_counted : Counted → Change → Bool
is_change_counted counted change = is_counted counted change.what

unfoldable pub count_text : Counted → List Change → List ℕ
count_text counted all = decimal (length (filter (is_change_counted counted) all))

abbrev pub held_beside : Change → ℕ
held_beside change = change.held

abbrev pub waiting_beside : Change → ℕ
waiting_beside change = change.waiting

-- the seats on all of them, where there is a journal
unfoldable pub seats_text : Bool → List Change → List ℕ
seats_text has_journal all =
    (if has_journal
    then codes " held " ++ decimal (sum_by held_beside all) ++ codes " waiting " ++ decimal (sum_by waiting_beside all)
    else [])

-- SUMS gone N added N legs N times N limits N outside N, and the seats
abbrev pub sums_text : Bool → List Change → List ℕ
sums_text has_journal all =
    codes "SUMS gone " ++ count_text counts.Gone all ++ codes " added " ++ count_text counts.Added all
    ++ codes " legs " ++ count_text counts.Legs all ++ codes " times " ++ count_text counts.Times all
    ++ codes " limits " ++ count_text counts.Limits all ++ codes " outside " ++ count_text counts.Outside all ++ seats_text has_journal all ++ 10 ∷ []
