-- A run, behind its first line.
use Rattle.std.specs.Prelude.{ℕ, List}
use Rattle.seat_seal.specs.declared.date.Date.{Date}
use Rattle.seat_seal.specs.declared.run.Run.{Run}
use Rattle.seat_seal.specs.Reading.{changes_at, scripts_at}

-- its scripts and its changes, and the bytes behind them
abbrev pub run_from : ℕ → Date → List ℕ → Run × List ℕ
run_from behind today bytes = (
  record {
    behind = behind;
    today = today;
    scripts = (scripts_at bytes).0;
    changes = (changes_at (scripts_at bytes).1).0;
  },
  (changes_at (scripts_at bytes).1).1,
)
