-- The words to the host that are no look.
use Rattle.std.specs.Prelude.{ℕ, ◌==◌, ◌&&◌, nat_lt, nat_le, if◌then◌else◌, List, length, take, drop, codes, Option, Some, None}
use Rattle.std.specs.Char.{is_ascii_digit}
use Rattle.std.specs.List.{prefix_len}
use Rattle.std.specs.Str.Parse.{digits_value}
use Rattle.airline_base.specs.Fields.{◌>>=◌, Field, byte_at, fixed_at, word_at}
use Rattle.airline_base.specs.Names.{is_locator}
use Rattle.desk_lines.specs.declared.desk.Meaning.{Meaning}
use Rattle.desk_lines.specs.declared.desk.Meaning.TheVariants.{Again, Hello, Leave}

-- one to six digits, and the bytes behind them
abbrev pub count_in : List ℕ → List ℕ → Field ℕ
count_in run rest =
    if nat_lt 0 (length run) && nat_le (length run) 6 then Some (digits_value 10 run, rest) else None

-- the number that all the digits at the front write
unfoldable pub count_at : List ℕ → Field ℕ
count_at bytes =
    count_in (take (prefix_len is_ascii_digit bytes) bytes) (drop (prefix_len is_ascii_digit bytes) bytes)

-- `?BYE`
unfoldable pub leave_at : List ℕ → Option Meaning
leave_at text = do
  rest ← word_at (codes "?BYE") text
  if length rest == 0 then Some Leave else None

-- `?AGAIN n`
unfoldable pub again_at : List ℕ → Option Meaning
again_at text = do
  behind ← word_at (codes "?AGAIN ") text
  count ← count_at behind
  if length count.1 == 0 then Some (Again count.0) else None

-- epochs begin at 1
abbrev pub epoch_of : ℕ → Option ℕ
epoch_of number = if number == 0 then None else Some number

-- a blank, and the number of an epoch
unfoldable pub epoch_at : List ℕ → Option ℕ
epoch_at text = do
  behind ← byte_at 32 text
  epoch ← count_at behind
  if length epoch.1 == 0 then epoch_of epoch.0 else None

abbrev pub named_hello : List ℕ → Option ℕ → Option Meaning
named_hello name None = None
named_hello name (Some epoch) = Some (Hello name (Some epoch))

-- nothing stands behind the word, or an epoch does
abbrev pub hello_of : List ℕ → List ℕ → Option Meaning
hello_of name rest = if length rest == 0 then Some (Hello name None) else named_hello name (epoch_at rest)

-- `?HELLO WORD`, six letters or digits, and `?HELLO WORD EPOCH`
unfoldable pub hello_at : List ℕ → Option Meaning
hello_at text = do
  behind ← word_at (codes "?HELLO ") text
  name ← fixed_at 6 is_locator behind
  hello_of name.0 name.1

abbrev pub first_of : Option Meaning → Option Meaning → Option Meaning
first_of None other = other
first_of (Some plain) other = Some plain

abbrev pub plain_word : List ℕ → Option Meaning
plain_word text = first_of (leave_at text) (first_of (again_at text) (hello_at text))
