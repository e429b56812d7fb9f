-- Words that name a pair of stations, a flight, a line of a journal, how many lines it began with, a number of shards, a shard of them, or a session.
use Rattle.std.specs.Prelude.{◌≡◌, ℕ, ◌≤◌, nat_le, ◌-◌, ◌&&◌, if◌then◌else◌, true, List, [], ◌∷◌, length, take, drop, Option, Some, None}
use Rattle.std.specs.Char.{is_ascii_digit, is_ascii_uppercase}
use Rattle.std.specs.List.{list_all}
use Rattle.std.specs.Str.Parse.{digits_value}
use Rattle.airline_base.specs.Fields.{◌>>=◌, byte_at, fixed_at, numeral_at}
use Rattle.airline_base.specs.Names.{is_airline, is_station}
use Rattle.seat_words.specs.declared.names.ShardWord.{ShardWord}

-- two stations, the board point and behind it the off point
abbrev pub pair_word_in : List ℕ → Option (List ℕ × List ℕ)
pair_word_in word =
    if is_station (take 3 word) && is_station (drop 3 word) then Some (take 3 word, drop 3 word) else None

-- no suffix, or the one letter of one
abbrev pub suffix_in : List ℕ → Option (Option ℕ)
suffix_in [] = Some None
suffix_in (letter ∷ []) = if is_ascii_uppercase letter then Some (Some letter) else None
suffix_in _ = None

-- an airline, a number of at most four digits and a suffix, or none
unfoldable pub flight_in : List ℕ → Option (List ℕ × ℕ × Option ℕ)
flight_in word = do
  airline ← fixed_at 2 is_airline word
  number ← numeral_at 4 airline.1
  suffix ← suffix_in number.1
  Some (airline.0, number.0, suffix)

-- the word is n in one to six digits, from 1 on
pub record IsLineWord (word : List ℕ) (n : ℕ) : Type 0 where
  pub digits : list_all is_ascii_digit word ≡ true
  pub short : length word ≤ 6
  pub value : digits_value 10 word ≡ n
  pub least : 1 ≤ n

-- the word is n in one to six digits
pub record IsBehindWord (word : List ℕ) (n : ℕ) : Type 0 where
  pub digits : list_all is_ascii_digit word ≡ true
  pub some : 1 ≤ length word
  pub short : length word ≤ 6
  pub value : digits_value 10 word ≡ n

-- the word is n in one to three digits, from 1 to 999
pub record IsShardsWord (word : List ℕ) (n : ℕ) : Type 0 where
  pub digits : list_all is_ascii_digit word ≡ true
  pub short : length word ≤ 3
  pub value : digits_value 10 word ≡ n
  pub least : 1 ≤ n

-- shard h of m, where nothing stands behind them and h is not above m
abbrev pub shard_among : ℕ → ℕ → List ℕ → Option ShardWord
shard_among h m [] = if nat_le h m then Some (record { shard = h; shards = m }) else None
shard_among h m (_ ∷ _) = None

-- H/M: a shard, /, and how many there are, each above 0 in at most three digits
unfoldable pub shard_in : List ℕ → Option ShardWord
shard_in word = do
  shard ← numeral_at 3 word
  behind ← byte_at 47 shard.1
  shards ← numeral_at 3 behind
  shard_among shard.0 shards.0 shards.1

-- the digit of a session, 0 to 8
abbrev pub session_in : List ℕ → Option ℕ
session_in (digit ∷ []) = if nat_le 48 digit && nat_le digit 56 then Some (digit - 48) else None
session_in _ = None
