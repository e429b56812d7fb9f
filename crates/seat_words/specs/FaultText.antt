-- The printed text of what a word of the command line is refused with.
use Rattle.std.specs.Prelude.{ℕ, List, codes}
use Rattle.seat_words.specs.declared.fault.WordFault.{WordFault}
use Rattle.seat_words.specs.declared.fault.WordFault.TheVariants as faults

-- the code, and which word it is of
abbrev pub word_text : WordFault → List ℕ
word_text faults.BadFirst = codes "E2 first"
word_text faults.BadDays = codes "E2 days"
word_text faults.BadToday = codes "E2 today"
word_text faults.BadScripts = codes "E2 script"
word_text faults.BadDay = codes "E2 day"
word_text faults.BadPair = codes "E2 pair"
word_text faults.BadFlight = codes "E2 flight"
word_text faults.BadLocator = codes "E2 locator"
word_text faults.BadLine = codes "E2 line"
word_text faults.BadBehind = codes "E2 behind"
word_text faults.BadSession = codes "E2 session"
word_text faults.BadDesk = codes "E2 desk"
word_text faults.BadStatus = codes "E2 status"
word_text faults.BadJournal = codes "E2 journal"
word_text faults.BadRefused = codes "E2 refused"
word_text faults.BadBy = codes "E2 by"
word_text faults.BadShards = codes "E2 shards"
word_text faults.BadShard = codes "E2 shard"
word_text faults.BadForm = codes "E2 form"
word_text faults.LongPage = codes "E2 html"
word_text faults.BadWords = codes "E2 words"
