-- A failure is one of the faults of a file, and of scripts.
use Rattle.std.proofs.Common.{IsTrue, refl}
use Rattle.std.proofs.lemmas.Bool.{false≢true}
use Rattle.seat_files.specs.Refusals.{is_failure, is_of_file, is_of_list, is_of_scripts, unlisted}
use Rattle.seat_words.specs.declared.fault.WordFault.{WordFault}
use Rattle.seat_words.specs.declared.fault.WordFault.TheVariants as words
use Rattle.seat_files.specs.declared.fault.Fault.{Fault}
use Rattle.seat_files.specs.declared.fault.Fault.TheVariants.{Desk, Shards, Feed, Word, Season, Listed, Carry}

pub of_failure : (fault : Fault) → IsTrue (is_failure fault) → IsTrue (is_of_file fault)
of_failure (Desk f) failed = failed
of_failure (Shards f) failed = absurd (false≢true failed)
of_failure (Feed line number) failed = absurd (false≢true failed)
of_failure (Word f) failed = absurd (false≢true failed)
of_failure (Season f) failed = absurd (false≢true failed)
of_failure (Listed kind line) failed = absurd (false≢true failed)
of_failure (Carry kind) failed = absurd (false≢true failed)

pub scripts_of_failure : (fault : Fault) → IsTrue (is_failure fault) → IsTrue (is_of_scripts fault)
scripts_of_failure (Desk f) failed = failed
scripts_of_failure (Shards f) failed = absurd (false≢true failed)
scripts_of_failure (Feed line number) failed = absurd (false≢true failed)
scripts_of_failure (Word f) failed = absurd (false≢true failed)
scripts_of_failure (Season f) failed = absurd (false≢true failed)
scripts_of_failure (Listed kind line) failed = absurd (false≢true failed)
scripts_of_failure (Carry kind) failed = absurd (false≢true failed)

word_of_list : (f : WordFault) → IsTrue (is_of_file (Word f)) → IsTrue (is_of_list (unlisted (Word f)))
word_of_list words.BadFirst of_file = absurd (false≢true of_file)
word_of_list words.BadDays of_file = absurd (false≢true of_file)
word_of_list words.BadToday of_file = absurd (false≢true of_file)
word_of_list words.BadScripts of_file = absurd (false≢true of_file)
word_of_list words.BadDay of_file = absurd (false≢true of_file)
word_of_list words.BadPair of_file = absurd (false≢true of_file)
word_of_list words.BadFlight of_file = absurd (false≢true of_file)
word_of_list words.BadLocator of_file = absurd (false≢true of_file)
word_of_list words.BadLine of_file = absurd (false≢true of_file)
word_of_list words.BadBehind of_file = absurd (false≢true of_file)
word_of_list words.BadSession of_file = absurd (false≢true of_file)
word_of_list words.BadDesk of_file = absurd (false≢true of_file)
word_of_list words.BadStatus of_file = absurd (false≢true of_file)
word_of_list words.BadJournal of_file = refl
word_of_list words.BadRefused of_file = absurd (false≢true of_file)
word_of_list words.BadBy of_file = absurd (false≢true of_file)
word_of_list words.BadShards of_file = absurd (false≢true of_file)
word_of_list words.BadShard of_file = absurd (false≢true of_file)
word_of_list words.BadForm of_file = absurd (false≢true of_file)
word_of_list words.LongPage of_file = absurd (false≢true of_file)
word_of_list words.BadWords of_file = absurd (false≢true of_file)

pub of_list : (fault : Fault) → IsTrue (is_of_file fault) → IsTrue (is_of_list (unlisted fault))
of_list (Desk f) of_file = of_file
of_list (Shards f) of_file = absurd (false≢true of_file)
of_list (Feed line number) of_file = absurd (false≢true of_file)
of_list (Word f) of_file = word_of_list f of_file
of_list (Season f) of_file = absurd (false≢true of_file)
of_list (Listed kind line) of_file = absurd (false≢true of_file)
of_list (Carry kind) of_file = absurd (false≢true of_file)
