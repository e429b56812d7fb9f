-- An entry that is spelled is read, and so is a seal.
use Rattle.std.proofs.Common.{◌≡◌, ℕ, zero, suc, ◌+◌, ◌<◌, ◌≤◌, Bool, true, false, leb, ltb, ◌&&◌, List, [], ◌∷◌, ◌++◌, length, Option, Some, None, refl, sym, ap, ◌∙◌, arith, decimal, append_assoc, append-nil}
use Rattle.std.specs.Prelude.{codes, IfSome}
use Rattle.std.specs.List.{flat_map, list_all, AllByRecursion}
use Rattle.std.proofs.lemmas.Bool.Decides.{nat_tests}
use Rattle.hex.specs.Hex.{encode_lower}
use Rattle.airline_base.specs.Fields.{◌>>=◌}
use Rattle.airline_base.proofs.Tests.{both_true, some_is}
use Rattle.seat_seal.specs.declared.date.Date.{Date}
use Rattle.seat_seal.specs.declared.era.Era.{Era}
use Rattle.seat_seal.specs.declared.imprint.Imprint.{Imprint}
use Rattle.seat_seal.specs.declared.run.Run.{Run}
use Rattle.seat_seal.specs.declared.scripts.Script.{Script}
use Rattle.seat_seal.specs.declared.seal.Sealed.{Sealed as Belonging}
use Rattle.seat_seal.specs.declared.seal.SealEntry.{SealEntry}
use Rattle.seat_seal.specs.declared.seal.SealEntry.TheVariants.{Sealed, Other}
use Rattle.seat_seal.specs.declared.seal.Seal.{Seal}
use Rattle.seat_seal.specs.Dates.{is_date}
use Rattle.seat_seal.specs.Digests.{IsDigest}
use Rattle.seat_seal.specs.Eras.{is_first}
use Rattle.seat_seal.specs.Rules.{is_era, is_carried_to, is_imprint, is_journal, is_today, are_rising, is_script, are_changes, is_run, is_sealed, is_entry, is_second, is_seal, IsScript, IsCarriedTo, IsChanges, IsNamed, HasDigests, HasTypes, IsSeal}
use Rattle.seat_seal.specs.Text.{newline, most_runs, line, date_text, era_lines, era_lines_but, era_text, head_text, is_plain, is_second_plain, carried_text, today_text, imprint_text, journal_text, script_text, script_line, changes_text, run_line, run_text, sealed_text, other_text, entry_text, second_text, entries_text, digest_line, seal_text}
use Rattle.seat_seal.specs.Reading.{digest_at, number_at, date_at, era_at, carried_at, today_at, imprint_at, journal_at, script_at, line_at, script_line_at, items_in, changes_at, run_at, sealed_at, other_at, entry_at, second_at, head_at, seal_at, one_entry, two_entries}
use Rattle.seat_seal.proofs.Calendar.{date_again}
use Rattle.seat_seal.proofs.EraText.{first_is}
use Rattle.seat_seal.proofs.FieldLaws.{digest_again, number_again, imprint_again, journal_again, script_again, line_again}

le_is : (a b : ℕ) → leb a b ≡ true → a ≤ b
le_is a b h = grind (arith, nat_tests, h)

lt_is : (a b : ℕ) → ltb a b ≡ true → a < b
lt_is a b h = grind (arith, nat_tests, h)

-- ---- scripts

pub record IsNext (last : ℕ) (s : Script) (more : List Script) : Type 0 where
  pub low : last < s.session
  pub high : s.session ≤ 8
  pub rising : are_rising s.session more ≡ true

rising_first : (last : ℕ) (s : Script) (more : List Script) → are_rising last (s ∷ more) ≡ true → IsNext last s more
rising_first last s more h =
    let b = both_true (ltb last s.session && leb s.session 8) (are_rising s.session more) h in
    let t = both_true (ltb last s.session) (leb s.session 8) b.0 in
    record { low = lt_is last s.session t.0; high = le_is s.session 8 t.1; rising = b.1 }

-- sessions that rise to 8 at most are few
few : (last : ℕ) (ss : List Script) → last ≤ 8 → are_rising last ss ≡ true → last + length ss ≤ 8
few last [] low h = omega arith
few last (s ∷ more) low h =
    let n = rising_first last s more h in
    omega (arith, n.low, few s.session more n.high n.rising)

script_line_again : (s : Script) (rest : List ℕ) → IsDigest s.imprint.digest → s.session ≤ 8 → is_imprint s.imprint ≡ true
    → script_line_at (script_line s ++ rest) ≡ Some (s, rest)
script_line_again s rest is low small =
    line_again (codes "script ") (script_text s) rest script_at s (script_again s (newline ∷ rest) is low small refl)

scripts_again : (n last : ℕ) (read more : List Script) (rest : List ℕ) → AllByRecursion IsScript more
    → are_rising last more ≡ true → list_all is_script more ≡ true → length more ≤ n → script_line_at rest ≡ None
    → items_in script_line_at n read (flat_map script_line more ++ rest) ≡ (read ++ more, rest)
unfolding items_in
scripts_again zero last read [] rest is rising small few none = rw (append-nil read) refl
scripts_again zero last read (s ∷ more) rest is rising small few none = absurd (omega arith)
scripts_again (suc n) last read [] rest is rising small few none = rw (none, append-nil read) refl
scripts_again (suc n) last read (s ∷ more) rest is rising small few none =
    let next = rising_first last s more rising in
    let b = both_true (is_script s) (list_all is_script more) small in
    let after = flat_map script_line more ++ rest in
    let one = script_line_again s after is.0 next.high b.0 in
    let others = scripts_again n s.session (read ++ s ∷ []) more rest is.1 next.rising b.1 (omega arith) none in
    rw (append_assoc (script_line s) (flat_map script_line more) rest, one, others, append_assoc read (s ∷ []) more) refl

-- ---- changes

-- neither a script's line nor that of changes stands there
record StandsApart (rest : List ℕ) : Type 0 where
  pub script : script_line_at rest ≡ None
  pub changes : line_at (codes "changes ") imprint_at rest ≡ None

changes_again : (o : Option Imprint) (rest : List ℕ) → IfSome o IsChanges → are_changes o ≡ true → StandsApart rest
    → changes_at (changes_text o ++ rest) ≡ (o, rest)
unfolding changes_at
changes_again None rest is small apart = rw apart.changes refl
changes_again (Some i) rest is small apart =
    rw (line_again (codes "changes ") (imprint_text i) rest imprint_at i (imprint_again i (newline ∷ rest) is small refl)) refl

no_script : (o : Option Imprint) (rest : List ℕ) → StandsApart rest → script_line_at (changes_text o ++ rest) ≡ None
unfolding line_at
no_script None rest apart = apart.script
no_script (Some i) rest apart = refl

-- ---- runs

-- the rules of a run, one by one
record KeepsRules (r : Run) : Type 0 where
  pub behind : r.behind ≤ 999_999
  pub today : is_date r.today ≡ true
  pub scripts : are_rising 0 r.scripts ≡ true
  pub small : list_all is_script r.scripts ≡ true
  pub changes : are_changes r.changes ≡ true

keeps_rules : (lines : ℕ) (r : Run) → lines ≤ 999_999 → is_run lines r ≡ true → KeepsRules r
unfolding is_run
keeps_rules lines r low h =
    let a = both_true _ _ h in
    let b = both_true _ _ a.0 in
    let c = both_true _ _ b.0 in
    let d = both_true _ _ c.0 in
    let behind : r.behind ≤ lines = le_is r.behind lines d.0 in
    record { behind = omega (arith, low, behind); today = d.1; scripts = c.1; small = b.1; changes = a.1 }

parts_apart : (a n b d rest : List ℕ)
    → (a ++ n ++ line b d) ++ rest ≡ a ++ (n ++ (b ++ (d ++ newline ∷ rest)))
parts_apart a n b d rest = simp append_assoc

line_apart : (behind : ℕ) (today : Date) (rest : List ℕ)
    → run_line behind today ++ rest ≡ codes "run behind "
    ++ (decimal behind ++ (codes " today " ++ (date_text today ++ newline ∷ rest)))
unfolding run_line
line_apart behind today rest = parts_apart (codes "run behind ") (decimal behind) (codes " today ") (date_text today) rest

run_apart : (a b c rest : List ℕ) → (a ++ b ++ c) ++ rest ≡ a ++ (b ++ (c ++ rest))
run_apart a b c rest = simp append_assoc

run_again : (r : Run) (rest : List ℕ) → IsNamed r → KeepsRules r → StandsApart rest
    → run_at (run_text r ++ rest) ≡ Some (r, rest)
unfolding run_at run_text
run_again r rest is k apart =
    let r4 = changes_text r.changes ++ rest in
    let r3 = flat_map script_line r.scripts ++ r4 in
    let r2 = date_text r.today ++ newline ∷ r3 in
    let behind = number_again 999_999 r.behind (codes " today " ++ r2) (omega arith) k.behind refl in
    let today = date_again r.today (newline ∷ r3) k.today in
    let few : length r.scripts ≤ 8 = omega (arith, few 0 r.scripts (omega arith) k.scripts) in
    let scripts = scripts_again 8 0 [] r.scripts r4 is.scripts k.scripts k.small few (no_script r.changes rest apart) in
    let changes = changes_again r.changes rest is.changes k.changes apart in
    rw (run_apart (run_line r.behind r.today) (flat_map script_line r.scripts) (changes_text r.changes) rest, line_apart r.behind r.today r3, behind, today, scripts, changes) refl

-- a run or the end stands there
apart : (more : List Run) (rest : List ℕ) → StandsApart (flat_map run_text more ++ (codes "END\n" ++ rest))
unfolding line_at run_text run_line
apart [] rest = record { script = refl; changes = refl }
apart (r ∷ more) rest = record { script = refl; changes = refl }

no_run : (rest : List ℕ) → run_at (codes "END\n" ++ rest) ≡ None
unfolding run_at
no_run rest = refl

runs_again : (n lines : ℕ) (read more : List Run) (rest : List ℕ) → lines ≤ 999_999 → AllByRecursion IsNamed more
    → list_all (is_run lines) more ≡ true → length more ≤ n
    → items_in run_at n read (flat_map run_text more ++ (codes "END\n" ++ rest)) ≡ (read ++ more, codes "END\n" ++ rest)
unfolding items_in
runs_again zero lines read [] rest low is keep few = rw (append-nil read) refl
runs_again zero lines read (r ∷ more) rest low is keep few = absurd (omega arith)
runs_again (suc n) lines read [] rest low is keep few = rw (no_run rest, append-nil read) refl
runs_again (suc n) lines read (r ∷ more) rest low is keep few =
    let both = both_true (is_run lines r) (list_all (is_run lines) more) keep in
    let after = flat_map run_text more ++ (codes "END\n" ++ rest) in
    let one = run_again r after is.0 (keeps_rules lines r low both.0) (apart more rest) in
    let others = runs_again n lines (read ++ r ∷ []) more rest low is.1 both.1 (omega arith) in
    rw (append_assoc (run_text r) (flat_map run_text more) (codes "END\n" ++ rest), one, others, append_assoc read (r ∷ []) more) refl

-- ---- eras

today_again : (o : Option Date) (rest : List ℕ) → is_today o ≡ true → line_at (codes "today ") date_at rest ≡ None
    → today_at (today_text o ++ rest) ≡ (o, rest)
unfolding today_at
today_again None rest is apart = rw apart refl
today_again (Some d) rest is apart =
    rw (line_again (codes "today ") (date_text d) rest date_at d (date_again d (newline ∷ rest) is)) refl

-- neither the line of a host's day nor that of another journal stands there
record IsBehindEra (rest : List ℕ) : Type 0 where
  pub today : line_at (codes "today ") date_at rest ≡ None
  pub carried : line_at (codes "carried ") imprint_at rest ≡ None

carried_again : (o : Option Imprint) (rest : List ℕ) → IfSome o IsCarriedTo → is_carried_to o ≡ true → IsBehindEra rest
    → carried_at (carried_text o ++ rest) ≡ (o, rest)
unfolding carried_at
carried_again None rest is small apart = rw apart.carried refl
carried_again (Some i) rest is small apart =
    rw (line_again (codes "carried ") (imprint_text i) rest imprint_at i (imprint_again i (newline ∷ rest) is small refl)) refl

no_day : (o : Option Imprint) (rest : List ℕ) → IsBehindEra rest → line_at (codes "today ") date_at (carried_text o ++ rest) ≡ None
unfolding line_at
no_day None rest apart = apart.today
no_day (Some i) rest apart = refl

era_apart : (a b c rest : List ℕ) → (a ++ b ++ c) ++ rest ≡ a ++ (b ++ (c ++ rest))
era_apart a b c rest = simp append_assoc

lines_again : (e : Era) (rest : List ℕ) → IfSome e.carried IsCarriedTo → is_era e ≡ true → IsBehindEra rest
    → era_at (era_lines e ++ rest) ≡ (e, rest)
unfolding era_at era_lines
lines_again e rest to is apart =
    let z = both_true (leb 1 e.epoch && leb e.epoch 999_999 && is_today e.today) (is_carried_to e.carried) is in
    let a = both_true (leb 1 e.epoch && leb e.epoch 999_999) (is_today e.today) z.0 in
    let b = both_true (leb 1 e.epoch) (leb e.epoch 999_999) a.0 in
    let r2 = carried_text e.carried ++ rest in
    let r1 = today_text e.today ++ r2 in
    let epoch = line_again (codes "epoch ") (decimal e.epoch) r1 (number_at 999_999) e.epoch (number_again 999_999 e.epoch (newline ∷ r1) (omega arith) (le_is e.epoch 999_999 b.1) refl) in
    let today = today_again e.today r2 a.1 (no_day e.carried rest apart) in
    let carried = carried_again e.carried rest to z.1 apart in
    rw (era_apart (line (codes "epoch ") (decimal e.epoch)) (today_text e.today) (carried_text e.carried) rest, epoch, today, carried) refl

but_again : (b : Bool) (e : Era) (rest : List ℕ) → b ≡ is_first e → IfSome e.carried IsCarriedTo → is_era e ≡ true → IsBehindEra rest
    → line_at (codes "epoch ") (number_at 999_999) rest ≡ None → era_at (era_lines_but b e ++ rest) ≡ (e, rest)
unfolding era_at
but_again true e rest first to is apart none = rw none (ap (λ (x : Era). (x, rest)) (sym (first_is e (sym first))))
but_again false e rest first to is apart none = lines_again e rest to is apart

era_again : (e : Era) (rest : List ℕ) → IfSome e.carried IsCarriedTo → is_era e ≡ true → IsBehindEra rest
    → line_at (codes "epoch ") (number_at 999_999) rest ≡ None → era_at (era_text e ++ rest) ≡ (e, rest)
unfolding era_text
era_again e rest to is apart none = but_again (is_first e) e rest refl to is apart none

no_epoch : (journal rest : List ℕ) → line_at (codes "epoch ") (number_at 999_999) (line (codes "journal ") journal ++ rest) ≡ None
unfolding line_at
no_epoch journal rest = refl

behind_era : (journal rest : List ℕ) → IsBehindEra (line (codes "journal ") journal ++ rest)
unfolding line_at
behind_era journal rest = record { today = refl; carried = refl }

-- ---- entries

sealed_apart : (a b c d e f g h rest : List ℕ)
    → (a ++ b ++ c ++ d ++ e ++ f ++ g ++ h) ++ rest ≡ a ++ (b ++ (c ++ (d ++ (e ++ (f ++ (g ++ (h ++ rest)))))))
sealed_apart a b c d e f g h rest = simp append_assoc

-- the rules of an entry, one by one
pub record HasRules (s : Belonging) : Type 0 where
  pub first : is_date s.first ≡ true
  pub days : s.days ≤ 366
  pub journal : is_journal s.journal ≡ true
  pub era : is_era s.era ≡ true
  pub lines : s.journal.lines ≤ 999_999
  pub few : length s.runs ≤ most_runs
  pub runs : list_all (is_run s.journal.lines) s.runs ≡ true

has_rules : (s : Belonging) → is_sealed s ≡ true → HasRules s
unfolding is_sealed
has_rules s h =
    let a = both_true _ _ h in
    let b = both_true _ _ a.0 in
    let c = both_true _ _ b.0 in
    let d = both_true _ _ c.0 in
    let e = both_true _ _ d.0 in
    let f = both_true _ _ e.0 in
    record {
      first = f.0;
      days = le_is s.days 366 e.1;
      journal = d.1;
      era = c.1;
      lines = le_is s.journal.lines 999_999 (both_true (is_imprint s.journal.imprint) (leb s.journal.lines 999_999) d.1).1;
      few = le_is (length s.runs) most_runs b.1;
      runs = a.1;
    }

pub sealed_again : (s : Belonging) (rest : List ℕ) → HasDigests s → is_sealed s ≡ true
    → sealed_at (sealed_text s ++ rest) ≡ Some (s, rest)
unfolding sealed_at sealed_text
sealed_again s rest is rules =
    let r = has_rules s rules in
    let r6 = codes "END\n" ++ rest in
    let r5 = flat_map run_text s.runs ++ r6 in
    let r4 = line (codes "journal ") (journal_text s.journal) ++ r5 in
    let r4e = era_text s.era ++ r4 in
    let r3 = line (codes "days ") (decimal s.days) ++ r4e in
    let r2 = line (codes "first ") (date_text s.first) ++ r3 in
    let r1 = line (codes "limits ") (encode_lower s.limits) ++ r2 in
    let set = line_again (codes "set ") (encode_lower s.set) r1 digest_at s.set (digest_again s.set (newline ∷ r1) is.set) in
    let limits = line_again (codes "limits ") (encode_lower s.limits) r2 digest_at s.limits (digest_again s.limits (newline ∷ r2) is.limits) in
    let first = line_again (codes "first ") (date_text s.first) r3 date_at s.first (date_again s.first (newline ∷ r3) r.first) in
    let days = line_again (codes "days ") (decimal s.days) r4e (number_at 366) s.days (number_again 366 s.days (newline ∷ r4e) (omega arith) r.days refl) in
    let era = era_again s.era r4 is.carried r.era (behind_era (journal_text s.journal) r5) (no_epoch (journal_text s.journal) r5) in
    let journal = line_again (codes "journal ") (journal_text s.journal) r5 journal_at s.journal (journal_again s.journal (newline ∷ r5) is.journal r.journal) in
    let runs = runs_again most_runs s.journal.lines [] s.runs rest r.lines is.runs r.runs r.few in
    rw (sealed_apart (line (codes "set ") (encode_lower s.set)) (line (codes "limits ") (encode_lower s.limits)) (line (codes "first ") (date_text s.first)) (line (codes "days ") (decimal s.days)) (era_text s.era) (line (codes "journal ") (journal_text s.journal)) (flat_map run_text s.runs) (codes "END\n") rest, set, limits, first, days, era, journal, runs) refl

other_again : (i : Imprint) (rest : List ℕ) → IsDigest i.digest → is_imprint i ≡ true
    → other_at (other_text i ++ rest) ≡ Some (i, rest)
unfolding other_at other_text
other_again i rest is small =
    let after = codes "END\n" ++ rest in
    let one = line_again (codes "other ") (imprint_text i) after imprint_at i (imprint_again i (newline ∷ after) is small refl) in
    rw (append_assoc (line (codes "other ") (imprint_text i)) (codes "END\n") rest, one) refl

no_other : (s : Belonging) (rest : List ℕ) → other_at (sealed_text s ++ rest) ≡ None
unfolding other_at sealed_text line_at
no_other s rest = refl

pub entry_again : (e : SealEntry) (rest : List ℕ) → HasTypes e → is_entry e ≡ true
    → entry_at (entry_text e ++ rest) ≡ Some (e, rest)
unfolding entry_at
entry_again (Sealed s) rest is rules = rw (no_other s rest, sealed_again s rest is rules) refl
entry_again (Other i) rest is rules = rw (other_again i rest is rules) refl

-- ---- seals

goes_on : (first e : SealEntry) (rest : List ℕ)
    → second_at first (entry_text e ++ rest) ≡ (entry_at (entry_text e ++ rest) >>= (λ second. Some (two_entries first second.0)))
unfolding second_at sealed_text other_text
goes_on first (Sealed s) rest = refl
goes_on first (Other i) rest = refl

is_alone : (first : SealEntry) (lines : List ℕ) → second_at first (digest_line lines) ≡ Some (one_entry first)
unfolding second_at digest_line
is_alone first lines = refl

second_again : (first : SealEntry) (second : Option SealEntry) (lines : List ℕ) → IfSome second HasTypes → is_second second ≡ true
    → second_at first (second_text second ++ digest_line lines) ≡ Some (record { first = first; second = second })
second_again first None lines is rules = is_alone first lines
second_again first (Some e) lines is rules = goes_on first e (digest_line lines) ∙ rw (entry_again e (digest_line lines) is rules) refl

seal_parts : (s : Seal) → is_seal s ≡ true → (is_entry s.first ≡ true) × (is_second s.second ≡ true)
unfolding is_seal
seal_parts s h = both_true (is_entry s.first) (is_second s.second) h

head_again : (plain : Bool) (first second lines : List ℕ) → head_at ((head_text plain ++ first ++ second) ++ lines) ≡ Some ((first ++ second) ++ lines)
unfolding head_at
head_again true first second lines = refl
head_again false first second lines = refl

seal_read : (s : Seal) (lines : List ℕ)
    → entry_at (entry_text s.first ++ (second_text s.second ++ digest_line lines)) ≡ Some (s.first, second_text s.second ++ digest_line lines)
    → seal_at (entries_text s ++ digest_line lines) ≡ second_at s.first (second_text s.second ++ digest_line lines)
unfolding seal_at entries_text
seal_read s lines entry =
    rw (
      head_again (is_second_plain s.second && is_plain s.first) (entry_text s.first) (second_text s.second) (digest_line lines),
      append_assoc (entry_text s.first) (second_text s.second) (digest_line lines),
      entry,
    ) refl

pub seal_again : (s : Seal) → IsSeal s → seal_at (seal_text s) ≡ Some s
unfolding seal_text
seal_again s is =
    let rules = seal_parts s is.rules in
    seal_read s (entries_text s) (entry_again s.first (second_text s.second ++ digest_line (entries_text s)) is.first rules.0)
    ∙ second_again s.first s.second (entries_text s) is.second rules.1

pub one_seal : (a b : Seal) → IsSeal a → IsSeal b → seal_text a ≡ seal_text b → a ≡ b
one_seal a b p q same = some_is a b (sym (seal_again a p) ∙ ap seal_at same ∙ seal_again b q)
