-- What can't be explained, and what is.
use Rattle.std.proofs.Common.{◌≡◌, ◌≢◌, ℕ, ◌-◌, ◌<◌, ◌≤◌, Bool, true, false, List, [], ◌++◌, length, take, Option, Some, None, IfSome, slice_get, get_or, arith, refl, ap, sym, subst, ◌∙◌}
use Rattle.seat_questions.proofs.Common.{Place, Fits, Ladders, Entry, Seats, replay}
use Rattle.ssim_flights.specs.declared.flight.Flight.{Flight as Flown}
use Rattle.seat_journal.specs.Reading.{IsFirstFault}
use Rattle.seat_journal.specs.Text.{IsJournalText, entry_text}
use Rattle.seat_journal.specs.declared.entry.Work.{Work}
use Rattle.seat_journal.specs.declared.entry.Work.TheVariants.{Limit, Sale}
use Rattle.seat_journal.specs.declared.fault.JournalFault.{JournalFault}
use Rattle.seat_journal.specs.declared.fault.JournalKind.{JournalKind}
use Rattle.seat_journal.specs.declared.fault.JournalKind.TheVariants as journal_kinds
use Rattle.seat_journal.proofs.TextLaws.{one_text}
use Rattle.seat_rules.specs.Journal.{FitsWork}
use Rattle.seat_rules.specs.Replaying.{replay_fault}
use Rattle.seat_rules.proofs.History.Faults.{legal_has_no_fault, get_at}
use Rattle.seat_desk.specs.AuditDesk.{journal_fault, journal_fault_of, most_journal_bytes, most_lines}
use Rattle.seat_desk.specs.declared.fault.DeskFault.{DeskFault}
use Rattle.seat_desk.specs.declared.fault.DeskFault.TheVariants.{NoLine, Memory, Replay}
use Rattle.seat_questions.specs.Why.{HasLine, IsExplained, IsPlacePut, IsReasoned, IsRefusedPast, IsUnexplained, IsUnreasoned, IsWhyBy, IsWhyText, can_ask, compared_text, lines_before, place_of_line, right_line, unasked_text}

-- ---- what is refused

no_text : (grid : Ladders) (n : ℕ) (bytes : List ℕ) → ((entries : List Entry) → IsJournalText bytes entries → ⊥)
    → IsUnexplained grid n bytes
no_text grid n bytes none entries is has legal few = none entries is

text_cases : (grid : Ladders) (n : ℕ) (bytes : List ℕ) (kind : JournalKind) (fault : JournalFault)
    → length bytes ≤ most_journal_bytes
    → (kind ≢ journal_kinds.Memory → IsFirstFault bytes fault.line fault.kind)
    → ((entries : List Entry) → IsJournalText bytes entries → kind ≡ journal_kinds.Memory)
    → journal_fault_of kind fault ≢ Memory → IsUnreasoned grid n (journal_fault_of kind fault) bytes
text_cases grid n bytes journal_kinds.Memory fault within first only not = absurd (not refl)
text_cases grid n bytes journal_kinds.Head fault within first only not =
    record { within = within; refused = first (λ e. cc); none = no_text grid n bytes (λ entries is. let e = only entries is in cc) }
text_cases grid n bytes journal_kinds.Line fault within first only not =
    record { within = within; refused = first (λ e. cc); none = no_text grid n bytes (λ entries is. let e = only entries is in cc) }
text_cases grid n bytes journal_kinds.End fault within first only not =
    record { within = within; refused = first (λ e. cc); none = no_text grid n bytes (λ entries is. let e = only entries is in cc) }

-- a refusal for the text says why, and that there is nothing to be explained
pub refused_text : (grid : Ladders) (n : ℕ) (bytes : List ℕ) (fault : JournalFault) → length bytes ≤ most_journal_bytes
    → (fault.kind ≢ journal_kinds.Memory → IsFirstFault bytes fault.line fault.kind)
    → ((entries : List Entry) → IsJournalText bytes entries → fault.kind ≡ journal_kinds.Memory)
    → journal_fault fault ≢ Memory → IsUnreasoned grid n (journal_fault fault) bytes
refused_text grid n bytes fault = text_cases grid n bytes fault.kind fault

-- a line that is not there
pub refused_line : (grid : Ladders) (n : ℕ) (bytes : List ℕ) (entries : List Entry) → length bytes ≤ most_journal_bytes
    → IsJournalText bytes entries
    → (HasLine n entries → ⊥) → IsUnreasoned grid n NoLine bytes
refused_line grid n bytes entries within is not = record {
  within = within;
  refused = (entries, is, not);
  none = λ others text has legal few. not (subst (HasLine n) (one_text bytes others entries text is) has);
}

not_below : (n : ℕ) (entries : List Entry) → n < 1 → HasLine n entries → ⊥
not_below n entries low has = let from = has.from_one in absurd (omega (arith, low, from))

not_beyond : (n : ℕ) (entries : List Entry) → length entries < n → HasLine n entries → ⊥
not_beyond n entries high has = let within = has.within in absurd (omega (arith, high, within))

pub refused_below : (grid : Ladders) (n : ℕ) (bytes : List ℕ) (entries : List Entry) → length bytes ≤ most_journal_bytes
    → IsJournalText bytes entries
    → n < 1 → IsUnreasoned grid n NoLine bytes
refused_below grid n bytes entries within is low = refused_line grid n bytes entries within is (not_below n entries low)

pub refused_beyond : (grid : Ladders) (n : ℕ) (bytes : List ℕ) (entries lines : List Entry)
    → length bytes ≤ most_journal_bytes → IsJournalText bytes entries
    → lines ≡ entries → length lines < n → IsUnreasoned grid n NoLine bytes
refused_beyond grid n bytes entries lines within is same high =
    refused_line grid n bytes entries within is (not_beyond n entries (subst (λ (l : List Entry). length l < n) same high))

-- lines before it that are no legal history
past_cases : (grid : Ladders) (n : ℕ) (bytes : List ℕ) (entries past : List Entry) (fault : DeskFault)
    → length bytes ≤ most_journal_bytes → IsJournalText bytes entries
    → HasLine n entries → past ≡ lines_before n entries → IsRefusedPast grid past fault
    → IsUnreasoned grid n fault bytes
past_cases grid n bytes entries past (Replay fault) within is has same wrong =
    let first : replay_fault grid most_lines (lines_before n entries) ≡ Some fault = ap (replay_fault grid most_lines) (sym same) ∙ wrong in
    record {
      within = within;
      refused = (entries, is, has, first);
      none = λ others text there legal few.
          let none : replay_fault grid most_lines (lines_before n others) ≡ None = (legal_has_no_fault grid most_lines (lines_before n others)).1 (legal, few) in
          let alike : others ≡ entries = one_text bytes others entries text is in
          let both : Some fault ≡ None = sym first ∙ sym (ap (λ (l : List Entry). replay_fault grid most_lines (lines_before n l)) alike) ∙ none in
          cc;
    }
past_cases grid n bytes entries past _ within is has same wrong = absurd wrong

pub refused_past : (grid : Ladders) (n at : ℕ) (bytes : List ℕ) (entries lines past : List Entry) (fault : DeskFault)
    → length bytes ≤ most_journal_bytes → IsJournalText bytes entries
    → lines ≡ entries → 1 ≤ n → n ≤ length lines → at ≡ n - 1 → past ≡ take at lines
    → (fault ≢ Memory → IsRefusedPast grid past fault) → fault ≢ Memory → IsUnreasoned grid n fault bytes
refused_past grid n at bytes entries lines past fault within is same low high e before wrong not =
    past_cases grid n bytes entries past fault within is (record { from_one = low; within = subst (λ (l : List Entry). n ≤ length l) same high })
    (before ∙ ap (λ (k : ℕ). take k lines) e ∙ ap (λ (l : List Entry). take (n - 1) l) same) (wrong not)

-- ---- what is explained

pub explained_line : (flights : List Flown) (grid : Ladders) (n at : ℕ) (bytes : List ℕ)
    (entries lines past : List Entry) (entry : Entry) (text : List ℕ) → IsJournalText bytes entries
    → lines ≡ entries → 1 ≤ n → n ≤ length lines → at ≡ n - 1 → past ≡ take at lines → entry ≡ get_or lines at entry
    → IsReasoned flights grid past entry text
    → IsExplained flights grid n bytes text
explained_line flights grid n at bytes entries lines past entry text is same low high e before here reasoned = record {
  entries = entries;
  entry = entry;
  is_text = is;
  has_line = record { from_one = low; within = subst (λ (l : List Entry). n ≤ length l) same high };
  there = ap (λ (l : List Entry). slice_get l (n - 1)) (sym same) ∙ ap (slice_get lines) (sym e) ∙ get_at lines at entry (omega (arith, low, high, e)) here;
  reasoned = subst (λ (l : List Entry). IsReasoned flights grid l entry text) (before ∙ ap (λ (k : ℕ). take k lines) e ∙ ap (λ (l : List Entry). take (n - 1) l) same) reasoned;
}

-- ---- the text of one line

-- the place of a line that may be asked is there
pub place_fits : (grid : Ladders) (work : Work) (place : Option Place) → place ≡ place_of_line work → FitsWork grid work
    → IfSome place (Fits grid)
place_fits grid work place same fits = subst (λ (p : Option Place). IfSome p (Fits grid)) (sym same) (cases work fits) where
  cases : (w : Work) → FitsWork grid w → IfSome (place_of_line w) (Fits grid)
  cases (Seats c) f = f.2
  cases (Limit c) f = (omega arith, f.there)
  cases (Sale c) f = (omega arith, f)

-- with its legs and the right line
pub why_asked : (flights : List Flown) (grid : Ladders) (past asked_past : List Entry) (e prepared shown : Entry)
    (place : Option Place) (start line legs new : List ℕ) → can_ask grid past e.work ≡ true
    → start ≡ [] → line ≡ start ++ entry_text e → place ≡ place_of_line e.work
    → IsPlacePut flights (replay grid past) place line legs
    → prepared ≡ right_line grid past e → shown ≡ prepared → asked_past ≡ past
    → new ≡ legs ++ compared_text asked_past shown e → IsWhyText flights grid past e new
why_asked flights grid past asked_past e prepared shown place start line legs new asked empty is_line is_place put is_right same same_past is_new =
    let here : IsPlacePut flights (replay grid past) (place_of_line e.work) line legs = subst (λ (p : Option Place). IsPlacePut flights (replay grid past) p line legs) is_place put in
    let right : shown ≡ right_line grid past e = same ∙ is_right in
    subst (λ (b : Bool). IsWhyBy b flights grid past e new) (sym asked) (record {
      legs = here.part;
      are_legs = here.is_text;
      written = is_new
          ∙ ap (λ (l : List Entry). legs ++ compared_text l shown e) same_past
          ∙ ap (λ (x : Entry). legs ++ compared_text past x e) right
          ∙ ap (λ (l : List ℕ). l ++ compared_text past (right_line grid past e) e) (here.put ∙ ap (λ (l : List ℕ). l ++ here.part) (is_line ∙ ap (λ (l : List ℕ). l ++ entry_text e) empty));
    })

-- without them
pub why_unasked : (flights : List Flown) (grid : Ladders) (past : List Entry) (e : Entry) (start line new : List ℕ)
    → can_ask grid past e.work ≡ false
    → start ≡ [] → line ≡ start ++ entry_text e → new ≡ line ++ unasked_text e
    → IsWhyText flights grid past e new
why_unasked flights grid past e start line new asked empty is_line is_new =
    subst (λ (b : Bool). IsWhyBy b flights grid past e new) (sym asked)
    (is_new ∙ ap (λ (l : List ℕ). l ++ unasked_text e) (is_line ∙ ap (λ (l : List ℕ). l ++ entry_text e) empty))
