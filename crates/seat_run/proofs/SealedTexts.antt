-- A journal, its seal and replies that were written, or not, are those that answer.
use Rattle.std.proofs.Common.{◌≡◌, ◌≤◌, ◌⊎◌, ⊎_elim, ◌+◌, ◌&&◌, inr, ℕ, suc, Bool, true, false, List, [], ◌∷◌, Option, Some, None, IfSome, IfErr, OnOk, Result, Ok, Err, length, refl, sym, ap, ◌∙◌, subst, map, arith}
use Rattle.std.specs.List.{AllByRecursion}
use Rattle.std.proofs.lemmas.List.{length-map}
use Rattle.airimp_lines.specs.declared.requests.Request.{Request}
use Rattle.ssim_flights.specs.declared.flight.Flight.{Flight as Flown}
use Rattle.seat_nesting.specs.Nesting.{Ladders}
use Rattle.seat_journal.specs.declared.entry.Control.{Control}
use Rattle.seat_journal.specs.Text.{IsEntry, journal_text}
use Rattle.seat_journal.specs.declared.entry.Entry.{Entry}
use Rattle.seat_seal.specs.Fronts.{front_of}
use Rattle.seat_seal.specs.Imprints.{imprint_of}
use Rattle.seat_seal.specs.Known.{IsCarried}
use Rattle.seat_seal.specs.Reading.{two_entries}
use Rattle.seat_seal.specs.Rules.{is_entry, is_seal, is_sealed}
use Rattle.seat_seal.specs.declared.beside.Basis.{Basis}
use Rattle.seat_seal.specs.declared.beside.Beside.{Beside}
use Rattle.seat_seal.specs.declared.imprint.Imprint.{Imprint}
use Rattle.seat_seal.specs.declared.known.Carried.{Carried}
use Rattle.seat_seal.specs.declared.seal.Sealed.{Sealed as Belonging}
use Rattle.seat_seal.specs.declared.seal.SealEntry.{SealEntry}
use Rattle.seat_seal.specs.declared.seal.SealEntry.TheVariants.{Sealed}
use Rattle.seat_sealing.specs.Steps.{InOrder, alone_text, both_text}
use Rattle.seat_sealing.specs.Written.{AreInPlace, RepliesFailed, SealingFailed}
use Rattle.seat_desk.specs.Desk.{IsOfInput}
use Rattle.seat_desk.specs.Sealing.{basis_of}
use Rattle.seat_desk.specs.declared.fault.DeskFault.{DeskFault}
use Rattle.seat_desk.specs.declared.fault.DeskFault.TheVariants.{Device, TooLarge}
use Rattle.seat_scripts.specs.Against.{OfFour}
use Rattle.seat_replies.specs.Asked.{IsAsked, OfThree}
use Rattle.seat_scripts.specs.Begun.{IsBehindRuns}
use Rattle.seat_replies.specs.Going.{lists_over}
use Rattle.seat_replies.specs.Requests.{commands_of}
use Rattle.seat_scripts.specs.Resumed.{IsAhead, IsAskedStill}
use Rattle.seat_replies.specs.RunDesk.{IsHistoryOf, IsReplied}
use Rattle.seat_scripts.proofs.OneTaken.{one_taken}
use Rattle.seat_scripts.specs.Taken.{WithTaken}
use Rattle.seat_scripts.specs.SealedRun.{IsEntryOfRun}
use Rattle.seat_scripts.specs.TextImprints.{AreImprints, IsImprintOf}
use Rattle.seat_run.specs.SealedDesk.{AreSealed, AreTexts, HasStopped, InputFailed, IsSealedResume, IsSealedRun, IsUnsealable}

-- ---- what is given

zip_count : (texts : List (Option (List ℕ))) (imprints : List (Option Imprint)) → AreImprints texts imprints
    → length imprints ≡ length texts
zip_count [] [] are = refl
zip_count [] (i ∷ imprints) are = absurd are
zip_count (text ∷ texts) [] are = absurd are
zip_count (text ∷ texts) (i ∷ imprints) are = ap suc (zip_count texts imprints are.1)

-- there are as many as there are scripts
pub few_imprints : {C : Type 0} → (f : C → Option (List ℕ)) (inputs : List C) (imprints slice : List (Option Imprint))
    → AreImprints (map f inputs) imprints → slice ≡ imprints → length inputs ≤ 8 → length slice ≤ 8
few_imprints f inputs imprints slice are same few =
    let count : length slice ≡ length inputs = ap length same ∙ (zip_count (map f inputs) imprints are ∙ length-map inputs f) in
    omega (arith, count, few)

pub same_front : (imprint : Imprint) (text view : List ℕ) → imprint ≡ imprint_of (front_of text) → view ≡ text
    → imprint ≡ imprint_of (front_of view)
same_front imprint text view is same = is ∙ ap (λ (l : List ℕ). imprint_of (front_of l)) (sym same)

-- what holds whatever comes
pub on_ok : (r : Result (Unit {0}) DeskFault) (P : Type 0) → P → OnOk r P
on_ok (Ok done) P p = p
on_ok (Err fault) P p = tt

no_input : (fault : DeskFault) → (fault ≡ Device) ⊎ (fault ≡ TooLarge) → IsOfInput fault → ⊥
no_input fault kind input = ⊎_elim
    (λ (d : fault ≡ Device). subst IsOfInput d input)
    (λ (l : fault ≡ TooLarge). subst IsOfInput l input) kind

-- what is written has no fault of an input
pub never_of_input : (Q : DeskFault → Type 0) (r : Result (Unit {0}) DeskFault)
    → IfErr r (λ f. (f ≡ Device) ⊎ (f ≡ TooLarge)) → IfErr r (λ f. IsOfInput f → Q f)
never_of_input Q (Ok done) kind = tt
never_of_input Q (Err fault) kind = λ input. absurd (no_input fault kind input)

behind_no_runs : (fault : DeskFault) → (fault ≡ Device) ⊎ (fault ≡ TooLarge) → IsBehindRuns fault → ⊥
behind_no_runs fault kind behind = ⊎_elim
    (λ (d : fault ≡ Device). subst IsBehindRuns d behind)
    (λ (l : fault ≡ TooLarge). subst IsBehindRuns l behind) kind

pub never_behind : (P : Type 0) (r : Result (Unit {0}) DeskFault)
    → IfErr r (λ f. (f ≡ Device) ⊎ (f ≡ TooLarge)) → IfErr r (λ f. IsBehindRuns f → P)
never_behind P (Ok done) kind = tt
never_behind P (Err fault) kind = λ behind. absurd (behind_no_runs fault kind behind)

-- ---- what is written

last_false : (a b : Bool) → a ≡ true → (a && b) ≡ false → b ≡ false
last_false true b h none = none
last_false false b h none = absurd cc

-- an older journal's entry and one that keeps its rules are a seal: where they are none, that one does not
pub keeps_no_rules : (older : SealEntry) (newer : Belonging) (may : Bool) → is_entry older ≡ true
    → may ≡ is_seal (two_entries older (Sealed newer)) → may ≡ false → is_sealed newer ≡ false
unfolding is_seal
keeps_no_rules older newer may first is none = last_false (is_entry older) (is_sealed newer) first (sym is ∙ none)

module _ (basis : Basis) (imprints : List (Option Imprint)) (changed : Option Imprint) (behind today : ℕ) (earlier : Carried) (lines : List Entry) (said : List ℕ)
    (text : List ℕ) (newer : Belonging) (is_text : text ≡ journal_text lines)
    (is_entry_of : IsEntryOfRun basis imprints changed behind (length lines) today earlier text newer) where
  abbrev Told : List ℕ → Belonging → List ℕ → Type 0
  Told = AreTexts basis imprints changed behind today earlier lines said

  abbrev are_told : Told text newer said
  are_told = record { journal_is = is_text; entry_is = is_entry_of; replies_are = refl }

  pub unsealable : is_sealed newer ≡ false → IsUnsealable Told
  unsealable broken = record { journal = text; entry = newer; replies = said; right = are_told; broken = broken }

  pub stopped_texts : {J K W : Type 0}
      → (failures : J → ℕ) (named : J → Option (List ℕ)) (leaves : J → List ℕ → Type 0)
      (seal_failures : K → ℕ) (seal_named : K → Option (List ℕ)) (seal_leaves : K → List ℕ → Type 0)
      (out_failures : W → ℕ) (contents : W → Option (List ℕ)) (older : SealEntry)
      (journal_old journal_new : J) (seal_old seal_new : K) (out_old out_new : W)
      → InOrder (both_text older newer) text (alone_text newer) (leaves journal_old) (seal_leaves seal_old) (leaves journal_new) (seal_leaves seal_new)
      → SealingFailed failures named seal_failures seal_named (both_text older newer) text (alone_text newer) journal_old journal_new seal_old seal_new out_old out_new
      ⊎ RepliesFailed (AreInPlace text (alone_text newer) (named journal_old) (named journal_new) (seal_named seal_old) (seal_named seal_new) (leaves journal_new) (seal_leaves seal_new))
      out_failures contents said out_old out_new
      → HasStopped Told failures named leaves seal_failures seal_named seal_leaves out_failures contents older journal_old journal_new seal_old seal_new out_old out_new
  stopped_texts failures named leaves seal_failures seal_named seal_leaves out_failures contents older journal_old journal_new seal_old seal_new out_old out_new order stopped =
      record { journal = text; entry = newer; replies = said; right = are_told; order = order; stopped = stopped }

-- ---- what answers one thing answers another

module _ (P Q : List ℕ → Belonging → List ℕ → Type 0) (give : (journal : List ℕ) (entry : Belonging) (replies : List ℕ) → P journal entry replies → Q journal entry replies) where
  pub all_sealed : (journal_old journal_new seal_old seal_new : Option (List ℕ)) (journals seals : List ℕ → Type 0)
      (out_old out_new : Option (List ℕ)) (r : Result (Unit {0}) DeskFault)
      → OnOk r (AreSealed P journal_old journal_new seal_old seal_new journals seals out_old out_new)
      → OnOk r (AreSealed Q journal_old journal_new seal_old seal_new journals seals out_old out_new)
  all_sealed journal_old journal_new seal_old seal_new journals seals out_old out_new (Ok done) are = record {
    journal = are.journal;
    entry = are.entry;
    replies = are.replies;
    right = give are.journal are.entry are.replies are.right;
    are_written = are.are_written;
  }
  all_sealed journal_old journal_new seal_old seal_new journals seals out_old out_new (Err fault) are = tt

  pub all_stopped : {J K W : Type 0}
      → (input : Type 0) (failures : J → ℕ) (named : J → Option (List ℕ)) (leaves : J → List ℕ → Type 0)
      (seal_failures : K → ℕ) (seal_named : K → Option (List ℕ)) (seal_leaves : K → List ℕ → Type 0)
      (out_failures : W → ℕ) (contents : W → Option (List ℕ)) (older : SealEntry)
      (journal_old journal_new : J) (seal_old seal_new : K) (out_old out_new : W) (r : Result (Unit {0}) DeskFault)
      → IfErr r (λ f. f ≡ Device → HasStopped P failures named leaves seal_failures seal_named seal_leaves out_failures contents older journal_old journal_new seal_old seal_new out_old out_new)
      → IfErr r (λ f. f ≡ Device → InputFailed input journal_old journal_new seal_old seal_new out_old out_new
      ⊎ HasStopped Q failures named leaves seal_failures seal_named seal_leaves out_failures contents older journal_old journal_new seal_old seal_new out_old out_new)
  all_stopped input failures named leaves seal_failures seal_named seal_leaves out_failures contents older journal_old journal_new seal_old seal_new out_old out_new (Ok done) stopped = tt
  all_stopped input failures named leaves seal_failures seal_named seal_leaves out_failures contents older journal_old journal_new seal_old seal_new out_old out_new (Err fault) stopped = λ device.
      let s = stopped device in
      inr (record {
        journal = s.journal;
        entry = s.entry;
        replies = s.replies;
        right = give s.journal s.entry s.replies s.right;
        order = s.order;
        stopped = s.stopped;
      })

  pub all_unsealable : (large : Type 0) (r : Result (Unit {0}) DeskFault)
      → IfErr r (λ f. f ≡ TooLarge → IsUnsealable P) → IfErr r (λ f. f ≡ TooLarge → large ⊎ IsUnsealable Q)
  all_unsealable large (Ok done) is = tt
  all_unsealable large (Err fault) is = λ over.
      let u = is over in
      inr (record {
        journal = u.journal;
        entry = u.entry;
        replies = u.replies;
        right = give u.journal u.entry u.replies u.right;
        broken = u.broken;
      })

-- ---- the texts of a run, and the entry of its journal

-- the history of what is asked behind the past, its receipts, and its replies
pub record IsBooked (flights : List Flown) (grid : Ladders) (past : List Entry) (scripts : List (List Request)) (changes : List Control) (history : List Entry) (receipts : List (List Entry)) (replies : List ℕ) : Type 0 where
  pub is_history : IsHistoryOf grid past changes (lists_over past (map (commands_of flights) scripts)) history receipts
  pub are_entries : AllByRecursion IsEntry history
  pub is_replied : IsReplied flights past scripts history receipts replies

-- the texts are told by other names
pub same_texts : (b basis : Basis) (named imprints : List (Option Imprint)) (told changed : Option Imprint) (ahead behind today : ℕ)
    (before earlier : Carried) (slice lines : List Entry) (text said : List ℕ)
    → b ≡ basis → named ≡ imprints → told ≡ changed → ahead ≡ behind → before ≡ earlier → slice ≡ lines → text ≡ said
    → (journal : List ℕ) (entry : Belonging) (replies : List ℕ)
    → AreTexts b named told ahead today before slice text journal entry replies
    → AreTexts basis imprints changed behind today earlier lines said journal entry replies
same_texts b basis named imprints told changed ahead behind today before earlier slice lines text said zero one two three runs four five journal entry replies are =
    subst (λ (x : Basis). AreTexts x imprints changed behind today earlier lines said journal entry replies) zero
    (subst (λ (l : List (Option Imprint)). AreTexts b l changed behind today earlier lines said journal entry replies) one
    (subst (λ (l : Option Imprint). AreTexts b named l behind today earlier lines said journal entry replies) two
    (subst (λ (n : ℕ). AreTexts b named told n today earlier lines said journal entry replies) three
    (subst (λ (l : Carried). AreTexts b named told ahead today l lines said journal entry replies) runs
    (subst (λ (l : List Entry). AreTexts b named told ahead today before l said journal entry replies) four
    (subst (λ (l : List ℕ). AreTexts b named told ahead today before slice l journal entry replies) five are))))))

-- what is said of the last of three texts, or of four, beside what is said of them all
with_third : (P : List ℕ → List ℕ → List ℕ → Type 0) (Q : List ℕ → Type 0) (set limits after : Option (List ℕ))
    → OfThree set limits after P → IfSome after Q → OfThree set limits after (λ xs ys zs. P xs ys zs × Q zs)
with_third P Q (Some xs) (Some ys) (Some zs) p q = (p, q)
with_third P Q (Some xs) (Some ys) None p q = tt
with_third P Q (Some xs) None after p q = tt
with_third P Q None limits after p q = tt

with_fourth : (P : List ℕ → List ℕ → List ℕ → List ℕ → Type 0) (Q : List ℕ → Type 0) (set limits after resumed : Option (List ℕ))
    → OfFour set limits after resumed P → IfSome resumed Q
    → OfFour set limits after resumed (λ xs ys old zs. P xs ys old zs × Q zs)
with_fourth P Q (Some xs) (Some ys) (Some old) (Some zs) p q = (p, q)
with_fourth P Q (Some xs) (Some ys) (Some old) None p q = tt
with_fourth P Q (Some xs) (Some ys) None resumed p q = tt
with_fourth P Q (Some xs) None after resumed p q = tt
with_fourth P Q None limits after resumed p q = tt

based_three : (P Q : List ℕ → List ℕ → List ℕ → Type 0) (basis : Basis) (first days : ℕ) (set limits after : Option (List ℕ))
    → IfSome set (λ xs. IfSome limits (λ ys. basis ≡ basis_of xs ys first days))
    → ((xs ys zs : List ℕ) → basis ≡ basis_of xs ys first days → P xs ys zs → Q xs ys zs)
    → OfThree set limits after P → OfThree set limits after Q
based_three P Q basis first days (Some xs) (Some ys) (Some zs) known give p = give xs ys zs known p
based_three P Q basis first days (Some xs) (Some ys) None known give p = tt
based_three P Q basis first days (Some xs) None after known give p = tt
based_three P Q basis first days None limits after known give p = tt

based_four : (P Q R : List ℕ → List ℕ → List ℕ → List ℕ → Type 0) (basis : Basis) (first days : ℕ)
    (set limits after resumed : Option (List ℕ))
    → IfSome set (λ xs. IfSome limits (λ ys. basis ≡ basis_of xs ys first days))
    → ((xs ys old zs : List ℕ) → basis ≡ basis_of xs ys first days → P xs ys old zs → Q xs ys old zs → R xs ys old zs)
    → OfFour set limits after resumed P → OfFour set limits after resumed Q → OfFour set limits after resumed R
based_four P Q R basis first days (Some xs) (Some ys) (Some old) (Some zs) known give p q = give xs ys old zs known p q
based_four P Q R basis first days (Some xs) (Some ys) (Some old) None known give p q = tt
based_four P Q R basis first days (Some xs) (Some ys) None resumed known give p q = tt
based_four P Q R basis first days (Some xs) None after resumed known give p q = tt
based_four P Q R basis first days None limits after resumed known give p q = tt

module _ (set limits after : Option (List ℕ)) (first days today : ℕ) (texts : List (Option (List ℕ))) (changing : Option (List ℕ)) (flights : List Flown) (grid : Ladders) (past : List Entry) (scripts : List (List Request)) (changes : List Control)
    (history : List Entry) (receipts : List (List Entry)) (replies : List ℕ) (booked : IsBooked flights grid past scripts changes history receipts replies)
    (basis : Basis) (known : IfSome set (λ xs. IfSome limits (λ ys. basis ≡ basis_of xs ys first days)))
    (imprints : List (Option Imprint)) (are : AreImprints texts imprints) (changed : Option Imprint) (is : IsImprintOf changing changed) (behind : ℕ) (earlier : Carried) (beside : Beside) where
  module _ (asked : OfThree set limits after (λ xs ys zs. IsAsked xs ys first days today zs texts changing flights grid past scripts changes))
      (count : behind ≡ length past) (runs : IfSome after (λ zs. IsCarried beside zs earlier)) where
    pub sealed_run : (journal : List ℕ) (entry : Belonging) (said : List ℕ)
        → AreTexts basis imprints changed behind today earlier history replies journal entry said
        → OfThree set limits after (λ xs ys zs. IsSealedRun beside xs ys first days today zs texts changing journal entry said)
    sealed_run journal entry said t =
        based_three (λ xs ys zs. IsAsked xs ys first days today zs texts changing flights grid past scripts changes × IsCarried beside zs earlier)
        (λ xs ys zs. IsSealedRun beside xs ys first days today zs texts changing journal entry said) basis first days set limits after known
        (λ xs ys zs same a. record {
          run = record {
            flights = flights;
            grid = grid;
            past = past;
            scripts = scripts;
            changes = changes;
            is_asked = a.0;
            history = history;
            receipts = receipts;
            is_history = booked.is_history;
            are_entries = booked.are_entries;
            journal_is = t.journal_is;
            is_replied = subst (IsReplied flights past scripts history receipts) (sym t.replies_are) booked.is_replied;
          };
          imprints = imprints;
          are_imprints = are;
          changed = changed;
          is_changed = is;
          earlier = earlier;
          are_earlier = a.1;
          is_entry = subst (λ (b : Basis). IsEntryOfRun b imprints changed (length past) (length history) today earlier journal entry) same
              (subst (λ (n : ℕ). IsEntryOfRun basis imprints changed n (length history) today earlier journal entry) count t.entry_is);
        })
        (with_third (λ xs ys zs. IsAsked xs ys first days today zs texts changing flights grid past scripts changes) (λ zs. IsCarried beside zs earlier) set limits after asked runs)

  module _ (resumed : Option (List ℕ)) (given : Option ℕ)
      (asked : OfFour set limits after resumed (λ xs ys old zs. WithTaken given beside zs (λ more. IsAskedStill xs ys first days today old more zs texts changing flights grid past scripts changes)))
      (ahead : OfFour set limits after resumed (λ xs ys old zs. WithTaken given beside zs (λ more. IsAhead more old behind)))
      (runs : IfSome resumed (λ zs. IsCarried beside zs earlier)) where
    pub sealed_resume : (journal : List ℕ) (entry : Belonging) (said : List ℕ)
        → AreTexts basis imprints changed behind today earlier history replies journal entry said
        → OfFour set limits after resumed
        (λ xs ys old zs. WithTaken given beside zs (λ more. IsSealedResume beside xs ys first days today old more zs texts changing journal entry said))
    sealed_resume journal entry said t =
        based_four (λ xs ys old zs. WithTaken given beside zs (λ more. IsAskedStill xs ys first days today old more zs texts changing flights grid past scripts changes) × IsCarried beside zs earlier)
        (λ xs ys old zs. WithTaken given beside zs (λ more. IsAhead more old behind))
        (λ xs ys old zs. WithTaken given beside zs (λ more. IsSealedResume beside xs ys first days today old more zs texts changing journal entry said)) basis first days set limits after resumed known
        (λ xs ys old zs same a h. record {
          more = a.0.more;
          are_taken = a.0.are_taken;
          here = record {
            run = record {
              flights = flights;
              grid = grid;
              lines = past;
              left = scripts;
              rest = changes;
              is_asked = a.0.here;
              history = history;
              receipts = receipts;
              is_history = booked.is_history;
              are_entries = booked.are_entries;
              written_is = t.journal_is;
              is_replied = subst (IsReplied flights past scripts history receipts) (sym t.replies_are) booked.is_replied;
            };
            imprints = imprints;
            are_imprints = are;
            changed = changed;
            is_changed = is;
            earlier = earlier;
            are_earlier = a.1;
            is_entry = subst (λ (b : Basis). IsEntryOfRun b imprints changed (length a.0.here.older + a.0.more) (length history) today earlier journal entry) same
                (subst (λ (n : ℕ). IsEntryOfRun basis imprints changed (length a.0.here.older + n) (length history) today earlier journal entry) (one_taken given beside zs h.more a.0.more h.are_taken a.0.are_taken)
                (subst (λ (n : ℕ). IsEntryOfRun basis imprints changed n (length history) today earlier journal entry) (h.here.each a.0.here.older a.0.here.is_asked.are_ready.is_older.is_text) t.entry_is));
          };
        })
        (with_fourth (λ xs ys old zs. WithTaken given beside zs (λ more. IsAskedStill xs ys first days today old more zs texts changing flights grid past scripts changes)) (λ zs. IsCarried beside zs earlier) set limits after resumed asked runs) ahead
