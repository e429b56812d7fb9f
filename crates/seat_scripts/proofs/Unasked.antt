-- What is refused as unasked has no line of an audit.
use Rattle.std.proofs.Common.{◌≡◌, ⊎_elim, ◌-◌, ◌<◌, ℕ, zero, suc, List, [], ◌∷◌, ◌++◌, length, map, refl, sym, ap, ◌∙◌, subst, arith, Some, drop, zero-add, ◌+◌}
use Rattle.seat_replies.specs.RunDesk.{requests_of}
use Rattle.seat_scripts.proofs.Common.{slice_get, Request, Ladders, Entry, Work, DeskFault, Unasked, AreAskedBehind, IsUnasked, done_by, AreScripts}
use Rattle.std.proofs.lemmas.List.{append_assoc, length-append}
use Rattle.ssim_records.specs.declared.set.DataSet.{DataSet}
use Rattle.ssim_records.proofs.SetLaws.{one_data_set}
use Rattle.airimp_lines.proofs.Uniqueness.{one_script}
use Rattle.ssim_flights.specs.declared.flight.Flight.{Flight as Flown}
use Rattle.seat_journal.proofs.TextLaws.{one_text}
use Rattle.seat_rules.specs.Prefixes.{Begins}
use Rattle.seat_desk.specs.CheckDesk.{most_records}
use Rattle.seat_desk.specs.FlightsDesk.{set_flights}
use Rattle.seat_desk.specs.Loading.{IsLoadedGrid}
use Rattle.seat_scripts.specs.Against.{AreAsked, AreVeryRequests, AuditsBehindNoLines, DifferAt, IsNoBeginning, IsParted, IsShort, IsUnaskedBehind, UnaskedIsNotAudited}
use Rattle.seat_desk.specs.declared.fault.DeskFault.TheVariants.{NoBehind}

pub one_schedule : (set limits : List ℕ) (first days : ℕ) (flights flights' : List Flown) (grid grid' : Ladders)
    → IsLoadedGrid set limits first days flights grid → IsLoadedGrid set limits first days flights' grid'
    → flights ≡ flights'
one_schedule set limits first days flights flights' grid grid' a b =
    let sets : a.is_schedule.set ≡ b.is_schedule.set = one_data_set most_records most_records set a.is_schedule.set b.is_schedule.set a.is_schedule.is_set b.is_schedule.is_set in
    a.is_schedule.are_flights ∙ (ap (λ (s : DataSet). set_flights s first days) sets ∙ sym b.is_schedule.are_flights)

pub same_scripts : (today : ℕ) (texts : List (List ℕ)) (a b : List (List Request)) → AreScripts today (map Some texts) a
    → AreScripts today (map Some texts) b → a ≡ b
same_scripts today [] [] [] h k = refl
same_scripts today [] [] (y ∷ b) h k = absurd k
same_scripts today [] (x ∷ a) b h k = absurd h
same_scripts today (text ∷ texts) [] b h k = absurd h
same_scripts today (text ∷ texts) (x ∷ a) [] h k = absurd k
same_scripts today (text ∷ texts) (x ∷ a) (y ∷ b) h k =
    ap (λ (l : List (List Request)). x ∷ l) (same_scripts today texts a b h.1 k.1) ∙ ap (λ (r : List Request). r ∷ b) (one_script today text x y h.0.is_script k.0.is_script)

differs : (flights : List Flown) (call : ℕ) (requests : List Request) (done : List Work)
    → DifferAt flights call requests done → AreVeryRequests flights requests done → ⊥
differs flights call requests done differ very = differ.there (very.each (call - 1))

-- a beginning has the same lines
same_there : (xs ys : List Entry) (i : ℕ) → i < length xs → slice_get (xs ++ ys) i ≡ slice_get xs i
same_there [] ys i lt = absurd (omega (arith, lt))
same_there (x ∷ xs) ys zero lt = refl
same_there (x ∷ xs) ys (suc i) lt = same_there xs ys i (omega (arith, lt))

begins_not : (older journal : List Entry) (session call : ℕ) → IsNoBeginning older journal session call
    → Begins older journal → ⊥
begins_not older journal session call parts begins =
    parts.part.there (ap (λ (l : List Entry). slice_get l parts.place) begins.is ∙ same_there older begins.rest parts.place parts.part.within)

-- what was added is what stands behind so many lines
behind_seam : (xs ys : List Entry) → drop (length xs) (xs ++ ys) ≡ ys
behind_seam [] ys = refl
behind_seam (x ∷ xs) ys = behind_seam xs ys

module _ (older : List Entry) (more : ℕ) (journal : List Entry) where
  pub own_added : (past added : List Entry) → IsParted older more past added journal
      → added ≡ drop (length older + more) journal
  own_added past added p = sym (behind_seam past added) ∙ (ap (drop (length past)) (sym p.whole) ∙ ap (λ (k : ℕ). drop k journal) p.count)

  its_beginning : (past added : List Entry) → IsParted older more past added journal → Begins older journal
  its_beginning past added p = record {
    rest = p.goes_on.rest ++ added;
    is = p.whole ∙ (ap (λ (l : List Entry). l ++ added) p.goes_on.is ∙ append_assoc older p.goes_on.rest added);
  }

  short_not : (past added : List Entry) → IsShort older more journal → IsParted older more past added journal → ⊥
  short_not past added s p = absurd (omega (arith, s.short, ap length p.whole, length-append past added, p.count))

behind_not : (flights : List Flown) (scripts : List (List Request)) (older : List Entry) (more : ℕ)
    (journal : List Entry) (session call : ℕ)
    → IsUnaskedBehind flights scripts older more journal session call
    → AreAskedBehind flights scripts older more journal → ⊥
behind_not flights scripts older more journal session call unasked asked =
    let same : unasked.added ≡ asked.added = own_added older more journal unasked.past unasked.added unasked.parted ∙ sym (own_added older more journal asked.past asked.added asked.parted) in
    differs flights unasked.place (requests_of scripts session) (done_by session unasked.added) unasked.first.differ
    (subst (λ (lines : List Entry). AreVeryRequests flights (requests_of scripts session) (done_by session lines)) (sym same) (asked.are_asked.each session unasked.first.from_one))

not_asked : (flights : List Flown) (scripts : List (List Request)) (older : List Entry) (more : ℕ)
    (journal : List Entry) (fault : DeskFault)
    → IsUnasked flights scripts older more journal fault → AreAskedBehind flights scripts older more journal → ⊥
not_asked flights scripts older more journal (Unasked session call) unasked asked =
    ⊎_elim
    (λ (parts : IsNoBeginning older journal session call). begins_not older journal session call parts (its_beginning older more journal asked.past asked.added asked.parted))
    (λ (behind : IsUnaskedBehind flights scripts older more journal session call). behind_not flights scripts older more journal session call behind asked)
    unasked
not_asked flights scripts older more journal NoBehind short asked = short_not older more journal asked.past asked.added short asked.parted
not_asked flights scripts older more journal _ none asked = none

pub unasked_is_not_audited : UnaskedIsNotAudited
unasked_is_not_audited set limits first days after more journal today texts fault line refused audited =
    let flown : refused.flights ≡ audited.flights = one_schedule set limits first days refused.flights audited.flights refused.grid audited.grid refused.is_loaded.loaded audited.is_loaded.loaded in
    let entries : refused.core.journal ≡ audited.is_audited.entries = one_text journal refused.core.journal audited.is_audited.entries refused.is_replay.is_replay.is_text audited.is_audited.is_text in
    let lines : refused.older.journal ≡ audited.older.journal = one_text after refused.older.journal audited.older.journal refused.is_older.is_replay.is_text audited.is_older.is_replay.is_text in
    let scripts : refused.scripts ≡ audited.scripts = same_scripts today texts refused.scripts audited.scripts refused.are_scripts audited.are_scripts in
    not_asked refused.flights refused.scripts refused.older.journal more refused.core.journal fault refused.is_unasked
    (subst (λ (f : List Flown). AreAskedBehind f refused.scripts refused.older.journal more refused.core.journal) (sym flown)
    (subst (λ (s : List (List Request)). AreAskedBehind audited.flights s refused.older.journal more refused.core.journal) (sym scripts)
    (subst (λ (es : List Entry). AreAskedBehind audited.flights audited.scripts es more refused.core.journal) (sym lines)
    (subst (λ (es : List Entry). AreAskedBehind audited.flights audited.scripts audited.older.journal more es) (sym entries) audited.are_asked))))

pub audits_behind_no_lines : AuditsBehindNoLines
audits_behind_no_lines set limits first days after more journal today texts line empty audit =
    let nothing : audit.older.journal ≡ [] = one_text after audit.older.journal [] audit.is_older.is_replay.is_text empty in
    let asked = audit.are_asked in
    let count : length audit.older.journal + more ≡ more = ap (λ (l : List Entry). length l + more) nothing ∙ zero-add more in
    let all : asked.added ≡ drop more audit.is_audited.entries =
    own_added audit.older.journal more audit.is_audited.entries asked.past asked.added asked.parted ∙ ap (λ (k : ℕ). drop k audit.is_audited.entries) count in
    subst (AreAsked audit.flights audit.scripts) all asked.are_asked
