-- The places of a session's lines, and the calls that are found by them.
use Rattle.std.proofs.Common.{◌≡◌, ℕ, zero, suc, ◌+◌, ◌-◌, ◌<◌, ◌≤◌, Bool, true, false, ◌==◌, List, [], ◌∷◌, ◌++◌, length, take, drop, get_or, cond, refl, ap, sym, ◌∙◌, subst, arith, append-nil, append_assoc, length-append}
use Rattle.std.specs.Prelude.{Option, Some, None, slice_get}
use Rattle.std.proofs.lemmas.List.{length-take-le, take_more}
use Rattle.std.proofs.lemmas.Option.{slice_get_past}
use Rattle.std.proofs.Math.Seq.{take-length}
use Rattle.seat_journal.specs.declared.entry.Entry.{Entry}
use Rattle.seat_nesting.specs.Nesting.{Ladders}
use Rattle.seat_rules.specs.Histories.{of_session}
use Rattle.seat_rules.specs.Journal.{calls_of, IsLegal}
use Rattle.seat_rules.proofs.Own.{calls_own, own_append, own_one}
use Rattle.desk_calls.specs.Calls.{call_line, line_at, line_by, place_if, place_of, places_from, CallsRun, HasStepped, IsIndex, IsLineIn, IsSameIndex, IsWhole}
use Rattle.desk_calls.specs.declared.call_index.CallIndex.{CallIndex}

-- ---- one line more

-- it has its own place more
pub places_more : (session n : ℕ) (lines : List Entry) (e : Entry)
    → places_from session n (lines ++ e ∷ []) ≡ places_from session n lines ++ place_of session (n + length lines) e
places_more session n [] e =
    let here : n ≡ n + length {A = Entry} [] = omega arith in
    append-nil (place_of session n e) ∙ ap (λ (k : ℕ). place_of session k e) here
places_more session n (d ∷ lines) e =
    let there : suc n + length lines ≡ n + length (d ∷ lines) = omega arith in
    ap (λ (ps : List ℕ). place_of session n d ++ ps) (places_more session (suc n) lines e)
    ∙ sym (append_assoc (place_of session n d) (places_from session (suc n) lines) (place_of session (suc n + length lines) e))
    ∙ ap (λ (k : ℕ). place_of session n d ++ places_from session (suc n) lines ++ place_of session k e) there

pub stepped : (session : ℕ) (journal : List Entry) (line d : Entry) (old new : CallIndex) → IsIndex session journal old
    → HasStepped session line old new → old.seen < length journal → line ≡ get_or journal old.seen d → IsIndex session journal new
stepped session journal line d old new is step below at =
    let longer : take (old.seen + 1) journal ≡ take old.seen journal ++ line ∷ [] =
    take_more journal old.seen d below ∙ ap (λ (e : Entry). take old.seen journal ++ e ∷ []) (sym at) in
    let count : length (take old.seen journal) ≡ old.seen = length-take-le old.seen journal is.within in
    let more : places_from session 0 (take (old.seen + 1) journal)
    ≡ places_from session 0 (take old.seen journal) ++ place_of session (0 + length (take old.seen journal)) line =
    ap (places_from session 0) longer ∙ places_more session 0 (take old.seen journal) line in
    let zeroed : 0 + length (take old.seen journal) ≡ old.seen = omega (arith, count) in
    record {
      within = omega (arith, step.seen_is, below);
      places_are = step.places_are ∙ ap (λ (ps : List ℕ). ps ++ place_of session old.seen line) is.places_are
          ∙ ap (λ (k : ℕ). places_from session 0 (take old.seen journal) ++ place_of session k line) (sym zeroed)
          ∙ sym more ∙ ap (λ (k : ℕ). places_from session 0 (take k journal)) (sym step.seen_is);
    }

pub same_index : (session : ℕ) (journal : List Entry) (old new : CallIndex) → IsIndex session journal old → IsSameIndex old new
    → IsIndex session journal new
same_index session journal old new is same = record {
  within = omega (arith, is.within, same.seen_is);
  places_are = same.places_are ∙ is.places_are ∙ ap (λ (k : ℕ). places_from session 0 (take k journal)) (sym same.seen_is);
}

pub no_index : (session : ℕ) (journal : List Entry) (index : CallIndex) → index.places.items ≡ [] → index.seen ≡ 0
    → IsIndex session journal index
no_index session journal index none zeroed = record {
  within = omega (arith, zeroed);
  places_are = none ∙ ap (λ (k : ℕ). places_from session 0 (take k journal)) (sym zeroed);
}

pub all_places : (session : ℕ) (journal : List Entry) (index : CallIndex) → IsIndex session journal index
    → index.seen ≡ length journal → IsWhole session journal index
all_places session journal index is whole = record {
  places_are = is.places_are ∙ ap (λ (k : ℕ). places_from session 0 (take k journal)) whole
      ∙ ap (places_from session 0) (take-length journal);
}

-- ---- a call

at_seam : (past lines : List Entry) (e : Entry) → slice_get (past ++ e ∷ lines) (length past) ≡ Some e
at_seam [] lines e = refl
at_seam (d ∷ past) lines e = at_seam past lines e

found_step : (own : Bool) (e : Entry) (n : ℕ) (places : List ℕ) (lines all : List Entry) (k p : ℕ) → slice_get all n ≡ Some e
    → ((j : ℕ) → slice_get places j ≡ Some p → slice_get all p ≡ slice_get lines j)
    → slice_get (place_if own n ++ places) k ≡ Some p → slice_get all p ≡ slice_get (cond own (e ∷ lines) lines) k
found_step true e n places lines all zero p seam rest at =
    let same : n ≡ p = cc at in
    subst (λ (m : ℕ). slice_get all m ≡ Some e) same seam
found_step true e n places lines all (suc j) p seam rest at = rest j at
found_step false e n places lines all k p seam rest at = rest k at

-- what stands at a place of the session's is its line
pub found_at : (session : ℕ) (past lines : List Entry) (k p : ℕ) → slice_get (places_from session (length past) lines) k ≡ Some p
    → slice_get (past ++ lines) p ≡ slice_get (of_session session lines) k
found_at session past [] k p is = absurd (cc is)
found_at session past (e ∷ lines) k p is =
    let longer : suc (length past) ≡ length (past ++ e ∷ []) = omega (arith, length-append past (e ∷ [])) in
    let rest : (j : ℕ) → slice_get (places_from session (suc (length past)) lines) j ≡ Some p
    → slice_get (past ++ e ∷ lines) p ≡ slice_get (of_session session lines) j =
    λ j at. ap (λ (xs : List Entry). slice_get xs p) (sym (append_assoc past (e ∷ []) lines))
    ∙ found_at session (past ++ e ∷ []) lines j p
    (subst (λ (n : ℕ). slice_get (places_from session n lines) j ≡ Some p) longer at) in
    found_step (e.session == session) e (length past) (places_from session (suc (length past)) lines) (of_session session lines)
    (past ++ e ∷ lines) k p (at_seam past lines e) rest is

gone_step : (own : Bool) (e : Entry) (n : ℕ) (places : List ℕ) (lines : List Entry) (k : ℕ)
    → ((j : ℕ) → slice_get places j ≡ None → slice_get lines j ≡ None)
    → slice_get (place_if own n ++ places) k ≡ None → slice_get (cond own (e ∷ lines) lines) k ≡ None
gone_step true e n places lines zero rest at = absurd (cc at)
gone_step true e n places lines (suc j) rest at = rest j at
gone_step false e n places lines k rest at = rest k at

-- where there is no place there is no line
pub gone_at : (session n : ℕ) (lines : List Entry) (k : ℕ) → slice_get (places_from session n lines) k ≡ None
    → slice_get (of_session session lines) k ≡ None
gone_at session n [] k is = refl
gone_at session n (e ∷ lines) k is =
    gone_step (e.session == session) e n (places_from session (suc n) lines) (of_session session lines) k
    (gone_at session (suc n) lines) is

-- by an index of the whole journal each call is found
by_whole : (session call : ℕ) (journal : List Entry) (index : CallIndex) → IsWhole session journal index
    → line_by index call journal ≡ call_line session call journal
by_whole session zero journal index is = refl
by_whole session (suc k) journal index is = cases (slice_get index.places.items k) refl
  where
    same : slice_get (places_from session 0 journal) k ≡ slice_get index.places.items k
    same = ap (λ (ps : List ℕ). slice_get ps k) (sym is.places_are)

    cases : (o : Option ℕ) → slice_get index.places.items k ≡ o → line_at journal (slice_get index.places.items k)
        ≡ slice_get (of_session session journal) k
    cases None e = rw e (sym (gone_at session 0 journal k (same ∙ e)))
    cases (Some p) e = rw e (found_at session [] journal k p (same ∙ e))

pub call_there : (session call : ℕ) (journal : List Entry) (index : CallIndex) (line : Entry) → IsWhole session journal index
    → line_by index call journal ≡ Some line → Some line ≡ call_line session call journal
call_there session call journal index line is at = sym at ∙ by_whole session call journal index is

pub call_not_there : (session call : ℕ) (journal : List Entry) (index : CallIndex) → IsWhole session journal index
    → line_by index call journal ≡ None → None ≡ call_line session call journal
call_not_there session call journal index is at = sym at ∙ by_whole session call journal index is

-- no call has the number 0, and none one that is more than the session's calls
pub no_call_of_zero : (session call : ℕ) (journal : List Entry) → call ≡ 0 → None ≡ call_line session call journal
no_call_of_zero session zero journal is = refl
no_call_of_zero session (suc k) journal is = absurd (omega arith)

pub no_call_beyond : (session call : ℕ) (journal : List Entry) → calls_of journal session < call
    → None ≡ call_line session call journal
no_call_beyond session zero journal less = refl
no_call_beyond session (suc k) journal less =
    let count : calls_of journal session ≡ length (of_session session journal) = calls_own journal session in
    let past : length (of_session session journal) ≤ k = omega arith in
    sym (slice_get_past (of_session session journal) k past)

-- a line of the session with this number is that of the call
pub call_found : (session call : ℕ) (journal : List Entry) (line : Entry) → CallsRun journal → IsLineIn journal line
    → line.session ≡ session → line.call ≡ call → Some line ≡ call_line session call journal
call_found session call journal line runs there own is =
    let past : List Entry = there.past in
    let rest : List Entry = there.rest in
    let number : call ≡ suc (calls_of past session) =
    sym is ∙ runs.each past line rest there.is ∙ ap (λ (s : ℕ). calls_of past s + 1) own ∙ omega arith in
    let count : calls_of past session ≡ length (of_session session past) = calls_own past session in
    let parts : of_session session journal ≡ of_session session past ++ line ∷ of_session session rest =
    ap (of_session session) there.is ∙ own_append session past (line ∷ rest)
    ∙ ap (λ (l : List Entry). of_session session past ++ l)
    (own_append session (line ∷ []) rest ∙ ap (λ (l : List Entry). l ++ of_session session rest) (own_one session line own)) in
    let at : slice_get (of_session session journal) (calls_of past session) ≡ Some line =
    ap (λ (l : List Entry). slice_get l (calls_of past session)) parts
    ∙ ap (slice_get (of_session session past ++ line ∷ of_session session rest)) count
    ∙ at_seam (of_session session past) (of_session session rest) line in
    sym at ∙ ap (λ (n : ℕ). call_line session n journal) (sym number)

-- in a legal journal calls run
pub calls_run : (grid : Ladders) (journal : List Entry) → IsLegal grid journal → CallsRun journal
calls_run grid journal legal = record {
  each = λ past e rest is.
      (legal.each past e (record { rest = rest; is = is ∙ sym (append_assoc past (e ∷ []) rest) })).call;
}

-- what stands at a place is a line
pub line_there : (journal : List Entry) (p : ℕ) (line : Entry) → slice_get journal p ≡ Some line → IsLineIn journal line
line_there [] p line is = absurd (cc is)
line_there (e ∷ journal) zero line is =
    let same : e ≡ line = cc is in
    record { past = []; rest = journal; is = ap (λ (x : Entry). x ∷ journal) same }
line_there (e ∷ journal) (suc p) line is =
    let behind : IsLineIn journal line = line_there journal p line is in
    record { past = e ∷ behind.past; rest = behind.rest; is = ap (λ (xs : List Entry). e ∷ xs) behind.is }
