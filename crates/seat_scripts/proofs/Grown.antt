-- Scripts that have grown: what a session has done of its script, and what is left of it.
use Rattle.std.proofs.Common.{◌≡◌, ⊎_elim, ℕ, zero, suc, ◌+◌, ◌-◌, ◌<◌, ◌≤◌, List, [], ◌∷◌, ◌++◌, length, map, take, drop, get_or, refl, sym, ap, ◌∙◌, subst, arith, Option}
use Rattle.std.specs.Prelude.{slice_get, unwrap_or}
use Rattle.std.proofs.lemmas.Bool.{cases_lt}
use Rattle.std.proofs.lemmas.List.{drop_all, length-append, length-drop, length-map, length-take-le, take_more}
use Rattle.seat_rules.specs.Journal.{calls_of}
use Rattle.seat_rules.proofs.Own.{calls_own}
use Rattle.seat_scripts.proofs.Common.{Entry, Request, Seats, Work, commands_of, done_by, of_session}
use Rattle.seat_scripts.proofs.Comparing.{AgreeSoFar, all_lines, at_front, done_append}
use Rattle.seat_replies.proofs.Very.{commands_are_very_requests}
use Rattle.seat_replies.specs.Requests.{command_of}
use Rattle.seat_scripts.specs.Resuming.{AreAskedOf, HasBegun, HaveBegunBelow, NothingIsLeft, left_from}
use Rattle.seat_replies.specs.RunDesk.{requests_of}
use Rattle.seat_replies.specs.VeryRequest.{Agree}
use Rattle.ssim_flights.specs.declared.flight.Flight.{Flight as Flown}

-- all lines of the session are the first requests
pub begun_all : (flights : List Flown) (session : ℕ) (requests : List Request) (journal : List Entry) (calls i : ℕ)
    → length journal ≤ i → AgreeSoFar flights session requests calls (take i journal)
    → HasBegun flights requests (done_by session journal)
begun_all flights session requests journal calls i whole so_far =
    let all : AgreeSoFar flights session requests calls journal = all_lines flights session requests journal calls i whole so_far in
    record { each = λ place low. all.begun place (omega (arith, low, all.count)) }

-- ---- how many

pub done_count : (session : ℕ) (lines : List Entry) → length (done_by session lines) ≡ calls_of lines session
done_count session lines = length-map (of_session session lines) _ ∙ sym (calls_own lines session)

-- ---- what is left

left_push : (session : ℕ) (scripts : List (List Request)) (script : List Request) (lines : List Entry)
    → left_from session (scripts ++ script ∷ []) lines
    ≡ left_from session scripts lines ++ drop (length (done_by (session + length scripts) lines)) script ∷ []
left_push session [] script lines = rw (plus_none session) refl where
  plus_none : (n : ℕ) → n + 0 ≡ n
  plus_none n = omega arith
left_push session (first ∷ scripts) script lines =
    ap (λ (l : List (List Request)). drop (length (done_by session lines)) first ∷ l)
    (left_push (suc session) scripts script lines
    ∙ ap (λ (s : ℕ). left_from (suc session) scripts lines ++ drop (length (done_by s lines)) script ∷ []) (plus_suc session (length scripts)))
  where
    plus_suc : (n m : ℕ) → suc n + m ≡ n + suc m
    plus_suc n m = omega arith

pub left_more : (scripts : List (List Request)) (lines : List Entry) (place done : ℕ) (script : List Request)
    → place < length scripts → script ≡ get_or scripts place script → done ≡ calls_of lines (place + 1)
    → left_from 1 (take (place + 1) scripts) lines
    ≡ left_from 1 (take place scripts) lines ++ drop done script ∷ []
left_more scripts lines place done script within is count =
    let taken : length (take place scripts) ≡ place = length-take-le place scripts (omega (arith, within)) in
    let own : 1 + length (take place scripts) ≡ place + 1 = omega (arith, taken) in
    ap (λ (l : List (List Request)). left_from 1 l lines) (take_more scripts place script within)
    ∙ (ap (λ (x : List Request). left_from 1 (take place scripts ++ x ∷ []) lines) (sym is)
    ∙ (left_push 1 (take place scripts) script lines
    ∙ (ap (λ (s : ℕ). left_from 1 (take place scripts) lines ++ drop (length (done_by s lines)) script ∷ []) own
    ∙ ap (λ (n : ℕ). left_from 1 (take place scripts) lines ++ drop n script ∷ []) (done_count (place + 1) lines ∙ sym count))))

-- ---- nothing is left of scripts that were booked whole

none_plus : (n : ℕ) → 0 + n ≡ n
none_plus n = omega arith

plus_none : (n : ℕ) → n + 0 ≡ n
plus_none n = omega arith

suc_plus : (k n : ℕ) → suc k + n ≡ suc (k + n)
suc_plus k n = omega arith

plus_suc : (k n : ℕ) → k + suc n ≡ suc k + n
plus_suc k n = omega arith

one_plus : (n : ℕ) → 1 + n ≡ suc n
one_plus n = omega arith

get_beyond : (xs ys : List Work) (n : ℕ) → slice_get (xs ++ ys) (length xs + n) ≡ slice_get ys n
get_beyond [] ys n = ap (slice_get ys) (none_plus n)
get_beyond (x ∷ xs) ys n = ap (slice_get (x ∷ (xs ++ ys))) (suc_plus (length xs) n) ∙ get_beyond xs ys n

get_dropped : (k : ℕ) (xs : List Request) (i : ℕ) → slice_get (drop k xs) i ≡ slice_get xs (k + i)
get_dropped zero xs i = ap (slice_get xs) (sym (none_plus i))
get_dropped (suc k) [] i = refl
get_dropped (suc k) (x ∷ xs) i = get_dropped k xs i ∙ ap (slice_get (x ∷ xs)) (sym (suc_plus k i))

-- what requests ask is these very requests
asked_agree : (flights : List Flown) (requests : List Request) (place : ℕ) → place < length requests
    → Agree flights (slice_get requests place) (slice_get (map Seats (commands_of flights requests)) place)
asked_agree flights [] place low = absurd (omega (arith, low))
asked_agree flights (r ∷ requests) zero low = commands_are_very_requests flights r
asked_agree flights (r ∷ requests) (suc place) low = asked_agree flights requests place (omega (arith, low))

-- the script of a session, and what is left of it
abbrev script_at : List (List Request) → ℕ → List Request
script_at scripts place = unwrap_or (slice_get scripts place) []

nothing : (n : ℕ) → ◌≡◌ {A = List Request} [] (drop n [])
nothing zero = refl
nothing (suc n) = refl

left_at : (session : ℕ) (scripts : List (List Request)) (lines : List Entry) (place : ℕ)
    → script_at (left_from session scripts lines) place
    ≡ drop (length (done_by (session + place) lines)) (script_at scripts place)
left_at session [] lines place = nothing (length (done_by (session + place) lines))
left_at session (script ∷ scripts) lines zero =
    ap (λ (s : ℕ). drop (length (done_by s lines)) script) (sym (plus_none session))
left_at session (script ∷ scripts) lines (suc place) =
    left_at (suc session) scripts lines place
    ∙ ap (λ (s : ℕ). drop (length (done_by s lines)) (script_at scripts place)) (sym (plus_suc session place))

left_of : (scripts : List (List Request)) (lines : List Entry) (session : ℕ) → 1 ≤ session
    → requests_of (left_from 1 scripts lines) session
    ≡ drop (length (done_by session lines)) (requests_of scripts session)
left_of scripts lines zero low = absurd (omega (arith, low))
left_of scripts lines (suc place) low =
    left_at 1 scripts lines place
    ∙ ap (λ (s : ℕ). drop (length (done_by s lines)) (script_at scripts place)) (one_plus place)

module _ (flights : List Flown) (scripts : List (List Request)) (lines added : List Entry)
    (have_begun : HaveBegunBelow flights scripts lines 9)
    (asked : AreAskedOf flights (left_from 1 scripts lines) added) where
  abbrev pub before : ℕ → ℕ
  before session = length (done_by session lines)

  abbrev pub rest : ℕ → List Request
  rest session = drop (before session) (requests_of scripts session)

  added_of : (session : ℕ) → 1 ≤ session → done_by session added ≡ map Seats (commands_of flights (rest session))
  added_of session low =
      asked.each session low
      ∙ ap (λ (l : List Request). map Seats (commands_of flights l)) (left_of scripts lines session low)

  pub done_all : (session : ℕ) → 1 ≤ session
      → done_by session (lines ++ added) ≡ done_by session lines ++ map Seats (commands_of flights (rest session))
  done_all session low =
      done_append session lines added
      ∙ ap (λ (l : List Work). done_by session lines ++ l) (added_of session low)

  asked_length : (session : ℕ) → length (map Seats (commands_of flights (rest session))) ≡ length (rest session)
  asked_length session =
      length-map (commands_of flights (rest session)) Seats ∙ length-map (rest session) (command_of flights)

  pub done_length : (session : ℕ) → 1 ≤ session
      → length (done_by session (lines ++ added)) ≡ before session + length (rest session)
  done_length session low =
      ap length (done_all session low)
      ∙ (length-append (done_by session lines) (map Seats (commands_of flights (rest session)))
      ∙ ap (λ (n : ℕ). before session + n) (asked_length session))

  abbrev there : ℕ → ℕ → List Work → Type 0
  there session place works = Agree flights (slice_get (requests_of scripts session) place) (slice_get works place)

  in_lines : (session : ℕ) → 1 ≤ session → session < 9 → (place : ℕ) → place < before session
      → there session place (done_by session lines ++ map Seats (commands_of flights (rest session)))
  in_lines session low high place within =
      subst (λ (o : Option Work). Agree flights (slice_get (requests_of scripts session) place) o)
      (sym (at_front (done_by session lines) (map Seats (commands_of flights (rest session))) place within))
      ((have_begun.each session low high).each place within)

  in_added : (session : ℕ) (n : ℕ) → n < length (rest session)
      → there session (before session + n) (done_by session lines ++ map Seats (commands_of flights (rest session)))
  in_added session n within =
      subst (λ (o : Option Work). Agree flights (slice_get (requests_of scripts session) (before session + n)) o)
      (sym (get_beyond (done_by session lines) (map Seats (commands_of flights (rest session))) n))
      (subst (λ (o : Option Request). Agree flights o (slice_get (map Seats (commands_of flights (rest session))) n))
      (get_dropped (before session) (requests_of scripts session) n)
      (asked_agree flights (rest session) n within))

  pub all_there : (session : ℕ) → 1 ≤ session → session < 9 → (place : ℕ) → place < before session + length (rest session)
      → there session place (done_by session lines ++ map Seats (commands_of flights (rest session)))
  all_there session low high place within = ⊎_elim (in_lines session low high place) behind (cases_lt place (before session)) where
    behind : before session ≤ place
        → there session place (done_by session lines ++ map Seats (commands_of flights (rest session)))
    behind past =
        let n : ℕ = place - before session in
        let parts : before session + n ≡ place = omega (arith, past) in
        subst (λ (k : ℕ). there session k (done_by session lines ++ map Seats (commands_of flights (rest session)))) parts
        (in_added session n (omega (arith, within, past)))

  all_have_begun : HaveBegunBelow flights scripts (lines ++ added) 9
  all_have_begun = record {
    each = λ session low high. record {
      each = λ place within.
          subst (there session place) (sym (done_all session low))
          (all_there session low high place (omega (arith, within, done_length session low)));
    };
  }

  -- no script has more requests than its session has lines
  none_longer : (session : ℕ) → 1 ≤ session
      → length (requests_of scripts session) ≤ length (done_by session (lines ++ added))
  none_longer session low =
      let cut : length (rest session) ≡ length (requests_of scripts session) - before session = length-drop (before session) (requests_of scripts session) in
      omega (arith, done_length session low, cut)

cons_same : {x y : List Request} {xs ys : List (List Request)} → x ≡ y → xs ≡ ys → x ∷ xs ≡ y ∷ ys
cons_same e f = λ i. e i ∷ f i

none_left : (session : ℕ) (scripts : List (List Request)) (lines : List Entry)
    → ((place : ℕ) → length (script_at scripts place) ≤ length (done_by (session + place) lines))
    → map (λ script. []) scripts ≡ left_from session scripts lines
none_left session [] lines none = refl
none_left session (script ∷ scripts) lines none =
    let own : length script ≤ length (done_by session lines) = subst (λ (s : ℕ). length script ≤ length (done_by s lines)) (plus_none session) (none 0) in
    cons_same (sym (drop_all (length (done_by session lines)) script own))
    (none_left (suc session) scripts lines (λ place. subst (λ (s : ℕ). length (script_at scripts place) ≤ length (done_by s lines)) (plus_suc session place) (none (suc place))))

pub nothing_is_left : NothingIsLeft
nothing_is_left flights scripts left lines added are_left asked =
    let own : AreAskedOf flights (left_from 1 scripts lines) added = subst (λ (l : List (List Request)). AreAskedOf flights l added) are_left.left_is asked in
    record {
      have_begun = all_have_begun flights scripts lines added are_left.have_begun own;
      left_is = none_left 1 scripts (lines ++ added) (λ place. subst (λ (s : ℕ). length (script_at scripts place) ≤ length (done_by s (lines ++ added))) (sym (one_plus place)) (none_longer flights scripts lines added are_left.have_begun own (suc place) (omega arith)));
    }
