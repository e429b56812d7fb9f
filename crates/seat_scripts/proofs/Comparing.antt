-- A journal beside the requests of scripts, one line after the other.
use Rattle.std.proofs.Common.{◌≡◌, ◌≢◌, ⊎_elim, inl, inr, ℕ, zero, suc, ◌+◌, ◌-◌, ◌<◌, ◌≤◌, ◌==◌, ◌&&◌, Bool, true, false, nat_eq, List, [], ◌∷◌, ◌++◌, length, take, drop, get_or, refl, sym, ap, ◌∙◌, subst, arith, Option, Some, None}
use Rattle.seat_scripts.proofs.Common.{slice_get, Ladders, Request, Place, Change, Command, Entry, Work, Seats, IsLegal, of_session, done_by, works_in}
use Rattle.std.specs.Prelude.{IsTrue, unwrap_or}
use Rattle.std.specs.Cmp.Lexicographic.{pointwise, same_text}
use Rattle.std.specs.Option.{option_eq}
use Rattle.std.proofs.Math.Seq.{drop-cons}
use Rattle.std.proofs.lemmas.Bool.Decides.{nat_tests}
use Rattle.std.proofs.lemmas.List.{map-append, length-append, take-append-drop, take_all, take_more}
use Rattle.std.proofs.lemmas.Bool.{cases_lt}
use Rattle.std.proofs.lemmas.Option.{slice_get_cases, slice_get_past, slice_get_read}
use Rattle.seat_journal.specs.declared.entry.Work.TheVariants.{Limit, Sale}
use Rattle.seat_journal.specs.declared.entry.SaleChange.{SaleChange}
use Rattle.seat_rules.specs.Bookings.{same_place}
use Rattle.seat_rules.proofs.History.Faults.{place_same, nat_same}
use Rattle.seat_rules.proofs.History.Legal.{each_legal}
use Rattle.seat_rules.proofs.Own.{own_append, own_one, own_other}
use Rattle.seat_scripts.specs.Against.{AreAsked, AreAskedBelow, AreVeryRequests, DifferAt, same_command}
use Rattle.seat_replies.specs.RunDesk.{requests_of}
use Rattle.seat_replies.specs.VeryRequest.{Agree}
use Rattle.ssim_flights.specs.declared.flight.Flight.{Flight as Flown}
use Rattle.seat_replies.proofs.Rows.{place_below}
use Rattle.airline_base.proofs.Tests.{both_true}
use Rattle.seat_rules.proofs.Step.Apart.{letters_same}
use Rattle.seat_replies.proofs.Going.{few_may}

-- ---- tests

same_nat : (n : ℕ) → (n == n) ≡ true
same_nat n = grind (arith, nat_tests)

places_same : (p q : Option Place) → option_eq same_place p q ≡ true → p ≡ q
places_same None None e = refl
places_same None (Some q) e = absurd cc
places_same (Some p) None e = absurd cc
places_same (Some p) (Some q) e = ap Some (place_same p q e)

place_itself : (p : Option Place) → option_eq same_place p p ≡ true
place_itself None = refl
place_itself (Some p) = rw (same_nat p.flight, same_nat p.from, same_nat p.to) refl

command_is : (a b : Command) → a.locator ≡ b.locator → a.place ≡ b.place → a.class ≡ b.class → a.code ≡ b.code
    → a.seats ≡ b.seats → a ≡ b
command_is a b e f g h k = λ i. record { locator = e i; place = f i; class = g i; code = h i; seats = k i }

command_same : (a b : Command) → same_command a b ≡ true → a ≡ b
command_same a b e =
    let four = both_true (pointwise nat_eq a.locator b.locator && option_eq same_place a.place b.place && (a.class == b.class) && pointwise nat_eq a.code b.code) (a.seats == b.seats) e in
    let three = both_true (pointwise nat_eq a.locator b.locator && option_eq same_place a.place b.place && (a.class == b.class)) (pointwise nat_eq a.code b.code) four.0 in
    let two = both_true (pointwise nat_eq a.locator b.locator && option_eq same_place a.place b.place) (a.class == b.class) three.0 in
    let one = both_true (pointwise nat_eq a.locator b.locator) (option_eq same_place a.place b.place) two.0 in
    command_is a b (same_text a.locator b.locator (sym one.0)) (places_same a.place b.place one.1) (nat_same a.class b.class two.1) (same_text a.code b.code (sym three.1)) (nat_same a.seats b.seats four.1)

command_itself : (a : Command) → same_command a a ≡ true
command_itself a = rw (letters_same a.locator, place_itself a.place, same_nat a.class, letters_same a.code, same_nat a.seats) refl

-- a test of two commands says whether they are one
pub commands_same : (a b : Command) (told : Bool) → told ≡ same_command a b
    → (IsTrue told → a ≡ b) × (a ≡ b → IsTrue told)
commands_same a b told e = (
  λ (is : IsTrue told). command_same a b (sym e ∙ is),
  λ (same : a ≡ b). e ∙ (ap (same_command a) (sym same) ∙ command_itself a),
)

pub limits_same : (a b : Change) (told : Bool) → (IsTrue told → a ≡ b) × (a ≡ b → IsTrue told)
    → (IsTrue told → Limit a ≡ Limit b) × (Limit a ≡ Limit b → IsTrue told)
limits_same a b told same = (λ (is : IsTrue told). ap Limit (same.0 is), λ (e : Limit a ≡ Limit b). same.1 (one e)) where
  one : Limit a ≡ Limit b → a ≡ b
  one e = cc

pub no_seats : (a : Change) (c : Command) → Limit a ≡ Seats c → ⊥
no_seats a c e = cc

-- of works that ask for seats, too
pub works_same : (a b : Command) (told : Bool) → (IsTrue told → a ≡ b) × (a ≡ b → IsTrue told)
    → (IsTrue told → Seats a ≡ Seats b) × (Seats a ≡ Seats b → IsTrue told)
works_same a b told same = (λ (is : IsTrue told). ap Seats (same.0 is), λ (e : Seats a ≡ Seats b). same.1 (one e)) where
  one : Seats a ≡ Seats b → a ≡ b
  one e = cc

pub no_limit : (a : Command) (c : Change) → Seats a ≡ Limit c → ⊥
no_limit a c e = cc

pub no_sale : (a : Command) (c : SaleChange) → Seats a ≡ Sale c → ⊥
no_sale a c e = cc

pub sets_no_sale : (a : Change) (c : SaleChange) → Limit a ≡ Sale c → ⊥
sets_no_sale a c e = cc

-- and of those that close or open a class
pub closings_same : (a b : SaleChange) (told : Bool) → (IsTrue told → a ≡ b) × (a ≡ b → IsTrue told)
    → (IsTrue told → Sale a ≡ Sale b) × (Sale a ≡ Sale b → IsTrue told)
closings_same a b told same = (λ (is : IsTrue told). ap Sale (same.0 is), λ (e : Sale a ≡ Sale b). same.1 (one e)) where
  one : Sale a ≡ Sale b → a ≡ b
  one e = cc

pub closes_no_seats : (a : SaleChange) (c : Command) → Sale a ≡ Seats c → ⊥
closes_no_seats a c e = cc

pub closes_no_limit : (a : SaleChange) (c : Change) → Sale a ≡ Limit c → ⊥
closes_no_limit a c e = cc

-- a script that was looked up at a session's place
pub listed : (scripts : List (List Request)) (session place : ℕ) (script : List Request) → 1 ≤ session → place ≡ session
    → place - 1 < length scripts → script ≡ get_or scripts (place - 1) script → requests_of scripts session ≡ script
listed scripts zero place script low e lt is = absurd (omega (arith, low))
listed scripts (suc n) place script low e lt is =
    let at : slice_get scripts (place - 1) ≡ Some script = slice_get_read scripts (length scripts) (place - 1) script refl lt is in
    let here : place - 1 ≡ n = omega (arith, e) in
    ap (λ (o : Option (List Request)). unwrap_or o []) (ap (slice_get scripts) (sym here) ∙ at)

pub unlisted : (scripts : List (List Request)) (session place : ℕ) → 1 ≤ session → place ≡ session
    → length scripts ≤ place - 1 → requests_of scripts session ≡ []
unlisted scripts zero place low e past = absurd (omega (arith, low))
unlisted scripts (suc n) place low e past = ap (λ (o : Option (List Request)). unwrap_or o []) (slice_get_past scripts n (omega (arith, e, past)))

pub untold : (told : Bool) (P : Type 0) → told ≡ false → (P → IsTrue told) → P → ⊥
untold true P e says p = absurd cc
untold false P e says p = let t : IsTrue false = says p in absurd (false_true t) where
  false_true : IsTrue false → ⊥
  false_true h = cc

-- ---- where the lines and the requests differ

pub at_seam : (front rest : List Work) (x : Work) → slice_get (front ++ x ∷ rest) (length front) ≡ Some x
at_seam [] rest x = refl
at_seam (y ∷ front) rest x = at_seam front rest x

pub at_front : (front rest : List Work) (i : ℕ) → i < length front → slice_get (front ++ rest) i ≡ slice_get front i
at_front [] rest i lt = absurd (omega (arith, lt))
at_front (x ∷ front) rest zero lt = refl
at_front (x ∷ front) rest (suc i) lt = at_front front rest i (omega (arith, lt))

-- ---- the lines of a session so far

-- so many lines of the session stand in the front, and they are the first requests
pub record AgreeSoFar (flights : List Flown) (session : ℕ) (requests : List Request) (calls : ℕ) (front : List Entry) :
    Type 0 where
  pub count : calls ≡ length (done_by session front)
  pub begun : (place : ℕ) → place < calls
      → Agree flights (slice_get requests place) (slice_get (done_by session front) place)
  pub few : calls ≤ length front

pub done_append : (session : ℕ) (xs ys : List Entry) → done_by session (xs ++ ys) ≡ done_by session xs ++ done_by session ys
done_append session xs ys = ap works_in (own_append session xs ys) ∙ map-append _ (of_session session xs) (of_session session ys)

pub done_own : (session : ℕ) (e : Entry) → e.session ≡ session → done_by session (e ∷ []) ≡ e.work ∷ []
done_own session e is = ap works_in (own_one session e is)

pub done_other : (session : ℕ) (e : Entry) → e.session ≢ session → done_by session (e ∷ []) ≡ []
done_other session e not = ap works_in (own_other session e not)

-- the front and its next line
pub one_more : (journal : List Entry) (i : ℕ) (e : Entry) → i < length journal → e ≡ get_or journal i e
    → take (i + 1) journal ≡ take i journal ++ e ∷ []
one_more journal i e lt is = take_more journal i e lt ∙ ap (λ (x : Entry). take i journal ++ x ∷ []) (sym is)

module _ (flights : List Flown) (session : ℕ) (requests : List Request) (journal : List Entry) (calls i : ℕ) (e : Entry) (lt : i < length journal) (is : e ≡ get_or journal i e)
    (so_far : AgreeSoFar flights session requests calls (take i journal)) where
  longer : (xs : List Entry) → length (xs ++ e ∷ []) ≡ length xs + 1
  longer xs = length-append xs (e ∷ [])

  abbrev there : ℕ → List Work → Type 0
  there place works = Agree flights (slice_get requests place) (slice_get works place)

  -- places of the front
  in_front : (works rest : List Work) → works ≡ done_by session (take i journal) ++ rest → (place : ℕ) → place < calls
      → there place works
  in_front works rest parts place low =
      let within : place < length (done_by session (take i journal)) = omega (arith, low, so_far.count) in
      subst (λ (o : Option Work). Agree flights (slice_get requests place) o)
      (sym (ap (λ (l : List Work). slice_get l place) parts ∙ at_front (done_by session (take i journal)) rest place within)) (so_far.begun place low)

  -- the place behind the front
  behind_front : (works rest : List Work) → works ≡ done_by session (take i journal) ++ e.work ∷ rest
      → slice_get works calls ≡ Some e.work
  behind_front works rest parts =
      ap (λ (l : List Work). slice_get l calls) parts
      ∙ (ap (slice_get (done_by session (take i journal) ++ e.work ∷ rest)) so_far.count ∙ at_seam (done_by session (take i journal)) rest e.work)

  pub agree_other : e.session ≢ session → AgreeSoFar flights session requests calls (take (i + 1) journal)
  agree_other not =
      let same : done_by session (take i journal ++ e ∷ []) ≡ done_by session (take i journal) =
      done_append session (take i journal) (e ∷ []) ∙ (ap (λ (l : List Work). done_by session (take i journal) ++ l) (done_other session e not) ∙ append_none (done_by session (take i journal))) in
      subst (AgreeSoFar flights session requests calls) (sym (one_more journal i e lt is)) (record {
        count = so_far.count ∙ ap length (sym same);
        begun = λ place low. subst (there place) (sym same) (so_far.begun place low);
        few = omega (arith, so_far.few, longer (take i journal));
      })
    where
      append_none : (l : List Work) → l ++ [] ≡ l
      append_none [] = refl
      append_none (x ∷ l) = ap (λ (k : List Work). x ∷ k) (append_none l)

  pub agree_own : e.session ≡ session → Agree flights (slice_get requests calls) (Some e.work)
      → AgreeSoFar flights session requests (calls + 1) (take (i + 1) journal)
  agree_own own at =
      let more : done_by session (take i journal ++ e ∷ []) ≡ done_by session (take i journal) ++ e.work ∷ [] =
      done_append session (take i journal) (e ∷ []) ∙ ap (λ (l : List Work). done_by session (take i journal) ++ l) (done_own session e own) in
      let counted : length (done_by session (take i journal ++ e ∷ [])) ≡ length (done_by session (take i journal)) + 1 =
      ap length more ∙ length-append (done_by session (take i journal)) (e.work ∷ []) in
      let here : there calls (done_by session (take i journal ++ e ∷ [])) =
      subst (λ (o : Option Work). Agree flights (slice_get requests calls) o) (sym (behind_front (done_by session (take i journal ++ e ∷ [])) [] more)) at in
      subst (AgreeSoFar flights session requests (calls + 1)) (sym (one_more journal i e lt is)) (record {
        count = omega (arith, so_far.count, counted);
        begun = λ place low. either place low (in_front (done_by session (take i journal ++ e ∷ [])) (e.work ∷ []) more place) here;
        few = omega (arith, so_far.few, longer (take i journal));
      })
    where
      either : (place : ℕ) → place < calls + 1
          → (place < calls → there place (done_by session (take i journal ++ e ∷ [])))
          → there calls (done_by session (take i journal ++ e ∷ [])) → there place (done_by session (take i journal ++ e ∷ []))
      either place low below here =
          let up : place < suc calls = omega (arith, low) in
          ⊎_elim below (λ (same : calls ≡ place). subst (λ (k : ℕ). there k (done_by session (take i journal ++ e ∷ []))) same here) (place_below place calls up)

  -- the session has the line, whatever the request there is
  pub line_here : e.session ≡ session → calls + 1 ≤ length (done_by session journal)
  line_here own =
      let rest : List Entry = drop (suc i) journal in
      let parts : journal ≡ take i journal ++ e ∷ rest =
      sym (take-append-drop i journal) ∙ ap (λ (l : List Entry). take i journal ++ l) (drop-cons journal i e lt ∙ ap (λ (x : Entry). x ∷ rest) (sym is)) in
      let own_part : done_by session (e ∷ rest) ≡ e.work ∷ done_by session rest =
      done_append session (e ∷ []) rest ∙ ap (λ (l : List Work). l ++ done_by session rest) (done_own session e own) in
      let done : done_by session journal ≡ done_by session (take i journal) ++ e.work ∷ done_by session rest =
      ap (done_by session) parts ∙ (done_append session (take i journal) (e ∷ rest) ∙ ap (λ (l : List Work). done_by session (take i journal) ++ l) own_part) in
      let long : length (done_by session journal) ≡ length (done_by session (take i journal)) + length (e.work ∷ done_by session rest) =
      ap length done ∙ length-append (done_by session (take i journal)) (e.work ∷ done_by session rest) in
      omega (arith, long, so_far.count)

  pub differ_here : e.session ≡ session → (Agree flights (slice_get requests calls) (Some e.work) → ⊥)
      → DifferAt flights (calls + 1) requests (done_by session journal)
  differ_here own not =
      let rest : List Entry = drop (suc i) journal in
      let parts : journal ≡ take i journal ++ e ∷ rest =
      sym (take-append-drop i journal) ∙ ap (λ (l : List Entry). take i journal ++ l) (drop-cons journal i e lt ∙ ap (λ (x : Entry). x ∷ rest) (sym is)) in
      let own_part : done_by session (e ∷ rest) ≡ e.work ∷ done_by session rest =
      done_append session (e ∷ []) rest ∙ ap (λ (l : List Work). l ++ done_by session rest) (done_own session e own) in
      let done : done_by session journal ≡ done_by session (take i journal) ++ e.work ∷ done_by session rest =
      ap (done_by session) parts ∙ (done_append session (take i journal) (e ∷ rest) ∙ ap (λ (l : List Work). done_by session (take i journal) ++ l) own_part) in
      let here : calls + 1 - 1 ≡ calls = omega arith in
      record {
        from_one = omega arith;
        before = λ place low. in_front (done_by session journal) (e.work ∷ done_by session rest) done place (omega (arith, low));
        there = λ agree. not (subst (λ (o : Option Work). Agree flights (slice_get requests calls) o) (behind_front (done_by session journal) (done_by session rest) done) (subst (λ (k : ℕ). there k (done_by session journal)) here agree));
      }

module _ (flights : List Flown) (session : ℕ) (requests : List Request) (journal : List Entry) (calls i : ℕ) (whole : length journal ≤ i) (so_far : AgreeSoFar flights session requests calls (take i journal)) where
  pub all_lines : AgreeSoFar flights session requests calls journal
  all_lines = subst (AgreeSoFar flights session requests calls) (take_all i journal whole) so_far

  ended : (place : ℕ) → calls ≤ place → slice_get (done_by session journal) place ≡ None
  ended place past = slice_get_past (done_by session journal) place (omega (arith, past, all_lines.count))

  -- more is asked
  pub differ_end : calls < length requests → DifferAt flights (calls + 1) requests (done_by session journal)
  differ_end more =
      let here : calls + 1 - 1 ≡ calls = omega arith in
      record {
        from_one = omega arith;
        before = λ place low. all_lines.begun place (omega (arith, low));
        there = λ agree. not (slice_get requests calls) refl (subst (λ (o : Option Work). Agree flights (slice_get requests calls) o) (ended calls (omega arith)) (subst (λ (k : ℕ). Agree flights (slice_get requests k) (slice_get (done_by session journal) k)) here agree));
      }
    where
      not : (o : Option Request) → slice_get requests calls ≡ o → Agree flights o None → ⊥
      not None at agree = elim (slice_get_cases requests calls).1 [
        | inl there ↦ let bad : Some there.0 ≡ None = sym there.2 ∙ at in absurd cc
        | inr past ↦ absurd (omega (arith, more, past.0))
      ]
      not (Some r) at agree = agree

  -- no more is asked
  pub agree_end : length requests ≤ calls → AreVeryRequests flights requests (done_by session journal)
  agree_end few = record { each = λ place. ⊎_elim (all_lines.begun place) (beyond place) (cases_lt place calls) } where
    beyond : (place : ℕ) → calls ≤ place → Agree flights (slice_get requests place) (slice_get (done_by session journal) place)
    beyond place past = rw (slice_get_past requests place (omega (arith, few, past)), ended place past) tt

-- ---- session by session

none_beyond : (s : ℕ) → 8 < s → (grid : Ladders) (journal : List Entry) → IsLegal grid journal
    → of_session s journal ≡ []
none_beyond s beyond grid journal legal =
    each_legal grid (λ (j : List Entry). of_session s j ≡ [])
    (λ past e l next h. own_append s past (e ∷ []) ∙ (ap (λ (lines : List Entry). lines ++ of_session s (e ∷ [])) h ∙ own_other s e (λ (is : e.session ≡ s). let most : e.session ≤ 8 = few_may e.session e.work next.session in absurd (omega (arith, is, most, beyond)))))
    [] journal refl legal

none_added : (s : ℕ) (older added : List Entry) → of_session s (older ++ added) ≡ [] → of_session s added ≡ []
none_added s older added e = second (of_session s older) (of_session s added) (sym (own_append s older added) ∙ e) where
  second : (xs ys : List Entry) → xs ++ ys ≡ [] → ys ≡ []
  second [] ys e = e
  second (x ∷ xs) ys e = absurd cc

pub all_asked : (flights : List Flown) (grid : Ladders) (scripts : List (List Request)) (older journal added : List Entry)
    → IsLegal grid journal → journal ≡ older ++ added → length scripts ≤ 8 → AreAskedBelow flights scripts added 9
    → AreAsked flights scripts added
all_asked flights grid scripts older journal added legal is few below = record { each = λ session low. ⊎_elim (λ (lt : session < 9). below.each session low lt) (λ (high : 9 ≤ session). beyond session low high) (cases_lt session 9) } where
  beyond : (session : ℕ) → 1 ≤ session → 9 ≤ session → AreVeryRequests flights (requests_of scripts session) (done_by session added)
  beyond session low high =
      let nobody : requests_of scripts session ≡ [] = unlisted scripts session session low refl (omega (arith, high, few)) in
      let none : of_session session (older ++ added) ≡ [] = subst (λ (lines : List Entry). of_session session lines ≡ []) is (none_beyond session (omega (arith, high)) grid journal legal) in
      let nothing : done_by session added ≡ [] = ap works_in (none_added session older added none) in
      subst (λ (requests : List Request). AreVeryRequests flights requests (done_by session added)) (sym nobody) (subst (AreVeryRequests flights []) (sym nothing) (record { each = λ place. tt }))
