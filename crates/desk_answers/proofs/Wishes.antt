-- A request that is booked, and what can be told of it.
use Rattle.std.proofs.Common.{◌≡◌, ℕ, zero, suc, ◌+◌, ◌<◌, ◌≤◌, true, false, nat_lt, List, [], ◌∷◌, ◌++◌, length, take, get_or, refl, ap, sym, ◌∙◌, subst, arith, append-nil}
use Rattle.std.specs.Prelude.{All, IfSome}
use Rattle.std.proofs.lemmas.Bool.Decides.{nat_tests}
use Rattle.airimp_lines.specs.Grammar.{IsRightSegment}
use Rattle.airimp_lines.specs.declared.requests.Request.{Request}
use Rattle.ssim_flights.specs.declared.flight.Flight.{Flight as Flown}
use Rattle.seat_journal.specs.declared.entry.Entry.{Entry}
use Rattle.seat_journal.specs.declared.entry.Work.{Work}
use Rattle.seat_journal.specs.declared.entry.Work.TheVariants.{Seats, Limit, Sale}
use Rattle.seat_nesting.specs.Nesting.{Fits, Ladders}
use Rattle.ssim_flights.specs.Places.{place_wanted}
use Rattle.seat_replies.specs.Requests.{wanted_of}
use Rattle.seat_rules.specs.Journal.{IsLegal, calls_of}
use Rattle.seat_desk.specs.Loading.{IsGridOf}
use Rattle.seat_serving.specs.Answering.{line_for, lines_for, with_line, AreRight, IsRight}
use Rattle.seat_serving.specs.declared.asked.Asked.{Asked}
use Rattle.seat_replies.specs.Answering.{IsAnswerable, IsBehind, IsRequested}
use Rattle.seat_replies.specs.RunDesk.{IsAnswer}
use Rattle.seat_replies.proofs.Histories.{lines_booked}
use Rattle.seat_replies.proofs.Serving.{served as served_fits}
use Rattle.desk_answers.specs.FaultLines.{full_line}
use Rattle.desk_answers.specs.Saying.{asked_by, IsAsked, IsBooked, IsLastOf}

-- a journal without room refuses
pub asked_full : (flights : List Flown) (grid : Ladders) (cap room session call : ℕ) (past journal : List Entry)
    (wish : Request) (text : List ℕ) → length past + room ≡ cap → room ≡ 0 → journal ≡ past
    → call ≡ calls_of past session + 1 → text ≡ full_line session call
    → IsAsked (nat_lt (length past) cap) flights grid session past journal wish text
asked_full flights grid cap room session call past journal wish text whole none same is said =
    let full : nat_lt (length past) cap ≡ false = grind (arith, nat_tests) in
    rw full (same, said ∙ ap (full_line session) is)

-- one with room books
pub asked_booked : (flights : List Flown) (grid : Ladders) (cap session : ℕ) (past journal : List Entry) (asked : Asked)
    (wish : Request) (text : List ℕ) → length past < cap → asked ≡ asked_by flights session wish
    → IsBooked flights grid past journal asked wish text
    → IsAsked (nat_lt (length past) cap) flights grid session past journal wish text
asked_booked flights grid cap session past journal asked wish text below is booked =
    let has_room : nat_lt (length past) cap ≡ true = grind (arith, nat_tests) in
    rw has_room (subst (λ (a : Asked). IsBooked flights grid past journal a wish text) is booked)

-- a right request on the first place that serves it is right for the inventory over these legs
pub right_request : (flights served : List Flown) (grid : Ladders) (session : ℕ) (wish : Request) (asked : Asked)
    → IsGridOf flights grid → served ≡ flights → IsRightSegment wish.segment → 1 ≤ session → session ≤ 8
    → asked ≡ asked_by served session wish → IsRight grid asked
right_request flights served grid session wish asked g same right low high is =
    let here : asked ≡ asked_by flights session wish = is ∙ ap (λ (fs : List Flown). asked_by fs session wish) same in
    let seats : wish.segment.seats < 1000 = right.seats.1 in
    let some : 0 < wish.segment.seats = right.seats.0 in
    let fits : IfSome (place_wanted flights (wanted_of wish.segment)) (Fits grid) = subst (λ (l : Ladders). IfSome (place_wanted flights (wanted_of wish.segment)) (Fits l)) (sym g.is) (served_fits g.rows flights (wanted_of wish.segment)) in
    subst (IsRight grid) (sym here) (record { session = (low, high); fits = (omega (arith, some), omega (arith, seats), fits) })

-- ---- a group of one

pub one_right : (grid : Ladders) (asked : Asked) → IsRight grid asked → AreRight grid (asked ∷ [])
one_right grid asked right = record { each = all } where
  all : All (IsRight grid) (asked ∷ [])
  all zero d lt = right
  all (suc k) d lt = absurd (omega (arith, lt))

one_of : (grid : Ladders) (past : List Entry) (asked : Asked) (n : ℕ) → 0 < n
    → lines_for grid past (take n (asked ∷ [])) ≡ line_for grid past asked ∷ []
one_of grid past asked zero some = absurd (omega (arith, some))
one_of grid past asked (suc zero) some = refl
one_of grid past asked (suc (suc n)) some = refl

-- the line of a group of one
pub one_line : (grid : Ladders) (past : List Entry) (asked : Asked) (lines : List Entry)
    → lines ≡ lines_for grid past (take (length lines) (asked ∷ [])) → 0 < length lines
    → lines ≡ line_for grid past asked ∷ []
one_line grid past asked lines is some = is ∙ one_of grid past asked (length lines) some

-- it is the first, and the journal ends with it
pub record IsOnly (grid : Ladders) (past journal : List Entry) (asked : Asked) (line : Entry) : Type 0 where
  pub line_is : line ≡ line_for grid past asked
  pub journal_is : journal ≡ with_line grid past asked
  pub last : IsLastOf journal line

pub only_line : (grid : Ladders) (past journal : List Entry) (asked : Asked) (lines rest : List Entry) (line : Entry)
    → lines ≡ lines_for grid past (take (length lines) (asked ∷ [])) → journal ≡ past ++ lines → lines ≡ line ∷ rest
    → IsOnly grid past journal asked line
only_line grid past journal asked lines rest line is more at =
    let some : 0 < length lines = omega (arith, ap length at) in
    let one : lines ≡ line_for grid past asked ∷ [] = one_line grid past asked lines is some in
    let same : line ≡ line_for grid past asked = cc (at, one) in
    let whole : journal ≡ with_line grid past asked = more ∙ ap (λ (l : List Entry). past ++ l) one in
    record {
      line_is = same;
      journal_is = whole;
      last = record { past = past; is = whole ∙ ap (λ (e : Entry). past ++ e ∷ []) (sym same) };
    }

pub only_first : (grid : Ladders) (past journal : List Entry) (asked : Asked) (lines : List Entry) (line : Entry)
    → lines ≡ lines_for grid past (take (length lines) (asked ∷ [])) → journal ≡ past ++ lines → 0 < length lines → line ≡ get_or lines 0 line
    → IsOnly grid past journal asked line
only_first grid past journal asked [] line is more some here = absurd (omega (arith, some))
only_first grid past journal asked (first ∷ rest) line is more some here =
    only_line grid past journal asked (first ∷ rest) rest line is more (ap (λ (e : Entry). e ∷ rest) (sym here))

-- no line, and the journal is as it was
pub no_line : (past journal lines : List Entry) → journal ≡ past ++ lines → lines ≡ [] → journal ≡ past
no_line past journal lines more none = more ∙ ap (λ (l : List Entry). past ++ l) none ∙ append-nil past

-- ---- what is told

pub requested : (wish : Request) (work : Work) → IsRequested (wish ∷ []) 0 work
requested wish (Seats c) = omega arith
requested wish (Limit c) = tt
requested wish (Sale c) = tt

-- the last line of a legal journal can be told, with its advices
pub answerable : (flights : List Flown) (grid : Ladders) (journal : List Entry) (wish : Request) (line : Entry)
    → IsGridOf flights grid → IsLegal grid journal → IsLastOf journal line
    → IsAnswerable flights (wish ∷ []) journal 0 line
answerable flights grid journal wish line g legal last =
    let all = lines_booked flights grid last.past (line ∷ []) journal g last.is legal in
    record { asked = requested wish line.work; advised = all.0 }

-- what was put into an empty text is all of it
pub whole_answer : (flights : List Flown) (wishes : List Request) (journal : List Entry) (line : Entry) (old text : List ℕ)
    → IsBehind (IsAnswer flights wishes journal 0 line) old text → old ≡ []
    → IsAnswer flights wishes journal 0 line text
whole_answer flights wishes journal line old text behind none =
    let whole : text ≡ behind.part = behind.written ∙ ap (λ (l : List ℕ). l ++ behind.part) none in
    subst (IsAnswer flights wishes journal 0 line) (sym whole) behind.is_part
