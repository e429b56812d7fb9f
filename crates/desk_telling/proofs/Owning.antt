-- The laws of what desks are told.
use Rattle.std.proofs.Common.{◌≡◌, ℕ, zero, suc, ◌+◌, ◌<◌, ◌≤◌, ◌==◌, Bool, true, false, List, [], ◌∷◌, ◌++◌, length, take, drop, refl, sym, ap, ap₂, subst, ◌∙◌, arith, Option, Some, None, slice_get, cond, eqb-true}
use Rattle.std.specs.List.{AllByRecursion, Contains, flat_map}
use Rattle.std.proofs.lemmas.Grind.{flat_map-append}
use Rattle.std.proofs.lemmas.List.{take-append-drop}
use Rattle.ssim_flights.specs.declared.flight.Flight.{Flight as Flown}
use Rattle.seat_journal.specs.declared.entry.Advice.{Advice}
use Rattle.seat_journal.specs.declared.entry.Command.{Command}
use Rattle.seat_journal.specs.declared.entry.Entry.{Entry}
use Rattle.seat_journal.specs.declared.entry.Work.{Work}
use Rattle.seat_journal.specs.declared.entry.Work.TheVariants.{Seats, Limit, Sale}
use Rattle.desk_telling.specs.Laws.{IsOwn, IsOwnBooking}
use Rattle.desk_telling.specs.Telling.{AreTold, Advised, Replied, Telling, advice_told, advice_to, advices_told, asked_by, command_in, line_numbered, made_by, reply_told, told_behind, told_of, told_of_each}
use Rattle.desk_telling.proofs.Tellings.{told_both}

-- ---- a desk's own

both_all : {A : Type 0} (P : A → Type 0) (xs ys : List A) → AllByRecursion P xs → AllByRecursion P ys
    → AllByRecursion P (xs ++ ys)
both_all P [] ys p q = q
both_all P (x ∷ xs) ys p q = (p.0, both_all P xs ys p.1 q)

own_reply : (journal : List Entry) (desk : ℕ) (e : Entry) → AllByRecursion (IsOwn journal desk e) (reply_told desk e)
own_reply journal desk e = own_reply_by (e.session == desk) refl where
  own_reply_by : (b : Bool) → (e.session == desk) ≡ b → AllByRecursion (IsOwn journal desk e) (reply_told desk e)
  own_reply_by true is = rw is ((refl, eqb-true e.session desk is), tt)
  own_reply_by false is = rw is tt

asked_in : (w : Work) (c : Command) → command_in w ≡ Some c → w ≡ Seats c
asked_in (Seats d) c is = cc
asked_in (Limit d) c is = absurd cc
asked_in (Sale d) c is = absurd cc

own_line : (journal : List Entry) (desk : ℕ) (a : Advice) (c : Command) (line : Entry)
    → line_numbered journal a.number ≡ Some line → asked_by desk (Some line) ≡ Some c → IsOwnBooking journal desk a c
own_line journal desk a c line at made = own_line_by (line.session == desk) refl where
  own_line_by : (b : Bool) → (line.session == desk) ≡ b → IsOwnBooking journal desk a c
  own_line_by true is = record { line = line; numbered = at; asked = asked_in line.work c (sym (ap (λ (t : Bool). cond t (command_in line.work) None) is) ∙ made); own = eqb-true line.session desk is }
  own_line_by false is =
      let none : None ≡ Some c = sym (ap (λ (t : Bool). cond t (command_in line.work) None) is) ∙ made in
      absurd cc

own_booking : (journal : List Entry) (desk : ℕ) (a : Advice) (c : Command) (o : Option Entry)
    → line_numbered journal a.number ≡ o → asked_by desk o ≡ Some c → IsOwnBooking journal desk a c
own_booking journal desk a c (Some line) at made = own_line journal desk a c line at made
own_booking journal desk a c None at made = absurd cc

own_advice : (journal : List Entry) (desk : ℕ) (e : Entry) (a : Advice) (o : Option Command) → Contains e.advices a
    → made_by journal desk a.number ≡ o → AllByRecursion (IsOwn journal desk e) (advice_to e a o)
own_advice journal desk e a (Some c) is made = ((refl, is, own_booking journal desk a c (line_numbered journal a.number) refl made), tt)
own_advice journal desk e a None is made = tt

own_advices : (journal : List Entry) (desk : ℕ) (e : Entry) (advices : List Advice)
    → AllByRecursion (Contains e.advices) advices → AllByRecursion (IsOwn journal desk e) (advices_told journal desk e advices)
own_advices journal desk e [] all = tt
own_advices journal desk e (a ∷ advices) all =
    both_all (IsOwn journal desk e) (advice_told journal desk e a) (advices_told journal desk e advices)
    (own_advice journal desk e a (made_by journal desk a.number) all.0 refl) (own_advices journal desk e advices all.1)

all_there : {A : Type 0} (xs : List A) → AllByRecursion (Contains xs) xs
all_there [] = tt
all_there {A} (x ∷ xs) = ((0, omega arith, refl), further xs (all_there xs)) where
  further : (ys : List A) → AllByRecursion (Contains xs) ys → AllByRecursion (Contains (x ∷ xs)) ys
  further [] all = tt
  further (y ∷ ys) all = ((suc all.0.0, omega (arith, all.0.1), all.0.2), further ys all.1)

pub own_is_told : (journal : List Entry) (desk : ℕ) (e : Entry)
    → AllByRecursion (IsOwn journal desk e) (told_of journal desk e)
own_is_told journal desk e =
    both_all (IsOwn journal desk e) (reply_told desk e) (advices_told journal desk e e.advices) (own_reply journal desk e)
    (own_advices journal desk e e.advices (all_there e.advices))

-- ---- what is told of more lines

pub told_goes_on : (flights : List Flown) (journal : List Entry) (desk n : ℕ) (front rest : List ℕ)
    → AreTold flights desk (told_of_each journal desk (take n journal)) front
    → AreTold flights desk (told_behind journal desk n) rest
    → AreTold flights desk (told_of_each journal desk journal) (front ++ rest)
told_goes_on flights journal desk n front rest p q =
    let parted : told_of_each journal desk (take n journal) ++ told_behind journal desk n ≡ told_of_each journal desk journal =
    sym (flat_map-append (told_of journal desk) (take n journal) (drop n journal)) ∙ ap (told_of_each journal desk) (take-append-drop n journal) in
    subst (λ (ts : List Telling). AreTold flights desk ts (front ++ rest)) parted
    (told_both flights desk (told_of_each journal desk (take n journal)) (told_behind journal desk n) front rest p q)

get_before : (xs ys : List Entry) (i : ℕ) → i < length xs → slice_get (xs ++ ys) i ≡ slice_get xs i
get_before [] ys i lt = absurd (omega (arith, lt))
get_before (x ∷ xs) ys zero lt = refl
get_before (x ∷ xs) ys (suc i) lt = get_before xs ys i (omega (arith, lt))

line_stays : (journal more : List Entry) (n : ℕ) → n ≤ length journal
    → line_numbered (journal ++ more) n ≡ line_numbered journal n
line_stays journal more zero le = refl
line_stays journal more (suc n) le = get_before journal more n (omega (arith, le))

advices_stay : (journal more : List Entry) (desk : ℕ) (e : Entry) (advices : List Advice)
    → AllByRecursion (λ (a : Advice). a.number ≤ length journal) advices
    → advices_told (journal ++ more) desk e advices ≡ advices_told journal desk e advices
advices_stay journal more desk e [] all = refl
advices_stay journal more desk e (a ∷ advices) all =
    ap₂ (λ (x y : List Telling). x ++ y) (ap (λ (o : Option Entry). advice_to e a (asked_by desk o)) (line_stays journal more a.number all.0)) (advices_stay journal more desk e advices all.1)

pub told_stays : (journal more : List Entry) (desk : ℕ) (e : Entry)
    → AllByRecursion (λ (a : Advice). a.number ≤ length journal) e.advices
    → told_of (journal ++ more) desk e ≡ told_of journal desk e
told_stays journal more desk e all = ap (λ (x : List Telling). reply_told desk e ++ x) (advices_stay journal more desk e e.advices all)
