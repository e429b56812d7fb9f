-- A segment line that is read is spelled so, and what is spelled so is read.
use Rattle.std.proofs.Common.{◌≡◌, ℕ, ◌≤◌, true, leb, ◌&&◌, List, ◌∷◌, ◌++◌, length, Option, Some, Ok, refl, ap, subst, ◌∙◌, arith, append_assoc}
use Rattle.std.proofs.lemmas.Bool.Decides.{nat_tests}
use Rattle.airline_base.specs.Names.{is_airline, is_station, is_code}
use Rattle.airline_base.specs.Days.{two_digits, month_name, day_month}
use Rattle.airimp_lines.specs.declared.fault.LineFault.TheVariants as faults
use Rattle.airimp_lines.specs.declared.segment.Undated.{Undated}
use Rattle.airline_base.specs.Fields.{fixed_at, byte_at, numeral_at, IsNumberText}
use Rattle.airline_base.proofs.Chains.{with_want, with_check, with_step}
use Rattle.airline_base.proofs.LeadingFields.{fixed_takes, fixed_again, byte_takes, numeral_takes, numeral_again, length_airline, length_station, length_code}
use Rattle.airline_base.proofs.Reaches.{ok_is}
use Rattle.airimp_lines.specs.Fields.{letters_at, in_month, day_at, is_tail}
use Rattle.airimp_lines.specs.Reading.{asked_at, undated_at}
use Rattle.airimp_lines.specs.Grammar.{letters_text, Spells}
use Rattle.airimp_lines.proofs.FieldLaws.{letters_takes, letters_again, day_takes, day_again, letters_stop, day_stops, tail_stops}

-- ---- what is asked

pub record SpellsAsked (bytes board off code : List ℕ) (count : ℕ) : Type 0 where
  pub seats : List ℕ
  pub tail : List ℕ
  pub text : bytes ≡ 32 ∷ (board ++ (off ++ (32 ∷ (code ++ (seats ++ tail)))))
  pub is_board : is_station board ≡ true
  pub is_off : is_station off ≡ true
  pub is_code : is_code code ≡ true
  pub is_seats : IsNumberText 3 seats count
  pub is_tail : is_tail tail ≡ true

behind_day : (l b o c s t r5 r6 r7 r8 r9 : List ℕ) → l ≡ 32 ∷ r5 → r5 ≡ b ++ r6 → r6 ≡ o ++ r7 → r7 ≡ 32 ∷ r8
    → r8 ≡ c ++ r9 → r9 ≡ s ++ t → l ≡ 32 ∷ (b ++ (o ++ (32 ∷ (c ++ (s ++ t)))))
behind_day l b o c s t r5 r6 r7 r8 r9 e1 e2 e3 e4 e5 e6 = rw (e1, e2, e3, e4, e5, e6) refl

asked_is : (bytes pair : List ℕ) (board off : List ℕ × List ℕ) (action : List ℕ) (code : List ℕ × List ℕ)
    (seats : ℕ × List ℕ)
    → byte_at 32 bytes ≡ Some pair → fixed_at 3 is_station pair ≡ Some board → fixed_at 3 is_station board.1 ≡ Some off
    → byte_at 32 off.1 ≡ Some action → fixed_at 2 is_code action ≡ Some code → numeral_at 3 code.1 ≡ Some seats
    → is_tail seats.1 ≡ true
    → SpellsAsked bytes board.0 off.0 code.0 seats.0
asked_is bytes pair board off action code seats e5 e6 e7 e8 e9 e10 e11 =
    let t5 = byte_takes 32 bytes pair e5 in
    let t6 = fixed_takes 3 is_station pair board.0 board.1 e6 in
    let t7 = fixed_takes 3 is_station board.1 off.0 off.1 e7 in
    let t8 = byte_takes 32 off.1 action e8 in
    let t9 = fixed_takes 2 is_code action code.0 code.1 e9 in
    let t10 = numeral_takes 3 code.1 seats.0 seats.1 e10 in
    record {
      seats = t10.0;
      tail = seats.1;
      text = behind_day bytes board.0 off.0 code.0 t10.0 seats.1 pair board.1 off.1 action code.1 t5 t6.0 t7.0 t8 t9.0 t10.1;
      is_board = t6.1;
      is_off = t7.1;
      is_code = t9.1;
      is_seats = t10.2;
      is_tail = e11;
    }

asked_takes : (bytes : List ℕ) (a : List ℕ × List ℕ × List ℕ × ℕ) → asked_at bytes ≡ Ok a
    → SpellsAsked bytes a.0 a.1 a.2 a.3
unfolding asked_at
asked_takes bytes a e =
    with_want faults.Pair _ _ a e (λ pair e5 k5.
    with_want faults.Pair _ _ a k5 (λ board e6 k6.
    with_want faults.Pair _ _ a k6 (λ off e7 k7.
    with_want faults.Code _ _ a k7 (λ action e8 k8.
    with_want faults.Code _ _ a k8 (λ code e9 k9.
    with_want faults.Seats _ _ a k9 (λ seats e10 k10.
    with_check faults.Tail _ _ a k10 (λ e11 k11.
    subst (λ (x : List ℕ × List ℕ × List ℕ × ℕ). SpellsAsked bytes x.0 x.1 x.2 x.3) (ok_is _ a k11) (asked_is bytes pair board off action code seats e5 e6 e7 e8 e9 e10 e11))))))))

asked_again : (bytes b o c : List ℕ) (n : ℕ) → SpellsAsked bytes b o c n → asked_at bytes ≡ Ok (b, o, c, n)
unfolding asked_at
asked_again bytes b o c n s =
    let r9 = s.seats ++ s.tail in
    let r8 = c ++ r9 in
    let r7 = 32 ∷ r8 in
    let r6 = o ++ r7 in
    let r5 = b ++ r6 in
    let board : fixed_at 3 is_station r5 ≡ Some (b, r6) = fixed_again 3 is_station b r6 (length_station b s.is_board) s.is_board in
    let off : fixed_at 3 is_station r6 ≡ Some (o, r7) = fixed_again 3 is_station o r7 (length_station o s.is_off) s.is_off in
    let code : fixed_at 2 is_code r8 ≡ Some (c, r9) = fixed_again 2 is_code c r9 (length_code c s.is_code) s.is_code in
    let seats : numeral_at 3 r9 ≡ Some (n, s.tail) = numeral_again 3 s.seats n s.tail s.is_seats (tail_stops s.tail s.is_tail) in
    rw (s.text, board, off, code, seats, s.is_tail) refl

-- ---- the whole line

pub record Told (line : List ℕ) (u : Undated) : Type 0 where
  pub spelled : Spells line u
  pub low : 1 ≤ u.month
  pub high : u.month ≤ 12
  pub in_month : in_month u.day u.month ≡ true

-- the pieces, one after the other
joined : (l a n le d t r1 r2 r3 r4 : List ℕ) → l ≡ a ++ r1 → r1 ≡ n ++ r2 → r2 ≡ le ++ r3 → r3 ≡ d ++ r4 → r4 ≡ t
    → l ≡ a ++ (n ++ (le ++ (d ++ t)))
joined l a n le d t r1 r2 r3 r4 e1 e2 e3 e4 e5 = rw (e1, e2, e3, e4, e5) refl

length_is : (n : ℕ) → (leb 20 n && leb n 69) ≡ true → (20 ≤ n) × (n ≤ 69)
length_is n h = grind (arith, nat_tests, h)

-- each step was taken, so the line is spelled so
assemble : (line : List ℕ) (airline : List ℕ × List ℕ) (number : ℕ × List ℕ) (letters : (Option ℕ × ℕ) × List ℕ)
    (day : (ℕ × ℕ) × List ℕ) (asked : List ℕ × List ℕ × List ℕ × ℕ)
    → (leb 20 (length line) && leb (length line) 69) ≡ true
    → fixed_at 2 is_airline line ≡ Some airline → numeral_at 4 airline.1 ≡ Some number
    → letters_at number.1 ≡ Some letters → day_at letters.1 ≡ Some day
    → SpellsAsked day.1 asked.0 asked.1 asked.2 asked.3
    → Told line (record {
      airline = airline.0;
      number = number.0;
      suffix = letters.0.0;
      class = letters.0.1;
      day =
          day.0.0;
      month = day.0.1;
      board = asked.0;
      off = asked.1;
      code = asked.2;
      seats = asked.3;
    })
assemble line airline number letters day asked e0 e1 e2 e3 e4 t5 =
    let t1 = fixed_takes 2 is_airline line airline.0 airline.1 e1 in
    let t2 = numeral_takes 4 airline.1 number.0 number.1 e2 in
    let t3 = letters_takes number.1 letters.0.0 letters.0.1 letters.1 e3 in
    let t4 = day_takes letters.1 day.0.0 day.0.1 day.1 e4 in
    let lengths = length_is (length line) e0 in
    let day_text : letters.1 ≡ day_month day.0.0 day.0.1 ++ day.1 = t4.1 ∙ ap (λ (x : List ℕ). x ++ day.1) t4.2.written in
    let text = joined line airline.0 t2.0 (letters_text letters.0.0 letters.0.1) (day_month day.0.0 day.0.1) _ airline.1 number.1 letters.1 day.1 t1.0 t2.1 t3.0 day_text t5.text in
    record {
      spelled = record {
        number = t2.0;
        seats = t5.seats;
        tail = t5.tail;
        text = text;
        long = lengths.0;
        short = lengths.1;
        is_airline = t1.1;
        is_number = t2.2;
        is_suffix = t3.1;
        is_class = t3.2;
        is_board = t5.is_board;
        is_off = t5.is_off;
        is_code = t5.is_code;
        is_seats = t5.is_seats;
        is_tail = t5.is_tail;
      };
      low = t4.2.low;
      high = t4.2.high;
      in_month = t4.2.in_month;
    }

pub undated_takes : (line : List ℕ) (u : Undated) → undated_at line ≡ Ok u → Told line u
unfolding undated_at
undated_takes line u e =
    with_check faults.Length _ _ u e (λ e0 k0.
    with_want faults.Airline _ _ u k0 (λ airline e1 k1.
    with_want faults.Number _ _ u k1 (λ number e2 k2.
    with_want faults.Class _ _ u k2 (λ letters e3 k3.
    with_want faults.Day _ _ u k3 (λ day e4 k4.
    with_step (asked_at day.1) _ u k4 (λ asked e5 k5.
    subst (Told line) (ok_is _ u k5) (assemble line airline number letters day asked e0 e1 e2 e3 e4 (asked_takes day.1 asked e5))))))))

pub undated_again : (line : List ℕ) (u : Undated) → Told line u → undated_at line ≡ Ok u
unfolding undated_at
undated_again line u told =
    let s = told.spelled in
    let r4 = 32 ∷ (u.board ++ (u.off ++ (32 ∷ (u.code ++ (s.seats ++ s.tail))))) in
    let r3 = day_month u.day u.month ++ r4 in
    let r2 = letters_text u.suffix u.class ++ r3 in
    let r1 = s.number ++ r2 in
    let lengths : (leb 20 (length line) && leb (length line) 69) ≡ true = grind (arith, nat_tests, s.long, s.short) in
    let airline : fixed_at 2 is_airline line ≡ Some (u.airline, r1) = ap (fixed_at 2 is_airline) s.text ∙ fixed_again 2 is_airline u.airline r1 (length_airline u.airline s.is_airline) s.is_airline in
    let number : numeral_at 4 r1 ≡ Some (u.number, r2) = numeral_again 4 s.number u.number r2 s.is_number (letters_stop u.suffix u.class r3 s.is_suffix s.is_class) in
    let letters : letters_at r2 ≡ Some ((u.suffix, u.class), r3) = letters_again u.suffix u.class r3 s.is_suffix s.is_class (day_stops u.day u.month r4 told.in_month) in
    let day : day_at r3 ≡ Some ((u.day, u.month), r4) = ap day_at (append_assoc (two_digits u.day) (month_name u.month) r4) ∙ day_again u.day u.month r4 told.low told.high told.in_month in
    let asked : asked_at r4 ≡ Ok (u.board, u.off, u.code, u.seats) = asked_again r4 u.board u.off u.code u.seats (record { seats = s.seats; tail = s.tail; text = refl; is_board = s.is_board; is_off = s.is_off; is_code = s.is_code; is_seats = s.is_seats; is_tail = s.is_tail }) in
    rw (lengths, airline, number, letters, day, asked) refl
