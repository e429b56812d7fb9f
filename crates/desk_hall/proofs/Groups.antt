-- Groups that are booked one behind the other.
use Rattle.std.proofs.Common.{◌≡◌, ℕ, zero, suc, ◌+◌, ◌≤◌, Bool, true, min, List, [], ◌∷◌, ◌++◌, length, take, drop, refl, ap, sym, ◌∙◌, subst, arith, append-nil, append_assoc, length-append, take-append-drop}
use Rattle.std.specs.Prelude.{◌==◌, Option, All}
use Rattle.std.proofs.lemmas.Bool.Decides.{nat_tests}
use Rattle.std.proofs.Math.Seq.{drop-append_seam}
use Rattle.std.proofs.lemmas.List.{length-take}
use Rattle.std.proofs.lemmas.List.Elements.{All-drop, All-take}
use Rattle.seat_nesting.specs.Nesting.{Ladders}
use Rattle.seat_journal.specs.declared.entry.Entry.{Entry}
use Rattle.seat_disk.specs.Growing.{HasFront, KeepsFront}
use Rattle.seat_recovery.specs.OpenText.{open_text}
use Rattle.seat_rules.specs.Prefixes.{Begins}
use Rattle.seat_serving.specs.Answering.{behind, lines_for, AreRight, IsRight}
use Rattle.seat_serving.specs.Served.{Served}
use Rattle.seat_serving.specs.declared.asked.Asked.{Asked}
use Rattle.seat_serving.proofs.Holding.{seen_kept}
use Rattle.seat_serving.proofs.Making.{lines_append, lines_length}
use Rattle.desk_answers.specs.Hosts.{IsReady}
use Rattle.desk_hall.specs.Booking.{IsBehindSome, IsBooking}

-- the journal behind two groups is that behind both as one
pub behind_append : (grid : Ladders) (past : List Entry) (xs ys : List Asked)
    → behind grid past (xs ++ ys) ≡ behind grid (behind grid past xs) ys
behind_append grid past xs ys =
    ap (λ (l : List Entry). past ++ l) (lines_append grid past xs ys)
    ∙ sym (append_assoc past (lines_for grid past xs) (lines_for grid (behind grid past xs) ys))

-- it has a line more for each request
pub behind_length : (grid : Ladders) (past : List Entry) (asked : List Asked)
    → length (behind grid past asked) ≡ length past + length asked
behind_length grid past asked =
    length-append past (lines_for grid past asked) ∙ ap (λ (n : ℕ). length past + n) (lines_length grid past asked)

begins_on : (xs ys zs : List Entry) → Begins xs ys → Begins ys zs → Begins xs zs
begins_on xs ys zs a b = record {
  rest = a.rest ++ b.rest;
  is = b.is ∙ ap (λ (l : List Entry). l ++ b.rest) a.is ∙ append_assoc xs a.rest b.rest;
}

module _ {D : Type 0} (seen : D → Option (List ℕ)) (leaves : D → List ℕ → Type 0) (unsynced failures : D → ℕ) where
  abbrev Booking : Served D → Served D → List Asked → List Asked → Type 0
  Booking = IsBooking seen leaves unsynced failures

  -- nothing is booked yet
  pub booking_none : (old : Served D) (asked : List Asked) → IsReady seen leaves unsynced old → Booking old old asked asked
  booking_none old asked ready = record {
    front = [];
    parts = refl;
    journal_is = sym (append-nil old.journal);
    is_ready = ready;
    grows = record { rest = []; is = sym (append-nil old.kept) };
    counted = refl;
    grid_is = refl;
    cap_is = refl;
  }

  -- the first n of the rest are booked too
  pub booking_more : (old mid new : Served D) (asked rest less : List Asked) (n : ℕ) → Booking old mid asked rest
      → new.journal ≡ behind mid.grid mid.journal (take n rest) → less ≡ drop n rest → IsReady seen leaves unsynced new
      → Begins mid.kept new.kept → failures new.tape ≡ failures mid.tape → new.grid ≡ mid.grid → new.cap ≡ mid.cap
      → Booking old new asked less
  booking_more old mid new asked rest less n is more behind_is ready front count grid cap = record {
    front = is.front ++ take n rest;
    parts = is.parts ∙ ap (λ (l : List Asked). is.front ++ l) (sym (take-append-drop n rest) ∙ ap (λ (l : List Asked). take n rest ++ l) (sym behind_is))
        ∙ sym (append_assoc is.front (take n rest) less);
    journal_is = more ∙ ap (λ (g : Ladders). behind g mid.journal (take n rest)) is.grid_is
        ∙ ap (λ (l : List Entry). behind old.grid l (take n rest)) is.journal_is
        ∙ sym (behind_append old.grid old.journal is.front (take n rest));
    is_ready = ready;
    grows = begins_on old.kept mid.kept new.kept is.grows front;
    counted = count ∙ is.counted;
    grid_is = grid ∙ is.grid_is;
    cap_is = cap ∙ is.cap_is;
  }

  -- all of it
  pub all_booked : (old new : Served D) (asked rest : List Asked) → Booking old new asked rest → rest ≡ []
      → new.journal ≡ behind old.grid old.journal asked
  all_booked old new asked rest is none =
      is.journal_is ∙ ap (behind old.grid old.journal)
      (sym (is.parts ∙ ap (λ (l : List Asked). is.front ++ l) none ∙ append-nil is.front))

  -- what a crash leaves has what was kept
  pub booking_told : (old new : Served D) (asked rest : List Asked) → Booking old new asked rest
      → KeepsFront (open_text old.kept) (leaves new.tape)
  booking_told old new asked rest is =
      seen_kept old.kept new.kept (leaves new.tape) is.grows
      (λ c may. subst (λ (l : List Entry). HasFront (open_text l) c) (sym is.is_ready.kept_is)
      (subst (λ (x : List ℕ). HasFront (open_text new.journal) x) (sym (is.is_ready.disk.only c may)) (record { no_shorter = omega arith; each = λ i lt. refl })))

  pub booking_ends : (old mid : Served D) (asked rest : List Asked) (now : List ℕ → Type 0) → Booking old mid asked rest
      → KeepsFront (open_text mid.kept) now → KeepsFront (open_text old.kept) now
  booking_ends old mid asked rest now is keeps = seen_kept old.kept mid.kept now is.grows keeps

  pub booking_front : (old mid : Served D) (asked rest : List Asked) (kept : List Entry) → Booking old mid asked rest
      → Begins mid.kept kept → Begins old.kept kept
  booking_front old mid asked rest kept is front = begins_on old.kept mid.kept kept is.grows front

  -- where it is broken off, what is booked is
  pub booking_some : (old mid new : Served D) (asked rest : List Asked) → Booking old mid asked rest
      → IsReady seen leaves unsynced new → new.journal ≡ mid.journal
      → IsReady seen leaves unsynced new × IsBehindSome old.grid old.journal asked new.journal
  booking_some old mid new asked rest is ready same =
      (ready, record { front = is.front; rest = rest; parts = is.parts; journal_is = same ∙ is.journal_is })

  -- there is room for the rest
  pub booking_room : (old mid : Served D) (asked rest : List Asked) → Booking old mid asked rest
      → length old.journal + length asked ≤ old.cap → length mid.journal + length rest ≤ mid.cap
  booking_room old mid asked rest is room =
      omega (arith, room, is.cap_is, ap length is.journal_is, behind_length old.grid old.journal is.front, ap length is.parts, length-append is.front rest)

  -- and it is right
  pub booking_right : (old mid : Served D) (asked rest : List Asked) → Booking old mid asked rest → AreRight old.grid asked
      → AreRight mid.grid rest
  booking_right old mid asked rest is right =
      let whole : All (IsRight old.grid) (is.front ++ rest) = subst (All (IsRight old.grid)) is.parts right.each in
      let behind_front : All (IsRight old.grid) rest =
      subst (All (IsRight old.grid)) (drop-append_seam is.front rest)
      (All-drop (IsRight old.grid) (length is.front) (is.front ++ rest) whole) in
      subst (λ (g : Ladders). AreRight g rest) (sym is.grid_is) (record { each = behind_front })

-- nothing is left
pub none_left : (rest : List Asked) (is_empty : Bool) → is_empty ≡ (length rest == 0) → is_empty ≡ true → rest ≡ []
none_left [] is_empty tells is = refl
none_left (a ∷ rest) is_empty tells is =
    let none : length (a ∷ rest) ≡ 0 = grind (arith, nat_tests) in
    absurd (omega (arith, none))

-- the first n of right requests are right
pub right_front : (grid : Ladders) (n : ℕ) (asked : List Asked) → AreRight grid asked → AreRight grid (take n asked)
right_front grid n asked right = record { each = All-take (IsRight grid) n asked right.each }

-- a group of the first m requests, of which n have lines
group_few : (grid : Ladders) (past lines : List Entry) (asked group : List Asked) (m : ℕ) → group ≡ take m asked
    → lines ≡ lines_for grid past (take (length lines) group) → (length lines ≤ m) × (length lines ≤ length asked)
group_few grid past lines asked group m is are =
    let made : length lines ≡ length (take (length lines) group) = ap length are ∙ lines_length grid past (take (length lines) group) in
    let some : length (take (length lines) group) ≡ min (length lines) (length group) = length-take (length lines) group in
    let few : length group ≡ min m (length asked) = ap length is ∙ length-take m asked in
    (omega (arith, made, some, few), omega (arith, made, some, few))

take_less : (k l : ℕ) (xs : List Asked) → k ≤ l → take k (take l xs) ≡ take k xs
take_less zero l xs le = refl
take_less (suc k) zero xs le = absurd (omega (arith, le))
take_less (suc k) (suc l) [] le = refl
take_less (suc k) (suc l) (x ∷ xs) le = ap (λ (l' : List Asked). x ∷ l') (take_less k l xs (omega (arith, le)))

pub behind_taken : (grid : Ladders) (past journal lines : List Entry) (asked group : List Asked) (m n : ℕ) → group ≡ take m asked
    → lines ≡ lines_for grid past (take (length lines) group) → journal ≡ past ++ lines → n ≡ length lines
    → journal ≡ behind grid past (take n asked)
behind_taken grid past journal lines asked group m n is are more count =
    let few : length lines ≤ m = (group_few grid past lines asked group m is are).0 in
    let low : n ≤ m = omega (arith, few, count) in
    let front : take (length lines) group ≡ take n asked =
    ap (take (length lines)) is ∙ ap (λ (k : ℕ). take k (take m asked)) (sym count) ∙ take_less n m asked low in
    more ∙ ap (λ (l : List Entry). past ++ l) (are ∙ ap (lines_for grid past) front)

pub taken_few : (grid : Ladders) (past lines : List Entry) (asked group : List Asked) (m n : ℕ) → group ≡ take m asked
    → lines ≡ lines_for grid past (take (length lines) group) → n ≡ length lines → n ≤ length asked
taken_few grid past lines asked group m n is are count =
    let few : length lines ≤ length asked = (group_few grid past lines asked group m is are).1 in
    omega (arith, few, count)

-- a group without a line changes nothing
pub no_lines : (past journal lines : List Entry) → journal ≡ past ++ lines → length lines ≡ 0 → journal ≡ past
no_lines past journal [] more none = more ∙ append-nil past
no_lines past journal (e ∷ lines) more none = absurd (omega (arith, none))
