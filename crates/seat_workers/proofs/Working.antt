-- Runs of one session, and of several.
use Rattle.std.proofs.Common.{◌≡◌, ℕ, zero, suc, ◌+◌, ◌<◌, ◌≤◌, List, [], ◌∷◌, ◌++◌, length, take, drop, get_or, inl, inr, refl, ap, sym, subst, arith, ◌∙◌, append_assoc}
use Rattle.std.specs.Prelude.{All, Option, Some, None, map}
use Rattle.std.proofs.Math.Seq.{split_at}
use Rattle.std.proofs.lemmas.List.{get_or-map, length-map, map_more, take-append-drop}
use Rattle.seat_journal.specs.declared.entry.Control.{Control}
use Rattle.seat_journal.specs.declared.entry.Control.TheVariants.{ToLimit, ToSale}
use Rattle.seat_journal.specs.Controls.{set_by}
use Rattle.seat_journal.specs.declared.entry.Command.{Command}
use Rattle.seat_journal.specs.declared.entry.Work.{Work}
use Rattle.seat_journal.specs.declared.entry.Work.TheVariants.{Seats}
use Rattle.seat_journal.specs.declared.entry.Entry.{Entry}
use Rattle.logbook.specs.Pages.{Book}
use Rattle.seat_nesting.specs.Nesting.{Ladders}
use Rattle.seat_rules.specs.Journal.{FitsCommand, FitsControl, MayAsk}
use Rattle.seat_rules.specs.Histories.{seats_in}
use Rattle.seat_rules.proofs.History.Prefixes.{begins_trans, begins_itself}
use Rattle.seat_host.specs.Refusing.{IsDue}
use Rattle.seat_host.specs.Sessions.{Seat}
use Rattle.seat_workers.specs.Working.{Asks, HasRun, HasBegun, IsRefused, AllHaveRun, AllHaveBegun, AllHaveEnded, NamesFirst, first_of}
use Rattle.line_booking.specs.declared.booking.BookFault.TheVariants.{JournalFull}
use Rattle.seat_workers.specs.declared.workers.RunFault.{RunFault}

map_append : {A : Type 0} (f : A → Work) (xs ys : List A) → map f (xs ++ ys) ≡ map f xs ++ map f ys
map_append f [] ys = refl
map_append f (x ∷ xs) ys = ap (λ l. f x ∷ l) (map_append f xs ys)

-- one run after another
pub run_more : (xs ys : List Work) (s t u : Seat) → HasRun xs s t → HasRun ys t u → HasRun (xs ++ ys) s u
run_more xs ys s t u p q = record {
  lines = p.lines ++ q.lines;
  works = map_append (λ (e : Entry). e.work) p.lines q.lines ∙ (λ i. p.works i ++ q.works i);
  id = q.id ∙ p.id;
  receipts = q.receipts ∙ ap (λ l. l ++ q.lines) p.receipts ∙ append_assoc s.receipts p.lines q.lines;
  before = begins_trans s.front t.front u.front p.before q.before;
}

-- a refusal after a run
pub refused_more : (grid : Ladders) (book : Book) (cap : ℕ) (fault : RunFault) (xs ys zs : List Work) (s t u : Seat)
    → HasRun xs s t → IsRefused grid book cap fault ys t u → IsRefused grid book cap fault (xs ++ (ys ++ zs)) s u
refused_more grid book cap fault xs ys zs s t u p q = record {
  booked = xs ++ q.booked;
  refused = q.refused;
  left = q.left ++ zs;
  parts = ap (λ l. xs ++ (l ++ zs)) q.parts ∙ ap (λ l. xs ++ l) (append_assoc q.booked (q.refused ∷ q.left) zs) ∙ sym (append_assoc xs q.booked (q.refused ∷ (q.left ++ zs)));
  run = run_more xs q.booked s t u p q.run;
  session = q.session;
  call = q.call;
  full = q.full;
  due = q.due;
}

-- what holds of all holds of the first
pub all_first : {A : Type 0} (P : A → Type 0) (all : List A) (x : A) (xs : List A) → all ≡ x ∷ xs → All P all → P x
all_first P all x xs is h = subst (λ l. All P l) is h 0 x (omega arith)

-- and of the others
pub all_later : {A : Type 0} (P : A → Type 0) (all : List A) (x : A) (xs : List A) → all ≡ x ∷ xs → All P all → All P xs
all_later P all x xs is h = λ k d below. subst (λ l. All P l) is h (suc k) d (omega (arith, below))

-- what holds of the first and of the others holds of all
all_more : {A : Type 0} (P : A → Type 0) (x : A) (xs : List A) → P x → All P xs → All P (x ∷ xs)
all_more P x xs p h zero d below = p
all_more P x xs p h (suc k) d below = h k d (omega (arith, below))

-- ---- who may ask for what

-- a session may ask for seats
pub asks_seats : (grid : Ladders) (s : ℕ) (list : List Command) → 1 ≤ s → s ≤ 8
    → All (λ command. FitsCommand grid command) list → All (Asks grid s) (map Seats list)
asks_seats grid s [] low high h = λ k d below. absurd (omega (arith, below))
asks_seats grid s (c ∷ list) low high h = all_more (Asks grid s) (Seats c) (map Seats list) (record { may = (low, high); fits = all_first (λ command. FitsCommand grid command) (c ∷ list) c list refl h }) (asks_seats grid s list low high (all_later (λ command. FitsCommand grid command) (c ∷ list) c list refl h))

-- the manager may set what is his to set
set_may : (s : ℕ) (c : Control) → s ≡ 0 → MayAsk s (set_by c)
set_may s (ToLimit c) zeroth = zeroth
set_may s (ToSale c) zeroth = zeroth

pub asks_limits : (grid : Ladders) (s : ℕ) (list : List Control) → s ≡ 0 → All (λ change. FitsControl grid change) list
    → All (Asks grid s) (map set_by list)
asks_limits grid s [] zeroth h = λ k d below. absurd (omega (arith, below))
asks_limits grid s (c ∷ list) zeroth h = all_more (Asks grid s) (set_by c) (map set_by list) (record { may = set_may s c zeroth; fits = all_first (λ change. FitsControl grid change) (c ∷ list) c list refl h }) (asks_limits grid s list zeroth (all_later (λ change. FitsControl grid change) (c ∷ list) c list refl h))

-- who has run still may
pub asks_later : (grid : Ladders) (booked list : List Work) (s t : Seat) → HasRun booked s t → All (Asks grid s.id) list
    → All (Asks grid t.id) list
asks_later grid booked list s t p h = subst (λ (id : ℕ). All (Asks grid id) list) (sym p.id) h

pub asks_at : {A : Type 0} (f : A → Work) (grid : Ladders) (booked : List Work) (list : List A) (i : ℕ) (x : A)
    (work : Work) (s t : Seat) → i < length list → x ≡ get_or list i x → work ≡ f x → All (Asks grid s.id) (map f list)
    → HasRun booked s t → Asks grid t.id work
asks_at f grid booked list i x work s t below is asked h p =
    let long : i < length (map f list) = omega (arith, below, length-map list f) in
    let there : get_or (map f list) i work ≡ work = get_or-map f list i x work below ∙ ap f (sym is) ∙ sym asked in
    subst (λ (id : ℕ). Asks grid id work) (sym p.id) (subst (λ (w : Work). Asks grid s.id w) there (h i work long))

-- ---- one call that is refused

pub refused_here : (grid : Ladders) (book : Book) (cap : ℕ) (work : Work) (s t : Seat) (fault : RunFault)
    → fault.session ≡ t.id → fault.call ≡ length t.receipts + 1 → HasRun [] s t
    → (fault.refusal.fault ≡ JournalFull → cap ≤ length t.front)
    → IsDue grid book cap t.front fault.refusal → IsRefused grid book cap fault (work ∷ []) s t
refused_here grid book cap work s t fault number next p full due =
    record {
      booked = [];
      refused = work;
      left = [];
      parts = refl;
      run = p;
      session = number;
      call = next;
      full = full;
      due = due;
    }

pub begun_run : (list : List Work) (s t : Seat) → HasRun list s t → HasBegun list s t
begun_run list s t p = record { booked = list; begins = begins_itself list; run = p }

pub begun_refused : (grid : Ladders) (book : Book) (cap : ℕ) (fault : RunFault) (list : List Work) (s t : Seat)
    → IsRefused grid book cap fault list s t → HasBegun list s t
begun_refused grid book cap fault list s t p = record { booked = p.booked; begins = record { rest = p.refused ∷ p.left; is = p.parts }; run = p.run }

-- where there is no list nothing has ended
pub ended_none : (grid : Ladders) (book : Book) (cap : ℕ) (lists : List (List Command)) (olds news : List Seat)
    (ends : List (Option RunFault)) → length lists ≡ 0 → length lists ≡ length news
    → AllHaveEnded grid book cap (seats_in lists) olds news ends
ended_none grid book cap [] olds [] ends none same = tt
ended_none grid book cap [] olds (t ∷ news) ends none same = absurd (omega (arith, same))
ended_none grid book cap (list ∷ lists) olds news ends none same = absurd (omega (arith, none))

-- ---- what has ended

-- where there is no fault each list was booked whole
pub ended_run : (grid : Ladders) (book : Book) (cap : ℕ) (lists : List (List Work)) (olds news : List Seat)
    (ends : List (Option RunFault)) → AllHaveEnded grid book cap lists olds news ends → first_of ends ≡ None
    → AllHaveRun lists olds news
ended_run grid book cap [] olds [] ends h none = h
ended_run grid book cap [] olds (t ∷ news) ends h none = absurd h
ended_run grid book cap (l ∷ lists) [] news ends h none = absurd h
ended_run grid book cap (l ∷ lists) (s ∷ olds) [] ends h none = absurd h
ended_run grid book cap (l ∷ lists) (s ∷ olds) (t ∷ news) [] h none = absurd h
ended_run grid book cap (l ∷ lists) (s ∷ olds) (t ∷ news) (None ∷ ends) h none =
    (h.0, ended_run grid book cap lists olds news ends h.1 none)
ended_run grid book cap (l ∷ lists) (s ∷ olds) (t ∷ news) (Some fault ∷ ends) h none = absurd cc

-- a beginning of each was booked in any case
pub ended_begun : (grid : Ladders) (book : Book) (cap : ℕ) (lists : List (List Work)) (olds news : List Seat)
    (ends : List (Option RunFault)) → AllHaveEnded grid book cap lists olds news ends → AllHaveBegun lists olds news
ended_begun grid book cap [] olds [] ends h = h
ended_begun grid book cap [] olds (t ∷ news) ends h = absurd h
ended_begun grid book cap (l ∷ lists) [] news ends h = absurd h
ended_begun grid book cap (l ∷ lists) (s ∷ olds) [] ends h = absurd h
ended_begun grid book cap (l ∷ lists) (s ∷ olds) (t ∷ news) [] h = absurd h
ended_begun grid book cap (l ∷ lists) (s ∷ olds) (t ∷ news) (None ∷ ends) h =
    (begun_run l s t h.0, ended_begun grid book cap lists olds news ends h.1)
ended_begun grid book cap (l ∷ lists) (s ∷ olds) (t ∷ news) (Some fault ∷ ends) h =
    (begun_refused grid book cap fault l s t h.0, ended_begun grid book cap lists olds news ends h.1)

-- the first fault is that of the first that was refused
pub ended_first : (grid : Ladders) (book : Book) (cap : ℕ) (fault : RunFault) (lists : List (List Work))
    (olds news : List Seat) (ends : List (Option RunFault)) → AllHaveEnded grid book cap lists olds news ends
    → first_of ends ≡ Some fault → length lists ≡ length ends → NamesFirst grid book cap fault lists olds news
ended_first grid book cap fault [] olds news [] h is same = absurd cc
ended_first grid book cap fault [] olds news (end ∷ ends) h is same = absurd (omega (arith, same))
ended_first grid book cap fault (l ∷ lists) [] news ends h is same = absurd h
ended_first grid book cap fault (l ∷ lists) (s ∷ olds) [] ends h is same = absurd h
ended_first grid book cap fault (l ∷ lists) (s ∷ olds) (t ∷ news) [] h is same = absurd h
ended_first grid book cap fault (l ∷ lists) (s ∷ olds) (t ∷ news) (None ∷ ends) h is same =
    inr (h.0, ended_first grid book cap fault lists olds news ends h.1 is (omega (arith, same)))
ended_first grid book cap fault (l ∷ lists) (s ∷ olds) (t ∷ news) (Some first ∷ ends) h is same =
    inl (subst (λ (f : RunFault). IsRefused grid book cap f l s t) (cc is) h.0)

-- a list booked as far as a place, and then the work there
pub run_at : {A : Type 0} (f : A → Work) (list : List A) (i : ℕ) (x : A) (work : Work) (s t u : Seat) → i < length list
    → x ≡ get_or list i x → work ≡ f x → HasRun (map f (take i list)) s t → HasRun (work ∷ []) t u
    → HasRun (map f (take (i + 1) list)) s u
run_at f list i x work s t u below is asked p q =
    let more : map f (take (i + 1) list) ≡ map f (take i list) ++ work ∷ [] = map_more f list i x below ∙ ap (λ w. map f (take i list) ++ w ∷ []) (ap f (sym is) ∙ sym asked) in
    subst (λ l. HasRun l s u) (sym more) (run_more (map f (take i list)) (work ∷ []) s t u p q)

-- a list booked as far as a place, and the work there refused
pub refused_at : {A : Type 0} (f : A → Work) (grid : Ladders) (book : Book) (cap : ℕ) (fault : RunFault) (list : List A)
    (i : ℕ) (x : A) (work : Work) (s t u : Seat) → i < length list → x ≡ get_or list i x → work ≡ f x
    → HasRun (map f (take i list)) s t → IsRefused grid book cap fault (work ∷ []) t u
    → IsRefused grid book cap fault (map f list) s u
refused_at f grid book cap fault list i x work s t u below is asked p q =
    let cut : list ≡ take i list ++ x ∷ drop (suc i) list = split_at list i x below ∙ ap (λ y. take i list ++ y ∷ drop (suc i) list) (sym is) in
    let parts : map f list ≡ map f (take i list) ++ work ∷ map f (drop (suc i) list) =
    ap (map f) cut ∙ map_append f (take i list) (x ∷ drop (suc i) list) ∙ ap (λ w. map f (take i list) ++ w ∷ map f (drop (suc i) list)) (sym asked) in
    subst (λ l. IsRefused grid book cap fault l s u) (sym parts) (refused_more grid book cap fault (map f (take i list)) (work ∷ []) (map f (drop (suc i) list)) s t u p q)

-- and of what stands in front
pub all_front : {A : Type 0} (P : A → Type 0) (all xs ys : List A) → all ≡ xs ++ ys → All P all → All P xs
all_front P all [] ys is h = λ k d below. absurd (omega (arith, below))
all_front P all (x ∷ xs) ys is h = all_more P x xs (all_first P all x (xs ++ ys) is h) (all_front P (xs ++ ys) xs ys refl (all_later P all x (xs ++ ys) is h))

-- and of what stands behind
pub all_back : {A : Type 0} (P : A → Type 0) (all xs ys : List A) → all ≡ xs ++ ys → All P all → All P ys
all_back P all [] ys is h = subst (λ l. All P l) is h
all_back P all (x ∷ xs) ys is h = all_back P (xs ++ ys) xs ys refl (all_later P all x (xs ++ ys) is h)

-- a list cut in two
pub cut_there : {A : Type 0} (f : A → Work) (left next later : List A) (n : ℕ) → next ≡ take n left
    → later ≡ drop n left → map f left ≡ map f next ++ map f later
cut_there f left next later n front back = ap (map f) (sym (take-append-drop n left) ∙ (λ i. sym front i ++ sym back i)) ∙ map_append f next later

-- what stands before the works that are left was booked
pub record IsAt (list left : List Work) (s t : Seat) : Type 0 where
  pub booked : List Work
  pub parts : list ≡ booked ++ left
  pub run : HasRun booked s t

pub at_more : (list left next later : List Work) (s t u : Seat) → left ≡ next ++ later → IsAt list left s t
    → HasRun next t u → IsAt list later s u
at_more list left next later s t u is at q = record {
  booked = at.booked ++ next;
  parts = at.parts ∙ ap (λ l. at.booked ++ l) is ∙ sym (append_assoc at.booked next later);
  run = run_more at.booked next s t u at.run q;
}

pub at_refused : (grid : Ladders) (book : Book) (cap : ℕ) (fault : RunFault) (list left next later : List Work)
    (s t u : Seat) → left ≡ next ++ later → IsAt list left s t → IsRefused grid book cap fault next t u
    → IsRefused grid book cap fault list s u
at_refused grid book cap fault list left next later s t u is at q =
    subst (λ l. IsRefused grid book cap fault l s u) (sym (at.parts ∙ ap (λ l. at.booked ++ l) is)) (refused_more grid book cap fault at.booked next later s t u at.run q)
