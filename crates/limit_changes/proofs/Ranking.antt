-- The ranks of a leg that are cut so far, and raised so far.
use Rattle.std.proofs.Common.{◌≡◌, ◌≢◌, ℕ, suc, ◌+◌, ◌-◌, ◌<◌, ◌≤◌, max, List, [], ◌∷◌, ◌++◌, length, take, drop, get_or, set, Option, arith, refl, sym, ap, subst, ◌∙◌, append_assoc}
use Rattle.std.proofs.Math.ListN.{drop_of_length-le}
use Rattle.std.proofs.lemmas.List.{append-nil, drop-set, drop-set-lt, get_or-set_other, length-set, take_all, take_more_set}
use Rattle.ssim_flights.proofs.Walks.{drop_step}
use Rattle.seat_nesting.specs.Nesting.{ByClass, Steps, held_from}
use Rattle.seat_nesting.specs.Changing.{step_of, top_of}
use Rattle.seat_nesting.specs.declared.ladder.Step.{Step}
use Rattle.limit_changes.specs.Reaching.{cut_steps, cut_to, raise_steps, raise_to}

-- ---- cuts

-- the ranks from the ith on are cut, and those ahead of them are as they were
pub record CutSoFar (wanted : Steps) (seats : ByClass) (ladder xs : Steps) (i below : ℕ) : Type 0 where
  pub done : drop i xs ≡ cut_steps wanted seats (drop i ladder)
  pub ahead : (k : ℕ) (d : Step) → k < i → get_or xs k d ≡ get_or ladder k d
  pub count : length xs ≡ length ladder
  pub inside : i ≤ length ladder
  pub lowest : below ≡ top_of (cut_steps wanted seats (drop i ladder))

pub none_cut : (wanted : Steps) (seats : ByClass) (ladder slice xs : Steps) (i below : ℕ) → slice ≡ ladder → xs ≡ slice → i ≡ length xs → below ≡ 0
    → CutSoFar wanted seats ladder xs i below
none_cut wanted seats ladder slice xs i below same copied at none =
    let alike : xs ≡ ladder = copied ∙ same in
    let counted : length xs ≡ length ladder = ap (λ (l : Steps). length l) alike in
    let past : length ladder ≤ i = omega (arith, at, counted) in
    let empty : drop i ladder ≡ [] = drop_of_length-le ladder past in
    record {
      done = ap (λ (l : Steps). drop i l) alike ∙ empty ∙ ap (λ (l : Steps). cut_steps wanted seats l) (sym empty);
      ahead = λ (k : ℕ) (d : Step) (lt : k < i). ap (λ (l : Steps). get_or l k d) alike;
      count = counted;
      inside = omega (arith, at, counted);
      lowest = none ∙ ap (λ (l : Steps). top_of (cut_steps wanted seats l)) (sym empty);
    }

pub cut_more : (wanted : Steps) (seats : ByClass) (ladder xs new : Steps) (i below count lowest : ℕ) (o : Option Step) (s t : Step)
    → CutSoFar wanted seats ladder xs (i + 1) below → s ≡ get_or xs i s → count ≡ held_from seats (drop i ladder)
    → lowest ≡ max count below → o ≡ step_of wanted s.class → t ≡ cut_to o lowest s → new ≡ set xs i t
    → CutSoFar wanted seats ladder new i t.limit
cut_more wanted seats ladder xs new i below count lowest o s t so_far is counted is_lowest is_o is_t put =
    let inside : i < length ladder = omega (arith, so_far.inside) in
    let within : i < length xs = omega (arith, so_far.inside, so_far.count) in
    let at : s ≡ get_or ladder i s = is ∙ so_far.ahead i s (omega arith) in
    let rest : drop i ladder ≡ s ∷ drop (i + 1) ladder = drop_step ladder i s inside at in
    let under : Steps = cut_steps wanted seats (drop (i + 1) ladder) in
    let floor : lowest ≡ max (held_from seats (s ∷ drop (i + 1) ladder)) (top_of under) =
    is_lowest ∙ ap (λ (n : ℕ). max n below) (counted ∙ ap (held_from seats) rest)
    ∙ ap (λ (n : ℕ). max (held_from seats (s ∷ drop (i + 1) ladder)) n) so_far.lowest in
    let here : t ≡ cut_to (step_of wanted s.class) (max (held_from seats (s ∷ drop (i + 1) ladder)) (top_of under)) s =
    is_t ∙ ap (λ (x : Option Step). cut_to x lowest s) is_o ∙ ap (λ (n : ℕ). cut_to (step_of wanted s.class) n s) floor in
    let whole : t ∷ under ≡ cut_steps wanted seats (drop i ladder) =
    ap (λ (x : Step). x ∷ under) here ∙ ap (λ (l : Steps). cut_steps wanted seats l) (sym rest) in
    record {
      done = ap (λ (l : Steps). drop i l) put ∙ drop-set xs i t within ∙ ap (λ (l : Steps). t ∷ l) so_far.done ∙ whole;
      ahead = λ (k : ℕ) (d : Step) (lt : k < i).
          let other : k ≢ i = omega (arith, lt) in
          ap (λ (l : Steps). get_or l k d) put ∙ get_or-set_other xs i k t d other ∙ so_far.ahead k d (omega (arith, lt));
      count = ap (λ (l : Steps). length l) put ∙ length-set xs i t ∙ so_far.count;
      inside = omega (arith, inside);
      lowest = ap (λ (l : Steps). top_of l) whole;
    }

-- one rank more, down from the last one that is cut
pub cut_next : (wanted : Steps) (seats : ByClass) (ladder xs new : Steps) (old i below count lowest : ℕ) (o : Option Step) (s t : Step)
    → CutSoFar wanted seats ladder xs old below → 0 < old → i ≡ old - 1 → s ≡ get_or xs i s → count ≡ held_from seats (drop i ladder)
    → lowest ≡ max count below → o ≡ step_of wanted s.class → t ≡ cut_to o lowest s → new ≡ set xs i t
    → CutSoFar wanted seats ladder new i t.limit
cut_next wanted seats ladder xs new old i below count lowest o s t so_far some at is counted is_lowest is_o is_t put =
    let one : old ≡ i + 1 = omega (arith, some, at) in
    cut_more wanted seats ladder xs new i below count lowest o s t (subst (λ (n : ℕ). CutSoFar wanted seats ladder xs n below) one so_far) is counted is_lowest is_o
    is_t put

-- the place of the next rank is there
pub cut_inside : (wanted : Steps) (seats : ByClass) (ladder xs : Steps) (old i below : ℕ) → CutSoFar wanted seats ladder xs old below → 0 < old
    → i ≡ old - 1 → i < length xs
cut_inside wanted seats ladder xs old i below so_far some at = omega (arith, so_far.inside, so_far.count, some, at)

pub cut_whole : (wanted : Steps) (seats : ByClass) (ladder xs : Steps) (i below : ℕ) → CutSoFar wanted seats ladder xs i below → i ≡ 0
    → xs ≡ cut_steps wanted seats ladder
cut_whole wanted seats ladder xs i below so_far zero =
    let at : drop 0 xs ≡ cut_steps wanted seats (drop 0 ladder) = ap (λ (n : ℕ). drop n xs) (sym zero) ∙ so_far.done ∙ ap (λ (n : ℕ). cut_steps wanted seats (drop n ladder)) zero in
    at

-- ---- raises

-- the first i ranks are raised, and those behind them are as they were
pub record RaisedSoFar (wanted cut xs : Steps) (i highest : ℕ) : Type 0 where
  pub done : take i xs ++ raise_steps wanted highest (drop i xs) ≡ raise_steps wanted 999 cut
  pub count : length xs ≡ length cut

pub none_raised : (wanted cut xs : Steps) (i highest : ℕ) → xs ≡ cut → i ≡ 0 → highest ≡ 999 → RaisedSoFar wanted cut xs i highest
none_raised wanted cut xs i highest same zero most =
    let at : take 0 xs ++ raise_steps wanted 999 (drop 0 xs) ≡ raise_steps wanted 999 cut = ap (λ (l : Steps). raise_steps wanted 999 l) same in
    record {
      done =
          ap (λ (n : ℕ). take n xs ++ raise_steps wanted highest (drop n xs)) zero
          ∙ ap (λ (n : ℕ). take 0 xs ++ raise_steps wanted n (drop 0 xs)) most ∙ at;
      count = ap (λ (l : Steps). length l) same;
    }

pub raised_more : (wanted cut xs new : Steps) (i highest : ℕ) (o : Option Step) (s t : Step) → RaisedSoFar wanted cut xs i highest
    → i < length xs → s ≡ get_or xs i s → o ≡ step_of wanted s.class → t ≡ raise_to o highest s → new ≡ set xs i t
    → RaisedSoFar wanted cut new (i + 1) t.limit
raised_more wanted cut xs new i highest o s t so_far inside is is_o is_t put =
    let rest : drop i xs ≡ s ∷ drop (i + 1) xs = drop_step xs i s inside is in
    let here : t ≡ raise_to (step_of wanted s.class) highest s = is_t ∙ ap (λ (x : Option Step). raise_to x highest s) is_o in
    let behind : drop (i + 1) new ≡ drop (i + 1) xs = ap (λ (l : Steps). drop (i + 1) l) put ∙ drop-set-lt (i + 1) xs i t (omega arith) in
    let front : take (i + 1) new ≡ take i xs ++ t ∷ [] = ap (λ (l : Steps). take (i + 1) l) put ∙ take_more_set xs i t inside in
    record {
      done =
          ap (λ (l : Steps). l ++ raise_steps wanted t.limit (drop (i + 1) new)) front
          ∙ ap (λ (l : Steps). (take i xs ++ t ∷ []) ++ raise_steps wanted t.limit l) behind
          ∙ append_assoc (take i xs) (t ∷ []) (raise_steps wanted t.limit (drop (i + 1) xs))
          ∙ ap (λ (x : Step). take i xs ++ x ∷ raise_steps wanted x.limit (drop (i + 1) xs)) here
          ∙ ap (λ (l : Steps). take i xs ++ raise_steps wanted highest l) (sym rest)
          ∙ so_far.done;
      count = ap (λ (l : Steps). length l) put ∙ length-set xs i t ∙ so_far.count;
    }

pub raised_whole : (wanted cut xs : Steps) (i highest : ℕ) → RaisedSoFar wanted cut xs i highest → length xs ≤ i
    → xs ≡ raise_steps wanted 999 cut
raised_whole wanted cut xs i highest so_far over =
    sym (append-nil xs) ∙ ap (λ (l : Steps). l ++ []) (sym (take_all i xs over))
    ∙ ap (λ (l : Steps). take i xs ++ raise_steps wanted highest l) (sym (drop_of_length-le xs over))
    ∙ so_far.done

-- as many as there were
pub cut_length : (wanted : Steps) (seats : ByClass) (ladder : Steps) → length (cut_steps wanted seats ladder) ≡ length ladder
cut_length wanted seats [] = refl
cut_length wanted seats (s ∷ lower) = ap suc (cut_length wanted seats lower)

pub raise_length : (wanted : Steps) (highest : ℕ) (steps : Steps) → length (raise_steps wanted highest steps) ≡ length steps
raise_length wanted highest [] = refl
raise_length wanted highest (s ∷ lower) = ap suc (raise_length wanted (raise_to (step_of wanted s.class) highest s).limit lower)

pub cut_count : (wanted : Steps) (seats : ByClass) (ladder xs : Steps) (i below : ℕ) → CutSoFar wanted seats ladder xs i below → length xs ≡ length ladder
cut_count wanted seats ladder xs i below so_far = so_far.count

pub raised_count : (wanted cut xs : Steps) (i highest : ℕ) → RaisedSoFar wanted cut xs i highest → length xs ≡ length cut
raised_count wanted cut xs i highest so_far = so_far.count
