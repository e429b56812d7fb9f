-- A journal beside an older one that it goes on from.
use Rattle.std.proofs.Common.{◌≡◌, inl, inr, ℕ, suc, ◌+◌, ◌-◌, zero-add, arith, ◌<◌, ◌≤◌, Bool, true, false, List, [], ◌∷◌, ◌++◌, length, take, drop, get_or, refl, sym, ap, ◌∙◌, subst, Option, Some, None}
use Rattle.ssim_flights.specs.declared.flight.Flight.{Flight as Flown}
use Rattle.seat_scripts.proofs.Common.{slice_get, Ladders, Request, Entry, Work, IsLegal, IsNext, Unasked, IsUnasked}
use Rattle.std.specs.Prelude.{IsTrue}
use Rattle.std.proofs.Math.Seq.{drop-cons}
use Rattle.std.proofs.lemmas.List.{length-append, length-take-le, take-append-drop, take_all, take_more}
use Rattle.std.proofs.lemmas.Option.{get_or_from_slice_get, slice_get_within}
use Rattle.seat_rules.specs.Journal.{calls_of, next_line}
use Rattle.seat_rules.specs.Prefixes.{Begins}
use Rattle.seat_desk.specs.declared.fault.DeskFault.{DeskFault}
use Rattle.seat_desk.specs.declared.fault.DeskFault.TheVariants.{NoBehind}
use Rattle.seat_scripts.specs.Against.{IsFirstUnasked, IsNoBeginning, IsNoPast, IsParted, IsShort, line_there}

-- ---- legal histories

-- the front of a list and the line behind it
parts_at : (lines : List Entry) (i : ℕ) (e : Entry) → slice_get lines i ≡ Some e
    → lines ≡ (take i lines ++ e ∷ []) ++ drop (suc i) lines
parts_at lines i e at =
    let lt : i < length lines = slice_get_within lines i e at in
    let is : get_or lines i e ≡ e = get_or_from_slice_get lines i e e at in
    sym (take-append-drop i lines) ∙ (ap (λ (l : List Entry). take i lines ++ l) (drop-cons lines i e lt ∙ ap (λ (x : Entry). x ∷ drop (suc i) lines) is)
    ∙ behind (take i lines) (drop (suc i) lines))
  where
    behind : (xs ys : List Entry) → xs ++ e ∷ ys ≡ (xs ++ e ∷ []) ++ ys
    behind [] ys = refl
    behind (x ∷ xs) ys = ap (λ (l : List Entry). x ∷ l) (behind xs ys)

next_at : (grid : Ladders) (lines : List Entry) (i : ℕ) (e : Entry) → IsLegal grid lines → slice_get lines i ≡ Some e
    → IsNext grid (take i lines) e
next_at grid lines i e legal at = legal.each (take i lines) e (record { rest = drop (suc i) lines; is = parts_at lines i e at })

-- of two lines that may follow the same past, those of one session that ask for the same are one
same_next : (grid : Ladders) (past : List Entry) (a b : Entry) → IsNext grid past a → IsNext grid past b
    → a.session ≡ b.session → a.work ≡ b.work → a ≡ b
same_next grid past a b one two session work =
    let call : a.call ≡ b.call = one.call ∙ (ap (λ (s : ℕ). calls_of past s + 1) session ∙ sym two.call) in
    one.line
    ∙ (ap (λ (s : ℕ). next_line grid past s a.call a.work) session
    ∙ (ap (λ (c : ℕ). next_line grid past b.session c a.work) call
    ∙ (ap (λ (w : Work). next_line grid past b.session b.call w) work ∙ sym two.line)))

-- ---- one line after the other

module _ (grid : Ladders) (older journal : List Entry) (old_legal : IsLegal grid older) (legal : IsLegal grid journal) (i : ℕ) (line : Entry) (at : slice_get older i ≡ Some line)
    (so_far : take i journal ≡ take i older) where
  within : i < length older
  within = slice_get_within older i line at

  module _ (there : Entry) (here : slice_get journal i ≡ Some there) where
    -- two that are alike are one line
    alike : there.session ≡ line.session → there.work ≡ line.work → there ≡ line
    alike session work =
        same_next grid (take i older) there line
        (subst (λ (past : List Entry). IsNext grid past there) so_far (next_at grid journal i there legal here))
        (next_at grid older i line old_legal at) session work

    pub same_more : (there.session ≡ line.session) × (there.work ≡ line.work)
        → take (i + 1) journal ≡ take (i + 1) older
    same_more both =
        let is : there ≡ line = alike both.0 both.1 in
        take_more journal i there (slice_get_within journal i there here)
        ∙ (ap (λ (x : Entry). take i journal ++ x ∷ []) (get_or_from_slice_get journal i there there here ∙ is)
        ∙ (ap (λ (l : List Entry). l ++ line ∷ []) so_far
        ∙ (ap (λ (x : Entry). take i older ++ x ∷ []) (sym (get_or_from_slice_get older i line line at)) ∙ sym (take_more older i line within))))

    pub part_here : (told : Bool) → told ≡ false
        → ((there.session ≡ line.session) × (there.work ≡ line.work) → IsTrue told)
        → IsNoBeginning older journal there.session there.call
    part_here told no_told says = record {
      place = i;
      named = there;
      part = record {
        within = within;
        before = so_far;
        there = λ (same : slice_get journal i ≡ slice_get older i). untrue (says (agree (one (sym here ∙ (same ∙ at)))));
        named_is = ap (λ (o : Option Entry). line_there o (slice_get older i)) here;
      };
      session_is = refl;
      call_is = refl;
    } where
      one : Some there ≡ Some line → there ≡ line
      one e = cc

      agree : there ≡ line → (there.session ≡ line.session) × (there.work ≡ line.work)
      agree e = (ap (λ (x : Entry). x.session) e, ap (λ (x : Entry). x.work) e)

      untrue : IsTrue told → ⊥
      untrue t = let bad : false ≡ true = sym no_told ∙ t in cc

  -- the journal has ended
  pub part_end : slice_get journal i ≡ None → IsNoBeginning older journal line.session line.call
  part_end none = record {
    place = i;
    named = line;
    part = record {
      within = within;
      before = so_far;
      there = λ (same : slice_get journal i ≡ slice_get older i). some_is_none (sym (same ∙ at) ∙ none);
      named_is = ap (λ (o : Option Entry). line_there o (slice_get older i)) none ∙ at;
    };
    session_is = refl;
    call_is = refl;
  } where
    some_is_none : Some line ≡ None → ⊥
    some_is_none e = cc

pub begins_all : (older journal : List Entry) (i : ℕ) → length older ≤ i → take i journal ≡ take i older
    → Begins older journal
begins_all older journal i whole so_far = record {
  rest = drop i journal;
  is = sym (take-append-drop i journal) ∙ ap (λ (l : List Entry). l ++ drop i journal) (so_far ∙ take_all i older whole);
}

pub older_within : (older journal : List Entry) → Begins older journal → length older ≤ length journal
older_within older journal begins = omega (arith, ap length begins.is, length-append older begins.rest)

-- ---- a past

take_over : (older rest : List Entry) (more : ℕ) → take (length older + more) (older ++ rest) ≡ older ++ take more rest
take_over [] rest more = ap (λ (k : ℕ). take k rest) (zero-add more)
take_over (x ∷ older) rest more =
    let up : suc (length older) + more ≡ suc (length older + more) = omega arith in
    ap (λ (k : ℕ). take k (x ∷ older ++ rest)) up ∙ ap (λ (l : List Entry). x ∷ l) (take_over older rest more)

pub parted_at : (older journal : List Entry) (more past : ℕ) → Begins older journal → past ≡ length older + more
    → past ≤ length journal → IsParted older more (take past journal) (drop past journal) journal
parted_at older journal more past begins is within = record {
  whole = sym (take-append-drop past journal);
  goes_on = record {
    rest = take more begins.rest;
    is = ap (λ (k : ℕ). take k journal) is ∙ (ap (take (length older + more)) begins.is ∙ take_over older begins.rest more);
  };
  count = length-take-le past journal within ∙ is;
}

pub too_short : (older journal : List Entry) (more : ℕ) → Begins older journal
    → length journal - length older < more → IsShort older more journal
too_short older journal more begins few = record { goes_on = begins; short = omega (arith, few, older_within older journal begins) }

-- ---- the whole

pub unasked_behind : (flights : List Flown) (scripts : List (List Request)) (older : List Entry) (more : ℕ)
    (past added journal : List Entry) (session place call : ℕ) → IsParted older more past added journal
    → IsFirstUnasked flights scripts added session place
    → call ≡ calls_of past session + place → IsUnasked flights scripts older more journal (Unasked session call)
unasked_behind flights scripts older more past added journal session place call parted first call_is =
    inr (record { past = past; added = added; parted = parted; place = place; first = first; call_is = call_is })

-- a journal without such a past is refused
pub no_past : (flights : List Flown) (scripts : List (List Request)) (older : List Entry) (more : ℕ)
    (journal : List Entry) (fault : DeskFault)
    → IsNoPast older more journal fault → IsUnasked flights scripts older more journal fault
no_past flights scripts older more journal (Unasked session call) none = inl none
no_past flights scripts older more journal NoBehind none = none
no_past flights scripts older more journal _ none = absurd none
