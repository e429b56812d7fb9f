-- The changes, message by message.
use Rattle.std.proofs.Common.{◌≡◌, ℕ, ◌+◌, ◌<◌, ◌≤◌, Bool, true, false, List, [], ◌∷◌, ◌++◌, length, drop, get_or, Option, Some, None, slice_get, ⊎_elim, arith, if◌then◌else◌, refl, sym, ap, ◌∙◌, append_assoc}
use Rattle.std.proofs.Math.ListN.{drop_of_length-le}
use Rattle.std.proofs.lemmas.List.{append-nil}
use Rattle.std.proofs.lemmas.Option.{slice_get_cases, slice_get_past, slice_get_read}
use Rattle.ssim_flights.proofs.Walks.{drop_step}
use Rattle.seat_availability.specs.Changes.{changed, news, tells_same}
use Rattle.seat_availability.specs.declared.segments.Message.{Message}

pub none_more : (o n : Message) (all : List Message) → tells_same o n ≡ true → all ≡ all ++ news (Some o) n
none_more o n all e = sym (append-nil all) ∙ ap (λ (b : Bool). all ++ (if b then [] else n ∷ [])) (sym e)

pub one_more : (o n : Message) (old new : List Message) → tells_same o n ≡ false → new ≡ old ++ n ∷ [] → new ≡ old ++ news (Some o) n
one_more o n old new e put = put ∙ ap (λ (b : Bool). old ++ (if b then [] else n ∷ [])) (sym e)

pub news_past : (older : List Message) (i : ℕ) (n : Message) (old new : List Message) → length older ≤ i → new ≡ old ++ n ∷ []
    → new ≡ old ++ news (slice_get older i) n
news_past older i n old new over put = put ∙ ap (λ (o : Option Message). old ++ news o n) (sym (slice_get_past older i over))

pub news_there : (older : List Message) (i : ℕ) (o n : Message) (old new : List Message) → i < length older → o ≡ get_or older i o
    → new ≡ old ++ news (Some o) n → new ≡ old ++ news (slice_get older i) n
news_there older i o n old new inside is put =
    put ∙ ap (λ (x : Option Message). old ++ news x n) (sym (slice_get_read older (length older) i o refl inside is))

-- the older message at this place, if there is one, and those behind
step : (older rest : List Message) (i : ℕ) (n : Message)
    → changed (drop i older) (n ∷ rest) ≡ news (slice_get older i) n ++ changed (drop (i + 1) older) rest
step older rest i n = ⊎_elim
    (λ (s : (x : Message) × (i < length older) × (slice_get older i ≡ Some x) × (get_or older i x ≡ x)). there s.0 s.1 s.2 s.3)
    (λ (s : (length older ≤ i) × (slice_get older i ≡ None)). past s.0 s.1)
    (slice_get_cases older i).1
  where
    there : (x : Message) → i < length older → slice_get older i ≡ Some x → get_or older i x ≡ x
        → changed (drop i older) (n ∷ rest) ≡ news (slice_get older i) n ++ changed (drop (i + 1) older) rest
    there x inside found is =
        ap (λ (l : List Message). changed l (n ∷ rest)) (drop_step older i x inside (sym is))
        ∙ ap (λ (o : Option Message). news o n ++ changed (drop (i + 1) older) rest) (sym found)

    past : length older ≤ i → slice_get older i ≡ None
        → changed (drop i older) (n ∷ rest) ≡ news (slice_get older i) n ++ changed (drop (i + 1) older) rest
    past over none =
        let more : length older ≤ i + 1 = omega (arith, over) in
        ap (λ (l : List Message). changed l (n ∷ rest)) (drop_of_length-le older over)
        ∙ ap (λ (l : List Message). news None n ++ changed l rest) (sym (drop_of_length-le older more))
        ∙ ap (λ (o : Option Message). news o n ++ changed (drop (i + 1) older) rest) (sym none)

pub change_more : (older newer : List Message) (i : ℕ) (n : Message) (mid new whole : List Message)
    → mid ++ changed (drop i older) (drop i newer) ≡ whole → i < length newer → n ≡ get_or newer i n
    → new ≡ mid ++ news (slice_get older i) n → new ++ changed (drop (i + 1) older) (drop (i + 1) newer) ≡ whole
change_more older newer i n mid new whole so_far inside is put =
    let rest : drop i newer ≡ n ∷ drop (i + 1) newer = drop_step newer i n inside is in
    ap (λ (l : List Message). l ++ changed (drop (i + 1) older) (drop (i + 1) newer)) put
    ∙ append_assoc mid (news (slice_get older i) n) (changed (drop (i + 1) older) (drop (i + 1) newer))
    ∙ ap (λ (l : List Message). mid ++ l) (sym (step older (drop (i + 1) newer) i n))
    ∙ ap (λ (l : List Message). mid ++ changed (drop i older) l) (sym rest)
    ∙ so_far

none_left : (older : List Message) → changed older [] ≡ []
none_left [] = refl
none_left (o ∷ older) = refl

pub changes_whole : (older newer : List Message) (i : ℕ) (all whole : List Message) → all ++ changed (drop i older) (drop i newer) ≡ whole
    → length newer ≤ i → all ≡ whole
changes_whole older newer i all whole so_far over =
    sym (append-nil all)
    ∙ ap (λ (l : List Message). all ++ l) (sym (none_left (drop i older)))
    ∙ ap (λ (l : List Message). all ++ changed (drop i older) l) (sym (drop_of_length-le newer over))
    ∙ so_far
