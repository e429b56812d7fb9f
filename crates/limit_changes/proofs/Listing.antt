-- The changes and the classes that fall short, part by part.
use Rattle.std.proofs.Common.{◌≡◌, ◌==◌, ◌&&◌, ℕ, ◌+◌, ◌-◌, ◌<◌, ◌≤◌, Bool, true, false, List, [], ◌∷◌, ◌++◌, length, map, drop, get_or, Option, Some, None, arith, if◌then◌else◌, refl, sym, ap, subst, ◌∙◌, append_assoc}
use Rattle.std.specs.List.{flat_map}
use Rattle.std.proofs.Math.ListN.{drop_of_length-le}
use Rattle.std.proofs.lemmas.List.{append-nil, map-append}
use Rattle.ssim_flights.proofs.Walks.{drop_step}
use Rattle.seat_nesting.specs.Nesting.{ByClass, Steps, held_from}
use Rattle.seat_nesting.specs.Changing.{step_of}
use Rattle.seat_nesting.specs.declared.ladder.Step.{Step}
use Rattle.limit_changes.specs.Reaching.{change_of, changes_down, changes_up}
use Rattle.limit_changes.specs.Rows.{row_of}
use Rattle.limit_changes.specs.Shorts.{short_of, shorts_from}
use Rattle.limit_changes.specs.declared.legs.NamedLeg.{NamedLeg}
use Rattle.limit_changes.specs.declared.rows.Row.{Row}
use Rattle.limit_changes.specs.declared.shorts.Short.{Short}

module _ {A B : Type 0} where
  -- the part of one item more
  pub part_more : (part : A → List B) (i : ℕ) (xs : List A) (x : A) (mid new whole : List B)
      → mid ++ flat_map part (drop i xs) ≡ whole → i < length xs → x ≡ get_or xs i x → new ≡ mid ++ part x
      → new ++ flat_map part (drop (i + 1) xs) ≡ whole
  part_more part i xs x mid new whole so_far inside is put =
      let rest : drop i xs ≡ x ∷ drop (i + 1) xs = drop_step xs i x inside is in
      ap (λ (l : List B). l ++ flat_map part (drop (i + 1) xs)) put
      ∙ append_assoc mid (part x) (flat_map part (drop (i + 1) xs))
      ∙ ap (λ (l : List A). mid ++ flat_map part l) (sym rest)
      ∙ so_far

  pub parts_whole : (part : A → List B) (i : ℕ) (xs : List A) (all whole : List B)
      → all ++ flat_map part (drop i xs) ≡ whole → length xs ≤ i → all ≡ whole
  parts_whole part i xs all whole so_far over =
      sym (append-nil all) ∙ ap (λ (l : List A). all ++ flat_map part l) (sym (drop_of_length-le xs over)) ∙ so_far

pub both_parts : (cuts raises all mid new : List Row) → all ≡ [] → mid ≡ all ++ cuts → new ≡ mid ++ raises → new ≡ cuts ++ raises
both_parts cuts raises all mid new empty first second =
    second ∙ ap (λ (l : List Row). l ++ raises) (first ∙ ap (λ (l : List Row). l ++ cuts) empty)

-- ---- the ranks of a leg

pub none_up : (leg : NamedLeg) (old new : Steps) (i : ℕ) (first : List Row) → length old ≤ i
    → first ≡ first ++ map (row_of leg) (changes_up (drop i old) (drop i new))
none_up leg old new i first over =
    sym (append-nil first) ∙ ap (λ (l : Steps). first ++ map (row_of leg) (changes_up l (drop i new))) (sym (drop_of_length-le old over))

pub up_more : (leg : NamedLeg) (old new : Steps) (i : ℕ) (s t : Step) (first mid all : List Row)
    → mid ≡ first ++ map (row_of leg) (changes_up (drop (i + 1) old) (drop (i + 1) new))
    → i < length old → i < length new → s ≡ get_or old i s → t ≡ get_or new i t
    → all ≡ mid ++ map (row_of leg) (change_of s t)
    → all ≡ first ++ map (row_of leg) (changes_up (drop i old) (drop i new))
up_more leg old new i s t first mid all so_far inside within is_s is_t put =
    let ups : Steps = changes_up (drop (i + 1) old) (drop (i + 1) new) in
    put ∙ ap (λ (l : List Row). l ++ map (row_of leg) (change_of s t)) so_far
    ∙ append_assoc first (map (row_of leg) ups) (map (row_of leg) (change_of s t))
    ∙ ap (λ (l : List Row). first ++ l) (sym (map-append (row_of leg) ups (change_of s t)))
    ∙ ap (λ (l : Steps). first ++ map (row_of leg) (changes_up l (t ∷ drop (i + 1) new))) (sym (drop_step old i s inside is_s))
    ∙ ap (λ (l : Steps). first ++ map (row_of leg) (changes_up (drop i old) l)) (sym (drop_step new i t within is_t))

-- the changes of the ranks from the ith on are there
pub record UpSoFar (leg : NamedLeg) (old new : Steps) (first all : List Row) (i : ℕ) : Type 0 where
  pub so_far : all ≡ first ++ map (row_of leg) (changes_up (drop i old) (drop i new))
  pub inside : i ≤ length old

pub up_none : (leg : NamedLeg) (old new : Steps) (first : List Row) (i : ℕ) → i ≡ length old → UpSoFar leg old new first first i
up_none leg old new first i at = record { so_far = none_up leg old new i first (omega (arith, at)); inside = omega (arith, at) }

pub up_next : (leg : NamedLeg) (old new : Steps) (last i : ℕ) (s t : Step) (first mid all : List Row) → UpSoFar leg old new first mid last
    → length new ≡ length old → 0 < last → i ≡ last - 1 → s ≡ get_or old i s → t ≡ get_or new i t
    → all ≡ mid ++ map (row_of leg) (change_of s t) → UpSoFar leg old new first all i
up_next leg old new last i s t first mid all before same some at is_s is_t put =
    let one : last ≡ i + 1 = omega (arith, some, at) in
    let inside : i < length old = omega (arith, before.inside, one) in
    record {
      so_far =
          up_more leg old new i s t first mid all
          (subst (λ (n : ℕ). mid ≡ first ++ map (row_of leg) (changes_up (drop n old) (drop n new))) one before.so_far) inside (omega (arith, inside, same)) is_s is_t put;
      inside = omega (arith, inside);
    }

-- the place of the next rank is there, in both
pub up_inside : (leg : NamedLeg) (old new : Steps) (first all : List Row) (last i : ℕ) → UpSoFar leg old new first all last → 0 < last
    → i ≡ last - 1 → i < length old
up_inside leg old new first all last i before some at = omega (arith, before.inside, some, at)

pub up_within : (leg : NamedLeg) (old new : Steps) (first all : List Row) (last i : ℕ) → UpSoFar leg old new first all last → 0 < last
    → i ≡ last - 1 → length new ≡ length old → i < length new
up_within leg old new first all last i before some at same = omega (arith, before.inside, some, at, same)

pub up_whole : (leg : NamedLeg) (old new : Steps) (first all : List Row) (i : ℕ) → UpSoFar leg old new first all i → i ≡ 0
    → all ≡ first ++ map (row_of leg) (changes_up old new)
up_whole leg old new first all i before zero = subst (λ (n : ℕ). all ≡ first ++ map (row_of leg) (changes_up (drop n old) (drop n new))) zero before.so_far

pub down_more : (leg : NamedLeg) (old new : Steps) (i : ℕ) (s t : Step) (mid all whole : List Row)
    → mid ++ map (row_of leg) (changes_down (drop i old) (drop i new)) ≡ whole
    → i < length old → i < length new → s ≡ get_or old i s → t ≡ get_or new i t
    → all ≡ mid ++ map (row_of leg) (change_of s t)
    → all ++ map (row_of leg) (changes_down (drop (i + 1) old) (drop (i + 1) new)) ≡ whole
down_more leg old new i s t mid all whole so_far inside within is_s is_t put =
    let downs : Steps = changes_down (drop (i + 1) old) (drop (i + 1) new) in
    ap (λ (l : List Row). l ++ map (row_of leg) downs) put
    ∙ append_assoc mid (map (row_of leg) (change_of s t)) (map (row_of leg) downs)
    ∙ ap (λ (l : List Row). mid ++ l) (sym (map-append (row_of leg) (change_of s t) downs))
    ∙ ap (λ (l : Steps). mid ++ map (row_of leg) (changes_down l (t ∷ drop (i + 1) new))) (sym (drop_step old i s inside is_s))
    ∙ ap (λ (l : Steps). mid ++ map (row_of leg) (changes_down (drop i old) l)) (sym (drop_step new i t within is_t))
    ∙ so_far

pub down_whole : (leg : NamedLeg) (old new : Steps) (i : ℕ) (all whole : List Row)
    → all ++ map (row_of leg) (changes_down (drop i old) (drop i new)) ≡ whole → length old ≤ i → all ≡ whole
down_whole leg old new i all whole so_far over =
    sym (append-nil all) ∙ ap (λ (l : Steps). all ++ map (row_of leg) (changes_down l (drop i new))) (sym (drop_of_length-le old over)) ∙ so_far

pub change_left : (leg : NamedLeg) (s t : Step) (all : List Row) → ((s.limit == t.limit) && (s.wait == t.wait)) ≡ true
    → all ≡ all ++ map (row_of leg) (change_of s t)
change_left leg s t all e =
    sym (append-nil all) ∙ ap (λ (b : Bool). all ++ map (row_of leg) (if b then [] else t ∷ [])) (sym e)

pub change_added : (leg : NamedLeg) (s t : Step) (row : Row) (old new : List Row)
    → ((s.limit == t.limit) && (s.wait == t.wait)) ≡ false → row ≡ row_of leg t → new ≡ old ++ row ∷ []
    → new ≡ old ++ map (row_of leg) (change_of s t)
change_added leg s t row old new e is put =
    put ∙ ap (λ (r : Row). old ++ r ∷ []) is ∙ ap (λ (b : Bool). old ++ map (row_of leg) (if b then [] else t ∷ [])) (sym e)

-- ---- classes that fall short

pub rank_more : (leg : NamedLeg) (wanted : Steps) (seats : ByClass) (steps ladder new : Steps) (i : ℕ) (o : Option Step) (count : ℕ) (s t : Step)
    (mid all whole : List Short) → mid ++ shorts_from leg wanted seats (drop i ladder) (drop i new) ≡ whole → steps ≡ ladder
    → i < length steps → i < length new → s ≡ get_or steps i s → t ≡ get_or new i t → o ≡ step_of wanted s.class
    → count ≡ held_from seats (drop i ladder) → all ≡ mid ++ short_of leg o count t
    → all ++ shorts_from leg wanted seats (drop (i + 1) ladder) (drop (i + 1) new) ≡ whole
rank_more leg wanted seats steps ladder new i o count s t mid all whole so_far same inside within is_s is_t is_o counted put =
    let rest : drop i ladder ≡ s ∷ drop (i + 1) ladder =
    ap (λ (l : Steps). drop i l) (sym same) ∙ drop_step steps i s inside is_s ∙ ap (λ (l : Steps). s ∷ drop (i + 1) l) same in
    let more : List Short = shorts_from leg wanted seats (drop (i + 1) ladder) (drop (i + 1) new) in
    let here : count ≡ held_from seats (s ∷ drop (i + 1) ladder) = counted ∙ ap (held_from seats) rest in
    ap (λ (l : List Short). l ++ more) put
    ∙ append_assoc mid (short_of leg o count t) more
    ∙ ap (λ (x : Option Step). mid ++ (short_of leg x count t ++ more)) is_o
    ∙ ap (λ (n : ℕ). mid ++ (short_of leg (step_of wanted s.class) n t ++ more)) here
    ∙ ap (λ (l : Steps). mid ++ shorts_from leg wanted seats l (t ∷ drop (i + 1) new)) (sym rest)
    ∙ ap (λ (l : Steps). mid ++ shorts_from leg wanted seats (drop i ladder) l) (sym (drop_step new i t within is_t))
    ∙ so_far

pub ranks_whole : (leg : NamedLeg) (wanted : Steps) (seats : ByClass) (steps ladder new : Steps) (i : ℕ) (all whole : List Short)
    → all ++ shorts_from leg wanted seats (drop i ladder) (drop i new) ≡ whole → steps ≡ ladder → length steps ≤ i → all ≡ whole
ranks_whole leg wanted seats steps ladder new i all whole so_far same over =
    let past : length ladder ≤ i = omega (arith, over, ap (λ (l : Steps). length l) same) in
    sym (append-nil all) ∙ ap (λ (l : Steps). all ++ shorts_from leg wanted seats l (drop i new)) (sym (drop_of_length-le ladder past)) ∙ so_far

pub none_wanted : (leg : NamedLeg) (o : Option Step) (seats : ℕ) (t : Step) (all : List Short) → o ≡ None
    → all ≡ all ++ short_of leg o seats t
none_wanted leg o seats t all none = sym (append-nil all) ∙ ap (λ (x : Option Step). all ++ short_of leg x seats t) (sym none)

pub short_left : (leg : NamedLeg) (o : Option Step) (w : Step) (seats : ℕ) (t : Step) (all : List Short) → o ≡ Some w
    → (t.limit == w.limit) ≡ true → all ≡ all ++ short_of leg o seats t
short_left leg o w seats t all is e =
    sym (append-nil all)
    ∙ ap (λ (b : Bool). all ++ (if b then [] else record { leg = leg; class = t.class; wanted = w.limit; held = seats; limit = t.limit } ∷ [])) (sym e)
    ∙ ap (λ (x : Option Step). all ++ short_of leg x seats t) (sym is)

pub short_added : (leg : NamedLeg) (o : Option Step) (w : Step) (seats : ℕ) (t : Step) (old new : List Short) → o ≡ Some w
    → (t.limit == w.limit) ≡ false
    → new ≡ old ++ (record { leg = leg; class = t.class; wanted = w.limit; held = seats; limit = t.limit }) ∷ []
    → new ≡ old ++ short_of leg o seats t
short_added leg o w seats t old new is e put =
    put
    ∙ ap (λ (b : Bool). old ++ (if b then [] else record { leg = leg; class = t.class; wanted = w.limit; held = seats; limit = t.limit } ∷ [])) (sym e)
    ∙ ap (λ (x : Option Step). old ++ short_of leg x seats t) (sym is)
