-- Scripts, read one after the other.
use Rattle.std.proofs.Common.{◌≡◌, ◌≤◌, ℕ, suc, Bool, true, false, ◌||◌, List, [], ◌∷◌, ◌++◌, length, map, refl, sym, ap, ◌∙◌, arith, append_assoc, Option, Some, None, IfSome}
use Rattle.seat_scripts.proofs.Common.{Request, AreScripts}
use Rattle.std.proofs.lemmas.List.{append-nil, length-map}
use Rattle.std.proofs.lemmas.List.Sorted.{list_any-IsPermutation}
use Rattle.std.specs.List.{AllZip, list_any}
use Rattle.std.specs.List.Sorted.{IsPermutation}
use Rattle.seat_replies.specs.Requests.{AreReadOn, AreRight, IsReadable, IsScriptOf}
use Rattle.seat_scripts.specs.Repeated.{AreFoundOn, IsBookedOf, IsOneBooked}
use Rattle.seat_scripts.specs.TextImprints.{AreTakenOn, IsImprintOf}
use Rattle.seat_seal.specs.Booked.{begins_with, is_booked}
use Rattle.seat_seal.specs.declared.imprint.Imprint.{Imprint}

pub read_none : (today : ℕ) (old : List (List Request)) → AreReadOn today [] old old
read_none today old = record { added = []; are_scripts = tt; are_right = tt; written = sym (append-nil old) }

pub read_more : (today : ℕ) (text : Option (List ℕ)) (texts : List (Option (List ℕ))) (requests : List Request)
    (old mid new : List (List Request))
    → IfSome text (IsScriptOf today requests) → AreRight requests → mid ≡ old ++ requests ∷ []
    → AreReadOn today texts mid new → AreReadOn today (text ∷ texts) old new
read_more today text texts requests old mid new script right pushed read = record {
  added = requests ∷ read.added;
  are_scripts = (script, read.are_scripts);
  are_right = (right, read.are_right);
  written = read.written ∙ (ap (λ (l : List (List Request)). l ++ read.added) pushed ∙ append_assoc old (requests ∷ []) read.added);
}

pub taken_none : (old : List (Option Imprint)) → AreTakenOn [] old old
taken_none old = record { added = []; are_imprints = tt; written = sym (append-nil old) }

pub taken_more : (text : Option (List ℕ)) (texts : List (Option (List ℕ))) (imprint : Option Imprint)
    (old mid new : List (Option Imprint))
    → IsImprintOf text imprint → mid ≡ old ++ imprint ∷ [] → AreTakenOn texts mid new → AreTakenOn (text ∷ texts) old new
taken_more text texts imprint old mid new is pushed taken = record {
  added = imprint ∷ taken.added;
  are_imprints = (is, taken.are_imprints);
  written = taken.written ∙ (ap (λ (l : List (Option Imprint)). l ++ taken.added) pushed ∙ append_assoc old (imprint ∷ []) taken.added);
}

-- ---- what was booked

or_false : (b : Bool) → b ≡ (b || false)
or_false true = refl
or_false false = refl

or_assoc : (a b c : Bool) → ((a || b) || c) ≡ (a || (b || c))
or_assoc true b c = refl
or_assoc false b c = refl

pub found_none : (booked : List Imprint) (old : Bool) → AreFoundOn booked [] old old
found_none booked old = record {
  found = false;
  is_one = record { answers = []; each = tt; answer_is = refl };
  new_is = or_false old;
}

pub found_more : (booked : List Imprint) (text : Option (List ℕ)) (texts : List (Option (List ℕ))) (one old mid new : Bool)
    → IsBookedOf booked text one → mid ≡ (old || one) → AreFoundOn booked texts mid new
    → AreFoundOn booked (text ∷ texts) old new
found_more booked text texts one old mid new is told found = record {
  found = one || found.found;
  is_one = record {
    answers = one ∷ found.is_one.answers;
    each = (is, found.is_one.each);
    answer_is = ap (λ (b : Bool). one || b) found.is_one.answer_is;
  };
  new_is = found.new_is ∙ (ap (λ (b : Bool). b || found.found) told ∙ or_assoc old one found.found);
}

-- the same in another order
pub same_booked : (booked other : List Imprint) (text : Option (List ℕ)) (answer : Bool) → IsPermutation other booked
    → IsBookedOf booked text answer → IsBookedOf other text answer
same_booked booked other None answer same is = tt
same_booked booked other (Some bytes) answer same is = is ∙ sym (list_any-IsPermutation (begins_with bytes) other booked same)

pub text_booked : (text : Option (List ℕ)) (booked other slice : List Imprint) (bytes view : List ℕ) (answer : Bool)
    → IfSome text (λ xs. bytes ≡ xs) → view ≡ bytes → IsPermutation other booked → slice ≡ booked
    → answer ≡ is_booked slice view → IsBookedOf other text answer
text_booked None booked other slice bytes view answer whole viewed same sliced is = tt
text_booked (Some xs) booked other slice bytes view answer whole viewed same sliced is =
    is ∙ (ap (list_any (begins_with view)) sliced
    ∙ (sym (list_any-IsPermutation (begins_with view) other booked same)
    ∙ ap (λ (l : List ℕ). list_any (begins_with l) other) (viewed ∙ whole)))

each_same : (booked other : List Imprint) (texts : List (Option (List ℕ))) (answers : List Bool) → IsPermutation other booked
    → AllZip (IsBookedOf booked) texts answers → AllZip (IsBookedOf other) texts answers
each_same booked other [] [] same each = tt
each_same booked other [] (a ∷ answers) same each = absurd each
each_same booked other (text ∷ texts) [] same each = absurd each
each_same booked other (text ∷ texts) (a ∷ answers) same each =
    (same_booked booked other text a same each.0, each_same booked other texts answers same each.1)

pub one_is_booked : (booked other : List Imprint) (texts : List (Option (List ℕ))) (old new : Bool) → IsPermutation other booked
    → old ≡ false → AreFoundOn booked texts old new → IsOneBooked other texts new
one_is_booked booked other texts old new same none found = record {
  answers = found.is_one.answers;
  each = each_same booked other texts found.is_one.answers same found.is_one.each;
  answer_is = found.new_is ∙ (ap (λ (b : Bool). b || found.found) none ∙ found.is_one.answer_is);
}

are_count : (today : ℕ) (texts : List (Option (List ℕ))) (scripts : List (List Request))
    → AreScripts today texts scripts → length scripts ≡ length texts
are_count today [] [] are = refl
are_count today [] (requests ∷ scripts) are = absurd are
are_count today (text ∷ texts) [] are = absurd are
are_count today (text ∷ texts) (requests ∷ scripts) are = ap suc (are_count today texts scripts are.1)

-- there are as many as were read
pub read_count : {C : Type 0} → (today : ℕ) (f : C → Option (List ℕ)) (inputs : List C) (old new : List (List Request))
    → old ≡ [] → AreReadOn today (map f inputs) old new → length new ≡ length inputs
read_count today f inputs old new none read =
    let all : new ≡ read.added = read.written ∙ ap (λ (l : List (List Request)). l ++ read.added) none in
    ap length all ∙ (are_count today (map f inputs) read.added read.are_scripts ∙ length-map inputs f)

-- one to eight slices, where that many were read
pub between : (n : ℕ) (scripts slice : List (List Request)) → slice ≡ scripts → length scripts ≡ n → (1 ≤ n) × (n ≤ 8)
    → (1 ≤ length slice) × (length slice ≤ 8)
between n scripts slice same count range =
    let all : length slice ≡ n = ap length same ∙ count in
    (omega (arith, all, range.0), omega (arith, all, range.1))

-- a script that is read stands before the fault
pub readable : (today : ℕ) (text : Option (List ℕ)) (requests : List Request) → IfSome text (IsScriptOf today requests)
    → IsReadable today text
readable today text requests is = record { requests = requests; is_script = is }
