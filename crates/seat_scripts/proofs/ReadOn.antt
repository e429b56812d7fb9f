-- A script that is read ahead of the later ones, or refused.
use Rattle.std.proofs.Common.{◌≡◌, ◌<◌, ◌+◌, ℕ, Bool, ◌||◌, false, List, [], ◌∷◌, ◌++◌, length, map, subst, sym, ap, ◌∙◌, inl, inr, Option, IfSome, Result, Ok, Err, OnOk, IfErr, is_err}
use Rattle.std.specs.List.{AllByRecursion}
use Rattle.airline_base.specs.Noting.{noted}
use Rattle.seat_desk.specs.Desk.{IsOfInput}
use Rattle.seat_replies.specs.Requests.{most_script_bytes}
use Rattle.seat_desk.specs.declared.fault.DeskFault.TheVariants.{Device, TooLarge}
use Rattle.seat_replies.specs.Requests.{AreReadOn, AreRight, HasFailedAmong, IsRefusedAmong, IsRefusedScript, IsScriptOf, IsTooLargeAmong}
use Rattle.seat_scripts.specs.Repeated.{AreFoundOn, IsBookedOf}
use Rattle.seat_scripts.specs.TextImprints.{AreImprints, AreTakenOn, IsImprintOf}
use Rattle.seat_scripts.proofs.Common.{AreScripts, DeskFault, Request}
use Rattle.seat_scripts.proofs.Reading.{found_more, found_none, read_more, read_none, readable, taken_more, taken_none}
use Rattle.seat_seal.specs.declared.imprint.Imprint.{Imprint}

-- what is told of what went well
pub when_ok : {A E : Type 0} → (r : Result A E) (P : Type 0) → is_err r ≡ false → OnOk r P → P
when_ok (Ok x) P is p = p
when_ok (Err e) P is p = absurd (cc is)

-- ---- no script

module _ {C : Type 0} (f : C → Option (List ℕ)) where
  pub read_no_more : (today : ℕ) (all : List C) (old : List (List Request)) → length all ≡ 0 → AreReadOn today (map f all) old old
  read_no_more today [] old none = read_none today old
  read_no_more today (c ∷ all) old none = absurd (cc none)

  pub taken_no_more : (all : List C) (old : List (Option Imprint)) → length all ≡ 0 → AreTakenOn (map f all) old old
  taken_no_more [] old none = taken_none old
  taken_no_more (c ∷ all) old none = absurd (cc none)

  pub found_no_more : (booked : List Imprint) (all : List C) (old : Bool) → length all ≡ 0 → AreFoundOn booked (map f all) old old
  found_no_more booked [] old none = found_none booked old
  found_no_more booked (c ∷ all) old none = absurd (cc none)

-- ---- one, and the later ones

module _ {C A : Type 0} (f : C → Option (List ℕ)) (all : List C) (one : C) (later : List C) (is : all ≡ one ∷ later) (r : Result A DeskFault) where
  pub read_later : (today : ℕ) (requests : List Request) (old mid new : List (List Request)) → IfSome (f one) (IsScriptOf today requests)
      → AreRight requests → mid ≡ old ++ requests ∷ [] → OnOk r (AreReadOn today (map f later) mid new) → OnOk r (AreReadOn today (map f all) old new)
  read_later today requests old mid new script right pushed read = pick r read
    where
      pick : (q : Result A DeskFault) → OnOk q (AreReadOn today (map f later) mid new) → OnOk q (AreReadOn today (map f all) old new)
      pick (Ok x) rest = subst (λ (xs : List C). AreReadOn today (map f xs) old new) (sym is)
          (read_more today (f one) (map f later) requests old mid new script right pushed rest)
      pick (Err e) rest = tt

  pub taken_later : (imprint : Option Imprint) (old mid new : List (Option Imprint)) → IsImprintOf (f one) imprint
      → mid ≡ old ++ imprint ∷ [] → OnOk r (AreTakenOn (map f later) mid new) → OnOk r (AreTakenOn (map f all) old new)
  taken_later imprint old mid new of pushed taken = pick r taken
    where
      pick : (q : Result A DeskFault) → OnOk q (AreTakenOn (map f later) mid new) → OnOk q (AreTakenOn (map f all) old new)
      pick (Ok x) rest = subst (λ (xs : List C). AreTakenOn (map f xs) old new) (sym is)
          (taken_more (f one) (map f later) imprint old mid new of pushed rest)
      pick (Err e) rest = tt

  pub found_later : (booked : List Imprint) (here old mid new : Bool) → IsBookedOf booked (f one) here
      → mid ≡ (old || here) → OnOk r (AreFoundOn booked (map f later) mid new) → OnOk r (AreFoundOn booked (map f all) old new)
  found_later booked here old mid new of told found = pick r found
    where
      pick : (q : Result A DeskFault) → OnOk q (AreFoundOn booked (map f later) mid new) → OnOk q (AreFoundOn booked (map f all) old new)
      pick (Ok x) rest = subst (λ (xs : List C). AreFoundOn booked (map f xs) old new) (sym is)
          (found_more booked (f one) (map f later) here old mid new of told rest)
      pick (Err e) rest = tt

  pub refused_later : (today session : ℕ) (requests : List Request) → IfSome (f one) (IsScriptOf today requests)
      → IfErr r (λ fault. IsOfInput fault → IsRefusedAmong today (session + 1) (map f later) fault)
      → IfErr r (λ fault. IsOfInput fault → IsRefusedAmong today session (map f all) fault)
  refused_later today session requests script refused = pick r refused
    where
      pick : (q : Result A DeskFault) → IfErr q (λ fault. IsOfInput fault → IsRefusedAmong today (session + 1) (map f later) fault)
          → IfErr q (λ fault. IsOfInput fault → IsRefusedAmong today session (map f all) fault)
      pick (Ok x) rest = tt
      pick (Err fault) rest = λ input. subst (λ (xs : List C). IsRefusedAmong today session (map f xs) fault) (sym is)
          (inr (readable today (f one) requests script, rest input))

  pub large_later : (today : ℕ) (requests : List Request) → IfSome (f one) (IsScriptOf today requests)
      → IfErr r (λ fault. fault ≡ TooLarge → IsTooLargeAmong today (map f later))
      → IfErr r (λ fault. fault ≡ TooLarge → IsTooLargeAmong today (map f all))
  large_later today requests script large = pick r large
    where
      pick : (q : Result A DeskFault) → IfErr q (λ fault. fault ≡ TooLarge → IsTooLargeAmong today (map f later))
          → IfErr q (λ fault. fault ≡ TooLarge → IsTooLargeAmong today (map f all))
      pick (Ok x) rest = tt
      pick (Err fault) rest = λ over. subst (λ (xs : List C). IsTooLargeAmong today (map f xs)) (sym is)
          (inr (readable today (f one) requests script, rest over))

  pub failed_later : (count : C → ℕ) (today : ℕ) (requests : List Request) (left : C) (news : List C) → IfSome (f one) (IsScriptOf today requests)
      → IfErr r (λ fault. fault ≡ Device → HasFailedAmong today (map f later) count later news)
      → IfErr r (λ fault. fault ≡ Device → HasFailedAmong today (map f all) count all (left ∷ news))
  failed_later count today requests left news script failed = pick r failed
    where
      pick : (q : Result A DeskFault) → IfErr q (λ fault. fault ≡ Device → HasFailedAmong today (map f later) count later news)
          → IfErr q (λ fault. fault ≡ Device → HasFailedAmong today (map f all) count all (left ∷ news))
      pick (Ok x) rest = tt
      pick (Err fault) rest = λ device. subst (λ (xs : List C). HasFailedAmong today (map f xs) count xs (left ∷ news)) (sym is)
          (inr (readable today (f one) requests script, rest device))

-- ---- the first is refused

module _ {C : Type 0} (f : C → Option (List ℕ)) (all : List C) (one : C) (later : List C) (is : all ≡ one ∷ later) (today : ℕ) where
  pub refused_here : (session : ℕ) (fault : DeskFault) → IfSome (f one) (IsRefusedScript today session fault)
      → IsRefusedAmong today session (map f all) fault
  refused_here session fault refused = subst (λ (xs : List C). IsRefusedAmong today session (map f xs) fault) (sym is) (inl refused)

  pub large_here : IfSome (f one) (λ bytes. most_script_bytes < length bytes) → IsTooLargeAmong today (map f all)
  large_here large = subst (λ (xs : List C). IsTooLargeAmong today (map f xs)) (sym is) (inl large)

  pub failed_here : (count : C → ℕ) (left : C) (news : List C) → count left ≡ noted (count one) → HasFailedAmong today (map f all) count all (left ∷ news)
  failed_here count left news failed = subst (λ (xs : List C). HasFailedAmong today (map f xs) count xs (left ∷ news)) (sym is) (inl failed)

-- ---- all of them

module _ (today : ℕ) (texts : List (Option (List ℕ))) (old new : List (List Request)) (none : old ≡ []) (read : AreReadOn today texts old new) where
  are_added : new ≡ read.added
  are_added = read.written ∙ ap (λ (l : List (List Request)). l ++ read.added) none

  pub all_read : AreScripts today texts new
  all_read = subst (AreScripts today texts) (sym are_added) read.are_scripts

  pub all_right : AllByRecursion AreRight new
  all_right = subst (AllByRecursion AreRight) (sym are_added) read.are_right

pub all_taken : (texts : List (Option (List ℕ))) (old new : List (Option Imprint)) → old ≡ [] → AreTakenOn texts old new → AreImprints texts new
all_taken texts old new none taken =
    subst (AreImprints texts) (sym (taken.written ∙ ap (λ (l : List (Option Imprint)). l ++ taken.added) none)) taken.are_imprints
