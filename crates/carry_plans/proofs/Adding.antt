-- Journals that are read, one behind the other.
use Rattle.std.proofs.Common.{◌≡◌, ◌≤◌, ◌<◌, ◌⊎◌, inl, inr, ℕ, ◌+◌, List, [], ◌∷◌, ◌++◌, length, map, Option, Some, None, IfSome, option_map, refl, ap, sym, subst, ◌∙◌, append_assoc}
use Rattle.std.proofs.lemmas.List.{append-nil}
use Rattle.seat_seal.specs.Besides.{IsFaultBeside}
use Rattle.seat_seal.specs.Known.{IsKnown}
use Rattle.seat_seal.specs.declared.beside.Basis.{Basis}
use Rattle.seat_seal.specs.declared.beside.Beside.{Beside}
use Rattle.seat_seal.specs.declared.seal.Sealed.{Sealed as Belonging}
use Rattle.seat_desk.specs.AuditDesk.{most_journal_bytes}
use Rattle.seat_desk.specs.Desk.{HasFailed}
use Rattle.seat_desk.specs.Sealing.{IsBesideFault}
use Rattle.seat_desk.specs.declared.fault.DeskFault.{DeskFault}
use Rattle.seat_desk.specs.declared.fault.DeskFault.TheVariants as desk
use Rattle.seat_shards.specs.Taking.{known}
use Rattle.carry_plans.specs.declared.fault.CarryFault.TheVariants as carry
use Rattle.carry_plans.specs.Knowing.{AddedOn, AreAddedOn, AreReadTexts, HasFailedReading, IsAdded, IsKnownText, IsPassed, IsReadingFault, IsUnreadOn, IsUnsealedAlone, KnownEach, RefusesRead, of_input}
use Rattle.carry_plans.specs.declared.join_fault.JoinFault.{JoinFault}
use Rattle.carry_plans.specs.declared.join_fault.JoinFault.TheVariants as joins
use Rattle.carry_plans.specs.declared.journals.KnownTexts.{KnownTexts}

-- ---- a text by itself

alone_by : (basis : Basis) (beside : Beside) (fault : DeskFault) (text : List ℕ) → length text ≤ most_journal_bytes
    → IsBesideFault beside basis text fault → IsUnsealedAlone basis beside fault text
alone_by basis beside (desk.Seal fault) text within wrong = (within, wrong)
alone_by basis beside _ text within wrong = absurd wrong

pub unsealed_alone : (basis : Basis) (beside : Beside) (place : ℕ) (fault : DeskFault) (text : List ℕ) → length text ≤ most_journal_bytes
    → IsBesideFault beside basis text fault → RefusesRead basis beside place (joins.Beside place fault) text
unsealed_alone basis beside place fault text within wrong = (refl, alone_by basis beside fault text within wrong)

pub known_alone : (basis : Basis) (beside : Beside) (known : Belonging) (text : List ℕ) → length text ≤ most_journal_bytes
    → IsFaultBeside beside basis text None → IsKnown beside text (Some known) → IsKnownText basis beside known text
known_alone basis beside known text within agrees is = record { within = within; agrees = agrees; is_known = is }

pub unknown_alone : (basis : Basis) (beside : Beside) (place : ℕ) (text : List ℕ) → length text ≤ most_journal_bytes
    → IsFaultBeside beside basis text None → IsKnown beside text None → RefusesRead basis beside place (joins.Unsealed place) text
unknown_alone basis beside place text within agrees none = (refl, record { within = within; agrees = agrees; is_known = none })

-- ---- what is read of it

-- too large, or not read
abbrev IsOfSize : DeskFault → Type 0
IsOfSize fault = (fault ≡ desk.TooLarge) ⊎ ((fault ≡ desk.Device) ⊎ (fault ≡ desk.Memory))

module _ (place : ℕ) (fault : DeskFault) (f : JoinFault) (is : f ≡ of_input place fault) (kind : IsOfSize fault) where
  pub unread_size : (text : Option (List ℕ)) (basis : Basis) (beside : Beside) (next : ℕ) → place ≡ next
      → (fault ≡ desk.TooLarge → IfSome text (λ xs. most_journal_bytes < length xs)) → IfSome text (RefusesRead basis beside next f)
  unread_size None basis beside next at large = tt
  unread_size (Some text) basis beside next at large = by kind where
    P : JoinFault → Type 0
    P g = RefusesRead basis beside next g text

    by : IsOfSize fault → P f
    by (inl e) = let same : f ≡ joins.Beside place desk.TooLarge = is ∙ ap (of_input place) e in subst P (sym same) (at, large e)
    by (inr (inl e)) = let same : f ≡ joins.Device = is ∙ ap (of_input place) e in subst P (sym same) tt
    by (inr (inr e)) = let same : f ≡ joins.Carry carry.Memory = is ∙ ap (of_input place) e in subst P (sym same) tt

  pub failed_size : {D : Type 0} (failures : D → ℕ) (old new : D) → (fault ≡ desk.Device → HasFailed failures old new)
      → f ≡ joins.Device → HasFailed failures old new
  failed_size failures old new failed device = by kind where
    by : IsOfSize fault → HasFailed failures old new
    by (inl e) = let same : joins.Device ≡ joins.Beside place desk.TooLarge = sym device ∙ (is ∙ ap (of_input place) e) in absurd (cc same)
    by (inr (inl e)) = failed e
    by (inr (inr e)) = let same : joins.Device ≡ joins.Carry carry.Memory = sym device ∙ (is ∙ ap (of_input place) e) in absurd (cc same)

  pub reading_size : IsReadingFault f
  reading_size = by kind where
    by : IsOfSize fault → IsReadingFault f
    by (inl e) = let same : f ≡ joins.Beside place desk.TooLarge = is ∙ ap (of_input place) e in subst IsReadingFault (sym same) tt
    by (inr (inl e)) = let same : f ≡ joins.Device = is ∙ ap (of_input place) e in subst IsReadingFault (sym same) tt
    by (inr (inr e)) = let same : f ≡ joins.Carry carry.Memory = is ∙ ap (of_input place) e in subst IsReadingFault (sym same) refl

-- what holds of the bytes holds of the text
of_text : (text : Option (List ℕ)) (bytes slice : List ℕ) (P : List ℕ → Type 0) → IfSome text (λ xs. bytes ≡ xs) → slice ≡ bytes → P slice
    → IfSome text P
of_text None bytes slice P whole same holds = tt
of_text (Some text) bytes slice P whole same holds = subst P (same ∙ whole) holds

pub unread_text : (text : Option (List ℕ)) (basis : Basis) (beside : Beside) (place next : ℕ) (bytes slice : List ℕ) (f : JoinFault)
    → IfSome text (λ xs. bytes ≡ xs) → slice ≡ bytes → place ≡ next → RefusesRead basis beside place f slice
    → IfSome text (RefusesRead basis beside next f)
unread_text text basis beside place next bytes slice f whole same at wrong =
    of_text text bytes slice (RefusesRead basis beside next f) whole same
    (subst (λ (n : ℕ). RefusesRead basis beside n f slice) at wrong)

pub unread_memory : (text : Option (List ℕ)) (basis : Basis) (beside : Beside) (next : ℕ) (f : JoinFault) → f ≡ joins.Carry carry.Memory
    → IfSome text (RefusesRead basis beside next f)
unread_memory None basis beside next f is = tt
unread_memory (Some text) basis beside next f is = subst (λ (g : JoinFault). RefusesRead basis beside next g text) (sym is) tt

pub reading_memory : (f : JoinFault) → f ≡ joins.Carry carry.Memory → IsReadingFault f
reading_memory f is = subst IsReadingFault (sym is) refl

pub added_text : (text : Option (List ℕ)) (basis : Basis) (beside : Beside) (bytes slice : List ℕ) (known : Belonging) (old new : KnownTexts)
    → IfSome text (λ xs. bytes ≡ xs) → slice ≡ bytes → IsKnownText basis beside known slice → new.texts ≡ old.texts ++ bytes ∷ []
    → new.knowns ≡ old.knowns ++ known ∷ [] → IfSome text (IsAdded basis beside old new)
added_text None basis beside bytes slice known old new whole same is texts knowns = tt
added_text (Some text) basis beside bytes slice known old new whole same is texts knowns = record {
  known = known;
  is_known = subst (IsKnownText basis beside known) (same ∙ whole) is;
  texts_are = texts ∙ ap (λ (l : List ℕ). old.texts ++ l ∷ []) whole;
  knowns_are = knowns;
}

-- ---- the steps of the recursion

pub added_none : (basis : Basis) (besides : List Beside) (read : KnownTexts) → AreAddedOn basis besides [] read read
added_none basis besides read = record { each = refl }

passed : (text : Option (List ℕ)) (basis : Basis) (beside : Beside) (old new : KnownTexts) → IfSome text (IsAdded basis beside old new)
    → IfSome text (IsPassed basis beside)
passed None basis beside old new one = tt
passed (Some text) basis beside old new one = record { known = one.known; is_known = one.is_known }

module _ {D : Type 0} (remaining : D → Option (List ℕ)) (basis : Basis) (all : List D) (first : D) (rest : List D) (besides : List Beside)
    (beside : Beside) (others : List Beside) (is : all ≡ first ∷ rest) (are : besides ≡ beside ∷ others) where
  pub added_more : (old mid new : KnownTexts) → IfSome (remaining first) (IsAdded basis beside old mid)
      → AreAddedOn basis others (map remaining rest) mid new → AreAddedOn basis besides (map remaining all) old new
  added_more old mid new one more =
      subst (λ (l : List D). AreAddedOn basis besides (map remaining l) old new) (sym is)
      (subst (λ (l : List Beside). AreAddedOn basis l (map remaining (first ∷ rest)) old new) (sym are)
      (record { each = (mid, one, more.each) }))

  unread_by : (before : ℕ) (f : JoinFault) → IsUnreadOn basis (beside ∷ others) (map remaining (first ∷ rest)) before f
      → IsUnreadOn basis besides (map remaining all) before f
  unread_by before f wrong =
      subst (λ (l : List D). IsUnreadOn basis besides (map remaining l) before f) (sym is)
      (subst (λ (l : List Beside). IsUnreadOn basis l (map remaining (first ∷ rest)) before f) (sym are) wrong)

  pub unread_here : (before : ℕ) (f : JoinFault) → IfSome (remaining first) (RefusesRead basis beside (before + 1) f)
      → IsUnreadOn basis besides (map remaining all) before f
  unread_here before f wrong = unread_by before f (record { first = inl wrong })

  pub unread_later : (before place : ℕ) (f : JoinFault) (old mid : KnownTexts) → IfSome (remaining first) (IsAdded basis beside old mid)
      → place ≡ before + 1 → IsUnreadOn basis others (map remaining rest) place f → IsUnreadOn basis besides (map remaining all) before f
  unread_later before place f old mid one next wrong =
      let more : IsUnreadOn basis others (map remaining rest) (before + 1) f = subst (λ (n : ℕ). IsUnreadOn basis others (map remaining rest) n f) next wrong in
      unread_by before f (record { first = inr (passed (remaining first) basis beside old mid one, more.first) })

  failed_by : (failures : D → ℕ) (news : List D) → HasFailedReading basis (beside ∷ others) (map remaining (first ∷ rest)) failures (first ∷ rest) news
      → HasFailedReading basis besides (map remaining all) failures all news
  failed_by failures news failed =
      subst (λ (l : List D). HasFailedReading basis besides (map remaining l) failures l news) (sym is)
      (subst (λ (l : List Beside). HasFailedReading basis l (map remaining (first ∷ rest)) failures (first ∷ rest) news) (sym are) failed)

  pub failed_here : (failures : D → ℕ) (new : D) (news : List D) → HasFailed failures first new
      → HasFailedReading basis besides (map remaining all) failures all (new ∷ news)
  failed_here failures new news failed = failed_by failures (new ∷ news) (record { first = inl failed })

  pub failed_later : (failures : D → ℕ) (new : D) (news : List D) (old mid : KnownTexts) → IfSome (remaining first) (IsAdded basis beside old mid)
      → HasFailedReading basis others (map remaining rest) failures rest news → HasFailedReading basis besides (map remaining all) failures all (new ∷ news)
  failed_later failures new news old mid one failed =
      failed_by failures (new ∷ news) (record { first = inr (passed (remaining first) basis beside old mid one, failed.first) })

-- ---- all

-- these texts, and what is known of each, are added
record AddsAll (basis : Basis) (besides : List Beside) (old new : KnownTexts) (texts : List (List ℕ)) : Type 0 where
  knowns : List Belonging
  each : KnownEach basis besides texts knowns
  texts_are : new.texts ≡ old.texts ++ texts
  knowns_are : new.knowns ≡ old.knowns ++ knowns

adds_more : (basis : Basis) (beside : Beside) (besides : List Beside) (old mid new : KnownTexts) (text : List ℕ) (o : Option (List (List ℕ)))
    → IsAdded basis beside old mid text → IfSome o (AddsAll basis besides mid new)
    → IfSome (option_map (λ (known : List (List ℕ)). text ∷ known) o) (AddsAll basis (beside ∷ besides) old new)
adds_more basis beside besides old mid new text None one more = tt
adds_more basis beside besides old mid new text (Some texts) one more = record {
  knowns = one.known ∷ more.knowns;
  each = (one.is_known, more.each);
  texts_are = more.texts_are ∙ (ap (λ (l : List (List ℕ)). l ++ texts) one.texts_are ∙ append_assoc old.texts (text ∷ []) texts);
  knowns_are = more.knowns_are ∙ (ap (λ (l : List Belonging). l ++ more.knowns) one.knowns_are ∙ append_assoc old.knowns (one.known ∷ []) more.knowns);
}

adds_among : (basis : Basis) (besides : List Beside) (readers : List (Option (List ℕ))) (old new : KnownTexts)
    → AddedOn basis besides readers old new → IfSome (known readers) (AddsAll basis besides old new)
adds_among basis besides [] old new is = record {
  knowns = [];
  each = tt;
  texts_are = ap (λ (r : KnownTexts). r.texts) is ∙ sym (append-nil old.texts);
  knowns_are = ap (λ (r : KnownTexts). r.knowns) is ∙ sym (append-nil old.knowns);
}
adds_among basis [] (text ∷ readers) old new is = absurd is
adds_among basis (beside ∷ besides) (None ∷ readers) old new is = tt
adds_among basis (beside ∷ besides) (Some text ∷ readers) old new is =
    adds_more basis beside besides old is.0 new text (known readers) is.1 (adds_among basis besides readers is.0 new is.2)

read_from : (basis : Basis) (besides : List Beside) (old new : KnownTexts) (o : Option (List (List ℕ))) → old.texts ≡ [] → old.knowns ≡ []
    → IfSome o (AddsAll basis besides old new) → IfSome o (AreReadTexts basis besides new)
read_from basis besides old new None no_texts none all = tt
read_from basis besides old new (Some texts) no_texts none all =
    let are : new.knowns ≡ all.knowns = all.knowns_are ∙ ap (λ (l : List Belonging). l ++ all.knowns) none in
    record {
      texts_are = all.texts_are ∙ ap (λ (l : List (List ℕ)). l ++ texts) no_texts;
      are_known = record { each = subst (KnownEach basis besides texts) (sym are) all.each };
    }

pub all_added : (basis : Basis) (besides : List Beside) (readers : List (Option (List ℕ))) (old new : KnownTexts) → old.texts ≡ []
    → old.knowns ≡ [] → AreAddedOn basis besides readers old new → IfSome (known readers) (AreReadTexts basis besides new)
all_added basis besides readers old new no_texts none are =
    read_from basis besides old new (known readers) no_texts none (adds_among basis besides readers old new are.each)
