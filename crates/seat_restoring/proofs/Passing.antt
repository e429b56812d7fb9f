-- A file beside a seal of one entry: what is compared of it without the file's bytes.
use Rattle.std.proofs.Common.{◌≡◌, ◌⊎◌, inl, inr, ℕ, Bool, true, false, List, [], Option, Some, None, refl, sym, ap, subst, ◌∙◌, if◌then◌else◌}
use Rattle.std.specs.Prelude.{not, nat_eq, option_map}
use Rattle.airline_base.specs.Bytes.{same_text}
use Rattle.seat_seal.specs.declared.beside.Basis.{Basis}
use Rattle.seat_seal.specs.declared.beside.Beside.{Beside}
use Rattle.seat_seal.specs.declared.comparing.Given.{Given}
use Rattle.seat_seal.specs.declared.comparing.SealFault.{SealFault}
use Rattle.seat_seal.specs.declared.comparing.SealFault.TheVariants as faults
use Rattle.seat_seal.specs.declared.seal.Seal.{Seal}
use Rattle.seat_seal.specs.declared.seal.Sealed.{Sealed as Belonging}
use Rattle.seat_seal.specs.declared.seal.SealEntry.{SealEntry}
use Rattle.seat_seal.specs.declared.seal.SealEntry.TheVariants.{Sealed}
use Rattle.seat_seal.specs.Besides.{entry_among, entry_fault, entry_of, seal_fault, IsDifference, IsFaultBeside, IsFaultFrom, IsFaultOfText}
use Rattle.seat_seal.specs.Comparing.{compared, is_sealed_one, same_date}
use Rattle.seat_seal.specs.Known.{known_in, IsKnown, IsKnownBy, IsKnownByNone, IsKnownFrom}
use Rattle.seat_seal.specs.Rules.{IsSeal}
use Rattle.seat_seal.specs.Text.{seal_text}
use Rattle.seat_seal.proofs.EntryLaws.{one_seal}
use Rattle.seat_desk.specs.declared.fault.DeskFault.{DeskFault}
use Rattle.seat_desk.specs.declared.fault.DeskFault.TheVariants as desk
use Rattle.seat_restoring.specs.Comparing.{Differs, HasOneEntry, IsFaultAhead, IsOneEntry, Passes, refusal}

pub has_one : (beside : Beside) (text : List ℕ) (seal : Seal) → option_map (λ t. t.now) beside.text ≡ Some text → IsSeal seal → text ≡ seal_text seal
    → IsOneEntry seal → HasOneEntry beside
has_one beside text seal there is same one = record { seal = seal; is_seal = is; is_text = there ∙ ap Some same; one = one }

-- ---- the first that differs, by its tests

abbrev first_fault : Bool → Bool → Bool → Bool → Bool → Option SealFault
first_fault a b c d j =
    if not a then Some faults.Set
    else if not b then Some faults.Limits
    else if not c then Some faults.First
    else if not d then Some faults.Days
    else if not j then Some faults.Journal
    else None

by_tests : (e : Belonging) (g : Given) (file : List ℕ)
    → compared e g file ≡ first_fault (same_text e.set g.set) (same_text e.limits g.limits) (same_date e.first g.first) (nat_eq e.days g.days) (is_sealed_one e.journal file)
unfolding compared
by_tests e g file = refl

-- whether the journal's bytes are the sealed ones changes nothing
same_refusal : (e : Belonging) (a b c d i j : Bool) → refusal (Some e) (first_fault a b c d i) ≡ refusal (Some e) (first_fault a b c d j)
same_refusal e false b c d i j = refl
same_refusal e true false c d i j = refl
same_refusal e true true false d i j = refl
same_refusal e true true true false i j = refl
same_refusal e true true true true false false = refl
same_refusal e true true true true false true = refl
same_refusal e true true true true true false = refl
same_refusal e true true true true true true = refl

-- ---- a seal of one entry

one_first : (s : Seal) (o : IsOneEntry s) (file : List ℕ) → entry_of s file ≡ Sealed o.entry
one_first s o file = ap (λ (second : Option SealEntry). entry_among s.first second file) o.none ∙ o.first

one_fault : (s : Seal) (o : IsOneEntry s) (given : Given) (file : List ℕ) → seal_fault s given file ≡ compared o.entry given file
one_fault s o given file = ap (λ (e : SealEntry). entry_fault e given file) (one_first s o file)

module _ (beside : Beside) (basis : Basis) (file : List ℕ) (h : HasOneEntry beside) where
  -- what the seal is compared with, and the fault beside a journal without a byte
  difference : (fault : Option SealFault) → IsFaultBeside beside basis [] fault → IsDifference (seal_text h.seal) basis [] fault
  difference fault is = pick (subst (λ (t : Option (List ℕ)). IsFaultFrom beside.is_wanted t basis [] fault) h.is_text is)
    where
      pick : IsFaultOfText (seal_text h.seal) basis [] fault → IsDifference (seal_text h.seal) basis [] fault
      pick (inl none) = absurd (none.none h.seal h.is_seal refl)
      pick (inr d) = d

  at_once : (fault : Option SealFault) (d : IsDifference (seal_text h.seal) basis [] fault) → fault ≡ compared h.one.entry d.given []
  at_once fault d =
      d.is_first ∙ ap (λ (s : Seal). seal_fault s d.given []) (one_seal d.seal h.seal d.is_seal h.is_seal (sym d.is_text)) ∙ one_fault h.seal h.one d.given []

  with_file : (fault other : Option SealFault) (d : IsDifference (seal_text h.seal) basis [] fault) → other ≡ compared h.one.entry d.given file
      → IsFaultBeside beside basis file other
  with_file fault other d is = subst (λ (t : Option (List ℕ)). IsFaultFrom beside.is_wanted t basis file other) (sym h.is_text) (inr (record {
    seal = h.seal;
    is_seal = h.is_seal;
    is_text = refl;
    given = d.given;
    is_given = d.is_given;
    is_first = is ∙ sym (one_fault h.seal h.one d.given file);
  }))

  known_is : (known : Option Belonging) → IsKnown beside file known → known ≡ Some h.one.entry
  known_is known is = pick (subst (λ (t : Option (List ℕ)). IsKnownFrom t file known) h.is_text is)
    where
      pick : IsKnownByNone (seal_text h.seal) known ⊎ IsKnownBy (seal_text h.seal) file known → known ≡ Some h.one.entry
      pick (inl none) = absurd (none.none h.seal h.is_seal refl)
      pick (inr k) = k.known_is ∙ ap (λ (s : Seal). known_in (entry_of s file)) (one_seal k.seal h.seal k.is_seal h.is_seal (sym k.is_text))
          ∙ ap known_in (one_first h.seal h.one file)

  -- the first fault beside the journal is refused as the one beside a journal without a byte is
  refused_one : (fault : Option SealFault) (known : Option Belonging) (d : IsDifference (seal_text h.seal) basis [] fault) → IsKnown beside file known
      → refusal known (compared h.one.entry d.given file) ≡ refusal known fault
  refused_one fault known d k =
      let e = h.one.entry in
      let here : refusal (Some e) (compared e d.given file) ≡ refusal (Some e) fault =
      ap (refusal (Some e)) (by_tests e d.given file)
      ∙ same_refusal e (same_text e.set d.given.set) (same_text e.limits d.given.limits) (same_date e.first d.given.first) (nat_eq e.days d.given.days) (is_sealed_one e.journal file) (is_sealed_one e.journal [])
      ∙ ap (refusal (Some e)) (sym (at_once fault d ∙ by_tests e d.given [])) in
      subst (λ (x : Option Belonging). refusal x (compared e d.given file) ≡ refusal x fault) (sym (known_is known k)) here

  passes_one : (fault : Option SealFault) (known : Option Belonging) → IsFaultBeside beside basis [] fault → IsKnown beside file known
      → refusal known fault ≡ None → Passes beside basis file
  passes_one fault known is k none =
      let d = difference fault is in
      record {
        first = compared h.one.entry d.given file;
        is_first = with_file fault (compared h.one.entry d.given file) d refl;
        known = known;
        is_known = k;
        none = refused_one fault known d k ∙ none;
      }

  differs_one : (fault : Option SealFault) (known : Option Belonging) (told : SealFault) → IsFaultBeside beside basis [] fault → IsKnown beside file known
      → refusal known fault ≡ Some told → Differs beside basis file (desk.Seal told)
  differs_one fault known told is k refused =
      let d = difference fault is in
      record {
        first = compared h.one.entry d.given file;
        is_first = with_file fault (compared h.one.entry d.given file) d refl;
        known = known;
        is_known = k;
        told = told;
        refused = refused_one fault known d k ∙ refused;
        is = refl;
      }

-- ---- whatever stands there

pub passes_so : (beside : Beside) (basis : Basis) (file : List ℕ) (fault : Option SealFault) (known : Option Belonging)
    → IsFaultAhead beside basis file fault → IsKnown beside file known → refusal known fault ≡ None → Passes beside basis file
passes_so beside basis file fault known (inl is) k none =
    record { first = fault; is_first = is; known = known; is_known = k; none = none }
passes_so beside basis file fault known (inr one) k none = passes_one beside basis file one.0 fault known one.1 k none

pub differs_so : (beside : Beside) (basis : Basis) (file : List ℕ) (fault : Option SealFault) (known : Option Belonging) (told : SealFault)
    → IsFaultAhead beside basis file fault → IsKnown beside file known → refusal known fault ≡ Some told
    → Differs beside basis file (desk.Seal told)
differs_so beside basis file fault known told (inl is) k refused =
    record { first = fault; is_first = is; known = known; is_known = k; told = told; refused = refused; is = refl }
differs_so beside basis file fault known told (inr one) k refused = differs_one beside basis file one.0 fault known told one.1 k refused
