-- The first line of a message.
use Rattle.std.proofs.Common.{◌≡◌, ℕ, true, cond, eqb, List, ◌∷◌, ◌++◌, length, take, drop, Some, None, refl, sym, ap, subst, ◌∙◌}
use Rattle.std.specs.List.{list_all}
use Rattle.std.proofs.lemmas.Bool.{eqb-true}
use Rattle.std.proofs.lemmas.List.{take_at, drop_at, take-append-drop}
use Rattle.airline_base.specs.Names.{is_locator, is_name_byte}
use Rattle.airline_base.proofs.Tests.{passed, both_true}
use Rattle.airline_base.specs.Fields.{fixed_at, byte_at}
use Rattle.airline_base.proofs.LeadingFields.{with_some, fixed_takes, fixed_again, byte_takes, length_locator}
use Rattle.airimp_lines.specs.Messages.{is_address, address_at, is_remark, heading_at}
use Rattle.airimp_lines.specs.Script.{IsHeading}

length_address : (text : List ℕ) → is_address text ≡ true → length text ≡ 5
length_address text h = eqb-true (length text) 5 (both_true (eqb (length text) 5) (list_all is_name_byte text) h).0

heading_of : (text address locator : List ℕ) (blank : List ℕ) (named : List ℕ × List ℕ) → address_at text ≡ Some address
    → byte_at 32 address ≡ Some blank → fixed_at 6 is_locator blank ≡ Some named
    → cond (is_remark named.1) (Some named.0) None ≡ Some locator → IsHeading text locator
heading_of text address locator blank named e0 e1 e2 e3 =
    let p = passed (is_address (take 5 text)) (drop 5 text) address e0 in
    let b = byte_takes 32 address blank e1 in
    let l = fixed_takes 6 is_locator blank named.0 named.1 e2 in
    let r = passed (is_remark named.1) named.0 locator e3 in
    let front : text ≡ take 5 text ++ address = sym (take-append-drop 5 text) ∙ ap (λ (x : List ℕ). take 5 text ++ x) p.1 in
    let back : address ≡ 32 ∷ (locator ++ named.1) = b ∙ ap (λ (x : List ℕ). 32 ∷ x) l.0 ∙ ap (λ (x : List ℕ). 32 ∷ (x ++ named.1)) r.1 in
    record {
      address = take 5 text;
      remark = named.1;
      written = front ∙ ap (λ (x : List ℕ). take 5 text ++ x) back;
      is_address = p.0;
      is_locator = subst (λ (x : List ℕ). is_locator x ≡ true) r.1 l.1;
      is_remark = r.0;
    }

pub heading_takes : (text locator : List ℕ) → heading_at text ≡ Some locator → IsHeading text locator
unfolding heading_at
heading_takes text locator e =
    with_some (address_at text) _ locator e (λ address e0 k0.
    with_some (byte_at 32 address) _ locator k0 (λ blank e1 k1.
    with_some (fixed_at 6 is_locator blank) _ locator k1 (λ named e2 k2.
    heading_of text address locator blank named e0 e1 e2 k2)))

pub heading_again : (text locator : List ℕ) → IsHeading text locator → heading_at text ≡ Some locator
unfolding heading_at
heading_again text locator h =
    let after = 32 ∷ (locator ++ h.remark) in
    let five = length_address h.address h.is_address in
    let front : address_at (h.address ++ after) ≡ Some after = rw (take_at h.address after 5 five, drop_at h.address after 5 five, h.is_address) refl in
    let named : fixed_at 6 is_locator (locator ++ h.remark) ≡ Some (locator, h.remark) = fixed_again 6 is_locator locator h.remark (length_locator locator h.is_locator) h.is_locator in
    rw (h.written, front, named, h.is_remark) refl
