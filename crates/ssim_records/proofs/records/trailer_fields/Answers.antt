use Rattle.std.proofs.Common.{◌≡◌, ◌==◌, ℕ, Bool, true, false, List, Some, Ok, Err, refl, sym, ◌∙◌}
use Rattle.std.proofs.lemmas.Bool.{eq-eqb}
use Rattle.airline_base.specs.Bytes.{field, same_text}
use Rattle.ssim_records.specs.RecordFields.{continued_in, designator_in, six_in}
use Rattle.ssim_records.specs.SetSteps.{trailer_at}
use Rattle.ssim_records.specs.declared.set_fault.SetKind.TheVariants as kinds
use Rattle.ssim_records.proofs.records.trailer_fields.Goals as goal

record AreRead (airline : List ℕ) (before : ℕ) (text own : List ℕ) (reference : ℕ) (more : Bool) : Type 0 where
  own_is : designator_in (field 3 5 text) ≡ Some own
  reference_is : six_in (field 188 193 text) ≡ Some reference
  more_is : continued_in (field 194 194 text) ≡ Some more
  same : same_text own airline ≡ true
  checks : (reference == before) ≡ true

ends : (airline : List ℕ) (before : ℕ) (text own : List ℕ) (reference : ℕ) (more : Bool)
    → AreRead airline before text own reference more → more ≡ false → trailer_at airline before text ≡ Ok tt
unfolding trailer_at
ends airline before text own reference more r e = rw (r.own_is, r.reference_is, r.more_is, r.same, r.checks, e) refl

goes_on : (airline : List ℕ) (before : ℕ) (text own : List ℕ) (reference : ℕ) (more : Bool)
    → AreRead airline before text own reference more → more ≡ true
    → trailer_at airline before text ≡ Err kinds.Continued
unfolding trailer_at
goes_on airline before text own reference more r e = rw (r.own_is, r.reference_is, r.more_is, r.same, r.checks, e) refl

pub returns : goal.returns
returns c =
    sym (ends c.args.airline c.args.before c.args.text.now c.in-Some.own c.in-Some-six_of.reference c.in-Some-continued_of.more (record {
      own_is = sym c.designator_of.ensures ∙ c.in-Some.is;
      reference_is = sym c.six_of.ensures ∙ c.in-Some-six_of.is;
      more_is = sym c.continued_of.ensures ∙ c.in-Some-continued_of.is;
      same = sym c.is_same.ensures ∙ c.if-not-is_same.false;
      checks = eq-eqb c.in-Some-six_of.reference c.args.before c.if-reference-before.false;
    }) c.if-more.false)

pub returns-then-more : goal.returns-then-more
returns-then-more c =
    sym (goes_on c.args.airline c.args.before c.args.text.now c.in-Some.own c.in-Some-six_of.reference c.in-Some-continued_of.more (record {
      own_is = sym c.designator_of.ensures ∙ c.in-Some.is;
      reference_is = sym c.six_of.ensures ∙ c.in-Some-six_of.is;
      more_is = sym c.continued_of.ensures ∙ c.in-Some-continued_of.is;
      same = sym c.is_same.ensures ∙ c.if-not-is_same.false;
      checks = eq-eqb c.in-Some-six_of.reference c.args.before c.if-reference-before.false;
    }) c.if-more.true)
