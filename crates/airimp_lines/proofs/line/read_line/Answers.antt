use Rattle.std.proofs.Common.{◌≡◌, ◌∙◌, false, ◌==◌, length, Some, None, sym, refl}
use Rattle.airimp_lines.specs.Messages.{is_passed_over}
use Rattle.airimp_lines.proofs.Passing.{asked_step, asked_one, fault_step, headed_step, passed_none, passed_step}
use Rattle.airimp_lines.proofs.Segments.{is_read}
use Rattle.airimp_lines.proofs.line.read_line.Goals as goal

pub returns-in-Ok-clause-message : goal.returns-in-Ok-clause-message
returns-in-Ok-clause-message c =
    let some : (length c.args.text.now == 0) ≡ false = sym c.is_empty.ensures ∙ c.if-is_empty.false in
    let asks : is_passed_over c.args.text.now ≡ false = sym c.is_passed_over.ensures ∙ c.if-is_passed_over.false in
    rw c.in-Some.is (asked_step c.in-Some.locator c.args.text.now _ some asks (is_read c.args.today c.args.text.now c.in-Ok.segment c.in-Ok.ensures.found))

pub returns-in-Ok-clause-asked : goal.returns-in-Ok-clause-asked
returns-in-Ok-clause-asked c =
    let some : (length c.args.text.now == 0) ≡ false = sym c.is_empty.ensures ∙ c.if-is_empty.false in
    let asks : is_passed_over c.args.text.now ≡ false = sym c.is_passed_over.ensures ∙ c.if-is_passed_over.false in
    rw c.in-Some.is (asked_one c.args.today c.in-Some.locator c.args.line c.args.text.now (record { locator = c.in-Some.locator; segment = c.in-Ok.segment; line = c.args.line }) some asks (record { spelled = c.in-Ok.ensures.found; own_locator = refl; own_line = refl }))

pub returns-in-Err-clause-fault : goal.returns-in-Err-clause-fault
returns-in-Err-clause-fault c =
    let some : (length c.args.text.now == 0) ≡ false = sym c.is_empty.ensures ∙ c.if-is_empty.false in
    rw c.in-Some.is (fault_step c.in-Some.locator c.args.text.now c.in-Err.fault some (sym c.is_passed_over.ensures ∙ c.if-is_passed_over.false) c.in-Err.ensures.fault)

pub returns-then-is_passed_over-clause-message : goal.returns-then-is_passed_over-clause-message
returns-then-is_passed_over-clause-message c =
    let some : (length c.args.text.now == 0) ≡ false = sym c.is_empty.ensures ∙ c.if-is_empty.false in
    rw (c.passed-then-is_passed_over.ensures.0, c.in-Some.is) (passed_step c.in-Some.locator c.args.text.now some (sym c.is_passed_over.ensures ∙ c.if-is_passed_over.true))

pub returns-then-is_passed_over-clause-asked : goal.returns-then-is_passed_over-clause-asked
returns-then-is_passed_over-clause-asked c =
    let some : (length c.args.text.now == 0) ≡ false = sym c.is_empty.ensures ∙ c.if-is_empty.false in
    rw (c.passed-then-is_passed_over.ensures.1, c.in-Some.is) (passed_none c.args.today c.in-Some.locator c.args.line c.args.text.now some (sym c.is_passed_over.ensures ∙ c.if-is_passed_over.true))

pub returns-in_default-heading_of-clause-fault : goal.returns-in_default-heading_of-clause-fault
returns-in_default-heading_of-clause-fault c =
    let some : (length c.args.text.now == 0) ≡ false = sym c.is_empty.ensures ∙ c.if-is_empty.false in
    rw c.in_default.is (headed_step c.args.text.now None some (sym c.heading_of.ensures ∙ c.in_default-heading_of.is))

pub returns-in_default-clause-message : goal.returns-in_default-clause-message
returns-in_default-clause-message c =
    let some : (length c.args.text.now == 0) ≡ false = sym c.is_empty.ensures ∙ c.if-is_empty.false in
    rw (c.passed-in_default.ensures.0, c.in_default.is) (headed_step c.args.text.now (Some c.in-Some-heading_of.locator) some (sym c.heading_of.ensures ∙ c.in-Some-heading_of.is))
