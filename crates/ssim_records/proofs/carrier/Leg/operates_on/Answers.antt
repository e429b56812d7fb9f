use Rattle.std.proofs.Common.{◌≡◌, ◌-◌, ◌/◌, ◌%◌, ◌==◌, ◌&&◌, ◌||◌, ℕ, Bool, true, false, not, slice_index_or, refl, sym, ap, ◌∙◌}
use Rattle.ssim_records.specs.Operating.{is_listed}
use Rattle.ssim_records.proofs.carrier.Leg.operates_on.Goals as goal

by_week : (listed second_week even : Bool) → listed ≡ true → second_week ≡ true
    → even ≡ (listed && (not second_week || even))
by_week listed second_week even l s = rw (l, s) refl

pub returns-else-not-self : goal.returns-else-not-self
returns-else-not-self c =
    let leg = c.args.self.now in
    let d = c.args.number in
    let listed : is_listed leg d ≡ true = ap (λ (k : ℕ). slice_index_or leg.days k false) (sym c.weekday.ensures.value) ∙ c.if-self-weekday.true in
    ap (λ (k : ℕ). ((d - k) / 7) % 2 == 0) c.number.ensures.value ∙ by_week (is_listed leg d) leg.second_week (((d - leg.from) / 7) % 2 == 0) listed c.if-not-self.false
