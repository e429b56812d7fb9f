-- Desks to which nobody has said hello.
use Rattle.std.proofs.Common.{◌≡◌, ◌∙◌, ℕ, List, sym, subst}
use Rattle.std.specs.Prelude.{All, false, replicate}
use Rattle.std.proofs.lemmas.List.Elements.{All-replicate}
use Rattle.desk_lines.specs.declared.desk.Desk.{Desk}
use Rattle.desk_lines.specs.declared.desk.Standing.TheVariants.{Silent}
use Rattle.desk_serving.specs.Silence.{IsSilentAt}

pub silent : (epoch : ℕ) (desk : Desk) → desk.standing ≡ Silent → desk.lines ≡ 0 → desk.epoch ≡ epoch → desk.is_stranger ≡ false
    → IsSilentAt epoch desk
silent epoch desk stands none is own = record { standing_is = stands; lines_are = none; epoch_is = is; client_is = own }

-- each of so many
pub all_silent : (epoch count : ℕ) (desk : Desk) (desks : List Desk) → IsSilentAt epoch desk → desks ≡ replicate count desk
    → All (IsSilentAt epoch) desks
all_silent epoch count desk desks is same = subst (All (IsSilentAt epoch)) (sym same) (All-replicate (IsSilentAt epoch) count desk is)

-- ---- of a host at a journal of its epoch

pub silent_manager : (epoch own : ℕ) (manager desk : Desk) → manager ≡ desk → own ≡ epoch → desk.standing ≡ Silent → desk.lines ≡ 0
    → desk.epoch ≡ own → desk.is_stranger ≡ false → IsSilentAt epoch manager
silent_manager epoch own manager desk same of stands none is client =
    subst (IsSilentAt epoch) (sym same) (silent epoch desk stands none (is ∙ of) client)

pub silent_hall : (epoch own : ℕ) (hall desks : List Desk) → hall ≡ desks → own ≡ epoch → All (IsSilentAt own) desks
    → All (IsSilentAt epoch) hall
silent_hall epoch own hall desks same of each =
    subst (All (IsSilentAt epoch)) (sym same) (subst (λ (n : ℕ). All (IsSilentAt n) desks) of each)
