-- The desks of a host to which nobody has said hello.
use Rattle.std.specs.Prelude.{◌≡◌, ℕ, false}
use Rattle.desk_lines.specs.declared.desk.Desk.{Desk}
use Rattle.desk_lines.specs.declared.desk.Standing.TheVariants.{Silent}

-- it has heard no line, and hears none ahead of a hello, at a journal of this epoch
pub record IsSilentAt (epoch : ℕ) (desk : Desk) : Type 0 where
  pub standing_is : desk.standing ≡ Silent
  pub lines_are : desk.lines ≡ 0
  pub epoch_is : desk.epoch ≡ epoch
  pub client_is : desk.is_stranger ≡ false
