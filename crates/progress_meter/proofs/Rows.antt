-- Worked rows of the line of a meter.
use Rattle.std.proofs.Common.{◌≡◌, refl}
use Rattle.std.specs.Fmt.{digits}
use Rattle.progress_meter.specs.Lines.{behind_text, booking_text, grouped, megabytes, meter_text, reading_text, replaying_text, size_text, stage_text, thousands, three_digits}
use Rattle.progress_meter.specs.Rows.{Begun, Booked, Lineless, Millions, Replayed, Sized, Unmeasured}

pub sized : Sized
unfolding meter_text stage_text reading_text megabytes size_text digits
sized = refl

pub unmeasured : Unmeasured
unfolding meter_text stage_text reading_text megabytes size_text digits
unmeasured = refl

pub replayed : Replayed
unfolding meter_text stage_text replaying_text grouped thousands three_digits digits
replayed = refl

pub millions : Millions
unfolding meter_text stage_text replaying_text grouped thousands three_digits digits
millions = refl

pub lineless : Lineless
unfolding meter_text stage_text replaying_text megabytes digits
lineless = refl

pub booked : Booked
unfolding meter_text stage_text booking_text behind_text grouped thousands three_digits digits
booked = refl

pub begun : Begun
unfolding meter_text stage_text booking_text digits
begun = refl
