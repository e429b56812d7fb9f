-- What is said of a line, by what it means.
use Rattle.std.proofs.Common.{◌≡◌, ℕ, Bool, List, refl}
use Rattle.airimp_lines.specs.declared.requests.Request.{Request as Wish}
use Rattle.desk_lines.specs.declared.desk.Meaning.{Meaning}
use Rattle.desk_lines.specs.declared.desk.Meaning.TheVariants.{Again, Call, Hello, Leave, Look, Nothing, Request, Wrong, WrongCall}
use Rattle.ssim_flights.specs.declared.flight.Flight.{Flight as Flown}
use Rattle.seat_journal.specs.declared.entry.Entry.{Entry}
use Rattle.seat_nesting.specs.Nesting.{Ladders}
use Rattle.desk_answers.specs.Saying.{Says, SaysQuiet, stays_behind}

-- of one that asks for no seats
pub says_quiet : (flights : List Flown) (grid : Ladders) (cap session today epoch number : ℕ) (past : List Entry) (meaning : Meaning) (stays : Bool)
    (text : List ℕ) → ((wish : Wish) → meaning ≡ Request wish → ⊥) → ((call : ℕ) (wish : Wish) → meaning ≡ Call call wish → ⊥)
    → stays ≡ stays_behind meaning → SaysQuiet flights grid session today epoch number past meaning text
    → Says flights grid cap session today epoch number past past meaning stays text
says_quiet flights grid cap session today epoch number past (Request wish) stays text unasked uncalled is quiet = absurd (unasked wish refl)
says_quiet flights grid cap session today epoch number past (Call call wish) stays text unasked uncalled is quiet = absurd (uncalled call wish refl)
says_quiet flights grid cap session today epoch number past (Look look) stays text unasked uncalled is quiet = (is, refl, quiet)
says_quiet flights grid cap session today epoch number past (Again behind) stays text unasked uncalled is quiet = (is, refl, quiet)
says_quiet flights grid cap session today epoch number past (Hello name named) stays text unasked uncalled is quiet = (is, refl, quiet)
says_quiet flights grid cap session today epoch number past (Wrong wrong) stays text unasked uncalled is quiet = (is, refl, quiet)
says_quiet flights grid cap session today epoch number past (WrongCall call wrong) stays text unasked uncalled is quiet = (is, refl, quiet)
says_quiet flights grid cap session today epoch number past Nothing stays text unasked uncalled is quiet = (is, refl, quiet)
says_quiet flights grid cap session today epoch number past Leave stays text unasked uncalled is quiet = (is, refl, quiet)
