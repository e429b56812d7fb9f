-- What is said of an input whose bytes were all read, what is no fault of an input, and commands one by one.
use Rattle.std.proofs.Common.{◌≡◌, ◌≢◌, ◌≤◌, ◌<◌, ◌+◌, ◌⊎◌, inl, inr, ℕ, List, [], ◌∷◌, ◌++◌, length, map, take, get_or, Option, Some, None, IfSome, subst, sym, ap, ◌∙◌}
use Rattle.std.proofs.lemmas.List.{map-append, take_all, take_more}
use Rattle.ssim_flights.specs.declared.flight.Flight.{Flight as Flown}
use Rattle.seat_desk.specs.Desk.{IsOfInput}
use Rattle.seat_desk.specs.declared.fault.DeskFault.TheVariants.{Device, TooLarge}
use Rattle.seat_replies.specs.Changes.{IsUnchanged}
use Rattle.seat_replies.specs.Requests.{command_of}
use Rattle.seat_scripts.proofs.Common.{Command, DeskFault, Memory, Request}

pub whole_text : (P : List ℕ → Type 0) (text : Option (List ℕ)) (bytes view : List ℕ) → IfSome text (λ xs. bytes ≡ xs)
    → view ≡ bytes → P view → IfSome text P
whole_text P (Some xs) bytes view whole viewed is = subst P whole (subst P viewed is)
whole_text P None bytes view whole viewed is = tt

pub unchanged_text : (flights : List Flown) (text : Option (List ℕ)) (bytes view : List ℕ) (fault : DeskFault)
    → IfSome text (λ xs. bytes ≡ xs) → view ≡ bytes → (fault ≢ Memory → IsUnchanged flights fault view) → IsOfInput fault
    → IfSome text (IsUnchanged flights fault)
unchanged_text flights text bytes view fault whole viewed refused input =
    whole_text (IsUnchanged flights fault) text bytes view whole viewed (refused (λ (is : fault ≡ Memory). subst IsOfInput is input))

pub refused_text : (P : DeskFault → List ℕ → Type 0) (text : Option (List ℕ)) (bytes view : List ℕ) (fault : DeskFault)
    → IfSome text (λ xs. bytes ≡ xs) → view ≡ bytes → (fault ≢ Memory → P fault view) → IsOfInput fault → IfSome text (P fault)
refused_text P text bytes view fault whole viewed refused input =
    whole_text (P fault) text bytes view whole viewed (refused (λ (is : fault ≡ Memory). subst IsOfInput is input))

pub memory_no_input : (fault : DeskFault) → fault ≡ Memory → IsOfInput fault → ⊥
memory_no_input fault is input = subst IsOfInput is input

pub memory_not_large : (fault : DeskFault) → fault ≡ Memory → fault ≡ TooLarge → ⊥
memory_not_large fault is large = no (sym is ∙ large) where
  no : Memory ≡ TooLarge → ⊥
  no h = cc h

pub memory_no_device : (fault : DeskFault) → fault ≡ Memory → fault ≡ Device → ⊥
memory_no_device fault is device = no (sym is ∙ device) where
  no : Memory ≡ Device → ⊥
  no h = cc h

-- what reading an input refuses is none of its faults
pub unread_no_input : (fault : DeskFault) → (fault ≡ TooLarge) ⊎ ((fault ≡ Device) ⊎ (fault ≡ Memory)) → IsOfInput fault → ⊥
unread_no_input fault (inl is) input = subst IsOfInput is input
unread_no_input fault (inr (inl is)) input = subst IsOfInput is input
unread_no_input fault (inr (inr is)) input = subst IsOfInput is input

-- ---- a command for each request

pub command_more : (flights : List Flown) (requests : List Request) (i : ℕ) (request : Request) (command : Command)
    (old new : List Command) → old ≡ map (command_of flights) (take i requests) → i < length requests
    → request ≡ get_or requests i request → command ≡ command_of flights request → new ≡ old ++ command ∷ []
    → new ≡ map (command_of flights) (take (i + 1) requests)
command_more flights requests i request command old new so_far lt at is pushed =
    let longer : take (i + 1) requests ≡ take i requests ++ request ∷ [] =
    take_more requests i request lt ∙ ap (λ (r : Request). take i requests ++ r ∷ []) (sym at) in
    pushed ∙ ap (λ (l : List Command). l ++ command ∷ []) so_far
    ∙ ap (λ (c : Command). map (command_of flights) (take i requests) ++ c ∷ []) is
    ∙ sym (map-append (command_of flights) (take i requests) (request ∷ []))
    ∙ ap (map (command_of flights)) (sym longer)

pub commands_whole : (flights : List Flown) (requests : List Request) (i : ℕ) (commands all : List Command)
    → commands ≡ map (command_of flights) (take i requests) → length requests ≤ i → all ≡ commands
    → all ≡ map (command_of flights) requests
commands_whole flights requests i commands all so_far over is =
    is ∙ so_far ∙ ap (map (command_of flights)) (take_all i requests over)
