-- A record of 200 printable bytes at the front, its end, and the bytes after it.
use Rattle.std.specs.Prelude.{ℕ, ◌==◌, nat_lt, if◌then◌else◌, List, [], ◌∷◌, length, take, drop, Option, Some, None, Result, Ok, Err}
use Rattle.std.specs.List.{list_all}
use Rattle.airline_base.specs.Bytes.{is_printable}
use Rattle.ssim_records.specs.declared.set_fault.SetKind.{SetKind}
use Rattle.ssim_records.specs.declared.set_fault.SetKind.TheVariants as kinds

-- LF (10)
abbrev pub newline_at : List ℕ → Option (List ℕ)
newline_at [] = None
newline_at (c ∷ rest) = if c == 10 then Some rest else None

-- LF, CR LF (13, 10) or nothing
abbrev pub end_at : List ℕ → Option (List ℕ)
end_at [] = Some []
end_at (c ∷ rest) = if c == 10 then Some rest else if c == 13 then newline_at rest else Some (c ∷ rest)

-- a record whose end stands at the front of what follows
abbrev pub ended : List ℕ → Option (List ℕ) → Result (List ℕ × List ℕ) SetKind
ended text None = Err kinds.BadEnd
ended text (Some rest) = Ok (text, rest)

-- its faults are, in this order, too few bytes, a byte that is not printable, and CR without LF
unfoldable pub cut_at : List ℕ → Result (List ℕ × List ℕ) SetKind
cut_at bytes =
    if nat_lt (length bytes) 200 then Err kinds.Short
    else if list_all is_printable (take 200 bytes) then ended (take 200 bytes) (end_at (drop 200 bytes))
    else Err kinds.BadByte
