-- The lines, part by part.
use Rattle.std.proofs.Common.{◌≡◌, ℕ, List, [], ◌∷◌, ◌++◌, Some, None, refl, sym, ap, subst, ◌∙◌, append_assoc, decimal, codes}
use Rattle.airline_base.specs.Days.{IsDateText}
use Rattle.airline_base.specs.Fields.{suffix_text}
use Rattle.ssim_flights.specs.declared.flight.DatedLeg.{DatedLeg}
use Rattle.ssim_flights.specs.declared.flight.Flight.{Flight as Flown}
use Rattle.seat_journal.specs.declared.entry.Change.{Change}
use Rattle.seat_journal.specs.declared.entry.Command.{Command}
use Rattle.seat_journal.specs.declared.entry.Entry.{Entry}
use Rattle.seat_journal.specs.declared.entry.SaleChange.{SaleChange}
use Rattle.desk_telling.specs.Segments.{segment_of}
use Rattle.desk_telling.specs.Telling.{IsBehind, IsLegName, IsLegOn, IsLimitLine, IsSaleLine, IsSeatsLine, IsSegmentText, limit_text, sale_text, told_head}
use Rattle.std.specs.Prelude.{slice_get}

pub seats_line : (flights : List Flown) (desk : ℕ) (e : Entry) (c : Command) (code : List ℕ) (seats : ℕ)
    (none head located spaced text named line : List ℕ) → none ≡ [] → head ≡ none ++ told_head desk e
    → located ≡ head ++ c.locator → spaced ≡ located ++ 32 ∷ []
    → IsSegmentText (segment_of flights c) code seats text → named ≡ spaced ++ text → line ≡ named ++ 10 ∷ []
    → IsSeatsLine flights desk e c code seats line
seats_line flights desk e c code seats none head located spaced text named line e0 e1 e2 e3 is e4 e5 =
    let begun : head ≡ told_head desk e = e1 ∙ ap (λ (l : List ℕ). l ++ told_head desk e) e0 in
    record { text = text; is_text = is; written = rw (e5, e4, e3, e2, begun) refl }

pub limit_line : (flights : List Flown) (desk : ℕ) (e : Entry) (c : Change) (none head named spaced limited line : List ℕ)
    → none ≡ [] → head ≡ none ++ told_head desk e → IsBehind (IsLegOn (slice_get flights c.flight) c.leg) head named
    → spaced ≡ named ++ 32 ∷ [] → limited ≡ spaced ++ limit_text e c → line ≡ limited ++ 10 ∷ []
    → IsLimitLine flights desk e c line
limit_line flights desk e c none head named spaced limited line e0 e1 put e3 e4 e5 =
    let begun : head ≡ told_head desk e = e1 ∙ ap (λ (l : List ℕ). l ++ told_head desk e) e0 in
    record {
      leg = put.part;
      is_leg = put.is_part;
      written = rw (e5, e4, e3, put.written, begun) refl;
    }

pub sale_line : (flights : List Flown) (desk : ℕ) (e : Entry) (c : SaleChange) (none head named spaced said line : List ℕ)
    → none ≡ [] → head ≡ none ++ told_head desk e → IsBehind (IsLegOn (slice_get flights c.flight) c.leg) head named
    → spaced ≡ named ++ 32 ∷ [] → said ≡ spaced ++ sale_text e c → line ≡ said ++ 10 ∷ []
    → IsSaleLine flights desk e c line
sale_line flights desk e c none head named spaced said line e0 e1 put e3 e4 e5 =
    let begun : head ≡ told_head desk e = e1 ∙ ap (λ (l : List ℕ). l ++ told_head desk e) e0 in
    record {
      leg = put.part;
      is_leg = put.is_part;
      written = rw (e5, e4, e3, put.written, begun) refl;
    }

pub no_segment : (code : List ℕ) (seats : ℕ) (none a b new : List ℕ) → none ≡ [] → a ≡ none ++ codes "- " → b ≡ a ++ code
    → new ≡ b ++ decimal seats → new ≡ codes "- " ++ code ++ decimal seats
no_segment code seats none a b new e0 e1 e2 e3 = rw (e3, e2, e1, e0) refl

all_names : (o a n s d b f : List ℕ)
    → (((((((o ++ a) ++ n) ++ s) ++ 32 ∷ []) ++ d) ++ 32 ∷ []) ++ b) ++ f
    ≡ o ++ (a ++ n ++ s ++ (32 ∷ []) ++ d ++ (32 ∷ []) ++ b ++ f)
all_names o a n s d b f = simp append_assoc

pub leg_name_put : (flight : Flown) (leg : DatedLeg) (old a n s b1 day d b2 b new : List ℕ) → a ≡ old ++ flight.airline
    → n ≡ a ++ decimal flight.number → s ≡ n ++ suffix_text flight.suffix → b1 ≡ s ++ 32 ∷ [] → IsDateText leg.day day
    → d ≡ b1 ++ day → b2 ≡ d ++ 32 ∷ [] → b ≡ b2 ++ leg.board → new ≡ b ++ leg.off
    → IsBehind (IsLegName flight leg) old new
leg_name_put flight leg old a n s b1 day d b2 b new e1 e2 e3 e4 is e5 e6 e7 e8 = record {
  part = flight.airline ++ decimal flight.number ++ suffix_text flight.suffix ++ (32 ∷ []) ++ day ++ (32 ∷ []) ++ leg.board ++ leg.off;
  is_part = record { day = day; is_day = is; written = refl };
  written = rw (e8, e7, e6, e5, e4, e3, e2, e1) (all_names old flight.airline (decimal flight.number) (suffix_text flight.suffix) day leg.board leg.off);
}
