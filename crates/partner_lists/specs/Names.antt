-- What names a booking in the lists of two partners, and what is kept by name.
use Rattle.std.specs.Prelude.{◌≡◌, ◌&&◌, ◌==◌, ℕ, Bool, nat_eq, List, [], ◌∷◌, ◌++◌, fold, Option, Some, None, if◌then◌else◌}
use Rattle.std.specs.HashMap.{HashMap, get}
use Rattle.std.specs.Option.{option_eq}
use Rattle.std.specs.Cmp.Lexicographic.{pointwise}
use Rattle.std.specs.declared.hash.FoldHasher.{FoldHasher}
use Rattle.std.specs.declared.hash.BuildHasherDefault.{BuildHasherDefault}
use Rattle.airimp_lines.specs.declared.segment.Segment.{Segment}
use Rattle.partner_lists.specs.declared.name.Name.{Name}

-- the locator, and the segment without its code and its seats
abbrev pub name_of : List ℕ → Segment → Name
name_of locator s = record {
  locator = locator;
  airline = s.airline;
  number = s.number;
  suffix = s.suffix;
  class = s.class;
  day = s.day;
  board = s.board;
  off = s.off;
}

abbrev pub same_name : Name → Name → Bool
same_name a b =
    pointwise nat_eq a.locator b.locator
    && (pointwise nat_eq a.airline b.airline
    && ((a.number == b.number) && (option_eq nat_eq a.suffix b.suffix
    && ((a.class == b.class) && ((a.day == b.day)
    && (pointwise nat_eq a.board b.board && pointwise nat_eq a.off b.off))))))

-- ---- what is kept by name

abbrev pub Kept : Type 0 → Type 0
Kept V = HashMap Name V (BuildHasherDefault FoldHasher)

abbrev pub later : {V : Type 0} → Name → Option V → Name × V → Option V
later name found pair = (if same_name pair.0 name then Some pair.1 else found)

-- what the last pair with this name has
abbrev pub last_named : {V : Type 0} → Name → List (Name × V) → Option V
last_named name pairs = fold (later name) None pairs

-- the name has this now, and each other name what it had
pub record Puts {V : Type 0} (old new : Kept V) (name : Name) (value : V) : Type 0 where
  pub at : (k : Name) → get same_name new k ≡ (if same_name name k then Some value else get same_name old k)

-- each name has what the last of these pairs with it has
pub record Finds {V : Type 0} (kept : Kept V) (pairs : List (Name × V)) : Type 0 where
  pub at : (k : Name) → get same_name kept k ≡ last_named k pairs
