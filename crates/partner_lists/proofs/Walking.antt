-- How far a list is read.
use Rattle.std.proofs.Common.{◌≡◌, ◌≢◌, inl, inr, ◌==◌, Bool, true, false, ℕ, ◌+◌, ◌<◌, List, [], ◌∷◌, ◌++◌, length, Option, Some, None, Result, Ok, Err, refl, sym, ap, subst, ◌∙◌, arith}
use Rattle.std.specs.Str.Lines.{lines}
use Rattle.std.specs.HashMap.{get}
use Rattle.std.specs.Prelude.{is_some}
use Rattle.std.proofs.lemmas.Bool.Decides.{nat_tests}
use Rattle.std.proofs.lemmas.List.{map_push, nil_from_length}
use Rattle.airimp_lines.specs.declared.requests.Request.{Request}
use Rattle.partner_lists.specs.declared.fault.PartnerFault.{PartnerFault}
use Rattle.partner_lists.specs.declared.fault.PartnerKind.{PartnerKind}
use Rattle.partner_lists.specs.declared.fault.PartnerKind.TheVariants as kinds
use Rattle.partner_lists.specs.declared.name.Name.{Name}
use Rattle.partner_lists.specs.Listed.{IsLineFault, IsListed}
use Rattle.partner_lists.specs.Names.{Finds, Kept, Puts, last_named, same_name}
use Rattle.partner_lists.specs.Reading.{Gives, IsFault, IsNew, IsOld, IsReading, IsRepeated, IsTaken, Takes, numbered_names, own_name}
use Rattle.partner_lists.proofs.Keeping.{finds_more}

-- what the lines that are left come to behind these is what the list comes to
pub record GoesOn (first : ℕ) (bytes : List ℕ) (line : ℕ) (rest : List ℕ) (rows : List Request) : Type 0 where
  pub leads : (outcome : Result (List Request) PartnerFault) → Gives first (line + 1) (lines rest) rows outcome → IsReading first bytes outcome

pub goes_first : (first : ℕ) (bytes : List ℕ) → GoesOn first bytes 0 bytes []
goes_first first bytes = record { leads = λ outcome gives. record { given = gives } }

pub goes_next : (first : ℕ) (bytes : List ℕ) (line : ℕ) (rest text after : List ℕ) (rows more : List Request) → GoesOn first bytes line rest rows
    → lines rest ≡ text ∷ lines after → Takes first (line + 1) text rows more → GoesOn first bytes (line + 1) after more
goes_next first bytes line rest text after rows more goes cut takes = record {
  leads = λ outcome gives.
      let behind : Gives first (line + 1 + 1) (lines after) (rows ++ takes.request ∷ []) outcome =
      subst (λ (l : List Request). Gives first (line + 1 + 1) (lines after) l outcome) takes.added gives in
      goes.leads outcome (subst (λ (l : List (List ℕ)). Gives first (line + 1) l rows outcome) (sym cut) (inl (takes.request, takes.taken, behind)));
}

pub goes_end : (first : ℕ) (bytes : List ℕ) (line : ℕ) (rest : List ℕ) (rows : List Request) → GoesOn first bytes line rest rows
    → length rest ≡ 0 → IsReading first bytes (Ok rows)
goes_end first bytes line rest rows goes none =
    let e : rest ≡ [] = nil_from_length rest none in
    goes.leads (Ok rows) (subst (λ (x : List ℕ). Gives first (line + 1) (lines x) rows (Ok rows)) (sym e) refl)

pub goes_stop : (first : ℕ) (bytes : List ℕ) (line : ℕ) (rest text after : List ℕ) (rows : List Request) (kind : PartnerKind)
    → GoesOn first bytes line rest rows → lines rest ≡ text ∷ lines after → IsFault first (line + 1) text rows kind
    → IsReading first bytes (Err (record { line = line + 1; kind = kind }))
goes_stop first bytes line rest text after rows kind goes cut fault =
    goes.leads (Err (record { line = line + 1; kind = kind }))
    (subst (λ (l : List (List ℕ)). Gives first (line + 1) l rows (Err (record { line = line + 1; kind = kind }))) (sym cut) (inr (kind, fault, refl)))

pub not_done : (b : Bool) (rest : List ℕ) → b ≡ (length rest == 0) → b ≡ false → 0 < length rest
not_done b rest e off = grind (arith, nat_tests)

pub done_is : (b : Bool) (rest : List ℕ) → b ≡ (length rest == 0) → b ≡ true → length rest ≡ 0
done_is b rest e on = grind (arith, nat_tests)

-- ---- one line

-- a fault of a line by itself
pub own_fault : (first line : ℕ) (text : List ℕ) (ahead : List Request) (kind : PartnerKind) → IsLineFault first text kind
    → IsFault first line text ahead kind
own_fault first line text ahead kinds.Locator is = is
own_fault first line text ahead (kinds.Line fault) is = is
own_fault first line text ahead kinds.Status is = is
own_fault first line text ahead kinds.Twice is = absurd is
own_fault first line text ahead kinds.Memory is = is

pub repeated : (first line : ℕ) (text : List ℕ) (ahead : List Request) (r : Request) (kind : PartnerKind) → IsListed first line text r
    → (kind ≢ kinds.Memory → IsOld ahead r kind) → kind ≢ kinds.Memory → IsFault first line text ahead kind
repeated first line text ahead r kind listed old other =
    let is : IsOld ahead r kind = old other in
    let fault : IsRepeated first line text ahead = record { request = r; listed = listed; is_old = is.is_old } in
    subst (λ (k : PartnerKind). IsFault first line text ahead k) (sym is.is_twice) fault

pub taken : (first line : ℕ) (text : List ℕ) (old new : List Request) (r : Request) → IsListed first line text r → IsNew old r → new ≡ old ++ r ∷ []
    → Takes first line text old new
taken first line text old new r listed is_new added =
    record { request = r; taken = record { listed = listed; is_new = is_new }; added = added }

none_there : (o : Option ℕ) → is_some o ≡ false → o ≡ None
none_there None e = refl
none_there (Some n) e = absurd cc

some_there : (o : Option ℕ) → is_some o ≡ true → o ≡ None → ⊥
some_there None e none = absurd cc
some_there (Some n) e none = absurd cc

pub is_new : (old : List Request) (r : Request) (name : Name) (names : Kept ℕ) (t : Bool) → Finds names (numbered_names old) → name ≡ own_name r
    → t ≡ is_some (get same_name names name) → t ≡ false → IsNew old r
is_new old r name names t found same is e =
    let none : get same_name names name ≡ None = none_there (get same_name names name) (sym is ∙ e) in
    sym (found.at (own_name r)) ∙ ap (get same_name names) (sym same) ∙ none

pub is_old : (old : List Request) (r : Request) (name : Name) (names : Kept ℕ) (t : Bool) → Finds names (numbered_names old) → name ≡ own_name r
    → t ≡ is_some (get same_name names name) → t ≡ true → IsOld old r kinds.Twice
is_old old r name names t found same is e = record {
  is_twice = refl;
  is_old = λ fresh.
      some_there (get same_name names name) (sym is ∙ e) (ap (get same_name names) same ∙ found.at (own_name r) ∙ fresh);
}

pub one_name_more : (old new : List Request) (r : Request) (name : Name) (before after : Kept ℕ) → Finds before (numbered_names old)
    → name ≡ own_name r → Puts before after name r.line → new ≡ old ++ r ∷ [] → Finds after (numbered_names new)
one_name_more old new r name before after found same put added =
    let pair : Request → Name × ℕ = λ (x : Request). (own_name x, x.line) in
    let own : Puts before after (own_name r) r.line = subst (λ (k : Name). Puts before after k r.line) same put in
    let longer : Finds after (numbered_names old ++ (own_name r, r.line) ∷ []) = finds_more before after (numbered_names old) (own_name r) r.line found own in
    subst (λ (l : List Request). Finds after (numbered_names l)) (sym added)
    (subst (λ (l : List (Name × ℕ)). Finds after l) (sym (map_push pair old r)) longer)
