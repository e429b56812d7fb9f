-- A script more is sorted out, and what was sorted out is listed.
use Rattle.std.proofs.Common.{◌≡◌, ◌<◌, ◌≤◌, ◌∙◌, ℕ, ◌+◌, ◌++◌, suc, Vec, slice_set, take, List, [], ◌∷◌, Option, None, Some, IfSome, IsSomeAnd, ap, subst, length, map, refl, sym, arith}
use Rattle.std.proofs.lemmas.List.{length-map, length-take-le, map-append, take_more_set}
use Rattle.std.specs.List.{concat}
use Rattle.script_refusals.specs.Cleaning.{cleaned_text}
use Rattle.script_refusals.specs.Listing.{stray_row}
use Rattle.script_refusals.specs.Sorting.{rows_of}
use Rattle.seat_files.specs.Lists.{journal_list, list_held, list_name}
use Rattle.seat_files.specs.Streams.{input_rest}
use Rattle.seat_files.specs.declared.journal_file.JournalFile.{JournalFile}
use Rattle.seat_files.specs.declared.list_file.ListFile.{ListFile}
use Rattle.seat_files.specs.declared.streams.Input.{Input}
use Rattle.command_inputs.specs.Sorted.{AreBegun, AreCleaned, AreListed, AreSorted, IsOfScripts, IsPutWith, IsSorted, left_of, rows_from}

pub is_sorted : (session : ℕ) (script : Input) (rows text : List ℕ) → input_rest script ≡ Some (cleaned_text text)
    → rows ≡ rows_of session text → IsSorted session script rows
is_sorted session script rows text left refused = record { text = text; left = left; refused = refused }

pub are_listed : (scripts : List Input) (sessions : List (List ℕ)) (list : List ℕ) → AreSorted scripts sessions
    → list ≡ concat sessions → AreListed scripts list
are_listed scripts sessions list sorted whole = record { sessions = sessions; sorted = sorted; whole = whole }

pub are_begun : (scripts : List Input) (sessions : List (List ℕ)) (list : List ℕ) → AreSorted scripts sessions
    → stray_row list sessions ≡ None → AreBegun scripts list
are_begun scripts sessions list sorted begun = record { sessions = sessions; sorted = sorted; begun = begun }

pub are_cleaned : (scripts : List Input) (sessions : List (List ℕ)) → AreSorted scripts sessions → AreCleaned scripts
are_cleaned scripts sessions sorted = record { texts = sorted.texts; left = sorted.left }

pub none_sorted : AreSorted [] []
none_sorted = record { texts = []; left = refl; refused = refl }

rows_more : (n : ℕ) (texts : List (List ℕ)) (text : List ℕ)
    → rows_from n (texts ++ text ∷ []) ≡ rows_from n texts ++ rows_of (n + length texts) text ∷ []
rows_more n [] text =
    let same : n ≡ n + 0 = omega arith in
    ap (λ m. rows_of m text ∷ []) same
rows_more n (t ∷ texts) text =
    let same : n + 1 + length texts ≡ n + suc (length texts) = omega arith in
    ap (λ rs. rows_of n t ∷ rs) (rows_more (n + 1) texts text ∙ ap (λ m. rows_from (n + 1) texts ++ rows_of m text ∷ []) same)

pub sorted_more : (scripts : List Input) (script : Input) (sessions : List (List ℕ)) (rows : List ℕ) (session : ℕ)
    → AreSorted scripts sessions → session ≡ length scripts + 1 → IsSorted session script rows
    → AreSorted (scripts ++ script ∷ []) (sessions ++ rows ∷ [])
sorted_more scripts script sessions rows session sorted number one =
    let each : length sorted.texts ≡ length scripts =
    sym (length-map sorted.texts left_of) ∙ (ap length (sym sorted.left) ∙ length-map scripts input_rest) in
    let behind : session ≡ 1 + length sorted.texts = omega (arith, each, number) in
    record {
      texts = sorted.texts ++ one.text ∷ [];
      left = map-append input_rest scripts (script ∷ [])
          ∙ (ap (λ xs. xs ++ input_rest script ∷ []) sorted.left
          ∙ (ap (λ x. map left_of sorted.texts ++ x ∷ []) one.left
          ∙ sym (map-append left_of sorted.texts (one.text ∷ []))));
      refused = ap (λ ss. ss ++ rows ∷ []) sorted.refused
          ∙ (ap (λ r. rows_from 1 sorted.texts ++ r ∷ []) (one.refused ∙ ap (λ n. rows_of n one.text) behind)
          ∙ sym (rows_more 1 sorted.texts one.text));
    }

-- the same in the shape in which a loop over scripts gives it
pub sorted_on : {Z : Type 0} → (items : List Input) (i : ℕ) (script : Input) (sessions pushed : List (Vec ℕ Z)) (rows : Vec ℕ Z) (session : ℕ)
    → i < length items → AreSorted (take i items) (map (λ rows. rows.items) sessions) → session ≡ i + 1
    → IsSorted session script rows.items → pushed ≡ sessions ++ rows ∷ []
    → AreSorted (take (i + 1) (slice_set items i script)) (map (λ rows. rows.items) pushed)
sorted_on items i script sessions pushed rows session below sorted number one pushes =
    let within : i ≤ length items = omega (arith, below) in
    let each : length (take i items) ≡ i = length-take-le i items within in
    let behind : session ≡ length (take i items) + 1 = omega (arith, each, number) in
    let taken : take (i + 1) (slice_set items i script) ≡ take i items ++ script ∷ [] = take_more_set items i script below in
    let listed : map (λ rows. rows.items) pushed ≡ map (λ rows. rows.items) sessions ++ rows.items ∷ [] =
    ap (map (λ rows. rows.items)) pushes ∙ map-append (λ rows. rows.items) sessions (rows ∷ []) in
    subst (AreSorted (take (i + 1) (slice_set items i script))) (sym listed)
    (subst (λ scripts. AreSorted scripts (map (λ rows. rows.items) sessions ++ rows.items ∷ [])) (sym taken)
    (sorted_more (take i items) script (map (λ rows. rows.items) sessions) rows.items session sorted behind one))

pub is_put_with : (journal : JournalFile) (list : ListFile) (name : List ℕ) (scripts : List Input) → journal_list journal ≡ Some list
    → list_name list ≡ name → AreListed scripts (list_held list) → IsPutWith journal name scripts
is_put_with journal list name scripts has named listed =
    subst (λ one. IsSomeAnd one (IsOfScripts name scripts)) (sym has) (record { named = named; listed = listed })

pub listed_as : (known : Option (List ℕ)) (found : List ℕ) (scripts : List Input) → IfSome known (λ text. found ≡ text)
    → AreListed scripts found → IfSome known (AreListed scripts)
listed_as None found scripts whole listed = whole
listed_as (Some text) found scripts whole listed = subst (AreListed scripts) whole listed
