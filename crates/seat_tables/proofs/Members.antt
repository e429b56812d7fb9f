-- The members of an object, one behind the other.
use Rattle.std.proofs.Common.{◌≡◌, ℕ, ◌+◌, ◌<◌, ◌≤◌, List, [], ◌∷◌, ◌++◌, length, take, refl, sym, ap, subst, ◌∙◌, get_or, append_assoc, Option, Some, None, decimal, arith}
use Rattle.std.proofs.lemmas.List.{append-nil, length-take-le, take_all, take_more}
use Rattle.json.specs.Lex.{tokens}
use Rattle.json.specs.Print.{print}
use Rattle.json.specs.Token.{Token, begin_object, end_object, key, number}
use Rattle.json.specs.Written.{Written}
use Rattle.seat_tables.specs.Rows.{AreMembers, IsToken, IsTokenBy, count_of}
use Rattle.seat_tables.specs.Sheets.{AreMembersPut, IsJsonTextPut, IsMemberPut, IsSpelledPut, IsValuePut}
use Rattle.seat_tables.specs.declared.cell.Cell.{Cell}

pub number_put : (c : Cell) (n : ℕ) (old new : Written) → Some n ≡ count_of c → new.before ≡ old.before
    → new.tokens ≡ old.tokens ++ number (decimal n) ∷ [] → IsValuePut c old new
number_put c n old new is before written = record {
  before = before;
  token = number (decimal n);
  is_right = subst (λ (o : Option ℕ). IsTokenBy o c (number (decimal n))) is refl;
  written = written;
}

pub other_put : (c : Cell) (old new : Written) → None ≡ count_of c → IsSpelledPut c old new → IsValuePut c old new
other_put c old new is put = record {
  before = put.before;
  token = put.token;
  is_right = subst (λ (o : Option ℕ). IsTokenBy o c put.token) is put.is_right;
  written = put.written;
}

pub none_put : (names : List (List ℕ)) (row : List Cell) (writer : Written) → AreMembersPut (take 0 names) (take 0 row) writer writer
none_put names row writer = record { before = refl; members = []; are_members = refl; written = sym (append-nil writer.tokens) }

member_push : (names : List (List ℕ)) (cells : List Cell) (name : List ℕ) (c : Cell) (ts : List Token) (t : Token)
    → length names ≡ length cells → AreMembers names cells ts → IsToken c t
    → AreMembers (names ++ name ∷ []) (cells ++ c ∷ []) (ts ++ key name ∷ t ∷ [])
member_push [] [] name c ts t same none is = (t, [], is, ap (λ (l : List Token). l ++ key name ∷ t ∷ []) none, refl)
member_push [] (x ∷ cells) name c ts t same none is = cc same
member_push (n ∷ names) [] name c ts t same none is = cc same
member_push (n ∷ names) (x ∷ cells) name c ts t same are is = (
  are.0,
  are.1 ++ key name ∷ t ∷ [],
  are.2,
  ap (λ (l : List Token). l ++ key name ∷ t ∷ []) are.3,
  member_push names cells name c are.1 t (cc same) are.4 is,
)

pub member_more : (names : List (List ℕ)) (row : List Cell) (i : ℕ) (name : List ℕ) (c : Cell) (old mid new : Written)
    → AreMembersPut (take i names) (take i row) old mid → length names ≡ length row → i < length row
    → name ≡ get_or names i name → c ≡ get_or row i c → IsMemberPut name c mid new
    → AreMembersPut (take (i + 1) names) (take (i + 1) row) old new
member_more names row i name c old mid new so_far same inside is_name is_cell one =
    let named : i < length names = subst (λ (k : ℕ). i < k) (sym same) inside in
    let names_more : take (i + 1) names ≡ take i names ++ name ∷ [] = take_more names i name named ∙ ap (λ (y : List ℕ). take i names ++ y ∷ []) (sym is_name) in
    let cells_more : take (i + 1) row ≡ take i row ++ c ∷ [] = take_more row i c inside ∙ ap (λ (y : Cell). take i row ++ y ∷ []) (sym is_cell) in
    let alike : length (take i names) ≡ length (take i row) = length-take-le i names (omega (arith, named)) ∙ sym (length-take-le i row (omega (arith, inside))) in
    let pushed = member_push (take i names) (take i row) name c so_far.members one.token alike so_far.are_members one.is_value in
    record {
      before = one.before ∙ so_far.before;
      members = so_far.members ++ key name ∷ one.token ∷ [];
      are_members = subst (λ (l : List (List ℕ)). AreMembers l (take (i + 1) row) (so_far.members ++ key name ∷ one.token ∷ [])) (sym names_more)
          (subst (λ (l : List Cell). AreMembers (take i names ++ name ∷ []) l (so_far.members ++ key name ∷ one.token ∷ [])) (sym cells_more) pushed);
      written = one.written ∙ ap (λ (l : List Token). l ++ key name ∷ one.token ∷ []) so_far.written ∙ append_assoc old.tokens so_far.members (key name ∷ one.token ∷ []);
    }

pub members_whole : (names : List (List ℕ)) (row : List Cell) (i : ℕ) (old new : Written)
    → AreMembersPut (take i names) (take i row) old new → length names ≡ length row → length row ≤ i → AreMembersPut names row old new
members_whole names row i old new so_far same over =
    subst (λ (l : List (List ℕ)). AreMembersPut l row old new) (take_all i names (subst (λ (k : ℕ). k ≤ i) (sym same) over))
    (subst (λ (l : List Cell). AreMembersPut (take i names) l old new) (take_all i row over) so_far)

-- the object, and LF
pub object_put : (names : List (List ℕ)) (row : List Cell) (begun opened filled closed : Written) (old text new : List ℕ)
    → begun.before ≡ old → begun.tokens ≡ [] → opened.before ≡ begun.before → opened.tokens ≡ begun.tokens ++ begin_object ∷ []
    → AreMembersPut names row opened filled → closed.before ≡ filled.before → closed.tokens ≡ filled.tokens ++ end_object ∷ []
    → text ≡ closed.before ++ print closed.tokens → tokens (print closed.tokens) ≡ closed.tokens → new ≡ text ++ 10 ∷ []
    → IsJsonTextPut names row old new
object_put names row begun opened filled closed old text new at none opens first put closes last written reads fed =
    let all : closed.tokens ≡ begin_object ∷ put.members ++ end_object ∷ [] =
    last ∙ ap (λ (l : List Token). l ++ end_object ∷ []) (put.written ∙ ap (λ (l : List Token). l ++ put.members) (first ∙ ap (λ (l : List Token). l ++ begin_object ∷ []) none)) in
    let behind : closed.before ≡ old = closes ∙ put.before ∙ opens ∙ at in
    record {
      line = print (begin_object ∷ put.members ++ end_object ∷ []) ++ 10 ∷ [];
      is_line = record {
        members = put.members;
        are_members = put.are_members;
        written = refl;
        reads_back = subst (λ (l : List Token). tokens (print l) ≡ l) all reads;
      };
      written =
          fed ∙ ap (λ (l : List ℕ). l ++ 10 ∷ []) (written ∙ ap (λ (l : List ℕ). l ++ print closed.tokens) behind ∙ ap (λ (l : List Token). old ++ print l) all)
          ∙ append_assoc old (print (begin_object ∷ put.members ++ end_object ∷ [])) (10 ∷ []);
    }
