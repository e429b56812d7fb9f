use Rattle.std.proofs.Common.{◌≡◌, ℕ, List, [], ◌∷◌, ◌++◌, Result, refl, ap, ◌∙◌, append_assoc}
use Rattle.std.specs.Prelude.{Err, Ok, OnOk}
use Rattle.seat_desk.proofs.text.put_way.Goals as goal

-- what a call that went well leaves gives what is left of all
on_ok : {A E : Type 0} {P Q : Type 0} (r : Result A E) → (P → Q) → OnOk r P → OnOk r Q
on_ok (Ok _) more put = more put
on_ok (Err _) more put = tt

way : (old a b c d e new board_at day_at off_at board off : List ℕ) → a ≡ old ++ 32 ∷ [] → b ≡ a ++ board_at → c ≡ b ++ 47 ∷ [] → d ≡ c ++ day_at → e ≡ d ++ 47 ∷ []
    → new ≡ e ++ off_at → board_at ≡ board → off_at ≡ off
    → new ≡ old ++ (32 ∷ [] ++ board ++ 47 ∷ [] ++ day_at ++ 47 ∷ [] ++ off)
way old a b c d e new board_at day_at off_at board off is_a is_b is_c is_d is_e is_new same_board same_off =
    is_new ∙ ap (λ (l : List ℕ). e ++ l) same_off
    ∙ ap (λ (l : List ℕ). l ++ off) (is_e ∙ ap (λ (l : List ℕ). l ++ 47 ∷ []) (is_d ∙ ap (λ (l : List ℕ). l ++ day_at) (is_c ∙ ap (λ (l : List ℕ). l ++ 47 ∷ [])
    (is_b ∙ ap (λ (l : List ℕ). a ++ l) same_board ∙ ap (λ (l : List ℕ). l ++ board) is_a))))
    ∙ simp append_assoc

pub returns : goal.returns
returns c =
    on_ok c.put-6.result
    (λ is_new. (
      32 ∷ [] ++ c.args.leg.now.board ++ 47 ∷ [] ++ c.bytes.result ++ 47 ∷ [] ++ c.args.leg.now.off,
      (c.bytes.result, c.bytes.ensures, refl),
      way c.args.text.now.items c.put.new.text.items c.put-2.new.text.items c.put-3.new.text.items c.put-4.new.text.items c.put-5.new.text.items c.put-6.new.text.items
          c.letters.result c.bytes.result c.letters-2.result c.args.leg.now.board c.args.leg.now.off
          c.in_ok-put.ensures c.in_ok-put-2.ensures c.in_ok-put-3.ensures c.in_ok-put-4.ensures c.in_ok-put-5.ensures is_new c.letters.ensures.value c.letters-2.ensures.value,
    )) c.put-6.ensures
