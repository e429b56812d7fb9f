-- What the parts of a text that a writer took make together.
use Rattle.std.proofs.Common.{◌≡◌, ℕ, ◌-◌, List, [], ◌++◌, length, take, drop, sym, ap, ◌∙◌, subst, append_assoc, append-nil, take-append-drop, OnErr, Result, Ok, Err}
use Rattle.std.specs.Prelude.{Option}
use Rattle.std.proofs.lemmas.List.{take_rest}
use lib.Seq.{take-append_seam}
use Rattle.std.specs.Io.KnownBytes.{Appends}
use Rattle.std.proofs.KnownBytes.{Appends-trans}
use Rattle.airline_base.specs.Noting.{Sent, TookFront}

moves_front : (all done rest : List ℕ) (n : ℕ) → all ≡ done ++ rest
    → all ≡ (done ++ take n rest) ++ take (length rest - n) (drop n rest)
moves_front all done rest n e =
    e ∙ ap (λ l. done ++ l) (sym (take-append-drop n rest)) ∙ sym (append_assoc done (take n rest) (drop n rest)) ∙ ap (λ l. (done ++ take n rest) ++ l) (sym (take_rest rest n))

-- one more part was taken
pub sent_more : (old mid new : Option (List ℕ)) (k j i : ℕ) (text rest : List ℕ) (n : ℕ) → Sent old mid k j text rest
    → Appends mid new (take n rest) → i ≡ j
    → Sent old new k i text (take (length rest - n) (drop n rest))
sent_more old mid new k j i text rest n s more same = record {
  done = s.done ++ take n rest;
  split = moves_front text s.done rest n s.split;
  appended = Appends-trans old mid new s.done (take n rest) s.appended more;
  counted = same ∙ s.counted;
}

-- where the writer failed, it had taken a prefix
pub took_front : (old mid new : Option (List ℕ)) (k j : ℕ) (text rest : List ℕ) → Sent old mid k j text rest
    → Appends mid new [] → TookFront old new text
took_front old mid new k j text rest s none = record {
  count = length s.done;
  appended = subst (Appends old new) (append-nil s.done ∙ sym (ap (take (length s.done)) s.split ∙ take-append_seam s.done rest)) (Appends-trans old mid new s.done [] s.appended none);
}

pub on_err_any : {A E : Type 0} (r : Result A E) (P : Type 0) → P → OnErr r P
on_err_any (Ok a) P p = tt
on_err_any (Err e) P p = p
