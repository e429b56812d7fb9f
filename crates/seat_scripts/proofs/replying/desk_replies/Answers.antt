use Rattle.std.proofs.Common.{ℕ, List, inl, inr, refl, subst}
use Rattle.std.specs.Io.KnownBytes.{Appends}
use Rattle.airline_base.specs.Noting.{TookFront}
use Rattle.seat_scripts.proofs.replying.desk_replies.Goals as goal

pub returns-in-Err-clause-fault : goal.returns-in-Err-clause-fault
returns-in-Err-clause-fault g c = c.in-Err.ensures.none.refused

pub returns-in-Err-clause-large : goal.returns-in-Err-clause-large
returns-in-Err-clause-large g c = c.in-Err.ensures.none.large

pub returns-in-Err-clause-device : goal.returns-in-Err-clause-device
returns-in-Err-clause-device g c = λ device. inl (record { counted = c.in-Err.ensures.none.device device; untouched = refl })

pub returns-in-Err-clause-untouched : goal.returns-in-Err-clause-untouched
returns-in-Err-clause-untouched g c = λ _. refl

pub returns-in-Ok-put_all-clause-ok : goal.returns-in-Ok-put_all-clause-ok
returns-in-Ok-put_all-clause-ok g c = record {
  text = c.in-Ok.text.items;
  right = c.in-Ok.ensures.ok;
  written = subst (λ (l : List ℕ). Appends (g.W.Write.contents c.args.out.now) (g.W.Write.contents c.put_all.new.out) l) c.deref.ensures.value c.in-Ok-put_all.ensures.ok;
}

pub returns-in-Ok-put_all-clause-sealed : goal.returns-in-Ok-put_all-clause-sealed
returns-in-Ok-put_all-clause-sealed g c = c.in-Ok.ensures.sealed

pub returns-clause-device : goal.returns-clause-device
returns-clause-device g c = λ _. inr (record {
  counted = c.in-Err-put_all.ensures.device;
  text = c.in-Ok.text.items;
  right = c.in-Ok.ensures.ok;
  begun = subst (λ (l : List ℕ). TookFront (g.W.Write.contents c.args.out.now) (g.W.Write.contents c.put_all.new.out) l) c.deref.ensures.value c.in-Err-put_all.ensures.front;
})
