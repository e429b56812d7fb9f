use Rattle.std.proofs.Common.{◌≡◌, ◌⊎◌, inl, inr, ℕ, List, Option, Some, None, Result, Ok, Err, true, false, IsTrue, refl, ap, subst, sym, ◌∙◌}
use Rattle.std.specs.Result.{OnOk, is_err}
use Rattle.airline_base.specs.Noting.{noted}
use Rattle.seat_disk.specs.Counts.{NotesCall}
use Rattle.seat_disk.specs.Keeping.{IsKept, KeepsOnly}
use Rattle.seat_disk.specs.Leaving.{OnlyKnown, replaced_by}
use Rattle.seat_disk.specs.Syncs.{AllSynced, kept_name, renamed}
use Rattle.seat_disk.specs.declared.synced.Synced.{Synced}
use Rattle.seat_disk.proofs.Keeping.{kept_on, keeps_on, only_as_before, only_behind, only_between}
use Rattle.seat_disk.proofs.replaced.replace_whole.Goals as goal

-- what holds of a result that is no error
on_ok : {T E : Type 0} → (r : Result T E) (P : Type 0) → is_err r ≡ false → OnOk r P → P
on_ok (Ok v) P e held = held
on_ok (Err x) P e held = absurd (cc e)

-- what a call that is no error, and one that is, does to the count
on_count : {T E : Type 0} → (r : Result T E) (old new : ℕ) → is_err r ≡ false → NotesCall old new r → new ≡ old
on_count (Ok v) old new e held = held
on_count (Err x) old new e held = absurd (cc e)

off_count : {T E : Type 0} → (r : Result T E) (old new : ℕ) → is_err r ≡ true → NotesCall old new r → new ≡ noted old
off_count (Ok v) old new e held = absurd (cc e)
off_count (Err x) old new e held = held

either_way : {A B C D : Type 0} → (A → C) → (B → D) → A ⊎ B → C ⊎ D
either_way f g (inl a) = inl (f a)
either_way f g (inr b) = inr (g b)

-- what is known of the new file is the bytes
is_known : (named beside : Option (List ℕ)) (bytes left : List ℕ) → beside ≡ replaced_by named bytes → beside ≡ Some left → left ≡ bytes
is_known None beside bytes left is known = absurd (cc (is, known))
is_known (Some xs) beside bytes left is known = cc (is, known)

is_left : (named beside : Option (List ℕ)) (bytes : List ℕ) (before after : List ℕ → Type 0) → beside ≡ replaced_by named bytes
    → OnlyKnown beside before → ((c : List ℕ) → after c → before c) → (c : List ℕ) → after c → c ≡ bytes
is_left named beside bytes before after is known within c leaves = is_known named beside bytes c is (known c (within c leaves))

all_synced : (written kept taken : Synced) → IsTrue written.beside → kept ≡ written → taken ≡ kept_name (renamed kept) → AllSynced taken
all_synced written kept taken beside same is =
    subst AllSynced (sym (is ∙ ap (λ (s : Synced). kept_name (renamed s)) same)) (record { file = beside; name = refl })

pub returns-then-is_err-clause-crash : goal.returns-then-is_err-clause-crash
returns-then-is_err-clause-crash g c = λ left leaves. inl (c.write_beside.ensures.crash left leaves)

pub returns-then-is_err-clause-either : goal.returns-then-is_err-clause-either
returns-then-is_err-clause-either g c = inl c.write_beside.ensures.named

pub returns-then-is_err-clause-lost : goal.returns-then-is_err-clause-lost
returns-then-is_err-clause-lost g c = λ keeps. inl c.write_beside.ensures.crash

pub returns-then-is_err-clause-files : goal.returns-then-is_err-clause-files
returns-then-is_err-clause-files g c = c.write_beside.ensures.files

pub returns-then-is_err-clause-only : goal.returns-then-is_err-clause-only
returns-then-is_err-clause-only g c =
    only_as_before c.args.keeps (g.F.Replaced.named c.args.file.now) (g.F.Replaced.kept_may_leave c.args.file.now)
    (g.F.Replaced.kept_may_leave c.write_beside.new.file)
    c.write_beside.ensures.only

pub returns-then-is_err-clause-ahead : goal.returns-then-is_err-clause-ahead
returns-then-is_err-clause-ahead g c = inl c.write_beside.ensures.names.file

pub returns-then-is_err-clause-device : goal.returns-then-is_err-clause-device
returns-then-is_err-clause-device g c =
    off_count c.write_beside.result (g.F.Failures.failure_count c.args.file.now) (g.F.Failures.failure_count c.write_beside.new.file)
    (sym c.is_err.ensures.value ∙ c.if-is_err.true) c.write_beside.ensures.notes

pub returns-then-is_err-2-clause-crash : goal.returns-then-is_err-2-clause-crash
returns-then-is_err-2-clause-crash g c = λ left leaves. inl (c.write_beside.ensures.crash left (c.keep_old.ensures.crash left leaves))

pub returns-then-is_err-2-clause-either : goal.returns-then-is_err-2-clause-either
returns-then-is_err-2-clause-either g c = inl (c.keep_old.ensures.named ∙ c.write_beside.ensures.named)

pub returns-then-is_err-2-clause-lost : goal.returns-then-is_err-2-clause-lost
returns-then-is_err-2-clause-lost g c = λ keeps. inl (λ left leaves. c.write_beside.ensures.crash left (c.keep_old.ensures.crash left leaves))

pub returns-then-is_err-2-clause-files : goal.returns-then-is_err-2-clause-files
returns-then-is_err-2-clause-files g c =
    keeps_on (g.F.Replaced.kept_may_leave c.args.file.now) (g.F.Replaced.kept_may_leave c.write_beside.new.file)
    (g.F.Replaced.kept_may_leave c.keep_old.new.file)
    c.write_beside.ensures.files c.keep_old.ensures.files

pub returns-then-is_err-2-clause-only : goal.returns-then-is_err-2-clause-only
returns-then-is_err-2-clause-only g c =
    only_behind c.args.keeps (g.F.Replaced.named c.args.file.now) (g.F.Replaced.kept_may_leave c.args.file.now)
    (g.F.Replaced.kept_may_leave c.write_beside.new.file)
    (g.F.Replaced.kept_may_leave c.keep_old.new.file) c.write_beside.ensures.only
    (subst (λ (named : Option (List ℕ)). KeepsOnly c.args.keeps named (g.F.Replaced.kept_may_leave c.write_beside.new.file)
    (g.F.Replaced.kept_may_leave c.keep_old.new.file)) c.write_beside.ensures.named c.keep_old.ensures.only)

pub returns-then-is_err-2-clause-ahead : goal.returns-then-is_err-2-clause-ahead
returns-then-is_err-2-clause-ahead g c = inl (ap (λ (s : Synced). s.file) c.keep_old.ensures.synced ∙ c.write_beside.ensures.names.file)

pub returns-then-is_err-2-clause-device : goal.returns-then-is_err-2-clause-device
returns-then-is_err-2-clause-device g c =
    off_count c.keep_old.result (g.F.Failures.failure_count c.write_beside.new.file) (g.F.Failures.failure_count c.keep_old.new.file)
    (sym c.is_err-2.ensures.value ∙ c.if-is_err-2.true) c.keep_old.ensures.notes
    ∙ ap noted (on_count c.write_beside.result (g.F.Failures.failure_count c.args.file.now) (g.F.Failures.failure_count c.write_beside.new.file)
    (sym c.is_err.ensures.value ∙ c.if-is_err.false) c.write_beside.ensures.notes)

pub returns-in-Ok-clause-ok : goal.returns-in-Ok-clause-ok
returns-in-Ok-clause-ok g c =
    c.in-Ok.ensures.ok ∙ c.keep_old.ensures.beside ∙ on_ok c.write_beside.result _ (sym c.is_err.ensures.value ∙ c.if-is_err.false) c.write_beside.ensures.ok

pub returns-in-Ok-clause-kept : goal.returns-in-Ok-clause-kept
returns-in-Ok-clause-kept g c =
    is_left (g.F.Replaced.named c.args.file.now) (g.F.Replaced.beside c.write_beside.new.file) c.args.bytes.now
    (g.F.Replaced.beside_may_leave c.write_beside.new.file)
    (g.F.Replaced.may_leave c.take_name.new.file)
    (on_ok c.write_beside.result _ (sym c.is_err.ensures.value ∙ c.if-is_err.false) c.write_beside.ensures.ok)
    (on_ok c.write_beside.result _ (sym c.is_err.ensures.value ∙ c.if-is_err.false) c.write_beside.ensures.kept)
    (λ left leaves. c.keep_old.ensures.new left (c.in-Ok.ensures.kept left leaves))

pub returns-in-Ok-clause-crash : goal.returns-in-Ok-clause-crash
returns-in-Ok-clause-crash g c = λ left leaves. inr (returns-in-Ok-clause-kept g c left leaves)

pub returns-in-Ok-clause-held : goal.returns-in-Ok-clause-held
returns-in-Ok-clause-held g c =
    λ keeps. kept_on (g.F.Replaced.named c.args.file.now) (g.F.Replaced.kept_may_leave c.keep_old.new.file) (g.F.Replaced.kept_may_leave c.take_name.new.file)
    (subst (λ (named : Option (List ℕ)). IsKept named (g.F.Replaced.kept_may_leave c.keep_old.new.file)) c.write_beside.ensures.named
    (on_ok c.keep_old.result (IsTrue c.args.keeps → IsKept (g.F.Replaced.named c.write_beside.new.file) (g.F.Replaced.kept_may_leave c.keep_old.new.file))
    (sym c.is_err-2.ensures.value ∙ c.if-is_err-2.false) c.keep_old.ensures.ok keeps))
    c.take_name.ensures.files

pub returns-in-Ok-clause-lost : goal.returns-in-Ok-clause-lost
returns-in-Ok-clause-lost g c = λ keeps. inr (returns-in-Ok-clause-held g c keeps)

pub returns-in-Ok-clause-files : goal.returns-in-Ok-clause-files
returns-in-Ok-clause-files g c =
    keeps_on (g.F.Replaced.kept_may_leave c.args.file.now) (g.F.Replaced.kept_may_leave c.write_beside.new.file)
    (g.F.Replaced.kept_may_leave c.take_name.new.file)
    c.write_beside.ensures.files
    (keeps_on (g.F.Replaced.kept_may_leave c.write_beside.new.file) (g.F.Replaced.kept_may_leave c.keep_old.new.file)
    (g.F.Replaced.kept_may_leave c.take_name.new.file)
    c.keep_old.ensures.files c.take_name.ensures.files)

pub returns-in-Ok-clause-only : goal.returns-in-Ok-clause-only
returns-in-Ok-clause-only g c =
    only_between c.args.keeps (g.F.Replaced.named c.args.file.now) (g.F.Replaced.kept_may_leave c.args.file.now)
    (g.F.Replaced.kept_may_leave c.write_beside.new.file)
    (g.F.Replaced.kept_may_leave c.keep_old.new.file) (g.F.Replaced.kept_may_leave c.take_name.new.file) c.write_beside.ensures.only
    (subst (λ (named : Option (List ℕ)). KeepsOnly c.args.keeps named (g.F.Replaced.kept_may_leave c.write_beside.new.file)
    (g.F.Replaced.kept_may_leave c.keep_old.new.file)) c.write_beside.ensures.named c.keep_old.ensures.only)
    c.take_name.ensures.only

pub returns-in-Ok-clause-synced : goal.returns-in-Ok-clause-synced
returns-in-Ok-clause-synced g c =
    all_synced (g.F.Replaced.synced c.write_beside.new.file) (g.F.Replaced.synced c.keep_old.new.file) (g.F.Replaced.synced c.take_name.new.file)
    (on_ok c.write_beside.result _ (sym c.is_err.ensures.value ∙ c.if-is_err.false) c.write_beside.ensures.synced) c.keep_old.ensures.synced
    c.in-Ok.ensures.synced

pub returns-in-Ok-clause-ahead : goal.returns-in-Ok-clause-ahead
returns-in-Ok-clause-ahead g c = inr (returns-in-Ok-clause-synced g c).file

pub returns-in-Ok-clause-counted : goal.returns-in-Ok-clause-counted
returns-in-Ok-clause-counted g c =
    c.in-Ok.ensures.notes
    ∙ on_count c.keep_old.result (g.F.Failures.failure_count c.write_beside.new.file) (g.F.Failures.failure_count c.keep_old.new.file)
    (sym c.is_err-2.ensures.value ∙ c.if-is_err-2.false) c.keep_old.ensures.notes
    ∙ on_count c.write_beside.result (g.F.Failures.failure_count c.args.file.now) (g.F.Failures.failure_count c.write_beside.new.file)
    (sym c.is_err.ensures.value ∙ c.if-is_err.false) c.write_beside.ensures.notes

pub returns-in-Err-clause-crash : goal.returns-in-Err-clause-crash
returns-in-Err-clause-crash g c = λ left leaves.
    either_way (λ before. c.write_beside.ensures.crash left (c.keep_old.ensures.crash left before))
    (is_left (g.F.Replaced.named c.args.file.now) (g.F.Replaced.beside c.write_beside.new.file) c.args.bytes.now
    (g.F.Replaced.beside_may_leave c.write_beside.new.file)
    (g.F.Replaced.beside_may_leave c.keep_old.new.file)
    (on_ok c.write_beside.result _ (sym c.is_err.ensures.value ∙ c.if-is_err.false) c.write_beside.ensures.ok)
    (on_ok c.write_beside.result _ (sym c.is_err.ensures.value ∙ c.if-is_err.false) c.write_beside.ensures.kept)
    c.keep_old.ensures.new left)
    (c.take_name.ensures.crash left leaves)

pub returns-in-Err-clause-either : goal.returns-in-Err-clause-either
returns-in-Err-clause-either g c =
    either_way (λ same. same ∙ c.keep_old.ensures.named ∙ c.write_beside.ensures.named)
    (λ is. is ∙ c.keep_old.ensures.beside ∙ on_ok c.write_beside.result _ (sym c.is_err.ensures.value ∙ c.if-is_err.false) c.write_beside.ensures.ok)
    c.in-Err.ensures.either

pub returns-in-Err-clause-lost : goal.returns-in-Err-clause-lost
returns-in-Err-clause-lost g c =
    λ keeps. inr (kept_on (g.F.Replaced.named c.args.file.now) (g.F.Replaced.kept_may_leave c.keep_old.new.file)
    (g.F.Replaced.kept_may_leave c.take_name.new.file)
    (subst (λ (named : Option (List ℕ)). IsKept named (g.F.Replaced.kept_may_leave c.keep_old.new.file)) c.write_beside.ensures.named
    (on_ok c.keep_old.result (IsTrue c.args.keeps → IsKept (g.F.Replaced.named c.write_beside.new.file) (g.F.Replaced.kept_may_leave c.keep_old.new.file))
    (sym c.is_err-2.ensures.value ∙ c.if-is_err-2.false) c.keep_old.ensures.ok keeps))
    c.take_name.ensures.files)

pub returns-in-Err-clause-files : goal.returns-in-Err-clause-files
returns-in-Err-clause-files g c =
    keeps_on (g.F.Replaced.kept_may_leave c.args.file.now) (g.F.Replaced.kept_may_leave c.write_beside.new.file)
    (g.F.Replaced.kept_may_leave c.take_name.new.file)
    c.write_beside.ensures.files
    (keeps_on (g.F.Replaced.kept_may_leave c.write_beside.new.file) (g.F.Replaced.kept_may_leave c.keep_old.new.file)
    (g.F.Replaced.kept_may_leave c.take_name.new.file)
    c.keep_old.ensures.files c.take_name.ensures.files)

pub returns-in-Err-clause-only : goal.returns-in-Err-clause-only
returns-in-Err-clause-only g c =
    only_between c.args.keeps (g.F.Replaced.named c.args.file.now) _ (g.F.Replaced.kept_may_leave c.write_beside.new.file)
    (g.F.Replaced.kept_may_leave c.keep_old.new.file) _ c.write_beside.ensures.only
    (subst (λ (named : Option (List ℕ)). KeepsOnly c.args.keeps named (g.F.Replaced.kept_may_leave c.write_beside.new.file)
    (g.F.Replaced.kept_may_leave c.keep_old.new.file)) c.write_beside.ensures.named c.keep_old.ensures.only)
    c.take_name.ensures.only

pub returns-in-Err-clause-ahead : goal.returns-in-Err-clause-ahead
returns-in-Err-clause-ahead g c =
    either_way (λ same. same ∙ ap (λ (s : Synced). s.file) c.keep_old.ensures.synced ∙ c.write_beside.ensures.names.file)
    (λ is. is ∙ ap (λ (s : Synced). s.beside) c.keep_old.ensures.synced
    ∙ on_ok c.write_beside.result _ (sym c.is_err.ensures.value ∙ c.if-is_err.false) c.write_beside.ensures.synced)
    c.in-Err.ensures.either_file

pub returns-in-Err-clause-device : goal.returns-in-Err-clause-device
returns-in-Err-clause-device g c =
    c.in-Err.ensures.notes
    ∙ ap noted (on_count c.keep_old.result (g.F.Failures.failure_count c.write_beside.new.file) (g.F.Failures.failure_count c.keep_old.new.file)
    (sym c.is_err-2.ensures.value ∙ c.if-is_err-2.false) c.keep_old.ensures.notes
    ∙ on_count c.write_beside.result (g.F.Failures.failure_count c.args.file.now) (g.F.Failures.failure_count c.write_beside.new.file)
    (sym c.is_err.ensures.value ∙ c.if-is_err.false) c.write_beside.ensures.notes)
