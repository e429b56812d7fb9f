-- Several older journals, one behind the other.
use Rattle.std.proofs.Common.{◌≡◌, ◌⊎◌, inl, inr, ℕ, List, [], ◌∷◌, length, Option, arith, refl, sym, ap, subst, ◌∙◌}
use Rattle.std.specs.List.{AllByRecursion}
use Rattle.seat_disk.proofs.Keeping.{no_more}
use Rattle.seat_disk.proofs.Syncs.{none_between}
use Rattle.seat_disk.specs.Keeping.{KeepsNoMore}
use Rattle.seat_disk.specs.Leaving.{Only, Within}
use Rattle.seat_disk.specs.Syncs.{AllSynced, NoneUnsynced, SameNames}
use Rattle.seat_disk.specs.declared.synced.Synced.{Synced}
use Rattle.seat_seal.specs.declared.imprint.Imprint.{Imprint}
use Rattle.seat_handing.specs.Handing.{put_back}
use Rattle.seat_handing.specs.Marking.{NeverBoth, SaysCarried}
use Rattle.seat_handing.specs.Several.{AreAllHanded, AreBack, AreMarked, AreStaying, AreStopped, AreTakenBack, AreUnfinished, AreUnmarked, AreUntouched, EachKept, EachSynced, EachUnsynced, KeptOn, MarkedOn, NeverAny, SayCarried, UnsyncedOn}
use Rattle.hand_steps.specs.Steps.{HasFailed, IsReplaced}
use Rattle.hand_steps.specs.Stopping.{HasFailedBack, HasNoneBack, IsPutBack, IsTakenBack}
use Rattle.seat_handing.specs.declared.several.OlderMark.{OlderMark}
use Rattle.hand_steps.proofs.Ordered.{ahead_within}

-- ---- as many seals as marks

pub as_many_later : {S : Type 0} (marks : List OlderMark) (m : OlderMark) (later : List OlderMark) (all : List S) (old : S) (olds : List S)
    → length marks ≡ length all → marks ≡ m ∷ later → all ≡ old ∷ olds → length later ≡ length olds
as_many_later marks m later all old olds many are is = omega (arith, many, ap length are, ap length is)

pub not_fewer : {S : Type 0} (marks : List OlderMark) (m : OlderMark) (later : List OlderMark) (all : List S)
    → length marks ≡ length all → marks ≡ m ∷ later → all ≡ [] → ⊥
not_fewer marks m later all many are none = omega (arith, many, ap length are, ap length none)

none_of : {S : Type 0} (marks : List OlderMark) (all : List S) → length marks ≡ length all → marks ≡ [] → all ≡ []
none_of marks [] many none = refl
none_of marks (s ∷ all) many none = absurd (omega (arith, many, ap length none))

-- ---- marks and what is taken back

module _ {S : Type 0} (failures : S → ℕ) (named : S → Option (List ℕ)) (leaves : S → List ℕ → Type 0) (marks : List OlderMark) where
  pub marked_none : (olds : List S) → marks ≡ [] → AreMarked failures named leaves marks olds olds
  marked_none olds none = subst (λ (l : List OlderMark). AreMarked failures named leaves l olds olds) (sym none) (record { each = refl })

  pub back_none : (olds : List S) → marks ≡ [] → AreBack failures named leaves marks olds olds
  back_none olds none = subst (λ (l : List OlderMark). AreBack failures named leaves l olds olds) (sym none) (record { each = refl })

  module _ (m : OlderMark) (later : List OlderMark) (are : marks ≡ m ∷ later) (all : List S) (old : S) (olds : List S) (is : all ≡ old ∷ olds) where
    on_marks : (P : List OlderMark → List S → Type 0) → P (m ∷ later) (old ∷ olds) → P marks all
    on_marks P held = subst (λ (l : List S). P marks l) (sym is) (subst (λ (l : List OlderMark). P l (old ∷ olds)) (sym are) held)

    its : (mark : List ℕ) (new : S) → mark ≡ m.mark → IsReplaced failures named leaves mark old new → IsReplaced failures named leaves m.mark old new
    its mark new same put = subst (λ (t : List ℕ). IsReplaced failures named leaves t old new) same put

    its_failed : (mark : List ℕ) (new : S) → mark ≡ m.mark → HasFailed failures named mark old new → HasFailed failures named m.mark old new
    its_failed mark new same failed = subst (λ (t : List ℕ). HasFailed failures named t old new) same failed

    its_back : (before : List ℕ) (mid new : S) → before ≡ m.before → IsPutBack failures named leaves (put_back m.hand before) mid new
        → IsPutBack failures named leaves (put_back m.hand m.before) mid new
    its_back before mid new had put = subst (λ (t : List ℕ). IsPutBack failures named leaves (put_back m.hand t) mid new) had put

    its_left : (before : List ℕ) (mid new : S) → before ≡ m.before
        → HasNoneBack (put_back m.hand before) mid new ⊎ HasFailedBack failures named (put_back m.hand before) mid new
        → HasNoneBack (put_back m.hand m.before) mid new ⊎ HasFailedBack failures named (put_back m.hand m.before) mid new
    its_left before mid new had left =
        subst (λ (t : List ℕ). HasNoneBack (put_back m.hand t) mid new ⊎ HasFailedBack failures named (put_back m.hand t) mid new) had left

    pub marked_more : (mark : List ℕ) (new : S) (news : List S) → mark ≡ m.mark → IsReplaced failures named leaves mark old new
        → AreMarked failures named leaves later olds news → AreMarked failures named leaves marks all (new ∷ news)
    marked_more mark new news same put more =
        on_marks (λ l s. AreMarked failures named leaves l s (new ∷ news)) (record { each = (its mark new same put, more.each) })

    pub unmarked_here : (mark before : List ℕ) (mid new : S) → mark ≡ m.mark → before ≡ m.before → HasFailed failures named mark old mid
        → IsPutBack failures named leaves (put_back m.hand before) mid new → AreUnmarked failures named leaves marks all (new ∷ olds)
    unmarked_here mark before mid new same had failed put =
        on_marks (λ l s. AreUnmarked failures named leaves l s (new ∷ olds))
        (record { each = (mid, its_back before mid new had put, inl (record { failed = its_failed mark mid same failed; later = refl })) })

    pub unmarked_later : (mark before : List ℕ) (mid new : S) (news : List S) → mark ≡ m.mark → before ≡ m.before
        → IsReplaced failures named leaves mark old mid → AreUnmarked failures named leaves later olds news
        → IsPutBack failures named leaves (put_back m.hand before) mid new → AreUnmarked failures named leaves marks all (new ∷ news)
    unmarked_later mark before mid new news same had marked more put =
        on_marks (λ l s. AreUnmarked failures named leaves l s (new ∷ news))
        (record { each = (mid, its_back before mid new had put, inr (its mark mid same marked, more.each)) })

    pub stopped_here : (mark before : List ℕ) (mid new : S) → mark ≡ m.mark → before ≡ m.before → HasFailed failures named mark old mid
        → HasNoneBack (put_back m.hand before) mid new ⊎ HasFailedBack failures named (put_back m.hand before) mid new
        → AreStopped failures named leaves marks all (new ∷ olds)
    stopped_here mark before mid new same had failed left =
        on_marks (λ l s. AreStopped failures named leaves l s (new ∷ olds))
        (record { each = inl (mid, its_left before mid new had left, inl (record { failed = its_failed mark mid same failed; later = refl })) })

    pub stopped_back : (mark before : List ℕ) (mid new : S) (news : List S) → mark ≡ m.mark → before ≡ m.before
        → IsReplaced failures named leaves mark old mid → AreUnmarked failures named leaves later olds news
        → HasNoneBack (put_back m.hand before) mid new ⊎ HasFailedBack failures named (put_back m.hand before) mid new
        → AreStopped failures named leaves marks all (new ∷ news)
    stopped_back mark before mid new news same had marked more left =
        on_marks (λ l s. AreStopped failures named leaves l s (new ∷ news))
        (record { each = inl (mid, its_left before mid new had left, inr (its mark mid same marked, more.each)) })

    pub stopped_later : (mark : List ℕ) (new : S) (news : List S) → mark ≡ m.mark → IsReplaced failures named leaves mark old new
        → AreStopped failures named leaves later olds news → AreStopped failures named leaves marks all (new ∷ news)
    stopped_later mark new news same marked more =
        on_marks (λ l s. AreStopped failures named leaves l s (new ∷ news)) (record { each = inr (its mark new same marked, more.each) })

    pub back_more : (before : List ℕ) (new : S) (news : List S) → before ≡ m.before → AreBack failures named leaves later olds news
        → IsPutBack failures named leaves (put_back m.hand before) old new → AreBack failures named leaves marks all (new ∷ news)
    back_more before new news had more put =
        on_marks (λ l s. AreBack failures named leaves l s (new ∷ news)) (record { each = (its_back before old new had put, more.each) })

    pub staying_here : (before : List ℕ) (new : S) (news : List S) → before ≡ m.before → AreBack failures named leaves later olds news
        → HasNoneBack (put_back m.hand before) old new ⊎ HasFailedBack failures named (put_back m.hand before) old new
        → AreStaying failures named leaves marks all (new ∷ news)
    staying_here before new news had more left =
        on_marks (λ l s. AreStaying failures named leaves l s (new ∷ news)) (record { each = inr (its_left before old new had left, more.each) })

    pub staying_later : (news : List S) → AreStaying failures named leaves later olds news → AreStaying failures named leaves marks all (old ∷ news)
    staying_later news more =
        on_marks (λ l s. AreStaying failures named leaves l s (old ∷ news)) (record { each = inl (refl, more.each) })

  -- ---- all of it

  pub all_handed : (olds news : List S) (handed : Type 0) → AreMarked failures named leaves marks olds news → handed
      → AreAllHanded failures named leaves marks olds news handed
  all_handed olds news handed are is = record { are_marked = are; last = is }

  pub taken_marks : {J K : Type 0} (olds news : List S) (seal : S) (journal : J) (new_seal : K) (taken : Type 0)
      → AreUnmarked failures named leaves marks olds news
      → AreTakenBack failures named leaves marks olds news (AreUntouched seal seal journal journal new_seal new_seal) taken
  taken_marks olds news seal journal new_seal taken are =
      record { step = inl (are, record { seal = refl; journal = refl; new_seal = refl }) }

  pub taken_all : (olds mids news : List S) (untouched taken : Type 0) → AreMarked failures named leaves marks olds mids
      → AreBack failures named leaves marks mids news → taken → AreTakenBack failures named leaves marks olds news untouched taken
  taken_all olds mids news untouched taken are back is = record { step = inr (mids, are, back, is) }

  pub unfinished_marks : {J K : Type 0} (olds news : List S) (seal : S) (journal : J) (new_seal : K) (taken unfinished : Type 0)
      → AreStopped failures named leaves marks olds news
      → AreUnfinished failures named leaves marks olds news (AreUntouched seal seal journal journal new_seal new_seal) taken unfinished
  unfinished_marks olds news seal journal new_seal taken unfinished are =
      record { step = inl (are, record { seal = refl; journal = refl; new_seal = refl }) }

  pub unfinished_back : (olds mids news : List S) (untouched taken unfinished : Type 0) → AreMarked failures named leaves marks olds mids
      → AreStaying failures named leaves marks mids news → taken → AreUnfinished failures named leaves marks olds news untouched taken unfinished
  unfinished_back olds mids news untouched taken unfinished are stay is = record { step = inr (inl (mids, are, stay, is)) }

  pub unfinished_last : (olds news : List S) (untouched taken unfinished : Type 0) → AreMarked failures named leaves marks olds news → unfinished
      → AreUnfinished failures named leaves marks olds news untouched taken unfinished
  unfinished_last olds news untouched taken unfinished are is = record { step = inr (inr (are, is)) }

-- ---- both are never sold from

pub never_within : (mark : Imprint) (journals_old journals_new seal : List ℕ → Type 0) → Within journals_new journals_old
    → NeverBoth mark journals_old journals_new seal
never_within mark journals_old journals_new seal within = record { each = λ journal text left stands. inl (within journal left) }

-- where the mark of the last one was taken back, the newer journal has what it had
pub taken_within : {S J K : Type 0} (s_failures : S → ℕ) (s_named : S → Option (List ℕ)) (s_leaves : S → List ℕ → Type 0)
    (j_failures : J → ℕ) (j_named : J → Option (List ℕ)) (j_leaves : J → List ℕ → Type 0)
    (k_failures : K → ℕ) (k_named : K → Option (List ℕ)) (k_leaves : K → List ℕ → Type 0) (mark : List ℕ) (back : Option (List ℕ)) (both : List ℕ)
    (seal_old seal_new : S) (journal_old journal_new : J) (new_old new_new : K)
    → IsTakenBack s_failures s_named s_leaves j_failures j_named j_leaves k_failures k_named k_leaves mark back both seal_old seal_new
    journal_old journal_new new_old new_new
    → Within (j_leaves journal_new) (j_leaves journal_old)
taken_within s_failures s_named s_leaves j_failures j_named j_leaves k_failures k_named k_leaves mark back both seal_old seal_new journal_old journal_new new_old new_new taken =
    ahead_within s_failures s_named s_leaves j_failures j_named j_leaves k_failures k_named k_leaves mark both [] [] seal_old taken.mid
    journal_old journal_new new_old new_new taken.ahead

pub within_same : (leaves : List ℕ → Type 0) → Within leaves leaves
within_same leaves c left = left

-- a copy of the seal with the mark says so too
pub says_copied : (mark : Imprint) (copy slice items text : List ℕ) → copy ≡ slice → slice ≡ items → items ≡ text → SaysCarried mark text
    → SaysCarried mark copy
says_copied mark copy slice items text a b c is = subst (SaysCarried mark) (sym (a ∙ b ∙ c)) is

pub never_same : (mark : Imprint) (journals seal : List ℕ → Type 0) → NeverBoth mark journals journals seal
never_same mark journals seal = record { each = λ journal text left stands. inl left }

any_within : {S : Type 0} (mark : Imprint) (journals_old journals_new : List ℕ → Type 0) (leaves : S → List ℕ → Type 0) (seals : List S)
    → Within journals_new journals_old → AllByRecursion (λ seal. NeverBoth mark journals_old journals_new (leaves seal)) seals
any_within mark journals_old journals_new leaves [] within = tt
any_within mark journals_old journals_new leaves (s ∷ seals) within =
    (never_within mark journals_old journals_new (leaves s) within, any_within mark journals_old journals_new leaves seals within)

pub never_any_within : {S : Type 0} (mark : Imprint) (journals_old journals_new : List ℕ → Type 0) (leaves : S → List ℕ → Type 0) (seals : List S)
    → Within journals_new journals_old → NeverAny mark journals_old journals_new leaves seals
never_any_within mark journals_old journals_new leaves seals within = record { each = any_within mark journals_old journals_new leaves seals within }

pub never_any_same : {S : Type 0} (mark : Imprint) (journals : List ℕ → Type 0) (leaves : S → List ℕ → Type 0) (seals : List S)
    → NeverAny mark journals journals leaves seals
never_any_same mark journals leaves seals = never_any_within mark journals journals leaves seals (λ c left. left)

-- where the mark of the last one was taken back
pub never_any_back : {S J K : Type 0} (s_failures : S → ℕ) (s_named : S → Option (List ℕ)) (s_leaves : S → List ℕ → Type 0)
    (j_failures : J → ℕ) (j_named : J → Option (List ℕ)) (j_leaves : J → List ℕ → Type 0)
    (k_failures : K → ℕ) (k_named : K → Option (List ℕ)) (k_leaves : K → List ℕ → Type 0) (mark : List ℕ) (back : Option (List ℕ)) (both : List ℕ)
    (seal_old seal_new : S) (journal_old journal_new : J) (new_old new_new : K) (newer : Imprint) (seals : List S)
    → IsTakenBack s_failures s_named s_leaves j_failures j_named j_leaves k_failures k_named k_leaves mark back both seal_old seal_new
    journal_old journal_new new_old new_new
    → NeverAny newer (j_leaves journal_old) (j_leaves journal_new) s_leaves seals
never_any_back s_failures s_named s_leaves j_failures j_named j_leaves k_failures k_named k_leaves mark back both seal_old seal_new journal_old journal_new new_old new_new newer seals taken =
    never_any_within newer (j_leaves journal_old) (j_leaves journal_new) s_leaves seals
    (taken_within s_failures s_named s_leaves j_failures j_named j_leaves k_failures k_named k_leaves mark back both seal_old seal_new journal_old journal_new
    new_old new_new taken)

-- where all have their marks
module _ {S : Type 0} (failures : S → ℕ) (named : S → Option (List ℕ)) (leaves : S → List ℕ → Type 0) (mark : Imprint)
    (journals_old journals_new : List ℕ → Type 0) where
  each_marked : (marks : List OlderMark) (olds news : List S) → length marks ≡ length olds → AllByRecursion (λ m. SaysCarried mark m.mark) marks
      → MarkedOn failures named leaves marks olds news
      → AllByRecursion (λ seal. NeverBoth mark journals_old journals_new (leaves seal)) news
  each_marked [] [] news many say are =
      subst (AllByRecursion (λ seal. NeverBoth mark journals_old journals_new (leaves seal))) (sym are) tt
  each_marked [] (old ∷ olds) news many say are = absurd (omega (arith, many))
  each_marked (m ∷ marks) [] news many say are = absurd are
  each_marked (m ∷ marks) (old ∷ olds) [] many say are = absurd are
  each_marked (m ∷ marks) (old ∷ olds) (new ∷ news) many say are = (
    record { each = λ journal seal left stands. inr (subst (SaysCarried mark) (sym (are.0.kept seal stands)) say.0) },
    each_marked marks olds news (omega (arith, many)) say.1 are.1,
  )

  pub any_marked : (marks : List OlderMark) (olds news : List S) → length marks ≡ length olds → SayCarried mark marks
      → AreMarked failures named leaves marks olds news → NeverAny mark journals_old journals_new leaves news
  any_marked marks olds news many say are = record { each = each_marked marks olds news many say.each are.each }

-- ---- files of which no bytes are known

pub kept_same : {S : Type 0} (kept : S → List (List ℕ) → Type 0) (seals : List S) → EachKept kept seals seals
kept_same {S = S} kept seals = record { each = go seals }
  where
    go : (seals : List S) → KeptOn kept seals seals
    go [] = tt
    go (s ∷ seals) = (no_more (kept s), go seals)

kept_between : (a b c : List (List ℕ) → Type 0) → KeepsNoMore a b → KeepsNoMore b c → KeepsNoMore a c
kept_between a b c one two = record { each = λ files left. one.each files (two.each files left) }

pub kept_here : {S : Type 0} (kept : S → List (List ℕ) → Type 0) (all : List S) (old mid new : S) (olds : List S) → all ≡ old ∷ olds
    → KeepsNoMore (kept old) (kept mid) → KeepsNoMore (kept mid) (kept new) → EachKept kept all (new ∷ olds)
kept_here {S = S} kept all old mid new olds is one two =
    subst (λ (l : List S). EachKept kept l (new ∷ olds)) (sym is)
    (record { each = (kept_between (kept old) (kept mid) (kept new) one two, (kept_same kept olds).each) })

pub kept_back : {S : Type 0} (kept : S → List (List ℕ) → Type 0) (all : List S) (old mid new : S) (olds news : List S) → all ≡ old ∷ olds
    → KeepsNoMore (kept old) (kept mid) → EachKept kept olds news → KeepsNoMore (kept mid) (kept new) → EachKept kept all (new ∷ news)
kept_back {S = S} kept all old mid new olds news is one more two =
    subst (λ (l : List S). EachKept kept l (new ∷ news)) (sym is)
    (record { each = (kept_between (kept old) (kept mid) (kept new) one two, more.each) })

pub kept_more : {S : Type 0} (kept : S → List (List ℕ) → Type 0) (all : List S) (old new : S) (olds news : List S) → all ≡ old ∷ olds
    → KeepsNoMore (kept old) (kept new) → EachKept kept olds news → EachKept kept all (new ∷ news)
kept_more {S = S} kept all old new olds news is one more =
    subst (λ (l : List S). EachKept kept l (new ∷ news)) (sym is) (record { each = (one, more.each) })

pub unsynced_same : {S : Type 0} (synced : S → Synced) (seals : List S) → EachUnsynced synced seals seals
unsynced_same {S = S} synced seals = record { each = go seals }
  where
    go : (seals : List S) → UnsyncedOn synced seals seals
    go [] = tt
    go (s ∷ seals) = (inl refl, go seals)

pub unsynced_here : {S : Type 0} (synced : S → Synced) (all : List S) (old mid new : S) (olds : List S) → all ≡ old ∷ olds
    → NoneUnsynced (synced old) (synced mid) → NoneUnsynced (synced mid) (synced new) → EachUnsynced synced all (new ∷ olds)
unsynced_here {S = S} synced all old mid new olds is one two =
    subst (λ (l : List S). EachUnsynced synced l (new ∷ olds)) (sym is)
    (record { each = (none_between (synced old) (synced mid) (synced new) one two, (unsynced_same synced olds).each) })

pub unsynced_back : {S : Type 0} (synced : S → Synced) (all : List S) (old mid new : S) (olds news : List S) → all ≡ old ∷ olds
    → NoneUnsynced (synced old) (synced mid) → EachUnsynced synced olds news → NoneUnsynced (synced mid) (synced new)
    → EachUnsynced synced all (new ∷ news)
unsynced_back {S = S} synced all old mid new olds news is one more two =
    subst (λ (l : List S). EachUnsynced synced l (new ∷ news)) (sym is)
    (record { each = (none_between (synced old) (synced mid) (synced new) one two, more.each) })

pub unsynced_more : {S : Type 0} (synced : S → Synced) (all : List S) (old new : S) (olds news : List S) → all ≡ old ∷ olds
    → NoneUnsynced (synced old) (synced new) → EachUnsynced synced olds news → EachUnsynced synced all (new ∷ news)
unsynced_more {S = S} synced all old new olds news is one more =
    subst (λ (l : List S). EachUnsynced synced l (new ∷ news)) (sym is) (record { each = (one, more.each) })

pub synced_none : {S : Type 0} (synced : S → Synced) (marks : List OlderMark) (seals : List S) → length marks ≡ length seals → marks ≡ []
    → EachSynced synced seals
synced_none synced marks seals many none = subst (EachSynced synced) (sym (none_of marks seals many none)) (record { each = tt })

pub synced_more : {S : Type 0} (synced : S → Synced) (new : S) (news : List S) → AllSynced (synced new) → EachSynced synced news
    → EachSynced synced (new ∷ news)
synced_more synced new news one more = record { each = (one, more.each) }

pub kept_through : {S : Type 0} (kept : S → List (List ℕ) → Type 0) (olds mids news : List S) → EachKept kept olds mids → EachKept kept mids news
    → EachKept kept olds news
kept_through {S = S} kept olds mids news one two = record { each = go olds mids news one.each two.each }
  where
    go : (xs ys zs : List S) → KeptOn kept xs ys → KeptOn kept ys zs → KeptOn kept xs zs
    go [] [] [] a b = tt
    go [] [] (z ∷ zs) a b = absurd b
    go [] (y ∷ ys) zs a b = absurd a
    go (x ∷ xs) [] zs a b = absurd a
    go (x ∷ xs) (y ∷ ys) [] a b = absurd b
    go (x ∷ xs) (y ∷ ys) (z ∷ zs) a b = (kept_between (kept x) (kept y) (kept z) a.0 b.0, go xs ys zs a.1 b.1)

pub unsynced_through : {S : Type 0} (synced : S → Synced) (olds mids news : List S) → EachUnsynced synced olds mids → EachUnsynced synced mids news
    → EachUnsynced synced olds news
unsynced_through {S = S} synced olds mids news one two = record { each = go olds mids news one.each two.each }
  where
    go : (xs ys zs : List S) → UnsyncedOn synced xs ys → UnsyncedOn synced ys zs → UnsyncedOn synced xs zs
    go [] [] [] a b = tt
    go [] [] (z ∷ zs) a b = absurd b
    go [] (y ∷ ys) zs a b = absurd a
    go (x ∷ xs) [] zs a b = absurd a
    go (x ∷ xs) (y ∷ ys) [] a b = absurd b
    go (x ∷ xs) (y ∷ ys) (z ∷ zs) a b = (none_between (synced x) (synced y) (synced z) a.0 b.0, go xs ys zs a.1 b.1)

pub same_names : (s : Synced) → SameNames s s
same_names s = record { file = refl; name = refl }
