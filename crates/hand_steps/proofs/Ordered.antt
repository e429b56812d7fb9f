-- The steps in which a journal is handed over, one behind the other.
use Rattle.std.proofs.Common.{◌≡◌, ◌⊎◌, inl, inr, ℕ, List, Option, Some, None, refl, sym, ap, subst, ◌∙◌}
use Rattle.std.specs.Io.KnownBytes.{Appends}
use Rattle.airline_base.specs.Noting.{TookFront}
use Rattle.seat_disk.specs.Leaving.{OldOr, Only, Within, replaced_by}
use Rattle.seat_sealing.specs.Steps.{Counted}
use Rattle.hand_steps.specs.Handing.{AreHanded, AreHandedOver, InHandOrder, IsMarking, IsPutting, OldOrBack}
use Rattle.hand_steps.specs.Steps.{HasFailed, HasFailedAhead, IsReplaced}
use Rattle.hand_steps.specs.Stopping.{AloneFailed, BothFailed, FailedAhead, HasFailedBack, HasNoneBack, IsLeft, IsPutBack, IsTakenBack, IsUnfinished, IsUnsaid, MarkFailed, NameFailed, TextFailed}

-- ---- the mark is taken back

pub put_back : {S : Type 0} (failures : S → ℕ) (named : S → Option (List ℕ)) (leaves : S → List ℕ → Type 0) (before : List ℕ) (old new : S)
    → IsReplaced failures named leaves before old new → IsPutBack failures named leaves (Some before) old new
put_back failures named leaves before old new is = record { bytes = before; is = refl; is_put = is }

pub failed_back : {S : Type 0} (failures : S → ℕ) (named : S → Option (List ℕ)) (before : List ℕ) (old new : S)
    → HasFailed failures named before old new → HasFailedBack failures named (Some before) old new
failed_back failures named before old new is = record { bytes = before; is = refl; failed = is }

pub none_back : {S : Type 0} (seal : S) → HasNoneBack None seal seal
none_back seal = record { none = refl; same = refl }

pub old_or_back : (before : List ℕ) (old new : List ℕ → Type 0) → OldOr before old new → OldOrBack (Some before) old new
old_or_back before old new left c stands = pick (left c stands)
  where
    pick : old c ⊎ (c ≡ before) → old c ⊎ (Some before ≡ Some c)
    pick (inl was) = inl was
    pick (inr is) = inr (ap Some (sym is))

pub old_or_none : (outcomes : List ℕ → Type 0) → OldOrBack None outcomes outcomes
old_or_none outcomes c stands = inl stands

-- ---- which step failed

module _ {S J K : Type 0} (s_failures : S → ℕ) (s_named : S → Option (List ℕ)) (s_leaves : S → List ℕ → Type 0)
    (j_failures : J → ℕ) (j_named : J → Option (List ℕ)) (j_leaves : J → List ℕ → Type 0)
    (k_failures : K → ℕ) (k_named : K → Option (List ℕ)) (k_leaves : K → List ℕ → Type 0)
    (mark both text alone : List ℕ) where
  pub mark_failed : (seal_old seal_new : S) (journal : J) (new_seal : K) → HasFailed s_failures s_named mark seal_old seal_new
      → FailedAhead s_failures s_named s_leaves j_failures j_named j_leaves k_failures k_named k_leaves mark both seal_old seal_new journal journal new_seal new_seal
  mark_failed seal_old seal_new journal new_seal failed = record { step = inl (record { failed = failed; journal = refl; new_seal = refl }) }

  pub both_failed : (seal_old seal_new : S) (journal : J) (new_old new_new : K) → IsReplaced s_failures s_named s_leaves mark seal_old seal_new
      → HasFailed k_failures k_named both new_old new_new
      → FailedAhead s_failures s_named s_leaves j_failures j_named j_leaves k_failures k_named k_leaves mark both seal_old seal_new journal journal new_old new_new
  both_failed seal_old seal_new journal new_old new_new marked failed =
      record { step = inr (inl (record { is_marked = marked; failed = failed; journal = refl })) }

  module _ (seal_old seal_new : S) (journal_old journal_new : J) (new_old new_new : K) where
    pub text_failed : IsReplaced s_failures s_named s_leaves mark seal_old seal_new → IsReplaced k_failures k_named k_leaves both new_old new_new
        → HasFailedAhead j_failures j_named j_leaves journal_old journal_new
        → FailedAhead s_failures s_named s_leaves j_failures j_named j_leaves k_failures k_named k_leaves mark both seal_old seal_new journal_old journal_new new_old new_new
    text_failed marked sealed failed = record { step = inr (inr (record { is_marked = marked; is_sealed = sealed; failed = failed })) }

    pub name_failed : IsReplaced s_failures s_named s_leaves mark seal_old seal_new → IsReplaced k_failures k_named k_leaves both new_old new_new
        → HasFailed j_failures j_named text journal_old journal_new
        → NameFailed s_failures s_named s_leaves j_failures j_named k_failures k_named k_leaves mark both text seal_old seal_new journal_old journal_new new_old new_new
    name_failed marked sealed failed = record { is_marked = marked; is_sealed = sealed; failed = failed }

    pub unfinished_name : (back : Option (List ℕ))
        → NameFailed s_failures s_named s_leaves j_failures j_named k_failures k_named k_leaves mark both text seal_old seal_new journal_old journal_new new_old new_new
        → IsUnfinished s_failures s_named s_leaves j_failures j_named j_leaves k_failures k_named k_leaves mark back both text alone seal_old seal_new journal_old journal_new new_old new_new
    unfinished_name back failed = record { step = inr (inl failed) }

    pub unfinished_alone : (back : Option (List ℕ)) (mid : K) → IsReplaced s_failures s_named s_leaves mark seal_old seal_new
        → IsReplaced j_failures j_named j_leaves text journal_old journal_new → IsReplaced k_failures k_named k_leaves both new_old mid
        → HasFailed k_failures k_named alone mid new_new
        → IsUnfinished s_failures s_named s_leaves j_failures j_named j_leaves k_failures k_named k_leaves mark back both text alone seal_old seal_new journal_old journal_new new_old new_new
    unfinished_alone back mid marked put sealed failed =
        record { step = inr (inr (record { is_marked = marked; is_put = put; mid = mid; is_sealed = sealed; failed = failed })) }

    pub unfinished_ahead : (back : Option (List ℕ)) (mid : S)
        → FailedAhead s_failures s_named s_leaves j_failures j_named j_leaves k_failures k_named k_leaves mark both seal_old mid journal_old journal_new new_old new_new
        → HasNoneBack back mid seal_new ⊎ HasFailedBack s_failures s_named back mid seal_new
        → IsUnfinished s_failures s_named s_leaves j_failures j_named j_leaves k_failures k_named k_leaves mark back both text alone seal_old seal_new journal_old journal_new new_old new_new
    unfinished_ahead back mid ahead left = record { step = inl (record { mid = mid; ahead = ahead; left = left }) }

    pub taken_back : (back : Option (List ℕ)) (mid : S)
        → FailedAhead s_failures s_named s_leaves j_failures j_named j_leaves k_failures k_named k_leaves mark both seal_old mid journal_old journal_new new_old new_new
        → IsPutBack s_failures s_named s_leaves back mid seal_new
        → IsTakenBack s_failures s_named s_leaves j_failures j_named j_leaves k_failures k_named k_leaves mark back both seal_old seal_new journal_old journal_new new_old new_new
    taken_back back mid ahead put = record { mid = mid; ahead = ahead; put_back = put }

    -- of the newer journal a crash leaves no more than before
    pub ahead_within : FailedAhead s_failures s_named s_leaves j_failures j_named j_leaves k_failures k_named k_leaves mark both seal_old seal_new journal_old journal_new new_old new_new
        → Within (j_leaves journal_new) (j_leaves journal_old)
    ahead_within failed = pick failed.step
      where
        same : journal_new ≡ journal_old → Within (j_leaves journal_new) (j_leaves journal_old)
        same is = subst (λ (j : J). Within (j_leaves j) (j_leaves journal_old)) (sym is) (λ c stands. stands)

        pick : MarkFailed s_failures s_named mark seal_old seal_new journal_old journal_new new_old new_new
            ⊎ (BothFailed s_failures s_named s_leaves k_failures k_named mark both seal_old seal_new journal_old journal_new new_old new_new
            ⊎ TextFailed s_failures s_named s_leaves j_failures j_named j_leaves k_failures k_named k_leaves mark both seal_old seal_new journal_old journal_new new_old new_new)
            → Within (j_leaves journal_new) (j_leaves journal_old)
        pick (inl first) = same first.journal
        pick (inr (inl second)) = same second.journal
        pick (inr (inr third)) = third.failed.no_more

    pub order_ahead : (back : Option (List ℕ)) (last : S)
        → FailedAhead s_failures s_named s_leaves j_failures j_named j_leaves k_failures k_named k_leaves mark both seal_old seal_new journal_old journal_new new_old new_new
        → OldOr mark (s_leaves seal_old) (s_leaves seal_new) → OldOr both (k_leaves new_old) (k_leaves new_new)
        → OldOrBack back (s_leaves seal_new) (s_leaves last)
        → InHandOrder mark back both text alone (s_leaves seal_old) (j_leaves journal_old) (k_leaves new_old)
        (s_leaves last) (j_leaves journal_new) (k_leaves new_new)
    order_ahead back last failed marks seals behind = record {
      step = inl (record {
        older = λ c stands. pick c (behind c stands);
        newer = ahead_within failed;
        seal = seals;
      });
    }
      where
        mid : (c : List ℕ) → s_leaves seal_old c ⊎ (c ≡ mark) → s_leaves seal_old c ⊎ ((c ≡ mark) ⊎ (back ≡ Some c))
        mid c (inl was) = inl was
        mid c (inr is) = inr (inl is)

        pick : (c : List ℕ) → s_leaves seal_new c ⊎ (back ≡ Some c) → s_leaves seal_old c ⊎ ((c ≡ mark) ⊎ (back ≡ Some c))
        pick c (inl was) = mid c (marks c was)
        pick c (inr is) = inr (inr is)

    pub order_behind : (back : Option (List ℕ))
        → NameFailed s_failures s_named s_leaves j_failures j_named k_failures k_named k_leaves mark both text seal_old seal_new journal_old journal_new new_old new_new
        → OldOr text (j_leaves journal_old) (j_leaves journal_new)
        → InHandOrder mark back both text alone (s_leaves seal_old) (j_leaves journal_old) (k_leaves new_old)
        (s_leaves seal_new) (j_leaves journal_new) (k_leaves new_new)
    order_behind back failed left = record {
      step = inr (record {
        older = failed.is_marked.kept;
        newer = record { step = inr (inl (record { journal = left; seal = failed.is_sealed.kept })) };
      });
    }

    pub order_closing : (back : Option (List ℕ)) (mid : K) → IsReplaced s_failures s_named s_leaves mark seal_old seal_new
        → IsReplaced j_failures j_named j_leaves text journal_old journal_new → IsReplaced k_failures k_named k_leaves both new_old mid
        → OldOr alone (k_leaves mid) (k_leaves new_new)
        → InHandOrder mark back both text alone (s_leaves seal_old) (j_leaves journal_old) (k_leaves new_old)
        (s_leaves seal_new) (j_leaves journal_new) (k_leaves new_new)
    order_closing back mid marked put sealed left = record {
      step = inr (record {
        older = marked.kept;
        newer = record { step = inr (inr (record { journal = put.kept; seal = λ c stands. pick c (left c stands) })) };
      });
    }
      where
        pick : (c : List ℕ) → k_leaves mid c ⊎ (c ≡ alone) → (c ≡ both) ⊎ (c ≡ alone)
        pick c (inl was) = inl (sealed.kept c was)
        pick c (inr is) = inr is

    pub handed : (mid : K) → IsReplaced s_failures s_named s_leaves mark seal_old seal_new
        → IsReplaced j_failures j_named j_leaves text journal_old journal_new → IsReplaced k_failures k_named k_leaves both new_old mid
        → IsReplaced k_failures k_named k_leaves alone mid new_new
        → AreHanded s_failures s_named s_leaves mark text alone seal_old seal_new (j_named journal_old) (j_named journal_new)
        (k_named new_old) (k_named new_new) (j_leaves journal_new) (k_leaves new_new)
    handed mid marked put sealed last = record {
      is_marked = marked;
      in_place = record {
        first = put.is_named;
        kept = put.kept;
        second = last.is_named ∙ ap (λ (k : Option (List ℕ)). replaced_by k alone) sealed.is_named ∙ twice (k_named new_old);
        seal_kept = last.kept;
      };
    }
      where
        twice : (known : Option (List ℕ)) → replaced_by (replaced_by known both) alone ≡ replaced_by known alone
        twice None = refl
        twice (Some xs) = refl

pub handed_over : (handed : Type 0) (report : List ℕ) (out_old out_new : Option (List ℕ)) → handed → Appends out_old out_new report
    → AreHandedOver handed report out_old out_new
handed_over handed report out_old out_new are said = record { are_handed = are; is_said = said }

pub unsaid : {W : Type 0} (handed : Type 0) (failures : W → ℕ) (contents : W → Option (List ℕ)) (report : List ℕ) (out_old out_new : W)
    → handed → Counted failures out_old out_new → TookFront (contents out_old) (contents out_new) report
    → IsUnsaid handed failures contents report out_old out_new
unsaid handed failures contents report out_old out_new are counted begun = record { are_handed = are; counted = counted; begun = begun }
