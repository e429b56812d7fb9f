-- What refuses what was read of the journal refuses the journal.
use Rattle.std.proofs.Common.{◌≡◌, ◌≢◌, ◌≤◌, ℕ, Bool, List, length, Option, Some, None, IfSome, inl, inr, subst, sym}
use Rattle.std.specs.Prelude.{IsTrue, is_some}
use Rattle.ssim_flights.specs.declared.flight.Flight.{Flight as Flown}
use Rattle.seat_limits.specs.Authorised.{authorised_grid}
use Rattle.seat_limits.specs.declared.limit_row.LimitRow.{LimitRow}
use Rattle.seat_nesting.specs.Nesting.{Ladders}
use Rattle.seat_seal.specs.Besides.{IsFaultBeside}
use Rattle.seat_seal.specs.declared.beside.Basis.{Basis}
use Rattle.seat_seal.specs.declared.beside.Beside.{Beside}
use Rattle.seat_desk.specs.Answering.{IsAnswer, IsRefusedAnswer}
use Rattle.seat_desk.specs.AuditDesk.{most_journal_bytes}
use Rattle.seat_desk.specs.Desk.{IsOfInput}
use Rattle.seat_desk.specs.Loading.{IsGround}
use Rattle.seat_desk.specs.Sealing.{Agrees, IsBesideFault, basis_of}
use Rattle.seat_desk.proofs.Sealed.{based, fault_based}
use Rattle.seat_desk.specs.declared.fault.DeskFault.{DeskFault}
use Rattle.seat_desk.specs.declared.fault.DeskFault.TheVariants.{Memory}

-- what follows from what is known of the set and the limits
pub behind_load : (P : List ℕ → List ℕ → Type 0) (R : List ℕ → List ℕ → List ℕ → Type 0)
    (set limits journal : Option (List ℕ)) → ((xs ys zs : List ℕ) → P xs ys → R xs ys zs)
    → IfSome set (λ xs. IfSome limits (λ ys. P xs ys))
    → IfSome set (λ xs. IfSome limits (λ ys. IfSome journal (λ zs. R xs ys zs)))
behind_load P R (Some xs) (Some ys) (Some zs) step p = step xs ys zs p
behind_load P R (Some xs) (Some ys) None step p = tt
behind_load P R (Some xs) None journal step p = tt
behind_load P R None limits journal step p = tt

-- what follows from what is known of the set and the limits, of their digests, and of the journal
if_based : (P : List ℕ → List ℕ → Type 0) (H : Type 0) (B : List ℕ → List ℕ → Type 0) (Q : List ℕ → Type 0)
    (R : List ℕ → List ℕ → List ℕ → Type 0) (set limits journal : Option (List ℕ))
    → ((xs ys zs : List ℕ) → P xs ys → (H → B xs ys) → Q zs → R xs ys zs)
    → IfSome set (λ xs. IfSome limits (λ ys. P xs ys)) → (H → IfSome set (λ xs. IfSome limits (λ ys. B xs ys)))
    → IfSome journal Q
    → IfSome set (λ xs. IfSome limits (λ ys. IfSome journal (λ zs. R xs ys zs)))
if_based P H B Q R (Some xs) (Some ys) (Some zs) step p b q = step xs ys zs p b q
if_based P H B Q R (Some xs) (Some ys) None step p b q = tt
if_based P H B Q R (Some xs) None journal step p b q = tt
if_based P H B Q R None limits journal step p b q = tt

module _ (set limits journal : Option (List ℕ)) (first days : ℕ) (flights : List Flown) (rows : List LimitRow) (grid : Ladders) (bytes slice : List ℕ) (beside : Beside) (basis : Basis) (has_seal : Bool)
    (ground : IfSome set (λ xs. IfSome limits (λ ys. IsGround xs ys first days flights rows)))
    (known : IsTrue has_seal → IfSome set (λ xs. IfSome limits (λ ys. basis ≡ basis_of xs ys first days)))
    (has : has_seal ≡ is_some beside.text) (same : grid ≡ authorised_grid rows flights)
    (whole : IfSome journal (λ zs. bytes ≡ zs)) (within : length bytes ≤ most_journal_bytes) (is_slice : slice ≡ bytes) where
  step : (R : List ℕ → List ℕ → List ℕ → Type 0)
      → ((xs ys : List ℕ) → IsGround xs ys first days flights rows
      → (IsTrue (is_some beside.text) → basis ≡ basis_of xs ys first days) → R xs ys bytes)
      → IfSome set (λ xs. IfSome limits (λ ys. IfSome journal (λ zs. R xs ys zs)))
  step R here =
      if_based (λ xs ys. IsGround xs ys first days flights rows) (IsTrue has_seal) (λ xs ys. basis ≡ basis_of xs ys first days) (λ zs. bytes ≡ zs) R set limits journal
      (λ xs ys zs is b e. subst (λ (l : List ℕ). R xs ys l) e (here xs ys is (λ t. b (subst IsTrue (sym has) t)))) ground known whole

  -- the journal agrees with what stands beside it
  sealed : (xs ys : List ℕ) → IsFaultBeside beside basis slice None
      → (IsTrue (is_some beside.text) → basis ≡ basis_of xs ys first days) → Agrees beside xs ys first days bytes
  sealed xs ys agreed b = record {
    faultless = based beside bytes None basis (basis_of xs ys first days) b
        (subst (λ (l : List ℕ). IsFaultBeside beside basis l None) is_slice agreed);
  }

  pub answer_of : (answers : List Flown → List LimitRow → Ladders → List ℕ → List ℕ → Type 0) (text : List ℕ)
      → IsFaultBeside beside basis slice None → answers flights rows grid bytes text
      → IfSome set (λ xs. IfSome limits (λ ys. IfSome journal (λ zs. IsAnswer answers beside xs ys first days zs text)))
  answer_of answers text agreed is_answer =
      step (λ xs ys zs. IsAnswer answers beside xs ys first days zs text) (λ xs ys is b. record {
        flights = flights;
        rows = rows;
        is_ground = is;
        within = within;
        sealed = sealed xs ys agreed b;
        is_answer = subst (λ (g : Ladders). answers flights rows g bytes text) same is_answer;
      })

  pub refused_of : (refuses : Ladders → DeskFault → List ℕ → Type 0) (fault : DeskFault)
      → IsFaultBeside beside basis slice None → (fault ≢ Memory → refuses grid fault bytes) → IsOfInput fault
      → IfSome set (λ xs. IfSome limits
      (λ ys. IfSome journal (λ zs. IsRefusedAnswer refuses beside xs ys first days zs fault)))
  refused_of refuses fault agreed wrong input =
      let refused : refuses (authorised_grid rows flights) fault bytes = subst (λ (g : Ladders). refuses g fault bytes) same (wrong (λ (e : fault ≡ Memory). subst IsOfInput e input)) in
      step (λ xs ys zs. IsRefusedAnswer refuses beside xs ys first days zs fault) (λ xs ys is b. inr (inr (record {
        flights = flights;
        rows = rows;
        is_ground = is;
        within = within;
        sealed = sealed xs ys agreed b;
        refused = refused;
      })))

  pub unsealed_of : (refuses : Ladders → DeskFault → List ℕ → Type 0) (fault : DeskFault)
      → IsBesideFault beside basis slice fault
      → IfSome set (λ xs. IfSome limits
      (λ ys. IfSome journal (λ zs. IsRefusedAnswer refuses beside xs ys first days zs fault)))
  unsealed_of refuses fault wrong =
      step (λ xs ys zs. IsRefusedAnswer refuses beside xs ys first days zs fault) (λ xs ys is b. inr (inl (record {
        ground = record { flights = flights; rows = rows; is_ground = is };
        within = within;
        is_first = fault_based beside bytes fault basis (basis_of xs ys first days) b (subst (λ (l : List ℕ). IsBesideFault beside basis l fault) is_slice wrong);
      })))
