-- The receipts of all sessions beside the journal.
use Rattle.std.specs.Prelude.{◌≡◌, ℕ, zero, suc, ◌<◌, ◌≤◌, Option, Some, None, List, [], length, slice_get}
use Rattle.std.specs.List.{sum_by, slice_index_or}
use Rattle.seat_journal.specs.declared.entry.Entry.{Entry}
use Rattle.seat_rules.specs.declared.totals.Totals.{Totals}
use Rattle.seat_rules.specs.Totals.{confirmed_by, released_by}

-- the nth entry, from 1
abbrev pub nth : List Entry → ℕ → Option Entry
nth entries zero = None
nth entries (suc n) = slice_get entries n

-- the receipts of a session, which are the manager's at 0
abbrev pub receipts_of : List (List Entry) → ℕ → List Entry
receipts_of lists session = slice_index_or lists session []

-- the receipt of a session's call
abbrev pub receipt_of : List (List Entry) → ℕ → ℕ → Option Entry
receipt_of lists session call = nth (receipts_of lists session) call

-- how many receipts there are
abbrev pub receipts_in : List (List Entry) → ℕ
receipts_in lists = sum_by (λ (receipts : List Entry). length receipts) lists

-- what the receipts come to
abbrev pub totals_in : List (List Entry) → Totals
totals_in lists = record {
  lines = receipts_in lists;
  confirmed = sum_by (λ (receipts : List Entry). sum_by confirmed_by receipts) lists;
  released = sum_by (λ (receipts : List Entry). sum_by released_by receipts) lists;
}

-- the line of this number is the receipt of its session and call
pub record HasReceipt (lists : List (List Entry)) (journal : List Entry) (number : ℕ) : Type 0 where
  pub line : Entry
  pub is : nth journal number ≡ Some line
  pub numbered : line.number ≡ number
  pub receipt : receipt_of lists line.session line.call ≡ Some line

-- this receipt of a session's call is the line of its number
pub record HasLine (journal : List Entry) (session call : ℕ) (receipt : Entry) : Type 0 where
  pub session_is : receipt.session ≡ session
  pub call_is : receipt.call ≡ call
  pub line : nth journal receipt.number ≡ Some receipt

-- each line is the receipt of its session and call, and each receipt is the line of its number
pub record Agrees (lists : List (List Entry)) (journal : List Entry) : Type 0 where
  pub lines : (number : ℕ) → 0 < number → number ≤ length journal → HasReceipt lists journal number
  pub receipts : (session call : ℕ) (receipt : Entry) → receipt_of lists session call ≡ Some receipt
      → HasLine journal session call receipt
