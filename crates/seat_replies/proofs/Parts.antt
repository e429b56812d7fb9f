-- The replies, part by part.
use Rattle.std.proofs.Common.{◌≡◌, ℕ, zero, suc, ◌+◌, ◌-◌, ◌<◌, ◌≤◌, List, [], ◌∷◌, ◌++◌, length, take, drop, refl, sym, ap, ◌∙◌, subst, arith, append_assoc, zero-add, get_or, Option, Some, None, codes}
use Rattle.seat_replies.proofs.Common.{slice_get, option_map, Request, Segment, Advice, Change, Entry, behind}
use Rattle.std.specs.Prelude.{slice_index}
use Rattle.std.proofs.lemmas.Option.{slice_get_read}
use Rattle.airimp_lines.specs.Grammar.{IsPlainLine, reply_of}
use Rattle.ssim_flights.specs.declared.flight.Flight.{Flight as Flown}
use Rattle.seat_journal.specs.declared.entry.Work.TheVariants.{Limit, Sale}
use Rattle.seat_journal.specs.declared.entry.SaleChange.{SaleChange}
use Rattle.seat_desk.specs.FlightsDesk.{IsPut, IsText}
use Rattle.seat_replies.specs.declared.replies.Answered.{Answered}
use Rattle.seat_replies.specs.Answering.{AreAllAnswerable, AreAnswerable, AreBooked, IsAnswerable, IsBehind, IsBooked}
use Rattle.seat_replies.specs.RunDesk.{AreSessions, IsAdviceLine, IsAnswer, IsLineReply, IsReply, IsSeatsReply, at_any, booked_by, change_reply, made_by, of_command, of_request, of_work, reply_head, requests_of, sale_reply}
use Rattle.seat_desk.proofs.Texts.{assoc_four, put_more, text_whole}

-- ---- what can be answered

behind_count : (counts : List ℕ) (lists : List (List Entry)) → length lists ≤ length counts
    → length (behind counts lists) ≡ length lists
behind_count [] [] le = refl
behind_count (c ∷ counts) [] le = refl
behind_count [] (l ∷ lists) le = absurd (omega (arith, le))
behind_count (c ∷ counts) (l ∷ lists) le = ap suc (behind_count counts lists (omega (arith, le)))

behind_at : (counts : List ℕ) (lists : List (List Entry)) (i : ℕ) (lines d : List Entry) → length lists ≤ length counts
    → i < length lists
    → lines ≡ get_or lists i lines → drop (slice_index counts i) lines ≡ get_or (behind counts lists) i d
behind_at counts [] i lines d le lt there = absurd (omega (arith, lt))
behind_at [] (l ∷ lists) i lines d le lt there = absurd (omega (arith, le))
behind_at (k ∷ counts) (l ∷ lists) zero lines d le lt there = ap (λ (xs : List Entry). drop k xs) there
behind_at (k ∷ counts) (l ∷ lists) (suc i) lines d le lt there = behind_at counts lists i lines d (omega (arith, le)) (omega (arith, lt)) there

-- the lines of the session at this place that stand behind the past
pub session_answerable : (flights : List Flown) (scripts : List (List Request)) (history : List Entry) (counts : List ℕ)
    (lists : List (List Entry)) (i : ℕ) (lines added : List Entry)
    → AreAllAnswerable flights scripts history (behind counts lists) → length lists ≤ length counts → i < length lists
    → lines ≡ get_or lists i lines → added ≡ drop (slice_index counts i) lines
    → AreAnswerable flights (requests_of scripts i) history added
session_answerable flights scripts history counts lists i lines added all le lt there is =
    all.each i added (slice_get_read (behind counts lists) (length lists) i added (sym (behind_count counts lists le)) lt (is ∙ behind_at counts lists i lines added le lt there))

pub line_answerable : (flights : List Flown) (requests : List Request) (history lines : List Entry) (i : ℕ) (e : Entry)
    → AreAnswerable flights requests history lines → i < length lines → e ≡ get_or lines i e
    → IsAnswerable flights requests history i e
line_answerable flights requests history lines i e all in_range here = all.each i e (slice_get_read lines (length lines) i e refl in_range here)

pub advice_booked : (flights : List Flown) (history : List Entry) (advices : List Advice) (i : ℕ) (a : Advice)
    → AreBooked flights history advices → i < length advices → a ≡ get_or advices i a
    → IsBooked flights history a.number
advice_booked flights history advices i a all in_range here = subst (λ (x : Advice). IsBooked flights history x.number) (sym here) (all.each i a in_range)

-- ---- bookings

pub booked_line : (flights : List Flown) (history : List Entry) (number : ℕ) (line : Entry) (answered : Option Answered)
    → IsBooked flights history number → line ≡ get_or history (number - 1) line → answered ≡ of_work flights line.work
    → answered ≡ booked_by flights history number
booked_line flights history number line answered b here said =
    let in_range : number - 1 < length history = omega (arith, b.within.0, b.within.1) in
    let read : slice_get history (number - 1) ≡ Some line = slice_get_read history (length history) (number - 1) line refl in_range here in
    said ∙ sym (ap (made_by flights) read)

-- each booking is there
pub booked_there : (flights : List Flown) (history : List Entry) (number : ℕ) → IsBooked flights history number
    → booked_by flights history number ≡ None → ⊥
booked_there flights history number b none =
    let made : of_work flights b.line.work ≡ None = sym (ap (made_by flights) b.at) ∙ none in
    let segment : of_command flights b.command ≡ Some (record { locator = b.command.locator; segment = b.segment }) = ap (option_map (λ (s : Segment). record { locator = b.command.locator; segment = s })) b.flown in
    let work : of_work flights b.line.work ≡ of_command flights b.command = ap (of_work flights) b.work_is in
    cc (made, work, segment)

-- ---- parts

pub line_behind : (s : Segment) (old new part : List ℕ) → IsPlainLine s part → new ≡ old ++ part
    → IsBehind (IsPlainLine s) old new
line_behind s old new part line added = record { part = part; is_part = line; written = added }

pub reply_put : (e : Entry) (answered : Answered) (code : List ℕ) (seats : ℕ) (old head mid new : List ℕ)
    → head ≡ old ++ reply_head e answered → IsBehind (IsPlainLine (reply_of answered.segment code seats)) head mid
    → new ≡ mid ++ 10 ∷ []
    → IsBehind (IsReply e answered code seats) old new
reply_put e answered code seats old head mid new begun line ended = record {
  part = reply_head e answered ++ line.part ++ 10 ∷ [];
  is_part = record { text = line.part; is_text = line.is_part; written = refl };
  written = ended ∙ (ap (λ (l : List ℕ). l ++ 10 ∷ []) (line.written ∙ ap (λ (l : List ℕ). l ++ line.part) begun) ∙ assoc_four old (reply_head e answered) line.part (10 ∷ []));
}

pub advices_more : (flights : List Flown) (history : List Entry) (e : Entry) (i : ℕ) (xs : List Advice) (a : Advice)
    (old mid new : List ℕ)
    → IsPut (at_any (IsAdviceLine flights history e)) 0 (take i xs) old mid → i < length xs → a ≡ get_or xs i a
    → IsBehind (IsAdviceLine flights history e a) mid new
    → IsPut (at_any (IsAdviceLine flights history e)) 0 (take (i + 1) xs) old new
advices_more flights history e i xs a old mid new put in_range here behind =
    put_more (at_any (IsAdviceLine flights history e)) 0 i xs a old mid new behind.part put in_range here behind.is_part behind.written

pub answers_more : (flights : List Flown) (requests : List Request) (history : List Entry) (i : ℕ) (xs : List Entry)
    (e : Entry) (old mid new : List ℕ)
    → IsPut (IsAnswer flights requests history) 0 (take i xs) old mid → i < length xs → e ≡ get_or xs i e
    → IsBehind (IsAnswer flights requests history i e) mid new
    → IsPut (IsAnswer flights requests history) 0 (take (i + 1) xs) old new
answers_more flights requests history i xs e old mid new put in_range here answer =
    put_more (IsAnswer flights requests history) 0 i xs e old mid new answer.part put in_range here
    (subst (λ (k : ℕ). IsAnswer flights requests history k e answer.part) (sym (zero-add i)) answer.is_part) answer.written

pub sessions_more : (flights : List Flown) (scripts : List (List Request)) (history : List Entry) (counts : List ℕ)
    (lists : List (List Entry)) (i : ℕ) (lines added : List Entry) (old mid new : List ℕ)
    → IsPut (AreSessions flights scripts history) 0 (take i (behind counts lists)) old mid
    → length lists ≤ length counts → i < length lists
    → lines ≡ get_or lists i lines → added ≡ drop (slice_index counts i) lines
    → IsPut (IsAnswer flights (requests_of scripts i) history) 0 added mid new
    → IsPut (AreSessions flights scripts history) 0 (take (i + 1) (behind counts lists)) old new
sessions_more flights scripts history counts lists i lines added old mid new put le in_range there is part =
    put_more (AreSessions flights scripts history) 0 i (behind counts lists) added old mid new part.part put
    (omega (arith, in_range, behind_count counts lists le)) (is ∙ behind_at counts lists i lines added le in_range there)
    (subst (λ (k : ℕ). AreSessions flights scripts history k added part.part) (sym (zero-add i)) part.is_text) part.written

-- the text is whole where all sessions are answered
pub sessions_whole : (flights : List Flown) (scripts : List (List Request)) (history : List Entry) (counts : List ℕ)
    (i : ℕ) (lists : List (List Entry)) (new : List ℕ)
    → IsPut (AreSessions flights scripts history) 0 (take i (behind counts lists)) [] new → length lists ≤ length counts
    → length lists ≤ i
    → IsText (AreSessions flights scripts history) 0 (behind counts lists) new
sessions_whole flights scripts history counts i lists new put le over =
    text_whole (AreSessions flights scripts history) 0 i (length lists) (behind counts lists) new put (sym (behind_count counts lists le)) over

-- the reply to a request, and to a change
pub seats_put : (requests : List Request) (place : ℕ) (e : Entry) (request : Request) (old new : List ℕ)
    → place < length requests → request ≡ get_or requests place request
    → IsBehind (IsReply e (of_request request) e.reply request.segment.seats) old new
    → IsBehind (IsSeatsReply requests place e) old new
seats_put requests place e request old new in_range here reply = record {
  part = reply.part;
  is_part = record { request = request; requested = slice_get_read requests (length requests) place request refl in_range here; is_reply = reply.is_part };
  written = reply.written;
}

pub change_put : (requests : List Request) (place : ℕ) (e : Entry) (change : Change) (old new : List ℕ)
    → new ≡ old ++ change_reply e change → IsBehind (IsLineReply requests place e (Limit change)) old new
change_put requests place e change old new written = record { part = change_reply e change; is_part = refl; written = written }

pub sale_put : (requests : List Request) (place : ℕ) (e : Entry) (change : SaleChange) (old new : List ℕ)
    → new ≡ old ++ sale_reply e change → IsBehind (IsLineReply requests place e (Sale change)) old new
sale_put requests place e change old new written = record { part = sale_reply e change; is_part = refl; written = written }

-- a reply and its advices
pub answer_put : (flights : List Flown) (requests : List Request) (history : List Entry) (place : ℕ) (e : Entry)
    (old mid new : List ℕ)
    → IsBehind (IsLineReply requests place e e.work) old mid
    → IsPut (at_any (IsAdviceLine flights history e)) 0 e.advices mid new
    → IsBehind (IsAnswer flights requests history place e) old new
answer_put flights requests history place e old mid new reply put = record {
  part = reply.part ++ put.part;
  is_part = record {
    line = reply.part;
    advices = put.part;
    is_reply = reply.is_part;
    are_advices = put.is_text;
    written = refl;
  };
  written = put.written ∙ ap (λ (l : List ℕ). l ++ put.part) reply.written ∙ append_assoc old reply.part put.part;
}

pub advice_put : (flights : List Flown) (history : List Entry) (e : Entry) (a : Advice) (answered : Answered)
    (old new : List ℕ)
    → booked_by flights history a.number ≡ Some answered → IsBehind (IsReply e answered (codes "KL") a.seats) old new
    → IsBehind (IsAdviceLine flights history e a) old new
advice_put flights history e a answered old new booked reply = record {
  part = reply.part;
  is_part = record { answered = answered; booked = booked; is_reply = reply.is_part };
  written = reply.written;
}
