-- A feed that is lived again.
use Rattle.std.proofs.Common.{◌≡◌, ◌⊎◌, inl, inr, ℕ, ◌+◌, ◌≤◌, Bool, true, false, ◌==◌, ◌&&◌, nat_lt, if◌then◌else◌, List, [], ◌∷◌, ◌++◌, length, take, drop, refl, ap, sym, ◌∙◌, subst, arith, append-nil, append_assoc, length-append, take-append-drop}
use Rattle.std.proofs.lemmas.Bool.Decides.{nat_tests}
use Rattle.std.proofs.lemmas.List.{append_cancel_left}
use Rattle.std.proofs.Math.Seq.{take-append_seam}
use Rattle.seat_journal.specs.declared.entry.Entry.{Entry}
use Rattle.seat_journal.specs.declared.entry.Work.{Work}
use Rattle.seat_nesting.specs.Nesting.{Ladders}
use Rattle.seat_rules.specs.Journal.{calls_of, next_line}
use Rattle.seat_rules.specs.Prefixes.{Begins}
use Rattle.seat_rules.proofs.History.Prefixes.{begins_itself, begins_length, begins_longer, begins_shorter, begins_trans, begins_whole}
use Rattle.desk_calls.specs.Sending.{is_next}
use Rattle.desk_feed.specs.Feeding.{Asking, asked_one_by_one, behind_asking, behind_feed, is_call, place_at, right_if, right_lines, AreSent, Cut, IsLived, IsSent, IsStrange, IsStrangeBy, Lives, LivesBy, LivesNext, LivesThrough}
use Rattle.desk_feed.specs.Laws.{Tested, asking_of, AFeedIsItsJournal, IsVeryBy, LivedAgainBooksNothing, OwnFeedIsNoStranger, RightLinesAreAsked}

begins_taken : (n : ℕ) (xs : List Entry) → Begins (take n xs) xs
begins_taken n xs = record { rest = drop n xs; is = sym (take-append-drop n xs) }

-- a beginning is what is taken of the whole
taken_front : (front whole : List Entry) → Begins front whole → take (length front) whole ≡ front
taken_front front whole b = ap (take (length front)) b.is ∙ take-append_seam front b.rest

take_drop_split : {A : Type 0} (n : ℕ) (xs : List A) → xs ≡ take n xs ++ drop n xs
take_drop_split n xs = sym (take-append-drop n xs)

-- what stands next behind the same lines is the same
next_same : (past ahead : List Entry) (e l : Entry) (whole : List Entry) → Begins (past ++ e ∷ ahead) whole
    → Begins (past ++ l ∷ []) whole → e ≡ l
next_same past ahead e l whole p q =
    let short : length (past ++ l ∷ []) ≤ length (past ++ e ∷ ahead) =
    omega (arith, length-append past (l ∷ []), length-append past (e ∷ ahead)) in
    let b : Begins (past ++ l ∷ []) (past ++ e ∷ ahead) = begins_shorter (past ++ l ∷ []) (past ++ e ∷ ahead) whole q p short in
    let tails : e ∷ ahead ≡ (l ∷ []) ++ b.rest =
    append_cancel_left past (e ∷ ahead) ((l ∷ []) ++ b.rest) (b.is ∙ append_assoc past (l ∷ []) b.rest) in
    cc tails

no_more : (now rest : List Entry) → Begins (now ++ rest) now → rest ≡ []
no_more now [] begins = refl
no_more now (e ∷ rest) begins =
    absurd (omega (arith, begins_length (now ++ e ∷ rest) now begins, length-append now (e ∷ rest)))

module _ {A : Type 0} (grid : Ladders) (cap : ℕ) (asks : A → Asking) (IsVery : A → Work → Type 0) where
  abbrev Behind : List Entry → List A → List Entry
  Behind past feed = behind_feed grid cap asks past feed

  abbrev one : List Entry → A → List Entry
  one past x = behind_asking grid cap past (asks x)

  abbrev line_for : List Entry → A → Entry
  line_for past x = next_line grid past (asks x).session (asks x).asked.call (asks x).asked.work

  -- ---- a line

  one_begins : (past : List Entry) (x : A) → Begins past (one past x)
  one_begins past x = cases (is_next cap (asks x).session past (asks x).asked.call) refl
    where
      cases : (b : Bool) → is_next cap (asks x).session past (asks x).asked.call ≡ b → Begins past (one past x)
      cases true e = rw e (begins_longer past (line_for past x ∷ []))
      cases false e = rw e (begins_itself past)

  -- by a line that is no next call nothing changes
  one_other : (past : List Entry) (x : A) → is_call past (asks x) ≡ false → one past x ≡ past
  one_other past x e = rw e refl

  one_full : (past : List Entry) (x : A) → nat_lt (length past) cap ≡ false → one past x ≡ past
  one_full past x e = cases (is_call past (asks x)) refl
    where
      cases : (b : Bool) → is_call past (asks x) ≡ b → one past x ≡ past
      cases true is = rw (is, e) refl
      cases false is = rw is refl

  one_more : (past : List Entry) (x : A) → is_call past (asks x) ≡ true → nat_lt (length past) cap ≡ true
      → one past x ≡ past ++ line_for past x ∷ []
  one_more past x is room = rw (is, room) refl

  -- ---- a feed

  pub behind_begins : (past : List Entry) (feed : List A) → Begins past (Behind past feed)
  behind_begins past [] = begins_itself past
  behind_begins past (x ∷ feed) =
      begins_trans past (one past x) (Behind (one past x) feed) (one_begins past x) (behind_begins (one past x) feed)

  pub behind_more : (past : List Entry) (xs ys : List A) → Behind past (xs ++ ys) ≡ Behind (Behind past xs) ys
  behind_more past [] ys = refl
  behind_more past (x ∷ xs) ys = behind_more (one past x) xs ys

  behind_full : (past : List Entry) (feed : List A) → nat_lt (length past) cap ≡ false → Behind past feed ≡ past
  behind_full past [] full = refl
  behind_full past (x ∷ feed) full =
      ap (λ (l : List Entry). Behind l feed) (one_full past x full) ∙ behind_full past feed full

  -- ---- lived again

  -- lines that a journal has ahead of what it has come to are those that the feed would make
  ahead_is : (past ahead : List Entry) (e : Entry) (x : A) (feed : List A) → is_call past (asks x) ≡ true
      → Begins (past ++ e ∷ ahead) (Behind past (x ∷ feed)) → (e ≡ line_for past x) × (nat_lt (length past) cap ≡ true)
  ahead_is past ahead e x feed is begins = cases (nat_lt (length past) cap) refl
    where
      cases : (b : Bool) → nat_lt (length past) cap ≡ b → (e ≡ line_for past x) × (nat_lt (length past) cap ≡ true)
      cases true room =
          let here : Begins (past ++ line_for past x ∷ []) (Behind past (x ∷ feed)) =
          subst (λ (l : List Entry). Begins l (Behind past (x ∷ feed))) (one_more past x is room) (behind_begins (one past x) feed) in
          (next_same past ahead e (line_for past x) (Behind past (x ∷ feed)) begins here, room)
      cases false full =
          let long : length (past ++ e ∷ ahead) ≤ length past =
          subst (λ (l : List Entry). length (past ++ e ∷ ahead) ≤ length l) (behind_full past (x ∷ feed) full)
          (begins_length (past ++ e ∷ ahead) (Behind past (x ∷ feed)) begins) in
          absurd (omega (arith, long, length-append past (e ∷ ahead)))

  -- a step: the feed comes to what it would make, and the journal is a beginning of the feed's still
  pub record Steps (past ahead : List Entry) (x : A) (feed : List A) (mid left : List Entry) : Type 0 where
    pub mid_is : mid ≡ one past x
    pub begins : Begins (mid ++ left) (Behind past (x ∷ feed))
    pub same : (mid ++ left ≡ past ++ ahead) ⊎ (left ≡ [])
    pub none : ahead ≡ [] → left ≡ []
    pub longer : length (past ++ ahead) ≤ length (mid ++ left)

  step_same : (past ahead : List Entry) (x : A) (feed : List A) (mid left : List Entry) → one past x ≡ past → mid ≡ past
      → left ≡ ahead → Begins (past ++ ahead) (Behind past (x ∷ feed)) → Steps past ahead x feed mid left
  step_same past ahead x feed mid left same at is begins =
      let whole : mid ++ left ≡ past ++ ahead = ap (λ (l : List Entry). l ++ left) at ∙ ap (λ (l : List Entry). past ++ l) is in
      record {
        mid_is = at ∙ sym same;
        begins = subst (λ (l : List Entry). Begins l (Behind past (x ∷ feed))) (sym whole) begins;
        same = inl whole;
        none = λ h. is ∙ h;
        longer = omega (arith, ap length whole);
      }

  step_next : (past ahead : List Entry) (x : A) (feed : List A) (mid left : List Entry) → is_call past (asks x) ≡ true
      → LivesNext grid cap (asks x) (IsVery x) past ahead mid left → Begins (past ++ ahead) (Behind past (x ∷ feed))
      → Steps past ahead x feed mid left
  step_next past [] x feed mid left is lives begins = record {
    mid_is = lives.0;
    begins = subst (λ (l : List Entry). Begins l (Behind past (x ∷ feed)))
        (sym (ap (λ (l : List Entry). l ++ left) lives.0 ∙ ap (λ (l : List Entry). one past x ++ l) lives.1 ∙ append-nil (one past x)))
        (behind_begins (one past x) feed);
    same = inr lives.1;
    none = λ h. lives.1;
    longer = omega (arith, begins_length past (one past x) (one_begins past x), ap length lives.0, ap length (append-nil past), length-append mid left);
  }
  step_next past (e ∷ ahead) x feed mid left is lives begins =
      let own : (e ≡ line_for past x) × (nat_lt (length past) cap ≡ true) = ahead_is past ahead e x feed is begins in
      let whole : mid ++ left ≡ past ++ e ∷ ahead =
      ap (λ (l : List Entry). l ++ left) lives.1 ∙ ap (λ (l : List Entry). (past ++ e ∷ []) ++ l) lives.2
      ∙ append_assoc past (e ∷ []) ahead in
      record {
        mid_is = lives.1 ∙ ap (λ (d : Entry). past ++ d ∷ []) own.0 ∙ sym (one_more past x is own.1);
        begins = subst (λ (l : List Entry). Begins l (Behind past (x ∷ feed))) (sym whole) begins;
        same = inl whole;
        none = λ h. absurd (cc h);
        longer = omega (arith, ap length whole);
      }

  pub step : (past ahead : List Entry) (x : A) (feed : List A) (mid left : List Entry)
      → Lives grid cap (asks x) (IsVery x) past ahead mid left → Begins (past ++ ahead) (Behind past (x ∷ feed))
      → Steps past ahead x feed mid left
  step past ahead x feed mid left lives begins = cases (is_call past (asks x)) refl
    where
      cases : (b : Bool) → is_call past (asks x) ≡ b → Steps past ahead x feed mid left
      cases true is =
          step_next past ahead x feed mid left is
          (subst (λ (b : Bool). LivesBy b grid cap (asks x) (IsVery x) past ahead mid left) is lives) begins
      cases false is =
          let still : LivesBy false grid cap (asks x) (IsVery x) past ahead mid left =
          subst (λ (b : Bool). LivesBy b grid cap (asks x) (IsVery x) past ahead mid left) is lives in
          step_same past ahead x feed mid left (one_other past x is) still.0 still.1 begins

  -- all of what is sent
  pub record Through (past ahead : List Entry) (feed more : List A) (now rest : List Entry) : Type 0 where
    pub now_is : now ≡ Behind past feed
    pub begins : Begins (now ++ rest) (Behind past (feed ++ more))
    pub same : (now ++ rest ≡ past ++ ahead) ⊎ (rest ≡ [])
    pub none : ahead ≡ [] → rest ≡ []
    pub longer : length (past ++ ahead) ≤ length (now ++ rest)

  pub through : (past ahead : List Entry) (feed more : List A) (now rest : List Entry)
      → LivesThrough grid cap asks IsVery past ahead feed now rest → Begins (past ++ ahead) (Behind past (feed ++ more))
      → Through past ahead feed more now rest
  through past ahead [] more now rest lives begins =
      let whole : now ++ rest ≡ past ++ ahead =
      ap (λ (l : List Entry). l ++ rest) lives.0 ∙ ap (λ (l : List Entry). past ++ l) lives.1 in
      record {
        now_is = lives.0;
        begins = subst (λ (l : List Entry). Begins l (Behind past more)) (sym whole) begins;
        same = inl whole;
        none = λ h. lives.1 ∙ h;
        longer = omega (arith, ap length whole);
      }
  through past ahead (x ∷ feed) more now rest lives begins =
      let mid : List Entry = lives.0 in
      let left : List Entry = lives.1 in
      let here : Steps past ahead x (feed ++ more) mid left = step past ahead x (feed ++ more) mid left lives.2 begins in
      let begun : Begins (mid ++ left) (Behind mid (feed ++ more)) =
      subst (λ (l : List Entry). Begins (mid ++ left) (Behind l (feed ++ more))) (sym here.mid_is) here.begins in
      let on : Through mid left feed more now rest = through mid left feed more now rest lives.3 begun in
      record {
        now_is = on.now_is ∙ ap (λ (l : List Entry). Behind l feed) here.mid_is;
        begins = subst (λ (l : List Entry). Begins (now ++ rest) (Behind l (feed ++ more))) here.mid_is on.begins;
        same = both here.same on.same on.none;
        none = λ h. on.none (here.none h);
        longer = omega (arith, here.longer, on.longer);
      }
    where
      both : {P Q : Type 0} {l m n : List Entry} → (m ≡ n) ⊎ (P) → (l ≡ m) ⊎ Q → (P → Q) → (l ≡ n) ⊎ Q
      both (inl p) (inl q) to = inl (q ∙ p)
      both (inr p) (inl q) to = inr (to p)
      both p (inr q) to = inr q

  -- to its end: nothing is ahead then
  through_whole : (past ahead : List Entry) (feed : List A) (now rest : List Entry)
      → LivesThrough grid cap asks IsVery past ahead feed now rest → Begins (past ++ ahead) (Behind past feed)
      → (now ≡ Behind past feed) × (rest ≡ [])
  through_whole past ahead feed now rest lives begins =
      let is : Through past ahead feed [] now rest =
      through past ahead feed [] now rest lives
      (subst (λ (l : List A). Begins (past ++ ahead) (Behind past l)) (sym (append-nil feed)) begins) in
      let front : Begins (now ++ rest) now =
      subst (λ (l : List Entry). Begins (now ++ rest) l) (ap (Behind past) (append-nil feed) ∙ sym is.now_is) is.begins in
      (is.now_is, no_more now rest front)

  -- ---- sent again

  -- the lines that the journal had where it is sent from, and the others, and what the feed would make of them
  pub record Placed (past : List Entry) (feed : List A) (from : ℕ) (journal : List Entry) : Type 0 where
    pub front_is : take (place_at grid cap asks past feed from) journal ≡ Behind past (take from feed)
    pub begins : Begins (take (place_at grid cap asks past feed from) journal ++ drop (place_at grid cap asks past feed from) journal)
        (Behind (take (place_at grid cap asks past feed from) journal) (drop from feed))
    pub whole_is : Behind (take (place_at grid cap asks past feed from) journal) (drop from feed) ≡ Behind past feed

  pub placed : (past : List Entry) (feed : List A) (from : ℕ) (journal : List Entry)
      → place_at grid cap asks past feed from ≤ length journal → Begins journal (Behind past feed) → Placed past feed from journal
  placed past feed from journal come begins =
      let place : ℕ = place_at grid cap asks past feed from in
      let front : List Entry = Behind past (take from feed) in
      let parts : Behind past feed ≡ Behind front (drop from feed) =
      ap (Behind past) (take_drop_split from feed) ∙ behind_more past (take from feed) (drop from feed) in
      let ahead : Begins front (Behind past feed) =
      subst (λ (l : List Entry). Begins front l) (sym parts) (behind_begins front (drop from feed)) in
      let here : Begins front journal = begins_shorter front journal (Behind past feed) ahead begins come in
      let taken : take place journal ≡ front = taken_front front journal here in
      let whole : Behind (take place journal) (drop from feed) ≡ Behind past feed =
      ap (λ (l : List Entry). Behind l (drop from feed)) taken ∙ sym parts in
      record {
        front_is = taken;
        begins = subst (λ (l : List Entry). Begins l (Behind (take place journal) (drop from feed))) (take_drop_split place journal)
            (subst (λ (l : List Entry). Begins journal l) (sym whole) begins);
        whole_is = whole;
      }

  pub lived : (past : List Entry) (feed : List A) (from count : ℕ) (journal now rest : List Entry)
      → IsLived grid cap asks IsVery past feed from (take count (drop from feed)) journal now rest → Begins journal (Behind past feed)
      → Through (take (place_at grid cap asks past feed from) journal) (drop (place_at grid cap asks past feed from) journal)
      (take count (drop from feed)) (drop count (drop from feed)) now rest
  lived past feed from count journal now rest is begins =
      let place : ℕ = place_at grid cap asks past feed from in
      let at : Placed past feed from journal = placed past feed from journal is.come begins in
      through (take place journal) (drop place journal) (take count (drop from feed)) (drop count (drop from feed)) now rest is.lives
      (subst (λ (l : List A). Begins (take place journal ++ drop place journal) (Behind (take place journal) l))
      (take_drop_split count (drop from feed)) at.begins)

  -- the journal stays a beginning of the feed's
  sent_begins : (past : List Entry) (feed : List A) (cut : Cut) (journal next : List Entry)
      → IsSent grid cap asks IsVery past feed cut journal next → Begins journal (Behind past feed) → Begins next (Behind past feed)
  sent_begins past feed cut journal next is begins =
      let place : ℕ = place_at grid cap asks past feed cut.from in
      let rest : List A = drop cut.from feed in
      let at : Placed past feed cut.from journal = placed past feed cut.from journal is.lived.come begins in
      let on = lived past feed cut.from cut.count journal is.now is.rest is.lived begins in
      let whole : Begins (is.now ++ is.rest) (Behind past feed) =
      subst (λ (l : List Entry). Begins (is.now ++ is.rest) l)
      (ap (Behind (take place journal)) (sym (take_drop_split cut.count rest)) ∙ at.whole_is) on.begins in
      subst (λ (l : List Entry). Begins l (Behind past feed)) (sym is.left)
      (begins_trans (take cut.left (is.now ++ is.rest)) (is.now ++ is.rest) (Behind past feed) (begins_taken cut.left (is.now ++ is.rest)) whole)

  pub all_sent : (past : List Entry) (feed : List A) (cuts : List Cut) (journal next : List Entry)
      → AreSent grid cap asks IsVery past feed cuts journal next → Begins journal (Behind past feed) → Begins next (Behind past feed)
  all_sent past feed [] journal next is begins = subst (λ (l : List Entry). Begins l (Behind past feed)) (sym is) begins
  all_sent past feed (cut ∷ cuts) journal next is begins =
      all_sent past feed cuts is.0 next is.2 (sent_begins past feed cut journal is.0 is.1 begins)

  pub to_its_end : (past : List Entry) (feed : List A) (from : ℕ) (journal now rest : List Entry)
      → IsLived grid cap asks IsVery past feed from (drop from feed) journal now rest → Begins journal (Behind past feed)
      → (now ≡ Behind past feed) × (rest ≡ [])
  to_its_end past feed from journal now rest is begins =
      let place : ℕ = place_at grid cap asks past feed from in
      let at : Placed past feed from journal = placed past feed from journal is.come begins in
      let on = through_whole (take place journal) (drop place journal) (drop from feed) now rest is.lives at.begins in
      (on.0 ∙ at.whole_is, on.1)

  -- what is there is not booked again
  pub books_nothing : (past : List Entry) (feed : List A) (from count : ℕ) (journal now rest : List Entry)
      → IsLived grid cap asks IsVery past feed from (take count (drop from feed)) journal now rest → Begins journal (Behind past feed)
      → length now ≤ length journal → now ++ rest ≡ journal
  books_nothing past feed from count journal now rest is begins short = cases on.same
    where
      place : ℕ
      place = place_at grid cap asks past feed from

      at : Placed past feed from journal
      at = placed past feed from journal is.come begins

      on : Through (take place journal) (drop place journal) (take count (drop from feed)) (drop count (drop from feed)) now rest
      on = lived past feed from count journal now rest is begins

      whole : Begins (now ++ rest) (Behind past feed)
      whole =
          subst (λ (l : List Entry). Begins (now ++ rest) l)
          (ap (Behind (take place journal)) (sym (take_drop_split count (drop from feed))) ∙ at.whole_is) on.begins

      cases : (now ++ rest ≡ take place journal ++ drop place journal) ⊎ (rest ≡ []) → now ++ rest ≡ journal
      cases (inl same) = same ∙ take-append-drop place journal
      cases (inr none) =
          let few : length (now ++ rest) ≤ length journal =
          omega (arith, short, ap length (ap (λ (l : List Entry). now ++ l) none ∙ append-nil now)) in
          let many : length journal ≤ length (now ++ rest) =
          omega (arith, on.longer, ap length (take-append-drop place journal)) in
          begins_whole (now ++ rest) journal (begins_shorter (now ++ rest) journal (Behind past feed) whole begins few) many

  -- ---- strangers

  stranger_by : (past ahead : List Entry) (x : A) (more : List A) → is_call past (asks x) ≡ true
      → Begins (past ++ ahead) (Behind past (x ∷ more)) → IsVery x (asks x).asked.work
      → IsStrangeBy true (asks x) (IsVery x) ahead → ⊥
  stranger_by past [] x more is begins very strange = strange
  stranger_by past (e ∷ ahead) x more is begins very strange =
      let own : e ≡ line_for past x = (ahead_is past ahead e x more is begins).0 in
      strange (record {
        own = ap (λ (d : Entry). d.session) own;
        very = subst (IsVery x) (sym (ap (λ (d : Entry). d.work) own)) very;
      })

  no_stranger : (past ahead : List Entry) (x : A) (more : List A) → Begins (past ++ ahead) (Behind past (x ∷ more))
      → IsVery x (asks x).asked.work → IsStrange (asks x) (IsVery x) past ahead → ⊥
  no_stranger past ahead x more begins very strange = cases (is_call past (asks x)) refl
    where
      cases : (b : Bool) → is_call past (asks x) ≡ b → ⊥
      cases true is =
          stranger_by past ahead x more is begins very
          (subst (λ (b : Bool). IsStrangeBy b (asks x) (IsVery x) ahead) is strange)
      cases false is = subst (λ (b : Bool). IsStrangeBy b (asks x) (IsVery x) ahead) is strange

  pub own_is_no_stranger : (past : List Entry) (feed : List A) (from count : ℕ) (journal now rest : List Entry) (x : A) (more : List A)
      → IsLived grid cap asks IsVery past feed from (take count (drop from feed)) journal now rest → Begins journal (Behind past feed)
      → drop count (drop from feed) ≡ x ∷ more → IsVery x (asks x).asked.work
      → IsStrange (asks x) (IsVery x) now rest → ⊥
  own_is_no_stranger past feed from count journal now rest x more is begins next very strange =
      let place : ℕ = place_at grid cap asks past feed from in
      let on = lived past feed from count journal now rest is begins in
      let there : Behind (take place journal) (take count (drop from feed) ++ drop count (drop from feed)) ≡ Behind now (x ∷ more) =
      behind_more (take place journal) (take count (drop from feed)) (drop count (drop from feed))
      ∙ ap (λ (l : List Entry). Behind l (drop count (drop from feed))) (sym on.now_is) ∙ ap (Behind now) next in
      no_stranger now rest x more (subst (λ (l : List Entry). Begins (now ++ rest) l) there on.begins) very strange

-- ---- the laws

right_one : (grid : Ladders) (past : List Entry) (b c : Bool) (a : Asking) → (a.asked.call == calls_of past a.session + 1) ≡ b
    → asked_one_by_one grid past (right_if (b && c) a)
    ≡ (if b && c then past ++ next_line grid past a.session a.asked.call a.asked.work ∷ [] else past)
right_one grid past true true a e =
    let here : calls_of past a.session + 1 ≡ a.asked.call = grind (arith, nat_tests) in
    ap (λ (n : ℕ). past ++ next_line grid past a.session n a.asked.work ∷ []) here
right_one grid past true false a e = refl
right_one grid past false c a e = refl

one_by_one_more : (grid : Ladders) (past : List Entry) (xs ys : List Asking)
    → asked_one_by_one grid past (xs ++ ys) ≡ asked_one_by_one grid (asked_one_by_one grid past xs) ys
one_by_one_more grid past [] ys = refl
one_by_one_more grid past (x ∷ xs) ys =
    one_by_one_more grid (past ++ next_line grid past x.session (calls_of past x.session + 1) x.asked.work ∷ []) xs ys

pub right_lines_are_asked : RightLinesAreAsked
right_lines_are_asked grid cap past [] = refl
right_lines_are_asked grid cap past (a ∷ feed) =
    let mid : List Entry = behind_asking grid cap past a in
    let first : asked_one_by_one grid past (right_if (is_next cap a.session past a.asked.call) a) ≡ mid =
    right_one grid past (a.asked.call == calls_of past a.session + 1) (nat_lt (length past) cap) a refl in
    right_lines_are_asked grid cap mid feed
    ∙ ap (λ (l : List Entry). asked_one_by_one grid l (right_lines grid cap (λ (x : Asking). x) mid feed)) (sym first)
    ∙ sym (one_by_one_more grid past (right_if (is_next cap a.session past a.asked.call) a) (right_lines grid cap (λ (x : Asking). x) mid feed))

begun : (grid : Ladders) (cap : ℕ) (past : List Entry) (feed : List Tested) (cuts : List Cut) (journal : List Entry)
    → AreSent grid cap asking_of IsVeryBy past feed cuts past journal → Begins journal (behind_feed grid cap asking_of past feed)
begun grid cap past feed cuts journal sent =
    all_sent grid cap asking_of IsVeryBy past feed cuts past journal sent (behind_begins grid cap asking_of IsVeryBy past feed)

pub a_feed_is_its_journal : AFeedIsItsJournal
a_feed_is_its_journal grid cap past feed cuts journal from now rest sent is =
    to_its_end grid cap asking_of IsVeryBy past feed from journal now rest is (begun grid cap past feed cuts journal sent)

pub lived_again_books_nothing : LivedAgainBooksNothing
lived_again_books_nothing grid cap past feed cuts journal from count now rest sent is short =
    books_nothing grid cap asking_of IsVeryBy past feed from count journal now rest is (begun grid cap past feed cuts journal sent) short

pub own_feed_is_no_stranger : OwnFeedIsNoStranger
own_feed_is_no_stranger grid cap past feed cuts journal from count now rest x more sent is next very strange =
    own_is_no_stranger grid cap asking_of IsVeryBy past feed from count journal now rest x more is
    (begun grid cap past feed cuts journal sent) next very strange
