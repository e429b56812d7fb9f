-- Talks, one piece behind the other.
use Rattle.std.proofs.Common.{◌≡◌, ⊎_elim, inl, inr, ℕ, ◌+◌, ◌<◌, ◌≤◌, Bool, true, false, List, [], ◌∷◌, ◌++◌, length, take, get_or, refl, ap, sym, ◌∙◌, subst, arith, append_assoc, append-nil, drop, take-append-drop}
use Rattle.std.specs.Prelude.{◌⊎◌, Option, Some, None, IfSome, IfOk, OnErr, Result, Ok, Err}
use Rattle.std.specs.Io.KnownBytes.{Appends, Consumes, IsAtEnd}
use Rattle.std.proofs.KnownBytes.{Appends-nil, Appends-trans, Consumes-nil, Consumes-trans}
use Rattle.std.proofs.lemmas.List.{take_all, take_more}
use Rattle.seat_journal.specs.declared.entry.Entry.{Entry}
use Rattle.seat_rules.specs.Prefixes.{Begins}
use Rattle.seat_disk.specs.Growing.{HasFront, KeepsFront}
use Rattle.seat_recovery.specs.OpenText.{open_text}
use Rattle.seat_serving.proofs.Holding.{seen_kept}
use Rattle.desk_answers.specs.FaultLines.{memory_line}
use Rattle.desk_answers.specs.Hosts.{Attended, IsReady}
use Rattle.desk_answers.specs.Saying.{IsCounted, IsUntold}
use Rattle.desk_talk.specs.declared.talk_fault.TalkFault.{TalkFault}
use Rattle.desk_talk.specs.Talks.{held, EndsUntold, IsEnd, IsHeld, IsSameHost, IsSpoken, IsTalk, IsTold, IsWanting, Reads, Talked, TalksOn, TellsOf, Turns}
use Rattle.desk_answers.specs.Ready.{IsReadyLine}
use Rattle.seat_rules.specs.Journal.{calls_of}
use Rattle.airline_base.specs.Lines.{is_line_feed}
use Rattle.std.proofs.lemmas.Bool.Decides.{nat_tests}

module _ {D : Type 0} where
  -- the three ways in which a byte goes on
  abbrev Holds : Attended D → List ℕ → ℕ → List ℕ → Attended D → List ℕ → Bool → List ℕ → Type 0
  Holds old before c bytes new after stays text = IsHeld c × Talked old (held (before ++ c ∷ [])) bytes new after stays text

  abbrev Tells : Attended D → List ℕ → ℕ → List ℕ → Attended D → List ℕ → Bool → List ℕ → Type 0
  Tells old before c bytes new after stays text = (mid : Attended D) × (first more : List ℕ) × IsEnd c × IsTold old mid (held (before ++ c ∷ [])) true first × Talked mid [] bytes new after stays more × (text ≡ first ++ more)

  abbrev Goes : Attended D → List ℕ → ℕ → Attended D → List ℕ → Bool → List ℕ → Type 0
  Goes old before c new after stays text = IsEnd c × IsTold old new (held (before ++ c ∷ [])) false text × (after ≡ []) × (stays ≡ false)

  -- the host stays the same
  pub same_host : (old new : Attended D) → (new.flights ≡ old.flights) × (new.session ≡ old.session)
      × (new.serving.grid ≡ old.serving.grid) × (new.serving.cap ≡ old.serving.cap) → IsSameHost old new
  same_host old new same = record { flights_are = same.0; session_is = same.1; grid_is = same.2; cap_is = same.3 }

  same_on : (old mid new : Attended D) → IsSameHost old mid → IsSameHost mid new → IsSameHost old new
  same_on old mid new a b = record {
    flights_are = b.flights_are ∙ a.flights_are;
    session_is = b.session_is ∙ a.session_is;
    grid_is = b.grid_is ∙ a.grid_is;
    cap_is = b.cap_is ∙ a.cap_is;
  }

  told_same : (old new : Attended D) (line : List ℕ) (stays : Bool) (text : List ℕ) → IsTold old new line stays text
      → IsSameHost old new
  told_same old new line stays text told =
      ⊎_elim (λ (s : IsSpoken old new line stays text). s.same_host) (λ (w : IsWanting old new line stays text). w.same_host) told

  pub talked_same : (old new : Attended D) (before after bytes told : List ℕ) (stays : Bool)
      → Talked old before bytes new after stays told → IsSameHost old new
  talked_same old new before after [] told stays one =
      subst (λ (h : Attended D). IsSameHost old h) (sym one.0) (same_host old old (refl, refl, refl, refl))
  talked_same old new before after (c ∷ xs) told stays one =
      ⊎_elim
      (λ (h : Holds old before c xs new after stays told). talked_same old new (held (before ++ c ∷ [])) after xs told stays h.1)
      (λ (r : Tells old before c xs new after stays told ⊎ Goes old before c new after stays told).
      ⊎_elim
      (λ (t : Tells old before c xs new after stays told).
      same_on old t.0 new (told_same old t.0 (held (before ++ c ∷ [])) true t.1 t.4) (talked_same t.0 new [] after xs t.2 stays t.5))
      (λ (g : Goes old before c new after stays told). told_same old new (held (before ++ c ∷ [])) false told g.1)
      r)
      one

  -- a talk that goes on, and then another
  pub talked_more : (old mid new : Attended D) (before between after xs ys told more : List ℕ) (stays : Bool)
      → Talked old before xs mid between true told → Talked mid between ys new after stays more
      → Talked old before (xs ++ ys) new after stays (told ++ more)
  talked_more old mid new before between after [] ys told more stays one two =
      let here : Talked old between ys new after stays more = subst (λ (a : Attended D). Talked a between ys new after stays more) one.0 two in
      let from : Talked old before ys new after stays more = subst (λ (b : List ℕ). Talked old b ys new after stays more) one.1 here in
      subst (λ (t : List ℕ). Talked old before ys new after stays t) (ap (λ (t : List ℕ). t ++ more) (sym one.3)) from
  talked_more old mid new before between after (c ∷ xs) ys told more stays one two =
      ⊎_elim
      (λ (h : Holds old before c xs mid between true told). inl (h.0, talked_more old mid new (held (before ++ c ∷ [])) between after xs ys told more stays h.1 two))
      (λ (r : Tells old before c xs mid between true told ⊎ Goes old before c mid between true told).
      ⊎_elim
      (λ (t : Tells old before c xs mid between true told).
      inr (inl (
        t.0,
        t.1,
        t.2 ++ more,
        t.3,
        t.4,
        talked_more t.0 mid new [] between after xs ys t.2 more stays t.5 two,
        ap (λ (l : List ℕ). l ++ more) t.6 ∙ append_assoc t.1 t.2 more,
      )))
      (λ (g : Goes old before c mid between true told). absurd (cc (g.3)))
      r)
      one

  -- behind the line with which the desk goes nothing is heard
  pub talked_left : (old new : Attended D) (before after xs ys told : List ℕ) → Talked old before xs new after false told
      → Talked old before (xs ++ ys) new after false told
  talked_left old new before after [] ys told one = absurd (cc (one.2))
  talked_left old new before after (c ∷ xs) ys told one =
      ⊎_elim
      (λ (h : Holds old before c xs new after false told). inl (h.0, talked_left old new (held (before ++ c ∷ [])) after xs ys told h.1))
      (λ (r : Tells old before c xs new after false told ⊎ Goes old before c new after false told).
      ⊎_elim
      (λ (t : Tells old before c xs new after false told).
      inr (inl (t.0, t.1, t.2, t.3, t.4, talked_left t.0 new [] after xs ys t.2 t.5, t.6)))
      (λ (g : Goes old before c new after false told). inr (inr g))
      r)
      one

-- a line that was not told of is the last
pub ends_untold : {D : Type 0} (old new : Attended D) (line : List ℕ) → IsUntold old new line → EndsUntold new
ends_untold old new line untold = record { mid = old; line = line; untold = untold }

pub on_err_any : {T E : Type 0} (r : Result T E) (P : Type 0) → P → OnErr r P
on_err_any (Ok x) P p = tt
on_err_any (Err e) P p = p

pub begins_all : (xs : List Entry) → Begins xs xs
begins_all xs = record { rest = []; is = sym (append-nil xs) }

begins_on : (xs ys zs : List Entry) → Begins xs ys → Begins ys zs → Begins xs zs
begins_on xs ys zs a b = record {
  rest = a.rest ++ b.rest;
  is = b.is ∙ ap (λ (l : List Entry). l ++ b.rest) a.is ∙ append_assoc xs a.rest b.rest;
}

module _ {D : Type 0} (seen : D → Option (List ℕ)) (leaves : D → List ℕ → Type 0) (unsynced failures : D → ℕ) where
  abbrev Talks : Attended D → List ℕ → List ℕ → Attended D → List ℕ → Bool → Option (List ℕ) → Option (List ℕ) → ℕ → ℕ → Type 0
  Talks = TalksOn seen leaves unsynced failures

  -- what a crash leaves of a host that is ready has what it kept
  pub ready_told : (host : Attended D) → IsReady seen leaves unsynced host.serving → KeepsFront (open_text host.serving.kept) (leaves host.serving.tape)
  ready_told host ready = λ c may.
      subst (λ (l : List Entry). HasFront (open_text l) c) (sym ready.kept_is)
      (subst (λ (x : List ℕ). HasFront (open_text host.serving.journal) x) (sym (ready.disk.only c may))
      (record { no_shorter = omega arith; each = λ i lt. refl }))

  -- memory was wanting for a line, which is told where that can be written
  pub wanting_told : (old new : Attended D) (line text : List ℕ) (a b : Option (List ℕ)) (m n : ℕ) (r : Result Bool TalkFault)
      → IfOk r (λ (stays : Bool). (stays ≡ true) × Appends a b text × (n ≡ m)) → text ≡ memory_line new.session new.desk.lines
      → IsSameHost old new → IsCounted old.desk new.desk line → new.serving.journal ≡ old.serving.journal
      → IsReady seen leaves unsynced new.serving → Begins old.serving.kept new.serving.kept
      → failures new.serving.tape ≡ failures old.serving.tape
      → IfOk r (λ (stays : Bool). TellsOf seen leaves unsynced failures old line new stays a b m n)
  wanting_told old new line text a b m n (Err f) said is host counts same ready front counted = tt
  wanting_told old new line text a b m n (Ok stays) said is host counts same ready front counted = record {
    text = text;
    told = inr (record {
      same_host = host;
      counts = counts;
      same = same;
      stays_on = said.0;
      says = is ∙ ap (λ (s : ℕ). memory_line s new.desk.lines) host.session_is;
    });
    written = said.1;
    is_ready = ready;
    grows = front;
    counted = said.2;
    tape_counted = counted;
  }

  -- nothing came yet
  pub talks_none : (old : Attended D) (before : List ℕ) (out : Option (List ℕ)) (n : ℕ) → IsReady seen leaves unsynced old.serving
      → Talks old before [] old before true out out n n
  talks_none old before out n ready = record {
    text = [];
    talked = (refl, refl, refl, refl);
    written = Appends-nil out;
    is_ready = ready;
    grows = begins_all old.serving.kept;
    counted = refl;
    tape_counted = refl;
  }

  -- a byte that is held
  pub byte_held : (old : Attended D) (before after : List ℕ) (byte : ℕ) (out : Option (List ℕ)) (n : ℕ)
      → IsReady seen leaves unsynced old.serving → (byte ≡ 10 → ⊥) → after ≡ held (before ++ byte ∷ [])
      → Talks old before (byte ∷ []) old after true out out n n
  byte_held old before after byte out n ready other is = record {
    text = [];
    talked = let no_end : is_line_feed byte ≡ false = grind (arith, nat_tests) in inl (no_end, (refl, is, refl, refl));
    written = Appends-nil out;
    is_ready = ready;
    grows = begins_all old.serving.kept;
    counted = refl;
    tape_counted = refl;
  }

  ended : (old new : Attended D) (before after text : List ℕ) (byte : ℕ) (stays : Bool) → IsEnd byte
      → IsTold old new (held (before ++ byte ∷ [])) stays text → after ≡ []
      → Talked old before (byte ∷ []) new after stays text
  ended old new before after text byte true end told none = inr (inl (new, text, [], end, told, (refl, none, refl, refl), sym (append-nil text)))
  ended old new before after text byte false end told none = inr (inr (end, told, none, refl))

  -- a byte that ends a line
  pub line_ended : (old new : Attended D) (before line after : List ℕ) (byte : ℕ) (stays : Bool) (a b : Option (List ℕ)) (m n : ℕ)
      → TellsOf seen leaves unsynced failures old line new stays a b m n → byte ≡ 10
      → line ≡ held (before ++ byte ∷ []) → after ≡ []
      → Talks old before (byte ∷ []) new after stays a b m n
  line_ended old new before line after byte stays a b m n tells is whole none = record {
    text = tells.text;
    talked =
        let end : is_line_feed byte ≡ true = grind (arith, nat_tests) in
        ended old new before after tells.text byte stays end (subst (λ (l : List ℕ). IsTold old new l stays tells.text) whole tells.told) none;
    written = tells.written;
    is_ready = tells.is_ready;
    grows = tells.grows;
    counted = tells.counted;
    tape_counted = tells.tape_counted;
  }

  -- what a crash was sure to leave ahead of a talk it still is, where it is of what is kept behind it
  pub told_before : (old mid : Attended D) (before between xs : List ℕ) (now : List ℕ → Type 0) (stays : Bool) (a b : Option (List ℕ)) (m n : ℕ)
      → Talks old before xs mid between stays a b m n → KeepsFront (open_text mid.serving.kept) now
      → KeepsFront (open_text old.serving.kept) now
  told_before old mid before between xs now stays a b m n talks keeps = seen_kept old.serving.kept mid.serving.kept now talks.grows keeps

  -- what was kept ahead of a talk is at the front of what is kept behind it
  pub front_before : (old mid : Attended D) (before between xs : List ℕ) (kept : List Entry) (stays : Bool) (a b : Option (List ℕ)) (m n : ℕ)
      → Talks old before xs mid between stays a b m n → Begins mid.serving.kept kept → Begins old.serving.kept kept
  front_before old mid before between xs kept stays a b m n talks front =
      begins_on old.serving.kept mid.serving.kept kept talks.grows front

  -- and so it is behind the talk
  pub told_behind : (old new : Attended D) (before after xs : List ℕ) (stays : Bool) (a b : Option (List ℕ)) (m n : ℕ)
      → Talks old before xs new after stays a b m n → KeepsFront (open_text old.serving.kept) (leaves new.serving.tape)
  told_behind old new before after xs stays a b m n talks =
      seen_kept old.serving.kept new.serving.kept (leaves new.serving.tape) talks.grows
      (λ c may. subst (λ (l : List Entry). HasFront (open_text l) c) (sym talks.is_ready.kept_is)
      (subst (λ (x : List ℕ). HasFront (open_text new.serving.journal) x) (sym (talks.is_ready.disk.only c may)) (record { no_shorter = omega arith; each = λ i lt. refl })))

  -- one piece, and then another
  pub talks_behind : (old mid new : Attended D) (before between after xs ys : List ℕ) (stays : Bool) (a b c : Option (List ℕ)) (k m n : ℕ)
      → Talks old before xs mid between true a b k m → Talks mid between ys new after stays b c m n
      → Talks old before (xs ++ ys) new after stays a c k n
  talks_behind old mid new before between after xs ys stays a b c k m n one two = record {
    text = one.text ++ two.text;
    talked = talked_more old mid new before between after xs ys one.text two.text stays one.talked two.talked;
    written = Appends-trans a b c one.text two.text one.written two.written;
    is_ready = two.is_ready;
    grows = begins_on old.serving.kept mid.serving.kept new.serving.kept one.grows two.grows;
    counted = two.counted ∙ one.counted;
    tape_counted = two.tape_counted ∙ one.tape_counted;
  }

  -- the bytes of a piece, one by one
  pub talks_more : (old mid new : Attended D) (before between after piece : List ℕ) (i byte : ℕ) (stays now : Bool) (a b c : Option (List ℕ)) (k m n : ℕ)
      → Talks old before (take i piece) mid between true a b k m → i < length piece → byte ≡ get_or piece i 0
      → Talks mid between (byte ∷ []) new after stays b c m n → stays ≡ now
      → Talks old before (take (i + 1) piece) new after now a c k n
  talks_more old mid new before between after piece i byte stays now a b c k m n so_far in_range here one is =
      let longer : take (i + 1) piece ≡ take i piece ++ byte ∷ [] = take_more piece i 0 in_range ∙ ap (λ (x : ℕ). take i piece ++ x ∷ []) (sym here) in
      subst (λ (l : List ℕ). Talks old before l new after now a c k n) (sym longer)
      (talks_behind old mid new before between after (take i piece) (byte ∷ []) now a b c k m n so_far
      (subst (λ (s : Bool). Talks mid between (byte ∷ []) new after s b c m n) is one))

  -- all of the piece was heard
  pub talks_all : (old new : Attended D) (before after piece : List ℕ) (i : ℕ) (a b : Option (List ℕ)) (m n : ℕ)
      → Talks old before (take i piece) new after true a b m n → length piece ≤ i → Talks old before piece new after true a b m n
  talks_all old new before after piece i a b m n so_far over = subst (λ (l : List ℕ). Talks old before l new after true a b m n) (take_all i piece over) so_far

  -- behind the line with which the desk goes nothing is heard
  pub talks_no_more : (old new : Attended D) (before after xs ys : List ℕ) (a b : Option (List ℕ)) (m n : ℕ)
      → Talks old before xs new after false a b m n → Talks old before (xs ++ ys) new after false a b m n
  talks_no_more old new before after xs ys a b m n went = record {
    text = went.text;
    talked = talked_left old new before after xs ys went.text went.talked;
    written = went.written;
    is_ready = went.is_ready;
    grows = went.grows;
    counted = went.counted;
    tape_counted = went.tape_counted;
  }

  -- the desk went within the piece
  pub talks_left : (old mid new : Attended D) (before between after piece : List ℕ) (i byte : ℕ) (stays : Bool) (a b c : Option (List ℕ)) (k m n : ℕ)
      → Talks old before (take i piece) mid between true a b k m → i < length piece → byte ≡ get_or piece i 0
      → Talks mid between (byte ∷ []) new after stays b c m n → stays ≡ false
      → Talks old before piece new after false a c k n
  talks_left old mid new before between after piece i byte stays a b c k m n so_far in_range here one is =
      subst (λ (l : List ℕ). Talks old before l new after false a c k n) (take-append-drop (i + 1) piece)
      (talks_no_more old new before after (take (i + 1) piece) (drop (i + 1) piece) a c k n
      (talks_more old mid new before between after piece i byte stays false a b c k m n so_far in_range here one is))

  abbrev Has_read : Attended D → List ℕ → Attended D → List ℕ → Bool → Option (List ℕ) → Option (List ℕ) → Option (List ℕ) → Option (List ℕ) → ℕ → ℕ → Type 0
  Has_read = Reads seen leaves unsynced failures

  -- nothing was read yet
  pub reads_none : (old : Attended D) (before : List ℕ) (input out : Option (List ℕ)) (n : ℕ) → IsReady seen leaves unsynced old.serving
      → Has_read old before old before true input input out out n n
  reads_none old before input out n ready = record { bytes = []; consumed = Consumes-nil input; talks = talks_none old before out n ready }

  -- one read behind others
  pub reads_more : (old mid new : Attended D) (before between after : List ℕ) (stays : Bool) (i j k a b c : Option (List ℕ)) (l m n : ℕ)
      → Has_read old before mid between true i j a b l m → Has_read mid between new after stays j k b c m n
      → Has_read old before new after stays i k a c l n
  reads_more old mid new before between after stays i j k a b c l m n one two = record {
    bytes = one.bytes ++ two.bytes;
    consumed = Consumes-trans i j k one.bytes two.bytes one.consumed two.consumed;
    talks = talks_behind old mid new before between after one.bytes two.bytes stays a b c l m n one.talks two.talks;
  }

  at_end : (old new : Attended D) (after bytes : List ℕ) (i j o a b : Option (List ℕ)) (m n : ℕ) (ready : List ℕ)
      → IsReadyLine None old.session (length old.serving.journal) (calls_of old.serving.journal old.session) old.desk.today old.desk.epoch ready
      → Appends o a ready → Consumes i j bytes → IsAtEnd j → Talks old [] bytes new after true a b m n
      → IfSome i (IsTalk old new o b)
  at_end old new after bytes None j o a b m n ready is put took end talks = tt
  at_end old new after bytes (Some xs) None o a b m n ready is put took end talks = absurd took
  at_end old new after bytes (Some xs) (Some ys) o a b m n ready is put took end talks =
      let all : xs ≡ bytes = took ∙ ap (λ (l : List ℕ). bytes ++ l) end ∙ append-nil bytes in
      record {
        ready = ready;
        is_ready = is;
        after = after;
        stays = true;
        told = talks.text;
        talked = subst (λ (l : List ℕ). Talked old [] l new after true talks.text) (sym all) talks.talked;
        written = Appends-trans o a b ready talks.text put talks.written;
      }

  gone : (old new : Attended D) (after bytes : List ℕ) (i j o a b : Option (List ℕ)) (m n : ℕ) (ready : List ℕ)
      → IsReadyLine None old.session (length old.serving.journal) (calls_of old.serving.journal old.session) old.desk.today old.desk.epoch ready
      → Appends o a ready → Consumes i j bytes → Talks old [] bytes new after false a b m n
      → IfSome i (IsTalk old new o b)
  gone old new after bytes None j o a b m n ready is put took talks = tt
  gone old new after bytes (Some xs) None o a b m n ready is put took talks = absurd took
  gone old new after bytes (Some xs) (Some ys) o a b m n ready is put took talks = record {
    ready = ready;
    is_ready = is;
    after = after;
    stays = false;
    told = talks.text;
    talked = subst (λ (l : List ℕ). Talked old [] l new after false talks.text) (sym took) (talked_left old new [] after bytes ys talks.text talks.talked);
    written = Appends-trans o a b ready talks.text put talks.written;
  }

  abbrev Turned : Attended D → List ℕ → Attended D → List ℕ → Bool → Option (List ℕ) → Option (List ℕ) → Option (List ℕ) → Option (List ℕ) → ℕ → ℕ → Type 0
  Turned = Turns seen leaves unsynced failures

  -- one more read, behind which more may come
  pub reads_on : (old mid new : Attended D) (before between after : List ℕ) (more : Bool) (i j k a b c : Option (List ℕ)) (l m n : ℕ)
      → Has_read old before mid between true i j a b l m → Turned mid between new after more j k b c m n → more ≡ true
      → Has_read old before new after true i k a c l n
  reads_on old mid new before between after more i j k a b c l m n so_far turned is =
      let one : Has_read mid between new after true j k b c m n = subst (λ (x : Bool). Turned mid between new after x j k b c m n) is turned in
      reads_more old mid new before between after true i j k a b c l m n so_far one

  -- the last read ends the talk
  pub talk_is : (old mid new : Attended D) (between after none : List ℕ) (more : Bool) (i j k o a b c : Option (List ℕ)) (l m n : ℕ) (ready : List ℕ)
      → IsReadyLine None old.session (length old.serving.journal) (calls_of old.serving.journal old.session) old.desk.today old.desk.epoch ready
      → Appends o a ready → none ≡ [] → Has_read old none mid between true i j a b l m
      → Turned mid between new after more j k b c m n → more ≡ false
      → IfSome i (IsTalk old new o c)
  talk_is old mid new between after none more i j k o a b c l m n ready is put empty so_far turned ends =
      let front : Has_read old [] mid between true i j a b l m = subst (λ (x : List ℕ). Has_read old x mid between true i j a b l m) empty so_far in
      let last : Turned mid between new after false j k b c m n = subst (λ (x : Bool). Turned mid between new after x j k b c m n) ends turned in
      ⊎_elim
      (λ (e : IsAtEnd k × Has_read mid between new after true j k b c m n).
      let all = reads_more old mid new [] between after true i j k a b c l m n front e.1 in
      at_end old new after all.bytes i k o a c l n ready is put all.consumed e.0 all.talks)
      (λ (g : Has_read mid between new after false j k b c m n).
      let all = reads_more old mid new [] between after false i j k a b c l m n front g in
      gone old new after all.bytes i k o a c l n ready is put all.consumed all.talks)
      last

  -- the last read and those ahead of it
  heard_all : (old mid new : Attended D) (between after none : List ℕ) (more : Bool) (i j k a b c : Option (List ℕ)) (l m n : ℕ)
      → Has_read old none mid between true i j a b l m
      → Turned mid between new after more j k b c m n → more ≡ false
      → (stays : Bool) × Has_read old none new after stays i k a c l n
  heard_all old mid new between after none more i j k a b c l m n so_far turned ends =
      let last : Turned mid between new after false j k b c m n = subst (λ (x : Bool). Turned mid between new after x j k b c m n) ends turned in
      ⊎_elim
      (λ (e : IsAtEnd k × Has_read mid between new after true j k b c m n).
      (true, reads_more old mid new none between after true i j k a b c l m n so_far e.1))
      (λ (g : Has_read mid between new after false j k b c m n).
      (false, reads_more old mid new none between after false i j k a b c l m n so_far g))
      last

  -- and nothing of it is lost
  pub grown_behind : (old mid new : Attended D) (between after none : List ℕ) (more : Bool) (i j k a b c : Option (List ℕ)) (l m n : ℕ)
      → Has_read old none mid between true i j a b l m
      → Turned mid between new after more j k b c m n → more ≡ false
      → KeepsFront (open_text old.serving.kept) (leaves new.serving.tape)
  grown_behind old mid new between after none more i j k a b c l m n so_far turned ends =
      let all = heard_all old mid new between after none more i j k a b c l m n so_far turned ends in
      told_behind old new none after all.1.bytes all.0 a c l n all.1.talks

  -- the host is the same, what was kept is at the front of what is kept, and no call of the journal's file failed
  pub behind_all : (old mid new : Attended D) (between after none : List ℕ) (more : Bool) (i j k a b c : Option (List ℕ)) (l m n : ℕ)
      → Has_read old none mid between true i j a b l m
      → Turned mid between new after more j k b c m n → more ≡ false
      → IsSameHost old new × Begins old.serving.kept new.serving.kept × (failures new.serving.tape ≡ failures old.serving.tape)
  behind_all old mid new between after none more i j k a b c l m n so_far turned ends =
      let all = heard_all old mid new between after none more i j k a b c l m n so_far turned ends in (
        talked_same old new none after all.1.bytes all.1.talks.text all.0 all.1.talks.talked,
        all.1.talks.grows,
        all.1.talks.tape_counted,
      )
