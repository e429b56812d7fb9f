-- A feed that is read, piece by piece.
use Rattle.std.proofs.Common.{◌≡◌, ℕ, Bool, true, false, List, [], ◌∷◌, ◌++◌, refl, ap, sym, ◌∙◌, subst, append_assoc, append-nil}
use Rattle.std.specs.Prelude.{IfSome, Option, Some, None}
use Rattle.std.specs.Io.KnownBytes.{Consumes, IsAtEnd}
use Rattle.std.proofs.KnownBytes.{Consumes-nil, Consumes-trans}
use Rattle.desk_answers.specs.Hosts.{IsReady}
use Rattle.desk_feed.specs.Progress.{one_more}
use Rattle.desk_serving.specs.Going.{GoesOn}
use Rattle.desk_serving.proofs.Goes.{goes_from}
use Rattle.desk_stream.specs.Feeds.{Feeding}
use Rattle.desk_stream.specs.declared.hearing.FeedFault.{FeedFault}
use Rattle.desk_stream.specs.declared.hearing.FeedFault.TheVariants.{Strange as Stranger}
use Rattle.desk_stream.specs.declared.hearing.FeedFault.TheVariants as hearings
use Rattle.desk_serving.specs.Streaming.{joined, stopped_by, Breaks, Hears, IsAnswered, IsOfAnswer, IsPiece, IsSameBut, IsStrangeEnd, IsStreamed, Lived, Reads, StopsAt, Streams, Turns}
use Rattle.desk_serving.specs.declared.fault.StreamFault.{StreamFault}
use Rattle.desk_serving.specs.declared.fault.StreamFault.TheVariants.{Input, Strange}
use Rattle.desk_serving.proofs.Breaking.{breaks_heard}
use Rattle.desk_serving.proofs.Hearing.{lived_on}
use Rattle.seat_serving.specs.Served.{Served}

joined_more : (pieces : List (List ℕ)) (piece : List ℕ) → joined (pieces ++ piece ∷ []) ≡ joined pieces ++ piece
joined_more [] piece = append-nil piece
joined_more (p ∷ pieces) piece = ap (λ (l : List ℕ). p ++ l) (joined_more pieces piece) ∙ sym (append_assoc p (joined pieces) piece)

module _ {D : Type 0} where
  pub is_piece : (old mid new : Feeding D) (before piece after : List ℕ) (a b : Option (List ℕ)) → Hears old before piece mid after
      → IsAnswered mid new a b → IsPiece old before piece new after a b
  is_piece old mid new before piece after a b hears answered = record { mid = mid; hears = hears; answered = answered }

  pub none_asked : (mid new : Feeding D) (a b : Option (List ℕ)) → IsAnswered mid new a b → new.pending.asked.items ≡ []
  none_asked mid new a b answered = answered.told.asked_is ∙ answered.booked.none_asked

  streams_more : (old mid new : Feeding D) (before between after : List ℕ) (pieces : List (List ℕ)) (piece : List ℕ) (a b c : Option (List ℕ))
      → Streams old before pieces mid between a b → IsPiece mid between piece new after b c
      → Streams old before (pieces ++ piece ∷ []) new after a c
  streams_more old mid new before between after [] piece a b c so_far one = (
    new,
    after,
    c,
    subst (λ (f : Feeding D). IsPiece f before piece new after a c) so_far.0
        (subst (λ (l : List ℕ). IsPiece mid l piece new after a c) so_far.1
        (subst (λ (o : Option (List ℕ)). IsPiece mid between piece new after o c) so_far.2 one)),
    (refl, refl, refl),
  )
  streams_more old mid new before between after (p ∷ pieces) piece a b c so_far one =
      (so_far.0, so_far.1, so_far.2, so_far.3, streams_more so_far.0 mid new so_far.1 between after pieces piece so_far.2 b c so_far.4 one)

  -- nothing was read yet
  pub reads_none : (old : Feeding D) (before : List ℕ) (input out : Option (List ℕ)) → Reads old before old before input input out out
  reads_none old before input out = record { pieces = []; consumed = Consumes-nil input; streams = (refl, refl, refl) }

  -- a piece more
  pub reads_on : (old mid new : Feeding D) (before between after : List ℕ) (more : Bool) (i j k a b c : Option (List ℕ))
      → Reads old before mid between i j a b → Turns more mid between new after j k b c → more ≡ true → Reads old before new after i k a c
  reads_on old mid new before between after true i j k a b c so_far turned is = record {
    pieces = so_far.pieces ++ turned.piece ∷ [];
    consumed = subst (λ (l : List ℕ). Consumes i k l) (sym (joined_more so_far.pieces turned.piece))
        (Consumes-trans i j k (joined so_far.pieces) turned.piece so_far.consumed turned.consumed);
    streams = streams_more old mid new before between after so_far.pieces turned.piece a b c so_far.streams turned.is_piece;
  }
  reads_on old mid new before between after false i j k a b c so_far turned is = absurd (cc is)

  at_end : (old new : Feeding D) (after : List ℕ) (pieces : List (List ℕ)) (i k a b : Option (List ℕ)) → Consumes i k (joined pieces)
      → IsAtEnd k → Streams old [] pieces new after a b → IfSome i (IsStreamed old new a b)
  at_end old new after pieces None k a b took end streams = tt
  at_end old new after pieces (Some xs) None a b took end streams = absurd took
  at_end old new after pieces (Some xs) (Some ys) a b took end streams = record {
    pieces = pieces;
    all = took ∙ ap (λ (l : List ℕ). joined pieces ++ l) end ∙ append-nil (joined pieces);
    after = after;
    streams = streams;
  }

  -- the end of what is read
  pub streamed : (old mid new : Feeding D) (none between after : List ℕ) (more : Bool) (i j k a b c : Option (List ℕ)) → none ≡ []
      → Reads old none mid between i j a b → Turns more mid between new after j k b c → more ≡ false → IfSome i (IsStreamed old new a c)
  streamed old mid new none between after true i j k a b c empty so_far turned is = absurd (cc is)
  streamed old mid new none between after false i j k a b c empty so_far turned is =
      let all : Consumes i k (joined so_far.pieces) =
      subst (λ (l : List ℕ). Consumes i k l) (append-nil (joined so_far.pieces))
      (Consumes-trans i j k (joined so_far.pieces) [] so_far.consumed turned.consumed) in
      let from : Streams old [] so_far.pieces mid between a b =
      subst (λ (l : List ℕ). Streams old l so_far.pieces mid between a b) empty so_far.streams in
      subst (λ (f : Feeding D). IfSome i (IsStreamed old f a c)) (sym turned.feed_is)
      (subst (λ (o : Option (List ℕ)). IfSome i (IsStreamed old mid a o)) (sym turned.out_is)
      (at_end old mid between so_far.pieces i k a b all turned.at_end from))

  pub takes : (old new : Feeding D) (before piece after : List ℕ) (i j a b : Option (List ℕ)) → Consumes i j piece
      → IsPiece old before piece new after a b → Turns true old before new after i j a b
  takes old new before piece after i j a b took is = record { piece = piece; consumed = took; is_piece = is }

  pub takes_none : (feed : Feeding D) (before : List ℕ) (i j o : Option (List ℕ)) → Consumes i j [] → IsAtEnd j
      → Turns false feed before feed before i j o o
  takes_none feed before i j o took end = record { at_end = end; consumed = took; feed_is = refl; held_is = refl; out_is = refl }

  -- ---- a feed that stops

  pub no_strange : (old new : Feeding D) (b : StreamFault) → IsOfAnswer b → (line number : ℕ) → b ≡ Strange line number
      → IsStrangeEnd old new line number
  no_strange old new b own line number is = absurd (subst IsOfAnswer is own)

  pub no_input : (old new : Feeding D) (line number : ℕ) → Input ≡ Strange line number → IsStrangeEnd old new line number
  no_input old new line number is = absurd (cc is)

  said_of : (new : Feeding D) (fault : FeedFault) (b : StreamFault) (line number : ℕ) → b ≡ stopped_by new fault → b ≡ Strange line number
      → (fault ≡ Stranger) × (line ≡ new.reading.lines) × (number ≡ one_more new.pending.progress.lines)
  said_of new hearings.Memory b line number is other = absurd (cc (sym is ∙ other))
  said_of new hearings.Strange b line number is other =
      let same : Strange new.reading.lines (one_more new.pending.progress.lines) ≡ Strange line number = sym is ∙ other in
      let lines : new.reading.lines ≡ line = cc same in
      let numbers : one_more new.pending.progress.lines ≡ number = cc same in
      (refl, sym lines, sym numbers)

  pub strange_end : (old mid new : Feeding D) (o p : Option (List ℕ)) (fault : FeedFault) (b : StreamFault) → Lived old mid
      → (fault ≡ Stranger → StopsAt mid) → IsAnswered mid new o p → b ≡ stopped_by new fault
      → (line number : ℕ) → b ≡ Strange line number → IsStrangeEnd old new line number
  strange_end old mid new o p fault b lived stops answered stopped line number is =
      let said = said_of new fault b line number stopped is in
      record {
        mid = mid;
        lived = lived;
        stops = stops said.0;
        booked = ap (λ (s : Served D). s.journal) answered.told.serving_is ∙ answered.booked.booked;
        line_is = said.1;
        reading_is = answered.told.reading_is ∙ answered.booked.same.reading_is;
        number_is = said.2;
        progress_is = answered.told.progress_is ∙ answered.booked.progress_is;
      }

  -- behind what was heard ahead of it
  pub strange_behind : (old mid new : Feeding D) (b : StreamFault) → Lived old mid
      → ((line number : ℕ) → b ≡ Strange line number → IsStrangeEnd mid new line number)
      → (line number : ℕ) → b ≡ Strange line number → IsStrangeEnd old new line number
  strange_behind old mid new b lived ends line number is =
      let one = ends line number is in
      record {
        mid = one.mid;
        lived = lived_on old mid one.mid lived one.lived;
        stops = one.stops;
        booked = one.booked;
        line_is = one.line_is;
        reading_is = one.reading_is;
        number_is = one.number_is;
        progress_is = one.progress_is;
      }

  pub ready_heard : (seen : D → Option (List ℕ)) (leaves : D → List ℕ → Type 0) (unsynced : D → ℕ) (old mid : Feeding D)
      → IsReady seen leaves unsynced old.serving → IsSameBut old mid → IsReady seen leaves unsynced mid.serving
  ready_heard seen leaves unsynced old mid ready same = subst (IsReady seen leaves unsynced) (sym same.serving_is) ready

  module _ (seen : D → Option (List ℕ)) (leaves : D → List ℕ → Type 0) (unsynced failures : D → ℕ) where
    pub goes_heard : (old mid new : Feeding D) → IsSameBut old mid → GoesOn seen leaves unsynced failures mid.serving new.serving
        → GoesOn seen leaves unsynced failures old.serving new.serving
    goes_heard old mid new same goes = goes_from seen leaves unsynced failures old.serving mid.serving new.serving goes same.serving_is

    pub breaks_from : (old mid new : Feeding D) (b : StreamFault) → IsSameBut old mid → Breaks seen leaves unsynced failures mid.serving new.serving b
        → Breaks seen leaves unsynced failures old.serving new.serving b
    breaks_from old mid new b same breaks =
        subst (λ (s : Served D). Breaks seen leaves unsynced failures s new.serving b) same.serving_is breaks

    pub breaks_stopped : (old mid new : Feeding D) (fault : FeedFault) (b : StreamFault) → IsSameBut old mid
        → GoesOn seen leaves unsynced failures mid.serving new.serving → b ≡ stopped_by new fault
        → Breaks seen leaves unsynced failures old.serving new.serving b
    breaks_stopped old mid new fault b same goes is =
        breaks_heard seen leaves unsynced failures old.serving new.serving new fault b (goes_heard old mid new same goes) is
