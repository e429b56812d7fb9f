-- Talks that are broken off: what was written of them.
use Rattle.std.proofs.Common.{◌≡◌, inl, inr, ℕ, ◌+◌, ◌<◌, Bool, true, List, [], ◌∷◌, ◌++◌, length, get_or, take, drop, refl, ap, sym, ◌∙◌, subst, arith, append_assoc, append-nil, take-append-drop}
use Rattle.std.specs.Prelude.{Option, Some, None, IfErr, IfSome, OnErr, Result, Ok, Err}
use Rattle.std.specs.Io.KnownBytes.{Appends, Consumes}
use Rattle.std.proofs.KnownBytes.{Appends-nil, Appends-trans}
use Rattle.std.proofs.lemmas.Bool.Decides.{nat_tests}
use Rattle.std.proofs.lemmas.List.{take_all, take_more}
use Rattle.airline_base.specs.Lines.{is_line_feed}
use Rattle.airline_base.specs.Noting.{noted, TookFront}
use Rattle.desk_answers.specs.FaultLines.{memory_line}
use Rattle.desk_answers.specs.Hosts.{Attended, IsReady}
use Rattle.desk_answers.specs.Ready.{IsReadyLine}
use Rattle.desk_answers.specs.Saying.{IsCounted}
use Rattle.seat_disk.specs.Growing.{HasFront, KeepsFront}
use Rattle.seat_journal.specs.declared.entry.Entry.{Entry}
use Rattle.seat_recovery.specs.OpenText.{open_text}
use Rattle.seat_rules.specs.Journal.{calls_of}
use Rattle.seat_rules.specs.Prefixes.{Begins}
use Rattle.desk_talk.specs.declared.talk_fault.TalkFault.{TalkFault}
use Rattle.desk_talk.specs.declared.talk_fault.TalkFault.TheVariants.{Input, Journal, Memory as NoMemory, Output}
use Rattle.desk_talk.specs.Talks.{held, no_journal_line, BreaksAt, BreaksBehind, BreaksOff, EndsLine, IsAtLine, IsBroken, IsEnd, IsSafe, IsSameHost, IsTold, IsWritten, Reads, TalksOn}
use Rattle.desk_talk.proofs.Talking.{talked_more}

-- all of a text is its first bytes
pub took_all : (old new : Option (List ℕ)) (text : List ℕ) → Appends old new text → TookFront old new text
took_all old new text put = record {
  count = length text;
  appended = subst (λ (t : List ℕ). Appends old new t) (sym (take_all (length text) text (omega arith))) put;
}

-- a line that was added is written whole
pub written_whole : {W : Type 0} (failures : W → ℕ) (contents : W → Option (List ℕ)) (line : List ℕ) (old new : W)
    → Appends (contents old) (contents new) line → IsWritten failures contents line old new
written_whole failures contents line old new put = inr put

-- and else the writer failed
pub not_written : {W : Type 0} (failures : W → ℕ) (contents : W → Option (List ℕ)) (line : List ℕ) (old new : W)
    → failures new ≡ noted (failures old) → IsWritten failures contents line old new
not_written failures contents line old new failed = inl failed

-- ---- a piece

begins_more : (front bytes more all : List ℕ) → Begins front bytes → all ≡ bytes ++ more → Begins front all
begins_more front bytes more all b is = record {
  rest = b.rest ++ more;
  is = is ∙ ap (λ (l : List ℕ). l ++ more) b.is ∙ append_assoc front b.rest more;
}

begins_behind : (before front bytes all : List ℕ) → Begins front bytes → all ≡ before ++ bytes → Begins (before ++ front) all
begins_behind before front bytes all b is = record {
  rest = b.rest;
  is = is ∙ ap (λ (l : List ℕ). before ++ l) b.is ∙ sym (append_assoc before front b.rest);
}

-- the same line behind more bytes, and ahead of more
ends_more : (before bytes heard between line more all : List ℕ) → EndsLine bytes heard between line → all ≡ before ++ (bytes ++ more)
    → EndsLine all (before ++ heard) between line
ends_more before bytes heard between line more all e is = record {
  byte = e.byte;
  is_end = e.is_end;
  begins = subst (λ (l : List ℕ). Begins l all) (sym (append_assoc before heard (e.byte ∷ [])))
      (begins_behind before (heard ++ e.byte ∷ []) (bytes ++ more) all
      (begins_more (heard ++ e.byte ∷ []) bytes more (bytes ++ more) e.begins refl) is);
  is = e.is;
}

at_more : (before bytes heard between line more all : List ℕ) (fault : TalkFault) → IsAtLine fault bytes heard between line
    → all ≡ before ++ (bytes ++ more) → IsAtLine fault all (before ++ heard) between line
at_more before bytes heard between line more all Input here is =
    begins_behind before heard (bytes ++ more) all (begins_more heard bytes more (bytes ++ more) here refl) is
at_more before bytes heard between line more all NoMemory here is = ends_more before bytes heard between line more all here is
at_more before bytes heard between line more all Output here is = ends_more before bytes heard between line more all here is
at_more before bytes heard between line more all Journal here is = ends_more before bytes heard between line more all here is

ends_at : (piece between line : List ℕ) (i byte : ℕ) → i < length piece → byte ≡ get_or piece i 0 → IsEnd byte
    → line ≡ held (between ++ byte ∷ []) → EndsLine piece (take i piece) between line
ends_at piece between line i byte lt here end is =
    let longer : take (i + 1) piece ≡ take i piece ++ byte ∷ [] = take_more piece i 0 lt ∙ ap (λ (x : ℕ). take i piece ++ x ∷ []) (sym here) in
    record {
      byte = byte;
      is_end = end;
      begins = record { rest = drop (i + 1) piece; is = sym (take-append-drop (i + 1) piece) ∙ ap (λ (l : List ℕ). l ++ drop (i + 1) piece) longer };
      is = is;
    }

-- a line that ends with a piece's next byte
ends_line : (piece between line : List ℕ) (i byte : ℕ) (fault : TalkFault) → i < length piece → byte ≡ get_or piece i 0 → IsEnd byte
    → line ≡ held (between ++ byte ∷ []) → IsAtLine fault piece (take i piece) between line
ends_line piece between line i byte Input lt here end is = record { rest = drop i piece; is = sym (take-append-drop i piece) }
ends_line piece between line i byte NoMemory lt here end is = ends_at piece between line i byte lt here end is
ends_line piece between line i byte Output lt here end is = ends_at piece between line i byte lt here end is
ends_line piece between line i byte Journal lt here end is = ends_at piece between line i byte lt here end is

-- ---- lines that are on the disk

module _ {D : Type 0} (seen : D → Option (List ℕ)) (leaves : D → List ℕ → Type 0) (unsynced : D → ℕ) where
  -- all lines of a host that is ready are in what a crash leaves
  pub safe_ready : (host : Attended D) → IsReady seen leaves unsynced host.serving → IsSafe host (leaves host.serving.tape)
  safe_ready host ready = record {
    kept_is = ready.kept_is;
    front = λ c may. subst (λ (l : List Entry). HasFront (open_text l) c) (sym ready.kept_is)
        (subst (λ (x : List ℕ). HasFront (open_text host.serving.journal) x) (sym (ready.disk.only c may)) (record { no_shorter = omega arith; each = λ i lt. refl }));
  }

  -- and those of one that was
  pub safe_before : (host : Attended D) (now : List ℕ → Type 0) → IsReady seen leaves unsynced host.serving
      → KeepsFront (open_text host.serving.kept) now → IsSafe host now
  safe_before host now ready keeps = record { kept_is = ready.kept_is; front = keeps }

  -- ---- a line

  -- nothing was written
  pub breaks_silent : (old : Attended D) (line : List ℕ) (now : List ℕ → Type 0) (out : Option (List ℕ)) → IsReady seen leaves unsynced old.serving
      → KeepsFront (open_text old.serving.kept) now → BreaksAt old line NoMemory now out out
  breaks_silent old line now out ready keeps = record { safe = safe_before old now ready keeps; last = []; is_last = refl; written = Appends-nil out }

  pub breaks_journal : (old : Attended D) (line : List ℕ) (fault : TalkFault) (now : List ℕ → Type 0) (a b : Option (List ℕ)) → fault ≡ Journal
      → IsReady seen leaves unsynced old.serving → KeepsFront (open_text old.serving.kept) now
      → TookFront a b no_journal_line → BreaksAt old line fault now a b
  breaks_journal old line fault now a b is ready keeps took = subst (λ (f : TalkFault). BreaksAt old line f now a b) (sym is) (record {
    safe = safe_before old now ready keeps;
    last = take took.count no_journal_line;
    is_last = record { count = took.count; is = refl };
    written = took.appended;
  })

  pub breaks_told : (old new : Attended D) (line text : List ℕ) (stays : Bool) (a b : Option (List ℕ)) → IsReady seen leaves unsynced old.serving
      → KeepsFront (open_text old.serving.kept) (leaves new.serving.tape) → IsReady seen leaves unsynced new.serving
      → IsTold old new line stays text → TookFront a b text → BreaksAt old line Output (leaves new.serving.tape) a b
  breaks_told old new line text stays a b ready keeps now told took = record {
    safe = safe_before old (leaves new.serving.tape) ready keeps;
    last = take took.count text;
    is_last = record { new = new; stays = stays; text = text; told = told; cut = record { count = took.count; is = refl }; safe = safe_ready new now };
    written = took.appended;
  }

  pub breaks_wanting : (old new : Attended D) (line text : List ℕ) (a b : Option (List ℕ)) (r : Result Bool TalkFault) (Q : Type 0)
      → IsReady seen leaves unsynced old.serving → KeepsFront (open_text old.serving.kept) (leaves new.serving.tape)
      → IsReady seen leaves unsynced new.serving
      → IfErr r (λ (f : TalkFault). (f ≡ Output) × Q) → OnErr r (TookFront a b text) → text ≡ memory_line new.session new.desk.lines
      → IsSameHost old new → IsCounted old.desk new.desk line → new.serving.journal ≡ old.serving.journal
      → IfErr r (λ (f : TalkFault). BreaksAt old line f (leaves new.serving.tape) a b)
  breaks_wanting old new line text a b (Ok stays) Q ready keeps now output took is host counts same = tt
  breaks_wanting old new line text a b (Err f) Q ready keeps now output took is host counts same =
      subst (λ (x : TalkFault). BreaksAt old line x (leaves new.serving.tape) a b) (sym output.0)
      (breaks_told old new line text true a b ready keeps now (inr (record {
        same_host = host;
        counts = counts;
        same = same;
        stays_on = refl;
        says = is ∙ ap (λ (s : ℕ). memory_line s new.desk.lines) host.session_is;
      })) took)

module _ {D : Type 0} where
  pub breaks_held : (old : Attended D) (line whole : List ℕ) (byte : ℕ) (fault : TalkFault) (now : List ℕ → Type 0) (a b : Option (List ℕ)) → byte ≡ 10
      → line ≡ whole → BreaksAt old line fault now a b → IsEnd byte × BreaksAt old whole fault now a b
  breaks_held old line whole byte fault now a b ends is breaks =
      let end : is_line_feed byte ≡ true = grind (arith, nat_tests) in
      (end, subst (λ (l : List ℕ). BreaksAt old l fault now a b) is breaks)

  read_so : (old : Attended D) (before bytes : List ℕ) (fault : TalkFault) (now : List ℕ → Type 0) (i j a b : Option (List ℕ)) → Consumes i j bytes
      → BreaksOff old before fault now a b bytes → IfSome i (BreaksOff old before fault now a b)
  read_so old before bytes fault now None j a b took breaks = tt
  read_so old before bytes fault now (Some xs) None a b took breaks = absurd took
  read_so old before bytes fault now (Some xs) (Some ys) a b took breaks = record {
    heard = breaks.heard;
    mid = breaks.mid;
    between = breaks.between;
    told = breaks.told;
    talked = breaks.talked;
    safe = breaks.safe;
    line = breaks.line;
    at_line = at_more [] bytes breaks.heard breaks.between breaks.line ys xs fault breaks.at_line took;
    last = breaks.last;
    is_last = breaks.is_last;
    written = breaks.written;
  }

  pub breaks_read : (old : Attended D) (before bytes : List ℕ) (r : Result Bool TalkFault) (now : List ℕ → Type 0) (i j a b : Option (List ℕ)) → Consumes i j bytes
      → IfErr r (λ (f : TalkFault). BreaksOff old before f now a b bytes) → IfErr r (λ (f : TalkFault). IfSome i (BreaksOff old before f now a b))
  breaks_read old before bytes (Ok more) now i j a b took breaks = tt
  breaks_read old before bytes (Err fault) now i j a b took breaks = read_so old before bytes fault now i j a b took breaks

module _ {D : Type 0} (seen : D → Option (List ℕ)) (leaves : D → List ℕ → Type 0) (unsynced failures : D → ℕ) where
  pub breaks_unread : (old : Attended D) (before : List ℕ) (input out : Option (List ℕ)) → IsReady seen leaves unsynced old.serving
      → IfSome input (BreaksOff old before Input (leaves old.serving.tape) out out)
  breaks_unread old before None out ready = tt
  breaks_unread old before (Some xs) out ready = record {
    heard = [];
    mid = old;
    between = before;
    told = [];
    talked = (refl, refl, refl, refl);
    safe = safe_ready seen leaves unsynced old ready;
    line = [];
    at_line = record { rest = xs; is = refl };
    last = [];
    is_last = refl;
    written = Appends-nil out;
  }

  -- so many bytes of a piece were heard
  pub breaks_piece : (old mid : Attended D) (before between piece : List ℕ) (i byte : ℕ) (fault : TalkFault) (now : List ℕ → Type 0) (a b c : Option (List ℕ)) (m n : ℕ)
      → TalksOn seen leaves unsynced failures old before (take i piece) mid between true a b m n → i < length piece → byte ≡ get_or piece i 0
      → IsEnd byte × BreaksAt mid (held (between ++ byte ∷ [])) fault now b c
      → BreaksOff old before fault now a c piece
  breaks_piece old mid before between piece i byte fault now a b c m n talks lt here breaks = record {
    heard = take i piece;
    mid = mid;
    between = between;
    told = talks.text;
    talked = talks.talked;
    safe = breaks.1.safe;
    line = held (between ++ byte ∷ []);
    at_line = ends_line piece between (held (between ++ byte ∷ [])) i byte fault lt here breaks.0 refl;
    last = breaks.1.last;
    is_last = breaks.1.is_last;
    written = Appends-trans a b c talks.text breaks.1.last talks.written breaks.1.written;
  }

  -- ---- a talk

  pub half_ready : (old : Attended D) (fault : TalkFault) (ready : List ℕ) (input a b : Option (List ℕ)) → fault ≡ Output
      → IsReady seen leaves unsynced old.serving
      → IsReadyLine None old.session (length old.serving.journal) (calls_of old.serving.journal old.session) old.desk.today old.desk.epoch ready
      → TookFront a b ready → IfSome input (IsBroken old fault (leaves old.serving.tape) a b)
  half_ready old fault ready None a b output host is took = tt
  half_ready old fault ready (Some xs) a b output host is took =
      inl (record { output = output; safe = safe_ready seen leaves unsynced old host; ready = ready; is_ready = is; begun = took })

  behind : (old mid : Attended D) (between bytes xs ys ready : List ℕ) (fault : TalkFault) (now : List ℕ → Type 0) (o a b c : Option (List ℕ)) (m n : ℕ)
      → IsReadyLine None old.session (length old.serving.journal) (calls_of old.serving.journal old.session) old.desk.today old.desk.epoch ready
      → Appends o a ready → xs ≡ bytes ++ ys
      → TalksOn seen leaves unsynced failures old [] bytes mid between true a b m n → BreaksOff mid between fault now b c ys
      → BreaksBehind old fault now o c xs
  behind old mid between bytes xs ys ready fault now o a b c m n is put took talks inner = record {
    ready = ready;
    is_ready = is;
    out_mid = a;
    put = put;
    breaks = record {
      heard = bytes ++ inner.heard;
      mid = inner.mid;
      between = inner.between;
      told = talks.text ++ inner.told;
      talked = talked_more old mid inner.mid [] between inner.between bytes inner.heard talks.text inner.told true talks.talked inner.talked;
      safe = inner.safe;
      line = inner.line;
      at_line = at_more bytes ys inner.heard inner.between inner.line [] xs fault inner.at_line (took ∙ ap (λ (l : List ℕ). bytes ++ l) (sym (append-nil ys)));
      last = inner.last;
      is_last = inner.is_last;
      written = subst (λ (t : List ℕ). Appends a c t) (sym (append_assoc talks.text inner.told inner.last))
          (Appends-trans a b c talks.text (inner.told ++ inner.last) talks.written inner.written);
    };
  }

  broken_behind : (old mid : Attended D) (between bytes ready : List ℕ) (fault : TalkFault) (now : List ℕ → Type 0) (i j o a b c : Option (List ℕ)) (m n : ℕ)
      → IsReadyLine None old.session (length old.serving.journal) (calls_of old.serving.journal old.session) old.desk.today old.desk.epoch ready
      → Appends o a ready → Consumes i j bytes
      → TalksOn seen leaves unsynced failures old [] bytes mid between true a b m n → IfSome j (BreaksOff mid between fault now b c)
      → IfSome i (IsBroken old fault now o c)
  broken_behind old mid between bytes ready fault now None j o a b c m n is put took talks inner = tt
  broken_behind old mid between bytes ready fault now (Some xs) None o a b c m n is put took talks inner = absurd took
  broken_behind old mid between bytes ready fault now (Some xs) (Some ys) o a b c m n is put took talks inner =
      inr (behind old mid between bytes xs ys ready fault now o a b c m n is put took talks inner)

  -- behind what was read so far
  pub talk_broken : (old mid : Attended D) (between none ready : List ℕ) (fault : TalkFault) (now : List ℕ → Type 0) (i j o a b c : Option (List ℕ)) (m n : ℕ)
      → IsReadyLine None old.session (length old.serving.journal) (calls_of old.serving.journal old.session) old.desk.today old.desk.epoch ready
      → Appends o a ready → none ≡ []
      → Reads seen leaves unsynced failures old none mid between true i j a b m n → IfSome j (BreaksOff mid between fault now b c)
      → IfSome i (IsBroken old fault now o c)
  talk_broken old mid between none ready fault now i j o a b c m n is put empty so_far inner =
      let front : Reads seen leaves unsynced failures old [] mid between true i j a b m n =
      subst (λ (x : List ℕ). Reads seen leaves unsynced failures old x mid between true i j a b m n) empty so_far in
      broken_behind old mid between front.bytes ready fault now i j o a b c m n is put front.consumed front.talks inner
